-- `judge::on_field` meets its contract: the look-up answers with a field below their number, or with none.
use Rattle.std.proofs.Common.{sym, ◌∙◌}
use Rattle.format.specs.Header.{on_field}
use Rattle.read_text.proofs.Rows.{row_is, row_unknown}
use Rattle.read_fields.proofs.States.{field_below}
use Rattle.read_fields.proofs.Judging.{all_plain}
use Rattle.read_fields.proofs.judge.on_field.Goals as goal

pub on_known-requires : goal.on_known-requires
on_known-requires c = field_below _ _ (row_is _ c.in-Some.f (sym c.in-Some.is ∙ c.field_named.ensures))

pub returns-in-None : goal.returns-in-None
unfolding on_field
returns-in-None c gs h l =
    rw (all_plain _ c.in_ok-plain_first.ensures, row_unknown _ (sym c.in-None.is ∙ c.field_named.ensures))
