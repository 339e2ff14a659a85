-- `read_files::files_in` meets its contract.
use mathlib.Core.Path.{sym, ◌∙◌}
use Rattle.read_files.proofs.WordLaws.{list_long}
use Rattle.read_files.proofs.FileLaws.{list_wrong, list_right, pattern_none, pattern_some, name_none, name_some}
use Rattle.read_files.proofs.files_in.Goals as goal

pub read_cover-requires : goal.read_cover-requires
read_cover-requires c = list_long c.args.t.now (sym c.is_list.ensures ∙ c.if-is_list.true)

pub returns-in_err-cover : goal.returns-in_err-cover
returns-in_err-cover c = c.from_residual.ensures ∙ list_wrong c.args.t.now (sym c.is_list.ensures ∙ c.if-is_list.true) c.in_err-cover.ensures

pub returns-then-is_list : goal.returns-then-is_list
returns-then-is_list c = list_right c.args.t.now (sym c.is_list.ensures ∙ c.if-is_list.true) c.in_ok-cover.ensures

pub returns-in_err-pattern : goal.returns-in_err-pattern
returns-in_err-pattern c =
    let no_list = sym c.is_list.ensures ∙ c.if-is_list.false in
    c.from_residual-in_err-pattern.ensures ∙ pattern_none c.args.t.now no_list (sym c.has_percent.ensures ∙ c.if-has_percent.true) c.in_err-pattern.ensures

pub returns-then-has_percent : goal.returns-then-has_percent
returns-then-has_percent c =
    let no_list = sym c.is_list.ensures ∙ c.if-is_list.false in
    pattern_some c.args.t.now no_list (sym c.has_percent.ensures ∙ c.if-has_percent.true) c.in_ok-pattern.ensures

pub returns-then-is_empty : goal.returns-then-is_empty
returns-then-is_empty c =
    let no_list = sym c.is_list.ensures ∙ c.if-is_list.false in
    name_none c.args.t.now no_list (sym c.has_percent.ensures ∙ c.if-has_percent.false) (sym c.is_empty.ensures ∙ c.if-is_empty.true)

pub returns-else-is_empty : goal.returns-else-is_empty
returns-else-is_empty c =
    let no_list = sym c.is_list.ensures ∙ c.if-is_list.false in
    name_some c.args.t.now no_list (sym c.has_percent.ensures ∙ c.if-has_percent.false) (sym c.is_empty.ensures ∙ c.if-is_empty.false)
