-- `short::is_token` meets its contract: its two tests are those of the claim.
use mathlib.Core.Path.{sym, ◌∙◌}
use borrow.Author.Tests.{ltb-true}
use lib.Dec.{ltb}
use mir.Val.{bool_byte}
use Rattle.format.proofs.Bytes.{and_left, and_right}
use Rattle.data_text.proofs.short.is_token.Goals as goal

pub returns : goal.returns
returns c = λ e.
    let a = c.args in
    let g = ltb (bool_byte c.is_sign.result) a.n in (
      rw (sym c.is_sign.ensures) (ltb-true _ _ (and_left g c.is_blank.result e)),
      sym c.is_blank.ensures ∙ and_right g c.is_blank.result e,
    )
