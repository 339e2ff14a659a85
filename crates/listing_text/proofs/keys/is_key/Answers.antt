-- `listing_text::keys::is_key` meets its contract.
use native.Mathlib.Omega.{arith}
use mathlib.Core.Path.{sym, ap, ◌∙◌}
use lib.Seq.{length-take-le}
use Rattle.read_text.proofs.Places.{kind_told}
use Rattle.read_header.proofs.Accepted.{told_no_pair}
use Rattle.listing_text.specs.Shown.{is_key}
use Rattle.listing_text.proofs.KeyLines.{same_is, pair_key}
use Rattle.listing_text.proofs.keys.is_key.Goals as goal

pub slice_bounds-eq-end : goal.slice_bounds-eq-end
slice_bounds-eq-end c = sym (length-take-le _ _ (omega (arith, (kind_told c.args.t.now c.in-Pair.ensures).1)))

pub returns-in-Pair : goal.returns-in-Pair
returns-in-Pair c =
    let a = c.args in
    c.eq.ensures ∙ same_is a.key.now _ ∙ pair_key a.t.now _ (kind_told c.args.t.now c.in-Pair.ensures) a.key.now

pub returns-in_default : goal.returns-in_default
returns-in_default c =
    let a = c.args in
    sym (ap (is_key a.key.now) (told_no_pair a.t.now c.kind_of.result c.kind_of.ensures c.in_default.not-Pair))
