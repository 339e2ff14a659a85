-- `read_lookup::keys::pair_in` meets its contract: each return is one law of what the line gives the key.
use native.Mathlib.Omega.{arith}
use lib.Seq.{length-take-le}
use mathlib.Core.Path.{sym, ◌∙◌}
use mathlib.Core.Bool.{true, false}
use Rattle.format.specs.Refusals.{fine}
use Rattle.format.specs.Calls.{no_place}
use Rattle.read_text.proofs.Places.{kind_told}
use Rattle.read_header.proofs.Accepted.{told_no_pair}
use Rattle.read_lookup.proofs.Finding.{pair_fits, key_other, key_pair}
use Rattle.read_lookup.proofs.keys.pair_in.Goals as goal

pub slice_bounds-means-end : goal.slice_bounds-means-end
slice_bounds-means-end c = sym (length-take-le _ _ (omega (arith, pair_fits c.args.t.now c.in-Pair.i c.in-Pair.ensures)))

pub returns-then-means : goal.returns-then-means
returns-then-means c i w =
    let a = c.args in
    c.placed.ensures ∙ key_pair a.key.now a.at (no_place fine) w _ (kind_told a.t.now c.in-Pair.ensures) true (sym c.means.ensures ∙ c.if-means.true)

pub returns-else-means : goal.returns-else-means
returns-else-means c i w =
    let a = c.args in
    key_pair a.key.now a.at (no_place fine) w _ (kind_told a.t.now c.in-Pair.ensures) false (sym c.means.ensures ∙ c.if-means.false)

pub returns-in_default : goal.returns-in_default
returns-in_default c i w =
    let a = c.args in
    key_other a.key.now a.at (no_place fine) w (told_no_pair a.t.now _ c.kind_of.ensures c.in_default.not-Pair)
