-- `values::codes_of` meets its contract: what is said by the words of the descriptor that is found. Assumes nothing.
use native.Mathlib.Omega.{arith}
use mathlib.Core.Path.{refl, sym, ap, subst, ◌∙◌}
use Rattle.format.specs.Answers.{place_found}
use Rattle.read_records.specs.Values.{LookedUp}
use Rattle.read_records.proofs.ValueLaws.{found_within, codes_absent, codes_there, asked_few}
use Rattle.read_records.proofs.values.codes_of.Goals as goal

pub returns-in_default : goal.returns-in_default
returns-in_default c f p = codes_absent c.requires.asked f (place_found c.args.place) p c.args.kinds (ap (λ o. (place_found o).found) c.in_default.is)

pub overflow_add-to : goal.overflow_add-to
overflow_add-to c =
    let r = subst (λ o. LookedUp c.args.file.now c.args.axes (place_found o)) c.in-Some.is c.requires in
    omega (arith, found_within r.asked r.field _ r.is refl)

pub slice_bounds-codes_in-end : goal.slice_bounds-codes_in-end
slice_bounds-codes_in-end c =
    let r = subst (λ o. LookedUp c.args.file.now c.args.axes (place_found o)) c.in-Some.is c.requires in
    found_within r.asked r.field _ r.is refl

pub codes_in-requires : goal.codes_in-requires
codes_in-requires c = asked_few c.requires.asked

pub returns : goal.returns
returns c f p =
    rw (c.unwrap_or.ensures, c.codes_in.ensures) (codes_there c.requires.asked f _ (sym (ap place_found c.in-Some.is) ∙ p) c.args.kinds refl)
