-- `values::spans_of` meets its contract: the places of the strings of the descriptor that is found. Assumes nothing.
use native.Mathlib.Omega.{arith}
use mathlib.Core.Path.{refl, sym, ap, subst, ◌∙◌}
use Rattle.format.specs.Answers.{place_found}
use Rattle.read_records.specs.Values.{LookedUp}
use Rattle.read_records.proofs.ValueLaws.{found_within, found_small, spans_absent, spans_there, asked_few}
use Rattle.read_records.proofs.values.spans_of.Goals as goal

pub returns-in_default : goal.returns-in_default
returns-in_default c f p = spans_absent c.requires.asked f (place_found c.args.place) p (ap (λ o. (place_found o).found) c.in_default.is)

pub overflow_add-to : goal.overflow_add-to
overflow_add-to c =
    let r = subst (λ o. LookedUp c.args.file.now c.args.axes (place_found o)) c.in-Some.is c.requires in
    omega (arith, found_within r.asked r.field _ r.is refl)

pub slice_bounds-strings_in-end : goal.slice_bounds-strings_in-end
slice_bounds-strings_in-end c =
    let r = subst (λ o. LookedUp c.args.file.now c.args.axes (place_found o)) c.in-Some.is c.requires in
    found_within r.asked r.field _ r.is refl

pub overflow_cast-from : goal.overflow_cast-from
overflow_cast-from c =
    let r = subst (λ o. LookedUp c.args.file.now c.args.axes (place_found o)) c.in-Some.is c.requires in
    omega (arith, (found_small r.asked r.field _ r.is refl).0)

pub strings_in-requires : goal.strings_in-requires
strings_in-requires c =
    let r = subst (λ o. LookedUp c.args.file.now c.args.axes (place_found o)) c.in-Some.is c.requires in
    (asked_few r.asked, (found_small r.asked r.field _ r.is refl).1)

pub returns : goal.returns
returns c f p =
    rw (c.unwrap_or.ensures, c.strings_in.ensures) (spans_there c.requires.asked f _ (sym (ap place_found c.in-Some.is) ∙ p) refl)
