-- `write_parts::decimals::put_to_4` meets its contract, by the number of digits. Assumes nothing.
use Prim.Native.Nat.{◌≤◌, ◌<◌}
use mathlib.Core.Path.{sym, ap, ◌∙◌}
use native.Mathlib.Omega.{arith}
use lib.ListN.{length-set}
use lib.Seq.{sets}
use Rattle.write_parts.proofs.Digits.{length_one, decimal_one, length_whole, decimal_whole, first_digit_stored}
use Rattle.write_parts.proofs.decimals.put_to_4.Goals as goal

pub bounds-out-at : goal.bounds-out-at
bounds-out-at c = omega (arith, c.requires, length_one c.args.n (omega arith))

pub overflow_add-result : goal.overflow_add-result
overflow_add-result c = omega (arith, c.requires, length_one c.args.n (omega arith))

pub returns-in-0-to-9 : goal.returns-in-0-to-9
returns-in-0-to-9 c =
    let a = c.args in
    let h : a.n < 10 = omega arith in
    record { place = omega (arith, length_one a.n h); stored = ap (sets a.out.now a.at) (sym (decimal_one a.n h)) }

pub put_two-requires : goal.put_two-requires
put_two-requires c = omega (arith, c.requires, length_whole 1 c.args.n (omega arith) (omega arith))

pub returns-in-10-to-99 : goal.returns-in-10-to-99
returns-in-10-to-99 c =
    let a = c.args in
    let p = c.put_two in
    let h : 10 ≤ a.n = omega arith in
    let l : a.n < 100 = omega arith in
    record { place = omega (arith, p.ensures.place, length_whole 1 a.n h l); stored = p.ensures.stored ∙ ap (sets a.out.now a.at) (sym (decimal_whole 1 a.n h l)) }

pub bounds-out-at-in-100-to-999 : goal.bounds-out-at-in-100-to-999
bounds-out-at-in-100-to-999 c = omega (arith, c.requires, length_whole 2 c.args.n (omega arith) (omega arith))

pub overflow_add-at : goal.overflow_add-at
overflow_add-at c = omega (arith, c.requires, length_whole 2 c.args.n (omega arith) (omega arith))

pub put_two-requires-in-100-to-999 : goal.put_two-requires-in-100-to-999
put_two-requires-in-100-to-999 c = simp length-set (omega (arith, c.requires, length_whole 2 c.args.n (omega arith) (omega arith)))

pub shape_of-out-in-100-to-999 : goal.shape_of-out-in-100-to-999
shape_of-out-in-100-to-999 c = simp length-set at c.put_two-in-100-to-999.auto.out

pub returns-in-100-to-999 : goal.returns-in-100-to-999
returns-in-100-to-999 c =
    let a = c.args in
    let p = c.put_two-in-100-to-999 in
    let h : 100 ≤ a.n = omega arith in
    let l : a.n < 1000 = omega arith in
    record { place = omega (arith, p.ensures.place, length_whole 2 a.n h l); stored = p.ensures.stored ∙ first_digit_stored a.out.now a.at a.n h l }

pub put_four-requires : goal.put_four-requires
put_four-requires c = omega (arith, c.requires, length_whole 3 c.args.n (omega arith) (omega (arith, c.requires.0)))

pub returns-in_default : goal.returns-in_default
returns-in_default c =
    let a = c.args in
    let p = c.put_four in
    let h : 1000 ≤ a.n = omega arith in
    let l = c.requires.0 in
    record { place = omega (arith, p.ensures.place, length_whole 3 a.n h l); stored = p.ensures.stored ∙ ap (sets a.out.now a.at) (sym (decimal_whole 3 a.n h l)) }
