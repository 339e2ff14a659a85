-- The key's last line by the look-up of its value, or the place after line 1.
use Rattle.std.proofs.Common.{◌+◌, ◌-◌, refl, subst, arith}
use Rattle.read_header.proofs.Accepted.{some_byte}
use Rattle.set_key.specs.Edits.{Placed}
use Rattle.set_key.proofs.Placing.{absent_placed, found_safe, found_placed}
use Rattle.set_key.proofs.place.find_edit.Goals as goal

pub after_first-requires-clause-some : goal.after_first-requires-clause-some
after_first-requires-clause-some c = some_byte _ c.requires

pub returns-in-None : goal.returns-in-None
returns-in-None c es gs ls e =
    let a = c.args in
    subst (λ m. Placed a.pair.now.key.now es m c.after_first.result) c.length-m.ensures
    (absent_placed a.file.now a.pair.now.key.now _ c.in-None.ensures refl c.length-m.result c.after_first.result c.after_first.ensures es gs ls e)

pub overflow_sub-from : goal.overflow_sub-from
overflow_sub-from c =
    let a = c.args in
    let m = c.escaped_length in
    (found_safe a.file.now a.pair.now.key.now _ c.in-Some.ensures refl m.result m.ensures c.requires).0

pub overflow_add-result : goal.overflow_add-result
overflow_add-result c =
    let a = c.args in
    let m = c.escaped_length in
    omega (arith, (found_safe a.file.now a.pair.now.key.now _ c.in-Some.ensures refl m.result m.ensures c.requires).1)

pub overflow_add-result-in-Some : goal.overflow_add-result-in-Some
overflow_add-result-in-Some c =
    let a = c.args in
    let m = c.escaped_length in
    omega (arith, c.length-m.ensures, (found_safe a.file.now a.pair.now.key.now _ c.in-Some.ensures refl m.result m.ensures c.requires).1)

pub returns-in-Some : goal.returns-in-Some
returns-in-Some c es gs ls e =
    let a = c.args in
    let m = c.escaped_length in
    let value = c.in-Some.value in
    let from = value.start - (m.result + 2) in
    subst (λ n. Placed a.pair.now.key.now es n (record { from = from; to = value.start + value.length; front = from + c.length-m.result; more = 0 })) c.length-m.ensures
    (found_placed a.file.now a.pair.now.key.now _ c.in-Some.ensures refl m.result m.ensures c.length-m.result es gs ls e)
