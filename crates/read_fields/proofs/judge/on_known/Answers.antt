-- `judge::on_known` meets its contract: each answer is one law over the tests before it.
use Rattle.std.proofs.Common.{sym, ap, ◌∙◌, arith}
use mathlib.Core.List.{List}
use Prim.Native.Nat.{ℕ}
use lib.Dec.{ltb}
use Rattle.format.specs.Fields.{dimension}
use Rattle.format.specs.Descriptors.{since}
use Rattle.read_fields.proofs.States.{number_of_lem}
use Rattle.read_fields.proofs.Judging.{field_old, field_again, field_early, field_here, take_known}
use Rattle.read_fields.proofs.judge.on_known.Goals as goal

pub returns-then-is_too_new : goal.returns-then-is_too_new
returns-then-is_too_new c gs h l =
    let a = c.args in
    let v = a.state.now.version in
    let old = sym (ap (λ (t : List ℕ). ltb v (since a.f t)) c.descriptor_of-t.ensures) ∙ sym c.is_too_new.ensures ∙ c.if-is_too_new.true in
    rw (field_old v gs a.f a.rest.now old)

pub is_repeated-requires : goal.is_repeated-requires
is_repeated-requires c = c.requires

pub returns-then-is_repeated : goal.returns-then-is_repeated
returns-then-is_repeated c gs h l =
    let a = c.args in
    let v = a.state.now.version in
    let n = sym (ap (λ (t : List ℕ). ltb v (since a.f t)) c.descriptor_of-t.ensures) ∙ sym c.is_too_new.ensures ∙ c.if-is_too_new.false in
    rw (field_again v gs a.f a.rest.now n (sym (c.is_repeated.ensures gs h.marks_are) ∙ c.if-is_repeated.true))

pub returns-then-not-is_in_order : goal.returns-then-not-is_in_order
returns-then-not-is_in_order c gs h l =
    let a = c.args in
    let v = a.state.now.version in
    let n = sym (ap (λ (t : List ℕ). ltb v (since a.f t)) c.descriptor_of-t.ensures) ∙ sym c.is_too_new.ensures ∙ c.if-is_too_new.false in
    let new = sym (c.is_repeated.ensures gs h.marks_are) ∙ c.if-is_repeated.false in
    rw (field_early v gs a.f a.rest.now n new (sym (c.is_in_order.ensures gs h.marks_are) ∙ c.if-not-is_in_order.true))

pub returns : goal.returns
returns c gs h l =
    let a = c.args in
    let s = a.state.now in
    let v = s.version in
    let n = sym (ap (λ (t : List ℕ). ltb v (since a.f t)) c.descriptor_of-t.ensures) ∙ sym c.is_too_new.ensures ∙ c.if-is_too_new.false in
    let new = sym (c.is_repeated.ensures gs h.marks_are) ∙ c.if-is_repeated.false in
    let order = sym (c.is_in_order.ensures gs h.marks_are) ∙ c.if-not-is_in_order.false in
    let axes = number_of_lem gs h.numbers_are dimension (omega arith) in
    take_known v gs a.f a.rest.now s axes (c.space_for-space.ensures gs h) c.descriptor_of-t.ensures l h.axes h.spaces (field_here v gs a.f a.rest.now n new order) c.take_field.ensures
