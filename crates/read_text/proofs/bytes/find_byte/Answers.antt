-- `bytes::find_byte` meets its contract.
use Rattle.std.proofs.Common.{rules, arith, ◌≡◌, ◌∙◌, ℕ, true, false, drop, length-drop, sym}
use borrow.Author.Tests.{tests}
use Rattle.std.proofs.lemmas.Iterator.{YieldsList-from_slice, IsFirst-from_position, index_from_first}
use lib.Dec.{eqb}
use Rattle.read_text.specs.Places.{before}
use Rattle.read_text.proofs.Places.{before_none, before_hit, before_miss, before_le, suffix_is}
use Rattle.read_text.proofs.bytes.find_byte.Goals as goal

pub loop-i-preserved : goal.loop-i-preserved
loop-i-preserved c = (search rules, omega (arith, c.hit.ensures c.if-hit.false))

pub returns : goal.returns
returns c =
    let s = c.args.s.now in
    let b = c.args.b in
    let i = c.loop-i.i in
    let p = IsFirst-from_position _ _ c.position.result (λ x. eqb x b ≡ true) (λ x. eqb x b ≡ false) c.position.ensures.ran
    (YieldsList-from_slice (drop i s) (rw (c.iter.ensures.rest, suffix_is s i))) (λ x q k. search (rules, tests)) (λ x q k. search (rules, tests)) in
    let e = index_from_first (before b) (λ x. eqb x b ≡ true) (λ x. eqb x b ≡ false) (before_none b) (before_hit b) (before_miss b) (drop i s) c.position.result p in
    let f : c.unwrap_or.result ≡ before b (drop i s) = c.unwrap_or.ensures ∙ rw (suffix_is s i) (sym e) in
    (sym (rw f c.loop-i.invariant.1), omega (arith, before_le b (drop i s), length-drop {A = ℕ}))
