-- `write_parts::bytes::put_word` meets its contract. Assumes nothing.
use Rattle.std.proofs.Common.{ℕ, List, ◌≡◌, ◌+◌, ◌-◌, take, drop, reverse, replicate, length, arith, sym, ap, ◌∙◌, refl, length-take-le, length-drop}
use Rattle.std.proofs.lemmas.List.{length-replicate}
use Rattle.std.proofs.lemmas.List.Edits.{sets}
use borrow.Author.Tests.{eq-eqb, ne_eqb}
use Rattle.format.specs.Samples.{to_bytes}
use Rattle.format.proofs.Samples.{length_to_bytes}
use Rattle.format.proofs.Stores.{sets_then}
use Rattle.write_parts.proofs.Pasting.{put_sets_to}
use Rattle.write_parts.proofs.Words.{low_bytes_take, high_bytes_part, low_wide, high_wide}
use Rattle.write_parts.proofs.bytes.put_word.Goals as goal

pub returns-then-endian-eq-BIG-clause-stored : goal.returns-then-endian-eq-BIG-clause-stored
returns-then-endian-eq-BIG-clause-stored c =
    let a = c.args in
    let d = a.out.now in
    let n = c.min-n.result in
    let zeros : List ℕ = replicate (a.w - n) 0 in
    let from = a.at + a.w - n in
    let m : length (take (from - a.at) (drop a.at d)) ≡ a.w - n = length-take-le _ _ (omega (arith, length-drop a.at d, c.requires, c.min-n.ensures)) ∙ omega (arith, c.min-n.ensures) in
    let f = put_sets_to d _ zeros a.at from (omega (arith, c.min-n.ensures)) (omega (arith, c.requires)) (omega (arith, c.min-n.ensures, length-replicate {A = ℕ} (a.w - n) 0)) (c.fill.ensures.after (λ y e. e) ∙ ap (λ k. replicate k 0) m) in
    let s = ap (λ l. take (8 - (8 - n)) (drop (8 - n) l)) c.to_be_bytes.ensures ∙ high_bytes_part n a.x (omega (arith, c.min-n.ensures)) in
    rw (eq-eqb _ _ c.if-endian-eq-BIG.true)
    (c.put_bytes.ensures.stored ∙ ap (sets _ from) s ∙ ap (λ l. sets l from (reverse (to_bytes n a.x))) f
    ∙ sets_then d zeros (reverse (to_bytes n a.x)) a.at from (omega (arith, c.min-n.ensures, length-replicate {A = ℕ} (a.w - n) 0))
    ∙ ap (sets d a.at) (sym (high_wide a.w n a.x c.min-n.ensures c.ranges.x.fits)))

pub returns-else-endian-eq-BIG-clause-stored : goal.returns-else-endian-eq-BIG-clause-stored
returns-else-endian-eq-BIG-clause-stored c =
    let a = c.args in
    let d = c.put_bytes-to.new.out in
    let n = c.min-n.result in
    let zeros : List ℕ = replicate (a.w - n) 0 in
    let to = c.put_bytes-to.result in
    let s = ap (take n) c.to_le_bytes.ensures ∙ low_bytes_take n a.x (omega (arith, c.min-n.ensures)) in
    let l : to ≡ a.at + n = omega (arith, c.put_bytes-to.ensures.place, ap length s, length_to_bytes n a.x) in
    let m : length (take (a.at + a.w - to) (drop to d)) ≡ a.w - n = length-take-le _ _ (omega (arith, length-drop to d, c.requires, c.min-n.ensures, l, c.put_bytes-to.auto.out)) ∙ omega (arith, c.min-n.ensures, l) in
    let f = put_sets_to d _ zeros to (a.at + a.w) (omega (arith, c.min-n.ensures, l)) (omega (arith, c.requires, c.put_bytes-to.auto.out)) (omega (arith, c.min-n.ensures, l, length-replicate {A = ℕ} (a.w - n) 0)) (c.fill-else-endian-eq-BIG.ensures.after (λ y e. e) ∙ ap (λ k. replicate k 0) m) in
    rw (ne_eqb _ _ c.if-endian-eq-BIG.false)
    (f ∙ ap (λ k. sets k to zeros) (c.put_bytes-to.ensures.stored ∙ ap (sets a.out.now a.at) s)
    ∙ sets_then a.out.now (to_bytes n a.x) zeros a.at to (omega (arith, l, length_to_bytes n a.x))
    ∙ ap (sets a.out.now a.at) (sym (low_wide a.w n a.x c.min-n.ensures c.ranges.x.fits)))
