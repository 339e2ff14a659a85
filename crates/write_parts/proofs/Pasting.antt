-- Laws of std's copies and bytes of numbers in the words of the contracts.
-- Assumes nothing.
use Rattle.std.proofs.Common.{◌≡◌, ℕ, zero, suc, ◌+◌, ◌-◌, ◌*◌, ◌/◌, ◌%◌, ◌^◌, ◌≤◌, List, [], ◌∷◌, ◌++◌, length, take, drop, refl, ap, sym, ◌∙◌, arith, length-take-le, take_all}
use lib.Seq.{sets, sets-eq, paste}
use borrow.Rule.Slice.PartMut.{put_mid}
use Rattle.std.proofs.lemmas.Slice.{put_mid-paste}
use Rattle.std.specs.Int.{w64, byte_at, bytes_low_first, bytes_high_first, to_le_bytes, to_be_bytes}
use Rattle.format.specs.Samples.{to_bytes}

paste_sets : {A : Type 0} (d s : List A) (at n : ℕ) → at + n ≤ length d → n ≤ length s → paste d at s n ≡ sets d at (take n s)
paste_sets d s at n h l =
    let k : length (take n s) ≡ n = length-take-le n s l in
    ap (λ m. take at d ++ take n s ++ drop (at + m) d) (sym k) ∙ sym (sets-eq (take n s) d at (omega (arith, k)))

-- the part of d from `at` on, as long as s, replaced by s
pub put_sets : {A : Type 0} (d xs s : List A) (at n : ℕ) → at + n ≤ length d → n ≡ length s → xs ≡ s → put_mid at (at + n - at) d xs ≡ sets d at s
put_sets d xs s at n h l e =
    put_mid-paste at (at + n - at) d xs s n e (omega arith) l ∙ paste_sets d s at n h (omega (arith, l)) ∙ ap (sets d at) (take_all n s (omega (arith, l)))

-- the same by where the part ends
pub put_sets_to : {A : Type 0} (d xs s : List A) (at to : ℕ) → at ≤ to → to ≤ length d → to - at ≡ length s → xs ≡ s → put_mid at (to - at) d xs ≡ sets d at s
put_sets_to d xs s at to h l n e =
    let q : at + (to - at) ≡ to = omega (arith, h) in
    ap (λ k. put_mid at (k - at) d xs) (sym q) ∙ put_sets d xs s at (to - at) (omega (arith, q, l)) n e
