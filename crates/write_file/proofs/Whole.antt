-- Laws of the whole call: the refusals in two parts, and the file that is stored in two parts.
-- Assumes nothing.
use Rattle.std.specs.Prelude.{if◌then◌else◌}
use mathlib.Core.Path.{◌≡◌, refl, sym, ap, ◌∙◌}
use mathlib.Core.Bool.{Bool, true, false, not, ◌&&◌, and-false}
use mathlib.Core.List.{List, ◌++◌}
use Prim.Native.Nat.{ℕ, ◌+◌, ◌≤◌, ◌<◌, min}
use native.Mathlib.Nat.{zero-add}
use native.Mathlib.Omega.{arith}
use lib.Dec.{eqb, leb, ltb}
use lib.IntN.{ℤ}
use lib.ListN.{length, take, drop, length-append, length-take}
use lib.Seq.{sets, sets-eq, take_all, take_at}
use borrow.Author.Tests.{ne_eqb, ltb-false, lt-leb, leb-true, leb-false}
use Rattle.format.specs.Bytes.{between, is_in, over}
use Rattle.format.specs.Limits.{max_file, max_extent, max_version}
use Rattle.format.specs.Refusals.{file_too_long, bad_descriptor, extent_too_large, float_samples, bad_sample, lent_too_short, wrong_count}
use Rattle.format.specs.Descriptors.{sample_bytes, number_kind, is_floating, product, extent}
use Rattle.format.specs.Writer.{data_bytes, file_bytes, all_in_type, writable, write_refusal, header_bytes}
use Rattle.format.specs.Calls.{write_call, write_answer}
use Rattle.format.proofs.Stores.{sets_then}
use Rattle.format.specs.Codes.{type_code, encoding_code, endian_code}
use Rattle.format.specs.declared.reason.Reason.{Reason}
use Rattle.format.specs.Reasons.{reason_number}
use Rattle.write_checks.specs.declared.asked.Array.{Array}
use Rattle.write_checks.specs.declared.asked.Asked.{Asked}
use Rattle.write_checks.specs.Checked.{on_asked, on_array, IsOf}
use Rattle.write_checks.specs.Refused.{early_refusal, late_refusal}
use Rattle.write_checks.proofs.Refuse.{early_descriptor, on_same}
use Rattle.write_file.specs.Stored.{answer_of}
use Rattle.write_file.proofs.Reasons.{reason_some}

-- ---- the refusals

module _ (version : ℕ) (sizes : List ℕ) (t e endian : ℕ) (zs : List ℤ) where
  abbrev file : List ℕ
  file = file_bytes version sizes t e endian zs

  -- the late ones follow the early ones
  parts : (room : ℕ) → write_refusal version sizes t e endian zs room
      ≡ (if eqb (early_refusal version sizes t e endian zs) 0 then late_refusal (length file) room else early_refusal version sizes t e endian zs)
  unfolding write_refusal early_refusal
  parts room =
      go (not (writable version sizes t e endian)) (ltb max_extent (extent sizes t)) (is_floating (number_kind t))
      (not (eqb (length zs) (product sizes))) (not (all_in_type (number_kind t) (sample_bytes t) zs)) (late_refusal (length file) room)
    where
      go : (a b c d f : Bool) (l : ℕ) → (if a then bad_descriptor else if b then extent_too_large else if c then float_samples else if d then wrong_count else if f then bad_sample else l)
          ≡ (if eqb (if a then bad_descriptor else if b then extent_too_large else if c then float_samples else if d then wrong_count else if f then bad_sample else 0) 0 then l else if a then bad_descriptor else if b then extent_too_large else if c then float_samples else if d then wrong_count else if f then bad_sample else 0)
      go true b c d f l = refl
      go false true c d f l = refl
      go false false true d f l = refl
      go false false false true f l = refl
      go false false false false true l = refl
      go false false false false false l = refl

  module _ (out : List ℕ) where
    answered : (n : ℕ) → write_refusal version sizes t e endian zs (length out) ≡ n → write_call version sizes t e endian zs out ≡ write_answer n file out
    answered n q = ap (λ (k : ℕ). write_answer k file out) q

    kept : (n : ℕ) → (n ≡ 0 → ⊥) → write_answer n file out ≡ (answer_of n 0, out)
    kept n h = rw (ne_eqb n 0 h)

    module _ (k : ℕ) (ek : k ≡ early_refusal version sizes t e endian zs) where
      -- a call refused early
      pub early_call : (k ≡ 0 → ⊥) → write_call version sizes t e endian zs out ≡ (answer_of k 0, out)
      early_call h = answered k (parts (length out) ∙ rw (sym ek, ne_eqb k 0 h)) ∙ kept k h

      -- a call that is not: the header has `start` bytes, a sample w, and n is what the length of the file is refused with
      module _ (zk : k ≡ 0) (start w : ℕ) (es : start ≡ length (header_bytes version sizes t e endian)) (ew : w ≡ sample_bytes t) (n : ℕ)
          (en : n ≡ late_refusal (start + length (data_bytes e w endian zs)) (length out)) where
        abbrev total : ℕ
        total = start + length (data_bytes e w endian zs)

        long : total ≡ length (file_bytes version sizes t e endian zs)
        unfolding file_bytes
        long = rw (es, ew) (sym (length-append (header_bytes version sizes t e endian) (data_bytes e (sample_bytes t) endian zs)))

        late : write_refusal version sizes t e endian zs (length out) ≡ n
        late = parts (length out) ∙ rw (sym ek, zk, sym long) (sym en)

        -- it is refused late
        pub late_call : (n ≡ 0 → ⊥) → write_call version sizes t e endian zs out ≡ (answer_of n 0, out)
        late_call h = answered n late ∙ kept n h

        module _ (zn : n ≡ 0) where
          -- the file fits
          pub fits : total ≤ length out
          fits = go (ltb max_file total) (ltb (length out) total) refl (sym zn ∙ en)
            where
              go : (a b : Bool) → ltb (length out) total ≡ b → ◌≡◌ {A = ℕ} 0 (if a then file_too_long else if b then lent_too_short else 0) → total ≤ length out
              go true b k r = absurd (omega arith)
              go false true k r = absurd (omega arith)
              go false false k r = ltb-false (length out) total k

          -- the header and the data after it are the file
          stored : sets (sets out 0 (header_bytes version sizes t e endian)) start (data_bytes e w endian zs) ≡ over file out
          unfolding file_bytes
          stored =
              let h : 0 + length file ≤ length out = omega (arith, fits, long) in
              sets_then out (header_bytes version sizes t e endian) (data_bytes e w endian zs) 0 start (es ∙ sym (zero-add (length (header_bytes version sizes t e endian))))
              ∙ ap (λ (j : ℕ). sets out 0 (header_bytes version sizes t e endian ++ data_bytes e j endian zs)) ew
              ∙ sets-eq file out 0 h
              ∙ ap (λ (j : ℕ). file ++ drop j out) (zero-add (length file))

          -- it is not refused: d is the buffer with the header, d' with the data too
          pub full_call : (front d d' : List ℕ) (m : ℕ) → front ≡ header_bytes version sizes t e endian → d ≡ sets out 0 front → d' ≡ sets d start (data_bytes e w endian zs) → m ≡ total
              → (answer_of 0 m, d') ≡ write_call version sizes t e endian zs out
          full_call front d d' m ef ed ed' em =
              let s : d' ≡ over file out = ed' ∙ ap (λ (x : List ℕ). sets x start (data_bytes e w endian zs)) (ed ∙ ap (sets out 0) ef) ∙ stored in
              let l : m ≡ length file = em ∙ long in
              rw (s, l) (sym (answered 0 (late ∙ zn)))

-- ---- the call by the array that comes of what is asked for

-- a call that is refused before the file's length is known
pub asked_refused : (asked : Asked) (zs : List ℤ) (out : List ℕ) (reason : Reason) → reason_number reason ≡ on_asked early_refusal asked zs → (answer_of (reason_number reason) 0, out) ≡ on_asked write_call asked zs out
asked_refused a zs out reason q = sym (early_call a.version a.sizes.now a.sampletype a.encoding a.endian zs out (reason_number reason) q (reason_some reason))

module _ (asked : Asked) (array : Array) (same : IsOf asked array) (zs : List ℤ) (out : List ℕ) where
  abbrev t : ℕ
  t = type_code array.coding.sample_type

  abbrev e : ℕ
  e = encoding_code array.coding.encoding

  abbrev endian : ℕ
  endian = endian_code array.coding.endian

  -- the data of its samples
  abbrev run : List ℕ
  run = data_bytes e (sample_bytes t) endian zs

  asked_is : on_array write_call array zs out ≡ on_asked write_call asked zs out
  asked_is = ap (λ f. f zs out) (on_same write_call asked array same)

  module _ (fine : 0 ≡ on_asked early_refusal asked zs) (start : ℕ) (es : start ≡ length (on_array header_bytes array)) where
    fine_array : 0 ≡ on_array early_refusal array zs
    fine_array = fine ∙ sym (ap (λ f. f zs) (on_same early_refusal asked array same))

    -- a call whose file is refused by its length
    pub file_refused : (reason : Reason) → reason_number reason ≡ late_refusal (start + length run) (length out) → (answer_of (reason_number reason) 0, out) ≡ on_asked write_call asked zs out
    file_refused reason q = sym (late_call array.version array.sizes.now t e endian zs out 0 fine_array refl start (sample_bytes t) es refl (reason_number reason) q (reason_some reason)) ∙ asked_is

    module _ (short : 0 ≡ late_refusal (start + length run) (length out)) where
      pub file_fits : start + length run ≤ length out
      file_fits = fits array.version array.sizes.now t e endian zs out 0 fine_array refl start (sample_bytes t) es refl 0 short refl

      -- a call that is not refused: d is the buffer with the header, d' with the data too
      pub file_stored : (front d d' : List ℕ) (m : ℕ) → front ≡ on_array header_bytes array → d ≡ sets out 0 front → d' ≡ sets d start run → m ≡ start + length run
          → (answer_of 0 m, d') ≡ on_asked write_call asked zs out
      file_stored front d d' m ef ed ed' em = full_call array.version array.sizes.now t e endian zs out 0 fine_array refl start (sample_bytes t) es refl 0 short refl front d d' m ef ed ed' em ∙ asked_is

-- ---- sizes that are lent as bytes: 17 of them are enough to refuse more than 16

pub not_writable : (version : ℕ) (sizes : List ℕ) (t e endian : ℕ) → 16 < length sizes → writable version sizes t e endian ≡ false
unfolding writable
not_writable version sizes t e endian h =
    go (between 1 max_version version) (ltb t 10) (ltb e 3) (ltb endian 2) (leb 1 (length sizes)) (leb (length sizes) 16) (lt-leb (length sizes) 16 h)
  where
    go : (a b c d f g : Bool) → g ≡ false → (a && (b && (c && (d && ((f && g) && not (is_in 0 sizes)))))) ≡ false
    go a b c d f g q = rw (q, and-false f, and-false d, and-false c, and-false b, and-false a)

module _ (version : ℕ) (t e endian : ℕ) (zs : List ℤ) (out : List ℕ) where
  too_many : (sizes : List ℕ) → 16 < length sizes → write_call version sizes t e endian zs out ≡ (answer_of 11 0, out)
  too_many sizes h = early_call version sizes t e endian zs out bad_descriptor (sym (early_descriptor version sizes t e endian zs (not_writable version sizes t e endian h))) (λ q. absurd (omega arith))

  pub first_sizes : (sizes : List ℕ) (n : ℕ) → n ≡ min (length sizes) 17 → write_call version (take n sizes) t e endian zs out ≡ write_call version sizes t e endian zs out
  first_sizes sizes n q = go (leb (length sizes) 17) refl
    where
      go : (b : Bool) → leb (length sizes) 17 ≡ b → write_call version (take n sizes) t e endian zs out ≡ write_call version sizes t e endian zs out
      go true h = ap (λ (l : List ℕ). write_call version l t e endian zs out) (take_all n sizes (omega (arith, leb-true (length sizes) 17 h)))
      go false h =
          let l : 17 < length sizes = leb-false (length sizes) 17 h in
          too_many (take n sizes) (omega (arith, length-take n sizes)) ∙ sym (too_many sizes (omega arith))

-- ---- fronts

-- what stands at the front of a list where numbers were put
pub put_front : (x l run : List ℕ) (n : ℕ) → x ≡ over run l → length run ≡ n → take n x ≡ run
put_front x l run n e q = ap (take n) e ∙ take_at run (drop (length run) l) n q
