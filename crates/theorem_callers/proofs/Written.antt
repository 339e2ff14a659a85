-- What craneholt_write wrote is read back, as specs/Callers.antt says.
-- Assumes nothing.
use Rattle.std.specs.Prelude.{if◌then◌else◌}
use mathlib.Core.Path.{◌≡◌, refl, sym, ap, subst, ◌∙◌}
use Prim.Native.Nat.{ℕ, ◌*◌, ◌/◌, ◌≤◌}
use native.Mathlib.Omega.{arith}
use native.Mathlib.Nat.{mul-div-le}
use mathlib.Core.Bool.{Bool, true, false}
use mathlib.Core.List.{List}
use lib.Dec.{eqb}
use lib.IntN.{ℤ}
use lib.ListN.{length, take, drop}
use lib.Seq.{take-append_seam, drop-append_seam, take-length, length-take-le}
use borrow.Author.Tests.{eqb-true}
use Rattle.format.specs.declared.DataAnswer.{DataAnswer}
use Rattle.format.specs.declared.CountAnswer.{CountAnswer}
use Rattle.format.specs.declared.WriteAnswer.{WriteAnswer}
use Rattle.format.specs.Bytes.{over}
use Rattle.format.specs.Refusals.{fine, refusal}
use Rattle.format.specs.Descriptors.{sample_bytes}
use Rattle.format.specs.Writer.{data_bytes, file_bytes, write_refusal, header_bytes}
use Rattle.format.specs.Calls.{read_header_call, data_place_call, write_answer}
use Rattle.format.specs.Boundary.{word_bytes, numbers_of, samples_lent, lent_samples}
use Rattle.format.specs.EntryPoints.{samples_entry}
use Rattle.format.proofs.Samples.{AllBytes}
use Rattle.format.proofs.Boundary.{length_samples, samples_over_lem, words_of_lent}
use Rattle.theorem_roundtrip.specs.RoundTrip.{data_back, ReadsBack}
use Rattle.theorem_roundtrip.proofs.Accepted.{accepted_is}
use Rattle.theorem_roundtrip.proofs.ReadBack.{round_trips}
use Rattle.theorem_callers.specs.Callers.{whole_samples, count_of_samples, FileReadBack, WritesAreRead}

-- the answer of a write by its refusal's number, and where that is 0
write_number : (n : ℕ) (file out : List ℕ) → (write_answer n file out).0.refusal.number ≡ n
write_number n file out = go (eqb n 0) refl
  where
    go : (b : Bool) → eqb n 0 ≡ b
        → (if◌then◌else◌ {A = WriteAnswer × List ℕ} b (record { refusal = fine; length = length file }, over file out) (record { refusal = refusal n; length = 0 }, out)).0.refusal.number ≡ n
    go true e = sym (eqb-true n 0 e)
    go false e = refl

write_done : (n : ℕ) (file out : List ℕ) → n ≡ 0 → ◌≡◌ {A = WriteAnswer × List ℕ} (write_answer n file out) (record { refusal = fine; length = length file }, over file out)
write_done n file out e = rw e

module _ (version : ℕ) (sizes : List ℕ) (t e endian : ℕ) (samples out : List ℕ) (bytes : AllBytes samples) where
  abbrev ns : List ℕ
  ns = numbers_of word_bytes sizes

  abbrev zs : List ℤ
  zs = samples_lent samples

  abbrev file : List ℕ
  file = file_bytes version ns t e endian zs

  -- the file is at the front of the buffer
  written : take (length file) (over file out) ≡ file
  written = take-append_seam file (drop (length file) out)

  -- the data is in the file
  part_is : take (length (data_bytes e (sample_bytes t) endian zs)) (drop (length (header_bytes version ns t e endian)) file) ≡ data_bytes e (sample_bytes t) endian zs
  unfolding file_bytes
  part_is = rw (drop-append_seam (header_bytes version ns t e endian) (data_bytes e (sample_bytes t) endian zs)) (take-length (data_bytes e (sample_bytes t) endian zs))

  -- the samples that come back, in bytes
  samples_are : ReadsBack version ns t e endian zs → (second list : List ℕ) → AllBytes list → length (whole_samples samples) ≤ length list
      → samples_entry file second list ≡ (count_of_samples samples, over (whole_samples samples) list)
  samples_are rb second list p h =
      let n : length (whole_samples samples) ≡ 8 * (length samples / 8) = length-take-le (8 * (length samples / 8)) samples (mul-div-le (length samples) 8) in
      let room : length zs ≤ length list / 8 = omega (arith, length_samples samples) in
      let q : lent_samples (over zs (samples_lent list)) list ≡ over (whole_samples samples) list =
      samples_over_lem list p zs room ∙ ap (λ (u : List ℕ). over u list) (words_of_lent samples bytes) in
      ap (λ (a : CountAnswer × List ℤ). (a.0, lent_samples a.1 list)) (rb.samples second (samples_lent list) (omega (arith, length_samples list)))
      ∙ (λ i. (record { refusal = fine; count = length_samples samples i }, q i))

  read_back : write_refusal version ns t e endian zs (length out) ≡ 0 → FileReadBack version sizes t e endian samples out (length file) (over file out)
  read_back h =
      let rb = round_trips version ns t e endian zs (length out) h in
      let place : (second : List ℕ) → data_place_call (take (length file) (over file out)) second ≡ data_back version ns t e endian zs =
      λ second. ap (λ (f : List ℕ). data_place_call f second) written ∙ rb.place second in
      record {
        fits = (accepted_is version ns t e endian zs (length out) h).1;
        past = drop-append_seam file (drop (length file) out);
        reading = ap read_header_call written ∙ rb.reading;
        place = place;
        part = λ second.
            ap (λ (d : DataAnswer). take d.length (drop d.start (take (length file) (over file out)))) (place second)
            ∙ ap (λ (f : List ℕ). take (length (data_bytes e (sample_bytes t) endian zs)) (drop (length (header_bytes version ns t e endian)) f)) written
            ∙ part_is;
        back = λ second list p k. ap (λ (f : List ℕ). samples_entry f second list) written ∙ samples_are rb second list p k;
      }

pub writes : WritesAreRead
writes version sizes t e endian samples out p h =
    let z = numbers_of word_bytes sizes in
    let n : ℕ = write_refusal version z t e endian (samples_lent samples) (length out) in
    let f : List ℕ = file_bytes version z t e endian (samples_lent samples) in
    let none : n ≡ 0 = sym (write_number n f out) ∙ h in
    subst (λ (a : WriteAnswer × List ℕ). FileReadBack version sizes t e endian samples out a.0.length a.1) (sym (write_done n f out none))
    (read_back version sizes t e endian samples out p none)
