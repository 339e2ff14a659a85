-- Laws of the shares: the numbers of a reading, and the call by them.
-- Assumes nothing.
use Prim.Native.Nat.{ℕ, ◌*◌, ◌/◌, ◌%◌, ◌≤◌, ◌<◌}
use native.Mathlib.Nat.{mod-lt, div-le_self, mul-div_cancel, mul-le-mul_right}
use native.Mathlib.Omega.{arith}
use mathlib.Core.Path.{◌≡◌, sym, ap, ◌∙◌, subst}
use mathlib.Core.List.{List}
use borrow.Author.Tests.{le-leb, lt-leb}
use Rattle.std.specs.Prelude.{Ok, Err}
use Rattle.format.specs.declared.Reading.{Reading}
use Rattle.format.specs.declared.reason.Refused.{Refused}
use Rattle.format.specs.Answers.{reading_answered, count_answered}
use Rattle.format.specs.declared.ShareAnswer.{ShareAnswer}
use Rattle.format.specs.Limits.{max_extent}
use Rattle.format.specs.Refusals.{bad_coordinates, refusal, fine}
use Rattle.format.specs.Descriptors.{type_of, sizes_of, sample_bytes, product, extent_of, file_count_of}
use Rattle.format.specs.FileNames.{share, share_file, share_byte}
use Rattle.format.specs.Calls.{reading_of, read_header_call}
use Rattle.format.specs.Files.{file_count_in, file_count_call, no_share, sample_file_in, sample_file_call}
use Rattle.format.proofs.Named.{sample_some, files_some, share_some}
use Rattle.format.proofs.Rules.{accepted_keeps}
use Rattle.read_header.proofs.Accepted.{Read, was_read, was_not_read}
use Rattle.data_files.specs.Asked.{Shared, share_in, share_answered}

-- ---- plain numbers

-- the byte of a sample is within the limit
pub byte_few : (samples files bytes s : ℕ) → Shared samples files bytes → s % share samples files * bytes ≤ max_extent
byte_few samples files bytes s w =
    let l : s % share samples files < share samples files = mod-lt s w.some_sample in
    let d : share samples files ≤ samples = div-le_self samples files in
    omega (arith, w.few, mul-le-mul_right {m = s % share samples files} {n = samples} bytes (omega arith))

-- a sample that there is, and one that there is not
module _ (samples files bytes s : ℕ) where
  pub share_none : samples ≤ s → no_share (refusal bad_coordinates) ≡ share_in samples files bytes s
  share_none h = rw (le-leb samples s h)

  pub share_placed : s < samples → (file byte : ℕ) → file ≡ share_file samples files s → byte ≡ share_byte samples files bytes s
      → ◌≡◌ {A = ShareAnswer} (record { refusal = fine; file = file; byte = byte }) (share_in samples files bytes s)
  share_placed h file byte p q = rw (lt-leb samples s h, p, q)

-- what holds of three numbers holds of the same
by_numbers : (P : ℕ → ℕ → ℕ → Type 0) {x y z i j k : ℕ} → x ≡ i → y ≡ j → z ≡ k → P i j k → P x y z
by_numbers P p q r h = rw (p, q, r) h

-- ---- the calls

module _ (file : List ℕ) where
  -- the number of files
  pub not_counted : (r : Refused) → reading_answered (Err r) ≡ read_header_call file → count_answered (Err r) ≡ file_count_call file
  not_counted r e = sym (ap file_count_in (was_not_read file r e))

  pub counted : {x : Reading} → reading_answered (Ok x) ≡ read_header_call file → count_answered (Ok x.files) ≡ file_count_call file
  unfolding reading_of
  counted {x} e =
      let w = was_read file e in
      let q : x.files ≡ file_count_of w.fields = ap (λ (x : Reading). x.files) w.reading_is in
      ap (λ (n : ℕ). count_answered (Ok n)) q ∙ sym (ap file_count_in w.is)

  module _ (s : ℕ) where
    -- the reading is refused
    pub share_refused : (r : Refused) → reading_answered (Err r) ≡ read_header_call file → share_answered (Err r) ≡ sample_file_call file s
    share_refused r e = sym (ap (sample_file_in s) (was_not_read file r e))

    -- or it is accepted: so many bytes has a sample
    module _ {x : Reading} (e : reading_answered (Ok x) ≡ read_header_call file) (bytes : ℕ) (b : bytes ≡ sample_bytes x.sampletype) where
      w : Read file x
      w = was_read file e

      bytes_are : bytes ≡ sample_bytes (type_of w.fields)
      unfolding reading_of
      bytes_are = b ∙ ap (λ (x : Reading). sample_bytes x.sampletype) w.reading_is

      files_are : x.files ≡ file_count_of w.fields
      unfolding reading_of
      files_are = ap (λ (x : Reading). x.files) w.reading_is

      samples_are : x.extent / bytes ≡ product (sizes_of w.fields)
      unfolding reading_of
      samples_are =
          ap (λ (x : Reading). x.extent / bytes) w.reading_is ∙ ap (λ (k : ℕ). extent_of w.fields / k) bytes_are
          ∙ mul-div_cancel (product (sizes_of w.fields)) (sample_some (type_of w.fields))

      pub some_byte : 1 ≤ bytes
      some_byte = subst (λ (k : ℕ). 1 ≤ k) (sym bytes_are) (sample_some (type_of w.fields))

      pub shared : Shared (x.extent / bytes) x.files bytes
      shared =
          by_numbers Shared samples_are files_are bytes_are (record {
            some_file = files_some file w.is;
            some_sample = share_some file w.is;
            few = (accepted_keeps file w.is).extent_bytes;
          })

      pub share_is : share_in (x.extent / bytes) x.files bytes s ≡ sample_file_call file s
      share_is = by_numbers (λ (x y z : ℕ). share_in x y z s ≡ sample_file_call file s) samples_are files_are bytes_are (sym (ap (sample_file_in s) w.is))
