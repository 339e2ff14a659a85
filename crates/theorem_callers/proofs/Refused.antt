-- A refused call leaves every lent byte as it was, as specs/Callers.antt says.
-- Assumes nothing.
use Rattle.std.specs.Prelude.{if◌then◌else◌}
use mathlib.Core.Path.{◌≡◌, refl, ap, ◌∙◌}
use Prim.Native.Nat.{ℕ, ◌/◌}
use mathlib.Core.Bool.{Bool, true, false, not, ◌&&◌}
use mathlib.Core.List.{List, flat_map}
use mathlib.Core.Option.{Option, none, some}
use lib.Dec.{eqb, ltb, leb}
use lib.IntN.{ℤ}
use lib.ListN.{length}
use borrow.Author.Tests.{ne_eqb}
use Rattle.format.specs.declared.Decimal.{Decimal}
use Rattle.format.specs.declared.Refusal.{Refusal}
use Rattle.format.specs.declared.ReadAnswer.{ReadAnswer}
use Rattle.format.specs.declared.ValueAnswer.{ValueAnswer}
use Rattle.format.specs.declared.WriteAnswer.{WriteAnswer}
use Rattle.format.specs.declared.CountAnswer.{CountAnswer}
use Rattle.format.specs.declared.Axis.{Axis}
use Rattle.format.specs.Bytes.{is_empty}
use Rattle.format.specs.Refusals.{lent_too_short}
use Rattle.format.specs.Header.{Outcome, refused, accepted, header, value_of}
use Rattle.format.specs.Descriptors.{dimension_of, space_size_of, file_count_of}
use Rattle.format.specs.Settings.{Lent, lent, setting}
use Rattle.format.specs.Calls.{with_table, copy_value, copy_value_in, write_answer, seen_in, list_after, samples_call, set_key_call, left}
use Rattle.format.specs.Files.{file_name_of, file_name_in}
use Rattle.format.specs.AxisRecords.{axes_in, axis_width, axes_listed}
use Rattle.format.specs.Orientation.{origin_of, directions_of, frame_of, listed, origin_listed, direction_decimals, directions_listed, frame_listed}
use Rattle.format.specs.Writer.{file_bytes, writable, write_refusal}
use Rattle.format.specs.HeaderWriter.{Orientation, oriented_bytes, space_listed, in_version, after_reading, write_header}
use Rattle.format.specs.EntryPoints.{orientation_width, write_header_entry}
use Rattle.format.specs.Listing.{listing}
use Rattle.format.specs.Boundary.{entry_bytes, word_bytes, decimal_width, numbers_of, samples_lent, lent_numbers, lent_samples}
use Rattle.format.proofs.Boundary.{lent_of_numbers, lent_of_samples}
use Rattle.theorem_lists.specs.Lists.{buffer_of, used_of, table_in, count_in}
use Rattle.theorem_lists.proofs.Lists.{settings}
use Rattle.theorem_callers.specs.Callers.{Refused, RefusedKeeps}

-- ---- the calls on numbers

-- of an answer and what was lent as it returns: if it is refused, that is as it was; `of` is the answer's refusal
module _ {A B : Type 0} (of : A → Refusal) (old : B) where
  abbrev Kept : A × B → Type 0
  Kept p = Refused (of p.0) → p.1 ≡ old

  either : (b : Bool) (x y : A × B) → Kept x → Kept y → Kept (if b then x else y)
  either true x y f g = f
  either false x y f g = g

table_kept : (table : List ℕ) (o : Outcome) → Kept (λ (a : ReadAnswer). a.refusal) table (with_table table o)
unfolding with_table
table_kept table (refused r) = λ h. refl
table_kept table (accepted es gs ls) = either (λ (a : ReadAnswer). a.refusal) table (ltb (length table) (length es)) _ _ (λ h. refl) (λ h. absurd (h refl))

value_kept : (key out : List ℕ) (o : Outcome) → Kept (λ (a : ValueAnswer). a.refusal) out (copy_value_in key out o)
value_kept key out (refused r) = λ h. refl
value_kept key out (accepted es gs ls) = go (value_of key es)
  where
    go : (v : Option (List ℕ)) → Kept (λ (a : ValueAnswer). a.refusal) out (copy_value out v)
    go none = λ h. refl
    go (some v) = either (λ (a : ValueAnswer). a.refusal) out (ltb (length out) (length v)) _ _ (λ h. refl) (λ h. absurd (h refl))

-- a file's name: 29, 22, or the name
name_kept : (n : ℕ) (out : List ℕ) (o : Outcome) → Kept (λ (a : WriteAnswer). a.refusal) out (file_name_in n out o)
name_kept n out (refused r) = λ h. refl
name_kept n out (accepted es gs ls) =
    either (λ (a : WriteAnswer). a.refusal) out (leb (file_count_of gs) n) _ _ (λ h. refl)
    (either (λ (a : WriteAnswer). a.refusal) out (ltb (length out) (length (file_name_of gs n))) _ _ (λ h. refl) (λ h. absurd (h refl)))

-- a list of decimals, or 22
listed_kept : (ds : List Decimal) (list : List ℕ) → Kept (λ (a : CountAnswer). a.refusal) list (listed ds list)
listed_kept ds list = either (λ (a : CountAnswer). a.refusal) list (ltb (length list / decimal_width) (length ds)) _ _ (λ h. refl) (λ h. absurd (h refl))

origin_kept : (o : Outcome) (list : List ℕ) → Kept (λ (a : CountAnswer). a.refusal) list (origin_listed list o)
origin_kept (refused r) list = λ h. refl
origin_kept (accepted es gs ls) list = listed_kept (origin_of gs) list

directions_kept : (o : Outcome) (list : List ℕ) → Kept (λ (a : CountAnswer). a.refusal) list (directions_listed list o)
directions_kept (refused r) list = λ h. refl
directions_kept (accepted es gs ls) list = listed_kept (flat_map (direction_decimals (space_size_of gs)) (directions_of gs)) list

frame_kept : (o : Outcome) (list : List ℕ) → Kept (λ (a : CountAnswer). a.refusal) list (frame_listed list o)
frame_kept (refused r) list = λ h. refl
frame_kept (accepted es gs ls) list = listed_kept (flat_map (λ c. c) (frame_of gs)) list

-- axis records, or 22: in bytes, and as records
axes_kept : (o : Outcome) (list : List ℕ) → Kept (λ (a : CountAnswer). a.refusal) list (axes_listed list o)
unfolding axes_listed
axes_kept (refused r) list = λ h. refl
axes_kept (accepted es gs ls) list =
    either (λ (a : CountAnswer). a.refusal) list (ltb (length list / axis_width) (dimension_of gs)) _ _ (λ h. refl) (λ h. absurd (h refl))

records_kept : (o : Outcome) (list : List Axis) → Kept (λ (a : CountAnswer). a.refusal) list (axes_in list o)
unfolding axes_in
records_kept (refused r) list = λ h. refl
records_kept (accepted es gs ls) list = either (λ (a : CountAnswer). a.refusal) list (ltb (length list) (dimension_of gs)) _ _ (λ h. refl) (λ h. absurd (h refl))

-- a written header, along its refusals
header_kept : (version : ℕ) (sizes : List ℕ) (t e endian : ℕ) (shaped : Bool) (o : Orientation) (out : List ℕ)
    → Kept (λ (a : WriteAnswer). a.refusal) out (write_header version sizes t e endian shaped o out)
unfolding write_header
header_kept version sizes t e endian shaped o out =
    let text = oriented_bytes version sizes t e endian o in
    either (λ (a : WriteAnswer). a.refusal) out (not (writable version sizes t e endian && (shaped && space_listed o))) _ _ (λ h. refl)
    (either (λ (a : WriteAnswer). a.refusal) out (not (in_version version o)) _ _ (λ h. refl) (read (header text) text))
  where
    read : (x : Outcome) (text : List ℕ) → Kept (λ (a : WriteAnswer). a.refusal) out (after_reading x text out)
    read (refused r) text = λ h. refl
    read (accepted es gs ls) text = either (λ (a : WriteAnswer). a.refusal) out (ltb (length out) (length text)) _ _ (λ h. refl) (λ h. absurd (h refl))

entry_kept : (version : ℕ) (sizes : List ℕ) (t e endian : ℕ) (given out : List ℕ)
    → Kept (λ (a : WriteAnswer). a.refusal) out (write_header_entry version sizes t e endian given out)
unfolding write_header_entry
entry_kept version sizes t e endian given out =
    either (λ (a : WriteAnswer). a.refusal) out (is_empty given) _ _ (header_kept version _ t e endian _ _ out)
    (either (λ (a : WriteAnswer). a.refusal) out (eqb (length given) orientation_width) _ _ (header_kept version _ t e endian _ _ out) (λ h. refl))

write_kept : (n : ℕ) (file out : List ℕ) → Kept (λ (a : WriteAnswer). a.refusal) out (write_answer n file out)
write_kept n file out = either (λ (a : WriteAnswer). a.refusal) out (eqb n 0) _ _ (λ h. absurd (h refl)) (λ h. refl)

samples_kept : (a : CountAnswer) (zs list : List ℤ) → Kept (λ (a : CountAnswer). a.refusal) list (a, list_after a zs list)
samples_kept a zs list = λ h. rw (ne_eqb a.refusal.number 0 h)

set_kept : (buf : List ℕ) (used : ℕ) (table : List ℕ) (count : ℕ) (key value : List ℕ)
    → Refused (set_key_call buf used table count key value).0.refusal → left (set_key_call buf used table count key value) ≡ lent buf used table count
set_kept buf used table count key value h = settings.kept (lent buf used table count) (setting key value) (ne_eqb _ 0 h)

-- ---- the statement

pub keeps : RefusedKeeps
keeps =
    record {
      read = λ file table p h.
          ap (λ (ns : List ℕ). lent_numbers entry_bytes ns table) (table_kept (numbers_of entry_bytes table) (header file) h) ∙ lent_of_numbers entry_bytes table p;
      value = λ file key out h. value_kept key out (header file) h;
      samples = λ file second list p h.
          ap (λ (zs : List ℤ). lent_samples zs list) (samples_kept (samples_call file second (samples_lent list)).0 (seen_in file second (header file)) (samples_lent list) h) ∙ lent_of_samples list p;
      origin = λ file list. origin_kept (header file) list;
      directions = λ file list. directions_kept (header file) list;
      frame = λ file list. frame_kept (header file) list;
      name = λ file n out. name_kept n out (header file);
      axes = λ file list. axes_kept (header file) list;
      records = λ file list. records_kept (header file) list;
      written_header = entry_kept;
      write = λ version sizes t e endian samples out h.
          let ns = numbers_of word_bytes sizes in
          let zs = samples_lent samples in
          write_kept (write_refusal version ns t e endian zs (length out)) (file_bytes version ns t e endian zs) out h;
      set = λ buf used table count key value p h.
          ap (λ (l : Lent). lent (buffer_of l) (used_of l) (lent_numbers entry_bytes (table_in l) table) (count_in l))
          (set_kept buf used (numbers_of entry_bytes table) count key value h)
          ∙ ap (λ (t : List ℕ). lent buf used t count) (lent_of_numbers entry_bytes table p);
      listing = λ file out h. write_kept (if ltb (length out) (length (listing file)) then lent_too_short else 0) (listing file) out h;
    }
