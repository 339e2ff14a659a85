-- The room is enough: each part of the statement.
-- Assumes nothing.
use Rattle.std.specs.Prelude.{if◌then◌else◌}
use mathlib.Core.Path.{◌≡◌, refl, sym, ap, ◌∙◌, subst}
use mathlib.Core.Bool.{Bool, true, false, not, ◌||◌}
use mathlib.Core.List.{List, [], ◌∷◌, ◌++◌}
use mathlib.Core.Option.{Option, none, some}
use Prim.Native.Nat.{ℕ, ◌+◌, ◌≤◌}
use native.Mathlib.Omega.{arith}
use lib.Dec.{eqb, ltb}
use lib.IntN.{ℤ}
use lib.ListN.{length, take, length-append}
use lib.Seq.{length-take-le}
use borrow.Author.Tests.{le-ltb, ltb-false}
use Rattle.format.specs.declared.ReadAnswer.{ReadAnswer}
use Rattle.format.specs.declared.FindAnswer.{FindAnswer}
use Rattle.format.specs.declared.ValueAnswer.{ValueAnswer}
use Rattle.format.specs.declared.CountAnswer.{CountAnswer}
use Rattle.format.specs.declared.WriteAnswer.{WriteAnswer}
use Rattle.format.specs.declared.SetAnswer.{SetAnswer}
use Rattle.format.specs.Bytes.{is_some, or_else, same, over}
use Rattle.format.specs.Limits.{max_file, max_header, max_lines}
use Rattle.format.specs.declared.Refusal.{Refusal}
use Rattle.format.specs.Refusals.{extent_too_large, lent_too_short, refusal, fine, header_too_long, too_many_lines, file_too_long, not_in_version, bad_key, bad_value, wrong_table}
use Rattle.format.specs.Lines.{Line, size, unlines, starts}
use Rattle.format.specs.Fields.{pairs_since}
use Rattle.format.specs.Header.{Item, pair_of, Entry, entry, lines_of, Outcome, refused, accepted, header, header_length, version_of, value_for, value_in, value_of, table_of}
use Rattle.format.specs.Data.{place_of}
use Rattle.format.specs.Settings.{lent, SetOutcome, kept, changed, key_fine, value_fine, new_lines, refilled, table_fine, store, set_read, set_key}
use Rattle.format.specs.Writer.{file_bytes, write_refusal}
use Rattle.format.specs.Calls.{read_answer, read_header_call, with_table, read_call, no_place, pair_place, value_place, key_place, find_key_in, find_key_call, copy_value, copy_value_in, copy_value_call, check_in, samples_call, write_answer, write_call, set_answer, set_key_call}
use Rattle.format.specs.Boundary.{entry_bytes, numbers_of}
use Rattle.format.specs.EntryPoints.{read_entry, set_key_entry}
use Rattle.format.proofs.Boundary.{length_numbers}
use Rattle.format.proofs.Header.{header_sound}
use Rattle.format.proofs.Numbered.{NumberedOutcome, header_numbered}
use Rattle.format.proofs.Places.{place_numbered}
use Rattle.format.specs.Files.{file_name_call}
use Rattle.format.specs.AxisRecords.{axes_entry}
use Rattle.format.specs.Room.{Enough, table_entries, table_room, write_room, value_room, Copied, name_room, axes_room, samples_room, set_room}
use Rattle.theorem_room.specs.Room.{RoomEnough}
use Rattle.theorem_room.proofs.Written.{room_for_file}
use Rattle.theorem_room.proofs.Checked.{list_long}
use Rattle.theorem_room.proofs.FileNames.{name_enough}
use Rattle.theorem_room.proofs.Oriented.{origin_enough, directions_enough, frame_enough}
use Rattle.theorem_room.proofs.Axes.{records_enough, axes_enough}
use Rattle.theorem_room.proofs.Grown.{escape_length, header_grown}

-- ---- the reading, with a table or without

reading_numbers : (file : List ℕ) → (read_header_call file).refusal.number ≤ extent_too_large
reading_numbers file = go (header file) (header_numbered file)
  where
    go : (o : Outcome) → NumberedOutcome o → (read_answer o).refusal.number ≤ extent_too_large
    go (refused r) n = n.1
    go (accepted es gs ls) n = omega arith

table_enough : (file table : List ℕ) → table_entries ≤ length table → (read_call file table).0 ≡ read_header_call file
unfolding with_table
table_enough file table h = go (header file) refl
  where
    go : (o : Outcome) → header file ≡ o → (with_table table o).0 ≡ read_answer o
    go (refused r) e = refl
    go (accepted es gs ls) e = rw (le-ltb (length table) (length es) (omega (arith, (header_sound file e).few)))

-- ---- the value of a key

-- what a place says of the value of a key: nothing is found, or a text at least as long as the value
abbrev Placed : FindAnswer → Option (List ℕ) → Type 0
Placed p none = p ≡ no_place fine
Placed p (some v) = (p.refusal ≡ fine) × (p.found ≡ true) × (length v ≤ p.length)

module _ (k : List ℕ) where
  placed_in : (at : ℕ) (i : Item) → Placed (if is_some (value_in k i) then value_place at i else no_place fine) (value_in k i)
  placed_in at i = go (pair_of i)
    where
      by : (p : List ℕ × List ℕ) (x : Bool) → Placed (if is_some (if x then some p.1 else none) then pair_place at (some p) else no_place fine) (if x then some p.1 else none)
      by p true = (refl, refl, (escape_length p.1).0)
      by p false = refl

      go : (o : Option (List ℕ × List ℕ)) → Placed (if is_some (value_for k o) then pair_place at o else no_place fine) (value_for k o)
      go none = refl
      go (some p) = by p (same k p.0)

  placed : (at : ℕ) (es : List Entry) → Placed (key_place k at es) (value_of k es)
  unfolding key_place value_of
  placed at [] = refl
  placed at (entry l i ∷ es) = go (value_of k es) (placed (at + size l) es)
    where
      go : (o : Option (List ℕ)) → Placed (key_place k (at + size l) es) o
          → Placed (if is_some o then key_place k (at + size l) es else if is_some (value_in k i) then value_place at i else no_place fine) (or_else o (value_in k i))
      go (some v) p = p
      go none p = placed_in at i

  module _ (buf : List ℕ) where
    copied : (p : FindAnswer) (o : Option (List ℕ)) → Placed p o → value_room p ≤ length buf → Copied p (copy_value buf o).0
    copied p none q l = rw q (record { refusal = refl; found = refl; short = omega arith; enough = λ h. omega arith })
    copied p (some v) q l =
        rw (le-ltb (length buf) (length v) (omega (arith, q.2))) (record { refusal = sym q.0; found = sym q.1; short = q.2; enough = λ h. omega arith })

    value_enough : (file : List ℕ) → value_room (find_key_call file k) ≤ length buf → Copied (find_key_call file k) (copy_value_call file k buf).0
    value_enough file l = go (header file) (header_numbered file) l
      where
        go : (o : Outcome) → NumberedOutcome o → value_room (find_key_in k o) ≤ length buf → Copied (find_key_in k o) (copy_value_in k buf o).0
        go (refused r) n l = record { refusal = refl; found = refl; short = omega arith; enough = λ h. omega arith }
        go (accepted es gs ls) n l = copied (key_place k 0 es) (value_of k es) (placed 0 es) l

-- ---- samples

samples_enough : (file second : List ℕ) (list : List ℤ) → samples_room (header file) ≤ length list → Enough (samples_call file second list).0.refusal
samples_enough file second list l = go (header file) (header_numbered file) l
  where
    go : (o : Outcome) → NumberedOutcome o → samples_room o ≤ length list → Enough (check_in (length list) file second o).refusal
    go (refused r) n l = λ e. omega arith
    go (accepted es gs ls) n l =
        list_long gs (place_of true gs (header_length es) file second) (place_numbered gs true (header_length es) file second) (length list) file second (omega arith)

-- ---- a written file

write_enough : (version : ℕ) (sizes : List ℕ) (t e endian : ℕ) (zs : List ℤ) (out : List ℕ) → write_room (length zs) ≤ length out → Enough (write_call version sizes t e endian zs out).0.refusal
write_enough version sizes t e endian zs out l =
    go (write_refusal version sizes t e endian zs (length out)) (room_for_file version sizes t e endian zs (length out) l)
  where
    go : (n : ℕ) → (n ≡ lent_too_short → ⊥) → Enough (write_answer n (file_bytes version sizes t e endian zs) out).0.refusal
    go n h = by (eqb n 0) refl
      where
        by : (b : Bool) → eqb n 0 ≡ b → Enough (write_answer n (file_bytes version sizes t e endian zs) out).0.refusal
        by true q = rw q (λ z. omega arith)
        by false q = rw q h

-- ---- a setting

-- the outcome is not refused for what is lent
abbrev Fits : SetOutcome → Type 0
Fits (kept r) = Enough r
Fits (changed l) = Unit {0}

fits_unless : (x : Bool) (r : Refusal) (s : SetOutcome) → Enough r → Fits s → Fits (if x then kept r else s)
fits_unless true r s h f = h
fits_unless false r s h f = f

module _ (buf : List ℕ) (used : ℕ) (table : List ℕ) (room : table_entries ≤ length table) where
  store_fits : (ls : List Line) (rest : List ℕ) → length (unlines ls ++ rest) ≤ length buf → Fits (store buf used table ls rest)
  unfolding store
  store_fits ls rest h = go (ltb max_header (length (unlines ls))) (ltb max_lines (length ls)) refl (ltb max_file (length (unlines ls ++ rest)))
    where
      done : SetOutcome
      done = changed (lent (refilled buf used (unlines ls ++ rest)) (length (unlines ls ++ rest)) (over (starts 0 ls) table) (length ls))

      go : (a b : Bool) → ltb max_lines (length ls) ≡ b → (c : Bool)
          → Fits (if a then kept (refusal header_too_long) else if b then kept (refusal too_many_lines) else if c then kept (refusal file_too_long)
          else if ltb (length buf) (length (unlines ls ++ rest)) || ltb (length table) (length ls) then kept (refusal lent_too_short) else done)
      go true b q c = λ e. omega arith
      go false true q c = λ e. omega arith
      go false false q true = λ e. omega arith
      go false false q false =
          rw (le-ltb (length buf) (length (unlines ls ++ rest)) h, le-ltb (length table) (length ls) (omega (arith, ltb-false max_lines (length ls) q))) tt

  module _ (count : ℕ) (k v : List ℕ) where
    read_fits : set_room used k v ≤ length buf → (o : Outcome) → header (take used buf) ≡ o → NumberedOutcome o → Fits (set_read buf used table count k v o)
    unfolding set_read
    read_fits h (refused r) q n = λ e. omega arith
    read_fits h (accepted es gs ls) q n =
        fits_unless (ltb (version_of es) pairs_since) (refusal not_in_version) _ (λ e. omega arith)
        (fits_unless (not (key_fine k)) (refusal bad_key) _ (λ e. omega arith)
        (fits_unless (not (value_fine v)) (refusal bad_value) _ (λ e. omega arith)
        (fits_unless (not (table_fine table count (table_of es))) (refusal wrong_table) _ (λ e. omega arith)
        (store_fits (new_lines k v es) (unlines ls) fits))))
      where
        -- the file was `used` bytes long
        whole : length (unlines (lines_of es)) + length (unlines ls) ≡ used
        whole =
            sym (length-append (unlines (lines_of es)) (unlines ls))
            ∙ ap length (sym (header_sound (take used buf) q).bytes) ∙ length-take-le used buf (omega (arith, h))

        fits : length (unlines (new_lines k v es) ++ unlines ls) ≤ length buf
        fits = rw (length-append (unlines (new_lines k v es)) (unlines ls)) (omega (arith, h, whole, header_grown k v es))

    set_enough : set_room used k v ≤ length buf → Enough (set_key_call buf used table count k v).0.refusal
    unfolding set_key
    set_enough h =
        let o = header (take used buf) in
        rw (le-ltb (length buf) used (omega arith)) (go (set_read buf used table count k v o) (read_fits h o refl (header_numbered (take used buf))))
      where
        go : (s : SetOutcome) → Fits s → Enough (set_answer buf used table count s).0.refusal
        go (kept r) f = f
        go (changed (lent b u t c)) f = λ e. omega arith

-- ---- the statement, and its parts of an answer that is the call's

-- each premise is asked for as a number, so that a statement with too little room fails there
pub room_enough : RoomEnough
room_enough =
    record {
      reading_numbers = reading_numbers;
      table_enough = λ file table h. table_enough file table (omega (arith, h));
      value_enough = λ file k buf h. value_enough k buf file (omega (arith, h));
      name_enough = λ file n out h. name_enough file n out (omega (arith, h));
      samples_enough = λ file second list h. samples_enough file second list (omega (arith, h));
      write_enough = λ version sizes t e endian zs out h. write_enough version sizes t e endian zs out (omega (arith, h));
      set_enough = λ buf used table count k v r h. set_enough buf used table r count k v (omega (arith, h));
      origin_enough = λ file list h. origin_enough file list (omega (arith, h));
      directions_enough = λ file list h. directions_enough file list (omega (arith, h));
      frame_enough = λ file list h. frame_enough file list (omega (arith, h));
      records_enough = λ file list h. records_enough file list (omega (arith, h));
      axes_enough = λ file list h. axes_enough file list (omega (arith, h));
    }

-- an answer with this refusal is refused for what is lent only if the other is
pub same_refusal : {a b : Refusal} → a ≡ b → Enough b → Enough a
same_refusal e h q = h (sym (ap (λ (r : Refusal). r.number) e) ∙ q)

pub read_answered : (file table : List ℕ) {a : ReadAnswer} {after : List ℕ} → ◌≡◌ {A = ReadAnswer × List ℕ} (a, after) (read_call file table)
    → table_entries ≤ length table → (a ≡ read_header_call file) × Enough a.refusal
read_answered file table {a} e h =
    let r : a ≡ read_header_call file = ap (λ (x : ReadAnswer × List ℕ). x.0) e ∙ table_enough file table h in
    (r, same_refusal (ap (λ (x : ReadAnswer). x.refusal) r) (λ q. omega (arith, reading_numbers file)))

pub value_answered : (file k buf : List ℕ) {a : ValueAnswer} {after : List ℕ} → ◌≡◌ {A = ValueAnswer × List ℕ} (a, after) (copy_value_call file k buf)
    → value_room (find_key_call file k) ≤ length buf → Copied (find_key_call file k) a
value_answered file k buf e h = subst (Copied (find_key_call file k)) (sym (ap (λ (x : ValueAnswer × List ℕ). x.0) e)) (value_enough k buf file h)

pub name_answered : (file : List ℕ) (n : ℕ) (out : List ℕ) {a : WriteAnswer} {after : List ℕ}
    → ◌≡◌ {A = WriteAnswer × List ℕ} (a, after) (file_name_call file n out) → name_room ≤ length out → Enough a.refusal
name_answered file n out q h = same_refusal (ap (λ (x : WriteAnswer × List ℕ). x.0.refusal) q) (name_enough file n out h)

pub axes_answered : (file list : List ℕ) {a : CountAnswer} {after : List ℕ}
    → ◌≡◌ {A = CountAnswer × List ℕ} (a, after) (axes_entry file list) → axes_room ≤ length list → Enough a.refusal
axes_answered file list q h = same_refusal (ap (λ (x : CountAnswer × List ℕ). x.0.refusal) q) (axes_enough file list h)

pub samples_answered : (file second : List ℕ) (list : List ℤ) {a : CountAnswer} {after : List ℤ}
    → ◌≡◌ {A = CountAnswer × List ℤ} (a, after) (samples_call file second list) → samples_room (header file) ≤ length list → Enough a.refusal
samples_answered file second list q h = same_refusal (ap (λ (x : CountAnswer × List ℤ). x.0.refusal) q) (samples_enough file second list h)

pub write_answered : (version : ℕ) (sizes : List ℕ) (t e endian : ℕ) (zs : List ℤ) (out : List ℕ) {a : WriteAnswer} {after : List ℕ}
    → ◌≡◌ {A = WriteAnswer × List ℕ} (a, after) (write_call version sizes t e endian zs out) → write_room (length zs) ≤ length out → Enough a.refusal
write_answered version sizes t e endian zs out q h =
    same_refusal (ap (λ (x : WriteAnswer × List ℕ). x.0.refusal) q) (write_enough version sizes t e endian zs out h)

pub set_answered : (buf : List ℕ) (used : ℕ) (table : List ℕ) (count : ℕ) (k v : List ℕ) {a : SetAnswer} {after : List ℕ × List ℕ}
    → ◌≡◌ {A = SetAnswer × (List ℕ × List ℕ)} (a, after) (set_key_call buf used table count k v) → table_entries ≤ length table → set_room used k v ≤ length buf → Enough a.refusal
set_answered buf used table count k v q r h =
    same_refusal (ap (λ (x : SetAnswer × (List ℕ × List ℕ)). x.0.refusal) q) (set_enough buf used table r count k v h)

-- ---- where tables cross in bytes

-- the entries of such a table
many_entries : (table : List ℕ) → table_room ≤ length table → table_entries ≤ length (numbers_of entry_bytes table)
many_entries table h = omega (arith, length_numbers entry_bytes table)

pub read_in_bytes : (file table : List ℕ) {a : ReadAnswer} {after : List ℕ} → ◌≡◌ {A = ReadAnswer × List ℕ} (a, after) (read_entry file table)
    → table_room ≤ length table → (a ≡ read_header_call file) × Enough a.refusal
read_in_bytes file table e h =
    let c = read_call file (numbers_of entry_bytes table) in
    read_answered file (numbers_of entry_bytes table) (λ i. (ap (λ (x : ReadAnswer × List ℕ). x.0) e i, c.1)) (many_entries table h)

pub set_in_bytes : (buf : List ℕ) (used : ℕ) (table : List ℕ) (count : ℕ) (k v : List ℕ) {a : SetAnswer} {after : List ℕ × List ℕ}
    → ◌≡◌ {A = SetAnswer × (List ℕ × List ℕ)} (a, after) (set_key_entry buf used table count k v) → table_room ≤ length table → set_room used k v ≤ length buf → Enough a.refusal
set_in_bytes buf used table count k v e h =
    let c = set_key_call buf used (numbers_of entry_bytes table) count k v in
    set_answered buf used (numbers_of entry_bytes table) count k v (λ i. (ap (λ (x : SetAnswer × (List ℕ × List ℕ)). x.0) e i, c.1)) (many_entries table h)
