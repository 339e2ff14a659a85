-- The laws of the call for a sweep.
-- Assumes nothing.
use Rattle.std.specs.Prelude.{if◌then◌else◌}
use Prim.Native.Nat.{ℕ, ◌+◌, ◌*◌, ◌-◌, ◌%◌, ◌≤◌, ◌<◌}
use native.Mathlib.Omega.{arith}
use mathlib.Core.Path.{◌≡◌, refl, sym, ap, ◌∙◌, subst}
use mathlib.Core.Bool.{Bool, true, false, not, ◌&&◌, false≢true}
use mathlib.Core.List.{List, [], ◌∷◌, ◌++◌}
use mathlib.Core.Option.{Option, none, some}
use lib.Dec.{eqb, ltb}
use lib.IntN.{ℤ, pos, negsuc}
use lib.ListN.{length, get_or, drop}
use borrow.Author.Tests.{eqb-true, leb-true, ltb-true}
use Rattle.roof_sweep.specs.declared.SweepAnswer.{SweepAnswer}
use Rattle.format.specs.declared.Refusal.{Refusal}
use Rattle.format.specs.declared.Reading.{Reading}
use Rattle.format.specs.declared.FindAnswer.{FindAnswer}
use Rattle.format.specs.Bytes.{bytes, over, LF, BACKSLASH}
use Rattle.format.specs.Refusals.{lent_too_short, no_sweep, refusal, fine}
use Rattle.format.specs.Words.{digits_from, number}
use Rattle.format.specs.Lines.{Line}
use Rattle.format.specs.Pairs.{escape}
use Rattle.format.specs.Fields.{Given}
use Rattle.format.specs.Descriptors.{unsigned, type_at, type_of, encoding_of, endian_of, dimension_of, sizes_of, number_kind, sample_bytes}
use Rattle.format.specs.Header.{Entry, Outcome, refused, accepted, header, header_length, value_of}
use Rattle.format.specs.Data.{Place, nowhere, part, place_of, part_of}
use Rattle.format.specs.Samples.{Decoded, in_type, highest}
use Rattle.format.specs.Boundary.{samples_lent, lent_samples}
use Rattle.format.specs.Calls.{no_reading, form_of, padded, reading_of, read_answer, read_header_call, find_key_call, no_samples, count_of, decoded, answer_decoded, check_at, check_in, check_samples_call, seen_in, samples_call}
use Rattle.format.specs.Room.{Enough, samples_room}
use Rattle.format.specs.Laws.{AllBytes}
use Rattle.format.proofs.Bytes.{and_left, and_right}
use Rattle.format.proofs.Boundary.{lent_of_samples}
use Rattle.format.proofs.Found.{Finds, escaped, FindsKey, key_found}
use Rattle.format.proofs.Places.{NumberedPlace, place_numbered}
use Rattle.theorem_room.proofs.Enough.{room_enough}
use Rattle.roof_steps.specs.Steps.{counter_values, stamp_of, first_wrong}
use Rattle.roof_steps.specs.StepLaws.{Says}
use Rattle.roof_steps.proofs.LawsHold.{steps_hold}
use Rattle.roof_steps.proofs.Stamps.{in_list}
use Rattle.roof_sweep.specs.Sweeps.{utc_offset, offset_said, offset_at, offset_of, attached, uint32, is_sweep, offset_for, row_length, row_count, stamps_in, refused_sweep, sweep_answer, sweep_found, sweep_call, sweep_entry}
use Rattle.roof_sweep.specs.SweepLaws.{NotRefused, Refused, offset_in, SweepLaws}
use Rattle.roof_sweep.proofs.RowLaws.{two_axes, offset_sweep, none_refused}
use Rattle.theorem_room.proofs.SamplesSeen.{in_type_at, samples_seen}

-- ---- how the call ends

module _ (file : List ℕ) (list : List ℤ) (largest : ℕ) where
  abbrev checked : Refusal
  checked = (check_samples_call file [] (length list)).refusal

  -- what holds of each way in which the call may end holds of the call
  by_ends : (P : SweepAnswer × List ℤ → Type 0) → (eqb checked.number 0 ≡ false → P (refused_sweep checked, list)) → P (refused_sweep (refusal no_sweep), list)
      → ((offset : ℕ) → checked.number ≡ 0 → offset_for file largest ≡ some offset → P (sweep_found (some offset) file list largest)) → P (sweep_call file list largest)
  unfolding sweep_call
  by_ends P a b c = go (eqb checked.number 0) refl (offset_for file largest) refl
    where
      go : (x : Bool) → eqb checked.number 0 ≡ x → (o : Option ℕ) → offset_for file largest ≡ o
          → P (if not x then (refused_sweep checked, list) else sweep_found o file list largest)
      go false e o q = a e
      go true e none q = b
      go true e (some offset) q = c offset (eqb-true checked.number 0 e) q

  list_kept : Refused (sweep_call file list largest).0.refusal → (sweep_call file list largest).1 ≡ list
  list_kept = by_ends (λ a. Refused a.0.refusal → a.1 ≡ list) (λ e h. refl) (λ h. refl) (λ offset e q h. absurd (h refl))

  list_filled : NotRefused (sweep_call file list largest).0.refusal → (sweep_call file list largest).1 ≡ (samples_call file [] list).1
  list_filled =
      by_ends (λ a. NotRefused a.0.refusal → a.1 ≡ (samples_call file [] list).1) (λ e h. rw e) (λ h. absurd (omega arith)) (λ offset e q h. refl)

  room_for_list : samples_room (header file) ≤ length list → Enough (sweep_call file list largest).0.refusal
  room_for_list l = by_ends (λ a. Enough a.0.refusal) (λ e. room_enough.samples_enough file [] list l) (λ h. omega arith) (λ offset e q h. omega arith)

bytes_kept : (file list : List ℕ) (largest : ℕ) → AllBytes list → Refused (sweep_entry file list largest).0.refusal → (sweep_entry file list largest).1 ≡ list
bytes_kept file list largest b h = ap (λ (zs : List ℤ). lent_samples zs list) (list_kept file (samples_lent list) largest h) ∙ lent_of_samples list b

-- ---- the offset

-- digits are written as they are, and a byte that is written as two is no digit, nor is the first of the two
digits_escaped : (n : ℕ) (s : List ℕ) → digits_from n (escape s) ≡ digits_from n s
unfolding escape digits_from
digits_escaped n [] = refl
digits_escaped n (b ∷ s) = go (eqb b LF) refl (eqb b BACKSLASH) refl (digits_escaped (n * 10 + (b - 48)) s)
  where
    go : (x : Bool) → eqb b LF ≡ x → (y : Bool) → eqb b BACKSLASH ≡ y → digits_from (n * 10 + (b - 48)) (escape s) ≡ digits_from (n * 10 + (b - 48)) s
        → digits_from n (if x then bytes "\\n" ++ escape s else if y then bytes "\\\\" ++ escape s else b ∷ escape s) ≡ digits_from n (b ∷ s)
    go true e y q h = rw (eqb-true b LF e)
    go false e true q h = rw (eqb-true b BACKSLASH q)
    go false e false q h = rw h

number_escaped : (s : List ℕ) → number (escape s) ≡ number s
unfolding escape number
number_escaped [] = refl
number_escaped (b ∷ s) = go (eqb b LF) (eqb b BACKSLASH) (digits_escaped 0 (b ∷ s))
  where
    go : (x y : Bool) → let t : List ℕ = if x then bytes "\\n" ++ escape s else if y then bytes "\\\\" ++ escape s else b ∷ escape s in
        digits_from 0 t ≡ digits_from 0 (b ∷ s) → number t ≡ digits_from 0 (b ∷ s)
    go true y h = h
    go false true h = h
    go false false h = h

offset_escaped : (v : List ℕ) → offset_said (escape v) ≡ offset_said v
unfolding offset_said
offset_escaped v = rw (number_escaped v)

offset_is : (file : List ℕ) {es : List Entry} {gs : List Given} {ls : List Line} → header file ≡ accepted es gs ls → offset_of file ≡ offset_in (value_of utc_offset es)
offset_is file {es} {gs} {ls} e = go (value_of utc_offset es) (find_key_call file utc_offset) (subst (λ (o : Outcome). FindsKey file utc_offset o (find_key_call file utc_offset)) e (key_found file utc_offset))
  where
    go : (o : Option (List ℕ)) (f : FindAnswer) → Finds file (escaped o) f → offset_at file f ≡ offset_in o
    go none f h = rw h
    go (some v) f h = rw (h.there, h.bytes) (offset_escaped v)

-- ---- the stamps

-- a sample of uint32 is its own stamp
own_stamp : (z : ℤ) → in_type unsigned 4 z ≡ true → pos (stamp_of z) ≡ z
unfolding stamp_of in_type
own_stamp (pos n) e =
    let h = leb-true n (highest unsigned 4) e in
    let q : n % counter_values ≡ n = omega (arith, h) in
    ap pos q
own_stamp (negsuc n) e = absurd (omega (arith, ltb-true n 0 e))

-- ---- the samples of a sweep

module _ (file : List ℕ) (list : List ℤ) where
  -- the first sample of each row is one of them, and of the type
  first_in_type : (o : Outcome) → header file ≡ o → is_sweep (read_answer o).reading ≡ true → (check_in (length list) file [] o).refusal.number ≡ 0
      → (row : ℕ) → row < row_count (read_answer o).reading → in_type unsigned 4 (get_or (over (seen_in file [] o) list) (row * row_length (read_answer o).reading) (pos 0)) ≡ true
  unfolding no_reading reading_of type_at
  first_in_type (refused r) e s c row l = absurd (omega arith)
  first_in_type (accepted es gs ls) e s c row l =
      let both = and_right (eqb (form_of gs) attached) (eqb (type_of gs) uint32 && eqb (dimension_of gs) 2) s in
      let t : type_of gs ≡ uint32 = eqb-true (type_of gs) uint32 (and_left (eqb (type_of gs) uint32) (eqb (dimension_of gs) 2) both) in
      let d : dimension_of gs ≡ 2 = eqb-true (dimension_of gs) 2 (and_right (eqb (type_of gs) uint32) (eqb (dimension_of gs) 2) both) in
      let p = place_of true gs (header_length es) file [] in
      let k = number_kind (type_of gs) in
      let w = sample_bytes (type_of gs) in
      let zs = (decoded gs (part_of p file [])).seen in
      let seen = samples_seen k w (endian_of gs) (encoding_of gs) (count_of gs) (part_of p file []) in
      let n : length zs ≡ count_of gs = seen.1 (none_refused file (length list) gs p (place_numbered gs true (header_length es) file []) c) in
      let i = row * get_or (padded (sizes_of gs)) 0 0 in
      let two = two_axes file e d in
      let h : i < length zs = in_list zs (get_or (padded (sizes_of gs)) 1 0) (get_or (padded (sizes_of gs)) 0 0) row l two.first (omega (arith, n, two.all)) in
      subst (λ (x : ℕ). in_type (number_kind x) (sample_bytes x) (get_or (over zs list) i (pos 0)) ≡ true) t (in_type_at k w zs (drop (length zs) list) i (pos 0) seen.0 h)

  stamp_is : (largest : ℕ) → NotRefused (sweep_call file list largest).0.refusal
      → let r = (read_header_call file).reading in let zs = (sweep_call file list largest).1 in
      (row : ℕ) → row < row_count r → pos (get_or (stamps_in r zs) row 0) ≡ get_or zs (row * row_length r) (pos 0)
  stamp_is largest =
      by_ends file list largest (λ a. NotRefused a.0.refusal → Stamped a.1)
      (λ e h. absurd (false≢true (sym e ∙ ap (λ (n : ℕ). eqb n 0) h))) (λ h. absurd (omega arith))
      (λ offset c q h. subst Stamped (sym (ap (λ (n : ℕ). if eqb n 0 then over (seen_in file [] (header file)) list else list) c)) (here offset c q))
    where
      r : Reading
      r = (read_header_call file).reading

      Stamped : List ℤ → Type 0
      Stamped zs = (row : ℕ) → row < row_count r → pos (get_or (stamps_in r zs) row 0) ≡ get_or zs (row * row_length r) (pos 0)

      here : (offset : ℕ) → (checked file list largest).number ≡ 0 → offset_for file largest ≡ some offset → Stamped (over (seen_in file [] (header file)) list)
      here offset c q row l =
          let zs = over (seen_in file [] (header file)) list in
          ap pos (steps_hold.stamp_at (row_count r) (row_length r) zs row l)
          ∙ own_stamp (get_or zs (row * row_length r) (pos 0)) (first_in_type (header file) refl (offset_sweep file largest q) c row l)

-- ---- the first wrong row

-- an answer told and taken back
taken_back : (offset : ℕ) (o : Option ℕ) → (let a = sweep_answer offset o in if a.wrong then some a.row else none) ≡ o
taken_back offset none = refl
taken_back offset (some row) = refl

row_is : (file : List ℕ) (list : List ℤ) (largest : ℕ) → NotRefused (sweep_call file list largest).0.refusal
    → let a = sweep_call file list largest in Says largest (stamps_in (read_header_call file).reading a.1) (if a.0.wrong then some a.0.row else none)
row_is file list largest =
    by_ends file list largest (λ a. NotRefused a.0.refusal → Says largest (stamps_in r a.1) (if a.0.wrong then some a.0.row else none))
    (λ e h. absurd (false≢true (sym e ∙ ap (λ (n : ℕ). eqb n 0) h))) (λ h. absurd (omega arith))
    (λ offset c q h. let ts = stamps_in r (samples_call file [] list).1 in subst (Says largest ts) (sym (taken_back offset (first_wrong largest ts))) (steps_hold.says largest ts))
  where
    r : Reading
    r = (read_header_call file).reading

-- ---- the statement

pub laws_hold : SweepLaws
laws_hold =
    record {
      list_kept = list_kept;
      bytes_kept = bytes_kept;
      list_filled = list_filled;
      offset_is = offset_is;
      stamp_is = stamp_is;
      row_is = row_is;
      room_enough = λ file list largest h. room_for_list file list largest (omega (arith, h));
    }
