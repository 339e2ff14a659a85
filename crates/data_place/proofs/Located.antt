-- Laws of the place of the data: by the numbers of the reading, and that it lies within its file.
-- Assumes nothing.
use Rattle.std.specs.Prelude.{if◌then◌else◌}
use Prim.Native.Nat.{ℕ, ◌+◌, ◌-◌, ◌^◌, ◌≤◌, ◌<◌, min}
use native.Mathlib.Omega.{arith}
use mathlib.Core.Path.{◌≡◌, refl, sym, ap, ◌∙◌}
use mathlib.Core.Bool.{Bool, true, false, ◌&&◌}
use mathlib.Core.List.{List}
use mathlib.Core.Option.{Option, none, some}
use lib.Dec.{eqb, ltb, leb}
use lib.ListN.{length, take, drop, length-drop}
use lib.Seq.{drop-drop}
use borrow.Author.Tests.{ltb-false, le-ltb, lt-leb, ne_eqb}
use Rattle.format.specs.declared.Reading.{Reading}
use Rattle.format.specs.declared.ReadAnswer.{ReadAnswer}
use Rattle.format.specs.declared.DataAnswer.{DataAnswer}
use Rattle.format.specs.Bytes.{and_then}
use Rattle.format.specs.Limits.{max_file}
use Rattle.format.specs.Refusals.{file_too_long, several_files, skip_past_end, place_too_large, data_too_short, float_samples}
use Rattle.format.specs.Fields.{Given}
use Rattle.format.specs.Descriptors.{ByteSkip, forward, from_end, bytes_forward, is_from_end, is_detached, encoding_of, type_of, number_kind, is_floating, extent_of, raw, line_skip_of, byte_skip_of, file_count_of}
use Rattle.format.specs.Header.{Entry, Outcome, refused, accepted, header, header_length}
use Rattle.format.specs.Data.{skip_lines, skip_bytes, last_bytes, past_byte_skip, after_skips, Place, nowhere, part, place_from, place_of, part_of}
use Rattle.format.specs.Calls.{reading_of, read_answer, read_header_call, data_answer, data_place_in, data_place_call, data_call}
use Rattle.format.specs.declared.reason.Reason.{Reason}
use Rattle.format.specs.Reasons.{reason_number}
use Rattle.format.proofs.Header.{header_sound}
use Rattle.format.proofs.Rules.{accepted_keeps}
use Rattle.format.proofs.Numbered.{NumberedOutcome, header_numbered}
use Rattle.format.proofs.Places.{AtMost, skips_at_most, header_within}
use Rattle.data_place.specs.Places.{IsReading, place_by, skipped_of, skipped_by, left_by, place_left, files_wrong}
use Rattle.data_place.proofs.Skips.{rest_is, bytes_past, bytes_next}

-- ---- refusals by their reasons

-- a reason has a number that is not 0
pub some_number : (reason : Reason) → reason_number reason ≡ 0 → ⊥
some_number reason e = grind arith

-- ---- the place by the numbers of a reading

-- what is left by the reading is what is left by the fields
skip_same : (b : ByteSkip) (x : ℕ) (s : List ℕ) → skip_bytes (skipped_of (is_from_end b) (bytes_forward b) x (length s)) s ≡ past_byte_skip b x s
unfolding skip_bytes last_bytes
skip_same (forward n) x s = refl
skip_same from_end x s = rw (le-ltb (length s) (length s - x) (omega arith))

left_same : (es : List Entry) (gs : List Given) (area : List ℕ) → left_by (reading_of es gs) area ≡ after_skips gs area
unfolding reading_of
left_same es gs area = go (skip_lines (line_skip_of gs) area)
  where
    go : (o : Option (List ℕ))
        → and_then o (λ t. skip_bytes (skipped_by (reading_of es gs) (length t)) t) ≡ and_then o (λ t. past_byte_skip (byte_skip_of gs) (extent_of gs) t)
    go none = refl
    go (some t) = skip_same (byte_skip_of gs) (extent_of gs) t

module _ (x : Reading) (second : Bool) (file : List ℕ) (from : ℕ) where
  -- the data area, as the code has it
  abbrev area : List ℕ
  area = take (length file - from) (drop from file)

  -- the skip of lines passes the end
  pub left_none : skip_lines x.lineskip area ≡ none → place_left x second (length file) (left_by x (drop from file)) ≡ nowhere skip_past_end
  left_none e = let l = rw (rest_is file from) at e in rw l

  module _ (p : ℕ) (e : skip_lines x.lineskip area ≡ some (drop p area)) (h : p ≤ length area) where
    lines_left : skip_lines x.lineskip (drop from file) ≡ some (drop (from + p) file)
    lines_left = rw (rest_is file from, drop-drop) at e

    pub left_within : from ≤ length file → from + p ≤ length file
    left_within k = omega (arith, ap length (rest_is file from), length-drop from file)

    -- so many bytes are skipped then
    module _ (b : ℕ) (s : b ≡ skipped_by x (length file - (from + p))) where
      left_skipped : left_by x (drop from file) ≡ skip_bytes b (drop (from + p) file)
      left_skipped = rw (lines_left, length-drop (from + p) file, ← s)

      -- the skip of bytes passes the end
      pub left_past : length file - (from + p) < b → place_left x second (length file) (left_by x (drop from file)) ≡ nowhere skip_past_end
      left_past k = rw (left_skipped, bytes_past file (from + p) b k)

      -- or the data starts after it
      pub left_at : from ≤ length file → b ≤ length file - (from + p)
          → place_left x second (length file) (left_by x (drop from file)) ≡ place_by x second (from + p + b) (length file - (from + p) - b)
      left_at l k =
          let f = left_within l in
          let n : length file - (length file - (from + p + b)) ≡ from + p + b = omega arith in
          let m : length file - (from + p + b) ≡ length file - (from + p) - b = omega arith in
          rw (left_skipped, bytes_next file (from + p) b k, length-drop, n, m)

module _ {file : List ℕ} {x : Reading} {es : List Entry} {gs : List Given} (w : IsReading file x es gs) where
  -- the place by the reading is the place by the fields: the end of the data is below 2 to the 64
  place_from_lem : (second : Bool) (whole : ℕ) → whole ≤ max_file → (o : Option (List ℕ)) → place_left (reading_of es gs) second whole o ≡ place_from gs second whole o
  unfolding reading_of place_by
  place_from_lem second whole h none = refl
  place_from_lem second whole h (some left) =
      let k : whole - length left + extent_of gs < 2 ^ 64 = omega (arith, (accepted_keeps file w.header_is).extent_bytes) in
      rw (lt-leb (2 ^ 64) (whole - length left + extent_of gs) k) (go (eqb (encoding_of gs) raw) (ltb (length left) (extent_of gs)))
    where
      go : (a b : Bool)
          → (if a then (if b then nowhere data_too_short else part second (whole - length left) (extent_of gs)) else part second (whole - length left) (length left))
          ≡ (if a && b then nowhere data_too_short else part second (whole - length left) (if a then extent_of gs else length left))
      go true true = refl
      go true false = refl
      go false b = refl

  place_left_lem : (second : Bool) (whole : ℕ) (area : List ℕ) → whole ≤ max_file → place_left x second whole (left_by x area) ≡ place_from gs second whole (after_skips gs area)
  unfolding reading_of
  place_left_lem second whole area h = rw (w.is, left_same es gs area) (place_from_lem second whole h (after_skips gs area))

  -- the form
  detached : x.form ≡ 1 → is_detached gs ≡ true
  unfolding reading_of
  detached e = go (is_detached gs) (sym (ap (λ (r : Reading). r.form) w.is) ∙ e)
    where
      go : (d : Bool) → ◌≡◌ {A = ℕ} (if d then 1 else 0) 1 → d ≡ true
      go true e = refl
      go false e = absurd (let f : ⊥ = omega arith in f)

  attached : (x.form ≡ 1 → ⊥) → is_detached gs ≡ false
  unfolding reading_of
  attached n = go (is_detached gs) (λ e. n (ap (λ (r : Reading). r.form) w.is ∙ e))
    where
      go : (d : Bool) → (◌≡◌ {A = ℕ} (if d then 1 else 0) 1 → ⊥) → d ≡ false
      go true n = absurd (n refl)
      go false n = refl

  type_is : x.sampletype ≡ type_of gs
  unfolding reading_of
  type_is = ap (λ (r : Reading). r.sampletype) w.is

  length_is : x.length ≡ header_length es
  unfolding reading_of
  length_is = ap (λ (r : Reading). r.length) w.is

  module _ (second : List ℕ) (wanted : Bool) where
    -- samples are wanted of a type that has none
    abbrev unfit : Bool
    unfit = wanted && is_floating (number_kind x.sampletype)

    abbrev place : Place
    place = place_of wanted gs (header_length es) file second

    -- the place once the files are right
    abbrev further : Place
    further =
        if wanted && is_floating (number_kind (type_of gs)) then nowhere float_samples
        else if is_detached gs then place_from gs true (length second) (after_skips gs second)
        else place_from gs false (length file) (after_skips gs (drop (header_length es) file))

    module _ (n : ℕ) (e : n ≡ files_wrong (ltb 1 x.files) (eqb x.form 1 && ltb max_file (length second))) where
      -- the place by the refusal for the files
      by_files : place ≡ (if eqb n 0 then further else nowhere n)
      unfolding place_of reading_of
      by_files = rw (e, w.is) (go (ltb 1 (file_count_of gs)) (is_detached gs) (ltb max_file (length second)) further)
        where
          go : (m a b : Bool) (p : Place)
              → (if m then nowhere several_files else if a && b then nowhere file_too_long else p)
              ≡ (let k = files_wrong m (eqb (if a then 1 else 0) 1 && b) in if eqb k 0 then p else nowhere k)
          go true a b p = refl
          go false true true p = refl
          go false true false p = refl
          go false false b p = refl

      -- the files are wrong
      pub located_wrong : (n ≡ 0 → ⊥) → place ≡ nowhere n
      located_wrong z = by_files ∙ rw (ne_eqb n 0 z)

      -- or they are right
      module _ (z : n ≡ 0) where
        right_files : place ≡ further
        right_files = by_files ∙ rw z

        second_fits : x.form ≡ 1 → length second ≤ max_file
        second_fits d = go (ltb 1 x.files) (ltb max_file (length second)) refl (rw d at (sym e ∙ z))
          where
            go : (m b : Bool) → ltb max_file (length second) ≡ b → files_wrong m b ≡ 0 → length second ≤ max_file
            go true b q h = absurd (let f : ⊥ = omega arith in f)
            go false true q h = absurd (let f : ⊥ = omega arith in f)
            go false false q h = ltb-false max_file (length second) q

        pub located_unfit : unfit ≡ true → place ≡ nowhere float_samples
        located_unfit u = right_files ∙ rw (rw type_is at u)

        pub located_second : unfit ≡ false → x.form ≡ 1 → place ≡ place_left x true (length second) (left_by x second)
        located_second u d =
            right_files ∙ rw (rw type_is at u, detached d) (sym (place_left_lem true (length second) second (second_fits d)))

        pub located_first : unfit ≡ false → (x.form ≡ 1 → ⊥) → (from : ℕ) → from ≡ min x.length (length file)
            → place ≡ place_left x false (length file) (left_by x (drop from file))
        located_first u d from l =
            let h : from ≡ header_length es = omega (arith, length_is, header_within file w.header_is) in
            right_files ∙ rw (rw type_is at u, attached d, ← h) (sym (place_left_lem false (length file) (drop from file) (header_sound file w.header_is).small))

-- ---- the place lies within its file

abbrev holding : Bool → List ℕ → List ℕ → List ℕ
holding s file second = if s then second else file

abbrev Lies : List ℕ → List ℕ → Place → Type 0
Lies file second (nowhere n) = Unit {0}
Lies file second (part s start n) = start + n ≤ length (holding s file second)

module _ (file second : List ℕ) where
  from_lies : (gs : List Given) (s : Bool) (o : Option (List ℕ)) → AtMost (length (holding s file second)) o
      → Lies file second (place_from gs s (length (holding s file second)) o)
  from_lies gs s none h = tt
  from_lies gs s (some left) h =
      go (leb (2 ^ 64) (whole - length left + extent_of gs)) (eqb (encoding_of gs) raw) (ltb (length left) (extent_of gs)) refl
    where
      whole : ℕ
      whole = length (holding s file second)

      go : (a b c : Bool) → ltb (length left) (extent_of gs) ≡ c
          → Lies file second
          (if a then nowhere place_too_large else if b && c then nowhere data_too_short
          else part s (whole - length left) (if b then extent_of gs else length left))
      go true b c e = tt
      go false true true e = tt
      go false true false e = omega (arith, ltb-false (length left) (extent_of gs) e)
      go false false c e = omega arith

  more_left : (n m : ℕ) → n ≤ m → (o : Option (List ℕ)) → AtMost n o → AtMost m o
  more_left n m h none k = tt
  more_left n m h (some t) k = omega arith

  pub place_lies : (wanted : Bool) (gs : List Given) (h : ℕ) → Lies file second (place_of wanted gs h file second)
  unfolding place_of
  place_lies wanted gs h =
      go (ltb 1 (file_count_of gs)) (is_detached gs) (ltb max_file (length second)) (wanted && is_floating (number_kind (type_of gs)))
    where
      shorter : AtMost (length file) (after_skips gs (drop h file))
      shorter =
          more_left (length (drop h file)) (length file) (omega (arith, length-drop h file)) (after_skips gs (drop h file))
          (skips_at_most gs (drop h file))

      go : (m a b c : Bool)
          → Lies file second
          (if m then nowhere several_files else if a && b then nowhere file_too_long else if c then nowhere float_samples
          else if a then place_from gs true (length second) (after_skips gs second) else place_from gs false (length file) (after_skips gs (drop h file)))
      go true a b c = tt
      go false true true c = tt
      go false true false true = tt
      go false true false false = from_lies gs true (after_skips gs second) (skips_at_most gs second)
      go false false b true = tt
      go false false b false = from_lies gs false (after_skips gs (drop h file)) shorter

  -- ---- the data call

  -- the part that an answer names lies within its file, and is the data
  pub record Holds (d : DataAnswer) : Type 0 where
    pub within : d.start + d.length ≤ length (if d.second then second else file)
    pub bytes : take d.length (drop d.start (if d.second then second else file)) ≡ data_call file second

  answer_within : (p : Place) → Lies file second p → (data_answer p).start + (data_answer p).length ≤ length (holding (data_answer p).second file second)
  answer_within (nowhere n) h = omega arith
  answer_within (part s start n) h = h

  answer_bytes : (p : Place) → take (data_answer p).length (drop (data_answer p).start (holding (data_answer p).second file second)) ≡ part_of p file second
  answer_bytes (nowhere n) = refl
  answer_bytes (part s start n) = refl

  pub call_holds : {d : DataAnswer} → d ≡ data_place_call file second → Holds d
  call_holds {d} e = go (header file) refl e
    where
      go : (o : Outcome) → header file ≡ o → d ≡ data_place_in file second o → Holds d
      go (refused r) q e = record { within = rw e (omega arith); bytes = rw (e, q) }
      go (accepted es gs ls) q e =
          let p = place_of false gs (header_length es) file second in
          record { within = rw e (answer_within p (place_lies false gs (header_length es))); bytes = rw (e, q) (answer_bytes p) }

  -- the reading is accepted, and the place is that of the reading
  pub call_located : (a : ReadAnswer) → a ≡ read_header_call file → a.refusal.number ≡ 0 → (d : DataAnswer)
      → ((es : List Entry) (gs : List Given) → IsReading file a.reading es gs → d ≡ data_answer (place_of false gs (header_length es) file second))
      → d ≡ data_place_call file second
  call_located a e z d f = go (header file) refl e (header_numbered file)
    where
      go : (o : Outcome) → header file ≡ o → a ≡ read_answer o → NumberedOutcome o → d ≡ data_place_in file second o
      go (refused r) p q n = absurd (let g : ⊥ = omega (arith, ap (λ (x : ReadAnswer). x.refusal.number) q) in g)
      go (accepted es gs ls) p q n = f es gs (record { rest = ls; header_is = p; is = ap (λ (x : ReadAnswer). x.reading) q })
