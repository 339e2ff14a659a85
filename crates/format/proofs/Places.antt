-- Laws of specs/Data.antt: what a file's data, its place and its samples are depends on the fields, on the bytes after the header and on the
-- second file alone, but for where it starts in this file.
-- Assumes nothing.
use Rattle.std.specs.Prelude.{if◌then◌else◌}
use Prim.Native.Nat.{ℕ, zero, suc, ◌+◌, ◌-◌, ◌^◌, ◌≤◌, ◌<◌}
use native.Mathlib.Omega.{arith}
use mathlib.Core.Path.{◌≡◌, refl, ap, ◌∙◌, subst}
use mathlib.Core.Bool.{Bool, true, false, ◌&&◌}
use mathlib.Core.List.{List, [], ◌∷◌}
use mathlib.Core.Option.{Option, none, some}
use lib.Dec.{eqb, ltb, leb}
use lib.IntN.{ℤ}
use lib.ListN.{length, drop, length-drop, length-append}
use lib.Seq.{drop-drop}
use borrow.Author.Tests.{lt-leb, ltb-false}
use Rattle.format.specs.Bytes.{and_then, LF}
use Rattle.format.specs.Limits.{max_file, max_extent}
use Rattle.format.specs.Refusals.{file_too_long, several_files, place_too_large, data_too_short, float_samples, lent_too_short}
use Rattle.format.specs.Lines.{Line, unlines}
use Rattle.format.specs.Fields.{Given}
use Rattle.format.specs.Descriptors.{ByteSkip, forward, from_end, is_detached, byte_skip_of, encoding_of, type_of, number_kind, is_floating, extent_of, raw, file_count_of}
use Rattle.format.specs.Header.{Entry, lines_of, accepted, header, header_length}
use Rattle.format.specs.Data.{skip_line, skip_lines, skip_bytes, last_bytes, past_byte_skip, after_skips, Place, nowhere, part, place_from, place_of, part_of}
use Rattle.format.specs.Calls.{data_answer, data_place_call, data_call, decoded, check_at, check_samples_call, seen_in, list_after, samples_call}
use Rattle.format.proofs.Header.{header_sound, data_area}
use Rattle.format.proofs.Rules.{accepted_keeps}

-- ---- what is left past the skips is no more than there was

abbrev pub AtMost : ℕ → Option (List ℕ) → Type 0
AtMost n none = Unit {0}
AtMost n (some t) = length t ≤ n

then_at_most : (n : ℕ) (o : Option (List ℕ)) (next : List ℕ → Option (List ℕ)) → AtMost n o
    → ((t : List ℕ) → AtMost (length t) (next t)) → AtMost n (and_then o next)
then_at_most n none next h f = tt
then_at_most n (some t) next h f = go (next t) (f t)
  where
    go : (o : Option (List ℕ)) → AtMost (length t) o → AtMost n o
    go none k = tt
    go (some u) k = omega arith

line_at_most : (s : List ℕ) → AtMost (length s) (skip_line s)
unfolding skip_line
line_at_most [] = tt
line_at_most (b ∷ s) = go (eqb b LF) (skip_line s) (line_at_most s)
  where
    more : (o : Option (List ℕ)) → AtMost (length s) o → AtMost (suc (length s)) o
    more none h = tt
    more (some t) h = omega arith

    go : (x : Bool) (o : Option (List ℕ)) → AtMost (length s) o → AtMost (suc (length s)) (if x then some s else o)
    go true o h = omega arith
    go false o h = more o h

lines_at_most : (n : ℕ) (s : List ℕ) → AtMost (length s) (skip_lines n s)
unfolding skip_lines
lines_at_most zero s = omega arith
lines_at_most (suc n) s = then_at_most (length s) (skip_line s) (λ t. skip_lines n t) (line_at_most s) (lines_at_most n)

bytes_at_most : (n : ℕ) (s : List ℕ) → AtMost (length s) (skip_bytes n s)
unfolding skip_bytes
bytes_at_most n s = go (ltb (length s) n)
  where
    go : (x : Bool) → AtMost (length s) (if x then none else some (drop n s))
    go true = tt
    go false = omega (arith, length-drop n s)

skip_at_most : (b : ByteSkip) (x : ℕ) (s : List ℕ) → AtMost (length s) (past_byte_skip b x s)
unfolding last_bytes
skip_at_most (forward n) x s = bytes_at_most n s
skip_at_most from_end x s = omega (arith, length-drop (length s - x) s)

-- past both skips
pub skips_at_most : (gs : List Given) (s : List ℕ) → AtMost (length s) (after_skips gs s)
skips_at_most gs s =
    then_at_most (length s) (skip_lines _ s) (λ t. past_byte_skip (byte_skip_of gs) (extent_of gs) t) (lines_at_most _ s) (skip_at_most (byte_skip_of gs) (extent_of gs))

-- ---- the refusals of a place are not about room

abbrev pub NumberedPlace : Place → Type 0
NumberedPlace (nowhere n) = (0 < n) × (n ≡ lent_too_short → ⊥)
NumberedPlace (part s start n) = Unit {0}

module _ (gs : List Given) where
  from_numbered : (s : Bool) (whole : ℕ) (o : Option (List ℕ)) → NumberedPlace (place_from gs s whole o)
  from_numbered s whole none = omega arith
  from_numbered s whole (some left) =
      go (leb (2 ^ 64) (whole - length left + extent_of gs)) (eqb (encoding_of gs) raw && ltb (length left) (extent_of gs))
    where
      go : (a b : Bool)
          → NumberedPlace
          (if a then nowhere place_too_large else if b then nowhere data_too_short
          else part s (whole - length left) (if eqb (encoding_of gs) raw then extent_of gs else length left))
      go true b = omega arith
      go false true = omega arith
      go false false = tt

  pub place_numbered : (wanted : Bool) (h : ℕ) (file second : List ℕ) → NumberedPlace (place_of wanted gs h file second)
  unfolding place_of
  place_numbered wanted h file second =
      go (ltb 1 (file_count_of gs)) (is_detached gs && ltb max_file (length second)) (wanted && is_floating (number_kind (type_of gs))) (is_detached gs)
    where
      go : (m a b c : Bool)
          → NumberedPlace
          (if m then nowhere several_files else if a then nowhere file_too_long else if b then nowhere float_samples
          else if c then place_from gs true (length second) (after_skips gs second) else place_from gs false (length file) (after_skips gs (drop h file)))
      go true a b c = omega arith
      go false true b c = omega arith
      go false false true c = omega arith
      go false false false true = from_numbered true (length second) (after_skips gs second)
      go false false false false = from_numbered false (length file) (after_skips gs (drop h file))

-- ---- the place of the data by what follows the header

-- a place in the bytes after a header of h bytes, as a place in the file
abbrev pub past : ℕ → Place → Place
past h (nowhere n) = nowhere n
past h (part true start n) = part true start n
past h (part false start n) = part false (h + start) n

-- the bytes there are the same
part_past : (h : ℕ) (file second : List ℕ) (p : Place) → part_of (past h p) file second ≡ part_of p (drop h file) second
part_past h file second (nowhere n) = refl
part_past h file second (part true start n) = refl
part_past h file second (part false start n) = rw (drop-drop start h file)

-- a place in the second file is as it was
past_second : (gs : List Given) (h whole : ℕ) (o : Option (List ℕ)) → place_from gs true whole o ≡ past h (place_from gs true whole o)
past_second gs h whole none = refl
past_second gs h whole (some left) =
    go (leb (2 ^ 64) (whole - length left + extent_of gs)) (eqb (encoding_of gs) raw && ltb (length left) (extent_of gs))
  where
    at : Bool → Bool → Place
    at a b =
        if a then nowhere place_too_large else if b then nowhere data_too_short
        else part true (whole - length left) (if eqb (encoding_of gs) raw then extent_of gs else length left)

    go : (a b : Bool) → at a b ≡ past h (at a b)
    go true b = refl
    go false true = refl
    go false false = refl

-- the start moves by the header's length; the end of the data is below 2 to the 64
past_first : (gs : List Given) (h area : ℕ) → h + area ≤ max_file → extent_of gs ≤ max_extent → (o : Option (List ℕ)) → AtMost area o
    → place_from gs false (h + area) o ≡ past h (place_from gs false area o)
past_first gs h area k m none l = refl
past_first gs h area k m (some left) l =
    let p : h + area - length left + extent_of gs < 2 ^ 64 = omega arith in
    let q : area - length left + extent_of gs < 2 ^ 64 = omega arith in
    let s : h + area - length left ≡ h + (area - length left) = omega arith in
    rw (lt-leb (2 ^ 64) (h + area - length left + extent_of gs) p, lt-leb (2 ^ 64) (area - length left + extent_of gs) q, s)
    (go (eqb (encoding_of gs) raw && ltb (length left) (extent_of gs)))
  where
    long : ℕ
    long = if eqb (encoding_of gs) raw then extent_of gs else length left

    go : (b : Bool)
        → (if b then nowhere data_too_short else part false (h + (area - length left)) long)
        ≡ past h (if b then nowhere data_too_short else part false (area - length left) long)
    go true = refl
    go false = refl

place_past : (wanted : Bool) (gs : List Given) (h : ℕ) (file second : List ℕ) → h ≤ length file → length file ≤ max_file → extent_of gs ≤ max_extent
    → place_of wanted gs h file second ≡ past h (place_of wanted gs 0 (drop h file) second)
unfolding place_of
place_past wanted gs h file second k l m =
    go (ltb 1 (file_count_of gs)) (is_detached gs && ltb max_file (length second)) (wanted && is_floating (number_kind (type_of gs))) (is_detached gs)
  where
    there : Place
    there = place_from gs true (length second) (after_skips gs second)

    area : List ℕ
    area = drop h file

    whole : length file ≡ h + length area
    whole = omega (arith, length-drop h file)

    here : place_from gs false (length file) (after_skips gs area) ≡ past h (place_from gs false (length area) (after_skips gs area))
    here =
        rw whole
        (past_first gs h (length area) (omega (arith, whole)) m (after_skips gs area) (skips_at_most gs area))

    go : (m a b c : Bool)
        → (if m then nowhere several_files else if a then nowhere file_too_long else if b then nowhere float_samples else if c then there else place_from gs false (length file) (after_skips gs area))
        ≡ past h
        (if m then nowhere several_files else if a then nowhere file_too_long else if b then nowhere float_samples else if c then there else place_from gs false (length area) (after_skips gs area))
    go true a b c = refl
    go false true b c = refl
    go false false true c = refl
    go false false false true = past_second gs h (length second) (after_skips gs second)
    go false false false false = here

-- the samples there are the same
check_past : (gs : List Given) (h room : ℕ) (file second : List ℕ) (p : Place)
    → check_at gs (past h p) room file second ≡ check_at gs p room (drop h file) second
check_past gs h room file second (nowhere n) = refl
check_past gs h room file second (part true start n) = refl
check_past gs h room file second (part false start n) = rw (drop-drop start h file)

-- ---- a byte skip of -1: the data is the end of its file

-- at most n bytes are left, and at most x
abbrev Last : ℕ → ℕ → Option (List ℕ) → Type 0
Last n x none = Unit {0}
Last n x (some t) = (length t ≤ n) × (length t ≤ x)

last_left : (m x : ℕ) (s : List ℕ) → Last (length s) x (and_then (skip_lines m s) (λ t. some (last_bytes x t)))
unfolding last_bytes
last_left m x s = go (skip_lines m s) (lines_at_most m s)
  where
    go : (o : Option (List ℕ)) → AtMost (length s) o → Last (length s) x (and_then o (λ t. some (last_bytes x t)))
    go none h = tt
    go (some t) h = (omega (arith, length-drop (length t - x) t), omega (arith, length-drop (length t - x) t))

-- a place in the file that these fields ask for, past a header of h bytes, as long as the extent, that ends where its file does
abbrev AtEnd : List Given → ℕ → List ℕ → List ℕ → Place → Type 0
AtEnd gs h file second (nowhere n) = Unit {0}
AtEnd gs h file second (part s start n) =
    (s ≡ is_detached gs) × ((if s then 0 else h) ≤ start) × (n ≡ extent_of gs) × (start + n ≡ length (if s then second else file))

module _ (gs : List Given) (h : ℕ) (file second : List ℕ) (r : encoding_of gs ≡ raw) (short : h ≤ length file) where
  -- in a file of which `area` bytes follow the header
  from_at_end : (s : Bool) (whole area : ℕ) → s ≡ is_detached gs → whole ≡ length (if s then second else file) → (if s then 0 else h) + area ≡ whole
      → (o : Option (List ℕ)) → Last area (extent_of gs) o → AtEnd gs h file second (place_from gs s whole o)
  from_at_end s whole area d w f none l = tt
  from_at_end s whole area d w f (some left) l = rw r (go (leb (2 ^ 64) (whole - length left + extent_of gs)) (ltb (length left) (extent_of gs)) refl)
    where
      go : (a b : Bool) → ltb (length left) (extent_of gs) ≡ b
          → AtEnd gs h file second
          (if a then nowhere place_too_large else if b then nowhere data_too_short else part s (whole - length left) (extent_of gs))
      go true b e = tt
      go false true e = tt
      go false false e =
          let k : extent_of gs ≤ length left = ltb-false (length left) (extent_of gs) e in
          let m : (if s then 0 else h) ≤ whole - length left = omega (arith, l.0, f) in
          (d, m, refl, omega (arith, l.0, l.1, k, f) ∙ w)

  place_at_end : byte_skip_of gs ≡ from_end → (wanted : Bool) → AtEnd gs h file second (place_of wanted gs h file second)
  unfolding place_of
  place_at_end e wanted = go (ltb 1 (file_count_of gs)) (is_detached gs && ltb max_file (length second)) (wanted && is_floating (number_kind (type_of gs))) (is_detached gs) refl
    where
      left : (s : List ℕ) → Last (length s) (extent_of gs) (after_skips gs s)
      left s = rw e (last_left _ (extent_of gs) s)

      go : (m a b c : Bool) → c ≡ is_detached gs
          → AtEnd gs h file second
          (if m then nowhere several_files else if a then nowhere file_too_long else if b then nowhere float_samples
          else if c then place_from gs true (length second) (after_skips gs second) else place_from gs false (length file) (after_skips gs (drop h file)))
      go true a b c d = tt
      go false true b c d = tt
      go false false true c d = tt
      go false false false true d = from_at_end true (length second) (length second) d refl (omega arith) (after_skips gs second) (left second)
      go false false false false d =
          from_at_end false (length file) (length (drop h file)) d refl (omega (arith, length-drop h file)) (after_skips gs (drop h file)) (left (drop h file))

-- a header is no longer than its file
pub header_within : (file : List ℕ) {es : List Entry} {gs : List Given} {ls : List Line} → header file ≡ accepted es gs ls → header_length es ≤ length file
header_within file {es} {gs} {ls} e = omega (arith, ap length (header_sound file e).bytes, length-append (unlines (lines_of es)) (unlines ls))

pub data_at_end : (file : List ℕ) {es : List Entry} {gs : List Given} {r : List Line} → header file ≡ accepted es gs r → byte_skip_of gs ≡ from_end
    → (wanted : Bool) (second : List ℕ) (in_second : Bool) (start n : ℕ) → place_of wanted gs (header_length es) file second ≡ part in_second start n
    → (in_second ≡ is_detached gs) × ((if in_second then 0 else header_length es) ≤ start) × (n ≡ extent_of gs) × (start + n ≡ length (if in_second then second else file))
data_at_end file {es} {gs} e b wanted second s start n p =
    subst (AtEnd gs (header_length es) file second) p
    (place_at_end gs (header_length es) file second ((accepted_keeps file e).end_is_raw b) (header_within file e) b wanted)

-- ---- the calls, of a file with an accepted header

module _ (file : List ℕ) {es : List Entry} {gs : List Given} {ls : List Line} (e : header file ≡ accepted es gs ls) (second : List ℕ) where
  -- the place in the bytes after the header
  abbrev pub place_after : Bool → Place
  place_after wanted = place_of wanted gs 0 (unlines ls) second

  place_after_lem : (wanted : Bool) → place_of wanted gs (header_length es) file second ≡ past (header_length es) (place_after wanted)
  place_after_lem wanted =
      rw (← data_area file e)
      (place_past wanted gs (header_length es) file second (header_within file e) (header_sound file e).small (accepted_keeps file e).extent_bytes)

  part_after : (wanted : Bool)
      → part_of (place_of wanted gs (header_length es) file second) file second ≡ part_of (place_after wanted) (unlines ls) second
  part_after wanted = rw (place_after_lem wanted, part_past, data_area file e)

  pub data_place_after : data_place_call file second ≡ data_answer (past (header_length es) (place_after false))
  data_place_after = rw (e, place_after_lem false)

  pub data_after : data_call file second ≡ part_of (place_after false) (unlines ls) second
  data_after = rw e (part_after false)

  check_after : (room : ℕ) → check_samples_call file second room ≡ check_at gs (place_after true) room (unlines ls) second
  check_after room = rw (e, place_after_lem true, check_past, data_area file e)

  seen_after : seen_in file second (header file) ≡ (decoded gs (part_of (place_after true) (unlines ls) second)).seen
  seen_after = rw e (ap (λ (s : List ℕ). (decoded gs s).seen) (part_after true))

  pub samples_after : (list : List ℤ)
      → samples_call file second list
      ≡ (let a = check_at gs (place_after true) (length list) (unlines ls) second in
      (a, list_after a (decoded gs (part_of (place_after true) (unlines ls) second)).seen list))
  samples_after list i =
      let a = check_after (length list) i in (a, list_after a (seen_after i) list)
