-- Laws of descriptors: where one stands, and what the answers of the leaves say of it.
-- Assumes nothing.
use Rattle.std.specs.Prelude.{if◌then◌else◌, Some, None}
use Rattle.std.specs.Prelude.{Option as Answer}
use Rattle.std.specs.Prelude.{is_some as is_there}
use Rattle.std.proofs.lemmas.Option.{none-some}
use Prim.Native.Nat.{ℕ, ◌-◌}
use mathlib.Core.Path.{◌≡◌, refl, sym, ap, ◌∙◌}
use mathlib.Core.Bool.{Bool, true, false, ◌&&◌, ◌||◌, false≢true}
use mathlib.Core.List.{List, [], ◌∷◌, ◌++◌, map}
use mathlib.Core.Option.{Option, none, some}
use lib.Dec.{eqb, leb}
use lib.ListN.{length, replicate, take, drop, length-drop, length-map}
use lib.Seq.{take-length}
use borrow.Author.Tests.{eqb-true, ne_eqb}
use Rattle.format.specs.Bytes.{is_in, is_some}
use Rattle.format.specs.Limits.{max_axes, max_size}
use Rattle.format.specs.Fields.{dimension, type, encoding, endian, sizes, line_skip, byte_skip, data_file, space, space_dimension, space_origin, space_directions, measurement_frame, centers, labels, units, kinds}
use Rattle.format.specs.Words.{trim_end, value_of_number, words, numbers_in}
use Rattle.format.specs.Descriptors.{from_descriptor, descriptor, may_describe, number_said, sizes_fine, sizes_said}
use Rattle.format.specs.Kinds.{centrings_said, kinds_said}
use Rattle.format.specs.Strings.{Quoted, strings_said}
use Rattle.format.specs.DataFiles.{data_file_said}
use Rattle.format.specs.Calls.{padded}
use Rattle.format.proofs.Bytes.{and_left, and_right}
use Rattle.format.proofs.Descriptors.{drop_to_descriptor, take_trimmed}
use Rattle.read_files.specs.declared.Files.{Files}
use Rattle.read_files.specs.Files.{files_told, files_last}
use Rattle.read_files.proofs.FileLaws.{told_none, told_some, told_last}
use Rattle.read_text.specs.Numbers.{sizes_in}
use Rattle.read_text.proofs.Places.{eqb_comm}
use Rattle.read_axes.specs.declared.strings.Span.{Span}
use Rattle.read_axes.specs.Codes.{codes_padded}
use Rattle.read_axes.specs.Strings.{spans_from}
use Rattle.read_descriptors.specs.declared.check.Said.{Said}
use Rattle.read_descriptors.specs.Checked.{spoken, found, said, answered, checked, asked, oriented, NoneOf}

-- ---- where a descriptor stands

-- the part of what follows the mark that starts where the descriptor does, up to its last byte that is no blank
pub descriptor_part : (f : ℕ) (rest : List ℕ) (from n : ℕ) → from ≡ length rest - length (from_descriptor f rest)
    → n ≡ length (trim_end (take (length rest - from) (drop from rest)))
    → take n (take (length rest - from) (drop from rest)) ≡ descriptor f rest
unfolding descriptor
descriptor_part f rest from n e i =
    let d = drop from rest in
    let all : take (length rest - from) d ≡ d = rw (← length-drop from rest, take-length) in
    let is : d ≡ from_descriptor f rest = rw e (drop_to_descriptor f rest) in
    rw (i, all) (take_trimmed d ∙ ap trim_end is)

-- ---- a field that keeps no sizes

-- they are those of before, taken or not
pub stay : (b : Bool) (y : Said) (ns : List ℕ) {x : Answer Said} → x ≡ (if b then Some y else None)
    → ◌≡◌ {A = Answer Said × List ℕ} (x, ns) (if b then Some y else None, if b then ns else ns)
stay b y ns {x} e = rw e (go b)
  where
    go : (b : Bool) → ◌≡◌ {A = Answer Said × List ℕ} (if b then Some y else None, ns) (if b then Some y else None, if b then ns else ns)
    go true = refl
    go false = refl

-- ---- sizes

-- fine sizes are as many as asked
pub fine_length : (n : ℕ) (ws : List (List ℕ)) → sizes_fine n ws ≡ true → length ws ≡ n
fine_length n ws e = eqb-true (length ws) n (and_left (eqb (length ws) n) (numbers_in 1 max_size ws) e)

-- none are kept, or those that are read
pub sizes_none : (n m : ℕ) (t ns : List ℕ) → None ≡ sizes_in n (words t) → ◌≡◌ {A = Answer Said × List ℕ} (None, ns) (checked n m sizes t ns)
unfolding sizes_in may_describe
sizes_none n m t ns e = go (leb n max_axes && sizes_fine n (words t)) e
  where
    go : (x : Bool) → None ≡ (if x then Some (map value_of_number (words t) ++ replicate (max_axes - n) 0) else None)
        → ◌≡◌ {A = Answer Said × List ℕ} (None, ns) (found x 0 false, if x then padded (sizes_said t) else ns)
    go true q = absurd (none-some _ q)
    go false q = refl

pub sizes_read : (n m : ℕ) (t ns : List ℕ) (read : List ℕ) → Some read ≡ sizes_in n (words t) → ◌≡◌ {A = Answer Said × List ℕ} (Some (spoken 0 false), read) (checked n m sizes t ns)
unfolding sizes_in may_describe
sizes_read n m t ns read e = go (leb n max_axes && sizes_fine n (words t)) refl e
  where
    go : (x : Bool) → (leb n max_axes && sizes_fine n (words t)) ≡ x → Some read ≡ (if x then Some (map value_of_number (words t) ++ replicate (max_axes - n) 0) else None)
        → ◌≡◌ {A = Answer Said × List ℕ} (Some (spoken 0 false), read) (found x 0 false, if x then padded (sizes_said t) else ns)
    go true s q =
        let k = fine_length n (words t) (and_right (leb n max_axes) (sizes_fine n (words t)) s) in
        let r : read ≡ map value_of_number (words t) ++ replicate (max_axes - n) 0 = cc in
        rw (r, length-map (words t) value_of_number, k)
    go false s q = absurd (none-some _ (sym q))

-- ---- fields that may have any descriptor: those that `check` has no arm for

none_is : (f : ℕ) (gs : List ℕ) → NoneOf f gs → (g : ℕ) → is_in g gs ≡ true → eqb f g ≡ false
unfolding is_in
none_is f [] h g e = absurd (false≢true e)
none_is f (x ∷ gs) h g e = go (eqb g x) refl e (none_is f gs h.0 g)
  where
    go : (b : Bool) → eqb g x ≡ b → (b || is_in g gs) ≡ true → (is_in g gs ≡ true → eqb f g ≡ false) → eqb f g ≡ false
    go true q e i = ne_eqb f g (λ z. h.1 (z ∙ eqb-true g x q))
    go false q e i = i e

-- what such a field says goes by `may_describe` alone: it keeps no sizes, and says nothing of the end or of files
pub other_checked : (n m f : ℕ) (t ns : List ℕ) → NoneOf f asked
    → ◌≡◌ {A = Answer Said × List ℕ} (found (may_describe n m f t) (number_said f t) false, ns) (checked n m f t ns)
unfolding is_in
other_checked n m f t ns h = rw (no sizes refl, no byte_skip refl, no data_file refl) (stay (may_describe n m f t) (spoken (number_said f t) false) ns refl)
  where
    no : (g : ℕ) → is_in g asked ≡ true → eqb g f ≡ false
    no g e = eqb_comm g f ∙ none_is f asked h g e

-- the arms of `check_axes`, the last one first
abbrev pub axial : List ℕ
axial = kinds ∷ units ∷ labels ∷ centers ∷ []

-- a field that has no arm in `check` and in `check_orientation` is none of theirs
module _ (n m f : ℕ) (t : List ℕ) (h : NoneOf f asked) (k : NoneOf f oriented) where
  no : (g : ℕ) → is_in g asked ≡ true → eqb f g ≡ false
  no = none_is f asked h

  nor : (g : ℕ) → is_in g oriented ≡ true → eqb f g ≡ false
  nor = none_is f oriented k

  -- what it may say is asked of the fields after those
  pub axis_taken : may_describe n m f t
      ≡ (if eqb f centers then is_some (centrings_said n t) else if eqb f kinds then is_some (kinds_said n t) else if eqb f labels then is_some (strings_said n t) else if eqb f units then is_some (strings_said n t) else true)
  unfolding may_describe is_in
  axis_taken =
      rw (no dimension refl, no type refl, no encoding refl, no endian refl, no sizes refl, no line_skip refl, no byte_skip refl, no data_file refl, nor space refl, nor space_dimension refl, nor space_origin refl, nor space_directions refl, nor measurement_frame refl)

  -- and it says no number
  pub no_number : number_said f t ≡ 0
  unfolding is_in
  no_number =
      rw (no dimension refl, no type refl, no encoding refl, no endian refl, no line_skip refl, no byte_skip refl, no data_file refl, nor space refl, nor space_dimension refl)

  -- a field that has no arm in `check_axes` either may have any descriptor
  pub any_taken : NoneOf f axial → found true 0 false ≡ found (may_describe n m f t) (number_said f t) false
  unfolding is_in
  any_taken q = rw (axis_taken, no_number, none_is f axial q centers refl, none_is f axial q kinds refl, none_is f axial q labels refl, none_is f axial q units refl)

-- ---- words and strings for each axis: they are read where the descriptor says them

pub codes_there : (o : Option (List ℕ)) (r : Answer (List ℕ)) → r ≡ codes_padded o → is_there r ≡ is_some o
codes_there none r e = rw e
codes_there (some ns) r e = rw e

pub strings_there : (base : ℕ) (o : Option (List Quoted)) (r : Answer (List Span)) → r ≡ spans_from base o → is_there r ≡ is_some o
unfolding spans_from
strings_there base none r e = rw e
strings_there base (some qs) r e = rw e

-- ---- data files

-- what is said of data files is the answer for that field
pub files_none : (n m : ℕ) (t : List ℕ) → None ≡ files_told (data_file_said t) → None ≡ answered n m data_file t
unfolding may_describe
files_none n m t e = rw (told_none (data_file_said t) e)

pub files_said : (n m : ℕ) (t : List ℕ) (f : Files) → Some f ≡ files_told (data_file_said t)
    → Some (record { number = files_last f; from_end = false; files = Some f }) ≡ answered n m data_file t
unfolding may_describe
files_said n m t f e = rw (told_some (data_file_said t) e, ← e, told_last (data_file_said t) e)
