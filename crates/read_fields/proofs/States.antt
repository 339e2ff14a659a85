-- Laws of what the reader keeps: what one more field makes of it, what the header's end makes of it, and what the walk keeps.
-- Assumes nothing.
use Rattle.std.specs.Prelude.{if◌then◌else◌}
use Prim.Native.Nat.{ℕ, zero, suc, ◌+◌, ◌≤◌, ◌<◌, ◌-◌, ◌^◌, min}
use Prim.Native.String.{String}
use native.Mathlib.Nat.{zero-add}
use native.Mathlib.Omega.{arith}
use mathlib.Core.Path.{◌≡◌, refl, sym, ap, subst, ◌∙◌}
use mathlib.Core.Bool.{Bool, true, false, not, ◌&&◌, ◌||◌, false≢true}
use mathlib.Core.List.{List, [], ◌∷◌, map}
use mathlib.Core.Option.{Option, none, some, none-ne-some, some-injective}
use lib.Dec.{eqb, leb, ltb}
use lib.ListN.{length, replicate, take, get_or, set, length-map}
use lib.Seq.{take_at}
use borrow.Author.Tests.{lt-ltb, le-ltb, ltb-true, ltb-false, le-leb, leb-true, eqb-true, eq-eqb, ne_eqb}
use mir.Val.{bool_byte}
use Rattle.format.specs.declared.Reading.{Reading}
use Rattle.format.specs.declared.ReadAnswer.{ReadAnswer}
use Rattle.format.specs.Bytes.{is_any, is_some, row_from, or_default, each}
use Rattle.format.specs.Limits.{max_axes, max_size, max_extent}
use Rattle.format.specs.Refusals.{bad_descriptor, missing_field, extent_too_large, refusal, fine}
use Rattle.format.specs.Fields.{names_of, field_table, field_at, field_count, field_named, Given, given, named, descriptor_of, is_given, dimension, type, encoding, endian, sizes, line_skip, byte_skip, data_file, space, space_dimension, space_origin, space_directions, measurement_frame, needs_dimension}
use Rattle.format.specs.Spaces.{Space, space_row, spaces, space_axes, space_at, space_size, max_space}
use Rattle.format.specs.Words.{number, number_in, numbers_in, value_of_number, within, words}
use Rattle.format.specs.Descriptors.{forward, byte_skip_said, bytes_forward, is_from_end, byte_skip_of, raw, end_is_raw, meaning, is_detached, may_describe, number_said, number_of, dimension_of, no_space, space_size_of, sizes_said, sizes_of, endian_needed, has_needed, capped, extent_of, names_follow, file_count_of, cover_of, files_fine}
use Rattle.format.specs.DataFiles.{is_list, DataFile, one_file, numbered_files, listed_files, data_file_said, cover_said}
use Rattle.format.specs.Laws.{Each}
use Rattle.read_files.specs.Files.{cover_answer, files_told}
use Rattle.format.specs.Header.{Item, field, given_of, closes, Entry, wrong, right, judge, refused, with_field, after_item, version_of, header_length, field_lines}
use Rattle.format.specs.Rules.{FieldLine, Keeps}
use Rattle.format.specs.Calls.{read_answer, padded, reading_at, reading_of}
use Rattle.format.proofs.Bytes.{and_left, and_right, each_from, each_same}
use Rattle.format.proofs.Judged.{is_field, is_name, judge_keeps, after_cases}
use Rattle.format.proofs.Rules.{needed_of}
use Rattle.format.proofs.Named.{Counts, said_counts}
use Rattle.std.specs.Prelude.{Result, Ok, Err, IsErrAnd, Some, None}
use Rattle.std.specs.Prelude.{Option as Answer}
use Rattle.format.specs.declared.reason.Reason.{Reason}
use Rattle.format.specs.declared.reason.Refused.{Refused}
use Rattle.format.specs.Reasons.{reason_number, without_line}
use Rattle.format.specs.Answers.{reading_answered}
use Rattle.std.proofs.lemmas.Result.{err_from_is_err_and}
use Rattle.read_descriptors.specs.declared.check.Said.{Said}
use Rattle.read_descriptors.specs.Checked.{takes, said, sizes_kept, checked}
use Rattle.read_descriptors.proofs.Checking.{fine_length}
use Rattle.read_fields.specs.declared.state.State.{State}
use Rattle.read_fields.specs.declared.state.Step.{Step}
use Rattle.read_fields.specs.declared.state.Step.TheVariants.{Closes, Passes, Gives}
use Rattle.read_fields.specs.States.{flags, numbers_of, Kept, Holds, Known, described, step_given, step_right, numbered, with_sizes, sizes_given, step_of, stepped, kept_at, kept, kept_step, shuts, lists_files, lists, no_state, cover_kept, complete_number, finished}

-- ---- what a data file's descriptor says

-- it is of the form LIST exactly where its meaning is a list
listed_is : (d : List ℕ) → is_some (data_file_said d) ≡ true → lists_files (files_told (data_file_said d)) ≡ is_list d
listed_is d h = go (data_file_said d) h (said_counts d)
  where
    go : (o : Option DataFile) → is_some o ≡ true → Counts d o → lists_files (files_told o) ≡ is_list d
    go none h c = absurd (false≢true h)
    go (some (one_file u)) h c = sym c
    go (some (numbered_files p k axes)) h c = sym c.1
    go (some (listed_files axes)) h c = sym c

-- ---- flags and numbers

-- one field of which w says x, and the others as v does
each_set : {A : Type 0} (v w : ℕ → A) (x : A) (f n i g : ℕ) → ((k : ℕ) → (k ≡ g → ⊥) → w k ≡ v k) → w g ≡ x → g ≡ f + i → i < n
    → each w f n ≡ set (each v f n) i x
unfolding each
each_set v w x f zero i g h e p l = absurd (omega arith)
each_set v w x f (suc n) zero g h e p l =
    let q : f ≡ g = omega arith in
    rw (q, e, each_same w v (g + 1) n (λ k m l. h k (omega arith)))
each_set v w x f (suc n) (suc i) g h e p l =
    rw (h f (omega arith), each_set v w x (f + 1) n i g h e (omega arith) (omega arith))

-- what v says of a field
each_at : {A : Type 0} (v : ℕ → A) (d : A) (f : ℕ) → f < field_count → get_or (each v 0 field_count) f d ≡ v f
each_at v d f h = each_from v d 0 field_count f h ∙ rw zero-add

pub flags_at : (gs : List Given) (f : ℕ) → f < field_count → get_or (flags gs) f false ≡ is_given f gs
flags_at gs f h = each_at (λ g. is_given g gs) false f h

-- the flag of a field
pub given_at : {s : State} {gs : List Given} → Known s gs → (f : ℕ) → f < field_count → get_or s.given f false ≡ is_given f gs
given_at {s} {gs} h f l = rw h.marks_are (flags_at gs f l)

-- the number of a field
pub number_of_lem : (gs : List Given) {numbers : List ℕ} → numbers ≡ numbers_of gs → (f : ℕ) → f < field_count → get_or numbers f 0 ≡ number_of f gs
number_of_lem gs e f l = rw e (each_at (λ g. number_of g gs) 0 f l)

-- the dimension of the space, by the flags and numbers
pub size_is : (gs : List Given) {marks : List Bool} {numbers : List ℕ} → marks ≡ flags gs → numbers ≡ numbers_of gs
    → (if get_or marks space false then space_size (get_or numbers space 0) else get_or numbers space_dimension 0) ≡ space_size_of gs
size_is gs p q = rw (p, flags_at gs space (omega arith), number_of_lem gs q space (omega arith), number_of_lem gs q space_dimension (omega arith))

-- ---- one field more: it sets its flag and its number, and sizes set the sizes

module _ (f : ℕ) (d : List ℕ) (gs : List Given) where
  other_descriptor : (g : ℕ) → (g ≡ f → ⊥) → descriptor_of g (given f d ∷ gs) ≡ descriptor_of g gs
  unfolding descriptor_of
  other_descriptor g h = rw (ne_eqb g f h)

  own_descriptor : descriptor_of f (given f d ∷ gs) ≡ some d
  unfolding descriptor_of
  own_descriptor = rw (eq-eqb f f refl)

  flags_after : f < field_count → flags (given f d ∷ gs) ≡ set (flags gs) f true
  flags_after h =
      each_set (λ g. is_given g gs) (λ g. is_given g (given f d ∷ gs)) true 0 field_count f f
      (λ g n. rw (other_descriptor g n)) (rw own_descriptor) (omega arith) h

  numbers_after : f < field_count → numbers_of (given f d ∷ gs) ≡ set (numbers_of gs) f (number_said f d)
  numbers_after h =
      each_set (λ g. number_of g gs) (λ g. number_of g (given f d ∷ gs)) (number_said f d) 0 field_count f f
      (λ g n. rw (other_descriptor g n)) (rw own_descriptor) (omega arith) h

  end_after : is_given f gs ≡ false → is_from_end (byte_skip_of (given f d ∷ gs)) ≡ ((said f d).from_end || is_from_end (byte_skip_of gs))
  unfolding descriptor_of
  end_after new = go (eqb byte_skip f) refl
    where
      absent : (o : Option (List ℕ)) → is_some o ≡ false → is_from_end (meaning (forward 0) byte_skip_said o) ≡ false
      absent none e = refl
      absent (some t) e = absurd (false≢true (sym e))

      or-false : (x : Bool) → x ≡ (x || false)
      or-false true = refl
      or-false false = refl

      go : (x : Bool) → eqb byte_skip f ≡ x
          → is_from_end (meaning (forward 0) byte_skip_said (if x then some d else descriptor_of byte_skip gs)) ≡ (x && is_from_end (byte_skip_said d) || is_from_end (byte_skip_of gs))
      go true e =
          let none_before = absent (descriptor_of byte_skip gs) (rw (eqb-true byte_skip f e) new) in
          rw none_before (or-false (is_from_end (byte_skip_said d)))
      go false e = refl

  cover_after : is_given f gs ≡ false → cover_answer (cover_of (given f d ∷ gs)) ≡ cover_kept (said f d).files (cover_answer (cover_of gs))
  unfolding descriptor_of
  cover_after new = go (eqb data_file f) refl
    where
      absent : (o : Option (List ℕ)) → is_some o ≡ false → cover_answer (cover_said (meaning none data_file_said o)) ≡ None
      absent none e = refl
      absent (some t) e = absurd (false≢true (sym e))

      told : (o : Option DataFile) → cover_answer (cover_said o) ≡ cover_kept (files_told o) None
      told none = refl
      told (some (one_file t)) = refl
      told (some (numbered_files p k axes)) = refl
      told (some (listed_files axes)) = refl

      go : (x : Bool) → eqb data_file f ≡ x
          → cover_answer (cover_said (meaning none data_file_said (if x then some d else descriptor_of data_file gs)))
          ≡ cover_kept (if x then files_told (data_file_said d) else None) (cover_answer (cover_of gs))
      go true e = rw (absent (descriptor_of data_file gs) (rw (eqb-true data_file f e) new)) (told (data_file_said d))
      go false e = refl

  sizes_after : padded (sizes_of (given f d ∷ gs)) ≡ sizes_given (some (given f d)) (padded (sizes_of gs))
  unfolding descriptor_of
  sizes_after = go (eqb sizes f)
    where
      go : (x : Bool) → padded (meaning [] sizes_said (if x then some d else descriptor_of sizes gs)) ≡ (if x then padded (sizes_said d) else padded (sizes_of gs))
      go true = refl
      go false = refl

-- ---- a field with its descriptor, refused or taken

-- the step by the checker's answer
abbrev pub taken : ℕ → Answer Said → Result Step ℕ
taken f (Some y) = Ok (Gives f y)
taken f None = Err bad_descriptor

-- it is taken, by that answer and the sizes that it leaves
module _ (n m f : ℕ) (t ns : List ℕ) (x : Answer Said) (after : List ℕ) (e : ◌≡◌ {A = Answer Said × List ℕ} (x, after) (checked n m f t ns)) (h : n ≤ max_axes) where
  axes_fit : takes n m f t ≡ may_describe n m f t
  axes_fit = rw (le-leb n max_axes h) (go (eqb sizes f))
    where
      go : (s : Bool) → ((not s || true) && may_describe n m f t) ≡ may_describe n m f t
      go true = refl
      go false = refl

  pub check_taken : (s : State) → s.sizes ≡ ns
      → ◌≡◌ {A = Result Step ℕ × State} (taken f x, with_sizes s after) (stepped (described n m f t) s)
  check_taken s is = go (may_describe n m f t) (rw axes_fit at e)
    where
      go : (b : Bool) → ◌≡◌ {A = Answer Said × List ℕ} (x, after) (if b then Some (said f t) else None, if b then sizes_kept f t ns else ns)
          → ◌≡◌ {A = Result Step ℕ × State} (taken f x, with_sizes s after) (stepped (if not b then wrong bad_descriptor else right (field f t)) s)
      go true q = rw (ap (λ (y : Answer Said × List ℕ). y.0) q, ap (λ (y : Answer Said × List ℕ). y.1) q, is)
      go false q = rw (ap (λ (y : Answer Said × List ℕ). y.0) q, ap (λ (y : Answer Said × List ℕ). y.1) q, is)

-- ---- the end of the header

pub needs_sizes : (gs : List Given) → has_needed gs ≡ true → is_given sizes gs ≡ true
needs_sizes gs e = (needed_of gs e).has_sizes

-- the bytes skipped, as they are kept
bytes_kept : (gs : List Given) → number_of byte_skip gs ≡ bytes_forward (byte_skip_of gs)
bytes_kept gs = go (descriptor_of byte_skip gs)
  where
    go : (o : Option (List ℕ)) → meaning 0 (number_said byte_skip) o ≡ bytes_forward (meaning (forward 0) byte_skip_said o)
    go none = refl
    go (some t) = refl

module _ (s : State) (gs : List Given) (h : Holds s gs) where
  flag_at : (f : ℕ) → f < field_count → get_or s.given f false ≡ is_given f gs
  flag_at f l = rw h.marks_are (flags_at gs f l)

  pub number_at : (f : ℕ) → f < field_count → get_or s.numbers f 0 ≡ number_of f gs
  number_at = number_of_lem gs h.numbers_are

  -- a data file is given
  pub detached_is : get_or s.given data_file false ≡ is_detached gs
  detached_is = flag_at data_file (omega arith)

  -- the fields that are needed
  pub needed_is : (get_or s.given dimension false && (get_or s.given type false && (get_or s.given encoding false && (get_or s.given sizes false && (get_or s.given endian false || not (endian_needed (get_or s.numbers type 0) (get_or s.numbers encoding 0))))))) ≡ has_needed gs
  unfolding each has_needed
  needed_is = rw (h.marks_are, h.numbers_are)

  -- whether a byte skip of -1, if it is one, stands with raw
  pub raw_is : (not s.from_end || eqb (get_or s.numbers encoding 0) raw) ≡ end_is_raw gs
  unfolding end_is_raw
  raw_is = rw (h.end_is, number_at encoding (omega arith))

  -- the sizes
  pub axes_are : is_given sizes gs ≡ true → take (min (get_or s.numbers dimension 0) max_axes) s.sizes ≡ sizes_of gs
  axes_are e =
      let few : min (dimension_of gs) max_axes ≡ dimension_of gs = omega (arith, h.kept.axes) in
      rw (number_at dimension (omega arith), few, h.sizes_are, take_at (sizes_of gs) (replicate (max_axes - length (sizes_of gs)) 0) (dimension_of gs) (h.kept.sized e))

  -- the reading that they make
  pub reading_is : (version bytes count before last : ℕ) {there : Bool} {x size : ℕ} → there ≡ is_detached gs → last + 1 ≡ file_count_of gs → x ≡ extent_of gs → size ≡ space_size_of gs → file_count_of gs ≤ max_extent → 0 ≡ complete_number gs
      → ◌≡◌ {A = ReadAnswer} (record {
        refusal = fine;
        reading = record {
          version = version;
          form = bool_byte there;
          dimension = get_or s.numbers dimension 0;
          sampletype = get_or s.numbers type 0;
          encoding = get_or s.numbers encoding 0;
          endian = get_or s.numbers endian 0;
          sizes = s.sizes;
          lineskip = get_or s.numbers line_skip 0;
          byteskip = get_or s.numbers byte_skip 0;
          extent = x;
          length = bytes;
          lines = count;
          fromend = s.from_end;
          origin = get_or s.given space_origin false;
          directions = get_or s.given space_directions false;
          frame = get_or s.given measurement_frame false;
          space = get_or s.numbers space 0;
          spacedimension = size;
          files = min (last + 1) (2 ^ 32 - 1);
          fieldlines = before;
        };
      }) (finished version gs bytes count before)
  unfolding finished each
  reading_is version bytes count before last {there} {x} {size} d f e z few c =
      let k : min (last + 1) (2 ^ 32 - 1) ≡ file_count_of gs = omega (arith, f, few) in
      rw (d, k, e, z, ← c, number_at byte_skip (omega arith), bytes_kept gs, h.marks_are, h.numbers_are, h.sizes_are, h.end_is, form_of (is_detached gs)) refl
    where
      form_of : (b : Bool) → bool_byte b ≡ (if b then 1 else 0)
      form_of true = refl
      form_of false = refl

-- ---- the refusal at the end, by the tests in their order

module _ (gs : List Given) where
  pub complete_missing : has_needed gs ≡ false → missing_field ≡ complete_number gs
  unfolding complete_number
  complete_missing e = rw e refl

  pub complete_unfit : has_needed gs ≡ true → end_is_raw gs ≡ false → bad_descriptor ≡ complete_number gs
  unfolding complete_number
  complete_unfit e s = rw (e, s) refl

  pub complete_large : has_needed gs ≡ true → end_is_raw gs ≡ true → max_extent < extent_of gs → extent_too_large ≡ complete_number gs
  unfolding complete_number
  complete_large e s l = rw (e, s, lt-ltb max_extent (extent_of gs) l) refl

  pub complete_uneven : has_needed gs ≡ true → end_is_raw gs ≡ true → extent_of gs ≤ max_extent → files_fine gs ≡ false → bad_descriptor ≡ complete_number gs
  unfolding complete_number
  complete_uneven e s l f = rw (e, s, le-ltb max_extent (extent_of gs) l, f) refl

  pub complete_fine : has_needed gs ≡ true → end_is_raw gs ≡ true → extent_of gs ≤ max_extent → files_fine gs ≡ true → 0 ≡ complete_number gs
  unfolding complete_number
  complete_fine e s l f = rw (e, s, le-ltb max_extent (extent_of gs) l, f) refl

-- nothing is refused
pub record Complete (gs : List Given) : Type 0 where
  pub needed : has_needed gs ≡ true
  pub within : extent_of gs ≤ max_extent
  pub shared : files_fine gs ≡ true

pub complete_is : (gs : List Given) → 0 ≡ complete_number gs → Complete gs
unfolding complete_number
complete_is gs z = go (has_needed gs) refl (end_is_raw gs) (ltb max_extent (extent_of gs)) refl (files_fine gs) refl z
  where
    go : (n : Bool) → has_needed gs ≡ n → (r l : Bool) → ltb max_extent (extent_of gs) ≡ l → (f : Bool) → files_fine gs ≡ f
        → 0 ≡ (if not n then missing_field else if not r then bad_descriptor else if l then extent_too_large else if not f then bad_descriptor else 0) → Complete gs
    go false e r l g f k q = absurd (omega (arith, q))
    go true e false l g f k q = absurd (omega (arith, q))
    go true e true true g f k q = absurd (omega (arith, q))
    go true e true false g false k q = absurd (omega (arith, q))
    go true e true false g true k q = record { needed = e; within = ltb-false max_extent (extent_of gs) g; shared = k }

-- no reason has the number 0
pub some_number : (w : Reason) → reason_number w ≡ 0 → ⊥
some_number w e = grind arith

pub reason_some : (w : Reason) → eqb (reason_number w) 0 ≡ false
reason_some w = ne_eqb (reason_number w) 0 (some_number w)

-- the answer of what is refused at the end
pub finish_refused : (version : ℕ) (gs : List Given) (bytes count before : ℕ) (r : Result Reading Refused) (w : Reason) → IsErrAnd r (λ e. e ≡ without_line w) → reason_number w ≡ complete_number gs
    → reading_answered r ≡ finished version gs bytes count before
unfolding finished
finish_refused version gs bytes count before r w q z =
    let e = err_from_is_err_and r q in
    rw (← z, reason_some w, e.1, e.2) refl

-- the reading of an accepted header, by its fields
pub reading_at_lem : (es : List Entry) (gs : List Given) → reading_of es gs ≡ reading_at (version_of es) gs (header_length es) (length es) (field_lines es)
unfolding reading_of
reading_at_lem es gs = refl

-- ---- what the walk keeps

-- no field is given
pub kept_none : Kept []
unfolding descriptor_of
kept_none =
    record {
      axes = omega arith;
      spaces = omega arith;
      ordered = λ e. absurd (false≢true e);
      sized = λ e. absurd (false≢true e);
      wholes = tt;
      filed = λ d e. absurd (none-ne-some _ e);
    }

-- a number in a range is at most the largest
within_most : (least most : ℕ) (o : Option ℕ) → within least most o ≡ true → or_default 0 o ≤ most
within_most least most none e = omega arith
within_most least most (some n) e = leb-true n most (and_right (leb least n) (leb n most) e)

-- no space of the list has more dimensions than a space may have
abbrev Fit : List Space → Type 0
Fit [] = Unit
Fit (r ∷ rs) = (space_axes r ≤ max_space) × Fit rs

fit_at : (rs : List Space) → Fit rs → (i : ℕ) → space_axes (get_or rs i (space_row [] 0)) ≤ max_space
fit_at [] h i = omega arith
fit_at (r ∷ rs) h zero = h.0
fit_at (r ∷ rs) h (suc i) = fit_at rs h.1 i

sizes_fit : (i : ℕ) → space_size i ≤ max_space
unfolding space_at
sizes_fit = fit_at spaces (three, (three, (three, (four, (four, (four, (three, (four, (three, (three, (four, (four, tt))))))))))))
  where
    three : 3 ≤ max_space
    three = omega arith

    four : 4 ≤ max_space
    four = omega arith

-- no size is 0
sizes_some : (ws : List (List ℕ)) → numbers_in 1 max_size ws ≡ true → Each (λ (n : ℕ). 1 ≤ n) (map value_of_number ws)
unfolding numbers_in
sizes_some [] h = tt
sizes_some (w ∷ ws) h = (one (number w) (and_left (number_in 1 max_size w) (numbers_in 1 max_size ws) h), sizes_some ws (and_right (number_in 1 max_size w) (numbers_in 1 max_size ws) h))
  where
    one : (o : Option ℕ) → within 1 max_size o ≡ true → 1 ≤ or_default 0 o
    one none e = absurd (false≢true e)
    one (some n) e = leb-true 1 n (and_left (leb 1 n) (leb n max_size) e)

-- one field more
module _ (version : ℕ) {gs : List Given} {t : List ℕ} (f : ℕ) (d : List ℕ) (k : Kept gs) (h : FieldLine version gs t f d) where
  -- what the field itself may say, and how it comes
  own : (g : ℕ) → g ≡ f → may_describe (dimension_of gs) (space_size_of gs) g d ≡ true
  own g e = rw e h.described

  kept_axes : dimension_of (given f d ∷ gs) ≤ max_axes
  unfolding descriptor_of may_describe
  kept_axes = go (eqb dimension f) refl
    where
      go : (x : Bool) → eqb dimension f ≡ x → meaning 0 (number_said dimension) (if x then some d else descriptor_of dimension gs) ≤ max_axes
      go true e = within_most 1 max_axes (number d) (own dimension (eqb-true dimension f e))
      go false e = k.axes

  kept_spaces : space_size_of (given f d ∷ gs) ≤ max_space
  unfolding descriptor_of may_describe
  kept_spaces = go (eqb space f) refl (eqb space_dimension f) refl
    where
      said : (o : Option (List ℕ)) → is_some o ≡ false → (if is_some o then space_size (meaning no_space (number_said space) o) else value_of_number d) ≡ value_of_number d
      said none e = refl
      said (some t) e = absurd (false≢true (sym e))

      -- by the space that is given before, or else by the dimension n
      before : (o : Option (List ℕ)) (n : ℕ) → n ≤ max_space → (if is_some o then space_size (meaning no_space (number_said space) o) else n) ≤ max_space
      before none n l = l
      before (some t) n l = sizes_fit (number_said space t)

      go : (x : Bool) → eqb space f ≡ x → (y : Bool) → eqb space_dimension f ≡ y
          → (if is_some (if x then some d else descriptor_of space gs) then space_size (meaning no_space (number_said space) (if x then some d else descriptor_of space gs))
          else meaning 0 (number_said space_dimension) (if y then some d else descriptor_of space_dimension gs)) ≤ max_space
      go true e y q = sizes_fit (number_said space d)
      go false e true q = before (descriptor_of space gs) (value_of_number d) (within_most 1 max_space (number d) (own space_dimension (eqb-true space_dimension f q)))
      go false e false q = k.spaces

  kept_ordered : is_given sizes (given f d ∷ gs) ≡ true → is_given dimension (given f d ∷ gs) ≡ true
  unfolding descriptor_of field_at
  kept_ordered = go (eqb sizes f) refl (eqb dimension f)
    where
      go : (x : Bool) → eqb sizes f ≡ x → (y : Bool) → is_some (if x then some d else descriptor_of sizes gs) ≡ true → is_some (if y then some d else descriptor_of dimension gs) ≡ true
      go x e true p = refl
      go true e false p = h.after_dimension (ap needs_dimension (sym (eqb-true sizes f e)))
      go false e false p = k.ordered p

  kept_sized : is_given sizes (given f d ∷ gs) ≡ true → length (sizes_of (given f d ∷ gs)) ≡ dimension_of (given f d ∷ gs)
  unfolding descriptor_of may_describe
  kept_sized = go (eqb sizes f) refl (eqb dimension f) refl
    where
      go : (x : Bool) → eqb sizes f ≡ x → (y : Bool) → eqb dimension f ≡ y → is_some (if x then some d else descriptor_of sizes gs) ≡ true
          → length (meaning [] sizes_said (if x then some d else descriptor_of sizes gs)) ≡ meaning 0 (number_said dimension) (if y then some d else descriptor_of dimension gs)
      go true e true q p = absurd (let z : ⊥ = omega (arith, eqb-true sizes f e, eqb-true dimension f q) in z)
      go true e false q p = length-map (words d) value_of_number ∙ fine_length (dimension_of gs) (words d) (own sizes (eqb-true sizes f e))
      go false e true q p = absurd (false≢true (sym (rw (eqb-true dimension f q) h.new) ∙ k.ordered p))
      go false e false q p = k.sized p

  kept_wholes : Each (λ (n : ℕ). 1 ≤ n) (sizes_of (given f d ∷ gs))
  unfolding descriptor_of may_describe
  kept_wholes = go (eqb sizes f) refl
    where
      go : (x : Bool) → eqb sizes f ≡ x → Each (λ (n : ℕ). 1 ≤ n) (meaning [] sizes_said (if x then some d else descriptor_of sizes gs))
      go true e = sizes_some (words d) (and_right (eqb (length (words d)) (dimension_of gs)) (numbers_in 1 max_size (words d)) (own sizes (eqb-true sizes f e)))
      go false e = k.wholes

  kept_filed : (c : List ℕ) → descriptor_of data_file (given f d ∷ gs) ≡ some c → is_some (data_file_said c) ≡ true
  unfolding descriptor_of may_describe
  kept_filed c = go (eqb data_file f) refl
    where
      go : (x : Bool) → eqb data_file f ≡ x → (if x then some d else descriptor_of data_file gs) ≡ some c → is_some (data_file_said c) ≡ true
      go true e q = rw (← some-injective d c q) (own data_file (eqb-true data_file f e))
      go false e q = k.filed c q

  kept_field : Kept (given f d ∷ gs)
  kept_field = record { axes = kept_axes; spaces = kept_spaces; ordered = kept_ordered; sized = kept_sized; wholes = kept_wholes; filed = kept_filed }

-- ---- the field of a name is below their number

abbrev Below : ℕ → Option ℕ → Type 0
Below n none = Unit
Below n (some f) = f < n

row_below : (w : List ℕ) (rs : List (List String)) (i : ℕ) → Below (i + length rs) (row_from i w rs)
unfolding row_from
row_below w [] i = tt
row_below w (r ∷ rs) i = go (is_any w r) (row_below w rs (i + 1))
  where
    go : (x : Bool) → Below (i + 1 + length rs) (row_from (i + 1) w rs)
        → Below (i + suc (length rs)) (if x then some i else row_from (i + 1) w rs)
    go true h = omega arith
    go false h = let e : i + suc (length rs) ≡ i + 1 + length rs = omega arith in rw e h

pub field_below : (name : List ℕ) (f : ℕ) → field_named name ≡ some f → f < field_count
field_below name f e = rw e at (row_below name (map names_of field_table) 0)

-- a name changes nothing of it
kept_name : (gs : List Given) (n : List ℕ) → Kept gs → Kept (named n ∷ gs)
unfolding descriptor_of
kept_name gs n k = record { axes = k.axes; spaces = k.spaces; ordered = k.ordered; sized = k.sized; wholes = k.wholes; filed = k.filed }

-- one line more
pub kept_next : (version : ℕ) (gs : List Given) (t : List ℕ) (i : Item) → Kept gs → judge version gs t ≡ right i → Kept (after_item i gs)
kept_next version gs t i k e = after_cases version gs t Kept e k (λ f d s. kept_field version f d k s) (λ n s. kept_name gs n k)

-- ---- what is kept once a line is read

-- no field is given
pub holds_none : (version : ℕ) → Holds (no_state version) []
unfolding descriptor_of
holds_none version = record { marks_are = refl; numbers_are = refl; sizes_are = refl; end_is = refl; cover_is = refl; kept = kept_none }

-- a name changes nothing of what is kept
pub holds_name : {s : State} {gs : List Given} (n : List ℕ) → Holds s gs → Holds s (named n ∷ gs)
unfolding descriptor_of
holds_name {s} {gs} n h =
    record { marks_are = h.marks_are; numbers_are = h.numbers_are; sizes_are = h.sizes_are; end_is = h.end_is; cover_is = h.cover_is; kept = kept_name gs n h.kept }

pub shuts_is : (i : Item) → shuts (step_right i) ≡ closes i
shuts_is i = go (closes i) (given_of i)
  where
    go : (b : Bool) (o : Option Given) → shuts (if b then Closes else step_given o) ≡ b
    go true o = refl
    go false none = refl
    go false (some (given f d)) = refl
    go false (some (named t)) = refl

-- the state once a line is read, by what it gives
pub holds_next : (t : List ℕ) (i : Item) {s : State} {gs : List Given}
    → Holds s gs → judge s.version gs t ≡ right i → Holds (kept_step (step_given (given_of i)) (with_sizes s (sizes_given (given_of i) s.sizes))) (after_item i gs)
holds_next t i {s} {gs} h j = go (given_of i) refl
  where
    go : (o : Option Given) → given_of i ≡ o → Holds (kept_step (step_given o) (with_sizes s (sizes_given o s.sizes))) (with_field o gs)
    go none e = h
    go (some (named n)) e = holds_name n h
    go (some (given f d)) e =
        let k : FieldLine s.version gs t f d = subst (Keeps s.version gs t) (is_field i e) (judge_keeps s.version gs t j) in
        let b = field_below k.name f k.named in
        let l = lt-ltb f field_count b in
        record {
          marks_are = rw (l, h.marks_are) (sym (flags_after f d gs b));
          numbers_are = rw (l, h.numbers_are) (sym (numbers_after f d gs b));
          sizes_are = rw h.sizes_are (sym (sizes_after f d gs));
          end_is = rw h.end_is (sym (end_after f d gs k.new));
          cover_is = rw h.cover_is (sym (cover_after f d gs k.new));
          kept = kept_field s.version f d h.kept k;
        }

-- what the judgement of a line has to know
pub known_of : {s : State} {gs : List Given} → Holds s gs → names_follow gs ≡ false → Known s gs
known_of h n = record { marks_are = h.marks_are; numbers_are = h.numbers_are; axes = h.kept.axes; spaces = h.kept.spaces; no_names = n }

-- ---- names follow exactly where the line says LIST

pub list_after : (version : ℕ) (gs : List Given) (t : List ℕ) (i : Item) → judge version gs t ≡ right i → names_follow gs ≡ false → names_follow (after_item i gs) ≡ lists (step_given (given_of i))
unfolding names_follow descriptor_of may_describe
list_after version gs t i j n = go (given_of i) refl
  where
    field_after : (f : ℕ) (d : List ℕ) → FieldLine version gs t f d → (x : Bool) → eqb data_file f ≡ x
        → meaning false is_list (if x then some d else descriptor_of data_file gs) ≡ lists_files (if x then files_told (data_file_said d) else None)
    field_after f d s true e = sym (listed_is d (subst (λ g. may_describe (dimension_of gs) (space_size_of gs) g d ≡ true) (sym (eqb-true data_file f e)) s.described))
    field_after f d s false e = n

    go : (o : Option Given) → given_of i ≡ o → names_follow (with_field o gs) ≡ lists (step_given o)
    go none e = n
    go (some (given f d)) e = field_after f d (subst (Keeps version gs t) (is_field i e) (judge_keeps version gs t j)) (eqb data_file f) refl
    go (some (named u)) e = absurd (false≢true (sym n ∙ (subst (Keeps version gs t) (is_name i e) (judge_keeps version gs t j)).follows))
