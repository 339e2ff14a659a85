-- Laws of what a line is: fields by number, the fields given, and the judgement along its tests.
-- Assumes nothing.
use Rattle.std.specs.Prelude.{if◌then◌else◌}
use Prim.Native.Nat.{ℕ, zero, suc, ◌-◌, ◌≤◌, ◌<◌}
use native.Mathlib.Omega.{arith}
use mathlib.Core.Path.{◌≡◌, refl, sym, ap, ◌∙◌}
use mathlib.Core.Bool.{Bool, true, false, not, ◌&&◌, ◌||◌, and-true}
use mathlib.Core.List.{List, [], ◌∷◌}
use mathlib.Core.Option.{Option, none, some}
use lib.Dec.{ltb, eqb}
use lib.ListN.{length, take, drop, get_or, length-drop}
use lib.Seq.{take-length, get_or-take}
use borrow.Author.Tests.{lt-ltb, le-ltb, ltb-true, eqb-true, eqb-false, eq-eqb, ne_eqb}
use Rattle.format.specs.Bytes.{every, is_some}
use Rattle.format.specs.Limits.{max_axes, max_header}
use Rattle.format.specs.Spaces.{max_space}
use Rattle.format.specs.Refusals.{bad_byte, no_mark, not_in_version, repeated_field, out_of_order, bad_backslash}
use Rattle.format.specs.Pairs.{plain, unmarked, pair_mark, LineKind, other_line, kind_of, unescape}
use Rattle.format.specs.Fields.{FieldRow, field_table, no_field, field_at, space_before, pairs_since, many_files_since, field_since, field_count, data_file, Given, is_given, dimension, space, space_dimension, space_origin, space_directions, measurement_frame, other_field, is_repeated, needs_dimension, needs_space, in_order}
use Rattle.format.specs.Descriptors.{descriptor, since, may_describe, dimension_of, space_size_of, names_follow}
use Rattle.format.specs.DataFiles.{is_many_form}
use Rattle.format.specs.Header.{Judged, wrong, unescaped, on_pair, on_field, on_kind, judge}
use Rattle.format.proofs.Descriptors.{descriptor_le}
use Rattle.format.proofs.Judged.{judge_by_text}
use Rattle.std.specs.Prelude.{Result, Ok, Err, IsErrAnd}
use Rattle.std.proofs.lemmas.Result.{err_from_is_err_and}
use Rattle.format.specs.declared.reason.Reason.{Reason}
use Rattle.format.specs.Reasons.{reason_number}
use Rattle.read_fields.specs.declared.state.State.{State}
use Rattle.read_fields.specs.declared.state.Step.{Step}
use Rattle.read_fields.specs.declared.state.Step.TheVariants.{Closes, Passes, Gives}
use Rattle.read_fields.specs.States.{flags, Known, space_for, described, numbered, step_of, stepped, wrong_of}
use Rattle.read_fields.proofs.States.{flags_at, reason_some}

-- ---- the fields given, by number

-- none of these rows is of a field that lies in a space
abbrev Apart : List FieldRow → Type 0
Apart [] = Unit
Apart (r ∷ rs) = (space_before r ≡ false) × Apart rs

apart_at : (rs : List FieldRow) → Apart rs → (i : ℕ) → space_before (get_or rs i no_field) ≡ false
apart_at [] h i = refl
apart_at (r ∷ rs) h zero = h.0
apart_at (r ∷ rs) h (suc i) = apart_at rs h.1 i

-- no field before space does
pub needs_no_space : (f : ℕ) → f < space → needs_space f ≡ false
unfolding field_at
needs_no_space f l =
    rw (get_or-take 16 field_table f no_field l) at (apart_at (take 16 field_table) (refl, (refl, (refl, (refl, (refl, (refl, (refl, (refl, (refl, (refl, (refl, (refl, (refl, (refl, (refl, (refl, tt)))))))))))))))) f)

-- whether dimension is given where the field comes after it
pub axes_by_flags : (f : ℕ) (gs : List Given) {g : List Bool} {axes : Bool} → axes ≡ needs_dimension f → g ≡ flags gs
    → (not axes || get_or g dimension false) ≡ (not (needs_dimension f) || is_given dimension gs)
axes_by_flags f gs p e = rw (e, p, flags_at gs dimension (omega arith))

-- the order of a field that lies in no space, and of one that does
module _ (f : ℕ) (gs : List Given) {after : Bool} (a : after ≡ (not (needs_dimension f) || is_given dimension gs)) where
  pub order_apart : needs_space f ≡ false → after ≡ in_order f gs
  unfolding in_order
  order_apart n = a ∙ rw n (sym (and-true (not (needs_dimension f) || is_given dimension gs)))

  pub order_in_space : {g : List Bool} → needs_space f ≡ true → g ≡ flags gs → (after && (get_or g space false || get_or g space_dimension false)) ≡ in_order f gs
  unfolding in_order
  order_in_space n e = rw (a, n, e, flags_at gs space (omega arith), flags_at gs space_dimension (omega arith))

-- whether a field or one that says the same is given, by the flags: of a field that is neither space nor space dimension, and of these
or_same : (x : Bool) → x ≡ (x || x)
or_same true = refl
or_same false = refl

pub repeated_alone : (f : ℕ) (gs : List Given) {g : List Bool} → f < field_count → (f ≡ space → ⊥) → (f ≡ space_dimension → ⊥) → g ≡ flags gs
    → get_or g f false ≡ is_repeated f gs
unfolding is_repeated
repeated_alone f gs l n m e = rw (e, flags_at gs f l, ne_eqb f space n, ne_eqb f space_dimension m) (or_same (is_given f gs))

pub repeated_either : (f : ℕ) (gs : List Given) {g : List Bool} → space ≤ f → f ≤ space_dimension → g ≡ flags gs
    → (get_or g space false || get_or g space_dimension false) ≡ is_repeated f gs
unfolding is_repeated
repeated_either f gs l m e = rw (e, flags_at gs space (omega arith), flags_at gs space_dimension (omega arith)) (go (eqb f space) refl)
  where
    swap : (x y : Bool) → (x || y) ≡ (y || x)
    swap true true = refl
    swap true false = refl
    swap false true = refl
    swap false false = refl

    go : (b : Bool) → eqb f space ≡ b → (is_given space gs || is_given space_dimension gs) ≡ (is_given f gs || is_given (other_field f) gs)
    go true q = rw (eqb-true f space q)
    go false q =
        let n = eqb-false f space q in
        let i : f ≡ space_dimension = omega arith in
        rw i (swap (is_given space gs) (is_given space_dimension gs))

-- ---- the space as it is handed on

-- it has no more dimensions than the space
pub space_for_le : (f : ℕ) {m : ℕ} → m ≤ max_space → space_for f m ≤ max_space
unfolding space_for
space_for_le f {m} h = go (ltb f space)
  where
    go : (b : Bool) → (if b then 0 else m) ≤ max_space
    go true = omega arith
    go false = h

-- a descriptor is judged by it as by the space
pub described_for : (n m f : ℕ) (t : List ℕ) → described n (space_for f m) f t ≡ described n m f t
unfolding may_describe space_for
described_for n m f t = go (ltb f space) refl
  where
    go : (b : Bool) → ltb f space ≡ b → described n (if b then 0 else m) f t ≡ described n m f t
    go true e =
        let l = ltb-true f space e in
        rw (ne_eqb f space_origin (λ q. let z : ⊥ = omega arith in z), ne_eqb f space_directions (λ q. let z : ⊥ = omega arith in z), ne_eqb f measurement_frame (λ q. let z : ⊥ = omega arith in z))
    go false e = refl

-- ---- a pair along its tests

-- by its escapes
escapes_tests : (k v : Option (List ℕ)) → wrong_of (unescaped k v) ≡ (if not (is_some k) then bad_backslash else if not (is_some v) then bad_backslash else 0)
escapes_tests none v = refl
escapes_tests (some k) none = refl
escapes_tests (some k) (some v) = refl

pub pair_tests : (version : ℕ) (k v : List ℕ)
    → wrong_of (on_pair version k v) ≡ (if eqb (length k) 0 then no_mark else if ltb version pairs_since then not_in_version else if not (is_some (unescape k)) then bad_backslash else if not (is_some (unescape v)) then bad_backslash else 0)
unfolding on_pair
pair_tests version [] v = refl
pair_tests version (b ∷ k) v = let some : eqb (length (b ∷ k)) 0 ≡ false = ne_eqb _ _ (λ e. omega (arith, e)) in rw some (go (ltb version pairs_since))
  where
    go : (old : Bool) → wrong_of (if old then wrong not_in_version else unescaped (unescape (b ∷ k)) (unescape v)) ≡ (if old then not_in_version else if not (is_some (unescape (b ∷ k))) then bad_backslash else if not (is_some (unescape v)) then bad_backslash else 0)
    go true = refl
    go false = escapes_tests (unescape (b ∷ k)) (unescape v)

-- ---- a line that gives no field

-- its step by the number of its refusal, 0 where it is right
abbrev pub passed : ℕ → Result Step ℕ
passed n = if eqb n 0 then Ok Passes else Err n

-- of a refusal that is handed on
pub err_step : (s : State) (r : Result Step Reason) (w : Reason) → IsErrAnd r (λ e. e ≡ w) → ◌≡◌ {A = Result Step ℕ × State} (numbered r, s) (Err (reason_number w), s)
err_step s r w h = let e = err_from_is_err_and r h in rw (e.1, e.2)

-- no byte is refused
pub all_plain : (b : Bool) → 0 ≡ (if b then 0 else bad_byte) → b ≡ true
all_plain true e = refl
all_plain false e = absurd (omega (arith, e))

-- a pair's: it gives no field
pair_step : (version : ℕ) (s : State) (k v : List ℕ) → ◌≡◌ {A = Result Step ℕ × State} (passed (wrong_of (on_pair version k v)), s) (stepped (on_pair version k v) s)
unfolding on_pair
pair_step version s [] v = refl
pair_step version s (b ∷ k) v = go (ltb version pairs_since) (unescape (b ∷ k)) (unescape v)
  where
    go : (x : Bool) (o q : Option (List ℕ))
        → ◌≡◌ {A = Result Step ℕ × State} (passed (wrong_of (if x then wrong not_in_version else unescaped o q)), s) (stepped (if x then wrong not_in_version else unescaped o q) s)
    go true o q = refl
    go false none q = refl
    go false (some a) none = refl
    go false (some a) (some c) = refl

-- the line of a pair, and a line with no mark: a byte that they may not hold comes first
module _ (version : ℕ) (gs : List Given) (t : List ℕ) (s : State) where
  plain_step : (n : ℕ) (j : Judged) → ◌≡◌ {A = Result Step ℕ × State} (passed n, s) (stepped j s)
      → ◌≡◌ {A = Result Step ℕ × State} (passed (if every plain t then n else bad_byte), s) (stepped (if not (every plain t) then wrong bad_byte else j) s)
  plain_step n j e = go (every plain t)
    where
      go : (x : Bool) → ◌≡◌ {A = Result Step ℕ × State} (passed (if x then n else bad_byte), s) (stepped (if not x then wrong bad_byte else j) s)
      go true = e
      go false = refl

  pub pair_line : (k v : List ℕ) {n : ℕ} → n ≡ (if every plain t then wrong_of (on_pair version k v) else bad_byte)
      → ◌≡◌ {A = Result Step ℕ × State} (passed n, s) (stepped (on_kind version gs t (other_line (pair_mark k v))) s)
  pair_line k v {n} e = rw e (plain_step (wrong_of (on_pair version k v)) (on_pair version k v) (pair_step version s k v))

  pub unmarked_line : {n : ℕ} → n ≡ (if every plain t then 0 else bad_byte)
      → ◌≡◌ {A = Result Step ℕ × State} (if eqb n 0 then Err no_mark else passed n, s) (stepped (on_kind version gs t (other_line unmarked)) s)
  unmarked_line e = rw e (go (every plain t))
    where
      go : (x : Bool) → ◌≡◌ {A = Result Step ℕ × State} (if eqb (if x then 0 else bad_byte) 0 then Err no_mark else passed (if x then 0 else bad_byte), s) (stepped (if not x then wrong bad_byte else wrong no_mark) s)
      go true = refl
      go false = refl

-- ---- whether this version has a field with its descriptor

module _ (version f : ℕ) (t : List ℕ) where
  -- the field comes later
  pub too_new : version < field_since f → true ≡ ltb version (since f t)
  unfolding since field_at
  too_new h = go (eqb f data_file) refl (is_many_form t)
    where
      go : (x : Bool) → eqb f data_file ≡ x → (y : Bool) → true ≡ ltb version (if x && y then many_files_since else field_since f)
      go false e y = sym (lt-ltb version (field_since f) h)
      go true e false = sym (lt-ltb version (field_since f) h)
      go true e true = let k = rw (eqb-true f data_file e) at h in sym (lt-ltb version many_files_since (omega arith))

  module _ (h : field_since f ≤ version) where
    -- it is no data file
    pub other_version : (f ≡ data_file → ⊥) → false ≡ ltb version (since f t)
    unfolding since
    other_version n = rw (ne_eqb f data_file n) (sym (le-ltb version (field_since f) h))

    -- it is one, and its form counts
    pub form_version : f ≡ data_file → version < many_files_since → is_many_form t ≡ ltb version (since f t)
    unfolding since
    form_version e l = rw (eq-eqb f data_file e) (go (is_many_form t))
      where
        go : (y : Bool) → y ≡ ltb version (if y then many_files_since else field_since f)
        go true = sym (lt-ltb version many_files_since l)
        go false = sym (le-ltb version (field_since f) h)

    pub any_version : many_files_since ≤ version → false ≡ ltb version (since f t)
    unfolding since
    any_version l = go (eqb f data_file && is_many_form t)
      where
        go : (y : Bool) → false ≡ ltb version (if y then many_files_since else field_since f)
        go true = sym (le-ltb version many_files_since l)
        go false = sym (le-ltb version (field_since f) h)

-- ---- a field along its tests

module _ (version : ℕ) (gs : List Given) (f : ℕ) (rest : List ℕ) where
  pub field_old : ltb version (since f (descriptor f rest)) ≡ true → on_field version gs (some f) rest ≡ wrong not_in_version
  unfolding on_field
  field_old n = rw n

  module _ (n : ltb version (since f (descriptor f rest)) ≡ false) where
    pub field_again : is_repeated f gs ≡ true → on_field version gs (some f) rest ≡ wrong repeated_field
    unfolding on_field
    field_again g = rw (n, g)

    pub field_early : is_repeated f gs ≡ false → in_order f gs ≡ false → on_field version gs (some f) rest ≡ wrong out_of_order
    unfolding on_field
    field_early g o = rw (n, g, o)

    pub field_here : is_repeated f gs ≡ false → in_order f gs ≡ true
        → on_field version gs (some f) rest ≡ described (dimension_of gs) (space_size_of gs) f (descriptor f rest)
    unfolding on_field
    field_here g o = rw (n, g, o)

-- a field that comes here, by what `take_field` answers of its descriptor t in a header of dimension k, with m handed on for the space
pub take_known : (version : ℕ) (gs : List Given) (f : ℕ) (rest : List ℕ) (s : State) {k m : ℕ} {t : List ℕ} {x : Result Step ℕ × State}
    → k ≡ dimension_of gs → m ≡ space_for f (space_size_of gs) → t ≡ descriptor f rest → length rest ≤ max_header → dimension_of gs ≤ max_axes → space_size_of gs ≤ max_space
    → on_field version gs (some f) rest ≡ described (dimension_of gs) (space_size_of gs) f (descriptor f rest)
    → (k ≤ max_axes → m ≤ max_space → length t ≤ max_header → x ≡ stepped (described k m f t) s) → x ≡ stepped (on_field version gs (some f) rest) s
take_known version gs f rest s {k} {m} {t} p q d l a b here taken =
    let short = descriptor_le f rest in
    let size : length t ≤ max_header = rw d (omega arith) in
    rw here (rw (p, q, d, described_for (dimension_of gs) (space_size_of gs) f (descriptor f rest)) at (taken (rw p a) (rw q (space_for_le f b)) size))

-- ---- a line by its text

-- all that stands from i on
pub to_end : (t : List ℕ) (i : ℕ) → take (length t - i) (drop i t) ≡ drop i t
to_end t i = rw (← length-drop i t, take-length)

-- it is no longer than the whole
pub rest_le : (t : List ℕ) (i : ℕ) {most : ℕ} → length t ≤ most → length (take (length t - i) (drop i t)) ≤ most
rest_le t i l = let e = length-drop i t in rw (to_end t i) (omega arith)

pub line_is : (version : ℕ) (gs : List Given) (t : List ℕ) (s : State) {k : LineKind} → names_follow gs ≡ false → kind_of t ≡ k → stepped (on_kind version gs t k) s ≡ stepped (judge version gs t) s
line_is version gs t s n e = rw (judge_by_text version gs t n, e)
