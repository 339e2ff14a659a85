-- The fields of an accepted header: each has a descriptor that it may have in the dimension and the space of the whole header, and not only of the lines before it (`header_described`).
-- So the vectors of origin, directions and frame are as many and as long as these say. Where one of them is given, the space has a dimension, at most 8.
-- Assumes nothing.
use Rattle.std.specs.Prelude.{if◌then◌else◌}
use Prim.Native.Nat.{ℕ, zero, suc, ◌+◌, ◌-◌, ◌≤◌, ◌<◌}
use Prim.Native.String.{String}
use native.Mathlib.Omega.{arith}
use mathlib.Core.Path.{◌≡◌, refl, sym, ap, ◌∙◌, subst}
use mathlib.Core.Bool.{Bool, true, false, ◌||◌, false≢true}
use mathlib.Core.List.{List, [], ◌∷◌, ◌++◌, map}
use mathlib.Core.Option.{Option, none, some, none-ne-some, some-injective}
use lib.Dec.{eqb, leb}
use lib.ListN.{length, get_or, length-append, length-take, length-drop}
use borrow.Author.Tests.{eqb-true, ne_eqb, leb-true}
use Rattle.format.specs.Bytes.{bytes, is_some, or_default, is_any, row_from}
use Rattle.format.specs.Words.{trim_end, number, within}
use Rattle.format.specs.Limits.{max_header, max_axes}
use Rattle.format.specs.Lines.{Line, line, text, size, ending_bytes}
use Rattle.format.specs.Fields.{Given, given, named, descriptor_of, is_given, other_field, field_at, needs_dimension, needs_space, dimension, sizes, space, space_dimension, space_origin, space_directions, measurement_frame, centers, labels, units, kinds}
use Rattle.format.specs.Spaces.{Space, space_row, spaces, space_count, max_space, space_names, space_axes, space_at, space_size, space_named}
use Rattle.format.specs.Descriptors.{from_descriptor, descriptor, meaning, no_space, number_said, may_describe, dimension_of, space_size_of}
use Rattle.format.specs.Header.{Entry, entry, lines_of, accepted, header, after_item, header_length}
use Rattle.format.specs.Rules.{FieldLine}
use Rattle.format.proofs.Bytes.{and_left, and_right, neither}
use Rattle.format.proofs.Lines.{length_unlines_cons}
use Rattle.format.proofs.Judged.{after_cases}
use Rattle.format.proofs.Descriptors.{drop_to_descriptor, take_trimmed}
use Rattle.format.proofs.Header.{Fine, fine_cases, header_sound}
use Rattle.format.proofs.Rules.{accepted_keeps}

-- ---- lengths

-- a line is at least as long as its text
text_within : (l : Line) → length (text l) ≤ size l
text_within (line t e) = omega (arith, length-append t (ending_bytes e))

-- a descriptor is at most as long as what follows its mark, and as its line
descriptor_short : (f : ℕ) (rest : List ℕ) → length (descriptor f rest) ≤ length rest
unfolding descriptor
descriptor_short f rest =
    let from = from_descriptor f rest in
    omega (arith, ap length (take_trimmed from), length-take (length (trim_end from)) from, ap length (drop_to_descriptor f rest), length-drop (length rest - length from) rest)

line_short : {version : ℕ} {gs : List Given} {t : List ℕ} {f : ℕ} {d : List ℕ} → FieldLine version gs t f d → length d ≤ length t
line_short {version} {gs} {t} {f} {d} w =
    omega (arith, ap length w.descriptor_is, descriptor_short f w.rest, ap length w.marked.parted, length-append w.name (bytes ": " ++ w.rest), length-append (bytes ": ") w.rest)

-- ---- what holds of nothing given, and of one field or name more where it holds of what is given before, holds of what an accepted header gives

module _ (P : List Given → Type 0) (first : P [])
    (more : (version : ℕ) (gs : List Given) (t : List ℕ) (f : ℕ) (d : List ℕ) → length t ≤ max_header → FieldLine version gs t f d → P gs → P (given f d ∷ gs))
    (name : (gs : List Given) (n : List ℕ) → P gs → P (named n ∷ gs)) where
  fine_holds : (version : ℕ) (es : List Entry) (gs gs' : List Given) (r : List Line) → Fine version gs es gs' r → header_length es ≤ max_header → P gs → P gs'
  fine_holds version [] gs gs' r f b p = rw f.3 p
  fine_holds version (entry l i ∷ es) gs gs' r f b p =
      let n = length_unlines_cons l (lines_of es) in
      let h : length (text l) ≤ max_header = omega (arith, n, text_within l) in
      let q = after_cases version gs (text l) P f.0 p (λ g d w. more version gs (text l) g d h w p) (λ n w. name gs n p) in
      fine_cases version gs l i es gs' r (λ es gs'. P gs') f (λ k c x. q) (λ k c x. fine_holds version es (after_item i gs) gs' r x (omega (arith, n)) q)

  pub header_holds : (s : List ℕ) {es : List Entry} {gs : List Given} {r : List Line} → header s ≡ accepted es gs r → P gs
  header_holds s {es} {gs} {r} e =
      let x = header_sound s e in
      let b = rw x.entries at x.short in
      fine_holds x.version x.rest [] gs r x.fine (omega (arith, length_unlines_cons x.first (lines_of x.rest))) first

-- ---- the sizes that a space may have

or-true : (x : Bool) → (x || true) ≡ true
or-true true = refl
or-true false = refl

or_swap : (x y : Bool) → (x || y) ≡ (y || x)
or_swap true y = sym (or-true y)
or_swap false true = refl
or_swap false false = refl

-- a number in a range
pub within_range : (least most : ℕ) (o : Option ℕ) → within least most o ≡ true → (least ≤ or_default 0 o) × (or_default 0 o ≤ most)
within_range least most none e = absurd (false≢true e)
within_range least most (some n) e = (leb-true least n (and_left (leb least n) (leb n most) e), leb-true n most (and_right (leb least n) (leb n most) e))

-- the number of a row is below how many there are
row_below : (w : List ℕ) (rs : List (List String)) (i j : ℕ) → row_from i w rs ≡ some j → j < i + length rs
unfolding row_from
row_below w [] i j e = absurd (none-ne-some _ e)
row_below w (r ∷ rs) i j e = go (is_any w r) (row_below w rs (i + 1) j) e
  where
    go : (x : Bool) → (row_from (i + 1) w rs ≡ some j → j < i + 1 + length rs) → (if x then some i else row_from (i + 1) w rs) ≡ some j → j < i + suc (length rs)
    go true h e = omega (arith, some-injective i j e)
    go false h e = omega (arith, h e)

-- a dimension that a space may have, and that all spaces of a list have
abbrev Size : ℕ → Type 0
Size n = (1 ≤ n) × (n ≤ max_space)

abbrev Sized : List Space → Type 0
Sized [] = Unit
Sized (r ∷ rs) = Size (space_axes r) × Sized rs

sized_at : (rs : List Space) → Sized rs → (i : ℕ) → i < length rs → Size (space_axes (get_or rs i (space_row [] 0)))
sized_at [] h i l = absurd (omega arith)
sized_at (r ∷ rs) h zero l = h.0
sized_at (r ∷ rs) h (suc i) l = sized_at rs h.1 i (omega arith)

space_sized : (i : ℕ) → i < space_count → Size (space_size i)
unfolding space_at
space_sized = sized_at spaces (three, (three, (three, (four, (four, (four, (three, (four, (three, (three, (four, (four, tt))))))))))))
  where
    three : Size 3
    three = (omega arith, omega arith)

    four : Size 4
    four = (omega arith, omega arith)

named_sized : (t : List ℕ) → is_some (space_named t) ≡ true → Size (space_size (or_default space_count (space_named t)))
named_sized t = go (space_named t) refl
  where
    go : (o : Option ℕ) → space_named t ≡ o → is_some o ≡ true → Size (space_size (or_default space_count o))
    go none e h = absurd (false≢true h)
    go (some i) e h = space_sized i (row_below t (map space_names spaces) 0 i e)

-- ---- a field that comes after dimension asks for the dimension, one that lies in a space for the space's; no other does

-- a field that does not ask is none that does
unlike : (asks : ℕ → Bool) (g f : ℕ) → asks g ≡ false → asks f ≡ true → eqb g f ≡ false
unlike asks g f h e = ne_eqb g f (λ q. false≢true (sym h ∙ ap asks q ∙ e))

any_axes : (n n' m g : ℕ) (t : List ℕ) → needs_dimension g ≡ false → may_describe n m g t ≡ may_describe n' m g t
unfolding may_describe field_at
any_axes n n' m g t h =
    rw (unlike needs_dimension g sizes h refl, unlike needs_dimension g space_directions h refl, unlike needs_dimension g centers h refl, unlike needs_dimension g kinds h refl, unlike needs_dimension g labels h refl, unlike needs_dimension g units h refl)

any_space : (n m m' g : ℕ) (t : List ℕ) → needs_space g ≡ false → may_describe n m g t ≡ may_describe n m' g t
unfolding may_describe field_at
any_space n m m' g t h =
    rw (unlike needs_space g space_origin h refl, unlike needs_space g space_directions h refl, unlike needs_space g measurement_frame h refl)

-- ---- a field g and its descriptor t, in a header with the fields gs

pub record Described (gs : List Given) (g : ℕ) (t : List ℕ) : Type 0 where
  pub after_dimension : needs_dimension g ≡ true → is_given dimension gs ≡ true
  pub after_space : needs_space g ≡ true → (is_given space gs || is_given space_dimension gs) ≡ true
  pub described : may_describe (dimension_of gs) (space_size_of gs) g t ≡ true
  pub short : length t ≤ max_header

abbrev AllDescribed : List Given → Type 0
AllDescribed gs = (g : ℕ) (t : List ℕ) → descriptor_of g gs ≡ some t → Described gs g t

-- one field more
module _ (version : ℕ) (gs : List Given) {u : List ℕ} (f : ℕ) (d : List ℕ) (b : length u ≤ max_header) (w : FieldLine version gs u f d) where
  -- the dimension and the space are given once
  axes_stay : is_given dimension gs ≡ true → dimension_of (given f d ∷ gs) ≡ dimension_of gs
  unfolding descriptor_of
  axes_stay h = go (eqb dimension f) refl
    where
      go : (x : Bool) → eqb dimension f ≡ x → meaning 0 (number_said dimension) (if x then some d else descriptor_of dimension gs) ≡ dimension_of gs
      go true e = absurd (false≢true (sym (rw (eqb-true dimension f e) w.new) ∙ h))
      go false e = refl

  space_new : (g : ℕ) → g ≡ f → (is_given g gs || is_given (other_field g) gs) ≡ false
  space_new g e = rw e (neither (is_given f gs) (is_given (other_field f) gs) w.new w.other_new)

  space_stays : (is_given space gs || is_given space_dimension gs) ≡ true → space_size_of (given f d ∷ gs) ≡ space_size_of gs
  unfolding descriptor_of
  space_stays h = go (eqb space f) refl (eqb space_dimension f) refl
    where
      go : (x : Bool) → eqb space f ≡ x → (y : Bool) → eqb space_dimension f ≡ y
          → (if is_some (if x then some d else descriptor_of space gs) then space_size (meaning no_space (number_said space) (if x then some d else descriptor_of space gs))
          else meaning 0 (number_said space_dimension) (if y then some d else descriptor_of space_dimension gs)) ≡ space_size_of gs
      go true e y q = absurd (false≢true (sym (space_new space (eqb-true space f e)) ∙ h))
      go false e true q = absurd (false≢true (sym (space_new space_dimension (eqb-true space_dimension f q)) ∙ or_swap (is_given space_dimension gs) (is_given space gs) ∙ h))
      go false e false q = refl

  given_still : (g : ℕ) → is_given g gs ≡ true → is_given g (given f d ∷ gs) ≡ true
  unfolding descriptor_of
  given_still g h = go (eqb g f)
    where
      go : (x : Bool) → is_some (if x then some d else descriptor_of g gs) ≡ true
      go true = refl
      go false = h

  space_still : (is_given space gs || is_given space_dimension gs) ≡ true → (is_given space (given f d ∷ gs) || is_given space_dimension (given f d ∷ gs)) ≡ true
  space_still h = go (is_given space gs) refl (is_given space_dimension gs) refl h
    where
      go : (x : Bool) → is_given space gs ≡ x → (y : Bool) → is_given space_dimension gs ≡ y → (x || y) ≡ true
          → (is_given space (given f d ∷ gs) || is_given space_dimension (given f d ∷ gs)) ≡ true
      go true e y q h = rw (given_still space e)
      go false e true q h = rw (given_still space_dimension q) (or-true (is_given space (given f d ∷ gs)))
      go false e false q h = absurd (false≢true h)

  -- what a field may say before it, it may say after it
  still : (g : ℕ) (t : List ℕ) → Described gs g t → Described (given f d ∷ gs) g t
  still g t x = record {
    after_dimension = λ h. given_still dimension (x.after_dimension h);
    after_space = λ h. space_still (x.after_space h);
    described = sym (axes (needs_dimension g) refl ∙ lies (needs_space g) refl) ∙ x.described;
    short = x.short;
  }
    where
      after : List Given
      after = given f d ∷ gs

      axes : (b : Bool) → needs_dimension g ≡ b → may_describe (dimension_of gs) (space_size_of gs) g t ≡ may_describe (dimension_of after) (space_size_of gs) g t
      axes true e = rw (axes_stay (x.after_dimension e))
      axes false e = any_axes (dimension_of gs) (dimension_of after) (space_size_of gs) g t e

      lies : (b : Bool) → needs_space g ≡ b → may_describe (dimension_of after) (space_size_of gs) g t ≡ may_describe (dimension_of after) (space_size_of after) g t
      lies true e = rw (space_stays (x.after_space e))
      lies false e = any_space (dimension_of after) (space_size_of gs) (space_size_of after) g t e

  more_described : AllDescribed gs → AllDescribed (given f d ∷ gs)
  unfolding descriptor_of
  more_described p g t = go (eqb g f) refl
    where
      go : (x : Bool) → eqb g f ≡ x → (if x then some d else descriptor_of g gs) ≡ some t → Described (given f d ∷ gs) g t
      go true e q =
          let o : Described gs f d = record { after_dimension = w.after_dimension; after_space = w.after_space; described = w.described; short = omega (arith, line_short w) } in
          still g t (subst (Described gs g) (some-injective d t q) (subst (λ h. Described gs h d) (sym (eqb-true g f e)) o))
      go false e q = still g t (p g t q)

-- ---- an accepted header

none_described : AllDescribed []
unfolding descriptor_of
none_described g t e = absurd (none-ne-some _ e)

-- a name changes no field
named_described : (gs : List Given) (n : List ℕ) → AllDescribed gs → AllDescribed (named n ∷ gs)
unfolding descriptor_of
named_described gs n p g t e =
    let x = p g t e in record { after_dimension = x.after_dimension; after_space = x.after_space; described = x.described; short = x.short }

module _ (s : List ℕ) {es : List Entry} {gs : List Given} {r : List Line} (e : header s ≡ accepted es gs r) where
  -- each field's descriptor is one that it may have in this header
  pub header_described : (g : ℕ) (t : List ℕ) → descriptor_of g gs ≡ some t → Described gs g t
  header_described = header_holds AllDescribed none_described (λ version gs t f d b w p. more_described version gs f d b w p) named_described s e

  -- the dimension of the space, by what names it and by what gives it
  sized_by : (o : Option (List ℕ)) → descriptor_of space gs ≡ o → (p : Option (List ℕ)) → descriptor_of space_dimension gs ≡ p
      → let n : ℕ = if is_some o then space_size (meaning no_space (number_said space) o) else meaning 0 (number_said space_dimension) p in
      ((is_some o || is_some p) ≡ true → 1 ≤ n) × (n ≤ max_space)
  unfolding may_describe
  sized_by (some t) a p b = let h = named_sized t (header_described space t a).described in ((λ q. h.0), h.1)
  sized_by none a (some t) b = let h = within_range 1 max_space (number t) (header_described space_dimension t b).described in ((λ q. h.0), h.1)
  sized_by none a none b = ((λ q. absurd (false≢true q)), omega arith)

  -- a space has at most so many dimensions
  pub space_few : space_size_of gs ≤ max_space
  space_few = (sized_by (descriptor_of space gs) refl (descriptor_of space_dimension gs) refl).1

  -- and one at least where a field that lies in it is given
  pub space_some : (g : ℕ) (t : List ℕ) → needs_space g ≡ true → descriptor_of g gs ≡ some t → 1 ≤ space_size_of gs
  space_some g t n h = (sized_by (descriptor_of space gs) refl (descriptor_of space_dimension gs) refl).0 ((header_described g t h).after_space n)

  -- there is an axis
  pub some_axis : 1 ≤ dimension_of gs
  unfolding may_describe
  some_axis = go (descriptor_of dimension gs) refl (accepted_keeps s e).needed.has_dimension
    where
      go : (o : Option (List ℕ)) → descriptor_of dimension gs ≡ o → is_some o ≡ true → 1 ≤ meaning 0 (number_said dimension) o
      go none q h = absurd (false≢true h)
      go (some t) q h = (within_range 1 max_axes (number t) (header_described dimension t q).described).0

  -- and there are at most so many
  pub axes_few : dimension_of gs ≤ max_axes
  unfolding may_describe
  axes_few = go (descriptor_of dimension gs) refl
    where
      go : (o : Option (List ℕ)) → descriptor_of dimension gs ≡ o → meaning 0 (number_said dimension) o ≤ max_axes
      go none q = omega arith
      go (some t) q = (within_range 1 max_axes (number t) (header_described dimension t q).described).1
