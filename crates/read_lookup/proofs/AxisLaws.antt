-- Laws of the look-up of the four fields of axes: what a line gives, and what is kept of it once the line is passed.
-- Assumes nothing.
use Rattle.std.specs.Prelude.{if◌then◌else◌}
use Prim.Native.Nat.{ℕ, ◌+◌, ◌-◌, ◌≤◌, ◌<◌}
use native.Mathlib.Omega.{arith}
use mathlib.Core.Path.{◌≡◌, refl, sym, ap, ◌∙◌, subst}
use mathlib.Core.Bool.{Bool, true, false}
use mathlib.Core.List.{List, ◌∷◌}
use mathlib.Core.Option.{Option, none, some}
use lib.Dec.{eqb, ltb}
use lib.ListN.{length, take, drop}
use borrow.Author.Tests.{ltb-true, eqb-true, lt-ltb, le-ltb, ne_eqb}
use Rattle.format.specs.declared.FindAnswer.{FindAnswer}
use Rattle.format.specs.Refusals.{fine}
use Rattle.format.specs.Lines.{Line, text, size}
use Rattle.format.specs.Pairs.{kind_of, field_texts}
use Rattle.format.specs.Fields.{field_named, centers, labels, units, kinds}
use Rattle.format.specs.Header.{Item, Entry, entry}
use Rattle.format.specs.Calls.{no_place, field_place, find_field_call}
use Rattle.read_text.specs.declared.lines.Kind.TheVariants.{Field}
use Rattle.std.specs.Prelude.{Option as Maybe, Some, None}
use Rattle.format.specs.declared.answers.Place.{Place}
use Rattle.format.specs.Answers.{place_found}
use Rattle.read_lookup.specs.declared.axes.AxisPlaces.{AxisPlaces}
use Rattle.read_text.specs.Rows.{row_answer}
use Rattle.read_text.proofs.Places.{KindAt}
use Rattle.read_lines.specs.Spans.{LineAt}
use Rattle.read_lines.proofs.LineCuts.{rest_of}
use Rattle.read_header.specs.Accepted.{Fielded, IsItem}
use Rattle.read_lookup.specs.declared.axes.AxisField.{AxisField}
use Rattle.read_lookup.specs.Lookup.{is_field, SecondAt}
use Rattle.read_lookup.specs.Axes.{ArePlaces, no_places, axis_row, first_of, given_to, kept_of, kept_places, Gives, Kept, AxesLeft}
use Rattle.read_lookup.proofs.Finding.{place_in, field_other, field_field, field_turn, field_none, left_next, start_fields}

-- ---- a line that gives none of the four

kept_of_none : (f : ℕ) (before : Maybe Place) → kept_of f before None ≡ before
kept_of_none f (Some p) = refl
kept_of_none f None = refl

pub kept_none : (p : AxisPlaces) → kept_places p None ≡ p
kept_none p = rw (kept_of_none centers p.centers, kept_of_none labels p.labels, kept_of_none units p.units, kept_of_none kinds p.kinds) refl

-- ---- the name's row

row_known : (g : ℕ) (o : Option ℕ) → Some g ≡ row_answer o → (if ltb g centers then None else Some g) ≡ axis_row o
row_known g none e = cc
row_known g (some h) e = let z : g ≡ h = cc in rw z

pub row_before : (g : ℕ) (o : Option ℕ) → Some g ≡ row_answer o → g < centers → None ≡ axis_row o
row_before g o e l = rw (lt-ltb g centers l) at (row_known g o e)

pub row_from : (g : ℕ) (o : Option ℕ) → Some g ≡ row_answer o → centers ≤ g → Some g ≡ axis_row o
row_from g o e l = rw (le-ltb g centers l) at (row_known g o e)

pub row_unknown : (o : Option ℕ) → None ≡ row_answer o → None ≡ axis_row o
row_unknown none e = refl
row_unknown (some h) e = cc

-- one of the four
row_some : (g : ℕ) (o : Option ℕ) → Some g ≡ axis_row o → o ≡ some g
row_some g none e = cc
row_some g (some h) e = go (ltb h centers) refl
  where
    go : (x : Bool) → ltb h centers ≡ x → some h ≡ some g
    go true q = let z : Some g ≡ None = e ∙ rw q in cc
    go false q = let z : Some g ≡ Some h = e ∙ rw q in cc

-- none of the four
row_none : (f : ℕ) → centers ≤ f → (o : Option ℕ) → None ≡ axis_row o → is_field f o ≡ false
row_none f b none e = refl
row_none f b (some h) e = go (ltb h centers) refl
  where
    go : (x : Bool) → ltb h centers ≡ x → eqb f h ≡ false
    go true q = let l : h < centers = ltb-true h centers q in ne_eqb f h (λ z. omega arith)
    go false q = let z : None ≡ Some h = e ∙ rw q in cc

-- ---- what a line gives

module _ (t : List ℕ) (at : ℕ) where
  -- the line is not that of a field
  pub gives_other : field_texts (kind_of t) ≡ none → Gives t at None
  gives_other n f b i w rest = field_other f at rest w n

  -- it is that of another field
  pub gives_none : (j : ℕ) → KindAt t (kind_of t) (Field j) → None ≡ axis_row (field_named (take j t)) → Gives t at None
  gives_none j k n f b i w rest = field_field f at rest w j k false (row_none f b (field_named (take j t)) n)

  -- it is that of one of the four
  pub gives_some : (j : ℕ) → KindAt t (kind_of t) (Field j) → (g : ℕ) → Some g ≡ axis_row (field_named (take j t)) → (p : Place)
      → place_found (Some p) ≡ place_in g (at + (j + 2)) (take (length t - (j + 2)) (drop (j + 2) t)) → Gives t at (Some (record { field = g; place = p }))
  gives_some j k g n p e f b i w rest =
      by (eqb f g) refl ∙ field_field f at rest w j k (eqb f g) (ap (is_field f) (row_some g (field_named (take j t)) n))
    where
      q : place_found (Some p) ≡ place_in g (at + (j + 2)) (drop (j + 2) t)
      q = e ∙ ap (place_in g (at + (j + 2))) (rest_of (j + 2) t)

      by : (x : Bool) → eqb f g ≡ x
          → first_of (if x then Some p else None) rest ≡ (if x then place_in f (at + (j + 2)) (drop (j + 2) t) else rest)
      by true z = q ∙ rw (eqb-true f g z)
      by false z = refl

-- ---- what is kept

kept_then : (f : ℕ) (before : Maybe Place) (g : Maybe AxisField) (rest : FindAnswer)
    → first_of before (first_of (given_to f g) rest) ≡ first_of (kept_of f before g) rest
kept_then f (Some p) g rest = refl
kept_then f None g rest = refl

-- a line is passed
module _ {file : List ℕ} {at count : ℕ} (p : AxisPlaces) (w : AxesLeft file at count p) where
  pub axes_next : 0 < count → {e next : ℕ} → LineAt file at e next → (g : Maybe AxisField) → Gives (take (e - at) (drop at file)) at g
      → AxesLeft file next (count - 1) (kept_places p g)
  axes_next more {e} {next} x g h =
      let q = kept_places p g in
      left_next w more x (λ es. Kept file centers next q.centers es × Kept file labels next q.labels es × Kept file units next q.units es × Kept file kinds next q.kinds es)
      λ a i es t n j k.
      let h' = subst (λ s. Gives s at g) (sym t) h in (
        turn a i es n j h' centers (omega arith) p.centers k.0,
        turn a i es n j h' labels (omega arith) p.labels k.1,
        turn a i es n j h' units (omega arith) p.units k.2,
        turn a i es n j h' kinds (omega arith) p.kinds k.3,
      )
    where
      turn : (a : Line) (i : Item) (es : List Entry) → at + size a ≡ next → IsItem (text a) i → Gives (text a) at g → (f : ℕ) → centers ≤ f
          → (old : Maybe Place) → Kept file f at old (entry a i ∷ es) → Kept file f next (kept_of f old g) es
      turn a i es n j h f b old k =
          k ∙ ap (first_of old) (field_turn f at a i es ∙ sym (h f b i j (field_place f (at + size a) es))) ∙ kept_then f old g (field_place f (at + size a) es) ∙ rw n

  pub axes_end : count ≡ 0 → ArePlaces file p
  axes_end z =
      let k = w.holds in
      record { centers_are = last centers p.centers k.0; labels_are = last labels p.labels k.1; units_are = last units p.units k.2; kinds_are = last kinds p.kinds k.3 }
    where
      none_after : (a : Maybe Place) → first_of a (no_place fine) ≡ place_found a
      none_after (Some q) = refl
      none_after None = refl

      last : (f : ℕ) (a : Maybe Place) → Kept file f at a w.entries → place_found a ≡ find_field_call file f
      last f a k = sym (k ∙ ap (first_of a) (field_none f at w.entries (w.many ∙ z)) ∙ none_after a)

-- the start: nothing is found
pub axes_start : (file : List ℕ) {n at : ℕ} → Fielded file n → SecondAt file at → AxesLeft file at (n - 1) no_places
axes_start file {n} {at} a s =
    start_fields file a s (λ es. Kept file centers at None es × Kept file labels at None es × Kept file units at None es × Kept file kinds at None es)
    λ es h. (h centers, h labels, h units, h kinds)
