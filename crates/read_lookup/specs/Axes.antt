-- Internal to the library. The look-up of centers, labels, units and kinds in one pass over the lines of an accepted header.
use Rattle.std.specs.Prelude.{ℕ, ◌≤◌, ◌≡◌, List, ◌==◌, nat_lt, if◌then◌else◌, Option as Maybe, Some, None}
use Rattle.std.proofs.Math.Option.{Option, none, some}
use Rattle.format.specs.declared.FindAnswer.{FindAnswer}
use Rattle.format.specs.declared.answers.Place.{Place}
use Rattle.format.specs.Answers.{place_found}
use Rattle.format.specs.Fields.{centers, labels, units, kinds}
use Rattle.format.specs.Header.{Item, Entry}
use Rattle.format.specs.Calls.{found_at, descriptor_place, field_place, find_field_call}
use Rattle.read_header.specs.Accepted.{IsItem}
use Rattle.read_lookup.specs.declared.axes.AxisField.{AxisField}
use Rattle.read_lookup.specs.declared.axes.AxisPlaces.{AxisPlaces}
use Rattle.read_lookup.specs.Lookup.{Left}

-- these are the four places
pub record ArePlaces (file : List ℕ) (p : AxisPlaces) : Type 0 where
  pub centers_are : place_found p.centers ≡ find_field_call file centers
  pub labels_are : place_found p.labels ≡ find_field_call file labels
  pub units_are : place_found p.units ≡ find_field_call file units
  pub kinds_are : place_found p.kinds ≡ find_field_call file kinds

-- none of them is given
abbrev pub no_places : AxisPlaces
no_places = record { centers = None; labels = None; units = None; kinds = None }

-- the field that a name means, if it does not come before the four
abbrev pub axis_row : Option ℕ → Maybe ℕ
axis_row none = None
axis_row (some g) = if nat_lt g centers then None else Some g

-- what was found, or else what comes after it
abbrev pub first_of : Maybe Place → FindAnswer → FindAnswer
first_of (Some p) rest = found_at p.start p.length
first_of None rest = rest

-- what a line gives the field f
abbrev pub given_to : ℕ → Maybe AxisField → Maybe Place
given_to f None = None
given_to f (Some g) = if f == g.field then Some g.place else None

-- what is found of the field f once a line is passed
abbrev pub kept_of : ℕ → Maybe Place → Maybe AxisField → Maybe Place
kept_of f (Some p) g = Some p
kept_of f None g = given_to f g

abbrev pub kept_places : AxisPlaces → Maybe AxisField → AxisPlaces
kept_places p g =
    record {
      centers = kept_of centers p.centers g;
      labels = kept_of labels p.labels g;
      units = kept_of units p.units g;
      kinds = kept_of kinds p.kinds g;
    }

-- a line with the text t, which starts at `at`, gives this
abbrev pub Gives : List ℕ → ℕ → Maybe AxisField → Type 0
Gives t at g =
    (f : ℕ) → centers ≤ f → (i : Item) → IsItem t i → (rest : FindAnswer) → first_of (given_to f g) rest ≡ descriptor_place f at t i rest

-- what was found of the field f, or else what the entries give it, is the answer
abbrev pub Kept : List ℕ → ℕ → ℕ → Maybe Place → List Entry → Type 0
Kept file f at found es = find_field_call file f ≡ first_of found (field_place f at es)

-- the entries left of a header before the names, with what was found of the four fields
abbrev pub AxesLeft : List ℕ → ℕ → ℕ → AxisPlaces → Type 0
AxesLeft file at count p =
    Left (λ es. Kept file centers at p.centers es × Kept file labels at p.labels es × Kept file units at p.units es × Kept file kinds at p.kinds es) file at count
