-- Laws of the place of a field: what is told of it by the reading and by the look-up.
-- Assumes nothing.
use Prim.Native.Nat.{ℕ, ◌+◌, ◌-◌, ◌≤◌}
use native.Mathlib.Omega.{arith}
use mathlib.Core.Path.{◌≡◌, refl, sym, ap, ◌∙◌, subst}
use mathlib.Core.Bool.{true, false, false≢true}
use mathlib.Core.List.{List}
use mathlib.Core.Option.{Option, none, some}
use lib.ListN.{length, take, drop}
use Rattle.std.specs.Prelude.{Ok, Some, None}
use Rattle.format.specs.declared.Reading.{Reading}
use Rattle.format.specs.declared.FindAnswer.{FindAnswer}
use Rattle.format.specs.Answers.{reading_answered}
use Rattle.format.specs.Fields.{Given, descriptor_of}
use Rattle.format.specs.Descriptors.{dimension_of, space_size_of}
use Rattle.format.specs.Header.{header}
use Rattle.format.specs.Calls.{reading_of, read_header_call, find_field_call}
use Rattle.format.specs.Found.{Finds, FindsField}
use Rattle.format.proofs.Found.{field_found}
use Rattle.format.proofs.Oriented.{header_described, space_few, space_some}
use Rattle.read_header.proofs.Accepted.{Read, was_read}
use Rattle.read_orientation.specs.declared.place.Field.{Field}
use Rattle.read_orientation.specs.Told.{Lies, GivenBy, Says}

-- the field as it lies, and that it is not given
pub lies : {file : List ℕ} {f : ℕ} {gs : List Given} {x : Field} → {o : _} → GivenBy file f gs o → o ≡ Some x → Lies file f gs x
lies {file} {f} {gs} w q = subst (GivenBy file f gs) q w

pub absent : (file : List ℕ) (f : ℕ) (gs : List Given) → {o : _} → GivenBy file f gs o → o ≡ None → descriptor_of f gs ≡ none
absent file f gs w q = subst (GivenBy file f gs) q w

-- the header is accepted, and the field is looked up in it
module _ (file : List ℕ) (f : ℕ) {x : Reading} (e : reading_answered (Ok x) ≡ read_header_call file) (place : FindAnswer) (p : place ≡ find_field_call file f) where
  read : Read file x
  read = was_read file e

  dimension_is : x.dimension ≡ dimension_of read.fields
  unfolding reading_of
  dimension_is = ap (λ (x : Reading). x.dimension) read.reading_is

  space_is : x.spacedimension ≡ space_size_of read.fields
  unfolding reading_of
  space_is = ap (λ (x : Reading). x.spacedimension) read.reading_is

  finds : Finds file (descriptor_of f read.fields) place
  finds = rw read.is at (subst (FindsField file f (header file)) (sym p) (field_found file f))

  -- it is not given
  pub told_absent : place.found ≡ false → Says file f (record { axes = x.dimension; field = None })
  told_absent h =
      record { entries = read.entries; fields = read.fields; after = read.after; is = read.is; axes_are = dimension_is; field_is = go (descriptor_of f read.fields) finds }
    where
      go : (o : Option (List ℕ)) → Finds file o place → o ≡ none
      go none r = refl
      go (some t) r = absurd (false≢true (sym h ∙ r.there))

  -- it is given
  abbrev pub field_there : Field
  field_there = record { size = x.spacedimension; from = place.start; to = place.start + place.length }

  lies_there : place.found ≡ true → Lies file f read.fields field_there
  lies_there h = go (descriptor_of f read.fields) refl finds
    where
      go : (o : Option (List ℕ)) → descriptor_of f read.fields ≡ o → Finds file o place → Lies file f read.fields field_there
      go none q r = absurd (false≢true (sym (ap (λ (a : FindAnswer). a.found) r) ∙ h))
      go (some t) q r =
          let d = header_described file read.is f t q in
          let n : place.start + place.length - place.start ≡ place.length = omega arith in
          record {
            descriptor = t;
            given = q;
            size_is = space_is;
            text = ap (λ (k : ℕ). take k (drop place.start file)) n ∙ r.bytes;
            described = d.described;
            not_flat = λ s. space_some file read.is f t s q;
            ordered = omega arith;
            within = r.within;
            short = omega (arith, r.long, d.short);
            few = omega (arith, space_is, space_few file read.is);
          }

  pub told_within : place.found ≡ true → place.start + place.length ≤ length file
  told_within h = (lies_there h).within

  pub told_there : place.found ≡ true → Says file f (record { axes = x.dimension; field = Some field_there })
  told_there h =
      record { entries = read.entries; fields = read.fields; after = read.after; is = read.is; axes_are = dimension_is; field_is = lies_there h }
