-- Where a header's lines give no names of files, all of its lines are counted before the names: `all_before`.
-- And the lines of a written header give none: `none_named`.
-- Assumes nothing.
use mathlib.Core.Path.{◌≡◌, refl, ◌∙◌}
use mathlib.Core.Bool.{false}
use mathlib.Core.List.{List, [], ◌∷◌, ◌++◌, cons≢nil}
use mathlib.Core.Option.{Option, none, some}
use Prim.Native.Nat.{ℕ}
use Rattle.format.specs.Fields.{Given, given, named, file_names, endian, space, space_dimension, space_origin, space_directions, measurement_frame}
use Rattle.format.specs.Descriptors.{endians}
use Rattle.format.specs.Header.{Item, magic, comment, field, pair, file_name, closing, is_file_name, Entry, item_of, after_item, before_names}
use Rattle.format.specs.Rules.{fields_of}
use Rattle.format.specs.Writer.{decimal, name_at}
use Rattle.format.specs.HeaderWriter.{space_text, origin_text, directions_text, frame_text}
use Rattle.theorem_roundtrip.proofs.Written.{first_fields}
use Rattle.theorem_headers.proofs.Lined.{with_given}
use Rattle.theorem_headers.proofs.Told.{Inputs, order, with_directions, with_frame, with_order, with_origin, with_size, with_space}

-- ---- no name is given: no line is one

not_last : (ts : List (List ℕ)) (t : List ℕ) → ts ++ (t ∷ []) ≡ [] → ⊥
not_last [] t h = cons≢nil h
not_last (u ∷ ts) t h = cons≢nil h

both_none : (gs hs : List Given) → file_names (gs ++ hs) ≡ [] → (file_names gs ≡ []) × (file_names hs ≡ [])
unfolding file_names
both_none [] hs h = (refl, h)
both_none (given f d ∷ gs) hs h = both_none gs hs h
both_none (named t ∷ gs) hs h = absurd (not_last (file_names (gs ++ hs)) t h)

not_named : (i : Item) → file_names (after_item i []) ≡ [] → is_file_name i ≡ false
unfolding file_names
not_named (magic n) h = refl
not_named comment h = refl
not_named (field f d) h = refl
not_named (pair k v) h = refl
not_named (file_name t) h = absurd (cons≢nil h)
not_named closing h = refl

pub all_before : (es : List Entry) → file_names (fields_of es) ≡ [] → before_names es ≡ es
unfolding fields_of before_names
all_before [] h = refl
all_before (e ∷ es) h =
    let b = both_none (fields_of es) (after_item (item_of e) []) h in
    rw (not_named (item_of e) b.1, all_before es b.0)

-- ---- a written header gives none

none_more : {A : Type 0} (f : ℕ) (show : A → List ℕ) (o : Option A) (gs : List Given) → file_names (with_given f show o gs) ≡ file_names gs
unfolding file_names
none_more f show none gs = refl
none_more f show (some a) gs = refl

pub none_named : (put : Inputs) → file_names (with_frame put) ≡ []
unfolding file_names
none_named put =
    none_more measurement_frame frame_text put.frame (with_directions put)
    ∙ none_more space_directions directions_text put.directions (with_origin put)
    ∙ none_more space_origin origin_text put.origin (with_size put)
    ∙ none_more space_dimension decimal put.size (with_space put)
    ∙ none_more space space_text put.i (with_order put)
    ∙ none_more endian (name_at endians) (order put) (first_fields put.ns put.t put.e)
