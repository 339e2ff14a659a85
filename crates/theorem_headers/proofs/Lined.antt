-- A header line by line: the line of a field is read where it is allowed, and only there, and which fields are given after it.
-- Assumes nothing.
use Rattle.std.specs.Prelude.{if◌then◌else◌}
use Prim.Native.Nat.{ℕ}
use Prim.Native.String.{String}
use mathlib.Core.Path.{◌≡◌, refl, sym, ap, ◌∙◌, subst}
use mathlib.Core.Bool.{Bool, true, false, not, false≢true}
use mathlib.Core.List.{List, [], ◌∷◌, ◌++◌, cons≢nil}
use mathlib.Core.Option.{Option, none, some}
use lib.Dec.{eqb, ltb}
use borrow.Author.Tests.{eq-eqb, ne_eqb}
use Rattle.format.specs.Bytes.{bytes, every}
use Rattle.format.specs.Refusals.{not_in_version, repeated_field, out_of_order, bad_descriptor}
use Rattle.format.specs.Lines.{Line, line, lf, text}
use Rattle.format.specs.Pairs.{plain}
use Rattle.format.specs.Fields.{Given, given, descriptor_of, field_since, is_repeated, in_order, is_understood, data_file}
use Rattle.format.specs.Descriptors.{descriptor, since, may_describe, dimension_of, space_size_of, names_follow}
use Rattle.format.specs.Header.{Item, field, closing, closes, after_item, Entry, entry, lines_of, wrong, right, on_field, judge}
use Rattle.format.specs.Writer.{field_line}
use Rattle.format.specs.HeaderWriter.{line_for}
use Rattle.format.proofs.Bytes.{every_append}
use Rattle.format.proofs.Lines.{Shape}
use Rattle.format.proofs.Judged.{keeps_judge}
use Rattle.format.proofs.Header.{Complete, FineBy, Fine}
use Rattle.theorem_roundtrip.proofs.Names.{Text}
use Rattle.theorem_roundtrip.proofs.Written.{NameOf, plain_line}

-- the lines ls, after the fields gs, are the end of a header with the fields gs' and the lines r after it; no names follow the fields gs
pub record Rest (version : ℕ) (gs : List Given) (ls : List Line) (gs' : List Given) (r : List Line) : Type 0 where
  pub entries : List Entry
  pub split : ls ≡ lines_of entries ++ r
  pub fine : Fine version gs entries gs' r
  pub no_names : names_follow gs ≡ false

-- ---- one line of a field

-- the field f may have the descriptor d after the fields gs
abbrev pub Described : List Given → ℕ → List ℕ → Type 0
Described gs f d = may_describe (dimension_of gs) (space_size_of gs) f d ≡ true

-- the name is that of the understood field f, which is not data file
pub record Understood (name : String) (f : ℕ) : Type 0 where
  pub named : NameOf name f
  pub meant : is_understood f ≡ true
  pub no_file : eqb f data_file ≡ false
  pub name_plain : every plain (bytes name) ≡ true

-- after another field names follow where they did before it
still_no_names : (f : ℕ) (d : List ℕ) (gs : List Given) → eqb f data_file ≡ false → names_follow gs ≡ false → names_follow (given f d ∷ gs) ≡ false
unfolding names_follow descriptor_of
still_no_names f d gs h n = rw (ne_eqb data_file f (λ e. false≢true (sym h ∙ eq-eqb f data_file (sym e)))) n

-- the line of the field may stand after the fields gs
pub record Allowed (version : ℕ) (gs : List Given) (f : ℕ) (d : List ℕ) : Type 0 where
  pub since : ltb version (field_since f) ≡ false
  pub new : is_repeated f gs ≡ false
  pub order : in_order f gs ≡ true
  pub fits : Described gs f d

module _ (version : ℕ) (gs : List Given) (name : String) (f : ℕ) (d : List ℕ) (u : Understood name f) (t : Text d) where
  -- it is allowed exactly where it is judged to be the field's
  judged : names_follow gs ≡ false → (i : Item) → judge version gs (bytes name ++ (bytes ": " ++ d)) ≡ right i → (i ≡ field f d) × Allowed version gs f d
  unfolding on_field descriptor since
  judged n i j =
      go (ltb version (field_since f)) refl (is_repeated f gs) refl (in_order f gs) refl (may_describe (dimension_of gs) (space_size_of gs) f d) refl
      (rw (u.no_file, u.meant, t.front, t.back) at (sym (u.named version gs d n t.bytes_plain) ∙ j))
    where
      no : {w : ℕ} → wrong w ≡ right i → ⊥
      no h = let q : false ≡ true = cc in false≢true q

      go : (a : Bool) → ltb version (field_since f) ≡ a → (b : Bool) → is_repeated f gs ≡ b → (c : Bool) → in_order f gs ≡ c
          → (may : Bool) → may_describe (dimension_of gs) (space_size_of gs) f d ≡ may
          → (if a then wrong not_in_version else if b then wrong repeated_field else if not c then wrong out_of_order
          else if not may then wrong bad_descriptor else right (field f d)) ≡ right i
          → (i ≡ field f d) × Allowed version gs f d
      go true x b y c z may q h = absurd (no h)
      go false x true y c z may q h = absurd (no h)
      go false x false y false z may q h = absurd (no h)
      go false x false y true z false q h = absurd (no h)
      go false x false y true z true q h = (cc, record { since = x; new = y; order = z; fits = q })

  judged_on : names_follow gs ≡ false → Allowed version gs f d → judge version gs (bytes name ++ (bytes ": " ++ d)) ≡ right (field f d)
  unfolding on_field descriptor since
  judged_on n a = u.named version gs d n t.bytes_plain ∙ rw (u.no_file, a.since, a.new, a.order, u.meant, t.front, t.back, a.fits)

  pub field_rest : {ls : List Line} {gs' : List Given} {r : List Line} → Rest version gs (field_line name d ∷ ls) gs' r
      → Allowed version gs f d × Rest version (given f d ∷ gs) ls gs' r
  field_rest {ls} {gs'} {r} x = go x.entries x.split x.fine
    where
      go : (es : List Entry) → field_line name d ∷ ls ≡ lines_of es ++ r → Fine version gs es gs' r
          → Allowed version gs f d × Rest version (given f d ∷ gs) ls gs' r
      go [] p q = absurd (cons≢nil (p ∙ q.0))
      go (entry l i ∷ es) p q =
          let a : field_line name d ≡ l = cc in
          let b : ls ≡ lines_of es ++ r = cc in
          let j = ap (λ (m : Line). judge version gs (text m)) a ∙ q.0 in
          let k = judged x.no_names i j in (
            k.1,
            record {
              entries = es;
              split = b;
              fine = subst (λ (i : Item). FineBy (closes i) gs es gs' (Fine version (after_item i gs) es gs' r)) k.0 q.1;
              no_names = still_no_names f d gs u.no_file x.no_names;
            },
          )

  pub rest_field : {ls : List Line} {gs' : List Given} {r : List Line} → names_follow gs ≡ false → Allowed version gs f d
      → Rest version (given f d ∷ gs) ls gs' r → Rest version gs (field_line name d ∷ ls) gs' r
  rest_field n a x =
      record {
        entries = entry (field_line name d) (field f d) ∷ x.entries;
        split = ap (λ (ls : List Line). field_line name d ∷ ls) x.split;
        fine = (judged_on n a, x.fine);
        no_names = n;
      }

-- the closing line, after which there is nothing
pub closing_rest : (version : ℕ) (gs gs' : List Given) (r : List Line) → Rest version gs (line [] lf ∷ []) gs' r → (gs' ≡ gs) × (r ≡ []) × Complete gs
closing_rest version gs gs' r x = go x.entries x.split x.fine
  where
    go : (es : List Entry) → line [] lf ∷ [] ≡ lines_of es ++ r → Fine version gs es gs' r → (gs' ≡ gs) × (r ≡ []) × Complete gs
    go [] p q = absurd (cons≢nil (p ∙ q.0))
    go (entry l i ∷ es) p q =
        let a : line [] lf ≡ l = cc in
        let b : [] ≡ lines_of es ++ r = cc in
        let j = ap (λ (m : Line). judge version gs (text m)) a ∙ q.0 in
        let c = keeps_judge version gs [] closing refl in
        let k : closing ≡ i = cc in
        let s = subst (λ (i : Item). FineBy (closes i) gs es gs' (Fine version (after_item i gs) es gs' r)) (sym k) q.1 in
        let none = s.0 in
        (s.2, rw none at (sym b), s.1)

pub rest_closing : (version : ℕ) (gs : List Given) → names_follow gs ≡ false → Complete gs → Rest version gs (line [] lf ∷ []) gs []
rest_closing version gs n c = record { entries = entry (line [] lf) closing ∷ []; split = refl; fine = (keeps_judge version gs [] closing refl, (refl, c, refl)); no_names = n }

-- ---- a line that may be missing

-- the fields given after it
abbrev pub with_given : {A : Type 0} → ℕ → (A → List ℕ) → Option A → List Given → List Given
with_given f show none gs = gs
with_given f show (some a) gs = given f (show a) ∷ gs

-- a law of the texts that are written
abbrev pub If : {A : Type 0} → Option A → (A → Type 0) → Type 0
If none P = Unit {0}
If (some a) P = P a

module _ {A : Type 0} (name : String) (f : ℕ) (show : A → List ℕ) (u : Understood name f) where
  pub option_rest : (version : ℕ) (gs : List Given) (o : Option A) → If o (λ a. Text (show a)) → {ls : List Line} {gs' : List Given} {r : List Line}
      → Rest version gs (line_for name show o ++ ls) gs' r → If o (λ a. Allowed version gs f (show a)) × Rest version (with_given f show o gs) ls gs' r
  option_rest version gs none t x = (tt, x)
  option_rest version gs (some a) t x = field_rest version gs name f (show a) u t x

  pub rest_option : (version : ℕ) (gs : List Given) (o : Option A) → If o (λ a. Text (show a)) → names_follow gs ≡ false
      → If o (λ a. Allowed version gs f (show a)) → {ls : List Line} {gs' : List Given} {r : List Line}
      → Rest version (with_given f show o gs) ls gs' r → Rest version gs (line_for name show o ++ ls) gs' r
  rest_option version gs none t n a x = x
  rest_option version gs (some b) t n a x = rest_field version gs name f (show b) u t n a x

  -- it keeps the line rule
  pub option_shape : (o : Option A) → If o (λ a. Text (show a)) → {ls : List Line} → Shape ls → Shape (line_for name show o ++ ls)
  unfolding every
  option_shape none t s = s
  option_shape (some a) t s = plain_line _ (every_append plain (bytes name) (bytes ": " ++ show a) u.name_plain t.bytes_plain) s
