-- The names under LIST stay: after any list of settings the lines from the first name on are those of the first file (`names_after_list`).
-- Assumes nothing.
use Rattle.std.specs.Prelude.{if◌then◌else◌}
use mathlib.Core.Path.{◌≡◌, refl, sym, ap, subst, ◌∙◌}
use Prim.Native.Nat.{ℕ}
use mathlib.Core.Bool.{Bool, true, false, false≢true}
use mathlib.Core.List.{List, [], ◌∷◌}
use mathlib.Core.Option.{Option, none, some}
use lib.ListN.{drop}
use Rattle.format.specs.Lines.{Ending, Line, line, text, ending}
use Rattle.format.specs.Fields.{Given, given, named}
use Rattle.format.specs.Descriptors.{names_follow}
use Rattle.format.specs.Header.{Item, magic, comment, field, pair, file_name, closing, pair_of, is_file_name, Entry, entry, item_of, lines_of, closes, after_item, before_names, field_lines}
use Rattle.format.specs.Rules.{Keeps}
use Rattle.format.specs.Settings.{pair_text, has_key, Setting, setting}
use Rattle.format.proofs.Judged.{judge_keeps, names_still}
use Rattle.format.proofs.Header.{FineBy, Fine}
use Rattle.theorem_lists.specs.Lists.{last_accepted, settled_lines}
use Rattle.theorem_lists.proofs.Entries.{pair_entry}
use Rattle.theorem_lists.proofs.Settled.{held_entry, settled_by, settled_entry, settled_entries, grown, after_list, lines_of_settled}

-- the lines from the first name on, the closing line included; none where there is no name
abbrev names_on : List Entry → List Line
names_on es = drop (field_lines es) (lines_of es)

-- a line before them
names_skip : (e : Entry) (es : List Entry) → is_file_name (item_of e) ≡ false → names_on (e ∷ es) ≡ names_on es
unfolding before_names
names_skip e es h = rw h

-- no name comes of a line that is none
still_no_name : (done : List Setting) (l : Line) (i : Item) (later : List Entry) → is_file_name i ≡ false → is_file_name (item_of (settled_entry done l i later)) ≡ false
still_no_name done l i later h = go (pair_of i)
  where
    by : (k : List ℕ) (x : Bool) (o : Option (List ℕ)) → is_file_name (item_of (if x then entry l i else held_entry l i k o)) ≡ false
    by k true o = h
    by k false none = h
    by k false (some w) = refl

    go : (o : Option (List ℕ × List ℕ)) → is_file_name (item_of (settled_by done l i o later)) ≡ false
    go none = h
    go (some p) = by p.0 (has_key p.0 later) (last_accepted p.0 done)

-- ---- under LIST no line is a pair

abbrev NoPairs : List Entry → Type 0
NoPairs [] = Unit {0}
NoPairs (e ∷ es) = (pair_of (item_of e) ≡ none) × NoPairs es

no_pairs : (version : ℕ) (es : List Entry) (gs gs' : List Given) (r : List Line) → names_follow gs ≡ true → Fine version gs es gs' r → NoPairs es
no_pairs version [] gs gs' r n f = tt
no_pairs version (entry l i ∷ es) gs gs' r n f =
    go i (judge_keeps version gs (text l) f.0) f.1 (λ hs m g. no_pairs version es hs gs' r m g)
  where
    go : (i : Item) → Keeps version gs (text l) i → FineBy (closes i) gs es gs' (Fine version (after_item i gs) es gs' r)
        → ((hs : List Given) → names_follow hs ≡ true → Fine version hs es gs' r → NoPairs es) → NoPairs (entry l i ∷ es)
    go (magic m) k g on = absurd k
    go comment k g on = absurd (false≢true (sym k.0 ∙ n))
    go (field f d) k g on = absurd (false≢true (sym k.other.no_names ∙ n))
    go (pair a b) k g on = absurd (false≢true (sym k.other.no_names ∙ n))
    go (file_name t) k g on = (refl, on (named t ∷ gs) (names_still t gs ∙ n) g)
    go closing k g on = (refl, subst NoPairs (sym g.0) tt)

-- lines that are no pairs stay
same_lines : (done : List Setting) (es : List Entry) → NoPairs es → settled_lines done es ≡ lines_of es
unfolding settled_lines
same_lines done [] p = refl
same_lines done (entry l i ∷ es) p = rw (p.0, same_lines done es p.1)

-- ---- the lines from the first name on

module _ (version : ℕ) (done : List Setting) where
  names_settled : (es : List Entry) (gs gs' : List Given) (r : List Line) → Fine version gs es gs' r → names_on (settled_entries done es) ≡ names_on es
  unfolding before_names
  names_settled [] gs gs' r f = refl
  names_settled (entry l i ∷ es) gs gs' r f =
      go i (judge_keeps version gs (text l) f.0) f.1 (λ hs g. names_settled es hs gs' r g)
    where
      skip : (i : Item) → is_file_name i ≡ false → names_on (settled_entries done es) ≡ names_on es
          → names_on (settled_entries done (entry l i ∷ es)) ≡ names_on (entry l i ∷ es)
      skip i h e =
          names_skip (settled_entry done l i es) (settled_entries done es) (still_no_name done l i es h)
          ∙ e
          ∙ sym (names_skip (entry l i) es h)

      go : (i : Item) → Keeps version gs (text l) i → FineBy (closes i) gs es gs' (Fine version (after_item i gs) es gs' r)
          → ((hs : List Given) → Fine version hs es gs' r → names_on (settled_entries done es) ≡ names_on es)
          → names_on (settled_entries done (entry l i ∷ es)) ≡ names_on (entry l i ∷ es)
      go (magic m) k g on = absurd k
      go comment k g on = skip comment refl (on gs g)
      go (field f d) k g on = skip (field f d) refl (on (given f d ∷ gs) g)
      go (pair a b) k g on = skip (pair a b) refl (on gs g)
      go (file_name t) k g on =
          ap (λ (ls : List Line). l ∷ ls)
          (lines_of_settled done es ∙ same_lines done es (no_pairs version es (named t ∷ gs) gs' r (names_still t gs ∙ k.follows) g))
      go closing k g on = skip closing refl (rw g.0)

-- inserted lines stand before them
names_grown : (all done : List Setting) (e : Ending) (es : List Entry) → names_on (settled_entries all (grown done e es)) ≡ names_on (settled_entries all es)
names_grown all [] e es = refl
names_grown all (setting k v ∷ done) e es = go (has_key k (grown done e es)) (names_grown all done e es)
  where
    go : (x : Bool) → names_on (settled_entries all (grown done e es)) ≡ names_on (settled_entries all es)
        → names_on (settled_entries all (if x then grown done e es else pair_entry k v e ∷ grown done e es)) ≡ names_on (settled_entries all es)
    go true on = on
    go false on =
        names_skip (settled_entry all (line (pair_text k v) e) (pair k v) (grown done e es)) (settled_entries all (grown done e es))
        (still_no_name all (line (pair_text k v) e) (pair k v) (grown done e es) refl)
        ∙ on

pub names_after_list : (done : List Setting) (l : Line) (n : ℕ) (es : List Entry) (gs : List Given) (r : List Line) → Fine n [] es gs r
    → names_on (entry l (magic n) ∷ after_list done (ending l) es) ≡ names_on (entry l (magic n) ∷ es)
names_after_list done l n es gs r f =
    names_skip (entry l (magic n)) (after_list done (ending l) es) refl
    ∙ names_grown done done (ending l) es
    ∙ names_settled n done es [] gs r f
    ∙ sym (names_skip (entry l (magic n)) es refl)
