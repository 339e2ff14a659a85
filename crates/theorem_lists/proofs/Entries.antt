-- The entries of a header once a key is set: their lines are `new_lines`, and the new file's header is accepted as these entries, with the
-- fields of the old one.
-- Assumes nothing.
use Rattle.std.specs.Prelude.{if◌then◌else◌}
use mathlib.Core.Path.{◌≡◌, refl, sym, ap, ◌∙◌, subst}
use Prim.Native.Nat.{ℕ, ◌≤◌}
use native.Mathlib.Omega.{arith}
use mathlib.Core.Bool.{Bool, true, false, false≢true}
use mathlib.Core.List.{List, [], ◌∷◌, ◌++◌, cons≢nil}
use mathlib.Core.Option.{Option, none, some, none-ne-some}
use lib.ListN.{length}
use Rattle.format.specs.Bytes.{is_some, or_else}
use Rattle.format.specs.Limits.{max_file, max_header, max_lines}
use Rattle.format.specs.Lines.{Ending, Line, line, text, ending, lines, unlines}
use Rattle.format.specs.Pairs.{plain}
use Rattle.format.specs.Fields.{Given, pairs_since}
use Rattle.format.specs.Descriptors.{names_follow}
use Rattle.format.specs.Header.{Item, magic, pair, pair_of, Entry, entry, line_of, item_of, lines_of, closes, after_item, version_of_line, accepted, header, header_length, value_for, value_in, value_of}
use Rattle.format.specs.Settings.{key_fine, value_fine, pair_text, has_key, replaced, new_lines}
use Rattle.format.specs.Rules.{Keeps}
use Rattle.format.proofs.Lines.{Shape, lf_line, crlf_line, eof_line, unlines_append, lines_unique, shape_of_lines, shape_after, shape_retext, ends_of}
use Rattle.format.proofs.Judged.{is_pair, judge_keeps, no_names}
use Rattle.format.proofs.Pairs.{plain-no-LF, length_pair, plain_of_pair, judge_of_pair}
use Rattle.format.proofs.Header.{FineBy, Fine, IsHeader, header_sound, header_fine}

-- ---- the entries once k is set to v

-- the line that sets k to v, and what it is
abbrev pub pair_entry : List ℕ → List ℕ → Ending → Entry
pair_entry k v e = entry (line (pair_text k v) e) (pair k v)

-- the last entry with the key k gets the value v, and its line keeps its ending
abbrev pub replaced_entries : List ℕ → List ℕ → List Entry → List Entry
replaced_entries k v [] = []
replaced_entries k v (e ∷ es) =
    if has_key k es then e ∷ replaced_entries k v es
    else if is_some (value_in k (item_of e)) then pair_entry k v (ending (line_of e)) ∷ es
    else e ∷ es

-- the entries after line 1, whose ending is e
abbrev pub put_entries : List ℕ → List ℕ → Ending → List Entry → List Entry
put_entries k v e es = if has_key k es then replaced_entries k v es else pair_entry k v e ∷ es

lines_replaced : (k v : List ℕ) (es : List Entry) → lines_of (replaced_entries k v es) ≡ replaced k (pair_text k v) es
unfolding replaced
lines_replaced k v [] = refl
lines_replaced k v (entry l i ∷ es) = go (has_key k es) (is_some (value_in k i)) (lines_replaced k v es)
  where
    go : (x y : Bool) → lines_of (replaced_entries k v es) ≡ replaced k (pair_text k v) es
        → lines_of (if x then entry l i ∷ replaced_entries k v es else if y then pair_entry k v (ending l) ∷ es else entry l i ∷ es)
        ≡ (if x then l ∷ replaced k (pair_text k v) es else if y then line (pair_text k v) (ending l) ∷ lines_of es else l ∷ lines_of es)
    go true y on = rw on
    go false true on = refl
    go false false on = refl

-- their lines are the new lines
pub lines_put : (k v : List ℕ) (l : Line) (n : ℕ) (es : List Entry)
    → new_lines k v (entry l (magic n) ∷ es) ≡ lines_of (entry l (magic n) ∷ put_entries k v (ending l) es)
unfolding new_lines replaced value_of
lines_put k v l n es = go (value_of k es) (lines_replaced k v es)
  where
    go : (o : Option (List ℕ)) → lines_of (replaced_entries k v es) ≡ replaced k (pair_text k v) es
        → (if is_some (or_else o none)
        then (if is_some o then l ∷ replaced k (pair_text k v) es else l ∷ lines_of es)
        else l ∷ line (pair_text k v) (ending l) ∷ lines_of es)
        ≡ l ∷ lines_of (if is_some o then replaced_entries k v es else pair_entry k v (ending l) ∷ es)
    go none on = refl
    go (some w) on = rw on

-- ---- they are fine: a pair gives neither a field nor a name, and none stands among the names under LIST

-- other entries after a line, which are none where none were
fine_next : (t : Bool) (gs : List Given) (es fs : List Entry) (gs' : List Given) (P Q : Type 0)
    → (es ≡ [] → fs ≡ []) → (P → Q) → FineBy t gs es gs' P → FineBy t gs fs gs' Q
fine_next true gs es fs gs' P Q e q f = (e f.0, f.1, f.2)
fine_next false gs es fs gs' P Q e q f = q f

module _ (version : ℕ) (k v : List ℕ) (since : pairs_since ≤ version) (key : key_fine k ≡ true) (value : value_fine v ≡ true) where
  -- another pair may stand for an entry with the key k: no names follow the fields before it, or it would be a name
  fine_pair : (gs : List Given) (l : Line) (e : Ending) (i : Item) (es : List Entry) (gs' : List Given) (r : List Line)
      → is_some (value_in k i) ≡ true → Fine version gs (entry l i ∷ es) gs' r → Fine version gs (pair_entry k v e ∷ es) gs' r
  fine_pair gs l e i es gs' r h f = go (pair_of i) refl h
    where
      go : (o : Option (List ℕ × List ℕ)) → pair_of i ≡ o → is_some (value_for k o) ≡ true → Fine version gs (pair_entry k v e ∷ es) gs' r
      go none q h = absurd (false≢true h)
      go (some p) q h =
          let line = subst (Keeps version gs (text l)) (is_pair i q) (judge_keeps version gs (text l) f.0) in
          (judge_of_pair version gs k v line.other.no_names since key value, rw (is_pair i q) at f.1)

  fine_replaced : (es : List Entry) (gs gs' : List Given) (r : List Line) → Fine version gs es gs' r
      → Fine version gs (replaced_entries k v es) gs' r
  fine_replaced [] gs gs' r f = f
  fine_replaced (entry l i ∷ es) gs gs' r f =
      go (has_key k es) (is_some (value_in k i)) refl (λ g. fine_replaced es (after_item i gs) gs' r g)
    where
      go : (x y : Bool) → is_some (value_in k i) ≡ y
          → (Fine version (after_item i gs) es gs' r → Fine version (after_item i gs) (replaced_entries k v es) gs' r)
          → Fine version gs (if x then entry l i ∷ replaced_entries k v es else if y then pair_entry k v (ending l) ∷ es else entry l i ∷ es) gs' r
      go true y e on = (
        f.0,
        fine_next (closes i) gs es (replaced_entries k v es) gs' (Fine version (after_item i gs) es gs' r)
            (Fine version (after_item i gs) (replaced_entries k v es) gs' r) (λ q. rw q) on f.1,
      )
      go false true e on = fine_pair gs l (ending l) i es gs' r e f
      go false false e on = f

  -- a line is inserted after line 1, where nothing is given yet
  fine_put : (e : Ending) (es : List Entry) (gs gs' : List Given) (r : List Line) → names_follow gs ≡ false → Fine version gs es gs' r
      → Fine version gs (put_entries k v e es) gs' r
  fine_put e es gs gs' r n f = go (has_key k es)
    where
      go : (x : Bool) → Fine version gs (if x then replaced_entries k v es else pair_entry k v e ∷ es) gs' r
      go true = fine_replaced es gs gs' r f
      go false = (judge_of_pair version gs k v n since key value, f)

-- ---- their lines keep the line rule

-- other lines after a line, which are none where none were
shape_tail : {l : Line} {ls ms : List Line} → Shape (l ∷ ls) → (ls ≡ [] → ms ≡ []) → Shape ms → Shape (l ∷ ms)
shape_tail (lf_line p q s) e m = lf_line p q m
shape_tail (crlf_line p s) e m = crlf_line p m
shape_tail (eof_line p n) e m = rw (e refl) (eof_line p n)

-- any lines may follow line 1
shape_first : {l : Line} {ls ms : List Line} {n : ℕ} → version_of_line l ≡ some n → Shape (l ∷ ls) → Shape ms → Shape (l ∷ ms)
shape_first e (lf_line p q s) m = lf_line p q m
shape_first e (crlf_line p s) m = crlf_line p m
shape_first e (eof_line p n) m = absurd (none-ne-some _ e)

replaced_nil : (k v : List ℕ) (es : List Entry) (r : List Line) → lines_of es ++ r ≡ [] → lines_of (replaced_entries k v es) ++ r ≡ []
replaced_nil k v [] r e = e
replaced_nil k v (entry l i ∷ es) r e = absurd (cons≢nil e)

module _ (k v : List ℕ) (key : key_fine k ≡ true) (value : value_fine v ≡ true) where
  -- a line gets the text that sets k to v
  shape_pair : (l : Line) (ls : List Line) → Shape (l ∷ ls) → Shape (line (pair_text k v) (ending l) ∷ ls)
  shape_pair (line t e) ls s =
      let p = plain_of_pair k v key value in
      shape_retext (pair_text k v) (plain-no-LF (pair_text k v) p) (ends_of plain refl (pair_text k v) p)
      (omega (arith, length_pair k v)) s

  shape_replaced : (es : List Entry) (r : List Line) → Shape (lines_of es ++ r) → Shape (lines_of (replaced_entries k v es) ++ r)
  shape_replaced [] r s = s
  shape_replaced (entry l i ∷ es) r s =
      go (has_key k es) (is_some (value_in k i)) (shape_replaced es r (shape_after (l ∷ []) (lines_of es ++ r) s))
    where
      go : (x y : Bool) → Shape (lines_of (replaced_entries k v es) ++ r)
          → Shape (lines_of (if x then entry l i ∷ replaced_entries k v es else if y then pair_entry k v (ending l) ∷ es else entry l i ∷ es) ++ r)
      go true y on = shape_tail s (replaced_nil k v es r) on
      go false true on = shape_pair l (lines_of es ++ r) s
      go false false on = s

  shape_put : (l : Line) {n : ℕ} (es : List Entry) (r : List Line) → version_of_line l ≡ some n → Shape (l ∷ lines_of es ++ r)
      → Shape (l ∷ lines_of (put_entries k v (ending l) es) ++ r)
  shape_put l es r m s = shape_first m s (go (has_key k es))
    where
      go : (x : Bool) → Shape (lines_of (if x then replaced_entries k v es else pair_entry k v (ending l) ∷ es) ++ r)
      go true = shape_replaced es r (shape_after (l ∷ []) (lines_of es ++ r) s)
      go false = shape_pair l (lines_of es ++ r) s

-- ---- the header of the new file

-- line 1 of an accepted header, and what follows it
pub first_of : {s : List ℕ} {l : Line} {n : ℕ} {es : List Entry} {gs : List Given} {r : List Line} → IsHeader s (entry l (magic n) ∷ es) gs r
    → (version_of_line l ≡ some n) × Fine n [] es gs r
first_of {l = l} {n = n} {es = es} x =
    let p : l ≡ x.first = cc in
    let q : n ≡ x.version = cc in
    let o : es ≡ x.rest = cc in
    (rw (p, q) x.magical, rw (q, o) x.fine)

-- once k is set to v, within the limits, the header is accepted, with the same fields and before the same lines
pub header_put : (s : List ℕ) (l : Line) (n : ℕ) (es : List Entry) (gs : List Given) (r : List Line) (k v : List ℕ)
    → header s ≡ accepted (entry l (magic n) ∷ es) gs r → pairs_since ≤ n → key_fine k ≡ true → value_fine v ≡ true
    → let new = entry l (magic n) ∷ put_entries k v (ending l) es in
    header_length new ≤ max_header → length new ≤ max_lines → length (unlines (lines_of new) ++ unlines r) ≤ max_file
    → header (unlines (lines_of new) ++ unlines r) ≡ accepted new gs r
header_put s l n es gs r k v e since key value b c h =
    let x = header_sound s e in
    let y = first_of x in
    let new : List Entry = put_entries k v (ending l) es in
    let shape : Shape (l ∷ lines_of es ++ r) = rw x.split at (shape_of_lines s) in
    let shape' : Shape (l ∷ lines_of new ++ r) = shape_put k v key value l es r y.0 shape in
    header_fine (unlines (l ∷ lines_of new) ++ unlines r) l n new gs r
    (ap lines (sym (unlines_append (l ∷ lines_of new) r)) ∙ lines_unique shape') y.0
    (fine_put n k v since key value (ending l) es [] gs r no_names y.1) b c h
