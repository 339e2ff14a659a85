-- The header's entries after a list of settings, in closed form: one more setting gives the form of the longer list, their lines are
-- `settled`, and each key has the value accepted for it last. `done` has the accepted settings, the last one first.
-- Assumes nothing.
use Rattle.std.specs.Prelude.{if◌then◌else◌}
use mathlib.Core.Path.{◌≡◌, refl, sym, ap, ◌∙◌}
use Prim.Native.Nat.{ℕ}
use mathlib.Core.Bool.{Bool, true, false, ◌||◌, false≢true}
use mathlib.Core.List.{List, [], ◌∷◌, ◌++◌}
use mathlib.Core.Option.{Option, none, some}
use Rattle.format.specs.Bytes.{same, is_some, or_else}
use Rattle.format.specs.Lines.{Ending, Line, line, ending}
use Rattle.format.specs.Header.{Item, pair, pair_of, Entry, entry, line_of, item_of, lines_of, value_for, value_in, value_of}
use Rattle.format.specs.Settings.{pair_text, has_key, Setting, setting}
use Rattle.format.proofs.Bytes.{same_refl, same_true, same_swap}
use Rattle.theorem_lists.specs.Lists.{last_accepted, held_line, settled_pair, settled_lines, is_key_in, new_keys, inserted_lines, settled}
use Rattle.theorem_lists.proofs.Entries.{pair_entry, replaced_entries, put_entries}

-- ---- the closed form

-- the entry of a line of the key k at another value; as it was where there is none
abbrev pub held_entry : Line → Item → List ℕ → Option (List ℕ) → Entry
held_entry l i k none = entry l i
held_entry l i k (some w) = pair_entry k w (ending l)

-- an entry before the entries `later`, by its pair: the last one of a key that was set is at the value accepted last
abbrev pub settled_by : List Setting → Line → Item → Option (List ℕ × List ℕ) → List Entry → Entry
settled_by done l i none later = entry l i
settled_by done l i (some p) later = if has_key p.0 later then entry l i else held_entry l i p.0 (last_accepted p.0 done)

abbrev pub settled_entry : List Setting → Line → Item → List Entry → Entry
settled_entry done l i later = settled_by done l i (pair_of i) later

-- all of the entries
abbrev pub settled_entries : List Setting → List Entry → List Entry
settled_entries done [] = []
settled_entries done (entry l i ∷ es) = settled_entry done l i es ∷ settled_entries done es

-- the entries, and above them one for each accepted key that they lack, at the value accepted for it first; its line has the ending e
abbrev pub grown : List Setting → Ending → List Entry → List Entry
grown [] e es = es
grown (setting k v ∷ done) e es = if has_key k (grown done e es) then grown done e es else pair_entry k v e ∷ grown done e es

-- the entries after line 1, whose ending is e
abbrev pub after_list : List Setting → Ending → List Entry → List Entry
after_list done e es = settled_entries done (grown done e es)

-- ---- values and keys of settled entries

-- a value that is there, or the one accepted last in its place
abbrev renewed : Option (List ℕ) → Option (List ℕ) → Option (List ℕ)
renewed o none = none
renewed o (some v) = or_else o (some v)

renewed_some : (o : Option (List ℕ)) (v : List ℕ) (p : Option (List ℕ)) → or_else (renewed o (some v)) p ≡ renewed o (some v)
renewed_some none v p = refl
renewed_some (some w) v p = refl

-- of an entry that no later one of the key j follows
value_of_entry : (done : List Setting) (j : List ℕ) (l : Line) (i : Item) (es : List Entry) → value_of j es ≡ none
    → value_in j (item_of (settled_entry done l i es)) ≡ renewed (last_accepted j done) (value_in j i)
value_of_entry done j l i es e = go (pair_of i) refl
  where
    here : (k v : List ℕ) → pair_of i ≡ some (k, v) → (o : Option (List ℕ)) → value_in k (item_of (held_entry l i k o)) ≡ renewed o (some v)
    here k v q none = rw (q, same_refl)
    here k v q (some w) = rw same_refl

    away : (k v : List ℕ) → pair_of i ≡ some (k, v) → same j k ≡ false → (x : Bool) (o : Option (List ℕ))
        → value_in j (item_of (if x then entry l i else held_entry l i k o)) ≡ none
    away k v q s true o = rw (q, s)
    away k v q s false none = rw (q, s)
    away k v q s false (some w) = rw s

    by : (k v : List ℕ) → pair_of i ≡ some (k, v) → (x : Bool) → same j k ≡ x
        → value_in j (item_of (if has_key k es then entry l i else held_entry l i k (last_accepted k done)))
        ≡ renewed (last_accepted j done) (if x then some v else none)
    by k v q true s =
        let p : j ≡ k = same_true j k s in
        let n : has_key k es ≡ false = ap is_some (rw p at e) in
        rw (p, n) (here k v q (last_accepted k done))
    by k v q false s = away k v q s (has_key k es) (last_accepted k done)

    go : (o : Option (List ℕ × List ℕ)) → pair_of i ≡ o → value_in j (item_of (settled_by done l i o es)) ≡ renewed (last_accepted j done) (value_for j o)
    go none q = rw q
    go (some p) q = by p.0 p.1 q (same j p.0) refl

-- of any entries
value_of_settled : (done : List Setting) (j : List ℕ) (es : List Entry)
    → value_of j (settled_entries done es) ≡ renewed (last_accepted j done) (value_of j es)
unfolding value_of
value_of_settled done j [] = refl
value_of_settled done j (entry l i ∷ es) = rw (value_of_settled done j es) (go (value_of j es) refl)
  where
    go : (o : Option (List ℕ)) → value_of j es ≡ o
        → or_else (renewed (last_accepted j done) o) (value_in j (item_of (settled_entry done l i es)))
        ≡ renewed (last_accepted j done) (or_else o (value_in j i))
    go none e = value_of_entry done j l i es e
    go (some w) e = renewed_some (last_accepted j done) w (value_in j (item_of (settled_entry done l i es)))

some_renewed : (o p : Option (List ℕ)) → is_some (renewed o p) ≡ is_some p
some_renewed o none = refl
some_renewed none (some v) = refl
some_renewed (some w) (some v) = refl

-- settled entries have the same keys
has_settled : (done : List Setting) (j : List ℕ) (es : List Entry) → has_key j (settled_entries done es) ≡ has_key j es
has_settled done j es = rw (value_of_settled done j es) (some_renewed (last_accepted j done) (value_of j es))

-- ---- one more setting

-- where no entry has the key, none is replaced
replaced_absent : (k v : List ℕ) (es : List Entry) → has_key k es ≡ false → replaced_entries k v es ≡ es
unfolding value_of
replaced_absent k v [] h = refl
replaced_absent k v (e ∷ es) h = go (value_of k es) (value_in k (item_of e)) h
  where
    go : (o p : Option (List ℕ)) → is_some (or_else o p) ≡ false
        → (if is_some o then e ∷ replaced_entries k v es else if is_some p then pair_entry k v (ending (line_of e)) ∷ es else e ∷ es) ≡ e ∷ es
    go none none q = refl
    go none (some w) q = absurd (false≢true (sym q))
    go (some u) p q = absurd (false≢true (sym q))

module _ (done : List Setting) (k v : List ℕ) where
  abbrev more : List Setting
  more = setting k v ∷ done

  -- an entry of another key stays as it is, and so does one that another entry of k follows
  entry_other : (l : Line) (i : Item) (es : List Entry) (p : List ℕ × List ℕ) → same p.0 k ≡ false
      → settled_by done l i (some p) es ≡ settled_by more l i (some p) es
  unfolding last_accepted
  entry_other l i es p s = rw s

  entry_early : (l : Line) (i : Item) (es : List Entry) → has_key k es ≡ true → settled_entry done l i es ≡ settled_entry more l i es
  entry_early l i es h = go (pair_of i)
    where
      by : (p : List ℕ × List ℕ) (x : Bool) → same p.0 k ≡ x → settled_by done l i (some p) es ≡ settled_by more l i (some p) es
      by p true s = let n : has_key p.0 es ≡ true = rw (same_true p.0 k s) h in rw n
      by p false s = entry_other l i es p s

      go : (o : Option (List ℕ × List ℕ)) → settled_by done l i o es ≡ settled_by more l i o es
      go none = refl
      go (some p) = by p (same p.0 k) refl

  -- the last entry of k gets the value; no entry of k follows l
  abbrev last_replaced : Entry → List Entry → List Entry
  last_replaced e es =
      if is_some (value_in k (item_of e)) then pair_entry k v (ending (line_of e)) ∷ settled_entries done es else e ∷ settled_entries done es

  last_replaced_lem : (l : Line) (i : Item) (es : List Entry) → has_key k es ≡ false → settled_entries done es ≡ settled_entries more es
      → last_replaced (settled_entry done l i es) es ≡ settled_entry more l i es ∷ settled_entries more es
  unfolding last_accepted
  last_replaced_lem l i es h e = go (pair_of i) refl
    where
      ends : (j : List ℕ) (o : Option (List ℕ)) → ending (line_of (held_entry l i j o)) ≡ ending l
      ends j none = refl
      ends j (some u) = refl

      hit : (j w : List ℕ) → pair_of i ≡ some (j, w) → same k j ≡ true → (o : Option (List ℕ)) → is_some (value_in k (item_of (held_entry l i j o))) ≡ true
      hit j w q s none = rw (q, s)
      hit j w q s (some u) = rw s

      miss : (j w : List ℕ) → pair_of i ≡ some (j, w) → same k j ≡ false → (x : Bool) (o : Option (List ℕ))
          → is_some (value_in k (item_of (if x then entry l i else held_entry l i j o))) ≡ false
      miss j w q s true o = rw (q, s)
      miss j w q s false none = rw (q, s)
      miss j w q s false (some u) = rw s

      by : (j w : List ℕ) → pair_of i ≡ some (j, w) → (x : Bool) → same k j ≡ x
          → last_replaced (settled_by done l i (some (j, w)) es) es ≡ settled_by more l i (some (j, w)) es ∷ settled_entries more es
      by j w q true s =
          let p : k ≡ j = same_true k j s in
          let n : has_key j es ≡ false = rw p at h in
          let s' : same j k ≡ true = rw p (same_refl j) in
          rw (n, s', hit j w q s (last_accepted j done), ends j (last_accepted j done), e, p)
      by j w q false s = rw (miss j w q s (has_key j es) (last_accepted j done), entry_other l i es (j, w) (same_swap k j s), e)

      go : (o : Option (List ℕ × List ℕ)) → pair_of i ≡ o → last_replaced (settled_by done l i o es) es ≡ settled_by more l i o es ∷ settled_entries more es
      go none q = rw (q, e)
      go (some p) q = by p.0 p.1 q (same k p.0) refl

  -- to replace the last entry of k is to accept one more setting
  replaced_settled : (es : List Entry) → replaced_entries k v (settled_entries done es) ≡ settled_entries more es
  replaced_settled [] = refl
  replaced_settled (entry l i ∷ es) =
      rw (has_settled done k es, replaced_settled es) (go (has_key k es) refl (replaced_settled es))
    where
      go : (x : Bool) → has_key k es ≡ x → replaced_entries k v (settled_entries done es) ≡ settled_entries more es
          → (if x then settled_entry done l i es ∷ settled_entries more es else last_replaced (settled_entry done l i es) es)
          ≡ settled_entry more l i es ∷ settled_entries more es
      go true h on = rw (entry_early l i es h)
      go false h on =
          last_replaced_lem l i es h (sym (replaced_absent k v (settled_entries done es) (has_settled done k es ∙ h)) ∙ on)

  -- setting k to v gives the form of the longer list
  pub put_after_list : (e : Ending) (es : List Entry) → put_entries k v e (after_list done e es) ≡ after_list more e es
  unfolding last_accepted
  put_after_list e es = rw (has_settled done k (grown done e es), replaced_settled (grown done e es)) (go (has_key k (grown done e es)) refl)
    where
      go : (x : Bool) → has_key k (grown done e es) ≡ x
          → (if x then settled_entries more (grown done e es) else pair_entry k v e ∷ settled_entries done (grown done e es))
          ≡ settled_entries more (if x then grown done e es else pair_entry k v e ∷ grown done e es)
      go true h = refl
      go false h =
          let o : settled_entries done (grown done e es) ≡ settled_entries more (grown done e es) =
          sym (replaced_absent k v (settled_entries done (grown done e es)) (has_settled done k (grown done e es) ∙ h))
          ∙ replaced_settled (grown done e es) in
          rw (h, same_refl k, o)

-- no setting: the entries themselves
entry_nil : (l : Line) (i : Item) (es : List Entry) → settled_entry [] l i es ≡ entry l i
unfolding last_accepted
entry_nil l i es = go (pair_of i)
  where
    by : (x : Bool) → (if x then entry l i else entry l i) ≡ entry l i
    by true = refl
    by false = refl

    go : (o : Option (List ℕ × List ℕ)) → settled_by [] l i o es ≡ entry l i
    go none = refl
    go (some p) = by (has_key p.0 es)

pub after_list_nil : (e : Ending) (es : List Entry) → after_list [] e es ≡ es
after_list_nil e [] = refl
after_list_nil e (entry l i ∷ es) = rw (after_list_nil e es, entry_nil l i es)

-- ---- keys of the grown entries

-- their keys are the first ones and the new ones
has_grown : (done : List Setting) (e : Ending) (es : List Entry) (j : List ℕ)
    → has_key j (grown done e es) ≡ (has_key j es || is_key_in j (new_keys done es))
unfolding new_keys is_key_in value_of
has_grown [] e es j = or-false (has_key j es)
  where
    or-false : (x : Bool) → x ≡ (x || false)
    or-false true = refl
    or-false false = refl
has_grown (setting k v ∷ done) e es j =
    rw (has_grown done e es k) (go (has_key k es || is_key_in k (new_keys done es)) (has_grown done e es j))
  where
    or_has : (o : Option (List ℕ)) (x : Bool) → is_some (or_else o (if x then some v else none)) ≡ (is_some o || x)
    or_has none true = refl
    or_has none false = refl
    or_has (some u) x = refl

    swap : (x y z : Bool) → ((x || y) || z) ≡ (x || (z || y))
    swap true y z = refl
    swap false true true = refl
    swap false true false = refl
    swap false false true = refl
    swap false false false = refl

    go : (x : Bool) → has_key j (grown done e es) ≡ (has_key j es || is_key_in j (new_keys done es))
        → has_key j (if x then grown done e es else pair_entry k v e ∷ grown done e es)
        ≡ (has_key j es || is_key_in j (if x then new_keys done es else k ∷ new_keys done es))
    go true on = on
    go false on = rw (or_has (value_of j (grown done e es)) (same j k), on) (swap (has_key j es) (is_key_in j (new_keys done es)) (same j k))

-- ---- the lines

line_of_entry : (done : List Setting) (l : Line) (i : Item) (o : Option (List ℕ × List ℕ)) (es : List Entry) → line_of (settled_by done l i o es) ≡ settled_pair done l o es
line_of_entry done l i none es = refl
line_of_entry done l i (some p) es = go (has_key p.0 es) (last_accepted p.0 done)
  where
    go : (x : Bool) (o : Option (List ℕ)) → line_of (if x then entry l i else held_entry l i p.0 o) ≡ (if x then l else held_line l p.0 o)
    go true o = refl
    go false none = refl
    go false (some w) = refl

pub lines_of_settled : (done : List Setting) (es : List Entry) → lines_of (settled_entries done es) ≡ settled_lines done es
unfolding settled_lines
lines_of_settled done [] = refl
lines_of_settled done (entry l i ∷ es) = rw (line_of_entry done l i (pair_of i) es, lines_of_settled done es)

-- each key of the second list is set in the first
abbrev AllSet : List Setting → List Setting → Type 0
AllSet all [] = Unit {0}
AllSet all (setting k v ∷ done) = (is_some (last_accepted k all) ≡ true) × AllSet all done

all_set_more : (all done : List Setting) (k v : List ℕ) → AllSet all done → AllSet (setting k v ∷ all) done
unfolding last_accepted
all_set_more all [] k v s = tt
all_set_more all (setting j w ∷ done) k v s = (go (same j k), all_set_more all done k v s.1)
  where
    go : (x : Bool) → is_some (if x then some v else last_accepted j all) ≡ true
    go true = refl
    go false = s.0

all_set : (done : List Setting) → AllSet done done
unfolding last_accepted
all_set [] = tt
all_set (setting k v ∷ done) = (rw same_refl, all_set_more done done k v (all_set done))

-- above the first entries' lines stand those of the new keys
lines_of_grown : (all done : List Setting) → AllSet all done → (e : Ending) (es : List Entry)
    → lines_of (settled_entries all (grown done e es)) ≡ inserted_lines all e (new_keys done es) ++ settled_lines all es
unfolding new_keys inserted_lines
lines_of_grown all [] s e es = lines_of_settled all es
lines_of_grown all (setting k v ∷ done) s e es =
    rw (← has_grown done e es k) (go (has_key k (grown done e es)) refl (lines_of_grown all done s.1 e es))
  where
    held : (o : Option (List ℕ)) → is_some o ≡ true → line_of (held_entry (line (pair_text k v) e) (pair k v) k o) ≡ held_line (line [] e) k o
    held none h = absurd (false≢true h)
    held (some w) h = refl

    go : (x : Bool) → has_key k (grown done e es) ≡ x
        → lines_of (settled_entries all (grown done e es)) ≡ inserted_lines all e (new_keys done es) ++ settled_lines all es
        → lines_of (settled_entries all (if x then grown done e es else pair_entry k v e ∷ grown done e es))
        ≡ inserted_lines all e (if x then new_keys done es else k ∷ new_keys done es) ++ settled_lines all es
    go true h on = on
    go false h on = rw (h, on, held (last_accepted k all) s.0)

-- the header's lines are the settled ones
pub lines_after_list : (done : List Setting) (l : Line) (i : Item) (es : List Entry)
    → lines_of (entry l i ∷ after_list done (ending l) es) ≡ settled done (entry l i ∷ es)
unfolding settled
lines_after_list done l i es = rw (lines_of_grown done done (all_set done) (ending l) es)

-- ---- the values

-- a key that was not accepted has its first value
value_of_grown : (done : List Setting) (e : Ending) (es : List Entry) (j : List ℕ) → last_accepted j done ≡ none
    → value_of j (grown done e es) ≡ value_of j es
unfolding last_accepted value_of
value_of_grown [] e es j q = refl
value_of_grown (setting k v ∷ done) e es j q = go (same j k) refl q (λ p. value_of_grown done e es j p)
  where
    or_none : (o : Option (List ℕ)) → or_else o none ≡ o
    or_none none = refl
    or_none (some w) = refl

    other : same j k ≡ false → (x : Bool)
        → value_of j (if x then grown done e es else pair_entry k v e ∷ grown done e es) ≡ value_of j (grown done e es)
    other s true = refl
    other s false = rw s (or_none (value_of j (grown done e es)))

    go : (x : Bool) → same j k ≡ x → (if x then some v else last_accepted j done) ≡ none
        → (last_accepted j done ≡ none → value_of j (grown done e es) ≡ value_of j es)
        → value_of j (grown (setting k v ∷ done) e es) ≡ value_of j es
    go true s q on = cc
    go false s q on = other s (has_key k (grown done e es)) ∙ on q

-- an accepted key is there
grown_has : (done : List Setting) (e : Ending) (es : List Entry) (j w : List ℕ) → last_accepted j done ≡ some w
    → has_key j (grown done e es) ≡ true
unfolding last_accepted value_of
grown_has [] e es j w q = cc
grown_has (setting k v ∷ done) e es j w q = go (same j k) refl q (λ p. grown_has done e es j w p)
  where
    there : (o : Option (List ℕ)) → is_some (or_else o (some v)) ≡ true
    there none = refl
    there (some u) = refl

    still : (o p : Option (List ℕ)) → is_some o ≡ true → is_some (or_else o p) ≡ true
    still none p h = absurd (false≢true h)
    still (some u) p h = refl

    this : same j k ≡ true → (x : Bool) → has_key k (grown done e es) ≡ x
        → has_key j (if x then grown done e es else pair_entry k v e ∷ grown done e es) ≡ true
    this s true h = rw (same_true j k s) h
    this s false h = rw s (there (value_of j (grown done e es)))

    other : has_key j (grown done e es) ≡ true → (x : Bool)
        → has_key j (if x then grown done e es else pair_entry k v e ∷ grown done e es) ≡ true
    other h true = h
    other h false = still (value_of j (grown done e es)) (value_in j (pair k v)) h

    go : (x : Bool) → same j k ≡ x → (if x then some v else last_accepted j done) ≡ some w
        → (last_accepted j done ≡ some w → has_key j (grown done e es) ≡ true)
        → has_key j (grown (setting k v ∷ done) e es) ≡ true
    go true s q on = this s (has_key k (grown done e es)) refl
    go false s q on = other (on q) (has_key k (grown done e es))

-- each key is at the value accepted for it last, or else at its first one
pub value_after_list : (done : List Setting) (e : Ending) (es : List Entry) (j : List ℕ)
    → value_of j (after_list done e es) ≡ or_else (last_accepted j done) (value_of j es)
value_after_list done e es j = rw (value_of_settled done j (grown done e es)) (go (last_accepted j done) refl)
  where
    renewed_last : (w : List ℕ) (o : Option (List ℕ)) → is_some o ≡ true → renewed (some w) o ≡ some w
    renewed_last w none h = absurd (false≢true h)
    renewed_last w (some u) h = refl

    renewed_none : (o : Option (List ℕ)) → renewed none o ≡ o
    renewed_none none = refl
    renewed_none (some u) = refl

    go : (o : Option (List ℕ)) → last_accepted j done ≡ o → renewed o (value_of j (grown done e es)) ≡ or_else o (value_of j es)
    go none q = renewed_none (value_of j (grown done e es)) ∙ value_of_grown done e es j q
    go (some w) q = renewed_last w (value_of j (grown done e es)) (grown_has done e es j w q)
