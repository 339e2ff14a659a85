-- The place of a key's line: the pair's text put there makes the new lines of the old ones.
-- Assumes nothing.
use Rattle.std.specs.Prelude.{if◌then◌else◌}
use mathlib.Core.Path.{◌≡◌, refl, sym, ap, ◌∙◌, subst}
use mathlib.Core.Bool.{Bool, true, false, false≢true}
use mathlib.Core.List.{List, [], ◌∷◌, ◌++◌, map, append_assoc}
use mathlib.Core.Option.{Option, none, some}
use Prim.Native.Nat.{ℕ, suc, ◌+◌, ◌-◌, ◌≤◌, min}
use native.Mathlib.Nat.{zero-add}
use native.Mathlib.Omega.{arith}
use lib.ListN.{length, take, drop, length-append, length-map}
use lib.Seq.{take-append-add, drop-append-add, take-append_seam, drop-append_seam, length-take-le}
use Rattle.format.specs.declared.FindAnswer.{FindAnswer}
use Rattle.format.specs.Bytes.{same, is_some, or_else}
use Rattle.format.specs.Limits.{max_header}
use Rattle.format.specs.Lines.{Ending, Line, line, text, ending_bytes, line_bytes, size, lines, unlines, starts}
use Rattle.format.specs.Pairs.{escape}
use Rattle.format.specs.Fields.{Given}
use Rattle.format.specs.Header.{Item, magic, pair_of, Entry, entry, line_of, lines_of, right, accepted, after_item, header, header_length, value_for, value_in, value_of}
use Rattle.format.specs.Settings.{pair_text, has_key, replaced, new_lines}
use Rattle.format.specs.Calls.{found_at, value_place, key_place, find_key_in, find_key_call}
use Rattle.format.specs.Found.{Finds, escaped, FindsKey}
use Rattle.format.proofs.Bytes.{same_true}
use Rattle.format.proofs.Lines.{size_line}
use Rattle.format.proofs.Judged.{is_pair}
use Rattle.format.proofs.Pairs.{pair_line, length_pair}
use Rattle.format.proofs.Header.{Fine, fine_cases, header_sound, magic_line}
use Rattle.format.proofs.Found.{key_found}
use Rattle.read_header.specs.Accepted.{Fielded}
use Rattle.read_lines.specs.Spans.{LineAt, PastAt}
use Rattle.set_splice.specs.Edited.{edited}
use Rattle.read_table.specs.declared.table.Edit.{Edit}
use Rattle.read_table.specs.Shifts.{moved_by, shifted}
use Rattle.set_key.specs.Edits.{FirstAt, Placed}
use Rattle.read_table.proofs.Shifting.{moved_below, cons, starts_moved}

-- ---- the lines of pairs

-- the text of a line that is a pair is the one with which the pair is set
abbrev PairIn : Line → Item → Type 0
PairIn l i = (p : List ℕ × List ℕ) → pair_of i ≡ some p → text l ≡ pair_text p.0 p.1

abbrev PairLines : List Entry → Type 0
PairLines [] = Unit {0}
PairLines (entry l i ∷ es) = PairIn l i × PairLines es

-- so it is in a header, and a name under LIST is no pair
fine_pairs : (version : ℕ) (gs : List Given) (es : List Entry) (gs' : List Given) (r : List Line) → Fine version gs es gs' r → PairLines es
fine_pairs version gs [] gs' r f = tt
fine_pairs version gs (entry l i ∷ es) gs' r f = (
  λ p q. (pair_line version gs (text l) p.0 p.1 (f.0 ∙ ap right (is_pair i q))).text_is,
  fine_cases version gs l i es gs' r (λ es gs'. PairLines es) f (λ s c k. tt) (λ s c g. fine_pairs version (after_item i gs) es gs' r g),
)

-- ---- the last line of a key

-- the answer of the look-up in entries that start at `at`; the old value is `old`, and the line's text starts `before` bytes on
pub record Spot (k : List ℕ) (at : ℕ) (es : List Entry) (p : FindAnswer) : Type 0 where
  pub old : List ℕ
  pub before : ℕ
  pub place : p ≡ found_at (at + before + (length (escape k) + 2)) (length (escape old))
  pub within : before + length (pair_text k old) ≤ header_length es
  pub count : (t : List ℕ) → length (replaced k t es) ≡ length es
  pub bytes : (t : List ℕ) → unlines (replaced k t es) ≡ edited (unlines (lines_of es)) before (before + length (pair_text k old)) t
  pub table : (t : List ℕ) → starts at (replaced k t es) ≡ map (moved_by (at + (before + length (pair_text k old))) (at + before + length t)) (starts at (lines_of es))

module _ (k : List ℕ) (at : ℕ) (l : Line) (i : Item) (es : List Entry) where
  -- it comes later
  later : Spot k (at + size l) es (key_place k (at + size l) es) → has_key k es ≡ true → Spot k at (entry l i ∷ es) (key_place k at (entry l i ∷ es))
  unfolding replaced key_place unlines edited starts
  later s h =
      let n : at + size l + s.before + (length (escape k) + 2) ≡ at + (size l + s.before) + (length (escape k) + 2) = omega arith in
      let m : size l + s.before + length (pair_text k s.old) ≡ size l + (s.before + length (pair_text k s.old)) = omega arith in
      record {
        old = s.old;
        before = size l + s.before;
        place = rw h (s.place ∙ ap (λ a. found_at a (length (escape s.old))) n);
        within = omega (arith, s.within, length-append (line_bytes l) (unlines (lines_of es)));
        count = λ t. rw h (ap suc (s.count t));
        bytes = λ t. rw (h, s.bytes t, m, take-append-add, drop-append-add, append_assoc);
        table = λ t.
            let ss : List ℕ = starts (at + size l) (lines_of es) in
            let p : ℕ = at + (size l + s.before + length (pair_text k s.old)) in
            let q : ℕ = at + (size l + s.before) + length t in
            let a : at + size l + (s.before + length (pair_text k s.old)) ≡ p = omega arith in
            let b : at + size l + s.before + length t ≡ q = omega arith in
            rw h
            (cons (sym (moved_below p q at (omega (arith, length_pair k s.old))))
            (s.table t ∙ ap (λ j. map (moved_by j (at + size l + s.before + length t)) ss) a ∙ ap (λ j. map (moved_by p j) ss) b));
      }

-- it is this one
here : (k : List ℕ) (at : ℕ) (t : List ℕ) (e : Ending) (i : Item) (es : List Entry) (w : List ℕ) → t ≡ pair_text k w → has_key k es ≡ false → is_some (value_in k i) ≡ true
    → value_place at i ≡ found_at (at + (length (escape k) + 2)) (length (escape w)) → Spot k at (entry (line t e) i ∷ es) (key_place k at (entry (line t e) i ∷ es))
unfolding replaced key_place unlines edited starts
here k at t e i es w q h g p =
    let u : List ℕ = unlines (lines_of es) in
    let b : List ℕ = ending_bytes e in
    let n : at + (length (escape k) + 2) ≡ at + 0 + (length (escape k) + 2) = omega arith in
    record {
      old = w;
      before = 0;
      place = rw (h, g) (p ∙ ap (λ a. found_at a (length (escape w))) n);
      within = omega (arith, length-append (t ++ b) u, length-append t b, ap length q);
      count = λ r. rw (h, g) (ap suc (length-map es line_of));
      bytes = λ r. rw (h, g, q, zero-add, append_assoc (pair_text k w) b u, drop-append_seam (pair_text k w) (b ++ u)) (append_assoc r b u);
      table = λ r.
          let x : ℕ = at + (0 + length (pair_text k w)) in
          let y : ℕ = at + 0 + length r in
          let c = size_line t e in
          let d = size_line r e in
          rw (h, g)
          (cons (sym (moved_below x y at (omega (arith, length_pair k w))))
          (starts_moved (lines_of es) x y (at + size (line t e)) (at + size (line r e)) (omega (arith, ap length q)) (omega (arith, ap length q))));
    }

one : (k : List ℕ) (at : ℕ) (l : Line) (i : Item) (es : List Entry) → PairIn l i → has_key k es ≡ false → is_some (value_in k i) ≡ true
    → Spot k at (entry l i ∷ es) (key_place k at (entry l i ∷ es))
one k at (line t e) i es w h g = go (pair_of i) refl g
  where
    is_same : (x : Bool) (v : List ℕ) → is_some (if x then some v else none) ≡ true → x ≡ true
    is_same true v g = refl
    is_same false v g = absurd (false≢true g)

    go : (o : Option (List ℕ × List ℕ)) → pair_of i ≡ o → is_some (value_for k o) ≡ true → Spot k at (entry (line t e) i ∷ es) (key_place k at (entry (line t e) i ∷ es))
    go none q y = absurd (false≢true y)
    go (some p) q y =
        let s : k ≡ p.0 = same_true k p.0 (is_same (same k p.0) p.1 y) in
        here k at t e i es p.1 (rw s (w p q)) h g (rw (q, s))

spot_of : (k : List ℕ) (at : ℕ) (es : List Entry) → PairLines es → has_key k es ≡ true → Spot k at es (key_place k at es)
unfolding value_of
spot_of k at [] w h = absurd (false≢true h)
spot_of k at (entry l i ∷ es) w h = go (value_of k es) refl h (λ q. spot_of k (at + size l) es w.1 q)
  where
    go : (o : Option (List ℕ)) → value_of k es ≡ o → is_some (or_else o (value_in k i)) ≡ true
        → (has_key k es ≡ true → Spot k (at + size l) es (key_place k (at + size l) es)) → Spot k at (entry l i ∷ es) (key_place k at (entry l i ∷ es))
    go (some v) e g on = later k at l i es (on (ap is_some e)) (ap is_some e)
    go none e g on = one k at l i es w.0 (ap is_some e) g

-- line 1 is no pair
spot_after : (k : List ℕ) (l : Line) (v : ℕ) (es : List Entry) → PairLines es → has_key k (entry l (magic v) ∷ es) ≡ true
    → Spot k 0 (entry l (magic v) ∷ es) (key_place k 0 (entry l (magic v) ∷ es))
unfolding value_of
spot_after k l v es w h =
    let g = go (value_of k es) h in
    later k 0 l (magic v) es (spot_of k (0 + size l) es w g) g
  where
    go : (o : Option (List ℕ)) → is_some (or_else o none) ≡ true → is_some o ≡ true
    go none h = h
    go (some u) h = refl

-- ---- the place by the look-up's answer

module _ (file k : List ℕ) (p : FindAnswer) (is : p ≡ find_key_call file k) where
  in_header : {es : List Entry} {gs : List Given} {ls : List Line} → header file ≡ accepted es gs ls → p ≡ key_place k 0 es
  in_header e = is ∙ ap (find_key_in k) e

  -- a value is found exactly where there is one
  has : {es : List Entry} {gs : List Given} {ls : List Line} → header file ≡ accepted es gs ls → p.found ≡ has_key k es
  has {es} e = go (value_of k es) (subst (λ o. FindsKey file k o p) e (subst (FindsKey file k (header file)) (sym is) (key_found file k)))
    where
      go : (o : Option (List ℕ)) → Finds file (escaped o) p → p.found ≡ is_some o
      go none q = ap (λ a. a.found) q
      go (some v) q = q.there

  module _ (there : p.found ≡ true) where
    spot : {es : List Entry} {gs : List Given} {ls : List Line} → header file ≡ accepted es gs ls → Spot k 0 es p
    spot {es} {gs} {ls} e =
        let x = header_sound file e in
        let h : has_key k (entry x.first (magic x.version) ∷ x.rest) ≡ true = rw x.entries at (sym (has e) ∙ there) in
        subst (Spot k 0 es) (sym (in_header e))
        (rw x.entries (spot_after k x.first x.version x.rest (fine_pairs x.version [] x.rest gs ls x.fine) h))

    -- where the line's text starts and ends
    module _ (m : ℕ) (n : m ≡ min (length (escape k)) (max_header + 1)) where
      pub record Bounds (before long : ℕ) : Type 0 where
        pub front : m + 2 ≤ p.start
        pub starts : p.start - (m + 2) ≡ before
        pub ends : p.start + p.length ≡ before + long
        pub short : p.start + p.length ≤ max_header

      bounds : {es : List Entry} {gs : List Given} {ls : List Line} (e : header file ≡ accepted es gs ls) → Bounds (spot e).before (length (pair_text k (spot e).old))
      bounds e =
          let s = spot e in
          let a = ap (λ r. r.start) s.place in
          let b = ap (λ r. r.length) s.place in
          let c = (header_sound file e).short in
          let d = length_pair k s.old in
          let w = s.within in
          record { front = omega arith; starts = omega arith; ends = omega arith; short = omega arith }

      pub found_safe : {n : ℕ} → Fielded file n → (m + 2 ≤ p.start) × (p.start + p.length ≤ max_header)
      found_safe h = let b = bounds h.is in (b.front, b.short)

      pub found_placed : (n : ℕ) (es : List Entry) (gs : List Given) (ls : List Line) → header file ≡ accepted es gs ls
          → Placed k es n (record { from = p.start - (m + 2); to = p.start + p.length; front = p.start - (m + 2) + n; more = 0 })
      unfolding new_lines shifted
      found_placed n es gs ls e =
          let s = spot e in
          let b = bounds e in
          let h : has_key k es ≡ true = sym (has e) ∙ there in
          record {
            from = omega (arith, b.starts, s.within);
            to = omega (arith, b.ends, s.within);
            front = refl;
            few = omega arith;
            count = λ v. rw h (omega (arith, s.count (pair_text k v)));
            bytes = λ v. rw (h, b.starts, b.ends) (s.bytes (pair_text k v));
            table = λ v. rw (h, b.starts, b.ends) (simp zero-add at (s.table (pair_text k v)));
          }

-- a new line after line 1
placed_first : (k : List ℕ) (m : ℕ) (l : Line) (n : ℕ) (es : List Entry) → has_key k (entry l (magic n) ∷ es) ≡ false
    → Placed k (entry l (magic n) ∷ es) m (record { from = size l; to = length (text l); front = size l + m; more = 1 })
unfolding new_lines unlines edited starts shifted
placed_first k m (line t e) n es h =
    let b : List ℕ = ending_bytes e in
    let u : List ℕ = unlines (lines_of es) in
    record {
      from = omega (arith, length-append (t ++ b) u);
      to = omega (arith, length-append (t ++ b) u, length-append t b);
      front = refl;
      few = omega arith;
      count = λ v. rw h (omega (arith, length-map es line_of));
      bytes = λ v. rw (h, take-append_seam (t ++ b) u, append_assoc t b u, drop-append_seam t (b ++ u), append_assoc (pair_text k v) b u);
      table = λ v.
          let r : List ℕ = pair_text k v in
          let c = size_line t e in
          let d = size_line r e in
          rw h
          (cons refl
          (cons (zero-add (size (line t e)))
          (starts_moved (lines_of es) (length t) (size (line t e) + length r) (0 + size (line t e)) (0 + size (line t e) + size (line r e)) (omega arith) (omega arith))));
    }

pub absent_placed : (file k : List ℕ) (p : FindAnswer) → p ≡ find_key_call file k → p.found ≡ false → (m : ℕ) (r : Edit) → FirstAt file m r
    → (es : List Entry) (gs : List Given) (ls : List Line) → header file ≡ accepted es gs ls → Placed k es m r
absent_placed file k p is absent m r f es gs ls e =
    let x = header_sound file e in
    let q = x.entries in
    let c : lines file ≡ x.first ∷ (lines_of x.rest ++ ls) = x.split ∙ ap (λ z. lines_of z ++ ls) q in
    let y = f x.first (lines_of x.rest ++ ls) c (omega (arith, (magic_line x.first x.magical).0)) in
    let h : has_key k es ≡ false = sym (has file k p is e) ∙ absent in
    rw (q, y) (placed_first k m x.first x.version x.rest (rw q at h))

-- line 1 by the line at 0
module _ (file : List ℕ) (m : ℕ) where
  pub first_found : (text_end next : ℕ) → LineAt file 0 text_end next → FirstAt file m (record { from = next; to = text_end; front = next + m; more = 1 })
  first_found text_end next w l ls c h =
      let x : line (take (text_end - 0) file) w.ending ∷ lines (drop next file) ≡ l ∷ ls = sym w.cut ∙ c in
      let y : line (take (text_end - 0) file) w.ending ≡ l = cc in
      let a : next ≡ size l = omega (arith, w.bytes, ap size y) in
      let b : text_end ≡ length (text l) = sym (length-take-le (text_end - 0) file (omega (arith, w.to, w.within)) ∙ omega arith) ∙ ap (λ z. length (text z)) y in
      rw (a, b)

  pub first_past : PastAt file 0 → (r : Edit) → FirstAt file m r
  first_past w r l ls c h =
      let x : w.first ∷ w.rest ≡ l ∷ ls = sym w.cut ∙ c in
      let y : w.first ≡ l = cc in
      absurd (omega (arith, w.long, ap size y))
