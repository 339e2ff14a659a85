-- What a list leaves past the file and past the count: zeros up to the longest file, then the first bytes; the first entries.
-- Assumes nothing.
use Rattle.std.specs.Prelude.{if◌then◌else◌}
use Prim.Native.Nat.{ℕ, zero, suc, ◌+◌, ◌-◌, ◌≤◌, max}
use native.Mathlib.Omega.{arith}
use mathlib.Core.Path.{◌≡◌, refl, sym, ap, ◌∙◌}
use mathlib.Core.Bool.{Bool, true, false, not, ◌&&◌, ◌||◌}
use mathlib.Core.List.{List, [], ◌∷◌, ◌++◌, append_assoc}
use lib.Dec.{eqb, ltb, leb}
use lib.ListN.{length, take, drop, replicate, length-map, take-append-drop, replicate-append-replicate}
use lib.Seq.{drop-drop, drop_at, take-append_seam, length-take-le}
use borrow.Author.Tests.{ltb-false, eqb-true, not-false}
use Rattle.format.specs.declared.Refusal.{Refusal}
use Rattle.format.specs.Bytes.{same, is_some, over}
use Rattle.format.specs.Limits.{max_file, max_header, max_lines}
use Rattle.format.specs.Lines.{Line, line, ending, unlines, starts}
use Rattle.format.specs.Fields.{pairs_since}
use Rattle.format.specs.Header.{Entry, entry, line_of, lines_of, Outcome, refused, accepted, header, version_of, value_in, table_of}
use Rattle.format.specs.Settings.{key_fine, value_fine, pair_text, has_key, replaced, inserted, new_lines, refilled, table_fine, Lent, lent, Setting, setting, SetOutcome, kept, changed, store, set_read, set_key}
use Rattle.format.specs.Calls.{set_answer, left, recorded, set_keys_by, set_keys}
use Rattle.format.proofs.Bytes.{and_left, or-false}
use Rattle.format.proofs.Lines.{length_starts}
use Rattle.format.proofs.Header.{length_table}
use Rattle.theorem_lists.specs.Lists.{buffer_of, used_of, table_in, count_in, file_in, most_used}

-- ---- one setting

-- it holds if the test refuses, or else if it holds of what follows the test
pub unless : (P : SetOutcome → Type 0) (t : Bool) (r : Refusal) (o : SetOutcome) → P (kept r) → (t ≡ false → P o) → P (if t then kept r else o)
unless P true r o h f = h
unless P false r o h f = f refl

-- no line is lost
length_replaced : (k t : List ℕ) (es : List Entry) → length (replaced k t es) ≡ length es
unfolding replaced
length_replaced k t [] = refl
length_replaced k t (entry l i ∷ es) = go (has_key k es) (is_some (value_in k i)) (length_replaced k t es)
  where
    go : (x y : Bool) → length (replaced k t es) ≡ length es
        → length (if x then l ∷ replaced k t es else if y then line t (ending l) ∷ lines_of es else l ∷ lines_of es) ≡ suc (length es)
    go true y e = ap suc e
    go false true e = ap suc (length-map es line_of)
    go false false e = ap suc (length-map es line_of)

new_lines_more : (k v : List ℕ) (es : List Entry) → length es ≤ length (new_lines k v es)
unfolding new_lines
new_lines_more k v es = go (has_key k es) es
  where
    go : (x : Bool) (es : List Entry) → length es ≤ length (if x then replaced k (pair_text k v) es else inserted (pair_text k v) es)
    go true es = omega (arith, length_replaced k (pair_text k v) es)
    go false [] = omega arith
    go false (entry l i ∷ es) = omega (arith, length-map es line_of)

table_fine_count : (table : List ℕ) (count : ℕ) (es : List Entry) → table_fine table count (table_of es) ≡ true → count ≡ length es
unfolding table_fine
table_fine_count table count es e =
    eqb-true count (length (table_of es)) (and_left (eqb count (length (table_of es))) (leb count (length table) && same (take count table) (table_of es)) e)
    ∙ length_table es

module _ (buf : List ℕ) (used : ℕ) (table : List ℕ) (count : ℕ) where
  -- a file and as many starts as its header has lines are stored; there are no fewer than before, the table has room for them, and the
  -- header is within its limit
  pub record Stored (x : Lent) : Type 0 where
    pub file : List ℕ
    pub ls : List Line
    pub within : used ≤ length buf
    pub is : x ≡ lent (refilled buf used file) (length file) (over (starts 0 ls) table) (length ls)
    pub more : count ≤ length ls
    pub room : length ls ≤ length table
    pub short : length (unlines ls) ≤ max_header

  abbrev pub Done : SetOutcome → Type 0
  Done (kept r) = Unit {0}
  Done (changed x) = Stored x

  pub set_done : (k v : List ℕ) → Done (set_key (lent buf used table count) (setting k v))
  unfolding set_key set_read store
  set_done k v = unless Done (ltb (length buf) used) _ _ tt λ short. go short (header (take used buf))
    where
      go : ltb (length buf) used ≡ false → (o : Outcome) → Done (set_read buf used table count k v o)
      go short (refused r) = tt
      go short (accepted es gs ls) =
          let new : List Line = new_lines k v es in
          let file : List ℕ = unlines new ++ unlines ls in
          unless Done (ltb (version_of es) pairs_since) _ _ tt λ since.
          unless Done (not (key_fine k)) _ _ tt λ key.
          unless Done (not (value_fine v)) _ _ tt λ value.
          unless Done (not (table_fine table count (table_of es))) _ _ tt λ fine.
          unless Done (ltb max_header (length (unlines new))) _ _ tt λ small.
          unless Done (ltb max_lines (length new)) _ _ tt λ few.
          unless Done (ltb max_file (length file)) _ _ tt λ bounded.
          unless Done (ltb (length buf) (length file) || ltb (length table) (length new)) _ _ tt λ room.
          record {
            file = file;
            ls = new;
            within = ltb-false (length buf) used short;
            is = refl;
            more = omega (arith, table_fine_count table count es (not-false (table_fine table count (table_of es)) fine), new_lines_more k v es);
            room = ltb-false (length table) (length new) (or-false (ltb (length buf) (length file)) (ltb (length table) (length new)) room).1;
            short = ltb-false max_header (length (unlines new)) small;
          }

-- ---- past the file and past the count

-- a refilled buffer begins with the new file
pub take_refilled : (buf : List ℕ) (used : ℕ) (file : List ℕ) → take (length file) (refilled buf used file) ≡ file
unfolding refilled
take_refilled buf used file = take-append_seam file _

-- zeros, then the bytes from m on: what is left past k of them
drop_zeros : (k a m : ℕ) (b : List ℕ) → drop k (replicate a 0 ++ drop m b) ≡ replicate (a - k) 0 ++ drop (m + (k - a)) b
drop_zeros zero a m b =
    let p : a - 0 ≡ a = omega arith in
    let q : m + (0 - a) ≡ m = omega arith in
    rw (p, q)
drop_zeros (suc k) zero m b =
    let p : 0 - suc k ≡ 0 = omega arith in
    let q : suc k - 0 ≡ suc k = omega arith in
    rw (p, q) (drop-drop (suc k) m b)
drop_zeros (suc k) (suc a) m b =
    let p : suc a - suc k ≡ a - k = omega arith in
    let q : suc k - suc a ≡ k - a = omega arith in
    rw (p, q) (drop_zeros k a m b)

-- as many zeros as a file of `used` bytes vacates for one of n, and those that are left of d more
zeros_left : (used n d : ℕ) → used - n + (d - (n - used)) ≡ max (used + d) n - n
zeros_left used n d = omega arith

zeros_joined : (a c : ℕ) (s : List ℕ) → replicate a 0 ++ (replicate c 0 ++ s) ≡ replicate (a + c) 0 ++ s
zeros_joined a c s = rw (← append_assoc, replicate-append-replicate)

-- a file of `used` bytes before d zeros and the bytes of b₀ from there: a file of n bytes takes its place
zeros_refilled : (buf b₀ : List ℕ) (used n d : ℕ) → drop used buf ≡ replicate d 0 ++ drop (used + d) b₀
    → replicate (used - n) 0 ++ drop (max used n) buf ≡ replicate (max (used + d) n - n) 0 ++ drop (max (used + d) n) b₀
zeros_refilled buf b₀ used n d e =
    let p : max used n ≡ used + (n - used) = omega arith in
    let q : used + d + (n - used - d) ≡ max (used + d) n = omega arith in
    rw (p, ← drop-drop (n - used) used buf, e, drop_zeros (n - used) d (used + d) b₀, q, zeros_joined, zeros_left used n d)

-- the first used length is no larger than the largest
most_first : (ss : List Setting) (x : Lent) → used_of x ≤ most_used ss x
unfolding most_used
most_first [] x = omega arith
most_first (s ∷ ss) x = omega arith

module _ (b₀ t₀ : List ℕ) where
  -- the file, zeros up to m, and the bytes of b₀ from there; past the count the entries of t₀
  record Held (m : ℕ) (x : Lent) : Type 0 where
    most : used_of x ≤ m
    buffer : buffer_of x ≡ file_in x ++ (replicate (m - used_of x) 0 ++ drop m b₀)
    table : drop (count_in x) (table_in x) ≡ drop (count_in x) t₀

  module _ (buf : List ℕ) (used : ℕ) (table : List ℕ) (count m : ℕ) (h : Held m (lent buf used table count)) where
    -- once a file is stored
    held_stored : {x : Lent} → Stored buf used table count x → Held (max m (used_of x)) x
    unfolding refilled
    held_stored s =
        let file : List ℕ = s.file in
        let n : ℕ = length s.ls in
        let p : length (starts 0 s.ls) ≡ n = length_starts 0 s.ls in
        let q : n ≡ count + (n - count) = omega (arith, s.more) in
        let f : used + (m - used) ≡ m = omega (arith, h.most) in
        let rest = ap (drop used) h.buffer ∙ drop_at (take used buf) _ used (length-take-le used buf s.within) in
        rw s.is
        (record {
          most = omega arith;
          buffer = rw (take-append_seam file) (ap (λ (t : List ℕ). file ++ t) (rw f at (zeros_refilled buf b₀ used (length file) (m - used) (rw f rest))));
          table = drop_at (starts 0 s.ls) _ n p ∙ ap (λ (j : ℕ). drop j table) (p ∙ q) ∙ sym (drop-drop (n - count) count table)
              ∙ ap (drop (n - count)) h.table ∙ drop-drop (n - count) count t₀ ∙ ap (λ (j : ℕ). drop j t₀) (sym q);
        })

    -- after a setting, refused or done
    held_left : (o : SetOutcome) → Done buf used table count o
        → let x = left (set_answer buf used table count o) in Held (max m (used_of x)) x
    held_left (kept r) s = let e : max m used ≡ m = omega (arith, h.most) in rw e h
    held_left (changed (lent buf' used' table' count')) s = held_stored s

  -- after every list
  held_list : (ss : List Setting) (x : Lent) (done : List Setting) (m : ℕ) → Held m x → Held (max m (most_used ss x)) (set_keys ss x done).0
  unfolding most_used set_keys_by
  held_list [] x done m h = let e : max m (used_of x) ≡ m = omega (arith, h.most) in rw e h
  held_list (setting k v ∷ ss) (lent buf used table count) done m h =
      let o : SetOutcome = set_key (lent buf used table count) (setting k v) in
      let a = set_answer buf used table count o in
      let e : max m (max used (most_used ss (left a))) ≡ max (max m (used_of (left a))) (most_used ss (left a)) =
      omega (arith, h.most, most_first ss (left a)) in
      rw e
      (held_list ss (left a) (recorded a.0 (setting k v) done) (max m (used_of (left a)))
      (held_left buf used table count m h o (set_done buf used table count k v)))

-- whatever is lent
held_after : (l : Lent) (ss : List Setting) → Held (buffer_of l) (table_in l) (most_used ss l) (set_keys ss l []).0
held_after (lent buf used table count) ss =
    let l : Lent = lent buf used table count in
    let e : max used (most_used ss l) ≡ most_used ss l = omega (arith, most_first ss l) in
    let z : used - used ≡ 0 = omega arith in
    rw e at (held_list buf table ss l [] used (record { most = omega arith; buffer = rw z (sym (take-append-drop used buf)); table = refl }))

pub buffers_after : (l : Lent) (ss : List Setting)
    → let after = (set_keys ss l []).0 in let most = most_used ss l in
    buffer_of after ≡ file_in after ++ (replicate (most - used_of after) 0 ++ drop most (buffer_of l))
buffers_after l ss = (held_after l ss).buffer

pub tables_after : (l : Lent) (ss : List Setting)
    → let after = (set_keys ss l []).0 in drop (count_in after) (table_in after) ≡ drop (count_in after) (table_in l)
tables_after l ss = (held_after l ss).table
