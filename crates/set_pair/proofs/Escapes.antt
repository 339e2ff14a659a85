-- Keys and values as lines hold them: escaped byte by byte, how long that is, and whether a key has a mark.
-- Assumes nothing.
use Rattle.std.specs.Prelude.{if◌then◌else◌}
use mathlib.Core.Path.{◌≡◌, refl, sym, ap, ◌∙◌}
use mathlib.Core.Bool.{Bool, true, false, not, ◌&&◌, ◌||◌}
use mathlib.Core.List.{List, [], ◌∷◌, ◌++◌, append_assoc}
use Prim.Native.Nat.{ℕ, suc, ◌+◌, ◌≤◌, ◌<◌}
use native.Mathlib.Omega.{arith}
use lib.Dec.{eqb}
use lib.ListN.{length, take, drop, get_or, set, length-append, take-append-drop}
use lib.Seq.{sets, take_all}
use borrow.Author.Tests.{eqb-true}
use Rattle.format.specs.Bytes.{bytes, every, LF, HASH, COLON, SPACE, EQUALS, BACKSLASH}
use Rattle.format.specs.Pairs.{Marked, unmarked, field_mark, pair_mark, after_colon, more_before, first_mark, mark, has_mark, comment_line, other_line, kind_of, is_unmarked, escape}
use Rattle.format.specs.Settings.{settable, key_fine, value_fine, pair_text}
use Rattle.format.proofs.Stores.{sets_then, take_more}

-- ---- byte by byte

pub escape_none : escape [] ≡ []
unfolding escape
escape_none = refl

pub escape_append : (u v : List ℕ) → escape (u ++ v) ≡ escape u ++ escape v
unfolding escape
escape_append [] v = refl
escape_append (b ∷ u) v = go (eqb b LF) (eqb b BACKSLASH) (escape_append u v)
  where
    go : (x y : Bool) → escape (u ++ v) ≡ escape u ++ escape v
        → (if x then bytes "\\n" ++ escape (u ++ v) else if y then bytes "\\\\" ++ escape (u ++ v) else b ∷ escape (u ++ v))
        ≡ (if x then bytes "\\n" ++ escape u else if y then bytes "\\\\" ++ escape u else b ∷ escape u) ++ escape v
    go true y e = rw e
    go false true e = rw e
    go false false e = rw e

-- one byte more
pub escape_suc : (s : List ℕ) (i : ℕ) → i < length s → escape (take (i + 1) s) ≡ escape (take i s) ++ escape (get_or s i 0 ∷ [])
escape_suc s i h = ap escape (take_more s i 0 h) ∙ escape_append (take i s) (get_or s i 0 ∷ [])

pub escape_suc_length : (s : List ℕ) (i : ℕ) → i < length s
    → length (escape (take (i + 1) s)) ≡ length (escape (take i s)) + length (escape (get_or s i 0 ∷ []))
escape_suc_length s i h = ap length (escape_suc s i h) ∙ length-append (escape (take i s)) (escape (get_or s i 0 ∷ []))

-- what is left has room for the next byte
pub escape_room : (s : List ℕ) (i : ℕ) → i < length s → length (escape (take i s)) + length (escape (get_or s i 0 ∷ [])) ≤ length (escape s)
escape_room s i h =
    let e : length (escape s) ≡ length (escape (take (i + 1) s)) + length (escape (drop (i + 1) s)) =
    ap (λ (r : List ℕ). length (escape r)) (sym (take-append-drop (i + 1) s)) ∙ ap length (escape_append (take (i + 1) s) (drop (i + 1) s)) ∙ length-append (escape (take (i + 1) s)) (escape (drop (i + 1) s)) in
    omega (arith, escape_suc_length s i h)

pub escape_turn : (l d s : List ℕ) (at o i : ℕ) → i < length s → o ≡ at + length (escape (take i s)) → d ≡ sets l at (escape (take i s))
    → sets d o (escape (get_or s i 0 ∷ [])) ≡ sets l at (escape (take (i + 1) s))
escape_turn l d s at o i h p e =
    ap (λ (r : List ℕ). sets r o (escape (get_or s i 0 ∷ []))) e
    ∙ sets_then l (escape (take i s)) (escape (get_or s i 0 ∷ [])) at o p
    ∙ ap (sets l at) (sym (escape_suc s i h))

pub escape_all : (s : List ℕ) (i : ℕ) → length s ≤ i → escape (take i s) ≡ escape s
escape_all s i h = ap escape (take_all i s h)

pub esc_small : (c : ℕ) → length (escape (c ∷ [])) ≤ 2
unfolding escape
esc_small c = go (eqb c LF) (eqb c BACKSLASH)
  where
    go : (x y : Bool) → length (if x then bytes "\\n" ++ [] else if y then bytes "\\\\" ++ [] else c ∷ []) ≤ 2
    go true y = omega arith
    go false true = omega arith
    go false false = omega arith

-- what a loop over the bytes needs
pub ruleset escape_steps = (escape_none, escape_all, escape_suc_length, esc_small, escape_room, escape_turn)

-- ---- the text of a pair

pub pair_eq : (b k v : List ℕ) (at a : ℕ) → a ≡ at + length (escape k)
    → sets (set (set (sets b at (escape k)) a 58) (a + 1) 61) (a + 2) (escape v) ≡ sets b at (pair_text k v)
unfolding pair_text
pair_eq b k v at a p =
    let mid : List ℕ = 58 ∷ 61 ∷ [] in
    let e₁ : a + 1 ≡ suc a = omega arith in
    let e₂ : a + 2 ≡ at + length (escape k ++ mid) = simp length-append (omega arith) in
    let j : (escape k ++ mid) ++ escape v ≡ escape k ++ (mid ++ escape v) = append_assoc (escape k) mid (escape v) in
    ap (λ (j : ℕ). sets (set (set (sets b at (escape k)) a 58) j 61) (a + 2) (escape v)) e₁
    ∙ ap (λ (r : List ℕ). sets r (a + 2) (escape v)) (sets_then b (escape k) mid at a p)
    ∙ sets_then b (escape k ++ mid) (escape v) at (a + 2) e₂
    ∙ ap (sets b at) j

-- ---- the mark of a key: escaping makes none and hides none

has_first : (m n : Marked) → has_mark (first_mark m n) ≡ (has_mark m || has_mark n)
has_first unmarked n = refl
has_first (field_mark a d) n = refl
has_first (pair_mark a d) n = refl

has_more : (b : ℕ) (m : Marked) → has_mark (more_before b m) ≡ has_mark m
has_more b unmarked = refl
has_more b (field_mark a d) = refl
has_more b (pair_mark a d) = refl

has_cons : (b : ℕ) (s : List ℕ) → has_mark (mark (b ∷ s)) ≡ (has_mark (if eqb b COLON then after_colon s else unmarked) || has_mark (mark s))
unfolding mark
has_cons b s = has_first (if eqb b COLON then after_colon s else unmarked) (more_before b (mark s)) ∙ rw (has_more b (mark s))

after_escape : (s : List ℕ) → has_mark (after_colon (escape s)) ≡ has_mark (after_colon s)
unfolding escape
after_escape [] = refl
after_escape (c ∷ s) = go (eqb c LF) refl (eqb c BACKSLASH) refl
  where
    other : (x y : Bool) → has_mark (if x then field_mark [] (escape s) else if y then pair_mark [] (escape s) else unmarked)
        ≡ has_mark (if x then field_mark [] s else if y then pair_mark [] s else unmarked)
    other true y = refl
    other false true = refl
    other false false = refl

    go : (x : Bool) → eqb c LF ≡ x → (y : Bool) → eqb c BACKSLASH ≡ y
        → has_mark (after_colon (if x then bytes "\\n" ++ escape s else if y then bytes "\\\\" ++ escape s else c ∷ escape s))
        ≡ has_mark (if eqb c SPACE then field_mark [] s else if eqb c EQUALS then pair_mark [] s else unmarked)
    go true e y f = rw (eqb-true c LF e)
    go false e true f = rw (eqb-true c BACKSLASH f)
    go false e false f = other (eqb c SPACE) (eqb c EQUALS)

mark_of_escape : (k : List ℕ) → has_mark (mark (escape k)) ≡ has_mark (mark k)
unfolding escape mark
mark_of_escape [] = refl
mark_of_escape (b ∷ k) = go (eqb b LF) refl (eqb b BACKSLASH) refl (mark_of_escape k) ∙ sym (has_cons b k)
  where
    other : (x : Bool) → has_mark (mark (escape k)) ≡ has_mark (mark k)
        → (has_mark (if x then after_colon (escape k) else unmarked) || has_mark (mark (escape k)))
        ≡ (has_mark (if x then after_colon k else unmarked) || has_mark (mark k))
    other true h = rw (h, after_escape k)
    other false h = h

    two : (c d : ℕ) → eqb c COLON ≡ false → eqb d COLON ≡ false → has_mark (mark (c ∷ d ∷ escape k)) ≡ has_mark (mark (escape k))
    two c d p q = has_cons c (d ∷ escape k) ∙ rw p (has_cons d (escape k) ∙ rw q)

    go : (x : Bool) → eqb b LF ≡ x → (y : Bool) → eqb b BACKSLASH ≡ y → has_mark (mark (escape k)) ≡ has_mark (mark k)
        → has_mark (mark (if x then bytes "\\n" ++ escape k else if y then bytes "\\\\" ++ escape k else b ∷ escape k))
        ≡ (has_mark (if eqb b COLON then after_colon k else unmarked) || has_mark (mark k))
    go true e y f h = two 92 110 refl refl ∙ rw (eqb-true b LF e) h
    go false e true f h = two 92 92 refl refl ∙ rw (eqb-true b BACKSLASH f) h
    go false e false f h = has_cons b (escape k) ∙ other (eqb b COLON) h

-- an escaped text is empty, or a comment, if and only if the text is; and it has a mark if and only if the text has one
kind_of_escape : (k : List ℕ) → is_unmarked (kind_of (escape k)) ≡ is_unmarked (kind_of k)
unfolding escape
kind_of_escape [] = refl
kind_of_escape (b ∷ k) = go (eqb b LF) refl (eqb b BACKSLASH) refl (mark_of_escape (b ∷ k))
  where
    -- by the first byte and the marks
    first : (x : Bool) (m n : Marked) → has_mark m ≡ has_mark n
        → is_unmarked (if x then comment_line else other_line m) ≡ is_unmarked (if x then comment_line else other_line n)
    first true m n h = refl
    first false m n h = rw h

    go : (x : Bool) → eqb b LF ≡ x → (y : Bool) → eqb b BACKSLASH ≡ y
        → let s = if x then bytes "\\n" ++ escape k else if y then bytes "\\\\" ++ escape k else b ∷ escape k in
        has_mark (mark s) ≡ has_mark (mark (b ∷ k)) → is_unmarked (kind_of s) ≡ is_unmarked (kind_of (b ∷ k))
    go true e y f h = let p = eqb-true b LF e in rw p (ap not (rw p at h))
    go false e true f h = let p = eqb-true b BACKSLASH f in rw p (ap not (rw p at h))
    go false e false f h = first (eqb b HASH) (mark (b ∷ escape k)) (mark (b ∷ k)) h

-- a key by what its text is
pub key_unmarked : (k : List ℕ) → kind_of k ≡ other_line unmarked → value_fine k ≡ key_fine k
unfolding key_fine value_fine
key_unmarked k e = let h : is_unmarked (kind_of (escape k)) ≡ true = kind_of_escape k ∙ ap is_unmarked e in rw h (go (every settable k))
  where
    go : (x : Bool) → x ≡ (x && true)
    go true = refl
    go false = refl

pub key_other : (k : List ℕ) → is_unmarked (kind_of k) ≡ false → false ≡ key_fine k
unfolding key_fine
key_other k e = let h : is_unmarked (kind_of (escape k)) ≡ false = kind_of_escape k ∙ e in rw h (go (every settable k))
  where
    go : (x : Bool) → false ≡ (x && false)
    go true = refl
    go false = refl
