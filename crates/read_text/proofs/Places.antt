-- Laws of what the leaves answer about a text: by index for their loops, and as parts of the text for those that call them.
-- Assumes nothing.
use Rattle.std.specs.Prelude.{if◌then◌else◌}
use Prim.Native.Nat.{ℕ, zero, suc, ◌+◌, ◌≤◌, ◌<◌, ◌-◌}
use native.Mathlib.Nat.{zero-add, add-zero, le_of_suc-le-suc, not-suc-le-zero}
use native.Mathlib.Numerals.{add-one, one-add}
use native.Mathlib.Omega.{arith}
use mathlib.Core.Path.{◌≡◌, refl, sym, ap, ◌∙◌, subst}
use mathlib.Core.Bool.{Bool, true, false, not, ◌&&◌, ◌||◌, and_assoc, and-true, false≢true}
use mathlib.Core.List.{List, [], ◌∷◌, ◌++◌}
use Rattle.std.specs.List.{list_all}
use lib.Pointwise.{pointwise}
use lib.Dec.{eqb, eqb-zero-suc, eqb-suc-suc}
use lib.ListN.{length, take, drop, get_or, length-append, length-drop, take-append-drop, drop_of_length-le}
use lib.Seq.{take_all, drop-cons, drop-drop, take-length, length-take-le, take_at, drop-append-add}
use borrow.Author.Tests.{eq-eqb, ne_eqb, eqb-true, eqb-false}
use Rattle.format.specs.Bytes.{LF, CR, SPACE, COLON, EQUALS, space_or_tab, every, same, begins_with, is_in}
use Rattle.format.specs.Lines.{lf, crlf, eof, line, size, extend, lines}
use Rattle.format.specs.Pairs.{Marked, unmarked, field_mark, pair_mark, more_before, first_mark, mark, LineKind, empty_line, comment_line, other_line, kind_of}
use Rattle.format.specs.Words.{trim_front, trim_byte, trim_end}
use Rattle.format.proofs.Bytes.{and_right}
use Rattle.format.proofs.Lines.{NoLF, no_lf_nil, no_lf_cons, no_lf_head, no_lf_tail, lines_eof}
use Rattle.format.proofs.Marks.{Parts, mark_parts, mark_of_kind}
use Rattle.read_text.specs.declared.lines.Kind.{Kind}
use Rattle.read_text.specs.declared.lines.Kind.TheVariants.{Empty, Comment, Field, Pair, Neither}
use Rattle.read_text.specs.Places.{before, without_cr, ending_at, mark_place, kind_place}

-- the text from i on: what stands at i, and the text from i + 1 on
pub drop_next : (s : List ℕ) (i : ℕ) → i < length s → drop i s ≡ get_or s i 0 ∷ drop (i + 1) s
drop_next s i h = rw add-one (drop-cons s i 0 h)

-- ---- `before`, byte by byte

module _ (b : ℕ) where
  pub before_none : before b [] ≡ 0
  unfolding before
  before_none = refl

  pub before_hit : (c : ℕ) (s : List ℕ) → eqb c b ≡ true → before b (c ∷ s) ≡ 0
  unfolding before
  before_hit c s e = rw e

  pub before_miss : (c : ℕ) (s : List ℕ) → eqb c b ≡ false → before b (c ∷ s) ≡ before b s + 1
  unfolding before
  before_miss c s e = rw e (omega arith)

-- what a slice from a place on holds
pub suffix_is : (s : List ℕ) (i : ℕ) → take (length s - i) (drop i s) ≡ drop i s
suffix_is s i = take_all (length s - i) (drop i s) (rw length-drop (omega arith))

module _ (b : ℕ) (s : List ℕ) (k : ℕ) where
  -- another byte stands at k
  pub before_test : k < length s → eqb (get_or s k 0) b ≡ false → before b (drop k s) ≡ 1 + before b (drop (k + 1) s)
  unfolding before
  before_test h e = rw (drop_next s k h, e, one-add)

neither : (x y : Bool) → (x || y) ≡ false → (x ≡ false) × (y ≡ false)
neither false y e = (refl, e)
neither true y e = absurd (false≢true (sym e))

-- a turn of `hit`
pub hit_step : (b : ℕ) (s : List ℕ) (at j : ℕ) (found : Bool)
    → (found ≡ false → before b (drop at s) ≡ j + before b (drop (at + j) s))
    → at + j < length s
    → (found || eqb (get_or s (at + j) 0) b) ≡ false
    → before b (drop at s) ≡ j + 1 + before b (drop (at + (j + 1)) s)
hit_step b s at j found h l e =
    let n = neither found _ e in
    let a : at + (j + 1) ≡ at + j + 1 = omega arith in
    let t = before_test b s (at + j) l n.1 in
    h n.0 ∙ rw (t, a) (omega arith)

-- ---- the text that the first b parts

module _ (b : ℕ) where
  pub before_le : (s : List ℕ) → before b s ≤ length s
  unfolding before
  before_le [] = omega arith
  before_le (c ∷ s) = go (eqb c b) (before_le s)
    where
      go : (x : Bool) → before b s ≤ length s → (if x then 0 else suc (before b s)) ≤ suc (length s)
      go true h = omega arith
      go false h = omega arith

  -- where not all bytes stand before b, b comes next
  pub before_at : (s : List ℕ) → before b s < length s → get_or s (before b s) 0 ≡ b
  unfolding before
  before_at [] h = absurd (not-suc-le-zero h)
  before_at (c ∷ s) h = go (eqb c b) refl h (before_at s)
    where
      go : (x : Bool) → eqb c b ≡ x → (if x then 0 else suc (before b s)) < suc (length s)
          → (before b s < length s → get_or s (before b s) 0 ≡ b)
          → get_or (c ∷ s) (if x then 0 else suc (before b s)) 0 ≡ b
      go true e h r = eqb-true c b e
      go false e h r = r (le_of_suc-le-suc h)

  -- the bytes before b, b, and the bytes after it
  pub before_cut : (s : List ℕ) → before b s < length s → s ≡ take (before b s) s ++ b ∷ drop (before b s + 1) s
  before_cut s h = sym (take-append-drop (before b s) s) ∙ rw (drop_next s (before b s) h, before_at s h)

-- the order of two numbers that are compared does not matter
pub eqb_comm : (a b : ℕ) → eqb a b ≡ eqb b a
eqb_comm a b = go (eqb a b) refl
  where
    go : (x : Bool) → eqb a b ≡ x → x ≡ eqb b a
    go true e = sym (eq-eqb b a (sym (eqb-true a b e)))
    go false e = sym (ne_eqb b a (λ q. eqb-false a b e (sym q)))

-- a byte is not in a text where all bytes stand before it
pub not_in_text : (b : ℕ) (t : List ℕ) → not (is_in b t) ≡ eqb (before b t) (length t)
unfolding is_in before
not_in_text b [] = refl
not_in_text b (c ∷ t) = rw (eqb_comm b c) (go (eqb c b) (not_in_text b t))
  where
    go : (x : Bool) → not (is_in b t) ≡ eqb (before b t) (length t)
        → not (x || is_in b t) ≡ eqb (if x then 0 else suc (before b t)) (suc (length t))
    go true h = sym (eqb-zero-suc (length t))
    go false h = h ∙ sym (eqb-suc-suc (before b t) (length t))

-- none of the bytes before the first LF is LF
pub no_lf_before : (s : List ℕ) → NoLF (take (before LF s) s)
unfolding before
no_lf_before [] = no_lf_nil
no_lf_before (b ∷ s) = go (eqb b LF) refl (no_lf_before s)
  where
    go : (x : Bool) → eqb b LF ≡ x → NoLF (take (before LF s) s) → NoLF (take (if x then 0 else suc (before LF s)) (b ∷ s))
    go true e h = no_lf_nil
    go false e h = no_lf_cons b (take (before LF s) s) e h

-- ---- tests of texts by index

module _ (p : ℕ → Bool) (s : List ℕ) (i : ℕ) where
  pub every_end : length s ≤ i → every p (drop i s) ≡ true
  unfolding every
  every_end h = rw (drop_of_length-le s h)

  every_next : i < length s → every p (drop i s) ≡ (p (get_or s i 0) && every p (drop (i + 1) s))
  unfolding every
  every_next h = rw (drop_next s i h)

  -- a turn of a loop that tests every byte: `fine` says that those before i pass, `r` that the one at i does
  pub every_step : (fine r : Bool) → i < length s → r ≡ p (get_or s i 0)
      → every p s ≡ (fine && every p (drop i s)) → every p s ≡ (fine && r && every p (drop (i + 1) s))
  every_step fine r l e h = h ∙ rw (every_next l, e, and_assoc)

module _ (p : ℕ → Bool) where
  -- a turn of a loop over the bytes from `at` on: `fine` says that j of them pass, `r` that the next one does
  pub block_step : (s : List ℕ) (at j : ℕ) (fine r : Bool) → at + j < length s → r ≡ p (get_or s (at + j) 0)
      → every p (drop at s) ≡ (fine && every p (drop (at + j) s)) → every p (drop at s) ≡ (fine && r && every p (drop (at + (j + 1)) s))
  block_step s at j fine r l e h =
      let q : at + (j + 1) ≡ at + j + 1 = omega arith in
      h ∙ rw (every_next p s (at + j) l, e, q, and_assoc)

  -- where all bytes pass, those from i on do
  every_drop : (s : List ℕ) (i : ℕ) → every p s ≡ true → every p (drop i s) ≡ true
  unfolding every
  every_drop s zero h = h
  every_drop [] (suc i) h = refl
  every_drop (b ∷ s) (suc i) h = every_drop s i (and_right (p b) (every p s) h)

  -- where all pass if those from i on do, the same goes for those from an earlier place on
  every_from : (s : List ℕ) (k i : ℕ) → k ≤ i → every p s ≡ every p (drop i s) → every p (drop k s) ≡ every p s
  every_from s k i l h = go (every p s) (every p (drop k s)) refl refl
    where
      later : every p (drop k s) ≡ true → every p s ≡ true
      later e =
          let q : k + (i - k) ≡ i = omega arith in
          h ∙ rw (drop-drop (i - k) k s, q) at (every_drop (drop k s) (i - k) e)

      go : (x y : Bool) → every p s ≡ x → every p (drop k s) ≡ y → y ≡ x
      go true y e f = sym f ∙ every_drop s k e
      go false true e f = sym (later f) ∙ e
      go false false e f = refl

  -- two blocks of 8 bytes, one after the other
  pub blocks_both : (s : List ℕ) (at : ℕ) (a b : Bool)
      → every p (drop at s) ≡ (a && every p (drop (at + 8) s)) → every p (drop (at + 8) s) ≡ (b && every p (drop (at + 8 + 8) s))
      → every p (drop at s) ≡ ((a && b) && every p (drop (at + 16) s))
  blocks_both s at a b h k = let q : at + 8 + 8 ≡ at + 16 = omega arith in h ∙ rw (k, q, and_assoc)

  -- the last block of a text, which starts at k: those before i pass, and k is not past it; the same with a block at i before it
  module _ (s : List ℕ) (k : ℕ) (r : Bool) (l : length s ≤ k + 8) (e : every p (drop k s) ≡ (r && every p (drop (k + 8) s))) where
    pub last_block : (i : ℕ) → k ≤ i → every p s ≡ every p (drop i s) → r ≡ every p s
    last_block i m h =
        let q : every p (drop k s) ≡ r = e ∙ rw (every_end p s (k + 8) l) (and-true r) in
        sym q ∙ every_from s k i m h

    pub last_blocks : (i : ℕ) (a : Bool) → k ≤ i + 8 → every p s ≡ every p (drop i s) → every p (drop i s) ≡ (a && every p (drop (i + 8) s)) → (a && r) ≡ every p s
    last_blocks i true m h f = last_block (i + 8) m (h ∙ f)
    last_blocks i false m h f = sym (h ∙ f)

-- ---- tests of whole texts, by what std's calls answer

pub every_is : (p : ℕ → Bool) (s : List ℕ) → list_all p s ≡ every p s
unfolding every
every_is p [] = refl
every_is p (b ∷ s) = ap (λ (r : Bool). p b && r) (every_is p s)

pub same_is : (a b : List ℕ) → pointwise eqb a b ≡ same a b
unfolding same
same_is [] [] = refl
same_is [] (c ∷ t) = refl
same_is (b ∷ s) [] = refl
same_is (b ∷ s) (c ∷ t) = ap (λ (r : Bool). eqb b c && r) (same_is s t)

pub begins_is : (front s : List ℕ) → pointwise eqb front (take (length front) s) ≡ begins_with front s
unfolding begins_with
begins_is [] s = refl
begins_is (b ∷ f) [] = refl
begins_is (b ∷ f) (c ∷ t) = ap (λ (r : Bool). eqb b c && r) (begins_is f t)

-- texts of different lengths are not the same
pub same_lengths : (a b : List ℕ) → (length a ≡ length b → ⊥) → same a b ≡ false
unfolding same
same_lengths [] [] h = absurd (h refl)
same_lengths [] (c ∷ t) h = refl
same_lengths (b ∷ s) [] h = refl
same_lengths (b ∷ s) (c ∷ t) h = go (eqb b c) (same_lengths s t (λ e. h (ap suc e)))
  where
    go : (x : Bool) → same s t ≡ false → (x && same s t) ≡ false
    go true e = e
    go false e = refl

-- a text does not begin with a longer one
pub begins_short : (a s : List ℕ) → length s < length a → begins_with a s ≡ false
unfolding begins_with
begins_short [] s h = absurd (not-suc-le-zero h)
begins_short (b ∷ a) [] h = refl
begins_short (b ∷ a) (c ∷ s) h = go (eqb b c) (begins_short a s (le_of_suc-le-suc h))
  where
    go : (x : Bool) → begins_with a s ≡ false → (x && begins_with a s) ≡ false
    go true e = e
    go false e = refl

-- ---- `without_cr`

-- what is left without the CR are the first bytes
pub take_without_cr : (s : List ℕ) → take (length (without_cr s)) s ≡ without_cr s
unfolding without_cr
take_without_cr [] = refl
take_without_cr (b ∷ []) = go (eqb b CR)
  where
    go : (x : Bool) → take (length (if x then [] else b ∷ [])) (b ∷ []) ≡ (if x then [] else b ∷ [])
    go true = refl
    go false = refl
take_without_cr (b ∷ c ∷ s) = ap (λ (t : List ℕ). b ∷ t) (take_without_cr (c ∷ s))

-- their number, by the last byte
pub without_cr_none : (s : List ℕ) → length s ≡ 0 → length (without_cr s) ≡ 0
unfolding without_cr
without_cr_none [] h = refl
without_cr_none (b ∷ s) h = omega arith

pub without_cr_cut : (s : List ℕ) (b : ℕ) → b ≡ CR → length (without_cr (s ++ b ∷ [])) ≡ length s
unfolding without_cr
without_cr_cut [] b e = rw e
without_cr_cut (c ∷ []) b e = rw e
without_cr_cut (c ∷ d ∷ s) b e = ap suc (without_cr_cut (d ∷ s) b e)

pub without_cr_kept : (s : List ℕ) (b : ℕ) → (b ≡ CR → ⊥) → length (without_cr (s ++ b ∷ [])) ≡ length s + 1
unfolding without_cr
without_cr_kept [] b n = rw (ne_eqb b CR n)
without_cr_kept (c ∷ []) b n = rw (ne_eqb b CR n)
without_cr_kept (c ∷ d ∷ s) b n = omega (arith, without_cr_kept (d ∷ s) b n)

-- ---- the first line of bytes

-- a byte before a line whose bytes before the LF are c and t
extend_text : (b c : ℕ) (t : List ℕ)
    → extend b (line (without_cr (c ∷ t)) (ending_at (c ∷ t))) ≡ line (b ∷ without_cr (c ∷ t)) (ending_at (c ∷ t))
unfolding without_cr ending_at
extend_text b c [] = go (eqb c CR)
  where
    go : (x : Bool)
        → extend b (line (if x then [] else c ∷ []) (if x then crlf else lf))
        ≡ line (b ∷ (if x then [] else c ∷ [])) (if x then crlf else lf)
    go true = refl
    go false = refl
extend_text b c (d ∷ t) = refl

-- bytes without LF, LF, and more bytes
pub lines_of_text : (t r : List ℕ) → NoLF t → lines (t ++ LF ∷ r) ≡ line (without_cr t) (ending_at t) ∷ lines r
unfolding lines without_cr ending_at
lines_of_text [] r h = refl
lines_of_text (b ∷ []) r h = rw (no_lf_head b [] h) (go (eqb b CR))
  where
    go : (x : Bool)
        → (if x then line [] crlf else line (b ∷ []) lf) ∷ lines r
        ≡ line (if x then [] else b ∷ []) (if x then crlf else lf) ∷ lines r
    go true = refl
    go false = refl
lines_of_text (b ∷ c ∷ t) r h =
    rw (lines_of_text (c ∷ t) r (no_lf_tail b (c ∷ t) h), no_lf_head b (c ∷ t) h, extend_text b c t)

-- that line has one byte more than stand before its LF
pub size_of_text : (t : List ℕ) → size (line (without_cr t) (ending_at t)) ≡ length t + 1
unfolding without_cr ending_at
size_of_text [] = refl
size_of_text (b ∷ []) = go (eqb b CR)
  where
    go : (x : Bool) → size (line (if x then [] else b ∷ []) (if x then crlf else lf)) ≡ 2
    go true = refl
    go false = refl
size_of_text (b ∷ c ∷ t) = omega (arith, size_of_text (c ∷ t))

-- the first line of bytes that hold an LF, and its size
pub lines_by_lf : (s : List ℕ) → before LF s < length s
    → lines s
    ≡ line (without_cr (take (before LF s) s)) (ending_at (take (before LF s) s)) ∷ lines (drop (before LF s + 1) s)
lines_by_lf s h =
    ap lines (before_cut LF s h)
    ∙ lines_of_text (take (before LF s) s) (drop (before LF s + 1) s) (no_lf_before s)

pub size_by_lf : (s : List ℕ)
    → size (line (without_cr (take (before LF s) s)) (ending_at (take (before LF s) s))) ≡ before LF s + 1
size_by_lf s = size_of_text (take (before LF s) s) ∙ rw (length-take-le (before LF s) s (before_le LF s))

-- bytes without LF are one line
pub lines_to_end : (s : List ℕ) → 0 < length s → before LF s ≡ length s → lines s ≡ line s eof ∷ []
lines_to_end s h e = lines_eof s (rw (e, take-length) at (no_lf_before s)) h

-- ---- `mark` by index

-- the answer for a mark of the text from i on
abbrev pub mark_from : ℕ → Marked → Kind
mark_from i unmarked = Neither
mark_from i (field_mark n d) = Field (i + length n)
mark_from i (pair_mark k v) = Pair (i + length k)

pub mark_from_start : (m : Marked) → mark_place m ≡ mark_from 0 m
mark_from_start unmarked = refl
mark_from_start (field_mark n d) = rw zero-add
mark_from_start (pair_mark k v) = rw zero-add

more_from : (i b : ℕ) (m : Marked) → mark_from i (more_before b m) ≡ mark_from (i + 1) m
more_from i b unmarked = refl
more_from i b (field_mark n d) = let e : i + suc (length n) ≡ i + 1 + length n = omega arith in rw e
more_from i b (pair_mark k v) = let e : i + suc (length k) ≡ i + 1 + length k = omega arith in rw e

-- a text of at most one byte has no mark
mark_short : (s : List ℕ) → length s ≤ 1 → mark s ≡ unmarked
unfolding mark
mark_short [] h = refl
mark_short (b ∷ []) h = go (eqb b COLON)
  where
    go : (x : Bool) → first_mark (if x then unmarked else unmarked) unmarked ≡ unmarked
    go true = refl
    go false = refl
mark_short (b ∷ c ∷ s) h = absurd (let f : ⊥ = omega arith in f)

-- at most one byte is left
pub mark_none : (s : List ℕ) (i : ℕ) → length s ≤ i + 1 → mark_from i (mark (drop i s)) ≡ Neither
mark_none s i h = rw (mark_short (drop i s) (rw length-drop (omega arith)))

-- two bytes stand before i + 1
module _ (s : List ℕ) (i : ℕ) (h : 1 ≤ i) (k : i < length s) where
  here : drop (i - 1) s ≡ get_or s (i - 1) 0 ∷ get_or s i 0 ∷ drop (i + 1) s
  here = let e : i - 1 + 1 ≡ i = omega arith in drop_next s (i - 1) (omega arith) ∙ rw (e, drop_next s i k)

  -- `: `
  pub mark_field : get_or s (i - 1) 0 ≡ COLON → get_or s i 0 ≡ SPACE → mark_from (i - 1) (mark (drop (i - 1) s)) ≡ Field (i - 1)
  unfolding mark
  mark_field e f = rw (here, e, f, add-zero)

  -- `:=`
  pub mark_pair : get_or s (i - 1) 0 ≡ COLON → get_or s i 0 ≡ EQUALS → mark_from (i - 1) (mark (drop (i - 1) s)) ≡ Pair (i - 1)
  unfolding mark
  mark_pair e f = rw (here, e, f, add-zero)

  next : mark_from (i - 1) (more_before (get_or s (i - 1) 0) (mark (get_or s i 0 ∷ drop (i + 1) s))) ≡ mark_from i (mark (drop i s))
  next =
      let e : i - 1 + 1 ≡ i = omega arith in
      more_from (i - 1) (get_or s (i - 1) 0) (mark (get_or s i 0 ∷ drop (i + 1) s)) ∙ rw (e, drop_next s i k)

  -- no colon
  pub mark_on : (get_or s (i - 1) 0 ≡ COLON → ⊥) → mark_from (i - 1) (mark (drop (i - 1) s)) ≡ mark_from i (mark (drop i s))
  unfolding mark
  mark_on e = rw (here, ne_eqb _ _ e) next

  -- a colon that makes no mark
  pub mark_past : get_or s (i - 1) 0 ≡ COLON → (get_or s i 0 ≡ SPACE → ⊥) → (get_or s i 0 ≡ EQUALS → ⊥)
      → mark_from (i - 1) (mark (drop (i - 1) s)) ≡ mark_from i (mark (drop i s))
  unfolding mark
  mark_past e f g = rw (here, eq-eqb _ _ e, ne_eqb _ _ f, ne_eqb _ _ g) next

-- ---- the text that the first mark parts

-- a mark of two bytes, a and b, at i: what stands before it and after it
around : (n d s : List ℕ) (a b i : ℕ) → s ≡ n ++ a ∷ b ∷ d → length n ≡ i
    → (take i s ≡ n) × (drop (i + 2) s ≡ d) × (i + 2 ≤ length s)
around n d s a b i e h = (
  rw e (take_at n (a ∷ b ∷ d) i h),
  rw (e, ← h, drop-append-add),
  rw (e, length-append, h) (omega arith),
)

-- what the answer r tells of a line s, whose kind is k: a mark parts it
abbrev pub KindAt : List ℕ → LineKind → Kind → Type 0
KindAt s k Empty = k ≡ empty_line
KindAt s k Comment = k ≡ comment_line
KindAt s k (Field i) = (k ≡ other_line (field_mark (take i s) (drop (i + 2) s))) × (i + 2 ≤ length s)
KindAt s k (Pair i) = (k ≡ other_line (pair_mark (take i s) (drop (i + 2) s))) × (i + 2 ≤ length s)
KindAt s k Neither = k ≡ other_line unmarked

pub kind_told : (s : List ℕ) {r : Kind} → r ≡ kind_place (kind_of s) → KindAt s (kind_of s) r
kind_told s e = subst (KindAt s (kind_of s)) (sym e) (go (kind_of s) refl)
  where
    marked : (m : Marked) → Parts s m → KindAt s (other_line m) (mark_place m)
    marked unmarked p = refl
    marked (field_mark n d) p = let t = around n d s COLON SPACE (length n) p.0 refl in (rw (t.0, t.1), t.2)
    marked (pair_mark k v) p = let t = around k v s COLON EQUALS (length k) p.0 refl in (rw (t.0, t.1), t.2)

    go : (k : LineKind) → kind_of s ≡ k → KindAt s k (kind_place k)
    go empty_line e = refl
    go comment_line e = refl
    go (other_line m) e = marked m (subst (Parts s) (mark_of_kind s e) (mark_parts s))

-- ---- `trim_front`

-- how many bytes it leaves out
abbrev pub trimmed : List ℕ → ℕ
trimmed s = length s - length (trim_front s)

trim_front_le : (s : List ℕ) → length (trim_front s) ≤ length s
unfolding trim_front
trim_front_le [] = omega arith
trim_front_le (b ∷ s) = go (space_or_tab b) (trim_front_le s)
  where
    go : (x : Bool) → length (trim_front s) ≤ length s → length (if x then trim_front s else b ∷ s) ≤ suc (length s)
    go true h = omega arith
    go false h = omega arith

pub trimmed_empty : trimmed [] ≡ 0
unfolding trim_front
trimmed_empty = omega arith

pub trimmed_none : (b : ℕ) (s : List ℕ) → space_or_tab b ≡ false → trimmed (b ∷ s) ≡ 0
unfolding trim_front
trimmed_none b s e = rw e (omega arith)

pub trimmed_more : (b : ℕ) (s : List ℕ) → space_or_tab b ≡ true → trimmed (b ∷ s) ≡ trimmed s + 1
unfolding trim_front
trimmed_more b s e = rw e (omega (arith, trim_front_le s))

-- ---- `trim_end`

-- a text by its last byte
pub trim_end_space : (s : List ℕ) (b : ℕ) → space_or_tab b ≡ true → trim_end (s ++ (b ∷ [])) ≡ trim_end s
unfolding trim_end
trim_end_space [] b e = rw e
trim_end_space (c ∷ s) b e = rw (trim_end_space s b e)

trim_byte_kept : (b : ℕ) (s : List ℕ) (c : ℕ) → trim_byte b (s ++ (c ∷ [])) ≡ b ∷ (s ++ (c ∷ []))
trim_byte_kept b [] c = refl
trim_byte_kept b (d ∷ s) c = refl

pub trim_end_other : (s : List ℕ) (b : ℕ) → space_or_tab b ≡ false → trim_end (s ++ (b ∷ [])) ≡ s ++ (b ∷ [])
unfolding trim_end
trim_end_other [] b e = rw e
trim_end_other (c ∷ s) b e = rw (trim_end_other s b e) (trim_byte_kept c s b)

pub trim_end_none : (s : List ℕ) → length s ≡ 0 → length (trim_end s) ≡ 0
unfolding trim_end
trim_end_none [] h = refl
trim_end_none (b ∷ s) h = omega arith
