-- Laws of the blocks in which hex data is decoded.
-- Assumes nothing.
use Rattle.std.specs.Prelude.{if◌then◌else◌}
use Prim.Native.Nat.{ℕ, zero, suc, ◌+◌, ◌*◌, ◌-◌, ◌/◌, ◌%◌, ◌≤◌, ◌<◌, min}
use native.Mathlib.Numerals.{add-one}
use native.Mathlib.Omega.{arith}
use mathlib.Core.Path.{◌≡◌, refl, sym, ap, ◌∙◌}
use mathlib.Core.Bool.{Bool, true, false, not, ◌||◌, false≢true}
use mathlib.Core.List.{List, [], ◌∷◌, ◌++◌, map, append_assoc}
use lib.Dec.{eqb, leb, ltb}
use lib.ListN.{length, take, drop, get_or, set, length-append, length-drop, length-map, length-set}
use lib.Seq.{take-suc-set, take-set-le, take-suc, take-take, take-append-le, drop-cons, drop-append-le, drop_at, take_at, set_at, get_or_at, length-take-le}
use borrow.Author.Tests.{lt-ltb, le-ltb, leb-true, leb-false, eqb-true}
use Rattle.format.specs.Bytes.{between, is_some}
use Rattle.format.specs.Samples.{hex_digit, blank}
use Rattle.format.proofs.Bytes.{and_right}
use Rattle.data_hex.specs.Forms.{digits_at, digits_refusal, Spaced, Moved, one_if, digit_value, Pair, pairs_of, Taken}
use Rattle.data_hex.proofs.DigitLaws.{digits_here, digits_end, not_refused, high_solid, digit_high, refusal_first, refusal_after}

-- ---- the digits between two places, stored one after another

blank_low : (b : ℕ) → blank b ≡ true → b ≤ 32
blank_low b e = go (between 9 13 b) (eqb b 32) refl refl e
  where
    go : (p q : Bool) → between 9 13 b ≡ p → eqb b 32 ≡ q → (p || q) ≡ true → b ≤ 32
    go true q f g h = omega (arith, leb-true b 13 (and_right (leb 9 b) (leb b 13) f))
    go false true f g h = omega (arith, eqb-true b 32 g)
    go false false f g h = absurd (false≢true h)

module _ (s : List ℕ) where
  -- where the next digit is one, a byte is above the blanks if it is none of them
  above_blanks : (i : ℕ) → i < length s → digits_refusal 1 (digits_at s i) ≡ 0 → ltb 32 (get_or s i 0) ≡ not (blank (get_or s i 0))
  unfolding digits_refusal
  above_blanks i h e = go (blank (get_or s i 0)) refl (ap (digits_refusal 1) (sym (digits_here s i h)) ∙ e)
    where
      go : (t : Bool) → blank (get_or s i 0) ≡ t → digits_refusal 1 (if t then digits_at s (i + 1) else get_or s i 0 ∷ digits_at s (i + 1)) ≡ 0 → ltb 32 (get_or s i 0) ≡ not t
      go true b f = le-ltb 32 (get_or s i 0) (blank_low (get_or s i 0) b)
      go false b f = lt-ltb 32 (get_or s i 0) (omega (arith, digit_high (get_or s i 0) (not_refused (is_some (hex_digit (get_or s i 0))) 0 f).0))

  module _ (i : ℕ) (h : i < length s) (d : List ℕ) (o : ℕ) (l : o < length d) where
    pub kept : blank (get_or s i 0) ≡ false → Moved s i (i + 1) d o (set d o (get_or s i 0)) (o + 1)
    kept b = rw (digits_here s i h, b, add-one o, take-suc-set d o (get_or s i 0) l) (append_assoc (take o d) (get_or s i 0 ∷ []) (digits_at s (i + 1)))

    skipped : blank (get_or s i 0) ≡ true → Moved s i (i + 1) d o (set d o (get_or s i 0)) o
    skipped b = rw (digits_here s i h, b, take-set-le o d o (get_or s i 0) (omega arith))

    -- a byte is stored, and stays if it is no blank
    moved_byte : ltb 32 (get_or s i 0) ≡ not (blank (get_or s i 0)) → Moved s i (i + 1) d o (set d o (get_or s i 0)) (o + one_if (ltb 32 (get_or s i 0)))
    moved_byte e = rw e (go (blank (get_or s i 0)) refl)
      where
        go : (t : Bool) → blank (get_or s i 0) ≡ t → Moved s i (i + 1) d o (set d o (get_or s i 0)) (o + one_if (not t))
        go true b =
            let z : o + 0 ≡ o = omega arith in
            rw z (skipped b)
        go false b = kept b

  -- what is stored of m digits leaves the others
  moved_fine : (at i : ℕ) (c : List ℕ) (o : ℕ) (d : List ℕ) (e : ℕ) → Moved s at i c o d e → o ≤ length c → o ≤ e → e ≤ length d
      → (m : ℕ) → e - o ≤ m → digits_refusal m (digits_at s at) ≡ 0 → digits_refusal (m - (e - o)) (digits_at s i) ≡ 0
  moved_fine at i c o d e p k l h m few f =
      let x = drop o (take e d) in
      let n : length (take e d) ≡ e = length-take-le e d h in
      let q : length x ≡ e - o = omega (arith, length-drop o (take e d), n) in
      let all : digits_at s at ≡ x ++ digits_at s i =
      sym (drop_at (take o c) (digits_at s at) o (length-take-le o c k)) ∙ ap (drop o) (sym p) ∙ drop-append-le o (take e d) (digits_at s i) (omega arith) in
      let r : drop (e - o) (digits_at s at) ≡ digits_at s i = ap (drop (e - o)) all ∙ drop_at x (digits_at s i) (e - o) q in
      ap (digits_refusal (m - (e - o))) (sym r) ∙ sym (refusal_after (digits_at s at) few (refusal_first (digits_at s at) few f)) ∙ f

  pub copy_none : (at : ℕ) (c : List ℕ) (o : ℕ) → Moved s at (at + 0) c o c (o + 0)
  copy_none at c o =
      let y : at + 0 ≡ at = omega arith in
      let z : o + 0 ≡ o = omega arith in
      rw (y, z)

  -- ---- pairs of digits with a blank after each

  over_blank : (i : ℕ) → i < length s → (d : List ℕ) (o : ℕ) → blank (get_or s i 0) ≡ true → Moved s i (i + 1) d o d o
  over_blank i h d o b = rw (digits_here s i h, b)

  -- before a digit, a byte of at most 32 is a blank
  pub blank_passed : (i : ℕ) → i < length s → (d : List ℕ) (o : ℕ) → get_or s i 0 ≤ 32 → digits_refusal 1 (digits_at s i) ≡ 0 → Moved s i (i + 1) d o d o
  blank_passed i h d o l f = go (blank (get_or s i 0)) refl (sym (above_blanks i h f) ∙ le-ltb 32 (get_or s i 0) l)
    where
      go : (t : Bool) → blank (get_or s i 0) ≡ t → not t ≡ false → Moved s i (i + 1) d o d o
      go true b e = over_blank i h d o b
      go false b e = absurd (false≢true (sym e))

  -- two digits are stored
  moved_two : (i : ℕ) → i + 1 < length s → (d : List ℕ) (o : ℕ) → o + 1 < length d → blank (get_or s i 0) ≡ false → blank (get_or s (i + 1) 0) ≡ false
      → Moved s i (i + 2) d o (set (set d o (get_or s i 0)) (o + 1) (get_or s (i + 1) 0)) (o + 2)
  moved_two i h d o l p q =
      let y : i + 2 ≡ i + 1 + 1 = omega arith in
      let z : o + 2 ≡ o + 1 + 1 = omega arith in
      let d₁ = set d o (get_or s i 0) in
      let a : Moved s i (i + 1) d o d₁ (o + 1) = kept i (omega arith) d o (omega arith) p in
      rw (y, z) (kept (i + 1) h d₁ (o + 1) (omega (arith, length-set d o (get_or s i 0))) q ∙ a)

  module _ (at : ℕ) (c : List ℕ) (o : ℕ) (h : at + 48 ≤ length s) (k : o ≤ length c) (f : digits_refusal 32 (digits_at s at) ≡ 0) (spaced : Spaced s at 48) (last : blank (get_or s (at + 47) 0) ≡ true) where
    solid : (i : ℕ) → i < 48 → eqb (i % 3) 2 ≡ false → blank (get_or s (at + i) 0) ≡ false
    solid i l e = high_solid (get_or s (at + i) 0) (leb-false (get_or s (at + i) 0) 32 (spaced i l ∙ e))

    -- the byte after pair j is passed: a digit follows, or it is the last of the 48
    after_pair : (d : List ℕ) (j : ℕ) → j < 16 → o + 32 ≤ length d → Moved s at (at + 3 * j + 2) c o d (o + 2 * j + 2)
        → Moved s (at + 3 * j + 2) (at + 3 * j + 3) d (o + 2 * j + 2) d (o + 2 * j + 2)
    after_pair d j few l p =
        let y : at + 3 * j + 3 ≡ at + 3 * j + 2 + 1 = omega arith in
        rw y (go (leb 15 j) refl)
      where
        i : ℕ
        i = at + 3 * j + 2

        e : ℕ
        e = o + 2 * j + 2

        go : (t : Bool) → leb 15 j ≡ t → Moved s i (i + 1) d e d e
        go true b =
            let z : at + 47 ≡ i = omega (arith, leb-true 15 j b) in
            over_blank i (omega arith) d e (rw z at last)
        go false b =
            let m : j < 15 = leb-false 15 j b in
            let u : at + (3 * j + 2) ≡ i = omega arith in
            let r : (3 * j + 2) % 3 ≡ 2 = omega arith in
            let low : leb (get_or s i 0) 32 ≡ true = rw (u, r) at (spaced (3 * j + 2) (omega arith)) in
            let g = moved_fine at i c o d e p k (omega arith) (omega arith) 32 (omega arith) f in
            let one : 1 ≤ 32 - (e - o) = omega arith in
            blank_passed i (omega arith) d e (leb-true (get_or s i 0) 32 low) (refusal_first (digits_at s i) one g)

    pub pairs_more : (d : List ℕ) (j : ℕ) → Moved s at (at + 3 * j) c o d (o + 2 * j) → j < 16 → o + 32 ≤ length d → (x : ℕ)
        → Pair (get_or s (at + 3 * j) 0) (get_or s (at + 3 * j + 1) 0) x → (d' : List ℕ) → d' ≡ set (set d (o + 2 * j) (x % 256)) (o + 2 * j + 1) (x / 256)
        → Moved s at (at + 3 * (j + 1)) c o d' (o + 2 * (j + 1))
    pairs_more d j p few l x q d' e =
        let y : at + 3 * (j + 1) ≡ at + 3 * j + 3 = omega arith in
        let z : o + 2 * (j + 1) ≡ o + 2 * j + 2 = omega arith in
        let u : at + (3 * j + 1) ≡ at + 3 * j + 1 = omega arith in
        let r₀ : 3 * j % 3 ≡ 0 = omega arith in
        let r₁ : (3 * j + 1) % 3 ≡ 1 = omega arith in
        let b₀ : blank (get_or s (at + 3 * j) 0) ≡ false = solid (3 * j) (omega arith) (rw r₀) in
        let b₁ : blank (get_or s (at + 3 * j + 1) 0) ≡ false = rw u at (solid (3 * j + 1) (omega arith) (rw r₁)) in
        let n : length d' ≡ length d = ap length e ∙ length-set (set d (o + 2 * j) (x % 256)) (o + 2 * j + 1) (x / 256) ∙ length-set d (o + 2 * j) (x % 256) in
        let two : Moved s at (at + 3 * j + 2) c o d' (o + 2 * j + 2) =
        rw (e, q.first, q.second) (moved_two (at + 3 * j) (omega arith) d (o + 2 * j) (omega arith) b₀ b₁ ∙ p) in
        rw (y, z) (after_pair d' j few (omega arith) two ∙ two)

  -- ---- bytes among which there may be blanks

  module _ (m at : ℕ) (c : List ℕ) (o : ℕ) where
    -- j bytes are passed, and what they have of m digits is stored up to e
    pub record Squeezing (d : List ℕ) (e j : ℕ) : Type 0 where
      pub from : o ≤ e
      pub to : e ≤ o + j
      pub same : digits_refusal m (digits_at s at) ≡ 0 → Moved s at (at + j) c o d e

    pub squeezing_none : Squeezing c o 0
    squeezing_none =
        let y : at + 0 ≡ at = omega arith in
        record { from = omega arith; to = omega arith; same = λ f. rw y }

    pub squeezing_more : {d : List ℕ} {e j : ℕ} → Squeezing d e j → j < m → at + j < length s → o ≤ length c → e < length d → (k : ℕ)
        → (k ≡ one_if (ltb 32 (get_or s (at + j) 0))) × (k ≤ 1) → Squeezing (set d e (get_or s (at + j) 0)) (e + k) (j + 1)
    squeezing_more {d} {e} {j} p few h l n k q =
        let y : at + (j + 1) ≡ at + j + 1 = omega arith in
        record {
          from = omega (arith, p.from);
          to = omega (arith, p.to, q.1);
          same = λ f.
              let g : digits_refusal (m - (e - o)) (digits_at s (at + j)) ≡ 0 =
              moved_fine at (at + j) c o d e (p.same f) l p.from (omega arith) m (omega (arith, p.from, p.to)) f in
              let one : 1 ≤ m - (e - o) = omega (arith, p.from, p.to) in
              rw (y, q.0) (moved_byte (at + j) h d e n (above_blanks (at + j) h (refusal_first (digits_at s (at + j)) one g)) ∙ p.same f);
        }

  -- ---- all digits

  module _ (m at : ℕ) (c : List ℕ) where
    -- the digits of m that stand before i are stored
    pub record Gathering (d : List ℕ) (i o : ℕ) : Type 0 where
      pub few : o ≤ m
      pub within : i ≤ length s
      pub long : length d ≡ length c
      pub same : digits_refusal m (digits_at s at) ≡ 0 → Moved s at i c 0 d o

    pub gathering_none : at ≤ length s → Gathering c at 0
    gathering_none h = record { few = omega arith; within = h; long = refl; same = λ f. refl }

    module _ {d : List ℕ} {i o : ℕ} (g : Gathering d i o) (l : m ≤ length c) where
      left_fine : digits_refusal m (digits_at s at) ≡ 0 → digits_refusal (m - o) (digits_at s i) ≡ 0
      left_fine f =
          let z : m - (o - 0) ≡ m - o = omega arith in
          rw z at (moved_fine at i c 0 d o (g.same f) (omega arith) (omega arith) (omega (arith, g.few, g.long)) m (omega (arith, g.few)) f)

      pub gathering_stuck : o < m → length s ≤ i → digits_refusal m (digits_at s at) ≡ 0 → ⊥
      unfolding digits_refusal
      gathering_stuck h e f =
          let z : m - o ≡ suc (m - o - 1) = omega arith in
          let p : digits_refusal (suc (m - o - 1)) [] ≡ 0 = rw (z, digits_end s i e) at (left_fine f) in
          omega arith

      pub gathering_more : (d' : List ℕ) (i' o' : ℕ) → o' ≤ m → i' ≤ length s → length d' ≡ length d → (digits_refusal (m - o) (digits_at s i) ≡ 0 → Moved s i i' d o d' o') → Gathering d' i' o'
      gathering_more d' i' o' h e n p = record { few = h; within = e; long = n ∙ g.long; same = λ f. p (left_fine f) ∙ g.same f }

-- where 32 digits more are stored, which stand in w + 1 bytes
module _ (n at w k m o : ℕ) (h : at + suc w ≤ n) (p : 32 ≤ m - o) where
  pub more_fit : m ≤ k → o + 32 ≤ k
  more_fit q = omega arith

  pub more_end : (at < at + suc w) × ((at + suc w ≤ n) × ((o ≤ o + 32) × (o + 32 ≤ m)))
  more_end = (omega arith, (h, (omega arith, omega arith)))

-- at most 25 bytes of those that are left, and of those that may be stored
module _ (n at k m o l c : ℕ) (h : at < n) (p : o < m) (q : m ≤ k) (e : l ≡ min (n - at) (m - o)) (g : c ≡ min l 25) where
  pub few_fit : (at + c ≤ n) × (o + c ≤ k)
  few_fit = (omega arith, omega arith)

  pub few_wanted : c ≤ m - o
  few_wanted = omega arith

  -- the digits of that many end at r
  pub few_end : (r : ℕ) → (o ≤ r) × (r ≤ o + c) → (at < at + c) × ((at + c ≤ n) × ((o ≤ r) × (r ≤ m)))
  few_end r w = (omega arith, (omega arith, (w.0, omega arith)))

-- ---- the first m elements of a list become those of another, one by one

module _ (t c : List ℕ) (m : ℕ) where
  -- j elements of d are those of t, the others those of c
  pub record Partly (d : List ℕ) (j : ℕ) : Type 0 where
    pub few : j ≤ m
    pub long : length d ≡ length c
    pub same : d ≡ take j t ++ drop j c

  pub partly_none : Partly c 0
  partly_none = record { few = omega arith; long = refl; same = refl }

  module _ (n : length t ≡ length c) (l : m ≤ length t) {d : List ℕ} {j : ℕ} (p : Partly d j) where
    module _ (h : j < m) where
      front : length (take j t) ≡ j
      front = length-take-le j t (omega arith)

      -- what is replaced next
      pub partly_old : get_or d j 0 ≡ get_or c j 0
      partly_old = rw (p.same, drop-cons c j 0 (omega arith)) (get_or_at (take j t) (get_or c j 0) (drop (suc j) c) 0 j front)

      pub partly_more : (v : ℕ) → v ≡ get_or t j 0 → Partly (set d j v) (j + 1)
      partly_more v e = record {
        few = omega arith;
        long = length-set d j v ∙ p.long;
        same =
            rw (p.same, e, add-one j, drop-cons c j 0 (omega arith), set_at (take j t) (get_or c j 0) (drop (suc j) c) (get_or t j 0) j front, take-suc t j 0 (omega arith))
            (sym (append_assoc (take j t) (get_or t j 0 ∷ []) (drop (suc j) c)));
      }

    pub partly_done : m ≤ j → d ≡ take m t ++ drop m c
    partly_done h =
        let e : j ≡ m = omega (arith, p.few) in
        p.same ∙ rw e

-- ---- values, and the bytes of two

pub two_more : (j : ℕ) → 2 * suc j ≡ suc (suc (2 * j))
two_more j = omega arith

pairs_take : (j : ℕ) (l : List ℕ) → take j (pairs_of l) ≡ pairs_of (take (2 * j) l)
unfolding pairs_of
pairs_take zero l = refl
pairs_take (suc j) [] = rw (two_more j)
pairs_take (suc j) (h ∷ []) = rw (two_more j)
pairs_take (suc j) (h ∷ l ∷ s) = rw (two_more j) (ap (λ (t : List ℕ). (h * 16 + l) % 256 ∷ t) (pairs_take j s))

pub pairs_drop : (j : ℕ) (l : List ℕ) → drop j (pairs_of l) ≡ pairs_of (drop (2 * j) l)
unfolding pairs_of
pairs_drop zero l = refl
pairs_drop (suc j) [] = rw (two_more j)
pairs_drop (suc j) (h ∷ []) = rw (two_more j)
pairs_drop (suc j) (h ∷ l ∷ s) = rw (two_more j) (pairs_drop j s)

pub pairs_length : (l : List ℕ) → (2 * length (pairs_of l) ≤ length l) × (length l ≤ 2 * length (pairs_of l) + 1)
unfolding pairs_of
pairs_length [] = (omega arith, omega arith)
pairs_length (h ∷ []) = (omega arith, omega arith)
pairs_length (h ∷ l ∷ s) = (omega (arith, pairs_length s), omega (arith, pairs_length s))

pub pairs_bytes : (l : List ℕ) (i : ℕ) → get_or (pairs_of l) i 0 < 256
unfolding pairs_of
pairs_bytes [] i = omega arith
pairs_bytes (h ∷ []) i = omega arith
pairs_bytes (h ∷ l ∷ s) zero = omega arith
pairs_bytes (h ∷ l ∷ s) (suc i) = pairs_bytes s i

-- the byte of the two values at a place
pub pair_at : (j : ℕ) (l : List ℕ) → 2 * j + 2 ≤ length l → (x : ℕ) → Pair (get_or l (2 * j) 0) (get_or l (2 * j + 1) 0) x → (x % 256 * 16 + x / 256) % 256 ≡ get_or (pairs_of l) j 0
unfolding pairs_of
pair_at j [] e x p = absurd (omega arith)
pair_at j (h ∷ []) e x p = absurd (omega arith)
pair_at zero (h ∷ l ∷ s) e x p = rw (p.first, p.second)
pair_at (suc j) (h ∷ l ∷ s) e x p =
    let z : 2 * suc j + 1 ≡ suc (suc (2 * j + 1)) = omega arith in
    pair_at j s (omega arith) x (rw (z, two_more j) at p)

pub map_at : (f : ℕ → ℕ) (l : List ℕ) (j : ℕ) → j < length l → f (get_or l j 0) ≡ get_or (map f l) j 0
map_at f [] j h = absurd (omega arith)
map_at f (b ∷ l) zero h = refl
map_at f (b ∷ l) (suc j) h = map_at f l j (omega arith)

map_take : (f : ℕ → ℕ) (j : ℕ) (l : List ℕ) → take j (map f l) ≡ map f (take j l)
map_take f zero l = refl
map_take f (suc j) [] = refl
map_take f (suc j) (b ∷ l) = ap (λ (t : List ℕ). f b ∷ t) (map_take f j l)

-- of m elements that were replaced the first j; and the list is as long as before
first_of : (j m : ℕ) (t c d : List ℕ) → j ≤ m → m ≤ length t → d ≡ take m t ++ drop m c → take j d ≡ take j t
first_of j m t c d h l e = ap (take j) e ∙ take-append-le j (take m t) (drop m c) (omega (arith, length-take-le m t l)) ∙ take-take j m t h

length_of : (m : ℕ) (t c d : List ℕ) → m ≤ length t → length t ≡ length c → d ≡ take m t ++ drop m c → length d ≡ length c
length_of m t c d l n e = ap length e ∙ omega (arith, length-append (take m t) (drop m c), length-take-le m t l, length-drop m c)

-- the bytes of the digits that are gathered, k blocks of 16
pub taken :
    (s : List ℕ) (at j e : ℕ) (d v c b : List ℕ) (k : ℕ) → j ≤ 16 * k → 32 * k ≤ length d → Moved s at e [] 0 d (2 * j) → v ≡ take (32 * k) (map digit_value d) ++ drop (32 * k) d
    → b ≡ take (16 * k) (pairs_of v) ++ drop (16 * k) c → Taken s at j b e
taken s at j e d v c b k few room p q r =
    let l : length (take (2 * j) d) ≡ 2 * j = length-take-le (2 * j) d (omega arith) in
    let t : take (2 * j) d ≡ take (2 * j) (digits_at s at) = sym (take_at (take (2 * j) d) (digits_at s e) (2 * j) l) ∙ ap (take (2 * j)) p in
    let m : 32 * k ≤ length (map digit_value d) = omega (arith, length-map d digit_value) in
    let u : take (2 * j) v ≡ take (2 * j) (map digit_value d) = first_of (2 * j) (32 * k) (map digit_value d) d v (omega arith) m q in
    let n : 16 * k ≤ length (pairs_of v) = omega (arith, pairs_length v, length_of (32 * k) (map digit_value d) d v m (length-map d digit_value) q) in
    record {
      bytes =
          first_of j (16 * k) (pairs_of v) c b few n r ∙ pairs_take j v ∙ ap pairs_of (u ∙ map_take digit_value (2 * j) d ∙ ap (map digit_value) t ∙ sym (map_take digit_value (2 * j) (digits_at s at)))
          ∙ sym (pairs_take j (map digit_value (digits_at s at)));
      rest = sym (drop_at (take (2 * j) d) (digits_at s e) (2 * j) l) ∙ ap (drop (2 * j)) p;
    }
