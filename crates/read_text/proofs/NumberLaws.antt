-- Laws of numbers and sizes, as the leaves read them.
-- Assumes nothing.
use Rattle.std.specs.Prelude.{if◌then◌else◌}
use Prim.Native.Nat.{ℕ, suc, ◌+◌, ◌-◌, ◌*◌, ◌≤◌, ◌<◌, min}
use native.Mathlib.Nat.{add-zero, zero-add}
use native.Mathlib.Numerals.{add-one}
use native.Mathlib.Omega.{arith}
use mathlib.Core.Path.{◌≡◌, refl, sym, ap, ◌∙◌}
use mathlib.Core.Bool.{Bool, true, false, ◌&&◌}
use mathlib.Core.List.{List, [], ◌∷◌, ◌++◌, map}
use mathlib.Core.Option.{Option, none, some}
use Rattle.std.specs.Option.{unwrap_or}
use lib.Dec.{eqb, leb}
use lib.ListN.{length, take, drop, get_or, set, replicate, drop_of_length-le, length-drop, length-replicate, length-map, replicate-append-replicate}
use lib.Seq.{take_all, drop-drop, drop_at, sets, sets-eq}
use borrow.Author.Tests.{leb-true, leb-false, eqb-true, eqb-false, ne_eqb, le-leb, lt-leb}
use Rattle.format.specs.Bytes.{space_or_tab, is_digit, or_default}
use Rattle.format.specs.Limits.{max_axes, max_size}
use Rattle.format.specs.Descriptors.{sizes_fine}
use Rattle.format.specs.Words.{digits_from, number, join_first, parts, not_empty, words, within, numbers_in, value_of_number}
use Rattle.read_text.specs.Numbers.{past_size, number_answer, size_answer, first_word, sizes_in, no_sizes, sizes_answer}
use Rattle.std.specs.Prelude.{Some, None}
use Rattle.std.specs.Prelude.{Option as Maybe}
use Rattle.read_text.proofs.Places.{drop_next}

-- ---- a number, digit by digit

-- a number above the largest stays above it, whatever digits follow
above : (n : ℕ) (s : List ℕ) → max_size < n → number_answer (digits_from n s) ≡ None
unfolding digits_from
above n [] h = rw (lt-leb n max_size h)
above n (b ∷ s) h = go (is_digit b) (above (n * 10 + (b - 48)) s (omega arith))
  where
    go : (x : Bool) → number_answer (digits_from (n * 10 + (b - 48)) s) ≡ None
        → number_answer (if x then digits_from (n * 10 + (b - 48)) s else none) ≡ None
    go true e = e
    go false e = refl

-- so it may be cut to the first that is above it
cut : (n : ℕ) (s : List ℕ) → number_answer (digits_from n s) ≡ number_answer (digits_from (min n past_size) s)
cut n s = go (leb n max_size) refl
  where
    go : (x : Bool) → leb n max_size ≡ x → number_answer (digits_from n s) ≡ number_answer (digits_from (min n past_size) s)
    go true e = let m : min n past_size ≡ n = omega (arith, leb-true) in rw m
    go false e = above n s (leb-false n max_size e) ∙ sym (above (min n past_size) s (omega (arith, leb-false)))

-- the empty text is no number, and any other is what its digits write
pub number_empty : (s : List ℕ) → eqb (length s) 0 ≡ true → number s ≡ none
unfolding number
number_empty [] h = refl
number_empty (b ∷ s) h = let k = eqb-true (suc (length s)) 0 h in absurd (omega arith)

pub number_digits : (s : List ℕ) → eqb (length s) 0 ≡ false → number s ≡ digits_from 0 s
unfolding number
number_digits [] h = absurd (eqb-false 0 0 h refl)
number_digits (b ∷ s) h = refl

module _ (s : List ℕ) (i v : ℕ) where
  -- a byte that is no digit
  pub digits_other : i < length s → is_digit (get_or s i 0) ≡ false → number_answer (digits_from v (drop i s)) ≡ None
  unfolding digits_from
  digits_other h d = rw (drop_next s i h, d)

  -- one digit more
  pub digits_next : i < length s → is_digit (get_or s i 0) ≡ true
      → number_answer (digits_from v (drop i s)) ≡ number_answer (digits_from (min (v * 10 + (get_or s i 0 - 48)) past_size) (drop (i + 1) s))
  unfolding digits_from
  digits_next h d = rw (drop_next s i h, d) (cut (v * 10 + (get_or s i 0 - 48)) (drop (i + 1) s))

  -- after the last digit
  pub digits_end : length s ≤ i → number_answer (digits_from v (drop i s)) ≡ (if leb v max_size then Some v else None)
  unfolding digits_from
  digits_end h = rw (drop_of_length-le s h)

-- ---- a number as it is answered: the number itself, or that it is none that any field has

pub number_is : (o : Option ℕ) (n : ℕ) → Some n ≡ number_answer o → (o ≡ some n) × (n ≤ max_size)
number_is none n e = let z : ◌≡◌ {A = ℕ} 0 1 = cc in absurd (omega arith)
number_is (some m) n e = go (leb m max_size) refl e
  where
    go : (x : Bool) → leb m max_size ≡ x → Some n ≡ (if x then Some m else None) → (some m ≡ some n) × (n ≤ max_size)
    go true f e = let g : n ≡ m = cc in (cc, omega (arith, leb-true))
    go false f e = let z : ◌≡◌ {A = ℕ} 0 1 = cc in absurd (omega arith)

pub number_wrong : (o : Option ℕ) → None ≡ number_answer o → (least most : ℕ) → most ≤ max_size → within least most o ≡ false
number_wrong none e least most h = refl
number_wrong (some m) e least most h = go (leb m max_size) refl e
  where
    above : (x : Bool) → (x && false) ≡ false
    above true = refl
    above false = refl

    go : (x : Bool) → leb m max_size ≡ x → None ≡ (if x then Some m else None) → within least most (some m) ≡ false
    go true f e = cc
    go false f e = let g = leb-false m max_size f in rw (lt-leb m most (omega arith)) (above (leb least m))

-- ---- a size, which is 0 where the number is none or above the largest

pub size_is : (o : Option ℕ) → unwrap_or (number_answer o) 0 ≡ size_answer o
size_is none = refl
size_is (some n) = go (leb n max_size)
  where
    go : (x : Bool) → unwrap_or (if x then Some n else None) 0 ≡ (if x then n else 0)
    go true = refl
    go false = refl

-- it is 0 where the number is not from 1 to the largest, and the number itself where it is
pub size_out : (o : Option ℕ) → size_answer o ≡ 0 → within 1 max_size o ≡ false
size_out none e = refl
size_out (some n) e = go (leb n max_size) refl e
  where
    go : (x : Bool) → leb n max_size ≡ x → (if x then n else 0) ≡ 0 → (leb 1 n && x) ≡ false
    go true d e = rw e
    go false d e = rw (le-leb 1 n (omega (arith, leb-false)))

pub size_in : (o : Option ℕ) → (size_answer o ≡ 0 → ⊥) → (within 1 max_size o ≡ true) × (or_default 0 o ≡ size_answer o)
size_in none f = absurd (f refl)
size_in (some n) f = go (leb n max_size) f
  where
    go : (x : Bool) → ((if x then n else 0) ≡ 0 → ⊥) → ((leb 1 n && x) ≡ true) × (n ≡ (if x then n else 0))
    go true f = (rw (le-leb 1 n (omega arith)), refl)
    go false f = absurd (f refl)

-- ---- the first word

pub word_ends : (b : ℕ) (s : List ℕ) → space_or_tab b ≡ true → length (first_word (b ∷ s)) ≡ 0
unfolding first_word
word_ends b s e = rw e

pub word_more : (b : ℕ) (s : List ℕ) → space_or_tab b ≡ false → length (first_word (b ∷ s)) ≡ length (first_word s) + 1
unfolding first_word
word_more b s e = rw e (omega arith)

pub word_empty : length (first_word []) ≡ 0
unfolding first_word
word_empty = refl

pub first_word_le : (s : List ℕ) → length (first_word s) ≤ length s
unfolding first_word
first_word_le [] = omega arith
first_word_le (b ∷ s) = go (space_or_tab b) (first_word_le s)
  where
    go : (x : Bool) → length (first_word s) ≤ length s → length (if x then [] else b ∷ first_word s) ≤ suc (length s)
    go true h = omega arith
    go false h = omega arith

-- ---- the words of a text

-- the parts after the first, from where the first ends
abbrev rest : List ℕ → List (List ℕ)
rest [] = []
rest (b ∷ s) = parts s

-- the first part is the first word, which may be empty
first_part : (s : List ℕ) → parts s ≡ first_word s ∷ rest (drop (length (first_word s)) s)
unfolding parts first_word
first_part [] = refl
first_part (b ∷ s) = go (space_or_tab b) (first_part s)
  where
    go : (x : Bool) → parts s ≡ first_word s ∷ rest (drop (length (first_word s)) s)
        → (if x then [] ∷ parts s else join_first b (parts s))
        ≡ (if x then [] else b ∷ first_word s) ∷ rest (drop (length (if x then [] else b ∷ first_word s)) (b ∷ s))
    go true e = refl
    go false e = ap (join_first b) e

-- where the first word ends, a space or a tab or the end of the text stands, so that no part of a word is lost
word_rest : (s : List ℕ) → not_empty (rest (drop (length (first_word s)) s)) ≡ words (drop (length (first_word s)) s)
unfolding parts not_empty first_word
word_rest [] = refl
word_rest (b ∷ s) = go (space_or_tab b) refl (word_rest s)
  where
    go : (x : Bool) → space_or_tab b ≡ x → not_empty (rest (drop (length (first_word s)) s)) ≡ words (drop (length (first_word s)) s)
        → not_empty (rest (drop (length (if x then [] else b ∷ first_word s)) (b ∷ s)))
        ≡ words (drop (length (if x then [] else b ∷ first_word s)) (b ∷ s))
    go true e i = rw e
    go false e i = i

-- the first word stands at the front
take_word : (s : List ℕ) → take (length (first_word s)) s ≡ first_word s
unfolding first_word
take_word [] = refl
take_word (b ∷ s) = go (space_or_tab b) (take_word s)
  where
    go : (x : Bool) → take (length (first_word s)) s ≡ first_word s
        → take (length (if x then [] else b ∷ first_word s)) (b ∷ s) ≡ (if x then [] else b ∷ first_word s)
    go true e = refl
    go false e = rw e

-- a part with a byte is a word
filled : (w : List ℕ) (ws : List (List ℕ)) → (length w ≡ 0 → ⊥) → not_empty (w ∷ ws) ≡ w ∷ not_empty ws
unfolding not_empty
filled [] ws n = absurd (n refl)
filled (b ∷ w) ws n = refl

-- a space or a tab in front changes no word
blank_first : (b : ℕ) (s : List ℕ) → length (first_word (b ∷ s)) ≡ 0 → words (b ∷ s) ≡ words s
unfolding parts not_empty first_word
blank_first b s h = go (space_or_tab b) h
  where
    go : (x : Bool) → length (if x then [] else b ∷ first_word s) ≡ 0
        → not_empty (if x then [] ∷ parts s else join_first b (parts s)) ≡ words s
    go true e = refl
    go false e = absurd (omega arith)

-- a first word that is not empty is the first of the words
word_first : (s : List ℕ) (k : ℕ) → k ≡ length (first_word s) → (k ≡ 0 → ⊥) → words s ≡ take k s ∷ words (drop k s)
word_first s k e n =
    rw (e, take_word s, ← word_rest s, first_part s)
    (filled (first_word s) (rest (drop (length (first_word s)) s)) (λ z. n (e ∙ z)))

module _ (s : List ℕ) (at : ℕ) where
  -- past the end there is no word
  pub words_end : length s ≤ at → words (drop at s) ≡ []
  unfolding parts not_empty
  words_end h = rw (drop_of_length-le s h)

  -- what a slice from there on holds
  all_after : take (length s - at) (drop at s) ≡ drop at s
  all_after = take_all (length s - at) (drop at s) (rw length-drop (omega arith))

  module _ (k : ℕ) (e : k ≡ length (first_word (take (length s - at) (drop at s)))) where
    word_here : k ≡ length (first_word (drop at s))
    word_here = rw all_after at e

    -- a space or a tab is passed
    pub words_blank : at < length s → k ≡ 0 → words (drop at s) ≡ words (drop (at + 1) s)
    words_blank h z =
        let f : length (first_word (drop at s)) ≡ 0 = sym word_here ∙ z in
        rw (drop_next s at h) (blank_first (get_or s at 0) (drop (at + 1) s) (rw (drop_next s at h) at f))

    -- a word is passed
    pub words_next : (k ≡ 0 → ⊥) → words (drop at s) ≡ take (at + k - at) (drop at s) ∷ words (drop (at + k) s)
    words_next n =
        let d : at + k - at ≡ k = omega arith in
        rw (d, ← drop-drop k at s) (word_first (drop at s) k word_here n)

-- ---- sizes

-- the answer where n sizes are stored in v, and the words ws are to come
unfoldable pub sizes_from : ℕ → ℕ → List ℕ → List (List ℕ) → Maybe (List ℕ)
sizes_from dim n v ws =
    if eqb (n + length ws) dim && numbers_in 1 max_size ws then Some (sets v n (map value_of_number ws))
    else None

-- numbers that are stored at the front of n zeros
pub stored : (n : ℕ) (xs : List ℕ) → length xs ≤ n → sets (replicate n 0) 0 xs ≡ xs ++ replicate (n - length xs) 0
stored n xs h =
    let k : ℕ = length xs in
    let e : k + (n - k) ≡ n = omega arith in
    let z : ℕ → List ℕ = λ m. replicate m 0 in
    let parted : z n ≡ z k ++ z (n - k) = rw (replicate-append-replicate {A = ℕ} k (n - k) 0, e) in
    let fits : 0 + k ≤ length (z n) = rw length-replicate (omega arith) in
    sets-eq xs (z n) 0 fits ∙ rw (zero-add, parted, drop_at (z k) (z (n - k)) k (length-replicate k 0))

-- there are more axes than may be
pub sizes_many : (dim : ℕ) (ws : List (List ℕ)) → 16 < dim → sizes_in dim ws ≡ None
unfolding sizes_in
sizes_many dim ws h = rw (lt-leb dim 16 h)

-- none are stored yet
pub sizes_start : (dim : ℕ) (ws : List (List ℕ)) → dim ≤ 16 → sizes_in dim ws ≡ sizes_from dim 0 (replicate 16 0) ws
unfolding sizes_in sizes_from
sizes_start dim ws h = rw (le-leb dim 16 h, zero-add) (go (eqb (length ws) dim) refl)
  where
    xs : List ℕ
    xs = map value_of_number ws

    go : (x : Bool) → eqb (length ws) dim ≡ x
        → (if x && numbers_in 1 max_size ws then Some (xs ++ replicate (16 - dim) 0) else None)
        ≡ (if x && numbers_in 1 max_size ws then Some (sets (replicate 16 0) 0 xs) else None)
    go true e =
        let k : length xs ≡ dim = length-map ws value_of_number ∙ eqb-true (length ws) dim e in
        rw (stored 16 xs (omega arith), k)
    go false e = refl

module _ (dim n : ℕ) (v : List ℕ) where
  -- a word that is no size
  pub sizes_bad : (w : List ℕ) (ws : List (List ℕ)) → size_answer (number w) ≡ 0 → sizes_from dim n v (w ∷ ws) ≡ None
  unfolding sizes_from numbers_in
  sizes_bad w ws e = rw (size_out (number w) e) (go (eqb (n + suc (length ws)) dim))
    where
      go : (x : Bool) → (if x && false then Some (sets v n (map value_of_number (w ∷ ws))) else None) ≡ None
      go true = refl
      go false = refl

  -- a word too many
  pub sizes_full : (w : List ℕ) (ws : List (List ℕ)) → n ≡ dim → sizes_from dim n v (w ∷ ws) ≡ None
  unfolding sizes_from
  sizes_full w ws e = rw (ne_eqb (n + suc (length ws)) dim (omega arith))

  -- one size more
  pub sizes_next : (w : List ℕ) (ws : List (List ℕ)) → (size_answer (number w) ≡ 0 → ⊥)
      → sizes_from dim n v (w ∷ ws) ≡ sizes_from dim (n + 1) (set v n (size_answer (number w))) ws
  unfolding sizes_from numbers_in
  sizes_next w ws f =
      let e = size_in (number w) f in
      let g : n + suc (length ws) ≡ n + 1 + length ws = omega arith in
      rw (e.0, e.1, g, add-one)

  -- no word more
  pub sizes_end : sizes_from dim n v [] ≡ (if eqb n dim then Some v else None)
  unfolding sizes_from numbers_in
  sizes_end = rw (add-zero n) (go (eqb n dim))
    where
      go : (x : Bool) → (if x && true then Some v else None) ≡ (if x then Some v else None)
      go true = refl
      go false = refl

pub sizes_flagged : (dim : ℕ) (ws : List (List ℕ)) (ns : List ℕ) → Some ns ≡ sizes_in dim ws → record { fine = true; sizes = ns } ≡ sizes_answer dim ws
unfolding sizes_in sizes_answer
sizes_flagged dim ws ns e = go (leb dim max_axes && sizes_fine dim ws) e
  where
    all : List ℕ
    all = map value_of_number ws ++ replicate (max_axes - dim) 0

    go : (x : Bool) → Some ns ≡ (if x then Some all else None) → record { fine = true; sizes = ns } ≡ (if x then record { fine = true; sizes = all } else no_sizes)
    go true e = let f : ns ≡ all = cc in rw f
    go false e = cc

pub sizes_flagged_none : (dim : ℕ) (ws : List (List ℕ)) → None ≡ sizes_in dim ws → no_sizes ≡ sizes_answer dim ws
unfolding sizes_in sizes_answer
sizes_flagged_none dim ws e = go (leb dim max_axes && sizes_fine dim ws) e
  where
    all : List ℕ
    all = map value_of_number ws ++ replicate (max_axes - dim) 0

    go : (x : Bool) → None ≡ (if x then Some all else None) → no_sizes ≡ (if x then record { fine = true; sizes = all } else no_sizes)
    go true e = cc
    go false e = refl
