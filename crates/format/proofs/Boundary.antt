-- Laws of numbers, samples, decimals and axis records in lent bytes: how many, each one, the ones after it; those put in are those taken out, and bytes taken out and
-- put in again are as they were.
-- Assumes nothing.
use Prim.Native.Nat.{ℕ, zero, suc, ◌+◌, ◌*◌, ◌-◌, ◌^◌, ◌/◌, ◌≤◌, ◌<◌}
use native.Mathlib.Nat.{zero-add, suc-add, mul-zero, mul-suc, mul-add, mul-div-le}
use native.Mathlib.Numerals.{add-one}
use native.Mathlib.Omega.{arith}
use mathlib.Core.Path.{◌≡◌, refl, sym, ap, ◌∙◌}
use mathlib.Core.Bool.{true}
use mathlib.Core.List.{List, [], ◌∷◌, ◌++◌, append-nil, append_assoc, map, flat_map}
use lib.IntN.{ℤ}
use lib.ListN.{length, take, drop, get_or, length-append, length-drop, length-map, take-append-drop}
use lib.Seq.{drop-append-add, drop-drop, drop-cons, drop-length, take_all, take-add, take_at, drop_at, length-take-le}
use Rattle.format.specs.declared.Decimal.{Decimal}
use Rattle.format.specs.declared.Axis.{Axis}
use Rattle.format.specs.Bytes.{over}
use Rattle.format.specs.Descriptors.{signed, little}
use Rattle.format.specs.Samples.{in_type, from_bytes, to_bytes, sample_value, value_bytes}
use Rattle.format.specs.Writer.{all_in_type}
use Rattle.format.specs.Boundary.{word_bytes, groups, whole_groups, numbers_of, samples_lent, number_bytes, words_of_samples, lent_numbers, lent_samples, decimal_bytes, decimal_of, decimals_bytes, decimals_lent}
use Rattle.format.specs.AxisRecords.{axis_bytes, axes_bytes}
use Rattle.format.specs.Laws.{Each, AllBelow, FitsBytes}
use Rattle.format.proofs.Bytes.{and_left, and_right}
use Rattle.format.proofs.Samples.{AllBytes, from_bytes_below, to_bytes_bytes, from_to_bytes, to_from_bytes, length_to_bytes, value_of_bytes, bytes_of_value, length_value_bytes}

-- ---- lent lists with something written to their front

module _ {ℓ} {A : Type ℓ} (u d : List A) where
  pub length_over : length u ≤ length d → length (over u d) ≡ length d
  length_over h = length-append u (drop (length u) d) ∙ omega (arith, length-drop (length u) d)

  -- past it they are as they were
  pub over_past : (k : ℕ) → length u ≤ k → drop k (over u d) ≡ drop k d
  over_past k h =
      let e : k ≡ length u + (k - length u) = omega arith in
      ap (λ (j : ℕ). drop j (over u d)) e
      ∙ drop-append-add u (drop (length u) d) (k - length u)
      ∙ drop-drop (k - length u) (length u) d
      ∙ ap (λ (j : ℕ). drop j d) (sym e)

-- ---- parts of bytes are bytes

pub bytes_take : (k : ℕ) (s : List ℕ) → AllBytes s → AllBytes (take k s)
bytes_take zero s p = tt
bytes_take (suc k) [] p = tt
bytes_take (suc k) (b ∷ s) p = (p.0, bytes_take k s p.1)

pub bytes_drop : (k : ℕ) (s : List ℕ) → AllBytes s → AllBytes (drop k s)
bytes_drop zero s p = p
bytes_drop (suc k) [] p = tt
bytes_drop (suc k) (b ∷ s) p = bytes_drop k s p.1

pub bytes_append : (s t : List ℕ) → AllBytes s → AllBytes t → AllBytes (s ++ t)
bytes_append [] t p q = q
bytes_append (b ∷ s) t p q = (p.0, bytes_append s t p.1 q)

-- bytes with other bytes at their front
pub bytes_over : (s t : List ℕ) → AllBytes s → AllBytes t → AllBytes (over s t)
bytes_over s t p q = bytes_append s (drop (length s) t) p (bytes_drop (length s) t q)

-- ---- f of each element

module _ {A : Type 0} (f : A → List ℕ) where
  pub flat_append : (u v : List A) → flat_map f (u ++ v) ≡ flat_map f u ++ flat_map f v
  unfolding flat_map
  flat_append [] v = refl
  flat_append (a ∷ u) v = rw (flat_append u v, append_assoc)

  flat_bytes : ((a : A) → AllBytes (f a)) → (s : List A) → AllBytes (flat_map f s)
  unfolding flat_map
  flat_bytes b [] = tt
  flat_bytes b (a ∷ s) = bytes_append (f a) (flat_map f s) (b a) (flat_bytes b s)

  module _ (w : ℕ) (size : (a : A) → length (f a) ≡ w) where
    pub flat_length : (s : List A) → length (flat_map f s) ≡ w * length s
    unfolding flat_map
    flat_length [] = sym (mul-zero w)
    flat_length (a ∷ s) = length-append (f a) (flat_map f s) ∙ omega (arith, size a, flat_length s, mul-suc w (length s))

-- ---- groups

length_groups : (w n : ℕ) (s : List ℕ) → length (groups w n s) ≡ n
unfolding groups
length_groups w zero s = refl
length_groups w (suc n) s = ap suc (length_groups w n (drop w s))

drop_map : {A B : Type 0} (f : A → B) (k : ℕ) (l : List A) → drop k (map f l) ≡ map f (drop k l)
drop_map f zero l = refl
drop_map f (suc k) [] = refl
drop_map f (suc k) (a ∷ l) = drop_map f k l

-- the groups from k on
drop_groups : (w n k : ℕ) (s : List ℕ) → k ≤ n → drop k (groups w n s) ≡ groups w (n - k) (drop (w * k) s)
unfolding groups
drop_groups w n zero s h =
    let q : n - 0 ≡ n = omega arith in
    rw (q, mul-zero w)
drop_groups w zero (suc k) s h = absurd (omega arith)
drop_groups w (suc n) (suc k) s h =
    let q : suc n - suc k ≡ n - k = omega arith in
    let p : w + w * k ≡ w * suc k = omega (arith, mul-suc w k) in
    drop_groups w n k (drop w s) (omega arith) ∙ rw (drop-drop (w * k) w s, p, q)

-- the first k of them
take_groups : {A : Type 0} (v : List ℕ → A) (w n k : ℕ) (s : List ℕ) → k ≤ n → take k (map v (groups w n s)) ≡ map v (groups w k s)
unfolding groups
take_groups v w n zero s h = refl
take_groups v w zero (suc k) s h = absurd (omega arith)
take_groups v w (suc n) (suc k) s h = rw (take_groups v w n k (drop w s) (omega arith))

-- ---- what v makes of each group of w bytes

module _ {A : Type 0} (v : List ℕ → A) (w : ℕ) (s : List ℕ) where
  -- how many
  pub length_lent : length (map v (whole_groups w s)) ≡ length s / w
  length_lent = length-map (whole_groups w s) v ∙ length_groups w (length s / w) s

  -- those from k on
  lent_from : (k : ℕ) → k ≤ length s / w → drop k (map v (whole_groups w s)) ≡ map v (groups w (length s / w - k) (drop (w * k) s))
  lent_from k h = drop_map v k (whole_groups w s) ∙ ap (map v) (drop_groups w (length s / w) k s h)

  module _ (k : ℕ) (h : k < length s / w) where
    -- the one at k, and those after it
    pub lent_next : drop k (map v (whole_groups w s)) ≡ v (take w (drop (w * k) s)) ∷ drop (k + 1) (map v (whole_groups w s))
    unfolding groups
    lent_next =
        let q : length s / w - k ≡ suc (length s / w - (k + 1)) = omega arith in
        let p : w * k + w ≡ w * (k + 1) = omega (arith, mul-suc w k, ap (λ (j : ℕ). w * j) (add-one k)) in
        lent_from k (omega arith)
        ∙ ap (λ (n : ℕ). map v (groups w n (drop (w * k) s))) q
        ∙ ap (λ (t : List ℕ). v (take w (drop (w * k) s)) ∷ map v (groups w (length s / w - (k + 1)) t)) (drop-drop w (w * k) s ∙ ap (λ (j : ℕ). drop j s) p)
        ∙ ap (λ (l : List A). v (take w (drop (w * k) s)) ∷ l) (sym (lent_from (k + 1) (omega arith)))

    -- the one at k
    pub lent_at : (z : A) → get_or (map v (whole_groups w s)) k z ≡ v (take w (drop (w * k) s))
    lent_at z =
        let l : k < length (map v (whole_groups w s)) = omega (arith, length_lent) in
        ap (λ (l : List A). get_or l 0 z) (sym (drop-cons (map v (whole_groups w s)) k z l) ∙ lent_next)

    -- its bytes are there
    pub lent_room : w * k + w ≤ length s
    lent_room =
        let q : length s / w ≡ k + 1 + (length s / w - (k + 1)) = omega arith in
        omega (arith, mul-div-le (length s) w, ap (λ (n : ℕ). w * n) q, mul-add w (k + 1) (length s / w - (k + 1)), ap (λ (j : ℕ). w * j) (add-one k), mul-suc w k)

-- ---- the bytes f of what v makes of w bytes are those bytes

module _ {A : Type 0} (v : List ℕ → A) (w : ℕ) (f : A → List ℕ) (back : (g : List ℕ) → AllBytes g → length g ≡ w → f (v g) ≡ g) where
  flat_groups : (n : ℕ) (s : List ℕ) → w * n ≤ length s → AllBytes s → flat_map f (map v (groups w n s)) ≡ take (w * n) s
  unfolding flat_map groups
  flat_groups zero s h p = rw (mul-zero w)
  flat_groups (suc n) s h p =
      let q : w * suc n ≡ w + w * n = omega (arith, mul-suc w n) in
      let l : length (take w s) ≡ w = length-take-le w s (omega arith) in
      let r : w * n ≤ length (drop w s) = omega (arith, length-drop w s) in
      rw (back (take w s) (bytes_take w s p) l, flat_groups n (drop w s) r (bytes_drop w s p), q, take-add w (w * n) s)

  module _ (s : List ℕ) (p : AllBytes s) where
    -- the bytes of those from m on, and the rest after them
    flat_from : (m : ℕ) → m ≤ length s / w → flat_map f (drop m (map v (whole_groups w s))) ++ drop (w * (length s / w)) s ≡ drop (w * m) s
    flat_from m h =
        let n : ℕ = length s / w - m in
        let t : List ℕ = drop (w * m) s in
        let q : length s / w ≡ m + n = omega arith in
        let e : w * (length s / w) ≡ w * m + w * n = ap (λ (j : ℕ). w * j) q ∙ mul-add w m n in
        let r : w * n ≤ length t = omega (arith, length-drop (w * m) s, mul-div-le (length s) w) in
        ap (λ (l : List A). flat_map f l ++ drop (w * (length s / w)) s) (lent_from v w s m h)
        ∙ ap (λ (u : List ℕ). u ++ drop (w * (length s / w)) s) (flat_groups n t r (bytes_drop (w * m) s p))
        ∙ ap (λ (j : ℕ). take (w * n) t ++ drop j s) e
        ∙ ap (λ (u : List ℕ). take (w * n) t ++ u) (sym (drop-drop (w * n) (w * m) s))
        ∙ take-append-drop (w * n) t

    -- the bytes of the first k
    flat_first : (k : ℕ) → k ≤ length s / w → flat_map f (take k (map v (whole_groups w s))) ≡ take (w * k) s
    flat_first k h =
        let q : length s / w ≡ k + (length s / w - k) = omega arith in
        ap (flat_map f) (take_groups v w (length s / w) k s h)
        ∙ flat_groups k s (omega (arith, mul-div-le (length s) w, ap (λ (j : ℕ). w * j) q, mul-add w k (length s / w - k))) p

    module _ (size : (a : A) → length (f a) ≡ w) where
      -- lent bytes that hold other values at their front
      over_lent : (zs : List A) → length zs ≤ length s / w → over (flat_map f (over zs (map v (whole_groups w s)))) s ≡ over (flat_map f zs) s
      over_lent zs h =
          let m : ℕ = length zs in
          let l : List A = map v (whole_groups w s) in
          let k : length (over zs l) ≡ length s / w = length_over zs l (omega (arith, length_lent v w s)) ∙ length_lent v w s in
          ap (λ (j : ℕ). flat_map f (over zs l) ++ drop j s) (flat_length f w size (over zs l) ∙ ap (λ (j : ℕ). w * j) k)
          ∙ ap (λ (u : List ℕ). u ++ drop (w * (length s / w)) s) (flat_append f zs (drop m l))
          ∙ append_assoc (flat_map f zs) (flat_map f (drop m l)) (drop (w * (length s / w)) s)
          ∙ ap (λ (u : List ℕ). flat_map f zs ++ u) (flat_from m h)
          ∙ ap (λ (j : ℕ). flat_map f zs ++ drop j s) (sym (flat_length f w size zs))

-- ---- what v makes of the bytes f of a value is that value, if it is ok

module _ {A : Type 0} (v : List ℕ → A) (w : ℕ) (f : A → List ℕ) (size : (a : A) → length (f a) ≡ w) (ok : A → Type 0) (fore : (a : A) → ok a → v (f a) ≡ a) where
  groups_flat : (zs : List A) (n : ℕ) (t : List ℕ) → Each ok zs → map v (groups w (length zs + n) (flat_map f zs ++ t)) ≡ zs ++ map v (groups w n t)
  unfolding flat_map groups
  groups_flat [] n t p = rw (zero-add n)
  groups_flat (a ∷ zs) n t p =
      let r : List ℕ = flat_map f zs ++ t in
      rw (suc-add (length zs) n, append_assoc (f a) (flat_map f zs) t, take_at (f a) r w (size a), drop_at (f a) r w (size a), fore a p.0, groups_flat zs n t p.1)

  -- the values of lent bytes once others are at their front
  lent_over : (zs : List A) (s : List ℕ) → length zs ≤ length s / w → Each ok zs → map v (whole_groups w (over (flat_map f zs) s)) ≡ over zs (map v (whole_groups w s))
  lent_over zs s h p =
      let m : ℕ = length zs in
      let n : ℕ = length s / w - m in
      let q : length s / w ≡ m + n = omega arith in
      let l : length (flat_map f zs) ≡ w * m = flat_length f w size zs in
      let fits : w * m ≤ length s = omega (arith, mul-div-le (length s) w, ap (λ (j : ℕ). w * j) q, mul-add w m n) in
      let k : length (over (flat_map f zs) s) ≡ length s = length_over (flat_map f zs) s (omega arith) in
      ap (λ (j : ℕ). map v (groups w (j / w) (over (flat_map f zs) s))) k
      ∙ ap (λ (j : ℕ). map v (groups w j (over (flat_map f zs) s))) q
      ∙ groups_flat zs n (drop (length (flat_map f zs)) s) p
      ∙ ap (λ (j : ℕ). zs ++ map v (groups w n (drop j s))) l
      ∙ ap (λ (u : List A). zs ++ u) (sym (lent_from v w s m h))

  -- all of them
  lent_all : (zs : List A) (s : List ℕ) → length zs ≡ length s / w → Each ok zs → map v (whole_groups w (over (flat_map f zs) s)) ≡ zs
  lent_all zs s h p =
      let l : length zs ≡ length (map v (whole_groups w s)) = h ∙ sym (length_lent v w s) in
      lent_over zs s (omega arith) p
      ∙ ap (λ (j : ℕ). zs ++ drop j (map v (whole_groups w s))) l
      ∙ ap (λ (u : List A). zs ++ u) (drop-length (map v (whole_groups w s)))
      ∙ append-nil zs

-- ---- numbers

pub number_bytes_flat : (w : ℕ) (ns : List ℕ) → number_bytes w ns ≡ flat_map (to_bytes w) ns
unfolding number_bytes flat_map
number_bytes_flat w [] = refl
number_bytes_flat w (n ∷ ns) = ap (λ (r : List ℕ). to_bytes w n ++ r) (number_bytes_flat w ns)

pub length_number_bytes : (w : ℕ) (ns : List ℕ) → length (number_bytes w ns) ≡ w * length ns
length_number_bytes w ns = ap length (number_bytes_flat w ns) ∙ flat_length (to_bytes w) w (length_to_bytes w) ns

pub number_bytes_bytes : (w : ℕ) (ns : List ℕ) → AllBytes (number_bytes w ns)
number_bytes_bytes w ns = rw (number_bytes_flat w ns) (flat_bytes (to_bytes w) (to_bytes_bytes w) ns)

-- each number of w bytes is below 256 ^ w
groups_below : (w n : ℕ) (s : List ℕ) → w * n ≤ length s → AllBytes s → AllBelow (256 ^ w) (map from_bytes (groups w n s))
unfolding groups
groups_below w zero s h p = tt
groups_below w (suc n) s h p =
    let q : w * suc n ≡ w + w * n = omega (arith, mul-suc w n) in
    let l : length (take w s) ≡ w = length-take-le w s (omega arith) in
    let r : w * n ≤ length (drop w s) = omega (arith, length-drop w s) in
    (rw l at (from_bytes_below (take w s) (bytes_take w s p)), groups_below w n (drop w s) r (bytes_drop w s p))

bytes_back : (w : ℕ) (g : List ℕ) → AllBytes g → length g ≡ w → to_bytes w (from_bytes g) ≡ g
bytes_back w g q l = ap (λ (j : ℕ). to_bytes j (from_bytes g)) (sym l) ∙ to_from_bytes g q

module _ (w : ℕ) (s : List ℕ) where
  pub length_numbers : length (numbers_of w s) ≡ length s / w
  length_numbers = length_lent _ w s

  pub number_at : (k : ℕ) → k < length s / w → get_or (numbers_of w s) k 0 ≡ from_bytes (take w (drop (w * k) s))
  number_at k h = lent_at from_bytes w s k h 0

  module _ (p : AllBytes s) where
    pub numbers_below : AllBelow (256 ^ w) (numbers_of w s)
    numbers_below = groups_below w (length s / w) s (mul-div-le (length s) w) p

    -- the bytes of the first k numbers
    pub first_numbers : (k : ℕ) → k ≤ length s / w → number_bytes w (take k (numbers_of w s)) ≡ take (w * k) s
    first_numbers k h = number_bytes_flat w (take k (numbers_of w s)) ∙ flat_first from_bytes w (to_bytes w) (bytes_back w) s p k h

    -- lent bytes that hold other numbers at their front
    pub numbers_over : (ns : List ℕ) → length ns ≤ length s / w → lent_numbers w (over ns (numbers_of w s)) s ≡ over (number_bytes w ns) s
    numbers_over ns h =
        ap (λ (u : List ℕ). over u s) (number_bytes_flat w (over ns (numbers_of w s)))
        ∙ over_lent from_bytes w (to_bytes w) (bytes_back w) s p (length_to_bytes w) ns h
        ∙ ap (λ (u : List ℕ). over u s) (sym (number_bytes_flat w ns))

    -- the numbers put back
    pub lent_of_numbers : lent_numbers w (numbers_of w s) s ≡ s
    unfolding number_bytes
    lent_of_numbers = numbers_over [] (omega arith)

-- numbers put into lent bytes are taken out as they were
module _ (w : ℕ) (ns s : List ℕ) where
  pub numbers_of_front : length ns ≤ length s / w → AllBelow (256 ^ w) ns → numbers_of w (over (number_bytes w ns) s) ≡ over ns (numbers_of w s)
  numbers_of_front h p =
      ap (λ (u : List ℕ). numbers_of w (over u s)) (number_bytes_flat w ns)
      ∙ lent_over from_bytes w (to_bytes w) (length_to_bytes w) (λ n. n < 256 ^ w) (from_to_bytes w) ns s h p

  pub numbers_of_lent : length ns ≡ length s / w → AllBelow (256 ^ w) ns → numbers_of w (lent_numbers w ns s) ≡ ns
  numbers_of_lent h p =
      ap (λ (u : List ℕ). numbers_of w (over u s)) (number_bytes_flat w ns)
      ∙ lent_all from_bytes w (to_bytes w) (length_to_bytes w) (λ n. n < 256 ^ w) (from_to_bytes w) ns s h p

-- ---- samples

sample_back : (w : ℕ) (g : List ℕ) → AllBytes g → length g ≡ w → value_bytes w little (sample_value signed little g) ≡ g
sample_back w g q l = ap (λ (j : ℕ). value_bytes j little (sample_value signed little g)) (sym l) ∙ bytes_of_value signed little g q

pub words_flat : (zs : List ℤ) → words_of_samples zs ≡ flat_map (value_bytes 8 little) zs
unfolding words_of_samples flat_map
words_flat [] = refl
words_flat (z ∷ zs) = ap (λ (r : List ℕ). value_bytes 8 little z ++ r) (words_flat zs)

pub length_words : (zs : List ℤ) → length (words_of_samples zs) ≡ 8 * length zs
length_words zs = ap length (words_flat zs) ∙ flat_length (value_bytes 8 little) 8 (length_value_bytes 8 little) zs

-- samples put into lent bytes are taken out as they were
pub samples_of_lent : (zs : List ℤ) (s : List ℕ) → length zs ≡ length s / word_bytes → all_in_type signed word_bytes zs ≡ true → samples_lent (lent_samples zs s) ≡ zs
unfolding all_in_type
samples_of_lent zs s h e =
    ap (λ (u : List ℕ). samples_lent (over u s)) (words_flat zs)
    ∙ lent_all (sample_value signed little) 8 (value_bytes 8 little) (length_value_bytes 8 little) (λ z. in_type signed 8 z ≡ true) (λ z q. value_of_bytes signed 8 little z (omega arith) q) zs s h (each zs e)
  where
    each : (zs : List ℤ) → all_in_type signed 8 zs ≡ true → Each (λ (z : ℤ). in_type signed 8 z ≡ true) zs
    each [] e = tt
    each (z ∷ zs) e = (and_left (in_type signed 8 z) (all_in_type signed 8 zs) e, each zs (and_right (in_type signed 8 z) (all_in_type signed 8 zs) e))

module _ (s : List ℕ) where
  pub length_samples : length (samples_lent s) ≡ length s / 8
  length_samples = length_lent _ 8 s

  pub sample_at : (k : ℕ) (z : ℤ) → k < length s / 8 → get_or (samples_lent s) k z ≡ sample_value signed little (take 8 (drop (8 * k) s))
  sample_at k z h = lent_at (sample_value signed little) 8 s k h z

  module _ (p : AllBytes s) where
    -- the bytes of all samples
    pub words_of_lent : words_of_samples (samples_lent s) ≡ take (8 * (length s / 8)) s
    words_of_lent = words_flat (samples_lent s) ∙ flat_groups (sample_value signed little) 8 (value_bytes 8 little) (sample_back 8) (length s / 8) s (mul-div-le (length s) 8) p

    -- lent bytes that hold other samples at their front
    pub samples_over_lem : (zs : List ℤ) → length zs ≤ length s / 8 → lent_samples (over zs (samples_lent s)) s ≡ over (words_of_samples zs) s
    samples_over_lem zs h =
        ap (λ (u : List ℕ). over u s) (words_flat (over zs (samples_lent s)))
        ∙ over_lent (sample_value signed little) 8 (value_bytes 8 little) (sample_back 8) s p (length_value_bytes 8 little) zs h
        ∙ ap (λ (u : List ℕ). over u s) (sym (words_flat zs))

    -- the samples put back
    pub lent_of_samples : lent_samples (samples_lent s) s ≡ s
    unfolding words_of_samples
    lent_of_samples = samples_over_lem [] (omega arith)

-- ---- decimals

pub length_decimal : (d : Decimal) → length (decimal_bytes d) ≡ 16
unfolding decimal_bytes
length_decimal d =
    let a = value_bytes 8 little d.number in
    let b = value_bytes 4 little d.power in
    let c = to_bytes 4 d.kind in
    omega (arith, length-append a (b ++ c), length-append b c, length_value_bytes 8 little d.number, length_value_bytes 4 little d.power, length_to_bytes 4 d.kind)

-- the decimal of the bytes of a decimal is that decimal
pub decimal_of_bytes : (d : Decimal) → FitsBytes d → decimal_of (decimal_bytes d) ≡ d
unfolding decimal_bytes decimal_of
decimal_of_bytes d f =
    let a = value_bytes 8 little d.number in
    let b = value_bytes 4 little d.power in
    let c = to_bytes 4 d.kind in
    let l : length a ≡ 8 = length_value_bytes 8 little d.number in
    let m : length b ≡ 4 = length_value_bytes 4 little d.power in
    let n : length c ≡ 4 = length_to_bytes 4 d.kind in
    let r : drop 12 (a ++ (b ++ c)) ≡ c = sym (drop-drop 4 8 (a ++ (b ++ c))) ∙ ap (drop 4) (drop_at a (b ++ c) 8 l) ∙ drop_at b c 4 m in
    rw (
      take_at a (b ++ c) 8 l,
      drop_at a (b ++ c) 8 l,
      take_at b c 4 m,
      r,
      take_all 4 c (omega arith),
      value_of_bytes signed 8 little d.number (omega arith) f.0,
      value_of_bytes signed 4 little d.power (omega arith) f.1,
      from_to_bytes 4 d.kind f.2,
    )

-- the bytes of the decimal of 16 bytes are those bytes
pub bytes_of_decimal : (s : List ℕ) → AllBytes s → length s ≡ 16 → decimal_bytes (decimal_of s) ≡ s
unfolding decimal_bytes decimal_of
bytes_of_decimal s p e =
    let part : (k n : ℕ) → k + n ≤ 16 → length (take n (drop k s)) ≡ n = λ k n h. length-take-le n (drop k s) (omega (arith, length-drop k s)) in
    let bytes : (k n : ℕ) → AllBytes (take n (drop k s)) = λ k n. bytes_take n (drop k s) (bytes_drop k s p) in
    rw (
      sample_back 8 (take 8 s) (bytes 0 8) (part 0 8 (omega arith)),
      sample_back 4 (take 4 (drop 8 s)) (bytes 8 4) (part 8 4 (omega arith)),
      bytes_back 4 (take 4 (drop 12 s)) (bytes 12 4) (part 12 4 (omega arith)),
    )
    (
    ap (λ (t : List ℕ). take 8 s ++ (take 4 (drop 8 s) ++ take 4 t)) (sym (drop-drop 4 8 s))
    ∙ ap (λ (t : List ℕ). take 8 s ++ t) (sym (take-add 4 4 (drop 8 s)))
    ∙ sym (take-add 8 8 s)
    ∙ take_all 16 s (omega arith)
    )

pub decimals_flat : (ds : List Decimal) → decimals_bytes ds ≡ flat_map decimal_bytes ds
unfolding decimals_bytes flat_map
decimals_flat [] = refl
decimals_flat (d ∷ ds) = ap (λ (r : List ℕ). decimal_bytes d ++ r) (decimals_flat ds)

pub length_decimals : (ds : List Decimal) → length (decimals_bytes ds) ≡ 16 * length ds
length_decimals ds = ap length (decimals_flat ds) ∙ flat_length decimal_bytes 16 length_decimal ds

-- the decimals of the bytes of decimals, and the bytes of the decimals of lent bytes
pub decimals_of_bytes : (ds : List Decimal) → Each FitsBytes ds → decimals_lent (decimals_bytes ds) ≡ ds
decimals_of_bytes ds f =
    let u = decimals_bytes ds in
    let w : over u u ≡ u = ap (λ (r : List ℕ). u ++ r) (drop-length u) ∙ append-nil u in
    ap decimals_lent (sym w ∙ ap (λ (r : List ℕ). over r u) (decimals_flat ds))
    ∙ lent_all decimal_of 16 decimal_bytes length_decimal FitsBytes decimal_of_bytes ds u (omega (arith, length_decimals ds)) f

pub bytes_of_decimals : (s : List ℕ) → AllBytes s → decimals_bytes (decimals_lent s) ≡ take (16 * (length s / 16)) s
bytes_of_decimals s p = decimals_flat (decimals_lent s) ∙ flat_groups decimal_of 16 decimal_bytes bytes_of_decimal (length s / 16) s (mul-div-le (length s) 16) p

-- ---- axis records

pub length_axis : (a : Axis) → length (axis_bytes a) ≡ 32
unfolding axis_bytes
length_axis a =
    let n : List ℕ = to_bytes 8 a.size in
    let c : List ℕ = to_bytes 4 a.centring in
    let k : List ℕ = to_bytes 4 a.kind in
    let p : List ℕ = to_bytes 4 a.labelplace in
    let q : List ℕ = to_bytes 4 a.labellength in
    let u : List ℕ = to_bytes 4 a.unitplace in
    let v : List ℕ = to_bytes 4 a.unitlength in
    omega (
      arith,
      length-append n (c ++ (k ++ (p ++ (q ++ (u ++ v))))),
      length-append c (k ++ (p ++ (q ++ (u ++ v)))),
      length-append k (p ++ (q ++ (u ++ v))),
      length-append p (q ++ (u ++ v)),
      length-append q (u ++ v),
      length-append u v,
      length_to_bytes 8 a.size,
      length_to_bytes 4 a.centring,
      length_to_bytes 4 a.kind,
      length_to_bytes 4 a.labelplace,
      length_to_bytes 4 a.labellength,
      length_to_bytes 4 a.unitplace,
      length_to_bytes 4 a.unitlength,
    )

pub axes_flat : (xs : List Axis) → axes_bytes xs ≡ flat_map axis_bytes xs
unfolding axes_bytes flat_map
axes_flat [] = refl
axes_flat (a ∷ xs) = ap (λ (r : List ℕ). axis_bytes a ++ r) (axes_flat xs)

pub length_axes : (xs : List Axis) → length (axes_bytes xs) ≡ 32 * length xs
length_axes xs = ap length (axes_flat xs) ∙ flat_length axis_bytes 32 length_axis xs
