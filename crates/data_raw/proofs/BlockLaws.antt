-- Laws of loops that store: element by element, and by blocks that may overlap; in a list or in lent bytes.
-- Assumes nothing.
use Rattle.std.proofs.Common.{◌≡◌, ℕ, ◌+◌, ◌-◌, ◌<◌, ◌≤◌, min, List, [], ◌∷◌, ◌++◌, length, get_or, take, drop, ℤ, sym, refl, ap, ◌∙◌, add-one, arith, length-append, length-drop, take-append-drop, drop_of_length-le, length-take-le, take_all, drop-cons, take-take, drop-drop, take_at, take-add, drop_at}
use lib.Seq.{sets, sets-eq, length-sets, drop-append-add, take-append-le}
use Rattle.format.specs.Bytes.{over}
use Rattle.format.proofs.Stores.{sets_then}
use Rattle.lent_numbers.specs.Cells.{Stores}

-- ---- how elements are stored: the place of element k, and what stands there

pub record Storing (B A : Type 0) : Type 1 where
  pub store : List B → List A
  pub place : ℕ → ℕ
  pub none : store [] ≡ []
  pub join : (a x : List B) → store (a ++ x) ≡ store a ++ store x
  pub long : (a : List B) → length (store a) ≡ place (length a)
  pub more : (i j : ℕ) → place (i + j) ≡ place i + place j

abbrev pub in_list : {A : Type 0} → Storing A A
in_list = record { store = λ a. a; place = λ k. k; none = refl; join = λ a x. refl; long = λ a. refl; more = λ i j. refl }

abbrev pub storing : {A : Type 0} {store : List ℤ → List A} {place room : ℕ → ℕ} → Stores store place room → Storing ℤ A
storing {store = s} {place = p} l = record { store = s; place = p; none = l.none; join = l.join; long = l.long; more = l.more }

-- ---- a run v, stored element by element from place k on: after j of them the rest goes to place o

module _ {B A : Type 0} (f : Storing B A) (v : List B) (d₀ : List A) (k : ℕ) where
  pub record Run (d : List A) (o j : ℕ) : Type 0 where
    pub few : j ≤ length v
    pub long : length d ≡ length d₀
    pub spot : o ≡ k + f.place j
    pub goes : sets d₀ k (f.store v) ≡ sets d o (f.store (drop j v))

  place_none : f.place 0 ≡ 0
  place_none = sym (f.long []) ∙ ap length f.none

  pub run_none : (o : ℕ) → o ≡ k → Run d₀ o 0
  run_none o e = record { few = omega arith; long = refl; spot = omega (arith, place_none, e); goes = ap (λ (i : ℕ). sets d₀ i (f.store v)) (sym e) }

  module _ {d : List A} {o j : ℕ} (r : Run d o j) where
    pub run_more : (z : B) → j < length v → z ≡ get_or v j z → (d' : List A) → d' ≡ sets d o (f.store (z ∷ [])) → (o' : ℕ) → o' ≡ o + f.place 1 → Run d' o' (j + 1)
    run_more z h q d' e o' p = record {
      few = omega arith;
      long = ap length e ∙ length-sets d o (f.store (z ∷ [])) ∙ r.long;
      spot = omega (arith, p, r.spot, f.more j 1);
      goes =
          r.goes
          ∙ ap (λ (l : List B). sets d o (f.store l)) (drop-cons v j z h ∙ rw (sym q, sym (add-one j)))
          ∙ ap (sets d o) (f.join (z ∷ []) (drop (j + 1) v))
          ∙ sym (sets_then d (f.store (z ∷ [])) (f.store (drop (j + 1) v)) o o' (p ∙ ap (λ (i : ℕ). o + i) (sym (f.long (z ∷ [])))))
          ∙ ap (λ (l : List A). sets l o' (f.store (drop (j + 1) v))) (sym e);
    }

    pub run_done : length v ≤ j → d ≡ sets d₀ k (f.store v)
    run_done h = sym (r.goes ∙ ap (λ (l : List B). sets d o (f.store l)) (drop_of_length-le v {i = j} h) ∙ ap (sets d o) f.none)

-- ---- blocks of l from the front on, one of which may begin before the end of the one before

-- a part of l over the first j elements, of which it stores some again
again : {A : Type 0} (l d : List A) (k j m : ℕ) → k ≤ j → j ≤ k + m → k + m ≤ length l → length l ≤ length d → sets (over (take j l) d) k (take m (drop k l)) ≡ over (take (k + m) l) d
again {A} l d k j m h g r t =
    let p : List A = take j l in
    let b : List A = drop (length p) d in
    let v : List A = take m (drop k l) in
    let n : length p ≡ j = length-take-le j l (omega arith) in
    let u : length v ≡ m = length-take-le m (drop k l) (omega (arith, length-drop k l)) in
    let q : length (p ++ b) ≡ length d = length-append p b ∙ omega (arith, n, length-drop (length p) d) in
    let front : take k (p ++ b) ≡ take k l = take-append-le k p b (omega (arith, n)) ∙ take-take k j l h in
    let x : k + length v ≡ length p + (k + m - j) = omega (arith, n, u) in
    let y : length p + (k + m - j) ≡ k + m = omega (arith, n) in
    let back : drop (k + length v) (p ++ b) ≡ drop (k + m) d =
    ap (λ (i : ℕ). drop i (p ++ b)) x ∙ drop-append-add p b (k + m - j) ∙ drop-drop (k + m - j) (length p) d ∙ ap (λ (i : ℕ). drop i d) y in
    sets-eq v (p ++ b) k (omega (arith, q, u))
    ∙ ap (λ (s : List A). s ++ v ++ drop (k + length v) (p ++ b)) front
    ∙ ap (λ (s : List A). take k l ++ v ++ s) back
    ∙ ap (λ (s : List A). s ++ drop (k + m) d) (sym (take-add k m l))
    ∙ ap (λ (i : ℕ). take (k + m) l ++ drop i d) (sym (length-take-le (k + m) l r))

module _ {B A : Type 0} (f : Storing B A) where
  pub place_zero : f.place 0 ≡ 0
  place_zero = sym (f.long []) ∙ ap length f.none

  -- the place of a later element
  pub place_more : (i j : ℕ) → i ≤ j → f.place i ≤ f.place j
  place_more i j h =
      let q : i + (j - i) ≡ j = omega arith in
      omega (arith, f.more i (j - i), ap f.place q)

  module _ (l : List B) (j : ℕ) (h : j ≤ length l) where
    split : f.store l ≡ f.store (take j l) ++ f.store (drop j l)
    split = ap f.store (sym (take-append-drop j l)) ∙ f.join (take j l) (drop j l)

    first_long : length (f.store (take j l)) ≡ f.place j
    first_long = f.long (take j l) ∙ ap f.place (length-take-le j l h)

    store_take : f.store (take j l) ≡ take (f.place j) (f.store l)
    store_take = sym (ap (take (f.place j)) split ∙ take_at (f.store (take j l)) (f.store (drop j l)) (f.place j) first_long)

    store_drop : f.store (drop j l) ≡ drop (f.place j) (f.store l)
    store_drop = sym (ap (drop (f.place j)) split ∙ drop_at (f.store (take j l)) (f.store (drop j l)) (f.place j) first_long)

  stored_again : (l : List B) (d : List A) (k j m : ℕ) → k ≤ j → j ≤ k + m → k + m ≤ length l → f.place (length l) ≤ length d
      → sets (over (f.store (take j l)) d) (f.place k) (f.store (take m (drop k l))) ≡ over (f.store (take (k + m) l)) d
  stored_again l d k j m h g r t =
      let w : List A = f.store l in
      let a : f.store (take j l) ≡ take (f.place j) w = store_take l j (omega arith) in
      let b : f.store (take m (drop k l)) ≡ take (f.place m) (drop (f.place k) w) =
      store_take (drop k l) m (omega (arith, length-drop k l)) ∙ ap (take (f.place m)) (store_drop l k (omega arith)) in
      let e : f.store (take (k + m) l) ≡ take (f.place k + f.place m) w = store_take l (k + m) r ∙ ap (λ (i : ℕ). take i w) (f.more k m) in
      let x : f.place j ≤ f.place k + f.place m = omega (arith, place_more j (k + m) g, f.more k m) in
      let y : f.place k + f.place m ≤ length w = omega (arith, place_more (k + m) (length l) r, f.more k m, f.long l) in
      let z : length w ≤ length d = omega (arith, f.long l) in
      rw (a, b, e) (again w d (f.place k) (f.place j) (f.place m) (place_more k j h) x y z)

-- l is stored in blocks of m, the last of them at place `last`; the next one goes to place k, and of the elements before its end at least k are stored
module _ {A : Type 0} (f : Storing ℤ A) (l : List ℤ) (d₀ : List A) (last m : ℕ) where
  pub record Blocks (d : List A) (k : ℕ) : Type 0 where
    pub size : length l ≡ last + m
    pub room : f.place (last + m) ≤ length d₀
    pub most : k ≤ last
    pub past : ℕ
    pub from : k ≤ past
    pub to : past ≤ k + m
    pub is : d ≡ over (f.store (take past l)) d₀

  pub blocks_none : length l ≡ last + m → f.place (last + m) ≤ length d₀ → Blocks d₀ 0
  blocks_none t r = record { size = t; room = r; most = omega arith; past = 0; from = omega arith; to = omega arith; is = rw f.none }

  module _ {d : List A} {k : ℕ} (b : Blocks d k) where
    pub blocks_long : length d ≡ length d₀
    blocks_long =
        let p : List A = f.store (take b.past l) in
        let x : length p ≡ f.place b.past = first_long f l b.past (omega (arith, b.size, b.most, b.to)) in
        let y : f.place b.past ≤ f.place (last + m) = place_more f b.past (last + m) (omega (arith, b.most, b.to)) in
        ap length b.is ∙ length-append p (drop (length p) d₀) ∙ omega (arith, length-drop (length p) d₀, b.room)

    module _ {d' : List A} (e : d' ≡ sets d (f.place k) (f.store (take m (drop k l)))) where
      stored : d' ≡ over (f.store (take (k + m) l)) d₀
      stored =
          e
          ∙ ap (λ (x : List A). sets x (f.place k) (f.store (take m (drop k l)))) b.is
          ∙ stored_again f l d₀ k b.past m b.from b.to (omega (arith, b.size, b.most)) (rw b.size b.room)

      pub blocks_more : (k' : ℕ) → k' ≡ min (k + m) last → Blocks d' k'
      blocks_more k' q = record { size = b.size; room = b.room; most = omega arith; past = k + m; from = omega arith; to = omega (arith, b.most); is = stored }

      pub blocks_done : k ≡ last → d' ≡ over (f.store l) d₀
      blocks_done q = stored ∙ ap (λ (x : List ℤ). over (f.store x) d₀) (take_all (k + m) l (omega (arith, b.size)))
