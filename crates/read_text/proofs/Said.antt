-- Laws of `said_by k f ws`, what each of the k texts ws says: text by text, as loops go over them.
-- Assumes nothing.
use Rattle.std.specs.Prelude.{if◌then◌else◌}
use Prim.Native.Nat.{ℕ, zero, suc, ◌-◌, ◌<◌}
use native.Mathlib.Omega.{arith}
use mathlib.Core.Path.{◌≡◌, refl, sym, ap, ◌∙◌}
use mathlib.Core.Bool.{Bool, true, false, ◌&&◌, false≢true}
use mathlib.Core.List.{List, [], ◌∷◌, map}
use mathlib.Core.Option.{Option, none, some}
use lib.Dec.{eqb}
use lib.ListN.{length, length-map}
use borrow.Author.Tests.{eqb-true, eq-eqb, ne_eqb}
use Rattle.format.specs.Bytes.{is_some, or_default}
use Rattle.format.specs.Vectors.{cons_said, all_said, said_by}

module _ {A : Type 0} where
  -- there is something in front of a list only where both are there
  pub cons_some : (a : Option A) (o : Option (List A)) → is_some (cons_said a o) ≡ (is_some a && is_some o)
  cons_some none o = refl
  cons_some (some a) none = refl
  cons_some (some a) (some as') = refl

  cons_none : (a : Option A) → cons_said a none ≡ none
  cons_none none = refl
  cons_none (some a) = refl

  module _ (f : List ℕ → Option A) where
    -- no text where none is wanted
    pub said_done : said_by 0 f [] ≡ some []
    unfolding said_by all_said
    said_done = refl

    -- no text where one is wanted
    pub said_short : (k : ℕ) → 0 < k → said_by k f [] ≡ none
    unfolding said_by
    said_short k h = rw (ne_eqb 0 k (λ e. omega arith))

    -- a text where none is wanted
    pub said_long : (w : List ℕ) (ws : List (List ℕ)) → said_by 0 f (w ∷ ws) ≡ none
    unfolding said_by
    said_long w ws = rw (ne_eqb (suc (length ws)) 0 (λ e. omega arith))

    -- a text and those after it
    said_suc : (k : ℕ) (w : List ℕ) (ws : List (List ℕ)) → said_by (suc k) f (w ∷ ws) ≡ cons_said (f w) (said_by k f ws)
    unfolding said_by all_said
    said_suc k w ws = go (eqb (length ws) k) refl
      where
        go : (x : Bool) → eqb (length ws) k ≡ x → said_by (suc k) f (w ∷ ws) ≡ cons_said (f w) (if x then all_said f ws else none)
        go true e = rw (eq-eqb (suc (length ws)) (suc k) (ap suc (eqb-true (length ws) k e)))
        go false e =
            rw (ne_eqb (suc (length ws)) (suc k) (λ z. false≢true (sym e ∙ eq-eqb (length ws) k (omega arith)))) (sym (cons_none (f w)))

    pub said_cons : (k : ℕ) (w : List ℕ) (ws : List (List ℕ)) → 0 < k → said_by k f (w ∷ ws) ≡ cons_said (f w) (said_by (k - 1) f ws)
    said_cons zero w ws h = absurd (omega arith)
    said_cons (suc k) w ws h = let e : suc k - 1 ≡ k = omega arith in rw e (said_suc k w ws)

    -- what all of them say, text by text
    all_values : (d : A) (ws : List (List ℕ)) (as' : List A) → all_said f ws ≡ some as' → map (λ w. or_default d (f w)) ws ≡ as'
    unfolding all_said
    all_values d [] as' e = cc
    all_values d (w ∷ ws) as' e = go (f w) (all_said f ws) e (all_values d ws)
      where
        go : (a : Option A) (o : Option (List A)) → cons_said a o ≡ some as' → ((bs : List A) → o ≡ some bs → map (λ v. or_default d (f v)) ws ≡ bs)
            → or_default d a ∷ map (λ v. or_default d (f v)) ws ≡ as'
        go none o e r = cc
        go (some a) none e r = cc
        go (some a) (some bs) e r = rw (r bs refl) cc

    pub said_values : (d : A) (k : ℕ) (ws : List (List ℕ)) (as' : List A) → said_by k f ws ≡ some as' → map (λ w. or_default d (f w)) ws ≡ as'
    unfolding said_by
    said_values d k ws as' e = go (eqb (length ws) k) e
      where
        go : (x : Bool) → (if x then all_said f ws else none) ≡ some as' → map (λ w. or_default d (f w)) ws ≡ as'
        go true e = all_values d ws as' e
        go false e = cc

    -- there are as many as are wanted
    pub said_length : (d : A) (k : ℕ) (ws : List (List ℕ)) (as' : List A) → said_by k f ws ≡ some as' → length as' ≡ k
    unfolding said_by
    said_length d k ws as' e = go (eqb (length ws) k) refl e
      where
        go : (x : Bool) → eqb (length ws) k ≡ x → (if x then all_said f ws else none) ≡ some as' → length as' ≡ k
        go true p e = ap length (sym (all_values d ws as' e)) ∙ length-map ws (λ w. or_default d (f w)) ∙ eqb-true (length ws) k p
        go false p e = cc

-- two readings that say something of the same texts
module _ {A B : Type 0} (f : List ℕ → Option A) (g : List ℕ → Option B) (h : (w : List ℕ) → is_some (f w) ≡ is_some (g w)) where
  all_both : (ws : List (List ℕ)) → is_some (all_said f ws) ≡ is_some (all_said g ws)
  unfolding all_said
  all_both [] = refl
  all_both (w ∷ ws) = rw (cons_some (f w) (all_said f ws), cons_some (g w) (all_said g ws), h w, all_both ws)

  pub said_both : (k : ℕ) (ws : List (List ℕ)) → is_some (said_by k f ws) ≡ is_some (said_by k g ws)
  unfolding said_by
  said_both k ws = go (eqb (length ws) k)
    where
      go : (x : Bool) → is_some (if x then all_said f ws else none) ≡ is_some (if x then all_said g ws else none)
      go true = all_both ws
      go false = refl
