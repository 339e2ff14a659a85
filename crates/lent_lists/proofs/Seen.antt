-- Laws of loops that store samples in lent cells: each is a loop over the list of samples that the cells hold.
use Rattle.std.specs.Prelude.{◌≡◌, ℕ, ◌≤◌, ◌<◌, List, [], ◌∷◌, ℤ, length}
use Rattle.std.proofs.Common.{◌∙◌, sym, ap, refl, set, arith, length-set, subst}
use Rattle.std.proofs.lemmas.List.Edits.{sets}
use lib.Seq.{set_out}
use Rattle.lent_numbers.specs.Cells.{Stores}
use Rattle.lent_lists.specs.Views.{Views}

-- the cells d hold a list of samples of which P holds, and else what d₀ had
pub record Seen {A : Type 0} (samples : List A → List ℤ) (lent : List ℤ → List A → List A) (d₀ : List A) (P : List ℤ → Type 0) (d : List A) : Type 0 where
  pub list : List ℤ
  pub held : P list
  pub few : length list ≡ length (samples d₀)
  pub is : d ≡ lent list d₀

module _ {A : Type 0} {store : List ℤ → List A} {place room : ℕ → ℕ} {Sound : List A → Type 0} {samples : List A → List ℤ} {lent : List ℤ → List A → List A} (v : Views store place room Sound samples lent) (d₀ : List A) where
  -- nothing is stored yet
  pub seen_none : {P : List ℤ → Type 0} → Sound d₀ → P (samples d₀) → Seen samples lent d₀ P d₀
  seen_none s p = record { list = samples d₀; held = p; few = refl; is = sym (v.kept d₀ s) }

  module _ {P : List ℤ → Type 0} {d : List A} (p : Seen samples lent d₀ P d) where
    pub seen_long : length d ≡ length d₀
    seen_long = ap length p.is ∙ v.long p.list d₀ (p.few ∙ v.count d₀)

    module _ {Q : List ℤ → Type 0} (k : ℕ) (z : ℤ) (q : Q (set p.list k z)) where
      -- sample k is stored
      pub seen_put : {d' : List A} → k < length (samples d₀) → d' ≡ sets d (place k) (store (z ∷ [])) → Seen samples lent d₀ Q d'
      seen_put h e = record {
        list = set p.list k z;
        held = q;
        few = length-set p.list k z ∙ p.few;
        is = e ∙ ap (λ r. sets r (place k) (store (z ∷ []))) p.is ∙ v.stored p.list d₀ k z (omega (arith, h, p.few));
      }

      -- there is no room for it
      pub seen_out : length (samples d₀) ≤ k → Seen samples lent d₀ Q d
      seen_out h = record { list = p.list; held = subst Q (set_out p.list k z (omega (arith, h, p.few))) q; few = p.few; is = p.is }

    -- all are stored
    pub seen_done : {l : List ℤ} → p.list ≡ l → d ≡ lent l d₀
    seen_done e = p.is ∙ ap (λ l. lent l d₀) e

  -- no more samples than cells
  pub samples_few : Stores store place room → length (samples d₀) ≤ length d₀
  samples_few s =
      let n = length (samples d₀) in
      omega (arith, s.least n, s.fits n (length d₀) (omega (arith, v.count d₀)))
