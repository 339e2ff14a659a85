-- Laws of loops that fill lent bytes with samples: each is the loop that fills a list, done on the list that the bytes hold.
-- Assumes nothing.
use Prim.Native.Nat.{ℕ, ◌*◌, ◌/◌, ◌≤◌, ◌<◌}
use native.Mathlib.Omega.{arith}
use mathlib.Core.Path.{◌≡◌, refl, sym, ap, ◌∙◌}
use mathlib.Core.List.{List}
use lib.IntN.{ℤ}
use lib.ListN.{length, get_or, set, length-set}
use lib.Seq.{sets, length-sets}
use Rattle.format.specs.Bytes.{over}
use Rattle.format.specs.Descriptors.{little}
use Rattle.format.specs.Samples.{value_bytes}
use Rattle.format.specs.Boundary.{samples_lent, lent_samples}
use Rattle.format.proofs.Samples.{all_bytes, length_value_bytes}
use Rattle.format.proofs.Boundary.{length_samples, lent_of_samples, words_flat}
use Rattle.lent_numbers.proofs.Stores.{over_set}

-- sample j stored anew
pub sample_put : (zs : List ℤ) (d : List ℕ) (j : ℕ) (z : ℤ) → j < length zs → sets (lent_samples zs d) (8 * j) (value_bytes 8 little z) ≡ lent_samples (set zs j z) d
sample_put zs d j z h =
    ap (λ (u : List ℕ). sets (over u d) (8 * j) (value_bytes 8 little z)) (words_flat zs)
    ∙ over_set (value_bytes 8 little) 8 (length_value_bytes 8 little) zs d j z h
    ∙ ap (λ (u : List ℕ). over u d) (sym (words_flat (set zs j z)))

module _ (d₀ : List ℕ) where
  -- d holds a list of samples of which P holds, and else what d₀ had
  pub record Packed (P : List ℤ → Type 0) (d : List ℕ) : Type 0 where
    pub list : List ℤ
    pub held : P list
    pub few : length list ≡ length d₀ / 8
    pub long : length d ≡ length d₀
    pub is : d ≡ lent_samples list d₀

  -- as many entries as the bytes have room for
  pub room_lent : (n : ℕ) → n ≤ length d₀ / 8 → n ≤ length (samples_lent d₀)
  room_lent n h = omega (arith, length_samples d₀)

  -- nothing is stored yet
  pub packed_none : {P : List ℤ → Type 0} → ((i : ℕ) → get_or d₀ i 0 < 256) → P (samples_lent d₀) → Packed P d₀
  packed_none f p = record { list = samples_lent d₀; held = p; few = length_samples d₀; long = refl; is = sym (lent_of_samples d₀ (all_bytes d₀ f)) }

  module _ {P : List ℤ → Type 0} {d : List ℕ} (p : Packed P d) where
    -- sample k is stored
    pub packed_more : {Q : List ℤ → Type 0} {d' : List ℕ} (k : ℕ) (z : ℤ) → k < length d₀ / 8 → d' ≡ sets d (8 * k) (value_bytes 8 little z) → Q (set p.list k z) → Packed Q d'
    packed_more k z h e q = record {
      list = set p.list k z;
      held = q;
      few = length-set p.list k z ∙ p.few;
      long = ap length e ∙ length-sets d (8 * k) (value_bytes 8 little z) ∙ p.long;
      is = e ∙ ap (λ (r : List ℕ). sets r (8 * k) (value_bytes 8 little z)) p.is ∙ sample_put p.list d₀ k z (omega (arith, p.few));
    }

    -- all are stored
    pub packed_done : {l : List ℤ} → p.list ≡ l → d ≡ lent_samples l d₀
    packed_done e = p.is ∙ ap (λ (l : List ℤ). lent_samples l d₀) e
