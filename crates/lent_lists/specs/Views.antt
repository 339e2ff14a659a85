-- Internal to the library. Lent cells seen as the samples that they hold.
use Rattle.std.specs.Prelude.{◌≡◌, ℕ, ◌*◌, ◌/◌, ◌≤◌, ◌<◌, List, [], ◌∷◌, ℤ, length, refl}
use Rattle.std.proofs.lemmas.List.Edits.{sets}
use Rattle.std.proofs.Common.{◌∙◌, set, arith, ap, sym}
use Rattle.format.specs.Bytes.{over}
use Rattle.format.specs.Boundary.{samples_lent, lent_samples, words_of_samples}
use Rattle.format.specs.Laws.{AllBytes}
use Rattle.format.proofs.Boundary.{length_samples, length_words, length_over, lent_of_samples, samples_over_lem}
use Rattle.lent_numbers.specs.Cells.{words_one}
use Rattle.lent_numbers.proofs.PackedLaws.{sample_put}

-- every list is one
abbrev pub IsAny : List ℤ → Type 0
IsAny d = d ≡ d

pub record Views {A : Type 0} (store : List ℤ → List A) (place room : ℕ → ℕ) (Sound : List A → Type 0) (samples : List A → List ℤ) (lent : List ℤ → List A → List A) : Type 0 where
  -- they hold as many samples as there is room for
  pub count : (d : List A) → length (samples d) ≡ room (length d)
  -- their samples, put back, are what is there
  pub kept : (d : List A) → Sound d → lent (samples d) d ≡ d
  -- they keep their length
  pub long : (zs : List ℤ) (d : List A) → length zs ≡ room (length d) → length (lent zs d) ≡ length d
  -- sample k stored anew
  pub stored : (zs : List ℤ) (d : List A) (k : ℕ) (z : ℤ) → k < length zs → sets (lent zs d) (place k) (store (z ∷ [])) ≡ lent (set zs k z) d
  -- samples stored at the front
  pub front : (vs : List ℤ) (d : List A) → Sound d → length vs ≤ room (length d) → over (store vs) d ≡ lent (over vs (samples d)) d

pub list_views : Views {A = ℤ} (λ a. a) (λ k. k) (λ n. n) IsAny (λ zs. zs) (λ zs d. zs)
list_views = record { count = λ d. refl; kept = λ d s. refl; long = λ zs d h. h; stored = λ zs d k z h. refl; front = λ vs d s h. refl }

words_long : (zs : List ℤ) (d : List ℕ) → length zs ≡ length d / 8 → length (lent_samples zs d) ≡ length d
words_long zs d h = length_over (words_of_samples zs) d (omega (arith, h, length_words zs))

word_stored : (zs : List ℤ) (d : List ℕ) (k : ℕ) (z : ℤ) → k < length zs → sets (lent_samples zs d) (8 * k) (words_of_samples (z ∷ [])) ≡ lent_samples (set zs k z) d
word_stored zs d k z h = ap (sets (lent_samples zs d) (8 * k)) (words_one z) ∙ sample_put zs d k z h

pub byte_views : Views words_of_samples (λ k. 8 * k) (λ n. n / 8) AllBytes samples_lent lent_samples
byte_views = record { count = length_samples; kept = lent_of_samples; long = words_long; stored = word_stored; front = λ vs d s h. sym (samples_over_lem d s vs h) }
