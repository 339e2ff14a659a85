-- Entries stored one after the other in cells of any kind.
-- Assumes nothing.
use Rattle.std.proofs.Common.{◌≡◌, ℕ, List, length, set, length-set, ap, sym, ◌∙◌, refl}
use Rattle.read_table.specs.Entries.{HoldsEntries}

-- the cells are the first ones, once they hold the entries of now
pub record Storing {A : Type 0} (entries : List A → List ℕ) (holding : List ℕ → List A → List A) (first cells : List A) : Type 0 where
  pub held : cells ≡ holding (entries cells) first
  pub many : length (entries cells) ≡ length (entries first)

module _ {A : Type 0} {entries : List A → List ℕ} {holding : List ℕ → List A → List A} {whole : List A → Type 0} (laws : HoldsEntries entries holding whole) {first : List A} where
  pub storing_none : whole first → Storing entries holding first first
  storing_none w = record { held = sym (laws.own first w); many = refl }

  module _ {cells : List A} (s : Storing entries holding first cells) where
    pub storing_put : {cells' : List A} (k x : ℕ) → entries cells' ≡ set (entries cells) k x → cells' ≡ holding (set (entries cells) k x) cells → Storing entries holding first cells'
    storing_put {cells'} k x e h =
        let n : length (set (entries cells) k x) ≡ length (entries cells) = length-set (entries cells) k x in
        record {
          held = h ∙ ap (holding (set (entries cells) k x)) s.held ∙ laws.again (entries cells) (set (entries cells) k x) first n ∙ ap (λ ns. holding ns first) (sym e);
          many = ap length e ∙ n ∙ s.many;
        }

    -- all are
    pub storing_done : {ns : List ℕ} → entries cells ≡ ns → cells ≡ holding ns first
    storing_done e = s.held ∙ ap (λ ns. holding ns first) e
