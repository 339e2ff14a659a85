-- The answer of a setting, with the buffer and the table as it leaves them.
-- Assumes nothing.
use Prim.Native.Nat.{ℕ, ◌+◌, ◌-◌, ◌≤◌, ◌<◌}
use mathlib.Core.Path.{◌≡◌, refl, ap, ◌∙◌}
use mathlib.Core.List.{List}
use native.Mathlib.Omega.{arith}
use lib.ListN.{length, take}
use lib.Seq.{length-take-le}
use borrow.Author.Tests.{lt-ltb, le-ltb}
use Rattle.format.specs.declared.SetAnswer.{SetAnswer}
use Rattle.format.specs.Bytes.{over}
use Rattle.format.specs.Refusals.{lent_too_short, refusal, fine}
use Rattle.format.specs.Settings.{pair_text, refilled, set_key}
use Rattle.format.specs.Calls.{set_key_call}
use Rattle.std.specs.Prelude.{Result, Ok, Err}
use Rattle.format.specs.declared.reason.Refused.{Refused}
use Rattle.format.specs.Reasons.{refusal_of}
use Rattle.read_table.specs.Shifts.{moved_entries}
use Rattle.set_splice.specs.Edited.{edited}
use Rattle.set_key.specs.declared.plan.Plan.{Plan}
use Rattle.set_key.specs.Edits.{Ready, Planned, set_into}

module _ (buf : List ℕ) (used : ℕ) (table : List ℕ) (count : ℕ) (k v : List ℕ) where
  -- the used length passes the buffer
  pub call_short : length buf < used
      → ◌≡◌ {A = SetAnswer × (List ℕ × List ℕ)} (record { refusal = refusal lent_too_short; length = used; count = count }, (buf, table)) (set_key_call buf used table count k v)
  unfolding set_key
  call_short h = rw (lt-ltb (length buf) used h)

  module _ (h : used ≤ length buf) where
    -- refused
    pub call_kept : (r : Refused) → Planned (take used buf) (length buf) table count k v (Err r)
        → ◌≡◌ {A = SetAnswer × (List ℕ × List ℕ)} (record { refusal = refusal_of r; length = used; count = count }, (buf, table)) (set_key_call buf used table count k v)
    unfolding set_key
    call_kept r w = rw (le-ltb (length buf) used h, w buf used refl)

    module _ {p : Plan} (r : Ready (take used buf) (length buf) table count k v p) where
      used_length : length (take used buf) ≡ used
      used_length = length-take-le used buf h

      -- what the edit asks
      pub edit_from : p.edit.from ≤ used
      edit_from = rw used_length at r.from

      pub edit_to : p.edit.to ≤ used
      edit_to = rw used_length at r.to

      pub edit_room : p.edit.front + (used - p.edit.to) ≤ length buf
      edit_room = omega (arith, r.fits, rw used_length at r.long)

      -- done
      pub call_done : ◌≡◌ {A = SetAnswer × (List ℕ × List ℕ)}
          (record { refusal = fine; length = p.length; count = p.count }, (refilled buf used (edited (take used buf) p.edit.from p.edit.to (pair_text k v)), over (moved_entries p.edit (take count table)) table))
          (set_key_call buf used table count k v)
      unfolding set_key
      call_done = rw (le-ltb (length buf) used h, r.answer buf used refl)

-- the answer with a table in cells, by that with its entries
pub call_into : {A : Type 0} (entries : List A → List ℕ) (holding : List ℕ → List A → List A) (buf : List ℕ) (used : ℕ) (table : List A) (count : ℕ) (k v : List ℕ)
    {a a' : SetAnswer} {buf' buf₁ : List ℕ} {ns : List ℕ} {table' : List A}
    → ◌≡◌ {A = SetAnswer × (List ℕ × List ℕ)} (a, (buf', ns)) (set_key_call buf used (entries table) count k v)
    → a' ≡ a → buf₁ ≡ buf' → table' ≡ holding ns table
    → ◌≡◌ {A = SetAnswer × (List ℕ × List A)} (a', (buf₁, table')) (set_into entries holding buf used table count k v)
call_into entries holding buf used table count k v q e b t =
    (λ i. (e i, (b i, t i)))
    ∙ ap (λ (x : SetAnswer × (List ℕ × List ℕ)). (x.0, (x.1.0, holding x.1.1 table))) q
