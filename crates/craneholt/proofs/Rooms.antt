-- The room that is always enough, for samples by the reading, and for a listing.
-- Assumes nothing.
use Prim.Native.Nat.{ℕ, ◌≤◌}
use native.Mathlib.Omega.{arith}
use mathlib.Core.Path.{◌≡◌, refl, ap}
use mathlib.Core.List.{List}
use lib.ListN.{length}
use borrow.Author.Tests.{le-ltb}
use Rattle.format.specs.declared.WriteAnswer.{WriteAnswer}
use Rattle.format.specs.Header.{Outcome, refused, accepted, header}
use Rattle.format.specs.Calls.{reading_of, read_answer, read_header_call}
use Rattle.format.specs.Listing.{listing, listing_call}
use Rattle.format.specs.Room.{Enough, samples_room, sizes_room}
use Rattle.theorem_room.proofs.Enough.{same_refusal}
use Rattle.data_place.proofs.Headers.{header_sizes}
use Rattle.format.specs.Limits.{max_listing}

-- the product of the sizes that a reading tells is enough for the samples
pub sizes_room_lem : (file : List ℕ) → samples_room (header file) ≤ sizes_room (read_header_call file).reading
unfolding reading_of
sizes_room_lem file = go (header file) refl
  where
    go : (o : Outcome) → header file ≡ o → samples_room o ≤ sizes_room (read_answer o).reading
    go (refused r) e = omega arith
    go (accepted es gs ls) e = rw (header_sizes file e) (omega arith)

pub listing_room : (file out : List ℕ) {a : WriteAnswer} {after : List ℕ} → ◌≡◌ {A = WriteAnswer × List ℕ} (a, after) (listing_call file out)
    → length (listing file) ≤ max_listing → max_listing ≤ length out → Enough a.refusal
listing_room file out e l h =
    same_refusal (ap (λ (x : WriteAnswer × List ℕ). x.0.refusal) e) (rw (le-ltb (length out) (length (listing file)) (omega arith)) (λ z. omega arith))
