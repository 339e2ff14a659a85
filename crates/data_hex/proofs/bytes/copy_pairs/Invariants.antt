-- `copy_pairs` meets its contract. The invariant: where the digits are good, what is stored are those of the bytes passed.
use Prim.Native.Nat.{◌+◌, ◌*◌}
use mathlib.Core.Path.{◌≡◌}
use lib.ListN.{length}
use Rattle.data_hex.specs.Forms.{digits_at, digits_refusal, Moved}
use Rattle.data_hex.proofs.bytes.copy_pairs.Given as goal

abbrev pub invariant-loop-j : goal.invariant-loop-j
invariant-loop-j l = (length l.d ≡ length l.initial.d) × (digits_refusal 32 (digits_at l.s l.at) ≡ 0 → Moved l.s l.at (l.at + 3 * l.j) l.initial.d l.o l.d (l.o + 2 * l.j))
