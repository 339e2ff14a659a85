-- `blanks_third` meets its contract. The invariant: where all tests held, of the bytes passed each third one is at most 32, and no other.
use Rattle.std.proofs.Common.{◌≡◌, true}
use Rattle.data_hex.specs.Forms.{Spaced}
use Rattle.data_hex.proofs.bytes.blanks_third.Given as goal

abbrev pub invariant-loop-j : goal.invariant-loop-j
invariant-loop-j l = l.fine ≡ true → Spaced l.s l.at l.j
