-- `squeeze` meets its contract. The invariant: what is stored are the digits of the bytes passed.
use mathlib.Core.Path.{◌≡◌}
use lib.ListN.{length}
use Rattle.data_hex.proofs.BlockLaws.{Squeezing}
use Rattle.data_hex.proofs.bytes.squeeze.Given as goal

abbrev pub invariant-loop-j : goal.invariant-loop-j
invariant-loop-j l = (length l.d ≡ length l.initial.d) × Squeezing l.s l.c l.at l.initial.d l.o l.d l.e l.j
