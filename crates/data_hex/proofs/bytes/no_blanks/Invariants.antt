-- `no_blanks` meets its contract. The invariant: where all tests held, every byte passed is above the blanks.
use Rattle.std.proofs.Common.{◌≡◌, true}
use Rattle.data_hex.specs.Forms.{Run}
use Rattle.data_hex.proofs.bytes.no_blanks.Given as goal

abbrev pub invariant-loop-j : goal.invariant-loop-j
invariant-loop-j l = l.fine ≡ true → Run l.s l.at l.j
