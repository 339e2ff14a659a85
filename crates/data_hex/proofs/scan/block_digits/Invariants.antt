-- `block_digits` meets its contract. The invariant: what is counted are the digits of the bytes passed, where there was nothing else than digits and blanks.
use Rattle.data_hex.proofs.DigitLaws.{Counting}
use Rattle.data_hex.proofs.scan.block_digits.Given as goal

abbrev pub invariant-loop-j : goal.invariant-loop-j
invariant-loop-j l = Counting l.s l.at l.digits l.fine l.j
