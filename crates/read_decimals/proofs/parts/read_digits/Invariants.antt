-- The digits passed write m.
use Rattle.read_decimals.proofs.DigitLaws.{ReadSoFar}
use Rattle.read_decimals.proofs.parts.read_digits.Given as goal

abbrev pub invariant-loop-i : goal.invariant-loop-i
invariant-loop-i l = ReadSoFar l.before l.s l.m l.i
