-- The digits passed write v, cut to `past_size`, and the number goes on from there.
use Rattle.std.proofs.Common.{◌≡◌, ◌≤◌, drop}
use Rattle.format.specs.Words.{digits_from, number}
use Rattle.read_text.specs.Numbers.{past_size, number_answer}
use Rattle.read_text.proofs.numbers.read_number.Given as goal

abbrev pub invariant-loop-b : goal.invariant-loop-b
invariant-loop-b l = (l.v ≤ past_size) × (number_answer (number l.s) ≡ number_answer (digits_from l.v (drop l.b-index l.s)))
