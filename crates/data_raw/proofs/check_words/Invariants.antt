-- `check_words` meets its contract. The invariant: what the samples from k on come to is what all come to, unless one before them is counted.
use Rattle.std.proofs.Common.{◌≤◌, eqb}
use Rattle.format.specs.Descriptors.{unsigned}
use Rattle.lent_numbers.specs.Widths.{endian_by}
use Rattle.data_raw.proofs.RawLaws.{Testing}
use Rattle.data_raw.proofs.check_words.Given as goal

abbrev pub invariant-loop-k : goal.invariant-loop-k
invariant-loop-k l = (l.count ≤ l.k) × Testing unsigned 8 (endian_by l.big) l.n l.s (eqb l.count 0) l.k
