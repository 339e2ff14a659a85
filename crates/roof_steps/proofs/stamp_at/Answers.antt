-- `stamp_at` meets its contract: a stamp is the low 32 bits of a sample.
use Rattle.std.proofs.Common.{◌%◌, ap}
use Rattle.roof_steps.specs.Steps.{stamp_of, counter_values}
use Rattle.roof_steps.proofs.stamp_at.Goals as goal

pub returns : goal.returns
unfolding stamp_of
returns g c = ap (λ n. n % counter_values) c.bits_at.ensures
