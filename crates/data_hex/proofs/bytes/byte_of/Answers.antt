-- `byte_of` meets its contract: it is the claim itself.
use mathlib.Core.Path.{refl}
use Rattle.data_hex.proofs.bytes.byte_of.Goals as goal

pub returns : goal.returns
returns c = refl
