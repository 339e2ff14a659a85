-- `no_frame` meets its contract.
use mathlib.Core.Path.{ap}
use mathlib.Core.List.{List}
use lib.ListN.{replicate}
use Rattle.format.specs.declared.Decimal.{Decimal}
use Rattle.format.specs.Columns.{eight}
use Rattle.read_orientation.proofs.no_frame.Goals as goal

pub returns : goal.returns
unfolding eight
returns c = ap (λ (d : List Decimal). replicate 8 d) c.blank_column-column.ensures
