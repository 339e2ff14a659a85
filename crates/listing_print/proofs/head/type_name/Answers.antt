-- `listing_print::head::type_name` meets its contract: a type past the list stands for the first.
use mathlib.Core.Path.{◌∙◌}
use Rattle.listing_print.proofs.Names.{type_past}
use Rattle.listing_print.proofs.head.type_name.Goals as goal

pub returns-in-Err-clause-is : goal.returns-in-Err-clause-is
returns-in-Err-clause-is c = c.type_name-in-Err.ensures.is ∙ type_past c.args.sampletype c.in-Err.ensures
