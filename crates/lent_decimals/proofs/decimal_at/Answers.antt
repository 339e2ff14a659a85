-- `decimal_at` meets its contract, by the three parts.
use mathlib.Core.Path.{◌∙◌}
use mir.Syntax.{w32, w64}
use mir.Facts.{to_z-of_z}
use Rattle.lent_decimals.proofs.DecimalLaws.{decimal_read}
use borrow.Author.Rules.{sfits_of}
use Rattle.lent_decimals.proofs.decimal_at.Goals as goal

pub returns : goal.returns
returns c =
    decimal_read c.args.s.now c.args.at c.requires c.load.ensures (to_z-of_z {w = w64} (sfits_of c.signed_of-number.type_inv) ∙ c.signed_of-number.ensures)
    c.load-2.ensures (to_z-of_z {w = w32} (sfits_of c.power_of-power.type_inv) ∙ c.power_of-power.ensures) c.load-kind.ensures
