-- `put_decimal` meets its contract, by the three parts.
use mathlib.Core.Path.{ap, ◌∙◌}
use mir.Syntax.{w32, w64}
use mir.Facts.{to_z-of_z}
use Rattle.format.specs.Samples.{from_signed}
use Rattle.lent_decimals.proofs.DecimalLaws.{decimal_stored}
use mir.Val.{SFits}
use borrow.Author.Rules.{rules}
use Rattle.lent_decimals.proofs.put_decimal.Goals as goal

pub returns : goal.returns
returns c =
    let f : SFits w64 c.args.x.number = search rules in
    let g : SFits w32 c.args.x.power = search rules in
    decimal_stored c.args.d.now c.args.at c.args.x (c.bits_of.ensures ∙ ap (from_signed 8) (to_z-of_z {w = w64} f))
    (c.bits_of_power.ensures ∙ ap (from_signed 4) (to_z-of_z {w = w32} g)) c.store.ensures c.store-2.ensures c.store-3.ensures
