-- `check` meets its contract, by the encoding.
use Rattle.lent_numbers.proofs.WidthLaws.{is_width_lem, enough_is, told_is}
use Rattle.data_samples.proofs.Parts.{of_raw, of_text, of_hex}
use Rattle.data_samples.proofs.data.Data.check.Goals as goal

pub returns-in-Raw : goal.returns-in-Raw
returns-in-Raw c =
    let d = c.args.self.now in
    let e = c.in-Raw.is in
    rw (← of_raw d e) (told_is c.check.ensures (enough_is _ _ _ (is_width_lem _ d.is_width) (d.enough e)))

pub returns-in-Text : goal.returns-in-Text
returns-in-Text c =
    let d = c.args.self.now in
    rw (← of_text d c.in-Text.is) (c.check-in-Text.ensures (is_width_lem _ d.is_width))

pub returns-in-Hex : goal.returns-in-Hex
returns-in-Hex c =
    let d = c.args.self.now in
    rw (← of_hex d c.in-Hex.is) (told_is c.check-in-Hex.ensures d.is_width)
