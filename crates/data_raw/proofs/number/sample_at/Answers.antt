-- `sample_at` meets its contract: the value of the number at the place.
use mir.Syntax.{w64}
use Rattle.std.proofs.Common.{◌∙◌, to_z-of_z}
use borrow.Author.Rules.{sfits_of}
use Rattle.data_raw.proofs.RawLaws.{sample_of_lem}
use Rattle.data_raw.proofs.number.sample_at.Goals as goal

pub returns : goal.returns
returns c =
    let a = c.args in
    sample_of_lem a.s.now a.at a.w c.requires.bytes_there a.signed a.big c.word-x.ensures.is (λ e.
    to_z-of_z {w = w64} (sfits_of c.value.type_inv) ∙ c.value.ensures e)
