-- `write_file::write` meets its contract. Assumes nothing.
use Rattle.std.proofs.Common.{◌∙◌, ap}
use Rattle.theorem_room.proofs.Enough.{write_answered}
use Rattle.write_file.proofs.write.Goals as goal

pub returns : goal.returns
returns c =
    let a = c.args in
    let e = ap (λ x. (x, c.write_samples.new.out)) c.into.ensures ∙ c.write_samples.ensures in
    record { call = e; enough = write_answered a.version a.sizes.now a.sampletype a.encoding a.endian a.samples.now a.out.now e }
