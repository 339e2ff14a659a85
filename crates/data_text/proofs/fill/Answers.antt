-- `fill` meets its contract: the bounds are those of the type, and each turn is one sample.
use Rattle.std.proofs.Common.{refl, ◌∙◌, arith}
use Rattle.std.proofs.lemmas.List.Edits.{sets}
use Rattle.format.specs.Samples.{Decoded}
use Rattle.lent_numbers.specs.Widths.{kind_by}
use Rattle.data_text.proofs.WalkLaws.{by_type}
use Rattle.data_text.proofs.fill.Goals as goal

pub read-checked-requires : goal.read-checked-requires
read-checked-requires g c = (c.args.n, omega arith)

pub returns : goal.returns
returns g c =
    let a = c.args in
    let v = g.C.Lent in
    λ x. c.read-checked.ensures.stored refl ∙ by_type (kind_by a.signed) a.w (c.of.ensures.low x) (c.of.ensures.high x) (λ (d : Decoded). v.lent (sets (v.samples a.dst.now) 0 d.seen) a.dst.now) a.n a.s.now
