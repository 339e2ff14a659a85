-- `write_lent` meets its contract. Assumes nothing.
use Rattle.std.proofs.Common.{sym, ap, ◌∙◌, refl}
use Rattle.format.specs.Reasons.{refusal_of}
use Rattle.write_header.proofs.LentLaws.{is_none, is_some, lent_none, lent_other, lent_whole}
use Rattle.write_header.proofs.write_lent.Goals as goal

pub returns-then-is_empty : goal.returns-then-is_empty
returns-then-is_empty c =
    let a = c.args.asked in
    let s = c.args.orientation.now in
    c.write_given.ensures ∙ sym (lent_none a.version a.sizes.now a.sampletype a.encoding a.endian s c.args.out.now (is_none s (sym c.is_empty.ensures ∙ c.if-is_empty.true)))

pub returns-then-orientation-eq-WIDTH : goal.returns-then-orientation-eq-WIDTH
returns-then-orientation-eq-WIDTH c =
    let a = c.args.asked in
    let s = c.args.orientation.now in
    rw c.read_given.ensures at c.write_given-then-orientation-eq-WIDTH.ensures
    ∙ lent_whole a.version a.sizes.now a.sampletype a.encoding a.endian s c.args.out.now (is_some s (sym c.is_empty.ensures ∙ c.if-is_empty.false)) c.if-orientation-eq-WIDTH.true refl refl refl refl

pub returns-else-orientation-eq-WIDTH : goal.returns-else-orientation-eq-WIDTH
returns-else-orientation-eq-WIDTH c =
    let a = c.args.asked in
    let s = c.args.orientation.now in
    ap (λ r. (record { refusal = refusal_of r; length = 0 }, c.args.out.now)) c.into.ensures
    ∙ lent_other a.version a.sizes.now a.sampletype a.encoding a.endian s c.args.out.now (is_some s (sym c.is_empty.ensures ∙ c.if-is_empty.false)) c.if-orientation-eq-WIDTH.false
