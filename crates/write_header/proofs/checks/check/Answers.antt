-- `checks::check` meets its contract: a law of AskedLaws.antt for each return. Assumes nothing.
use Rattle.std.proofs.Common.{refl, sym, ap, ◌∙◌}
use Rattle.format.specs.Reasons.{reason_number}
use Rattle.write_checks.proofs.Refuse.{number_is}
use Rattle.write_header.proofs.AskedLaws.{shaped_known, asked_writable, asked_shaped, asked_version, asked_none}
use Rattle.write_header.proofs.checks.check.Goals as goal

pub returns-in_err-array-clause-is : goal.returns-in_err-array-clause-is
returns-in_err-array-clause-is c =
    let a = c.args.asked in
    let e = c.in_err-array.ensures in
    number_is c.from_residual.result c.in_err-array.field-0.0 c.from_residual.ensures ∙ ap reason_number e.0
    ∙ asked_writable a.version a.sizes.now a.sampletype a.encoding a.endian c.args.given.now.shape refl e.1

pub returns-then-not-is_shaped-clause-is : goal.returns-then-not-is_shaped-clause-is
returns-then-not-is_shaped-clause-is c =
    let a = c.args.asked in
    let w = c.in_ok-array.ensures.1 in
    asked_shaped a.version a.sizes.now a.sampletype a.encoding a.endian c.args.given.now.shape refl c.is_shaped.ensures w c.if-not-is_shaped.true

pub returns-then-not-is_in_version-clause-is : goal.returns-then-not-is_in_version-clause-is
returns-then-not-is_in_version-clause-is c =
    let a = c.args.asked in
    let w = c.in_ok-array.ensures.1 in
    asked_version a.version a.sizes.now a.sampletype a.encoding a.endian c.args.given.now.shape refl c.is_shaped.ensures w c.is_in_version.ensures c.if-not-is_shaped.false c.if-not-is_in_version.true

pub invariant_of-result : goal.invariant_of-result
invariant_of-result c = record { shaped = shaped_known c.args.given.now.shape (sym c.is_shaped.ensures ∙ c.if-not-is_shaped.false) }

pub returns-clause-is : goal.returns-clause-is
returns-clause-is c =
    let a = c.args.asked in
    let w = c.in_ok-array.ensures.1 in
    asked_none a.version a.sizes.now a.sampletype a.encoding a.endian c.args.given.now.shape refl c.is_shaped.ensures w c.is_in_version.ensures c.if-not-is_shaped.false c.if-not-is_in_version.false
