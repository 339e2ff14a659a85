-- `Array::try_from` of `write_checks::asked` meets its contract. Assumes nothing.
use Rattle.std.proofs.Common.{refl, ◌∙◌, sym}
use Rattle.write_checks.proofs.Refuse.{no_type, no_encoding, no_endian, sized_is, axes_few, type_few, encoding_few, endian_few}
use Rattle.write_checks.proofs.asked.ArrayTryFromAsked.try_from.Goals as goal

pub returns-in_default : goal.returns-in_default
returns-in_default c =
    let a = c.args.asked in
    (refl, no_type a.version a.sizes.now a.sampletype a.encoding a.endian c.in_default.ensures)

pub returns-in_default-try_from : goal.returns-in_default-try_from
returns-in_default-try_from c =
    let a = c.args.asked in
    (refl, no_encoding a.version a.sizes.now a.sampletype a.encoding a.endian c.in_default-try_from.ensures)

pub returns-in_default-try_from-2 : goal.returns-in_default-try_from-2
returns-in_default-try_from-2 c =
    let a = c.args.asked in
    (refl, no_endian a.version a.sizes.now a.sampletype a.encoding a.endian c.in_default-try_from-2.ensures)

pub returns-then-not-is_sized : goal.returns-then-not-is_sized
returns-then-not-is_sized c =
    let a = c.args.asked in
    let e = sized_is a.version a.sizes.now _ _ _ (type_few c.in-Ok.sample_type) (encoding_few c.in-Ok-try_from.encoding) (endian_few c.in-Ok-try_from-2.endian) in
    (refl, rw (c.in-Ok.ensures, c.in-Ok-try_from.ensures, c.in-Ok-try_from-2.ensures) at e ∙ sym c.is_sized.ensures ∙ c.if-not-is_sized.true)

pub invariant_of-result : goal.invariant_of-result
invariant_of-result c =
    let a = c.args.asked in
    let e = sized_is a.version a.sizes.now _ _ _ (type_few c.in-Ok.sample_type) (encoding_few c.in-Ok-try_from.encoding) (endian_few c.in-Ok-try_from-2.endian) in
    let few = axes_few _ _ _ _ _ (e ∙ sym c.is_sized.ensures ∙ c.if-not-is_sized.false) in
    record { axes_from = few.0; axes_to = few.1 }

pub returns : goal.returns
returns c =
    let a = c.args.asked in
    let e = sized_is a.version a.sizes.now _ _ _ (type_few c.in-Ok.sample_type) (encoding_few c.in-Ok-try_from.encoding) (endian_few c.in-Ok-try_from-2.endian) in (
      record { version = refl; sizes = refl; sample_type = c.in-Ok.ensures; encoding = c.in-Ok-try_from.ensures; endian = c.in-Ok-try_from-2.ensures },
      rw (c.in-Ok.ensures, c.in-Ok-try_from.ensures, c.in-Ok-try_from-2.ensures) at e ∙ sym c.is_sized.ensures ∙ c.if-not-is_sized.false,
    )
