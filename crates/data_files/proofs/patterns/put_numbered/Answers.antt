-- `data_files::patterns::put_numbered` meets its contract: 22, or four runs that are the name.
use native.Mathlib.Omega.{arith}
use Rattle.format.specs.DataFiles.{pattern}
use Rattle.format.specs.FileNames.{pattern_name}
use Rattle.data_files.proofs.NameLaws.{name_short, name_stored, numbered_length, numbered_stored}
use Rattle.data_files.proofs.patterns.put_numbered.Goals as goal

pub returns-then-out-length : goal.returns-then-out-length
returns-then-out-length c =
    let a = c.args in
    let p = c.padding-pad in
    let d = c.decimal_length-digits in
    let name = pattern_name (pattern a.before.now a.zeros a.width a.after.now) a.value in
    let n = numbered_length a.before.now a.zeros a.width a.after.now a.value d.result p.result d.ensures.digits p.ensures in
    rw c.into.ensures (name_short name a.out.now (omega (arith, n, c.if-out-length.true)))

pub returns : goal.returns
returns c =
    let after = c.put_bytes in
    let number = c.put_decimal-end in
    let run = c.put_repeated-first in
    let byte = c.pad_byte in
    let before = c.put_bytes-from in
    let a = c.args in
    let p = c.padding-pad in
    let d = c.decimal_length-digits in
    let name = pattern_name (pattern a.before.now a.zeros a.width a.after.now) a.value in
    let n = numbered_length a.before.now a.zeros a.width a.after.now a.value d.result p.result d.ensures.digits p.ensures in
    name_stored name a.out.now _ n (omega (arith, n, c.if-out-length.false)) _
    (numbered_stored a.before.now a.zeros a.width a.after.now a.value d.result p.result d.ensures.digits p.ensures a.out.now _ _ _ _ _ _ _ _
    before.ensures.stored before.ensures.place byte.ensures run.ensures.stored run.ensures.place number.ensures.stored number.ensures.place.0 after.ensures.stored)
