-- `write_file::head::put_endian` meets its contract. Assumes nothing.
use Rattle.std.proofs.Common.{refl, sym, ◌∙◌, arith}
use Rattle.write_file.proofs.head.put_endian.Goals as goal

pub returns-then-needs_endian : goal.returns-then-needs_endian
returns-then-needs_endian c =
    let p = c.put_line.ensures in
    let e = c.endian_name.ensures in
    rw (sym c.needs_endian.ensures ∙ c.if-needs_endian.true) (record { place = rw e.is at p.place; stored = rw e.is at p.stored; long = omega (arith, p.long, e.short) })

pub returns-else-needs_endian : goal.returns-else-needs_endian
returns-else-needs_endian c =
    rw (sym c.needs_endian.ensures ∙ c.if-needs_endian.false) (record { place = omega arith; stored = refl; long = omega arith })
