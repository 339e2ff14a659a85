-- `place::said_of` meets its contract: the reading's refusal, or what the look-up finds.
use native.Mathlib.Omega.{arith}
use mathlib.Core.Path.{refl}
use Rattle.std.proofs.lemmas.Result.{err_from_is_err_and}
use Rattle.read_header.proofs.Accepted.{was_not_read}
use Rattle.read_lookup.proofs.Finding.{before_lines_of}
use Rattle.read_orientation.proofs.PlaceLaws.{told_absent, told_within, told_there}
use Rattle.read_orientation.proofs.place.said_of.Goals as goal

pub returns-in_err-reading : goal.returns-in_err-reading
returns-in_err-reading c =
    let e = c.in_err-reading in
    let h = err_from_is_err_and c.from_residual.result c.from_residual.ensures.1 in
    rw (h.1, h.2) (was_not_read c.args.file.now e.field-0.0 e.ensures)

pub find_descriptor_in-requires : goal.find_descriptor_in-requires
find_descriptor_in-requires c = before_lines_of _ c.in_ok-reading.ensures

pub returns-in_default : goal.returns-in_default
returns-in_default c = told_absent c.args.file.now c.args.field c.in_ok-reading.ensures _ c.in_default.ensures refl

pub overflow_add-to : goal.overflow_add-to
overflow_add-to c = omega (arith, told_within c.args.file.now c.args.field c.in_ok-reading.ensures _ c.in-Some.ensures refl)

pub returns : goal.returns
returns c = told_there c.args.file.now c.args.field c.in_ok-reading.ensures _ c.in-Some.ensures refl
