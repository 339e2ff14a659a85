-- `check::check` meets its contract: each arm's field is the one that it matched, and the last arm's is none of them. Assumes nothing.
use mathlib.Core.Path.{◌≡◌, ap, ◌∙◌}
use native.Mathlib.Omega.{arith}
use Rattle.format.specs.Fields.{dimension, type, encoding, endian, sizes, line_skip, byte_skip, data_file}
use Rattle.format.specs.Descriptors.{type_named, encoding_named, endian_named, no_endian, may_describe}
use Rattle.read_descriptors.proofs.Checking.{stay, other_checked}
use Rattle.read_descriptors.specs.Checked.{NoneOf, asked}
use Rattle.std.specs.Prelude.{Option}
use Rattle.read_descriptors.specs.declared.check.Said.{Said}
use Rattle.read_descriptors.proofs.check.check.Goals as goal

pub returns-in-0 : goal.returns-in-0
unfolding may_describe
returns-in-0 c d m l = let a = c.args in let e : a.f ≡ dimension = omega arith in rw e (stay _ _ a.kept.now c.check_number.ensures)

pub returns-in-1 : goal.returns-in-1
unfolding may_describe
returns-in-1 c d m l =
    let a = c.args in
    let e : a.f ≡ type = omega arith in
    rw e (stay _ _ a.kept.now (c.check_row.ensures (type_named a.t.now) 0 c.type_named.ensures))

pub returns-in-2 : goal.returns-in-2
unfolding may_describe
returns-in-2 c d m l =
    let a = c.args in
    let e : a.f ≡ encoding = omega arith in
    rw e (stay _ _ a.kept.now (c.check_row-in-2.ensures (encoding_named a.t.now) 0 c.encoding_named.ensures))

pub returns-in-3 : goal.returns-in-3
unfolding may_describe
returns-in-3 c d m l =
    let a = c.args in
    let e : a.f ≡ endian = omega arith in
    rw e (stay _ _ a.kept.now (c.check_row-in-3.ensures (endian_named a.t.now) no_endian c.endian_named.ensures))

pub returns-in-4 : goal.returns-in-4
returns-in-4 c d m l = let e : c.args.f ≡ sizes = omega arith in rw e (c.check_sizes.ensures c.args.space)

pub returns-in-5 : goal.returns-in-5
unfolding may_describe
returns-in-5 c d m l = let a = c.args in let e : a.f ≡ line_skip = omega arith in rw e (stay _ _ a.kept.now c.check_number-in-5.ensures)

pub returns-in-6 : goal.returns-in-6
unfolding may_describe
returns-in-6 c d m l = let a = c.args in let e : a.f ≡ byte_skip = omega arith in rw e (stay _ _ a.kept.now c.check_byte_skip.ensures)

pub returns-in-7 : goal.returns-in-7
unfolding may_describe
returns-in-7 c d m l =
    let a = c.args in
    let e : a.f ≡ data_file = omega arith in
    rw e (stay _ _ a.kept.now (c.check_files.ensures a.dimension a.space))

pub returns-in_default : goal.returns-in_default
returns-in_default c d m l =
    let a = c.args in
    let h : NoneOf a.f asked = grind arith in
    ap (λ (x : Option Said). (x, a.kept.now)) (c.check_orientation.ensures h d m l) ∙ other_checked a.dimension a.space a.f a.t.now a.kept.now h
