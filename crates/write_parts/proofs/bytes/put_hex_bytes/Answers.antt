-- `write_parts::bytes::put_hex_bytes` meets its contract: `Putting` of Runs.antt. Assumes nothing.
use Prim.Native.Nat.{◌+◌, ◌*◌, ◌/◌, ◌%◌}
use mathlib.Core.Path.{◌≡◌, refl}
use mathlib.Core.List.{[], ◌∷◌}
use native.Mathlib.Omega.{arith}
use lib.ListN.{get_or, drop, length-set}
use Rattle.format.specs.Writer.{hex_letter, hex_of_byte, hex_text}
use Rattle.write_parts.proofs.Runs.{putting_none, putting_room, putting_more, putting_done, putting_end, set_then}
use Rattle.format.proofs.Writer.{hex_length}
use Rattle.write_parts.proofs.HexLaws.{hex_next, hex_over}
use Rattle.write_parts.proofs.bytes.put_hex_bytes.Goals as goal

pub loop-i-init : goal.loop-i-init
loop-i-init c =
    let a = c.args in
    let z : a.at + 0 ≡ a.at = omega arith in
    rw z (putting_none (hex_text a.s.now) a.out.now a.at (hex_text a.s.now) refl)

pub hex_letter-requires : goal.hex_letter-requires
hex_letter-requires c = omega (arith, c.type_inv.s c.loop-i.i)

pub bounds-out-o : goal.bounds-out-o
bounds-out-o c =
    let s = c.args.s.now in
    let l = c.loop-i in
    omega (arith, c.requires, l.invariant.long, putting_room l.invariant (hex_of_byte (get_or s l.i 0)) (hex_text (drop (l.i + 1) s)) (hex_next s l.i c.loop-i-test.true), hex_length s)

pub overflow_add-out : goal.overflow_add-out
overflow_add-out c =
    let s = c.args.s.now in
    let l = c.loop-i in
    omega (arith, c.requires, putting_room l.invariant (hex_of_byte (get_or s l.i 0)) (hex_text (drop (l.i + 1) s)) (hex_next s l.i c.loop-i-test.true), hex_length s)

pub bounds-out-o-in-loop-i : goal.bounds-out-o-in-loop-i
bounds-out-o-in-loop-i c =
    let s = c.args.s.now in
    let l = c.loop-i in
    simp length-set (omega (arith, c.requires, l.invariant.long, putting_room l.invariant (hex_of_byte (get_or s l.i 0)) (hex_text (drop (l.i + 1) s)) (hex_next s l.i c.loop-i-test.true), hex_length s))

pub overflow_add-o : goal.overflow_add-o
overflow_add-o c =
    let s = c.args.s.now in
    let l = c.loop-i in
    omega (arith, c.requires, putting_room l.invariant (hex_of_byte (get_or s l.i 0)) (hex_text (drop (l.i + 1) s)) (hex_next s l.i c.loop-i-test.true), hex_length s)

pub loop-i-preserved : goal.loop-i-preserved
loop-i-preserved c =
    let s = c.args.s.now in
    let l = c.loop-i in
    let b = get_or s l.i 0 in
    putting_more l.invariant (hex_of_byte b) (hex_text (drop (l.i + 1) s)) (hex_next s l.i c.loop-i-test.true) _ _
    (rw (c.hex_letter.ensures, c.hex_letter-in-loop-i.ensures) (set_then l.out (hex_letter (b % 16) ∷ []) (c.args.at + 2 * l.i) (hex_letter (b / 16)))) (omega arith)

pub shape_of-out : goal.shape_of-out
shape_of-out c = c.loop-i.invariant.long

pub returns : goal.returns
returns c =
    let s = c.args.s.now in
    let l = c.loop-i in
    let e = hex_over s l.i c.loop-i-test.false in
    (record { place = omega (arith, putting_end l.invariant e, hex_length s); stored = putting_done l.invariant e })
