-- `listing_text::keys::put_keys` meets its contract: what the lines left show is left to print.
use Prim.Native.Nat.{◌-◌}
use native.Mathlib.Omega.{arith}
use mathlib.Core.Path.{ap}
use lib.ListN.{take, drop, length-take}
use Rattle.format.specs.Limits.{max_keys}
use Rattle.listing_text.specs.Shown.{pair_in, shown_texts, shown_lines, lines_from}
use Rattle.listing_print.proofs.Printing.{printing_start, printing_more, printing_done}
use Rattle.listing_text.proofs.KeyLines.{within_limit, within_starts, within_not_past, within_next, shown_next, lines_none}
use Rattle.listing_text.proofs.keys.put_keys.Goals as goal

pub loop-left-init : goal.loop-left-init
loop-left-init c =
    let a = c.args in
    (c.requires.0, printing_start a.out.now a.start (shown_lines (lines_from a.file.now 0 a.count)), omega arith)

pub line_at-requires : goal.line_at-requires
line_at-requires c = let w = c.loop-left.invariant.0 in (within_starts w (omega arith), within_limit w)

pub put_item-o-requires : goal.put_item-o-requires
put_item-o-requires c =
    let l = c.loop-left in
    let w = c.in-Some.ensures in
    (within_next l.invariant.0 (omega arith) w, simp length-take (omega (arith, l.invariant.2, w.from, w.to, w.short, w.within, c.requires)))

pub returns-in_default : goal.returns-in_default
returns-in_default c =
    let l = c.loop-left in
    absurd (within_not_past l.invariant.0 (omega arith) c.in_default.ensures)

pub loop-left-preserved : goal.loop-left-preserved
loop-left-preserved c =
    let l = c.loop-left in
    let file = c.args.file.now in
    let w = c.in-Some.ensures in
    let p = c.put_item-o.ensures in
    let ls = lines_from file c.in-Some.field-0.next (l.left - 1) in
    let u = shown_texts (pair_in (take (c.in-Some.field-0.text_end - l.at) (drop l.at file))) ls in (
      within_next l.invariant.0 (omega arith) w,
      printing_more l.invariant.1 {u = u} (shown_lines ls) (shown_next l.invariant.0 (omega arith) w) p,
      omega (arith, l.invariant.2, w.from, w.to, simp length-take at p.long),
    )

pub returns : goal.returns
unfolding shown_lines
returns c =
    let l = c.loop-left in
    printing_done l.invariant.1 max_keys (ap shown_lines (lines_none c.args.file.now l.at l.left (omega arith))) (omega (arith, l.invariant.2, within_limit l.invariant.0, l.invariant.0.inside, c.requires))
