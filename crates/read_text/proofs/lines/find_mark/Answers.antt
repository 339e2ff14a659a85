-- `lines::find_mark` meets its contract.
use Rattle.std.proofs.Common.{arith, sym, ◌∙◌, ◌≡◌, ◌+◌, ◌-◌, drop}
use Rattle.format.specs.Pairs.{mark}
use Rattle.read_text.proofs.Places.{mark_from, mark_from_start, mark_none, mark_field, mark_pair, mark_on, mark_past}
use Rattle.read_text.proofs.lines.find_mark.Goals.{then-s-i-eq58+else-s-i-eq32+else-s-i-eq61, else-s-i-eq58}
use Rattle.read_text.proofs.lines.find_mark.Goals as goal

pub loop-i-init : goal.loop-i-init
loop-i-init c = (omega arith, mark_from_start (mark c.args.s.now))

pub returns-then-s-i : goal.returns-then-s-i
returns-then-s-i c =
    let l = c.loop-i in
    sym (l.invariant.1 ∙ mark_none c.args.s.now (l.i - 1) (omega arith))

pub returns-then-s-i-eq32 : goal.returns-then-s-i-eq32
returns-then-s-i-eq32 c =
    let l = c.loop-i in
    sym (l.invariant.1 ∙ mark_field c.args.s.now l.i (omega arith) (omega arith) c.if-s-i-eq58.true c.if-s-i-eq32.true)

pub returns-then-s-i-eq61 : goal.returns-then-s-i-eq61
returns-then-s-i-eq61 c =
    let l = c.loop-i in
    sym (l.invariant.1 ∙ mark_pair c.args.s.now l.i (omega arith) (omega arith) c.if-s-i-eq58.true c.if-s-i-eq61.true)

pub loop-i-preserved : goal.loop-i-preserved
loop-i-preserved c =
    let l = c.loop-i in
    let s = c.args.s.now in
    let e : l.i + 1 - 1 ≡ l.i = omega arith in
    let on : mark_from (l.i - 1) (mark (drop (l.i - 1) s)) ≡ mark_from l.i (mark (drop l.i s)) = elim c.if-s-i-eq58.branch [
      | then-s-i-eq58+else-s-i-eq32+else-s-i-eq61 w ↦
          mark_past s l.i (omega arith) (omega arith) w.if-s-i-eq58.true w.if-s-i-eq32.false w.if-s-i-eq61.false
      | else-s-i-eq58 w ↦ mark_on s l.i (omega arith) (omega arith) w.if-s-i-eq58.false
    ] in (omega arith, rw e (l.invariant.1 ∙ on))
