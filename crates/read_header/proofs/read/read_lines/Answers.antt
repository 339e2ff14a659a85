-- `read_header::read::read_lines` meets its contract: the answer from the line at `at` on is the whole answer.
use Rattle.std.proofs.Common.{sym, ◌∙◌}
use Rattle.read_header.proofs.Turns.{refuses, refuses_file, going_start, going_end, going_no_end, going_past, going_many, going_wrong, going_closes, going_closed, going_list, going_next}
use Rattle.read_header.proofs.read.read_lines.Goals as goal

pub loop-at-init : goal.loop-at-init
loop-at-init c = going_start c.args.file.now c.args.version c.args.from c.new-state.ensures c.requires.0 c.requires.1

pub returns-in_default : goal.returns-in_default
returns-in_default c = refuses _ _ c.at_line.ensures.reason c.at_line.ensures.line ∙ going_past c.loop-at.invariant c.in_default.ensures

pub returns-then-n-gt-MAX_LINES : goal.returns-then-n-gt-MAX_LINES
returns-then-n-gt-MAX_LINES c =
    let r = c.at_line-then-n-gt-MAX_LINES in
    refuses _ _ r.ensures.reason r.ensures.line ∙ going_many c.loop-at.invariant c.in-Some.ensures c.if-n-gt-MAX_LINES.true

pub returns-in-Err : goal.returns-in-Err
returns-in-Err c =
    let r = c.at_line-in-Err in
    refuses _ _ r.ensures.reason r.ensures.line ∙ going_wrong c.loop-at.invariant c.in-Some.ensures c.if-n-gt-MAX_LINES.false _ _ c.in-Err.ensures

pub returns-then-closes : goal.returns-then-closes
returns-then-closes c =
    let g = c.loop-at.invariant in
    let l = c.in-Some.ensures in
    let few = c.if-n-gt-MAX_LINES.false in
    let shut = sym c.closes.ensures ∙ c.if-closes.true in
    let h = going_closed g l few _ c.in-Ok.step c.in-Ok.ensures shut in
    going_closes g l few _ c.in-Ok.step c.in-Ok.ensures shut (c.finish.ensures g.gs h (c.last_file.ensures g.gs h g.no_names))

pub read_names-requires : goal.read_names-requires
read_names-requires c =
    let l = c.in-Some.ensures in
    (l.within, l.short, c.loop-at.invariant.low, c.if-n-gt-MAX_LINES.false)

pub returns-then-lists : goal.returns-then-lists
returns-then-lists c =
    going_list c.loop-at.invariant c.in-Some.ensures c.if-n-gt-MAX_LINES.false _ c.in-Ok.step c.in-Ok.ensures (sym c.closes.ensures ∙ c.if-closes.false) c.keep.ensures
    (sym c.lists.ensures ∙ c.if-lists.true) c.read_names.ensures

pub loop-at-preserved : goal.loop-at-preserved
loop-at-preserved c =
    going_next c.loop-at.invariant c.in-Some.ensures c.if-n-gt-MAX_LINES.false _ c.in-Ok.step c.in-Ok.ensures (sym c.closes.ensures ∙ c.if-closes.false) c.keep.ensures
    (sym c.lists.ensures ∙ c.if-lists.false)

pub returns-then-is_detached : goal.returns-then-is_detached
returns-then-is_detached c =
    let g = c.loop-at.invariant in
    let last = c.last_file-then-is_detached.ensures g.gs g.holds g.no_names in
    going_end g c.loop-at-test.false (c.is_detached.ensures g.gs g.holds) c.if-is_detached.true (c.finish-then-is_detached.ensures g.gs g.holds last)

pub returns : goal.returns
returns c =
    let g = c.loop-at.invariant in
    refuses_file _ c.into.ensures ∙ going_no_end g c.loop-at-test.false (c.is_detached.ensures g.gs g.holds) c.if-is_detached.false
