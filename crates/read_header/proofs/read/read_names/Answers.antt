-- `read::read_names` meets its contract: the answer from the line at `at` on, after the names before it, is the whole answer.
use Rattle.std.proofs.Common.{sym, ◌∙◌, arith}
use Rattle.read_header.proofs.Turns.{refuses, reached, naming_start, naming_end, naming_past, naming_many, naming_closes, naming_bad, naming_next}
use Rattle.read_header.proofs.read.read_names.Goals as goal

pub loop-at-init : goal.loop-at-init
loop-at-init c = naming_start c.args.file.now c.args.state.now.version c.args.list c.args.from c.requires.0 c.requires.1 c.requires.3

pub returns-in_default : goal.returns-in_default
returns-in_default c gs p f z = refuses _ _ c.at_line.ensures.reason c.at_line.ensures.line ∙ naming_past c.loop-at.invariant p f z c.in_default.ensures

pub returns-then-n-gt-MAX_LINES : goal.returns-then-n-gt-MAX_LINES
returns-then-n-gt-MAX_LINES c gs p f z =
    let r = c.at_line-then-n-gt-MAX_LINES in
    refuses _ _ r.ensures.reason r.ensures.line ∙ naming_many c.loop-at.invariant p f z c.in-Some.ensures c.if-n-gt-MAX_LINES.true

pub returns-then-at-text_end : goal.returns-then-at-text_end
returns-then-at-text_end c gs p f z =
    let g = c.loop-at.invariant in
    let x = reached g p f z in
    c.end_names.ensures x.gs x.holds x.follow x.many ∙ naming_closes g p f z c.in-Some.ensures c.if-n-gt-MAX_LINES.false c.if-at-text_end.true

pub returns-then-not-is_plain : goal.returns-then-not-is_plain
returns-then-not-is_plain c gs p f z =
    let r = c.at_line-then-not-is_plain in
    refuses _ _ r.ensures.reason r.ensures.line
    ∙ naming_bad c.loop-at.invariant p f z c.in-Some.ensures c.if-n-gt-MAX_LINES.false c.if-at-text_end.false (sym c.is_plain.ensures ∙ c.if-not-is_plain.true)

pub loop-at-preserved : goal.loop-at-preserved
loop-at-preserved c = naming_next c.loop-at.invariant c.in-Some.ensures c.if-n-gt-MAX_LINES.false c.if-at-text_end.false (sym c.is_plain.ensures ∙ c.if-not-is_plain.false)

pub returns : goal.returns
returns c gs p f z =
    let g = c.loop-at.invariant in
    let x = reached g p f z in
    c.end_names-2.ensures x.gs x.holds x.follow x.many ∙ naming_end g p f z c.loop-at-test.false
