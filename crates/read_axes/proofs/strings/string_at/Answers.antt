-- `strings::string_at` meets its contract.
use Rattle.std.proofs.Common.{arith, sym, ◌∙◌}
use Rattle.read_axes.proofs.StringLaws.{strings_other, strings_open, strings_beside, strings_first}
use Rattle.read_axes.proofs.strings.string_at.Goals as goal

pub returns-then-t-at-ne34 : goal.returns-then-t-at-ne34
returns-then-t-at-ne34 c = strings_other c.args.t.now c.args.at c.requires.0 c.requires.1 c.if-t-at-ne34.true

pub returns-then-end-t : goal.returns-then-end-t
returns-then-end-t c =
    let a = c.args in
    let n = c.text_length-n in
    strings_open a.t.now a.at c.requires.0 c.requires.1 c.if-t-at-ne34.false n.result n.ensures.0 c.if-end-t.true

pub returns-then-not-is_blank_or_end : goal.returns-then-not-is_blank_or_end
returns-then-not-is_blank_or_end c =
    let a = c.args in
    let n = c.text_length-n in
    strings_beside a.t.now a.at c.requires.0 c.requires.1 c.if-t-at-ne34.false n.result n.ensures.0 c.if-end-t.false (omega arith)
    (sym c.is_blank_or_end.ensures ∙ c.if-not-is_blank_or_end.true)

pub returns : goal.returns
returns c =
    let a = c.args in
    let n = c.text_length-n in
    strings_first a.t.now a.at c.requires.0 c.requires.1 c.if-t-at-ne34.false n.result n.ensures.0 c.if-end-t.false (omega arith)
    (sym c.is_blank_or_end.ensures ∙ c.if-not-is_blank_or_end.false)
