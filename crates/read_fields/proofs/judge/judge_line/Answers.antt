-- `judge::judge_line` meets its contract: each answer is what the line is by its text.
use Rattle.std.proofs.Common.{sym, ◌∙◌}
use Rattle.read_text.proofs.Places.{kind_told}
use Rattle.read_fields.proofs.Judging.{line_is, err_step, pair_line, unmarked_line}
use Rattle.read_fields.proofs.States.{reason_some}
use Rattle.read_fields.proofs.judge.judge_line.Goals as goal

pub on_field-requires : goal.on_field-requires
on_field-requires c = (kind_told c.args.t.now (sym c.in-Field.is ∙ c.kind_of.ensures)).1

pub on_pair_line-requires : goal.on_pair_line-requires
on_pair_line-requires c = (kind_told c.args.t.now (sym c.in-Pair.is ∙ c.kind_of.ensures)).1

pub returns-in-Empty : goal.returns-in-Empty
returns-in-Empty c gs h l =
    let a = c.args in
    line_is a.state.now.version gs a.t.now a.state.now h.no_names (kind_told a.t.now (sym c.in-Empty.is ∙ c.kind_of.ensures))

pub returns-in-Comment : goal.returns-in-Comment
returns-in-Comment c gs h l =
    let a = c.args in
    line_is a.state.now.version gs a.t.now a.state.now h.no_names (kind_told a.t.now (sym c.in-Comment.is ∙ c.kind_of.ensures))

pub returns-in-Field : goal.returns-in-Field
returns-in-Field c gs h l =
    let a = c.args in
    let k = kind_told a.t.now (sym c.in-Field.is ∙ c.kind_of.ensures) in
    c.on_field.ensures gs h l ∙ line_is a.state.now.version gs a.t.now a.state.now h.no_names k.0

pub returns-in_err-on_pair_line-in-Pair : goal.returns-in_err-on_pair_line-in-Pair
returns-in_err-on_pair_line-in-Pair c gs h l =
    let a = c.args in
    let s = a.state.now in
    let x = c.in_err-on_pair_line-in-Pair in
    err_step s c.from_residual.result x.field-0.0 c.from_residual.ensures.1 ∙ rw (reason_some x.field-0.0) at (pair_line s.version gs a.t.now s _ _ x.ensures)
    ∙ line_is s.version gs a.t.now s h.no_names (kind_told a.t.now (sym c.in-Pair.is ∙ c.kind_of.ensures)).0

pub returns-in_ok-on_pair_line-in-Pair : goal.returns-in_ok-on_pair_line-in-Pair
returns-in_ok-on_pair_line-in-Pair c gs h l =
    let a = c.args in
    let s = a.state.now in
    pair_line s.version gs a.t.now s _ _ c.in_ok-on_pair_line-in-Pair.ensures ∙ line_is s.version gs a.t.now s h.no_names (kind_told a.t.now (sym c.in-Pair.is ∙ c.kind_of.ensures)).0

pub returns-in_err-plain_first-in-Neither : goal.returns-in_err-plain_first-in-Neither
returns-in_err-plain_first-in-Neither c gs h l =
    let a = c.args in
    let s = a.state.now in
    let x = c.in_err-plain_first-in-Neither in
    let r = c.from_residual-in_err-plain_first-in-Neither in
    err_step s r.result x.field-0.0 r.ensures.1 ∙ rw (reason_some x.field-0.0) at (unmarked_line s.version gs a.t.now s x.ensures)
    ∙ line_is s.version gs a.t.now s h.no_names (kind_told a.t.now (sym c.in-Neither.is ∙ c.kind_of.ensures))

pub returns-in_ok-plain_first-in-Neither : goal.returns-in_ok-plain_first-in-Neither
returns-in_ok-plain_first-in-Neither c gs h l =
    let a = c.args in
    let s = a.state.now in
    unmarked_line s.version gs a.t.now s c.in_ok-plain_first-in-Neither.ensures ∙ line_is s.version gs a.t.now s h.no_names (kind_told a.t.now (sym c.in-Neither.is ∙ c.kind_of.ensures))
