-- `read::end_names` meets its contract. Assumes nothing.
use Rattle.std.proofs.Common.{◌≡◌, ◌+◌, ◌-◌, sym, ◌∙◌, arith}
use Rattle.read_fields.proofs.Sharing.{names_are_files}
use Rattle.read_header.proofs.Turns.{refuses, ended_none, ended_some}
use Rattle.read_header.proofs.read.end_names.Goals as goal

pub returns-then-names-eq0 : goal.returns-then-names-eq0
returns-then-names-eq0 c gs h f e =
    let a = c.args in
    refuses _ _ c.at_line.ensures.reason c.at_line.ensures.line ∙ ended_none a.list a.state.now.version gs a.bytes a.lines f (sym e ∙ c.if-names-eq0.true)

pub returns : goal.returns
returns c gs h f e =
    let a = c.args in
    let last : a.names - 1 + 1 ≡ a.names = omega arith in
    c.finish.ensures gs h (last ∙ e ∙ sym (names_are_files gs h.kept f)) ∙ ended_some a.list a.state.now.version gs a.bytes a.lines (λ z. c.if-names-eq0.false (e ∙ z))
