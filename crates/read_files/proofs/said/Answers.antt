-- `read_files::said` meets its contract.
use mathlib.Core.Path.{sym, ◌∙◌}
use Rattle.read_files.proofs.WordLaws.{list_long}
use Rattle.read_files.proofs.SaidLaws.{said_list, said_pattern, said_name}
use Rattle.read_files.proofs.said.Goals as goal

pub list_said-requires : goal.list_said-requires
list_said-requires c = list_long c.args.t.now (sym c.is_list.ensures ∙ c.if-is_list.true)

pub returns-then-is_list : goal.returns-then-is_list
returns-then-is_list c =
    said_list c.args.t.now c.list_said.result (sym c.is_list.ensures ∙ c.if-is_list.true) c.list_said.ensures

pub returns-then-has_percent : goal.returns-then-has_percent
returns-then-has_percent c =
    let no_list = sym c.is_list.ensures ∙ c.if-is_list.false in
    said_pattern c.args.t.now no_list c.pattern_said-p.result (sym c.has_percent.ensures ∙ c.if-has_percent.true) c.pattern_said-p.ensures

pub returns : goal.returns
returns c =
    let no_list = sym c.is_list.ensures ∙ c.if-is_list.false in
    said_name c.args.t.now no_list (sym c.has_percent.ensures ∙ c.if-has_percent.false)
