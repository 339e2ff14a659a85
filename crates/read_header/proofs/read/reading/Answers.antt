-- `read_header::read::reading` meets its contract, by the laws of line 1.
use Rattle.std.proofs.Common.{sym, ◌∙◌}
use borrow.Author.Tests.{eqb-true}
use Rattle.read_header.proofs.Turns.{refuses, refuses_file}
use Rattle.read_header.proofs.FirstLine.{read_long, read_none, read_past, read_unended, read_other, read_on}
use Rattle.read_header.proofs.read.reading.Goals as goal

pub returns-then-file-gt-MAX_FILE : goal.returns-then-file-gt-MAX_FILE
returns-then-file-gt-MAX_FILE c = refuses_file _ c.into.ensures ∙ read_long c.args.file.now c.if-file-gt-MAX_FILE.true

pub returns-then-is_empty : goal.returns-then-is_empty
returns-then-is_empty c =
    refuses _ _ c.at_line-no_magic.ensures.reason c.at_line-no_magic.ensures.line ∙ read_none c.args.file.now c.if-file-gt-MAX_FILE.false (eqb-true _ 0 (sym c.is_empty.ensures ∙ c.if-is_empty.true))

pub returns-in_default : goal.returns-in_default
returns-in_default c =
    refuses _ _ c.at_line-no_magic.ensures.reason c.at_line-no_magic.ensures.line ∙ read_past c.args.file.now c.if-file-gt-MAX_FILE.false c.in_default.ensures

pub returns-then-text_end-next : goal.returns-then-text_end-next
returns-then-text_end-next c =
    refuses _ _ c.at_line-no_magic.ensures.reason c.at_line-no_magic.ensures.line ∙ read_unended c.args.file.now c.if-file-gt-MAX_FILE.false c.in-Some.ensures c.if-text_end-next.true

pub returns-in_default-magic_version : goal.returns-in_default-magic_version
returns-in_default-magic_version c =
    refuses _ _ c.at_line-no_magic.ensures.reason c.at_line-no_magic.ensures.line ∙ read_other c.args.file.now c.if-file-gt-MAX_FILE.false c.in-Some.ensures c.if-text_end-next.false (sym c.in_default-magic_version.is ∙ c.magic_version.ensures)

pub returns : goal.returns
returns c =
    c.read_lines.ensures ∙ read_on c.args.file.now c.if-file-gt-MAX_FILE.false c.in-Some.ensures c.if-text_end-next.false _ (sym c.in-Some-magic_version.is ∙ c.magic_version.ensures)
