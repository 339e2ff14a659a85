-- `escapes::first_meant` meets its contract.
use Rattle.std.proofs.Common.{arith}
use Rattle.read_text.proofs.Meanings.{first_plain, first_last, first_newline, first_backslash, first_other}
use Rattle.read_text.proofs.escapes.first_meant.Goals as goal

pub returns-then-b-ne92 : goal.returns-then-b-ne92
returns-then-b-ne92 c = first_plain c.args.s.now c.args.at c.requires c.if-b-ne92.true

pub returns-then-s-at-lt2 : goal.returns-then-s-at-lt2
returns-then-s-at-lt2 c = first_last c.args.s.now c.args.at c.requires c.if-b-ne92.false c.if-s-at-lt2.true

pub returns-in-110 : goal.returns-in-110
returns-in-110 c = first_newline c.args.s.now c.args.at c.requires c.if-b-ne92.false c.if-s-at-lt2.false c.in-110.is

pub returns-in-92 : goal.returns-in-92
returns-in-92 c = first_backslash c.args.s.now c.args.at c.requires c.if-b-ne92.false c.if-s-at-lt2.false c.in-92.is

pub returns-in_default : goal.returns-in_default
returns-in_default c = first_other c.args.s.now c.args.at c.requires c.if-b-ne92.false c.if-s-at-lt2.false (λ q. omega arith) (λ q. omega arith)
