-- The counts, the room, then the entries.
use Rattle.std.proofs.Common.{◌≡◌, sym, ◌∙◌, ap, true, false, nat_le, length}
use borrow.Author.Tests.{eqb-true, leb-true, leb-false}
use Rattle.read_table.proofs.Matching.{fine_count, fine_short, fine_same}
use Rattle.read_table.proofs.table.is_table.Goals as goal
use Rattle.read_table.proofs.table.is_table.Goals.{then-count-lines, else-count-lines}

pub returns-then-count : goal.returns-then-count
returns-then-count g c =
    let a = c.args in
    let es = g.E.Entry.entries a.table.now in
    elim c.if-count-lines.branch [
      | then-count-lines w ↦
          let h : nat_le a.count (length es) ≡ true = sym (ap (nat_le a.count) w.count.ensures) ∙ sym w.value-is ∙ c.if-count.true in
          c.starts_match.ensures ∙ fine_same a.file.now es a.lines a.count c.requires w.if-count-lines.true (leb-true _ _ h)
      | else-count-lines w ↦ absurd (w.if-count-lines.false (eqb-true _ _ (sym w.value-is ∙ c.if-count.true)))
    ]

pub returns-else-count : goal.returns-else-count
returns-else-count g c =
    let a = c.args in
    let es = g.E.Entry.entries a.table.now in
    elim c.if-count-lines.branch [
      | then-count-lines w ↦
          let h : nat_le a.count (length es) ≡ false = sym (ap (nat_le a.count) w.count.ensures) ∙ sym w.value-is ∙ c.if-count.false in
          c.if-count.false ∙ fine_short a.file.now es a.lines a.count c.requires w.if-count-lines.true (leb-false _ _ h)
      | else-count-lines w ↦ c.if-count.false ∙ fine_count a.file.now es a.lines a.count c.requires w.if-count-lines.false
    ]
