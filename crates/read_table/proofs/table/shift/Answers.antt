-- The entries from k on are moved, the last one first.
use Rattle.std.proofs.Common.{◌≡◌, ◌+◌, ◌-◌, sym, ap, ◌∙◌, arith, map, take, set}
use Rattle.std.proofs.lemmas.List.Edits.{sets}
use Rattle.format.specs.Bytes.{over}
use Rattle.read_table.specs.Shifts.{moved_by, shifted}
use Rattle.read_table.proofs.Storing.{storing_put, storing_done}
use Rattle.read_table.proofs.Shifting.{entry_here, entry_turn, entries_done, shifted_same, shifted_more}
use Rattle.read_table.proofs.table.shift.Goals as goal

pub moved-requires : goal.moved-requires
moved-requires g c =
    let l = c.loop-k in
    let a = c.args in
    let e = entry_here (moved_by a.edit.to a.edit.front) (g.E.Entry.entries a.table.now) (g.E.Entry.entries l.table) a.edit.more a.count l.k l.invariant.2 c.loop-k-test.true in
    rw (c.get-x.ensures, e) (c.requires.small (l.k - 1) (omega (arith, l.invariant.1, c.loop-k-test.true)))

pub loop-k-preserved : goal.loop-k-preserved
loop-k-preserved g c =
    let l = c.loop-k in
    let a = c.args in
    let f = moved_by a.edit.to a.edit.front in
    let q = c.moved.ensures ∙ ap f c.get-x.ensures in (
      storing_put g.E.Entry.holds l.invariant.0 (a.edit.more + (l.k - 1)) c.moved.result c.put.ensures.entries c.put.ensures.cells,
      omega (arith, l.invariant.1),
      c.put.ensures.entries
          ∙ entry_turn f (g.E.Entry.entries a.table.now) (g.E.Entry.entries l.table) a.edit.more a.count l.k l.invariant.2 c.loop-k-test.true l.invariant.1 (omega (arith, c.requires.room)) _ q,
    )

pub returns-then-edit-ne0 : goal.returns-then-edit-ne0
returns-then-edit-ne0 g c =
    let l = c.loop-k in
    let a = c.args in
    let s = c.put-then-edit-ne0.ensures in
    let f = moved_by a.edit.to a.edit.front in
    let old = g.E.Entry.entries a.table.now in
    let m : a.edit.more ≡ 1 = omega (arith, c.requires.few, c.if-edit-ne0.true) in
    let e = entries_done f old (g.E.Entry.entries l.table) a.edit.more a.count l.k l.invariant.2 c.loop-k-test.false in
    storing_done g.E.Entry.holds (storing_put g.E.Entry.holds l.invariant.0 1 a.edit.from s.entries s.cells)
    (s.entries
    ∙ ap (λ r. set r 1 a.edit.from) (e ∙ ap (λ j. sets old j (map f (take a.count old))) m)
    ∙ shifted_more a.edit.from a.edit.to a.edit.front old a.count c.requires.some (omega (arith, c.requires.room))
    ∙ ap (λ j. over (shifted a.edit.from a.edit.to a.edit.front j (take a.count old)) old) (sym m))

pub returns-else-edit-ne0 : goal.returns-else-edit-ne0
returns-else-edit-ne0 g c =
    let l = c.loop-k in
    let a = c.args in
    let f = moved_by a.edit.to a.edit.front in
    let old = g.E.Entry.entries a.table.now in
    let m : a.edit.more ≡ 0 = c.if-edit-ne0.false in
    let e = entries_done f old (g.E.Entry.entries l.table) a.edit.more a.count l.k l.invariant.2 c.loop-k-test.false in
    storing_done g.E.Entry.holds l.invariant.0
    (e ∙ ap (λ j. sets old j (map f (take a.count old))) m
    ∙ shifted_same a.edit.from a.edit.to a.edit.front old a.count (omega (arith, c.requires.room))
    ∙ ap (λ j. over (shifted a.edit.from a.edit.to a.edit.front j (take a.count old)) old) (sym m))
