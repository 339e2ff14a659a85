-- `sweep` meets its contract: nothing is stored where there is no offset, and the rows are looked at once the samples are stored.
use Rattle.std.proofs.Common.{ap, ◌∙◌, arith}
use Rattle.format.specs.declared.ReadAnswer.{ReadAnswer}
use Rattle.roof_sweep.proofs.OffsetLaws.{none_found, some_found}
use Rattle.roof_sweep.proofs.RowLaws.{offset_step}
use Rattle.roof_sweep.proofs.Ways.{lent_none, lent_refused, lent_rows, lent_found}
use Rattle.roof_sweep.proofs.sweep.Goals as goal

pub offset_for-requires : goal.offset_for-requires
offset_for-requires g c = ap (λ (x : ReadAnswer). x.reading) c.read_header.ensures

pub returns-in-None : goal.returns-in-None
returns-in-None g c =
    let a = c.args in
    let m = g.met.C in
    let k = c.check_samples in
    (λ i. (c.refuse_sweep.ensures i, a.list.now))
    ∙ lent_none m.Lent.views m.Stamped.kept a.file.now a.list.now a.largest c.entries-room.ensures.sound (none_found _ c.in-None.ensures) k.result (rw c.entries-room.ensures.count at k.ensures)

pub returns-then-filled-ne0 : goal.returns-then-filled-ne0
returns-then-filled-ne0 g c =
    let a = c.args in
    let m = g.met.C in
    let k = c.samples-filled in
    (λ i. (c.refuse.ensures i, k.new.list)) ∙ lent_refused m.Lent.views m.Stamped.kept a.file.now a.list.now a.largest k.result k.new.list k.ensures.call c.if-filled-ne0.true

pub overflow_cast-largest : goal.overflow_cast-largest
overflow_cast-largest g c = record { fits = omega (arith, offset_step c.args.file.now c.args.largest (some_found _ _ c.in-Some.ensures)) }

pub found-requires : goal.found-requires
found-requires g c =
    let a = c.args in
    let m = g.met.C in
    let k = c.samples-filled in
    lent_rows m.Lent.views m.Stamped.kept a.file.now a.list.now a.largest k.result k.new.list k.ensures.call c.if-filled-ne0.false (some_found _ _ c.in-Some.ensures) _ (ap (λ (x : ReadAnswer). x.reading) c.read_header.ensures)

pub returns-else-filled-ne0 : goal.returns-else-filled-ne0
returns-else-filled-ne0 g c =
    let a = c.args in
    let m = g.met.C in
    let k = c.samples-filled in
    lent_found m.Lent.views m.Stamped.kept a.file.now a.list.now a.largest k.result k.new.list k.ensures.call c.if-filled-ne0.false (some_found _ _ c.in-Some.ensures) _ (ap (λ (x : ReadAnswer). x.reading) c.read_header.ensures) c.found.ensures
