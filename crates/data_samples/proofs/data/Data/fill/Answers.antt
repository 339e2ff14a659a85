-- `fill` meets its contract, by the encoding.
use Rattle.std.proofs.Common.{ap, ◌∙◌, arith}
use Rattle.lent_numbers.proofs.WidthLaws.{is_width_lem}
use Rattle.lent_numbers.proofs.Stores.{sets_over}
use Rattle.data_samples.proofs.Parts.{of_raw, of_text, of_hex, as_many}
use Rattle.data_samples.proofs.data.Data.fill.Goals as goal

pub returns-in-Raw : goal.returns-in-Raw
returns-in-Raw g c =
    let d = c.args.self.now in
    let r = c.requires in
    let q = of_raw d c.in-Raw.is in
    let z = r.none_refused in
    rw (← q) (c.fill.ensures.fills (is_width_lem _ d.is_width) (d.enough c.in-Raw.is) r.room (ap (λ x. x.number) q ∙ z)
    ∙ g.met.C.Lent.views.front _ c.args.list.now r.sound (rw q (omega (arith, as_many d z, r.room))))

pub returns-in-Text : goal.returns-in-Text
returns-in-Text g c =
    let d = c.args.self.now in
    let r = c.requires in
    let v = g.C.Lent in
    let l = c.args.list.now in
    let q = of_text d c.in-Text.is in
    rw (← q) (c.fill-in-Text.ensures (is_width_lem _ d.is_width)
    ∙ ap (λ zs. v.lent zs l) (sets_over _ (v.samples l) (rw q (omega (arith, as_many d r.none_refused, r.room, g.met.C.Lent.views.count l)))))

pub returns-in-Hex : goal.returns-in-Hex
returns-in-Hex g c =
    let d = c.args.self.now in
    let r = c.requires in
    let q = of_hex d c.in-Hex.is in
    let z = r.none_refused in
    rw (← q) (c.fill-in-Hex.ensures.fills (is_width_lem _ d.is_width) r.room (ap (λ x. x.number) q ∙ z)
    ∙ g.met.C.Lent.views.front _ c.args.list.now r.sound (rw q (omega (arith, as_many d z, r.room))))
