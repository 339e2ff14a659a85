-- The move, the text and the zeros are three runs of stores.
use Rattle.std.proofs.Common.{ℕ, ◌+◌, ◌-◌, ◌≡◌, ◌∙◌, ap, length, replicate, take, drop, length-take-le, length-drop, arith, rules}
use Rattle.std.proofs.lemmas.List.{length-replicate}
use Rattle.format.specs.Settings.{pair_text}
use Rattle.set_splice.proofs.Bridges.{put_sets}
use Rattle.set_splice.proofs.Held.{splice_done, no_zeros}
use Rattle.set_splice.proofs.splice_pair.Goals as goal

pub returns-then-end-used : goal.returns-then-end-used
returns-then-end-used c =
    let a = c.args in
    let p = c.requires in
    let text = pair_text a.pair.now.key.now a.pair.now.value.now in
    let d = c.put.new.buf in
    let end = a.edit.front + (a.used - a.edit.to) in
    let long : length d ≡ length a.buf.now = search rules in
    let n : length (take (a.used - end) (drop end d)) ≡ a.used - end = length-take-le _ _ (omega (arith, length-drop end d, long, p.used)) in
    splice_done a.buf.now text a.used a.edit.from a.edit.to a.edit.front p.from p.to p.used p.text _ d _ p.room c.slide.ensures c.put.ensures
    (put_sets d _ (replicate (a.used - end) 0) end a.used (omega (arith, c.if-end-used.true)) (omega (arith, long, p.used)) (omega (arith, length-replicate {A = ℕ} (a.used - end) 0)) (c.fill.ensures.after (λ y e. e) ∙ ap (λ m. replicate m 0) n))

pub returns-else-end-used : goal.returns-else-end-used
returns-else-end-used c =
    let a = c.args in
    let p = c.requires in
    let text = pair_text a.pair.now.key.now a.pair.now.value.now in
    let d = c.put.new.buf in
    splice_done a.buf.now text a.used a.edit.from a.edit.to a.edit.front p.from p.to p.used p.text _ d d p.room c.slide.ensures c.put.ensures
    (no_zeros a.buf.now text a.used a.edit.from a.edit.to a.edit.front p.from p.to p.used p.text c.if-end-used.false d)
