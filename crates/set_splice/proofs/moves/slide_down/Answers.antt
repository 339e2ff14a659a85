-- Large blocks, small ones, and what is left.
use Rattle.std.proofs.Common.{◌+◌, ◌-◌, ◌≡◌, ◌≤◌, ◌∙◌, ap, take, drop, length, length-drop, arith, rules}
use Rattle.std.proofs.lemmas.List.Edits.{sets}
use Rattle.set_splice.proofs.Bridges.{paste_sets}
use Rattle.set_splice.proofs.Sets.{down_turn, down_step}
use Rattle.set_splice.proofs.moves.slide_down.Goals as goal

pub returns : goal.returns
returns c =
    let a = c.args in
    let l = c.blocks_down-large in
    let s = c.blocks_down-small in
    let d = s.new.d in
    let moved = l.result + s.result in
    let h : moved ≤ a.n = omega (arith, l.ensures.part, s.ensures.part) in
    let long : length d ≡ length a.d.now = search rules in
    let two : d ≡ sets a.d.now a.to (take moved (drop a.from a.d.now)) =
    s.ensures.moved ∙ down_turn a.d.now l.new.d a.to a.from l.result s.result c.requires.down (omega (arith, c.requires.within, l.ensures.part)) l.ensures.moved in
    let k : a.from + a.n - (a.from + moved) ≡ a.n - moved = omega arith in
    c.copy_within.ensures.after
    ∙ paste_sets d (drop (a.from + moved) d) (a.to + moved) _ (omega (arith, h, long, c.requires.down, c.requires.within)) (omega (arith, length-drop (a.from + moved) d, h, long, c.requires.within))
    ∙ ap (λ n. sets d (a.to + moved) (take n (drop (a.from + moved) d))) k
    ∙ down_step a.d.now d a.to a.from moved a.n c.requires.down (omega (arith, h, c.requires.within)) h two
