-- Large blocks, small ones, and what is left.
use Rattle.std.proofs.Common.{◌+◌, ◌-◌, ◌≡◌, ◌≤◌, ◌∙◌, ap, take, drop, length, length-drop, arith, rules}
use Rattle.std.proofs.lemmas.List.Edits.{sets}
use Rattle.set_splice.proofs.Bridges.{paste_sets}
use Rattle.set_splice.proofs.Sets.{up_step, up_last}
use Rattle.set_splice.proofs.moves.slide_up.Goals as goal

pub returns : goal.returns
returns c =
    let a = c.args in
    let l = c.blocks_up-large in
    let s = c.blocks_up-left in
    let d = s.new.d in
    let k = s.result in
    let h : k ≤ a.n = omega (arith, l.ensures.part, s.ensures.part) in
    let long : length d ≡ length a.d.now = search rules in
    let two : d ≡ sets a.d.now (a.to + k) (take (a.n - k) (drop (a.from + k) a.d.now)) =
    s.ensures.moved ∙ up_step a.d.now l.new.d a.to a.from a.n l.result k c.requires.up (omega (arith, c.requires.up, c.requires.within)) s.ensures.part l.ensures.part l.ensures.moved in
    let n : a.from + k - a.from ≡ k = omega arith in
    c.copy_within.ensures.after
    ∙ paste_sets d (drop a.from d) a.to _ (omega (arith, h, long, c.requires.within)) (omega (arith, length-drop a.from d, h, long, c.requires.up, c.requires.within))
    ∙ ap (λ m. sets d a.to (take m (drop a.from d))) n
    ∙ up_last a.d.now d a.to a.from a.n k c.requires.up (omega (arith, c.requires.up, c.requires.within)) h two
