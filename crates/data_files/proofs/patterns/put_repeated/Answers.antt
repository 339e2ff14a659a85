-- `data_files::patterns::put_repeated` meets its contract: the bytes at the place, each of them b.
use Prim.Native.Nat.{ℕ, ◌+◌, ◌-◌}
use native.Mathlib.Omega.{arith}
use mathlib.Core.Path.{◌≡◌, sym, ap, ◌∙◌}
use lib.ListN.{length, replicate, take, drop, length-drop, length-replicate}
use lib.Seq.{length-take-le}
use Rattle.write_parts.proofs.Pasting.{put_sets}
use Rattle.data_files.proofs.patterns.put_repeated.Goals as goal

pub returns-clause-stored : goal.returns-clause-stored
returns-clause-stored c =
    let a = c.args in
    let end = a.at + a.count in
    let e : end - a.at ≡ a.count = omega arith in
    let n : length (take (end - a.at) (drop a.at a.out.now)) ≡ a.count = length-take-le _ _ (omega (arith, length-drop a.at a.out.now, c.requires)) ∙ e in
    put_sets a.out.now _ (replicate a.count a.b) a.at a.count c.requires (sym (length-replicate {A = ℕ} a.count a.b)) (c.fill.ensures.after (λ y e. e) ∙ ap (λ m. replicate m a.b) n)
