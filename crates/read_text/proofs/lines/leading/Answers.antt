-- `lines::leading` meets its contract.
use Rattle.std.proofs.Common.{rules, arith, ◌≡◌, ◌∙◌, true, false, sym}
use borrow.Author.Tests.{tests}
use Rattle.std.proofs.lemmas.Iterator.{YieldsList-from_slice, IsFirst-from_position, index_from_first}
use Rattle.format.specs.Bytes.{space_or_tab}
use Rattle.read_text.proofs.Places.{trimmed, trimmed_empty, trimmed_none, trimmed_more}
use Rattle.read_text.proofs.lines.leading.Goals as goal

pub returns : goal.returns
returns c =
    let s = c.args.s.now in
    let p = IsFirst-from_position _ _ c.position.result (λ b. space_or_tab b ≡ false) (λ b. space_or_tab b ≡ true) c.position.ensures.ran
    (YieldsList-from_slice s cc) (λ x q k. search (rules, tests)) (λ x q k. search (rules, tests)) in
    let e = index_from_first trimmed (λ b. space_or_tab b ≡ false) (λ b. space_or_tab b ≡ true) trimmed_empty trimmed_none trimmed_more s c.position.result p in
    (c.unwrap_or.ensures ∙ sym e, rw (c.unwrap_or.ensures ∙ sym e) (omega arith))
