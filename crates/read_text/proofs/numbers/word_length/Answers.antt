-- `numbers::word_length` meets its contract.
use Rattle.std.proofs.Common.{rules, ◌≡◌, ◌∙◌, true, false, length, sym}
use borrow.Author.Tests.{tests}
use Rattle.std.proofs.lemmas.Iterator.{YieldsList-from_slice, IsFirst-from_position, index_from_first}
use Rattle.format.specs.Bytes.{space_or_tab}
use Rattle.read_text.specs.Numbers.{first_word}
use Rattle.read_text.proofs.NumberLaws.{word_empty, word_ends, word_more, first_word_le}
use Rattle.read_text.proofs.numbers.word_length.Goals as goal

pub returns : goal.returns
returns c =
    let s = c.args.s.now in
    let p = IsFirst-from_position _ _ c.position.result (λ b. space_or_tab b ≡ true) (λ b. space_or_tab b ≡ false) c.position.ensures.ran
    (YieldsList-from_slice s cc) (λ x q k. search (rules, tests)) (λ x q k. search (rules, tests)) in
    let e = index_from_first (λ t. length (first_word t)) (λ b. space_or_tab b ≡ true) (λ b. space_or_tab b ≡ false) word_empty word_ends word_more s c.position.result p in
    (c.unwrap_or.ensures ∙ sym e, rw (c.unwrap_or.ensures ∙ sym e) (first_word_le s))
