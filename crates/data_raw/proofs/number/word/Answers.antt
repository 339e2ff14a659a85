-- `word` meets its contract: for big the loaded number's bytes are turned.
use borrow.Author.Rules.{rules}
use Rattle.std.proofs.Common.{ap, ◌∙◌}
use Rattle.data_raw.proofs.RawLaws.{turned_part}
use Rattle.data_raw.specs.Bits.{turned}
use Rattle.data_raw.proofs.number.word.Goals as goal

pub returns-then-big : goal.returns-then-big
returns-then-big c =
    let a = c.args in
    rw c.if-big.true (record {
      is = c.turn.ensures.is ∙ ap (turned a.w) c.load-x.ensures.is ∙ turned_part a.s.now a.at a.w c.requires.bytes_there (λ i. search rules);
      less = c.turn.ensures.less;
    })

pub returns-else-big : goal.returns-else-big
returns-else-big c = rw c.if-big.false c.load-x.ensures
