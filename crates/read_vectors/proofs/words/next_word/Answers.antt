-- `words::next_word` meets its contract: blanks, then a word.
use borrow.Author.Rules.{rules}
use native.Mathlib.Omega.{arith}
use Rattle.read_vectors.proofs.WordLaws.{next_words}
use Rattle.read_vectors.proofs.words.next_word.Goals as goal

pub returns : goal.returns
returns c =
    let a = c.args in
    let r = c.leading in
    let k = c.word_length in
    record {
      ordered = omega arith;
      within = search rules;
      words = next_words a.t.now a.at r.result k.result r.ensures.0 k.ensures.0;
    }
