-- `words::next_word` meets its contract.
use borrow.Author.Rules.{rules}
use Rattle.read_files.proofs.WordLaws.{next_word}
use Rattle.read_files.proofs.words.next_word.Goals as goal

pub returns : goal.returns
returns c =
    let a = c.args in
    let r = c.leading in
    let k = c.word_length in
    next_word a.t.now a.at r.result k.result r.ensures.0 k.ensures.0 (search rules)
