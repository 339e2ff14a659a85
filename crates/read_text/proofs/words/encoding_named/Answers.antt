-- `words::encoding_named` meets its contract: the table holds the names of the encodings (by computation).
use mathlib.Core.Bool.{true}
use mathlib.Core.Path.{refl}
use Rattle.format.specs.Descriptors.{encodings}
use Rattle.read_text.specs.Rows.{packed}
use Rattle.read_text.proofs.Rows.{row_names, names_from, row_named}
use Rattle.read_text.proofs.words.encoding_named.Goals as goal

pub row_among-requires : goal.row_among-requires
unfolding packed names_from row_names
row_among-requires c = (names_from (λ n. true) 0 encodings, refl)

pub returns : goal.returns
unfolding packed names_from row_names
returns c = row_named (λ n. true) c.args.s.now refl encodings c.row_among.ensures refl
