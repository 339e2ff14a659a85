-- `words::space_named` meets its contract: each table holds the names of the spaces that have its lengths (by computation).
use mathlib.Core.Path.{refl}
use mathlib.Core.List.{map}
use native.Mathlib.Omega.{arith}
use lib.ListN.{length}
use lib.Dec.{ltb, leb}
use borrow.Author.Tests.{lt-ltb, le-leb}
use Rattle.format.specs.Spaces.{spaces, space_names}
use Rattle.read_text.specs.Rows.{packed}
use Rattle.read_text.proofs.Rows.{in_range, in_range_lem, row_names, names_from, row_named}
use Rattle.read_text.proofs.words.space_named.Goals as goal

pub row_among-requires : goal.row_among-requires
unfolding packed names_from row_names
row_among-requires c = (names_from (λ n. ltb n 5) 0 (map space_names spaces), refl)

pub row_among-requires-in-5-to-20 : goal.row_among-requires-in-5-to-20
unfolding packed names_from row_names
row_among-requires-in-5-to-20 c = (names_from (in_range 5 21) 0 (map space_names spaces), refl)

pub row_among-requires-in-21-to-23 : goal.row_among-requires-in-21-to-23
unfolding packed names_from row_names
row_among-requires-in-21-to-23 c = (names_from (in_range 21 24) 0 (map space_names spaces), refl)

pub row_among-requires-in_default : goal.row_among-requires-in_default
unfolding packed names_from row_names
row_among-requires-in_default c = (names_from (leb 24) 0 (map space_names spaces), refl)

pub returns-in-0-to-4 : goal.returns-in-0-to-4
unfolding packed names_from row_names
returns-in-0-to-4 c =
    let h = lt-ltb (length c.args.s.now) 5 (omega arith) in
    row_named (λ n. ltb n 5) c.args.s.now h (map space_names spaces) c.row_among.ensures refl

pub returns-in-5-to-20 : goal.returns-in-5-to-20
unfolding packed names_from row_names
returns-in-5-to-20 c =
    let h = in_range_lem 5 21 {n = length c.args.s.now} (omega arith) (omega arith) in
    row_named (in_range 5 21) c.args.s.now h (map space_names spaces) c.row_among-in-5-to-20.ensures refl

pub returns-in-21-to-23 : goal.returns-in-21-to-23
unfolding packed names_from row_names
returns-in-21-to-23 c =
    let h = in_range_lem 21 24 {n = length c.args.s.now} (omega arith) (omega arith) in
    row_named (in_range 21 24) c.args.s.now h (map space_names spaces) c.row_among-in-21-to-23.ensures refl

pub returns-in_default : goal.returns-in_default
unfolding packed names_from row_names
returns-in_default c =
    let h = le-leb 24 (length c.args.s.now) (omega arith) in
    row_named (leb 24) c.args.s.now h (map space_names spaces) c.row_among-in_default.ensures refl
