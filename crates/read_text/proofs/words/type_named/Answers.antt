-- `words::type_named` meets its contract: each table holds the names of the types that have its lengths (by computation).
use mathlib.Core.Path.{refl}
use mathlib.Core.List.{map}
use native.Mathlib.Omega.{arith}
use lib.ListN.{length}
use lib.Dec.{ltb, leb}
use borrow.Author.Tests.{lt-ltb, le-leb}
use Rattle.format.specs.Descriptors.{types, type_names}
use Rattle.read_text.specs.Rows.{packed}
use Rattle.read_text.proofs.Rows.{in_range, in_range_lem, row_names, names_from, row_named}
use Rattle.read_text.proofs.words.type_named.Goals as goal

pub row_among-requires : goal.row_among-requires
unfolding packed names_from row_names
row_among-requires c = (names_from (λ n. ltb n 6) 0 (map type_names types), refl)

pub row_among-requires-in-6-to-8 : goal.row_among-requires-in-6-to-8
unfolding packed names_from row_names
row_among-requires-in-6-to-8 c = (names_from (in_range 6 9) 0 (map type_names types), refl)

pub row_among-requires-in-9-to-12 : goal.row_among-requires-in-9-to-12
unfolding packed names_from row_names
row_among-requires-in-9-to-12 c = (names_from (in_range 9 13) 0 (map type_names types), refl)

pub row_among-requires-in_default : goal.row_among-requires-in_default
unfolding packed names_from row_names
row_among-requires-in_default c = (names_from (leb 13) 0 (map type_names types), refl)

pub returns-in-0-to-5 : goal.returns-in-0-to-5
unfolding packed names_from row_names
returns-in-0-to-5 c =
    let h = lt-ltb (length c.args.s.now) 6 (omega arith) in
    row_named (λ n. ltb n 6) c.args.s.now h (map type_names types) c.row_among.ensures refl

pub returns-in-6-to-8 : goal.returns-in-6-to-8
unfolding packed names_from row_names
returns-in-6-to-8 c =
    let h = in_range_lem 6 9 {n = length c.args.s.now} (omega arith) (omega arith) in
    row_named (in_range 6 9) c.args.s.now h (map type_names types) c.row_among-in-6-to-8.ensures refl

pub returns-in-9-to-12 : goal.returns-in-9-to-12
unfolding packed names_from row_names
returns-in-9-to-12 c =
    let h = in_range_lem 9 13 {n = length c.args.s.now} (omega arith) (omega arith) in
    row_named (in_range 9 13) c.args.s.now h (map type_names types) c.row_among-in-9-to-12.ensures refl

pub returns-in_default : goal.returns-in_default
unfolding packed names_from row_names
returns-in_default c =
    let h = le-leb 13 (length c.args.s.now) (omega arith) in
    row_named (leb 13) c.args.s.now h (map type_names types) c.row_among-in_default.ensures refl
