-- `words::field_named` meets its contract: each table holds the names of the fields that have its lengths (by computation).
use mathlib.Core.Path.{refl}
use mathlib.Core.List.{map}
use native.Mathlib.Omega.{arith}
use lib.ListN.{length}
use lib.Dec.{ltb, leb}
use borrow.Author.Tests.{lt-ltb, le-leb}
use Rattle.format.specs.Fields.{names_of, field_table}
use Rattle.read_text.specs.Rows.{packed}
use Rattle.read_text.proofs.Rows.{in_range, in_range_lem, row_names, names_from, row_named}
use Rattle.read_text.proofs.words.field_named.Goals as goal

pub row_among-requires : goal.row_among-requires
unfolding packed names_from row_names
row_among-requires c = (names_from (λ n. ltb n 7) 0 (map names_of field_table), refl)

pub row_among-requires-in-7-to-8 : goal.row_among-requires-in-7-to-8
unfolding packed names_from row_names
row_among-requires-in-7-to-8 c = (names_from (in_range 7 9) 0 (map names_of field_table), refl)

pub row_among-requires-in-9-to-10 : goal.row_among-requires-in-9-to-10
unfolding packed names_from row_names
row_among-requires-in-9-to-10 c = (names_from (in_range 9 11) 0 (map names_of field_table), refl)

pub row_among-requires-in_default : goal.row_among-requires-in_default
unfolding packed names_from row_names
row_among-requires-in_default c = (names_from (leb 11) 0 (map names_of field_table), refl)

pub returns-in-0-to-6 : goal.returns-in-0-to-6
unfolding packed names_from row_names
returns-in-0-to-6 c =
    let h = lt-ltb (length c.args.s.now) 7 (omega arith) in
    row_named (λ n. ltb n 7) c.args.s.now h (map names_of field_table) c.row_among.ensures refl

pub returns-in-7-to-8 : goal.returns-in-7-to-8
unfolding packed names_from row_names
returns-in-7-to-8 c =
    let h = in_range_lem 7 9 {n = length c.args.s.now} (omega arith) (omega arith) in
    row_named (in_range 7 9) c.args.s.now h (map names_of field_table) c.row_among-in-7-to-8.ensures refl

pub returns-in-9-to-10 : goal.returns-in-9-to-10
unfolding packed names_from row_names
returns-in-9-to-10 c =
    let h = in_range_lem 9 11 {n = length c.args.s.now} (omega arith) (omega arith) in
    row_named (in_range 9 11) c.args.s.now h (map names_of field_table) c.row_among-in-9-to-10.ensures refl

pub returns-in_default : goal.returns-in_default
unfolding packed names_from row_names
returns-in_default c =
    let h = le-leb 11 (length c.args.s.now) (omega arith) in
    row_named (leb 11) c.args.s.now h (map names_of field_table) c.row_among-in_default.ensures refl
