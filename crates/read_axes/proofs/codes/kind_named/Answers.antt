-- `codes::kind_named` meets its contract: each table holds the names of the kinds that have its lengths (by computation).
use mathlib.Core.Path.{refl}
use lib.Dec.{ltb, leb}
use lib.ListN.{length}
use native.Mathlib.Omega.{arith}
use borrow.Author.Tests.{lt-ltb, le-leb}
use Rattle.format.specs.Kinds.{kind_words, kind_named}
use Rattle.read_text.specs.Rows.{packed}
use Rattle.read_text.proofs.Rows.{in_range, in_range_lem, row_names, names_from, row_named}
use Rattle.read_axes.proofs.codes.kind_named.Goals as goal

pub row_among-requires : goal.row_among-requires
unfolding packed names_from row_names
row_among-requires c = (names_from (λ n. ltb n 7) 0 kind_words, refl)

pub row_among-requires-in-7-to-9 : goal.row_among-requires-in-7-to-9
unfolding packed names_from row_names
row_among-requires-in-7-to-9 c = (names_from (in_range 7 10) 0 kind_words, refl)

pub row_among-requires-in-10-to-16 : goal.row_among-requires-in-10-to-16
unfolding packed names_from row_names
row_among-requires-in-10-to-16 c = (names_from (in_range 10 17) 0 kind_words, refl)

pub row_among-requires-in_default : goal.row_among-requires-in_default
unfolding packed names_from row_names
row_among-requires-in_default c = (names_from (leb 17) 0 kind_words, refl)

pub returns-in-0-to-6 : goal.returns-in-0-to-6
unfolding packed names_from row_names kind_named
returns-in-0-to-6 c =
    let w = c.args.w.now in
    let h = lt-ltb (length w) 7 (omega arith) in
    row_named (λ n. ltb n 7) w h kind_words c.row_among.ensures refl

pub returns-in-7-to-9 : goal.returns-in-7-to-9
unfolding packed names_from row_names kind_named
returns-in-7-to-9 c =
    let w = c.args.w.now in
    let h = in_range_lem 7 10 {n = length w} (omega arith) (omega arith) in
    row_named (in_range 7 10) w h kind_words c.row_among-in-7-to-9.ensures refl

pub returns-in-10-to-16 : goal.returns-in-10-to-16
unfolding packed names_from row_names kind_named
returns-in-10-to-16 c =
    let w = c.args.w.now in
    let h = in_range_lem 10 17 {n = length w} (omega arith) (omega arith) in
    row_named (in_range 10 17) w h kind_words c.row_among-in-10-to-16.ensures refl

pub returns-in_default : goal.returns-in_default
unfolding packed names_from row_names kind_named
returns-in_default c =
    let w = c.args.w.now in
    let h = le-leb 17 (length w) (omega arith) in
    row_named (leb 17) w h kind_words c.row_among-in_default.ensures refl
