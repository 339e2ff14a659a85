-- `store::put_directions` meets its contract. The invariant: the directions of the first i axes are stored.
use native.Mathlib.Omega.{arith}
use mathlib.Core.Path.{◌≡◌, ◌∙◌}
use mathlib.Core.List.{[]}
use lib.ListN.{take, get_or}
use Rattle.format.specs.Vectors.{vector_words, direction_said}
use Rattle.read_orientation.specs.Told.{direction_parts}
use Rattle.read_orientation.proofs.SaidLaws.{parts_or}
use borrow.Author.Rules.{rules}
use Rattle.read_orientation.proofs.StoreLaws.{stored_none, stored_more, next_fits}
use Rattle.read_orientation.proofs.CallLaws.{direction_long}
use Rattle.read_orientation.proofs.store.put_directions.Goals as goal

pub loop-i-init : goal.loop-i-init
loop-i-init c =
    let a = c.args in
    let ws = vector_words a.t.now in
    (search rules, stored_none (λ i. take a.n (direction_parts (direction_said a.n (get_or ws i [])))) a.n a.list.now)

pub overflow_mul-n : goal.overflow_mul-n
overflow_mul-n c =
    let l = c.loop-i in
    omega (arith, next_fits c.args.n c.args.axes l.i (omega arith), c.requires)

pub overflow_mul-n-in-loop-i : goal.overflow_mul-n-in-loop-i
overflow_mul-n-in-loop-i c =
    let l = c.loop-i in
    omega (arith, next_fits c.args.n c.args.axes l.i (omega arith), c.requires)

pub put_column-requires : goal.put_column-requires
put_column-requires c =
    let l = c.loop-i in
    (c.requires.1, omega (arith, next_fits c.args.n c.args.axes l.i (omega arith), c.requires, l.invariant))

pub loop-i-preserved : goal.loop-i-preserved
loop-i-preserved c =
    let l = c.loop-i in
    let n = c.args.n in
    let ws = vector_words c.args.t.now in
    (search rules, stored_more (λ i. take n (direction_parts (direction_said n (get_or ws i [])))) n c.args.list.now l.list l.i (λ i h. direction_long n ws c.requires.1 i) l.invariant.1 (c.put_column.ensures ∙ rw (c.unwrap_or-parts.ensures, c.nth_direction.ensures, c.blank_column.ensures, parts_or (direction_said n (get_or ws l.i [])))))

pub returns : goal.returns
returns c =
    let e : c.loop-i.i ≡ c.args.axes = omega arith in
    c.loop-i.invariant.1 ∙ rw e
