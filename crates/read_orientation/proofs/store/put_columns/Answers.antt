-- `store::put_columns` meets its contract. The invariant: the first c columns are stored.
use Prim.Native.Nat.{ℕ, ◌<◌}
use native.Mathlib.Omega.{arith}
use mathlib.Core.Path.{◌≡◌, ◌∙◌}
use mathlib.Core.List.{[]}
use lib.ListN.{length, take, get_or}
use lib.Seq.{length-take-le}
use borrow.Author.Rules.{rules}
use Rattle.read_orientation.proofs.StoreLaws.{stored_none, stored_more, next_fits}
use Rattle.read_orientation.proofs.store.put_columns.Goals as goal

pub loop-c-init : goal.loop-c-init
loop-c-init c =
    let a = c.args in
    (search rules, stored_none (λ k. take a.n (get_or a.m k [])) a.n a.list.now)

pub put_column-requires : goal.put_column-requires
put_column-requires c =
    let l = c.loop-c in
    let h : l.c < c.args.n = omega arith in
    (c.requires.1, omega (arith, next_fits c.args.n c.args.n l.c h, c.requires.2, l.invariant.0))

pub loop-c-preserved : goal.loop-c-preserved
loop-c-preserved c =
    let l = c.loop-c in
    let n = c.args.n in
    let m = c.args.m in
    let long : (i : ℕ) → i < l.c → length (take n (get_or m i [])) ≡ n = λ i h. length-take-le n (get_or m i []) (omega (arith, c.requires.1, c.requires.0 i (omega (arith, h, c.requires.1)))) in
    (search rules, stored_more (λ k. take n (get_or m k [])) n c.args.list.now l.list l.c long l.invariant.1 c.put_column.ensures)

pub returns : goal.returns
returns c =
    let e : c.loop-c.c ≡ c.args.n = omega arith in
    c.loop-c.invariant.1 ∙ rw e
