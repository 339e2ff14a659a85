-- `store_origin` meets its contract: the components that `find_origin` answers, stored.
use native.Mathlib.Omega.{arith}
use mathlib.Core.Path.{refl}
use Rattle.std.proofs.lemmas.Result.{err_from_is_err_and}
use Rattle.read_orientation.proofs.CallLaws.{lent_short, lent_enough, origin_nothing, origin_fits, origin_stores}
use Rattle.read_orientation.proofs.store_origin.Goals as goal

pub returns-in_err-v : goal.returns-in_err-v
returns-in_err-v c =
    let e = c.in_err-v in
    let h = err_from_is_err_and c.from_residual.result c.from_residual.ensures.1 in
    rw (h.1, h.2) (origin_nothing c.args.file.now c.args.list.now _ e.ensures refl)

pub returns-in_default : goal.returns-in_default
returns-in_default c = origin_nothing c.args.file.now c.args.list.now _ (rw c.in_default.is at c.in_ok-v.ensures) refl

pub returns-then-list-n : goal.returns-then-list-n
returns-then-list-n c =
    rw c.into.ensures (lent_short (origin_stores c.args.file.now c.args.list.now _ (rw c.in-Some.is at c.in_ok-v.ensures)) c.if-list-n.true)

pub put_column-requires : goal.put_column-requires
put_column-requires c =
    let few = origin_fits c.args.file.now c.args.list.now _ (rw c.in-Some.is at c.in_ok-v.ensures) in
    (few, omega (arith, few, c.if-list-n.false))

pub returns : goal.returns
returns c =
    lent_enough (origin_stores c.args.file.now c.args.list.now _ (rw c.in-Some.is at c.in_ok-v.ensures)) c.if-list-n.false _ c.put_column.ensures
