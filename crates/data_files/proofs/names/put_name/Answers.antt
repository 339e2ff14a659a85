-- `data_files::names::put_name` meets its contract: 22, or the name at the front.
use native.Mathlib.Omega.{arith}
use mathlib.Core.Path.{refl}
use Rattle.data_files.proofs.NameLaws.{name_short, name_stored}
use Rattle.data_files.proofs.names.put_name.Goals as goal

pub returns-then-out-length : goal.returns-then-out-length
returns-then-out-length c =
    let a = c.args in
    rw c.into.ensures (name_short a.name.now a.out.now (omega (arith, c.if-out-length.true)))

pub returns : goal.returns
returns c =
    let a = c.args in
    name_stored a.name.now a.out.now _ refl (omega (arith, c.if-out-length.false)) _ c.put_bytes.ensures.stored
