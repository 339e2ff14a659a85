-- `read_lookup::keys::copy_value` meets its contract.
use Prim.Native.Nat.{ℕ}
use mathlib.Core.Path.{◌≡◌}
use mathlib.Core.List.{List}
use Rattle.format.specs.declared.ValueAnswer.{ValueAnswer}
use Rattle.format.specs.Calls.{copy_value_call}
use Rattle.theorem_room.proofs.Enough.{value_answered}
use Rattle.read_lookup.proofs.keys.copy_value.Goals as goal

pub returns-clause-enough : goal.returns-clause-enough
returns-clause-enough c =
    let a = c.args in
    let e : ◌≡◌ {A = ValueAnswer × List ℕ} (c.into.result, c.copy_to.new.out) (copy_value_call a.file.now a.key.now a.out.now) =
    rw c.into.ensures c.copy_to.ensures in
    value_answered a.file.now a.key.now a.out.now e
