-- `data_files::file_name` meets its contract: in a buffer with enough room the call refuses nothing for room.
use Prim.Native.Nat.{ℕ}
use mathlib.Core.Path.{◌≡◌}
use mathlib.Core.List.{List}
use Rattle.format.specs.declared.WriteAnswer.{WriteAnswer}
use Rattle.format.specs.Files.{file_name_call}
use Rattle.theorem_room.proofs.Enough.{name_answered}
use Rattle.data_files.proofs.file_name.Goals as goal

pub returns-clause-enough : goal.returns-clause-enough
returns-clause-enough c =
    let a = c.args in
    let e : ◌≡◌ {A = WriteAnswer × List ℕ} (c.into.result, c.find_name.new.out) (file_name_call a.file.now a.n a.out.now) = rw c.into.ensures c.find_name.ensures in
    name_answered a.file.now a.n a.out.now e
