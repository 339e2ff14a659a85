-- Internal to this crate. The version of a magic as the code has it, and the end of a header under LIST.
use Rattle.std.specs.Prelude.{ℕ, List, if◌then◌else◌, Some, None}
use Rattle.std.specs.Prelude.{Option as Answer}
use Rattle.std.proofs.Math.Option.{Option, none, some}
use Rattle.format.specs.declared.ReadAnswer.{ReadAnswer}
use Rattle.format.specs.Refusals.{bad_descriptor, at_line}
use Rattle.format.specs.Fields.{Given}
use Rattle.format.specs.Descriptors.{list_empty}
use Rattle.format.specs.Header.{refused}
use Rattle.format.specs.Calls.{read_answer}
use Rattle.read_fields.specs.States.{finished}

-- the version, if it is one
abbrev pub version_told : Option ℕ → Answer ℕ
version_told none = None
version_told (some v) = Some v

-- the answer where LIST is line `list`: 11 there where no name follows it
unfoldable pub names_ended : ℕ → ℕ → List Given → ℕ → ℕ → ReadAnswer
names_ended list version gs bytes count =
    if list_empty gs then read_answer (refused (at_line bad_descriptor list)) else finished version gs bytes count list
