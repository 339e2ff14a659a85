-- Internal to this crate. The reading with a table of any cells that hold entries.
use Rattle.std.specs.Prelude.{ℕ, List}
use Rattle.format.specs.declared.ReadAnswer.{ReadAnswer}
use Rattle.format.specs.Calls.{read_call}

-- by the entries that cells hold, and the cells once they hold others
abbrev pub read_into : {A : Type 0} → (List A → List ℕ) → (List ℕ → List A → List A) → List ℕ → List A → ReadAnswer × List A
read_into entries holding file table = let a = read_call file (entries table) in (a.0, holding a.1 table)
