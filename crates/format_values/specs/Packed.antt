-- Internal to this crate. Tables as the code keeps them: one number, with a digit of w bits for each row, that of the first row lowest.
use Rattle.std.specs.Prelude.{ℕ, ◌+◌, ◌*◌, ◌^◌, ◌%◌, Bool, true, false, List, [], ◌∷◌, map}
use Rattle.format.specs.Fields.{FieldRow, field_table}

unfoldable pub packed : ℕ → List ℕ → ℕ
packed w [] = 0
packed w (d ∷ ds) = packed w ds * 2 ^ w + d % 2 ^ w

abbrev pub bit : Bool → ℕ
bit true = 1
bit false = 0

-- the set of the fields of whose rows p holds
abbrev pub field_set : (FieldRow → Bool) → ℕ
field_set p = packed 1 (map (λ r. bit (p r)) field_table)
