-- Arrays of eight, as a vector's components and a matrix's columns are kept: what is given, and a filler after it.
use Rattle.std.specs.Prelude.{List, [], map, replicate}
use Rattle.std.proofs.lemmas.List.Edits.{sets}
use Rattle.format.specs.declared.Decimal.{Decimal}
use Rattle.format.specs.Decimals.{nought}

-- what is past the eighth is left out
unfoldable pub eight : {A : Type 0} → A → List A → List A
eight filler xs = sets (replicate 8 filler) 0 xs

abbrev pub column : List Decimal → List Decimal
column ds = eight nought ds

-- the columns of a matrix
abbrev pub matrix : List (List Decimal) → List (List Decimal)
matrix cs = eight (column []) (map column cs)
