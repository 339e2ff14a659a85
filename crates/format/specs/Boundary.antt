-- Numbers as callers in C lend them (rules, "What is read, written and corrected"): in a table 4 bytes each, as samples, sizes and
-- coordinates 8, the low byte first. Decimals (W2) have 16 bytes each: the number 8, the power 4 and the kind 4.
use Rattle.std.specs.Prelude.{ℕ, zero, suc, ◌/◌, List, [], ◌∷◌, ◌++◌, map, ℤ, length, take, drop}
use Rattle.format.specs.declared.Decimal.{Decimal}
use Rattle.format.specs.Bytes.{over}
use Rattle.format.specs.Descriptors.{signed, little}
use Rattle.format.specs.Samples.{from_bytes, to_bytes, sample_value, value_bytes}

abbrev pub entry_bytes : ℕ
entry_bytes = 4

abbrev pub word_bytes : ℕ
word_bytes = 8

abbrev pub decimal_width : ℕ
decimal_width = 16

-- the first n groups of w bytes
unfoldable pub groups : ℕ → ℕ → List ℕ → List (List ℕ)
groups w zero s = []
groups w (suc n) s = take w s ∷ groups w n (drop w s)

-- all whole groups of the lent bytes; a rest too short for one is not used
abbrev pub whole_groups : ℕ → List ℕ → List (List ℕ)
whole_groups w s = groups w (length s / w) s

-- table entries, sizes and coordinates; samples
abbrev pub numbers_of : ℕ → List ℕ → List ℕ
numbers_of w s = map from_bytes (whole_groups w s)

abbrev pub samples_lent : List ℕ → List ℤ
samples_lent s = map (sample_value signed little) (whole_groups word_bytes s)

-- the bytes of numbers, and of samples
unfoldable pub number_bytes : ℕ → List ℕ → List ℕ
number_bytes w [] = []
number_bytes w (n ∷ ns) = to_bytes w n ++ number_bytes w ns

unfoldable pub words_of_samples : List ℤ → List ℕ
words_of_samples [] = []
words_of_samples (z ∷ zs) = value_bytes word_bytes little z ++ words_of_samples zs

-- lent bytes once they hold these numbers or samples; a rest too short for one stays
abbrev pub lent_numbers : ℕ → List ℕ → List ℕ → List ℕ
lent_numbers w ns s = over (number_bytes w ns) s

abbrev pub lent_samples : List ℤ → List ℕ → List ℕ
lent_samples zs s = over (words_of_samples zs) s

-- ---- decimals

-- the bytes of a decimal, and the decimal of 16 bytes
unfoldable pub decimal_bytes : Decimal → List ℕ
decimal_bytes d = value_bytes 8 little d.number ++ (value_bytes 4 little d.power ++ to_bytes 4 d.kind)

unfoldable pub decimal_of : List ℕ → Decimal
decimal_of s = record { number = sample_value signed little (take 8 s); power = sample_value signed little (take 4 (drop 8 s)); kind = from_bytes (take 4 (drop 12 s)) }

-- the bytes of decimals, and the decimals of lent bytes; a rest too short for one is not used
unfoldable pub decimals_bytes : List Decimal → List ℕ
decimals_bytes [] = []
decimals_bytes (d ∷ ds) = decimal_bytes d ++ decimals_bytes ds

abbrev pub decimals_lent : List ℕ → List Decimal
decimals_lent s = map decimal_of (whole_groups decimal_width s)
