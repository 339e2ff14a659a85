-- The width, kind and endian of samples as the code carries them (rules, "Types").
use Rattle.std.specs.Prelude.{ℕ, ◌≡◌, ◌⊎◌, Bool, true, false, ◌||◌, ◌==◌, if◌then◌else◌}
use Rattle.format.specs.Descriptors.{NumberKind, signed, unsigned, little, big}

-- the bytes of a sample
abbrev pub Width : ℕ → Type 0
Width w = (w ≡ 1) ⊎ ((w ≡ 2) ⊎ ((w ≡ 4) ⊎ (w ≡ 8)))

abbrev pub is_width : ℕ → Bool
is_width w = w == 1 || (w == 2 || (w == 4 || w == 8))

-- the width that a number of bytes stands for: 8 where it is none
abbrev pub width_by : ℕ → ℕ
width_by w = if w == 1 then 1 else if w == 2 then 2 else if w == 4 then 4 else 8

-- the kind of an integer type
abbrev pub kind_by : Bool → NumberKind
kind_by true = signed
kind_by false = unsigned

abbrev pub endian_by : Bool → ℕ
endian_by true = big
endian_by false = little
