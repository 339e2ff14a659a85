-- The parts of a frame, by what is left of it: nothing once a part went past its end.
use Rattle.std.specs.Prelude.{ℕ, List, [], Option, Some, None, length, take, drop, nat_le, if◌then◌else◌}
use Rattle.std.specs.Int.{w32, from_le_bytes}

-- so many bytes at the front, none where they pass the end
abbrev pub front : ℕ → Option (List ℕ) → List ℕ
front n (Some bytes) = if nat_le n (length bytes) then take n bytes else []
front n None = []

-- what is left after so many bytes
abbrev pub after : ℕ → Option (List ℕ) → Option (List ℕ)
after n (Some bytes) = if nat_le n (length bytes) then Some (drop n bytes) else None
after n None = None

-- the number in the next 4 bytes, low byte first, 0 where they pass the end
abbrev pub next_number : Option (List ℕ) → ℕ
next_number frame = from_le_bytes w32 (front 4 frame)
