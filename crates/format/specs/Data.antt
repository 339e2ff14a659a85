-- The place of the data (rules, "Data and samples", the first paragraph; a byte skip of -1: W1).
-- After the reading its refusals are tried in this order: 33 (more than one file: W5), 1 (a detached header's second file), 19 (where samples are wanted), 16, 17, 18.
use Rattle.std.specs.Prelude.{ℕ, zero, suc, ◌+◌, ◌-◌, ◌^◌, Bool, true, false, ◌&&◌, List, [], ◌∷◌, ◌==◌, nat_lt, nat_le, length, take, drop, if◌then◌else◌}
use Rattle.std.proofs.Math.Option.{Option, none, some}
use Rattle.format.specs.Bytes.{and_then, LF}
use Rattle.format.specs.Limits.{max_file}
use Rattle.format.specs.Refusals.{file_too_long, several_files, skip_past_end, place_too_large, data_too_short, float_samples}
use Rattle.format.specs.Fields.{Given}
use Rattle.format.specs.Descriptors.{ByteSkip, forward, from_end, is_detached, line_skip_of, byte_skip_of, encoding_of, type_of, number_kind, is_floating, extent_of, raw, file_count_of}

-- ---- the skips: first lines, then bytes; none where a skip passes the end

-- what follows the first line, which ends in LF
unfoldable pub skip_line : List ℕ → Option (List ℕ)
skip_line [] = none
skip_line (b ∷ s) = if b == LF then some s else skip_line s

-- what follows so many lines
unfoldable pub skip_lines : ℕ → List ℕ → Option (List ℕ)
skip_lines zero s = some s
skip_lines (suc n) s = and_then (skip_line s) (λ t. skip_lines n t)

-- what follows so many bytes; a skip to the very end is taken
unfoldable pub skip_bytes : ℕ → List ℕ → Option (List ℕ)
skip_bytes n s = if nat_lt (length s) n then none else some (drop n s)

-- the last n bytes, or all where there are fewer
unfoldable pub last_bytes : ℕ → List ℕ → List ℕ
last_bytes n s = drop (length s - n) s

-- what is left after a byte skip, for an extent of x: -1 leaves the last x bytes, or all where there are fewer, which `place_from` refuses (18)
abbrev pub past_byte_skip : ByteSkip → ℕ → List ℕ → Option (List ℕ)
past_byte_skip (forward n) x s = skip_bytes n s
past_byte_skip from_end x s = some (last_bytes x s)

-- what is left of the data area past both skips
abbrev pub after_skips : List Given → List ℕ → Option (List ℕ)
after_skips gs area = and_then (skip_lines (line_skip_of gs) area) (λ t. past_byte_skip (byte_skip_of gs) (extent_of gs) t)

-- ---- the place

-- refused with a number; or in the second file (true) or the header's file, from a start on, so many bytes
pub data Place : Type 0 where
  nowhere : ℕ → Place
  part : Bool → ℕ → ℕ → Place

-- raw data is the next extent bytes, else all that is left
abbrev pub data_length : List Given → List ℕ → ℕ
data_length gs left = if encoding_of gs == raw then extent_of gs else length left

-- the data starts where `left` does, which is the end of a file of `whole` bytes
abbrev pub place_from : List Given → Bool → ℕ → Option (List ℕ) → Place
place_from gs second whole none = nowhere skip_past_end
place_from gs second whole (some left) =
    if nat_le (2 ^ 64) (whole - length left + extent_of gs) then nowhere place_too_large
    else if encoding_of gs == raw && nat_lt (length left) (extent_of gs) then nowhere data_too_short
    else part second (whole - length left) (data_length gs left)

-- the place of the data of a header of h bytes with these fields; `wanted`: its samples are wanted
unfoldable pub place_of : Bool → List Given → ℕ → List ℕ → List ℕ → Place
place_of wanted gs h file second =
    if nat_lt 1 (file_count_of gs) then nowhere several_files
    else if is_detached gs && nat_lt max_file (length second) then nowhere file_too_long
    else if wanted && is_floating (number_kind (type_of gs)) then nowhere float_samples
    else if is_detached gs then place_from gs true (length second) (after_skips gs second)
    else place_from gs false (length file) (after_skips gs (drop h file))

-- the bytes at a place
abbrev pub part_of : Place → List ℕ → List ℕ → List ℕ
part_of (nowhere n) file second = []
part_of (part s start n) file second = take n (drop start (if s then second else file))
