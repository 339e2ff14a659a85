-- The bytes of a written file, and the writer's refusals in order (rules, "Writer"; order 11, 15, 19, 27, 20, 1, 22).
use Rattle.std.specs.Prelude.{ℕ, zero, suc, ◌+◌, ◌-◌, ◌/◌, ◌%◌, Bool, true, false, not, ◌&&◌, List, [], ◌∷◌, ◌++◌, ◌==◌, nat_lt, ℤ, pos, negsuc, length, slice_index_or, if◌then◌else◌}
use Prim.Native.String.{String}
use Rattle.format.specs.Bytes.{bytes, between, is_in, LF, SPACE, MINUS}
use Rattle.format.specs.Limits.{max_file, max_axes, max_extent, max_version}
use Rattle.format.specs.Refusals.{file_too_long, bad_descriptor, extent_too_large, float_samples, bad_sample, lent_too_short, wrong_count}
use Rattle.format.specs.Lines.{Line, line, lf, unlines}
use Rattle.format.specs.Descriptors.{NumberKind, types, type_at, type_name, encodings, endians, sample_bytes, number_kind, is_floating, endian_needed, product, extent, raw, as_text}
use Rattle.format.specs.Samples.{in_type, value_bytes}

-- ---- numbers as text: no sign `+`, no leading zeros

abbrev pub digit : ℕ → ℕ
digit n = 48 + n

-- n by its one digit (true), or by the digits of n / 10, which `front` gives, and its last one
abbrev pub by_digits : Bool → ℕ → (ℕ → List ℕ) → List ℕ
by_digits true n front = digit n ∷ []
by_digits false n front = front (n / 10) ++ (digit (n % 10) ∷ [])

-- the digits of n; the first argument only bounds the recursion, and n itself is enough
unfoldable pub decimal_from : ℕ → ℕ → List ℕ
decimal_from zero n = digit n ∷ []
decimal_from (suc m) n = by_digits (nat_lt n 10) n (λ k. decimal_from m k)

abbrev pub decimal : ℕ → List ℕ
decimal n = decimal_from n n

abbrev pub signed_decimal : ℤ → List ℕ
signed_decimal (pos n) = decimal n
signed_decimal (negsuc n) = MINUS ∷ decimal (suc n)

-- two hex digits, lower case
abbrev pub hex_letter : ℕ → ℕ
hex_letter n = if nat_lt n 10 then 48 + n else 97 + (n - 10)

abbrev pub hex_of_byte : ℕ → List ℕ
hex_of_byte b = hex_letter (b / 16) ∷ hex_letter (b % 16) ∷ []

-- ---- the data

unfoldable pub hex_text : List ℕ → List ℕ
hex_text [] = []
hex_text (b ∷ s) = hex_of_byte b ++ hex_text s

-- the raw bytes of the samples
unfoldable pub raw_data : ℕ → ℕ → List ℤ → List ℕ
raw_data w endian [] = []
raw_data w endian (z ∷ zs) = value_bytes w endian z ++ raw_data w endian zs

-- one sample a line
unfoldable pub text_data : List ℤ → List ℕ
text_data [] = []
text_data (z ∷ zs) = signed_decimal z ++ LF ∷ text_data zs

-- hex is closed by LF
unfoldable pub data_bytes : ℕ → ℕ → ℕ → List ℤ → List ℕ
data_bytes encoding w endian zs =
    if encoding == raw then raw_data w endian zs
    else if encoding == as_text then text_data zs
    else hex_text (raw_data w endian zs) ++ LF ∷ []

-- ---- the header

-- numbers parted by one space
unfoldable pub spaced : List ℕ → List ℕ
spaced [] = []
spaced (n ∷ []) = decimal n
spaced (n ∷ m ∷ ns) = decimal n ++ SPACE ∷ spaced (m ∷ ns)

-- the first name of a row of names
abbrev pub first_name : List String → List ℕ
first_name [] = []
first_name (n ∷ ns) = bytes n

abbrev pub name_at : List (List String) → ℕ → List ℕ
name_at names i = first_name (slice_index_or names i [])

abbrev pub field_line : String → List ℕ → Line
field_line name t = line (bytes name ++ (bytes ": " ++ t)) lf

-- endian only where it is needed
abbrev pub endian_lines : ℕ → ℕ → ℕ → List Line
endian_lines t e endian = if endian_needed t e then field_line "endian" (name_at endians endian) ∷ [] else []

-- magic, type, dimension, sizes, encoding, endian, then these lines, an empty line
abbrev pub header_with : ℕ → List ℕ → ℕ → ℕ → ℕ → List Line → List Line
header_with version sizes t e endian more =
    line (bytes "NRRD000" ++ decimal version) lf
    ∷ field_line "type" (bytes (type_name (type_at t)))
    ∷ field_line "dimension" (decimal (length sizes))
    ∷ field_line "sizes" (spaced sizes)
    ∷ field_line "encoding" (name_at encodings e)
    ∷ (endian_lines t e endian ++ (more ++ line [] lf ∷ []))

unfoldable pub header_lines : ℕ → List ℕ → ℕ → ℕ → ℕ → List Line
header_lines version sizes t e endian = header_with version sizes t e endian []

abbrev pub header_bytes : ℕ → List ℕ → ℕ → ℕ → ℕ → List ℕ
header_bytes version sizes t e endian = unlines (header_lines version sizes t e endian)

unfoldable pub file_bytes : ℕ → List ℕ → ℕ → ℕ → ℕ → List ℤ → List ℕ
file_bytes version sizes t e endian zs = header_bytes version sizes t e endian ++ data_bytes e (sample_bytes t) endian zs

-- ---- refusals

-- the type has every sample (refusal 20)
unfoldable pub all_in_type : NumberKind → ℕ → List ℤ → Bool
all_in_type k w [] = true
all_in_type k w (z ∷ zs) = in_type k w z && all_in_type k w zs

-- the version is known, each number is in its list, there is a size for each of 1 to 16 axes, and none is 0 (refusal 11)
unfoldable pub writable : ℕ → List ℕ → ℕ → ℕ → ℕ → Bool
writable version sizes t e endian =
    between 1 max_version version
    && (nat_lt t (length types)
    && (nat_lt e (length encodings)
    && (nat_lt endian (length endians)
    && (between 1 max_axes (length sizes)
    && not (is_in 0 sizes)))))

-- the number of the refusal, or 0: the file is written to a buffer of `room` bytes
unfoldable pub write_refusal : ℕ → List ℕ → ℕ → ℕ → ℕ → List ℤ → ℕ → ℕ
write_refusal version sizes t e endian zs room =
    if not (writable version sizes t e endian) then bad_descriptor
    else if nat_lt max_extent (extent sizes t) then extent_too_large
    else if is_floating (number_kind t) then float_samples
    else if not (length zs == product sizes) then wrong_count
    else if not (all_in_type (number_kind t) (sample_bytes t) zs) then bad_sample
    else if nat_lt max_file (length (file_bytes version sizes t e endian zs)) then file_too_long
    else if nat_lt room (length (file_bytes version sizes t e endian zs)) then lent_too_short
    else 0
