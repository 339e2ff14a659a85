-- The limits of the rules, and those of the requests on spaces and file names, each named once.
use Rattle.std.specs.Prelude.{ℕ, ◌+◌, ◌*◌, min}
use Rattle.format.specs.declared.Limits.{Limits}

-- no file is longer ("Numbers of refusal", 1)
abbrev pub max_file : ℕ
max_file = 4_294_967_295

-- the last byte, counted from 1, that a header line may end at (3)
abbrev pub max_header : ℕ
max_header = 65_535

-- the last line of the longest header (4)
abbrev pub max_lines : ℕ
max_lines = 1_024

-- the largest dimension ("Understood fields")
abbrev pub max_axes : ℕ
max_axes = 16

-- the largest size of an axis ("Understood fields")
abbrev pub max_size : ℕ
max_size = 4_294_967_295

-- the largest line skip and byte skip ("Understood fields")
abbrev pub max_skip : ℕ
max_skip = 4_294_967_295

-- the largest extent ("Numbers of refusal", 15)
abbrev pub max_extent : ℕ
max_extent = 4_294_967_295

-- the least number that is no extent: larger ones are cut to it (`capped`)
abbrev pub past_extent : ℕ
past_extent = max_extent + 1

-- the latest version ("What is read, written and corrected")
abbrev pub max_version : ℕ
max_version = 5

-- the largest dimension of a space, as the field space dimension says it (W2)
abbrev pub max_space : ℕ
max_space = 8

-- the largest first and last number of a file name pattern, and the largest size of its step (W5)
abbrev pub max_file_number : ℕ
max_file_number = 4_294_967_295

-- the largest width of a number in such a pattern (W5)
abbrev pub max_width : ℕ
max_width = 99

-- the largest sample: samples go to a list of signed 64-bit numbers (20)
abbrev pub max_sample : ℕ
max_sample = 9_223_372_036_854_775_807

-- ---- the listing

-- the most bytes that the listing program reads ("Trials")
abbrev pub max_listed : ℕ
max_listed = 65_536

-- the most bytes of a reading's lines in a listing, all but those of its keys: 144 for their words, names and numbers, and 21 for each size
abbrev pub max_reading : ℕ
max_reading = 144 + 21 * max_axes

-- the most bytes of the lines of its keys: the longest header that a listed file can have, and 4 more for each of its lines
abbrev pub max_keys : ℕ
max_keys = min max_header max_listed + 4 * max_lines

-- no listing is longer
abbrev pub max_listing : ℕ
max_listing = max_reading + max_keys

-- ---- all of them

abbrev pub limits : Limits
limits =
    record { file = max_file; header = max_header; lines = max_lines; axes = max_axes; size = max_size; skip = max_skip; extent = max_extent; version = max_version; space = max_space; filenumber = max_file_number; width = max_width; sample = max_sample; listed = max_listed; listing = max_listing }
