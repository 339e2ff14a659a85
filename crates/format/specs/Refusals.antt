-- The numbers of refusal by name, in the order of the rules ("Numbers of refusal") and of the requests.
-- A refusal is one record: its number, and the line at which the reader met it (numbers 2 to 12); 0 where no line is meant,
-- as for the 11 of a byte skip of -1 with text or hex (W1), and of the number of files or of the axes that one covers (W5).
use Rattle.std.specs.Prelude.{ℕ}
use Rattle.format.specs.declared.Refusal.{Refusal}
use Rattle.format.specs.declared.RefusalNumbers.{RefusalNumbers}

-- a file of more than `max_file` bytes
abbrev pub file_too_long : ℕ
file_too_long = 1

-- line 1 is no magic
abbrev pub no_magic : ℕ
no_magic = 2

-- a line, ending included, ends past `max_header`
abbrev pub header_too_long : ℕ
header_too_long = 3

-- a line past `max_lines`
abbrev pub too_many_lines : ℕ
too_many_lines = 4

-- a byte that no field or pair may hold
abbrev pub bad_byte : ℕ
bad_byte = 5

-- a line without a mark, or a pair whose key is empty
abbrev pub no_mark : ℕ
no_mark = 6

-- no field has this name
abbrev pub unknown_field : ℕ
unknown_field = 7

-- a field or a key pair that this version does not have
abbrev pub not_in_version : ℕ
not_in_version = 8

-- a field given before, in either spelling
abbrev pub repeated_field : ℕ
repeated_field = 9

-- a field before the one that it needs
abbrev pub out_of_order : ℕ
out_of_order = 10

-- a descriptor that its field cannot have, and LIST without names; with line 0, a byte skip of -1 with text or hex, or a number of files or of axes that does not fit the sizes; from the writer, a number that is not in its list or range
abbrev pub bad_descriptor : ℕ
bad_descriptor = 11

-- a backslash before anything but `n` and a backslash
abbrev pub bad_backslash : ℕ
bad_backslash = 12

-- the bytes run out before the header closes, and there is no data file field
abbrev pub no_end : ℕ
no_end = 13

-- a field that is needed is not given
abbrev pub missing_field : ℕ
missing_field = 14

-- the extent is above `max_extent`
abbrev pub extent_too_large : ℕ
extent_too_large = 15

-- a skip passes the end of the data area
abbrev pub skip_past_end : ℕ
skip_past_end = 16

-- the end of the data needs more than 64 bits; start and extent are both below 2 to the 32, so this never happens
abbrev pub place_too_large : ℕ
place_too_large = 17

-- raw data with fewer bytes than the extent
abbrev pub data_too_short : ℕ
data_too_short = 18

-- samples wanted of a floating point type
abbrev pub float_samples : ℕ
float_samples = 19

-- bytes that write no sample, or one that its type or the signed 64-bit list cannot hold
abbrev pub bad_sample : ℕ
bad_sample = 20

-- text or hex data ends before the last sample
abbrev pub data_ends_early : ℕ
data_ends_early = 21

-- a lent buffer, table or list is too short
abbrev pub lent_too_short : ℕ
lent_too_short = 22

-- coordinates that are not one for each axis, each below its size; a sample number that is not below the product of the sizes
abbrev pub bad_coordinates : ℕ
bad_coordinates = 23

-- a key that no line can hold
abbrev pub bad_key : ℕ
bad_key = 24

-- a value that no line can hold
abbrev pub bad_value : ℕ
bad_value = 25

-- the lent table is not that of the file
abbrev pub wrong_table : ℕ
wrong_table = 26

-- the writer is given another number of samples than the product of the sizes
abbrev pub wrong_count : ℕ
wrong_count = 27

-- the file is no sweep of the roof rig, its key `utc offset` is wrong, or the largest step is outside its range (W4)
abbrev pub no_sweep : ℕ
no_sweep = 28

-- a file number past the last (W5)
abbrev pub no_such_file : ℕ
no_such_file = 29

-- the data is in more than one file (W5)
abbrev pub several_files : ℕ
several_files = 33

-- each by its name
abbrev pub refusal_numbers : RefusalNumbers
refusal_numbers =
    record {
      filetoolong = file_too_long;
      nomagic = no_magic;
      headertoolong = header_too_long;
      toomanylines = too_many_lines;
      badbyte = bad_byte;
      nomark = no_mark;
      unknownfield = unknown_field;
      notinversion = not_in_version;
      repeatedfield = repeated_field;
      outoforder = out_of_order;
      baddescriptor = bad_descriptor;
      badbackslash = bad_backslash;
      noend = no_end;
      missingfield = missing_field;
      extenttoolarge = extent_too_large;
      skippastend = skip_past_end;
      placetoolarge = place_too_large;
      datatooshort = data_too_short;
      floatsamples = float_samples;
      badsample = bad_sample;
      dataendsearly = data_ends_early;
      lenttooshort = lent_too_short;
      badcoordinates = bad_coordinates;
      badkey = bad_key;
      badvalue = bad_value;
      wrongtable = wrong_table;
      wrongcount = wrong_count;
      nosweep = no_sweep;
      nosuchfile = no_such_file;
      severalfiles = several_files;
    }

-- ---- the record

abbrev pub at_line : ℕ → ℕ → Refusal
at_line n l = record { number = n; line = l }

-- a refusal that names no line
abbrev pub refusal : ℕ → Refusal
refusal n = at_line n 0

-- nothing is refused
abbrev pub fine : Refusal
fine = refusal 0
