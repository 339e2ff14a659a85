-- The reasons for which calls are refused, by name, and their numbers of refusal.
use Rattle.std.specs.Prelude.{ℕ, Result, Ok, Err}
use Rattle.format.specs.declared.Refusal.{Refusal}
use Rattle.format.specs.declared.reason.Refused.{Refused}
use Rattle.format.specs.declared.reason.Reason.{Reason}
use Rattle.format.specs.declared.reason.Reason.TheVariants.{FileTooLong, NoMagic, HeaderTooLong, TooManyLines, BadByte, NoMark, UnknownField, NotInVersion, RepeatedField, OutOfOrder, BadDescriptor, BadBackslash, NoEnd, MissingField, ExtentTooLarge, SkipPastEnd, PlaceTooLarge, DataTooShort, FloatSamples, BadSample, DataEndsEarly, LentTooShort, BadCoordinates, BadKey, BadValue, WrongTable, WrongCount, NoSweep, NoSuchFile, SeveralFiles}
use Rattle.format.specs.Refusals.{file_too_long, no_magic, header_too_long, too_many_lines, bad_byte, no_mark, unknown_field, not_in_version, repeated_field, out_of_order, bad_descriptor, bad_backslash, no_end, missing_field, extent_too_large, skip_past_end, place_too_large, data_too_short, float_samples, bad_sample, data_ends_early, lent_too_short, bad_coordinates, bad_key, bad_value, wrong_table, wrong_count, no_sweep, no_such_file, several_files, at_line}

abbrev pub reason_number : Reason → ℕ
reason_number FileTooLong = file_too_long
reason_number NoMagic = no_magic
reason_number HeaderTooLong = header_too_long
reason_number TooManyLines = too_many_lines
reason_number BadByte = bad_byte
reason_number NoMark = no_mark
reason_number UnknownField = unknown_field
reason_number NotInVersion = not_in_version
reason_number RepeatedField = repeated_field
reason_number OutOfOrder = out_of_order
reason_number BadDescriptor = bad_descriptor
reason_number BadBackslash = bad_backslash
reason_number NoEnd = no_end
reason_number MissingField = missing_field
reason_number ExtentTooLarge = extent_too_large
reason_number SkipPastEnd = skip_past_end
reason_number PlaceTooLarge = place_too_large
reason_number DataTooShort = data_too_short
reason_number FloatSamples = float_samples
reason_number BadSample = bad_sample
reason_number DataEndsEarly = data_ends_early
reason_number LentTooShort = lent_too_short
reason_number BadCoordinates = bad_coordinates
reason_number BadKey = bad_key
reason_number BadValue = bad_value
reason_number WrongTable = wrong_table
reason_number WrongCount = wrong_count
reason_number NoSweep = no_sweep
reason_number NoSuchFile = no_such_file
reason_number SeveralFiles = several_files

-- the number of a refusal, 0 where nothing is refused
abbrev pub refusal_number : {T : Type 0} → Result T Reason → ℕ
refusal_number (Ok x) = 0
refusal_number (Err reason) = reason_number reason

-- the refusal as callers in C have it
abbrev pub refusal_of : Refused → Refusal
refusal_of refused = at_line (reason_number refused.reason) refused.line

-- a refusal that names no line
abbrev pub without_line : Reason → Refused
without_line reason = record { reason = reason; line = 0 }
