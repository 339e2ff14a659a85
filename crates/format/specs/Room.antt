-- How much room is always enough for what a call stores: the manual promises it (include/craneholt.h), and the rules ask for refusal 22 only where
-- what is lent is too short ("Numbers of refusal"). That it is enough is the theorem of `theorem_room`; each call's contract says its own part, but for those of the
-- orientation and that of `read_records::list::axes`. The room of a listing is `Limits.max_listing`.
use Rattle.std.specs.Prelude.{ℕ, ◌+◌, ◌*◌, ◌≤◌, ◌≡◌, List, length, take}
use Rattle.format.specs.declared.Refusal.{Refusal}
use Rattle.format.specs.declared.Reading.{Reading}
use Rattle.format.specs.declared.FindAnswer.{FindAnswer}
use Rattle.format.specs.declared.ValueAnswer.{ValueAnswer}
use Rattle.format.specs.Limits.{max_header, max_lines, max_axes, max_space, max_width}
use Rattle.format.specs.Refusals.{lent_too_short}
use Rattle.format.specs.Descriptors.{product}
use Rattle.format.specs.Header.{Outcome, refused, accepted}
use Rattle.format.specs.Boundary.{entry_bytes, decimal_width}
use Rattle.format.specs.Calls.{count_of}
use Rattle.format.specs.AxisRecords.{axis_width}

-- what is lent was long enough: the refusal is another one, or none
abbrev pub Enough : Refusal → Type 0
Enough r = r.number ≡ lent_too_short → ⊥

-- ---- a table

-- entries for the lines of a header: there are never more
abbrev pub table_entries : ℕ
table_entries = max_lines

-- the bytes that such a table has in C
abbrev pub table_room : ℕ
table_room = table_entries * entry_bytes

-- ---- a written file

-- bytes for the header, and for the LF after hex data
abbrev pub header_room : ℕ
header_room = 512

-- bytes for a sample: one more than the longest takes, which is in text: a sign, 19 digits and LF
abbrev pub sample_room : ℕ
sample_room = 22

-- bytes for a file of n samples
abbrev pub write_room : ℕ → ℕ
write_room n = header_room + sample_room * n

-- ---- a value

-- bytes for the value of a key, where p is the place of its text that `find_key` tells: as many as the text has
abbrev pub value_room : FindAnswer → ℕ
value_room p = p.length

-- the value of that key is copied: it is found as its text is, and is not longer
pub record Copied (p : FindAnswer) (a : ValueAnswer) : Type 0 where
  pub refusal : a.refusal ≡ p.refusal
  pub found : a.found ≡ p.found
  pub short : a.length ≤ p.length
  pub enough : Enough a.refusal

-- ---- the name of a data file

-- bytes for the name of any file of a header (W5): it stands in the header, or a pattern does, whose number takes at most as many bytes as the largest width
abbrev pub name_room : ℕ
name_room = max_header + max_width

-- ---- samples

-- entries for the samples of a file with this reading: the product of its sizes
abbrev pub samples_room : Outcome → ℕ
samples_room (refused r) = 0
samples_room (accepted es gs ls) = count_of gs

-- the same by what a reading tells: the product of its first `dimension` sizes
abbrev pub sizes_room : Reading → ℕ
sizes_room r = product (take r.dimension r.sizes)

-- ---- a setting

-- bytes for a file of `used` bytes once its key k has the value v: of both each byte takes at most two, `:=` takes two and a line's ending at most two
abbrev pub set_room : ℕ → List ℕ → List ℕ → ℕ
set_room used k v = used + (2 * (length k + length v) + 4)

-- ---- the orientation

-- bytes for the decimals of an origin: one for each dimension of the space
abbrev pub origin_room : ℕ
origin_room = max_space * decimal_width

-- bytes for those of all directions: a vector for each axis
abbrev pub directions_room : ℕ
directions_room = max_axes * max_space * decimal_width

-- bytes for those of a measurement frame: a vector for each dimension of the space
abbrev pub frame_room : ℕ
frame_room = max_space * max_space * decimal_width

-- ---- axis records

-- records for the axes of a header (W6): there are never more
abbrev pub axis_records : ℕ
axis_records = max_axes

-- the bytes that so many have in C
abbrev pub axes_room : ℕ
axes_room = axis_records * axis_width
