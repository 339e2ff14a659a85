-- Internal to the library. What the reader keeps of the fields given so far, and its steps.
use Rattle.std.specs.Prelude.{ℕ, ◌+◌, ◌-◌, ◌≤◌, ◌≡◌, Bool, true, false, not, ◌||◌, List, [], nat_lt, ◌==◌, length, set, if◌then◌else◌, Result, Ok, Err, Some, None}
use Rattle.std.specs.Prelude.{Option as Answer}
use Rattle.std.proofs.Math.Option.{Option, none, some}
use Rattle.format.specs.declared.ReadAnswer.{ReadAnswer}
use Rattle.format.specs.Bytes.{is_some, each}
use Rattle.format.specs.Limits.{max_axes, max_extent}
use Rattle.format.specs.Spaces.{max_space}
use Rattle.format.specs.Refusals.{bad_descriptor, missing_field, extent_too_large, refusal, fine}
use Rattle.format.specs.Fields.{Given, given, named, field_count, descriptor_of, is_given, dimension, sizes, data_file, space}
use Rattle.format.specs.Descriptors.{is_from_end, number_said, number_of, dimension_of, space_size_of, byte_skip_of, sizes_of, may_describe, names_follow, has_needed, end_is_raw, extent_of, cover_of, files_fine}
use Rattle.format.specs.Header.{Item, Judged, wrong, right, field, given_of, closes, Outcome, refused, accepted, header_length, field_lines}
use Rattle.format.specs.Calls.{no_reading, padded, reading_at}
use Rattle.format.specs.DataFiles.{data_file_said}
use Rattle.format.specs.Laws.{Each}
use Rattle.read_files.specs.declared.Files.{Files}
use Rattle.read_files.specs.declared.cover.Cover.{Cover}
use Rattle.read_files.specs.Files.{cover_answer, files_listed, files_cover}
use Rattle.format.specs.declared.reason.Reason.{Reason}
use Rattle.format.specs.Reasons.{reason_number}
use Rattle.read_descriptors.specs.declared.check.Said.{Said}
use Rattle.read_descriptors.specs.Checked.{said, sizes_kept}
use Rattle.read_fields.specs.declared.state.State.{State}
use Rattle.read_fields.specs.declared.state.Step.{Step}
use Rattle.read_fields.specs.declared.state.Step.TheVariants.{Closes, Passes, Gives}

-- whether each field is given
abbrev pub flags : List Given → List Bool
flags gs = each (λ f. is_given f gs) 0 field_count

-- the number of each field
abbrev pub numbers_of : List Given → List ℕ
numbers_of gs = each (λ f. number_of f gs) 0 field_count

-- the dimension m of the space as it is handed on for the field f: no field before space lies in one
unfoldable pub space_for : ℕ → ℕ → ℕ
space_for f m = if nat_lt f space then 0 else m

-- what the walk keeps of the fields given: the dimensions are in their ranges, sizes come after dimension, there is a size for each axis and none is 0, and a data file's
-- descriptor means something
pub record Kept (gs : List Given) : Type 0 where
  pub axes : dimension_of gs ≤ max_axes
  pub spaces : space_size_of gs ≤ max_space
  pub ordered : is_given sizes gs ≡ true → is_given dimension gs ≡ true
  pub sized : is_given sizes gs ≡ true → length (sizes_of gs) ≡ dimension_of gs
  pub wholes : Each (λ (n : ℕ). 1 ≤ n) (sizes_of gs)
  pub filed : (d : List ℕ) → descriptor_of data_file gs ≡ some d → is_some (data_file_said d) ≡ true

-- the state is that of the fields given: the flags, the numbers, the sizes, whether the data is found from the end, and how many axes a data file covers
pub record Holds (s : State) (gs : List Given) : Type 0 where
  pub marks_are : s.given ≡ flags gs
  pub numbers_are : s.numbers ≡ numbers_of gs
  pub sizes_are : s.sizes ≡ padded (sizes_of gs)
  pub end_is : s.from_end ≡ is_from_end (byte_skip_of gs)
  pub cover_is : s.cover ≡ cover_answer (cover_of gs)
  pub kept : Kept gs

-- what the judgement of a line has to know of the fields given: which they are, their numbers, and that no names follow them
pub record Known (s : State) (gs : List Given) : Type 0 where
  pub marks_are : s.given ≡ flags gs
  pub numbers_are : s.numbers ≡ numbers_of gs
  pub axes : dimension_of gs ≤ max_axes
  pub spaces : space_size_of gs ≤ max_space
  pub no_names : names_follow gs ≡ false

-- a field with the descriptor t, judged by its descriptor alone, in a header of dimension n and a space of dimension m
abbrev pub described : ℕ → ℕ → ℕ → List ℕ → Judged
described n m f t = if not (may_describe n m f t) then wrong bad_descriptor else right (field f t)

-- ---- steps

-- what a right line comes to, by what it gives
abbrev pub step_given : Option Given → Step
step_given none = Passes
step_given (some (given f d)) = Gives f (said f d)
step_given (some (named t)) = Passes

abbrev pub step_right : Item → Step
step_right i = if closes i then Closes else step_given (given_of i)

-- a line's step by what the line was judged to be, or the number of its refusal
abbrev pub step_of : Judged → Result Step ℕ
step_of (wrong w) = Err w
step_of (right i) = Ok (step_right i)

-- whether a step closes the header
abbrev pub shuts : Step → Bool
shuts Closes = true
shuts Passes = false
shuts (Gives f x) = false

-- whether a step says that names follow
abbrev pub lists_files : Answer Files → Bool
lists_files None = false
lists_files (Some files) = files_listed files

abbrev pub lists : Step → Bool
lists Closes = false
lists Passes = false
lists (Gives f x) = lists_files x.files

-- the same of an answer
abbrev pub numbered : Result Step Reason → Result Step ℕ
numbered (Ok step) = Ok step
numbered (Err reason) = Err (reason_number reason)

-- the sizes once the line is read
abbrev pub sizes_given : Option Given → List ℕ → List ℕ
sizes_given none ns = ns
sizes_given (some (given f d)) ns = sizes_kept f d ns
sizes_given (some (named t)) ns = ns

abbrev pub sizes_after : Judged → List ℕ → List ℕ
sizes_after (wrong w) ns = ns
sizes_after (right i) ns = sizes_given (given_of i) ns

-- the state with other sizes
abbrev pub with_sizes : State → List ℕ → State
with_sizes s ns = record { version = s.version; given = s.given; numbers = s.numbers; sizes = ns; from_end = s.from_end; cover = s.cover }

-- the step, and the state as the judgement leaves it
abbrev pub stepped : Judged → State → Result Step ℕ × State
stepped j s = (step_of j, with_sizes s (sizes_after j s.sizes))

-- ---- what is kept

-- a list with x for the field f; past the last field nothing changes
abbrev pub kept_at : {A : Type 0} → ℕ → A → List A → List A
kept_at f x l = if nat_lt f field_count then set l f x else l

-- how many axes a data file covers once a line is read: as it says, or as before where it says nothing of data files
abbrev pub cover_kept : Answer Files → Answer Cover → Answer Cover
cover_kept None old = old
cover_kept (Some files) old = files_cover files

-- the state once the field f is given and says x
abbrev pub kept : ℕ → Said → State → State
kept f x s =
    record {
      version = s.version;
      given = kept_at f true s.given;
      numbers = kept_at f x.number s.numbers;
      sizes = s.sizes;
      from_end = x.from_end || s.from_end;
      cover = cover_kept x.files s.cover;
    }

-- once a step is kept
abbrev pub kept_step : Step → State → State
kept_step Closes s = s
kept_step Passes s = s
kept_step (Gives f x) s = kept f x s

-- no field is given
abbrev pub no_state : ℕ → State
no_state version = record { version = version; given = flags []; numbers = numbers_of []; sizes = padded []; from_end = false; cover = None }

-- the number of a refusal, 0 for none
abbrev pub wrong_of : Judged → ℕ
wrong_of (wrong w) = w
wrong_of (right i) = 0

-- the refusal at the end of a header without LIST, or with a name under it; 0 for none
unfoldable pub complete_number : List Given → ℕ
complete_number gs =
    if not (has_needed gs) then missing_field
    else if not (end_is_raw gs) then bad_descriptor
    else if nat_lt max_extent (extent_of gs) then extent_too_large
    else if not (files_fine gs) then bad_descriptor
    else 0

-- the answer at the header's end, where so many of its lines stand before the names under LIST
unfoldable pub finished : ℕ → List Given → ℕ → ℕ → ℕ → ReadAnswer
finished version gs bytes count before =
    if complete_number gs == 0 then record { refusal = fine; reading = reading_at version gs bytes count before }
    else record { refusal = refusal (complete_number gs); reading = no_reading }

-- the answer of the reading once n - 1 lines of `at` bytes are read, none of them a name, by what the walk gives from line n on
abbrev pub answer_from : ℕ → ℕ → ℕ → Outcome → ReadAnswer
answer_from version n at (refused r) = record { refusal = r; reading = no_reading }
answer_from version n at (accepted es gs ls) =
    record { refusal = fine; reading = reading_at version gs (at + header_length es) (n - 1 + length es) (n - 1 + field_lines es) }

-- the same under LIST, which is line `list`
abbrev pub named_from : ℕ → ℕ → ℕ → ℕ → Outcome → ReadAnswer
named_from list version n at (refused r) = record { refusal = r; reading = no_reading }
named_from list version n at (accepted es gs ls) =
    record { refusal = fine; reading = reading_at version gs (at + header_length es) (n - 1 + length es) list }
