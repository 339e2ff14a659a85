-- The laws that make the definitions believable, as one statement: `Laws`. proofs/ proves them; the crates above use most of them.
use Rattle.std.specs.Prelude.{ℕ, ◌+◌, ◌-◌, ◌^◌, ◌/◌, ◌%◌, ◌≤◌, ◌<◌, ◌≡◌, Bool, true, false, not, ◌||◌, List, [], ◌∷◌, ◌++◌, ◌==◌, ℤ, length, take, drop, slice_index, slice_index_or, if◌then◌else◌}
use Rattle.std.proofs.Math.Option.{some}
use Rattle.format.specs.declared.Decimal.{Decimal}
use Rattle.format.specs.declared.Refusal.{Refusal}
use Rattle.format.specs.Bytes.{every, over, space_or_tab, LF, CR, QUOTE, BACKSLASH}
use Rattle.format.specs.Limits.{max_file}
use Rattle.format.specs.Lines.{Line, line, lf, crlf, eof, text, lines, unlines, starts}
use Rattle.format.specs.Pairs.{pair_mark, mark, escape, unescape}
use Rattle.format.specs.Fields.{pairs_since, Given, is_given, file_names, is_understood, labels, units}
use Rattle.format.specs.Words.{number}
use Rattle.format.specs.Strings.{Quoted, quoted, start_of, text_of, no_string, strings_said}
use Rattle.format.specs.Descriptors.{NumberKind, signed, from_end, byte_skip_of, is_detached, dimension_of, sizes_of, product, extent_of, names_follow, file_count_of, may_describe}
use Rattle.format.specs.Header.{Entry, lines_of, right, judge, pair, refused, accepted, header, header_length, field_lines}
use Rattle.format.specs.Rules.{closed, KeepsRules}
use Rattle.format.specs.Data.{part, place_of}
use Rattle.format.specs.Samples.{in_type, sample_value, value_bytes, hex_run, hex_bytes, token_value, samples_of}
use Rattle.format.specs.Writer.{decimal, signed_decimal, hex_text, data_bytes, all_in_type}
use Rattle.format.specs.Settings.{key_fine, value_fine, pair_text}
use Rattle.format.specs.Calls.{find_field_call, find_key_call}
use Rattle.format.specs.Found.{FindsField, FindsKey}
use Rattle.format.specs.AxisRecords.{strings_of, string_place_of}
use Rattle.format.specs.Trials.{AtLimits}
use Rattle.format.specs.Boundary.{word_bytes, numbers_of, samples_lent, lent_numbers, lent_samples, decimal_bytes, decimal_of}

-- ---- the line rule (rules, "Lines and headers", the first point), said of lines instead of computed

abbrev pub not_lf : ℕ → Bool
not_lf b = not (b == LF)

-- no byte of the text is LF
abbrev pub NoLF : List ℕ → Type 0
NoLF t = every not_lf t ≡ true

-- the last byte is CR; an empty text has none
unfoldable pub ends_in_cr : List ℕ → Bool
ends_in_cr [] = false
ends_in_cr (b ∷ []) = b == CR
ends_in_cr (b ∷ c ∷ t) = ends_in_cr (c ∷ t)

-- No text has an LF. A text that LF alone ends does not end in CR: that CR would belong to the ending.
-- Only the last line may have no ending, and then its text is not empty.
pub data Shape : List Line → Type 0 where
  no_lines : Shape []
  lf_line : {t : List ℕ} {ls : List Line} → NoLF t → ends_in_cr t ≡ false → Shape ls → Shape (line t lf ∷ ls)
  crlf_line : {t : List ℕ} {ls : List Line} → NoLF t → Shape ls → Shape (line t crlf ∷ ls)
  eof_line : {t : List ℕ} → NoLF t → 0 < length t → Shape (line t eof ∷ [])

-- ---- bytes

-- it holds of each element
abbrev pub Each {ℓ} : {A : Type ℓ} → (A → Type 0) → List A → Type 0
Each p [] = Unit {0}
Each p (a ∷ s) = p a × Each p s

-- every number is below m
abbrev pub AllBelow : ℕ → List ℕ → Type 0
AllBelow m ns = Each (λ (n : ℕ). n < m) ns

-- every number is a byte
abbrev pub AllBytes : List ℕ → Type 0
AllBytes s = AllBelow 256 s

-- a decimal that crosses in bytes: its number fits 64 bits, its power 32 bits, and its kind 32 bits without a sign
abbrev pub FitsBytes : Decimal → Type 0
FitsBytes d = (in_type signed 8 d.number ≡ true) × (in_type signed 4 d.power ≡ true) × (d.kind < 256 ^ 4)

-- ---- a descriptor of strings (format, section 6; W6), said of its strings instead of read byte by byte

-- a string of a descriptor: the blanks before it, and its text
pub data Piece : Type 0 where
  piece : List ℕ → List ℕ → Piece

abbrev pub blanks_of : Piece → List ℕ
blanks_of (piece blanks w) = blanks

abbrev pub word_of : Piece → List ℕ
word_of (piece blanks w) = w

-- the descriptor: each string in quotes after its blanks, then the blanks at its end
unfoldable pub laid : List Piece → List ℕ → List ℕ
laid [] end = end
laid (piece blanks w ∷ ps) end = blanks ++ QUOTE ∷ (w ++ QUOTE ∷ laid ps end)

-- these strings with their places, `at` bytes being before the blanks of the first
unfoldable pub placed : ℕ → List Piece → List Quoted
placed at [] = []
placed at (piece blanks w ∷ ps) = quoted (at + length blanks + 1) w ∷ placed (at + length blanks + 1 + length w + 1) ps

-- a quote in a text stands right after a backslash; the last byte is no backslash, since the quote after it would be in the text
pub record ClosedText (w : List ℕ) : Type 0 where
  pub inner : (a b : List ℕ) → w ≡ a ++ QUOTE ∷ b → (c : List ℕ) × (a ≡ c ++ BACKSLASH ∷ [])
  pub last : (a : List ℕ) → w ≡ a ++ BACKSLASH ∷ [] → ⊥

-- all blanks are spaces and tabs, at least one stands before every string but the first, and the texts are closed
pub record Layout (ps : List Piece) (end : List ℕ) : Type 0 where
  pub blank : Each (λ (p : Piece). every space_or_tab (blanks_of p) ≡ true) ps
  pub end_blank : every space_or_tab end ≡ true
  pub parted : Each (λ (p : Piece). 1 ≤ length (blanks_of p)) (drop 1 ps)
  pub texts : Each (λ (p : Piece). ClosedText (word_of p)) ps

-- ---- the laws

-- the text of a string stands in t between two quotes
pub record InQuotes (t : List ℕ) (q : Quoted) : Type 0 where
  pub after : 1 ≤ start_of q
  pub within : start_of q + length (text_of q) + 1 ≤ length t
  pub between : take (length (text_of q) + 2) (drop (start_of q - 1) t) ≡ QUOTE ∷ (text_of q ++ QUOTE ∷ [])
  pub text : take (length (text_of q)) (drop (start_of q) t) ≡ text_of q

pub record Laws : Type 0 where
  -- no byte is lost, the lines keep the line rule, and no other lines of these bytes do
  pub unlines_of_lines : (s : List ℕ) → unlines (lines s) ≡ s
  pub shape_of_lines : (s : List ℕ) → Shape (lines s)
  pub lines_unique : {ls : List Line} → Shape ls → lines (unlines ls) ≡ ls
  -- each start in the table is where its line begins: reading on from there gives that line and those after it
  pub start_of_line : (s : List ℕ) (k : ℕ) → k < length (lines s) → lines (drop (slice_index (starts 0 (lines s)) k) s) ≡ drop k (lines s)
  -- escape and unescape are inverse on all allowed texts, and equal escaped keys are equal keys
  pub unescape_of_escape : (s : List ℕ) → unescape (escape s) ≡ some s
  pub escape_of_unescape : (t s : List ℕ) → NoLF t → unescape t ≡ some s → escape s ≡ t
  pub escape_injective : (a b : List ℕ) → escape a ≡ escape b → a ≡ b
  -- the first mark of a set line is its `:=`, and the reader takes the line for that pair where no names follow; every pair that it takes can be set
  pub mark_of_pair : (k v : List ℕ) → key_fine k ≡ true → mark (pair_text k v) ≡ pair_mark (escape k) (escape v)
  pub judge_of_pair : (version : ℕ) (gs : List Given) (k v : List ℕ) → names_follow gs ≡ false → pairs_since ≤ version → key_fine k ≡ true → value_fine v ≡ true → judge version gs (pair_text k v) ≡ right (pair k v)
  pub pair_key_fine : (version : ℕ) (gs : List Given) (t k v : List ℕ) → judge version gs t ≡ right (pair k v) → key_fine k ≡ true
  pub pair_value_fine : (version : ℕ) (gs : List Given) (t k v : List ℕ) → judge version gs t ≡ right (pair k v) → value_fine v ≡ true
  -- a header is accepted exactly when it keeps the rules, and `header` then answers these lines and fields; a file is refused exactly when no lines of it keep them
  pub accepted_keeps : (file : List ℕ) {es : List Entry} {gs : List Given} {r : List Line} → header file ≡ accepted es gs r → KeepsRules file es gs r
  pub keeps_accepted : (file : List ℕ) {es : List Entry} {gs : List Given} {r : List Line} → KeepsRules file es gs r → header file ≡ accepted es gs r
  pub refused_keeps_none : (file : List ℕ) {x : Refusal} → header file ≡ refused x → (es : List Entry) (gs : List Given) (r : List Line) → KeepsRules file es gs r → ⊥
  pub keeps_none_refused : (file : List ℕ) → ((es : List Entry) (gs : List Given) (r : List Line) → KeepsRules file es gs r → ⊥) → (x : Refusal) × (header file ≡ refused x)
  -- a field that is not understood may have any descriptor
  pub carried_any : (n m f : ℕ) (t : List ℕ) → is_understood f ≡ false → may_describe n m f t ≡ true
  -- the n-th name of an accepted header, counted from 0, is the text of the line that n others part from LIST's, and this line is one of the header's
  pub names_are_lines : (file : List ℕ) {es : List Entry} {gs : List Given} {r : List Line} → header file ≡ accepted es gs r → (n : ℕ) → n < length (file_names gs) → (slice_index_or (file_names gs) n [] ≡ text (slice_index_or (lines file) (field_lines es + n) (line [] eof))) × (field_lines es + n < length es)
  -- an accepted header has at least one file
  pub files_some : (file : List ℕ) {es : List Entry} {gs : List Given} {r : List Line} → header file ≡ accepted es gs r → 1 ≤ file_count_of gs
  -- all its files have equal shares of the samples
  pub shares_fit : (file : List ℕ) {es : List Entry} {gs : List Given} {r : List Line} → header file ≡ accepted es gs r → product (sizes_of gs) % file_count_of gs ≡ 0
  -- where k files cover c of n axes as they should, k divides the number of samples: that the shares are equal is no rule of its own
  pub files_divide : (n : ℕ) (ns : List ℕ) (k c : ℕ) → length ns ≡ n → 1 ≤ c → c ≤ n → (c < n → k ≡ product (drop c ns)) → (c ≡ n → slice_index ns (n - 1) % k ≡ 0) → product ns % k ≡ 0
  -- what follows the closing line decides nothing about the header; the data area is what follows it
  pub header_ends : (s : List ℕ) {es : List Entry} {gs : List Given} {r : List Line} → header s ≡ accepted es gs r → closed es ≡ true → (d : List ℕ) → length (unlines (lines_of es) ++ d) ≤ max_file → header (unlines (lines_of es) ++ d) ≡ accepted es gs (lines d)
  pub data_area : (s : List ℕ) {es : List Entry} {gs : List Given} {r : List Line} → header s ≡ accepted es gs r → drop (header_length es) s ≡ unlines r
  -- where the byte skip is -1, data that is found is in the file of the header's form, past the header, as long as the extent, and ends where its file does
  pub data_at_end : (file : List ℕ) {es : List Entry} {gs : List Given} {r : List Line} → header file ≡ accepted es gs r → byte_skip_of gs ≡ from_end → (wanted : Bool) (second : List ℕ) (in_second : Bool) (start n : ℕ) → place_of wanted gs (header_length es) file second ≡ part in_second start n
      → (in_second ≡ is_detached gs) × ((if in_second then 0 else header_length es) ≤ start) × (n ≡ extent_of gs) × (start + n ≡ length (if in_second then second else file))
  -- what the look-ups find is the reading's: the descriptor of the field, and the last value of the key as it is written
  pub field_found : (file : List ℕ) (f : ℕ) → FindsField file f (header file) (find_field_call file f)
  pub key_found : (file k : List ℕ) → FindsKey file k (header file) (find_key_call file k)
  -- the strings of a descriptor are as many as are asked for, and each stands in it between two quotes
  pub strings_counted : (n : ℕ) (t : List ℕ) (qs : List Quoted) → strings_said n t ≡ some qs → length qs ≡ n
  pub strings_there : (n : ℕ) (t : List ℕ) (qs : List Quoted) → strings_said n t ≡ some qs → (i : ℕ) → i < length qs → InQuotes t (slice_index_or qs i no_string)
  -- a descriptor with such a layout is read as exactly its strings, and one that is read has such a layout of exactly the strings read
  pub strings_laid : (ps : List Piece) (end : List ℕ) → Layout ps end → strings_said (length ps) (laid ps end) ≡ some (placed 0 ps)
  pub laid_strings : (n : ℕ) (t : List ℕ) (qs : List Quoted) → strings_said n t ≡ some qs → (ps : List Piece) × (end : List ℕ) × Layout ps end × (length ps ≡ n) × (t ≡ laid ps end) × (qs ≡ placed 0 ps)
  -- the bytes at the place that the record of an axis tells of its label, or of its unit, are that text; f is labels or units
  pub string_text : (file : List ℕ) {es : List Entry} {gs : List Given} {r : List Line} → header file ≡ accepted es gs r → (f i : ℕ) → take (string_place_of f es gs i).1 (drop (string_place_of f es gs i).0 file) ≡ text_of (slice_index_or (strings_of f gs) i no_string)
  -- where the field is given, the text of each axis stands there between two quotes, all of it in the header
  pub string_quoted : (file : List ℕ) {es : List Entry} {gs : List Given} {r : List Line} → header file ≡ accepted es gs r → (f i : ℕ) → (f == labels || f == units) ≡ true → is_given f gs ≡ true → i < dimension_of gs
      → InQuotes file (quoted (string_place_of f es gs i).0 (text_of (slice_index_or (strings_of f gs) i no_string))) × ((string_place_of f es gs i).0 + (string_place_of f es gs i).1 + 1 ≤ header_length es)
  -- bytes of a sample and its value are inverse, over the width, for either endian
  pub value_of_bytes : (k : NumberKind) (w endian : ℕ) (z : ℤ) → 1 ≤ w → in_type k w z ≡ true → sample_value k endian (value_bytes w endian z) ≡ z
  pub bytes_of_value : (k : NumberKind) (endian : ℕ) (s : List ℕ) → AllBytes s → value_bytes (length s) endian (sample_value k endian s) ≡ s
  -- numbers and samples put into lent bytes are taken out as they were; bytes taken out and put in are as they were, a short rest too
  pub numbers_of_lent : (w : ℕ) (ns s : List ℕ) → length ns ≡ length s / w → AllBelow (256 ^ w) ns → numbers_of w (lent_numbers w ns s) ≡ ns
  pub lent_of_numbers : (w : ℕ) (s : List ℕ) → AllBytes s → lent_numbers w (numbers_of w s) s ≡ s
  pub samples_of_lent : (zs : List ℤ) (s : List ℕ) → length zs ≡ length s / word_bytes → all_in_type signed word_bytes zs ≡ true → samples_lent (lent_samples zs s) ≡ zs
  pub lent_of_samples : (s : List ℕ) → AllBytes s → lent_samples (samples_lent s) s ≡ s
  -- so are decimals, in 16 bytes each
  pub decimal_of_bytes : (d : Decimal) → FitsBytes d → decimal_of (decimal_bytes d) ≡ d
  pub bytes_of_decimal : (s : List ℕ) → AllBytes s → length s ≡ 16 → decimal_bytes (decimal_of s) ≡ s
  -- numbers put in at the front only: the others are taken out as they were
  pub numbers_of_front : (w : ℕ) (ns s : List ℕ) → length ns ≤ length s / w → AllBelow (256 ^ w) ns → numbers_of w (lent_numbers w ns s) ≡ over ns (numbers_of w s)
  -- decimal and hex text of a value read back as it
  pub number_of_decimal : (n : ℕ) → number (decimal n) ≡ some n
  pub value_of_decimal : (z : ℤ) → token_value (signed_decimal z) ≡ some z
  pub hex_of_text : (s r : List ℕ) → AllBytes s → hex_bytes (length s) (hex_text s ++ r) ≡ hex_run s r
  -- the samples of written data are those written, in each encoding
  pub data_read_back : (encoding : ℕ) (k : NumberKind) (w endian : ℕ) (zs : List ℤ) → 1 ≤ w → all_in_type k w zs ≡ true → samples_of encoding k w endian (length zs) (data_bytes encoding w endian zs) ≡ record { number = 0; seen = zs }
  -- headers are taken up to their limits and not past them
  pub at_limits : AtLimits
