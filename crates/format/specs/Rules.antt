-- When a header keeps the rules, with those of the requests W1, W2, W5 and W6: `KeepsRules`.
-- It is said of all lines at once, each with the lines before it, and not by a walk over them.
-- Headers are accepted exactly when they keep the rules: the laws `accepted_keeps` and `keeps_accepted` (specs/Laws.antt).
-- At each rule stand its heading, where that is not "Lines and headers", and the number of the refusal where it is broken.
use Rattle.std.specs.Prelude.{ℕ, ◌-◌, ◌%◌, ◌≤◌, ◌<◌, ◌≡◌, Bool, true, false, ◌||◌, List, [], ◌∷◌, ◌++◌, ◌==◌, length, drop, slice_index}
use Rattle.std.proofs.Math.Option.{Option, some}
use Rattle.format.specs.Bytes.{bytes, every, is_empty, or_default, HASH}
use Rattle.format.specs.Limits.{max_file, max_header, max_lines, max_extent}
use Rattle.format.specs.Lines.{Ending, lf, crlf, eof, Line, text, ending, lines}
use Rattle.format.specs.Pairs.{plain, unescape}
use Rattle.format.specs.Fields.{field_named, pairs_since, Given, is_given, file_names, other_field, needs_dimension, needs_space, dimension, type, encoding, endian, sizes, data_file, space, space_dimension}
use Rattle.format.specs.Descriptors.{descriptor, since, may_describe, names_follow, endian_needed, from_end, dimension_of, type_of, encoding_of, byte_skip_of, space_size_of, sizes_of, raw, extent_of, product, file_count_of, cover_of}
use Rattle.format.specs.Header.{Item, magic, comment, field, pair, file_name, closing, Entry, entry, item_of, lines_of, magic_version, closes, after_item, header_length}

-- ---- one line after line 1

-- the first byte is `#`
abbrev pub is_comment : List ℕ → Bool
is_comment [] = false
is_comment (b ∷ t) = b == HASH

-- a line that is neither empty nor a comment: each of its bytes is a tab or from 32 to 126 ("Numbers of refusal"; 5).
-- It stands after no LIST: there it would be a name (W5).
pub record OtherLine (gs : List Given) (t : List ℕ) : Type 0 where
  pub no_names : names_follow gs ≡ false
  pub filled : is_empty t ≡ false
  pub no_comment : is_comment t ≡ false
  pub all_plain : every plain t ≡ true

-- the text t is a, the mark m and b, and no mark comes before this one: each place of `: ` or `:=` has at least the text a before it
pub record FirstMark (t a m b : List ℕ) : Type 0 where
  pub parted : t ≡ a ++ (m ++ b)
  pub no_field_before : (c d : List ℕ) → t ≡ c ++ (bytes ": " ++ d) → length a ≤ length c
  pub no_pair_before : (c d : List ℕ) → t ≡ c ++ (bytes ":=" ++ d) → length a ≤ length c

-- a line with the text t gives the field f the descriptor d, in a header of this version, after lines that give the fields gs
pub record FieldLine (version : ℕ) (gs : List Given) (t : List ℕ) (f : ℕ) (d : List ℕ) : Type 0 where
  pub other : OtherLine gs t
  pub name : List ℕ
  pub rest : List ℕ
  -- its first mark is `: ` (6), and the text before it is a name of the field ("Understood fields", "Carried fields"; 7)
  pub marked : FirstMark t name (bytes ": ") rest
  pub named : field_named name ≡ some f
  -- this version has the field ("Versions"), and a data file by a pattern or LIST (W5; 8)
  pub in_version : since f d ≤ version
  -- no line before gives it, in either spelling ("Numbers of refusal"; 9)
  pub new : is_given f gs ≡ false
  -- of space and space dimension no line before gives the other (W2; 9)
  pub other_new : is_given (other_field f) gs ≡ false
  -- a per-axis field comes after dimension, and a field that lies in a space after space or space dimension ("Order"; 10)
  pub after_dimension : needs_dimension f ≡ true → is_given dimension gs ≡ true
  pub after_space : needs_space f ≡ true → (is_given space gs || is_given space_dimension gs) ≡ true
  -- its descriptor is the text after the mark, trimmed, and it is one that the field may have ("Understood fields", "Carried fields"; 11)
  pub descriptor_is : d ≡ descriptor f rest
  pub described : may_describe (dimension_of gs) (space_size_of gs) f d ≡ true

-- a line with the text t is the pair of the key k and the value v, in a header of this version, after lines that give the fields gs
pub record PairLine (version : ℕ) (gs : List Given) (t k v : List ℕ) : Type 0 where
  pub other : OtherLine gs t
  pub key : List ℕ
  pub value : List ℕ
  -- its first mark is `:=`, and the text before it is not empty ("Numbers of refusal"; 6)
  pub marked : FirstMark t key (bytes ":=") value
  pub key_filled : is_empty key ≡ false
  -- this version has key pairs ("Versions"; 8)
  pub since : pairs_since ≤ version
  -- key and value are what the texts before and after the mark mean, untrimmed; no backslash stands in them but in `\n` and `\\` (12)
  pub key_is : unescape key ≡ some k
  pub value_is : unescape value ≡ some v

-- a line with the text t is the name n of a file: it stands after LIST, is not empty, and is the name whole; each of its bytes is one that a field may hold (W5; 5)
pub record NameLine (gs : List Given) (t n : List ℕ) : Type 0 where
  pub follows : names_follow gs ≡ true
  pub filled : is_empty t ≡ false
  pub all_plain : every plain t ≡ true
  pub whole : n ≡ t

-- A line with the text t is what the item says, in a header of this version, after lines that give gs. Only line 1 is a magic.
-- A comment may hold any byte, and stands after no LIST.
abbrev pub Keeps : ℕ → List Given → List ℕ → Item → Type 0
Keeps version gs t (magic n) = ⊥
Keeps version gs t comment = (names_follow gs ≡ false) × (is_comment t ≡ true)
Keeps version gs t (field f d) = FieldLine version gs t f d
Keeps version gs t (pair k v) = PairLine version gs t k v
Keeps version gs t (file_name n) = NameLine gs t n
Keeps version gs t closing = t ≡ []

-- ---- all lines

-- a line with this ending has one: LF or CR LF, not the end of the bytes
abbrev pub has_ending : Ending → Bool
has_ending lf = true
has_ending crlf = true
has_ending eof = false

-- what lines give, fields and names, the last one first
unfoldable pub fields_of : List Entry → List Given
fields_of [] = []
fields_of (e ∷ es) = fields_of es ++ after_item (item_of e) []

-- the last line is the closing one
unfoldable pub closed : List Entry → Bool
closed [] = false
closed (e ∷ []) = closes (item_of e)
closed (e ∷ f ∷ es) = closed (f ∷ es)

-- the needed fields are given, endian among them where the order of bytes matters ("Needed"; 14)
pub record Needed (gs : List Given) : Type 0 where
  pub has_dimension : is_given dimension gs ≡ true
  pub has_type : is_given type gs ≡ true
  pub has_encoding : is_given encoding gs ≡ true
  pub has_sizes : is_given sizes gs ≡ true
  pub has_endian : endian_needed (type_of gs) (encoding_of gs) ≡ true → is_given endian gs ≡ true

-- Each of k files covers the c fastest of n axes with the sizes ns (W5; format, section 3; 11).
pub record Covers (n : ℕ) (ns : List ℕ) (k c : ℕ) : Type 0 where
  pub least : 1 ≤ c
  pub most : c ≤ n
  -- fewer than all axes: a file for each place on the others
  pub slices : c < n → k ≡ product (drop c ns)
  -- all axes: slabs along the slowest one
  pub slabs : c ≡ n → slice_index ns (n - 1) % k ≡ 0
  -- the samples are parted equally
  pub shares : product ns % k ≡ 0

-- The file begins with a header: es are its lines with what they are, gs its fields and names, the last one first, and r the lines of the file after it.
pub record KeepsRules (file : List ℕ) (es : List Entry) (gs : List Given) (r : List Line) : Type 0 where
  pub split : lines file ≡ lines_of es ++ r
  -- line 1 is exactly a magic, and has its ending (2)
  pub first : Line
  pub version : ℕ
  pub others : List Entry
  pub entries : es ≡ entry first (magic version) ∷ others
  pub first_magic : magic_version (text first) ≡ some version
  pub first_ended : has_ending (ending first) ≡ true
  -- each other line is what its item says, after the lines before it
  pub each : (before : List Entry) (l : Line) (i : Item) (after : List Entry) → others ≡ before ++ entry l i ∷ after
      → Keeps version (fields_of before) (text l) i
  -- a closing line has its ending, and is the header's last line
  pub last : (before : List Entry) (l : Line) (after : List Entry) → others ≡ before ++ entry l closing ∷ after
      → (has_ending (ending l) ≡ true) × (after ≡ [])
  -- without that line the header closes at the end of the bytes, and has a data file field (13)
  pub unclosed : closed others ≡ false → (r ≡ []) × (is_given data_file gs ≡ true)
  -- its fields and names are those that its lines give, and the needed fields are among them; at least one name follows LIST (W5; 11)
  pub fields : gs ≡ fields_of others
  pub needed : Needed gs
  pub list_filled : names_follow gs ≡ true → 1 ≤ length (file_names gs)
  -- a byte skip of -1 stands with raw alone (W1; 11)
  pub end_is_raw : byte_skip_of gs ≡ from_end → encoding_of gs ≡ raw
  -- the limits of the file, the header's bytes and lines, and the extent ("Numbers of refusal"; 1, 3, 4, 15)
  pub file_bytes : length file ≤ max_file
  pub header_bytes : header_length es ≤ max_header
  pub header_lines : length es ≤ max_lines
  pub extent_bytes : extent_of gs ≤ max_extent
  -- where a pattern or LIST names the files: their number, and that of the axes that one covers, one less than the dimension where it is left open (W5; 11)
  pub files_cover : (axes : Option ℕ) → cover_of gs ≡ some axes → Covers (dimension_of gs) (sizes_of gs) (file_count_of gs) (or_default (dimension_of gs - 1) axes)
