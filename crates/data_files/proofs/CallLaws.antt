-- Laws of the call for a name: where it stands, by the reading and by the look-up.
-- Assumes nothing.
use Rattle.std.specs.Prelude.{if◌then◌else◌}
use Prim.Native.Nat.{ℕ, ◌+◌, ◌-◌, ◌≤◌, ◌<◌}
use native.Mathlib.Omega.{arith}
use mathlib.Core.Path.{◌≡◌, refl, sym, ap, ◌∙◌, subst}
use mathlib.Core.Bool.{Bool, true, false, false≢true}
use mathlib.Core.List.{List, [], ◌∷◌}
use mathlib.Core.Option.{Option, none, some}
use lib.ListN.{length, take, drop, get_or}
use borrow.Author.Tests.{le-leb, lt-leb, le-ltb}
use Rattle.std.specs.Prelude.{Ok, Err}
use Rattle.format.specs.declared.Reading.{Reading}
use Rattle.format.specs.declared.reason.Refused.{Refused}
use Rattle.format.specs.Answers.{reading_answered, length_answered}
use Rattle.format.specs.declared.FindAnswer.{FindAnswer}
use Rattle.format.specs.declared.WriteAnswer.{WriteAnswer}
use Rattle.format.specs.Bytes.{is_some}
use Rattle.format.specs.Refusals.{no_such_file, refusal, fine}
use Rattle.format.specs.Lines.{Line, text}
use Rattle.format.specs.Fields.{Given, descriptor_of, file_names, data_file}
use Rattle.format.specs.DataFiles.{is_list, DataFile, one_file, numbered_files, listed_files, data_file_said, files_said}
use Rattle.format.specs.Descriptors.{meaning, may_describe, names_follow, file_count_of}
use Rattle.format.specs.FileNames.{name_said}
use Rattle.format.specs.Header.{magic, is_file_name, Entry, entry, after_item, accepted, header, before_names, field_lines}
use Rattle.format.specs.Calls.{reading_of, read_header_call, find_field_call}
use Rattle.format.specs.Files.{file_name_of, no_name, file_name_in, file_name_call}
use Rattle.format.specs.Found.{Finds, FindsField}
use Rattle.format.proofs.Found.{field_found}
use Rattle.format.proofs.Header.{Fine, fine_cases, header_sound}
use Rattle.format.proofs.Oriented.{header_described}
use Rattle.format.proofs.Named.{name_follows, names_go_on, names_are_lines, before_first, Counts, said_counts}
use Rattle.read_header.proofs.Accepted.{Read, was_read, was_not_read}
use Rattle.data_files.specs.Asked.{stored_name, Asked, line_text, Ahead, NameAsked}
use Rattle.data_files.proofs.LineLaws.{header_ahead}

-- ---- names stand after the fields exactly where LIST is given

module _ (version : ℕ) where
  -- once names follow they do so up to the end
  fine_follow : (gs : List Given) (es : List Entry) (gs' : List Given) (r : List Line) → Fine version gs es gs' r → names_follow gs ≡ true → names_follow gs' ≡ true
  fine_follow gs [] gs' r f n = rw f.3 n
  fine_follow gs (entry l i ∷ es) gs' r f n =
      let m = names_go_on version gs (text l) f.0 n in
      fine_cases version gs l i es gs' r (λ es gs'. names_follow gs' ≡ true) f (λ k c q. m) (λ k c g. fine_follow (after_item i gs) es gs' r g m)

  -- where none follow at the end all lines stand before them
  all_before : (gs : List Given) (es : List Entry) (gs' : List Given) (r : List Line) → Fine version gs es gs' r → names_follow gs' ≡ false → before_names es ≡ es
  unfolding before_names
  all_before gs [] gs' r f n = refl
  all_before gs (entry l i ∷ es) gs' r f n =
      go (is_file_name i) refl
      (fine_cases version gs l i es gs' r (λ es gs'. names_follow gs' ≡ false → before_names es ≡ es) f (λ k c q m. refl) (λ k c g m. all_before (after_item i gs) es gs' r g m) n)
    where
      go : (x : Bool) → is_file_name i ≡ x → before_names es ≡ es → (if x then [] else entry l i ∷ before_names es) ≡ entry l i ∷ es
      go true h p = absurd (false≢true (sym n ∙ fine_follow gs (entry l i ∷ es) gs' r f (name_follows version gs (text l) f.0 h)))
      go false h p = ap (λ (fs : List Entry). entry l i ∷ fs) p

-- ---- the name by what is given

module _ (file : List ℕ) {es : List Entry} {gs : List Given} {r : List Line} (e : header file ≡ accepted es gs r) (n : ℕ) (b : n < file_count_of gs) where
  -- the descriptor of a data file is a right one
  right : (t : List ℕ) → descriptor_of data_file gs ≡ some t → is_some (data_file_said t) ≡ true
  unfolding may_describe
  right t q = (header_described file e data_file t q).described

  -- LIST is given: the name is one of those that follow
  listed : names_follow gs ≡ true → (file_name_of gs n ≡ get_or (file_names gs) n []) × (n < length (file_names gs))
  unfolding names_follow file_count_of file_name_of name_said
  listed h = go (descriptor_of data_file gs) refl h b
    where
      names : ℕ
      names = length (file_names gs)

      said : (t : List ℕ) → is_list t ≡ true → (d : Option DataFile) → is_some d ≡ true → Counts t d → n < files_said d names
          → (name_said d (file_names gs) n ≡ get_or (file_names gs) n []) × (n < names)
      said t l none s c k = absurd (false≢true s)
      said t l (some (one_file u)) s c k = absurd (false≢true (sym c ∙ l))
      said t l (some (numbered_files p m axes)) s c k = absurd (false≢true (sym c.1 ∙ l))
      said t l (some (listed_files axes)) s c k = (refl, k)

      go : (o : Option (List ℕ)) → descriptor_of data_file gs ≡ o → meaning false is_list o ≡ true → n < files_said (meaning none data_file_said o) names
          → (name_said (meaning none data_file_said o) (file_names gs) n ≡ get_or (file_names gs) n []) × (n < names)
      go none q h k = absurd (false≢true h)
      go (some t) q h k = said t h (data_file_said t) (right t q) (said_counts t) k

  -- so it is a line
  listed_line : names_follow gs ≡ true → (file_name_of gs n ≡ line_text file (field_lines es + n)) × (field_lines es + n < length es)
  listed_line h =
      let l = listed h in
      let q = names_are_lines file e n l.1 in
      (l.0 ∙ q.0, q.1)

  -- LIST is not given
  unlisted : names_follow gs ≡ false → field_lines es ≡ length es
  unlisted h =
      let x = header_sound file e in
      ap length (before_first x ∙ ap (λ (fs : List Entry). entry x.first (magic x.version) ∷ fs) (all_before x.version [] x.rest gs r x.fine h) ∙ sym x.entries)

  -- which of both by the numbers of lines
  pub follow_by : (field_lines es ≡ length es → ⊥) → names_follow gs ≡ true
  follow_by h = go (names_follow gs) refl
    where
      go : (x : Bool) → names_follow gs ≡ x → x ≡ true
      go true q = refl
      go false q = absurd (h (unlisted q))

  pub not_follow_by : field_lines es ≡ length es → names_follow gs ≡ false
  not_follow_by h = go (names_follow gs) refl
    where
      go : (x : Bool) → names_follow gs ≡ x → x ≡ false
      go true q = absurd (omega (arith, (listed_line q).1))
      go false q = refl

  -- the call, by the name
  call_is : (out : List ℕ) → file_name_call file n out ≡ stored_name (file_name_of gs n) out
  call_is out = rw (e, lt-leb (file_count_of gs) n b)

  -- the data file is not given, or is given by the descriptor t, which is not LIST
  absent_name : descriptor_of data_file gs ≡ none → file_name_of gs n ≡ []
  unfolding file_name_of name_said
  absent_name q = rw q

  given_name : (t : List ℕ) → descriptor_of data_file gs ≡ some t → is_list t ≡ false → (file_name_of gs n ≡ name_said (data_file_said t) [] n) × NameAsked t n
  unfolding file_name_of file_count_of name_said
  given_name t q l = rw q (go (data_file_said t) refl (right t q) (said_counts t) (rw q at b))
    where
      go : (d : Option DataFile) → data_file_said t ≡ d → is_some d ≡ true → Counts t d → n < files_said d (length (file_names gs))
          → (name_said d (file_names gs) n ≡ name_said d [] n) × NameAsked t n
      go none z s c k = absurd (false≢true s)
      go (some (one_file u)) z s c k = (refl, record { no_list = l; right = rw z; below = rw z k; short = (header_described file e data_file t q).short })
      go (some (numbered_files p m axes)) z s c k = (refl, record { no_list = l; right = rw z; below = rw z k; short = (header_described file e data_file t q).short })
      go (some (listed_files axes)) z s c k = absurd (false≢true (sym l ∙ c))

-- ---- the call

module _ (file : List ℕ) (n : ℕ) (out : List ℕ) where
  module _ {count before : ℕ} (w : Asked file n count before) where
    -- names stand on the lines under LIST
    module _ (h : before ≡ count → ⊥) where
      follows : names_follow w.fields ≡ true
      follows = follow_by file w.is n w.below λ q. h (w.first ∙ q ∙ sym w.many)

      pub line_ahead : Ahead file 0 (before + n) (line_text file (before + n))
      line_ahead = rw w.first (header_ahead file w.is (field_lines w.entries + n) (listed_line file w.is n w.below follows).1)

      pub line_called : stored_name (line_text file (before + n)) out ≡ file_name_call file n out
      line_called =
          rw w.first (sym (call_is file w.is n w.below out ∙ ap (λ (t : List ℕ). stored_name t out) (listed_line file w.is n w.below follows).0))

    -- the field is looked up
    module _ (h : before ≡ count) (p : FindAnswer) (q : p ≡ find_field_call file data_file) where
      not_list : (t : List ℕ) → descriptor_of data_file w.fields ≡ some t → is_list t ≡ false
      unfolding names_follow
      not_list t z = rw z at (not_follow_by file w.is n w.below (sym w.first ∙ h ∙ w.many))

      finds : Finds file (descriptor_of data_file w.fields) p
      finds = rw w.is at (subst (FindsField file data_file (header file)) (sym q) (field_found file data_file))

      pub absent_called : p.found ≡ false → ◌≡◌ {A = WriteAnswer × List ℕ} (record { refusal = fine; length = 0 }, out) (file_name_call file n out)
      absent_called f = go (descriptor_of data_file w.fields) refl finds
        where
          go : (o : Option (List ℕ)) → descriptor_of data_file w.fields ≡ o → Finds file o p
              → ◌≡◌ {A = WriteAnswer × List ℕ} (record { refusal = fine; length = 0 }, out) (file_name_call file n out)
          go none z g =
              sym (call_is file w.is n w.below out ∙ ap (λ (t : List ℕ). stored_name t out) (absent_name file w.is n w.below z) ∙ rw (le-ltb (length out) 0 (omega arith)))
          go (some t) z g = absurd (false≢true (sym f ∙ g.there))

      pub record There : Type 0 where
        pub within : p.start + p.length ≤ length file
        pub asked : NameAsked (take (p.start + p.length - p.start) (drop p.start file)) n
        pub called : stored_name (name_said (data_file_said (take (p.start + p.length - p.start) (drop p.start file))) [] n) out ≡ file_name_call file n out

      pub there : p.found ≡ true → There
      there f = go (descriptor_of data_file w.fields) refl finds
        where
          go : (o : Option (List ℕ)) → descriptor_of data_file w.fields ≡ o → Finds file o p → There
          go none z g = absurd (false≢true (sym (ap (λ (a : FindAnswer). a.found) g) ∙ f))
          go (some t) z g =
              let k : p.start + p.length - p.start ≡ p.length = omega arith in
              let s : take (p.start + p.length - p.start) (drop p.start file) ≡ t = ap (λ (m : ℕ). take m (drop p.start file)) k ∙ g.bytes in
              let x = given_name file w.is n w.below t z (not_list t z) in
              record {
                within = g.within;
                asked = rw s x.1;
                called = rw s (sym (call_is file w.is n w.below out ∙ ap (λ (u : List ℕ). stored_name u out) x.0));
              }

  -- by the reading
  pub name_refused : (r : Refused) → reading_answered (Err r) ≡ read_header_call file → ◌≡◌ {A = WriteAnswer × List ℕ} (length_answered (Err r), out) (file_name_call file n out)
  name_refused r e = sym (ap (file_name_in n out) (was_not_read file r e))

  module _ {x : Reading} (e : reading_answered (Ok x) ≡ read_header_call file) where
    read : Read file x
    read = was_read file e

    files_are : x.files ≡ file_count_of read.fields
    unfolding reading_of
    files_are = ap (λ (x : Reading). x.files) read.reading_is

    lines_are : x.lines ≡ length read.entries
    unfolding reading_of
    lines_are = ap (λ (x : Reading). x.lines) read.reading_is

    before_are : x.fieldlines ≡ field_lines read.entries
    unfolding reading_of
    before_are = ap (λ (x : Reading). x.fieldlines) read.reading_is

    pub name_past : x.files ≤ n → ◌≡◌ {A = WriteAnswer × List ℕ} (no_name (refusal no_such_file), out) (file_name_call file n out)
    name_past h = rw (read.is, le-leb (file_count_of read.fields) n (rw files_are at h))

    pub name_asked : n < x.files → Asked file n x.lines x.fieldlines
    name_asked h = record {
      entries = read.entries;
      fields = read.fields;
      after = read.after;
      is = read.is;
      many = lines_are;
      first = before_are;
      below = rw files_are at h;
    }
