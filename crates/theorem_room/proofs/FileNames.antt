-- No name of a data file is longer than `name_room`: a name under LIST and a single name stand in the header, and a pattern's name is the pattern around a number
-- that takes at most as many bytes as the largest width.
-- Assumes nothing.
use Rattle.std.specs.Prelude.{if◌then◌else◌}
use mathlib.Core.Path.{◌≡◌, refl, ap}
use mathlib.Core.Bool.{Bool, true, false, not, ◌&&◌, false≢true}
use mathlib.Core.List.{List, [], ◌∷◌, ◌++◌}
use mathlib.Core.Option.{Option, none, some}
use Prim.Native.Nat.{ℕ, zero, suc, ◌+◌, ◌-◌, ◌*◌, ◌/◌, ◌≤◌, ◌<◌}
use native.Mathlib.Omega.{arith}
use native.Mathlib.Nat.{le_trans, mul-le-mul_right, div-mul-le_self}
use lib.Dec.{eqb, ltb, leb}
use lib.ListN.{length, drop, get_or, replicate, length-append, length-replicate}
use borrow.Author.Tests.{leb-true, leb-false, le-ltb, ltb-false}
use Rattle.format.specs.Bytes.{space_or_tab, is_digit, is_empty, or_default, PERCENT, SPACE}
use Rattle.format.specs.Limits.{max_header, max_file_number, max_width}
use Rattle.format.specs.Lines.{Line, line, text, size}
use Rattle.format.specs.Words.{number, within, number_in, value_of_number, join_first, parts, not_empty, words}
use Rattle.format.specs.Decimals.{digits_of, after_digits}
use Rattle.format.specs.DataFiles.{is_list, has_percent, Pattern, pattern, width_fine, after_width, after_percent, byte_before, pattern_of, Numbering, numbering, count_up, count_numbers, count_numbered, with_some, step_said, numbering_said, DataFile, one_file, numbered_files, listed_files, axes_said, listed, numbered, pattern_said, data_file_said, files_said}
use Rattle.format.specs.FileNames.{number_text, pattern_name, number_at, name_said}
use Rattle.format.specs.Fields.{Given, descriptor_of, file_names, data_file}
use Rattle.format.specs.Descriptors.{meaning, data_file_of, file_count_of}
use Rattle.format.specs.Header.{Entry, entry, lines_of, after_item, Outcome, refused, accepted, header, header_length}
use Rattle.format.specs.Writer.{decimal}
use Rattle.format.specs.Files.{file_name_of, file_name_in, file_name_call}
use Rattle.format.specs.Room.{Enough, name_room}
use Rattle.format.proofs.Bytes.{and_right}
use Rattle.format.proofs.Lines.{length_unlines_cons, size_line}
use Rattle.format.proofs.Judged.{after_cases}
use Rattle.format.proofs.Header.{Fine, fine_cases, header_sound}
use Rattle.format.proofs.Numbered.{NumberedOutcome, header_numbered}
use Rattle.format.proofs.Oriented.{header_described}
use Rattle.theorem_roundtrip.proofs.Numbers.{decimal_short}

-- ---- words are no longer than the text that they stand in

abbrev AllWithin : ℕ → List (List ℕ) → Type 0
AllWithin n [] = Unit {0}
AllWithin n (w ∷ ws) = (length w ≤ n) × AllWithin n ws

within_more : (ws : List (List ℕ)) (n : ℕ) → AllWithin n ws → AllWithin (suc n) ws
within_more [] n h = tt
within_more (w ∷ ws) n h = (omega (arith, h.0), within_more ws n h.1)

parts_within : (s : List ℕ) → AllWithin (length s) (parts s)
unfolding parts
parts_within [] = (omega arith, tt)
parts_within (b ∷ s) = go (space_or_tab b) (parts s) (parts_within s)
  where
    join : (ws : List (List ℕ)) → AllWithin (length s) ws → AllWithin (suc (length s)) (join_first b ws)
    join [] h = (omega arith, tt)
    join (w ∷ ws) h = (omega (arith, h.0), within_more ws (length s) h.1)

    go : (x : Bool) (ws : List (List ℕ)) → AllWithin (length s) ws → AllWithin (suc (length s)) (if x then [] ∷ ws else join_first b ws)
    go true ws h = (omega arith, within_more ws (length s) h)
    go false ws h = join ws h

filled_within : (n : ℕ) (ws : List (List ℕ)) → AllWithin n ws → AllWithin n (not_empty ws)
unfolding not_empty
filled_within n [] h = tt
filled_within n (w ∷ ws) h = go (is_empty w) (filled_within n ws h.1)
  where
    go : (x : Bool) → AllWithin n (not_empty ws) → AllWithin n (if x then not_empty ws else w ∷ not_empty ws)
    go true k = k
    go false k = (h.0, k)

words_within : (t : List ℕ) → AllWithin (length t) (words t)
words_within t = filled_within (length t) (parts t) (parts_within t)

-- ---- a pattern is no longer than its word, and its width is at most the largest one

abbrev Fits : ℕ → Option Pattern → Type 0
Fits n none = Unit {0}
Fits n (some (pattern before zeros width after)) = (length before + length after ≤ n) × (width ≤ max_width)

fits_more : (n m : ℕ) (o : Option Pattern) → n ≤ m → Fits n o → Fits m o
fits_more n m none l h = tt
fits_more n m (some (pattern before zeros width after)) l h = (omega (arith, h.0), h.1)

at_most : (least most : ℕ) (o : Option ℕ) → within least most o ≡ true → or_default 0 o ≤ most
at_most least most none h = absurd (false≢true h)
at_most least most (some n) h = leb-true n most (and_right (leb least n) (leb n most) h)

width_fits : (zeros : Bool) (w : List ℕ) → width_fine zeros w ≡ true → value_of_number w ≤ max_width
unfolding number
width_fits zeros [] h = omega arith
width_fits zeros (b ∷ w) h = at_most 1 max_width (number (b ∷ w)) (and_right (not (eqb b 48)) (number_in 1 max_width (b ∷ w)) h)

after_width_lem : (zeros : Bool) (w s : List ℕ) → Fits (length s) (after_width zeros w s)
after_width_lem zeros w [] = tt
after_width_lem zeros w (b ∷ s) = go (eqb b 100) (width_fine zeros w) refl (not (has_percent s))
  where
    go : (x y : Bool) → width_fine zeros w ≡ y → (z : Bool) → Fits (suc (length s)) (if x && (y && z) then some (pattern [] zeros (value_of_number w) s) else none)
    go false y h z = tt
    go true false h z = tt
    go true true h false = tt
    go true true h true = (omega arith, width_fits zeros w h)

after_digits_lem : (s : List ℕ) → length (after_digits s) ≤ length s
unfolding after_digits
after_digits_lem [] = omega arith
after_digits_lem (b ∷ s) = go (is_digit b) (after_digits_lem s)
  where
    go : (x : Bool) → length (after_digits s) ≤ length s → length (if x then after_digits s else b ∷ s) ≤ suc (length s)
    go true h = omega (arith, h)
    go false h = omega arith

after_percent_lem : (s : List ℕ) → Fits (length s) (after_percent s)
after_percent_lem [] = tt
after_percent_lem (b ∷ s) = go (eqb b 48)
  where
    go : (x : Bool)
        → Fits (suc (length s)) (if x then after_width true (digits_of s) (after_digits s) else after_width false (digits_of (b ∷ s)) (after_digits (b ∷ s)))
    go true =
        fits_more (length (after_digits s)) (suc (length s)) (after_width true (digits_of s) (after_digits s)) (omega (arith, after_digits_lem s))
        (after_width_lem true (digits_of s) (after_digits s))
    go false =
        fits_more (length (after_digits (b ∷ s))) (suc (length s)) (after_width false (digits_of (b ∷ s)) (after_digits (b ∷ s))) (omega (arith, after_digits_lem (b ∷ s)))
        (after_width_lem false (digits_of (b ∷ s)) (after_digits (b ∷ s)))

pattern_fits : (t : List ℕ) → Fits (length t) (pattern_of t)
unfolding pattern_of
pattern_fits [] = tt
pattern_fits (b ∷ s) = go (eqb b PERCENT) (pattern_of s) (pattern_fits s)
  where
    before : (o : Option Pattern) → Fits (length s) o → Fits (suc (length s)) (byte_before b o)
    before none h = tt
    before (some (pattern p zeros width u)) h = (omega (arith, h.0), h.1)

    go : (x : Bool) (o : Option Pattern) → Fits (length s) o → Fits (suc (length s)) (if x then after_percent s else byte_before b o)
    go true o h = fits_more (length s) (suc (length s)) (after_percent s) (omega arith) (after_percent_lem s)
    go false o h = before o h

-- ---- each number that goes into a pattern is at most the largest one

abbrev Bounded : Option Numbering → Type 0
Bounded none = Unit {0}
Bounded (some k) = (n : ℕ) → n < count_numbered k → number_at k n ≤ max_file_number

-- a rising number is at most the last one
rising : (low high size n : ℕ) → n < count_up low high size → low + n * size ≤ high
rising low high size n = go (ltb high low) refl
  where
    go : (x : Bool) → ltb high low ≡ x → n < (if x then 0 else (high - low) / size + 1) → low + n * size ≤ high
    go true e h = absurd (let g : ⊥ = omega (arith, h) in g)
    go false e h =
        let l : low ≤ high = ltb-false high low e in
        let k : n ≤ (high - low) / size = omega (arith, h) in
        let m : n * size ≤ high - low = le_trans (mul-le-mul_right size k) (div-mul-le_self (high - low) size) in
        omega (arith, l, m)

numbering_bounded : (first last : List ℕ) (o : Option (Bool × ℕ)) → Bounded (numbering_said first last o)
numbering_bounded first last none = tt
numbering_bounded first last (some (falls, size)) = go (number_in 0 max_file_number first) refl (number_in 0 max_file_number last) refl
  where
    count : ℕ
    count = count_numbers falls (value_of_number first) (value_of_number last) size

    by : (falls : Bool) → value_of_number first ≤ max_file_number → value_of_number last ≤ max_file_number
        → (n : ℕ) → n < count_numbers falls (value_of_number first) (value_of_number last) size
        → number_at (numbering (value_of_number first) falls size (count_numbers falls (value_of_number first) (value_of_number last) size)) n ≤ max_file_number
    by false a b n h = le_trans (rising (value_of_number first) (value_of_number last) size n h) b
    by true a b n h = omega (arith, a)

    some_of : value_of_number first ≤ max_file_number → value_of_number last ≤ max_file_number
        → (z : Bool) → Bounded (if z then none else some (numbering (value_of_number first) falls size count))
    some_of a b true = tt
    some_of a b false = by falls a b

    go : (x : Bool) → number_in 0 max_file_number first ≡ x → (y : Bool) → number_in 0 max_file_number last ≡ y
        → Bounded (if x && y then with_some (value_of_number first) falls size count else none)
    go false p y q = tt
    go true p false q = tt
    go true p true q = some_of (at_most 0 max_file_number (number first) p) (at_most 0 max_file_number (number last) q) (eqb count 0)

-- ---- what a data file descriptor of at most n bytes says

abbrev Says : ℕ → Option DataFile → Type 0
Says n none = Unit {0}
Says n (some (one_file t)) = length t ≤ n
Says n (some (numbered_files p k axes)) = Fits n (some p) × Bounded (some k)
Says n (some (listed_files axes)) = Unit {0}

pattern_says : (n : ℕ) (ws : List (List ℕ)) → AllWithin n ws → Says n (pattern_said ws)
pattern_says n [] h = tt
pattern_says n (p ∷ []) h = tt
pattern_says n (p ∷ first ∷ []) h = tt
pattern_says n (p ∷ first ∷ last ∷ []) h = tt
pattern_says n (p ∷ first ∷ last ∷ step ∷ more) h =
    go (pattern_of p) (fits_more (length p) n (pattern_of p) h.0 (pattern_fits p)) (numbering_said first last (step_said step)) (numbering_bounded first last (step_said step)) (axes_said more)
  where
    go : (o : Option Pattern) → Fits n o → (k : Option Numbering) → Bounded k → (axes : Option (Option ℕ)) → Says n (numbered o k axes)
    go none f k b axes = tt
    go (some q) f none b axes = tt
    go (some q) f (some k) b none = tt
    go (some q) f (some k) b (some axes) = (f, b)

said : (n : ℕ) (t : List ℕ) → length t ≤ n → Says n (data_file_said t)
unfolding data_file_said
said n t l = go (is_list t) (has_percent t) (is_empty t)
  where
    list : (o : Option (Option ℕ)) → Says n (listed o)
    list none = tt
    list (some axes) = tt

    widen : (ws : List (List ℕ)) → AllWithin (length t) ws → AllWithin n ws
    widen [] h = tt
    widen (w ∷ ws) h = (omega (arith, h.0, l), widen ws h.1)

    go : (x y z : Bool) → Says n (if x then listed (axes_said (words (drop 4 t))) else if y then pattern_said (words t) else if z then none else some (one_file t))
    go true y z = list (axes_said (words (drop 4 t)))
    go false true z = pattern_says n (words t) (widen (words t) (words_within t))
    go false false true = tt
    go false false false = l

-- ---- the names under LIST are lines of the header

within_last : (n : ℕ) (ts : List (List ℕ)) (t : List ℕ) → AllWithin n ts → length t ≤ n → AllWithin n (ts ++ (t ∷ []))
within_last n [] t h l = (l, tt)
within_last n (u ∷ ts) t h l = (h.0, within_last n ts t h.1 l)

text_within : (l : Line) → length (text l) ≤ size l
text_within (line t e) = omega (arith, size_line t e)

names_within : (version : ℕ) (es : List Entry) (gs gs' : List Given) (r : List Line) → Fine version gs es gs' r → header_length es ≤ max_header
    → AllWithin max_header (file_names gs) → AllWithin max_header (file_names gs')
unfolding file_names
names_within version [] gs gs' r f b p = rw f.3 p
names_within version (entry l i ∷ es) gs gs' r f b p =
    let n = length_unlines_cons l (lines_of es) in
    let h : length (text l) ≤ max_header = omega (arith, b, n, text_within l) in
    let q = after_cases version gs (text l) (λ gs. AllWithin max_header (file_names gs)) f.0 p (λ g d w. p)
    (λ t w. within_last max_header (file_names gs) t p (omega (arith, ap length w.whole, h))) in
    fine_cases version gs l i es gs' r (λ es gs'. AllWithin max_header (file_names gs')) f (λ k c x. q)
    (λ k c x. names_within version es (after_item i gs) gs' r x (omega (arith, b, n)) q)

module _ (s : List ℕ) {es : List Entry} {gs : List Given} {r : List Line} (e : header s ≡ accepted es gs r) where
  listed_short : AllWithin max_header (file_names gs)
  unfolding file_names
  listed_short =
      let x = header_sound s e in
      let b = rw x.entries at x.short in
      names_within x.version x.rest [] gs r x.fine (omega (arith, b, length_unlines_cons x.first (lines_of x.rest))) tt

  -- ---- the name of a file

  data_file_says : Says max_header (data_file_of gs)
  data_file_says = go (descriptor_of data_file gs) refl
    where
      go : (o : Option (List ℕ)) → descriptor_of data_file gs ≡ o → Says max_header (meaning none data_file_said o)
      go none q = tt
      go (some t) q = said max_header t (header_described s e data_file t q).short

  pub name_short : (n : ℕ) → n < file_count_of gs → length (file_name_of gs n) ≤ name_room
  unfolding file_count_of file_name_of name_said
  name_short n = go (data_file_of gs) data_file_says (file_names gs) listed_short
    where
      nth : (names : List (List ℕ)) (n : ℕ) → AllWithin max_header names → length (get_or names n []) ≤ name_room
      nth [] n h = omega arith
      nth (t ∷ names) zero h = omega (arith, h.0)
      nth (t ∷ names) (suc n) h = nth names n h.1

      numbered_name : (p : Pattern) (m : ℕ) → Fits max_header (some p) → m ≤ max_file_number → length (pattern_name p m) ≤ name_room
      numbered_name (pattern before zeros width after) m f h =
          let d = decimal_short m (omega (arith, h)) in
          let pad = if zeros then 48 else SPACE in
          let a = length-append before (number_text zeros width m ++ after) in
          let b = length-append (number_text zeros width m) after in
          let c = length-append (replicate (width - length (decimal m)) pad) (decimal m) in
          let k = length-replicate (width - length (decimal m)) pad in
          omega (arith, a, b, c, k, d, f.0, f.1)

      go : (o : Option DataFile) → Says max_header o → (names : List (List ℕ)) → AllWithin max_header names → n < files_said o (length names) → length (name_said o names n) ≤ name_room
      go none y names h l = omega arith
      go (some (one_file t)) y names h l = omega (arith, y)
      go (some (numbered_files p k axes)) y names h l = numbered_name p (number_at k n) y.0 (y.1 n l)
      go (some (listed_files axes)) y names h l = nth names n h

pub name_enough : (file : List ℕ) (n : ℕ) (out : List ℕ) → name_room ≤ length out → Enough (file_name_call file n out).0.refusal
name_enough file n out l = go (header file) refl (header_numbered file)
  where
    fits : (es : List Entry) (gs : List Given) (ls : List Line) → (n < file_count_of gs → length (file_name_of gs n) ≤ name_room)
        → (x : Bool) → leb (file_count_of gs) n ≡ x → Enough (file_name_in n out (accepted es gs ls)).0.refusal
    fits es gs ls h true q = rw q (λ e. omega arith)
    fits es gs ls h false q = rw (q, le-ltb (length out) (length (file_name_of gs n)) (omega (arith, l, h (leb-false (file_count_of gs) n q)))) (λ e. omega arith)

    go : (o : Outcome) → header file ≡ o → NumberedOutcome o → Enough (file_name_in n out o).0.refusal
    go (refused r) e k = λ q. omega (arith, k, q)
    go (accepted es gs ls) e k = fits es gs ls (name_short file e n) (leb (file_count_of gs) n) refl
