-- Line 1, and the answer of the whole reading.
-- Assumes nothing.
use Prim.Native.Nat.{ℕ, suc, ◌+◌, ◌-◌, ◌≤◌, ◌<◌}
use native.Mathlib.Nat.{zero-add}
use native.Mathlib.Omega.{arith}
use mathlib.Core.Path.{◌≡◌, refl, sym, ap, ◌∙◌}
use mathlib.Core.Bool.{Bool, true, false}
use mathlib.Core.List.{List, [], ◌∷◌}
use mathlib.Core.Option.{Option, none, some}
use lib.ListN.{length, take, drop}
use borrow.Author.Tests.{lt-ltb, le-ltb}
use Rattle.std.specs.Prelude.{if◌then◌else◌, Some, None}
use Rattle.std.specs.Prelude.{Option as Answer}
use Rattle.std.proofs.lemmas.Option.{none-some}
use Rattle.format.specs.Bytes.{bytes, same}
use Rattle.read_header.specs.Listed.{version_told}
use Rattle.format.specs.Limits.{max_file}
use Rattle.format.specs.Refusals.{file_too_long, no_magic}
use Rattle.format.specs.Lines.{Ending, lf, crlf, eof, Line, line, size, lines}
use Rattle.format.specs.Header.{magic, entry, magic_version, version_of_line, Outcome, refused, accepted, with_entry, walk, after_magic, header, header_length, before_names, field_lines}
use Rattle.format.specs.Calls.{read_answer, read_header_call}
use Rattle.format.proofs.Lines.{lines_none, length_unlines_cons}
use Rattle.format.proofs.Header.{magic_line}
use Rattle.read_fields.specs.States.{answer_from}
use Rattle.read_lines.specs.Spans.{LineAt, PastAt}
use Rattle.read_fields.proofs.States.{reading_at_lem}
use Rattle.read_header.proofs.Turns.{answer_at, refused_at}

-- ---- line 1

-- a line of more than 11 bytes is no magic
no_version : (l : Line) → 11 < size l → version_of_line l ≡ none
no_version l h = go (version_of_line l) refl
  where
    go : (o : Option ℕ) → version_of_line l ≡ o → o ≡ none
    go none e = refl
    go (some v) e = absurd (let f : ⊥ = omega (arith, magic_line l e) in f)

-- the version of a line with an ending is that of its text
ended_version : (t : List ℕ) (e : Ending) → (e ≡ eof → ⊥) → version_of_line (line t e) ≡ magic_version t
ended_version t lf h = refl
ended_version t crlf h = refl
ended_version t eof h = absurd (h refl)

-- by the tests in their order
pub magic_tests : (t : List ℕ)
    → (if same t (bytes "NRRD0001") then Some 1 else if same t (bytes "NRRD00.01") then Some 1 else if same t (bytes "NRRD0002") then Some 2 else if same t (bytes "NRRD0003") then Some 3 else if same t (bytes "NRRD0004") then Some 4 else if same t (bytes "NRRD0005") then Some 5 else None)
    ≡ version_told (magic_version t)
unfolding magic_version
magic_tests t = go (same t (bytes "NRRD0001")) (same t (bytes "NRRD00.01")) (same t (bytes "NRRD0002")) (same t (bytes "NRRD0003")) (same t (bytes "NRRD0004")) (same t (bytes "NRRD0005"))
  where
    go : (a b c d e f : Bool)
        → (if a then Some 1 else if b then Some 1 else if c then Some 2 else if d then Some 3 else if e then Some 4 else if f then Some 5 else None)
        ≡ version_told (if a then some 1 else if b then some 1 else if c then some 2 else if d then some 3 else if e then some 4 else if f then some 5 else none)
    go true b c d e f = refl
    go false true c d e f = refl
    go false false true d e f = refl
    go false false false true e f = refl
    go false false false false true f = refl
    go false false false false false true = refl
    go false false false false false false = refl

version_none : (o : Option ℕ) → None ≡ version_told o → o ≡ none
version_none none e = refl
version_none (some v) e = absurd (none-some v e)

version_some : (o : Option ℕ) (v : ℕ) → Some v ≡ version_told o → o ≡ some v
version_some none v e = absurd (none-some v (sym e))
version_some (some w) v e = ap (λ (x : Answer ℕ). some (version_in x)) (sym e)
  where
    version_in : Answer ℕ → ℕ
    version_in None = 0
    version_in (Some v) = v

-- ---- the answer

-- the answer with line 1 in front
first_answer : (l : Line) (v : ℕ) (o : Outcome) → read_answer (with_entry (entry l (magic v)) o) ≡ answer_from v 2 (size l) o
unfolding before_names
first_answer l v (refused r) = refl
first_answer l v (accepted es gs ls) =
    let b : header_length (entry l (magic v) ∷ es) ≡ size l + header_length es = rw length_unlines_cons in
    let c : suc (length es) ≡ 2 - 1 + length es = omega arith in
    let d : suc (field_lines es) ≡ 2 - 1 + field_lines es = omega arith in
    rw (reading_at_lem (entry l (magic v) ∷ es) gs, b, c, d)

module _ (file : List ℕ) where
  pub read_long : max_file < length file → refused_at file_too_long 0 ≡ read_header_call file
  unfolding header
  read_long h = rw (lt-ltb max_file (length file) h)

  module _ (h : length file ≤ max_file) where
    -- what the first line and the lines after it give
    cut_first : (l : Line) (ls : List Line) → lines (drop 0 file) ≡ l ∷ ls → read_header_call file ≡ read_answer (after_magic l (version_of_line l) ls)
    unfolding header
    cut_first l ls e = rw (le-ltb max_file (length file) h, e)

    no_magic_lem : (l : Line) (ls : List Line) → lines (drop 0 file) ≡ l ∷ ls → version_of_line l ≡ none → refused_at no_magic 1 ≡ read_header_call file
    no_magic_lem l ls e n = sym (cut_first l ls e ∙ rw n)

    pub read_none : length file ≡ 0 → refused_at no_magic 1 ≡ read_header_call file
    unfolding header
    read_none e = rw (le-ltb max_file (length file) h, lines_none file 0 (omega arith))

    pub read_past : PastAt file 0 → refused_at no_magic 1 ≡ read_header_call file
    read_past w = no_magic_lem w.first w.rest w.cut (no_version w.first (omega (arith, w.long)))

    module _ {text_end next : ℕ} (w : LineAt file 0 text_end next) where
      pub read_unended : text_end ≡ next → refused_at no_magic 1 ≡ read_header_call file
      read_unended e = no_magic_lem _ _ w.cut (rw (w.unended.0 e))

      module _ (ended : text_end ≡ next → ⊥) where
        l : Line
        l = line (take (text_end - 0) (drop 0 file)) w.ending

        version : version_of_line l ≡ magic_version (take (text_end - 0) (drop 0 file))
        unfolding l
        version = ended_version (take (text_end - 0) (drop 0 file)) w.ending (λ x. ended (w.unended.1 x))

        pub read_other : None ≡ version_told (magic_version (take (text_end - 0) (drop 0 file))) → refused_at no_magic 1 ≡ read_header_call file
        unfolding l
        read_other z = no_magic_lem l _ w.cut (version ∙ version_none _ z)

        pub read_on : (v : ℕ) → Some v ≡ version_told (magic_version (take (text_end - 0) (drop 0 file))) → answer_at file v [] 2 next ≡ read_header_call file
        unfolding l
        read_on v z =
            let b : size l ≡ next = rw zero-add at w.bytes in
            sym (cut_first l _ w.cut ∙ rw (version ∙ version_some _ v z, first_answer l v (walk v 2 (size l) [] (lines (drop next file))), b))
