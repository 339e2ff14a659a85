-- What the look-ups find is the reading's: the bytes at the place of a field are its descriptor, those at the place of a key its escaped value.
-- Assumes nothing.
use Rattle.std.specs.Prelude.{if◌then◌else◌}
use Prim.Native.Nat.{ℕ, ◌+◌, ◌-◌, ◌<◌}
use native.Mathlib.Omega.{arith}
use mathlib.Core.Path.{◌≡◌, refl, sym, ap, ◌∙◌, subst}
use mathlib.Core.Bool.{Bool, true, false, false≢true}
use mathlib.Core.List.{List, [], ◌∷◌, ◌++◌, append_assoc}
use mathlib.Core.Option.{Option, none, some}
use lib.Dec.{eqb}
use lib.ListN.{length, take, drop, length-append, length-drop, take-append-drop}
use lib.Seq.{drop-drop, take-append_seam, drop-append_seam}
use borrow.Author.Tests.{eqb-true}
use Rattle.format.specs.declared.FindAnswer.{FindAnswer}
use Rattle.format.specs.Bytes.{bytes, same, is_some, or_else}
use Rattle.format.specs.Refusals.{fine}
use Rattle.format.specs.Lines.{Line, line, text, size, ending_bytes, line_bytes, unlines}
use Rattle.format.specs.Pairs.{escape}
use Rattle.format.specs.Fields.{Given, given, named, descriptor_of, is_given}
use Rattle.format.specs.Descriptors.{from_descriptor, descriptor}
use Rattle.format.specs.Header.{Item, magic, field, pair, pair_of, given_of, Entry, entry, lines_of, right, judge, Outcome, refused, accepted, with_field, after_item, header, value_for, value_in, value_of}
use Rattle.format.specs.Settings.{pair_text}
use Rattle.format.specs.Calls.{no_place, found_at, pair_place, value_place, key_place, find_key_in, find_key_call, before_descriptor, given_place, field_place, find_field_in, find_field_call}
pub use Rattle.format.specs.Found.{HasAt, Finds, FindsField, escaped, FindsKey}
use Rattle.format.specs.Rules.{FieldLine, Keeps}
use Rattle.format.proofs.Marks.{field_of_first}
use Rattle.format.proofs.Judged.{is_pair, is_field}
use Rattle.format.proofs.Pairs.{pair_line}
use Rattle.format.proofs.Descriptors.{drop_to_descriptor, take_trimmed}
use Rattle.format.proofs.Header.{Fine, fine_cases, header_sound}

-- ---- a text in a line

-- a text t after the bytes a of what stands at `at`
has_at : (file : List ℕ) (at : ℕ) (a t b : List ℕ) → 0 < length a → drop at file ≡ a ++ (t ++ b) → HasAt file t (found_at (at + length a) (length t))
has_at file at a t b n h =
    record {
      not_refused = refl;
      there = refl;
      long = refl;
      within = omega (arith, ap length h, length-drop at file, length-append a (t ++ b), length-append t b);
      bytes = rw (← drop-drop (length a) at file, h, drop-append_seam, take-append_seam);
    }

-- the escaped value in the line of a pair
value_here : (file : List ℕ) (at : ℕ) (k v z : List ℕ) → drop at file ≡ pair_text k v ++ z → HasAt file (escape v) (value_place at (pair k v))
unfolding pair_text
value_here file at k v z h =
    let n : length (escape k ++ bytes ":=") ≡ length (escape k) + 2 = length-append (escape k) (bytes ":=") in
    rw n at (has_at file at (escape k ++ bytes ":=") (escape v) z (omega arith) (h ∙ simp append_assoc))

-- the descriptor in the line of its field
descriptor_here : (version : ℕ) (gs : List Given) (file : List ℕ) (at f : ℕ) (t d z : List ℕ) → drop at file ≡ t ++ z → FieldLine version gs t f d
    → HasAt file d (found_at (at + before_descriptor f t) (length d))
unfolding descriptor
descriptor_here version gs file at f t d z h w =
    let from = from_descriptor f w.rest in
    let n = length w.rest - length from in
    let blanks = take n w.rest in
    let after = drop (length d) from in
    let front = w.name ++ (bytes ": " ++ blanks) in
    let rest_is : w.rest ≡ blanks ++ from = sym (take-append-drop n w.rest) ∙ ap (λ (u : List ℕ). blanks ++ u) (drop_to_descriptor f w.rest) in
    let begins : take (length d) from ≡ d = rw w.descriptor_is (take_trimmed from) in
    let from_is : from ≡ d ++ after = sym (take-append-drop (length d) from) ∙ ap (λ (u : List ℕ). u ++ after) begins in
    let t_is : t ≡ front ++ from = w.marked.parted ∙ ap (λ (u : List ℕ). w.name ++ (bytes ": " ++ u)) rest_is ∙ simp append_assoc in
    let long : length front ≡ before_descriptor f t = rw (field_of_first w.marked) (omega (arith, ap length t_is, length-append front from)) in
    let some : 0 < length front = omega (arith, length-append w.name (bytes ": " ++ blanks)) in
    rw long at (has_at file at front d (after ++ z) some (h ∙ ap (λ (u : List ℕ). u ++ z) (t_is ∙ ap (λ (u : List ℕ). front ++ u) from_is) ∙ simp append_assoc))

-- ---- the lines of a header, from the last one to the first

-- the bytes after a line
past : (file : List ℕ) (at : ℕ) (l : Line) (ls : List Line) (z : List ℕ) → drop at file ≡ unlines (l ∷ ls) ++ z → drop (at + size l) file ≡ unlines ls ++ z
unfolding unlines
past file at l ls z h = sym (drop-drop (size l) at file) ∙ ap (drop (size l)) h ∙ simp (append_assoc, drop-append_seam)

-- What holds at the end of a header, and of a line with those after it where it holds of those, holds of a whole header.
-- P is told where the lines start in the file, the fields before them, their entries, and the header's fields.
module _ (file : List ℕ) (P : ℕ → List Given → List Entry → List Given → Type 0)
    (at_end : (at : ℕ) (gs : List Given) → P at gs [] gs)
    (before : (version at : ℕ) (gs : List Given) (l : Line) (i : Item) (es : List Entry) (gs' : List Given) (z : List ℕ) → drop at file ≡ line_bytes l ++ z
    → judge version gs (text l) ≡ right i → Keeps version gs (text l) i → P (at + size l) (after_item i gs) es gs' → P at gs (entry l i ∷ es) gs')
    (first : (l : Line) (v : ℕ) (es : List Entry) (gs' : List Given) → P (0 + size l) [] es gs' → P 0 [] (entry l (magic v) ∷ es) gs') where
  fine_lines : (version at : ℕ) (gs : List Given) (es : List Entry) (gs' : List Given) (r : List Line) (z : List ℕ)
      → Fine version gs es gs' r → drop at file ≡ unlines (lines_of es) ++ z → P at gs es gs'
  unfolding unlines
  fine_lines version at gs [] gs' r z f h = rw f.3 (at_end at gs)
  fine_lines version at gs (entry l i ∷ es) gs' r z f h =
      let cut : drop at file ≡ line_bytes l ++ (unlines (lines_of es) ++ z) = h ∙ simp append_assoc in
      fine_cases version gs l i es gs' r (λ es gs'. P at gs (entry l i ∷ es) gs') f
      (λ s c k. before version at gs l i [] (after_item i gs) _ cut f.0 s (at_end (at + size l) (after_item i gs)))
      (λ s c g. before version at gs l i es gs' _ cut f.0 s (fine_lines version (at + size l) (after_item i gs) es gs' r z g (past file at l (lines_of es) z h)))

  header_lines : {es : List Entry} {gs : List Given} {r : List Line} → header file ≡ accepted es gs r → P 0 [] es gs
  header_lines {es} {gs} {r} e =
      let x = header_sound file e in
      let l = x.first in
      let bytes : file ≡ unlines (l ∷ lines_of x.rest) ++ unlines r = rw x.entries at x.bytes in
      rw x.entries (first l x.version x.rest gs (fine_lines x.version (0 + size l) [] x.rest gs r (unlines r) x.fine (past file 0 l (lines_of x.rest) (unlines r) bytes)))

-- ---- fields

module _ (file : List ℕ) (f : ℕ) where
  -- of lines after which the header's fields are gs': a field given before them keeps its descriptor; else `a` finds the one that they give
  abbrev Field : FindAnswer → List Given → Option (List ℕ) → Type 0
  Field a gs' none = Finds file (descriptor_of f gs') a
  Field a gs' (some d) = descriptor_of f gs' ≡ some d

  field_ends : (at : ℕ) (gs : List Given) → Field (field_place f at []) gs (descriptor_of f gs)
  unfolding field_place
  field_ends at gs = go (descriptor_of f gs) refl
    where
      go : (o : Option (List ℕ)) → descriptor_of f gs ≡ o → Field (no_place fine) gs o
      go none e = rw e
      go (some d) e = e

  -- a line that gives g the descriptor d
  field_given : (version at : ℕ) (gs : List Given) (l : Line) (g : ℕ) (d : List ℕ) (es : List Entry) (gs' : List Given) (z : List ℕ)
      → drop at file ≡ line_bytes l ++ z → FieldLine version gs (text l) g d
      → Field (field_place f (at + size l) es) gs' (descriptor_of f (given g d ∷ gs)) → Field (field_place f at (entry l (field g d) ∷ es)) gs' (descriptor_of f gs)
  unfolding field_place descriptor_of
  field_given version at gs (line t e) g d es gs' z h w = go (eqb f g) refl
    where
      rest : FindAnswer
      rest = field_place f (at + size (line t e)) es

      -- it is the field's first line
      new : f ≡ g → descriptor_of f gs' ≡ some d → (o : Option (List ℕ)) → is_some o ≡ false → Field (found_at (at + before_descriptor f t) (length d)) gs' o
      new q p none n = rw p (descriptor_here version gs file at f t d (ending_bytes e ++ z) (h ∙ append_assoc t (ending_bytes e) z) (rw q w))
      new q p (some c) n = absurd (false≢true (sym n))

      go : (x : Bool) → eqb f g ≡ x → Field rest gs' (if x then some d else descriptor_of f gs)
          → Field (if x then found_at (at + before_descriptor f t) (length d) else rest) gs' (descriptor_of f gs)
      go true q p = let r = eqb-true f g q in new r p (descriptor_of f gs) (rw r w.new)
      go false q p = p

  field_before : (version at : ℕ) (gs : List Given) (l : Line) (i : Item) (es : List Entry) (gs' : List Given) (z : List ℕ)
      → drop at file ≡ line_bytes l ++ z → judge version gs (text l) ≡ right i → Keeps version gs (text l) i
      → Field (field_place f (at + size l) es) gs' (descriptor_of f (after_item i gs)) → Field (field_place f at (entry l i ∷ es)) gs' (descriptor_of f gs)
  unfolding field_place descriptor_of
  field_before version at gs l i es gs' z h j s = go (given_of i) refl
    where
      rest : FindAnswer
      rest = field_place f (at + size l) es

      go : (o : Option Given) → given_of i ≡ o → Field rest gs' (descriptor_of f (with_field o gs)) → Field (given_place f at (text l) o rest) gs' (descriptor_of f gs)
      go none e p = p
      go (some (given g d)) e p = field_given version at gs l g d es gs' z h (subst (Keeps version gs (text l)) (is_field i e) s) p
      go (some (named n)) e p = p

  pub field_found : FindsField file f (header file) (find_field_call file f)
  unfolding field_place descriptor_of
  field_found = go (header file) refl
    where
      go : (o : Outcome) → header file ≡ o → FindsField file f o (find_field_in f o)
      go (refused r) e = refl
      go (accepted es gs ls) e =
          header_lines file (λ at gs es gs'. Field (field_place f at es) gs' (descriptor_of f gs)) field_ends field_before (λ l v es gs' p. p) e

-- ---- keys

module _ (file k : List ℕ) where
  -- of lines that start at `at`: their place is that of the last value that they give the key
  abbrev Key : ℕ → List Entry → Type 0
  Key at es = Finds file (escaped (value_of k es)) (key_place k at es)

  -- of one line
  abbrev KeyIn : ℕ → Item → Type 0
  KeyIn at i = Finds file (escaped (value_in k i)) (if is_some (value_in k i) then value_place at i else no_place fine)

  key_in : (version at : ℕ) (gs : List Given) (l : Line) (i : Item) (z : List ℕ) → drop at file ≡ line_bytes l ++ z → judge version gs (text l) ≡ right i → KeyIn at i
  key_in version at gs (line t e) i z h j = go (pair_of i) refl
    where
      go : (o : Option (List ℕ × List ℕ)) → pair_of i ≡ o
          → Finds file (escaped (value_for k o)) (if is_some (value_for k o) then pair_place at o else no_place fine)
      go none q = refl
      go (some p) q = here (same k p.0)
        where
          here : (x : Bool) → Finds file (escaped (if x then some p.1 else none)) (if is_some (if x then some p.1 else none) then pair_place at (some p) else no_place fine)
          here true =
              value_here file at p.0 p.1 (ending_bytes e ++ z)
              (h ∙ append_assoc t (ending_bytes e) z ∙ rw (pair_line version gs t p.0 p.1 (j ∙ ap right (is_pair i q))).text_is)
          here false = refl

  -- a line before others: they give the key its last value, or else the line does, or none
  key_before : (at : ℕ) (l : Line) (i : Item) (es : List Entry) → KeyIn at i → Key (at + size l) es → Key at (entry l i ∷ es)
  unfolding key_place value_of
  key_before at l i es here = go (value_of k es)
    where
      go : (o : Option (List ℕ)) → Finds file (escaped o) (key_place k (at + size l) es)
          → Finds file (escaped (or_else o (value_in k i)))
          (if is_some o then key_place k (at + size l) es else if is_some (value_in k i) then value_place at i else no_place fine)
      go (some v) p = p
      go none p = here

  pub key_found : FindsKey file k (header file) (find_key_call file k)
  unfolding key_place value_of
  key_found = go (header file) refl
    where
      go : (o : Outcome) → header file ≡ o → FindsKey file k o (find_key_in k o)
      go (refused r) e = refl
      go (accepted es gs ls) e =
          header_lines file (λ at gs es gs'. Key at es) (λ at gs. refl)
          (λ version at gs l i es gs' z h j s p. key_before at l i es (key_in version at gs l i z h j) p) (λ l v es gs' p. key_before 0 l (magic v) es refl p) e
