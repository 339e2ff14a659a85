-- The refusals of a reading have the numbers 1 to 15.
-- Assumes nothing.
use Rattle.std.specs.Prelude.{if◌then◌else◌}
use mathlib.Core.Path.{◌≡◌, refl}
use Prim.Native.Nat.{ℕ, ◌+◌, ◌≤◌, ◌<◌}
use native.Mathlib.Omega.{arith}
use mathlib.Core.Bool.{Bool, true, false, not}
use mathlib.Core.List.{List, [], ◌∷◌}
use mathlib.Core.Option.{Option, none, some}
use lib.Dec.{ltb}
use lib.ListN.{length}
use Rattle.format.specs.Bytes.{every}
use Rattle.format.specs.Limits.{max_file, max_header, max_lines, max_extent}
use Rattle.format.specs.Refusals.{file_too_long, header_too_long, too_many_lines, bad_byte, not_in_version, repeated_field, out_of_order, bad_descriptor, no_end, extent_too_large, at_line, refusal}
use Rattle.format.specs.Lines.{Line, size, text, lines}
use Rattle.format.specs.Pairs.{plain, Marked, unmarked, field_mark, pair_mark, LineKind, empty_line, comment_line, other_line, kind_of, unescape}
use Rattle.format.specs.Fields.{field_named, pairs_since, Given, is_given, is_repeated, in_order}
use Rattle.format.specs.Descriptors.{descriptor, since, may_describe, dimension_of, space_size_of, names_follow, list_empty, has_needed, end_is_raw, extent_of, files_fine, is_detached}
use Rattle.format.specs.Header.{Item, magic, field, Entry, entry, version_of_line, Judged, wrong, right, unescaped, on_pair, on_field, on_mark, on_kind, on_name, judge, Outcome, refused, accepted, with_entry, closes, after_item, complete, on_judged, walk, after_magic, from_first, header}

-- ---- a line's

abbrev pub Numbered : Judged → Type 0
Numbered (wrong w) = (0 < w) × (w ≤ extent_too_large)
Numbered (right i) = Unit {0}

module _ (version : ℕ) (gs : List Given) where
  field_numbered : (f : Option ℕ) (rest : List ℕ) → Numbered (on_field version gs f rest)
  unfolding on_field
  field_numbered none rest = omega arith
  field_numbered (some f) rest =
      go (ltb version (since f (descriptor f rest))) (is_repeated f gs) (in_order f gs) (may_describe (dimension_of gs) (space_size_of gs) f (descriptor f rest))
    where
      go : (a b c d : Bool)
          → Numbered
          (if a then wrong not_in_version else if b then wrong repeated_field else if not c then wrong out_of_order
          else if not d then wrong bad_descriptor else right (field f (descriptor f rest)))
      go true b c d = omega arith
      go false true c d = omega arith
      go false false false d = omega arith
      go false false true false = omega arith
      go false false true true = tt

  pair_numbered : (k v : List ℕ) → Numbered (on_pair version k v)
  unfolding on_pair
  pair_numbered [] v = omega arith
  pair_numbered (b ∷ k) v = go (ltb version pairs_since) (unescape (b ∷ k)) (unescape v)
    where
      go : (a : Bool) (x y : Option (List ℕ)) → Numbered (if a then wrong not_in_version else unescaped x y)
      go true x y = omega arith
      go false none y = omega arith
      go false (some k') none = omega arith
      go false (some k') (some v') = tt

  pub judge_numbered : (t : List ℕ) → Numbered (judge version gs t)
  unfolding judge
  judge_numbered t = by (names_follow gs)
    where
      name : (t : List ℕ) (x : Bool) → every plain t ≡ x → Numbered (on_name t)
      name [] x e = tt
      name (b ∷ t) true e = simp e tt
      name (b ∷ t) false e = simp e (omega arith)

      other : (x : Bool) (m : Marked) → Numbered (if not x then wrong bad_byte else on_mark version gs m)
      other false m = omega arith
      other true unmarked = omega arith
      other true (field_mark name rest) = field_numbered (field_named name) rest
      other true (pair_mark k v) = pair_numbered k v

      go : (k : LineKind) → Numbered (on_kind version gs t k)
      go empty_line = tt
      go comment_line = tt
      go (other_line m) = other (every plain t) m

      by : (x : Bool) → Numbered (if x then on_name t else on_kind version gs t (kind_of t))
      by true = name t (every plain t) refl
      by false = go (kind_of t)

-- ---- the reading's

abbrev pub NumberedOutcome : Outcome → Type 0
NumberedOutcome (refused r) = (0 < r.number) × (r.number ≤ extent_too_large)
NumberedOutcome (accepted es gs ls) = Unit {0}

entry_numbered : (e : Entry) (o : Outcome) → NumberedOutcome o → NumberedOutcome (with_entry e o)
entry_numbered e (refused r) h = h
entry_numbered e (accepted es gs ls) h = tt

complete_numbered : (n : ℕ) (gs : List Given) (ls : List Line) → NumberedOutcome (complete n gs ls)
unfolding complete
complete_numbered n gs ls = go (list_empty gs) refl (has_needed gs) refl (end_is_raw gs) refl (ltb max_extent (extent_of gs)) refl (files_fine gs) refl
  where
    go : (a : Bool) → list_empty gs ≡ a → (b : Bool) → has_needed gs ≡ b → (c : Bool) → end_is_raw gs ≡ c → (d : Bool) → ltb max_extent (extent_of gs) ≡ d
        → (e : Bool) → files_fine gs ≡ e → NumberedOutcome (complete n gs ls)
    go true p true q c r d s e t = simp (p, q) (omega arith)
    go true p false q c r d s e t = simp (p, q) (omega arith)
    go false p false q c r d s e t = simp (p, q) (omega arith)
    go false p true q false r true s e t = simp (p, q, r, s) (omega arith)
    go false p true q false r false s e t = simp (p, q, r, s) (omega arith)
    go false p true q true r true s e t = simp (p, q, r, s) (omega arith)
    go false p true q true r false s true t = simp (p, q, r, s, t) tt
    go false p true q true r false s false t = simp (p, q, r, s, t) (omega arith)

walk_numbered : (version : ℕ) (ls : List Line) (n at : ℕ) (gs : List Given) → NumberedOutcome (walk version n at gs ls)
unfolding walk
walk_numbered version [] n at gs = go (is_detached gs)
  where
    go : (x : Bool) → NumberedOutcome (if x then complete n gs [] else refused (refusal no_end))
    go true = complete_numbered n gs []
    go false = omega arith
walk_numbered version (l ∷ ls) n at gs =
    go (ltb max_header (at + size l)) (ltb max_lines n) (judge version gs (text l)) (judge_numbered version gs (text l))
    (λ i. walk_numbered version ls (n + 1) (at + size l) (after_item i gs))
  where
    after : Item → Outcome
    after i = walk version (n + 1) (at + size l) (after_item i gs) ls

    close : (i : Item) → NumberedOutcome (after i) → (x : Bool) → NumberedOutcome (if x then complete n gs ls else after i)
    close i h true = complete_numbered n gs ls
    close i h false = h

    go : (x y : Bool) (j : Judged) → Numbered j → ((i : Item) → NumberedOutcome (after i))
        → NumberedOutcome
        (if x then refused (at_line header_too_long n) else if y then refused (at_line too_many_lines n)
        else on_judged n l j (λ i. if closes i then complete n gs ls else after i))
    go true y j h r = omega arith
    go false true j h r = omega arith
    go false false (wrong w) h r = h
    go false false (right i) h r = entry_numbered (entry l i) (if closes i then complete n gs ls else after i) (close i (r i) (closes i))

pub header_numbered : (file : List ℕ) → NumberedOutcome (header file)
unfolding header
header_numbered file = go (ltb max_file (length file)) (lines file)
  where
    one : (l : Line) (ls : List Line) (o : Option ℕ) → NumberedOutcome (after_magic l o ls)
    one l ls none = omega arith
    one l ls (some v) = entry_numbered (entry l (magic v)) (walk v 2 (size l) [] ls) (walk_numbered v ls 2 (size l) [])

    go : (x : Bool) (ls : List Line) → NumberedOutcome (if x then refused (refusal file_too_long) else from_first ls)
    go true ls = omega arith
    go false [] = omega arith
    go false (l ∷ ls) = one l ls (version_of_line l)
