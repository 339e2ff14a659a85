-- The limits of a header, at both sides, by induction: neither the bytes nor the lines are counted out.
use Prim.Native.Nat.{ℕ, zero, suc, ◌+◌, ◌*◌, ◌-◌, ◌≤◌}
use Prim.Native.String.{String}
use native.Mathlib.Omega.{arith}
use mathlib.Core.Path.{◌≡◌, refl, ap, ◌∙◌}
use mathlib.Core.Bool.{Bool, true}
use mathlib.Core.List.{List, [], ◌∷◌, ◌++◌, map, append_assoc}
use lib.Dec.{eqb}
use lib.ListN.{length, replicate, length-append, length-replicate}
use borrow.Author.Tests.{le-ltb}
use Rattle.format.specs.declared.Refusal.{Refusal}
use Rattle.format.specs.Bytes.{every, same, alike, begins_with, is_in, is_any, row_from, bytes, LF, HASH}
use Rattle.format.specs.Limits.{max_file, max_header, max_lines}
use Rattle.format.specs.Calls.{read_answer}
use Rattle.format.specs.Refusals.{at_line, fine}
use Rattle.format.specs.Lines.{Line, line, lf, size, lines}
use Rattle.format.specs.Pairs.{mark}
use Rattle.format.specs.Fields.{Given, given, sizes, dimension, type, encoding, field_at, descriptor_of, is_repeated, in_order}
use Rattle.format.specs.Words.{trim_front, trim_end, digits_from, number, parts, not_empty, numbers_in}
use Rattle.format.specs.Descriptors.{descriptor, since, type_at, may_describe, names_follow, list_empty, has_needed, end_is_raw, product, files_fine}
use Rattle.format.specs.Header.{magic_version, on_field, judge, entry, Outcome, refused, accepted, with_entry, complete, walk, from_first, header}
use Rattle.format.specs.Trials.{texts, refusal_of, header_with, comment, comments, AtLimits}
use Rattle.format.proofs.LimitLaws.{header_in_file, lines_in_header}
use Rattle.format.proofs.Lines.{no_lf_of, ends_of, lines_lf}

-- ---- the lines of comments, before the closing line

hashes : (n : ℕ) → every (λ b. eqb b HASH) (replicate n HASH) ≡ true
unfolding every
hashes zero = refl
hashes (suc n) = hashes n

abbrev closing_line : List Line
closing_line = line [] lf ∷ []

comment_lines : (n : ℕ) → lines (comment n ++ LF ∷ []) ≡ line (replicate n HASH) lf ∷ closing_line
unfolding lines
comment_lines n =
    let t = replicate n HASH in
    let p : ℕ → Bool = λ b. eqb b HASH in
    rw append_assoc (lines_lf t (LF ∷ []) (no_lf_of p refl t (hashes n)) (ends_of p refl t (hashes n)))

abbrev hash_lines : ℕ → List Line
hash_lines zero = closing_line
hash_lines (suc n) = line (HASH ∷ []) lf ∷ hash_lines n

comments_lines : (n : ℕ) → lines (comments n ++ LF ∷ []) ≡ hash_lines n
unfolding lines
comments_lines zero = refl
comments_lines (suc n) = rw (comments_lines n)

comments_long : (n : ℕ) → length (comments n) ≡ 2 * n
comments_long zero = refl
comments_long (suc n) = omega (arith, comments_long n)

-- ---- the walk over them, once the five lines are read

abbrev answered : Outcome → Refusal
answered o = (read_answer o).refusal

abbrev fields : List Given
fields = given encoding (bytes "raw") ∷ given sizes (bytes "1") ∷ given dimension (bytes "1") ∷ given type (bytes "int8") ∷ []

abbrev walked : ℕ → ℕ → List Line → Refusal
walked n at ls = answered (walk 1 n at fields ls)

-- the lines of `header_with`, before others
abbrev five_lines : List Line → List Line
five_lines ls = map (λ (s : String). line (bytes s) lf) ("NRRD0001" ∷ "type: int8" ∷ "dimension: 1" ∷ "sizes: 1" ∷ "encoding: raw" ∷ []) ++ ls

from_lines : (s : List ℕ) (ls : List Line) → lines (s ++ LF ∷ []) ≡ ls → length s + 57 ≤ max_file → header (header_with s) ≡ from_first (five_lines ls)
unfolding lines header texts
from_lines s ls p h =
    rw (le-ltb max_file (length (header_with s)) (simp length-append (omega arith))) (ap (λ (x : List Line). from_first (five_lines x)) p)

past_five : (ls : List Line) → answered (from_first (five_lines ls)) ≡ walked 6 56 ls
unfolding every same alike begins_with is_in is_any row_from mark field_at descriptor_of is_repeated in_order trim_front trim_end descriptor digits_from number parts not_empty numbers_in type_at may_describe magic_version on_field judge walk names_follow since
past_five ls = go (walk 1 6 56 fields ls) refl
  where
    go : (o : Outcome) → walk 1 6 56 fields ls ≡ o → answered (from_first (five_lines ls)) ≡ answered o
    go (refused r) e = rw e
    go (accepted es gs r) e = rw e

-- ---- the closing line, at either side of a limit: a wrong limit fails here first, by its numbers

closings :
    (walked 7 (max_header - 1) closing_line ≡ fine) × (walked 7 max_header closing_line ≡ at_line 3 7)
    × (walked max_lines (44 + 2 * max_lines) closing_line ≡ fine) × (walked (max_lines + 1) (46 + 2 * max_lines) closing_line ≡ at_line 4 (max_lines + 1))
unfolding every same alike is_in is_any row_from descriptor_of digits_from number parts not_empty type_at has_needed end_is_raw product judge complete walk names_follow list_empty files_fine
closings = (refl, refl, refl, refl)

-- ---- the walk goes over comments

over_comment : (n at : ℕ) (t : List ℕ) (ls : List Line) → at + size (line (HASH ∷ t) lf) ≤ max_header → n ≤ max_lines
    → walked n at (line (HASH ∷ t) lf ∷ ls) ≡ walked (n + 1) (at + size (line (HASH ∷ t) lf)) ls
unfolding walk judge names_follow descriptor_of
over_comment n at t ls h k =
    rw (le-ltb max_header (at + size (line (HASH ∷ t) lf)) h, le-ltb max_lines n k) (go (walk 1 (n + 1) (at + size (line (HASH ∷ t) lf)) fields ls))
  where
    go : (o : Outcome) → answered (with_entry (entry (line (HASH ∷ t) lf) Rattle.format.specs.Header.comment) o) ≡ answered o
    go (refused r) = refl
    go (accepted es gs r) = refl

over_comments : (k n at m e : ℕ) → m ≡ n + k → e ≡ at + 2 * k → e ≤ max_header → m ≤ max_lines + 1 → walked n at (hash_lines k) ≡ walked m e closing_line
over_comments zero n at m e p q h l = let x : m ≡ n = omega arith in let y : e ≡ at = omega arith in rw (x, y)
over_comments (suc k) n at m e p q h l =
    over_comment n at [] (hash_lines k) (omega arith) (omega arith) ∙ over_comments k (n + 1) (at + 2) m e (omega arith) (omega arith) h l

-- ---- both limits

-- a comment of n + 1 bytes: the closing line starts at n + 58
with_comment : (n : ℕ) → n + 58 ≤ max_header → refusal_of (header_with (comment (suc n))) ≡ walked 7 (n + 58) closing_line
with_comment n h =
    let e : 56 + size (line (HASH ∷ replicate n HASH) lf) ≡ n + 58 = simp (length-append, length-replicate) (omega arith) in
    ap answered (from_lines (comment (suc n)) _ (comment_lines (suc n)) (simp (length-append, length-replicate) (omega (arith, header_in_file))))
    ∙ past_five (line (HASH ∷ replicate n HASH) lf ∷ closing_line)
    ∙ over_comment 6 56 (replicate n HASH) closing_line (omega arith) (omega (arith, lines_in_header))
    ∙ ap (λ (b : ℕ). walked 7 b closing_line) e

-- n comments of a byte: the closing line is line n + 6
with_comments : (n : ℕ) → n + 5 ≤ max_lines → refusal_of (header_with (comments n)) ≡ walked (n + 6) (56 + 2 * n) closing_line
with_comments n h =
    ap answered (from_lines (comments n) (hash_lines n) (comments_lines n) (omega (arith, comments_long n, header_in_file, lines_in_header)))
    ∙ past_five (hash_lines n)
    ∙ over_comments n 6 56 (n + 6) (56 + 2 * n) (omega arith) refl (omega (arith, lines_in_header)) (omega arith)

pub at_limits : AtLimits
at_limits =
    record {
      bytes_taken = with_comment (max_header - 59) (omega arith) ∙ closings.0;
      bytes_refused = with_comment (max_header - 58) (omega arith) ∙ closings.1;
      lines_taken = with_comments (max_lines - 6) (omega arith) ∙ closings.2;
      lines_refused = with_comments (max_lines - 5) (omega arith) ∙ closings.3;
    }
