-- The laws of specs/Lines.antt: no byte is lost, `lines` is the only split that keeps the line rule, and each start is where its line begins.
-- Assumes nothing.
use Rattle.std.specs.Prelude.{if◌then◌else◌}
use Prim.Native.Nat.{ℕ, zero, suc, ◌+◌, ◌≤◌, ◌<◌, ◌-◌}
use native.Mathlib.Nat.{zero-add, le_of_suc-le-suc, not-suc-le-zero}
use native.Mathlib.Omega.{arith}
use mathlib.Core.Path.{◌≡◌, refl, sym, ap, ◌∙◌}
use mathlib.Core.Bool.{Bool, true, false, false≢true}
use mathlib.Core.List.{List, [], ◌∷◌, ◌++◌, append_assoc, append-nil}
use lib.Dec.{eqb}
use lib.ListN.{length, take, drop, get_or, length-append, length-drop, take-append-drop, drop_of_length-le}
use lib.Seq.{drop-append_seam, take-suc, get_or-drop}
use borrow.Author.Tests.{eqb-true, not-true, ne_eqb}
use Rattle.format.specs.Bytes.{LF, CR, every}
use Rattle.format.specs.Lines.{Ending, lf, crlf, eof, Line, line, ending_bytes, line_bytes, size, extend, extend_first, with_byte, lines, unlines, starts}
pub use Rattle.format.specs.Laws.{not_lf, NoLF, ends_in_cr, Shape, no_lines, lf_line, crlf_line, eof_line}
use Rattle.format.proofs.Bytes.{and_left, and_right}

-- ---- texts: no LF, and no CR at the end

-- no LF, byte by byte
pub no_lf_nil : NoLF []
unfolding every
no_lf_nil = refl

pub no_lf_cons : (b : ℕ) (t : List ℕ) → eqb b LF ≡ false → NoLF t → NoLF (b ∷ t)
unfolding every
no_lf_cons b t e h = rw (e, h)

pub no_lf_head : (b : ℕ) (t : List ℕ) → NoLF (b ∷ t) → eqb b LF ≡ false
unfolding every
no_lf_head b t h = not-true (eqb b LF) (and_left (not_lf b) (every not_lf t) h)

pub no_lf_tail : (b : ℕ) (t : List ℕ) → NoLF (b ∷ t) → NoLF t
unfolding every
no_lf_tail b t h = and_right (not_lf b) (every not_lf t) h

-- a byte that passes a test which c fails is not c
differs : (p : ℕ → Bool) (b c : ℕ) → p b ≡ true → p c ≡ false → eqb b c ≡ false
differs p b c h k = ne_eqb b c (λ q. let z : false ≡ true = cc (ap p q) in false≢true z)

-- bytes that all pass a test which LF fails, as `plain`
pub no_lf_of : (p : ℕ → Bool) → p LF ≡ false → (t : List ℕ) → every p t ≡ true → NoLF t
unfolding every
no_lf_of p k [] h = refl
no_lf_of p k (b ∷ t) h =
    no_lf_cons b t (differs p b LF (and_left (p b) (every p t) h) k) (no_lf_of p k t (and_right (p b) (every p t) h))

-- bytes that all pass a test which CR fails, as `plain`
pub ends_of : (p : ℕ → Bool) → p CR ≡ false → (t : List ℕ) → every p t ≡ true → ends_in_cr t ≡ false
unfolding every ends_in_cr
ends_of p k [] h = refl
ends_of p k (b ∷ []) h = differs p b CR (and_left (p b) true h) k
ends_of p k (b ∷ c ∷ t) h = ends_of p k (c ∷ t) (and_right (p b) (every p (c ∷ t)) h)

-- ---- every file is its lines

bytes_extend : (b : ℕ) (l : Line) → line_bytes (extend b l) ≡ b ∷ line_bytes l
bytes_extend b (line [] lf) = go (eqb b CR) refl
  where
    go : (x : Bool) → eqb b CR ≡ x → line_bytes (if x then line [] crlf else line (b ∷ []) lf) ≡ b ∷ LF ∷ []
    go true e = rw (eqb-true b CR e)
    go false e = refl
bytes_extend b (line [] crlf) = refl
bytes_extend b (line [] eof) = refl
bytes_extend b (line (c ∷ t) e) = refl

unlines_with : (b : ℕ) (ls : List Line) → unlines (with_byte b ls) ≡ b ∷ unlines ls
unfolding unlines
unlines_with b ls = go (eqb b LF) refl ls
  where
    go : (x : Bool) → eqb b LF ≡ x → (ls : List Line) → unlines (if x then line [] lf ∷ ls else extend_first b ls) ≡ b ∷ unlines ls
    go true e ls = rw (eqb-true b LF e)
    go false e [] = refl
    go false e (l ∷ ls) = rw bytes_extend

-- the bytes of a file's lines are the file
pub unlines_of_lines : (s : List ℕ) → unlines (lines s) ≡ s
unfolding lines unlines
unlines_of_lines [] = refl
unlines_of_lines (b ∷ s) = unlines_with b (lines s) ∙ rw (unlines_of_lines s)

-- ---- the line rule

shape_extend : (b : ℕ) {ls : List Line} → eqb b LF ≡ false → Shape ls → Shape (extend_first b ls)
unfolding ends_in_cr
shape_extend b e no_lines = eof_line (no_lf_cons b [] e no_lf_nil) (omega arith)
shape_extend b e (lf_line {t = []} {ls = ls} p q s) = go (eqb b CR) refl
  where
    go : (x : Bool) → eqb b CR ≡ x → Shape ((if x then line [] crlf else line (b ∷ []) lf) ∷ ls)
    go true c = crlf_line no_lf_nil s
    go false c = lf_line (no_lf_cons b [] e p) c s
shape_extend b e (lf_line {t = c ∷ t} p q s) = lf_line (no_lf_cons b (c ∷ t) e p) q s
shape_extend b e (crlf_line {t = []} p s) = crlf_line (no_lf_cons b [] e p) s
shape_extend b e (crlf_line {t = c ∷ t} p s) = crlf_line (no_lf_cons b (c ∷ t) e p) s
shape_extend b e (eof_line {t = []} p n) = eof_line (no_lf_cons b [] e p) (omega arith)
shape_extend b e (eof_line {t = c ∷ t} p n) = eof_line (no_lf_cons b (c ∷ t) e p) (omega arith)

shape_with : (b : ℕ) (ls : List Line) → Shape ls → Shape (with_byte b ls)
unfolding ends_in_cr
shape_with b ls s = go (eqb b LF) refl
  where
    go : (x : Bool) → eqb b LF ≡ x → Shape (if x then line [] lf ∷ ls else extend_first b ls)
    go true e = lf_line no_lf_nil refl s
    go false e = shape_extend b e s

-- the lines of a file keep the line rule
pub shape_of_lines : (s : List ℕ) → Shape (lines s)
unfolding lines
shape_of_lines [] = no_lines
shape_of_lines (b ∷ s) = shape_with b (lines s) (shape_of_lines s)

-- ---- the first line of bytes; the premises are those of the line rule

-- a text, LF, and more bytes
pub lines_lf : (t r : List ℕ) → NoLF t → ends_in_cr t ≡ false → lines (t ++ LF ∷ r) ≡ line t lf ∷ lines r
unfolding lines ends_in_cr
lines_lf [] r h c = refl
lines_lf (b ∷ []) r h c = rw (no_lf_head b [] h, c)
lines_lf (b ∷ d ∷ t) r h c = rw (lines_lf (d ∷ t) r (no_lf_tail b (d ∷ t) h) c, no_lf_head b (d ∷ t) h)

-- a text, CR, LF, and more bytes
pub lines_crlf : (t r : List ℕ) → NoLF t → lines (t ++ CR ∷ LF ∷ r) ≡ line t crlf ∷ lines r
unfolding lines
lines_crlf [] r h = refl
lines_crlf (b ∷ []) r h = rw (no_lf_head b [] h)
lines_crlf (b ∷ d ∷ t) r h = rw (lines_crlf (d ∷ t) r (no_lf_tail b (d ∷ t) h), no_lf_head b (d ∷ t) h)

-- bytes without LF
pub lines_eof : (t : List ℕ) → NoLF t → 0 < length t → lines t ≡ line t eof ∷ []
unfolding lines
lines_eof [] h n = absurd (not-suc-le-zero n)
lines_eof (b ∷ []) h n = rw (no_lf_head b [] h)
lines_eof (b ∷ d ∷ t) h n = rw (lines_eof (d ∷ t) (no_lf_tail b (d ∷ t) h) (omega arith), no_lf_head b (d ∷ t) h)

-- lines that keep the rule are the lines of their bytes: there is no other split
pub lines_unique : {ls : List Line} → Shape ls → lines (unlines ls) ≡ ls
unfolding lines unlines
lines_unique no_lines = refl
lines_unique (lf_line {t = t} {ls = ls} p q s) = rw (append_assoc, lines_lf t (unlines ls) p q, lines_unique s)
lines_unique (crlf_line {t = t} {ls = ls} p s) = rw (append_assoc, lines_crlf t (unlines ls) p, lines_unique s)
lines_unique (eof_line {t = t} p n) = simp append-nil (lines_eof t p n)

-- ---- lines in two parts, and how many bytes they have

-- the bytes of two lists of lines, one after the other
pub unlines_append : (a b : List Line) → unlines (a ++ b) ≡ unlines a ++ unlines b
unfolding unlines
unlines_append [] b = refl
unlines_append (l ∷ a) b = rw (unlines_append a b, append_assoc)

pub length_unlines_append : (a b : List Line) → length (unlines (a ++ b)) ≡ length (unlines a) + length (unlines b)
length_unlines_append a b = rw (unlines_append, length-append)

-- the bytes of a line count, and then those of the lines after it
pub length_unlines_cons : (l : Line) (ls : List Line) → length (unlines (l ∷ ls)) ≡ size l + length (unlines ls)
unfolding unlines
length_unlines_cons l ls = length-append (line_bytes l) (unlines ls)

-- a line has the bytes of its text and of its ending
pub size_line : (t : List ℕ) (e : Ending) → size (line t e) ≡ length t + length (ending_bytes e)
size_line t e = length-append t (ending_bytes e)

-- there are no more lines than bytes
pub length_le_unlines : {ls : List Line} → Shape ls → length ls ≤ length (unlines ls)
unfolding unlines
length_le_unlines no_lines = omega arith
length_le_unlines (lf_line p q s) = simp length-append (omega (arith, length_le_unlines s))
length_le_unlines (crlf_line p s) = simp length-append (omega (arith, length_le_unlines s))
length_le_unlines (eof_line p n) = simp append-nil (omega arith)

pub length_lines_le : (s : List ℕ) → length (lines s) ≤ length s
length_lines_le s = rw unlines_of_lines at (length_le_unlines (shape_of_lines s))

-- the lines after the first k keep the rule, and so do those after any others
pub shape_drop : (k : ℕ) {ls : List Line} → Shape ls → Shape (drop k ls)
shape_drop zero s = s
shape_drop (suc k) no_lines = no_lines
shape_drop (suc k) (lf_line p q s) = shape_drop k s
shape_drop (suc k) (crlf_line p s) = shape_drop k s
shape_drop (suc zero) (eof_line p n) = no_lines
shape_drop (suc (suc k)) (eof_line p n) = no_lines

pub shape_after : (a b : List Line) → Shape (a ++ b) → Shape b
shape_after a b s = rw drop-append_seam at (shape_drop (length a) s)

-- a line that others follow may stand before any lines
pub shape_before : {l : Line} {ls ms : List Line} → Shape (l ∷ ls) → 0 < length ls → Shape ms → Shape (l ∷ ms)
shape_before (lf_line p q s) n m = lf_line p q m
shape_before (crlf_line p s) n m = crlf_line p m
shape_before (eof_line p k) n m = absurd (not-suc-le-zero n)

-- a line gets another text and keeps its ending
pub shape_retext : {t : List ℕ} {e : Ending} {ls : List Line} (u : List ℕ) → NoLF u → ends_in_cr u ≡ false → 0 < length u
    → Shape (line t e ∷ ls) → Shape (line u e ∷ ls)
shape_retext u h c n (lf_line p q s) = lf_line h c s
shape_retext u h c n (crlf_line p s) = crlf_line h s
shape_retext u h c n (eof_line p k) = eof_line h n

-- lines, and then bytes: the lines are read back, and then those of the bytes
pub lines_of_parts : (a : List Line) (r : List ℕ) → Shape (a ++ lines r) → lines (unlines a ++ r) ≡ a ++ lines r
lines_of_parts a r s =
    ap (λ (x : List ℕ). lines (unlines a ++ x)) (sym (unlines_of_lines r))
    ∙ ap lines (sym (unlines_append a (lines r)))
    ∙ lines_unique s

-- what follows the first lines of a file, as bytes and as lines
pub bytes_after : (s : List ℕ) (a b : List Line) → lines s ≡ a ++ b → drop (length (unlines a)) s ≡ unlines b
bytes_after s a b e =
    ap (λ (x : List ℕ). drop (length (unlines a)) x) (sym (unlines_of_lines s) ∙ ap unlines e ∙ unlines_append a b)
    ∙ drop-append_seam (unlines a) (unlines b)

pub lines_after : (s : List ℕ) (a b : List Line) → lines s ≡ a ++ b → lines (drop (length (unlines a)) s) ≡ b
lines_after s a b e = rw (bytes_after s a b e) (lines_unique (shape_after a b (rw e at (shape_of_lines s))))

-- ---- the table of starts

-- one start for each line
pub length_starts : (at : ℕ) (ls : List Line) → length (starts at ls) ≡ length ls
unfolding starts
length_starts at [] = refl
length_starts at (l ∷ ls) = ap suc (length_starts (at + size l) ls)

-- a line starts past the bytes of the lines before it
pub starts_at : (at k : ℕ) (ls : List Line) → k < length ls → get_or (starts at ls) k 0 ≡ at + length (unlines (take k ls))
unfolding starts unlines
starts_at at k [] h = absurd (not-suc-le-zero h)
starts_at at zero (l ∷ ls) h = omega arith
starts_at at (suc k) (l ∷ ls) h =
    omega (arith, starts_at (at + size l) k ls (le_of_suc-le-suc h), length-append (line_bytes l) (unlines (take k ls)))

-- reading on from the start of line k gives that line and those after it
pub start_of_line : (s : List ℕ) (k : ℕ) → k < length (lines s) → lines (drop (get_or (starts 0 (lines s)) k 0) s) ≡ drop k (lines s)
start_of_line s k h =
    rw (starts_at 0 k (lines s) h, zero-add)
    (lines_after s (take k (lines s)) (drop k (lines s)) (sym (take-append-drop k (lines s))))

-- ---- the line that starts at p in a file s, for a loop over the lines

-- past the end there is no line
pub lines_none : (s : List ℕ) (p : ℕ) → length s ≤ p → lines (drop p s) ≡ []
unfolding lines
lines_none s p h = rw (drop_of_length-le s h)

-- the bytes from p to i, and the byte at i
part_next : (s : List ℕ) (p i : ℕ) → p ≤ i → i < length s → take (i + 1 - p) (drop p s) ≡ take (i - p) (drop p s) ++ (get_or s i 0 ∷ [])
part_next s p i h k =
    let e : i + 1 - p ≡ suc (i - p) = omega arith in
    let f : p + (i - p) ≡ i = omega arith in
    let m : i - p < length (drop p s) = omega (arith, length-drop p s) in
    rw (e, take-suc (drop p s) (i - p) 0 m, get_or-drop, f)
