-- Laws of what a line is by its text, and of its first mark: what it parts, that it is the first (`FirstMark` in specs/Rules.antt), and where a text gets it.
-- Assumes nothing.
use Rattle.std.specs.Prelude.{if◌then◌else◌}
use mathlib.Core.Path.{◌≡◌, refl, sym, ap, ◌∙◌}
use Prim.Native.Nat.{ℕ, suc, ◌≤◌}
use native.Mathlib.Omega.{arith}
use mathlib.Core.Bool.{Bool, true, false, false≢true}
use mathlib.Core.List.{List, [], ◌∷◌, ◌++◌}
use lib.Dec.{eqb}
use lib.ListN.{length, get_or}
use borrow.Author.Tests.{eqb-true, not-true}
use Rattle.format.specs.Bytes.{bytes, every, is_empty, HASH, COLON, SPACE, EQUALS}
use Rattle.format.specs.Pairs.{plain, Marked, unmarked, field_mark, pair_mark, after_colon, more_before, first_mark, mark, has_mark, LineKind, empty_line, comment_line, other_line, kind_of, is_other, is_unmarked}
use Rattle.format.specs.Fields.{Given}
use Rattle.format.specs.Descriptors.{names_follow}
use Rattle.format.specs.Rules.{FirstMark, is_comment, OtherLine}

-- ---- what the first mark parts

-- what a mark says of the text: its two parts with the mark between them are the text, and the first part has no mark
abbrev pub Parts : List ℕ → Marked → Type 0
Parts t unmarked = Unit
Parts t (field_mark n d) = (t ≡ n ++ (bytes ": " ++ d)) × (mark n ≡ unmarked)
Parts t (pair_mark k v) = (t ≡ k ++ (bytes ":=" ++ v)) × (mark k ≡ unmarked)

pub unmarked_is : (m : Marked) → has_mark m ≡ false → m ≡ unmarked
unmarked_is unmarked h = refl
unmarked_is (field_mark n d) h = cc
unmarked_is (pair_mark k v) h = cc

-- the mark that the byte b makes with the text s right after it
abbrev mark_at : ℕ → List ℕ → Marked
mark_at b s = if eqb b COLON then after_colon s else unmarked

-- a text that has another colon after it makes a mark with b if and only if it does so alone
mark_at_more : (b : ℕ) (a r : List ℕ) → has_mark (mark_at b (a ++ (COLON ∷ r))) ≡ has_mark (mark_at b a)
mark_at_more b [] r = refl
mark_at_more b (c ∷ a) r = go (eqb b COLON) (eqb c SPACE) (eqb c EQUALS)
  where
    go : (x y z : Bool)
        → has_mark (if x then if y then field_mark [] (a ++ (COLON ∷ r)) else if z then pair_mark [] (a ++ (COLON ∷ r)) else unmarked else unmarked)
        ≡ has_mark (if x then if y then field_mark [] a else if z then pair_mark [] a else unmarked else unmarked)
    go true true z = refl
    go true false true = refl
    go true false false = refl
    go false y z = refl

parts_first : (b : ℕ) (s : List ℕ) → Parts (b ∷ s) (mark_at b s)
unfolding mark
parts_first b [] = go (eqb b COLON)
  where
    go : (x : Bool) → Parts (b ∷ []) (if x then unmarked else unmarked)
    go true = tt
    go false = tt
parts_first b (c ∷ s) = go (eqb b COLON) refl (eqb c SPACE) refl (eqb c EQUALS) refl
  where
    go : (x : Bool) → eqb b COLON ≡ x → (y : Bool) → eqb c SPACE ≡ y → (z : Bool) → eqb c EQUALS ≡ z
        → Parts (b ∷ c ∷ s) (if x then if y then field_mark [] s else if z then pair_mark [] s else unmarked else unmarked)
    go true e true f z g = (rw (eqb-true b COLON e, eqb-true c SPACE f), refl)
    go true e false f true g = (rw (eqb-true b COLON e, eqb-true c EQUALS g), refl)
    go true e false f false g = tt
    go false e y f z g = tt

-- b before a text without a mark: there is none either, if none begins at b
unmarked_more : (b : ℕ) (a r : List ℕ) → mark_at b (a ++ (COLON ∷ r)) ≡ unmarked → mark a ≡ unmarked → mark (b ∷ a) ≡ unmarked
unfolding mark
unmarked_more b a r h i =
    let e : mark_at b a ≡ unmarked = unmarked_is (mark_at b a) (sym (mark_at_more b a r) ∙ ap has_mark h) in
    rw (e, i)

parts_more : (b : ℕ) (s : List ℕ) (m : Marked) → mark_at b s ≡ unmarked → Parts s m → Parts (b ∷ s) (more_before b m)
parts_more b s unmarked h p = tt
parts_more b s (field_mark n d) h p = (rw p.0, unmarked_more b n (SPACE ∷ d) (rw p.0 at h) p.1)
parts_more b s (pair_mark k v) h p = (rw p.0, unmarked_more b k (EQUALS ∷ v) (rw p.0 at h) p.1)

-- the text of a marked line, from its parts
pub mark_parts : (t : List ℕ) → Parts t (mark t)
unfolding mark
mark_parts [] = tt
mark_parts (b ∷ s) = go (mark_at b s) refl (parts_first b s) (mark_parts s)
  where
    go : (m : Marked) → mark_at b s ≡ m → Parts (b ∷ s) m → Parts s (mark s) → Parts (b ∷ s) (first_mark m (more_before b (mark s)))
    go unmarked e p q = parts_more b s (mark s) e q
    go (field_mark n d) e p q = p
    go (pair_mark k v) e p q = p

-- where the first of two marks is missing, both are
first_left : (m o : Marked) → first_mark m o ≡ unmarked → m ≡ unmarked
first_left unmarked o h = refl
first_left (field_mark n d) o h = h
first_left (pair_mark k v) o h = h

first_right : (b : ℕ) (m o : Marked) → first_mark m (more_before b o) ≡ unmarked → o ≡ unmarked
first_right b unmarked unmarked h = refl
first_right b unmarked (field_mark n d) h = cc
first_right b unmarked (pair_mark k v) h = cc
first_right b (field_mark n d) o h = cc
first_right b (pair_mark k v) o h = cc

-- after a text without a mark, `:=` is the first mark
pub mark_of_append : (a r : List ℕ) → mark a ≡ unmarked → mark (a ++ (bytes ":=" ++ r)) ≡ pair_mark a r
unfolding mark
mark_of_append [] r h = refl
mark_of_append (b ∷ a) r h =
    let n : mark_at b a ≡ unmarked = first_left (mark_at b a) (more_before b (mark a)) h in
    let s = a ++ (bytes ":=" ++ r) in
    let e : mark_at b s ≡ unmarked = unmarked_is (mark_at b s) (mark_at_more b a (EQUALS ∷ r) ∙ ap has_mark n) in
    rw (e, mark_of_append a r (first_right b (mark_at b a) (mark a) h))

-- ---- no mark stands before it

-- a mark comes after at most n bytes
abbrev MarkedBy : ℕ → Marked → Type 0
MarkedBy n unmarked = ⊥
MarkedBy n (field_mark a b) = length a ≤ n
MarkedBy n (pair_mark a b) = length a ≤ n

marked_more : (b n : ℕ) (m : Marked) → MarkedBy n m → MarkedBy (suc n) (more_before b m)
marked_more b n unmarked h = h
marked_more b n (field_mark a c) h = omega arith
marked_more b n (pair_mark a c) h = omega arith

-- a byte more before the text: the mark that it makes comes first
marked_next : (b : ℕ) (s : List ℕ) (n : ℕ) (m : Marked) → MarkedBy n m → MarkedBy (suc n) (first_mark (mark_at b s) (more_before b m))
marked_next b [] n m h = go (eqb b COLON)
  where
    go : (x : Bool) → MarkedBy (suc n) (first_mark (if x then unmarked else unmarked) (more_before b m))
    go true = marked_more b n m h
    go false = marked_more b n m h
marked_next b (c ∷ s) n m h = go (eqb b COLON) (eqb c SPACE) (eqb c EQUALS)
  where
    go : (x y z : Bool)
        → MarkedBy (suc n) (first_mark (if x then if y then field_mark [] s else if z then pair_mark [] s else unmarked else unmarked) (more_before b m))
    go true true z = omega arith
    go true false true = omega arith
    go true false false = marked_more b n m h
    go false y z = marked_more b n m h

marked_after : (a r : List ℕ) → MarkedBy 0 (mark r) → MarkedBy (length a) (mark (a ++ r))
unfolding mark
marked_after [] r h = h
marked_after (b ∷ a) r h = marked_next b (a ++ r) (length a) (mark (a ++ r)) (marked_after a r h)

-- where `: ` or `:=` stands, the first mark comes no later
field_by : {t : List ℕ} (a b : List ℕ) → t ≡ a ++ (bytes ": " ++ b) → MarkedBy (length a) (mark t)
unfolding mark
field_by a b e = rw e (marked_after a (bytes ": " ++ b) (omega arith))

pair_by : {t : List ℕ} (a b : List ℕ) → t ≡ a ++ (bytes ":=" ++ b) → MarkedBy (length a) (mark t)
unfolding mark
pair_by a b e = rw e (marked_after a (bytes ":=" ++ b) (omega arith))

-- ---- `mark` gives the first mark, and nothing else

-- by the parts of the text, and what is known of every place of a mark
first_mark_lem : {t a m b : List ℕ} → t ≡ a ++ (m ++ b) → ((n : ℕ) → MarkedBy n (mark t) → length a ≤ n) → FirstMark t a m b
first_mark_lem e h = record { parted = e; no_field_before = λ c d i. h (length c) (field_by c d i); no_pair_before = λ c d i. h (length c) (pair_by c d i) }

pub first_of_field : (t : List ℕ) {a b : List ℕ} → mark t ≡ field_mark a b → FirstMark t a (bytes ": ") b
first_of_field t e = first_mark_lem (rw e at (mark_parts t)).0 (λ n h. rw e at h)

pub first_of_pair : (t : List ℕ) {a b : List ℕ} → mark t ≡ pair_mark a b → FirstMark t a (bytes ":=") b
first_of_pair t e = first_mark_lem (rw e at (mark_parts t)).0 (λ n h. rw e at h)

-- equal texts whose first parts have one length have the same parts
same_parts : (a r c s : List ℕ) → a ++ r ≡ c ++ s → length a ≡ length c → (a ≡ c) × (r ≡ s)
same_parts [] r [] s e h = (refl, e)
same_parts [] r (d ∷ c) s e h = absurd (omega arith)
same_parts (b ∷ a) r [] s e h = absurd (omega arith)
same_parts (b ∷ a) r (d ∷ c) s e h =
    let p : b ≡ d = cc in
    let f : a ++ r ≡ c ++ s = cc in
    let k : length a ≡ length c = omega arith in
    let q = same_parts a r c s f k in
    (rw (p, q.0), q.1)

-- the text before the mark is a, and from it on r
abbrev Parted : List ℕ → List ℕ → Marked → Type 0
Parted a r unmarked = ⊥
Parted a r (field_mark c d) = (a ≡ c) × (r ≡ bytes ": " ++ d)
Parted a r (pair_mark c d) = (a ≡ c) × (r ≡ bytes ":=" ++ d)

first_parted : {t a m b : List ℕ} → FirstMark t a m b → MarkedBy (length a) (mark t) → Parted a (m ++ b) (mark t)
first_parted {t} {a} {m} {b} f = go (mark t) (mark_parts t)
  where
    go : (o : Marked) → Parts t o → MarkedBy (length a) o → Parted a (m ++ b) o
    go unmarked p h = h
    go (field_mark c d) p h =
        let k = f.no_field_before c d p.0 in
        same_parts a (m ++ b) c (bytes ": " ++ d) (sym f.parted ∙ p.0) (omega arith)
    go (pair_mark c d) p h =
        let k = f.no_pair_before c d p.0 in
        same_parts a (m ++ b) c (bytes ":=" ++ d) (sym f.parted ∙ p.0) (omega arith)

pub field_of_first : {t a b : List ℕ} → FirstMark t a (bytes ": ") b → mark t ≡ field_mark a b
field_of_first {t} {a} {b} f = go (mark t) (first_parted f (field_by a b f.parted))
  where
    go : (o : Marked) → Parted a (bytes ": " ++ b) o → o ≡ field_mark a b
    go unmarked p = absurd p
    go (field_mark c d) p = cc
    go (pair_mark c d) p = absurd (omega (arith, ap (λ s. get_or s 1 0) p.1))

pub pair_of_first : {t a b : List ℕ} → FirstMark t a (bytes ":=") b → mark t ≡ pair_mark a b
pair_of_first {t} {a} {b} f = go (mark t) (first_parted f (pair_by a b f.parted))
  where
    go : (o : Marked) → Parted a (bytes ":=" ++ b) o → o ≡ pair_mark a b
    go unmarked p = absurd p
    go (field_mark c d) p = absurd (omega (arith, ap (λ s. get_or s 1 0) p.1))
    go (pair_mark c d) p = cc

-- ---- what a line is

-- a line that is neither empty nor a comment is so by its mark
pub other_kind : (t : List ℕ) → is_other (kind_of t) ≡ true → kind_of t ≡ other_line (mark t)
other_kind [] h = absurd (false≢true h)
other_kind (b ∷ t) h = go (eqb b HASH) h
  where
    go : (x : Bool) → is_other (if x then comment_line else other_line (mark (b ∷ t))) ≡ true
        → (if x then comment_line else other_line (mark (b ∷ t))) ≡ other_line (mark (b ∷ t))
    go true h = absurd (false≢true h)
    go false h = refl

pub mark_of_kind : (t : List ℕ) {m : Marked} → kind_of t ≡ other_line m → mark t ≡ m
mark_of_kind t {m} e =
    let p : other_line (mark t) ≡ other_line m = sym (other_kind t (ap is_other e)) ∙ e in
    cc

pub empty_kind : (t : List ℕ) → kind_of t ≡ empty_line → t ≡ []
empty_kind [] e = refl
empty_kind (b ∷ t) e = go (eqb b HASH) e
  where
    go : (x : Bool) → (if x then comment_line else other_line (mark (b ∷ t))) ≡ empty_line → b ∷ t ≡ []
    go true e = cc
    go false e = cc

pub unmarked_kind : (t : List ℕ) → is_unmarked (kind_of t) ≡ true → kind_of t ≡ other_line unmarked
unmarked_kind t = go (kind_of t)
  where
    go : (k : LineKind) → is_unmarked k ≡ true → k ≡ other_line unmarked
    go empty_line h = absurd (false≢true h)
    go comment_line h = absurd (false≢true h)
    go (other_line m) h = ap other_line (unmarked_is m (not-true (has_mark m) h))

pub other_filled : (t : List ℕ) → is_other (kind_of t) ≡ true → is_empty t ≡ false
other_filled [] h = absurd (false≢true h)
other_filled (b ∷ t) h = refl

-- the rules say the same by the first byte (specs/Rules.antt)
pub is_other_lem : {gs : List Given} (t : List ℕ) → OtherLine gs t → is_other (kind_of t) ≡ true
is_other_lem [] o = absurd (false≢true (sym o.filled))
is_other_lem (b ∷ t) o = rw o.no_comment

pub other_line_lem : {gs : List Given} (t : List ℕ) → names_follow gs ≡ false → is_other (kind_of t) ≡ true → every plain t ≡ true → OtherLine gs t
other_line_lem t n h p = record { no_names = n; filled = other_filled t h; no_comment = go t h; all_plain = p }
  where
    go : (t : List ℕ) → is_other (kind_of t) ≡ true → is_comment t ≡ false
    go [] h = refl
    go (b ∷ t) h = here (eqb b HASH) h
      where
        here : (x : Bool) → is_other (if x then comment_line else other_line (mark (b ∷ t))) ≡ true → x ≡ false
        here true h = absurd (false≢true h)
        here false h = refl

pub is_comment_lem : (t : List ℕ) → is_comment t ≡ true → kind_of t ≡ comment_line
is_comment_lem [] h = absurd (false≢true h)
is_comment_lem (b ∷ t) h = rw h

pub comment_line_lem : (t : List ℕ) → kind_of t ≡ comment_line → is_comment t ≡ true
comment_line_lem [] e = cc
comment_line_lem (b ∷ t) e = go (eqb b HASH) e
  where
    go : (x : Bool) → (if x then comment_line else other_line (mark (b ∷ t))) ≡ comment_line → x ≡ true
    go true e = refl
    go false e = cc

-- what stands first in a line decides whether it is a comment
pub other_front : (a r : List ℕ) → is_empty a ≡ false → is_other (kind_of (a ++ r)) ≡ is_other (kind_of a)
other_front [] r h = absurd (false≢true (sym h))
other_front (b ∷ a) r h = go (eqb b HASH)
  where
    go : (x : Bool) → is_other (if x then comment_line else other_line (mark (b ∷ a ++ r))) ≡ is_other (if x then comment_line else other_line (mark (b ∷ a)))
    go true = refl
    go false = refl
