-- Laws of pair lines: escapes, the line that sets a key, and what the reader takes for a pair.
-- Assumes nothing.
use Rattle.std.specs.Prelude.{if◌then◌else◌}
use mathlib.Core.Path.{◌≡◌, refl, sym, ap, ◌∙◌}
use Prim.Native.Nat.{ℕ, ◌+◌, ◌≤◌}
use native.Mathlib.Omega.{arith}
use mathlib.Core.Bool.{Bool, true, false, not, ◌&&◌, false≢true}
use mathlib.Core.List.{List, [], ◌∷◌, ◌++◌}
use mathlib.Core.Option.{Option, none, some}
use lib.Dec.{eqb}
use lib.ListN.{length, length-append}
use borrow.Author.Tests.{eqb-true, not-true}
use Rattle.format.specs.Bytes.{bytes, every, onto, is_empty, LF, BACKSLASH}
use Rattle.format.specs.Pairs.{plain, unmarked, pair_mark, mark, other_line, kind_of, is_other, pair_texts, field_texts, escape, unescape_from, unescape}
use Rattle.format.specs.Fields.{Given, given, field_named}
use Rattle.format.specs.Descriptors.{descriptor, names_follow}
use Rattle.format.specs.Header.{Item, magic, comment, field, pair, file_name, closing, pair_of, given_of, right, judge}
use Rattle.format.specs.Rules.{PairLine, Keeps}
use Rattle.format.specs.Settings.{settable, key_fine, value_fine, pair_text}
use Rattle.format.proofs.Bytes.{and_left, and_right, every_append, every_left, every_right, every_weaker, onto_some}
use Rattle.format.proofs.Lines.{not_lf}
use Rattle.format.proofs.Marks.{mark_parts, mark_of_append, field_of_first, pair_of_first, other_kind, mark_of_kind, unmarked_kind, other_filled, other_front, is_other_lem, is_comment_lem}
use Rattle.format.proofs.Judged.{judge_keeps, judge_by_text, on_pair_is}

-- ---- escapes

-- a text means itself once it is escaped
pub unescape_of_escape : (s : List ℕ) → unescape (escape s) ≡ some s
unfolding escape unescape_from
unescape_of_escape [] = refl
unescape_of_escape (b ∷ s) = go (eqb b LF) refl (eqb b BACKSLASH) refl (unescape_of_escape s)
  where
    go : (x : Bool) → eqb b LF ≡ x → (y : Bool) → eqb b BACKSLASH ≡ y → unescape (escape s) ≡ some s
        → unescape (if x then bytes "\\n" ++ escape s else if y then bytes "\\\\" ++ escape s else b ∷ escape s) ≡ some (b ∷ s)
    go true e y f r = rw (r, eqb-true b LF e)
    go false e true f r = rw (r, eqb-true b BACKSLASH f)
    go false e false f r = rw (f, r)

-- plain bytes are not LF
pub plain-not-LF : (b : ℕ) → plain b ≡ true → not_lf b ≡ true
plain-not-LF b h = go (eqb b LF) refl
  where
    go : (x : Bool) → eqb b LF ≡ x → not x ≡ true
    go true e = rw (eqb-true b LF e) at h
    go false e = refl

pub plain-no-LF : (s : List ℕ) → every plain s ≡ true → every not_lf s ≡ true
plain-no-LF = every_weaker plain not_lf plain-not-LF

-- the flag's backslash in front of the text
abbrev slashed : Bool → List ℕ → List ℕ
slashed false t = t
slashed true t = BACKSLASH ∷ t

escape_from : (f : Bool) (t s : List ℕ) → every not_lf t ≡ true → unescape_from f t ≡ some s → escape s ≡ slashed f t
unfolding every escape unescape_from
escape_from false [] s n h = let e : s ≡ [] = cc in rw e
escape_from true [] s n h = cc
escape_from false (b ∷ t) s n h = go (eqb b BACKSLASH) refl h (escape_from true t s rest) (λ u. escape_from false t u rest)
  where
    first : eqb b LF ≡ false
    first = not-true (eqb b LF) (and_left (not_lf b) (every not_lf t) n)

    rest : every not_lf t ≡ true
    rest = and_right (not_lf b) (every not_lf t) n

    go : (x : Bool) → eqb b BACKSLASH ≡ x → (if x then unescape_from true t else onto b (unescape_from false t)) ≡ some s
        → (unescape_from true t ≡ some s → escape s ≡ BACKSLASH ∷ t)
        → ((u : List ℕ) → unescape_from false t ≡ some u → escape u ≡ t)
        → escape s ≡ b ∷ t
    go true e h i j = rw (eqb-true b BACKSLASH e) (i h)
    go false e h i j =
        let r = onto_some b (unescape_from false t) s h in
        rw (r.2, first, e, j r.0 r.1)
escape_from true (b ∷ t) s n h =
    go (eqb b 110) refl (eqb b BACKSLASH) refl h (λ u. escape_from false t u (and_right (not_lf b) (every not_lf t) n))
  where
    go : (x : Bool) → eqb b 110 ≡ x → (y : Bool) → eqb b BACKSLASH ≡ y
        → (if x then onto LF (unescape_from false t) else if y then onto BACKSLASH (unescape_from false t) else none) ≡ some s
        → ((u : List ℕ) → unescape_from false t ≡ some u → escape u ≡ t)
        → escape s ≡ BACKSLASH ∷ b ∷ t
    go true e y f h j =
        let r = onto_some LF (unescape_from false t) s h in
        rw (r.2, eqb-true b 110 e, j r.0 r.1)
    go false e true f h j =
        let r = onto_some BACKSLASH (unescape_from false t) s h in
        rw (r.2, eqb-true b BACKSLASH f, j r.0 r.1)
    go false e false f h j = cc

-- a text without LF is what its meaning is written as
pub escape_of_unescape : (t s : List ℕ) → every not_lf t ≡ true → unescape t ≡ some s → escape s ≡ t
escape_of_unescape t s n h = escape_from false t s n h

pub escape_of_plain : (t s : List ℕ) → every plain t ≡ true → unescape t ≡ some s → escape s ≡ t
escape_of_plain t s n h = escape_of_unescape t s (plain-no-LF t n) h

pub escape_injective : (a b : List ℕ) → escape a ≡ escape b → a ≡ b
escape_injective a b e =
    let p : unescape (escape a) ≡ some a = unescape_of_escape a in
    let q : unescape (escape b) ≡ some b = unescape_of_escape b in
    cc

-- an escaped text has only plain bytes if and only if the text has only bytes that can be set
plain_escape : (s : List ℕ) → every plain (escape s) ≡ every settable s
unfolding every escape
plain_escape [] = refl
plain_escape (b ∷ s) = go (eqb b LF) refl (eqb b BACKSLASH) refl (plain_escape s)
  where
    go : (x : Bool) → eqb b LF ≡ x → (y : Bool) → eqb b BACKSLASH ≡ y → every plain (escape s) ≡ every settable s
        → every plain (if x then bytes "\\n" ++ escape s else if y then bytes "\\\\" ++ escape s else b ∷ escape s)
        ≡ (settable b && every settable s)
    go true e y f r = rw (eqb-true b LF e, r)
    go false e true f r = rw (eqb-true b BACKSLASH f, r)
    go false e false f r = rw (e, r)

pub plain_of_escape : (s : List ℕ) → every settable s ≡ true → every plain (escape s) ≡ true
plain_of_escape s h = plain_escape s ∙ h

pub settable_of_plain : (s : List ℕ) → every plain (escape s) ≡ true → every settable s ≡ true
settable_of_plain s h = sym (plain_escape s) ∙ h

-- ---- keys that can be set, and the line of a pair

-- a key that can be set, by its parts
pub record FineKey (k : List ℕ) : Type 0 where
  pub bytes_fine : every settable k ≡ true
  pub kind : kind_of (escape k) ≡ other_line unmarked

pub fine_key : (k : List ℕ) → key_fine k ≡ true → FineKey k
unfolding key_fine
fine_key k h = record { bytes_fine = and_left (every settable k) _ h; kind = unmarked_kind (escape k) (and_right (every settable k) _ h) }

pub key_fine_lem : (k : List ℕ) → FineKey k → key_fine k ≡ true
unfolding key_fine
key_fine_lem k f = rw (f.bytes_fine, f.kind)

-- how long a set line's text is
pub length_pair : (k v : List ℕ) → length (pair_text k v) ≡ length (escape k) + 2 + length (escape v)
unfolding pair_text
length_pair k v = simp length-append (omega arith)

-- the first mark of a set line is its `:=`
pub mark_of_pair : (k v : List ℕ) → key_fine k ≡ true → mark (pair_text k v) ≡ pair_mark (escape k) (escape v)
unfolding pair_text
mark_of_pair k v h = mark_of_append (escape k) (escape v) (mark_of_kind (escape k) (fine_key k h).kind)

key_filled : (k : List ℕ) → key_fine k ≡ true → is_empty (escape k) ≡ false
key_filled k h = other_filled (escape k) (ap is_other (fine_key k h).kind)

-- what a set line is by its text
pub kind_of_pair : (k v : List ℕ) → key_fine k ≡ true → kind_of (pair_text k v) ≡ other_line (pair_mark (escape k) (escape v))
unfolding pair_text
kind_of_pair k v h =
    let o = other_front (escape k) (bytes ":=" ++ escape v) (key_filled k h) ∙ ap is_other (fine_key k h).kind in
    other_kind (pair_text k v) o ∙ ap other_line (mark_of_pair k v h)

pub plain_of_pair : (k v : List ℕ) → key_fine k ≡ true → value_fine v ≡ true → every plain (pair_text k v) ≡ true
unfolding pair_text value_fine every
plain_of_pair k v h i =
    every_append plain (escape k) (bytes ":=" ++ escape v) (plain_of_escape k (fine_key k h).bytes_fine) (plain_of_escape v i)

-- ---- what the reader takes for a pair

-- the line that sets k to v is read as the pair of k and v, where no names follow
pub judge_of_pair : (version : ℕ) (gs : List Given) (k v : List ℕ) → names_follow gs ≡ false → 2 ≤ version → key_fine k ≡ true → value_fine v ≡ true
    → judge version gs (pair_text k v) ≡ right (pair k v)
judge_of_pair version gs k v names n h i =
    judge_by_text version gs (pair_text k v) names
    ∙ rw (kind_of_pair k v h, plain_of_pair k v h i)
    (on_pair_is version gs (escape k) (escape v) k v (key_filled k h) n (unescape_of_escape k) (unescape_of_escape v))

-- of a line t of that version: it is the line that sets k to v, and both can be set
pub record SetLine (version : ℕ) (t k v : List ℕ) : Type 0 where
  pub since : 2 ≤ version
  pub text_is : t ≡ pair_text k v
  pub key : key_fine k ≡ true
  pub value : value_fine v ≡ true

set_line : {version : ℕ} {gs : List Given} {t k v : List ℕ} → PairLine version gs t k v → SetLine version t k v
unfolding every pair_text value_fine
set_line {version} {gs} {t} {k} {v} p =
    let q = rw (pair_of_first p.marked) at (mark_parts t) in
    let all = rw q.0 at p.other.all_plain in
    let plain_key = every_left plain p.key (bytes ":=" ++ p.value) all in
    let plain_value = every_right plain p.key (bytes ":=" ++ p.value) all in
    let i : escape k ≡ p.key = escape_of_plain p.key k plain_key p.key_is in
    let j : escape v ≡ p.value = escape_of_plain p.value v plain_value p.value_is in
    let other = sym (other_front p.key (bytes ":=" ++ p.value) p.key_filled) ∙ rw q.0 at (is_other_lem t p.other) in
    record {
      since = p.since;
      text_is = rw (i, j) q.0;
      key = key_fine_lem k record { bytes_fine = settable_of_plain k (rw i plain_key); kind = rw i (other_kind p.key other ∙ ap other_line q.1) };
      value = settable_of_plain v (rw j plain_value);
    }

-- what holds of every line that is read as a pair
pub pair_line : (version : ℕ) (gs : List Given) (t k v : List ℕ) → judge version gs t ≡ right (pair k v) → SetLine version t k v
pair_line version gs t k v e = set_line (judge_keeps version gs t e)

-- every key that a file holds can be set, and so can every value
pub pair_key_fine : (version : ℕ) (gs : List Given) (t k v : List ℕ) → judge version gs t ≡ right (pair k v) → key_fine k ≡ true
pair_key_fine version gs t k v e = (pair_line version gs t k v e).key

pub pair_value_fine : (version : ℕ) (gs : List Given) (t k v : List ℕ) → judge version gs t ≡ right (pair k v) → value_fine v ≡ true
pair_value_fine version gs t k v e = (pair_line version gs t k v e).value

-- ---- what a line says by its text, where no names follow

-- a pair as its line has it
abbrev pub escaped_pair : Option (List ℕ × List ℕ) → Option (List ℕ × List ℕ)
escaped_pair none = none
escaped_pair (some p) = some (escape p.0, escape p.1)

-- the field that a name, if it is known, and what follows its mark give
abbrev pub named_field : Option ℕ → List ℕ → Option Given
named_field none rest = none
named_field (some f) rest = some (given f (descriptor f rest))

abbrev pub field_in : Option (List ℕ × List ℕ) → Option Given
field_in none = none
field_in (some p) = named_field (field_named p.0) p.1

module _ (version : ℕ) (gs : List Given) (t : List ℕ) (names : names_follow gs ≡ false) where
  kept_pair : (i : Item) → Keeps version gs t i → pair_texts (kind_of t) ≡ escaped_pair (pair_of i)
  kept_pair (magic n) w = absurd w
  kept_pair comment w = rw (is_comment_lem t w.1)
  kept_pair (field f d) w = rw (other_kind t (is_other_lem t w.other), field_of_first w.marked)
  kept_pair (pair k v) w = let s = set_line w in rw (s.text_is, kind_of_pair k v s.key)
  kept_pair (file_name n) w = absurd (false≢true (sym names ∙ w.follows))
  kept_pair closing w = rw w

  kept_field : (i : Item) → Keeps version gs t i → field_in (field_texts (kind_of t)) ≡ given_of i
  kept_field (magic n) w = absurd w
  kept_field comment w = rw (is_comment_lem t w.1)
  kept_field (field f d) w = rw (other_kind t (is_other_lem t w.other), field_of_first w.marked, w.named, w.descriptor_is)
  kept_field (pair k v) w = rw (other_kind t (is_other_lem t w.other), pair_of_first w.marked)
  kept_field (file_name n) w = absurd (false≢true (sym names ∙ w.follows))
  kept_field closing w = rw w

  -- its pair, and its field
  pub line_pair : {i : Item} → judge version gs t ≡ right i → pair_texts (kind_of t) ≡ escaped_pair (pair_of i)
  line_pair {i} j = kept_pair i (judge_keeps version gs t j)

  pub line_field : {i : Item} → judge version gs t ≡ right i → field_in (field_texts (kind_of t)) ≡ given_of i
  line_field {i} j = kept_field i (judge_keeps version gs t j)
