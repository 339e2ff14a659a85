-- Laws of an accepted header, and of the answer that says whether it is accepted.
-- Assumes nothing.
use Prim.Native.Nat.{ℕ, ◌≤◌, ◌<◌}
use native.Mathlib.Omega.{arith}
use mathlib.Core.Path.{◌≡◌, refl, sym, ap, ◌∙◌}
use mathlib.Core.List.{List, [], ◌++◌}
use mathlib.Core.Option.{none}
use lib.ListN.{length}
use Rattle.std.specs.Prelude.{Ok, Err}
use Rattle.format.specs.declared.Reading.{Reading}
use Rattle.format.specs.declared.ReadAnswer.{ReadAnswer}
use Rattle.format.specs.declared.reason.Refused.{Refused}
use Rattle.format.specs.Reasons.{refusal_of}
use Rattle.format.specs.Answers.{reading_answered}
use Rattle.format.proofs.Numbered.{NumberedOutcome, header_numbered}
use Rattle.format.specs.Lines.{Line}
use Rattle.format.specs.Pairs.{kind_of, pair_texts, field_texts}
use Rattle.format.specs.Fields.{Given}
use Rattle.format.specs.Header.{Item, pair_of, given_of, Entry, lines_of, Outcome, refused, accepted, header, before_names, field_lines}
use Rattle.format.specs.Calls.{no_reading, reading_of, read_answer, read_header_call}
use Rattle.format.proofs.Lines.{length_lines_le}
use Rattle.format.proofs.Pairs.{escaped_pair, field_in, line_pair, line_field}
use Rattle.format.proofs.Header.{IsHeader, header_sound}
use Rattle.format.proofs.Named.{fine_by_text, before_first, before_few}
use Rattle.read_text.specs.declared.lines.Kind.{Kind}
use Rattle.read_text.specs.declared.lines.Kind.TheVariants.{Empty, Comment, Field, Pair, Neither}
use Rattle.read_text.specs.Places.{kind_place}
use Rattle.read_text.proofs.Places.{kind_told}
use Rattle.read_header.specs.Accepted.{Fielded, IsItem, Items}

-- there is a byte in an accepted file, and a line in its header
pub some_byte : (file : List ℕ) {n : ℕ} → Fielded file n → 0 < length file
some_byte file a =
    let x = header_sound file a.is in
    let c = x.split ∙ ap (λ es. lines_of es ++ a.after) x.entries in
    omega (arith, length_lines_le file, ap length c)

some_line : (file : List ℕ) {es : List Entry} {gs : List Given} {ls : List Line} → header file ≡ accepted es gs ls → 0 < field_lines es
some_line file e = let x = header_sound file e in omega (arith, ap length (before_first x))

pub some_lines : (file : List ℕ) {n : ℕ} → Fielded file n → 1 ≤ n
some_lines file a = omega (arith, some_line file a.is, a.many)

module _ (file : List ℕ) (read : ReadAnswer) (e : read ≡ read_header_call file) where
  pub was_refused : read.reading.lines ≡ 0 → header file ≡ refused read.refusal
  unfolding reading_of
  was_refused z = go (header file) refl e
    where
      go : (o : Outcome) → header file ≡ o → read ≡ read_answer o → header file ≡ refused read.refusal
      go (refused r) p q = p ∙ ap refused (sym (ap (λ a. a.refusal) q))
      go (accepted es gs ls) p q = absurd (omega (arith, some_line file p, before_few es, ap (λ a. a.reading.lines) q))

  pub was_accepted : (read.reading.lines ≡ 0 → ⊥) → Fielded file read.reading.fieldlines
  unfolding reading_of no_reading
  was_accepted z = go (header file) refl e
    where
      go : (o : Outcome) → header file ≡ o → read ≡ read_answer o → Fielded file read.reading.fieldlines
      go (refused r) p q = absurd (z (ap (λ a. a.reading.lines) q))
      go (accepted es gs ls) p q = record { entries = es; fields = gs; after = ls; is = p; many = ap (λ a. a.reading.fieldlines) q }

-- the reading x of an accepted file, by its entries and fields
pub record Read (file : List ℕ) (x : Reading) : Type 0 where
  pub entries : List Entry
  pub fields : List Given
  pub after : List Line
  pub is : header file ≡ accepted entries fields after
  pub reading_is : x ≡ reading_of entries fields

pub was_read : (file : List ℕ) {x : Reading} → reading_answered (Ok x) ≡ read_header_call file → Read file x
was_read file {x} e = go (header file) refl e (header_numbered file)
  where
    go : (o : Outcome) → header file ≡ o → reading_answered (Ok x) ≡ read_answer o → NumberedOutcome o → Read file x
    go (refused r) p q n = absurd (let f : ⊥ = omega (arith, ap (λ (a : ReadAnswer). a.refusal.number) q) in f)
    go (accepted es gs ls) p q n = record { entries = es; fields = gs; after = ls; is = p; reading_is = ap (λ (a : ReadAnswer). a.reading) q }

-- or why it is refused
pub was_not_read : (file : List ℕ) (r : Refused) → reading_answered (Err r) ≡ read_header_call file → header file ≡ refused (refusal_of r)
unfolding reading_of no_reading
was_not_read file r e = go (header file) refl e
  where
    go : (o : Outcome) → header file ≡ o → reading_answered (Err r) ≡ read_answer o → header file ≡ refused (refusal_of r)
    go (refused f) p q = p ∙ ap refused (sym (ap (λ (a : ReadAnswer). a.refusal) q))
    go (accepted es gs ls) p q = absurd (omega (arith, some_line file p, before_few es, ap (λ (a : ReadAnswer). a.reading.lines) q))

-- the lines before the names were judged to be the header's items
pub header_items : {file : List ℕ} {es : List Entry} {gs : List Given} {r : List Line} (x : IsHeader file es gs r) → Items (before_names x.rest)
header_items {file} {es} {gs} {r} x =
    fine_by_text Items tt (λ version before l i es j n p. (record { version = version; before = before; judged = j; no_names = n }, p)) x.version [] x.rest gs r x.fine

-- what such a line says by its text: its pair, its field
module _ {t : List ℕ} {i : Item} (w : IsItem t i) where
  pub item_pair : pair_texts (kind_of t) ≡ escaped_pair (pair_of i)
  item_pair = line_pair w.version w.before t w.no_names w.judged

  pub item_field : field_in (field_texts (kind_of t)) ≡ given_of i
  item_field = line_field w.version w.before t w.no_names w.judged

-- an answer that is not a pair, and one that is not a field
pub told_no_pair : (t : List ℕ) (r : Kind) → r ≡ kind_place (kind_of t) → ((i : ℕ) → r ≡ Pair i → ⊥) → pair_texts (kind_of t) ≡ none
told_no_pair t Empty e h = ap pair_texts (kind_told t e)
told_no_pair t Comment e h = ap pair_texts (kind_told t e)
told_no_pair t (Field i) e h = ap pair_texts (kind_told t e).0
told_no_pair t (Pair i) e h = absurd (h i refl)
told_no_pair t Neither e h = ap pair_texts (kind_told t e)

pub told_no_field : (t : List ℕ) (r : Kind) → r ≡ kind_place (kind_of t) → ((i : ℕ) → r ≡ Field i → ⊥) → field_texts (kind_of t) ≡ none
told_no_field t Empty e h = ap field_texts (kind_told t e)
told_no_field t Comment e h = ap field_texts (kind_told t e)
told_no_field t (Field i) e h = absurd (h i refl)
told_no_field t (Pair i) e h = ap field_texts (kind_told t e).0
told_no_field t Neither e h = ap field_texts (kind_told t e)
