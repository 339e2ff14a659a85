-- The answer of the reading with the table, by the answer without it.
-- Assumes nothing.
use Prim.Native.Nat.{ℕ, ◌≤◌, ◌<◌}
use native.Mathlib.Nat.{zero-add}
use native.Mathlib.Omega.{arith}
use mathlib.Core.Path.{◌≡◌, refl, sym, ap, ◌∙◌}
use mathlib.Core.List.{List}
use lib.ListN.{length, take, length-append, length-map}
use lib.Seq.{take_at}
use borrow.Author.Tests.{lt-ltb, le-ltb}
use Rattle.format.specs.declared.ReadAnswer.{ReadAnswer}
use Rattle.format.specs.Bytes.{over}
use Rattle.format.specs.Refusals.{lent_too_short}
use Rattle.format.specs.Lines.{Line, lines}
use Rattle.format.specs.Fields.{Given}
use Rattle.format.specs.Header.{Entry, line_of, lines_of, Outcome, refused, accepted, header, table_of}
use Rattle.format.specs.Calls.{reading_of, read_answer, read_header_call, with_table, read_call}
use Rattle.format.proofs.Header.{header_sound}
use Rattle.format.proofs.Numbered.{NumberedOutcome, header_numbered}
use Rattle.std.specs.Prelude.{Ok, Err}
use Rattle.format.specs.declared.Reading.{Reading}
use Rattle.format.specs.declared.reason.Refused.{Refused}
use Rattle.format.specs.Answers.{reading_answered}
use Rattle.read_fields.proofs.States.{some_number}
use Rattle.read_table.specs.Entries.{HoldsEntries}
use Rattle.read_table.specs.Tables.{Lined, starts_of}
use Rattle.read_header.specs.Tables.{read_into}
use Rattle.read_header.specs.Accepted.{Headed}
use Rattle.read_header.proofs.Turns.{refused_at}

-- the first lines of a file with an accepted header
module _ (file : List ℕ) {es : List Entry} {gs : List Given} {ls : List Line} (e : header file ≡ accepted es gs ls) where
  header_lines : take (length es) (lines file) ≡ lines_of es
  header_lines = rw (header_sound file e).split (take_at (lines_of es) ls (length es) (length-map es line_of))

  pub starts_of_lem : starts_of file (length es) ≡ table_of es
  starts_of_lem = rw header_lines

  pub header_lined : Lined file 0 (length es)
  header_lined =
      record {
        there = rw ((header_sound file e).split, length-append, length-map) (omega arith);
        short = rw (zero-add, header_lines) (header_sound file e).short;
      }

-- refused
pub call_refused : (file table : List ℕ) (refused : Refused) → reading_answered (Err refused) ≡ read_header_call file → ◌≡◌ {A = ReadAnswer × List ℕ} (reading_answered (Err refused), table) (read_call file table)
unfolding with_table
call_refused file table r is = go (header file) is (header_numbered file)
  where
    go : (o : Outcome) → reading_answered (Err r) ≡ read_answer o → NumberedOutcome o → ◌≡◌ {A = ReadAnswer × List ℕ} (reading_answered (Err r), table) (with_table table o)
    go (refused q) e n = rw e
    go (accepted es gs ls) e n = absurd (some_number r.reason (ap (λ (x : ReadAnswer). x.refusal.number) e))

module _ (file table : List ℕ) (reading : Reading) (is : reading_answered (Ok reading) ≡ read_header_call file) where
  taken : Headed file reading.lines
  unfolding reading_of
  taken = go (header file) refl is (header_numbered file)
    where
      go : (o : Outcome) → header file ≡ o → reading_answered (Ok reading) ≡ read_answer o → NumberedOutcome o → Headed file reading.lines
      go (refused r) e q n = absurd (let f : ⊥ = omega (arith, ap (λ (x : ReadAnswer). x.refusal.number) q) in f)
      go (accepted es gs ls) e q n =
          record { entries = es; fields = gs; after = ls; is = e; many = ap (λ (x : ReadAnswer). x.reading.lines) q }

  -- the table is short
  pub call_short : length table < reading.lines → ◌≡◌ {A = ReadAnswer × List ℕ} (refused_at lent_too_short 0, table) (read_call file table)
  unfolding with_table
  call_short h = let t = taken in rw (t.is, lt-ltb (length table) (length t.entries) (omega (arith, t.many)))

  pub call_lined : Lined file 0 reading.lines
  call_lined = let t = taken in rw t.many (header_lined file t.is)

  pub call_filled : reading.lines ≤ length table → ◌≡◌ {A = ReadAnswer × List ℕ} (reading_answered (Ok reading), over (starts_of file reading.lines) table) (read_call file table)
  unfolding with_table
  call_filled room =
      let t = taken in
      let p : reading_answered (Ok reading) ≡ read_answer (accepted t.entries t.fields t.after) = is ∙ ap read_answer t.is in
      let q : over (starts_of file reading.lines) table ≡ over (table_of t.entries) table = ap (λ s. over s table) (ap (starts_of file) t.many ∙ starts_of_lem file t.is) in
      rw (t.is, le-ltb (length table) (length t.entries) (omega (arith, t.many))) (λ i. (p i, q i))

-- the answer with cells, by that with their entries: these are held, and cells that keep theirs stay
module _ {A : Type 0} (entries : List A → List ℕ) (holding : List ℕ → List A → List A) {whole : List A → Type 0} (holds : HoldsEntries entries holding whole) (file : List ℕ) (d : List A) where
  pub into_held : {a : ReadAnswer} (ns : List ℕ) {d' : List A} → d' ≡ holding ns d → ◌≡◌ {A = ReadAnswer × List ℕ} (a, ns) (read_call file (entries d)) → ◌≡◌ {A = ReadAnswer × List A} (a, d') (read_into entries holding file d)
  into_held {a} ns e q = (λ i. (a, e i)) ∙ ap (λ (x : ReadAnswer × List ℕ). (x.0, holding x.1 d)) q

  pub into_kept : {a : ReadAnswer} → whole d → ◌≡◌ {A = ReadAnswer × List ℕ} (a, entries d) (read_call file (entries d)) → ◌≡◌ {A = ReadAnswer × List A} (a, d) (read_into entries holding file d)
  into_kept w q = into_held (entries d) (sym (holds.own d w)) q
