-- A list of craneholt_set_key calls does to the bytes of a table what the calls on numbers do to the numbers that they hold, as
-- specs/Callers.antt says.
-- Assumes nothing.
use Rattle.std.specs.Prelude.{if◌then◌else◌}
use mathlib.Core.Path.{◌≡◌, refl, sym, ap, subst, ◌∙◌}
use Prim.Native.Nat.{ℕ, ◌+◌, ◌*◌, ◌^◌, ◌/◌, ◌≤◌, ◌<◌}
use native.Mathlib.Omega.{arith}
use mathlib.Core.Bool.{Bool, true, false}
use mathlib.Core.List.{List, [], ◌∷◌, map}
use lib.Dec.{eqb, ltb}
use lib.IntN.{ℤ}
use lib.ListN.{length, take, drop, length-take}
use lib.Seq.{take_at, take_all, length-take-le}
use borrow.Author.Tests.{ltb-false, le-ltb}
use Rattle.format.specs.declared.Refusal.{Refusal}
use Rattle.format.specs.declared.ReadAnswer.{ReadAnswer}
use Rattle.format.specs.declared.CountAnswer.{CountAnswer}
use Rattle.format.specs.declared.Axis.{Axis}
use Rattle.format.specs.declared.SetAnswer.{SetAnswer}
use Rattle.format.specs.Bytes.{over}
use Rattle.format.specs.Limits.{max_header}
use Rattle.format.specs.Refusals.{refusal, lent_too_short, fine}
use Rattle.format.specs.Lines.{Line, size, unlines, starts}
use Rattle.format.specs.Fields.{Given}
use Rattle.format.specs.Descriptors.{dimension_of}
use Rattle.format.specs.Header.{Entry, lines_of, Outcome, refused, accepted, header, value_of, table_of}
use Rattle.format.specs.Settings.{refilled, Lent, lent, Setting, setting, SetOutcome, kept, changed, set_key}
use Rattle.format.specs.AxisRecords.{axes_of, axis_width, axes_bytes, axes_listed, axes_entry}
use Rattle.format.specs.Calls.{reading_of, read_answer, with_table, copy_value, copy_value_in, copy_value_call, no_samples, set_answer, set_key_call, call_on, left, recorded, set_keys_by, set_keys}
use Rattle.format.specs.Boundary.{entry_bytes, numbers_of, number_bytes, lent_numbers, samples_lent, lent_samples}
use Rattle.format.specs.EntryPoints.{read_entry, set_key_entry}
use Rattle.format.specs.Laws.{AllBelow}
use Rattle.format.proofs.Lines.{length_starts, length_unlines_cons}
use Rattle.format.proofs.Header.{header_sound, length_table}
use Rattle.format.proofs.Numbered.{NumberedOutcome, header_numbered}
use Rattle.format.proofs.Samples.{AllBytes}
use Rattle.format.proofs.Boundary.{length_over, over_past, bytes_over, length_number_bytes, number_bytes_bytes, length_numbers, first_numbers, numbers_over, lent_of_numbers, numbers_of_front}
use Rattle.theorem_lists.specs.Lists.{table_in, count_in, moved_axis, Settled}
use Rattle.theorem_lists.proofs.Buffers.{Done, set_done}
use Rattle.theorem_lists.proofs.AxesMove.{axes_counted, all_moved}
use Rattle.theorem_lists.proofs.Lists.{settings}
use Rattle.theorem_callers.specs.Callers.{NotRefused, in_numbers, records_over, Carried, SettingsAreCarried}

-- the lines of a header start below its end
starts_below : (m at : ℕ) (ls : List Line) → at + length (unlines ls) < m → AllBelow m (starts at ls)
unfolding starts
starts_below m at [] h = tt
starts_below m at (l ∷ ls) h = (omega arith, starts_below m (at + size l) ls (omega (arith, length_unlines_cons l ls)))

-- ---- the bytes of a table, call by call

-- what comes after: bytes, as many as before; past the count, which does not fall, they are as before
record Follows (before after : Lent) : Type 0 where
  bytes : AllBytes (table_in after)
  long : length (table_in after) ≡ length (table_in before)
  grows : count_in before ≤ count_in after
  past : (k : ℕ) → count_in after ≤ k → drop (entry_bytes * k) (table_in after) ≡ drop (entry_bytes * k) (table_in before)

follows_self : (l : Lent) → AllBytes (table_in l) → Follows l l
follows_self l p = record { bytes = p; long = refl; grows = omega arith; past = λ k h. refl }

follows_then : {a b c : Lent} → Follows a b → Follows b c → Follows a c
follows_then f g =
    record {
      bytes = g.bytes;
      long = g.long ∙ f.long;
      grows = omega (arith, f.grows, g.grows);
      past = λ k h. g.past k h ∙ f.past k (omega (arith, g.grows));
    }

-- new entries at the front of the table's bytes
follows_front : (buf buf' : List ℕ) (used used' : ℕ) (table : List ℕ) (count count' : ℕ) (new : List ℕ) → AllBytes table
    → length new ≡ count' → count ≤ count' → count' ≤ length table / entry_bytes
    → Follows (lent buf used table count) (lent buf' used' (over (number_bytes entry_bytes new) table) count')
follows_front buf buf' used used' table count count' new p many grows fits =
    let u : List ℕ = number_bytes entry_bytes new in
    let n : length u ≡ 4 * length new = length_number_bytes entry_bytes new in
    record {
      bytes = bytes_over u table (number_bytes_bytes entry_bytes new) p;
      long = length_over u table (omega arith);
      grows = grows;
      past = λ k h. over_past u table (4 * k) (omega arith);
    }

-- what a call on numbers left, with those of its table put into the bytes `table`
abbrev in_bytes : List ℕ → Lent → Lent
in_bytes table (lent buf used ns count) = lent buf used (lent_numbers entry_bytes ns table) count

module _ (buf : List ℕ) (used : ℕ) (table : List ℕ) (count : ℕ) (p : AllBytes table) where
  -- one call: the bytes that it leaves hold the numbers that the call on numbers leaves
  record Step (o : SetOutcome) : Type 0 where
    follows : Follows (lent buf used table count) (in_bytes table (left (set_answer buf used (numbers_of entry_bytes table) count o)))
    numbers : in_numbers (in_bytes table (left (set_answer buf used (numbers_of entry_bytes table) count o))) ≡ left (set_answer buf used (numbers_of entry_bytes table) count o)

  step : (o : SetOutcome) → Done buf used (numbers_of entry_bytes table) count o → Step o
  step (kept r) s =
      record {
        follows = rw (lent_of_numbers entry_bytes table p) (follows_self (lent buf used table count) p);
        numbers = rw (lent_of_numbers entry_bytes table p);
      }
  step (changed x) s = rw s.is (stored s.file s.ls s.more (omega (arith, s.room, length_numbers entry_bytes table)) s.short)
    where
      stored : (file : List ℕ) (ls : List Line) → count ≤ length ls → length ls ≤ length table / 4 → length (unlines ls) ≤ max_header
          → Step (changed (lent (refilled buf used file) (length file) (over (starts 0 ls) (numbers_of entry_bytes table)) (length ls)))
      stored file ls more room short =
          let few : length (starts 0 ls) ≤ length table / 4 = omega (arith, length_starts 0 ls) in
          let e = numbers_over entry_bytes table p (starts 0 ls) few in
          record {
            follows = rw e (follows_front buf (refilled buf used file) used (length file) table count (length ls) (starts 0 ls) p (length_starts 0 ls) more room);
            numbers = ap (λ (t : List ℕ). lent (refilled buf used file) (length file) t (length ls))
                (ap (numbers_of entry_bytes) e ∙ numbers_of_front entry_bytes (starts 0 ls) table few (starts_below (256 ^ entry_bytes) 0 ls (omega arith)));
          }

-- any list of calls
abbrev BytesFollow : List Setting → Lent → List Setting → Type 0
BytesFollow ss l done =
    let a = set_keys_by set_key_entry ss l done in Follows l a.0 × (set_keys ss (in_numbers l) done ≡ (in_numbers a.0, a.1))

list_follows : (ss : List Setting) (l : Lent) (done : List Setting) → AllBytes (table_in l) → BytesFollow ss l done
unfolding set_keys_by
list_follows [] l done p = (follows_self l p, refl)
list_follows (setting k v ∷ ss) (lent buf used table count) done p =
    let ns : List ℕ = numbers_of entry_bytes table in
    let s = step buf used table count p (set_key (lent buf used ns count) (setting k v)) (set_done buf used ns count k v) in
    let a = set_key_call buf used ns count k v in
    let next : Lent = in_bytes table (left a) in
    let more : List Setting = recorded a.0 (setting k v) done in
    let on = list_follows ss next more s.follows.bytes in (
      follows_then s.follows on.0,
      ap (λ (l : Lent). set_keys ss l more) (sym s.numbers) ∙ on.1,
    )

-- ---- a reading, in bytes

-- the answer on numbers, and its table in the bytes of `own`
answer_in_bytes : (own : List ℕ) (x : ReadAnswer × List ℕ) (a b : ReadAnswer) (t u : List ℕ) → x ≡ (a, t) → a ≡ b → lent_numbers entry_bytes t own ≡ u
    → ◌≡◌ {A = ReadAnswer × List ℕ} (x.0, lent_numbers entry_bytes x.1 own) (b, u)
answer_in_bytes own x a b t u e f q = ap (λ (y : ReadAnswer × List ℕ). (y.0, lent_numbers entry_bytes y.1 own)) e ∙ (λ i. (f i, q i))

module _ (file table : List ℕ) (p : AllBytes table) (es : List Entry) (gs : List Given) (ls : List Line) (e : header file ≡ accepted es gs ls) where
  table_below : AllBelow (256 ^ entry_bytes) (table_of es)
  table_below = starts_below (256 ^ entry_bytes) 0 (lines_of es) (omega (arith, (header_sound file e).short))

  -- a table with room holds the entries at its front
  read_done : length es ≤ length table / entry_bytes
      → ◌≡◌ {A = ReadAnswer × List ℕ} (read_entry file table) (read_answer (accepted es gs ls), over (number_bytes entry_bytes (table_of es)) table)
  unfolding with_table
  read_done h =
      let q : ltb (length (numbers_of entry_bytes table)) (length es) ≡ false =
      le-ltb (length (numbers_of entry_bytes table)) (length es) (omega (arith, length_numbers entry_bytes table)) in
      answer_in_bytes table _ _ _ _ _ (ap (with_table (numbers_of entry_bytes table)) e ∙ rw q) refl
      (numbers_over entry_bytes table p (table_of es) (omega (arith, length_table es)))

  -- a reading that is not refused had room
  read_room : NotRefused (read_entry file table).0.refusal → length es ≤ length table / entry_bytes
  unfolding with_table
  read_room h = go (ltb (length (numbers_of entry_bytes table)) (length es)) refl (sym (ap (λ (o : Outcome). (with_table (numbers_of entry_bytes table) o).0.refusal.number) e) ∙ h)
    where
      go : (b : Bool) → ltb (length (numbers_of entry_bytes table)) (length es) ≡ b
          → (if◌then◌else◌ {A = ReadAnswer × List ℕ} b (read_answer (refused (refusal lent_too_short)), numbers_of entry_bytes table) (read_answer (accepted es gs ls), over (table_of es) (numbers_of entry_bytes table))).0.refusal.number ≡ 0
          → length es ≤ length table / entry_bytes
      go true q z = absurd (omega arith)
      go false q z = omega (arith, ltb-false (length (numbers_of entry_bytes table)) (length es) q, length_numbers entry_bytes table)

-- a refused file is refused by craneholt_read
read_refused : (file table : List ℕ) (r : Refusal) → header file ≡ refused r → NotRefused (read_entry file table).0.refusal → ⊥
unfolding with_table
read_refused file table r e h =
    let q : r.number ≡ 0 = sym (ap (λ (o : Outcome). (with_table (numbers_of entry_bytes table) o).0.refusal.number) e) ∙ h in
    let l : 0 < r.number = (subst NumberedOutcome e (header_numbered file)).0 in
    omega arith

-- ---- what is carried

-- a value copied from a file whose header is accepted
value_of_lem : (file key out : List ℕ) (es : List Entry) (gs : List Given) (ls : List Line) → header file ≡ accepted es gs ls
    → copy_value_call file key out ≡ copy_value out (value_of key es)
value_of_lem file key out es gs ls e = ap (copy_value_in key out) e

-- a refused call for records leaves the list
none_over : (r : Refusal) (records : List Axis) (list : List ℕ) → (no_samples r, list) ≡ records_over (no_samples r) records list
unfolding axes_bytes
none_over r records list = refl

-- axis records in the bytes of a list, where the records of a second file are `moved`
axes_over : (first file : List ℕ) (es fs : List Entry) (gs : List Given) (ls : List Line) (moved : List Axis) → header first ≡ accepted es gs ls
    → header file ≡ accepted fs gs ls → axes_of fs gs ≡ moved → (list : List ℕ) → axes_entry file list ≡ records_over (axes_entry first list).0 moved list
unfolding axes_listed
axes_over first file es fs gs ls moved e g q list = rw (g, e) (go (ltb (length list / axis_width) (dimension_of gs)))
  where
    answer : Bool → List Axis → CountAnswer × List ℕ
    answer x records = if x then (no_samples (refusal lent_too_short), list) else (record { refusal = fine; count = dimension_of gs }, over (axes_bytes records) list)

    go : (x : Bool) → answer x (axes_of fs gs) ≡ records_over (answer x (axes_of es gs)).0 moved list
    go true = none_over (refusal lent_too_short) moved list
    go false = rw (q, take_all (dimension_of gs) moved (omega (arith, ap length q, axes_counted fs gs)))

-- what a list left, after a reading of `first` with `table`
carried_at : (first table : List ℕ) (es : List Entry) (gs : List Given) (ls : List Line) (b : List ℕ) (u : ℕ) (x : Lent) (done : List Setting)
    → header first ≡ accepted es gs ls → Follows (lent b u table 0) x → Settled first es gs ls (in_numbers x) done → Carried first table x done
carried_at first table es gs ls b u (lent buf used t n) done e f s =
    let ns : List ℕ = numbers_of entry_bytes t in
    let room : n ≤ length t / 4 = omega (arith, length_table s.entries, s.count, ap length s.table, length-take n ns, length_numbers entry_bytes t) in
    let few : length (take n ns) ≡ n = length-take-le n ns (omega (arith, length_numbers entry_bytes t)) in
    record {
      first_entries = es;
      first_fields = gs;
      first_rest = ls;
      reading = e;
      settled = s;
      room = omega arith;
      long = f.long;
      past = f.past n (omega arith);
      fresh = λ own p h.
          let q : lent_numbers entry_bytes (over (take n ns) (numbers_of entry_bytes own)) own ≡ over (take (4 * n) t) own =
          numbers_over entry_bytes own p (take n ns) (omega arith) ∙ ap (λ (v : List ℕ). over v own) (first_numbers entry_bytes t f.bytes n room) in
          answer_in_bytes own _ _ _ _ _ (s.fresh (numbers_of entry_bytes own) (omega (arith, s.count, length_numbers entry_bytes own))) s.numbers q;
      value = λ key out. value_of_lem (take used buf) key out s.entries gs ls s.reading ∙ ap (copy_value out) (s.values key);
      origin = λ list. rw (s.reading, e);
      directions = λ list. rw (s.reading, e);
      frame = λ list. rw (s.reading, e);
      files = s.files;
      name = s.name;
      sample_file = s.sample_file;
      axes = axes_over first (take used buf) es s.entries gs ls (map (moved_axis gs es s.entries) (axes_of es gs)) e s.reading (all_moved es s.entries gs s.axis);
      samples = λ second list. ap (λ (a : CountAnswer × List ℤ). (a.0, lent_samples a.1 list)) (s.samples second (samples_lent list));
    }

module _ (buf : List ℕ) (used : ℕ) (table : List ℕ) (h : used ≤ length buf) (p : AllBytes table) where
  -- the list after the reading `r`
  abbrev CarriedFrom : ReadAnswer × List ℕ → Type 0
  CarriedFrom r =
      (ss : List Setting) → let after = set_keys_by set_key_entry ss (lent buf used r.1 r.0.reading.lines) [] in Carried (take used buf) table after.0 after.1

  carried_from : (es : List Entry) (gs : List Given) (ls : List Line) → header (take used buf) ≡ accepted es gs ls
      → length es ≤ length table / entry_bytes → CarriedFrom (read_answer (accepted es gs ls), over (number_bytes entry_bytes (table_of es)) table)
  unfolding reading_of
  carried_from es gs ls e room ss =
      let many : length (table_of es) ≡ length es = length_table es in
      let few : length (table_of es) ≤ length table / 4 = omega arith in
      let t : List ℕ = over (number_bytes entry_bytes (table_of es)) table in
      let ns : numbers_of entry_bytes t ≡ over (table_of es) (numbers_of entry_bytes table) =
      numbers_of_front entry_bytes (table_of es) table few (table_below (take used buf) table p es gs ls e) in
      let f = follows_front buf buf used used table 0 (length es) (table_of es) p many (omega arith) room in
      let on = list_follows ss (lent buf used t (length es)) [] f.bytes in
      let after = set_keys_by set_key_entry ss (lent buf used t (length es)) [] in
      let front : take (length es) (numbers_of entry_bytes t) ≡ table_of es =
      ap (take (length es)) ns ∙ take_at (table_of es) (drop (length (table_of es)) (numbers_of entry_bytes table)) (length es) many in
      carried_at (take used buf) table es gs ls buf used after.0 after.1 e (follows_then f on.0)
      (subst (λ (a : Lent × List Setting). Settled (take used buf) es gs ls a.0 a.1) on.1
      (settings.lists buf used (numbers_of entry_bytes t) es gs ls h e front ss))

  carried_by : (o : Outcome) → header (take used buf) ≡ o → NotRefused (read_entry (take used buf) table).0.refusal
      → CarriedFrom (read_entry (take used buf) table)
  carried_by (refused r) e z = absurd (read_refused (take used buf) table r e z)
  carried_by (accepted es gs ls) e z =
      let room = read_room (take used buf) table p es gs ls e z in
      subst CarriedFrom (sym (read_done (take used buf) table p es gs ls e room)) (carried_from es gs ls e room)

pub carried : SettingsAreCarried
carried =
    record {
      lists = λ buf used table h p z. carried_by buf used table h p (header (take used buf)) refl z;
      numbers = λ l ss p. (list_follows ss l [] p).1;
      tables = λ l ss p. let after = (set_keys_by set_key_entry ss l []).0 in (list_follows ss l [] p).0.past (count_in after) (omega arith);
      cases = λ l s. ap (λ (a : SetAnswer). a.refusal) (same_answer l s) ∙ settings.cases (in_numbers l) s;
      taken = λ l s. ap (λ (a : SetAnswer). eqb a.refusal.number 0) (same_answer l s) ∙ settings.taken (in_numbers l) s;
    }
  where
    same_answer : (l : Lent) (s : Setting) → (call_on set_key_entry l s).0 ≡ (call_on set_key_call (in_numbers l) s).0
    same_answer (lent buf used table count) (setting k v) = refl
