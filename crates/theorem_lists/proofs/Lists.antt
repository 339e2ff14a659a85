-- One setting, a list of settings, and the cases of refusal: the statement of specs/Lists.antt.
-- Assumes nothing.
use Rattle.std.specs.Prelude.{if◌then◌else◌}
use mathlib.Core.Path.{◌≡◌, refl, sym, ap, ◌∙◌}
use Prim.Native.Nat.{ℕ, ◌≤◌}
use native.Mathlib.Omega.{arith}
use mathlib.Core.Bool.{Bool, true, false, not, ◌||◌, false≢true}
use mathlib.Core.List.{List, [], ◌∷◌, ◌++◌}
use mathlib.Core.Option.{Option, none, some}
use lib.Dec.{eqb, ltb}
use lib.ListN.{length, take, length-append, length-map}
use lib.Seq.{take_at}
use borrow.Author.Tests.{ltb-false, le-ltb, not-false, ne_eqb}
use Rattle.format.specs.declared.Refusal.{Refusal}
use Rattle.format.specs.Bytes.{is_some, or_else, or_default, over}
use Rattle.format.specs.Limits.{max_file, max_header, max_lines}
use Rattle.format.specs.Refusals.{fine}
use Rattle.format.specs.Lines.{Line, ending, unlines, starts}
use Rattle.format.specs.Fields.{Given, pairs_since}
use Rattle.format.specs.Header.{magic, Entry, entry, line_of, lines_of, Outcome, refused, accepted, header, version_of, value_of, table_of, header_length}
use Rattle.format.specs.Settings.{key_fine, value_fine, refilled, table_fine, Lent, lent, Setting, setting, SetOutcome, kept, changed, store, set_read, set_key}
use Rattle.format.specs.Calls.{reading_of, with_table, set_answer, set_key_call, call_on, left, recorded, set_keys_by, set_keys}
use Rattle.format.proofs.Lines.{length_starts}
use Rattle.format.proofs.Header.{header_sound, data_area}
use Rattle.format.proofs.Numbered.{NumberedOutcome, header_numbered}
use Rattle.theorem_lists.specs.Lists.{buffer_of, used_of, table_in, count_in, file_in, last_accepted, Settled, Case, first_case, read_cases, set_cases, SettingsHold}
use Rattle.theorem_lists.proofs.Entries.{put_entries, lines_put, first_of, header_put}
use Rattle.theorem_lists.proofs.Buffers.{unless, take_refilled, buffers_after, tables_after}
use Rattle.theorem_lists.proofs.Data.{place_moved, place_past, same_data, same_samples}
use Rattle.theorem_lists.proofs.Settled.{after_list, put_after_list, after_list_nil, lines_after_list, value_after_list}
use Rattle.theorem_lists.proofs.NamesStay.{names_after_list}
use Rattle.theorem_lists.proofs.AxesMove.{line_stays, axis_moved, label_past, unit_past, same_label, same_unit, axes_moved}

-- ---- what is lent

-- the file fits the refilled buffer
refilled_fits : (buf : List ℕ) (used : ℕ) (file : List ℕ) → length file ≤ length (refilled buf used file)
unfolding refilled
refilled_fits buf used file = rw length-append (omega arith)

-- what is lent holds a file whose header is accepted as the entries es, with the fields gs and before the lines ls; table and count are
-- those of the header, and the file fits the buffer
record Reads (x : Lent) (es : List Entry) (gs : List Given) (ls : List Line) : Type 0 where
  reading : header (file_in x) ≡ accepted es gs ls
  count : count_in x ≡ length es
  table : take (count_in x) (table_in x) ≡ table_of es
  fits : used_of x ≤ length (buffer_of x)

-- so it does once a file with such a header is stored
reads_stored : (buf : List ℕ) (used : ℕ) (table : List ℕ) (es : List Entry) (gs : List Given) (ls : List Line)
    → header (unlines (lines_of es) ++ unlines ls) ≡ accepted es gs ls
    → let file = unlines (lines_of es) ++ unlines ls in
    Reads (lent (refilled buf used file) (length file) (over (starts 0 (lines_of es)) table) (length (lines_of es))) es gs ls
reads_stored buf used table es gs ls e =
    let file : List ℕ = unlines (lines_of es) ++ unlines ls in
    record {
      reading = rw (take_refilled buf used file) e;
      count = length-map es line_of;
      table = take_at (starts 0 (lines_of es)) _ (length (lines_of es)) (length_starts 0 (lines_of es));
      fits = refilled_fits buf used file;
    }

-- ---- the cases of refusal

abbrev refusal_of : SetOutcome → Option Refusal
refusal_of (kept r) = some r
refusal_of (changed l) = none

-- a test that refuses is the first case
case_more : (t : Bool) (r : Refusal) (o : SetOutcome) (cs : List Case) → refusal_of o ≡ first_case cs
    → refusal_of (if t then kept r else o) ≡ first_case ((t, r) ∷ cs)
unfolding first_case
case_more true r o cs e = refl
case_more false r o cs e = e

-- a refused reading, and a setting that is done
case_read : (r : Refusal) → some r ≡ first_case ((true, r) ∷ [])
unfolding first_case
case_read r = refl

case_none : none ≡ first_case []
unfolding first_case
case_none = refl

-- a setting after the reading, and the whole
read_cases_lem : (buf : List ℕ) (used : ℕ) (table : List ℕ) (count : ℕ) (k v : List ℕ) (o : Outcome)
    → refusal_of (set_read buf used table count k v o) ≡ first_case (read_cases buf table count k v o)
unfolding set_read store
read_cases_lem buf used table count k v (refused r) = case_read r
read_cases_lem buf used table count k v (accepted es gs ls) =
    case_more (ltb (version_of es) pairs_since) _ _ _
    (case_more (not (key_fine k)) _ _ _
    (case_more (not (value_fine v)) _ _ _
    (case_more (not (table_fine table count (table_of es))) _ _ _
    (case_more _ _ _ _ (case_more _ _ _ _ (case_more _ _ _ _ (case_more _ _ _ _ case_none)))))))

set_cases_lem : (l : Lent) (s : Setting) → refusal_of (set_key l s) ≡ first_case (set_cases l s)
unfolding set_key
set_cases_lem (lent buf used table count) (setting k v) =
    case_more (ltb (length buf) used) _ _ _ (read_cases_lem buf used table count k v (header (take used buf)))

-- ---- no refusal of a setting has the number 0

abbrev AllNumbered : List Case → Type 0
AllNumbered [] = Unit {0}
AllNumbered (c ∷ cs) = (eqb c.1.number 0 ≡ false) × AllNumbered cs

abbrev Numbered : Option Refusal → Type 0
Numbered none = Unit {0}
Numbered (some r) = eqb r.number 0 ≡ false

first_numbered : (cs : List Case) → AllNumbered cs → Numbered (first_case cs)
unfolding first_case
first_numbered [] h = tt
first_numbered (c ∷ cs) h = go c.0 (first_numbered cs h.1)
  where
    go : (t : Bool) → Numbered (first_case cs) → Numbered (if t then some c.1 else first_case cs)
    go true k = h.0
    go false k = k

cases_numbered : (buf table : List ℕ) (count : ℕ) (k v : List ℕ) (o : Outcome) → NumberedOutcome o → AllNumbered (read_cases buf table count k v o)
cases_numbered buf table count k v (refused r) h = (ne_eqb r.number 0 (λ e. let f : ⊥ = omega arith in f), tt)
cases_numbered buf table count k v (accepted es gs ls) h = (refl, (refl, (refl, (refl, (refl, (refl, (refl, (refl, tt))))))))

set_numbered : (x : Lent) (s : Setting) → Numbered (refusal_of (set_key x s))
set_numbered (lent buf used table count) (setting k v) =
    let x : Lent = lent buf used table count in
    rw (set_cases_lem x (setting k v))
    (first_numbered (set_cases x (setting k v))
    (refl, cases_numbered buf table count k v (header (take used buf)) (header_numbered (take used buf))))

module _ (l : Line) (n : ℕ) (gs : List Given) (ls : List Line) where
  -- ---- one setting

  -- what holds after the setting of k to v, where the entries after line 1 were es
  abbrev After : List Entry → List ℕ → List ℕ → SetOutcome → Type 0
  After es k v (kept r) = Unit {0}
  After es k v (changed x) = Reads x (entry l (magic n) ∷ put_entries k v (ending l) es) gs ls

  -- it holds of every setting
  set_after : (x : Lent) (es : List Entry) (k v : List ℕ) → Reads x (entry l (magic n) ∷ es) gs ls → After es k v (set_key x (setting k v))
  unfolding set_key set_read store
  set_after (lent buf used table count) es k v g =
      let new : List Entry = entry l (magic n) ∷ put_entries k v (ending l) es in
      let file : List ℕ = unlines (lines_of new) ++ unlines ls in
      rw (le-ltb (length buf) used g.fits, g.reading, lines_put k v l n es)
      (unless (After es k v) (ltb n pairs_since) _ _ tt λ since.
      unless (After es k v) (not (key_fine k)) _ _ tt λ key.
      unless (After es k v) (not (value_fine v)) _ _ tt λ value.
      unless (After es k v) (not (table_fine table count (table_of (entry l (magic n) ∷ es)))) _ _ tt λ fine.
      unless (After es k v) (ltb max_header (header_length new)) _ _ tt λ short.
      unless (After es k v) (ltb max_lines (length (lines_of new))) _ _ tt λ few.
      unless (After es k v) (ltb max_file (length file)) _ _ tt λ small.
      unless (After es k v) (ltb (length buf) (length file) || ltb (length table) (length (lines_of new))) _ _ tt λ room.
      reads_stored buf used table new gs ls
      (header_put (take used buf) l n es gs ls k v g.reading
      (ltb-false n pairs_since since) (not-false (key_fine k) key) (not-false (value_fine v) value)
      (ltb-false max_header (header_length new) short) (rw length-map at (ltb-false max_lines (length (lines_of new)) few))
      (ltb-false max_file (length file) small)))

  -- ---- a list of settings

  -- one more setting, refused or done, where `done` were accepted
  step : (o : SetOutcome) (buf : List ℕ) (used : ℕ) (table : List ℕ) (count : ℕ) (done : List Setting) (es : List Entry) (k v : List ℕ)
      → Numbered (refusal_of o) → Reads (lent buf used table count) (entry l (magic n) ∷ after_list done (ending l) es) gs ls
      → After (after_list done (ending l) es) k v o
      → let a = set_answer buf used table count o in
      Reads (left a) (entry l (magic n) ∷ after_list (recorded a.0 (setting k v) done) (ending l) es) gs ls
  step (kept r) buf used table count done es k v h g f = rw h g
  step (changed (lent buf' used' table' count')) buf used table count done es k v h g f = rw (put_after_list done k v (ending l) es) at f

  -- every list
  list_after : (ss : List Setting) (x : Lent) (done : List Setting) (es : List Entry)
      → Reads x (entry l (magic n) ∷ after_list done (ending l) es) gs ls
      → let after = set_keys ss x done in Reads after.0 (entry l (magic n) ∷ after_list after.1 (ending l) es) gs ls
  unfolding set_keys_by
  list_after [] x done es g = g
  list_after (setting k v ∷ ss) (lent buf used table count) done es g =
      let x : Lent = lent buf used table count in
      let o : SetOutcome = set_key x (setting k v) in
      let a = set_answer buf used table count o in
      list_after ss (left a) (recorded a.0 (setting k v) done) es
      (step o buf used table count done es k v (set_numbered x (setting k v)) g (set_after x (after_list done (ending l) es) k v g))

  -- what is lent after the accepted settings `done` is as stated
  settled_is : (first : List ℕ) (x : Lent) (done : List Setting) (es : List Entry) → header first ≡ accepted (entry l (magic n) ∷ es) gs ls
      → Reads x (entry l (magic n) ∷ after_list done (ending l) es) gs ls → Settled first (entry l (magic n) ∷ es) gs ls x done
  unfolding value_of reading_of with_table
  settled_is first x done es e g =
      record {
        entries = entry l (magic n) ∷ after_list done (ending l) es;
        reading = g.reading;
        version = refl;
        values = λ k. rw (value_after_list done (ending l) es k) (or_none (last_accepted k done) (value_of k es));
        numbers = rw (g.reading, e, g.count);
        origin = rw (g.reading, e);
        direction = λ axis. rw (g.reading, e);
        frame = rw (g.reading, e);
        files = rw (g.reading, e);
        name = λ m out. rw (g.reading, e);
        sample_file = λ s. rw (g.reading, e);
        axis = axis_moved first (file_in x) e g.reading (line_stays done l n es);
        label_in_line = label_past first e;
        unit_in_line = unit_past first e;
        label = same_label first (file_in x) e g.reading;
        unit = same_unit first (file_in x) e g.reading;
        axes = axes_moved first (file_in x) e g.reading (line_stays done l n es);
        count = g.count;
        table = g.table;
        fresh = λ own h. rw (g.reading, le-ltb (length own) (length (entry l (magic n) ∷ after_list done (ending l) es)) h, g.table);
        lines = lines_after_list done l (magic n) es;
        names = names_after_list done l n es gs ls (first_of (header_sound first e)).1;
        rest = data_area (file_in x) g.reading ∙ sym (data_area first e);
        place = place_moved first (file_in x) e g.reading;
        past_header = place_past first e;
        bytes = same_data first (file_in x) e g.reading;
        samples = same_samples first (file_in x) e g.reading;
        fits = g.fits;
      }
    where
      or_none : (o p : Option (List ℕ)) → or_else (or_else o p) none ≡ or_else o (or_else p none)
      or_none none p = refl
      or_none (some w) p = refl

  -- the first part of the statement, where line 1 of the header is l
  lists_from : (buf : List ℕ) (used : ℕ) (table : List ℕ) (es : List Entry) → used ≤ length buf
      → header (take used buf) ≡ accepted (entry l (magic n) ∷ es) gs ls
      → take (length (entry l (magic n) ∷ es)) table ≡ table_of (entry l (magic n) ∷ es) → (ss : List Setting)
      → let after = set_keys ss (lent buf used table (length (entry l (magic n) ∷ es))) [] in
      Settled (take used buf) (entry l (magic n) ∷ es) gs ls after.0 after.1
  lists_from buf used table es h e t ss =
      let x : Lent = lent buf used table (length (entry l (magic n) ∷ es)) in
      settled_is (take used buf) (set_keys ss x []).0 (set_keys ss x []).1 es e
      (list_after ss x [] es (rw (after_list_nil (ending l) es) (record { reading = e; count = refl; table = t; fits = h })))

-- ---- the call

-- what the call answers, by the outcome
module _ (buf : List ℕ) (used : ℕ) (table : List ℕ) (count : ℕ) where
  answer_refusal : (o : SetOutcome) → (set_answer buf used table count o).0.refusal ≡ or_default fine (refusal_of o)
  answer_refusal (kept r) = refl
  answer_refusal (changed (lent buf' used' table' count')) = refl

  answer_taken : (o : SetOutcome) → Numbered (refusal_of o) → eqb (set_answer buf used table count o).0.refusal.number 0 ≡ not (is_some (refusal_of o))
  answer_taken (kept r) h = h
  answer_taken (changed (lent buf' used' table' count')) h = refl

  answer_kept : (o : SetOutcome) → eqb (set_answer buf used table count o).0.refusal.number 0 ≡ false
      → left (set_answer buf used table count o) ≡ lent buf used table count
  answer_kept (kept r) h = refl
  answer_kept (changed (lent buf' used' table' count')) h = absurd (false≢true (sym h))

call_cases : (l : Lent) (s : Setting) → (call_on set_key_call l s).0.refusal ≡ or_default fine (first_case (set_cases l s))
call_cases (lent buf used table count) (setting k v) =
    let l : Lent = lent buf used table count in
    answer_refusal buf used table count (set_key l (setting k v)) ∙ ap (or_default fine) (set_cases_lem l (setting k v))

call_taken : (l : Lent) (s : Setting) → eqb (call_on set_key_call l s).0.refusal.number 0 ≡ not (is_some (first_case (set_cases l s)))
call_taken (lent buf used table count) (setting k v) =
    let l : Lent = lent buf used table count in
    answer_taken buf used table count (set_key l (setting k v)) (set_numbered l (setting k v))
    ∙ ap (λ (o : Option Refusal). not (is_some o)) (set_cases_lem l (setting k v))

call_kept : (l : Lent) (s : Setting) → eqb (call_on set_key_call l s).0.refusal.number 0 ≡ false → left (call_on set_key_call l s) ≡ l
call_kept (lent buf used table count) (setting k v) h =
    answer_kept buf used table count (set_key (lent buf used table count) (setting k v)) h

-- ---- the statement

pub settings : SettingsHold
settings = record {
  lists = λ buf used table es gs ls h e t ss.
      let x = header_sound (take used buf) e in
      rw x.entries
      (lists_from x.first x.version gs ls buf used table x.rest h (rw x.entries at e) (rw x.entries at t) ss);
  buffers = buffers_after;
  tables = tables_after;
  cases = call_cases;
  taken = call_taken;
  kept = call_kept;
}
