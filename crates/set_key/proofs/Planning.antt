-- The refusals of a setting in order, and the edit where there is none.
-- Assumes nothing.
use Rattle.std.specs.Prelude.{if◌then◌else◌}
use Prim.Native.Nat.{ℕ, ◌+◌, ◌-◌, ◌≤◌, ◌<◌, min}
use native.Mathlib.Omega.{arith}
use mathlib.Core.Path.{◌≡◌, refl, sym, ap, ◌∙◌, subst}
use mathlib.Core.Bool.{Bool, true, false, not, ◌||◌}
use mathlib.Core.List.{List, [], ◌++◌, append_assoc}
use lib.Dec.{ltb}
use lib.ListN.{length, take, get_or, length-append, length-map}
use lib.Seq.{take-append-le, drop-append-le, get_or-take}
use borrow.Author.Tests.{lt-ltb, ltb-true, ltb-false}
use Rattle.std.specs.Prelude.{Result, Ok, Err}
use Rattle.format.specs.declared.Reading.{Reading}
use Rattle.format.specs.declared.reason.Reason.{Reason}
use Rattle.format.specs.declared.reason.Reason.TheVariants.{FileTooLong, HeaderTooLong, TooManyLines, LentTooShort}
use Rattle.format.specs.declared.reason.Refused.{Refused}
use Rattle.format.specs.Reasons.{reason_number, refusal_number, without_line}
use Rattle.format.specs.Answers.{reading_answered}
use Rattle.format.specs.Bytes.{over}
use Rattle.format.specs.Limits.{max_file, max_header, max_lines}
use Rattle.format.specs.Refusals.{file_too_long, header_too_long, too_many_lines, not_in_version, lent_too_short, bad_key, bad_value, wrong_table, refusal, fine}
use Rattle.format.specs.Lines.{Line, unlines, starts}
use Rattle.format.specs.Fields.{Given, pairs_since}
use Rattle.format.specs.Header.{Entry, line_of, lines_of, accepted, header, header_length, field_lines, version_of, table_of, Outcome, refused}
use Rattle.format.specs.Settings.{key_fine, value_fine, pair_text, new_lines, table_fine, SetOutcome, lent, kept, changed, refilled, store, set_read}
use Rattle.format.specs.Calls.{no_reading, read_answer, read_header_call, reading_of}
use Rattle.format.proofs.Bytes.{or-false}
use Rattle.format.proofs.Header.{header_sound, length_table}
use Rattle.format.proofs.Numbered.{NumberedOutcome, header_numbered}
use Rattle.read_header.specs.Accepted.{Fielded}
use Rattle.read_header.proofs.Accepted.{was_refused}
use Rattle.read_header.proofs.Calls.{starts_of_lem, header_lined}
use Rattle.read_table.specs.Tables.{Lined, starts_of}
use Rattle.read_table.specs.Shifts.{moved_by, shifted, moved_entries, Shiftable}
use Rattle.set_splice.specs.Edited.{edited}
use Rattle.set_splice.proofs.Held.{length_edited}
use Rattle.read_table.specs.declared.table.Edit.{Edit}
use Rattle.set_key.specs.declared.plan.Sizes.{Sizes}
use Rattle.set_key.specs.declared.plan.Plan.{Plan}
use Rattle.set_key.specs.Edits.{Placed, Small, asked_number, fitted, text_length, Ready, Planned}
use Rattle.read_table.proofs.Shifting.{moved_within, start_within, fine_many, fine_is}

-- ---- refusals by their reasons

-- a reason has a number that is not 0
pub some_number : (reason : Reason) → reason_number reason ≡ 0 → ⊥
some_number reason e = grind arith

-- ---- what was read

pub record Read (file : List ℕ) (reading : Reading) : Type 0 where
  pub entries : List Entry
  pub fields : List Given
  pub after : List Line
  pub is : header file ≡ accepted entries fields after
  pub version : reading.version ≡ version_of entries
  pub lines : reading.lines ≡ length entries
  pub before_names : reading.fieldlines ≡ field_lines entries
  pub bytes : reading.length ≡ header_length entries

pub read_of : (file : List ℕ) (reading : Reading) → reading_answered (Ok reading) ≡ read_header_call file → Read file reading
unfolding reading_of
read_of file reading e = go (header file) refl e
  where
    go : (o : Outcome) → header file ≡ o → reading_answered (Ok reading) ≡ read_answer o → Read file reading
    go (refused r) p q = let n = subst NumberedOutcome p (header_numbered file) in absurd (omega (arith, n, ap (λ a. a.refusal.number) q))
    go (accepted es gs ls) p q =
        record {
          entries = es;
          fields = gs;
          after = ls;
          is = p;
          version = ap (λ a. a.reading.version) q;
          lines = ap (λ a. a.reading.lines) q;
          before_names = ap (λ a. a.reading.fieldlines) q;
          bytes = ap (λ a. a.reading.length) q;
        }

-- the reading's refusal
pub plan_unread : (file : List ℕ) (r : Refused) → reading_answered (Err r) ≡ read_header_call file
    → (room : ℕ) (table : List ℕ) (count : ℕ) (k v : List ℕ) → Planned file room table count k v (Err r)
unfolding set_read no_reading
plan_unread file r e room table count k v buf used q = rw (was_refused file (reading_answered (Err r)) e refl)

module _ {file : List ℕ} {reading : Reading} (r : Read file reading) where
  pub fielded : Fielded file reading.fieldlines
  fielded = record { entries = r.entries; fields = r.fields; after = r.after; is = r.is; many = r.before_names }

  -- its lines are there, and their starts are its table
  pub read_lined : Lined file 0 reading.lines
  read_lined = subst (Lined file 0) (sym r.lines) (header_lined file r.is)

  pub read_starts : starts_of file reading.lines ≡ table_of r.entries
  read_starts = ap (starts_of file) r.lines ∙ starts_of_lem file r.is

-- ---- the key, the value, the table

module _ (s : SetOutcome) where
  abbrev asked_by : Bool → Bool → Bool → Bool → ℕ
  asked_by x y z w = if x then not_in_version else if not y then bad_key else if not z then bad_value else if not w then wrong_table else 0

  abbrev set_by : Bool → Bool → Bool → Bool → SetOutcome
  set_by x y z w =
      if x then kept (refusal not_in_version) else if not y then kept (refusal bad_key) else if not z then kept (refusal bad_value)
      else if not w then kept (refusal wrong_table) else s

  asked_refused : (x y z w : Bool) (n : ℕ) → n ≡ asked_by x y z w → (n ≡ 0 → ⊥) → set_by x y z w ≡ kept (refusal n)
  asked_refused true y z w n e h = rw e
  asked_refused false false z w n e h = rw e
  asked_refused false true false w n e h = rw e
  asked_refused false true true false n e h = rw e
  asked_refused false true true true n e h = absurd (h e)

  asked_none : (x y z w : Bool) (n : ℕ) → n ≡ asked_by x y z w → n ≡ 0 → (set_by x y z w ≡ s) × (w ≡ true)
  asked_none true y z w n e h = absurd (omega arith)
  asked_none false false z w n e h = absurd (omega arith)
  asked_none false true false w n e h = absurd (omega arith)
  asked_none false true true false n e h = absurd (omega arith)
  asked_none false true true true n e h = (refl, refl)

module _ (file table : List ℕ) (count : ℕ) (k v : List ℕ) (version number : ℕ) {es : List Entry} {gs : List Given} {ls : List Line}
    (e : header file ≡ accepted es gs ls) (since : version ≡ version_of es)
    (asked : number ≡ asked_number version (key_fine k) (value_fine v) (table_fine table count (table_of es))) where
  pub plan_asked : (reason : Reason) → number ≡ reason_number reason → (room : ℕ) → Planned file room table count k v (Err (without_line reason))
  unfolding set_read asked_number
  plan_asked reason q room buf used b =
      rw (e, ← since)
      (asked_refused (store buf used table (new_lines k v es) (unlines ls)) (ltb version pairs_since) (key_fine k) (value_fine v) (table_fine table count (table_of es)) number asked (λ n. some_number reason (sym q ∙ n))
      ∙ ap (λ n. kept (refusal n)) q)

  module _ (h : number ≡ 0) where
    passed : (buf : List ℕ) (used : ℕ)
        → (set_read buf used table count k v (accepted es gs ls) ≡ store buf used table (new_lines k v es) (unlines ls))
        × (table_fine table count (table_of es) ≡ true)
    unfolding set_read asked_number
    passed buf used =
        rw (← since)
        (asked_none (store buf used table (new_lines k v es) (unlines ls)) (ltb version pairs_since) (key_fine k) (value_fine v) (table_fine table count (table_of es)) number asked h)

-- ---- the limits

module _ (s : SetOutcome) (p : Plan) where
  abbrev fit_by : Bool → Bool → Bool → Bool → Result Plan Reason
  fit_by x y z w = if x then Err HeaderTooLong else if y then Err TooManyLines else if z then Err FileTooLong else if w then Err LentTooShort else Ok p

  abbrev store_by : Bool → Bool → Bool → Bool → SetOutcome
  store_by x y z w =
      if x then kept (refusal header_too_long) else if y then kept (refusal too_many_lines) else if z then kept (refusal file_too_long)
      else if w then kept (refusal lent_too_short) else s

  fit_refused : (x y z w : Bool) (reason : Reason) → Err reason ≡ fit_by x y z w → store_by x y z w ≡ kept (refusal (reason_number reason))
  fit_refused true y z w r e = ap (λ q. kept (refusal (refusal_number q))) (sym e)
  fit_refused false true z w r e = ap (λ q. kept (refusal (refusal_number q))) (sym e)
  fit_refused false false true w r e = ap (λ q. kept (refusal (refusal_number q))) (sym e)
  fit_refused false false false true r e = ap (λ q. kept (refusal (refusal_number q))) (sym e)
  fit_refused false false false false r e = absurd (some_number r (ap refusal_number e))

  -- the plan, or q
  abbrev plan_or : Plan → Result Plan Reason → Plan
  plan_or q (Ok p) = p
  plan_or q (Err r) = q

  fit_none : (x y z w : Bool) (q : Plan) → Ok q ≡ fit_by x y z w
      → (store_by x y z w ≡ s) × (q ≡ p) × (x ≡ false) × (y ≡ false) × (z ≡ false) × (w ≡ false)
  fit_none true y z w q e = absurd (omega (arith, ap refusal_number e))
  fit_none false true z w q e = absurd (omega (arith, ap refusal_number e))
  fit_none false false true w q e = absurd (omega (arith, ap refusal_number e))
  fit_none false false false true q e = absurd (omega (arith, ap refusal_number e))
  fit_none false false false false q e = (refl, ap (plan_or p) e, refl, refl, refl, refl)

-- ---- the new file

edited_append : (u r new : List ℕ) (from to : ℕ) → from ≤ length u → to ≤ length u → edited (u ++ r) from to new ≡ edited u from to new ++ r
unfolding edited
edited_append u r new from to h g = rw (take-append-le from u r h, drop-append-le to u r g) (simp append_assoc)

module _ (file k v : List ℕ) {es : List Entry} {gs : List Given} {ls : List Line} (e : header file ≡ accepted es gs ls)
    (q : Edit) (w : Placed k es (text_length k v) q) where
  abbrev new : List Line
  new = new_lines k v es

  new_file : unlines new ++ unlines ls ≡ edited file q.from q.to (pair_text k v)
  new_file =
      ap (λ u. u ++ unlines ls) (w.bytes v)
      ∙ sym (edited_append (unlines (lines_of es)) (unlines ls) (pair_text k v) q.from q.to w.from w.to)
      ∙ ap (λ f. edited f q.from q.to (pair_text k v)) (sym (header_sound file e).bytes)

  file_length : length file ≡ header_length es + length (unlines ls)
  file_length = ap length (header_sound file e).bytes ∙ length-append (unlines (lines_of es)) (unlines ls)

  from_in : q.from ≤ length file
  from_in = omega (arith, w.from, file_length)

  to_in : q.to ≤ length file
  to_in = omega (arith, w.to, file_length)

  header_bytes : length (unlines new) ≡ q.from + length (pair_text k v) + (header_length es - q.to)
  header_bytes = ap length (w.bytes v) ∙ length_edited (unlines (lines_of es)) (pair_text k v) q.from q.to w.from w.to

  file_bytes : length (unlines new ++ unlines ls) ≡ q.from + length (pair_text k v) + (length file - q.to)
  file_bytes = ap length new_file ∙ length_edited file (pair_text k v) q.from q.to from_in to_in

  -- the sizes of the file, as the reading tells them
  module _ (old : Sizes) (hb : old.header ≡ header_length es) (hc : old.lines ≡ length es) (hf : old.file ≡ length file) where
    -- they fit their types
    pub numbers_small : Small q old
    numbers_small =
        let x = header_sound file e in
        record {
          front = omega (arith, w.front, w.from, hb);
          to = omega (arith, w.to, hb);
          few = w.few;
          header = omega (arith, x.short, hb);
          lines = omega (arith, x.few, hc);
          within = omega (arith, file_length, hb, hf);
          file = omega (arith, x.small, hf);
        }

    -- once the key, the value and the table are fine
    module _ (table : List ℕ) (count : ℕ) (version number : ℕ) (since : version ≡ version_of es)
        (asked : number ≡ asked_number version (key_fine k) (value_fine v) (table_fine table count (table_of es))) (none : number ≡ 0) (room : ℕ) where
      abbrev bytes' : ℕ
      bytes' = q.front + (old.header - q.to)

      abbrev length' : ℕ
      length' = q.front + (old.file - q.to)

      abbrev count' : ℕ
      count' = old.lines + q.more

      abbrev edit : List ℕ
      edit = edited file q.from q.to (pair_text k v)

      abbrev plan' : Plan
      plan' = record { edit = q; length = length'; count = count' }

      abbrev done : List ℕ → ℕ → SetOutcome
      done buf used = changed (lent (refilled buf used edit) length' (over (starts 0 new) table) count')

      read_is : (buf : List ℕ) (used : ℕ) → set_read buf used table count k v (header file) ≡ store buf used table new (unlines ls)
      read_is buf used = ap (set_read buf used table count k v) e ∙ (passed file table count k v version number e since asked none buf used).0

      -- the header is too long, by the capped length or not
      too_long : max_header < bytes' → Planned file room table count k v (Err (without_line HeaderTooLong))
      unfolding store
      too_long h buf used b = read_is buf used ∙ rw (lt-ltb max_header (length (unlines new)) (omega (arith, header_bytes, w.front, hb)))

      -- it is not, so the length is not capped
      module _ (short : bytes' ≤ max_header) where
        exact : q.front ≡ q.from + length (pair_text k v)
        exact = omega (arith, w.front)

        abbrev tests : {A : Type 0} → (Bool → Bool → Bool → Bool → A) → A
        tests f = f (ltb max_header bytes') (ltb max_lines count') (ltb max_file length') (ltb room length' || ltb (length table) count')

        store_is : (buf : List ℕ) (used : ℕ) → length buf ≡ room → store buf used table new (unlines ls) ≡ tests (store_by (done buf used) plan')
        unfolding store
        store_is buf used b =
            let h₁ : length (unlines new) ≡ bytes' = omega (arith, header_bytes, exact, hb) in
            let h₂ : length new ≡ count' = omega (arith, w.count v, hc) in
            let h₃ : length (unlines new ++ unlines ls) ≡ length' = omega (arith, file_bytes, exact, hf) in
            rw (h₁, h₂, h₃, b, new_file)

        refusing : (reason : Reason) → Err reason ≡ tests (fit_by (done [] 0) plan') → Planned file room table count k v (Err (without_line reason))
        refusing reason fit buf used b =
            read_is buf used ∙ store_is buf used b
            ∙ fit_refused (done buf used) plan' (ltb max_header bytes') (ltb max_lines count') (ltb max_file length') (ltb room length' || ltb (length table) count') reason fit

        module _ (r : Plan) (fit : Ok r ≡ tests (fit_by (done [] 0) plan')) where
          all : (buf : List ℕ) (used : ℕ)
              → (tests (store_by (done buf used) plan') ≡ done buf used) × (r ≡ plan') × (ltb max_header bytes' ≡ false) × (ltb max_lines count' ≡ false)
              × (ltb max_file length' ≡ false) × ((ltb room length' || ltb (length table) count') ≡ false)
          all buf used =
              fit_none (done buf used) plan' (ltb max_header bytes') (ltb max_lines count') (ltb max_file length') (ltb room length' || ltb (length table) count') r fit

          rooms : (length' ≤ room) × (count' ≤ length table)
          rooms =
              let o = or-false (ltb room length') (ltb (length table) count') (all [] 0).5 in
              (ltb-false room length' o.0, ltb-false (length table) count' o.1)

          accepts : table_fine table count (table_of es) ≡ true
          accepts = (passed file table count k v version number e since asked none [] 0).1

          many : count ≡ length es
          many = fine_many table count (table_of es) accepts ∙ length_table es

          entry_within : (j : ℕ) → j < count → get_or table j 0 ≤ header_length es
          entry_within j h =
              let t : get_or table j 0 ≡ get_or (table_of es) j 0 = sym (get_or-take count table j 0 h) ∙ ap (λ l. get_or l j 0) (fine_is table count (table_of es) accepts) in
              omega (arith, t, start_within (lines_of es) j (omega (arith, many, length-map es line_of)))

          moves : Shiftable table count q.more q.from q.to q.front
          moves =
              let x = header_sound file e in
              record {
                some = omega (arith, many, ap length x.entries);
                few = w.few;
                room = omega (arith, many, rooms.1, hc);
                second = omega (arith, w.from, x.short);
                small = λ j h.
                    let b : moved_by q.to q.front (get_or table j 0) ≤ max_header =
                    moved_within q.to q.front (get_or table j 0) (header_length es) max_header (entry_within j h) x.short (omega (arith, short, hb)) in
                    omega arith;
              }

          starts_are : starts 0 new ≡ moved_entries q (take count table)
          starts_are = rw (fine_is table count (table_of es) accepts, exact) (w.table v)

          is_ready : Ready file room table count k v plan'
          is_ready =
              record {
                from = from_in;
                to = to_in;
                text = exact;
                long = rw hf;
                fits = rooms.0;
                shift = moves;
                answer = λ buf used b.
                    read_is buf used ∙ store_is buf used b ∙ (all buf used).0
                    ∙ ap (λ t. changed (lent (refilled buf used edit) length' (over t table) count')) starts_are;
              }

          ready : Ready file room table count k v r
          ready = subst (Ready file room table count k v) (sym (all [] 0).1) is_ready

      pub plan_refused : (reason : Reason) → Err reason ≡ fitted q old room (length table) → Planned file room table count k v (Err (without_line reason))
      unfolding fitted
      plan_refused reason f = go (ltb max_header bytes') refl f
        where
          go : (x : Bool) → ltb max_header bytes' ≡ x
              → Err reason ≡ fit_by (done [] 0) plan' x (ltb max_lines count') (ltb max_file length') (ltb room length' || ltb (length table) count')
              → Planned file room table count k v (Err (without_line reason))
          go true t g = λ buf used b. too_long (ltb-true max_header bytes' t) buf used b ∙ ap (λ r. kept (refusal (refusal_number r))) (sym g)
          go false t g = refusing (ltb-false max_header bytes' t) reason (rw t g)

      pub plan_ready : (r : Plan) → Ok r ≡ fitted q old room (length table) → Ready file room table count k v r
      unfolding fitted
      plan_ready r f = go (ltb max_header bytes') refl f
        where
          go : (x : Bool) → ltb max_header bytes' ≡ x
              → Ok r ≡ fit_by (done [] 0) plan' x (ltb max_lines count') (ltb max_file length') (ltb room length' || ltb (length table) count')
              → Ready file room table count k v r
          go true t g = absurd (omega (arith, ap refusal_number g))
          go false t g = ready (ltb-false max_header bytes' t) r (rw t g)
