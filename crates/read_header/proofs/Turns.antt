-- A turn of the reading: what the walk answers from a line on, by what stands there.
-- Assumes nothing.
use Rattle.std.specs.Prelude.{if◌then◌else◌}
use Prim.Native.Nat.{ℕ, suc, ◌+◌, ◌-◌, ◌≤◌, ◌<◌}
use native.Mathlib.Nat.{add-zero}
use native.Mathlib.Omega.{arith}
use mathlib.Core.Path.{◌≡◌, refl, sym, ap, subst, ◌∙◌}
use mathlib.Core.Bool.{Bool, true, false, not, ◌&&◌, ◌||◌, false≢true}
use mathlib.Core.Option.{Option, none, some}
use mathlib.Core.List.{List, [], ◌∷◌}
use lib.Dec.{eqb, ltb}
use lib.ListN.{length, take, drop, get_or, length-take, length-drop, length-append}
use borrow.Author.Tests.{lt-ltb, le-ltb, eqb-true, ne_eqb}
use Rattle.format.specs.declared.ReadAnswer.{ReadAnswer}
use Rattle.format.specs.Bytes.{every, is_some}
use Rattle.format.specs.Limits.{max_header, max_lines, max_extent}
use Rattle.format.specs.Refusals.{no_end, bad_byte, bad_descriptor, missing_field, extent_too_large, header_too_long, too_many_lines, at_line, refusal, fine}
use Rattle.format.specs.Lines.{Line, line, size, lines, unlines}
use Rattle.format.specs.Pairs.{plain}
use Rattle.format.specs.Fields.{Given, named, descriptor_of, file_names, data_file}
use Rattle.format.specs.DataFiles.{is_list}
use Rattle.format.specs.Descriptors.{meaning, has_needed, end_is_raw, extent_of, files_fine, is_detached, names_follow, list_empty, file_count_of}
use Rattle.format.specs.Header.{Item, given_of, magic, comment, field, pair, file_name, closing, is_file_name, entry, Judged, wrong, right, on_name, judge, Outcome, refused, accepted, with_entry, closes, after_item, complete, on_judged, walk, header_length, before_names, field_lines}
use Rattle.format.specs.Calls.{no_reading, padded, reading_at, read_answer}
use Rattle.format.proofs.Lines.{lines_none, length_unlines_cons}
use Rattle.format.proofs.Bytes.{and_right}
use Rattle.format.proofs.Judged.{is_closing, judge_named, names_still, no_names}
use Rattle.format.proofs.Header.{walk_sound}
use Rattle.format.proofs.Named.{name_follows, list_begins}
use Rattle.format.proofs.Numbered.{Numbered, judge_numbered}
use Rattle.std.specs.Prelude.{Result, Ok, Err}
use Rattle.std.specs.Result.{is_err}
use Rattle.format.specs.declared.reason.Reason.{Reason}
use Rattle.format.specs.declared.reason.Refused.{Refused}
use Rattle.format.specs.Reasons.{reason_number, without_line}
use Rattle.format.specs.Answers.{reading_answered}
use Rattle.read_fields.specs.declared.state.State.{State}
use Rattle.read_fields.specs.declared.state.Step.{Step}
use Rattle.read_fields.specs.declared.state.Step.TheVariants.{Closes, Passes, Gives}
use Rattle.read_fields.specs.States.{Holds, Known, step_given, step_right, stepped, with_sizes, sizes_given, kept_step, shuts, lists, no_state, complete_number, finished, answer_from, named_from}
use Rattle.read_lines.specs.Spans.{LineAt, PastAt}
use Rattle.read_fields.proofs.States.{shuts_is, holds_none, holds_name, holds_next, known_of, list_after}
use Rattle.read_header.specs.Listed.{names_ended}

-- ---- answers

-- a line in front, which is no name: it and its bytes count
answer_entry : (version n at : ℕ) (l : Line) (i : Item) (o : Outcome) → 1 ≤ n → is_file_name i ≡ false
    → answer_from version n at (with_entry (entry l i) o) ≡ answer_from version (n + 1) (at + size l) o
unfolding before_names
answer_entry version n at l i (refused r) h f = refl
answer_entry version n at l i (accepted es gs ls) h f =
    let b : at + header_length (entry l i ∷ es) ≡ at + size l + header_length es = rw length_unlines_cons (omega arith) in
    let c : n - 1 + suc (length es) ≡ n + 1 - 1 + length es = omega arith in
    let d : n - 1 + suc (field_lines es) ≡ n + 1 - 1 + field_lines es = omega arith in
    rw (f, b, c, d)

-- the end of the header where a name follows LIST, if that is given
complete_number_lem : (n : ℕ) (gs : List Given) (ls : List Line) → list_empty gs ≡ false
    → complete n gs ls ≡ (if eqb (complete_number gs) 0 then accepted [] gs ls else refused (refusal (complete_number gs)))
unfolding complete complete_number
complete_number_lem n gs ls e = rw e (go (has_needed gs) (end_is_raw gs) (ltb max_extent (extent_of gs)) (files_fine gs))
  where
    number : Bool → Bool → Bool → Bool → ℕ
    number a b c d = if not a then missing_field else if not b then bad_descriptor else if c then extent_too_large else if not d then bad_descriptor else 0

    go : (a b c d : Bool)
        → (if not a then refused (refusal missing_field) else if not b then refused (refusal bad_descriptor)
        else if c then refused (refusal extent_too_large) else if not d then refused (refusal bad_descriptor) else accepted [] gs ls)
        ≡ (if eqb (number a b c d) 0 then accepted [] gs ls else refused (refusal (number a b c d)))
    go false b c d = refl
    go true false c d = refl
    go true true true d = refl
    go true true false true = refl
    go true true false false = refl

answer_complete : (version m n at : ℕ) (gs : List Given) (ls : List Line) → list_empty gs ≡ false
    → answer_from version m at (complete n gs ls) ≡ finished version gs at (m - 1) (m - 1)
unfolding finished unlines before_names
answer_complete version m n at gs ls e = rw (complete_number_lem n gs ls e) (go (eqb (complete_number gs) 0))
  where
    go : (x : Bool)
        → answer_from version m at (if x then accepted [] gs ls else refused (refusal (complete_number gs)))
        ≡ (if x then record { refusal = fine; reading = reading_at version gs at (m - 1) (m - 1) } else record { refusal = refusal (complete_number gs); reading = no_reading })
    go true = simp add-zero
    go false = refl

-- ---- lines that are names, and lines that are none

-- where no names follow, a line is none
no_name : (version : ℕ) (gs : List Given) (t : List ℕ) {i : Item} → names_follow gs ≡ false → judge version gs t ≡ right i → is_file_name i ≡ false
no_name version gs t {i} n j = go (is_file_name i) refl
  where
    go : (x : Bool) → is_file_name i ≡ x → x ≡ false
    go false e = refl
    go true e = absurd (false≢true (sym n ∙ name_follows version gs t j e))

-- and gives none
names_stay : (i : Item) (gs : List Given) → is_file_name i ≡ false → file_names (after_item i gs) ≡ file_names gs
unfolding file_names
names_stay (magic v) gs e = refl
names_stay comment gs e = refl
names_stay (field f d) gs e = refl
names_stay (pair k v) gs e = refl
names_stay (file_name t) gs e = absurd (false≢true (sym e))
names_stay closing gs e = refl

-- a text that is not empty is a name, or holds a byte that it may not
name_wrong : (u : List ℕ) → 0 < length u → every plain u ≡ false → on_name u ≡ wrong bad_byte
name_wrong [] h p = absurd (let z : ⊥ = omega arith in z)
name_wrong (b ∷ u) h p = rw p

name_right : (u : List ℕ) → 0 < length u → every plain u ≡ true → on_name u ≡ right (file_name u)
name_right [] h p = absurd (let z : ⊥ = omega arith in z)
name_right (b ∷ u) h p = rw p

-- LIST without a name
complete_empty : (n : ℕ) (gs : List Given) (ls : List Line) → list_empty gs ≡ true → complete n gs ls ≡ refused (at_line bad_descriptor (n - 1))
unfolding complete
complete_empty n gs ls e = rw e

-- the answer of a refusal
abbrev pub refused_at : ℕ → ℕ → ReadAnswer
refused_at w n = read_answer (refused (at_line w n))

-- a refusal for a reason, at a line
pub refuses : (w : Reason) (n : ℕ) {r : Refused} → r.reason ≡ w → r.line ≡ n → reading_answered (Err r) ≡ refused_at (reason_number w) n
refuses w n e f = rw (e, f)

pub refuses_file : (w : Reason) {r : Refused} → r ≡ without_line w → reading_answered (Err r) ≡ refused_at (reason_number w) 0
refuses_file w e = rw e

-- ---- a turn

-- the number of a refusal, and the step
abbrev number_in : Result Step ℕ → ℕ
number_in (Ok step) = 0
number_in (Err v) = v

abbrev step_in : Result Step ℕ → Step
step_in (Ok step) = step
step_in (Err v) = Passes

-- the answer from line n on, which starts at `at`, after the fields gs
abbrev pub answer_at : List ℕ → ℕ → List Given → ℕ → ℕ → ReadAnswer
answer_at file version gs n at = answer_from version n at (walk version n at gs (lines (drop at file)))

module _ (file : List ℕ) (version : ℕ) (gs : List Given) (n at : ℕ) where
  -- at the end of the bytes
  pub turn_end : length file ≤ at → is_detached gs ≡ true → list_empty gs ≡ false → answer_at file version gs n at ≡ finished version gs at (n - 1) (n - 1)
  unfolding walk
  turn_end h e u = rw (lines_none file at h, e) (answer_complete version n n at gs [] u)

  pub turn_no_end : length file ≤ at → is_detached gs ≡ false → answer_at file version gs n at ≡ refused_at no_end 0
  unfolding walk
  turn_no_end h e = rw (lines_none file at h, e)

  -- the line ends past the limit
  pub turn_past : PastAt file at → answer_at file version gs n at ≡ refused_at header_too_long n
  unfolding walk
  turn_past w = rw (w.cut, lt-ltb max_header (at + size w.first) w.long)

  module _ (text_end next : ℕ) (w : LineAt file at text_end next) where
    t : List ℕ
    t = take (text_end - at) (drop at file)

    not_past : ltb max_header (at + size (line t w.ending)) ≡ false
    unfolding t
    not_past = le-ltb max_header (at + size (line t w.ending)) (omega (arith, w.bytes, w.short))

    -- it is a line too many
    pub turn_many : max_lines < n → answer_at file version gs n at ≡ refused_at too_many_lines n
    unfolding walk t
    turn_many h = rw (w.cut, not_past, lt-ltb max_lines n h)

    -- what comes of the line by its judgement
    judged : n ≤ max_lines → (j : Judged) → judge version gs t ≡ j
        → answer_at file version gs n at
        ≡ answer_from version n at (on_judged n (line t w.ending) j (λ i. if closes i then complete n gs (lines (drop next file)) else walk version (n + 1) next (after_item i gs) (lines (drop next file))))
    unfolding walk t
    judged h j e = rw (w.cut, not_past, le-ltb max_lines n h, e, w.bytes)

    -- by what the line was judged to be after the fields of the state s, which the judgement leaves as s'
    module _ (few : n ≤ max_lines) (some : 1 ≤ n) (s s' : State) where
      abbrev pub Judges : Result Step ℕ → Type 0
      Judges r = ◌≡◌ {A = Result Step ℕ × State} (r, s') (stepped (judge version gs (take (text_end - at) (drop at file))) s)

      -- the line is refused
      pub turn_wrong : (v : ℕ) → Judges (Err v) → answer_at file version gs n at ≡ refused_at v n
      unfolding t
      turn_wrong v is = go (judge version gs t) refl is
        where
          go : (j : Judged) → judge version gs t ≡ j → ◌≡◌ {A = Result Step ℕ × State} (Err v, s') (stepped j s) → answer_at file version gs n at ≡ refused_at v n
          go (wrong u) e q = judged few (wrong u) e ∙ ap (λ (x : Result Step ℕ × State). refused_at (number_in x.0) n) (sym q)
          go (right i) e q = absurd (false≢true (sym (ap (λ (x : Result Step ℕ × State). is_err x.0) q)))

      module _ (step : Step) (is : Judges (Ok step)) where
        -- the line is right
        pub record Right : Type 0 where
          pub item : Item
          pub is_right : judge version gs (take (text_end - at) (drop at file)) ≡ right item
          pub step_is : step ≡ step_right item
          pub state_is : s' ≡ with_sizes s (sizes_given (given_of item) s.sizes)

        right_of : Right
        unfolding t
        right_of = go (judge version gs t) refl is
          where
            go : (j : Judged) → judge version gs t ≡ j → ◌≡◌ {A = Result Step ℕ × State} (Ok step, s') (stepped j s) → Right
            go (wrong v) e q = absurd (false≢true (ap (λ (x : Result Step ℕ × State). is_err x.0) q))
            go (right i) e q =
                record {
                  item = i;
                  is_right = e;
                  step_is = ap (λ (x : Result Step ℕ × State). step_in x.0) q;
                  state_is = ap (λ (x : Result Step ℕ × State). x.1) q;
                }

        -- the line closes the header
        pub turn_closes : shuts step ≡ true → list_empty gs ≡ false → answer_at file version gs n at ≡ finished version gs next n n
        unfolding t
        turn_closes h u =
            let i = right_of.item in
            let c : closes i ≡ true = sym (shuts_is i) ∙ ap shuts (sym right_of.step_is) ∙ h in
            let m : n + 1 - 1 ≡ n = omega arith in
            judged few (right i) right_of.is_right
            ∙ rw (
              c,
              answer_entry version n at (line t w.ending) i (complete n gs (lines (drop next file))) some (ap is_file_name (is_closing i c)),
              w.bytes,
              answer_complete version (n + 1) n next gs (lines (drop next file)) u,
              m,
            )

        -- it gives no field
        pub holds_closed : shuts step ≡ true → Holds s gs → Holds s' gs
        holds_closed h k =
            let i = right_of.item in
            let c = is_closing i (sym (shuts_is i) ∙ ap shuts (sym right_of.step_is) ∙ h) in
            rw (right_of.state_is, c) k

        -- the version stays
        pub version_stays : s'.version ≡ s.version
        version_stays = ap (λ (x : State). x.version) right_of.state_is

        -- the header goes on, with the fields gs': names follow exactly where the line says so
        pub record Next : Type 0 where
          pub gs' : List Given
          pub holds : Holds (kept_step step s') gs'
          pub answer : answer_at file version gs n at ≡ answer_at file version gs' (n + 1) next
          pub names : names_follow gs' ≡ lists step
          pub unnamed : file_names gs' ≡ file_names gs

        pub turn_next : shuts step ≡ false → names_follow gs ≡ false → s.version ≡ version → Holds s gs → Next
        unfolding t
        turn_next h u v k =
            let i = right_of.item in
            let c : closes i ≡ false = sym (shuts_is i) ∙ ap shuts (sym right_of.step_is) ∙ h in
            let f = no_name version gs t u right_of.is_right in
            let gives : step ≡ step_given (given_of i) = right_of.step_is ∙ rw c in
            record {
              gs' = after_item i gs;
              holds =
                  subst (λ x. Holds (kept_step step x) (after_item i gs)) (sym right_of.state_is)
                  (subst (λ x. Holds (kept_step x (with_sizes s (sizes_given (given_of i) s.sizes))) (after_item i gs)) (sym gives) (holds_next t i k (ap (λ x. judge x gs t) v ∙ right_of.is_right)));
              answer =
                  judged few (right i) right_of.is_right
                  ∙ rw (c, answer_entry version n at (line t w.ending) i (walk version (n + 1) next (after_item i gs) (lines (drop next file))) some f, w.bytes);
              names = list_after version gs t i right_of.is_right u ∙ ap lists (sym gives);
              unnamed = names_stay i gs f;
            }

-- ---- under LIST

-- where no names follow, no LIST is empty; where they do, there is a data file
unlisted : (gs : List Given) → names_follow gs ≡ false → list_empty gs ≡ false
unfolding list_empty
unlisted gs n = rw n

detached_by : (gs : List Given) → names_follow gs ≡ true → is_detached gs ≡ true
unfolding names_follow
detached_by gs n = go (descriptor_of data_file gs) n
  where
    go : (o : Option (List ℕ)) → meaning false is_list o ≡ true → is_some o ≡ true
    go none e = e
    go (some d) e = refl

-- the answer from line n on, which starts at `at`, under LIST, which is line `list`, after the fields and names gs
abbrev pub named_at : ℕ → List ℕ → ℕ → List Given → ℕ → ℕ → ReadAnswer
named_at list file version gs n at = named_from list version n at (walk version n at gs (lines (drop at file)))

-- right after LIST the answer is the same: a name follows, or the header is refused
pub list_answer : (file : List ℕ) (version : ℕ) (gs : List Given) (n at : ℕ) → names_follow gs ≡ true → file_names gs ≡ [] → at ≤ max_header → n ≤ max_lines
    → answer_at file version gs (n + 1) at ≡ named_at n file version gs (n + 1) at
list_answer file version gs n at f z b c = go (walk version (n + 1) at gs (lines (drop at file))) refl
  where
    go : (o : Outcome) → walk version (n + 1) at gs (lines (drop at file)) ≡ o → answer_from version (n + 1) at o ≡ named_from n version (n + 1) at o
    go (refused r) e = refl
    go (accepted es gs' r) e =
        let w = walk_sound version (lines (drop at file)) (n + 1) at gs b (omega arith) e in
        let q : n + 1 - 1 + field_lines es ≡ n = omega (arith, ap length (list_begins version gs es gs' r w.fine f z)) in
        rw q

named_entry : (list version n at : ℕ) (l : Line) (i : Item) (o : Outcome) → 1 ≤ n
    → named_from list version n at (with_entry (entry l i) o) ≡ named_from list version (n + 1) (at + size l) o
named_entry list version n at l i (refused r) h = refl
named_entry list version n at l i (accepted es gs ls) h =
    let b : at + header_length (entry l i ∷ es) ≡ at + size l + header_length es = rw length_unlines_cons (omega arith) in
    let c : n - 1 + suc (length es) ≡ n + 1 - 1 + length es = omega arith in
    rw (b, c)

-- the end of the header: n - 1 is LIST's line where no name follows it
named_complete : (list version m n at : ℕ) (gs : List Given) (ls : List Line) → (list_empty gs ≡ true → n - 1 ≡ list)
    → named_from list version m at (complete n gs ls) ≡ names_ended list version gs at (m - 1)
unfolding names_ended finished unlines
named_complete list version m n at gs ls h = go (list_empty gs) refl
  where
    by : (x : Bool)
        → named_from list version m at (if x then accepted [] gs ls else refused (refusal (complete_number gs)))
        ≡ (if x then record { refusal = fine; reading = reading_at version gs at (m - 1) list } else record { refusal = refusal (complete_number gs); reading = no_reading })
    by true = simp add-zero
    by false = refl

    go : (x : Bool) → list_empty gs ≡ x → named_from list version m at (complete n gs ls) ≡ (if x then read_answer (refused (at_line bad_descriptor list)) else finished version gs at (m - 1) list)
    go true e = rw (complete_empty n gs ls e, h e)
    go false e = rw (complete_number_lem n gs ls e) (by (eqb (complete_number gs) 0))

module _ (list : ℕ) (file : List ℕ) (version : ℕ) (gs : List Given) (n at : ℕ) (follow : names_follow gs ≡ true) where
  pub named_end : length file ≤ at → (list_empty gs ≡ true → n - 1 ≡ list) → named_at list file version gs n at ≡ names_ended list version gs at (n - 1)
  unfolding walk
  named_end h e = rw (lines_none file at h, detached_by gs follow) (named_complete list version n n at gs [] e)

  pub named_past : PastAt file at → named_at list file version gs n at ≡ refused_at header_too_long n
  unfolding walk
  named_past w = rw (w.cut, lt-ltb max_header (at + size w.first) w.long)

  module _ (text_end next : ℕ) (w : LineAt file at text_end next) where
    u : List ℕ
    u = take (text_end - at) (drop at file)

    not_long : ltb max_header (at + size (line u w.ending)) ≡ false
    unfolding u
    not_long = le-ltb max_header (at + size (line u w.ending)) (omega (arith, w.bytes, w.short))

    pub named_many : max_lines < n → named_at list file version gs n at ≡ refused_at too_many_lines n
    unfolding walk u
    named_many h = rw (w.cut, not_long, lt-ltb max_lines n h)

    module _ (few : n ≤ max_lines) (some : 1 ≤ n) where
      named_judged : (j : Judged) → on_name u ≡ j
          → named_at list file version gs n at
          ≡ named_from list version n at (on_judged n (line u w.ending) j (λ i. if closes i then complete n gs (lines (drop next file)) else walk version (n + 1) next (after_item i gs) (lines (drop next file))))
      unfolding walk u
      named_judged j e = rw (w.cut, not_long, le-ltb max_lines n few, judge_named version gs (take (text_end - at) (drop at file)) follow, e, w.bytes)

      -- an empty line closes the header
      pub named_closes : at ≡ text_end → (list_empty gs ≡ true → n - 1 ≡ list) → named_at list file version gs n at ≡ names_ended list version gs next n
      unfolding u
      named_closes h e =
          let z : text_end - at ≡ 0 = omega arith in
          let m : n + 1 - 1 ≡ n = omega arith in
          named_judged (right closing) (rw z)
          ∙ rw (named_entry list version n at (line u w.ending) closing (complete n gs (lines (drop next file))) some, w.bytes, named_complete list version (n + 1) n next gs (lines (drop next file)) e, m)

      filled : (at ≡ text_end → ⊥) → 0 < length u
      unfolding u
      filled h = omega (arith, length-take (text_end - at) (drop at file), length-drop at file, w)

      -- any other line is a name, of bytes that it may hold
      pub named_bad : (at ≡ text_end → ⊥) → every plain (take (text_end - at) (drop at file)) ≡ false → named_at list file version gs n at ≡ refused_at bad_byte n
      unfolding u
      named_bad h p = named_judged (wrong bad_byte) (name_wrong u (filled h) p)

      pub named_next : (at ≡ text_end → ⊥) → every plain (take (text_end - at) (drop at file)) ≡ true
          → named_at list file version gs n at ≡ named_at list file version (named (take (text_end - at) (drop at file)) ∷ gs) (n + 1) next
      unfolding u
      named_next h p =
          named_judged (right (file_name u)) (name_right u (filled h) p)
          ∙ rw (named_entry list version n at (line u w.ending) (file_name u) (walk version (n + 1) next (named u ∷ gs) (lines (drop next file))) some, w.bytes)

-- ---- the loop over the lines after line 1, which ends at `from`

-- line n, which starts at `at`, is to be read, after the fields of the state s, which no names follow: the answer from there on is the whole answer
pub record Going (file : List ℕ) (version from : ℕ) (s : State) (at n : ℕ) : Type 0 where
  pub gs : List Given
  pub holds : Holds s gs
  pub versioned : s.version ≡ version
  pub no_names : names_follow gs ≡ false
  pub unnamed : file_names gs ≡ []
  pub same : answer_at file version gs n at ≡ answer_at file version [] 2 from
  pub within : at ≤ length file
  pub short : at ≤ max_header
  pub low : 2 ≤ n
  pub high : n ≤ max_lines + 1

-- the first of those lines
pub going_start : (file : List ℕ) (version from : ℕ) {s : State} → s ≡ no_state version → from ≤ length file → from ≤ max_header → Going file version from s from 2
unfolding file_names
going_start file version from e h k =
    record {
      gs = [];
      holds = rw e (holds_none version);
      versioned = rw e;
      no_names = no_names;
      unnamed = refl;
      same = refl;
      within = h;
      short = k;
      low = omega arith;
      high = omega arith;
    }

module _ {file : List ℕ} {version from : ℕ} {s : State} {at n : ℕ} (g : Going file version from s at n) where
  -- an answer by the state's version is one by the header's
  by_version : {x : ReadAnswer} (bytes count before : ℕ) → x ≡ finished s.version g.gs bytes count before → x ≡ finished version g.gs bytes count before
  by_version {x} bytes count before e = e ∙ ap (λ v. finished v g.gs bytes count before) g.versioned

  -- at the end of the bytes
  pub going_end : {x : ReadAnswer} {there : Bool} → length file ≤ at → there ≡ is_detached g.gs → there ≡ true → x ≡ finished s.version g.gs at (n - 1) (n - 1) → x ≡ answer_at file version [] 2 from
  going_end h d e x = by_version at (n - 1) (n - 1) x ∙ sym (turn_end file version g.gs n at h (sym d ∙ e) (unlisted g.gs g.no_names)) ∙ g.same

  pub going_no_end : {there : Bool} → length file ≤ at → there ≡ is_detached g.gs → there ≡ false → refused_at no_end 0 ≡ answer_at file version [] 2 from
  going_no_end h d e = sym (turn_no_end file version g.gs n at h (sym d ∙ e)) ∙ g.same

  -- the line ends past the limit
  pub going_past : PastAt file at → refused_at header_too_long n ≡ answer_at file version [] 2 from
  going_past w = sym (turn_past file version g.gs n at w) ∙ g.same

  module _ {text_end next : ℕ} (w : LineAt file at text_end next) where
    -- it is a line too many
    pub going_many : max_lines < n → refused_at too_many_lines n ≡ answer_at file version [] 2 from
    going_many h = sym (turn_many file version g.gs n at text_end next w h) ∙ g.same

    module _ (few : n ≤ max_lines) (s' : State) where
      -- what is answered of the line after any fields of the state
      abbrev pub Answers : Result Step ℕ → Type 0
      Answers r =
          (gs : List Given) → Known s gs → length (take (text_end - at) (drop at file)) ≤ max_header
          → ◌≡◌ {A = Result Step ℕ × State} (r, s') (stepped (judge s.version gs (take (text_end - at) (drop at file))) s)

      past_one : 1 ≤ n
      past_one = omega (arith, g.low)

      here : {r : Result Step ℕ} → Answers r → Judges file version g.gs n at text_end next w few past_one s s' r
      here {r} is =
          subst (λ v. ◌≡◌ {A = Result Step ℕ × State} (r, s') (stepped (judge v g.gs (take (text_end - at) (drop at file))) s)) g.versioned
          (is g.gs (known_of g.holds g.no_names) (omega (arith, length-take (text_end - at) (drop at file), w)))

      -- the line is refused
      pub going_wrong : (v : ℕ) → Answers (Err v) → refused_at v n ≡ answer_at file version [] 2 from
      going_wrong v is = sym (turn_wrong file version g.gs n at text_end next w few past_one s s' v (here is)) ∙ g.same

      -- the line closes the header
      module _ (step : Step) (is : Answers (Ok step)) (shut : shuts step ≡ true) where
        pub going_closed : Holds s' g.gs
        going_closed = holds_closed file version g.gs n at text_end next w few past_one s s' step (here is) shut g.holds

        pub going_closes : {x : ReadAnswer} → x ≡ finished s'.version g.gs next n n → x ≡ answer_at file version [] 2 from
        going_closes x =
            let v = version_stays file version g.gs n at text_end next w few past_one s s' step (here is) ∙ g.versioned in
            x ∙ ap (λ v. finished v g.gs next n n) v ∙ sym (turn_closes file version g.gs n at text_end next w few past_one s s' step (here is) shut (unlisted g.gs g.no_names)) ∙ g.same

      -- the header goes on: its lines, or names under LIST
      module _ (step : Step) (is : Answers (Ok step)) (more : shuts step ≡ false) {after : State} (kept : after ≡ kept_step step s') where
        on : Next file version g.gs n at text_end next w few past_one s s' step (here is)
        on = turn_next file version g.gs n at text_end next w few past_one s s' step (here is) more g.no_names g.versioned g.holds

        version_on : after.version ≡ version
        version_on = ap (λ (x : State). x.version) kept ∙ go step ∙ version_stays file version g.gs n at text_end next w few past_one s s' step (here is) ∙ g.versioned
          where
            go : (step : Step) → (kept_step step s').version ≡ s'.version
            go Closes = refl
            go Passes = refl
            go (Gives f x) = refl

        pub going_next : lists step ≡ false → Going file version from after next (n + 1)
        going_next l =
            record {
              gs = on.gs';
              holds = subst (λ x. Holds x on.gs') (sym kept) on.holds;
              versioned = version_on;
              no_names = on.names ∙ l;
              unnamed = on.unnamed ∙ g.unnamed;
              same = sym on.answer ∙ g.same;
              within = w.within;
              short = w.short;
              low = omega (arith, g.low);
              high = omega arith;
            }

        -- by what is answered of the lines under LIST
        pub going_list : lists step ≡ true → {x : ReadAnswer}
            → ((gs : List Given) → Holds after gs → names_follow gs ≡ true → file_names gs ≡ [] → x ≡ named_at n file after.version gs (n + 1) next)
            → x ≡ answer_at file version [] 2 from
        going_list l {x} e =
            let f = on.names ∙ l in
            let z = on.unnamed ∙ g.unnamed in
            e on.gs' (subst (λ x. Holds x on.gs') (sym kept) on.holds) f z ∙ ap (λ v. named_at n file v on.gs' (n + 1) next) version_on ∙ sym (list_answer file version on.gs' n next f z w.short few) ∙ sym on.answer ∙ g.same

-- ---- the loop over the lines under LIST, which is line `list` and ends at `from`

-- line n, which starts at `at`, is to be read: the answer from there on, after the names before it, is the whole answer
pub record Named (file : List ℕ) (version list from : ℕ) (s : State) (gs₀ : List Given) (at n : ℕ) : Type 0 where
  pub gs : List Given
  pub holds : Holds s gs
  pub follow : names_follow gs ≡ true
  pub many : n - 1 - list ≡ length (file_names gs)
  pub same : named_at list file version gs n at ≡ named_at list file version gs₀ (list + 1) from

-- whatever fields and names were given before
pub record Naming (file : List ℕ) (version list from : ℕ) (s : State) (at n : ℕ) : Type 0 where
  pub after : (gs : List Given) → Holds s gs → names_follow gs ≡ true → file_names gs ≡ [] → Named file version list from s gs at n
  pub within : at ≤ length file
  pub short : at ≤ max_header
  pub low : list + 1 ≤ n
  pub high : n ≤ max_lines + 1

pub naming_start : (file : List ℕ) (version list from : ℕ) {s : State} → from ≤ length file → from ≤ max_header → list ≤ max_lines
    → Naming file version list from s from (list + 1)
naming_start file version list from h k l =
    record {
      after = λ gs p f z. record { gs = gs; holds = p; follow = f; many = rw z (omega arith); same = refl };
      within = h;
      short = k;
      low = omega arith;
      high = omega arith;
    }

module _ {file : List ℕ} {version list from : ℕ} {s : State} {at n : ℕ}
    (g : Naming file version list from s at n) {gs₀ : List Given} (p : Holds s gs₀) (f : names_follow gs₀ ≡ true) (z : file_names gs₀ ≡ []) where
  abbrev pub reached : Named file version list from s gs₀ at n
  reached = g.after gs₀ p f z

  abbrev pub whole : ReadAnswer
  whole = named_at list file version gs₀ (list + 1) from

  -- where no name was read, the line before is LIST's
  at_list : list_empty reached.gs ≡ true → n - 1 ≡ list
  unfolding list_empty
  at_list e =
      let k = eqb-true (length (file_names reached.gs)) 0 (and_right (names_follow reached.gs) (eqb (length (file_names reached.gs)) 0) e) in
      omega (arith, reached.many, k, g.low)

  pub naming_end : length file ≤ at → names_ended list version reached.gs at (n - 1) ≡ whole
  naming_end h = sym (named_end list file version reached.gs n at reached.follow h at_list) ∙ reached.same

  pub naming_past : PastAt file at → refused_at header_too_long n ≡ whole
  naming_past w = sym (named_past list file version reached.gs n at reached.follow w) ∙ reached.same

  module _ {text_end next : ℕ} (w : LineAt file at text_end next) where
    pub naming_many : max_lines < n → refused_at too_many_lines n ≡ whole
    naming_many h = sym (named_many list file version reached.gs n at reached.follow text_end next w h) ∙ reached.same

    module _ (few : n ≤ max_lines) where
      one : 1 ≤ n
      one = omega (arith, g.low)

      pub naming_closes : at ≡ text_end → names_ended list version reached.gs next n ≡ whole
      naming_closes h = sym (named_closes list file version reached.gs n at reached.follow text_end next w few one h at_list) ∙ reached.same

      pub naming_bad : (at ≡ text_end → ⊥) → every plain (take (text_end - at) (drop at file)) ≡ false → refused_at bad_byte n ≡ whole
      naming_bad h e = sym (named_bad list file version reached.gs n at reached.follow text_end next w few one h e) ∙ reached.same

      naming_more : (at ≡ text_end → ⊥) → every plain (take (text_end - at) (drop at file)) ≡ true → Named file version list from s gs₀ next (n + 1)
      unfolding file_names
      naming_more h e =
          let t = take (text_end - at) (drop at file) in
          record {
            gs = named t ∷ reached.gs;
            holds = holds_name t reached.holds;
            follow = names_still t reached.gs ∙ reached.follow;
            many = omega (arith, reached.many, g.low, length-append (file_names reached.gs) (t ∷ []));
            same = sym (named_next list file version reached.gs n at reached.follow text_end next w few one h e) ∙ reached.same;
          }

pub naming_next : {file : List ℕ} {version list from : ℕ} {s : State} {at n : ℕ}
    → Naming file version list from s at n → {text_end next : ℕ} → LineAt file at text_end next → n ≤ max_lines → (at ≡ text_end → ⊥) → every plain (take (text_end - at) (drop at file)) ≡ true
    → Naming file version list from s next (n + 1)
naming_next g w few h e =
    record {
      after = λ gs p f z. naming_more g p f z w few h e;
      within = w.within;
      short = w.short;
      low = omega (arith, g.low);
      high = omega arith;
    }

-- the answer at the end of the names
pub ended_none : (list version : ℕ) (gs : List Given) (bytes count : ℕ) → names_follow gs ≡ true → length (file_names gs) ≡ 0
    → read_answer (refused (at_line bad_descriptor list)) ≡ names_ended list version gs bytes count
unfolding names_ended list_empty
ended_none list version gs bytes count f z = rw (f, z)

pub ended_some : (list version : ℕ) (gs : List Given) (bytes count : ℕ) → (length (file_names gs) ≡ 0 → ⊥) → finished version gs bytes count list ≡ names_ended list version gs bytes count
unfolding names_ended list_empty
ended_some list version gs bytes count n = rw (ne_eqb (length (file_names gs)) 0 n) (go (names_follow gs))
  where
    go : (x : Bool) → finished version gs bytes count list ≡ (if x && false then read_answer (refused (at_line bad_descriptor list)) else finished version gs bytes count list)
    go true = refl
    go false = refl
