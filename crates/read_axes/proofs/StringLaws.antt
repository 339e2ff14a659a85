-- Laws of strings in double quotes, as the functions read them.
-- Assumes nothing.
use Rattle.std.specs.Prelude.{if◌then◌else◌}
use Prim.Native.Nat.{ℕ, zero, suc, ◌+◌, ◌-◌, ◌≤◌, ◌<◌}
use native.Mathlib.Nat.{add-zero, zero-add, le_of_suc-le-suc, not-suc-le-zero}
use native.Mathlib.Numerals.{add-one}
use native.Mathlib.Omega.{arith}
use mathlib.Core.Path.{◌≡◌, refl, sym, ap, ◌∙◌}
use mathlib.Core.Bool.{Bool, true, false, not, ◌&&◌, false≢true}
use mathlib.Core.List.{List, [], ◌∷◌, map}
use mathlib.Core.Option.{Option, none, some}
use lib.Dec.{eqb}
use lib.ListN.{length, take, drop, get_or, set, replicate, drop_of_length-le, length-drop}
use lib.Seq.{take_all, drop-drop, sets}
use borrow.Author.Tests.{eqb-true, eq-eqb, ne_eqb}
use Rattle.format.specs.Bytes.{space_or_tab, QUOTE, BACKSLASH, each}
use Rattle.format.specs.Limits.{max_axes}
use Rattle.format.specs.Strings.{Quoted, quoted, start_of, text_of, apart, closed, inside, closes, joins, strings_from, as_many, strings_said}
use Rattle.format.specs.AxisRecords.{string_place}
use Rattle.read_text.proofs.Places.{drop_next}
use Rattle.read_axes.specs.declared.strings.Span.{Span}
use Rattle.read_axes.specs.declared.strings.Strings.{Strings}
use Rattle.std.specs.Prelude.{Option as Maybe}
use Rattle.std.specs.Prelude.{Some, None}
use Rattle.read_axes.specs.Strings.{text_from, blank_or_end, first_of, StringAt, span_of, no_span, no_strings, spans_from, strings_answer}

-- ---- the text before the closing quote, byte by byte

module _ (b : Bool) (s : List ℕ) (i : ℕ) where
  -- a quote that no backslash stands before ends it
  pub text_stop : i < length s → (eqb (get_or s i 0) QUOTE && not b) ≡ true → length (text_from b (drop i s)) ≡ 0
  unfolding text_from
  text_stop h e = rw (drop_next s i h, e)

  -- any other byte is of it
  pub text_more : i < length s → (eqb (get_or s i 0) QUOTE && not b) ≡ false
      → length (text_from b (drop i s)) ≡ suc (length (text_from (eqb (get_or s i 0) BACKSLASH) (drop (i + 1) s)))
  unfolding text_from
  text_more h e = rw (drop_next s i h, e)

  -- the end of the text ends it
  pub text_end : length s ≤ i → length (text_from b (drop i s)) ≡ 0
  unfolding text_from
  text_end h = rw (drop_of_length-le s h)

-- ---- what follows a string

module _ (t : List ℕ) (at : ℕ) where
  pub blank_here : at < length t → blank_or_end (drop at t) ≡ space_or_tab (get_or t at 0)
  blank_here h = rw (drop_next t at h)

  pub blank_end : length t ≤ at → blank_or_end (drop at t) ≡ true
  blank_end h = rw (drop_of_length-le t h)

closed_apart : (k : ℕ) (s : List ℕ) → strings_from closed k s ≡ (if blank_or_end s then strings_from apart k s else none)
unfolding strings_from
closed_apart k [] = refl
closed_apart k (c ∷ s) = go (space_or_tab c)
  where
    go : (x : Bool)
        → (if x then strings_from apart (k + 1) s else none)
        ≡ (if x then if x then strings_from apart (k + 1) s else if eqb c QUOTE then strings_from (inside false) (k + 1) s else none else none)
    go true = refl
    go false = refl

-- ---- a string that is open

closes_first : (k : ℕ) (o : Option (List Quoted)) → closes k o ≡ first_of (quoted k []) o
unfolding first_of
closes_first k none = refl
closes_first k (some qs) = refl

joins_first : (k c j : ℕ) (w : List ℕ) (o : Option (List Quoted)) → joins k c (first_of (quoted j w) o) ≡ first_of (quoted k (c ∷ w)) o
unfolding first_of
joins_first k c j w none = refl
joins_first k c j w (some qs) = refl

-- it stays open
inside_open : (b : Bool) (k : ℕ) (s : List ℕ) → length (text_from b s) ≡ length s → strings_from (inside b) k s ≡ none
unfolding strings_from text_from
inside_open b k [] h = refl
inside_open b k (c ∷ s) h = go (eqb c QUOTE && not b) h (inside_open (eqb c BACKSLASH) (k + 1) s)
  where
    w : List ℕ
    w = text_from (eqb c BACKSLASH) s

    o : Option (List Quoted)
    o = strings_from (inside (eqb c BACKSLASH)) (k + 1) s

    go : (x : Bool) → length (if x then [] else c ∷ w) ≡ suc (length s) → (length w ≡ length s → o ≡ none)
        → (if x then closes k (strings_from closed (k + 1) s) else joins k c o) ≡ none
    go true h r = absurd (omega arith)
    go false h r = rw (r (omega arith))

-- it is closed: the text before its quote, then the strings after it
inside_closed : (b : Bool) (k : ℕ) (s : List ℕ) → length (text_from b s) < length s
    → strings_from (inside b) k s
    ≡ first_of (quoted k (text_from b s)) (strings_from closed (k + suc (length (text_from b s))) (drop (suc (length (text_from b s))) s))
unfolding strings_from text_from
inside_closed b k [] h = absurd (not-suc-le-zero h)
inside_closed b k (c ∷ s) h = go (eqb c QUOTE && not b) h (inside_closed (eqb c BACKSLASH) (k + 1) s)
  where
    w : List ℕ
    w = text_from (eqb c BACKSLASH) s

    o : Option (List Quoted)
    o = strings_from (inside (eqb c BACKSLASH)) (k + 1) s

    go : (x : Bool) → length (if x then [] else c ∷ w) < suc (length s)
        → (length w < length s → o ≡ first_of (quoted (k + 1) w) (strings_from closed (k + 1 + suc (length w)) (drop (suc (length w)) s)))
        → (if x then closes k (strings_from closed (k + 1) s) else joins k c o)
        ≡ first_of (quoted k (if x then [] else c ∷ w))
        (strings_from closed (k + suc (length (if x then [] else c ∷ w))) (drop (suc (length (if x then [] else c ∷ w))) (c ∷ s)))
    go true h r = closes_first k (strings_from closed (k + 1) s)
    go false h r =
        let e : k + 1 + suc (length w) ≡ k + suc (suc (length w)) = omega arith in
        rw (r (le_of_suc-le-suc h), e) (joins_first k c (k + 1) w (strings_from closed (k + suc (suc (length w))) (drop (suc (length w)) s)))

-- ---- the strings from a place on

module _ (t : List ℕ) (at : ℕ) where
  -- past the end there is none
  pub strings_end : length t ≤ at → strings_from apart at (drop at t) ≡ some []
  unfolding strings_from
  strings_end h = rw (drop_of_length-le t h)

  module _ (h : at < length t) where
    -- a blank is passed
    pub strings_blank : space_or_tab (get_or t at 0) ≡ true → strings_from apart at (drop at t) ≡ strings_from apart (at + 1) (drop (at + 1) t)
    unfolding strings_from
    strings_blank e = rw (drop_next t at h, e)

    module _ (e : space_or_tab (get_or t at 0) ≡ false) where
      -- what stands there is no quote
      pub strings_other : (get_or t at 0 ≡ QUOTE → ⊥) → strings_from apart at (drop at t) ≡ none
      unfolding strings_from
      strings_other q = rw (drop_next t at h, e, ne_eqb (get_or t at 0) QUOTE q)

      -- a quote, and n bytes before the quote that closes
      module _ (q : get_or t at 0 ≡ QUOTE) (n : ℕ) (i : n ≡ length (text_from false (take (length t - (at + 1)) (drop (at + 1) t)))) where
        abbrev rest : List ℕ
        rest = drop (at + 1) t

        size : length (text_from false rest) ≡ n
        size = sym (rw (take_all (length t - (at + 1)) rest (rw length-drop (omega arith))) at i)

        opened : strings_from apart at (drop at t) ≡ strings_from (inside false) (at + 1) rest
        unfolding strings_from
        opened = rw (drop_next t at h, e, eq-eqb (get_or t at 0) QUOTE q)

        -- there is no such quote
        pub strings_open : at + 1 + n ≡ length t → strings_from apart at (drop at t) ≡ none
        strings_open j = opened ∙ inside_open false (at + 1) rest (size ∙ rw length-drop (omega arith))

        -- there is
        strings_closed : (at + 1 + n ≡ length t → ⊥) → at + 1 + n ≤ length t
            → strings_from apart at (drop at t)
            ≡ first_of (quoted (at + 1) (text_from false rest)) (if blank_or_end (drop (at + 1 + n + 1) t) then strings_from apart (at + 1 + n + 1) (drop (at + 1 + n + 1) t) else none)
        strings_closed j l =
            let m : at + 1 + suc n ≡ at + 1 + n + 1 = omega arith in
            let c = inside_closed false (at + 1) rest (rw (size, length-drop) (omega arith)) in
            opened ∙ c ∙ rw (size, drop-drop (suc n) (at + 1) t, m, closed_apart (at + 1 + n + 1) (drop (at + 1 + n + 1) t))

        -- something stands beside it
        pub strings_beside : (at + 1 + n ≡ length t → ⊥) → at + 1 + n ≤ length t → blank_or_end (drop (at + 1 + n + 1) t) ≡ false
            → strings_from apart at (drop at t) ≡ none
        unfolding first_of
        strings_beside j l f = rw f at (strings_closed j l)

        -- a string
        pub strings_first : (at + 1 + n ≡ length t → ⊥) → at + 1 + n ≤ length t → blank_or_end (drop (at + 1 + n + 1) t) ≡ true → StringAt t at n
        strings_first j l f = record { text = text_from false rest; size = size; within = omega arith; strings = rw f at (strings_closed j l) }

-- ---- spans

-- the place of a string in a file in which its descriptor starts at `base`
abbrev span_at : ℕ → Quoted → Span
span_at base q = record { start = base + start_of q; length = length (text_of q) }

-- the answer where n spans are stored in v, and these strings are to come
unfoldable pub strings_left : ℕ → ℕ → ℕ → List Span → Option (List Quoted) → Maybe (List Span)
strings_left base axes n v none = None
strings_left base axes n v (some qs) = if eqb (n + length qs) axes then Some (sets v n (map (span_at base) qs)) else None

each_on : {A : Type 0} (v : ℕ → A) (i n : ℕ) → each v (i + 1) n ≡ each (λ k. v (suc k)) i n
unfolding each
each_on v i zero = refl
each_on v i (suc n) = rw (each_on v (i + 1) n, add-one i)

each_none : {A : Type 0} (a : A) (i n : ℕ) → each (λ k. a) i n ≡ replicate n a
unfolding each
each_none a i zero = refl
each_none a i (suc n) = rw (each_none a (i + 1) n)

-- a run of stores behind the first element
sets_behind : {A : Type 0} (a : A) (l vs : List A) (i : ℕ) → sets (a ∷ l) (suc i) vs ≡ a ∷ sets l i vs
sets_behind a l [] i = refl
sets_behind a l (v ∷ vs) i = sets_behind a (set l i v) vs (suc i)

-- the spans of all axes are those of the strings, stored over m that are none
spans_stored : (base : ℕ) (qs : List Quoted) (m : ℕ) → length qs ≤ m
    → each (λ i. span_of (string_place base qs i)) 0 m ≡ sets (replicate m no_span) 0 (map (span_at base) qs)
unfolding each string_place
spans_stored base [] m h = each_none no_span 0 m
spans_stored base (q ∷ qs) zero h = absurd (not-suc-le-zero h)
spans_stored base (quoted at w ∷ qs) (suc m) h =
    let x : Span = span_at base (quoted at w) in
    let f : ℕ → Span = λ i. span_of (string_place base (quoted at w ∷ qs) i) in
    ap (λ (l : List Span). x ∷ l) (each_on f 0 m ∙ spans_stored base qs m (le_of_suc-le-suc h))
    ∙ sym (sets_behind x (replicate m no_span) (map (span_at base) qs) 0)

module _ (base axes : ℕ) where
  -- none are stored yet
  pub left_start : (t : List ℕ) → axes ≤ max_axes
      → spans_from base (strings_said axes t) ≡ strings_left base axes 0 (replicate max_axes no_span) (strings_from apart 0 t)
  unfolding spans_from strings_said strings_left
  left_start t l = from (strings_from apart 0 t)
    where
      from : (o : Option (List Quoted)) → spans_from base (as_many axes o) ≡ strings_left base axes 0 (replicate max_axes no_span) o
      from none = refl
      from (some qs) = rw (zero-add (length qs)) (go (eqb (length qs) axes) refl)
        where
          go : (x : Bool) → eqb (length qs) axes ≡ x
              → spans_from base (if x then some qs else none)
              ≡ (if x then Some (sets (replicate max_axes no_span) 0 (map (span_at base) qs)) else None)
          go true e = rw (spans_stored base qs max_axes (omega (arith, eqb-true (length qs) axes e)))
          go false e = refl

  module _ (n : ℕ) (v : List Span) where
    -- the rest is wrong
    pub left_wrong : strings_left base axes n v none ≡ None
    unfolding strings_left
    left_wrong = refl

    -- a string too many
    pub left_full : (q : Quoted) (o : Option (List Quoted)) → n ≡ axes → strings_left base axes n v (first_of q o) ≡ None
    unfolding strings_left first_of
    left_full q none e = refl
    left_full q (some qs) e = rw (ne_eqb (n + suc (length qs)) axes (omega arith))

    -- one string more
    pub left_next : (at k : ℕ) (w : List ℕ) (o : Option (List Quoted)) → length w ≡ k
        → strings_left base axes n v (first_of (quoted at w) o) ≡ strings_left base axes (n + 1) (set v n (record { start = base + at; length = k })) o
    unfolding strings_left first_of
    left_next at k w none e = refl
    left_next at k w (some qs) e =
        let g : n + suc (length qs) ≡ n + 1 + length qs = omega arith in
        rw (← e, g, add-one)

    -- no string more
    pub left_end : strings_left base axes n v (some []) ≡ (if eqb n axes then Some v else None)
    unfolding strings_left
    left_end = rw (add-zero n)

-- ---- the same with a flag

pub spans_flagged : (base : ℕ) (o : Option (List Quoted)) (v : List Span) → Some v ≡ spans_from base o → record { fine = true; spans = v } ≡ strings_answer base o
unfolding spans_from strings_answer
spans_flagged base none v e = cc
spans_flagged base (some qs) v e = let f : v ≡ each (λ i. span_of (string_place base qs i)) 0 max_axes = cc in rw f

pub spans_flagged_none : (base : ℕ) (o : Option (List Quoted)) → None ≡ spans_from base o → no_strings ≡ strings_answer base o
unfolding spans_from strings_answer
spans_flagged_none base none e = refl
spans_flagged_none base (some qs) e = cc
