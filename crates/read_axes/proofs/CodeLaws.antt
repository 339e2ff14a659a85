-- Laws of the numbers of words: word by word, as the loop stores them, and each of them as it is answered.
-- Assumes nothing.
use Prim.Native.Nat.{ℕ, zero, suc, ◌+◌, ◌-◌, ◌≤◌, ◌<◌}
use native.Mathlib.Numerals.{add-one}
use native.Mathlib.Omega.{arith}
use mathlib.Core.Path.{◌≡◌, refl, ◌∙◌}
use mathlib.Core.Bool.{Bool, true, false}
use mathlib.Core.List.{List, [], ◌∷◌, ◌++◌}
use mathlib.Core.Option.{Option, none, some}
use lib.ListN.{length, get_or, set, replicate}
use lib.Seq.{sets}
use Rattle.format.specs.Words.{words}
use Rattle.format.specs.Vectors.{cons_said, said_by}
use Rattle.format.specs.Calls.{padded}
use Rattle.format.specs.Kinds.{centrings_said, kinds_said}
use Rattle.std.specs.Prelude.{Option as Maybe}
use Rattle.std.specs.Prelude.{Some, None}
use Rattle.read_text.specs.Rows.{row_answer}
use Rattle.read_text.proofs.Rows.{row_is, row_unknown}
use Rattle.read_text.proofs.NumberLaws.{stored}
use Rattle.read_text.proofs.Said.{said_done, said_short, said_long, said_cons, said_length}
use Rattle.read_axes.specs.Codes.{code_named, codes_said, codes_padded, codes_answer}
use Rattle.read_axes.specs.declared.codes.Codes.{Codes}

-- ---- what is said, and what is answered

pub codes_kinds : (n : ℕ) (t : List ℕ) → codes_said true n t ≡ kinds_said n t
unfolding codes_said code_named
codes_kinds n t = refl

pub codes_centrings : (n : ℕ) (t : List ℕ) → codes_said false n t ≡ centrings_said n t
unfolding codes_said code_named
codes_centrings n t = refl

-- zeros are 0 at each place, and past the end too
zeros_at : (m i : ℕ) → ◌≡◌ {A = ℕ} (get_or (replicate m 0) i 0) 0
zeros_at zero i = refl
zeros_at (suc m) zero = refl
zeros_at (suc m) (suc i) = zeros_at m i

-- so zeros after numbers change none of them, and none past their end
padded_at : (ns : List ℕ) (m i : ℕ) → get_or (ns ++ replicate m 0) i 0 ≡ get_or ns i 0
padded_at [] m i = zeros_at m i
padded_at (n ∷ ns) m zero = refl
padded_at (n ∷ ns) m (suc i) = padded_at ns m i

-- the number of each axis, 0 past them
pub code_at : (ns : List ℕ) (i : ℕ) → get_or (codes_answer (some ns)).codes i 0 ≡ get_or ns i 0
code_at ns i = padded_at ns (16 - length ns) i

-- ---- the numbers that are stored in the array v from n on

abbrev put : List ℕ → ℕ → Option (List ℕ) → Maybe (List ℕ)
put v n none = None
put v n (some ns) = Some (sets v n ns)

put_next : (v : List ℕ) (n c : ℕ) (o : Option (List ℕ)) → put v n (cons_said (some c) o) ≡ put (set v n c) (n + 1) o
put_next v n c none = refl
put_next v n c (some ns) = rw add-one

-- the answer where the numbers of the first n axes are stored in v, and the words ws are to come
unfoldable pub codes_from : Bool → ℕ → ℕ → List ℕ → List (List ℕ) → Maybe (List ℕ)
codes_from kinds axes n v ws = put v n (said_by (axes - n) (code_named kinds) ws)

-- none are stored yet
pub codes_start : (kinds : Bool) (axes : ℕ) (t : List ℕ) → axes ≤ 16
    → codes_padded (codes_said kinds axes t) ≡ codes_from kinds axes 0 (replicate 16 0) (words t)
unfolding codes_said codes_from
codes_start kinds axes t h = let z : axes - 0 ≡ axes = omega arith in rw z (go (said_by axes (code_named kinds) (words t)) refl)
  where
    go : (o : Option (List ℕ)) → said_by axes (code_named kinds) (words t) ≡ o → codes_padded o ≡ put (replicate 16 0) 0 o
    go none e = refl
    go (some ns) e =
        let l : length ns ≡ axes = said_length (code_named kinds) 0 axes (words t) ns e in
        rw (stored 16 ns (omega arith))

module _ (kinds : Bool) (axes n : ℕ) (v : List ℕ) where
  -- no word more
  pub codes_all : n ≡ axes → codes_from kinds axes n v [] ≡ Some v
  unfolding codes_from
  codes_all e = let z : axes - n ≡ 0 = omega arith in rw (z, said_done (code_named kinds))

  pub codes_few : n < axes → codes_from kinds axes n v [] ≡ None
  unfolding codes_from
  codes_few h = rw (said_short (code_named kinds) (axes - n) (omega arith))

  module _ (w : List ℕ) (ws : List (List ℕ)) where
    -- a word too many
    pub codes_many : n ≡ axes → codes_from kinds axes n v (w ∷ ws) ≡ None
    unfolding codes_from
    codes_many e = let z : axes - n ≡ 0 = omega arith in rw (z, said_long (code_named kinds) w ws)

    module _ (h : n < axes) where
      first : codes_from kinds axes n v (w ∷ ws) ≡ put v n (cons_said (code_named kinds w) (said_by (axes - (n + 1)) (code_named kinds) ws))
      unfolding codes_from
      first =
          let e : axes - n - 1 ≡ axes - (n + 1) = omega arith in
          rw (said_cons (code_named kinds) (axes - n) w ws (omega arith), e)

      -- a word without a number
      pub codes_bad : None ≡ row_answer (code_named kinds w) → codes_from kinds axes n v (w ∷ ws) ≡ None
      codes_bad e = first ∙ rw (row_unknown (code_named kinds w) e)

      -- one number more
      pub codes_next : (c : ℕ) → Some c ≡ row_answer (code_named kinds w)
          → codes_from kinds axes n v (w ∷ ws) ≡ codes_from kinds axes (n + 1) (set v n c) ws
      unfolding codes_from
      codes_next c e =
          first ∙ rw (row_is (code_named kinds w) c e) (put_next v n c (said_by (axes - (n + 1)) (code_named kinds) ws))

-- ---- the same with a flag

pub codes_flagged : (o : Option (List ℕ)) (ns : List ℕ) → Some ns ≡ codes_padded o → record { fine = true; codes = ns } ≡ codes_answer o
codes_flagged none ns e = cc
codes_flagged (some ms) ns e = let f : ns ≡ padded ms = cc in rw f

pub codes_flagged_none : (o : Option (List ℕ)) → None ≡ codes_padded o → codes_answer none ≡ codes_answer o
codes_flagged_none none e = refl
codes_flagged_none (some ms) e = cc
