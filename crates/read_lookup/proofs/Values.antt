-- Laws of the copy of a value: the bytes at the place that the look-up of its key answers, and what they mean.
-- Assumes nothing.
use Prim.Native.Nat.{ℕ, ◌+◌, ◌-◌, ◌≤◌, ◌<◌}
use native.Mathlib.Omega.{arith}
use mathlib.Core.Path.{◌≡◌, refl, sym, ap, ◌∙◌}
use mathlib.Core.Bool.{true, false, false≢true}
use mathlib.Core.List.{List}
use mathlib.Core.Option.{Option, none, some}
use lib.ListN.{length, take, drop}
use borrow.Author.Tests.{lt-ltb, le-ltb}
use Rattle.format.specs.declared.FindAnswer.{FindAnswer}
use Rattle.format.specs.declared.ValueAnswer.{ValueAnswer}
use Rattle.format.specs.Bytes.{over}
use Rattle.format.specs.Refusals.{refusal, lent_too_short}
use Rattle.format.specs.Lines.{Line}
use Rattle.format.specs.Pairs.{escape, unescape}
use Rattle.format.specs.Fields.{Given}
use Rattle.format.specs.Header.{Entry, Outcome, refused, accepted, header, value_of}
use Rattle.format.specs.Calls.{no_value, copy_value, copy_value_in, copy_value_call}
use Rattle.format.specs.Found.{HasAt, Finds, escaped, FindsKey}
use Rattle.format.proofs.Pairs.{unescape_of_escape}

-- the bytes at a place of the escaped value, as a part of the file, mean the value
pub value_means : (file : List ℕ) (p : FindAnswer) {v : List ℕ} → HasAt file (escape v) p
    → unescape (take (p.start + p.length - p.start) (drop p.start file)) ≡ some v
value_means file p {v} w =
    let e : p.start + p.length - p.start ≡ p.length = omega arith in
    ap (λ n. unescape (take n (drop p.start file))) e ∙ ap unescape w.bytes ∙ unescape_of_escape v

-- the value of a key, and its text in the file
pub record Value (file k : List ℕ) (p : FindAnswer) : Type 0 where
  pub value : List ℕ
  pub place : HasAt file (escape value) p
  pub call : (buf : List ℕ) → copy_value_call file k buf ≡ copy_value buf (some value)

-- the key is found, or it is not
module _ (file k : List ℕ) (p : FindAnswer) (w : FindsKey file k (header file) p) where
  pub value_found : p.found ≡ true → Value file k p
  value_found t = go (header file) refl w
    where
      told : (es : List Entry) (gs : List Given) (ls : List Line) → header file ≡ accepted es gs ls → (o : Option (List ℕ)) → value_of k es ≡ o
          → Finds file (escaped o) p → Value file k p
      told es gs ls e none f q = absurd (false≢true (sym (ap (λ a. a.found) q) ∙ t))
      told es gs ls e (some v) f q = record { value = v; place = q; call = λ buf. rw (e, f) }

      go : (o : Outcome) → header file ≡ o → FindsKey file k o p → Value file k p
      go (refused r) e q = absurd (false≢true (sym (ap (λ a. a.found) q) ∙ t))
      go (accepted es gs ls) e q = told es gs ls e (value_of k es) refl q

  pub value_absent : p.found ≡ false → (buf : List ℕ) → copy_value_call file k buf ≡ (no_value p.refusal, buf)
  value_absent t buf = go (header file) w
    where
      told : (o : Option (List ℕ)) → Finds file (escaped o) p → copy_value buf o ≡ (no_value p.refusal, buf)
      told none q = rw q
      told (some v) q = absurd (false≢true (sym t ∙ q.there))

      go : (o : Outcome) → FindsKey file k o p → copy_value_in k buf o ≡ (no_value p.refusal, buf)
      go (refused r) q = rw q
      go (accepted es gs ls) q = told (value_of k es) q

-- the value goes to a lent buffer, which is too short or is not; n is its length
module _ {file k : List ℕ} {p : FindAnswer} (w : Value file k p) (buf : List ℕ) (n : ℕ) (e : n ≡ length w.value) where
  pub value_short : length buf < n
      → ◌≡◌ {A = ValueAnswer × List ℕ} (no_value (refusal lent_too_short), buf) (copy_value_call file k buf)
  value_short h = sym (w.call buf ∙ rw (lt-ltb (length buf) (length w.value) (omega arith)))

  pub value_copied : n ≤ length buf → (out : List ℕ) → out ≡ over w.value buf
      → ◌≡◌ {A = ValueAnswer × List ℕ} (record { refusal = p.refusal; found = true; length = n }, out) (copy_value_call file k buf)
  value_copied h out q = sym (w.call buf ∙ rw (le-ltb (length buf) (length w.value) (omega arith), q, e, w.place.not_refused))
