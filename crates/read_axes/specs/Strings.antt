-- Internal to the library. The answers of the functions on strings.
use Rattle.std.specs.Prelude.{ℕ, ◌+◌, ◌≤◌, ◌≡◌, Bool, true, false, not, ◌&&◌, List, [], ◌∷◌, ◌==◌, length, replicate, drop, if◌then◌else◌}
use Rattle.std.specs.Prelude.{Option as Maybe}
use Rattle.std.specs.Prelude.{Some, None}
use Rattle.std.proofs.Math.Option.{Option, none, some}
use Rattle.format.specs.Bytes.{space_or_tab, QUOTE, BACKSLASH, each}
use Rattle.format.specs.Limits.{max_axes}
use Rattle.format.specs.Strings.{Quoted, quoted, apart, strings_from}
use Rattle.format.specs.AxisRecords.{string_place}
use Rattle.read_axes.specs.declared.strings.Span.{Span}
use Rattle.read_axes.specs.declared.strings.Strings.{Strings}

-- what stands before the quote that closes a string, all where it stays open; whether a backslash stands right before
unfoldable pub text_from : Bool → List ℕ → List ℕ
text_from b [] = []
text_from b (c ∷ s) = if c == QUOTE && not b then [] else c ∷ text_from (c == BACKSLASH) s

-- a string may end before this text
abbrev pub blank_or_end : List ℕ → Bool
blank_or_end [] = true
blank_or_end (c ∷ s) = space_or_tab c

-- a string put before those that follow
unfoldable pub first_of : Quoted → Option (List Quoted) → Option (List Quoted)
first_of q none = none
first_of q (some qs) = some (q ∷ qs)

-- a string begins at a place of t: with the length n of its text w, the strings of the rest are this one and those after its closing quote
pub record StringAt (t : List ℕ) (at n : ℕ) : Type 0 where
  pub text : List ℕ
  pub size : length text ≡ n
  pub within : at + 1 + n + 1 ≤ length t
  pub strings : strings_from apart at (drop at t) ≡ first_of (quoted (at + 1) text) (strings_from apart (at + 1 + n + 1) (drop (at + 1 + n + 1) t))

-- what is told of a place where no blank stands: such a string, or none, and the rest of t says no strings
abbrev pub StringIs : List ℕ → ℕ → Maybe ℕ → Type 0
StringIs t at None = strings_from apart at (drop at t) ≡ none
StringIs t at (Some n) = StringAt t at n

-- the place of a string in a file
abbrev pub span_of : ℕ × ℕ → Span
span_of p = record { start = p.0; length = p.1 }

abbrev pub no_span : Span
no_span = record { start = 0; length = 0 }

abbrev pub no_strings : Strings
no_strings = record { fine = false; spans = replicate max_axes no_span }

-- the places of the strings of a descriptor that starts at a byte of the file, 0 past them
unfoldable pub strings_answer : ℕ → Option (List Quoted) → Strings
strings_answer base none = no_strings
strings_answer base (some qs) = record { fine = true; spans = each (λ i. span_of (string_place base qs i)) 0 max_axes }

unfoldable pub spans_from : ℕ → Option (List Quoted) → Maybe (List Span)
spans_from base none = None
spans_from base (some qs) = Some (each (λ i. span_of (string_place base qs i)) 0 max_axes)
