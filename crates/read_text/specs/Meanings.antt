-- Internal to the library. What an escaped text means, as the functions on escapes answer it.
use Rattle.std.specs.Prelude.{ℕ, ◌+◌, ◌<◌, ◌≤◌, ◌≡◌, Bool, true, false, List, [], ◌∷◌, ◌==◌, length, drop, if◌then◌else◌}
use Rattle.std.specs.Prelude.{Option as Maybe}
use Rattle.std.specs.Prelude.{Some, None}
use Rattle.std.proofs.Math.Option.{Option, none, some}
use Rattle.read_text.specs.declared.escapes.Meant.{Meant}
use Rattle.format.specs.Bytes.{same, onto, LF, BACKSLASH}
use Rattle.format.specs.Pairs.{unescape}

-- the text means the key
abbrev pub means_key : List ℕ → Option (List ℕ) → Bool
means_key k none = false
means_key k (some t) = same k t

-- what the text means up to the first backslash that is not allowed; the flag: a backslash stands right before the text
unfoldable pub meant_from : Bool → List ℕ → List ℕ
meant_from b [] = []
meant_from false (b ∷ s) = if b == BACKSLASH then meant_from true s else b ∷ meant_from false s
meant_from true (b ∷ s) =
    if b == 110 then LF ∷ meant_from false s
    else if b == BACKSLASH then BACKSLASH ∷ meant_from false s
    else []

abbrev pub meant : List ℕ → List ℕ
meant s = meant_from false s

-- the byte that the text means first from a place on, and how many bytes write it; none where a backslash stands before another byte
pub record First (s : List ℕ) (at : ℕ) (m : Meant) : Type 0 where
  pub within : at + m.width ≤ length s
  pub wide : 0 < m.width
  pub good : unescape (drop at s) ≡ onto m.byte (unescape (drop (at + m.width) s))
  pub next : meant (drop at s) ≡ m.byte ∷ meant (drop (at + m.width) s)

pub record NoFirst (s : List ℕ) (at : ℕ) : Type 0 where
  pub bad : unescape (drop at s) ≡ none
  pub ends : meant (drop at s) ≡ []

abbrev pub FirstIs : List ℕ → ℕ → Maybe Meant → Type 0
FirstIs s at None = NoFirst s at
FirstIs s at (Some m) = First s at m
