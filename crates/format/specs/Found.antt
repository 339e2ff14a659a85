-- What the look-ups find, said by the reading instead of by lines and places (rules, "Lines and headers", the reading):
-- the descriptor of a field (`descriptor_of`), and the value of a key (`value_of`) as it is written in the file.
use Rattle.std.specs.Prelude.{ℕ, ◌+◌, ◌≤◌, ◌≡◌, true, List, length, take, drop}
use Rattle.std.proofs.Math.Option.{Option, none, some}
use Rattle.format.specs.declared.FindAnswer.{FindAnswer}
use Rattle.format.specs.Refusals.{fine}
use Rattle.format.specs.Pairs.{escape}
use Rattle.format.specs.Fields.{descriptor_of}
use Rattle.format.specs.Header.{Outcome, refused, accepted, value_of}
use Rattle.format.specs.Calls.{no_place}

-- the answer is a place within the file, and the bytes there are t
pub record HasAt (file t : List ℕ) (a : FindAnswer) : Type 0 where
  pub not_refused : a.refusal ≡ fine
  pub there : a.found ≡ true
  pub long : a.length ≡ length t
  pub within : a.start + a.length ≤ length file
  pub bytes : take a.length (drop a.start file) ≡ t

-- the answer finds this text in the file, or tells that there is none
abbrev pub Finds : List ℕ → Option (List ℕ) → FindAnswer → Type 0
Finds file none a = a ≡ no_place fine
Finds file (some t) a = HasAt file t a

-- of a refused file the answer is its refusal; of an accepted one it finds the descriptor of the field f, if that is given
abbrev pub FindsField : List ℕ → ℕ → Outcome → FindAnswer → Type 0
FindsField file f (refused r) a = a ≡ no_place r
FindsField file f (accepted es gs ls) a = Finds file (descriptor_of f gs) a

-- a value as it is written in the file
abbrev pub escaped : Option (List ℕ) → Option (List ℕ)
escaped none = none
escaped (some v) = some (escape v)

-- the same of the value of the key k, if a pair has it
abbrev pub FindsKey : List ℕ → List ℕ → Outcome → FindAnswer → Type 0
FindsKey file k (refused r) a = a ≡ no_place r
FindsKey file k (accepted es gs ls) a = Finds file (escaped (value_of k es)) a
