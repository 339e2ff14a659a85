-- Bytes, and the tests on them that the other files of definitions are written in.
-- A byte is a number; a text and a file are lists of bytes.
--
-- How to read the definitions. A line `f : A → B → C` says that f takes an A and a B and gives a C; the lines `f x y = ..` below it say what,
-- each for inputs of the shape on its left. `[]` is the empty list, `b ∷ s` a list with b before s, `s ++ t` two lists joined.
-- An `Option` is `none` or `some` value. `λ x. ..` is a function of x, `map f s` is the list of what f gives for each entry of s. `(a, b)` is a pair, of the type
-- `A × B`, `p.0` and `p.1` are its parts; `r.name` is a part of a record, `record { name = a; .. }` one with these parts. `data` lists the cases that a value may be.
-- Numbers are whole and unbounded, `zero` or one more than another (`suc n`); `a - b` is 0 where b is larger. Of the signed ones `pos n` is n and `negsuc n` is -(n + 1).
-- `==`, `nat_lt` and `nat_le` test for equal, less, and less or equal; `not`, `&&` and `||` join tests; `if t then a else b` is a where t is true, and b where it is false.
-- `slice_index s i` is the number at place i of a list s, counted from 0, and 0 past its end; `slice_index_or s i d` the same of any list, with d past its end.
-- A claim is a type: `a ≡ b` says that a and b are equal, `(n : ℕ) → n < 256 → a ≡ b` that they are for every n below 256; a record of claims says that all of them hold.
-- `abbrev` and `unfoldable` say how proofs see a definition and change nothing of what it means.
use Rattle.std.specs.Prelude.{ℕ, zero, suc, ◌+◌, Bool, true, false, ◌&&◌, ◌||◌, List, [], ◌∷◌, ◌++◌, ◌==◌, nat_le, length, drop, if◌then◌else◌}
use Prim.Native.Char.{code}
use Prim.Native.String.{String, [] as []ˢ, ◌∷◌ as ◌∷ˢ◌}
use Rattle.std.proofs.Math.Option.{Option, none, some}

-- ---- bytes with a name, and quoted text as bytes

abbrev pub TAB : ℕ
TAB = 9

abbrev pub LF : ℕ
LF = 10

abbrev pub CR : ℕ
CR = 13

abbrev pub SPACE : ℕ
SPACE = 32

-- `"`
abbrev pub QUOTE : ℕ
QUOTE = 34

-- `#`
abbrev pub HASH : ℕ
HASH = 35

-- `%`
abbrev pub PERCENT : ℕ
PERCENT = 37

-- `+`
abbrev pub PLUS : ℕ
PLUS = 43

-- `-`
abbrev pub MINUS : ℕ
MINUS = 45

-- `(` and `)`
abbrev pub OPEN : ℕ
OPEN = 40

abbrev pub CLOSE : ℕ
CLOSE = 41

-- `,`
abbrev pub COMMA : ℕ
COMMA = 44

-- `.`
abbrev pub POINT : ℕ
POINT = 46

-- `:`
abbrev pub COLON : ℕ
COLON = 58

-- `=`
abbrev pub EQUALS : ℕ
EQUALS = 61

-- the backslash
abbrev pub BACKSLASH : ℕ
BACKSLASH = 92

-- the bytes of a quoted text, one for each of its characters, all of them ASCII
abbrev pub bytes : String → List ℕ
bytes []ˢ = []
bytes (c ∷ˢ s) = code c ∷ bytes s

-- ---- tests on a byte

-- from a to z, both included
abbrev pub between : ℕ → ℕ → ℕ → Bool
between a z b = nat_le a b && nat_le b z

-- a space or a tab
abbrev pub space_or_tab : ℕ → Bool
space_or_tab b = b == SPACE || b == TAB

-- `0` to `9`
abbrev pub is_digit : ℕ → Bool
is_digit b = between 48 57 b

-- a letter `A` to `Z` as its small letter, any other byte as itself
abbrev pub small : ℕ → ℕ
small b = if between 65 90 b then b + 32 else b

-- the test holds of every number below n
unfoldable pub every_below : (ℕ → Bool) → ℕ → Bool
every_below p zero = true
every_below p (suc n) = p n && every_below p n

-- ---- tests on texts

unfoldable pub every : (ℕ → Bool) → List ℕ → Bool
every p [] = true
every p (b ∷ s) = p b && every p s

-- the same bytes
unfoldable pub same : List ℕ → List ℕ → Bool
same [] [] = true
same [] (c ∷ t) = false
same (b ∷ s) [] = false
same (b ∷ s) (c ∷ t) = b == c && same s t

-- the same but for the case of letters
unfoldable pub alike : List ℕ → List ℕ → Bool
alike [] [] = true
alike [] (c ∷ t) = false
alike (b ∷ s) [] = false
alike (b ∷ s) (c ∷ t) = small b == small c && alike s t

-- the second text begins with the first
unfoldable pub begins_with : List ℕ → List ℕ → Bool
begins_with [] t = true
begins_with (b ∷ s) [] = false
begins_with (b ∷ s) (c ∷ t) = b == c && begins_with s t

-- a number is in a list of numbers, as a byte in a text
unfoldable pub is_in : ℕ → List ℕ → Bool
is_in n [] = false
is_in n (m ∷ ms) = n == m || is_in n ms

abbrev pub is_empty : List ℕ → Bool
is_empty [] = true
is_empty (b ∷ s) = false

-- ---- lists of words

-- the word is one of these, ignoring case
unfoldable pub is_any : List ℕ → List String → Bool
is_any w [] = false
is_any w (n ∷ ns) = alike w (bytes n) || is_any w ns

-- the number, from 0 for the first that is asked, of the row that has the word, ignoring case
unfoldable pub row_from : ℕ → List ℕ → List (List String) → Option ℕ
row_from i w [] = none
row_from i w (r ∷ rs) = if is_any w r then some i else row_from (i + 1) w rs

abbrev pub row_of : List ℕ → List (List String) → Option ℕ
row_of w rs = row_from 0 w rs

-- ---- lists by number

-- what v says of each of n numbers from i on
unfoldable pub each : {A : Type 0} → (ℕ → A) → ℕ → ℕ → List A
each v i zero = []
each v i (suc n) = v i ∷ each v (i + 1) n

-- ---- lent lists

-- a lent list once `new` is written to its front; what is past that stays
abbrev pub over {ℓ} : {A : Type ℓ} → List A → List A → List A
over new old = new ++ drop (length new) old

-- ---- answers that may be missing

module _ {A : Type 0} where
  abbrev pub is_some : Option A → Bool
  is_some none = false
  is_some (some a) = true

  -- what is there, or else d
  abbrev pub or_default : A → Option A → A
  or_default d none = d
  or_default d (some a) = a

  -- the first of two that is there
  abbrev pub or_else : Option A → Option A → Option A
  or_else none o = o
  or_else (some a) o = some a

-- a byte in front of a text that may be missing
abbrev pub onto : ℕ → Option (List ℕ) → Option (List ℕ)
onto b none = none
onto b (some t) = some (b ∷ t)

-- go on with a text that may be missing
abbrev pub and_then : Option (List ℕ) → (List ℕ → Option (List ℕ)) → Option (List ℕ)
and_then none next = none
and_then (some t) next = next t
