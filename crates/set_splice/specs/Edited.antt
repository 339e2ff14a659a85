-- Internal to the library. An edit of a file's bytes.
use Rattle.std.specs.Prelude.{ℕ, List, ◌++◌, take, drop}

-- a file with its bytes before `from`, new ones, and its bytes from `to` on
unfoldable pub edited : List ℕ → ℕ → ℕ → List ℕ → List ℕ
edited f from to new = take from f ++ (new ++ drop to f)
