-- `set_pair::key_fine` meets its contract: escaping makes no mark and hides none.
use Prim.Native.Nat.{ℕ}
use mathlib.Core.Path.{◌≡◌, refl, ap, ◌∙◌}
use mathlib.Core.Bool.{false}
use mathlib.Core.List.{List}
use Rattle.format.specs.Pairs.{kind_of, is_unmarked}
use Rattle.read_text.specs.declared.lines.Kind.{Kind}
use Rattle.read_text.specs.declared.lines.Kind.TheVariants.{Empty, Comment, Field, Pair, Neither}
use Rattle.read_text.specs.Places.{kind_place}
use Rattle.read_text.proofs.Places.{kind_told}
use Rattle.set_pair.proofs.Escapes.{key_unmarked, key_other}
use Rattle.set_pair.proofs.key_fine.Goals as goal

-- an answer that is not that of a line without a mark
told_other : (t : List ℕ) (r : Kind) → r ≡ kind_place (kind_of t) → (r ≡ Neither → ⊥) → is_unmarked (kind_of t) ≡ false
told_other t Empty e h = ap is_unmarked (kind_told t e)
told_other t Comment e h = ap is_unmarked (kind_told t e)
told_other t (Field i) e h = ap is_unmarked (kind_told t e).0
told_other t (Pair i) e h = ap is_unmarked (kind_told t e).0
told_other t Neither e h = absurd (h refl)

pub returns-in-Neither : goal.returns-in-Neither
returns-in-Neither c =
    let t = c.args.key.now in
    c.value_fine.ensures ∙ key_unmarked t (kind_told t c.in-Neither.ensures)

pub returns-in_default : goal.returns-in_default
returns-in_default c =
    key_other c.args.key.now (told_other c.args.key.now c.kind_of.result c.kind_of.ensures c.in_default.not-Neither)
