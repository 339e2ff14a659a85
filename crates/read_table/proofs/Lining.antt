-- Lines one after the other, of which there are enough and which end within the limit.
-- Assumes nothing.
use Prim.Native.Nat.{ℕ, suc, ◌+◌, ◌-◌, ◌≤◌, ◌<◌}
use native.Mathlib.Omega.{arith}
use mathlib.Core.Path.{◌≡◌}
use mathlib.Core.List.{List}
use lib.ListN.{length, drop, length-drop}
use Rattle.format.specs.Limits.{max_header}
use Rattle.format.proofs.Lines.{length_unlines_cons, length_lines_le}
use Rattle.std.proofs.Common.{Option, Some, None, refl}
use Rattle.read_lines.specs.declared.LineEnds.{LineEnds}
use Rattle.read_lines.specs.Spans.{LineAt, PastAt, SpanIs}
use Rattle.read_table.specs.Tables.{Lined}

-- one more is left
pub one_left : {count k : ℕ} → k < count → count - k ≡ suc (count - (k + 1))
one_left h = omega arith

pub lined_short : {file : List ℕ} {at n : ℕ} → Lined file at n → at ≤ max_header
lined_short a = omega (arith, a.short)

module _ {file : List ℕ} {at n m : ℕ} (a : Lined file at n) (one : n ≡ suc m) where
  pub lined_within : at < length file
  lined_within = omega (arith, a.there, length_lines_le (drop at file), length-drop at file)

  pub lined_not_past : PastAt file at → ⊥
  lined_not_past w = omega (arith, rw (one, w.cut, length_unlines_cons) at a.short, w.long)

  -- a line is found
  pub lined_some : {s : Option LineEnds} → ((e : LineEnds) → s ≡ Some e → ⊥) → SpanIs file at s → ⊥
  lined_some {s = None} none w = lined_not_past w
  lined_some {s = Some e} none w = none e refl

  pub lined_next : {text_end next : ℕ} → LineAt file at text_end next → Lined file next m
  lined_next w =
      record { there = omega (arith, rw (one, w.cut) at a.there); short = omega (arith, rw (one, w.cut, length_unlines_cons) at a.short, w.bytes) }
