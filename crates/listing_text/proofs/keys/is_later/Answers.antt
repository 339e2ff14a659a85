-- `listing_text::keys::is_later` meets its contract: the lines left decide.
use Prim.Native.Nat.{◌+◌, ◌-◌}
use native.Mathlib.Omega.{arith}
use mathlib.Core.Path.{◌≡◌, refl, sym, ap, ◌∙◌}
use Rattle.listing_text.specs.Shown.{is_later}
use Rattle.listing_text.proofs.KeyLines.{within_limit, within_starts, within_not_past, within_next, later_here, later_next, lines_none}
use Rattle.listing_text.proofs.keys.is_later.Goals as goal

pub loop-init : goal.loop-init
loop-init c =
    let e : c.args.count - 0 ≡ c.args.count = omega arith in
    rw e (c.requires, refl)

pub line_at-requires : goal.line_at-requires
line_at-requires c = let w = c.loop.invariant.0 in (within_starts w (omega arith), within_limit w)

pub returns-then-is_key : goal.returns-then-is_key
returns-then-is_key c =
    let l = c.loop in
    sym (l.invariant.1 ∙ later_here l.invariant.0 (omega arith) c.in-Some.ensures _ (sym c.is_key.ensures ∙ c.if-is_key.true))

pub returns-in_default : goal.returns-in_default
returns-in_default c = absurd (within_not_past c.loop.invariant.0 (omega arith) c.in_default.ensures)

pub loop-preserved : goal.loop-preserved
loop-preserved c =
    let l = c.loop in
    let a = c.args in
    let w = c.in-Some.ensures in
    let e : a.count - l.counter - 1 ≡ a.count - (l.counter + 1) = omega arith in
    rw (← e) (
      within_next l.invariant.0 (omega arith) w,
      l.invariant.1 ∙ later_next l.invariant.0 (omega arith) w _ (sym c.is_key.ensures ∙ c.if-is_key.false),
    )

pub returns : goal.returns
unfolding is_later
returns c =
    let l = c.loop in
    let a = c.args in
    sym (l.invariant.1 ∙ ap (is_later a.key.now) (lines_none a.file.now l.at _ (omega arith)))
