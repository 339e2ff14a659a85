-- `read_offset` meets its contract: the digits passed write n, and the rest goes on from there.
use Rattle.std.proofs.Common.{◌≡◌, length, drop, refl, sym, ap, ◌∙◌, arith, rules}
use mathlib.Core.Option.{none}
use Rattle.format.specs.Words.{digits_from}
use Rattle.roof_steps.specs.Steps.{number_found}
use Rattle.roof_sweep.proofs.OffsetLaws.{answered, above, said_empty, said_digits, digits_low, digits_high, digits_next, digits_end}
use Rattle.roof_sweep.proofs.offset.read_offset.Goals as goal
use Rattle.roof_sweep.proofs.offset.read_offset.Goals.{then-b-lt48-via-then-b-lt48, then-b-lt48-via-else-b-lt48+then-b-gt57}

pub returns-then-is_empty : goal.returns-then-is_empty
returns-then-is_empty c =
    let h : length c.args.t.now ≡ 0 = search rules in
    rw (said_empty c.args.t.now h) refl

pub loop-i-init : goal.loop-i-init
loop-i-init c =
    let h : length c.args.t.now ≡ 0 → ⊥ = search rules in
    (omega arith, said_digits c.args.t.now h)

pub returns-then-b-lt48 : goal.returns-then-b-lt48
returns-then-b-lt48 c =
    let l = c.loop-i in
    let t = c.args.t.now in
    let q : answered (digits_from l.n (drop l.i t)) ≡ none =
    elim c.then-b-lt48.branch [ then-b-lt48-via-then-b-lt48 w ↦ digits_low t l.i l.n (omega arith) w.if-b-lt48.true | then-b-lt48-via-else-b-lt48+then-b-gt57 w ↦ digits_high t l.i l.n (omega arith) w.if-b-gt57.true ] in
    sym (ap number_found (l.invariant.1 ∙ q))

pub returns-then-n-gt255 : goal.returns-then-n-gt255
returns-then-n-gt255 c =
    let l = c.loop-i in
    let t = c.args.t.now in
    sym (ap number_found (l.invariant.1 ∙ digits_next t l.i l.n (omega arith) c.if-b-lt48.false c.if-b-gt57.false ∙ above _ _ c.if-n-gt255.true))

pub loop-i-preserved : goal.loop-i-preserved
loop-i-preserved c =
    let l = c.loop-i in
    (c.if-n-gt255.false, l.invariant.1 ∙ digits_next c.args.t.now l.i l.n (omega arith) c.if-b-lt48.false c.if-b-gt57.false)

pub returns : goal.returns
returns c =
    let l = c.loop-i in
    sym (ap number_found (l.invariant.1 ∙ digits_end c.args.t.now _ l.n (omega arith) l.invariant.0))
