-- `lift` meets its contract: the numbers before i are stored.
use Rattle.std.proofs.Common.{ℕ, ◌+◌, ◌%◌, refl, ap, ◌∙◌, arith}
use Rattle.data_raw.specs.Bits.{range}
use Rattle.data_raw.proofs.NarrowLaws.{narrow_below, lifting_none, lifting_room, lifting_more, lifting_done}
use Rattle.data_raw.proofs.number.lift.Goals as goal

pub loop-i-init : goal.loop-i-init
loop-i-init c = let a = c.args in lifting_none a.big a.w a.up 64 a.s.now a.at _

pub overflow_mul-w : goal.overflow_mul-w
overflow_mul-w c = let a = c.args in omega (arith, lifting_room a.w 64 a.s.now a.at c.loop-i-test.true c.requires.bytes_there)

pub overflow_add-at : goal.overflow_add-at
overflow_add-at c = let a = c.args in omega (arith, lifting_room a.w 64 a.s.now a.at c.loop-i-test.true c.requires.bytes_there)

pub word-requires : goal.word-requires
word-requires c =
    let a = c.args in
    record { width = c.requires.width; bytes_there = lifting_room a.w 64 a.s.now a.at c.loop-i-test.true c.requires.bytes_there }

pub lifted-requires : goal.lifted-requires
lifted-requires c =
    (narrow_below c.args.w _ c.requires.width c.requires.narrow_shift.0 c.word.ensures.less, c.requires.narrow_shift.1)

pub loop-i-preserved : goal.loop-i-preserved
loop-i-preserved c =
    let a = c.args in
    lifting_more a.big a.w a.up 64 a.s.now a.at _ c.loop-i.invariant c.loop-i-test.true _ (c.lifted.ensures ∙ ap (λ (n : ℕ). (n + a.up) % range a.w) c.word.ensures.is)

pub returns : goal.returns
returns c =
    let a = c.args in
    lifting_done a.big a.w a.up 64 a.s.now a.at _ c.loop-i.invariant c.loop-i-test.false refl
