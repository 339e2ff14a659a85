-- `put_some` meets its contract: each return is one law of the digits that are stored.
use Prim.Native.Nat.{◌-◌, ◌≤◌}
use native.Mathlib.Nat.{le_of_lt}
use native.Mathlib.Omega.{arith}
use lib.ListN.{length}
use Rattle.data_hex.specs.Forms.{digits_at}
use Rattle.data_hex.proofs.DigitLaws.{refusal_first}
use Rattle.data_hex.proofs.BlockLaws.{blank_passed, more_fit, more_end, few_fit, few_wanted, few_end}
use borrow.Author.Rules.{rules}
use Rattle.data_hex.proofs.bytes.put_some.Goals as goal

pub overflow_sub-m : goal.overflow_sub-m
overflow_sub-m c = le_of_lt c.requires.o_below_m

pub copy_pairs-requires : goal.copy_pairs-requires
copy_pairs-requires c =
    let a = c.args in
    let p = c.is_spaced.ensures c.if-is_spaced.true in
    record { bytes_there = p.0; room = more_fit (length a.s.now) a.at 47 _ a.m a.o p.0 p.1.0 c.requires.room; spaced = p.1.1.0; ends_blank = p.1.1.1 }

pub overflow_add-result : goal.overflow_add-result
overflow_add-result c = omega arith

pub overflow_add-result-then-is_spaced : goal.overflow_add-result-then-is_spaced
overflow_add-result-then-is_spaced c = omega arith

pub returns-then-is_spaced : goal.returns-then-is_spaced
returns-then-is_spaced c =
    let a = c.args in
    let s = a.s.now in
    let p = c.is_spaced.ensures c.if-is_spaced.true in
    record { ahead = more_end (length s) a.at 47 (length a.d.now) a.m a.o p.0 p.1.0; moved = λ f. c.copy_pairs.ensures (refusal_first (digits_at s a.at) p.1.0 f) }

pub overflow_sub-m-2 : goal.overflow_sub-m-2
overflow_sub-m-2 c = le_of_lt c.requires.o_below_m

pub copy-requires : goal.copy-requires
copy-requires c =
    let a = c.args in
    let p = c.is_run.ensures c.if-is_run.true in
    record { bytes_there = p.0; room = more_fit (length a.s.now) a.at 31 _ a.m a.o p.0 p.1.0 c.requires.room; run = p.1.1 }

pub overflow_add-result-then-is_run : goal.overflow_add-result-then-is_run
overflow_add-result-then-is_run c = omega arith

pub overflow_add-result-then-is_run-2 : goal.overflow_add-result-then-is_run-2
overflow_add-result-then-is_run-2 c = omega arith

pub returns-then-is_run : goal.returns-then-is_run
returns-then-is_run c =
    let a = c.args in
    let p = c.is_run.ensures c.if-is_run.true in
    record { ahead = more_end (length a.s.now) a.at 31 (length a.d.now) a.m a.o p.0 p.1.0; moved = λ f. c.copy.ensures }

pub bounds-s-at : goal.bounds-s-at
bounds-s-at c = omega arith

pub overflow_add-result-then-s-at-le32 : goal.overflow_add-result-then-s-at-le32
overflow_add-result-then-s-at-le32 c = omega arith

pub returns-then-s-at-le32 : goal.returns-then-s-at-le32
returns-then-s-at-le32 c =
    let a = c.args in
    let s = a.s.now in
    let one : 1 ≤ a.m - a.o = omega arith in
    record { ahead = search rules; moved = λ f. blank_passed s a.at (omega arith) a.d.now a.o c.if-s-at-le32.true (refusal_first (digits_at s a.at) one f) }

pub overflow_sub-s : goal.overflow_sub-s
overflow_sub-s c = le_of_lt c.requires.at_inside

pub overflow_sub-m-3 : goal.overflow_sub-m-3
overflow_sub-m-3 c = le_of_lt c.requires.o_below_m

pub squeeze-end-requires : goal.squeeze-end-requires
squeeze-end-requires c =
    let a = c.args in
    let f = few_fit (length a.s.now) a.at (length a.d.now) a.m a.o _ _ c.requires.at_inside c.requires.o_below_m c.requires.room c.min.ensures c.min-c.ensures in
    record { bytes_there = f.0; room = f.1 }

pub overflow_add-result-2 : goal.overflow_add-result-2
overflow_add-result-2 c = omega arith

pub returns : goal.returns
returns c =
    let a = c.args in
    let n = length a.s.now in
    let k = length a.d.now in
    let l = c.min.ensures in
    let e = c.min-c.ensures in
    let r = c.squeeze-end.ensures in record { ahead = few_end n a.at k a.m a.o _ _ c.requires.at_inside c.requires.o_below_m c.requires.room l e _ r.between; moved = λ f. r.moved (refusal_first (digits_at a.s.now a.at) (few_wanted n a.at k a.m a.o _ _ c.requires.at_inside c.requires.o_below_m c.requires.room l e) f) }
