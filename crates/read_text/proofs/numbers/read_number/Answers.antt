-- `numbers::read_number` meets its contract.
use Rattle.std.proofs.Common.{rules, arith, sym, ap, ◌∙◌, le-leb}
use Rattle.std.proofs.lemmas.Bool.{lt-leb}
use Rattle.format.specs.Limits.{max_size}
use Rattle.read_text.specs.Numbers.{number_answer}
use Rattle.read_text.proofs.NumberLaws.{number_empty, number_digits, digits_other, digits_next, digits_end}
use Rattle.read_text.proofs.numbers.read_number.Goals as goal

pub returns-then-is_empty : goal.returns-then-is_empty
returns-then-is_empty c = sym (ap number_answer (number_empty c.args.s.now (sym c.is_empty.ensures ∙ c.if-is_empty.true)))

pub loop-b-init : goal.loop-b-init
loop-b-init c = (omega arith, ap number_answer (number_digits c.args.s.now (sym c.is_empty.ensures ∙ c.if-is_empty.false)))

pub returns-then-not-is_ascii_digit : goal.returns-then-not-is_ascii_digit
returns-then-not-is_ascii_digit c =
    let l = c.loop-b in
    sym (l.invariant.1 ∙ digits_other _ l.b-index l.v c.loop-b-test.true (sym c.is_ascii_digit.ensures.value ∙ c.if-not-is_ascii_digit.true))

pub loop-b-preserved : goal.loop-b-preserved
loop-b-preserved c =
    let l = c.loop-b in
    let n = digits_next _ l.b-index l.v c.loop-b-test.true (sym c.is_ascii_digit.ensures.value ∙ c.if-not-is_ascii_digit.false) in
    (search rules, rw c.min-v.ensures (l.invariant.1 ∙ n))

pub returns-then-v-lt-PAST_SIZE : goal.returns-then-v-lt-PAST_SIZE
returns-then-v-lt-PAST_SIZE c =
    let l = c.loop-b in
    sym (l.invariant.1 ∙ digits_end _ l.b-index l.v c.loop-b-test.false ∙ rw (le-leb l.v max_size (omega arith)))

pub returns-else-v-lt-PAST_SIZE : goal.returns-else-v-lt-PAST_SIZE
returns-else-v-lt-PAST_SIZE c =
    let l = c.loop-b in
    sym (l.invariant.1 ∙ digits_end _ l.b-index l.v c.loop-b-test.false ∙ rw (lt-leb l.v max_size (omega arith)))
