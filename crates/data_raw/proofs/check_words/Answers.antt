-- `check_words` meets its contract. The invariant: what the samples from k on come to is what all come to, unless one before them is counted.
use Rattle.std.proofs.Common.{◌*◌, true, leb, sym, arith, eq-eqb}
use Rattle.format.specs.Limits.{max_sample}
use Rattle.format.specs.Descriptors.{unsigned}
use Rattle.lent_numbers.specs.Widths.{endian_by}
use Rattle.data_raw.proofs.RawLaws.{Testing, testing_more, testing_done, within, word_in, count_more, at_most_one, sample_is}
use Rattle.data_raw.proofs.check_words.Goals as goal

pub loop-k-preserved : goal.loop-k-preserved
loop-k-preserved c =
    let a = c.args in
    let x = c.word.result in
    let less = c.loop-k-test.true in
    let room = within unsigned 8 (endian_by a.big) a.n a.s.now less c.requires in
    let i = sample_is a.s.now (c.loop-k.k * 8) 8 room unsigned (endian_by a.big) in
    let more = testing_more unsigned 8 (endian_by a.big) a.n a.s.now less _ (leb x max_sample) c.loop-k.invariant.1 (rw (i, sym c.word.ensures.is) (word_in _)) in
    (omega (arith, c.loop-k.invariant.0, at_most_one (leb x max_sample) c.is_above-count.ensures), rw (c.is_above-count.ensures, count_more c.loop-k.count (leb x max_sample)) more)

pub returns-then-count-eq0 : goal.returns-then-count-eq0
returns-then-count-eq0 c =
    let a = c.args in
    let inv : Testing unsigned 8 (endian_by a.big) a.n a.s.now true c.loop-k.k = rw (sym (eq-eqb c.loop-k.count 0 c.if-count-eq0.true)) c.loop-k.invariant.1 in
    sym (testing_done unsigned 8 (endian_by a.big) a.n a.s.now c.loop-k-test.false inv)
