-- `axes::read_count` meets its contract.
use Rattle.read_files.proofs.NumberLaws.{axes_empty, axes_partly, axes_few, axes_many}
use Rattle.read_files.proofs.axes.read_count.Goals as goal

pub returns-then-count-eq0 : goal.returns-then-count-eq0
returns-then-count-eq0 c = axes_empty c.args.w.now c.read_digits-d.ensures c.if-count-eq0.true

pub returns-then-count-w : goal.returns-then-count-w
returns-then-count-w c = axes_partly c.args.w.now c.read_digits-d.ensures c.if-count-w.true

pub returns-then-n-le-MAX_AXES : goal.returns-then-n-le-MAX_AXES
returns-then-n-le-MAX_AXES c =
    axes_few c.args.w.now c.read_digits-d.ensures c.if-count-eq0.false c.if-count-w.false c.if-n-le-MAX_AXES.true

pub returns : goal.returns
returns c =
    axes_many c.args.w.now c.read_digits-d.ensures c.if-count-eq0.false c.if-count-w.false c.if-n-le-MAX_AXES.false
