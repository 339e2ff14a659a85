-- `cover::read_count` meets its contract.
use Rattle.read_files.proofs.FileLaws.{count_empty, count_partly, count_whole}
use Rattle.read_files.proofs.cover.read_count.Goals.{then-digits-eq0-via-then-digits-eq0, then-digits-eq0-via-else-digits-eq0+then-digits-w}
use Rattle.read_files.proofs.cover.read_count.Goals as goal

pub returns-then-digits-eq0 : goal.returns-then-digits-eq0
returns-then-digits-eq0 c =
    let e = c.read_digits-digits.ensures in
    elim c.then-digits-eq0.branch [
      | then-digits-eq0-via-then-digits-eq0 w ↦ count_empty c.args.w.now e w.if-digits-eq0.true
      | then-digits-eq0-via-else-digits-eq0+then-digits-w w ↦ count_partly c.args.w.now e w.if-digits-w.true
    ]

pub returns : goal.returns
returns c =
    count_whole c.args.w.now c.read_digits-digits.ensures c.if-digits-eq0.false c.if-digits-w.false c.min-axes.result c.min-axes.ensures
