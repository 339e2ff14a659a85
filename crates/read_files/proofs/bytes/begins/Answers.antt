-- `bytes::begins` meets its contract.
use mathlib.Core.Path.{sym}
use Rattle.read_files.proofs.WordLaws.{begins_empty, begins_first}
use Rattle.read_files.proofs.bytes.begins.Goals as goal

pub returns-then-s-eq0 : goal.returns-then-s-eq0
returns-then-s-eq0 c = sym (begins_empty c.args.b c.args.s.now c.if-s-eq0.true)

pub returns : goal.returns
returns c = let a = c.args in sym (begins_first a.b a.s.now c.if-s-eq0.false)
