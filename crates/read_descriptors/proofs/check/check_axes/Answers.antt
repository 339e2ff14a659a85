-- `check::check_axes` meets its contract: each arm's field is the one that it matched, and the last arm's is none of them. Assumes nothing.
use mathlib.Core.Path.{◌≡◌, ◌∙◌}
use native.Mathlib.Omega.{arith}
use Rattle.format.specs.Fields.{centers, labels, units, kinds}
use Rattle.format.specs.Descriptors.{may_describe}
use Rattle.read_axes.proofs.CodeLaws.{codes_kinds, codes_centrings}
use Rattle.read_descriptors.proofs.Checking.{any_taken, axial}
use Rattle.read_descriptors.specs.Checked.{NoneOf}
use borrow.Author.Rules.{rules}
use Rattle.read_descriptors.proofs.check.check_axes.Goals as goal

pub returns-in-26 : goal.returns-in-26
unfolding may_describe
returns-in-26 c m h k d l = let e : c.args.f ≡ centers = omega arith in rw (e, ← codes_centrings) (c.check_codes.ensures d)

pub returns-in-27 : goal.returns-in-27
unfolding may_describe
returns-in-27 c m h k d l = let e : c.args.f ≡ labels = omega arith in rw e (c.check_strings.ensures d l)

pub returns-in-28 : goal.returns-in-28
unfolding may_describe
returns-in-28 c m h k d l = let e : c.args.f ≡ units = omega arith in rw e (c.check_strings-in-28.ensures d l)

pub returns-in-29 : goal.returns-in-29
unfolding may_describe
returns-in-29 c m h k d l = let e : c.args.f ≡ kinds = omega arith in rw (e, ← codes_kinds) (c.check_codes-in-29.ensures d)

pub returns-in_default : goal.returns-in_default
returns-in_default c m h k d l =
    let a = c.args in
    let o : NoneOf a.f axial = search rules in
    c.says_none.ensures ∙ any_taken a.dimension m a.f a.t.now h k o
