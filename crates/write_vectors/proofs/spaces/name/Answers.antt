-- `spaces::name` meets its contract, space by space. Assumes nothing.
use Rattle.std.proofs.Common.{◌≡◌, refl, arith}
use Rattle.format.specs.Spaces.{space_at}
use Rattle.write_vectors.proofs.spaces.name.Goals as goal

pub returns-in-0-clause-is : goal.returns-in-0-clause-is
unfolding space_at
returns-in-0-clause-is c = rw c.in-0.is refl

pub returns-in-1-clause-is : goal.returns-in-1-clause-is
unfolding space_at
returns-in-1-clause-is c = rw c.in-1.is refl

pub returns-in-2-clause-is : goal.returns-in-2-clause-is
unfolding space_at
returns-in-2-clause-is c = rw c.in-2.is refl

pub returns-in-3-clause-is : goal.returns-in-3-clause-is
unfolding space_at
returns-in-3-clause-is c = rw c.in-3.is refl

pub returns-in-4-clause-is : goal.returns-in-4-clause-is
unfolding space_at
returns-in-4-clause-is c = rw c.in-4.is refl

pub returns-in-5-clause-is : goal.returns-in-5-clause-is
unfolding space_at
returns-in-5-clause-is c = rw c.in-5.is refl

pub returns-in-6-clause-is : goal.returns-in-6-clause-is
unfolding space_at
returns-in-6-clause-is c = rw c.in-6.is refl

pub returns-in-7-clause-is : goal.returns-in-7-clause-is
unfolding space_at
returns-in-7-clause-is c = rw c.in-7.is refl

pub returns-in-8-clause-is : goal.returns-in-8-clause-is
unfolding space_at
returns-in-8-clause-is c = rw c.in-8.is refl

pub returns-in-9-clause-is : goal.returns-in-9-clause-is
unfolding space_at
returns-in-9-clause-is c = rw c.in-9.is refl

pub returns-in-10-clause-is : goal.returns-in-10-clause-is
unfolding space_at
returns-in-10-clause-is c = rw c.in-10.is refl

pub returns-in_default-clause-is : goal.returns-in_default-clause-is
unfolding space_at
returns-in_default-clause-is c = let e : c.args.space ≡ 11 = omega (arith, c.requires) in rw e refl
