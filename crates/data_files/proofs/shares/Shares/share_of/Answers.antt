-- `data_files::shares::Shares::share_of` meets its contract: the share, and the sample's place in it.
use native.Mathlib.Omega.{arith}
use mathlib.Core.Path.{refl}
use Rattle.data_files.proofs.ShareLaws.{byte_few, share_none, share_placed}
use Rattle.data_files.proofs.shares.Shares.share_of.Goals as goal

pub returns-then-self-sample : goal.returns-then-self-sample
returns-then-self-sample c = let a = c.args in rw c.into.ensures (share_none _ _ _ a.sample c.if-self-sample.true)

pub overflow_mul-result : goal.overflow_mul-result
overflow_mul-result c = let a = c.args in omega (arith, byte_few _ _ _ a.sample c.requires)

pub returns : goal.returns
returns c = let a = c.args in share_placed _ _ _ a.sample c.if-self-sample.false _ _ refl refl
