-- `store_pair` meets its contract: the two stores.
use native.Mathlib.Omega.{arith}
use lib.ListN.{length-set}
use Rattle.data_hex.proofs.bytes.store_pair.Goals as goal

pub bounds-d-o-2 : goal.bounds-d-o-2
bounds-d-o-2 c = simp length-set (omega arith)
