-- `store` meets its contract: the low bytes, in one run.
use Rattle.lent_numbers.proofs.Arrays.{low_stored}
use Rattle.lent_numbers.proofs.store.Goals as goal

pub returns : goal.returns
returns g c = low_stored g.row.W c.args.at c.args.x c.args.d.now c.to_le_bytes.result _ c.requires.width c.requires.room c.to_le_bytes.ensures c.copy_from_slice.ensures.after
