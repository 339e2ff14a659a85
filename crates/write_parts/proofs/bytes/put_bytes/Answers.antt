-- `write_parts::bytes::put_bytes` meets its contract. Assumes nothing.
use Rattle.std.proofs.Common.{refl, length}
use Rattle.write_parts.proofs.Pasting.{put_sets}
use Rattle.write_parts.proofs.bytes.put_bytes.Goals as goal

pub returns : goal.returns
returns c =
    let a = c.args in
    record { place = refl; stored = put_sets a.out.now _ a.s.now a.at (length a.s.now) c.requires refl c.copy_from_slice.ensures.after }
