-- `listing_text::keys::put_key` meets its contract.
use native.Mathlib.Omega.{arith}
use lib.ListN.{length-take, length-drop}
use Rattle.listing_print.proofs.Printing.{printed_then, printed_is, printed_short}
use Rattle.listing_text.proofs.KeyLines.{key_parts, key_short}
use Rattle.listing_text.proofs.keys.put_key.Goals as goal

pub put_bytes-e-requires : goal.put_bytes-e-requires
put_bytes-e-requires c = simp length-take (omega (arith, c.put_bytes-a.ensures.long))

pub put_line-requires : goal.put_line-requires
put_line-requires c = simp (length-take, length-drop) (omega (arith, c.put_bytes-a.ensures.long, c.put_bytes-e.ensures.place, length-take c.args.i c.args.t.now))

pub returns : goal.returns
returns c =
    let a = c.args in
    let p = printed_then c.put_bytes-a.ensures (printed_then c.put_bytes-e.ensures c.put_line.ensures) in
    printed_short (printed_is p (key_parts a.t.now a.i)) _ (key_short a.t.now a.i c.requires.0)
