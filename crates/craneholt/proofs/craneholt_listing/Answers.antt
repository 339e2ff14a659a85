-- `craneholt::craneholt_listing` meets its contract: the listing's answer, and the room that is enough for it.
use Rattle.craneholt.proofs.Rooms.{listing_room}
use Rattle.craneholt.proofs.craneholt_listing.Goals as goal

pub returns : goal.returns
returns c =
    let a = c.args in
    let l = c.listing.ensures in
    record {
      call = l.call;
      enough = listing_room a.file.now a.out.now l.call l.enough;
    }
