-- `craneholt::craneholt_samples` meets its contract: the answer of the samples, and the room that is enough for them by the reading.
use Rattle.craneholt.proofs.Rooms.{sizes_room_lem}
use Rattle.craneholt.proofs.craneholt_samples.Goals as goal

pub returns : goal.returns
returns c =
    let s = c.samples_to_bytes.ensures in
    record {
      call = s.call;
      enough = s.enough;
      known = sizes_room_lem c.args.file.now;
    }
