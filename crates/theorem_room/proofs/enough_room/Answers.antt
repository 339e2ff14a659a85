-- `theorem_room::enough_room` meets its contract, which is the statement that the room is always enough.
use Rattle.theorem_room.proofs.Enough.{room_enough}
use Rattle.theorem_room.proofs.enough_room.Goals as goal

pub returns : goal.returns
returns c = room_enough
