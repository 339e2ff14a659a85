-- `theorem_roundtrip::round_trips` meets its contract, which is the statement that what is written is read back.
use Rattle.theorem_roundtrip.proofs.ReadBack.{round_trips}
use Rattle.theorem_roundtrip.proofs.round_trips.Goals as goal

pub returns : goal.returns
returns c = round_trips
