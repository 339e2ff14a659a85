use Rattle.std.proofs.Common.{refl}
use Rattle.format.specs.Calls.{no_reading}
use Rattle.format.proofs.answers.ReadAnswerFromResultReadingRefused.from.Goals as goal

pub returns-in-Err : goal.returns-in-Err
unfolding no_reading
returns-in-Err c = rw (c.in-Err.is, c.into.ensures) refl
