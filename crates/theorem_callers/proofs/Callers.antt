-- The statement of specs/Callers.antt, gathered.
use Rattle.theorem_callers.specs.Callers.{CallersHold}
use Rattle.theorem_callers.proofs.Refused.{keeps}
use Rattle.theorem_callers.proofs.Written.{writes}
use Rattle.theorem_callers.proofs.Headers.{headers}
use Rattle.theorem_callers.proofs.Carried.{carried}

pub callers : CallersHold
callers = record { refused = keeps; written = writes; headers = headers; set = carried }
