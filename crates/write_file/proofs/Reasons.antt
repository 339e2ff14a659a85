-- Laws of refusals by reason: none has the number 0, and what the answer of a refused call is.
-- Assumes nothing.
use Rattle.std.proofs.Common.{◌≡◌, ℕ, ap, arith}
use Rattle.std.specs.Prelude.{Result, Ok, Err}
use Rattle.std.specs.Result.{IsErr, IsErrAnd}
use mathlib.Core.Bool.{false≢true}
use Rattle.format.specs.declared.reason.Reason.{Reason}
use Rattle.format.specs.declared.reason.Refused.{Refused}
use Rattle.format.specs.Reasons.{reason_number, without_line}
use Rattle.format.specs.Answers.{length_answered}
use Rattle.write_file.specs.Stored.{answer_of}

pub reason_some : (r : Reason) → reason_number r ≡ 0 → ⊥
reason_some r e = grind arith

-- the answer where it hands on a reason as what is refused
pub answer_is : (r : Result ℕ Refused) (reason : Reason) → IsErr r × IsErrAnd r (λ refused. refused ≡ without_line reason) → length_answered r ≡ answer_of (reason_number reason) 0
answer_is (Ok n) reason h = absurd (false≢true h.0)
answer_is (Err refused) reason h = ap (λ x. length_answered (Err x)) (h.1)
