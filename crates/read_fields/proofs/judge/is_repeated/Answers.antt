-- `judge::is_repeated` meets its contract: one law for space and space dimension, and one for any other field. Assumes nothing.
use native.Mathlib.Omega.{arith}
use Rattle.read_fields.proofs.Judging.{repeated_alone, repeated_either}
use Rattle.read_fields.proofs.judge.is_repeated.Goals as goal

pub returns-then-f-lt-SPACE : goal.returns-then-f-lt-SPACE
returns-then-f-lt-SPACE c gs e =
    repeated_alone c.args.f gs c.requires (λ q. omega arith) (λ q. omega arith) e

pub returns-then-f-le-SPACE_DIMENSION : goal.returns-then-f-le-SPACE_DIMENSION
returns-then-f-le-SPACE_DIMENSION c gs e = repeated_either c.args.f gs (omega arith) (omega arith) e

pub returns-else-f-le-SPACE_DIMENSION : goal.returns-else-f-le-SPACE_DIMENSION
returns-else-f-le-SPACE_DIMENSION c gs e =
    repeated_alone c.args.f gs c.requires (λ q. omega arith) (λ q. omega arith) e
