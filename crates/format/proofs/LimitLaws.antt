-- What the proofs need of the limits' numbers. A change of a limit is checked here first.
-- Assumes nothing.
use Prim.Native.Nat.{◌+◌, ◌*◌, ◌≤◌}
use native.Mathlib.Omega.{arith}
use Rattle.format.specs.Limits.{max_file, max_header, max_lines}

-- the longest header is no file that is too long
pub header_in_file : max_header ≤ max_file
header_in_file = omega arith

-- a header can have the most lines that it may have, of which all but a few are comments of one byte
pub lines_in_header : 64 + 2 * max_lines ≤ max_header
lines_in_header = omega arith
