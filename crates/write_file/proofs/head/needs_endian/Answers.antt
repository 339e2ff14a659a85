-- `write_file::head::needs_endian` meets its contract. Assumes nothing.
use Rattle.std.proofs.Common.{ap, ◌∙◌, sym}
use mathlib.Core.Bool.{and-true}
use lib.Dec.{ltb}
use Rattle.format.specs.Codes.{type_code}
use Rattle.format.specs.Descriptors.{sample_bytes}
use Rattle.write_file.proofs.Header.{raw_or_hex}
use Rattle.write_file.proofs.head.needs_endian.Goals as goal

pub returns-in_default : goal.returns-in_default
returns-in_default c =
    rw (raw_or_hex c.args.encoding c.in_default.not-Text) (ap (ltb 1) c.bytes.ensures ∙ sym (and-true (ltb 1 (sample_bytes (type_code c.args.sample_type)))))
