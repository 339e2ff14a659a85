-- Internal to this crate. The parts of the header of an array.
use Rattle.std.specs.Prelude.{ℕ, List, length}
use Rattle.format.specs.Codes.{type_code, encoding_code, endian_code}
use Rattle.write_checks.specs.declared.asked.Array.{Array}
use Rattle.write_checks.specs.declared.asked.Coding.{Coding}
use Rattle.write_file.specs.Stored.{endian_text, top_text, rest_text}

abbrev pub endian_text_of : Coding → List ℕ
endian_text_of c = endian_text (type_code c.sample_type) (encoding_code c.encoding) (endian_code c.endian)

abbrev pub top_of : Array → List ℕ
top_of a = top_text a.version (type_code a.coding.sample_type) (length a.sizes.now)

abbrev pub rest_of : Array → List ℕ
rest_of a = rest_text a.sizes.now (type_code a.coding.sample_type) (encoding_code a.coding.encoding) (endian_code a.coding.endian)
