-- The numbers of encodings, endians and types, by name: from 0 as the rules list them.
use Rattle.std.specs.Prelude.{ℕ}
use Rattle.format.specs.declared.codes.Encoding.{Encoding}
use Rattle.format.specs.declared.codes.Encoding.TheVariants.{Raw, Text, Hex}
use Rattle.format.specs.declared.codes.Endian.{Endian}
use Rattle.format.specs.declared.codes.Endian.TheVariants.{Little, Big}
use Rattle.format.specs.declared.codes.SampleType.{SampleType}
use Rattle.format.specs.declared.codes.SampleType.TheVariants.{Int8, Uint8, Int16, Uint16, Int32, Uint32, Int64, Uint64, Float, Double}

abbrev pub encoding_code : Encoding → ℕ
encoding_code Raw = 0
encoding_code Text = 1
encoding_code Hex = 2

abbrev pub endian_code : Endian → ℕ
endian_code Little = 0
endian_code Big = 1

abbrev pub type_code : SampleType → ℕ
type_code Int8 = 0
type_code Uint8 = 1
type_code Int16 = 2
type_code Uint16 = 3
type_code Int32 = 4
type_code Uint32 = 5
type_code Int64 = 6
type_code Uint64 = 7
type_code Float = 8
type_code Double = 9
