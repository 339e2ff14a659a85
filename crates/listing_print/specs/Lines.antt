-- Internal to the library. The lines of a reading, all but those of its keys, by its numbers.
use Rattle.std.specs.Prelude.{ℕ, List, ◌++◌, ◌==◌, take, if◌then◌else◌}
use Rattle.format.specs.declared.Reading.{Reading}
use Rattle.format.specs.Bytes.{bytes}
use Rattle.format.specs.Descriptors.{type_at, type_name, encodings, endians, no_endian}
use Rattle.format.specs.Writer.{decimal, spaced, name_at}
use Rattle.format.specs.Listing.{shown}

abbrev pub form_text : ℕ → List ℕ
form_text form = if form == 1 then bytes "detached" else bytes "attached"

abbrev pub type_text : ℕ → List ℕ
type_text t = bytes (type_name (type_at t))

abbrev pub endian_text : ℕ → List ℕ
endian_text e = if e == no_endian then bytes "none" else name_at endians e

-- version, form and type
unfoldable pub top_text : Reading → List ℕ
top_text x = shown "version" (decimal x.version) ++ (shown "form" (form_text x.form) ++ shown "type" (type_text x.sampletype))

-- sizes, encoding and endian
unfoldable pub middle_text : Reading → List ℕ
middle_text x =
    shown "sizes" (spaced (take x.dimension x.sizes))
    ++ (shown "encoding" (name_at encodings x.encoding) ++ shown "endian" (endian_text x.endian))

-- start and extent
unfoldable pub end_text : ℕ → ℕ → List ℕ
end_text start extent = shown "start" (decimal start) ++ shown "extent" (decimal extent)
