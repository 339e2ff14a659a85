-- Internal to this crate. What the writer's parts store, in the words of their contracts. Each is tied to the definitions of `format` by a law of proofs/.
use Rattle.std.specs.Prelude.{ℕ, if◌then◌else◌}
use mathlib.Core.List.{List, [], ◌∷◌, ◌++◌, flat_map}
use Rattle.format.specs.Bytes.{bytes, LF, SPACE}
use Rattle.format.specs.declared.WriteAnswer.{WriteAnswer}
use Rattle.format.specs.Refusals.{refusal}
use Rattle.format.specs.Descriptors.{type_at, type_name, encodings, endians, endian_needed}
use Rattle.format.specs.Writer.{decimal, name_at}

-- a number after a space
abbrev pub after_space : ℕ → List ℕ
after_space n = SPACE ∷ decimal n

-- a line of the header: the name with its mark, the value, LF
abbrev pub value_line : List ℕ → List ℕ → List ℕ
value_line name value = name ++ (value ++ LF ∷ [])

-- the line of the endian, where it is needed
abbrev pub endian_text : ℕ → ℕ → ℕ → List ℕ
endian_text t e endian = if endian_needed t e then value_line (bytes "endian: ") (name_at endians endian) else []

-- the lines of the magic, the type and the dimension
abbrev pub top_text : ℕ → ℕ → ℕ → List ℕ
top_text version t n =
    value_line (bytes "NRRD000") (decimal version)
    ++ (value_line (bytes "type: ") (bytes (type_name (type_at t)))
    ++ value_line (bytes "dimension: ") (decimal n))

-- the lines of the sizes, the encoding and the endian, and the empty line
abbrev pub rest_text : List ℕ → ℕ → ℕ → ℕ → List ℕ
rest_text sizes t e endian =
    value_line (bytes "sizes:") (flat_map after_space sizes)
    ++ (value_line (bytes "encoding: ") (name_at encodings e)
    ++ (endian_text t e endian ++ LF ∷ []))

-- an answer: the number of the refusal, or 0, and the length of the file
abbrev pub answer_of : ℕ → ℕ → WriteAnswer
answer_of n m = record { refusal = refusal n; length = m }
