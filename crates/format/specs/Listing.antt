-- What the listing program prints (rules, "Trials", the listing program), and the call that lists a file.
use Rattle.std.specs.Prelude.{ℕ, false, List, [], ◌∷◌, ◌++◌, ◌==◌, nat_lt, length, if◌then◌else◌}
use Prim.Native.String.{String}
use Rattle.std.proofs.Math.Option.{Option, none, some}
use Rattle.format.specs.declared.Refusal.{Refusal}
use Rattle.format.specs.declared.WriteAnswer.{WriteAnswer}
use Rattle.format.specs.Bytes.{bytes, LF, SPACE, EQUALS}
use Rattle.format.specs.Limits.{max_listed}
use Rattle.format.specs.Refusals.{lent_too_short, refusal}
use Rattle.format.specs.Pairs.{escape}
use Rattle.format.specs.Fields.{Given}
use Rattle.format.specs.Descriptors.{is_detached, type_of, type_at, type_name, encodings, encoding_of, endians, endian_of, no_endian, sizes_of, extent_of}
use Rattle.format.specs.Header.{Item, pair_of, Entry, entry, Outcome, refused, accepted, header, version_of, header_length}
use Rattle.format.specs.Data.{Place, nowhere, part, place_of}
use Rattle.format.specs.Writer.{decimal, spaced, name_at}
use Rattle.format.specs.Settings.{has_key}
use Rattle.format.specs.Calls.{write_answer}

-- a line of output: a word, a space, a text
abbrev pub shown : String → List ℕ → List ℕ
shown word t = bytes word ++ SPACE ∷ (t ++ LF ∷ [])

-- a refusal by its number and line
unfoldable pub shown_refusal : Refusal → List ℕ
shown_refusal r = bytes "refused " ++ (decimal r.number ++ (bytes " line " ++ (decimal r.line ++ LF ∷ [])))

abbrev pub shown_key : List ℕ → List ℕ → List ℕ
shown_key k v = shown "key" (escape k ++ EQUALS ∷ escape v)

-- the key of a line that is the last one with that key
abbrev pub shown_pair : Option (List ℕ × List ℕ) → List Entry → List ℕ
shown_pair none later = []
shown_pair (some p) later = if has_key p.0 later then [] else shown_key p.0 p.1

abbrev pub shown_item : Item → List Entry → List ℕ
shown_item i later = shown_pair (pair_of i) later

-- each key with its value, in the order of their last lines
unfoldable pub shown_keys : List Entry → List ℕ
shown_keys [] = []
shown_keys (entry l i ∷ es) = shown_item i es ++ shown_keys es

abbrev pub shown_form : List Given → List ℕ
shown_form gs = if is_detached gs then bytes "detached" else bytes "attached"

abbrev pub shown_endian : List Given → List ℕ
shown_endian gs = if endian_of gs == no_endian then bytes "none" else name_at endians (endian_of gs)

unfoldable pub shown_reading : List Entry → List Given → ℕ → List ℕ
shown_reading es gs start =
    shown "version" (decimal (version_of es))
    ++ (shown "form" (shown_form gs)
    ++ (shown "type" (bytes (type_name (type_at (type_of gs))))
    ++ (shown "sizes" (spaced (sizes_of gs))
    ++ (shown "encoding" (name_at encodings (encoding_of gs))
    ++ (shown "endian" (shown_endian gs)
    ++ (shown "start" (decimal start)
    ++ (shown "extent" (decimal (extent_of gs))
    ++ shown_keys es)))))))

-- an attached file by the place of its data
abbrev pub shown_place : List Entry → List Given → Place → List ℕ
shown_place es gs (nowhere n) = shown_refusal (refusal n)
shown_place es gs (part s start n) = shown_reading es gs start

-- of a detached header the data is not looked at, and start is 0
abbrev pub shown_header : List ℕ → Outcome → List ℕ
shown_header file (refused r) = shown_refusal r
shown_header file (accepted es gs ls) =
    if is_detached gs then shown_reading es gs 0
    else shown_place es gs (place_of false gs (header_length es) file [])

-- the whole output for a file on standard input
unfoldable pub listing : List ℕ → List ℕ
listing file = if nat_lt max_listed (length file) then shown_refusal (refusal lent_too_short) else shown_header file (header file)

-- ---- listing_text::listing: the answer, and the lent buffer as it returns

-- 22 where the buffer is too short
abbrev pub listing_call : List ℕ → List ℕ → WriteAnswer × List ℕ
listing_call file out = write_answer (if nat_lt (length out) (length (listing file)) then lent_too_short else 0) (listing file) out
