-- What the listing program prints for S (rules, "Trials"), and for files that show its order of keys, its escapes and its refusals.
-- `ListingTrials` is the statement; proofs/ computes it.
use Rattle.std.specs.Prelude.{List, [], ◌∷◌, ◌++◌, ℕ}
use Prim.Native.String.{String}
use Rattle.format.specs.Bytes.{bytes, LF}
use Rattle.format.specs.Listing.{listing}
use Rattle.format.specs.Trials.{Trial, trial, Hold, texts, file_s, short_s}

-- what is printed for these bytes, beside what should be
abbrev pub prints : List ℕ → List String → Trial
prints file should = trial (List ℕ) (listing file) (texts should)

-- one int8 sample as text, in a header with these lines before the closing one
abbrev pub listed : List String → List ℕ
listed more =
    texts ("NRRD0002" ∷ "type: int8" ∷ "dimension: 1" ∷ "sizes: 1" ∷ "encoding: ascii" ∷ []) ++ (texts more ++ LF ∷ bytes "5")

-- what is printed for it, with this line for the data's start, and these for its keys
abbrev pub keys_listed : String → List String → List String
keys_listed start keys =
    "version 2"
    ∷ "form attached"
    ∷ "type int8"
    ∷ "sizes 1"
    ∷ "encoding txt"
    ∷ "endian none"
    ∷ start
    ∷ "extent 1"
    ∷ keys

abbrev pub listing_trials : List Trial
listing_trials =
    prints file_s
    ("version 4"
    ∷ "form attached"
    ∷ "type uint16"
    ∷ "sizes 2 2"
    ∷ "encoding raw"
    ∷ "endian little"
    ∷ "start 114"
    ∷ "extent 8"
    ∷ "key utc offset=37"
    ∷ [])
    -- `a` stands first and last: its last line comes after that of `b`
    ∷ prints (listed ("a:=1" ∷ "b:=2" ∷ "a:=3" ∷ [])) (keys_listed "start 74" ("key b=2" ∷ "key a=3" ∷ []))
    -- keys and values stand escaped
    ∷ prints (listed ("a\\nb:=c\\\\=" ∷ "d:=" ∷ [])) (keys_listed "start 74" ("key a\\nb=c\\\\=" ∷ "key d=" ∷ []))
    -- refusals of the header and of the data's place; those of samples do not count
    ∷ prints [] ("refused 2 line 1" ∷ [])
    ∷ prints short_s ("refused 18 line 0" ∷ [])
    ∷ prints (listed [] ++ bytes "x") (keys_listed "start 59" [])
    -- a detached header: its data is not looked at
    ∷ prints (texts ("NRRD0001" ∷ "data file: d" ∷ "type: uint8" ∷ "dimension: 2" ∷ "sizes: 3 1" ∷ "encoding: hex" ∷ []))
    ("version 1" ∷ "form detached" ∷ "type uint8" ∷ "sizes 3 1" ∷ "encoding hex" ∷ "endian none" ∷ "start 0" ∷ "extent 3" ∷ [])
    ∷ []

abbrev pub ListingTrials : Type 0
ListingTrials = Hold listing_trials
