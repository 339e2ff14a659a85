-- Laws of the sample calls: the order of the bytes, and the place of the samples.
use Rattle.std.specs.Prelude.{if◌then◌else◌}
use Prim.Native.Nat.{ℕ, zero, suc, ◌+◌, ◌*◌, ◌^◌, ◌-◌, ◌/◌, ◌≤◌, ◌<◌}
use native.Mathlib.Nat.{le_refl, mul-div_cancel}
use native.Mathlib.Omega.{arith}
use mathlib.Core.Path.{◌≡◌, refl, sym, ap, ◌∙◌, subst}
use mathlib.Core.Bool.{Bool, true, false, ◌&&◌}
use mathlib.Core.List.{List, reverse}
use mathlib.Core.Option.{Option, none, some}
use lib.Dec.{eqb, ltb, leb}
use lib.ListN.{length, take, drop, length-drop}
use lib.Seq.{length-take-le}
use borrow.Author.Tests.{eqb-false, ne_eqb}
use Rattle.std.specs.Prelude.{Result, Ok, Err, MatchResult}
use Rattle.std.specs.Result.{result_unwrap_or}
use Rattle.format.specs.declared.codes.NotListed.{NotListed}
use Rattle.data_samples.specs.declared.data.Data.{Data}
use Rattle.theorem_room.proofs.SamplesSeen.{samples_seen}
use Rattle.std.proofs.Common.{◌⊎◌, inl, inr}
use Rattle.format.specs.declared.Reading.{Reading}
use Rattle.format.specs.declared.ReadAnswer.{ReadAnswer}
use Rattle.format.specs.declared.codes.Encoding.{Encoding}
use Rattle.format.specs.declared.codes.Encoding.TheVariants.{Raw, Text, Hex}
use Rattle.format.specs.Codes.{encoding_code}
use Rattle.format.specs.Answers.{reading_answered}
use Rattle.format.specs.Limits.{max_file}
use Rattle.format.specs.Refusals.{file_too_long, several_files, place_too_large, data_too_short, float_samples, lent_too_short, refusal}
use Rattle.format.specs.Fields.{Given}
use Rattle.format.specs.Descriptors.{NumberKind, number_kind, is_floating, is_signed, sample_bytes, type_of, encoding_of, extent_of, is_detached, raw, as_text, big, file_count_of}
use Rattle.format_values.proofs.TypeLaws.{type_bytes, kind_by_lem}
use Rattle.format.specs.Header.{Entry, Outcome, refused, accepted, header, header_length}
use Rattle.format.specs.Data.{after_skips, Place, nowhere, part, place_from, place_of, part_of}
use Rattle.format.specs.Samples.{Decoded, sample_value, ordered, raw_samples, text_samples, HexRun, no_hex, hex_run, hex_bytes, hex_sample, hex_samples, without_blanks, samples_of}
use Rattle.format.specs.Calls.{reading_of, read_answer, read_header_call, no_samples, count_of, decoded, answer_decoded, check_in, check_samples_call, seen_in}
use Rattle.format.proofs.Numbered.{NumberedOutcome, header_numbered}
use Rattle.lent_numbers.specs.Widths.{kind_by, endian_by}
use Rattle.data_place.specs.Places.{IsReading}
use Rattle.data_samples.specs.Parts.{decoded_by, decoded_of, Decodable, Found}
use Rattle.data_place.proofs.Located.{place_lies}

-- ---- the order of a sample's bytes: only big turns it round

ordered_by : (e : ℕ) (s : List ℕ) → ordered (endian_by (eqb e big)) s ≡ ordered e s
ordered_by e s = go (eqb e big)
  where
    go : (b : Bool) → ordered (endian_by b) s ≡ (if b then reverse s else s)
    go true = refl
    go false = refl

module _ (k : NumberKind) (e : ℕ) where
  sample_by : (s : List ℕ) → sample_value k (endian_by (eqb e big)) s ≡ sample_value k e s
  unfolding sample_value
  sample_by s = rw ordered_by

  module _ (w : ℕ) where
    raw_by : (n : ℕ) (s : List ℕ) → raw_samples k w (endian_by (eqb e big)) n s ≡ raw_samples k w e n s
    unfolding raw_samples
    raw_by zero s = refl
    raw_by (suc n) s = rw (sample_by (take w s), raw_by n (drop w s))

    hex_by : (n : ℕ) (s : List ℕ) → hex_samples k w (endian_by (eqb e big)) n s ≡ hex_samples k w e n s
    unfolding hex_samples
    hex_by zero s = refl
    hex_by (suc n) s = go (hex_bytes w s) (hex_by n)
      where
        go : (x : HexRun) → ((r : List ℕ) → hex_samples k w (endian_by (eqb e big)) n r ≡ hex_samples k w e n r)
            → hex_sample k w (endian_by (eqb e big)) x (λ r. hex_samples k w (endian_by (eqb e big)) n r)
            ≡ hex_sample k w e x (λ r. hex_samples k w e n r)
        go (no_hex m) f = refl
        go (hex_run v r) f = rw (sample_by v, f r)

-- ---- the samples of bytes, by the code of their encoding

module _ (k : NumberKind) (w e n : ℕ) (s : List ℕ) where
  samples_by : (c : ℕ) → samples_of c k w (endian_by (eqb e big)) n s ≡ samples_of c k w e n s
  unfolding samples_of
  samples_by c = go (eqb c raw) (eqb c as_text)
    where
      go : (x y : Bool)
          → (if x then raw_samples k w (endian_by (eqb e big)) n s else if y then text_samples k w n s else hex_samples k w (endian_by (eqb e big)) n (without_blanks s))
          ≡ (if x then raw_samples k w e n s else if y then text_samples k w n s else hex_samples k w e n (without_blanks s))
      go true y = raw_by k e w n s
      go false true = refl
      go false false = hex_by k e w n (without_blanks s)

  -- by an encoding for the code: what is no code is hex
  coded : (x : Encoding) (c : ℕ) → (encoding_code x ≡ c) ⊎ ((3 ≤ c) × (x ≡ Hex)) → samples_of (encoding_code x) k w (endian_by (eqb e big)) n s ≡ samples_of c k w e n s
  unfolding samples_of
  coded x c (inl q) = rw (← q) (samples_by (encoding_code x))
  coded x c (inr q) = rw (q.1, ne_eqb c raw (λ z. omega (arith, z, q.0)), ne_eqb c as_text (λ z. omega (arith, z, q.0))) (hex_by k e w n (without_blanks s))

-- raw is the code 0 alone
pub raw_coded : (x : Encoding) (c : ℕ) → (encoding_code x ≡ c) ⊎ ((3 ≤ c) × (x ≡ Hex)) → x ≡ Raw → c ≡ raw
raw_coded Raw c (inl q) r = sym q
raw_coded Raw c (inr q) r = absurd (let z : 0 ≡ 2 = ap encoding_code q.1 in omega (arith, z))
raw_coded Text c q r = absurd (let z : 1 ≡ 0 = ap encoding_code r in omega (arith, z))
raw_coded Hex c q r = absurd (let z : 2 ≡ 0 = ap encoding_code r in omega (arith, z))

pub data_decoded : (x : Reading) (n : ℕ) (s : List ℕ) (c : Encoding) → Decodable x n s → (encoding_code c ≡ x.encoding) ⊎ ((3 ≤ x.encoding) × (c ≡ Hex))
    → samples_of (encoding_code c) (kind_by (is_signed (number_kind x.sampletype))) (sample_bytes x.sampletype) (endian_by (eqb x.endian big)) n s ≡ decoded_by x n s
data_decoded x n s c h q =
    rw (kind_by_lem (number_kind x.sampletype) h.integer) (coded (number_kind x.sampletype) (sample_bytes x.sampletype) x.endian n s c x.encoding q)

-- ---- the place of samples: its type is an integer, and raw data has the extent

abbrev Sound : List Given → Place → Type 0
Sound gs (nowhere n) = 0 < n
Sound gs (part s start n) = (is_floating (number_kind (type_of gs)) ≡ false) × (encoding_of gs ≡ raw → n ≡ extent_of gs)

from_sound : (gs : List Given) (s : Bool) (whole : ℕ) (o : Option (List ℕ)) → is_floating (number_kind (type_of gs)) ≡ false
    → Sound gs (place_from gs s whole o)
from_sound gs s whole none i = omega arith
from_sound gs s whole (some left) i =
    go (leb (2 ^ 64) (whole - length left + extent_of gs)) (eqb (encoding_of gs) raw) (ltb (length left) (extent_of gs)) refl
  where
    go : (a b c : Bool) → eqb (encoding_of gs) raw ≡ b
        → Sound gs
        (if a then nowhere place_too_large else if b && c then nowhere data_too_short
        else part s (whole - length left) (if b then extent_of gs else length left))
    go true b c e = omega arith
    go false true true e = omega arith
    go false true false e = (i, λ q. refl)
    go false false c e = (i, λ q. absurd (eqb-false (encoding_of gs) raw e q))

place_sound : (gs : List Given) (h : ℕ) (file second : List ℕ) → Sound gs (place_of true gs h file second)
unfolding place_of
place_sound gs h file second =
    go (ltb 1 (file_count_of gs)) (is_detached gs) (ltb max_file (length second)) (is_floating (number_kind (type_of gs))) refl
  where
    go : (m a b c : Bool) → is_floating (number_kind (type_of gs)) ≡ c
        → Sound gs
        (if m then nowhere several_files else if a && b then nowhere file_too_long else if c then nowhere float_samples
        else if a then place_from gs true (length second) (after_skips gs second) else place_from gs false (length file) (after_skips gs (drop h file)))
    go true a b c e = omega arith
    go false true true c e = omega arith
    go false true false true e = omega arith
    go false true false false e = from_sound gs true (length second) (after_skips gs second) e
    go false false b true e = omega arith
    go false false b false e = from_sound gs false (length file) (after_skips gs (drop h file)) e

part_long : (s : List ℕ) (a b : ℕ) → a + b ≤ length s → length (take b (drop a s)) ≡ b
part_long s a b h = length-take-le b (drop a s) (omega (arith, length-drop a s))

-- ---- the calls

module _ (file second : List ℕ) where
  -- a reading of the file, and where its samples lie
  pub record Placed (x : Reading) (p : Place) : Type 0 where
    pub entries : List Entry
    pub fields : List Given
    pub reading : IsReading file x entries fields
    pub place : p ≡ place_of true fields (header_length entries) file second

  pub samples_placed : (x : Reading) → reading_answered (Ok x) ≡ read_header_call file → (p : Place)
      → ((es : List Entry) (gs : List Given) → IsReading file x es gs → p ≡ place_of true gs (header_length es) file second) → Placed x p
  samples_placed x e p f = go (header file) refl e (header_numbered file)
    where
      go : (o : Outcome) → header file ≡ o → reading_answered (Ok x) ≡ read_answer o → NumberedOutcome o → Placed x p
      go (refused r) h q n = absurd (let g : ⊥ = omega (arith, ap (λ (y : ReadAnswer). y.refusal.number) q) in g)
      go (accepted es gs ls) h q n =
          let i : IsReading file x es gs = record { rest = ls; header_is = h; is = ap (λ (y : ReadAnswer). y.reading) q } in
          record { entries = es; fields = gs; reading = i; place = f es gs i }

  -- the place is refused
  pub place_refused : {x : Reading} {n : ℕ} → Placed x (nowhere n) → (room : ℕ) → no_samples (refusal n) ≡ check_samples_call file second room
  place_refused p room = rw (p.reading.header_is, ← p.place)

  -- what the call answers where it is not
  pub record Ready (x : Reading) (s : Bool) (a b n : ℕ) : Type 0 where
    pub within : a + b ≤ length (if s then second else file)
    pub decodable : Decodable x n (take b (drop a (if s then second else file)))
    pub call : (room : ℕ)
        → check_samples_call file second room
        ≡ (if ltb room n then no_samples (refusal lent_too_short) else answer_decoded n (decoded_by x n (take b (drop a (if s then second else file)))))
    pub seen : seen_in file second (header file) ≡ (decoded_by x n (take b (drop a (if s then second else file)))).seen

  module _ {x : Reading} {es : List Entry} {gs : List Given} (i : IsReading file x es gs) where
    type_is : x.sampletype ≡ type_of gs
    unfolding reading_of
    type_is = ap (λ (r : Reading). r.sampletype) i.is

    encoding_is : x.encoding ≡ encoding_of gs
    unfolding reading_of
    encoding_is = ap (λ (r : Reading). r.encoding) i.is

    extent_is : x.extent ≡ count_of gs * sample_bytes x.sampletype
    unfolding reading_of
    extent_is = ap (λ (r : Reading). r.extent) i.is ∙ ap (λ (t : ℕ). count_of gs * sample_bytes t) (sym type_is)

    decoded_by_lem : (s : List ℕ) → decoded gs s ≡ decoded_by x (count_of gs) s
    unfolding reading_of
    decoded_by_lem s = sym (ap (λ (r : Reading). decoded_by r (count_of gs) s) i.is)

    ready_at : (s : Bool) (a b : ℕ) → place_of true gs (header_length es) file second ≡ part s a b → Sound gs (part s a b) → Ready x s a b (count_of gs)
    ready_at s a b l k =
        let w = rw l at (place_lies file second true gs (header_length es)) in
        let t = part_long (if s then second else file) a b w in
        record {
          within = w;
          decodable = record {
            integer = rw type_is k.0;
            enough = λ q. let m = k.1 (sym encoding_is ∙ q) in rw (t, m, type_is) (le_refl (extent_of gs));
          };
          call = λ room. rw (i.header_is, l, ← decoded_by_lem);
          seen =
              ap (λ (o : Outcome). seen_in file second o) i.header_is
              ∙ ap (λ (q : Place). (decoded gs (part_of q file second)).seen) l
              ∙ rw (← decoded_by_lem);
        }

  -- the extent is for so many samples
  pub place_ready : {x : Reading} {s : Bool} {a b : ℕ} → Placed x (part s a b) → Ready x s a b (x.extent / sample_bytes x.sampletype)
  place_ready {x} {s} {a} {b} p =
      let m = count_of p.fields in
      let q : x.extent / sample_bytes x.sampletype ≡ m = rw (extent_is p.reading) (mul-div_cancel m (type_bytes x.sampletype)) in
      let k = subst (Sound p.fields) (sym p.place) (place_sound p.fields (header_length p.entries) file second) in
      rw q (ready_at p.reading s a b (sym p.place) k)

-- ---- the samples of data, by its encoding

module _ (d : Data) where
  pub of_raw : d.encoding ≡ Raw → raw_samples (kind_by d.signed) d.width (endian_by d.big) d.count d.bytes.now ≡ decoded_of d
  unfolding samples_of
  of_raw e = rw e refl

  pub of_text : d.encoding ≡ Text → text_samples (kind_by d.signed) d.width d.count d.bytes.now ≡ decoded_of d
  unfolding samples_of
  of_text e = rw e refl

  pub of_hex : d.encoding ≡ Hex → hex_samples (kind_by d.signed) d.width (endian_by d.big) d.count (without_blanks d.bytes.now) ≡ decoded_of d
  unfolding samples_of
  of_hex e = rw e refl

  -- where none is refused there are as many as are wanted
  pub as_many : (decoded_of d).number ≡ 0 → length (decoded_of d).seen ≡ d.count
  as_many = (samples_seen (kind_by d.signed) d.width (endian_by d.big) (encoding_code d.encoding) d.count d.bytes.now).1

-- d is the data that the call looks for
pub found : (file second : List ℕ) {x : Reading} {t : Bool} {a b n : ℕ} (d : Data) → d.count ≡ n → decoded_of d ≡ decoded_by x n (take b (drop a (if t then second else file)))
    → Ready file second x t a b n → Found file second d
found file second {n = n} d p q r = record {
  call = λ room. r.call room ∙ ap (λ (y : Decoded). if ltb room n then no_samples (refusal lent_too_short) else answer_decoded n y) (sym q)
      ∙ ap (λ (m : ℕ). if ltb room m then no_samples (refusal lent_too_short) else answer_decoded m (decoded_of d)) (sym p);
  seen = r.seen ∙ ap (λ (y : Decoded). y.seen) (sym q);
}

-- the encoding for a code: hex for what is no code
pub code_of : (r : Result Encoding NotListed) (c : ℕ) → MatchResult r (λ e. encoding_code e ≡ c) (λ _. 3 ≤ c)
    → (encoding_code (result_unwrap_or r Hex) ≡ c) ⊎ ((3 ≤ c) × (result_unwrap_or r Hex ≡ Hex))
code_of (Ok e) c h = inl h
code_of (Err e) c h = inr (h, refl)
