-- Laws of the refusals: those before the text is made, and those of its reading.
-- Assumes nothing.
use Rattle.std.specs.Prelude.{if◌then◌else◌}
use mathlib.Core.Path.{◌≡◌, refl, sym, ap, ◌∙◌}
use mathlib.Core.Bool.{Bool, true, false, not, ◌&&◌, ◌||◌, and-eq-true_iff}
use mathlib.Core.List.{List, ◌++◌, map}
use mathlib.Core.Option.{Option}
use Prim.Native.Nat.{ℕ, ◌+◌, ◌≤◌, ◌<◌}
use native.Mathlib.Nat.{zero-add}
use native.Mathlib.Omega.{arith}
use lib.Dec.{eqb, leb, ltb}
use lib.ListN.{length, take, drop}
use lib.Seq.{sets, sets-eq}
use borrow.Author.Tests.{ne_eqb, lt-ltb, le-ltb, ltb-true, leb-true}
use Rattle.format.specs.declared.Decimal.{Decimal}
use Rattle.format.specs.declared.Shape.{Shape}
use Rattle.format.specs.declared.ReadAnswer.{ReadAnswer}
use Rattle.format.specs.declared.WriteAnswer.{WriteAnswer}
use Rattle.format.specs.Bytes.{over}
use Rattle.format.specs.Refusals.{not_in_version, bad_descriptor, lent_too_short, refusal}
use Rattle.format.specs.Fields.{space, space_dimension, space_origin, space_directions, measurement_frame}
use Rattle.format.specs.Header.{Outcome, refused, accepted, header}
use Rattle.format.specs.Spaces.{space_count}
use Rattle.format.specs.Vectors.{Direction}
use Rattle.format.specs.Calls.{read_answer, read_header_call}
use Rattle.format.specs.Writer.{writable}
use Rattle.format.specs.HeaderWriter.{orientation, vector_of, direction_of, has, if_given, orientation_of, oriented_bytes, shape_fine, space_listed, since_for, in_version, header_refused, after_reading, write_header, write_header_call}
use Rattle.format.proofs.Numbered.{NumberedOutcome, header_numbered}
use Rattle.write_file.specs.Stored.{answer_of}
use Rattle.write_checks.specs.declared.asked.Asked.{Asked}
use Rattle.write_checks.specs.Checked.{on_asked, IsOf}
use Rattle.write_checks.proofs.Refuse.{on_same}
use Rattle.write_header.specs.declared.checks.Given.{Given}
use Rattle.write_header.specs.declared.checks.Header.{Header}
use Rattle.write_header.specs.Headers.{text_of}
use Rattle.write_header.specs.Stored.{space_fine, field_fine, version_fine, asked_refusal, Shaped}

-- ---- the tests

pub shaped_known : (s : Shape) → (shape_fine s && space_fine s) ≡ true → Shaped s
shaped_known s e =
    let p = (and-eq-true_iff (shape_fine s) (space_fine s)).0 e in
    let q = (and-eq-true_iff (ltb s.given 32) (leb s.components 8 && (leb s.axes 16 && leb s.columns 8))).0 p.0 in
    let r = (and-eq-true_iff (leb s.components 8) (leb s.axes 16 && leb s.columns 8)).0 q.1 in
    let u = (and-eq-true_iff (leb s.axes 16) (leb s.columns 8)).0 r.1 in
    record {
      components_to = leb-true s.components 8 r.0;
      axes_to = leb-true s.axes 16 u.0;
      columns_to = leb-true s.columns 8 u.1;
      space_in = λ h. ltb-true s.space 12 (go (has s.given 1) h p.1);
    }
  where
    go : (g : Bool) → g ≡ true → (not g || ltb s.space 12) ≡ true → ltb s.space 12 ≡ true
    go g h k = rw h at k

listed_is : (g : Bool) (i : ℕ) (size : Option ℕ) (o : Option (List Decimal)) (d : Option (List Direction)) (f : Option (List (List Decimal)))
    → space_listed (orientation (if_given g i) size o d f) ≡ (not g || ltb i space_count)
listed_is false i size o d f = refl
listed_is true i size o d f = refl

since_is : {A : Type 0} (version f : ℕ) (g : Bool) (a : A) → since_for version f (if_given g a) ≡ field_fine version g f
since_is version f false a = refl
since_is version f true a = refl

module _ (version : ℕ) (s : Shape) (origin : List Decimal) (directions frame : List (List Decimal)) where
  in_version_is : in_version version (orientation_of s origin directions frame) ≡ version_fine version s.given
  unfolding in_version
  in_version_is =
      rw (
        since_is version space (has s.given 1) s.space,
        since_is version space_dimension (has s.given 2) s.spacedimension,
        since_is version space_origin (has s.given 4) (vector_of s.components origin),
        since_is version space_directions (has s.given 8) (map (direction_of s.components) (take s.axes directions)),
        since_is version measurement_frame (has s.given 16) (map (vector_of s.components) (take s.columns frame)),
      )

  listed : space_listed (orientation_of s origin directions frame) ≡ space_fine s
  listed =
      listed_is (has s.given 1) s.space (if_given (has s.given 2) s.spacedimension) (if_given (has s.given 4) (vector_of s.components origin))
      (if_given (has s.given 8) (map (direction_of s.components) (take s.axes directions))) (if_given (has s.given 16) (map (vector_of s.components) (take s.columns frame)))

  -- ---- the call by its refusals

  module _ (sizes : List ℕ) (t e endian : ℕ) (out : List ℕ) where
    abbrev text : List ℕ
    text = oriented_bytes version sizes t e endian (orientation_of s origin directions frame)

    abbrev after : WriteAnswer × List ℕ
    after = after_reading (header text) text out

    parts : write_header_call version sizes t e endian s origin directions frame out
        ≡ (if eqb (asked_refusal version sizes t e endian s) 0 then after else header_refused (refusal (asked_refusal version sizes t e endian s)) out)
    unfolding write_header asked_refusal
    parts = rw (listed, in_version_is) (go (not (writable version sizes t e endian && (shape_fine s && space_fine s))) (not (version_fine version s.given)) after)
      where
        go : (a b : Bool) (x : WriteAnswer × List ℕ) → (if a then header_refused (refusal bad_descriptor) out else if b then header_refused (refusal not_in_version) out else x)
            ≡ (if eqb (if a then bad_descriptor else if b then not_in_version else 0) 0 then x else header_refused (refusal (if a then bad_descriptor else if b then not_in_version else 0)) out)
        go true b x = refl
        go false true x = refl
        go false false x = refl

    module _ (k : ℕ) (ek : k ≡ asked_refusal version sizes t e endian s) where
      pub asked_refused : (k ≡ 0 → ⊥) → (answer_of k 0, out) ≡ write_header_call version sizes t e endian s origin directions frame out
      asked_refused h = sym (parts ∙ rw (sym ek, ne_eqb k 0 h))

      pub asked_fine : k ≡ 0 → after ≡ write_header_call version sizes t e endian s origin directions frame out
      asked_fine h = sym (parts ∙ rw (sym ek, h))

-- the fields one by one
pub fields_fine : (version given : ℕ) {a b c d f : Bool} → a ≡ field_fine version (has given 1) space → b ≡ field_fine version (has given 2) space_dimension
    → c ≡ field_fine version (has given 4) space_origin → d ≡ field_fine version (has given 8) space_directions → f ≡ field_fine version (has given 16) measurement_frame
    → (a && (b && (c && (d && f)))) ≡ version_fine version given
fields_fine version given p q r s t = rw (p, q, r, s, t)

-- the three tests in the order of the code
module _ (version : ℕ) (sizes : List ℕ) (t e endian : ℕ) (s : Shape) {a : Bool} (ea : a ≡ writable version sizes t e endian) where
  pub asked_writable : a ≡ false → bad_descriptor ≡ asked_refusal version sizes t e endian s
  unfolding asked_refusal
  asked_writable h = rw (sym ea, h)

  module _ {b : Bool} (eb : b ≡ (shape_fine s && space_fine s)) (ha : a ≡ true) where
    pub asked_shaped : b ≡ false → bad_descriptor ≡ asked_refusal version sizes t e endian s
    unfolding asked_refusal
    asked_shaped h = rw (sym ea, ha, sym eb, h)

    module _ {c : Bool} (ec : c ≡ version_fine version s.given) (hb : b ≡ true) where
      pub asked_version : c ≡ false → not_in_version ≡ asked_refusal version sizes t e endian s
      unfolding asked_refusal
      asked_version h = rw (sym ea, ha, sym eb, hb, sym ec, h)

      pub asked_none : c ≡ true → 0 ≡ asked_refusal version sizes t e endian s
      unfolding asked_refusal
      asked_none h = rw (sym ea, ha, sym eb, hb, sym ec, h)

-- the text of a header that is asked for
pub text_same : (asked : Asked) (h : Header) (g : Given) → IsOf asked h.array → h.given.now ≡ g → text_of h ≡ on_asked oriented_bytes asked (orientation_of g.shape g.origin g.directions g.frame)
text_same asked h g same e =
    ap (λ f. f (orientation_of h.given.now.shape h.given.now.origin h.given.now.directions h.given.now.frame)) (on_same oriented_bytes asked h.array same)
    ∙ ap (λ (x : Given). on_asked oriented_bytes asked (orientation_of x.shape x.origin x.directions x.frame)) e

-- ---- what the reading says

module _ (text out : List ℕ) (a : ReadAnswer) (is : a ≡ read_header_call text) where
  module _ (fine : a.refusal.number ≡ 0) where
    taken : after_reading (header text) text out ≡ (if ltb (length out) (length text) then header_refused (refusal lent_too_short) out else (answer_of 0 (length text), over text out))
    taken = go (header text) is (header_numbered text)
      where
        go : (o : Outcome) → a ≡ read_answer o → NumberedOutcome o
            → after_reading o text out ≡ (if ltb (length out) (length text) then header_refused (refusal lent_too_short) out else (answer_of 0 (length text), over text out))
        go (refused r) q n = absurd (let f : ⊥ = omega (arith, ap (λ (x : ReadAnswer). x.refusal.number) q) in f)
        go (accepted es gs ls) q n = refl

    pub read_short : length out < length text → (answer_of lent_too_short 0, out) ≡ after_reading (header text) text out
    read_short h = sym (taken ∙ rw (lt-ltb (length out) (length text) h))

    pub read_stored : length text ≤ length out → {d : List ℕ} {n : ℕ} → d ≡ sets out 0 text → n ≡ length text → (answer_of 0 n, d) ≡ after_reading (header text) text out
    read_stored h {d} {n} q l =
        let k : 0 + length text ≤ length out = omega arith in
        let p : d ≡ over text out = q ∙ sets-eq text out 0 k ∙ ap (λ (j : ℕ). text ++ drop j out) (zero-add (length text)) in
        rw (p, l) (sym (taken ∙ rw (le-ltb (length out) (length text) h)))
