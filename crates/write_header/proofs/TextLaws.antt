-- Laws of the text: what is stored piece by piece is the header with the lines of its orientation.
-- Assumes nothing.
use mathlib.Core.Path.{◌≡◌, refl, sym, ap, ◌∙◌}
use mathlib.Core.Bool.{Bool, true, false}
use mathlib.Core.List.{List, [], ◌∷◌, ◌++◌, map, append_assoc, append-nil}
use Prim.Native.Nat.{ℕ, ◌+◌, ◌-◌, ◌≤◌}
use Prim.Native.String.{String}
use native.Mathlib.Nat.{add-zero}
use native.Mathlib.Omega.{arith}
use lib.ListN.{length, set, take, length-append}
use lib.Seq.{sets}
use Rattle.format.specs.declared.Decimal.{Decimal}
use Rattle.format.specs.declared.Shape.{Shape}
use Rattle.format.specs.Bytes.{bytes, LF}
use Rattle.format.specs.Lines.{Line, line, lf, unlines}
use Rattle.format.specs.Descriptors.{type_at, type_name, encodings}
use Rattle.format.specs.Writer.{decimal, spaced, name_at, field_line, endian_lines, header_lines, header_bytes}
use Rattle.format.specs.HeaderWriter.{space_text, origin_text, directions_text, frame_text, line_for, vector_of, direction_of, has, if_given, orientation_lines, orientation_of, oriented_bytes}
use Rattle.format.proofs.Lines.{unlines_append}
use Rattle.format.proofs.Stores.{sets_then}
use Rattle.write_parts.proofs.Runs.{set_under}
use Rattle.write_vectors.proofs.Pieces.{Put}
use Rattle.write_header.specs.Stored.{optional, lines_text}

-- ---- texts stored one after the other

pub put_none : (d : List ℕ) (at : ℕ) → Put d at [] d at
put_none d at = (sym (add-zero at), refl)

pub put_then : (d u v : List ℕ) (at : ℕ) {y x : List ℕ} {a e : ℕ} → Put d at u y a → Put y a v x e → Put d at (u ++ v) x e
put_then d u v at {y} {x} {a} {e} p q = (
  omega (arith, p.0, q.0, length-append u v),
  q.1 ∙ ap (λ (l : List ℕ). sets l a v) p.1 ∙ sets_then d u v at a p.0,
)

pub put_byte : (d : List ℕ) (at b : ℕ) → Put d at (b ∷ []) (set d at b) (at + 1)
put_byte d at b = (refl, refl)

-- ---- a line

-- where it is not given
pub line_none : (d name value : List ℕ) (at : ℕ) {given : Bool} → given ≡ false → Put d at (optional given name value) d at
line_none d name value at e = rw e (put_none d at)

-- where it is: the name, the value, LF
pub line_put : (d name value : List ℕ) (at : ℕ) {given : Bool} {y x : List ℕ} {a e : ℕ} → given ≡ true → Put d at name y a → Put y a value x e → Put d at (optional given name value) (set x e LF) (e + 1)
line_put d name value at {given} {y} {x} {a} {e} g p q = rw g (put_then d name (value ++ LF ∷ []) at p (put_then y value (LF ∷ []) a q (put_byte x e LF)))

-- ---- the lines of the orientation

-- five texts
pub five_put : (d u v w x y : List ℕ) (at : ℕ) {d₁ d₂ d₃ d₄ d₅ : List ℕ} {a b c e r : ℕ} → Put d at u d₁ a → Put d₁ a v d₂ b → Put d₂ b w d₃ c → Put d₃ c x d₄ e → Put d₄ e y d₅ r
    → Put d at (u ++ (v ++ (w ++ (x ++ y)))) d₅ r
five_put d u v w x y at {d₁} {d₂} {d₃} {d₄} {d₅} {a} {b} {c} {e} {r} p q s t z =
    put_then d u (v ++ (w ++ (x ++ y))) at p (put_then d₁ v (w ++ (x ++ y)) a q (put_then d₂ w (x ++ y) b s (put_then d₃ x y c t z)))

-- a line as the definitions have it
line_is : {A : Type 0} (name : String) (full : List ℕ) (show : A → List ℕ) (given : Bool) (a : A) → bytes name ++ bytes ": " ≡ full
    → unlines (line_for name show (if_given given a)) ≡ optional given full (show a)
unfolding unlines
line_is name full show false a e = refl
line_is name full show true a e =
    append-nil ((bytes name ++ (bytes ": " ++ show a)) ++ LF ∷ [])
    ∙ append_assoc (bytes name) (bytes ": " ++ show a) (LF ∷ [])
    ∙ sym (append_assoc (bytes name) (bytes ": ") (show a ++ LF ∷ []))
    ∙ ap (λ (s : List ℕ). s ++ (show a ++ LF ∷ [])) e

five : (a b c d e : List Line) → unlines (a ++ (b ++ (c ++ (d ++ e)))) ≡ unlines a ++ (unlines b ++ (unlines c ++ (unlines d ++ unlines e)))
five a b c d e = simp unlines_append

-- they are those that are stored
lines_are : (s : Shape) (origin : List Decimal) (directions frame : List (List Decimal)) → unlines (orientation_lines (orientation_of s origin directions frame)) ≡ lines_text s origin directions frame
unfolding orientation_lines
lines_are s origin directions frame =
    let n = s.components in
    let i = has s.given 1 in
    let size = has s.given 2 in
    let o = has s.given 4 in
    let d = has s.given 8 in
    let f = has s.given 16 in
    five (line_for "space" space_text (if_given i s.space)) (line_for "space dimension" decimal (if_given size s.spacedimension)) (line_for "space origin" origin_text (if_given o (vector_of n origin)))
    (line_for "space directions" directions_text (if_given d (map (direction_of n) (take s.axes directions)))) (line_for "measurement frame" frame_text (if_given f (map (vector_of n) (take s.columns frame))))
    ∙ rw (
      line_is "space" (bytes "space: ") space_text i s.space refl,
      line_is "space dimension" (bytes "space dimension: ") decimal size s.spacedimension refl,
      line_is "space origin" (bytes "space origin: ") origin_text o (vector_of n origin) refl,
      line_is "space directions" (bytes "space directions: ") directions_text d (map (direction_of n) (take s.axes directions)) refl,
      line_is "measurement frame" (bytes "measurement frame: ") frame_text f (map (vector_of n) (take s.columns frame)) refl,
    )

-- ---- the whole text

module _ (version : ℕ) (sizes : List ℕ) (t e endian : ℕ) where
  -- the lines before the empty one
  abbrev front_lines : List Line
  front_lines =
      line (bytes "NRRD000" ++ decimal version) lf
      ∷ field_line "type" (bytes (type_name (type_at t)))
      ∷ field_line "dimension" (decimal (length sizes))
      ∷ field_line "sizes" (spaced sizes)
      ∷ field_line "encoding" (name_at encodings e)
      ∷ endian_lines t e endian

  unfoldable pub front_bytes : List ℕ
  front_bytes = unlines front_lines

  -- the writer's header
  pub header_front : header_bytes version sizes t e endian ≡ front_bytes ++ LF ∷ []
  unfolding unlines header_lines front_bytes
  header_front = unlines_append front_lines (line [] lf ∷ [])

  pub header_long : 1 ≤ length (header_bytes version sizes t e endian)
  header_long = omega (arith, ap length header_front, length-append front_bytes (LF ∷ []))

  -- the text
  pub text_is : (s : Shape) (origin : List Decimal) (directions frame : List (List Decimal))
      → front_bytes ++ (lines_text s origin directions frame ++ LF ∷ []) ≡ oriented_bytes version sizes t e endian (orientation_of s origin directions frame)
  unfolding unlines oriented_bytes front_bytes
  text_is s origin directions frame =
      let more : List Line = orientation_lines (orientation_of s origin directions frame) in
      sym
      (unlines_append front_lines (more ++ line [] lf ∷ [])
      ∙ ap (λ (u : List ℕ). front_bytes ++ u) (unlines_append more (line [] lf ∷ []) ∙ ap (λ (u : List ℕ). u ++ LF ∷ []) (lines_are s origin directions frame)))

-- the header of n bytes, then from its last byte on more lines and another LF
pub text_put : (d front more : List ℕ) {h y x : List ℕ} {n e : ℕ} → h ≡ front ++ LF ∷ [] → n ≡ length h → y ≡ sets d 0 h → Put y (n - 1) more x e
    → Put d 0 (front ++ (more ++ LF ∷ [])) (set x e LF) (e + 1)
text_put d front more {h} {y} {x} {n} {e} q k s p =
    let w : Put y (n - 1) (more ++ LF ∷ []) (set x e LF) (e + 1) = put_then y more (LF ∷ []) (n - 1) p (put_byte x e LF) in
    let l : n - 1 ≡ 0 + length front = omega (arith, k, ap length q, length-append front (LF ∷ [])) in
    let z : y ≡ set (sets d 0 front) (n - 1) LF = s ∙ ap (sets d 0) q ∙ sym (sets_then d front (LF ∷ []) 0 (n - 1) l) in
    (omega (arith, w.0, l, length-append front (more ++ LF ∷ [])), w.1 ∙ ap (λ (r : List ℕ). sets r (n - 1) (more ++ LF ∷ [])) z ∙ set_under (sets d 0 front) (more ++ LF ∷ []) (n - 1) LF (omega (arith, length-append more (LF ∷ []))) ∙ sets_then d front (more ++ LF ∷ []) 0 (n - 1) l)
