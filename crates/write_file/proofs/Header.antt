-- Laws of the header: the lines that are stored one after the other are the header of the definitions.
-- Assumes nothing.
use Rattle.std.specs.Prelude.{if◌then◌else◌}
use mathlib.Core.Path.{◌≡◌, refl, sym, ap, ◌∙◌}
use mathlib.Core.Bool.{Bool, true, false, ◌||◌}
use mathlib.Core.List.{List, [], ◌∷◌, ◌++◌, append_assoc, append-nil, flat_map}
use Prim.Native.Nat.{ℕ, zero, suc, ◌+◌, ◌*◌, ◌-◌, ◌≤◌, ◌<◌}
use native.Mathlib.Omega.{arith}
use lib.Dec.{eqb}
use lib.ListN.{length, set, take, drop, length-append}
use lib.Seq.{sets}
use Rattle.format.specs.Bytes.{bytes, LF, SPACE}
use Rattle.format.specs.Codes.{encoding_code}
use Rattle.format.specs.declared.codes.Encoding.{Encoding}
use Rattle.format.specs.declared.codes.Encoding.TheVariants.{Raw, Text, Hex}
use Rattle.format.specs.Descriptors.{type_at, type_name, encodings, endians, endian_needed, raw, hex}
use Rattle.format.specs.Lines.{line, lf, unlines}
use Rattle.format.specs.Writer.{decimal, spaced, name_at, field_line, endian_lines, header_lines, header_bytes}
use Rattle.write_file.specs.Stored.{value_line, after_space, endian_text, top_text, rest_text}
use Rattle.format.proofs.Stores.{sets_then}

-- ---- a line

pub value_length : (name value : List ℕ) → length (value_line name value) ≡ length name + length value + 1
value_length name value = simp length-append (omega arith)

pub value_stored : (d name value : List ℕ) (at a e : ℕ) → a ≡ at + length name → e ≡ a + length value
    → set (sets (sets d at name) a value) e LF ≡ sets d at (value_line name value)
value_stored d name value at a e p q =
    let l : e ≡ at + length (name ++ value) = simp length-append (omega arith) in
    ap (λ (r : List ℕ). set r e LF) (sets_then d name value at a p)
    ∙ sets_then d (name ++ value) (LF ∷ []) at e l
    ∙ ap (sets d at) (append_assoc name value (LF ∷ []))

-- ---- sizes

-- numbers parted by one space, after a space
pub space_each : (n : ℕ) (ns : List ℕ) → flat_map after_space (n ∷ ns) ≡ SPACE ∷ spaced (n ∷ ns)
unfolding flat_map spaced
space_each n [] = ap (λ (r : List ℕ). SPACE ∷ r) (append-nil (decimal n))
space_each n (m ∷ ns) = ap (λ (r : List ℕ). SPACE ∷ (decimal n ++ r)) (space_each m ns)

-- ---- encodings

-- every encoding but text is raw or hex
pub raw_or_hex : (e : Encoding) → (e ≡ Text → ⊥) → (eqb (encoding_code e) raw || eqb (encoding_code e) hex) ≡ true
raw_or_hex Raw n = refl
raw_or_hex Text n = absurd (n refl)
raw_or_hex Hex n = refl

-- ---- the header

module _ (d u v x : List ℕ) (at a b : ℕ) (p : a ≡ at + length u) (q : b ≡ a + length v) where
  -- three lines
  pub three_stored : sets (sets (sets d at u) a v) b x ≡ sets d at (u ++ (v ++ x))
  three_stored =
      let l : b ≡ at + length (u ++ v) = simp length-append (omega arith) in
      ap (λ (r : List ℕ). sets r b x) (sets_then d u v at a p)
      ∙ sets_then d (u ++ v) x at b l
      ∙ ap (sets d at) (append_assoc u v x)

  pub three_length : length (u ++ (v ++ x)) ≡ length u + (length v + length x)
  three_length = simp length-append

  -- three lines and an empty one
  pub four_stored : (e : ℕ) → e ≡ b + length x → set (sets (sets (sets d at u) a v) b x) e LF ≡ sets d at (u ++ (v ++ (x ++ LF ∷ [])))
  four_stored e r =
      let l : e ≡ at + length (u ++ (v ++ x)) = simp length-append (omega arith) in
      ap (λ (s : List ℕ). set s e LF) three_stored
      ∙ sets_then d (u ++ (v ++ x)) (LF ∷ []) at e l
      ∙ ap (sets d at) (append_assoc u (v ++ x) (LF ∷ []) ∙ ap (λ (s : List ℕ). u ++ s) (append_assoc v x (LF ∷ [])))

  pub four_length : length (u ++ (v ++ (x ++ LF ∷ []))) ≡ length u + (length v + (length x + 1))
  four_length = simp length-append

-- the line of the endian, and the empty line
endian_is : (t e endian : ℕ) → unlines (endian_lines t e endian ++ line [] lf ∷ []) ≡ endian_text t e endian ++ LF ∷ []
unfolding unlines
endian_is t e endian = go (endian_needed t e)
  where
    go : (b : Bool) → unlines ((if b then field_line "endian" (name_at endians endian) ∷ [] else []) ++ line [] lf ∷ []) ≡ (if b then value_line (bytes "endian: ") (name_at endians endian) else []) ++ LF ∷ []
    go true = refl
    go false = refl

regroup : (a b c d e x : List ℕ) → (a ++ (b ++ c)) ++ (d ++ (e ++ x)) ≡ a ++ (b ++ (c ++ (d ++ (e ++ x))))
regroup a b c d e x = simp append_assoc

-- the two halves are the header
pub header_is : (version : ℕ) (sizes : List ℕ) (t e endian : ℕ) → 1 ≤ length sizes
    → top_text version t (length sizes) ++ rest_text sizes t e endian ≡ header_bytes version sizes t e endian
unfolding unlines header_lines
header_is version [] t e endian h = absurd (omega arith)
header_is version (n ∷ ns) t e endian h =
    let top : List ℕ = top_text version t (length (n ∷ ns)) in
    let coded : List ℕ = value_line (bytes "encoding: ") (name_at encodings e) in
    let sized : List ℕ = value_line (bytes "sizes:") (SPACE ∷ spaced (n ∷ ns)) in
    ap (λ (s : List ℕ). top ++ (value_line (bytes "sizes:") s ++ (coded ++ (endian_text t e endian ++ LF ∷ [])))) (space_each n ns)
    ∙ ap (λ (s : List ℕ). top ++ (sized ++ (coded ++ s))) (sym (endian_is t e endian))
    ∙ regroup (value_line (bytes "NRRD000") (decimal version)) (value_line (bytes "type: ") (bytes (type_name (type_at t)))) (value_line (bytes "dimension: ") (decimal (length (n ∷ ns)))) sized coded (unlines (endian_lines t e endian ++ line [] lf ∷ []))
