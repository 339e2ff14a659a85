-- Laws of the lines ahead: the loop over them, and the text of one.
-- Assumes nothing.
use Prim.Native.Nat.{ℕ, suc, ◌+◌, ◌-◌, ◌≤◌, ◌<◌}
use native.Mathlib.Omega.{arith}
use mathlib.Core.Path.{◌≡◌, sym, ap, ◌∙◌}
use mathlib.Core.List.{List, [], ◌∷◌, ◌++◌}
use lib.ListN.{length, take, drop, get_or, length-append, length-drop, length-map, get_or-append}
use Rattle.format.specs.Limits.{max_header}
use Rattle.format.specs.Lines.{Line, line, eof, text, size, lines, unlines}
use Rattle.format.specs.Fields.{Given}
use Rattle.format.specs.Header.{Entry, lines_of, accepted, header}
use Rattle.format.proofs.Lines.{length_lines_le, length_unlines_cons}
use Rattle.format.proofs.Header.{header_sound}
use Rattle.read_lines.specs.Spans.{LineAt, PastAt}
use Rattle.data_files.specs.Asked.{line_text, Ahead}

module _ {file : List ℕ} {at count : ℕ} {t : List ℕ} (w : Ahead file at count t) where
  pub ahead_starts : at < length file
  ahead_starts =
      omega (arith, w.many, length_lines_le (drop at file), ap length w.split, length-append w.first w.after, length-drop at file)

  pub ahead_short : at ≤ max_header
  ahead_short = omega (arith, w.short)

  pub ahead_not_past : PastAt file at → ⊥
  ahead_not_past x = go w.first w.split w.short w.many
    where
      go : (ls : List Line) → lines (drop at file) ≡ ls ++ w.after → at + length (unlines ls) ≤ max_header → count < length ls → ⊥
      go [] s b m = omega arith
      go (l ∷ ls) s b m =
          let y : x.first ∷ x.rest ≡ l ∷ (ls ++ w.after) = sym x.cut ∙ s in
          let z : x.first ≡ l = cc in
          omega (arith, x.long, ap size z, length_unlines_cons l ls)

  -- a line is passed
  pub ahead_next : 0 < count → {e next : ℕ} → LineAt file at e next → Ahead file next (count - 1) t
  ahead_next more {e} {next} x = go w.first w.split w.short w.many w.is
    where
      here : Line
      here = line (take (e - at) (drop at file)) x.ending

      go : (ls : List Line) → lines (drop at file) ≡ ls ++ w.after → at + length (unlines ls) ≤ max_header → count < length ls
          → text (get_or ls count (line [] eof)) ≡ t → Ahead file next (count - 1) t
      go [] s b m i = absurd (omega arith)
      go (l ∷ ls) s b m i =
          let y : here ∷ lines (drop next file) ≡ l ∷ (ls ++ w.after) = sym x.cut ∙ s in
          let z : l ≡ here = cc in
          let k : count ≡ suc (count - 1) = omega arith in
          record {
            first = ls;
            after = w.after;
            split = cc;
            short = omega (arith, length_unlines_cons l ls, ap size z, x.bytes);
            many = omega arith;
            is = ap (λ (j : ℕ). text (get_or (l ∷ ls) j (line [] eof))) (sym k) ∙ i;
          }

  -- the line is reached
  pub ahead_text : count ≡ 0 → {e next : ℕ} → LineAt file at e next → take (e - at) (drop at file) ≡ t
  ahead_text none {e} {next} x = go w.first w.split w.many w.is
    where
      here : Line
      here = line (take (e - at) (drop at file)) x.ending

      go : (ls : List Line) → lines (drop at file) ≡ ls ++ w.after → count < length ls → text (get_or ls count (line [] eof)) ≡ t
          → take (e - at) (drop at file) ≡ t
      go [] s m i = absurd (omega arith)
      go (l ∷ ls) s m i =
          let y : here ∷ lines (drop next file) ≡ l ∷ (ls ++ w.after) = sym x.cut ∙ s in
          let z : l ≡ here = cc in
          let h : text l ≡ t = ap (λ (j : ℕ). text (get_or (l ∷ ls) j (line [] eof))) (sym none) ∙ i in
          sym (ap text z) ∙ h

-- the lines of an accepted header are ahead of its start
pub header_ahead : (file : List ℕ) {es : List Entry} {gs : List Given} {r : List Line} → header file ≡ accepted es gs r → (k : ℕ) → k < length es → Ahead file 0 k (line_text file k)
header_ahead file {es} {gs} {r} e k h =
    let x = header_sound file e in
    let m : k < length (lines_of es) = rw length-map h in
    record {
      first = lines_of es;
      after = r;
      split = x.split;
      short = omega (arith, x.short);
      many = m;
      is = rw (x.split, get_or-append (lines_of es) r (line [] eof) k m);
    }
