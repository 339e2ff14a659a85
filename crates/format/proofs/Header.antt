-- The laws of specs/Header.antt: what the accepted headers are, that bytes after the closing line decide nothing, and which fields are given.
-- Assumes nothing.
use Rattle.std.specs.Prelude.{if◌then◌else◌}
use mathlib.Core.Path.{◌≡◌, refl, sym, ap, ◌∙◌, subst}
use Prim.Native.Nat.{ℕ, suc, ◌+◌, ◌≤◌}
use mathlib.Core.Bool.{Bool, true, false, ◌&&◌, false≢true}
use mathlib.Core.List.{List, [], ◌∷◌, ◌++◌, cons≢nil}
use mathlib.Core.Option.{Option, none, some, none-ne-some}
use lib.Dec.{eqb, ltb}
use lib.ListN.{length, drop, length-append, length-map}
use borrow.Author.Tests.{ltb-false, le-ltb}
use native.Mathlib.Omega.{arith}
use Rattle.format.specs.declared.Refusal.{Refusal}
use Rattle.format.specs.Bytes.{bytes, same}
use Rattle.format.specs.Limits.{max_file, max_header, max_lines, max_extent}
use Rattle.format.specs.Refusals.{file_too_long, no_end, header_too_long, too_many_lines, at_line, refusal}
use Rattle.format.specs.Lines.{Line, line, lf, crlf, eof, text, size, lines, unlines}
use Rattle.format.specs.Fields.{Given}
use Rattle.format.specs.Descriptors.{has_needed, end_is_raw, extent_of, files_fine, is_detached, names_follow, list_empty}
use Rattle.format.specs.Header.{Item, magic, Entry, entry, line_of, lines_of, magic_version, version_of_line, Judged, wrong, right, judge, Outcome, refused, accepted, with_entry, closes, after_item, complete, on_judged, walk, after_magic, from_first, header, table_of, header_length}
use Rattle.format.specs.Rules.{Keeps, closed}
use Rattle.format.proofs.Lines.{unlines_of_lines, unlines_append, length_unlines_cons, Shape, lf_line, crlf_line, eof_line, shape_of_lines, shape_before, shape_after, lines_of_parts, bytes_after, length_starts}
use Rattle.format.proofs.Judged.{is_closing, judge_keeps}

-- ---- what an accepted header is, the limits left out

-- the fields at the end of a header: a name follows LIST, the needed ones are there, a byte skip of -1 stands with raw, the extent is within its limit, and the files fit the sizes
pub record Complete (gs : List Given) : Type 0 where
  pub filled : list_empty gs ≡ false
  pub needed : has_needed gs ≡ true
  pub fitting : end_is_raw gs ≡ true
  pub small : extent_of gs ≤ max_extent
  pub files : files_fine gs ≡ true

-- a line after the fields gs, before the entries es: it closes the header (true), or `next` is asked
abbrev pub FineBy : Bool → List Given → List Entry → List Given → Type 0 → Type 0
FineBy true gs es gs' next = (es ≡ []) × Complete gs × (gs' ≡ gs)
FineBy false gs es gs' next = next

-- The entries es, after the fields gs and before the lines r, end a header with the fields gs': each line is judged to be its item;
-- the last one closes the header, and r may be any lines, or no line is left and data file is given; the fields gs' are complete.
abbrev pub Fine : ℕ → List Given → List Entry → List Given → List Line → Type 0
Fine version gs [] gs' r = (r ≡ []) × (is_detached gs ≡ true) × Complete gs × (gs' ≡ gs)
Fine version gs (entry l i ∷ es) gs' r =
    (judge version gs (text l) ≡ right i) × FineBy (closes i) gs es gs' (Fine version (after_item i gs) es gs' r)

-- the entries es are within the limits, where the first of them is line n and starts at byte `at`
pub record Within (n at : ℕ) (es : List Entry) : Type 0 where
  pub bytes : at + header_length es ≤ max_header
  pub count : n + length es ≤ max_lines + 1

-- ---- accepted: fine

-- what the walk over the lines ls, from line n, at byte `at`, after the fields gs, has accepted
pub record Walked (version n at : ℕ) (gs : List Given) (ls : List Line) (es : List Entry) (gs' : List Given) (r : List Line) : Type 0 where
  pub split : ls ≡ lines_of es ++ r
  pub fine : Fine version gs es gs' r
  pub within : Within n at es

-- at the end of a header: what holds of every refusal, and of the acceptance of complete fields, holds
complete_cases : (P : Outcome → Type 0) (n : ℕ) (gs : List Given) (ls : List Line)
    → ((x : Refusal) → P (refused x)) → (Complete gs → P (accepted [] gs ls)) → P (complete n gs ls)
unfolding complete
complete_cases P n gs ls f g = go (list_empty gs) refl (has_needed gs) refl (end_is_raw gs) refl (ltb max_extent (extent_of gs)) refl (files_fine gs) refl
  where
    go : (a : Bool) → list_empty gs ≡ a → (t : Bool) → has_needed gs ≡ t → (s : Bool) → end_is_raw gs ≡ s → (u : Bool) → ltb max_extent (extent_of gs) ≡ u
        → (v : Bool) → files_fine gs ≡ v → P (complete n gs ls)
    go true i true e s k u h v j = simp (i, e) (f _)
    go true i false e s k u h v j = simp (i, e) (f _)
    go false i false e s k u h v j = simp (i, e) (f _)
    go false i true e false k true h v j = simp (i, e, k, h) (f _)
    go false i true e false k false h v j = simp (i, e, k, h) (f _)
    go false i true e true k true h v j = simp (i, e, k, h) (f _)
    go false i true e true k false h false j = simp (i, e, k, h, j) (f _)
    go false i true e true k false h true j = simp (i, e, k, h, j) (g (record { filled = i; needed = e; fitting = k; small = ltb-false max_extent (extent_of gs) h; files = j }))

-- complete fields are accepted
complete_is : (n : ℕ) (gs : List Given) (ls : List Line) → Complete gs → complete n gs ls ≡ accepted [] gs ls
unfolding complete
complete_is n gs ls c = rw (c.filled, c.needed, c.fitting, le-ltb max_extent (extent_of gs) c.small, c.files)

module _ (version : ℕ) where
  -- an outcome of the walk is right if it is a refusal, or what it accepts is fine and within the limits
  abbrev Sound : ℕ → ℕ → List Given → List Line → Outcome → Type 0
  Sound n at gs ls (refused x) = Unit {0}
  Sound n at gs ls (accepted es gs' r) = Walked version n at gs ls es gs' r

  -- one more line, which does not close the header
  more_sound : (n at : ℕ) (gs : List Given) (l : Line) (ls : List Line) (i : Item) → judge version gs (text l) ≡ right i → closes i ≡ false
      → (o : Outcome) → Sound (n + 1) (at + size l) (after_item i gs) ls o → Sound n at gs (l ∷ ls) (with_entry (entry l i) o)
  more_sound n at gs l ls i e c (refused x) s = tt
  more_sound n at gs l ls i e c (accepted es gs' r) s =
      record {
        split = rw s.split;
        fine = (e, rw c s.fine);
        within = record { bytes = rw length_unlines_cons (omega (arith, s.within.bytes)); count = omega (arith, s.within.count) };
      }

  -- every outcome of the walk is right
  walked : (ls : List Line) (n at : ℕ) (gs : List Given) → at ≤ max_header → n ≤ max_lines + 1 → Sound n at gs ls (walk version n at gs ls)
  unfolding walk unlines
  walked [] n at gs b c = go (is_detached gs) refl
    where
      go : (t : Bool) → is_detached gs ≡ t → Sound n at gs [] (if t then complete n gs [] else refused (refusal no_end))
      go false e = tt
      go true e = complete_cases (Sound n at gs []) n gs [] (λ x. tt) λ k.
          record { split = refl; fine = (refl, e, k, refl); within = record { bytes = omega arith; count = omega arith } }
  walked (l ∷ ls) n at gs b c =
      go (ltb max_header (at + size l)) refl (ltb max_lines n) refl (judge version gs (text l)) refl
      (λ i h k. walked ls (n + 1) (at + size l) (after_item i gs) h (omega arith))
    where
      after : Item → Outcome
      after i = walk version (n + 1) (at + size l) (after_item i gs) ls

      one : at + size l ≤ max_header → n ≤ max_lines → (i : Item) → judge version gs (text l) ≡ right i
          → Sound (n + 1) (at + size l) (after_item i gs) ls (after i)
          → (t : Bool) → closes i ≡ t → Sound n at gs (l ∷ ls) (with_entry (entry l i) (if t then complete n gs ls else after i))
      one h k i e s false f = more_sound n at gs l ls i e f (after i) s
      one h k i e s true f = complete_cases (λ o. Sound n at gs (l ∷ ls) (with_entry (entry l i) o)) n gs ls (λ x. tt) λ g.
          record {
            split = refl;
            fine = (e, rw f (refl, g, refl));
            within = record { bytes = rw (length_unlines_cons l []) (omega arith); count = omega arith };
          }

      go : (t : Bool) → ltb max_header (at + size l) ≡ t → (u : Bool) → ltb max_lines n ≡ u → (j : Judged) → judge version gs (text l) ≡ j
          → ((i : Item) → at + size l ≤ max_header → n ≤ max_lines → Sound (n + 1) (at + size l) (after_item i gs) ls (after i))
          → Sound n at gs (l ∷ ls)
          (if t then refused (at_line header_too_long n) else if u then refused (at_line too_many_lines n)
          else on_judged n l j (λ i. if closes i then complete n gs ls else after i))
      go true e u f j d s = tt
      go false e true f j d s = tt
      go false e false f (wrong w) d s = tt
      go false e false f (right i) d s =
          let h : at + size l ≤ max_header = ltb-false max_header (at + size l) e in
          let k : n ≤ max_lines = ltb-false max_lines n f in
          one h k i d (s i h k) (closes i) refl

-- what the walk accepts is fine and within the limits
pub walk_sound : (version : ℕ) (ls : List Line) (n at : ℕ) (gs : List Given) {es : List Entry} {gs' : List Given} {r : List Line} → at ≤ max_header → n ≤ max_lines + 1
    → walk version n at gs ls ≡ accepted es gs' r → Walked version n at gs ls es gs' r
walk_sound version ls n at gs b c e = subst (Sound version n at gs ls) e (walked version ls n at gs b c)

-- ---- fine: accepted

-- what is fine and within the limits is accepted
pub walk_fine : (version n at : ℕ) (gs : List Given) (es : List Entry) (gs' : List Given) (r : List Line)
    → Fine version gs es gs' r → Within n at es → walk version n at gs (lines_of es ++ r) ≡ accepted es gs' r
unfolding walk
walk_fine version n at gs [] gs' r f w = rw (f.0, f.1, complete_is n gs [] f.2, f.3)
walk_fine version n at gs (entry l i ∷ es) gs' r f w =
    let b = rw length_unlines_cons at w.bytes in
    let c = w.count in
    let h : at + size l ≤ max_header = omega arith in
    let k : n ≤ max_lines = omega arith in
    rw (le-ltb max_header (at + size l) h, le-ltb max_lines n k, f.0) (go (closes i) f.1
    (λ g. walk_fine version (n + 1) (at + size l) (after_item i gs) es gs' r g (record { bytes = omega arith; count = omega arith })))
  where
    after : Outcome
    after = walk version (n + 1) (at + size l) (after_item i gs) (lines_of es ++ r)

    go : (t : Bool) → FineBy t gs es gs' (Fine version (after_item i gs) es gs' r)
        → (Fine version (after_item i gs) es gs' r → after ≡ accepted es gs' r)
        → with_entry (entry l i) (if t then complete n gs (lines_of es ++ r) else after) ≡ accepted (entry l i ∷ es) gs' r
    go false f s = rw (s f)
    go true f s = rw (f.0, complete_is n gs r f.1, f.2)

-- ---- line 1

-- texts with the same bytes have one length
same_length : (t u : List ℕ) → same t u ≡ true → length t ≡ length u
unfolding same
same_length [] [] e = refl
same_length [] (c ∷ u) e = absurd (false≢true e)
same_length (b ∷ t) [] e = absurd (false≢true e)
same_length (b ∷ t) (c ∷ u) e = ap suc (same_length t u (go (eqb b c) e))
  where
    go : (x : Bool) → (x && same t u) ≡ true → same t u ≡ true
    go true e = e
    go false e = absurd (false≢true e)

-- the text of line 1: at most 9 bytes, with a version from 1 to 5
abbrev Magical : List ℕ → Option ℕ → Type 0
Magical t none = Unit {0}
Magical t (some v) = (length t ≤ 9) × (1 ≤ v) × (v ≤ 5)

magic_text : (t : List ℕ) → Magical t (magic_version t)
unfolding magic_version
magic_text t =
    go (same t (bytes "NRRD0001")) refl (same t (bytes "NRRD00.01")) refl (same t (bytes "NRRD0002")) refl
    (same t (bytes "NRRD0003")) refl (same t (bytes "NRRD0004")) refl (same t (bytes "NRRD0005")) refl
  where
    go : (a : Bool) → same t (bytes "NRRD0001") ≡ a → (b : Bool) → same t (bytes "NRRD00.01") ≡ b
        → (c : Bool) → same t (bytes "NRRD0002") ≡ c → (d : Bool) → same t (bytes "NRRD0003") ≡ d
        → (e : Bool) → same t (bytes "NRRD0004") ≡ e → (f : Bool) → same t (bytes "NRRD0005") ≡ f
        → Magical t (if a then some 1 else if b then some 1 else if c then some 2 else if d then some 3 else if e then some 4 else if f then some 5 else none)
    go true ha b hb c hc d hd e he f hf = omega (arith, same_length t (bytes "NRRD0001") ha)
    go false ha true hb c hc d hd e he f hf = omega (arith, same_length t (bytes "NRRD00.01") hb)
    go false ha false hb true hc d hd e he f hf = omega (arith, same_length t (bytes "NRRD0002") hc)
    go false ha false hb false hc true hd e he f hf = omega (arith, same_length t (bytes "NRRD0003") hd)
    go false ha false hb false hc false hd true he f hf = omega (arith, same_length t (bytes "NRRD0004") he)
    go false ha false hb false hc false hd false he true hf = omega (arith, same_length t (bytes "NRRD0005") hf)
    go false ha false hb false hc false hd false he false hf = tt

-- line 1 has at most 11 bytes, its ending included, and a version from 1 to 5
pub magic_line : (l : Line) {v : ℕ} → version_of_line l ≡ some v → (size l ≤ 11) × (1 ≤ v) × (v ≤ 5)
magic_line (line t lf) e = let h = subst (Magical t) e (magic_text t) in simp length-append (omega arith)
magic_line (line t crlf) e = let h = subst (Magical t) e (magic_text t) in simp length-append (omega arith)
magic_line (line t eof) e = absurd (none-ne-some _ e)

-- ---- the whole header

-- the bytes s begin with a header whose lines are the entries es and whose fields are gs, and the lines r follow it
pub record IsHeader (s : List ℕ) (es : List Entry) (gs : List Given) (r : List Line) : Type 0 where
  -- line 1, its version, and the entries after it
  pub first : Line
  pub version : ℕ
  pub rest : List Entry
  pub entries : es ≡ entry first (magic version) ∷ rest
  pub magical : version_of_line first ≡ some version
  pub fine : Fine version [] rest gs r
  pub split : lines s ≡ lines_of es ++ r
  pub bytes : s ≡ unlines (lines_of es) ++ unlines r
  pub short : header_length es ≤ max_header
  pub few : length es ≤ max_lines
  pub small : length s ≤ max_file

-- an outcome of the reading is right if it is a refusal, or what it accepts is a header of the bytes
abbrev SoundHeader : List ℕ → Outcome → Type 0
SoundHeader s (refused x) = Unit {0}
SoundHeader s (accepted es gs r) = IsHeader s es gs r

-- every outcome of the reading is right
headed : (s : List ℕ) → SoundHeader s (header s)
unfolding header
headed s = go (ltb max_file (length s)) refl (lines s) refl
  where
    under : length s ≤ max_file → (l : Line) (ls : List Line) → lines s ≡ l ∷ ls → (v : ℕ) → version_of_line l ≡ some v
        → (o : Outcome) → Sound v 2 (size l) [] ls o → SoundHeader s (with_entry (entry l (magic v)) o)
    under h l ls e v m (refused x) w = tt
    under h l ls e v m (accepted es gs r) w =
        let p : lines s ≡ lines_of (entry l (magic v) ∷ es) ++ r = e ∙ ap (λ (x : List Line). l ∷ x) w.split in
        record {
          first = l;
          version = v;
          rest = es;
          entries = refl;
          magical = m;
          fine = w.fine;
          split = p;
          bytes = sym (unlines_of_lines s) ∙ ap unlines p ∙ unlines_append (lines_of (entry l (magic v) ∷ es)) r;
          short = rw length_unlines_cons w.within.bytes;
          few = omega (arith, w.within.count);
          small = h;
        }

    one : length s ≤ max_file → (l : Line) (ls : List Line) → lines s ≡ l ∷ ls → (o : Option ℕ) → version_of_line l ≡ o
        → SoundHeader s (after_magic l o ls)
    one h l ls e none m = tt
    one h l ls e (some v) m =
        under h l ls e v m (walk v 2 (size l) [] ls) (walked v ls 2 (size l) [] (omega (arith, (magic_line l m).0)) (omega arith))

    go : (t : Bool) → ltb max_file (length s) ≡ t → (ls : List Line) → lines s ≡ ls
        → SoundHeader s (if t then refused (refusal file_too_long) else from_first ls)
    go true h ls e = tt
    go false h [] e = tt
    go false h (l ∷ ls) e = one (ltb-false max_file (length s) h) l ls e (version_of_line l) refl

-- what is accepted is a header of the bytes
pub header_sound : (s : List ℕ) {es : List Entry} {gs : List Given} {r : List Line} → header s ≡ accepted es gs r → IsHeader s es gs r
header_sound s e = subst (SoundHeader s) e (headed s)

-- a header within the limits is accepted
pub header_fine : (s : List ℕ) (l : Line) (v : ℕ) (es : List Entry) (gs : List Given) (r : List Line)
    → lines s ≡ l ∷ lines_of es ++ r → version_of_line l ≡ some v → Fine v [] es gs r
    → header_length (entry l (magic v) ∷ es) ≤ max_header → length (entry l (magic v) ∷ es) ≤ max_lines → length s ≤ max_file
    → header s ≡ accepted (entry l (magic v) ∷ es) gs r
unfolding header
header_fine s l v es gs r p m f b c h =
    let b' = rw length_unlines_cons at b in
    rw (le-ltb max_file (length s) h, p, m, walk_fine v 2 (size l) [] es gs r f (record { bytes = omega arith; count = omega arith }))

module _ (s : List ℕ) {es : List Entry} {gs : List Given} {r : List Line} (e : header s ≡ accepted es gs r) where
  -- the bytes after an accepted header are those of the lines after it
  pub data_area : drop (header_length es) s ≡ unlines r
  data_area = bytes_after s (lines_of es) r (header_sound s e).split

-- the table has an entry for each line
pub length_table : (es : List Entry) → length (table_of es) ≡ length es
length_table es = length_starts 0 (lines_of es) ∙ length-map es line_of

-- ---- the first line of a fine header

-- the line that closes the header gives no field
pub after_closing : (i : Item) (gs : List Given) → closes i ≡ true → after_item i gs ≡ gs
after_closing i gs e = rw (is_closing i e)

module _ (version : ℕ) where
  -- the first line of a fine header closes it, or the entries after that line are fine
  pub fine_cases : (gs : List Given) (l : Line) (i : Item) (es : List Entry) (gs' : List Given) (r : List Line) (P : List Entry → List Given → Type 0)
      → Fine version gs (entry l i ∷ es) gs' r
      → (Keeps version gs (text l) i → closes i ≡ true → Complete gs → P [] (after_item i gs))
      → (Keeps version gs (text l) i → closes i ≡ false → Fine version (after_item i gs) es gs' r → P es gs')
      → P es gs'
  fine_cases gs l i es gs' r P f last more = go (closes i) refl f.1
    where
      keeps : Keeps version gs (text l) i
      keeps = judge_keeps version gs (text l) f.0

      go : (t : Bool) → closes i ≡ t → FineBy t gs es gs' (Fine version (after_item i gs) es gs' r) → P es gs'
      go true e g = rw (g.0, g.2, ← after_closing i gs e) (last keeps e g.1)
      go false e g = more keeps e g

  -- the fields at the end of a fine header are complete
  pub fine_complete : (es : List Entry) (gs gs' : List Given) (r : List Line) → Fine version gs es gs' r → Complete gs'
  fine_complete [] gs gs' r f = rw f.3 f.2
  fine_complete (entry l i ∷ es) gs gs' r f =
      fine_cases gs l i es gs' r (λ es gs'. Complete gs') f (λ k c q. rw (after_closing i gs c) q) (λ k c g. fine_complete es (after_item i gs) gs' r g)

-- ---- where an accepted header ends

-- an empty line may stand before any lines
shape_empty : {l : Line} {ls ms : List Line} → text l ≡ [] → Shape (l ∷ ls) → Shape ms → Shape (l ∷ ms)
shape_empty h (lf_line p q s) m = lf_line p q m
shape_empty h (crlf_line p s) m = crlf_line p m
shape_empty h (eof_line p n) m = absurd (omega (arith, ap length h))

-- a line that closes the header is empty
closes_empty : (version : ℕ) (gs : List Given) (t : List ℕ) (i : Item) → Keeps version gs t i → closes i ≡ true → t ≡ []
closes_empty version gs t i s c = subst (Keeps version gs t) (is_closing i c) s

module _ (version : ℕ) where
  -- a line with an entry after it does not close the header, and the entries after it are fine
  pub fine_tail : (gs : List Given) (l : Line) (i : Item) (e : Entry) (es : List Entry) (gs' : List Given) (r : List Line)
      → Fine version gs (entry l i ∷ e ∷ es) gs' r → (closes i ≡ false) × Fine version (after_item i gs) (e ∷ es) gs' r
  fine_tail gs l i e es gs' r f = go (closes i) f.1
    where
      go : (t : Bool) → FineBy t gs (e ∷ es) gs' (Fine version (after_item i gs) (e ∷ es) gs' r)
          → (t ≡ false) × Fine version (after_item i gs) (e ∷ es) gs' r
      go true g = absurd (cons≢nil g.0)
      go false g = (refl, g)

  -- entries that end closed are fine before any lines
  pub fine_closed : (es : List Entry) (gs gs' : List Given) (r r' : List Line) → closed es ≡ true → Fine version gs es gs' r → Fine version gs es gs' r'
  unfolding closed
  fine_closed [] gs gs' r r' c f = absurd (false≢true c)
  fine_closed (entry l i ∷ []) gs gs' r r' c f = (f.0, rw c (rw c at f.1))
  fine_closed (entry l i ∷ e ∷ es) gs gs' r r' c f =
      let g = fine_tail gs l i e es gs' r f in (f.0, rw g.0 (fine_closed (e ∷ es) (after_item i gs) gs' r r' c g.1))

  -- and their lines keep the line rule before any lines that keep it
  pub shape_closed : (es : List Entry) (gs gs' : List Given) (r r' : List Line) → closed es ≡ true → Fine version gs es gs' r
      → Shape (lines_of es ++ r) → Shape r' → Shape (lines_of es ++ r')
  unfolding closed
  shape_closed [] gs gs' r r' c f s s' = absurd (false≢true c)
  shape_closed (entry l i ∷ []) gs gs' r r' c f s s' =
      shape_empty (closes_empty version gs (text l) i (judge_keeps version gs (text l) f.0) c) s s'
  shape_closed (entry l i ∷ e ∷ es) gs gs' r r' c f s s' =
      shape_before s (omega arith)
      (shape_closed (e ∷ es) (after_item i gs) gs' r r' c (fine_tail gs l i e es gs' r f).1 (shape_after (l ∷ []) (lines_of (e ∷ es) ++ r) s) s')

-- `header_ends` of line 1 and the entries after it
ends : (s : List ℕ) (l : Line) (v : ℕ) (es : List Entry) (gs : List Given) (r : List Line)
    → lines s ≡ l ∷ lines_of es ++ r → version_of_line l ≡ some v → Fine v [] es gs r
    → header_length (entry l (magic v) ∷ es) ≤ max_header → length (entry l (magic v) ∷ es) ≤ max_lines
    → closed (entry l (magic v) ∷ es) ≡ true → (d : List ℕ) → length (unlines (l ∷ lines_of es) ++ d) ≤ max_file
    → header (unlines (l ∷ lines_of es) ++ d) ≡ accepted (entry l (magic v) ∷ es) gs (lines d)
unfolding closed
ends s l v [] gs r p m f b n c d h = absurd (false≢true c)
ends s l v (e ∷ es) gs r p m f b n c d h =
    let shape : Shape (l ∷ lines_of (e ∷ es) ++ r) = rw p at (shape_of_lines s) in
    let under : Shape (lines_of (e ∷ es) ++ lines d) =
    shape_closed v (e ∷ es) [] gs r (lines d) c f (shape_after (l ∷ []) (lines_of (e ∷ es) ++ r) shape) (shape_of_lines d) in
    header_fine (unlines (l ∷ lines_of (e ∷ es)) ++ d) l v (e ∷ es) gs (lines d)
    (lines_of_parts (l ∷ lines_of (e ∷ es)) d (shape_before shape (omega arith) under)) m (fine_closed v (e ∷ es) [] gs r (lines d) c f) b n h

module _ (s : List ℕ) {es : List Entry} {gs : List Given} {r : List Line} (e : header s ≡ accepted es gs r) where
  -- a header that ends with the closing line is decided by its own bytes: with any others after them it is accepted just so
  pub header_ends : closed es ≡ true → (d : List ℕ) → length (unlines (lines_of es) ++ d) ≤ max_file
      → header (unlines (lines_of es) ++ d) ≡ accepted es gs (lines d)
  header_ends c d h =
      let x = header_sound s e in
      rw x.entries
      (ends s x.first x.version x.rest gs r (rw x.entries at x.split) x.magical x.fine
      (rw x.entries at x.short) (rw x.entries at x.few) (rw x.entries at c) d (rw x.entries at h))
