-- Laws of how many files there are: what the code asks is what the definitions ask, and the number fits 32 bits.
-- Assumes nothing.
use Rattle.std.specs.Prelude.{if◌then◌else◌}
use Prim.Native.Nat.{ℕ, zero, suc, ◌+◌, ◌-◌, ◌%◌, ◌≤◌, ◌<◌, min}
use native.Mathlib.Nat.{sub-zero, mul-le-mul_left, dvd_of_mod-eq-zero, le_of_dvd}
use native.Mathlib.Omega.{arith}
use mathlib.Core.Path.{◌≡◌, refl, sym, ◌∙◌}
use mathlib.Core.Bool.{Bool, true, false, ◌&&◌, false≢true}
use mathlib.Core.List.{List, [], ◌∷◌}
use mathlib.Core.Option.{Option, none, some}
use lib.Dec.{eqb, ltb, leb}
use lib.Seq.{take_at}
use lib.ListN.{length, replicate, take, drop, get_or}
use borrow.Author.Tests.{eqb-true, eqb-false, eq-eqb, ne_eqb, leb-true, leb-false, le-leb, lt-leb, ltb-true, ltb-false, lt-ltb}
use Rattle.format.specs.Bytes.{between, is_some}
use Rattle.format.specs.Limits.{max_axes, max_extent}
use Rattle.format.specs.Fields.{Given, descriptor_of, is_given, file_names, dimension, data_file, sizes}
use Rattle.format.specs.DataFiles.{is_list, DataFile, one_file, numbered_files, listed_files, data_file_said, files_said, last_numbered}
use Rattle.format.specs.Descriptors.{meaning, dimension_of, type_of, sizes_of, number_said, number_of, product, capped, extent_of, divides, cover_fine, files_fit, files_fine, names_follow, file_count_of, cover_of}
use Rattle.format.specs.Laws.{Each}
use Rattle.format.proofs.Rules.{files_covered}
use Rattle.format.proofs.Named.{Counts, said_counts, one_file_lem, product_drop, product_positive, files_divide, sample_some}
use Rattle.read_text.proofs.Places.{eqb_comm}
use Rattle.std.specs.Prelude.{Option as Answer}
use Rattle.read_files.specs.declared.cover.Cover.{Cover}
use Rattle.read_files.specs.Files.{cover_answer}
use Rattle.read_fields.specs.States.{Kept}
use Rattle.read_fields.specs.Shares.{slices_fit, slabs_fit, fits, fits_by}

-- ---- parts of sizes

-- what is left of the first n from c on
pub drop_of_take : (c n : ℕ) (s : List ℕ) → take (n - c) (drop c s) ≡ drop c (take n s)
drop_of_take zero n s = rw sub-zero
drop_of_take (suc c) zero s = let e : 0 - suc c ≡ 0 = omega arith in rw e
drop_of_take (suc c) (suc n) [] = go (suc n - suc c)
  where
    go : (k : ℕ) → ◌≡◌ {A = List ℕ} (take k []) []
    go zero = refl
    go (suc k) = refl
drop_of_take (suc c) (suc n) (b ∷ s) = let e : suc n - suc c ≡ n - c = omega arith in rw e (drop_of_take c n s)

-- ---- the rule

module _ (n : ℕ) (ns : List ℕ) (k : ℕ) (many : length ns ≡ n) (wholes : Each (λ (n : ℕ). 1 ≤ n) ns) (small : product ns ≤ max_extent) where
  -- a product of some of the sizes is exact
  slices_is : (c : ℕ) → slices_fit ns k c ≡ eqb k (product (drop c ns))
  slices_is c =
      let h = product_drop c ns wholes in
      let e : capped (product (drop c ns)) ≡ product (drop c ns) = omega arith in
      rw e (eqb_comm (product (drop c ns)) k)

  -- where the rule holds, the samples are parted equally
  rule_shares : (r : Bool) → (r ≡ true → divides k (product ns) ≡ true) → r ≡ (r && divides k (product ns))
  rule_shares true h = sym (h refl)
  rule_shares false h = refl

  fits_is : (c : ℕ) → fits n ns k c ≡ cover_fine n ns k c
  unfolding fits
  fits_is c = go (eqb c 0) refl (ltb n c) refl (ltb c n) refl
    where
      go : (x : Bool) → eqb c 0 ≡ x → (y : Bool) → ltb n c ≡ y → (z : Bool) → ltb c n ≡ z
          → (if x then false else if y then false else if z then slices_fit ns k c else slabs_fit n ns k)
          ≡ (between 1 n c && ((if z then eqb k (product (drop c ns)) else divides k (get_or ns (n - 1) 0)) && divides k (product ns)))
      go true e y f z g = let h : c < 1 = omega (arith, eqb-true c 0 e) in rw (lt-leb 1 c h)
      go false e true f z g = rw (lt-leb c n (ltb-true n c f)) (none_left (leb 1 c) _)
        where
          none_left : (a b : Bool) → false ≡ ((a && false) && b)
          none_left true b = refl
          none_left false b = refl
      go false e false f true g =
          let least : 1 ≤ c = omega (arith, eqb-false c 0 e) in
          let l = ltb-true c n g in
          rw (le-leb 1 c least, le-leb c n (omega arith), slices_is c)
          (rule_shares (eqb k (product (drop c ns)))
          (λ q. eq-eqb (product ns % k) 0 (files_divide n ns k c many least (omega arith) (λ m. eqb-true k (product (drop c ns)) q) (λ m. absurd (let w : ⊥ = omega arith in w)))))
      go false e false f false g =
          let least : 1 ≤ c = omega (arith, eqb-false c 0 e) in
          let most : c ≤ n = ltb-false n c f in
          let least_n : n ≤ c = ltb-false c n g in
          rw (le-leb 1 c least, le-leb c n most)
          (rule_shares (divides k (get_or ns (n - 1) 0))
          (λ q. eq-eqb (product ns % k) 0 (files_divide n ns k c many least most (λ m. absurd (let w : ⊥ = omega arith in w)) (λ m. eqb-true (get_or ns (n - 1) 0 % k) 0 q))))

  -- a number of axes that is cut is past the dimension, as the number itself
  cut_fits : n ≤ max_axes → (c : ℕ) → fits n ns k (min c (max_axes + 1)) ≡ cover_fine n ns k c
  unfolding fits
  cut_fits few c = go (leb c (max_axes + 1)) refl
    where
      go : (x : Bool) → leb c (max_axes + 1) ≡ x → fits n ns k (min c (max_axes + 1)) ≡ cover_fine n ns k c
      go true e = let h = leb-true c (max_axes + 1) e in let q : min c (max_axes + 1) ≡ c = omega arith in rw q (fits_is c)
      go false e =
          let h = leb-false c (max_axes + 1) e in
          let q : min c (max_axes + 1) ≡ max_axes + 1 = omega arith in
          rw (q, lt-ltb n (max_axes + 1) (omega arith), lt-leb c n (omega arith)) (none_left (leb 1 c) _)
        where
          none_left : (a b : Bool) → false ≡ ((a && false) && b)
          none_left true b = refl
          none_left false b = refl

  pub fits_by_lem : n ≤ max_axes → (o : Option (Option ℕ)) → fits_by n ns k (cover_answer o) ≡ files_fit n ns k o
  unfolding fits_by
  fits_by_lem few none = refl
  fits_by_lem few (some none) = fits_is (n - 1)
  fits_by_lem few (some (some c)) = cut_fits few c

-- ---- how many files the fields given say

-- the number that is kept of a data file is that of the last one, where no names follow
pub last_file : (gs : List Given) → Kept gs → names_follow gs ≡ false → number_of data_file gs + 1 ≡ file_count_of gs
unfolding names_follow file_count_of
last_file gs k n = go (descriptor_of data_file gs) n
  where
    said : (d : List ℕ) → is_list d ≡ false → (o : Option DataFile) → Counts d o → last_numbered o + 1 ≡ files_said o (length (file_names gs))
    said d l none c = refl
    said d l (some (one_file t)) c = refl
    said d l (some (numbered_files p x axes)) c = omega (arith, c.0)
    said d l (some (listed_files axes)) c = absurd (false≢true (sym l ∙ c))

    go : (o : Option (List ℕ)) → meaning false is_list o ≡ false → meaning 0 (number_said data_file) o + 1 ≡ files_said (meaning none data_file_said o) (length (file_names gs))
    go none e = refl
    go (some d) e = said d e (data_file_said d) (said_counts d)

-- where names follow, they are the files
pub names_are_files : (gs : List Given) → Kept gs → names_follow gs ≡ true → file_count_of gs ≡ length (file_names gs)
unfolding names_follow file_count_of
names_are_files gs k n = go (descriptor_of data_file gs) refl n
  where
    said : (d : List ℕ) → is_list d ≡ true → (o : Option DataFile) → is_some o ≡ true → Counts d o → files_said o (length (file_names gs)) ≡ length (file_names gs)
    said d l none s c = absurd (false≢true s)
    said d l (some (one_file t)) s c = absurd (false≢true (sym c ∙ l))
    said d l (some (numbered_files p x axes)) s c = absurd (false≢true (sym c.1 ∙ l))
    said d l (some (listed_files axes)) s c = refl

    go : (o : Option (List ℕ)) → descriptor_of data_file gs ≡ o → meaning false is_list o ≡ true → files_said (meaning none data_file_said o) (length (file_names gs)) ≡ length (file_names gs)
    go none q e = absurd (false≢true e)
    go (some d) q e = said d e (data_file_said d) (k.filed d q) (said_counts d)

module _ (gs : List Given) (k : Kept gs) (given : is_given sizes gs ≡ true) (small : extent_of gs ≤ max_extent) where
  -- there are at most so many samples
  pub samples_few : product (sizes_of gs) ≤ max_extent
  samples_few = omega (arith, mul-le-mul_left (product (sizes_of gs)) (sample_some (type_of gs)))

  -- what the code asks of the files is what the definitions ask
  pub files_asked : {n : ℕ} {cover : Answer Cover} {ns : List ℕ} (files : ℕ) → n ≡ dimension_of gs → ns ≡ sizes_of gs → cover ≡ cover_answer (cover_of gs) → files ≡ file_count_of gs → fits_by n ns files cover ≡ files_fine gs
  unfolding files_fine
  files_asked files p q c f =
      rw (p, q, c, f) (fits_by_lem (dimension_of gs) (sizes_of gs) (file_count_of gs) (k.sized given) k.wholes samples_few k.axes (cover_of gs))

  -- there are at most as many files as samples
  pub files_at_most : files_fine gs ≡ true → file_count_of gs ≤ max_extent
  files_at_most h = go (cover_of gs) refl
    where
      go : (o : Option (Option ℕ)) → cover_of gs ≡ o → file_count_of gs ≤ max_extent
      go none e = rw (one_file_lem gs e) (omega arith)
      go (some axes) e =
          let w = files_covered gs h axes e in
          let b = le_of_dvd (product_positive (sizes_of gs) k.wholes) (dvd_of_mod-eq-zero (file_count_of gs) w.shares) in
          omega (arith, b, samples_few)

-- the same by the sizes themselves
pub files_are : (gs : List Given) → Kept gs → is_given sizes gs ≡ true → extent_of gs ≤ max_extent → {ns : List ℕ} {cover : Answer Cover} {files : ℕ} → ns ≡ sizes_of gs → cover ≡ cover_answer (cover_of gs) → files ≡ file_count_of gs
    → fits_by (length ns) ns files cover ≡ files_fine gs
files_are gs k g small {ns} {cover} {files} p q f = files_asked gs k g small files (rw p (k.sized g)) p q f
