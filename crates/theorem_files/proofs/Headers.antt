-- The files of an accepted header: its samples are parted equally, so the shares are all of them, and the calls answer by them.
-- Assumes nothing.
use Prim.Native.Nat.{ℕ, ◌<◌}
use mathlib.Core.Path.{◌≡◌, refl, sym, ap, ◌∙◌}
use mathlib.Core.List.{List}
use mathlib.Core.Option.{Option, none, some, none-ne-some}
use lib.ListN.{length}
use borrow.Author.Tests.{lt-leb, le-ltb}
use Rattle.format.specs.declared.ShareAnswer.{ShareAnswer}
use Rattle.format.specs.Refusals.{fine}
use Rattle.format.specs.Lines.{Line}
use Rattle.format.specs.Fields.{Given, descriptor_of, data_file}
use Rattle.format.specs.Descriptors.{meaning, type_of, sample_bytes, file_count_of}
use Rattle.format.specs.DataFiles.{Pattern, Numbering, numbered_files, data_file_said}
use Rattle.format.specs.FileNames.{name_said, share_file, share_byte}
use Rattle.format.specs.Header.{Entry, accepted, header}
use Rattle.format.specs.Calls.{count_of}
use Rattle.format.specs.Files.{file_name_of, sample_file_call}
use Rattle.format.proofs.Named.{files_some, shares_fit, product_some, sample_some}
use Rattle.theorem_files.specs.Files.{SharesTile, FilesByPattern, HeaderFiles}
use Rattle.theorem_files.proofs.Shares.{shares_tile}
use Rattle.theorem_files.proofs.Names.{pattern_files}

module _ (f : List ℕ) {es : List Entry} {gs : List Given} {r : List Line} (e : header f ≡ accepted es gs r) where
  tiles : SharesTile (count_of gs) (file_count_of gs) (sample_bytes (type_of gs))
  tiles = shares_tile (count_of gs) (file_count_of gs) (sample_bytes (type_of gs)) (product_some f e) (shares_fit f e) (sample_some (type_of gs))

  -- the answer for a sample that there is
  found : (s : ℕ) → s < count_of gs
      → sample_file_call f s ≡ record { refusal = fine; file = share_file (count_of gs) (file_count_of gs) s; byte = share_byte (count_of gs) (file_count_of gs) (sample_bytes (type_of gs)) s }
  found s h = rw (e, lt-leb (count_of gs) s h)

  by_pattern : (p : Pattern) (k : Numbering) (axes : Option ℕ) (o : Option (List ℕ)) → descriptor_of data_file gs ≡ o → meaning none data_file_said o ≡ some (numbered_files p k axes) → FilesByPattern gs p k
  unfolding file_count_of file_name_of name_said
  by_pattern p k axes none d q = absurd (none-ne-some _ q)
  by_pattern p k axes (some t) d q =
      record {
        descriptor = t;
        given = d;
        files = pattern_files t p k axes q;
        as_many = rw (d, q);
        named = λ n. rw (d, q);
      }

  pub header_files : HeaderFiles f gs
  unfolding file_count_of file_name_of name_said
  header_files =
      record {
        some_file = files_some f e;
        told = rw e;
        tiled = tiles;
        placed = λ s h. rw (found s h) (record { not_refused = refl; in_files = tiles.in_files s h; in_share = tiles.in_share s h });
        apart = λ s t h k q.
            let w = sym (found s h) ∙ q ∙ found t k in
            tiles.apart s t (ap (λ (a : ShareAnswer). a.file) w) (ap (λ (a : ShareAnswer). a.byte) w);
        named = λ n out h l. rw (e, lt-leb (file_count_of gs) n h, le-ltb (length out) (length (file_name_of gs n)) l);
        by_pattern = λ p k axes q. by_pattern p k axes (descriptor_of data_file gs) refl q;
        by_names = λ axes q. (rw q, λ n. rw q);
      }
