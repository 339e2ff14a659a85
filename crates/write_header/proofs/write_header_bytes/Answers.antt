-- `write_header_bytes` meets its contract: the first 17 sizes say all. Assumes nothing.
use Prim.Native.Nat.{ℕ, min}
use mathlib.Core.Path.{◌≡◌, sym, ap, ◌∙◌}
use native.Mathlib.Omega.{arith}
use lib.ListN.{length, take}
use lib.Seq.{length-take-le}
use Rattle.format.specs.Boundary.{numbers_of}
use Rattle.format.specs.EntryPoints.{write_header_entry}
use Rattle.format.proofs.Boundary.{length_numbers}
use Rattle.write_file.proofs.Whole.{put_front}
use Rattle.write_header.specs.Stored.{lent_call}
use Rattle.write_header.proofs.LentLaws.{lent_sizes}
use Rattle.write_header.proofs.write_header_bytes.Goals as goal

pub slice_bounds-ns-end : goal.slice_bounds-ns-end
slice_bounds-ns-end c = omega (arith, c.numbers-n.ensures.0)

pub slice_bounds-asked-end : goal.slice_bounds-asked-end
slice_bounds-asked-end c =
    let a = c.args in
    let s = a.sizes.now in
    let p = c.numbers-n in
    let e : p.result ≡ min (length (numbers_of 8 s)) 17 = p.ensures.0 ∙ ap (λ (k : ℕ). min k 17) (sym (length_numbers 8 s)) in
    let f : take p.result p.new.t ≡ take p.result (numbers_of 8 s) = put_front p.new.t _ (take p.result (numbers_of 8 s)) p.result p.ensures.1 (length-take-le p.result (numbers_of 8 s) (omega (arith, e))) in
    rw f (omega (arith, length-take-le p.result (numbers_of 8 s) (omega (arith, e))))

pub returns : goal.returns
unfolding write_header_entry lent_call
returns c =
    let a = c.args in
    let s = a.sizes.now in
    let p = c.numbers-n in
    let e : p.result ≡ min (length (numbers_of 8 s)) 17 = p.ensures.0 ∙ ap (λ (k : ℕ). min k 17) (sym (length_numbers 8 s)) in
    let f : take p.result p.new.t ≡ take p.result (numbers_of 8 s) = put_front p.new.t _ (take p.result (numbers_of 8 s)) p.result p.ensures.1 (length-take-le p.result (numbers_of 8 s) (omega (arith, e))) in
    let q = rw f at (ap (λ x. (x, c.write_lent.new.out)) c.into.ensures ∙ c.write_lent.ensures) in
    q ∙ lent_sizes a.version a.sampletype a.encoding a.endian (numbers_of 8 s) p.result e a.out.now a.orientation.now
