-- `write_file::write_bytes` meets its contract: the sizes that are unpacked decide as all of them do. Assumes nothing.
use Prim.Native.Nat.{ℕ, min}
use mathlib.Core.Path.{◌≡◌, sym, ap, ◌∙◌}
use native.Mathlib.Omega.{arith}
use lib.ListN.{length, take}
use lib.Seq.{length-take-le}
use Rattle.format.specs.Boundary.{numbers_of, samples_lent}
use Rattle.format.proofs.Boundary.{length_numbers, length_samples}
use Rattle.theorem_room.proofs.Enough.{write_answered}
use Rattle.write_file.proofs.Whole.{put_front, first_sizes}
use Rattle.write_file.proofs.write_bytes.Goals as goal

pub slice_bounds-ns-end : goal.slice_bounds-ns-end
slice_bounds-ns-end c = omega (arith, c.numbers-n.ensures.0)

pub slice_bounds-asked-end : goal.slice_bounds-asked-end
slice_bounds-asked-end c =
    let s = c.args.sizes.now in
    let p = c.numbers-n in
    let e : p.result ≡ min (length (numbers_of 8 s)) 17 = p.ensures.0 ∙ ap (λ (k : ℕ). min k 17) (sym (length_numbers 8 s)) in
    let f : take p.result p.new.t ≡ take p.result (numbers_of 8 s) = put_front p.new.t _ (take p.result (numbers_of 8 s)) p.result p.ensures.1 (length-take-le p.result (numbers_of 8 s) (omega (arith, e))) in
    rw f (omega (arith, length-take-le p.result (numbers_of 8 s) (omega (arith, e))))

pub returns : goal.returns
returns c =
    let s = c.args.sizes.now in
    let p = c.numbers-n in
    let e : p.result ≡ min (length (numbers_of 8 s)) 17 = p.ensures.0 ∙ ap (λ (k : ℕ). min k 17) (sym (length_numbers 8 s)) in
    let f : take p.result p.new.t ≡ take p.result (numbers_of 8 s) = put_front p.new.t _ (take p.result (numbers_of 8 s)) p.result p.ensures.1 (length-take-le p.result (numbers_of 8 s) (omega (arith, e))) in
    let a = c.args in
    let q = rw f at (ap (λ x. (x, c.write_samples.new.out)) c.into.ensures ∙ c.write_samples.ensures) in
    let w = q ∙ first_sizes a.version a.sampletype a.encoding a.endian (samples_lent a.samples.now) a.out.now (numbers_of 8 s) p.result e in
    record { call = w; enough = λ h. write_answered a.version (numbers_of 8 s) a.sampletype a.encoding a.endian (samples_lent a.samples.now) a.out.now w (rw (length_samples a.samples.now) h) }
