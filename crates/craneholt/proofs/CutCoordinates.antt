-- Coordinates past the 16th are never looked at beyond that there is one: 17 of them answer as all.
-- Assumes nothing.
use Prim.Native.Nat.{ℕ, ◌<◌}
use native.Mathlib.Omega.{arith}
use mathlib.Core.Path.{◌≡◌, refl}
use mathlib.Core.Bool.{Bool, true, false}
use mathlib.Core.List.{List}
use lib.Dec.{ltb}
use lib.ListN.{length, take, length-take}
use lib.Seq.{take_all}
use borrow.Author.Tests.{ltb-true, ltb-false}
use Rattle.format.specs.Limits.{max_axes}
use Rattle.format.specs.Descriptors.{sizes_of}
use Rattle.format.specs.Header.{Outcome, refused, accepted, header}
use Rattle.format.specs.Calls.{number_answer, sample_number_call}
use Rattle.data_place.proofs.Numbers.{inside_lengths}
use Rattle.data_place.proofs.Headers.{header_few}

pub number_cut : (file cs : List ℕ) (m : ℕ) → max_axes < m → sample_number_call file (take m cs) ≡ sample_number_call file cs
number_cut file cs m h = go (header file) refl (ltb m (length cs)) refl
  where
    go : (o : Outcome) → header file ≡ o → (b : Bool) → ltb m (length cs) ≡ b → number_answer (take m cs) o ≡ number_answer cs o
    go (refused r) e b f = refl
    go (accepted es gs ls) e false f = rw (take_all m cs (ltb-false m (length cs) f))
    go (accepted es gs ls) e true f =
        let k : m < length cs = ltb-true m (length cs) f in
        let few = header_few file e in
        rw (
          inside_lengths (sizes_of gs) (take m cs) (λ n. omega (arith, length-take m cs)),
          inside_lengths (sizes_of gs) cs (λ n. omega arith),
        )
