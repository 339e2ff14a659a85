-- The loop's invariant: the product of the numbers to come and of p, capped, is that of all.
use Rattle.std.proofs.Common.{◌≡◌, ◌*◌, ◌≤◌, drop}
use Rattle.format.specs.Descriptors.{product, capped}
use Rattle.format.specs.Limits.{past_extent}
use Rattle.format_values.proofs.products.product.Given as goal

abbrev pub invariant-loop-n : goal.invariant-loop-n
invariant-loop-n l = (l.p ≤ past_extent) × (capped (product (drop l.n-index l.ns) * l.p) ≡ capped (product l.ns))
