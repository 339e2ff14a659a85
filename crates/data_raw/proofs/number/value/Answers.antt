-- `value` meets its contract: an unsigned value of a type is below 2 ^ 63.
use Rattle.std.proofs.Common.{◌≡◌, ◌%◌, ◌∙◌, arith, to_z-of_z, w64}
use borrow.Author.Rules.{sfits_of}
use mir.Facts.{to_z_pos}
use Rattle.data_raw.proofs.RawLaws.{unsigned_small}
use Rattle.data_raw.proofs.number.value.Goals as goal

pub returns-then-signed : goal.returns-then-signed
returns-then-signed c = rw c.if-signed.true (λ e. to_z-of_z {w = w64} (sfits_of c.signed_value.type_inv) ∙ c.signed_value.ensures)

pub returns-else-signed : goal.returns-else-signed
returns-else-signed c =
    let a = c.args in
    rw c.if-signed.false (λ e.
    let h = unsigned_small a.w a.x e in
    let q : a.x % 9223372036854775808 ≡ a.x = omega arith in
    rw q (to_z_pos w64 {n = a.x} h)
    )
