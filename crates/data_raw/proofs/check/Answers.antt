-- `check` meets its contract: signed and narrow samples are never refused.
use borrow.Author.Rules.{rules}
use Rattle.std.proofs.Common.{length, sym, refl, ◌∙◌, inr, div-lt_iff_lt-mul, le-div_iff_mul-le, arith, lit<}
use mathlib.Core.Bool.{false≢true}
use Rattle.data_raw.proofs.RawLaws.{signed_fine, narrow_fine}
use Rattle.lent_numbers.specs.Widths.{endian_by, enough}
use Rattle.lent_numbers.proofs.WidthLaws.{enough_is, is_enough, told_by}
use Rattle.data_raw.proofs.check.Goals.{then-signed-via-then-signed, then-signed-via-else-signed+then-w-ne8, then-signed-via-else-signed+else-w-ne8+then-s-n}
use Rattle.data_raw.proofs.check.Goals as goal

pub returns-then-signed : goal.returns-then-signed
returns-then-signed c =
    let a = c.args in
    let s = a.s.now in
    elim c.then-signed.branch [
      | then-signed-via-then-signed w ↦ rw w.if-signed.true
          (told_by (enough a.w a.n (length s))
          (λ e. let h = is_enough a.w a.n (length s) e in sym (signed_fine a.w (endian_by a.big) a.n s h.0 (λ i. search rules) h.1)) (λ _. refl))
      | then-signed-via-else-signed+then-w-ne8 w ↦ rw w.if-signed.false
          (told_by (enough a.w a.n (length s))
          (λ e. let h = is_enough a.w a.n (length s) e in sym (narrow_fine a.w (endian_by a.big) a.n s h.0 (λ i. search rules) h.1 w.if-w-ne8.true)) (λ _. refl))
      | then-signed-via-else-signed+else-w-ne8+then-s-n w ↦ rw w.if-w-ne8.false
          (told_by (enough 8 a.n (length s)) (λ e. absurd (omega (arith, (div-lt_iff_lt-mul (lit< tt)).0 w.if-s-n.true, (is_enough 8 a.n (length s) e).1))) (λ _. refl))
    ]

pub check_words-requires : goal.check_words-requires
check_words-requires c = (le-div_iff_mul-le (lit< tt)).0 c.if-s-n.false

pub returns : goal.returns
returns c =
    let a = c.args in
    let s = a.s.now in
    let e = enough_is 8 a.n (length s) (inr (inr (inr refl))) ((le-div_iff_mul-le (lit< tt)).0 c.if-s-n.false) in
    rw (c.if-signed.false, c.if-w-ne8.false) (told_by (enough 8 a.n (length s)) (λ _. c.check_words.ensures) (λ q. absurd (false≢true (sym q ∙ e))))
