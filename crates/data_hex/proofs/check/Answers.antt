-- `check` meets its contract: what the scan comes to, and for unsigned samples of 8 bytes the values.
use Rattle.std.proofs.Common.{◌≡◌, refl, sym, ap, ◌∙◌, true, arith}
use Rattle.std.proofs.lemmas.Result.{err_from_is_err_and}
use Rattle.format.specs.Reasons.{reason_number, refusal_number}
use Rattle.lent_numbers.specs.Widths.{is_width, endian_by}
use Rattle.lent_numbers.proofs.WidthLaws.{is_width_lem}
use Rattle.data_hex.proofs.LoopLaws.{some_number}
use Rattle.data_hex.proofs.SampleLaws.{signed_told, narrow_told, wide_bad, wide_good}
use Rattle.data_hex.proofs.check.Goals.{else-not-signed-via-then-not-signed+else-w-eq8, else-not-signed-via-else-not-signed}
use Rattle.data_hex.proofs.check.Goals as goal

pub wanted-requires : goal.wanted-requires
wanted-requires c = record { width = is_width_lem _ (sym c.is_width.ensures ∙ c.if-not-is_width.false); len_below_2_63 = omega (arith, c.well_formed) }

pub returns-in_err-check_values : goal.returns-in_err-check_values
returns-in_err-check_values c =
    let a = c.args in
    let n = c.wanted in
    let x = c.scan-scan in
    let e = c.if-w-eq8.true in
    let h = err_from_is_err_and c.from_residual.result c.from_residual.ensures.1 in
    ap refusal_number h.1 ∙ ap reason_number h.2
    ∙ rw (c.if-not-signed.true, e) (wide_bad (endian_by a.big) a.n a.s.now n.result x.result x.ensures (rw e at n.ensures.0) (rw e at n.ensures.1) _ c.in_err-check_values.ensures (some_number c.in_err-check_values.field-0.0))

pub returns-in_ok-check_values : goal.returns-in_ok-check_values
returns-in_ok-check_values c =
    let a = c.args in
    let n = c.wanted in
    let x = c.scan-scan in
    let e = c.if-w-eq8.true in
    rw (c.if-not-signed.true, e) (wide_good (endian_by a.big) a.n a.s.now n.result x.result x.ensures (rw e at n.ensures.0) (rw e at n.ensures.1) 0 c.in_ok-check_values.ensures refl)

pub returns-else-not-signed : goal.returns-else-not-signed
returns-else-not-signed c =
    let a = c.args in
    let n = c.wanted in
    let x = c.scan-scan in
    let w : is_width a.w ≡ true = sym c.is_width.ensures ∙ c.if-not-is_width.false in
    elim c.else-not-signed.branch [
      | else-not-signed-via-then-not-signed+else-w-eq8 v ↦ rw (v.if-not-signed.true, w) (narrow_told a.w (endian_by a.big) a.n a.s.now n.result x.result x.ensures (is_width_lem a.w w) n.ensures.0 n.ensures.1 v.if-w-eq8.false)
      | else-not-signed-via-else-not-signed v ↦ rw (v.if-not-signed.false, w) (signed_told a.w (endian_by a.big) a.n a.s.now n.result x.result x.ensures (is_width_lem a.w w) n.ensures.0 n.ensures.1)
    ]
