-- `write_file::write_samples` meets its contract: the laws of Whole.antt, from what each call ensures. Assumes nothing.
use Rattle.std.proofs.Common.{◌≡◌, sym, ap, ◌∙◌, arith, length, take, length-take}
use Rattle.format.specs.Codes.{type_code, endian_code}
use Rattle.format.specs.Descriptors.{sample_bytes, number_kind}
use Rattle.format.specs.Writer.{header_bytes}
use Rattle.lent_numbers.proofs.WidthLaws.{width_le}
use Rattle.theorem_room.proofs.Written.{text_bound}
use Rattle.write_parts.proofs.Runs.{stored_front}
use Rattle.write_checks.specs.Checked.{on_array}
use Rattle.write_checks.proofs.Refuse.{few_samples, type_wide}
use Rattle.write_data.proofs.Samples.{low_data}
use Rattle.write_file.proofs.Reasons.{answer_is}
use Rattle.write_file.proofs.Whole.{asked_refused, file_refused, file_fits, file_stored}
use Rattle.write_file.proofs.write_samples.Goals as goal

pub returns-in_err-array : goal.returns-in_err-array
returns-in_err-array g c =
    let out = c.args.out.now in
    let reason = c.in_err-array.field-0.0 in
    ap (λ a. (a, out)) (answer_is c.from_residual.result reason c.from_residual.ensures) ∙ asked_refused c.args.asked (g.S.Source.samples c.args.samples.now) out reason c.in_err-array.ensures.refusal

pub check_file-requires-clause-bounded : goal.check_file-requires-clause-bounded
check_file-requires-clause-bounded g c =
    let t = type_code c.in_ok-array.array.coding.sample_type in
    let r = c.in_ok-array.ensures.ready in
    rw c.bytes-width.ensures (c.put_header-start.ensures.long, few_samples t (g.S.Source.samples c.args.samples.now) r, r.extent_small)

pub check_file-requires-clause-text_bounded : goal.check_file-requires-clause-text_bounded
check_file-requires-clause-text_bounded g c =
    let t = c.in_ok-array.array.coding.sample_type in
    let w = sample_bytes (type_code t) in
    omega (arith, text_bound w (width_le w (type_wide t)) (number_kind (type_code t)) (g.S.Source.samples c.args.samples.now) c.in_ok-array.ensures.ready.in_type)

pub returns-in_err-check_file : goal.returns-in_err-check_file
returns-in_err-check_file g c =
    let a = c.in_ok-array.array in
    let out = c.args.out.now in
    let f = c.from_residual-in_err-check_file in
    let reason = c.in_err-check_file.field-0.0 in
    ap (λ a. (a, out)) (answer_is f.result reason f.ensures)
    ∙ file_refused c.args.asked a c.in_ok-array.ensures.array (g.S.Source.samples c.args.samples.now) out c.in_ok-array.ensures.refusal c.put_header-start.result c.put_header-start.ensures.place reason (rw (c.code-encoding.ensures, c.bytes-width.ensures) at c.in_err-check_file.ensures (endian_code a.coding.endian))

pub put_bytes-requires : goal.put_bytes-requires
put_bytes-requires g c =
    let a = c.in_ok-array.array in
    let h = c.put_header-start in
    let short = rw (c.code-encoding.ensures, c.bytes-width.ensures) at c.in_ok-check_file.ensures (endian_code a.coding.endian) in
    omega (arith, length-take h.result h.new.out, file_fits c.args.asked a c.in_ok-array.ensures.array (g.S.Source.samples c.args.samples.now) c.args.out.now c.in_ok-array.ensures.refusal h.result h.ensures.place short)

pub put_data-requires-clause-raw_bytes : goal.put_data-requires-clause-raw_bytes
put_data-requires-clause-raw_bytes g c =
    let t = c.in_ok-array.array.coding.sample_type in
    let n = type_code t in
    let w = sample_bytes n in
    rw c.bytes-width.ensures (type_wide t, low_data w (width_le w (type_wide t)) (number_kind n) c.code-endian.result (g.S.Source.samples c.args.samples.now) c.in_ok-array.ensures.ready.in_type)

pub put_data-requires-clause-room : goal.put_data-requires-clause-room
put_data-requires-clause-room g c =
    let a = c.in_ok-array.array in
    let h = c.put_header-start in
    let short = rw (c.code-encoding.ensures, c.bytes-width.ensures) at c.in_ok-check_file.ensures (endian_code a.coding.endian) in
    rw (c.code-encoding.ensures, c.bytes-width.ensures, c.code-endian.ensures) (omega (arith, c.put_bytes.auto.out, file_fits c.args.asked a c.in_ok-array.ensures.array (g.S.Source.samples c.args.samples.now) c.args.out.now c.in_ok-array.ensures.refusal h.result h.ensures.place short))

pub returns : goal.returns
returns g c =
    let a = c.in_ok-array.array in
    let zs = g.S.Source.samples c.args.samples.now in
    let h = c.put_header-start in
    let p = c.put_data in
    let f : take h.result h.new.out ≡ on_array header_bytes a = stored_front h.new.out _ (on_array header_bytes a) h.result h.ensures.stored h.ensures.place (omega (arith, h.ensures.long)) in
    let short = rw (c.code-encoding.ensures, c.bytes-width.ensures) at c.in_ok-check_file.ensures (endian_code a.coding.endian) in
    file_stored c.args.asked a c.in_ok-array.ensures.array zs c.args.out.now c.in_ok-array.ensures.refusal h.result h.ensures.place short
    (take h.result h.new.out) c.put_bytes.new.out p.new.out p.result f c.put_bytes.ensures.stored (rw (c.code-encoding.ensures, c.bytes-width.ensures, c.code-endian.ensures) at p.ensures.stored) (rw (c.code-encoding.ensures, c.bytes-width.ensures, c.code-endian.ensures) at p.ensures.place)
