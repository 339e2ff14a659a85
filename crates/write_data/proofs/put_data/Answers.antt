-- `write_data::put_data` meets its contract. Assumes nothing.
use Rattle.std.proofs.Common.{◌≡◌, ◌+◌, ◌*◌, ℕ, List, [], ◌∷◌, ◌++◌, length, set, arith, sym, ap, ◌∙◌}
use mathlib.Core.List.{flat_map}
use Rattle.std.proofs.lemmas.List.Edits.{sets}
use Rattle.format.specs.Bytes.{LF}
use Rattle.format.specs.Writer.{hex_text}
use Rattle.format.proofs.Stores.{sets_then}
use Rattle.write_data.specs.Data.{low_bytes}
use Rattle.write_data.proofs.Samples.{raw_is, raw_is_long, text_is, hex_is, hex_long, hex_whole}
use Rattle.write_data.proofs.put_data.Goals as goal

pub put_raw-requires-clause-room : goal.put_raw-requires-clause-room
put_raw-requires-clause-room g c =
    let a = c.args in
    omega (arith, raw_is_long a.encoding a.w a.endian (g.S.Source.samples a.samples.now) c.in-0.is, c.requires.room)

pub returns-in-0 : goal.returns-in-0
returns-in-0 g c =
    let a = c.args in
    let zs = g.S.Source.samples a.samples.now in
    let p = c.put_raw.ensures in
    let e = c.in-0.is in
    record { place = omega (arith, p.place, raw_is_long a.encoding a.w a.endian zs e); stored = p.stored ∙ ap (sets a.out.now a.at) (c.requires.raw_bytes.1 ∙ sym (raw_is a.encoding a.w a.endian zs e)) }

pub put_text-requires : goal.put_text-requires
put_text-requires g c =
    let a = c.args in
    omega (arith, ap length (text_is a.encoding a.w a.endian (g.S.Source.samples a.samples.now) c.in-1.is), c.requires.room)

pub returns-in-1 : goal.returns-in-1
returns-in-1 g c =
    let a = c.args in
    let p = c.put_text.ensures in
    let e = text_is a.encoding a.w a.endian (g.S.Source.samples a.samples.now) c.in-1.is in
    record { place = omega (arith, p.place, ap length e); stored = p.stored ∙ ap (sets a.out.now a.at) (sym e) }

pub put_hex-end-requires-clause-room : goal.put_hex-end-requires-clause-room
put_hex-end-requires-clause-room g c =
    let a = c.args in
    omega (arith, hex_long a.encoding a.w a.endian (g.S.Source.samples a.samples.now) (λ e. absurd (omega (arith, e))) (λ e. absurd (omega (arith, e))), c.requires.room)

pub bounds-out-end : goal.bounds-out-end
bounds-out-end g c =
    let a = c.args in
    let p = c.put_hex-end in
    omega (arith, hex_long a.encoding a.w a.endian (g.S.Source.samples a.samples.now) (λ e. absurd (omega (arith, e))) (λ e. absurd (omega (arith, e))), c.requires.room, p.ensures.place, p.auto.out)

pub overflow_add-result : goal.overflow_add-result
overflow_add-result g c =
    let a = c.args in
    omega (arith, hex_long a.encoding a.w a.endian (g.S.Source.samples a.samples.now) (λ e. absurd (omega (arith, e))) (λ e. absurd (omega (arith, e))), c.requires.room, c.put_hex-end.ensures.place)

pub returns-in_default : goal.returns-in_default
returns-in_default g c =
    let a = c.args in
    let zs = g.S.Source.samples a.samples.now in
    let p = c.put_hex-end in
    let u = hex_text (flat_map (low_bytes a.w a.endian) zs) in
    let e : p.result ≡ a.at + length u = omega (arith, p.ensures.place, hex_whole a.w a.endian zs) in
    record {
      place = omega (arith, p.ensures.place, hex_long a.encoding a.w a.endian zs (λ e. absurd (omega (arith, e))) (λ e. absurd (omega (arith, e))));
      stored = ap (λ (d : List ℕ). set d p.result LF) p.ensures.stored ∙ sets_then a.out.now u (LF ∷ []) a.at p.result e
          ∙ ap (sets a.out.now a.at) (ap (λ (r : List ℕ). hex_text r ++ LF ∷ []) c.requires.raw_bytes.1 ∙ sym (hex_is a.encoding a.w a.endian zs (λ e. absurd (omega (arith, e))) (λ e. absurd (omega (arith, e)))));
    }
