-- `find` meets its contract: the reading's refusal, that of the place, and then the data that is there.
use Rattle.std.proofs.Common.{Err, ◌≡◌, ap, ◌∙◌, rules}
use Rattle.format.specs.Reasons.{without_line}
use Rattle.data_samples.specs.Parts.{decoded_by}
use Rattle.data_samples.proofs.Parts.{found, samples_placed, place_refused, place_ready}
use Rattle.data_samples.proofs.find.Goals as goal

pub returns-in_err-located : goal.returns-in_err-located
returns-in_err-located c =
    let f = c.args.file.now in
    let s = c.args.second.now in
    let e : c.from_residual-in_err-located.result ≡ Err (without_line c.in_err-located.field-0.0) = search rules in
    rw e (place_refused f s (samples_placed f s c.in_ok-reading.reading c.in_ok-reading.ensures _ c.in_err-located.ensures))

pub part-requires : goal.part-requires
part-requires c =
    let f = c.args.file.now in
    let s = c.args.second.now in
    (place_ready f s (samples_placed f s c.in_ok-reading.reading c.in_ok-reading.ensures _ c.in_ok-located.ensures)).within

pub of-requires : goal.of-requires
of-requires c =
    let f = c.args.file.now in
    let s = c.args.second.now in
    rw c.part.ensures (place_ready f s (samples_placed f s c.in_ok-reading.reading c.in_ok-reading.ensures _ c.in_ok-located.ensures)).decodable

pub returns : goal.returns
returns c =
    let f = c.args.file.now in
    let s = c.args.second.now in
    let r = place_ready f s (samples_placed f s c.in_ok-reading.reading c.in_ok-reading.ensures _ c.in_ok-located.ensures) in
    found f s c.of.result c.of.ensures.count (c.of.ensures.decoded ∙ ap (decoded_by c.in_ok-reading.reading _) c.part.ensures) r
