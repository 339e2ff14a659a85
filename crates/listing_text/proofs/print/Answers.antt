-- `listing_text::print` meets its contract: each way to its end is one law of the definition.
use native.Mathlib.Omega.{arith}
use mathlib.Core.Path.{◌≡◌, refl, ap, ◌∙◌}
use Rattle.format.specs.Limits.{max_listing}
use Rattle.format.specs.Refusals.{refusal}
use Rattle.format.specs.Reasons.{reason_number}
use Rattle.format.specs.Calls.{data_answer}
use Rattle.format.specs.Listing.{shown_refusal}
use Rattle.data_place.proofs.Located.{some_number}
use Rattle.listing_print.proofs.Printing.{printed_is, printed_more}
use Rattle.listing_text.proofs.Listed.{reading_within, reading_few, reading_axes, was_read, listing_long, listing_refused, listing_detached, listing_nowhere, listing_placed}
use Rattle.listing_text.proofs.print.Goals as goal

pub returns-then-file-gt-MAX_LISTED : goal.returns-then-file-gt-MAX_LISTED
returns-then-file-gt-MAX_LISTED c =
    printed_more (printed_is c.put_refusal.ensures (listing_long c.args.file.now c.if-file-gt-MAX_LISTED.true)) max_listing (omega arith)

pub returns-in-Err : goal.returns-in-Err
returns-in-Err c =
    let r = c.in-Err in
    let e = listing_refused c.args.file.now _ r.ensures c.if-file-gt-MAX_LISTED.false (some_number r.refused.reason) in
    printed_more (printed_is c.put_refusal-in-Err.ensures (ap shown_refusal c.into.ensures ∙ e)) max_listing (omega arith)

pub put_reading-requires : goal.put_reading-requires
put_reading-requires c =
    let w = was_read c.args.file.now _ c.in-Ok.ensures refl in
    (reading_within w.reading, reading_few w.reading, c.if-file-gt-MAX_LISTED.false, reading_axes w.reading)

pub returns-in-Ok : goal.returns-in-Ok
returns-in-Ok c =
    let file = c.args.file.now in
    let w = was_read file _ c.in-Ok.ensures refl in
    printed_is c.put_reading.ensures (listing_detached file w c.if-file-gt-MAX_LISTED.false c.if-reading-eq-DETACHED.true)

pub returns-in-Err-locate_data : goal.returns-in-Err-locate_data
returns-in-Err-locate_data c =
    let file = c.args.file.now in
    let w = was_read file _ c.in-Ok.ensures refl in
    let d = c.in-Err-locate_data in
    let q = ap data_answer (d.ensures w.entries w.fields w.reading) in
    let e = listing_nowhere file w c.if-file-gt-MAX_LISTED.false c.if-reading-eq-DETACHED.false _ q (some_number d.reason) in
    let r : c.into-in-Err-locate_data.result ≡ refusal (reason_number d.reason) =
    rw (c.into-in-Err-locate_data.ensures, c.at_line.ensures.reason, c.at_line.ensures.line) in
    printed_more (printed_is c.put_refusal-in-Err-locate_data.ensures (ap shown_refusal r ∙ e)) max_listing (omega arith)

pub put_reading-requires-in-Ok-locate_data : goal.put_reading-requires-in-Ok-locate_data
put_reading-requires-in-Ok-locate_data c =
    let w = was_read c.args.file.now _ c.in-Ok.ensures refl in
    (reading_within w.reading, reading_few w.reading, c.if-file-gt-MAX_LISTED.false, reading_axes w.reading)

pub returns-in-Ok-locate_data : goal.returns-in-Ok-locate_data
returns-in-Ok-locate_data c =
    let file = c.args.file.now in
    let w = was_read file _ c.in-Ok.ensures refl in
    let q = ap data_answer (c.in-Ok-locate_data.ensures w.entries w.fields w.reading) in
    printed_is c.put_reading-in-Ok-locate_data.ensures (listing_placed file w c.if-file-gt-MAX_LISTED.false c.if-reading-eq-DETACHED.false _ q refl)
