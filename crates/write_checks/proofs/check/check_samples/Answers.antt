-- `write_checks::check::check_samples` meets its contract: a law of Refuse.antt for each return. Assumes nothing.
use Rattle.std.proofs.Common.{arith, rules, sym, ◌∙◌}
use Rattle.format.specs.Codes.{type_code, encoding_code, endian_code}
use Rattle.write_checks.proofs.Refuse.{type_few, type_range, lowest_type, highest_type, early_extent, early_float, early_count, early_sample, early_fine, ready}
use Rattle.write_checks.proofs.check.check_samples.Goals as goal

pub returns-then-times-gt-MAX_EXTENT-clause-is : goal.returns-then-times-gt-MAX_EXTENT-clause-is
returns-then-times-gt-MAX_EXTENT-clause-is g c ok =
    let a = c.args.array.now in
    early_extent a.version a.sizes.now (type_code a.coding.sample_type) (encoding_code a.coding.encoding) (endian_code a.coding.endian) (g.S.Source.samples c.args.samples.now) c.product-n.ensures c.count-count.ensures c.bytes-width.ensures c.times.ensures
    ok c.if-times-gt-MAX_EXTENT.true

pub returns-then-is_floating-clause-is : goal.returns-then-is_floating-clause-is
returns-then-is_floating-clause-is g c ok =
    let a = c.args.array.now in
    early_float a.version a.sizes.now (type_code a.coding.sample_type) (encoding_code a.coding.encoding) (endian_code a.coding.endian) (g.S.Source.samples c.args.samples.now) c.product-n.ensures c.count-count.ensures c.bytes-width.ensures c.times.ensures
    c.if-times-gt-MAX_EXTENT.false ok (sym c.is_floating.ensures ∙ c.if-is_floating.true)

pub returns-then-count-n-clause-is : goal.returns-then-count-n-clause-is
returns-then-count-n-clause-is g c ok =
    let a = c.args.array.now in
    early_count a.version a.sizes.now (type_code a.coding.sample_type) (encoding_code a.coding.encoding) (endian_code a.coding.endian) (g.S.Source.samples c.args.samples.now) c.product-n.ensures c.count-count.ensures c.bytes-width.ensures c.times.ensures
    c.if-times-gt-MAX_EXTENT.false (sym c.is_floating.ensures ∙ c.if-is_floating.false) ok c.if-count-n.true

pub all_in_range-requires-clause-whole_range : goal.all_in_range-requires-clause-whole_range
all_in_range-requires-clause-whole_range g c =
    let t = c.args.array.now.coding.sample_type in
    let i = sym c.is_floating.ensures ∙ c.if-is_floating.false in
    let low = lowest_type (type_code t) i c.is_signed-signed.ensures c.bytes-width.ensures c.lowest-low.ensures in
    let high = highest_type (type_code t) i c.is_signed-signed.ensures c.bytes-width.ensures c.highest-high.ensures in
    type_range (type_code t) (type_few t) low.0 high.0

pub returns-then-not-all_in_range-clause-is : goal.returns-then-not-all_in_range-clause-is
returns-then-not-all_in_range-clause-is g c ok =
    let a = c.args.array.now in
    let t = type_code a.coding.sample_type in
    let i = sym c.is_floating.ensures ∙ c.if-is_floating.false in
    let low = lowest_type t i c.is_signed-signed.ensures c.bytes-width.ensures c.lowest-low.ensures in
    let high = highest_type t i c.is_signed-signed.ensures c.bytes-width.ensures c.highest-high.ensures in
    early_sample a.version a.sizes.now (type_code a.coding.sample_type) (encoding_code a.coding.encoding) (endian_code a.coding.endian) (g.S.Source.samples c.args.samples.now) c.product-n.ensures c.count-count.ensures c.bytes-width.ensures c.times.ensures
    c.if-times-gt-MAX_EXTENT.false i c.if-count-n.false low.0 high.0 c.all_in_range.ensures ok c.if-not-all_in_range.true

pub returns-clause-is : goal.returns-clause-is
returns-clause-is g c ok =
    let a = c.args.array.now in
    let t = type_code a.coding.sample_type in
    let i = sym c.is_floating.ensures ∙ c.if-is_floating.false in
    let low = lowest_type t i c.is_signed-signed.ensures c.bytes-width.ensures c.lowest-low.ensures in
    let high = highest_type t i c.is_signed-signed.ensures c.bytes-width.ensures c.highest-high.ensures in
    early_fine a.version a.sizes.now (type_code a.coding.sample_type) (encoding_code a.coding.encoding) (endian_code a.coding.endian) (g.S.Source.samples c.args.samples.now) c.product-n.ensures c.count-count.ensures c.bytes-width.ensures c.times.ensures
    c.if-times-gt-MAX_EXTENT.false i c.if-count-n.false low.0 high.0 c.all_in_range.ensures ok c.if-not-all_in_range.false

pub returns-clause-ready : goal.returns-clause-ready
returns-clause-ready g c =
    let a = c.args.array.now in
    let t = type_code a.coding.sample_type in
    let i = sym c.is_floating.ensures ∙ c.if-is_floating.false in
    let low = lowest_type t i c.is_signed-signed.ensures c.bytes-width.ensures c.lowest-low.ensures in
    let high = highest_type t i c.is_signed-signed.ensures c.bytes-width.ensures c.highest-high.ensures in
    ready a.version a.sizes.now (type_code a.coding.sample_type) (encoding_code a.coding.encoding) (endian_code a.coding.endian) (g.S.Source.samples c.args.samples.now) c.product-n.ensures c.count-count.ensures c.bytes-width.ensures c.times.ensures
    c.if-times-gt-MAX_EXTENT.false i c.if-count-n.false low.0 high.0 c.all_in_range.ensures c.if-not-all_in_range.false
