use Rattle.format_values.proofs.TypeLaws.{bytes_or_first, kind_or_first}
use Rattle.format_values.proofs.types.type_of.Goals as goal

pub returns : goal.returns
returns c =
    let t = c.args.t in
    let named = c.try_from.result in
    let told = c.try_from.ensures in
    record { bytes = rw c.unwrap_or.ensures (bytes_or_first t named told); kind = rw c.unwrap_or.ensures (kind_or_first t named told) }
