-- `read_lookup::descriptors::find_descriptor` meets its contract: the reading's refusal, or the look-up in a header of so many lines before the names.
use mathlib.Core.Path.{sym, subst}
use Rattle.format.specs.Header.{header}
use Rattle.format.specs.Found.{FindsField}
use Rattle.format.proofs.Found.{field_found}
use Rattle.read_lookup.proofs.Finding.{before_lines_of}
use Rattle.read_lookup.proofs.descriptors.find_descriptor.Goals as goal

pub find_descriptor_in-requires : goal.find_descriptor_in-requires
find_descriptor_in-requires c = before_lines_of c.args.file.now c.in_ok-reading.ensures

pub returns-clause-finds : goal.returns-clause-finds
returns-clause-finds c =
    let a = c.args in
    subst (FindsField a.file.now a.field (header a.file.now)) (sym c.find_descriptor_in.ensures) (field_found a.file.now a.field)
