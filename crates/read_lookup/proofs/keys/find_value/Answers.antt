-- `read_lookup::keys::find_value` meets its contract: the reading's refusal, or the look-up in a header of so many lines before the names.
use mathlib.Core.Path.{sym, subst}
use Rattle.format.specs.Header.{header}
use Rattle.format.specs.Found.{FindsKey}
use Rattle.format.proofs.Found.{key_found}
use Rattle.read_lookup.proofs.Finding.{before_lines_of}
use Rattle.read_lookup.proofs.keys.find_value.Goals as goal

pub find_value_in-requires : goal.find_value_in-requires
find_value_in-requires c = before_lines_of c.args.file.now c.in_ok-reading.ensures

pub returns-clause-finds : goal.returns-clause-finds
returns-clause-finds c =
    let a = c.args in
    subst (FindsKey a.file.now a.key.now (header a.file.now)) (sym c.find_value_in.ensures) (key_found a.file.now a.key.now)
