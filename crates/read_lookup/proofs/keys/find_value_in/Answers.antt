-- `read_lookup::keys::find_value_in` meets its contract: the pass over the lines after line 1, up to the names.
use Rattle.read_header.proofs.Accepted.{some_byte, some_lines}
use Rattle.read_lookup.proofs.Finding.{key_start}
use Rattle.read_lookup.proofs.keys.find_value_in.Goals as goal

pub second_line-requires : goal.second_line-requires
second_line-requires c = some_byte _ c.requires

pub overflow_sub-lines : goal.overflow_sub-lines
overflow_sub-lines c = some_lines _ c.requires

pub last_pair-requires : goal.last_pair-requires
last_pair-requires c =
    key_start c.args.file.now c.requires c.second_line.ensures c.args.key.now
