-- `read_lookup::descriptors::find_descriptor_in` meets its contract: the pass over the lines after line 1, up to the names.
use Rattle.read_header.proofs.Accepted.{some_byte, some_lines}
use Rattle.read_lookup.proofs.Finding.{field_start}
use Rattle.read_lookup.proofs.descriptors.find_descriptor_in.Goals as goal

pub second_line-requires : goal.second_line-requires
second_line-requires c = some_byte _ c.requires

pub overflow_sub-lines : goal.overflow_sub-lines
overflow_sub-lines c = some_lines _ c.requires

pub first_field-requires : goal.first_field-requires
first_field-requires c =
    field_start c.args.file.now c.requires c.second_line.ensures c.args.field
