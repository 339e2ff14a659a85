-- Entry k of lent bytes is stored.
use Rattle.std.proofs.Common.{ap, ◌∙◌, arith, rules}
use Rattle.format.specs.Boundary.{numbers_of}
use Rattle.format.proofs.Samples.{all_bytes}
use Rattle.format.proofs.Boundary.{length_numbers}
use Rattle.read_table.proofs.Packed.{put_entries, put_cells}
use Rattle.read_table.proofs.cells.U8Entry.put.Goals as goal

pub put_entry-requires : goal.put_entry-requires
put_entry-requires c = omega (arith, c.requires, length_numbers 4 c.args.bytes.now)

pub returns-clause-entries : goal.returns-clause-entries
returns-clause-entries c =
    let a = c.args in
    ap (numbers_of 4) c.put_entry.ensures ∙ put_entries a.bytes.now a.k a.x (all_bytes a.bytes.now (λ i. search rules)) c.requires (omega arith)

pub returns-clause-cells : goal.returns-clause-cells
returns-clause-cells c =
    let a = c.args in
    c.put_entry.ensures ∙ put_cells a.bytes.now a.k a.x (all_bytes a.bytes.now (λ i. search rules)) c.requires
