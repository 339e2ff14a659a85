-- `State::extent` meets its contract. Assumes nothing.
use Rattle.std.proofs.Common.{mul_comm, arith}
use Rattle.format.specs.Fields.{type}
use Rattle.format.specs.Descriptors.{product, sample_bytes, type_of, sizes_of}
use Rattle.format_values.proofs.ProductLaws.{times_capped}
use Rattle.read_fields.proofs.States.{number_at}
use Rattle.read_fields.proofs.state.State.extent.Goals as goal

pub returns : goal.returns
returns c gs h e =
    rw (c.times.ensures, c.sample_bytes.ensures, c.product.ensures, c.axes.ensures.sizes gs h e, number_at _ gs h type (omega arith), times_capped, mul_comm (sample_bytes (type_of gs)) (product (sizes_of gs)))
