-- `read_files::list_said` meets its contract.
use lib.ListN.{drop}
use Rattle.format.specs.Words.{words}
use Rattle.format.specs.DataFiles.{axes_said}
use Rattle.read_files.proofs.SaidLaws.{list_answer}
use Rattle.read_files.proofs.list_said.Goals as goal

pub returns : goal.returns
returns c = list_answer (axes_said (words (drop 4 c.args.t.now))) c.read_axes-cover.result c.read_axes-cover.ensures
