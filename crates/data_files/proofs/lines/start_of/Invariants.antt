-- `data_files::lines::start_of` meets its contract: line by line the same text stays ahead.
use Prim.Native.Nat.{◌-◌}
use Rattle.data_files.specs.Asked.{Ahead, line_text}
use Rattle.data_files.proofs.lines.start_of.Given as goal

abbrev pub invariant-loop : goal.invariant-loop
invariant-loop l = Ahead l.file l.at (l.count - l.counter) (line_text l.file l.count)
