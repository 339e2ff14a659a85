-- `listing_text::keys::put_keys` meets its contract: what the lines left show is left to print.
use Prim.Native.Nat.{◌+◌, ◌*◌, ◌≤◌}
use Rattle.listing_text.specs.Shown.{shown_lines, lines_from, Within}
use Rattle.listing_print.proofs.Printing.{Printing}
use Rattle.listing_text.proofs.keys.put_keys.Given as goal

abbrev pub invariant-loop-left : goal.invariant-loop-left
invariant-loop-left l = Within l.file l.at l.left × Printing l.initial.out l.start (shown_lines (lines_from l.file 0 l.count)) l.out l.o (shown_lines (lines_from l.file l.at l.left)) × (l.o + 4 * l.left ≤ l.start + l.at + 4 * l.count)
