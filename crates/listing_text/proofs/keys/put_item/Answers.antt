-- `listing_text::keys::put_item` meets its contract.
use Prim.Native.Nat.{ℕ}
use native.Mathlib.Omega.{arith}
use mathlib.Core.Path.{sym, ap, ◌∙◌}
use mathlib.Core.List.{List}
use mathlib.Core.Option.{Option}
use lib.Seq.{length-take-le}
use Rattle.read_text.proofs.Places.{kind_told}
use Rattle.read_header.proofs.Accepted.{told_no_pair}
use Rattle.listing_text.specs.Shown.{shown_texts, lines_from}
use Rattle.listing_print.proofs.Printing.{printed_none, printed_is}
use Rattle.listing_text.proofs.KeyLines.{pair_later, pair_last}
use Rattle.listing_text.proofs.keys.put_item.Goals as goal

pub slice_bounds-is_later-end : goal.slice_bounds-is_later-end
slice_bounds-is_later-end c = sym (length-take-le _ _ (omega (arith, (kind_told c.args.t.now c.in-Pair.ensures).1)))

pub is_later-requires : goal.is_later-requires
is_later-requires c = c.requires.0

pub returns-then-is_later : goal.returns-then-is_later
returns-then-is_later c =
    let a = c.args in
    printed_is (printed_none _ a.out.now a.at) (pair_later a.t.now _ (kind_told c.args.t.now c.in-Pair.ensures) (lines_from a.file.now a.next a.left) (sym c.is_later.ensures ∙ c.if-is_later.true))

pub put_key-requires : goal.put_key-requires
put_key-requires c = ((kind_told c.args.t.now c.in-Pair.ensures).1, c.requires.1)

pub returns-else-is_later : goal.returns-else-is_later
returns-else-is_later c =
    let a = c.args in
    printed_is c.put_key.ensures (pair_last a.t.now _ (kind_told c.args.t.now c.in-Pair.ensures) (lines_from a.file.now a.next a.left) (sym c.is_later.ensures ∙ c.if-is_later.false))

pub returns-in_default : goal.returns-in_default
returns-in_default c =
    let a = c.args in
    let e = told_no_pair a.t.now c.kind_of.result c.kind_of.ensures c.in_default.not-Pair in
    printed_is (printed_none _ a.out.now a.at) (sym (ap (λ (o : Option (List ℕ × List ℕ)). shown_texts o (lines_from a.file.now a.next a.left)) e))
