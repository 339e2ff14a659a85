-- `fill` meets its contract: its tests refuse only what the premises rule out.
use Rattle.std.proofs.Common.{◌≡◌, refl, sym, ◌∙◌, true, arith, le-leb}
use Rattle.lent_numbers.specs.Widths.{is_width}
use Rattle.lent_numbers.proofs.WidthLaws.{is_width_lem, not_width, not_kept}
use Rattle.data_hex.proofs.fill.Goals.{then-not-is_width-via-then-not-is_width, then-not-is_width-via-else-not-is_width+then-room-n}
use Rattle.data_hex.proofs.fill.Goals as goal

pub returns-then-not-is_width : goal.returns-then-not-is_width
returns-then-not-is_width g c =
    elim c.then-not-is_width.branch [
      | then-not-is_width-via-then-not-is_width w ↦ record { kept = λ _. refl; fills = λ d h z. absurd (not_width _ d (sym c.is_width.ensures ∙ w.if-not-is_width.true)) }
      | then-not-is_width-via-else-not-is_width+then-room-n w ↦ record { kept = λ _. refl; fills = λ d h z. absurd (omega (arith, h, w.room.ensures, w.if-room-n.true)) }
    ]

pub fill_blocks-requires : goal.fill_blocks-requires
fill_blocks-requires g c = record { width = is_width_lem _ (sym c.is_width.ensures ∙ c.if-not-is_width.false); room = g.C.Cell.stores.fits c.args.n _ (omega (arith, c.room.ensures, c.if-room-n.false)) }

pub returns : goal.returns
returns g c =
    let e : is_width c.args.w ≡ true = sym c.is_width.ensures ∙ c.if-not-is_width.false in
    record { kept = λ q. absurd (not_kept _ _ e (le-leb _ _ (omega (arith, c.room.ensures, c.if-room-n.false))) q); fills = λ d h z. c.fill_blocks.ensures z }
