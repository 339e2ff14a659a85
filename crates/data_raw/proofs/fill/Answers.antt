-- `fill` meets its contract: its tests refuse only what the premises rule out.
use Rattle.std.proofs.Common.{sym, refl, ◌∙◌, div-lt_iff_lt-mul, le-div_iff_mul-le, arith, le-leb}
use Rattle.lent_numbers.proofs.WidthLaws.{is_width_lem, not_width, width_pos, enough_is, not_kept}
use Rattle.data_raw.proofs.fill.Goals.{then-room-n-via-then-room-n, then-room-n-via-else-room-n+then-not-is_width, then-room-n-via-else-room-n+else-not-is_width+then-s-w}
use Rattle.data_raw.proofs.fill.Goals as goal

pub returns-then-room-n : goal.returns-then-room-n
returns-then-room-n g c =
    elim c.then-room-n.branch [
      | then-room-n-via-then-room-n w ↦ record { kept = λ _. refl; fills = λ d h l z. absurd (omega (arith, l, c.room.ensures, w.if-room-n.true)) }
      | then-room-n-via-else-room-n+then-not-is_width w ↦ record { kept = λ _. refl; fills = λ d h l z. absurd (not_width _ d (sym w.is_width.ensures ∙ w.if-not-is_width.true)) }
      | then-room-n-via-else-room-n+else-not-is_width+then-s-w w ↦ record { kept = λ _. refl; fills = λ d h l z. absurd (omega (arith, (div-lt_iff_lt-mul (width_pos _ d)).0 w.if-s-w.true)) }
    ]

pub nonzero_div-s : goal.nonzero_div-s
nonzero_div-s g c = width_pos _ (is_width_lem _ (sym c.is_width.ensures ∙ c.if-not-is_width.false))

pub put_all-requires : goal.put_all-requires
put_all-requires g c = let d = is_width_lem _ (sym c.is_width.ensures ∙ c.if-not-is_width.false) in record { width = d; bytes_there = (le-div_iff_mul-le (width_pos _ d)).0 c.if-s-w.false; room = g.C.Cell.stores.fits c.args.n _ (omega (arith, c.room.ensures, c.if-room-n.false)) }

pub returns : goal.returns
returns g c =
    let a = c.args in
    let d = is_width_lem _ (sym c.is_width.ensures ∙ c.if-not-is_width.false) in
    let e = enough_is a.w a.n _ d ((le-div_iff_mul-le (width_pos _ d)).0 c.if-s-w.false) in
    record { kept = λ q. absurd (not_kept _ _ e (le-leb _ _ (omega (arith, c.room.ensures, c.if-room-n.false))) q); fills = λ d h l z. c.put_all.ensures z }
