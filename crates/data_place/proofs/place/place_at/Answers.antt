-- `data_place::place::place_at` meets its contract, by its tests.
use borrow.Author.Tests.{eq-eqb, ne_eqb, lt-ltb, le-ltb}
use Rattle.data_place.specs.Places.{place_by}
use Rattle.data_place.proofs.place.place_at.Goals as goal

pub returns-then-reading-ne-RAW : goal.returns-then-reading-ne-RAW
unfolding place_by
returns-then-reading-ne-RAW c = simp (ne_eqb _ _ c.if-reading-ne-RAW.true) c.lies.ensures

pub returns-then-left-reading : goal.returns-then-left-reading
unfolding place_by
returns-then-left-reading c = simp (eq-eqb _ _ c.if-reading-ne-RAW.false, lt-ltb _ _ c.if-left-reading.true)

pub returns : goal.returns
unfolding place_by
returns c = simp (eq-eqb _ _ c.if-reading-ne-RAW.false, le-ltb _ _ c.if-left-reading.false) c.lies-2.ensures
