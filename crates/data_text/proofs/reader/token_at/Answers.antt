-- `reader::token_at` meets its contract: a short token by its bytes, another by a loop over them.
use native.Mathlib.Omega.{arith}
use mathlib.Core.Path.{refl, ◌∙◌}
use lib.Dec.{eqb}
use lib.ListN.{get_or}
use Rattle.data_text.proofs.ShortLaws.{short_token}
use borrow.Author.Rules.{rules}
use Rattle.data_text.proofs.reader.token_at.Goals as goal

pub front-n-requires : goal.front-n-requires
front-n-requires c = omega (arith, c.has_room.ensures c.if-has_room.true)

pub is_token-requires : goal.is_token-requires
is_token-requires c = omega (arith, c.front-n.ensures.few, c.has_room.ensures c.if-has_room.true)

pub number-requires : goal.number-requires
number-requires c =
    (omega (arith, c.has_room.ensures c.if-has_room.true), (c.front-n.ensures, (c.is_token.ensures c.if-is_token.true).0))

pub returns-then-is_token : goal.returns-then-is_token
returns-then-is_token c =
    let a = c.args in
    let yes = c.is_token.ensures c.if-is_token.true in
    let room = c.has_room.ensures c.if-has_room.true in
    c.bounded.ensures
    ∙ short_token a.bounds.now.low a.bounds.now.high a.s.now a.at (search rules) (search rules) (omega arith) c.front-n.result c.number.result
    (omega (arith, c.front-n.ensures.few)) yes.0 yes.1 c.number.ensures (eqb (get_or a.s.now a.at 0) 45) refl
