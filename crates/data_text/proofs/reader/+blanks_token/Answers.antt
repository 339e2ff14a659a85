-- `reader::blanks` and `reader::token` meet their contracts.
use Rattle.std.proofs.Common.{rules, arith, w64}
use mir.Val.{SFits}
use mir.Facts.{to_z-of_z}
use Rattle.data_text.proofs.WalkLaws.{tokens_short, tokens_bad, got, walked_none, walked_stop, walked_more}
use Rattle.data_text.proofs.reader.+blanks_token.Goals as goal

pub blanks-token-requires : goal.blanks-token-requires
blanks-token-requires t c =
    let e = c.skip-i.ensures in
    (omega (arith, e.from, e.within), e.within)

pub token-returns-then-n-eq0 : goal.token-returns-then-n-eq0
token-returns-then-n-eq0 t c = walked_none _ _ _ _ _ _ c.if-n-eq0.true c.requires

pub token-returns-then-i-s : goal.token-returns-then-i-s
token-returns-then-i-s t c =
    walked_stop _ _ _ _ _ _ _ 21 (omega arith) (tokens_short _ _ _ _ _ c.if-n-eq0.false c.if-i-s.true) c.requires

pub token-blanks-requires : goal.token-blanks-requires
token-blanks-requires t c =
    let a = c.args in
    let g = got a.bounds.now.low a.bounds.now.high a.n a.s.now.now a.at.now c.if-n-eq0.false (omega arith) _ _ c.in-Some.ensures in
    (omega (arith, g.ahead, g.within, c.requires), g.within)

pub token-returns-in-None : goal.token-returns-in-None
token-returns-in-None t c =
    let a = c.args in
    walked_stop _ _ _ _ _ _ _ 20 (omega arith)
    (tokens_bad a.bounds.now.low a.bounds.now.high a.n a.s.now.now a.at.now c.if-n-eq0.false (omega arith) c.in-None.ensures)
    c.requires

pub token-returns-in-Some : goal.token-returns-in-Some
token-returns-in-Some t c =
    let a = c.args in
    let g = got a.bounds.now.low a.bounds.now.high a.n a.s.now.now a.at.now c.if-n-eq0.false (omega arith) _ _ c.in-Some.ensures in
    let f : SFits w64 c.in-Some.sample.value = search rules in
    walked_more _ _ _ _ _ _ _ _ _ _ _ _ g (to_z-of_z f) f c.blanks.ensures
