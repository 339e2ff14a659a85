-- `reader::long_token` meets its contract: by what its sign is.
use Rattle.std.proofs.Common.{eqb, get_or, refl, sym, ap, ◌∙◌, rules}
use Rattle.std.specs.Prelude.{if◌then◌else◌}
use Rattle.data_text.specs.Tokens.{by_sign, bound_token}
use Rattle.data_text.proofs.ShortLaws.{digits_bound}
use Rattle.data_text.proofs.reader.long_token.Goals as goal

pub returns-in_err-run : goal.returns-in_err-run
returns-in_err-run c =
    let a = c.args in
    let b = a.bounds.now in
    let x = eqb (get_or a.s.now a.at 0) 45 in
    c.from_residual.ensures
    ∙ ap (bound_token (by_sign x) (if x then b.low else b.high)) (sym c.in_err-run.was)
    ∙ digits_bound b.low b.high a.s.now a.at (search rules) (search rules) (search rules) c.is_sign.ensures c.digits_at.ensures

pub returns : goal.returns
returns c =
    let a = c.args in
    let b = a.bounds.now in
    let x = eqb (get_or a.s.now a.at 0) 45 in
    c.bounded.ensures
    ∙ ap (bound_token (by_sign x) (if x then b.low else b.high)) (sym c.in_ok-run.was)
    ∙ digits_bound b.low b.high a.s.now a.at (search rules) (search rules) (search rules) c.is_sign.ensures c.digits_at.ensures
