-- `read_lookup::keys::copy_to` meets its contract: the bytes at the place that `find_value` answers mean the key's value.
use native.Mathlib.Omega.{arith}
use mathlib.Core.Path.{refl, ap, subst, ◌∙◌}
use lib.ListN.{length}
use Rattle.format.specs.Answers.{place_found}
use Rattle.format.specs.Header.{header}
use Rattle.format.specs.Found.{FindsKey}
use Rattle.read_text.proofs.Meanings.{meant_is, meant_stored}
use Rattle.read_lookup.proofs.Values.{value_found, value_means, value_short, value_copied}
use Rattle.read_lookup.proofs.keys.copy_to.Goals as goal

pub returns-then-out-n : goal.returns-then-out-n
returns-then-out-n c =
    let a = c.args in
    let f = subst (λ o. FindsKey a.file.now a.key.now (header a.file.now) (place_found o)) c.in-Some.is c.in_ok-place.ensures.finds in
    let w = value_found a.file.now a.key.now _ f refl in
    let u = c.unescaped_length-n in
    let n = u.ensures.length ∙ ap length (meant_is _ w.value (value_means a.file.now _ w.place)) in
    rw c.into.ensures (value_short w a.out.now u.result n c.if-out-n.true)

pub returns : goal.returns
returns c =
    let a = c.args in
    let f = subst (λ o. FindsKey a.file.now a.key.now (header a.file.now) (place_found o)) c.in-Some.is c.in_ok-place.ensures.finds in
    let w = value_found a.file.now a.key.now _ f refl in
    let u = c.unescaped_length-n in
    let m = value_means a.file.now _ w.place in
    let n = u.ensures.length ∙ ap length (meant_is _ w.value m) in
    value_copied w a.out.now u.result n c.if-out-n.false _ (meant_stored _ w.value a.out.now _ c.unescape_into.ensures m (omega arith))
