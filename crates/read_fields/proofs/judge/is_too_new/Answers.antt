-- `judge::is_too_new` meets its contract: each answer is one law over the tests before it. Assumes nothing.
use native.Mathlib.Omega.{arith}
use mathlib.Core.Path.{◌∙◌}
use Rattle.read_fields.proofs.Judging.{too_new, other_version, form_version, any_version}
use Rattle.read_fields.proofs.judge.is_too_new.Goals as goal

pub returns-then-version-since : goal.returns-then-version-since
returns-then-version-since c = let a = c.args in too_new a.version a.f a.t.now (omega arith)

pub returns-then-f-ne-DATA_FILE : goal.returns-then-f-ne-DATA_FILE
returns-then-f-ne-DATA_FILE c = let a = c.args in other_version a.version a.f a.t.now (omega arith) c.if-f-ne-DATA_FILE.true

pub returns-then-version-lt-MANY_FILES_SINCE : goal.returns-then-version-lt-MANY_FILES_SINCE
returns-then-version-lt-MANY_FILES_SINCE c =
    let a = c.args in
    c.is_many_form.ensures ∙ form_version a.version a.f a.t.now (omega arith) (omega arith) (omega arith)

pub returns : goal.returns
returns c = let a = c.args in any_version a.version a.f a.t.now (omega arith) (omega arith)
