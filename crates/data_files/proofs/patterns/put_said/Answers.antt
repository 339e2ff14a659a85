-- `data_files::patterns::put_said` meets its contract: the descriptor itself, or its pattern with the number.
use Prim.Native.Nat.{ℕ}
use mathlib.Core.Path.{sym, ap, subst, ◌∙◌}
use Rattle.read_files.specs.Files.{Named, NamedBy}
use mathlib.Core.List.{List}
use Rattle.data_files.specs.Asked.{stored_name}
use Rattle.data_files.proofs.PatternLaws.{name_itself, pattern_there, name_numbered, numbered_called, parts_short}
use Rattle.data_files.proofs.patterns.put_said.Goals as goal

pub returns-then-not-is_many_form : goal.returns-then-not-is_many_form
returns-then-not-is_many_form c =
    let m = c.is_many_form in
    let a = c.args in
    let e = sym m.ensures ∙ c.if-not-is_many_form.true in
    c.put_name.ensures ∙ ap (λ (t : List ℕ). stored_name t a.out.now) (sym (name_itself a.t.now a.n c.requires e))

pub unwrap-p-requires : goal.unwrap-p-requires
unwrap-p-requires c =
    pattern_there c.args.t.now c.args.n c.requires (sym c.is_many_form.ensures ∙ c.if-not-is_many_form.false) c.pattern_in.result c.pattern_in.ensures

pub number_at-value-requires : goal.number_at-value-requires
number_at-value-requires c =
    let p : Named c.args.t.now c.unwrap-p.result = subst (NamedBy c.args.t.now) c.unwrap-p.ensures c.pattern_in.ensures in
    (name_numbered _ _ c.requires (sym c.is_many_form.ensures ∙ c.if-not-is_many_form.false) p).reach

pub put_numbered-requires : goal.put_numbered-requires
put_numbered-requires c =
    let p : Named c.args.t.now c.unwrap-p.result = subst (NamedBy c.args.t.now) c.unwrap-p.ensures c.pattern_in.ensures in
    (parts_short c.args.t.now p c.requires.short, p.width)

pub returns : goal.returns
returns c =
    let a = c.args in
    let v = c.number_at-value in
    let p : Named c.args.t.now c.unwrap-p.result = subst (NamedBy c.args.t.now) c.unwrap-p.ensures c.pattern_in.ensures in
    let w = name_numbered _ _ c.requires (sym c.is_many_form.ensures ∙ c.if-not-is_many_form.false) p in
    numbered_called a.t.now a.n _ w v.result v.ensures a.out.now c.put_numbered.ensures
