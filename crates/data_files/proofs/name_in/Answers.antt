-- `data_files::name_in` meets its contract: a line under LIST, or what the look-up finds.
use native.Mathlib.Omega.{arith}
use mathlib.Core.Path.{refl, ap, ◌∙◌}
use mathlib.Core.List.{List}
use Prim.Native.Nat.{ℕ}
use Rattle.format.proofs.Named.{files_few}
use Rattle.data_files.specs.Asked.{stored_name}
use Rattle.data_files.proofs.CallLaws.{line_ahead, line_called, absent_called, there}
use Rattle.data_files.proofs.name_in.Goals as goal

pub overflow_add-before : goal.overflow_add-before
overflow_add-before c =
    omega (arith, c.requires.below, files_few c.args.file.now c.requires.is)

pub text_of-requires : goal.text_of-requires
text_of-requires c =
    line_ahead c.args.file.now c.args.n c.args.out.now c.requires c.if-before-reading.true

pub returns-then-before-reading : goal.returns-then-before-reading
returns-then-before-reading c =
    let a = c.args in
    c.put_name.ensures
    ∙ ap (λ (s : List ℕ). stored_name s a.out.now) c.text_of.ensures
    ∙ line_called a.file.now a.n a.out.now c.requires c.if-before-reading.true

pub find_descriptor_in-requires : goal.find_descriptor_in-requires
find_descriptor_in-requires c =
    record { entries = c.requires.entries; fields = c.requires.fields; after = c.requires.after; is = c.requires.is; many = c.requires.first }

pub returns-in_default : goal.returns-in_default
returns-in_default c =
    let a = c.args in
    absent_called a.file.now a.n a.out.now c.requires c.if-before-reading.false _ c.in_default.ensures refl

pub overflow_add-end : goal.overflow_add-end
overflow_add-end c =
    omega (arith, (there c.args.file.now c.args.n c.args.out.now c.requires c.if-before-reading.false _ c.in-Some.ensures refl).within)

pub slice_bounds-put_said-end : goal.slice_bounds-put_said-end
slice_bounds-put_said-end c =
    (there c.args.file.now c.args.n c.args.out.now c.requires c.if-before-reading.false _ c.in-Some.ensures refl).within

pub put_said-requires : goal.put_said-requires
put_said-requires c =
    (there c.args.file.now c.args.n c.args.out.now c.requires c.if-before-reading.false _ c.in-Some.ensures refl).asked

pub returns : goal.returns
returns c =
    c.put_said.ensures ∙ (there c.args.file.now c.args.n c.args.out.now c.requires c.if-before-reading.false _ c.in-Some.ensures refl).called
