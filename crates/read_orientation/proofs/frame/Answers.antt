-- `frame` meets its contract: where there is no frame, none is read.
use native.Mathlib.Omega.{arith}
use mathlib.Core.Path.{◌∙◌}
use lib.ListN.{length-take}
use Rattle.read_orientation.proofs.PlaceLaws.{lies}
use Rattle.read_orientation.proofs.CallLaws.{frame_refused, frame_none, frame_given}
use Rattle.read_orientation.proofs.frame.Goals as goal

pub returns-in_default : goal.returns-in_default
returns-in_default c = c.no_frame.ensures ∙ frame_refused c.args.file.now _ c.in_default.ensures

pub returns-in_default-field : goal.returns-in_default-field
returns-in_default-field c = c.no_frame-in_default-field.ensures ∙ frame_none c.args.file.now c.in-Ok.ensures c.in_default-field.is

pub slice_bounds-read_frame-start : goal.slice_bounds-read_frame-start
slice_bounds-read_frame-start c = (lies c.in-Ok.ensures.field_is c.in-Some.is).ordered

pub slice_bounds-read_frame-end : goal.slice_bounds-read_frame-end
slice_bounds-read_frame-end c = (lies c.in-Ok.ensures.field_is c.in-Some.is).within

pub read_frame-requires : goal.read_frame-requires
read_frame-requires c =
    let l = lies c.in-Ok.ensures.field_is c.in-Some.is in
    (simp length-take (omega (arith, l.short)), l.few)

pub returns : goal.returns
returns c = c.read_frame.ensures ∙ frame_given c.args.file.now c.in-Ok.ensures c.in-Some.is
