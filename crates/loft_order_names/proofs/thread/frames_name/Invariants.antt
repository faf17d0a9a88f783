use Rattle.std.proofs.Common.{◌↔◌, drop}
use Rattle.loft_tree.specs.Fits.{Each}
use Rattle.loft_sense.specs.Fits.{FrameNames}
use Rattle.loft_order_names.proofs.thread.frames_name.Given as goal

-- the frames that are left decide
abbrev pub invariant-loop-frame : goal.invariant-loop-frame
invariant-loop-frame l = Each (FrameNames l.heads) l.frames ↔ Each (FrameNames l.heads) (drop l.frame-index l.frames)
