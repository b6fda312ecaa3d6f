use Rattle.std.proofs.Common.{◌≡◌, drop}
use Rattle.object_meaning.specs.Lines.{after_all}
use Rattle.machine_frames.proofs.numbering.after_all.Given as goal

abbrev pub invariant-loop-inst : goal.invariant-loop-inst
invariant-loop-inst l = after_all l.next (drop l.inst-index l.insts) ≡ after_all l.first l.insts
