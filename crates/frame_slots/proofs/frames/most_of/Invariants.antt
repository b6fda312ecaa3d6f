use Rattle.std.proofs.Common.{◌≡◌, ◌<◌, ◌^◌, drop, fold, map, max}
use Rattle.frame_forms.specs.FrameSizes.{words_at}
use Rattle.frame_slots.proofs.frames.most_of.Given as goal

abbrev pub invariant-loop-inst : goal.invariant-loop-inst
invariant-loop-inst l =
    (fold max l.most (map words_at (drop l.inst-index l.insts)) ≡ fold max l.fn.start (map words_at l.insts)) × (l.most < 2 ^ 60)
