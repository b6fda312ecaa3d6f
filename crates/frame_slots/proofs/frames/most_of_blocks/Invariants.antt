use Rattle.std.proofs.Common.{◌≡◌, ◌<◌, ◌^◌, drop, fold, map, max}
use Rattle.ir_ast.specs.Funcs.{instructions_of}
use Rattle.frame_forms.specs.FrameSizes.{words_at}
use Rattle.frame_slots.proofs.frames.most_of_blocks.Given as goal

abbrev pub invariant-loop-block : goal.invariant-loop-block
invariant-loop-block l =
    (fold max l.most (map words_at (instructions_of (drop l.block-index l.blocks))) ≡ fold max 0 (map words_at (instructions_of l.blocks))) × (l.most < 2 ^ 60)
