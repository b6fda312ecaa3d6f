use Rattle.std.proofs.Common.{◌≡◌, ◌+◌, ◌++◌, drop, length, map}
use Rattle.ir_ast.specs.Funcs.{instructions_of}
use Rattle.frame_forms.specs.BundleWords.{bundles_from}
use Rattle.frame_slots.specs.Tables.{words_of}
use Rattle.frame_slots.proofs.bundles.bundles_of.Given as goal

abbrev pub invariant-loop-block : goal.invariant-loop-block
invariant-loop-block l =
    (map words_of l.bundles.items ++ bundles_from l.place (instructions_of (drop l.block-index l.block-items))
    ≡ bundles_from 0 (instructions_of l.fn.func.content.blocks))
    × (l.place + length (instructions_of (drop l.block-index l.block-items)) ≡ length (instructions_of l.fn.func.content.blocks))
