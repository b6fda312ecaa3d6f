use Rattle.std.proofs.Common.{◌≡◌, ◌+◌, ◌++◌, drop, map}
use Rattle.frame_forms.specs.BundleWords.{bundles_from}
use Rattle.frame_slots.specs.Tables.{words_of}
use Rattle.frame_slots.proofs.bundles.add_bundles.Given as goal

abbrev pub invariant-loop-index : goal.invariant-loop-index
invariant-loop-index l =
    map words_of l.bundles.items ++ bundles_from (l.first + l.index) (drop l.index l.insts)
    ≡ map words_of l.initial.bundles.items ++ bundles_from l.first l.insts
