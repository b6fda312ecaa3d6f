use Rattle.std.proofs.Common.{◌≡◌, ◌≤◌, ◌+◌, ◌++◌, drop, length}
use Rattle.frame_forms.specs.BundleWords.{deopt_words, deopt_words_from}
use Rattle.frame_slots.proofs.bundles.deopt_words.Given as goal

abbrev pub invariant-loop-entry : goal.invariant-loop-entry
invariant-loop-entry l =
    (l.words.items ++ deopt_words_from l.entries l.next (drop l.entry-index l.entry-items) ≡ deopt_words l.inst)
    × (l.next ≤ length l.entries + l.entry-index)
