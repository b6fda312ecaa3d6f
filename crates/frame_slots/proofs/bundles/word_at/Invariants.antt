use Rattle.std.proofs.Common.{◌≡◌, drop, map}
use Rattle.frame_forms.specs.BundleWords.{bundle_word}
use Rattle.frame_slots.specs.Tables.{words_of}
use Rattle.frame_slots.proofs.bundles.word_at.Given as goal

abbrev pub invariant-loop-one : goal.invariant-loop-one
invariant-loop-one l =
    bundle_word (map words_of (drop l.one-index l.bundles)) l.place l.operand ≡ bundle_word (map words_of l.bundles) l.place l.operand
