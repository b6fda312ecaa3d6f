use Rattle.object_meaning.specs.SourceRuns.{source_setting}
use Rattle.base_forms.specs.Polls.{placed}
use Rattle.known_values.specs.Statements.{KnowsAs}
use Rattle.known_values.proofs.FrameLaws.{all_frames}
use Rattle.known_values.proofs.OnwardLaws.{knows_kept}
use Rattle.known_values.proofs.TextLaws.{sources_run_their_polls}
use Rattle.folded_forms.specs.Known.{meanings_of}
use Rattle.folded_forms.proofs.FoldingLaws.{foldings_are_known}
use Rattle.folded_forms.proofs.PhiLaws.{folding_placed, source_meets_edges}
use Rattle.folded_forms.proofs.foldings_hold.Goals as goal

pub returns : goal.returns
returns c = λ content source go bound number func found table folding input now reached.
    let setting = source_setting content go bound in
    let runs = sources_run_their_polls content source go bound number func found in
    let known = foldings_are_known content.layouts (placed func) table (folding_placed func table folding) runs.uses (source_meets_edges content source number func found) in
    all_frames setting (KnowsAs setting number (placed func) (meanings_of table)) (knows_kept setting number (placed func) (meanings_of table) runs.text known) input now reached
