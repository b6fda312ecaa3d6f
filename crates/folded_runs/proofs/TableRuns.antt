-- Foldings and thinnings are sound, so modules under them give the same.
use Rattle.std.proofs.Common.{◌≡◌, ℕ, refl}
use Rattle.std.specs.Prelude.{Option, Some, slice_get, ℤ, List}
use Rattle.sp_ids.specs.declared.ends.End.{End}
use Rattle.ir_ast.specs.Funcs.{Function}
use Rattle.ir_ast.specs.Modules.{ModuleContent}
use Rattle.ir_cfg.specs.SourceModules.{IsSourceModule}
use Rattle.object_meaning.specs.Effects.{Progress}
use Rattle.object_meaning.specs.Outcomes.{opening, proceeds}
use Rattle.object_meaning.specs.Runs.{Reaches}
use Rattle.object_meaning.specs.SourceRuns.{source_setting}
use Rattle.object_meaning.specs.States.{State}
use Rattle.base_forms.specs.Polls.{placed}
use Rattle.known_values.specs.Statements.{Knows, KnowsAs}
use Rattle.known_values.proofs.FrameLaws.{all_frames}
use Rattle.known_values.proofs.OnwardLaws.{knows_kept}
use Rattle.known_values.proofs.TextLaws.{sources_run_their_polls}
use Rattle.folded_forms.specs.Folded.{Table, stands_for}
use Rattle.folded_forms.specs.Foldings.{IsFolding, IsThinning}
use Rattle.folded_forms.specs.Known.{meanings_of}
use Rattle.folded_forms.proofs.FoldingLaws.{foldings_are_known}
use Rattle.folded_forms.proofs.PhiLaws.{folding_placed, source_meets_edges}
use Rattle.folded_source.proofs.SettleLaws.{folded_stays_source}
use Rattle.trimmed_laws.specs.Trimmed.{FrameReads}
use Rattle.trimmed_laws.proofs.ReadLaws.{reads_itself}
use Rattle.folded_runs.specs.Statements.{FoldedAndThinnedGiveTheSame, FoldedGiveTheSame, ThinnedGiveTheSame}
use Rattle.folded_runs.proofs.CutLaws.{trim_found}
use Rattle.folded_runs.proofs.FoldReads.{line_reads, phis_read}
use Rattle.folded_runs.proofs.ModuleLaws.{give_the_same}
use Rattle.folded_runs.proofs.TableCuts.{folding_cut, thinning_cut}

folding_reads : (content : ModuleContent) → IsSourceModule content → (go : ℕ → Option ℕ) (bound number : ℕ) (func : Function) → slice_get content.funcs number ≡ Some func
    → (table : Table) → IsFolding func table → (input : List ℤ) (now : Progress State)
    → Reaches {E = End} (proceeds (source_setting content go bound)) (opening (source_setting content go bound) input) now → (now.state.running).func ≡ number
    → FrameReads (trim_found (Some func) table (stands_for table)) (source_setting content go bound) now.state.running
folding_reads content source go bound number func found table folding input now reached same =
    let setting = source_setting content go bound in
    let runs = sources_run_their_polls content source go bound number func found in
    let phis = source_meets_edges content source number func found in
    let folding_there = folding_placed func table folding in
    let known = foldings_are_known content.layouts (placed func) table folding_there runs.uses phis in
    let all = all_frames setting (KnowsAs setting number (placed func) (meanings_of table)) (knows_kept setting number (placed func) (meanings_of table) runs.text known) input now reached in
    let knows : Knows setting (placed func) (meanings_of table) now.state.running = all.running same in
    record {
      operands = λ line rest is plain. line_reads setting number (placed func) table runs.text folding_there runs.uses phis now.state.running same knows line rest is plain;
      leads = λ line rest to is leads. (refl, phis_read setting number (placed func) table runs.text folding_there runs.uses phis now.state.running same knows line rest is to leads);
    }

pub folded_give_the_same : FoldedGiveTheSame
folded_give_the_same content after source folds =
    give_the_same IsFolding stands_for
    (record {
      cut = λ of func is table folding. folding_cut of.layouts func table folding;
      reads = folding_reads;
    }) content after source folds

pub thinned_give_the_same : ThinnedGiveTheSame
thinned_give_the_same content after source folds =
    give_the_same IsThinning (λ table operand. operand)
    (record {
      cut = λ of func is table thinning. thinning_cut of func is table thinning;
      reads = λ of is go bound number func found table thinning input now reached same.
          reads_itself (trim_found (Some func) table (λ operand. operand)) refl (λ block. refl) (source_setting of go bound) now.state.running;
    }) content after source folds

pub folded_and_thinned_give_the_same : FoldedAndThinnedGiveTheSame
folded_and_thinned_give_the_same content between after source folds thins input go bound outcome =
    let one = folded_give_the_same content between source folds input go bound outcome in
    let two = thinned_give_the_same between after (folded_stays_source content between source folds).source thins input go bound outcome in
    (λ gives. two.0 (one.0 gives), λ gives. one.1 (two.1 gives))
