-- The run of a source module is that of its rewritten module on the machine.
use Rattle.std.proofs.Common.{◌≡◌, ℕ, List, ◌++◌, reverse, refl, sym, ap, ◌∙◌, append_assoc}
use Rattle.std.proofs.lemmas.List.Folds.{concat-append}
use Rattle.std.specs.List.{concat}
use Rattle.ir_ast.specs.Modules.{ModuleContent}
use Rattle.ir_cfg.specs.SourceModules.{IsSourceModule}
use Rattle.move_plan.specs.Plans.{go}
use Rattle.object_meaning.specs.Effects.{text_of, PrintsMore}
use Rattle.stackmap_write.specs.ModuleMaps.{map_of}
use Rattle.machine_meaning.specs.Code.{machinery_of}
use Rattle.machine_meaning.specs.MachineRuns.{MachineOutcome}
use Rattle.machine_meaning.specs.Machines.{Machinery}
use Rattle.machine_meaning.specs.TrapLines.{closing_of}
use Rattle.runs_unseen.proofs.machine_ends.EndLaws.{each_run_ends}
use Rattle.runs_unseen.proofs.machine_ends.PrintLaws.{printed_first}
use Rattle.sp_rewrite.specs.Statements.{IsRewritten}
use Rattle.sp_rewrite.proofs.RewrittenLaws.{rewriting_is_target, rewriting_is_verified, rewriting_keeps_meaning}
use Rattle.rewritten_sound.specs.Definite.{rewritten_source}
use Rattle.moves_unseen.specs.Waits.{IsSound}
use Rattle.rewritten_runs.specs.Statements.{FrontsAreSource, SeenRunsAreSource, SourcesRunOnMachine}
use Rattle.rewritten_runs.proofs.NameLaws.{names_are_kept}
use Rattle.runs_unseen.proofs.SeenRuns.{keeps_way, seen_here, seen_there}
use Rattle.object_meaning.proofs.OutcomeLaws.{concat-reverse}

sound_after : (content after : ModuleContent) → IsSourceModule content → IsRewritten content after → IsSound after
sound_after content after source is = record {
  target = rewriting_is_target content after source is;
  verified = rewriting_is_verified content after source is;
}

pub sources_run_on_machine : SourcesRunOnMachine
sources_run_on_machine content reached source drops input plan bound outcome gives =
    let after : ModuleContent = rewritten_source reached in
    let is : IsRewritten content after = record { reached = reached; drops = drops; rest = refl } in
    let sound = sound_after content after source is in
    let target = (rewriting_keeps_meaning content after source is input (go plan) bound outcome).0 gives in
    let run = seen_there after sound input plan bound outcome target in
    let way = keeps_way after sound input plan bound run.0 run.1.0 in
    let seen = run.1.1 in
    record {
      after = after;
      rewritten = is;
      machine = run.0;
      gives = run.1.0;
      lines = seen.lines;
      end = seen.end;
      func = seen.func;
      name = names_are_kept content after is outcome.func;
      steps = seen.steps;
      events = seen.events;
      happened = seen.happened;
      accesses = seen.accesses;
      poison = way.0;
      lost = way.1;
    }

pub seen_runs_are_source : SeenRunsAreSource
seen_runs_are_source content after source is input go_line bound end func steps events printed old new seen = record {
  outcome = seen.outcome;
  gives = (rewriting_keeps_meaning content after source is input go_line bound seen.outcome).1 seen.gives;
  end_is = seen.end_is;
  func_is = seen.func_is;
  steps_are = seen.steps_are;
  events_are = seen.events_are;
  written = seen.written;
}

all_lines : (lines closing : List (List ℕ)) → concat (reverse lines ++ closing) ≡ text_of lines ++ concat closing
all_lines lines closing = concat-append (reverse lines) closing ∙ ap (λ (text : List ℕ). text ++ concat closing) (concat-reverse lines)

more_text : (printed last closing : List (List ℕ)) (more : PrintsMore printed last) → text_of last ++ concat closing ≡ text_of printed ++ (more.more ++ concat closing)
more_text printed last closing more = ap (λ (text : List ℕ). text ++ concat closing) more.text ∙ append_assoc (text_of printed) more.more (concat closing)

pub fronts_are_source : FrontsAreSource
fronts_are_source content after source is input plan bound now reached =
    let machinery : Machinery = machinery_of after (map_of after) plan bound in
    let ended = each_run_ends machinery input in
    let machine : MachineOutcome = ended.outcome in
    let last = ended.gives.last in
    let printed = printed_first machinery input now machine reached ended.gives in
    let found = seen_here after (sound_after content after source is) input plan bound machine ended.gives in
    let closing = closing_of machinery machine.end last.state in
    let lines : machine.lines ≡ reverse last.lines ++ closing = ap (λ (m : MachineOutcome). m.lines) ended.gives.is in
    record {
      outcome = found.outcome;
      gives = (rewriting_keeps_meaning content after source is input (go plan) bound found.outcome).1 found.gives;
      more = printed.more ++ concat closing;
      is = ap concat (sym found.seen.lines ∙ lines) ∙ (all_lines last.lines closing ∙ more_text now.lines last.lines closing printed);
    }
