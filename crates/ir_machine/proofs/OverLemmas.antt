-- A run that has gone on over quiet lines has made a step for each, and written nothing.
use Rattle.std.proofs.Common.{◌≡◌, ℕ, zero, suc, Bool, true, false, List, [], ◌∷◌, refl, sym, ap, subst, ◌∙◌}
use Rattle.std.specs.Prelude.{if◌then◌else◌}
use Rattle.std.specs.List.{flat_map}
use Rattle.piece_writer.specs.LinePuts.{SinkTold}
use Rattle.piece_writer.proofs.LineLaws.{puts_none}
use Rattle.ir_ast.specs.declared.ops.Callee.{Callee}
use Rattle.ir_ast.specs.declared.ops.Callee.TheVariants.{Check}
use Rattle.ir_ast.specs.declared.ops.Op.{Op}
use Rattle.ir_ast.specs.declared.ops.Op.TheVariants.{Call, Statepoint}
use Rattle.ir_ast.specs.Modules.{ModuleContent}
use Rattle.object_meaning.specs.Effects.{Progress}
use Rattle.object_meaning.specs.Lines.{Line}
use Rattle.object_meaning.specs.Tasks.{with_event}
use Rattle.machine_meaning.specs.Happenings.{happening_by, happenings_at}
use Rattle.machine_meaning.specs.Machines.{Machine, Machinery}
use Rattle.machine_lines.specs.Going.{GoesOver, Passes, PassesOften, is_quiet, is_quiet_call}
use Rattle.run_texts.specs.RunTexts.{event_lines, trace_lines}
use Rattle.run_traces.specs.declared.happenings.Happening.{Happening}
use Rattle.ir_machine.specs.Executors.{told}
use Rattle.ir_machine.specs.Answers.{Follows}
use Rattle.run_tasks.specs.declared.printing.Did.TheVariants.{GoesOn}
use Rattle.ir_machine.specs.declared.run.Shows.{Shows}
use Rattle.ir_machine.proofs.RunLemmas.{follows_more}

call_quiet : (machinery : Machinery) (machine : Machine) (line : Line) (callee : Callee) → is_quiet_call callee ≡ true → (types : _) → happening_by machinery machine line (Call callee types) ≡ []
call_quiet machinery machine line Check e types = refl
call_quiet machinery machine line _ e types = cc

quiet_line : (machinery : Machinery) (machine : Machine) (line : Line) (op : Op) → is_quiet op ≡ true → happening_by machinery machine line op ≡ []
quiet_line machinery machine line (Call callee types) e = call_quiet machinery machine line callee e types
quiet_line machinery machine line (Statepoint id callee types) e = cc
quiet_line machinery machine line _ e = refl

-- a quiet line is no event
no_event : (machinery : Machinery) (trace : Bool) (machine : Machine) (line : Line) (rest : List Line) → machine.state.running.rest ≡ line ∷ rest → is_quiet line.inst.op ≡ true
    → (if trace then trace_lines machinery machine else []) ≡ []
no_event machinery true machine line rest stands quiet =
    ap (λ (ls : List Line). flat_map (event_lines (with_event machine.state).events) (happenings_at machinery machine ls)) stands
    ∙ ap (flat_map (event_lines (with_event machine.state).events)) (quiet_line machinery machine line line.inst.op quiet)
no_event machinery false machine line rest stands quiet = refl

module _ (content : ModuleContent) (machinery : Machinery) (shows : Shows) (start : Progress Machine) (one : Happening) (count : ℕ) (old now : SinkTold) where
  follows_passed : (machine next : Machine) → Passes machinery machine next → Follows machinery shows.trace start machine count old now → Follows machinery shows.trace start next count old now
  follows_passed machine next passes follows =
      follows_more content machinery shows start machine machine next count old now follows false one GoesOn
      (no_event machinery shows.trace machine passes.line passes.rest passes.stands passes.quiet) refl (ap told (sym passes.goes)) refl now (puts_none now)

  follows_often : (often : ℕ) (machine next : Machine) → PassesOften machinery often machine next → Follows machinery shows.trace start machine count old now → Follows machinery shows.trace start next count old now
  follows_often zero machine next same follows = subst (λ (m : Machine). Follows machinery shows.trace start m count old now) (sym same) follows
  follows_often (suc often) machine next by follows =
      follows_passed by.0 next by.1.1 (follows_often often machine by.0 by.1.0 follows)

  pub follows_over : (machine next : Machine) → GoesOver machinery machine next → Follows machinery shows.trace start machine count old now → Follows machinery shows.trace start next count old now
  follows_over machine next over follows = follows_often over.count machine next over.often follows
