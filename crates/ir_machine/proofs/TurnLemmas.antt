-- How a run comes on: over quiet lines, and by steps that show nothing.
use Rattle.std.proofs.Common.{◌≡◌, Bool, false, refl, sym, ap, subst}
use Rattle.object_meaning.specs.Effects.{goes_on}
use Rattle.piece_writer.proofs.LineLaws.{puts_none}
use Rattle.ir_ast.specs.Modules.{ModuleContent}
use Rattle.machine_meaning.specs.Machines.{Machine, Machinery}
use Rattle.machine_meaning.specs.MachineSteps.{machine_step}
use Rattle.run_tasks.specs.declared.printing.Did.{Did}
use Rattle.run_tasks.specs.declared.printing.Did.TheVariants.{GoesOn, Prints, Ends as Finishes}
use Rattle.machine_lines.specs.Going.{GoesOver}
use Rattle.ir_machine.specs.Executors.{told}
use Rattle.ir_machine.specs.Answers.{LeadsOn, WentFar, is_shown}
use Rattle.ir_machine.proofs.OverLemmas.{follows_over}
use Rattle.ir_machine.proofs.RunLemmas.{follows_more}
use Rattle.run_tasks.specs.Dids.{effect_of}

pub leads_same : (machinery : Machinery) (trace : Bool) (machine : Machine) → LeadsOn machinery trace machine machine
leads_same machinery trace machine = λ start one count first now follows. follows

module _ (content : ModuleContent) (machinery : Machinery) where
  pub leads_over : (trace : Bool) (old new later : Machine) → LeadsOn machinery trace old new → GoesOver machinery new later → LeadsOn machinery trace old later
  leads_over trace old new later leads over = λ start one count first now follows.
      follows_over content machinery (record { places = false; trace = trace }) start one count first now new later over (leads start one count first now follows)

  leads_step : (old new later : Machine) → LeadsOn machinery false old new → told (effect_of GoesOn later) ≡ told (machine_step machinery new) → LeadsOn machinery false old later
  leads_step old new later leads does = λ start one count first now follows.
      follows_more content machinery (record { places = false; trace = false }) start new new later count first now (leads start one count first now follows)
      false one GoesOn refl refl does refl now (puts_none now)

  pub leads_fast : (old new later : Machine) → LeadsOn machinery false old new → machine_step machinery new ≡ goes_on later → LeadsOn machinery false old later
  leads_fast old new later leads goes = leads_step old new later leads (ap told (sym goes))

  pub leads_kept : (old new later : Machine) → LeadsOn machinery false old new → later ≡ new → LeadsOn machinery false old later
  leads_kept old new later leads same = subst (λ (machine : Machine). LeadsOn machinery false old machine) (sym same) leads

  pub leads_then : (old new later : Machine) → LeadsOn machinery false old new → LeadsOn machinery false new later → LeadsOn machinery false old later
  leads_then old new later leads on = λ start one count first now follows. on start one count first now (leads start one count first now follows)

  pub leads_quiet : (did : Did) (old new later : Machine) → is_shown did ≡ false → LeadsOn machinery false old new → told (effect_of did later) ≡ told (machine_step machinery new)
      → LeadsOn machinery false old later
  leads_quiet GoesOn old new later quiet leads does = leads_step old new later leads does
  leads_quiet (Prints word) old new later quiet leads does = cc
  leads_quiet (Finishes end) old new later quiet leads does = cc

  pub went_far : (old new later : Machine) (did : Did) → LeadsOn machinery false old new → told (effect_of did later) ≡ told (machine_step machinery new)
      → WentFar machinery old (record { event = false; did = did }) later
  went_far old new later did leads does = λ one. record { before = new; later = new; leads = leads; foreseen = refl; same = refl; does = does }
