-- The machine's events are those of the target meaning's lines.
use Rattle.std.proofs.Common.{◌≡◌, List, [], ◌∷◌, length, map, refl, ap}
use Rattle.ir_ast.specs.declared.ops.Op.{Op}
use Rattle.ir_ast.specs.declared.ops.Op.TheVariants as ops
use Rattle.object_meaning.specs.Lines.{Line}
use Rattle.object_meaning.specs.Traces.{Event, event_at, event_of, events_at}
use Rattle.machine_meaning.specs.Happenings.{happening, happening_by, happenings_at}
use Rattle.machine_meaning.specs.Machines.{Machine, Machinery, spilled}
use Rattle.machine_meaning.specs.Words.{worded}
use Rattle.runs_unseen.specs.Runs.{event_in}

events_made : (machinery : Machinery) (machine : Machine) (events : List Event) → map event_in (map (happening machinery machine) events) ≡ events
events_made machinery machine [] = refl
events_made machinery machine (event ∷ events) = ap (λ rest. event ∷ rest) (events_made machinery machine events)

by_operator : (machinery : Machinery) (machine : Machine) (line : Line) (op : Op) → map event_in (happening_by machinery machine line op) ≡ event_of op
by_operator machinery machine line (ops.Call callee types) = events_made machinery machine (event_at callee)
by_operator machinery machine line (ops.Statepoint id callee types) = events_made machinery (spilled machine line.inst (length types)) (event_at callee)
by_operator machinery machine line op = refl

pub events_are : (machinery : Machinery) (machine : Machine) (lines : List Line) → map event_in (happenings_at machinery machine (map worded lines)) ≡ events_at lines
events_are machinery machine [] = refl
events_are machinery machine (line ∷ rest) = by_operator machinery machine (worded line) line.inst.op
