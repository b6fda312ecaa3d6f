use Rattle.std.proofs.Common.{List, set, sym, ap, ◌∙◌}
use Rattle.std.specs.Prelude.{Option, Some, None, slice_get}
use Rattle.ir_meaning.specs.Stacks.{Frames}
use Rattle.ir_meaning.specs.Machines.{Whole, rest_of, seen_of, switched_so}
use Rattle.ir_meaning.proofs.MachineLemmas.{found_none}
use Rattle.ir_meaning.proofs.machine.Machine.switch.Goals as goal
use Rattle.list_laws.proofs.Places.{set_none, set_again}
use Rattle.list_laws.proofs.Options.{inner_some}

pub returns-in_default-clause-frames : goal.returns-in_default-clause-frames
returns-in_default-clause-frames c =
    let tasks : List (Option Frames) = c.args.self.now.tasks.items in
    let none = sym c.in_default.ensures.given in
    ap (λ (ts : List (Option Frames)). let w : Whole = record { frames = c.args.self.now.stack; others = record (rest_of c.args.self.now) { tasks = ts } } in w)
    (c.in_default.ensures.tasks ∙ set_none tasks c.args.to none)
    ∙ sym (found_none (seen_of c.args.self.now) c.args.to (slice_get tasks c.args.to) none)

pub returns-clause-frames : goal.returns-clause-frames
returns-clause-frames c =
    let tasks : List (Option Frames) = c.args.self.now.tasks.items in
    let found = inner_some c.in-Some.stack (slice_get tasks c.args.to) (sym c.in-Some.ensures.given) in
    let waits = c.replace-waits.ensures.value in
    let written = c.set_task-2.ensures
    ∙ ap (λ (ts : List (Option Frames)). set ts c.args.to None) (c.set_task.ensures
    ∙ ap (λ (ts : List (Option Frames)). set ts c.args.self.now.task (Some c.replace-waits.result)) c.in-Some.ensures.tasks)
    ∙ ap (λ (frames : Frames). set (set (set tasks c.args.to None) c.args.self.now.task (Some frames)) c.args.to None) waits
    ∙ set_again tasks c.args.to c.args.self.now.task None (Some c.args.self.now.stack) in
    ap (λ (frames : Frames). let w : Whole = record { frames = frames; others = record (rest_of c.args.self.now) { task = c.args.to; tasks = c.set_task-2.new.tasks.items } } in w)
    c.replace-waits.ensures.after
    ∙ ap (λ (ts : List (Option Frames)). let w : Whole = record { frames = c.in-Some.stack; others = record (rest_of c.args.self.now) { task = c.args.to; tasks = ts } } in w) written
    ∙ ap (switched_so (seen_of c.args.self.now) c.args.to) (sym found)
