use Rattle.std.proofs.Common.{◌≡◌, List, refl, sym, ap, ◌∙◌}
use Rattle.std.specs.Prelude.{Option, slice_get}
use Rattle.object_meaning.specs.Effects.{goes_on}
use Rattle.object_meaning.specs.Frames.{resumed}
use Rattle.object_meaning.specs.Registers.{nothing}
use Rattle.object_meaning.specs.Tasks.{handed_over}
use Rattle.object_store.specs.declared.words.Word.{Word}
use Rattle.object_store.specs.Words.{datum}
use Rattle.ir_meaning.specs.Stacks.{Frames}
use Rattle.ir_meaning.specs.Machines.{rest_of, exit_from, state_of, exit_of}
use Rattle.ir_meaning.proofs.MachineLemmas.{handed_some}
use Rattle.ir_meaning.proofs.machine.Machine.hand_over.Goals as goal
use Rattle.list_laws.proofs.Options.{inner_some}

pub returns-clause-effect : goal.returns-clause-effect
returns-clause-effect c =
    let code = c.args.code.now in
    let others = rest_of c.args.self.now in
    let found = inner_some c.in-Some.stack (slice_get c.args.self.now.tasks.items 0) (sym c.in-Some.ensures.given) in
    let there : goes_on (resumed (exit_from code c.in-Some.stack (record others { task = 0; tasks = c.take_task.new.tasks.items })) (datum c.of.result))
    ≡ handed_over (exit_of code c.args.self.now) (slice_get (exit_of code c.args.self.now).tasks 0) =
    ap (λ (word : Word). goes_on (resumed (exit_from code c.in-Some.stack (record others { task = 0; tasks = c.take_task.new.tasks.items })) (datum word))) c.of.ensures
    ∙ ap (λ (tasks : List (Option Frames)). goes_on (resumed (exit_from code c.in-Some.stack (record others { task = 0; tasks = tasks })) nothing)) c.in-Some.ensures.tasks
    ∙ handed_some code c.args.self.now.stack c.in-Some.stack others found in
    record { last = state_of code c.answered.new.self; effect_is = ap goes_on c.in_ok-answered.ensures.resumes ∙ there; after = refl }
