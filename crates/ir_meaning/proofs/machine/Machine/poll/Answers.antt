use Rattle.std.proofs.Common.{◌≡◌, ℕ, ap, ◌∙◌}
use Rattle.std.specs.Prelude.{Option}
use Rattle.std.specs.Option.{option_map_or}
use Rattle.tool_io.specs.Counts.{raised}
use Rattle.ir_ast.specs.declared.ops.Callee.TheVariants as callees
use Rattle.move_plan.specs.Plans.{go}
use Rattle.object_meaning.specs.Effects.{goes_on}
use Rattle.object_meaning.specs.Frames.{resumed}
use Rattle.object_meaning.specs.Registers.{nothing}
use Rattle.object_meaning.specs.States.{State}
use Rattle.object_meaning.specs.Tasks.{polled, switched}
use Rattle.object_store.specs.declared.words.Word.{Word}
use Rattle.object_store.specs.Words.{datum}
use Rattle.flat_code.specs.declared.lines.Exit.TheVariants.{Poll}
use Rattle.ir_meaning.specs.Machines.{Whole, rest_of, exit_from, exit_of, state_of, today, gone_to}
use Rattle.ir_meaning.proofs.MachineLemmas.{gone_is, turned_goes, call_step}
use Rattle.ir_meaning.proofs.machine.Machine.poll.Goals as goal

pub returns-clause-turned : goal.returns-clause-turned
returns-clause-turned c =
    let code = c.args.code.now in
    let setting = today code c.args.plan.now c.args.bound in
    let before : ℕ → Whole = λ events. record { frames = c.args.self.now.stack; others = record (rest_of c.args.self.now) { events = events } } in
    let start : ℕ → State = λ events. exit_from code (before events).frames (before events).others in
    let there : resumed (exit_of code c.go_to.new.self) (datum c.of.result) ≡ polled setting (exit_of code c.args.self.now) =
    ap (λ (whole : Whole). resumed (exit_from code whole.frames whole.others) (datum c.of.result)) c.go_to.ensures.frames
    ∙ ap (λ (word : Word). resumed (exit_from code (gone_to (before c.saturating_add-self.result) c.go.result).frames (gone_to (before c.saturating_add-self.result) c.go.result).others) (datum word)) c.of.ensures
    ∙ ap (λ (state : State). resumed state nothing) (gone_is code (before c.saturating_add-self.result) c.go.result)
    ∙ ap (λ (to : Option ℕ). resumed (option_map_or (switched (start c.saturating_add-self.result)) to (start c.saturating_add-self.result)) nothing) c.go.ensures
    ∙ ap (λ (events : ℕ). resumed (option_map_or (switched (start events)) (go c.args.plan.now events) (start events)) nothing)
    (let e : c.saturating_add-self.result ≡ raised c.args.self.now.events = c.saturating_add-self.ensures in e) in
    turned_goes setting (exit_of code c.args.self.now) (state_of code c.answered.new.self)
    (ap goes_on (c.in_ok-answered.ensures.resumes ∙ there)
    ∙ call_step code c.args.plan.now c.args.bound c.args.self.now.stack (rest_of c.args.self.now) c.args.segment.now Poll c.requires.stands callees.Poll c.requires.stands.leaves.exit_is)
