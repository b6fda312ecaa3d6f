use Rattle.std.proofs.Common.{◌≡◌, List, ap, sym, ◌∙◌}
use Rattle.std.specs.Prelude.{Err}
use Rattle.moving_heap.specs.Contents.{Content}
use Rattle.moving_heap.specs.Heaps.{HeapView, loaded}
use Rattle.moving_heap.specs.Places.{owner}
use Rattle.object_meaning.specs.Lines.{following}
use Rattle.object_meaning.specs.Registers.{number_in}
use Rattle.machine_meaning.specs.MachineSteps.{at, denied, storing_word}
use Rattle.machine_lines.specs.Lines.{line_of, lines_left}
use Rattle.ir_machine.specs.Executors.{acts_at, machinery, seen, told}
use Rattle.machine_lines.specs.Going.{still}
use Rattle.machine_lines.proofs.DeniedLemmas.{store_denied}
use Rattle.machine_lines.proofs.AccessLemmas.{done_err}
use Rattle.ir_machine.proofs.executor.Executor.store.Goals as goal
use Rattle.run_tasks.specs.Dids.{effect_of}

pub returns-in-Err : goal.returns-in-Err
returns-in-Err c =
    let now = c.args.self.now in let all = machinery c.args.program.now in
    let machine = seen now in
    let line = line_of now.run.frame.next c.args.inst.now in
    let rest = lines_left (following now.run.frame.next c.args.inst.now) c.args.rest.insts.now in
    let deny = c.in-Err.deny in let p = c.second-place.result in
    let loads = done_err (loaded now.heap p) deny c.in-Err.ensures.answer in
    let kept : c.store.new.heap ≡ c.args.self.now.heap =
    c.in-Err.ensures.changed ∙ ap (λ (contents : List Content). record now.heap { contents = contents }) (store_denied now.heap.contents p c.first-word.result deny (owner now.heap.stands p) c.in-Err.ensures.answer) in
    let place : at machine line 1 ≡ p = ap number_in c.second-place.ensures in
    let found : loaded machine.heap (at machine line 1) ≡ Err deny = ap (loaded machine.heap) place ∙ loads in
    let acts : acts_at all now c.args.inst.now c.args.rest.insts.now c.args.inst.now.op ≡ denied machine deny =
    ap (acts_at all now c.args.inst.now c.args.rest.insts.now) c.requires.is ∙ ap (storing_word machine line rest (at machine line 0) (at machine line 1)) found in
    ap (λ (h : HeapView). told (effect_of c.denied.result (record machine { heap = still h }))) kept
    ∙ (ap told (c.denied.ensures machine) ∙ ap told (sym acts))
