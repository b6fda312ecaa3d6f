-- The opening of a run, and the number of `@main`.
use Rattle.std.proofs.Common.{◌≡◌, ℕ, ℤ, ◌-◌, List, [], ◌∷◌, map, replicate, None, refl, sym, ap, ◌∙◌, arith}
use Rattle.move_plan.specs.declared.plan_lines.PlanLine.{PlanLine}
use Rattle.ir_meaning.specs.declared.machine.Machine.{Machine}
use Rattle.object_meaning.specs.Lines.{main_of, register_count}
use Rattle.object_meaning.specs.Outcomes.{opening}
use Rattle.ir_meaning.specs.References.{unprinted}
use Rattle.object_meaning.specs.Registers.{nothing}
use Rattle.object_meaning.specs.States.{Frame}
use Rattle.object_store.specs.declared.words.Word.{Word}
use Rattle.object_store.specs.Words.{datum, number_word}
use Rattle.flat_code.specs.Codes.{FlatModule}
use Rattle.waiting_frames.specs.declared.frames.Spot.{Spot}
use Rattle.waiting_frames.specs.Frames.{Seen}
use Rattle.ir_meaning.specs.Machines.{Rest, state_of, state_from, today, IsOpened}
use Rattle.ir_meaning.proofs.CallLemmas.{zeros_are, front_is}

pub opening_is : (code : FlatModule) (plan : List PlanLine) (bound : ℕ) (input : List ℤ) (machine : Machine) → IsOpened code input machine
    → unprinted (state_of code machine) ≡ opening (today code plan bound) input
opening_is code plan bound input machine opened =
    let main = main_of code.content in let count = register_count code.content main in
    let whole : count - 0 ≡ count = omega arith in
    let zeros : map datum (replicate count (number_word 0)) ≡ replicate (count - 0) nothing = zeros_are count ∙ ap (λ (n : ℕ). replicate n nothing) (sym whole) in
    let frame = front_is code plan bound main (replicate count (number_word 0)) [] count opened.front zeros refl in
    let seen : machine.stack.running ≡ record { spot = record { func = main; segment = 0 }; registers = replicate count (number_word 0) } =
    ap (λ (s : Spot). let r : Seen = record { spot = s; registers = machine.stack.running.registers } in r) opened.spot
    ∙ ap (λ (rs : List Word). let r : Seen = record { spot = record { func = main; segment = 0 }; registers = rs } in r) opened.registers in
    ap (λ (others : Rest). unprinted (state_from code machine.stack others)) opened.others
    ∙ ap (λ (s : Seen). unprinted (state_from code (record { running = s; below = machine.stack.below }) (record { task = 0; tasks = None ∷ []; objects = []; input = input; steps = 0; events = 0 }))) seen
    ∙ ap (λ (bs : List Seen). unprinted (state_from code (record { running = record { spot = record { func = main; segment = 0 }; registers = replicate count (number_word 0) }; below = bs }) (record { task = 0; tasks = None ∷ []; objects = []; input = input; steps = 0; events = 0 }))) opened.below
    ∙ ap (λ (f : Frame). unprinted (record { running = f; below = []; task = 0; tasks = [] ∷ []; objects = []; input = input; steps = 0; events = 0 })) frame
