use Rattle.std.proofs.Common.{◌≡◌, ℕ, List, ap, ◌∙◌}
use Rattle.ir_ast.specs.Insts.{Instruction}
use Rattle.map_bytes.specs.Maps.{StackMap}
use Rattle.move_plan.specs.declared.plan_lines.PlanLine.{PlanLine}
use Rattle.object_meaning.specs.Lines.{following}
use Rattle.machine_meaning.specs.Code.{machinery_of}
use Rattle.machine_meaning.specs.Machines.{return_to, return_address, address_behind}
use Rattle.machine_frames.specs.Frames.{frame_of}
use Rattle.machine_lines.specs.Lines.{line_of, lines_left}
use Rattle.machine_frames.proofs.frames.Frame.return_address.Goals as goal

pub returns-in-None : goal.returns-in-None
returns-in-None c =
    let now = c.args.self.now in
    λ map plan bound. ap (λ (insts : List Instruction). return_to (machinery_of c.args.code.now map plan bound) (frame_of now) (lines_left now.next insts)) c.in-None.ensures.insts

pub returns-in-Some : goal.returns-in-Some
returns-in-Some c =
    let now = c.args.self.now in let code = c.args.code.now in let inst = c.in-Some.parts.0.now in let rest = c.in-Some.parts.2.insts.now in
    λ map plan bound. ap (λ (insts : List Instruction). return_to (machinery_of code map plan bound) (frame_of now) (lines_left now.next insts)) c.in-Some.ensures.insts ∙ c.address_behind.ensures map plan bound
