use Rattle.std.proofs.Common.{◌≡◌, List, length, sym, ap, ◌∙◌, arith}
use Rattle.ir_ast.specs.Insts.{Instruction}
use Rattle.ir_ast.specs.Objects.{number}
use Rattle.object_meaning.specs.Lines.{following}
use Rattle.machine_meaning.specs.Machines.{gone_from, gone_behind}
use Rattle.machine_frames.specs.Frames.{frame_of}
use Rattle.machine_lines.specs.Lines.{line_of, lines_left}
use Rattle.machine_frames.proofs.frames.Frame.go_on.Goals as goal

pub returns-in-None : goal.returns-in-None
returns-in-None c =
    let now = c.args.self.now in
    sym (ap (λ (insts : List Instruction). gone_from c.args.stack.now (frame_of now) (lines_left now.next insts) (number c.args.answer)) c.in-None.ensures.insts)

pub returns-in-Some : goal.returns-in-Some
returns-in-Some c =
    let now = c.args.self.now in let inst = c.in-Some.parts.0.now in let rest = c.in-Some.parts.2.insts.now in
    c.go_behind.ensures ∙ sym (ap (λ (insts : List Instruction). gone_from c.args.stack.now (frame_of now) (lines_left now.next insts) (number c.args.answer)) c.in-Some.ensures.insts)

pub go_behind-requires : goal.go_behind-requires
go_behind-requires c = let all = ap length c.in-Some.ensures.insts in omega (arith, c.requires)
