use Rattle.std.proofs.Common.{◌≡◌, ℕ, true, false, sym, ap, ◌∙◌}
use Rattle.ir_ast.specs.Objects.{number}
use Rattle.ir_ast.specs.Ops.{is_statepoint}
use Rattle.object_meaning.specs.Lines.{following}
use Rattle.machine_meaning.specs.Machines.{regrouped_by}
use Rattle.machine_frames.specs.Frames.{frame_of}
use Rattle.machine_lines.specs.Lines.{line_of, lines_left}
use Rattle.machine_frames.proofs.LineLemmas.{gone_point, gone_call}
use Rattle.machine_frames.proofs.frames.Frame.go_behind.Goals as goal

pub returns-then-is_statepoint : goal.returns-then-is_statepoint
returns-then-is_statepoint c =
    let now = c.args.self.now in let inst = c.args.inst.now in let stack = c.args.stack.now in let answer = number c.args.answer in
    let lines = lines_left (following now.next inst) c.args.rest.insts.now in
    let point : is_statepoint inst.op ≡ true = sym (c.is_statepoint.ensures ∙ ap is_statepoint c.op.ensures) ∙ c.if-is_statepoint.true in
    c.regroup.ensures ∙ ap (λ (n : ℕ). regrouped_by stack (frame_of now) (lines_left n c.args.rest.insts.now) answer) c.next_behind-next.ensures.value
    ∙ gone_point stack (frame_of now) (line_of now.next inst) lines answer inst.op point

pub returns-else-is_statepoint : goal.returns-else-is_statepoint
returns-else-is_statepoint c =
    let now = c.args.self.now in let inst = c.args.inst.now in let stack = c.args.stack.now in let answer = number c.args.answer in
    let lines = lines_left (following now.next inst) c.args.rest.insts.now in
    let call : is_statepoint inst.op ≡ false = sym (c.is_statepoint.ensures ∙ ap is_statepoint c.op.ensures) ∙ c.if-is_statepoint.false in
    c.pass_to.ensures ∙ gone_call stack (frame_of now) (line_of now.next inst) lines answer inst.op call
