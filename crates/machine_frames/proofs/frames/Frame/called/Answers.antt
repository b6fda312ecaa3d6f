use Rattle.std.proofs.Common.{◌≡◌, ℕ, ◌-◌, List, ◌++◌, length, map, replicate, sym, ap, ◌∙◌}
use Rattle.std.proofs.lemmas.List.{length-map}
use Rattle.ir_ast.specs.declared.ops.Operand.{Operand}
use Rattle.ir_ast.specs.Objects.{Datum, number}
use Rattle.object_meaning.specs.Lines.{Line, first_register, register_count}
use Rattle.object_meaning.specs.Registers.{nothing, value}
use Rattle.object_meaning.specs.States.{Frame}
use Rattle.machine_meaning.specs.Words.{worded_operand}
use Rattle.machine_frames.specs.Frames.{lines_in}
use Rattle.machine_lines.specs.Lines.{lines_left}
use Rattle.machine_frames.proofs.frames.Frame.called.Goals as goal

pub returns : goal.returns
returns c =
    let code = c.args.code.now in let func = c.args.func in
    let items = c.in_ok-registers.registers.items in let operands = c.args.operands.now in
    let arguments : List Datum = map (value (map number c.args.from.now)) (map worded_operand operands) in
    let count = register_count code func in
    let lines : lines_left c.first.result c.lines.result.insts.now ≡ lines_in code func 0 =
    ap (λ (n : ℕ). lines_left n c.lines.result.insts.now) c.first.ensures ∙ ap (lines_left (first_register code func 0)) c.lines.ensures in
    let given : length arguments ≡ length operands = length-map (map worded_operand operands) (value (map number c.args.from.now)) ∙ length-map operands worded_operand in
    let registers : map number items ≡ arguments ++ replicate (count - length arguments) nothing =
    c.in_ok-registers.ensures ∙ ap (λ (n : ℕ). arguments ++ replicate (n - length operands) nothing) c.registers.ensures
    ∙ ap (λ (n : ℕ). arguments ++ replicate (count - n) nothing) (sym given) in
    ap (λ (ls : List Line). let f : Frame = record { func = func; block = 0; rest = ls; registers = map number items } in f) lines
    ∙ ap (λ (rs : List Datum). let f : Frame = record { func = func; block = 0; rest = lines_in code func 0; registers = rs } in f) registers
