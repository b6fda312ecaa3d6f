use Rattle.std.proofs.Common.{◌≡◌, ℕ, ◌-◌, List, ◌++◌, length, map, replicate, ap, ◌∙◌}
use Rattle.ir_ast.specs.Objects.{Datum, number}
use Rattle.object_meaning.specs.Lines.{Line, first_register, register_count}
use Rattle.object_meaning.specs.Registers.{nothing}
use Rattle.object_meaning.specs.States.{Frame}
use Rattle.machine_frames.specs.Frames.{lines_in}
use Rattle.machine_lines.specs.Lines.{lines_left}
use Rattle.machine_frames.proofs.FrameLemmas.{entered_are}
use Rattle.machine_frames.proofs.frames.Frame.entered.Goals as goal

pub returns : goal.returns
returns c =
    let code = c.args.code.now in let func = c.args.func in let arguments = c.args.arguments.now in
    let items = c.in_ok-registers.registers.items in
    let lines : lines_left c.first.result c.lines.result.insts.now ≡ lines_in code func 0 =
    ap (λ (n : ℕ). lines_left n c.lines.result.insts.now) c.first.ensures ∙ ap (lines_left (first_register code func 0)) c.lines.ensures in
    let registers : map number items ≡ map number arguments ++ replicate (register_count code func - length (map number arguments)) nothing =
    ap (λ (rs : List ℕ). map number rs) (c.in_ok-registers.ensures ∙ ap (λ (n : ℕ). arguments ++ replicate (n - length arguments) 0) c.registers.ensures)
    ∙ entered_are arguments (register_count code func) in
    ap (λ (ls : List Line). let f : Frame = record { func = func; block = 0; rest = ls; registers = map number items } in f) lines
    ∙ ap (λ (rs : List Datum). let f : Frame = record { func = func; block = 0; rest = lines_in code func 0; registers = rs } in f) registers
