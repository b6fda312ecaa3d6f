use Rattle.std.proofs.Common.{◌≡◌, ℕ, List, ◌++◌, length, map, drop, sym, ap, ◌∙◌}
use Rattle.std.specs.Prelude.{filter}
use Rattle.std.proofs.lemmas.List.{drop-map, length-map}
use Rattle.std.proofs.lemmas.Result.{on_ok_weaker}
use Rattle.ir_ast.specs.declared.types.Ty.{Ty}
use Rattle.ir_ast.specs.declared.ops.Operand.{Operand}
use Rattle.ir_ast.specs.Objects.{number}
use Rattle.frame_forms.specs.FrameSizes.{is_named_integer}
use Rattle.object_meaning.specs.Numbers.{width_of, sign_extended}
use Rattle.object_meaning.specs.Registers.{value, number_in}
use Rattle.machine_meaning.specs.Machines.{over}
use Rattle.machine_meaning.specs.Words.{worded_operand}
use Rattle.machine_frames.proofs.slots.keep.Goals as goal

pub returns : goal.returns
returns c =
    let registers = map number c.args.registers.now in let inst = c.args.inst.now in let before = c.args.stack.now in
    let word : Operand → ℕ = λ operand. number_in (value registers operand) in
    let wide : List (Ty × Operand) → List ℕ = λ entries. map (λ entry. sign_extended (width_of entry.0) 64 (number_in (value registers entry.1))) (filter (λ entry. is_named_integer entry.0 entry.1) entries) in
    let entries : List Operand = c.behind-entries.result.now in
    let live : map word (map worded_operand entries) ≡ map word (drop c.args.arguments (map worded_operand inst.operands)) =
    ap (λ (os : List Operand). map word (map worded_operand os)) (c.behind-entries.ensures ∙ ap (drop c.args.arguments) c.operands.ensures)
    ∙ ap (map word) (sym (drop-map worded_operand c.args.arguments inst.operands)) in
    let count : length (map word (map worded_operand entries)) ≡ length entries = length-map (map worded_operand entries) word ∙ length-map entries worded_operand in
    on_ok_weaker c.keep_bundle.result
    (λ (e : (words before : List ℕ) → length words ≡ length entries → c.keep_entries.new.stack ≡ over words before → c.keep_bundle.new.stack ≡ over (words ++ wide c.bundle.result.now) before).
    e (map word (map worded_operand entries)) before count c.in_ok-keep_entries.ensures
    ∙ ap (λ (ws : List ℕ). over (ws ++ wide c.bundle.result.now) before) live
    ∙ ap (λ bundle. over (map word (drop c.args.arguments (map worded_operand inst.operands)) ++ wide bundle) before) c.bundle.ensures) c.keep_bundle.ensures
