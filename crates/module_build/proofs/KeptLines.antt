-- What a line keeps: its instruction and its number, where it is one.
use Rattle.std.proofs.Common.{◌≡◌, ℕ, List, [], ◌∷◌, refl}
use Rattle.std.specs.Prelude.{Option, Some, None, map, option_to_list, if◌then◌else◌}
use Rattle.ir_ast.specs.Insts.{Instruction}
use Rattle.ir_lines.specs.Statements.{Statement, Line, layout, declare, define, close, label, switch_case, switch_end}
use Rattle.ir_lines.specs.Modules.{Known, instruction_said, with_line}
use Rattle.ir_lines.specs.ReadLines.{is_instruction}

pub kept-inst : (number : ℕ) (made : Option Instruction) → option_to_list made ≡ map (λ one. one.1) (with_line number made)
kept-inst number None = refl
kept-inst number (Some inst) = refl

-- a line has an instruction exactly where it stands for one
pub kept-number : (known : Known) (number : ℕ) (behind : List Line) (what : Statement)
    → (if is_instruction what then number ∷ [] else []) ≡ map (λ one. one.0) (with_line number (instruction_said known behind what))
kept-number known number behind (layout name fields) = refl
kept-number known number behind (declare answer name parameters) = refl
kept-number known number behind (define answer name arguments strategy) = refl
kept-number known number behind close = refl
kept-number known number behind (label name) = refl
kept-number known number behind (switch_case width value to) = refl
kept-number known number behind switch_end = refl
kept-number known number behind _ = refl
