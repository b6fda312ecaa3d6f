-- Code addresses of a module. Each instruction takes 4 bytes, phis and members of groups too; a `switch` is one.
use Rattle.std.specs.Prelude.{ℕ, ◌+◌, ◌*◌, ◌/◌, List, [], ◌∷◌, length}
use Rattle.ir_ast.specs.Insts.{Instruction}
use Rattle.ir_ast.specs.Funcs.{Function, instructions_of}
use Rattle.frame_forms.specs.Groups.{group_size}

abbrev pub code_bytes : Function → ℕ
code_bytes func = 4 * length (instructions_of func.blocks)

-- rounded up to a multiple of 16
abbrev pub rounded : ℕ → ℕ
rounded address = (address + 15) / 16 * 16

-- the first function stands at 4096, and each other behind the one before it
abbrev pub first_start : ℕ
first_start = 4096

abbrev pub next_start : ℕ → Function → ℕ
next_start start func = rounded (start + code_bytes func)

-- where each of these functions starts, of which the first starts here
abbrev pub starts_from : ℕ → List Function → List ℕ
starts_from start [] = []
starts_from start (func ∷ funcs) = start ∷ starts_from (next_start start func) funcs

-- Where a call returns to, counted from the function's start: the instruction after it, or after the whole group of
-- a statepoint. One for each instruction, of which the first has this place in its function.
abbrev pub returns_from : ℕ → List Instruction → List ℕ
returns_from place [] = []
returns_from place (inst ∷ insts) = 4 * (place + 1 + group_size inst.op insts) ∷ returns_from (place + 1) insts

abbrev pub return_offsets : Function → List ℕ
return_offsets func = returns_from 0 (instructions_of func.blocks)
