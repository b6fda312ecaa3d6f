-- A function in which other operands stand for some of its results, whose lines go.
use Rattle.std.specs.Prelude.{ℕ, Bool, not, ◌&&◌, if◌then◌else◌, List, [], ◌∷◌, ◌++◌, length, map, filter, is_some, slice_index_or}
use Rattle.std.specs.List.{range_with_len}
use Rattle.ir_ast.specs.declared.ops.Operand.{Operand}
use Rattle.ir_ast.specs.declared.ops.Operand.TheVariants.{Value}
use Rattle.ir_ast.specs.Blocks.{BasicBlock}
use Rattle.ir_ast.specs.Funcs.{Function}
use Rattle.ir_ast.specs.Insts.{Instruction}
use Rattle.ir_ast.specs.Operands.{named, same_operand}
use Rattle.object_meaning.specs.Lines.{after_all, following}

-- what stands for each value: itself or another operand
abbrev pub Table : Type 0
Table = List Operand

abbrev pub stands_for : Table → Operand → Operand
stands_for table (Value id) = slice_index_or table id.0 (Value id)
stands_for table operand = operand

abbrev pub stays : Table → ℕ → Bool
stays table value = same_operand (named value) (stands_for table (named value))

-- values that stay are numbered in their order
abbrev pub numbered : Table → Operand → Operand
numbered table (Value id) = named (length (filter (stays table) (range_with_len 0 id.0)))
numbered table operand = operand

abbrev pub folded_operand : Table → Operand → Operand
folded_operand table operand = numbered table (stands_for table operand)

abbrev pub folded_line : Table → Instruction → Instruction
folded_line table inst = record inst {
  operands = map (folded_operand table) inst.operands;
  bundle = map (λ entry. (entry.0, folded_operand table entry.1)) inst.bundle;
}

-- the line of a result with this number
abbrev pub folded_lines : Table → ℕ → Instruction → List Instruction
folded_lines table value inst = if is_some inst.result && not (stays table value) then [] else folded_line table inst ∷ []

-- these instructions, the first result of which has this number
abbrev pub folded_insts : Table → ℕ → List Instruction → List Instruction
folded_insts table next [] = []
folded_insts table next (inst ∷ insts) = folded_lines table next inst ++ folded_insts table (following next inst) insts

abbrev pub folded_blocks : Table → ℕ → List BasicBlock → List BasicBlock
folded_blocks table next [] = []
folded_blocks table next (block ∷ blocks) =
    record block { insts = folded_insts table next block.insts } ∷ folded_blocks table (after_all next block.insts) blocks

abbrev pub folded : Function → Table → Function
folded func table = record func { blocks = folded_blocks table (length func.args) func.blocks }
