-- Functions and modules without their unreached blocks.
use Rattle.std.specs.Prelude.{◌≡◌, ℕ, Bool, true, false, List, [], ◌∷◌, ◌++◌, map, length, take, filter, replicate, count_by, is_some, slice_index, slice_index_or}
use Rattle.std.specs.List.{AllZip, range_with_len}
use Rattle.sp_ids.specs.declared.ids.BlockId.{BlockId}
use Rattle.ir_ast.specs.declared.ops.Operand.{Operand}
use Rattle.ir_ast.specs.declared.ops.Operand.TheVariants.{Value}
use Rattle.ir_ast.specs.declared.ops.Op.{Op}
use Rattle.ir_ast.specs.declared.ops.Op.TheVariants.{Phi}
use Rattle.ir_ast.specs.Insts.{Instruction}
use Rattle.ir_ast.specs.Blocks.{BasicBlock}
use Rattle.ir_ast.specs.Funcs.{Function}
use Rattle.ir_ast.specs.Modules.{ModuleContent}
use Rattle.ir_cfg.specs.Graphs.{graph_of}
use Rattle.ir_cfg.specs.Marks.{MarksReached}
pub use Rattle.ir_ast.specs.Funcs.{zeros_of}

-- those of a list that have a mark
abbrev pub kept_of : {A : Type 0} → List Bool → List A → List A
kept_of marks [] = []
kept_of [] (x ∷ xs) = []
kept_of (true ∷ marks) (x ∷ xs) = x ∷ kept_of marks xs
kept_of (false ∷ marks) (x ∷ xs) = kept_of marks xs

-- the new number of each: how many with a mark stand before it
abbrev pub new_numbers : List Bool → List ℕ
new_numbers marks = map (λ old. count_by (λ mark. mark) (take old marks)) (range_with_len 0 (length marks))

abbrev pub result_count : BasicBlock → ℕ
result_count block = length (filter (λ inst. is_some inst.result) block.insts)

-- the mark of its block for each result; a block past the marks has none
abbrev pub result_marks : List Bool → List BasicBlock → List Bool
result_marks marks [] = []
result_marks [] (block ∷ blocks) = replicate (result_count block) false ++ result_marks [] blocks
result_marks (mark ∷ marks) (block ∷ blocks) = replicate (result_count block) mark ++ result_marks marks blocks

-- the mark of each value: the arguments have it
abbrev pub value_marks : List Bool → Function → List Bool
value_marks marks func = replicate (length func.args) true ++ result_marks marks func.blocks

-- the marks of the blocks, and the new numbers of the values and of the blocks
pub record Kept : Type 0 where
  pub marks : List Bool
  pub blocks : List ℕ
  pub values : List ℕ

abbrev pub operand_kept : Kept → Operand → Operand
operand_kept kept (Value value) = Value (record { 0 = slice_index kept.values value.0 })
operand_kept kept operand = operand

abbrev pub label_kept : Kept → BlockId → BlockId
label_kept kept label = record { 0 = slice_index kept.blocks label.0 }

abbrev pub has_mark : Kept → BlockId → Bool
has_mark kept label = slice_index_or kept.marks label.0 false

-- a phi keeps its entries from blocks that are kept; other lines keep their operands and labels
abbrev pub operands_kept : Kept → Op → List BlockId → List Operand → List Operand
operands_kept kept Phi labels operands = map (operand_kept kept) (kept_of (map (has_mark kept) labels) operands)
operands_kept kept op labels operands = map (operand_kept kept) operands

abbrev pub labels_kept : Kept → Op → List BlockId → List BlockId
labels_kept kept Phi labels = map (label_kept kept) (filter (has_mark kept) labels)
labels_kept kept op labels = map (label_kept kept) labels

abbrev pub inst_kept : Kept → Instruction → Instruction
inst_kept kept inst = record inst {
  operands = operands_kept kept inst.op inst.labels inst.operands;
  labels = labels_kept kept inst.op inst.labels;
  bundle = map (λ entry. (entry.0, operand_kept kept entry.1)) inst.bundle;
}

abbrev pub block_kept : Kept → BasicBlock → BasicBlock
block_kept kept block = record block { insts = map (inst_kept kept) block.insts }

abbrev pub kept_by : List Bool → Function → Kept
kept_by marks func = record {
  marks = marks;
  blocks = new_numbers marks;
  values = new_numbers (value_marks marks func);
}

-- the function with the marked blocks alone
abbrev pub function_kept : List Bool → Function → Function
function_kept marks func = record func { blocks = map (block_kept (kept_by marks func)) (kept_of marks func.blocks) }

-- the other function is this one without its unreached blocks
pub record DropsUnreached (func after : Function) : Type 0 where
  pub marks : List Bool
  pub reached : MarksReached (graph_of func) marks
  pub rest : after ≡ function_kept marks func

pub record ModuleDropsUnreached (content after : ModuleContent) : Type 0 where
  pub layouts : after.layouts ≡ content.layouts
  pub form : after.form ≡ content.form
  pub functions : AllZip DropsUnreached content.funcs after.funcs
