-- A function that waits at its first line alone, as at its poll, and whose edges lead forward.
use Rattle.std.specs.Prelude.{ℕ, suc, ◌+◌, ◌&&◌, nat_lt, Bool, true, false, not, List, [], ◌∷◌, ◌++◌, length, map, is_some, slice_index, slice_index_or, slice_set}
use Rattle.std.specs.List.{list_all, range_with_len}
use Rattle.ir_ast.specs.declared.ops.Op.{Op}
use Rattle.ir_ast.specs.declared.ops.Op.TheVariants.{Call}
use Rattle.ir_ast.specs.declared.ops.Operand.{Operand}
use Rattle.ir_ast.specs.declared.ops.Operand.TheVariants.{Value, Int, Null, Fun}
use Rattle.ir_ast.specs.Ops.{is_terminator}
use Rattle.ir_ast.specs.Insts.{Instruction}
use Rattle.ir_ast.specs.Blocks.{BasicBlock}
use Rattle.ir_ast.specs.Edges.{targets}
use Rattle.ir_ast.specs.Funcs.{Function, instructions_of}
use Rattle.rewriting_forms.specs.Numbered.{named, is_call}
use Rattle.statepoint_insert.specs.declared.groups.Relocate.{Relocate}
use Rattle.statepoint_insert.specs.Groups.{GroupContent}
use Rattle.statepoint_insert.specs.Texts.{statepoint_line, result_lines, relocate_lines, first_rank}
use Rattle.ssa_rebuild.specs.Rows.{group_list}

abbrev pub is_none_of : {A : Type 0} → List A → Bool
is_none_of [] = true
is_none_of (x ∷ xs) = false

-- a call that isn't of a leaf, without a result, operands and a bundle
abbrev pub has_no_parts : Instruction → Bool
has_no_parts inst = not (is_some inst.result) && (is_none_of inst.operands && is_none_of inst.bundle)

abbrev pub is_bare : Instruction → Bool
is_bare inst = is_call inst.op && has_no_parts inst

abbrev pub begins_bare : List Instruction → Bool
begins_bare [] = false
begins_bare (inst ∷ insts) = is_bare inst

abbrev pub enters_bare : List BasicBlock → Bool
enters_bare [] = false
enters_bare (block ∷ blocks) = begins_bare block.insts

-- there is one group, whose relocates are of values below the bound
abbrev pub is_one_below : ℕ → List GroupContent → Bool
is_one_below count (group ∷ []) = list_all (λ relocate. nat_lt relocate.value.0 count) group.relocates
is_one_below count groups = false

-- each edge of the block with this number leads to a later one
abbrev pub leads_on : List BasicBlock → ℕ → Bool
leads_on blocks b = list_all (λ label. nat_lt b label.0) (slice_index_or (map targets blocks) b [])

abbrev pub leads_forward : List BasicBlock → Bool
leads_forward blocks = list_all (leads_on blocks) (range_with_len 0 (length blocks))

-- the only group is that of the first line, it relocates arguments alone, and no way comes back to a block
abbrev pub waits_at_entry : Function → List GroupContent → Bool
waits_at_entry func groups =
    enters_bare func.blocks && (is_one_below (length func.args) groups && leads_forward func.blocks)

-- ---- the numbers of values behind the group

-- each relocate takes the next number
abbrev pub moved : ℕ → List Relocate → List ℕ → List ℕ
moved next [] row = row
moved next (relocate ∷ relocates) row = moved (suc next) relocates (slice_set row relocate.value.0 next)

-- of so many arguments and so many other values
abbrev pub behind_group : ℕ → ℕ → List Relocate → List ℕ
behind_group args others relocates =
    moved (args + 1) relocates (range_with_len 0 args ++ range_with_len (args + (length relocates + 1)) others)

abbrev pub numbers_behind : Function → List Relocate → List ℕ
numbers_behind func relocates = behind_group (length func.args) (length (instructions_of func.blocks)) relocates

abbrev pub put : List ℕ → Operand → Operand
put row (Value value) = named (slice_index row value.0)
put row (Int word) = Int word
put row Null = Null
put row (Fun func) = Fun func

abbrev pub put_line : List ℕ → Instruction → Instruction
put_line row inst = record inst { operands = map (put row) inst.operands; bundle = map (λ entry. (entry.0, put row entry.1)) inst.bundle }

abbrev pub put_block : List ℕ → BasicBlock → BasicBlock
put_block row block = record block { insts = map (put_line row) block.insts }

-- ---- the group

-- the lines for a call whose token has this number
abbrev pub first_lines : ℕ → GroupContent → Instruction → Op → List Instruction
first_lines token group inst (Call callee types) =
    statepoint_line 0 group.has_null (group_list group) callee types inst.ty inst.operands inst.bundle
    ∷ (result_lines token inst.ty inst.result ++ relocate_lines token 0 (first_rank group.has_null) group.relocates)
first_lines token group inst _ = []

abbrev pub entry_lines : ℕ → GroupContent → List ℕ → List Instruction → List Instruction
entry_lines token group row [] = []
entry_lines token group row (inst ∷ insts) = first_lines token group inst inst.op ++ map (put_line row) insts

-- the first line ends nothing
abbrev pub goes_on : List Instruction → Bool
goes_on [] = false
goes_on (inst ∷ insts) = not (is_terminator inst.op)

abbrev pub entry_block : ℕ → GroupContent → List ℕ → BasicBlock → BasicBlock
entry_block token group row block = record block { insts = entry_lines token group row block.insts }

abbrev pub blocks_behind : ℕ → GroupContent → List ℕ → List BasicBlock → List BasicBlock
blocks_behind token group row [] = []
blocks_behind token group row (block ∷ blocks) = entry_block token group row block ∷ map (put_block row) blocks
