-- What liveness and the groups of statepoints ask of a function: its shape, without types.
use Rattle.std.specs.Prelude.{◌≡◌, ⊤, ℕ, ◌<◌, true, false, List, length, Some, None, slice_get}
use Rattle.std.specs.List.{All, prefix_len}
use Rattle.std.specs.Option.{option_map_or}
use Rattle.ir_ast.specs.declared.ops.Callee.{Callee}
use Rattle.ir_ast.specs.declared.ops.Callee.TheVariants.{Fun, TaskStart}
use Rattle.ir_ast.specs.declared.ops.Op.{Op}
use Rattle.ir_ast.specs.declared.ops.Op.TheVariants.{Call}
use Rattle.ir_ast.specs.declared.ops.Operand.{Operand}
use Rattle.ir_ast.specs.Insts.{Instruction}
use Rattle.ir_ast.specs.Blocks.{BasicBlock, EndsAtTerminator}
use Rattle.ir_ast.specs.Funcs.{Function, instructions_of, phis_of}
use Rattle.ir_ast.specs.Modules.{ModuleContent}
use Rattle.ir_ast.specs.Ops.{is_terminator}
use Rattle.ir_ast.specs.Faults.EntryHasPred.{LeavesEntry}
use Rattle.ir_ast.specs.Faults.GroupShape.{is_statepoint}
use Rattle.ir_ast.specs.Faults.PhiEdges.{is_phi}
use Rattle.object_meaning.specs.Calls.{function_in}
use Rattle.object_meaning.specs.Frames.{is_member}

-- only phis stand before a phi
abbrev pub PhisStandFirst : List Instruction → Type 0
PhisStandFirst insts = (place : ℕ) (inst : Instruction) → slice_get insts place ≡ Some inst → is_phi inst.op ≡ true → place < phis_of insts

abbrev pub arguments_of : ModuleContent → ℕ → ℕ
arguments_of content number = option_map_or (λ func. length func.args) (slice_get content.funcs number) 0

-- a call passes as many arguments as its callee has
abbrev pub PassesArguments : ModuleContent → Callee → List Operand → Type 0
PassesArguments content (Fun func) operands = length operands ≡ arguments_of content func.0
PassesArguments content TaskStart operands = arguments_of content (function_in (slice_get operands 0)) ≡ 1
PassesArguments content callee operands = ⊤

-- it passes one of each type
abbrev pub CallsInShape : ModuleContent → Op → List Operand → Type 0
CallsInShape content (Call callee types) operands = (length types ≡ length operands) × PassesArguments content callee operands
CallsInShape content op operands = ⊤

pub record IsPlainLine (content : ModuleContent) (inst : Instruction) : Type 0 where
  pub no_statepoint : is_statepoint inst.op ≡ false
  pub no_member : is_member inst.op ≡ false
  pub calls : CallsInShape content inst.op inst.operands
  pub leaves : LeavesEntry inst
  pub ends_unnamed : is_terminator inst.op ≡ true → inst.result ≡ None

-- the entry has no phi, phis stand first, and a terminator last
pub record IsBeforeLiveness (content : ModuleContent) (func : Function) : Type 0 where
  pub ends : All (λ block. EndsAtTerminator block.insts) func.blocks
  pub phis : All (λ block. PhisStandFirst block.insts) func.blocks
  pub entry : (block : BasicBlock) → slice_get func.blocks 0 ≡ Some block → phis_of block.insts ≡ 0
  pub lines : All (IsPlainLine content) (instructions_of func.blocks)
