-- The faults of a resolved text that break a rule of its module: the line of the instruction, and the code. What its
-- calls ask isn't judged here, since a module has no declarations.
use Rattle.std.specs.Prelude.{◌≡◌, ℕ, ◌+◌, ◌<◌, true, false, List, ◌∷◌, ◌++◌, length, take, Some, slice_get, ⊤}
use Rattle.std.specs.List.{All, AllZip}
use Rattle.sp_ids.specs.declared.ids.BlockId.{BlockId}
use Rattle.ir_ast.specs.declared.modules.Form.TheVariants.{Source, Rewritten}
use Rattle.ir_ast.specs.declared.ops.Operand.{Operand}
use Rattle.ir_ast.specs.declared.ops.Op.{Op}
use Rattle.ir_ast.specs.declared.ops.Op.TheVariants.{Call, Statepoint, Switch}
use Rattle.ir_ast.specs.Insts.{Instruction}
use Rattle.ir_ast.specs.Blocks.{BasicBlock}
use Rattle.ir_ast.specs.Funcs.{Function, instructions_of}
use Rattle.ir_ast.specs.Modules.{line_at}
use Rattle.ir_ast.specs.Ops.{is_terminator}
use Rattle.ir_ast.specs.Scope.{Scope, scope_of}
use Rattle.ir_ast.specs.Faults.TypeClash.{Fits, asked, RuleOf}
use Rattle.ir_ast.specs.Faults.PhiEdges.{is_phi, PhiIsRight}
use Rattle.ir_ast.specs.Faults.DerivedEscapes.{KeepsDerived}
use Rattle.ir_ast.specs.Faults.NoMain.{HasMain}
use Rattle.ir_ast.specs.Faults.PointerOrder.{orders_pointers}
use Rattle.ir_ast.specs.Faults.GroupShape.{ShapeOf}
use Rattle.ir_resolve.specs.Resolved.{Resolved, cases_at, part_line}

-- an instruction of a function
pub record Stands (text : Resolved) : Type 0 where
  pub number : ℕ
  pub func : Function
  pub is_function : slice_get text.whole.content.funcs number ≡ Some func
  pub place : ℕ
  pub inst : Instruction
  pub is_instruction : slice_get (instructions_of func.blocks) place ≡ Some inst

abbrev pub its_line : (text : Resolved) → Stands text → ℕ
its_line text at = line_at text.whole.lines at.number at.place

abbrev pub its_part : (text : Resolved) → Stands text → ℕ → ℕ
its_part text at part = part_line (its_line text at) (cases_at text.cases at.number at.place) part

-- an instruction that breaks a rule of its function and its place
pub record Breaks (text : Resolved) (line : ℕ) (Rule : Function → ℕ → Instruction → Type 0) : Type 0 where
  pub at : Stands text
  pub its : its_line text at ≡ line
  pub breaks : ¬ Rule at.func at.place at.inst

-- ---- code 5

abbrev pub RuleBesidesCalls : Scope → Op → Instruction → Type 0
RuleBesidesCalls scope (Call callee types) inst = ⊤
RuleBesidesCalls scope (Statepoint id callee types) inst = ⊤
-- its cases are judged one by one
RuleBesidesCalls scope Switch inst = ⊤
RuleBesidesCalls scope op inst = RuleOf scope op inst

pub record IsTypedBesidesCalls (scope : Scope) (inst : Instruction) : Type 0 where
  pub operands : AllZip (Fits scope.values) inst.operands (asked inst.op inst.ty (length inst.operands))
  pub bundle : All (λ entry. Fits scope.values entry.1 entry.0) inst.bundle
  pub rule : RuleBesidesCalls scope inst.op inst

-- a case of a `switch` with the value of an earlier one; the first operand is what it tests
pub record CaseAgain (text : Resolved) (line : ℕ) : Type 0 where
  pub at : Stands text
  pub switch : at.inst.op ≡ Switch
  pub earlier : ℕ
  pub later : ℕ
  pub behind_tested : 0 < earlier
  pub in_order : earlier < later
  pub value : Operand
  pub is_earlier : slice_get at.inst.operands earlier ≡ Some value
  pub is_later : slice_get at.inst.operands later ≡ Some value
  pub its : its_part text at later ≡ line

-- ---- code 6

-- a label of a terminator that names the first block
pub record NamesEntry (text : Resolved) (line : ℕ) : Type 0 where
  pub at : Stands text
  pub ends : is_terminator at.inst.op ≡ true
  pub part : ℕ
  pub label : BlockId
  pub is_label : slice_get at.inst.labels part ≡ Some label
  pub first : label.0 ≡ 0
  pub its : its_part text at part ≡ line

-- ---- code 7

pub record PhiIsWrong (text : Resolved) (line : ℕ) : Type 0 where
  pub number : ℕ
  pub func : Function
  pub is_function : slice_get text.whole.content.funcs number ≡ Some func
  pub at : ℕ
  pub block : BasicBlock
  pub is_block : slice_get func.blocks at ≡ Some block
  pub before : List Instruction
  pub phi : Instruction
  pub after : List Instruction
  pub whole : block.insts ≡ before ++ phi ∷ after
  pub merges : is_phi phi.op ≡ true
  pub its : line_at text.whole.lines number (length (instructions_of (take at func.blocks)) + length before) ≡ line
  pub wrong : ¬ PhiIsRight func at before phi

-- ---- the set

pub data HasModuleFault (text : Resolved) (line : ℕ) : ℕ → Type 0 where
  type_clash : Breaks text line (λ func place inst. IsTypedBesidesCalls (scope_of text.whole.content func) inst) → HasModuleFault text line 5
  case_again : CaseAgain text line → HasModuleFault text line 5
  entry_has_pred : NamesEntry text line → HasModuleFault text line 6
  phi_edges : PhiIsWrong text line → HasModuleFault text line 7
  derived_escapes : text.whole.content.form ≡ Source → Breaks text line (λ func place inst. KeepsDerived func inst) → HasModuleFault text line 9
  no_main : line ≡ 0 → ¬ HasMain text.whole.content → HasModuleFault text line 11
  pointer_order : Breaks text line (λ func place inst. orders_pointers inst.op inst.ty ≡ false) → HasModuleFault text line 15
  group_shape : text.whole.content.form ≡ Rewritten → Breaks text line (λ func place inst. ShapeOf func place inst inst.op)
      → HasModuleFault text line 18
