-- The faults of the instructions of a function, by their places.
use Rattle.std.specs.Prelude.{◌≡◌, ℕ, ◌+◌, ◌<◌, ◌⊎◌, true, List, [], length, take, Some, slice_get, unwrap_or}
use Rattle.sp_ids.specs.declared.ids.BlockId.{BlockId}
use Rattle.ir_ast.specs.declared.modules.Form.{Form}
use Rattle.ir_ast.specs.declared.modules.Form.TheVariants.{Source, Rewritten}
use Rattle.ir_ast.specs.declared.ops.Operand.{Operand}
use Rattle.ir_ast.specs.declared.ops.Op.TheVariants.{Switch}
use Rattle.ir_ast.specs.Insts.{Instruction}
use Rattle.ir_ast.specs.Blocks.{BasicBlock}
use Rattle.ir_ast.specs.Funcs.{Function, LinedFunction, instructions_of}
use Rattle.ir_ast.specs.Modules.{ModuleContent}
use Rattle.ir_ast.specs.Ops.{is_terminator}
use Rattle.ir_ast.specs.Scope.{scope_of}
use Rattle.ir_ast.specs.Faults.PhiEdges.{is_phi, PhiIsRight}
use Rattle.ir_ast.specs.Faults.DerivedEscapes.{KeepsDerived}
use Rattle.ir_ast.specs.Faults.PointerOrder.{orders_pointers}
use Rattle.ir_ast.specs.Faults.GroupShape.{ShapeOf}
use Rattle.ir_resolve.specs.Resolved.{part_line}
use Rattle.ir_resolve.specs.ModuleFaults.{IsTypedBesidesCalls}
use Rattle.ir_verify.specs.Bodies.{insts_of, line_in, cases_in}
use Rattle.ir_verify.specs.Founds.{FoundIn}

-- this code at this line, where something holds
abbrev pub At : ℕ → ℕ → Type 0 → ℕ → ℕ → Type 0
At code line P l c = (c ≡ code) × (l ≡ line) × P

-- ---- of an instruction by itself

-- an operand that an earlier case has; the first operand is what is tested
pub record Repeats (operands : List Operand) (later : ℕ) (value : Operand) : Type 0 where
  pub earlier : ℕ
  pub behind_tested : 0 < earlier
  pub in_order : earlier < later
  pub same : slice_get operands earlier ≡ Some value

abbrev pub CaseAt : ℕ → List ℕ → List Operand → ℕ → Operand → ℕ → ℕ → Type 0
CaseAt line cases operands later value = At 5 (part_line line cases later) (Repeats operands later value)

abbrev pub CaseFault : ℕ → List ℕ → Instruction → ℕ → ℕ → Type 0
CaseFault line cases inst l c = (inst.op ≡ Switch) × FoundIn (CaseAt line cases inst.operands) inst.operands l c

-- a label that names the first block
abbrev pub LabelAt : ℕ → List ℕ → ℕ → BlockId → ℕ → ℕ → Type 0
LabelAt line cases part label = At 6 (part_line line cases part) (label.0 ≡ 0)

abbrev pub EntryFault : ℕ → List ℕ → Instruction → ℕ → ℕ → Type 0
EntryFault line cases inst l c = (is_terminator inst.op ≡ true) × FoundIn (LabelAt line cases) inst.labels l c

abbrev pub PartFault : ℕ → List ℕ → Instruction → ℕ → ℕ → Type 0
PartFault line cases inst l c = CaseFault line cases inst l c ⊎ EntryFault line cases inst l c

abbrev pub TypeFault : ModuleContent → Function → ℕ → Instruction → ℕ → ℕ → Type 0
TypeFault content func line inst = At 5 line (¬ IsTypedBesidesCalls (scope_of content func) inst)

abbrev pub OrderFault : ℕ → Instruction → ℕ → ℕ → Type 0
OrderFault line inst = At 15 line (orders_pointers inst.op inst.ty ≡ true)

-- what an instruction breaks by itself
abbrev pub InstFault : ModuleContent → Function → ℕ → List ℕ → Instruction → ℕ → ℕ → Type 0
InstFault content func line cases inst l c =
    TypeFault content func line inst l c ⊎ (OrderFault line inst l c ⊎ PartFault line cases inst l c)

abbrev pub LineFaultAt : ModuleContent → LinedFunction → List (List ℕ) → ℕ → Instruction → ℕ → ℕ → Type 0
LineFaultAt content func cases place inst = InstFault content func.content (line_in func place) (cases_in cases place) inst

-- ---- of phis

-- of the block with this number, whose first instruction has this place
abbrev pub PhiFaultAt : LinedFunction → ℕ → ℕ → List Instruction → ℕ → Instruction → ℕ → ℕ → Type 0
PhiFaultAt func block start insts at inst =
    At 7 (line_in func (start + at)) ((is_phi inst.op ≡ true) × ¬ PhiIsRight func.content block (take at insts) inst)

-- where the instructions of a block begin
abbrev pub start_of : Function → ℕ → ℕ
start_of func block = length (instructions_of (take block func.blocks))

abbrev pub BlockFaultAt : LinedFunction → ℕ → BasicBlock → ℕ → ℕ → Type 0
BlockFaultAt func block one = FoundIn (PhiFaultAt func block (start_of func.content block) one.insts) one.insts

-- ---- of one of the forms

abbrev pub EscapeAt : LinedFunction → ℕ → Instruction → ℕ → ℕ → Type 0
EscapeAt func place inst = At 9 (line_in func place) (¬ KeepsDerived func.content inst)

abbrev pub ShapeAt : LinedFunction → ℕ → Instruction → ℕ → ℕ → Type 0
ShapeAt func place inst = At 18 (line_in func place) (¬ ShapeOf func.content place inst inst.op)

abbrev pub FormFault : Form → LinedFunction → ℕ → ℕ → Type 0
FormFault Source func = FoundIn (EscapeAt func) (insts_of func)
FormFault Rewritten func = FoundIn (ShapeAt func) (insts_of func)

-- ---- of a function, of whose instructions the cases have these lines

abbrev pub FunctionFault : ModuleContent → LinedFunction → List (List ℕ) → ℕ → ℕ → Type 0
FunctionFault content func cases l c =
    FoundIn (LineFaultAt content func cases) (insts_of func) l c
    ⊎ (FoundIn (BlockFaultAt func) func.content.blocks l c ⊎ FormFault content.form func l c)

-- of the function with this number
abbrev pub FunctionAt : ModuleContent → List (List (List ℕ)) → ℕ → LinedFunction → ℕ → ℕ → Type 0
FunctionAt content cases number func = FunctionFault content func (unwrap_or (slice_get cases number) [])
