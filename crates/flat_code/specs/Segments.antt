-- The segments of a function: straight parts of its blocks, each with its exit.
use Rattle.std.specs.Prelude.{◌≡◌, ℕ, ◌<◌, ◌≤◌, List, [], ◌∷◌, ◌++◌, length, map, Option, Some, None, MatchOption, slice_get, slice_index_or}
use Rattle.std.specs.List.{All}
use Rattle.ir_ast.specs.declared.types.Ty.{Ty}
use Rattle.ir_ast.specs.declared.ops.Callee.{Callee}
use Rattle.ir_ast.specs.declared.ops.Callee.TheVariants as callees
use Rattle.ir_ast.specs.declared.ops.Op.{Op}
use Rattle.ir_ast.specs.declared.ops.Op.TheVariants as ops
use Rattle.ir_ast.specs.declared.ops.Op.TheVariants.{Call}
use Rattle.ir_ast.specs.declared.ops.Operand.{Operand}
use Rattle.ir_ast.specs.Layouts.{ObjectLayout}
use Rattle.ir_ast.specs.Funcs.{Function as IrFunction}
use Rattle.ir_ast.specs.Insts.{Instruction}
use Rattle.object_meaning.specs.Lines.{Line}
use Rattle.object_meaning.specs.Numbers.{width_of}
use Rattle.object_meaning.specs.Jumps.{label_at}
use Rattle.flat_code.specs.declared.spots.Spot.{Spot}
use Rattle.flat_code.specs.declared.lines.Edge.{Edge}
use Rattle.flat_code.specs.declared.lines.Exit.{Exit}
use Rattle.flat_code.specs.declared.lines.Exit.TheVariants.{Poll, Enter, New, Print, Read, Start, Jump, Branch, Switch, Return, Unreachable}
use Rattle.flat_code.specs.declared.lines.Segment.{Segment}
use Rattle.flat_code.specs.declared.lines.Function.{Function}
use Rattle.flat_code.specs.Flats.{Decodes, IsSizedLine}
use Rattle.flat_code.specs.Edges.{IsEdge}
use Rattle.flat_code.specs.Spots.{insts_at, count_at, lines_at, front_spot, behind_phis}

-- the line of a call
pub record Calls (callee : Callee) (op : Op) : Type 0 where
  pub types : List Ty
  pub is : op ≡ Call callee types

-- the edge of each label of a `switch`, which has one for each operand, and one where it has none
pub record AreEdges (defined : Option IrFunction) (from : ℕ) (inst : Instruction) (edges : List Edge) : Type 0 where
  pub each : (k : ℕ) (d : Edge) → k < length edges → IsEdge defined from (label_at inst.labels k) (slice_index_or edges k d)
  pub some : 1 ≤ length edges
  pub enough : length inst.operands ≤ length edges

-- the exit of this line of a block
abbrev pub IsExit : Option IrFunction → ℕ → Instruction → Exit → Type 0
IsExit defined from inst Poll = Calls callees.Poll inst.op
IsExit defined from inst (Enter func) = Calls (callees.Fun (record { 0 = func })) inst.op
IsExit defined from inst (New layout) = Calls (callees.New layout) inst.op
IsExit defined from inst Print = Calls callees.Print inst.op
IsExit defined from inst Read = Calls callees.Read inst.op
IsExit defined from inst Start = Calls callees.TaskStart inst.op
IsExit defined from inst (Jump edge) = (inst.op ≡ ops.Br) × IsEdge defined from (label_at inst.labels 0) edge
IsExit defined from inst (Branch one other) =
    (inst.op ≡ ops.CondBr) × IsEdge defined from (label_at inst.labels 0) one × IsEdge defined from (label_at inst.labels 1) other
IsExit defined from inst (Switch edges) = (inst.op ≡ ops.Switch) × AreEdges defined from inst edges.items
IsExit defined from inst (Return width) = (inst.op ≡ ops.Ret) × (width ≡ width_of inst.ty)
IsExit defined from inst Unreachable = inst.op ≡ ops.Unreachable

-- at the end of a segment stands the line of its exit, and behind it this spot
pub record ExitAt (defined : Option IrFunction) (end : Spot) (exit : Exit) (to : Option ℕ) (operands : List Operand) (next : Spot) : Type 0 where
  pub line : Line
  pub is : lines_at defined end ≡ line ∷ lines_at defined next
  pub block : next.block ≡ end.block
  pub to_is : line.to ≡ to
  pub operands_are : line.inst.operands ≡ operands
  pub exit_is : IsExit defined end.block line.inst exit

-- what a segment leads to
abbrev pub Leads : Option IrFunction → Segment → Option Exit → Option Spot → Type 0
Leads defined segment None next = lines_at defined segment.end ≡ []
Leads defined segment (Some exit) None = ⊥
Leads defined segment (Some exit) (Some next) = ExitAt defined segment.end exit segment.to segment.operands.items next

pub record IsSegment (layouts : List ObjectLayout) (defined : Option IrFunction) (segment : Segment) : Type 0 where
  pub lines : Decodes layouts (lines_at defined segment.start) segment.lines.items (lines_at defined segment.end)
  pub sized : All IsSizedLine segment.lines.items
  pub block : segment.end.block ≡ segment.start.block

-- where the first of these segments begins, or else what comes then
abbrev pub first_spot : List Segment → Option Spot → Option Spot
first_spot [] next = next
first_spot (segment ∷ segments) next = Some segment.start

-- each segment leads to the next, and the last to this spot
abbrev pub AreChained : List ObjectLayout → Option IrFunction → List Segment → Option Spot → Type 0
AreChained layouts defined [] next = Unit {0}
AreChained layouts defined (segment ∷ segments) next =
    IsSegment layouts defined segment × Leads defined segment segment.exit (first_spot segments next)
    × AreChained layouts defined segments next

abbrev pub starts_in : List Segment → List Spot
starts_in segments = map (λ segment. segment.start) segments

abbrev pub StartsAt : List Segment → ℕ → Spot → Type 0
StartsAt segments place spot = slice_get (starts_in segments) place ≡ Some spot

pub record IsFront {A : Type 0} (xs ys : List A) : Type 0 where
  pub more : List A
  pub is : ys ≡ xs ++ more

pub record IsFunction (layouts : List ObjectLayout) (defined : Option IrFunction) (func : Function) : Type 0 where
  pub registers : func.registers ≡ count_at defined
  pub chained : AreChained layouts defined func.segments.items None
  pub front : StartsAt func.segments.items 0 (front_spot defined)
  pub starts : (block : ℕ) → MatchOption (slice_get func.starts.items block) (insts_at defined block ≡ [])
      (λ place. StartsAt func.segments.items place (behind_phis defined block))
