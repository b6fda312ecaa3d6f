-- What one step of a run does to a frame.
use Rattle.std.specs.Prelude.{◌≡◌, ℕ, Bool, true, false, ◌||◌, List, ◌∷◌, drop, Ok}
use Rattle.ir_ast.specs.declared.ops.Op.{Op}
use Rattle.ir_ast.specs.declared.ops.Op.TheVariants.{Phi, Load, Store, Call, Statepoint, GcResult, GcRelocate, Br, CondBr, Switch, Ret, Unreachable}
use Rattle.ir_ast.specs.Objects.{Datum}
use Rattle.ir_ast.specs.Ops.{is_member, is_phi}
use Rattle.object_meaning.specs.Computing.{value_of_line}
use Rattle.object_meaning.specs.Frames.{answered_by}
use Rattle.object_meaning.specs.Jumps.{arrived, branch_taken, case_taken, label_at}
use Rattle.object_meaning.specs.Lines.{Line}
use Rattle.object_meaning.specs.Registers.{operand, put}
use Rattle.object_meaning.specs.States.{Frame, Setting}

-- it computes a value from values, and does nothing else
abbrev pub computes : Op → Bool
computes Phi = false
computes Load = false
computes Store = false
computes (Call callee types) = false
computes (Statepoint id callee types) = false
computes GcResult = false
computes GcRelocate = false
computes Br = false
computes CondBr = false
computes Switch = false
computes Ret = false
computes Unreachable = false
computes _ = true

abbrev pub accesses_cell : Op → Bool
accesses_cell Load = true
accesses_cell Store = true
accesses_cell _ = false

abbrev pub is_calling : Op → Bool
is_calling (Call callee types) = true
is_calling (Statepoint id callee types) = true
is_calling _ = false

-- the block to which a terminator leads
pub data LeadsTo (line : Line) (registers : List Datum) : Op → ℕ → Type 0 where
  by_br : LeadsTo line registers Br (label_at line.inst.labels 0)
  by_condition : LeadsTo line registers CondBr (label_at line.inst.labels (branch_taken (operand registers line.inst.operands 0)))
  by_switch : LeadsTo line registers Switch
      (label_at line.inst.labels (case_taken (operand registers line.inst.operands 0) (drop 1 line.inst.operands)))

-- the frame behind a line that gives this
abbrev pub behind : Frame → Line → List Line → Datum → Frame
behind frame line rest result = record frame { rest = rest; registers = put line.to result frame.registers }

pub data Onward (setting : Setting) (frame : Frame) : Frame → Type 0 where
  computed : (line : Line) (rest : List Line) (result : Datum) → frame.rest ≡ line ∷ rest → computes line.inst.op ≡ true
      → value_of_line setting.layouts frame.registers line.inst.op line.inst.ty line.inst.operands ≡ Ok result
      → Onward setting frame (behind frame line rest result)
  accessed : (line : Line) (rest : List Line) (datum : Datum) → frame.rest ≡ line ∷ rest → accesses_cell line.inst.op ≡ true
      → Onward setting frame (behind frame line rest datum)
  answered : (line : Line) (rest : List Line) (answer : Datum) → frame.rest ≡ line ∷ rest → is_calling line.inst.op ≡ true
      → Onward setting frame (answered_by frame line rest answer line.inst.op)
  skipped : (line : Line) (rest : List Line) → frame.rest ≡ line ∷ rest → is_phi line.inst.op || is_member line.inst.op ≡ true
      → Onward setting frame (record frame { rest = rest })
  jumped : (line : Line) (rest : List Line) (to : ℕ) → frame.rest ≡ line ∷ rest → LeadsTo line frame.registers line.inst.op to
      → Onward setting frame (arrived frame to (setting.lines frame.func to))
