-- A machine that goes on over lines which stay in their frame.
use Rattle.std.specs.Prelude.{◌≡◌, ℕ, zero, suc, Bool, true, false, List, [], ◌∷◌, map}
use Rattle.ir_ast.specs.declared.ops.Callee.{Callee}
use Rattle.ir_ast.specs.declared.ops.Callee.TheVariants.{Check}
use Rattle.ir_ast.specs.declared.ops.Op.{Op}
use Rattle.ir_ast.specs.declared.ops.Op.TheVariants.{Gep, Load, Store, Call}
use Rattle.ir_ast.specs.Insts.{Instruction}
use Rattle.ir_ast.specs.Layouts.{ObjectLayout}
use Rattle.ir_ast.specs.Objects.{Datum, number}
use Rattle.moving_heap.specs.Heaps.{HeapView}
use Rattle.object_meaning.specs.Effects.{goes_on}
use Rattle.object_meaning.specs.Lines.{Line, following}
use Rattle.object_meaning.specs.Registers.{put}
use Rattle.machine_meaning.specs.Machines.{Machine, Machinery}
use Rattle.machine_meaning.specs.MachineSteps.{machine_step}
use Rattle.machine_lines.specs.Decoding.{is_plain}
use Rattle.machine_lines.specs.Lines.{line_of, lines_left}

-- no group is pending between two steps
abbrev pub still : HeapView → HeapView
still heap = record heap { moves = [] }

abbrev pub is_quiet_call : Callee → Bool
is_quiet_call Check = true
is_quiet_call callee = false

-- a line that stays in its frame, and is no event
abbrev pub is_quiet : Op → Bool
is_quiet (Gep elem index_width place) = true
is_quiet Load = true
is_quiet Store = true
is_quiet (Call callee types) = is_quiet_call callee
is_quiet op = is_plain op

-- a machine whose running frame stands at these lines with these registers, over this heap
abbrev pub stood : Machine → List Line → List Datum → HeapView → Machine
stood machine rest registers heap = record machine {
  state = record machine.state { running = record machine.state.running { rest = rest; registers = registers } };
  heap = still heap;
}

-- what a machine at a line does goes on behind it with this word, over this heap
pub record Does (layouts : List ObjectLayout) (inst : Instruction) (registers : List ℕ) (heap : HeapView) (word : ℕ) (later : HeapView) : Type 0 where
  pub quiet : is_quiet inst.op ≡ true
  pub goes : (machinery : Machinery) (machine : Machine) (next : ℕ) (rest : List Instruction) → layouts ≡ machinery.setting.layouts
      → machine_step machinery (stood machine (lines_left next (inst ∷ rest)) (map number registers) heap)
      ≡ goes_on (stood machine (lines_left (following next inst) rest) (put (line_of next inst).to (number word) (map number registers)) later)

-- the same of registers, of which the next is taken by the line's result
pub record DoesLine (layouts : List ObjectLayout) (inst : Instruction) (next : ℕ) (registers : List ℕ) (heap : HeapView) (after : ℕ) (more : List ℕ) (later : HeapView) : Type 0 where
  pub quiet : is_quiet inst.op ≡ true
  pub goes : (machinery : Machinery) (machine : Machine) (rest : List Instruction) → layouts ≡ machinery.setting.layouts
      → machine_step machinery (stood machine (lines_left next (inst ∷ rest)) (map number registers) heap)
      ≡ goes_on (stood machine (lines_left after rest) (map number more) later)

-- the step of a machine that stands at a quiet line goes on to the other
pub record Passes (machinery : Machinery) (old new : Machine) : Type 0 where
  pub line : Line
  pub rest : List Line
  pub stands : old.state.running.rest ≡ line ∷ rest
  pub quiet : is_quiet line.inst.op ≡ true
  pub goes : machine_step machinery old ≡ goes_on new

abbrev pub PassesOften : Machinery → ℕ → Machine → Machine → Type 0
PassesOften machinery zero old new = new ≡ old
PassesOften machinery (suc count) old new = (middle : Machine) × (PassesOften machinery count old middle × Passes machinery middle new)

pub record GoesOver (machinery : Machinery) (old new : Machine) : Type 0 where
  pub count : ℕ
  pub often : PassesOften machinery count old new
