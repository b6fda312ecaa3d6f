-- Polls stand at the poll points and nowhere else, whatever else is known of where they are put.
use Rattle.std.specs.Prelude.{◌≡◌, ℕ, suc, ◌<◌, List, [], ◌∷◌, length, Some, slice_get}
use Rattle.std.specs.List.{All}
use Rattle.ir_ast.specs.Insts.{Instruction}
use Rattle.ir_ast.specs.Blocks.{BasicBlock, EndsAtTerminator}
use Rattle.ir_ast.specs.Funcs.{Function}
use Rattle.ir_ast.specs.Faults.EntryHasPred.{EntryHasNoPred}
use Rattle.ir_cfg.specs.Graphs.{graph_of}
use Rattle.ir_cfg.specs.Paths.{Reached}
use Rattle.ir_cfg.specs.PollPoints.{PollPoint}
use Rattle.base_forms.specs.Polls.{poll_call, placed}

-- the instructions of a block from a place on, and the same with a poll before each that stands at a poll point
pub data HasPolls (func : Function) (number : ℕ) : ℕ → List Instruction → List Instruction → Type 0 where
  no_more : (place : ℕ) → HasPolls func number place [] []
  goes_by : (place : ℕ) (inst : Instruction) (insts after : List Instruction) → ¬ PollPoint func number place
      → HasPolls func number (suc place) insts after → HasPolls func number place (inst ∷ insts) (inst ∷ after)
  polls : (place : ℕ) (inst : Instruction) (insts after : List Instruction) → PollPoint func number place
      → HasPolls func number (suc place) insts after → HasPolls func number place (inst ∷ insts) (poll_call ∷ inst ∷ after)

pub record BlockHasPolls (func : Function) (number : ℕ) (block after : BasicBlock) : Type 0 where
  pub name : after.name ≡ block.name
  pub insts : HasPolls func number 0 block.insts after.insts

-- the other function is this one with its polls
pub record FunctionHasPolls (func after : Function) : Type 0 where
  pub name : after.name ≡ func.name
  pub answer : after.answer ≡ func.answer
  pub args : after.args ≡ func.args
  pub count : length after.blocks ≡ length func.blocks
  pub blocks : (number : ℕ) (block given : BasicBlock) → slice_get func.blocks number ≡ Some block
      → slice_get after.blocks number ≡ Some given → BlockHasPolls func number block given

-- a function without unreached blocks
pub record IsReached (func : Function) : Type 0 where
  pub ends : All (λ block. EndsAtTerminator block.insts) func.blocks
  pub entry : EntryHasNoPred func
  pub reached : (number : ℕ) → number < length func.blocks → Reached (graph_of func) number

abbrev pub PollsStandAtPoints : Type 0
PollsStandAtPoints = (func : Function) → IsReached func → FunctionHasPolls func (placed func)
