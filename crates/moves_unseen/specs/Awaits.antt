-- For whom a frame waits: for the frame above it, which runs the function that it calls, or, on top of its task, at a poll or at a
-- `task_start`. Task 0 began with `@main`.
use Rattle.std.specs.Prelude.{◌≡◌, ⊤, ℕ, List, [], ◌∷◌, Option, Some, None, slice_get}
use Rattle.std.specs.List.{All}
use Rattle.sp_ids.specs.declared.ids.FuncId.{FuncId}
use Rattle.ir_ast.specs.declared.ops.Callee.TheVariants.{Fun, Poll, TaskStart}
use Rattle.ir_ast.specs.declared.ops.Op.{Op}
use Rattle.ir_ast.specs.declared.ops.Op.TheVariants.{Statepoint}
use Rattle.ir_ast.specs.declared.types.Ty.{Ty}
use Rattle.ir_ast.specs.Modules.{ModuleContent}
use Rattle.object_meaning.specs.Lines.{Line, main_of}
use Rattle.object_meaning.specs.States.{Frame, State}

-- the statepoint at which a frame waits for one above it that runs this function, or for none
pub data WaitsFor : Option ℕ → Op → Type 0 where
  calls : (id : ℕ) (func : FuncId) (types : List Ty) → WaitsFor (Some func.0) (Statepoint id (Fun func) types)
  polls : (id : ℕ) (types : List Ty) → WaitsFor None (Statepoint id Poll types)
  starts : (id : ℕ) (types : List Ty) → WaitsFor None (Statepoint id TaskStart types)

pub record IsAwaiting (above : Option ℕ) (frame : Frame) : Type 0 where
  pub call : Line
  pub behind : List Line
  pub stands : frame.rest ≡ call ∷ behind
  pub op : WaitsFor above call.inst.op

-- frames that wait, newest first, below a frame that runs this function, or below none
abbrev pub AreAwaiting : Option ℕ → List Frame → Type 0
AreAwaiting above [] = ⊤
AreAwaiting above (frame ∷ below) = IsAwaiting above frame × AreAwaiting (Some frame.func) below

-- the function with which a task began whose newest frame runs this one
abbrev pub began : ℕ → List Frame → ℕ
began func [] = func
began func (frame ∷ below) = began frame.func below

-- all frames that wait, where a frame of this function runs above these; the place of the running task is empty
pub record AllAwait (content : ModuleContent) (running : ℕ) (frames : List Frame) (task : ℕ) (all : List (List Frame)) : Type 0 where
  pub below : AreAwaiting (Some running) frames
  pub tasks : All (AreAwaiting None) all
  pub place : slice_get all task ≡ Some []
  pub runs : task ≡ 0 → began running frames ≡ main_of content
  pub waits : (frame : Frame) (more : List Frame) → slice_get all 0 ≡ Some (frame ∷ more) → began frame.func more ≡ main_of content

abbrev pub TasksAwait : ModuleContent → State → Type 0
TasksAwait content state = AllAwait content state.running.func state.below state.task state.tasks
