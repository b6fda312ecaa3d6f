-- States of a run, on objects that never move. Nothing here has an address.
use Rattle.std.specs.Prelude.{ℕ, ℤ, List, Option}
use Rattle.ir_ast.specs.Layouts.{ObjectLayout}
use Rattle.ir_ast.specs.Objects.{Datum, Object}
use Rattle.object_meaning.specs.Lines.{Line}

-- a frame: its function and block, the lines of the block from where it stands, and its registers. One that waits
-- stands at its call, its poll or its `task_start`, so that it keeps the values of the call's bundle
pub record Frame : Type 0 where
  pub func : ℕ
  pub block : ℕ
  pub rest : List Line
  pub registers : List Datum

-- the running task: its number, its running frame, and the frames that wait below it, newest first. The other tasks by
-- number, newest frame first, all of whose frames wait; the running one and those that ended have none. Objects are
-- numbered from 1
pub record State : Type 0 where
  pub running : Frame
  pub below : List Frame
  pub task : ℕ
  pub tasks : List (List Frame)
  pub objects : List Object
  pub input : List ℤ
  pub steps : ℕ
  pub events : ℕ

-- what a run is of: the lines of a function's block as they are run, those before the first block, how many registers a
-- function has, the layouts, the function that runs first, what functions are called, the `go` line of each event, and
-- the steps that may be taken
pub record Setting : Type 0 where
  pub lines : ℕ → ℕ → List Line
  pub front : List Line
  pub registers : ℕ → ℕ
  pub layouts : List ObjectLayout
  pub main : ℕ
  pub names : ℕ → List ℕ
  pub go : ℕ → Option ℕ
  pub bound : ℕ
