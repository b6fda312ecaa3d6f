-- What a task begins with, and what its calls and returns do to it.
use Rattle.std.specs.Prelude.{◌≡◌, ℕ, ◌+◌, Bool, true, false, List, [], ◌∷◌, ◌++◌, drop, replicate}
use Rattle.ir_ast.specs.Modules.{ModuleContent}
use Rattle.ir_ast.specs.Objects.{Datum}
use Rattle.machine_meaning.specs.Code.{words_in}
use Rattle.machine_frames.specs.declared.tasks.Task.{Task}
use Rattle.machine_frames.specs.Frames.{frame_of, entered_in, below_of}

-- the words of a frame, each 0, and its return address
abbrev pub words_pushed : ModuleContent → ℕ → ℕ → List ℕ
words_pushed content func address = replicate (words_in content func) 0 ++ address ∷ []

pub record Begins (content : ModuleContent) (func : ℕ) (arguments : List Datum) (task : Task) : Type 0 where
  pub frame : frame_of task.frame ≡ entered_in content func arguments
  pub below : below_of task ≡ []
  pub stack : task.stack ≡ words_pushed content func 0

pub record Enters (content : ModuleContent) (func : ℕ) (arguments : List Datum) (address : ℕ) (old new : Task) : Type 0 where
  pub frame : frame_of new.frame ≡ entered_in content func arguments
  pub below : below_of new ≡ frame_of old.frame ∷ below_of old
  pub stack : new.stack ≡ words_pushed content func address ++ old.stack

pub record Returns (content : ModuleContent) (old new : Task) : Type 0 where
  pub below : below_of old ≡ frame_of new.frame ∷ below_of new
  pub stack : new.stack ≡ drop (words_in content old.frame.func + 1) old.stack

abbrev pub Leaves : ModuleContent → Task → Bool → Task → Type 0
Leaves content old true new = Returns content old new
Leaves content old false new = (below_of old ≡ []) × (new ≡ old)
