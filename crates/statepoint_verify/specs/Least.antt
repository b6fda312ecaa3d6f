-- The least of faults, by line and then by code.
use Rattle.std.specs.Prelude.{◌≡◌, ℕ, ◌<◌, Bool, ◌==◌, ◌&&◌, ◌||◌, nat_lt, nat_le, if◌then◌else◌, List, Option, Some, None, MatchOption, slice_get, slice_index, length, take}
use Rattle.std.specs.List.{Contains}
use Rattle.ir_ast.specs.Funcs.{Function, LinedFunction, instructions_of}
use Rattle.ir_ast.specs.Modules.{LinedModule, line_at}
use Rattle.ir_cfg.specs.DefiniteUses.{text_place}
use Rattle.pair_facts.specs.Faults.{FaultAt, IsNoLater}
use Rattle.statepoint_verify.specs.declared.faults.Fault.{Fault}
use Rattle.statepoint_verify.specs.declared.marks.Mark.{Mark}

pub record IsLeast (faults : ℕ → ℕ → Type 0) (line code : ℕ) : Type 0 where
  pub fault : faults line code
  pub least : (other_line other_code : ℕ) → faults other_line other_code → IsNoLater line code other_line other_code

-- the least of these faults, or none where there is none
abbrev pub IsLeastOf : (ℕ → ℕ → Type 0) → Option Fault → Type 0
IsLeastOf faults found = MatchOption found ((line code : ℕ) → ¬ faults line code) (λ fault. IsLeast faults fault.line fault.code)

abbrev pub comes_first : Fault → Fault → Bool
comes_first one other = nat_lt one.line other.line || ((one.line == other.line) && nat_le one.code other.code)

-- the earlier of two
abbrev pub earlier : Option Fault → Option Fault → Option Fault
earlier None other = other
earlier (Some one) None = Some one
earlier (Some one) (Some other) = if comes_first one other then Some one else Some other

-- a fault of the function
pub record IsFaultIn (lined : LinedFunction) (line code : ℕ) : Type 0 where
  pub block : ℕ
  pub place : ℕ
  pub fault : FaultAt lined.content block place code
  pub line_is : line ≡ slice_index lined.lines (text_place lined.content block place)

-- a fault that a mark tells
pub record IsMarkedAs (lined : LinedFunction) (marks : List Mark) (line code : ℕ) : Type 0 where
  pub mark : Mark
  pub contained : Contains marks mark
  pub code_is : code ≡ mark.code
  pub line_is : line ≡ slice_index lined.lines (text_place lined.content mark.block mark.place)

-- a fault of a function with a number below this one
pub record IsFaultBelow (whole : LinedModule) (count line code : ℕ) : Type 0 where
  pub number : ℕ
  pub below : number < count
  pub func : Function
  pub defined : slice_get whole.content.funcs number ≡ Some func
  pub block : ℕ
  pub place : ℕ
  pub fault : FaultAt func block place code
  pub line_is : line ≡ line_at whole.lines number (text_place func block place)

-- the text place of each block's first line
abbrev pub AreStarts : Function → List ℕ → Type 0
AreStarts func starts = (block : ℕ) → block < length func.blocks → slice_get starts block ≡ Some (length (instructions_of (take block func.blocks)))
