-- The faults of a rewritten module that the verifier tells, each by its line and its code, and verified modules.
use Rattle.std.specs.Prelude.{◌≡◌, ◌⊎◌, ℕ, ◌<◌, ◌≤◌, true, false, List, Some, slice_get}
use Rattle.std.specs.List.{Contains}
use Rattle.ir_ast.specs.declared.types.Ty.{Ty}
use Rattle.ir_ast.specs.declared.ops.Callee.{Callee}
use Rattle.ir_ast.specs.declared.ops.Operand.{Operand}
use Rattle.ir_ast.specs.declared.ops.Op.TheVariants.{Call}
use Rattle.ir_ast.specs.Funcs.{Function}
use Rattle.ir_ast.specs.Modules.{ModuleContent, LinedModule, line_at}
use Rattle.ir_ast.specs.Types.{is_pointer}
use Rattle.ir_ast.specs.Callees.{is_leaf}
use Rattle.ir_ast.specs.Faults.GroupShape.{is_statepoint}
use Rattle.ir_cfg.specs.Graphs.{graph_of}
use Rattle.ir_cfg.specs.Paths.{Reached}
use Rattle.ir_cfg.specs.DefiniteUses.{text_place}
use Rattle.object_meaning.specs.Lines.{Line}
use Rattle.pair_facts.specs.declared.bases.Base.TheVariants.{Any, Named}
use Rattle.pair_facts.specs.Lines.{lines_at, operand_at, is_null, group_in}
use Rattle.pair_facts.specs.Pairs.{base_index, has_base}
use Rattle.pair_facts.specs.Paths.{Stands, Misses}
use Rattle.pair_facts.specs.Uses.{Use, Uses, Relocates, entries_at, accessed_at, is_checked, is_kept}

-- on some path the pointer or the base isn't fresh
abbrev pub IsStale : Function → ℕ → ℕ → Use → Type 0
IsStale func block place pair = Misses func block place pair.address Any ⊎ Misses func block place pair.base Any

-- both are fresh, but on some path this isn't the pointer's base, or isn't its own
pub record IsLoose (func : Function) (block place : ℕ) (pair : Use) : Type 0 where
  pub address_fresh : Stands func block place pair.address Any
  pub base_fresh : Stands func block place pair.base Any
  pub misses : Misses func block place pair.address (Named pair.base) ⊎ Misses func block place pair.base (Named pair.base)

-- the base entry of a relocate isn't `null`, and no relocate of the group keeps it: a later move would use its old word
pub record IsOpenGroup (lines : List Line) (place : ℕ) : Type 0 where
  pub head : ℕ
  pub line : Line
  pub relocates : Relocates lines place head line
  pub named : is_null (operand_at (entries_at lines head) (base_index line)) ≡ false
  pub lost : has_base (group_in lines head) (base_index line) ≡ false

-- a load or a store without a check of its address and kind directly before it
pub record IsUnchecked (lines : List Line) (place : ℕ) : Type 0 where
  pub line : Line
  pub stands : slice_get lines place ≡ Some line
  pub address : Operand
  pub accesses : accessed_at line.inst.op line.inst ≡ Some address
  pub unchecked : is_checked lines place address line.inst.ty ≡ false

-- a call outside a statepoint of a function that isn't a leaf
pub record IsPlainCall (lines : List Line) (place : ℕ) : Type 0 where
  pub line : Line
  pub stands : slice_get lines place ≡ Some line
  pub callee : Callee
  pub types : List Ty
  pub op : line.inst.op ≡ Call callee types
  pub waits : is_leaf callee ≡ false

-- a pointer in the bundle of a statepoint whose word no relocate keeps
pub record IsLostValue (lines : List Line) (place : ℕ) : Type 0 where
  pub line : Line
  pub stands : slice_get lines place ≡ Some line
  pub op : is_statepoint line.inst.op ≡ true
  pub entry : Ty × Operand
  pub contained : Contains line.inst.bundle entry
  pub pointer : is_pointer entry.0 ≡ true
  pub lost : is_kept (entries_at lines place) (group_in lines place) entry.1 ≡ false

-- the faults of a line, by their codes
pub data FaultAt (func : Function) (block place : ℕ) : ℕ → Type 0 where
  -- 1 Stale
  stale : (code at : ℕ) (pair : Use) → Uses (lines_at func block) place code at pair → IsStale func block at pair
      → FaultAt func block place 1
  -- 2 BadPair at a relocate, 3 Unchecked at a check, 4 BadSame, 5 Escapes
  loose : (code at : ℕ) (pair : Use) → Uses (lines_at func block) place code at pair → IsLoose func block at pair
      → FaultAt func block place code
  -- 2 BadPair
  open_group : Reached (graph_of func) block → IsOpenGroup (lines_at func block) place → FaultAt func block place 2
  -- 3 Unchecked
  unchecked : Reached (graph_of func) block → IsUnchecked (lines_at func block) place → FaultAt func block place 3
  -- 6 BadGroup
  plain_call : Reached (graph_of func) block → IsPlainCall (lines_at func block) place → FaultAt func block place 6
  -- 7 BadDeopt
  lost_value : IsLostValue (lines_at func block) place → FaultAt func block place 7

-- a fault of a module: its line in the text, and its code
pub record IsFault (whole : LinedModule) (line code : ℕ) : Type 0 where
  pub number : ℕ
  pub func : Function
  pub defined : slice_get whole.content.funcs number ≡ Some func
  pub block : ℕ
  pub place : ℕ
  pub fault : FaultAt func block place code
  pub line_is : line ≡ line_at whole.lines number (text_place func block place)

-- a module without a fault
abbrev pub IsVerified : ModuleContent → Type 0
IsVerified content = (number block place code : ℕ) (func : Function) → slice_get content.funcs number ≡ Some func → ¬ FaultAt func block place code

-- a fault at a lower line, or at the same line with a lower code or the same
abbrev pub IsNoLater : ℕ → ℕ → ℕ → ℕ → Type 0
IsNoLater line code other_line other_code = (line < other_line) ⊎ ((line ≡ other_line) × (code ≤ other_code))

-- the least of all faults, by line and then by code
pub record IsLeastFault (whole : LinedModule) (line code : ℕ) : Type 0 where
  pub fault : IsFault whole line code
  pub least : (other_line other_code : ℕ) → IsFault whole other_line other_code → IsNoLater line code other_line other_code
