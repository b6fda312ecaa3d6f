-- Where phis are inserted.
use Rattle.std.specs.Prelude.{◌≡◌, ℕ, ◌<◌, ◌+◌, ◌&&◌, Bool, true, if◌then◌else◌, List, [], ◌∷◌, ◌++◌, length, map, filter, slice_index_or}
use Rattle.std.specs.Global.{Vec}
use Rattle.sp_ids.specs.declared.ids.ValueId.{ValueId}
use Rattle.ir_ast.specs.declared.ops.Operand.{Operand}
use Rattle.ir_ast.specs.Funcs.{Function}
use Rattle.graph_search.specs.Paths.{MarksReached}
use Rattle.rewriting_forms.specs.Numbered.{pointers}
use Rattle.rewriting_forms.specs.Names.{stands_in_list, is_many, joins_of}
use Rattle.live_sets.specs.Starts.{list_at}
use Rattle.ir_ast.specs.Operands.{valued}
use Rattle.ir_ast.specs.Lists.{has_mark}

-- the values that stand in the live list of some call are marked
pub record AreListed (func : Function) (table : List Operand) (listed : List Bool) : Type 0 where
  pub each : (v : ℕ) → has_mark listed v ≡ stands_in_list func table v

-- where it is wanted, a value is added to the lists of the blocks with two or more edges into them whose fronts walks from the starts
-- lead to; the fronts are the nodes behind so many ends
pub record AddsJoins (rows fronts : List (List ℕ)) (count : ℕ) (starts : List ℕ) (wanted : Bool) (value : ValueId) (old new : List (Vec ValueId)) : Type 0 where
  pub marks : List Bool
  pub reached : wanted ≡ true → MarksReached rows starts marks
  pub whole : length new ≡ length old
  pub each : (block : ℕ) → block < length old
      → list_at new block ≡ list_at old block ++ (if is_many (slice_index_or fronts block []) && (wanted && has_mark marks (count + block)) then value ∷ [] else [])

-- for each block the pointers that get a phi there, in order
pub record AreJoins (func : Function) (table : List Operand) (joins : List (Vec ValueId)) : Type 0 where
  pub whole : length joins ≡ length func.blocks
  pub each : (b : ℕ) → b < length func.blocks → list_at joins b ≡ map valued (filter (joins_of func table b) (pointers func))
