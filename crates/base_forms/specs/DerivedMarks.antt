-- Which values are derived, as a table (Garbage Collection Safepoints in LLVM, "Base & Derived Pointers").
use Rattle.std.specs.Prelude.{◌≡◌, ℕ, zero, suc, Bool, true, false, ◌&&◌, ◌||◌, List, [], length, map, Some, slice_get}
use Rattle.std.specs.List.{list_any}
use Rattle.ir_ast.specs.Insts.{Instruction}
use Rattle.ir_ast.specs.Funcs.{Function}
use Rattle.ir_ast.specs.Values.{Definition, argument, outcome, definitions_of}
use Rattle.ir_ast.specs.Operands.{values_used}
use Rattle.ir_ast.specs.Derived.{is_step, is_merge, Derived}
pub use Rattle.ir_ast.specs.Lists.{has_mark}

-- the instruction uses a value with a mark
abbrev pub uses_marked : List Bool → Instruction → Bool
uses_marked marks inst = list_any (has_mark marks) (values_used inst)

-- what gives a derived value, where the marked values are known to be derived
abbrev pub derives : List Bool → Definition → Bool
derives marks (argument arg) = false
derives marks (outcome inst) = is_step inst.op || (is_merge inst.op && uses_marked marks inst)

-- the marks after so many rounds: each marks what derives from the values marked before it
abbrev pub marks_after : Function → ℕ → List Bool
marks_after func zero = []
marks_after func (suc rounds) = map (derives (marks_after func rounds)) (definitions_of func)

-- a mark for each derived value: one round for each value finds them all, as the laws say
unfoldable pub derived_marks : Function → List Bool
derived_marks func = marks_after func (suc (length (definitions_of func)))

-- one mark for each value, and the marked values are the derived ones
pub record MarksDerived (func : Function) (marks : List Bool) : Type 0 where
  pub whole : length marks ≡ length (definitions_of func)
  pub sound : (value : ℕ) → slice_get marks value ≡ Some true → Derived func value
  pub complete : (value : ℕ) → Derived func value → slice_get marks value ≡ Some true
