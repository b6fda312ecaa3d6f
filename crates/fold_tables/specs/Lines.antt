-- Instructions with the values that they give.
use Rattle.std.specs.Prelude.{◌≡◌, ℕ, ◌+◌, List, length, filter, take, Some, is_some, slice_get}
use Rattle.ir_ast.specs.Insts.{Instruction}

-- how many of these have results
abbrev pub results_of : List Instruction → ℕ
results_of insts = length (filter (λ inst. is_some inst.result) insts)

-- the value that the instruction at a place gives, or the next one, where the first result is this value
abbrev pub value_at : ℕ → List Instruction → ℕ → ℕ
value_at first insts place = first + results_of (take place insts)

abbrev pub EachLine : (ℕ → Instruction → Type 0) → ℕ → List Instruction → Type 0
EachLine Is first insts = (place : ℕ) (inst : Instruction) → slice_get insts place ≡ Some inst → Is (value_at first insts place) inst
