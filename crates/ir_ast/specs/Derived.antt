-- Derived pointers (Garbage Collection Safepoints in LLVM, "Base & Derived Pointers").
use Rattle.std.specs.Prelude.{◌≡◌, ℕ, Bool, true, false}
use Rattle.std.specs.List.{Contains}
use Rattle.ir_ast.specs.declared.ops.Op.{Op}
use Rattle.ir_ast.specs.declared.ops.Op.TheVariants.{Gep, Phi, Select}
use Rattle.ir_ast.specs.Insts.{Instruction}
use Rattle.ir_ast.specs.Funcs.{Function}
use Rattle.ir_ast.specs.Values.{Gives}
use Rattle.ir_ast.specs.Operands.{values_used}

abbrev pub is_step : Op → Bool
is_step (Gep elem index_width place) = true
is_step _ = false

-- a phi or a select, where several values meet
abbrev pub is_merge : Op → Bool
is_merge Phi = true
is_merge Select = true
is_merge _ = false

-- the least set with each result of a `getelementptr`, and each phi or select with a derived operand
pub data Derived (func : Function) : ℕ → Type 0 where
  by_step : (value : ℕ) (inst : Instruction) → Gives func value inst → is_step inst.op ≡ true → Derived func value
  by_merge : (value operand : ℕ) (inst : Instruction) → Gives func value inst → is_merge inst.op ≡ true
      → Contains (values_used inst) operand → Derived func operand → Derived func value
