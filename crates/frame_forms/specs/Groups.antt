-- The group of a statepoint: the result and the relocates that follow it (Garbage Collection Safepoints in LLVM,
-- "Intrinsics").
use Rattle.std.specs.Prelude.{ℕ, List}
use Rattle.std.specs.List.{prefix_len}
use Rattle.ir_ast.specs.declared.ops.Op.{Op}
use Rattle.ir_ast.specs.declared.ops.Op.TheVariants.{Statepoint}
use Rattle.ir_ast.specs.Insts.{Instruction}
use Rattle.object_meaning.specs.Frames.{is_member}

-- how many of the instructions that follow an operator belong to it
abbrev pub group_size : Op → List Instruction → ℕ
group_size (Statepoint id callee types) rest = prefix_len (λ inst. is_member inst.op) rest
group_size op rest = 0
