-- The lines for an instruction, apart: what stands before it, and whether it stays.
use Rattle.std.specs.Prelude.{ℕ, Bool, true, false, not, ◌&&◌, if◌then◌else◌, List, [], ◌∷◌, Option, Some, None}
use Rattle.ir_ast.specs.declared.ops.Pred.{Pred}
use Rattle.ir_ast.specs.declared.ops.Op.{Op}
use Rattle.ir_ast.specs.declared.ops.Op.TheVariants.{Icmp, Select, Phi, Load, Store}
use Rattle.ir_ast.specs.Insts.{Instruction}
use Rattle.ir_ast.specs.Derived.{is_merge}
use Rattle.base_forms.specs.Lines.{Insertion, operand_at, base_line, check}

module _ (given : Insertion) where
  -- what stands directly before an instruction with this operator that is no compare of derived pointers
  abbrev pub lines_before : ℕ → Instruction → Op → List Instruction
  lines_before next inst Phi = if is_merge inst.op && given.uses_derived inst then base_line given next inst ∷ [] else []
  lines_before next inst Select = if is_merge inst.op && given.uses_derived inst then base_line given next inst ∷ [] else []
  lines_before next inst Load = check given inst (operand_at inst 0) ∷ []
  lines_before next inst Store = check given inst (operand_at inst 1) ∷ []
  lines_before next inst op = []

  -- the relation of a compare with a derived operand
  abbrev pub derived_relation : Instruction → Op → Option Pred
  derived_relation inst (Icmp pred) = if given.uses_derived inst then Some pred else None
  derived_relation inst op = None

  -- the instruction alone, over the new numbers, is all that stands for it
  abbrev pub stands_alone : Instruction → Op → Bool
  stands_alone inst Phi = not (given.uses_derived inst)
  stands_alone inst Select = not (given.uses_derived inst)
  stands_alone inst (Icmp pred) = not (given.uses_derived inst)
  stands_alone inst Load = false
  stands_alone inst Store = false
  stands_alone inst op = true
