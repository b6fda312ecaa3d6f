-- Each operand has at most one base.
use Rattle.std.proofs.Common.{◌≡◌, sym, subst, ℕ, true, refl}
use Rattle.sp_ids.specs.declared.ids.ValueId.{ValueId}
use Rattle.ir_ast.specs.declared.ops.Operand.{Operand}
use Rattle.ir_ast.specs.declared.ops.Op.{Op}
use Rattle.ir_ast.specs.declared.ops.Op.TheVariants.{Phi, Select}
use Rattle.ir_ast.specs.Insts.{Instruction}
use Rattle.ir_ast.specs.Funcs.{Function}
use Rattle.ir_ast.specs.Values.{Gives}
use Rattle.ir_ast.specs.Derived.{by_step, is_step, is_merge}
use Rattle.ir_ast.specs.Bases.{Base, of_null, of_itself, of_step, of_merge}

-- a value is the result of one instruction alone
pub same_instruction : (func : Function) (value : ℕ) (inst other : Instruction)
    → Gives func value inst → Gives func value other → inst ≡ other
same_instruction func value inst other p q = cc

-- no operator both steps and merges
pub steps_or_merges : (op : Op) → is_step op ≡ true → is_merge op ≡ true → ⊥
steps_or_merges Phi step merge = cc
steps_or_merges Select step merge = cc
steps_or_merges _ step merge = cc

module _ {func : Function} {merged : ℕ → ValueId} where
  pub one_base : (operand base other : Operand) → Base func merged operand base → Base func merged operand other → base ≡ other
  one_base _ _ _ of_null of_null = refl
  one_base _ _ _ (of_itself value own) (of_itself value' own') = refl
  one_base _ _ _ (of_itself value own) (of_step value' inst pointer other gives step first rest) =
      absurd (own (by_step _ inst gives step))
  one_base _ _ _ (of_itself value own) (of_merge value' inst gives merge derived) = absurd (own derived)
  one_base _ _ _ (of_step value inst pointer base gives step first rest) (of_itself value' own) =
      absurd (own (by_step _ inst gives step))
  one_base _ _ _ (of_step value inst pointer base gives step first rest) (of_step value' inst' pointer' other gives' step' first' rest') =
      let same : inst ≡ inst' = same_instruction func _ inst inst' gives gives' in
      let pointers : pointer ≡ pointer' = cc in
      one_base pointer base other rest (subst (λ (p : Operand). Base func merged p other) (sym pointers) rest')
  one_base _ _ _ (of_step value inst pointer base gives step first rest) (of_merge value' inst' gives' merge derived) =
      let same : inst ≡ inst' = same_instruction func _ inst inst' gives gives' in
      absurd (steps_or_merges inst.op step (let m : is_merge inst.op ≡ true = cc in m))
  one_base _ _ _ (of_merge value inst gives merge derived) (of_itself value' own) = absurd (own derived)
  one_base _ _ _ (of_merge value inst gives merge derived) (of_step value' inst' pointer' other gives' step' first' rest') =
      let same : inst' ≡ inst = same_instruction func _ inst' inst gives' gives in
      absurd (steps_or_merges inst'.op step' (let m : is_merge inst'.op ≡ true = cc in m))
  one_base _ _ _ (of_merge value inst gives merge derived) (of_merge value' inst' gives' merge' derived') = refl
