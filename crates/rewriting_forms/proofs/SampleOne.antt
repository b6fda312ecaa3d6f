-- Made by the independent reference: a function before liveness, its base table, and its rewritten text.
use Rattle.std.proofs.Common.{◌≡◌, ℕ, List, [], ◌∷◌, Option, Some, None, refl}
use Rattle.std.specs.Prelude.{codes}
use Rattle.sp_ids.specs.declared.ids.BlockId.{BlockId}
use Rattle.sp_ids.specs.declared.ids.FuncId.{FuncId}
use Rattle.ir_ast.specs.declared.types.Ty.{Ty}
use Rattle.ir_ast.specs.declared.types.Ty.TheVariants.{Void, Int as I, Ptr}
use Rattle.ir_ast.specs.declared.ops.Pred.TheVariants.{Ne}
use Rattle.ir_ast.specs.declared.ops.Operand.{Operand}
use Rattle.ir_ast.specs.declared.ops.Operand.TheVariants.{Value, Int as Literal}
use Rattle.ir_ast.specs.declared.ops.Callee.TheVariants.{Fun, New, Read, Poll, Check}
use Rattle.ir_ast.specs.declared.ops.Op.{Op}
use Rattle.ir_ast.specs.declared.ops.Op.TheVariants.{Icmp, Phi, Load, Call, Statepoint, GcResult, GcRelocate, Br, CondBr, Ret}
use Rattle.ir_ast.specs.Insts.{Instruction}
use Rattle.ir_ast.specs.Blocks.{BasicBlock}
use Rattle.ir_ast.specs.Funcs.{Function}
use Rattle.std.specs.Fmt.{digits}
use Rattle.rewriting_forms.specs.Rewritten.{rewritten}

abbrev v : ℕ → Operand
v n = Value (record { 0 = n })

abbrev b : ℕ → BlockId
b n = record { 0 = n }

abbrev fn : ℕ → FuncId
fn n = record { 0 = n }

abbrev i : Option (List ℕ) → Op → Ty → List Operand → List BlockId → List (Ty × Operand) → Instruction
i result op ty operands labels bundle = record { result = result; op = op; ty = ty; operands = operands; labels = labels; bundle = bundle }

abbrev block : List ℕ → List Instruction → BasicBlock
block name insts = record { name = name; insts = insts }

abbrev join_of_two_versions_rewritten_before : Function
join_of_two_versions_rewritten_before = record {
  name = codes "main";
  answer = (I 64);
  args = [];
  blocks =
      block (codes "entry") (
      i None (Call Poll []) Void [] [] []
      ∷ i (Some (codes "o")) (Call (New 0) ((I 64) ∷ [])) Ptr (Literal 1 ∷ []) [] []
      ∷ i (Some (codes "x")) (Call Read []) (I 64) [] [] []
      ∷ i (Some (codes "c")) (Icmp Ne) (I 64) (v 1 ∷ Literal 0 ∷ []) [] []
      ∷ i None CondBr (I 1) (v 2 ∷ []) (b 1 ∷ b 2 ∷ []) []
      ∷ [])
      ∷ block (codes "l") (
      i None (Call (Fun (fn 0)) []) Void [] [] []
      ∷ i None Br Void [] (b 2 ∷ []) []
      ∷ [])
      ∷ block (codes "j") (
      i None (Call Check (Ptr ∷ Ptr ∷ (I 64) ∷ [])) Void (v 0 ∷ v 0 ∷ Literal 0 ∷ []) [] []
      ∷ i (Some (codes "v")) Load (I 64) (v 0 ∷ []) [] []
      ∷ i None Ret (I 64) (v 3 ∷ []) [] []
      ∷ [])
      ∷ [];
}

abbrev join_of_two_versions_rewritten_bases : List Operand
join_of_two_versions_rewritten_bases = (v 0 ∷ v 1 ∷ v 2 ∷ v 3 ∷ [])

abbrev join_of_two_versions_rewritten_after : Function
join_of_two_versions_rewritten_after = record {
  name = codes "main";
  answer = (I 64);
  args = [];
  blocks =
      block (codes "entry") (
      i (Some (codes "sp.t0")) (Statepoint 2882400000 Poll []) Void [] [] []
      ∷ i (Some (codes "sp.t1")) (Statepoint 2882400000 (New 0) ((I 64) ∷ [])) Ptr (Literal 1 ∷ []) [] []
      ∷ i (Some (codes "o")) GcResult Ptr (v 1 ∷ []) [] []
      ∷ i (Some (codes "x")) (Call Read []) (I 64) [] [] []
      ∷ i (Some (codes "c")) (Icmp Ne) (I 64) (v 3 ∷ Literal 0 ∷ []) [] []
      ∷ i None CondBr (I 1) (v 4 ∷ []) (b 1 ∷ b 2 ∷ []) []
      ∷ [])
      ∷ block (codes "l") (
      i (Some (codes "sp.t2")) (Statepoint 2882400000 (Fun (fn 0)) []) Void (v 2 ∷ []) [] []
      ∷ i (Some (codes "sp.r0")) GcRelocate Ptr (v 5 ∷ Literal 0 ∷ Literal 0 ∷ []) [] []
      ∷ i None Br Void [] (b 2 ∷ []) []
      ∷ [])
      ∷ block (codes "j") (
      i (Some (codes "sp.m0")) Phi Ptr (v 2 ∷ v 6 ∷ []) (b 0 ∷ b 1 ∷ []) []
      ∷ i None (Call Check (Ptr ∷ Ptr ∷ (I 64) ∷ [])) Void (v 7 ∷ v 7 ∷ Literal 0 ∷ []) [] []
      ∷ i (Some (codes "v")) Load (I 64) (v 7 ∷ []) [] []
      ∷ i None Ret (I 64) (v 8 ∷ []) [] []
      ∷ [])
      ∷ [];
}

join_of_two_versions_rewritten_is : rewritten join_of_two_versions_rewritten_before join_of_two_versions_rewritten_bases ≡ join_of_two_versions_rewritten_after
unfolding digits
join_of_two_versions_rewritten_is = refl
