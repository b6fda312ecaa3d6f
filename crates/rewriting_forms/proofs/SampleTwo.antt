-- Made by the independent reference: a function before liveness, its base table, and its rewritten text.
use Rattle.std.proofs.Common.{◌≡◌, ℕ, List, [], ◌∷◌, Option, Some, None, refl}
use Rattle.std.specs.Prelude.{codes}
use Rattle.sp_ids.specs.declared.ids.BlockId.{BlockId}
use Rattle.sp_ids.specs.declared.ids.FuncId.{FuncId}
use Rattle.ir_ast.specs.declared.types.Ty.{Ty}
use Rattle.ir_ast.specs.declared.types.Ty.TheVariants.{Void, Int as I, Ptr}
use Rattle.ir_ast.specs.declared.ops.Pred.TheVariants.{Ne, Ult}
use Rattle.ir_ast.specs.declared.ops.Elem.TheVariants.{Int as EInt, Layout}
use Rattle.ir_ast.specs.declared.ops.Operand.{Operand}
use Rattle.ir_ast.specs.declared.ops.Operand.TheVariants.{Value, Int as Literal, Null}
use Rattle.ir_ast.specs.declared.ops.Callee.TheVariants.{Fun, New, Print, Read, Poll, Check, Same}
use Rattle.ir_ast.specs.declared.ops.Op.{Op}
use Rattle.ir_ast.specs.declared.ops.Op.TheVariants.{Add, Xor, Icmp, Zext, Select, Phi, Gep, Load, Store, Call, Statepoint, GcResult, GcRelocate, Br, CondBr, Ret}
use Rattle.ir_ast.specs.Insts.{Instruction}
use Rattle.ir_ast.specs.Blocks.{BasicBlock}
use Rattle.ir_ast.specs.Funcs.{Function}
use Rattle.std.specs.Fmt.{digits}
use Rattle.rewriting_forms.specs.Rewritten.{rewritten}

abbrev v : ℕ → Operand
v n = Value (record { 0 = n })

abbrev b : ℕ → BlockId
b n = record { 0 = n }

abbrev fn : ℕ → FuncId
fn n = record { 0 = n }

abbrev i : Option (List ℕ) → Op → Ty → List Operand → List BlockId → List (Ty × Operand) → Instruction
i result op ty operands labels bundle = record { result = result; op = op; ty = ty; operands = operands; labels = labels; bundle = bundle }

abbrev block : List ℕ → List Instruction → BasicBlock
block name insts = record { name = name; insts = insts }

abbrev base_phi_rewritten_before : Function
base_phi_rewritten_before = record {
  name = codes "main";
  answer = (I 64);
  args = [];
  blocks =
      block (codes "entry") (
      i None (Call Poll []) Void [] [] []
      ∷ i (Some (codes "a")) (Call (New 0) ((I 64) ∷ [])) Ptr (Literal 1 ∷ []) [] []
      ∷ i (Some (codes "b")) (Call (New 0) ((I 64) ∷ [])) Ptr (Literal 1 ∷ []) [] []
      ∷ i None (Call Check (Ptr ∷ Ptr ∷ (I 64) ∷ [])) Void (v 0 ∷ v 0 ∷ Literal 0 ∷ []) [] []
      ∷ i None Store (I 64) (Literal 5 ∷ v 0 ∷ []) [] []
      ∷ i None (Call Check (Ptr ∷ Ptr ∷ (I 64) ∷ [])) Void (v 1 ∷ v 1 ∷ Literal 0 ∷ []) [] []
      ∷ i None Store (I 64) (Literal 6 ∷ v 1 ∷ []) [] []
      ∷ i (Some (codes "x")) (Call Read []) (I 64) [] [] []
      ∷ i (Some (codes "c")) (Icmp Ne) (I 64) (v 2 ∷ Literal 0 ∷ []) [] []
      ∷ i None CondBr (I 1) (v 3 ∷ []) (b 1 ∷ b 2 ∷ []) []
      ∷ [])
      ∷ block (codes "l") (
      i (Some (codes "p1")) (Gep (Layout 0) 64 (Some 0)) Ptr (v 0 ∷ Literal 0 ∷ []) [] []
      ∷ i None Br Void [] (b 3 ∷ []) []
      ∷ [])
      ∷ block (codes "r") (
      i (Some (codes "p2")) (Gep (Layout 0) 64 (Some 0)) Ptr (v 1 ∷ Literal 0 ∷ []) [] []
      ∷ i None Br Void [] (b 3 ∷ []) []
      ∷ [])
      ∷ block (codes "j") (
      i (Some (codes "sp.b0")) Phi Ptr (v 0 ∷ v 1 ∷ []) (b 1 ∷ b 2 ∷ []) []
      ∷ i (Some (codes "p")) Phi Ptr (v 4 ∷ v 5 ∷ []) (b 1 ∷ b 2 ∷ []) []
      ∷ i None (Call (Fun (fn 0)) []) Void [] [] []
      ∷ i None (Call Check (Ptr ∷ Ptr ∷ (I 64) ∷ [])) Void (v 6 ∷ v 7 ∷ Literal 0 ∷ []) [] []
      ∷ i (Some (codes "v")) Load (I 64) (v 7 ∷ []) [] []
      ∷ i None (Call Print ((I 64) ∷ [])) Void (v 8 ∷ []) [] []
      ∷ i None Ret (I 64) (Literal 0 ∷ []) [] []
      ∷ [])
      ∷ [];
}

abbrev base_phi_rewritten_bases : List Operand
base_phi_rewritten_bases = (v 0 ∷ v 1 ∷ v 2 ∷ v 3 ∷ v 0 ∷ v 1 ∷ v 6 ∷ v 6 ∷ v 8 ∷ [])

abbrev pub base_phi_rewritten_after : Function
base_phi_rewritten_after = record {
  name = codes "main";
  answer = (I 64);
  args = [];
  blocks =
      block (codes "entry") (
      i (Some (codes "sp.t0")) (Statepoint 2882400000 Poll []) Void [] [] []
      ∷ i (Some (codes "sp.t1")) (Statepoint 2882400000 (New 0) ((I 64) ∷ [])) Ptr (Literal 1 ∷ []) [] []
      ∷ i (Some (codes "a")) GcResult Ptr (v 1 ∷ []) [] []
      ∷ i (Some (codes "sp.t2")) (Statepoint 2882400000 (New 0) ((I 64) ∷ [])) Ptr (Literal 1 ∷ v 2 ∷ []) [] []
      ∷ i (Some (codes "b")) GcResult Ptr (v 3 ∷ []) [] []
      ∷ i (Some (codes "sp.r0")) GcRelocate Ptr (v 3 ∷ Literal 0 ∷ Literal 0 ∷ []) [] []
      ∷ i None (Call Check (Ptr ∷ Ptr ∷ (I 64) ∷ [])) Void (v 5 ∷ v 5 ∷ Literal 0 ∷ []) [] []
      ∷ i None Store (I 64) (Literal 5 ∷ v 5 ∷ []) [] []
      ∷ i None (Call Check (Ptr ∷ Ptr ∷ (I 64) ∷ [])) Void (v 4 ∷ v 4 ∷ Literal 0 ∷ []) [] []
      ∷ i None Store (I 64) (Literal 6 ∷ v 4 ∷ []) [] []
      ∷ i (Some (codes "x")) (Call Read []) (I 64) [] [] []
      ∷ i (Some (codes "c")) (Icmp Ne) (I 64) (v 6 ∷ Literal 0 ∷ []) [] []
      ∷ i None CondBr (I 1) (v 7 ∷ []) (b 1 ∷ b 2 ∷ []) []
      ∷ [])
      ∷ block (codes "l") (
      i (Some (codes "p1")) (Gep (Layout 0) 64 (Some 0)) Ptr (v 5 ∷ Literal 0 ∷ []) [] []
      ∷ i None Br Void [] (b 3 ∷ []) []
      ∷ [])
      ∷ block (codes "r") (
      i (Some (codes "p2")) (Gep (Layout 0) 64 (Some 0)) Ptr (v 4 ∷ Literal 0 ∷ []) [] []
      ∷ i None Br Void [] (b 3 ∷ []) []
      ∷ [])
      ∷ block (codes "j") (
      i (Some (codes "sp.b0")) Phi Ptr (v 5 ∷ v 4 ∷ []) (b 1 ∷ b 2 ∷ []) []
      ∷ i (Some (codes "p")) Phi Ptr (v 8 ∷ v 9 ∷ []) (b 1 ∷ b 2 ∷ []) []
      ∷ i (Some (codes "sp.t3")) (Statepoint 2882400000 (Fun (fn 0)) []) Void (v 10 ∷ v 11 ∷ []) [] []
      ∷ i (Some (codes "sp.r1")) GcRelocate Ptr (v 12 ∷ Literal 0 ∷ Literal 0 ∷ []) [] []
      ∷ i (Some (codes "sp.r2")) GcRelocate Ptr (v 12 ∷ Literal 0 ∷ Literal 1 ∷ []) [] []
      ∷ i None (Call Check (Ptr ∷ Ptr ∷ (I 64) ∷ [])) Void (v 13 ∷ v 14 ∷ Literal 0 ∷ []) [] []
      ∷ i (Some (codes "v")) Load (I 64) (v 14 ∷ []) [] []
      ∷ i None (Call Print ((I 64) ∷ [])) Void (v 15 ∷ []) [] []
      ∷ i None Ret (I 64) (Literal 0 ∷ []) [] []
      ∷ [])
      ∷ [];
}

base_phi_rewritten_is : rewritten base_phi_rewritten_before base_phi_rewritten_bases ≡ base_phi_rewritten_after
unfolding digits
base_phi_rewritten_is = refl

abbrev old_derived_pointer_in_a_loop_rewritten_before : Function
old_derived_pointer_in_a_loop_rewritten_before = record {
  name = codes "main";
  answer = (I 64);
  args = [];
  blocks =
      block (codes "entry") (
      i None (Call Poll []) Void [] [] []
      ∷ i (Some (codes "a")) (Call (New 0) ((I 64) ∷ [])) Ptr (Literal 1 ∷ []) [] []
      ∷ i (Some (codes "b")) (Call (New 0) ((I 64) ∷ [])) Ptr (Literal 1 ∷ []) [] []
      ∷ i None (Call Check (Ptr ∷ Ptr ∷ (I 64) ∷ [])) Void (v 0 ∷ v 0 ∷ Literal 0 ∷ []) [] []
      ∷ i None Store (I 64) (Literal 5 ∷ v 0 ∷ []) [] []
      ∷ i None (Call Check (Ptr ∷ Ptr ∷ (I 64) ∷ [])) Void (v 1 ∷ v 1 ∷ Literal 0 ∷ []) [] []
      ∷ i None Store (I 64) (Literal 6 ∷ v 1 ∷ []) [] []
      ∷ i (Some (codes "g")) (Gep (Layout 0) 64 (Some 1)) Ptr (v 0 ∷ Literal 0 ∷ []) [] []
      ∷ i None (Call Check (Ptr ∷ Ptr ∷ (I 64) ∷ [])) Void (v 0 ∷ v 2 ∷ Literal 1 ∷ []) [] []
      ∷ i None Store Ptr (v 1 ∷ v 2 ∷ []) [] []
      ∷ i (Some (codes "d0")) (Gep (Layout 0) 64 (Some 0)) Ptr (v 1 ∷ Literal 0 ∷ []) [] []
      ∷ i None Br Void [] (b 1 ∷ []) []
      ∷ [])
      ∷ block (codes "loop") (
      i (Some (codes "cur")) Phi Ptr (v 0 ∷ v 11 ∷ []) (b 0 ∷ b 1 ∷ []) []
      ∷ i (Some (codes "sp.b0")) Phi Ptr (v 1 ∷ v 4 ∷ []) (b 0 ∷ b 1 ∷ []) []
      ∷ i (Some (codes "old")) Phi Ptr (v 3 ∷ v 9 ∷ []) (b 0 ∷ b 1 ∷ []) []
      ∷ i (Some (codes "n")) Phi (I 64) (Literal 0 ∷ v 12 ∷ []) (b 0 ∷ b 1 ∷ []) []
      ∷ i None (Call Check (Ptr ∷ Ptr ∷ (I 64) ∷ [])) Void (v 5 ∷ v 6 ∷ Literal 0 ∷ []) [] []
      ∷ i (Some (codes "v")) Load (I 64) (v 6 ∷ []) [] []
      ∷ i None (Call Print ((I 64) ∷ [])) Void (v 8 ∷ []) [] []
      ∷ i (Some (codes "d")) (Gep (Layout 0) 64 (Some 0)) Ptr (v 4 ∷ Literal 0 ∷ []) [] []
      ∷ i (Some (codes "h")) (Gep (Layout 0) 64 (Some 1)) Ptr (v 4 ∷ Literal 0 ∷ []) [] []
      ∷ i None (Call Check (Ptr ∷ Ptr ∷ (I 64) ∷ [])) Void (v 4 ∷ v 10 ∷ Literal 1 ∷ []) [] []
      ∷ i (Some (codes "nxt")) Load Ptr (v 10 ∷ []) [] []
      ∷ i (Some (codes "n1")) Add (I 64) (v 7 ∷ Literal 1 ∷ []) [] []
      ∷ i (Some (codes "t")) (Icmp Ult) (I 64) (v 12 ∷ Literal 2 ∷ []) [] []
      ∷ i None (Call Poll []) Void [] [] []
      ∷ i None CondBr (I 1) (v 13 ∷ []) (b 1 ∷ b 2 ∷ []) []
      ∷ [])
      ∷ block (codes "done") (
      i None Ret (I 64) (Literal 0 ∷ []) [] []
      ∷ [])
      ∷ [];
}

abbrev old_derived_pointer_in_a_loop_rewritten_bases : List Operand
old_derived_pointer_in_a_loop_rewritten_bases = (v 0 ∷ v 1 ∷ v 0 ∷ v 1 ∷ v 4 ∷ v 5 ∷ v 5 ∷ v 7 ∷ v 8 ∷ v 4 ∷ v 4 ∷ v 11 ∷ v 12 ∷ v 13 ∷ [])

abbrev old_derived_pointer_in_a_loop_rewritten_after : Function
old_derived_pointer_in_a_loop_rewritten_after = record {
  name = codes "main";
  answer = (I 64);
  args = [];
  blocks =
      block (codes "entry") (
      i (Some (codes "sp.t0")) (Statepoint 2882400000 Poll []) Void [] [] []
      ∷ i (Some (codes "sp.t1")) (Statepoint 2882400000 (New 0) ((I 64) ∷ [])) Ptr (Literal 1 ∷ []) [] []
      ∷ i (Some (codes "a")) GcResult Ptr (v 1 ∷ []) [] []
      ∷ i (Some (codes "sp.t2")) (Statepoint 2882400000 (New 0) ((I 64) ∷ [])) Ptr (Literal 1 ∷ v 2 ∷ []) [] []
      ∷ i (Some (codes "b")) GcResult Ptr (v 3 ∷ []) [] []
      ∷ i (Some (codes "sp.r0")) GcRelocate Ptr (v 3 ∷ Literal 0 ∷ Literal 0 ∷ []) [] []
      ∷ i None (Call Check (Ptr ∷ Ptr ∷ (I 64) ∷ [])) Void (v 5 ∷ v 5 ∷ Literal 0 ∷ []) [] []
      ∷ i None Store (I 64) (Literal 5 ∷ v 5 ∷ []) [] []
      ∷ i None (Call Check (Ptr ∷ Ptr ∷ (I 64) ∷ [])) Void (v 4 ∷ v 4 ∷ Literal 0 ∷ []) [] []
      ∷ i None Store (I 64) (Literal 6 ∷ v 4 ∷ []) [] []
      ∷ i (Some (codes "g")) (Gep (Layout 0) 64 (Some 1)) Ptr (v 5 ∷ Literal 0 ∷ []) [] []
      ∷ i None (Call Check (Ptr ∷ Ptr ∷ (I 64) ∷ [])) Void (v 5 ∷ v 6 ∷ Literal 1 ∷ []) [] []
      ∷ i None Store Ptr (v 4 ∷ v 6 ∷ []) [] []
      ∷ i (Some (codes "d0")) (Gep (Layout 0) 64 (Some 0)) Ptr (v 4 ∷ Literal 0 ∷ []) [] []
      ∷ i None Br Void [] (b 1 ∷ []) []
      ∷ [])
      ∷ block (codes "loop") (
      i (Some (codes "cur")) Phi Ptr (v 5 ∷ v 21 ∷ []) (b 0 ∷ b 1 ∷ []) []
      ∷ i (Some (codes "sp.b0")) Phi Ptr (v 4 ∷ v 19 ∷ []) (b 0 ∷ b 1 ∷ []) []
      ∷ i (Some (codes "old")) Phi Ptr (v 7 ∷ v 20 ∷ []) (b 0 ∷ b 1 ∷ []) []
      ∷ i (Some (codes "n")) Phi (I 64) (Literal 0 ∷ v 16 ∷ []) (b 0 ∷ b 1 ∷ []) []
      ∷ i None (Call Check (Ptr ∷ Ptr ∷ (I 64) ∷ [])) Void (v 9 ∷ v 10 ∷ Literal 0 ∷ []) [] []
      ∷ i (Some (codes "v")) Load (I 64) (v 10 ∷ []) [] []
      ∷ i None (Call Print ((I 64) ∷ [])) Void (v 12 ∷ []) [] []
      ∷ i (Some (codes "d")) (Gep (Layout 0) 64 (Some 0)) Ptr (v 8 ∷ Literal 0 ∷ []) [] []
      ∷ i (Some (codes "h")) (Gep (Layout 0) 64 (Some 1)) Ptr (v 8 ∷ Literal 0 ∷ []) [] []
      ∷ i None (Call Check (Ptr ∷ Ptr ∷ (I 64) ∷ [])) Void (v 8 ∷ v 14 ∷ Literal 1 ∷ []) [] []
      ∷ i (Some (codes "nxt")) Load Ptr (v 14 ∷ []) [] []
      ∷ i (Some (codes "n1")) Add (I 64) (v 11 ∷ Literal 1 ∷ []) [] []
      ∷ i (Some (codes "t")) (Icmp Ult) (I 64) (v 16 ∷ Literal 2 ∷ []) [] []
      ∷ i (Some (codes "sp.t3")) (Statepoint 2882400000 Poll []) Void (v 8 ∷ v 13 ∷ v 15 ∷ []) [] []
      ∷ i (Some (codes "sp.r1")) GcRelocate Ptr (v 18 ∷ Literal 0 ∷ Literal 0 ∷ []) [] []
      ∷ i (Some (codes "sp.r2")) GcRelocate Ptr (v 18 ∷ Literal 0 ∷ Literal 1 ∷ []) [] []
      ∷ i (Some (codes "sp.r3")) GcRelocate Ptr (v 18 ∷ Literal 2 ∷ Literal 2 ∷ []) [] []
      ∷ i None CondBr (I 1) (v 17 ∷ []) (b 1 ∷ b 2 ∷ []) []
      ∷ [])
      ∷ block (codes "done") (
      i None Ret (I 64) (Literal 0 ∷ []) [] []
      ∷ [])
      ∷ [];
}

old_derived_pointer_in_a_loop_rewritten_is : rewritten old_derived_pointer_in_a_loop_rewritten_before old_derived_pointer_in_a_loop_rewritten_bases ≡ old_derived_pointer_in_a_loop_rewritten_after
unfolding digits
old_derived_pointer_in_a_loop_rewritten_is = refl

abbrev null_base_across_a_call_rewritten_before : Function
null_base_across_a_call_rewritten_before = record {
  name = codes "main";
  answer = (I 64);
  args = [];
  blocks =
      block (codes "entry") (
      i None (Call Poll []) Void [] [] []
      ∷ i (Some (codes "p")) (Gep (EInt 8) 64 None) Ptr (Null ∷ Literal 65536 ∷ []) [] []
      ∷ i None (Call (Fun (fn 0)) []) Void [] [] []
      ∷ i None (Call Check (Ptr ∷ Ptr ∷ (I 64) ∷ [])) Void (Null ∷ v 0 ∷ Literal 0 ∷ []) [] []
      ∷ i (Some (codes "v")) Load (I 64) (v 0 ∷ []) [] []
      ∷ i None Ret (I 64) (Literal 0 ∷ []) [] []
      ∷ [])
      ∷ [];
}

abbrev null_base_across_a_call_rewritten_bases : List Operand
null_base_across_a_call_rewritten_bases = (Null ∷ v 1 ∷ [])

abbrev null_base_across_a_call_rewritten_after : Function
null_base_across_a_call_rewritten_after = record {
  name = codes "main";
  answer = (I 64);
  args = [];
  blocks =
      block (codes "entry") (
      i (Some (codes "sp.t0")) (Statepoint 2882400000 Poll []) Void [] [] []
      ∷ i (Some (codes "p")) (Gep (EInt 8) 64 None) Ptr (Null ∷ Literal 65536 ∷ []) [] []
      ∷ i (Some (codes "sp.t1")) (Statepoint 2882400000 (Fun (fn 0)) []) Void (Null ∷ v 1 ∷ []) [] []
      ∷ i (Some (codes "sp.r0")) GcRelocate Ptr (v 2 ∷ Literal 0 ∷ Literal 1 ∷ []) [] []
      ∷ i None (Call Check (Ptr ∷ Ptr ∷ (I 64) ∷ [])) Void (Null ∷ v 3 ∷ Literal 0 ∷ []) [] []
      ∷ i (Some (codes "v")) Load (I 64) (v 3 ∷ []) [] []
      ∷ i None Ret (I 64) (Literal 0 ∷ []) [] []
      ∷ [])
      ∷ [];
}

null_base_across_a_call_rewritten_is : rewritten null_base_across_a_call_rewritten_before null_base_across_a_call_rewritten_bases ≡ null_base_across_a_call_rewritten_after
unfolding digits
null_base_across_a_call_rewritten_is = refl

abbrev base_select_rewritten_before : Function
base_select_rewritten_before = record {
  name = codes "main";
  answer = (I 64);
  args = [];
  blocks =
      block (codes "entry") (
      i None (Call Poll []) Void [] [] []
      ∷ i (Some (codes "a")) (Call (New 0) ((I 64) ∷ [])) Ptr (Literal 1 ∷ []) [] []
      ∷ i (Some (codes "b")) (Call (New 0) ((I 64) ∷ [])) Ptr (Literal 1 ∷ []) [] []
      ∷ i None (Call Check (Ptr ∷ Ptr ∷ (I 64) ∷ [])) Void (v 0 ∷ v 0 ∷ Literal 0 ∷ []) [] []
      ∷ i None Store (I 64) (Literal 5 ∷ v 0 ∷ []) [] []
      ∷ i None (Call Check (Ptr ∷ Ptr ∷ (I 64) ∷ [])) Void (v 1 ∷ v 1 ∷ Literal 0 ∷ []) [] []
      ∷ i None Store (I 64) (Literal 6 ∷ v 1 ∷ []) [] []
      ∷ i (Some (codes "x")) (Call Read []) (I 64) [] [] []
      ∷ i (Some (codes "c")) (Icmp Ne) (I 64) (v 2 ∷ Literal 0 ∷ []) [] []
      ∷ i (Some (codes "p")) (Gep (Layout 0) 64 (Some 0)) Ptr (v 0 ∷ Literal 0 ∷ []) [] []
      ∷ i (Some (codes "q")) (Gep (Layout 0) 64 (Some 0)) Ptr (v 1 ∷ Literal 0 ∷ []) [] []
      ∷ i (Some (codes "sp.b0")) Select Ptr (v 3 ∷ v 0 ∷ v 1 ∷ []) [] []
      ∷ i (Some (codes "s")) Select Ptr (v 3 ∷ v 4 ∷ v 5 ∷ []) [] []
      ∷ i None (Call (Fun (fn 0)) []) Void [] [] []
      ∷ i None (Call Check (Ptr ∷ Ptr ∷ (I 64) ∷ [])) Void (v 6 ∷ v 7 ∷ Literal 0 ∷ []) [] []
      ∷ i (Some (codes "v")) Load (I 64) (v 7 ∷ []) [] []
      ∷ i None Ret (I 64) (v 8 ∷ []) [] []
      ∷ [])
      ∷ [];
}

abbrev base_select_rewritten_bases : List Operand
base_select_rewritten_bases = (v 0 ∷ v 1 ∷ v 2 ∷ v 3 ∷ v 0 ∷ v 1 ∷ v 6 ∷ v 6 ∷ v 8 ∷ [])

abbrev pub base_select_rewritten_after : Function
base_select_rewritten_after = record {
  name = codes "main";
  answer = (I 64);
  args = [];
  blocks =
      block (codes "entry") (
      i (Some (codes "sp.t0")) (Statepoint 2882400000 Poll []) Void [] [] []
      ∷ i (Some (codes "sp.t1")) (Statepoint 2882400000 (New 0) ((I 64) ∷ [])) Ptr (Literal 1 ∷ []) [] []
      ∷ i (Some (codes "a")) GcResult Ptr (v 1 ∷ []) [] []
      ∷ i (Some (codes "sp.t2")) (Statepoint 2882400000 (New 0) ((I 64) ∷ [])) Ptr (Literal 1 ∷ v 2 ∷ []) [] []
      ∷ i (Some (codes "b")) GcResult Ptr (v 3 ∷ []) [] []
      ∷ i (Some (codes "sp.r0")) GcRelocate Ptr (v 3 ∷ Literal 0 ∷ Literal 0 ∷ []) [] []
      ∷ i None (Call Check (Ptr ∷ Ptr ∷ (I 64) ∷ [])) Void (v 5 ∷ v 5 ∷ Literal 0 ∷ []) [] []
      ∷ i None Store (I 64) (Literal 5 ∷ v 5 ∷ []) [] []
      ∷ i None (Call Check (Ptr ∷ Ptr ∷ (I 64) ∷ [])) Void (v 4 ∷ v 4 ∷ Literal 0 ∷ []) [] []
      ∷ i None Store (I 64) (Literal 6 ∷ v 4 ∷ []) [] []
      ∷ i (Some (codes "x")) (Call Read []) (I 64) [] [] []
      ∷ i (Some (codes "c")) (Icmp Ne) (I 64) (v 6 ∷ Literal 0 ∷ []) [] []
      ∷ i (Some (codes "p")) (Gep (Layout 0) 64 (Some 0)) Ptr (v 5 ∷ Literal 0 ∷ []) [] []
      ∷ i (Some (codes "q")) (Gep (Layout 0) 64 (Some 0)) Ptr (v 4 ∷ Literal 0 ∷ []) [] []
      ∷ i (Some (codes "sp.b0")) Select Ptr (v 7 ∷ v 5 ∷ v 4 ∷ []) [] []
      ∷ i (Some (codes "s")) Select Ptr (v 7 ∷ v 8 ∷ v 9 ∷ []) [] []
      ∷ i (Some (codes "sp.t3")) (Statepoint 2882400000 (Fun (fn 0)) []) Void (v 10 ∷ v 11 ∷ []) [] []
      ∷ i (Some (codes "sp.r1")) GcRelocate Ptr (v 12 ∷ Literal 0 ∷ Literal 0 ∷ []) [] []
      ∷ i (Some (codes "sp.r2")) GcRelocate Ptr (v 12 ∷ Literal 0 ∷ Literal 1 ∷ []) [] []
      ∷ i None (Call Check (Ptr ∷ Ptr ∷ (I 64) ∷ [])) Void (v 13 ∷ v 14 ∷ Literal 0 ∷ []) [] []
      ∷ i (Some (codes "v")) Load (I 64) (v 14 ∷ []) [] []
      ∷ i None Ret (I 64) (v 15 ∷ []) [] []
      ∷ [])
      ∷ [];
}

base_select_rewritten_is : rewritten base_select_rewritten_before base_select_rewritten_bases ≡ base_select_rewritten_after
unfolding digits
base_select_rewritten_is = refl

abbrev bundle_rewritten_before : Function
bundle_rewritten_before = record {
  name = codes "main";
  answer = (I 64);
  args = [];
  blocks =
      block (codes "entry") (
      i None (Call Poll []) Void [] [] []
      ∷ i (Some (codes "o")) (Call (New 0) ((I 64) ∷ [])) Ptr (Literal 1 ∷ []) [] []
      ∷ i (Some (codes "q")) (Gep (Layout 0) 64 (Some 1)) Ptr (v 0 ∷ Literal 0 ∷ []) [] []
      ∷ i (Some (codes "x")) (Call Read []) (I 64) [] [] []
      ∷ i None (Call (Fun (fn 2)) []) Void [] [] (((I 64), v 2) ∷ (Ptr, v 1) ∷ ((I 32), Literal 4294967291) ∷ ((I 64), Literal 5000000000) ∷ (Ptr, Null) ∷ [])
      ∷ i None Ret (I 64) (Literal 0 ∷ []) [] []
      ∷ [])
      ∷ [];
}

abbrev bundle_rewritten_bases : List Operand
bundle_rewritten_bases = (v 0 ∷ v 0 ∷ v 2 ∷ [])

abbrev bundle_rewritten_after : Function
bundle_rewritten_after = record {
  name = codes "main";
  answer = (I 64);
  args = [];
  blocks =
      block (codes "entry") (
      i (Some (codes "sp.t0")) (Statepoint 2882400000 Poll []) Void [] [] []
      ∷ i (Some (codes "sp.t1")) (Statepoint 2882400000 (New 0) ((I 64) ∷ [])) Ptr (Literal 1 ∷ []) [] []
      ∷ i (Some (codes "o")) GcResult Ptr (v 1 ∷ []) [] []
      ∷ i (Some (codes "q")) (Gep (Layout 0) 64 (Some 1)) Ptr (v 2 ∷ Literal 0 ∷ []) [] []
      ∷ i (Some (codes "x")) (Call Read []) (I 64) [] [] []
      ∷ i (Some (codes "sp.t2")) (Statepoint 2882400000 (Fun (fn 2)) []) Void (v 2 ∷ v 3 ∷ []) [] (((I 64), v 4) ∷ (Ptr, v 3) ∷ ((I 32), Literal 4294967291) ∷ ((I 64), Literal 5000000000) ∷ (Ptr, Null) ∷ [])
      ∷ i (Some (codes "sp.r0")) GcRelocate Ptr (v 5 ∷ Literal 0 ∷ Literal 0 ∷ []) [] []
      ∷ i (Some (codes "sp.r1")) GcRelocate Ptr (v 5 ∷ Literal 0 ∷ Literal 1 ∷ []) [] []
      ∷ i None Ret (I 64) (Literal 0 ∷ []) [] []
      ∷ [])
      ∷ [];
}

bundle_rewritten_is : rewritten bundle_rewritten_before bundle_rewritten_bases ≡ bundle_rewritten_after
unfolding digits
bundle_rewritten_is = refl

abbrev derived_pointers_differ_rewritten_before : Function
derived_pointers_differ_rewritten_before = record {
  name = codes "main";
  answer = (I 64);
  args = [];
  blocks =
      block (codes "entry") (
      i None (Call Poll []) Void [] [] []
      ∷ i (Some (codes "a")) (Call (New 0) ((I 64) ∷ [])) Ptr (Literal 1 ∷ []) [] []
      ∷ i (Some (codes "e")) (Gep (Layout 0) 64 None) Ptr (v 0 ∷ Literal 1 ∷ []) [] []
      ∷ i (Some (codes "sp.s0")) (Call Same (Ptr ∷ Ptr ∷ Ptr ∷ Ptr ∷ [])) (I 1) (v 0 ∷ v 1 ∷ v 0 ∷ v 0 ∷ []) [] []
      ∷ i (Some (codes "c")) Xor (I 1) (v 2 ∷ Literal 1 ∷ []) [] []
      ∷ i (Some (codes "z")) (Zext 64) (I 1) (v 3 ∷ []) [] []
      ∷ i None Ret (I 64) (v 4 ∷ []) [] []
      ∷ [])
      ∷ [];
}

abbrev derived_pointers_differ_rewritten_bases : List Operand
derived_pointers_differ_rewritten_bases = (v 0 ∷ v 0 ∷ v 2 ∷ v 3 ∷ v 4 ∷ [])

abbrev pub derived_pointers_differ_rewritten_after : Function
derived_pointers_differ_rewritten_after = record {
  name = codes "main";
  answer = (I 64);
  args = [];
  blocks =
      block (codes "entry") (
      i (Some (codes "sp.t0")) (Statepoint 2882400000 Poll []) Void [] [] []
      ∷ i (Some (codes "sp.t1")) (Statepoint 2882400000 (New 0) ((I 64) ∷ [])) Ptr (Literal 1 ∷ []) [] []
      ∷ i (Some (codes "a")) GcResult Ptr (v 1 ∷ []) [] []
      ∷ i (Some (codes "e")) (Gep (Layout 0) 64 None) Ptr (v 2 ∷ Literal 1 ∷ []) [] []
      ∷ i (Some (codes "sp.s0")) (Call Same (Ptr ∷ Ptr ∷ Ptr ∷ Ptr ∷ [])) (I 1) (v 2 ∷ v 3 ∷ v 2 ∷ v 2 ∷ []) [] []
      ∷ i (Some (codes "c")) Xor (I 1) (v 4 ∷ Literal 1 ∷ []) [] []
      ∷ i (Some (codes "z")) (Zext 64) (I 1) (v 5 ∷ []) [] []
      ∷ i None Ret (I 64) (v 6 ∷ []) [] []
      ∷ [])
      ∷ [];
}

derived_pointers_differ_rewritten_is : rewritten derived_pointers_differ_rewritten_before derived_pointers_differ_rewritten_bases ≡ derived_pointers_differ_rewritten_after
unfolding digits
derived_pointers_differ_rewritten_is = refl
