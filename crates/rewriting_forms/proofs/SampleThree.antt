-- Made by the independent reference: a function before liveness, its base table, and its rewritten text.
use Rattle.std.proofs.Common.{◌≡◌, ℕ, List, [], ◌∷◌, Option, Some, None, refl}
use Rattle.std.specs.Prelude.{codes}
use Rattle.sp_ids.specs.declared.ids.BlockId.{BlockId}
use Rattle.sp_ids.specs.declared.ids.FuncId.{FuncId}
use Rattle.ir_ast.specs.declared.types.Ty.{Ty}
use Rattle.ir_ast.specs.declared.types.Ty.TheVariants.{Void, Int as I, Ptr}
use Rattle.ir_ast.specs.declared.ops.Pred.TheVariants.{Eq, Ne, Sge}
use Rattle.ir_ast.specs.declared.ops.Elem.TheVariants.{Int as EInt, Layout}
use Rattle.ir_ast.specs.declared.ops.Operand.{Operand}
use Rattle.ir_ast.specs.declared.ops.Operand.TheVariants.{Value, Int as Literal, Null, Fun as Named}
use Rattle.ir_ast.specs.declared.ops.Callee.TheVariants.{Fun, New, Print, Read, TaskStart, Poll, Check, Same}
use Rattle.ir_ast.specs.declared.ops.Op.{Op}
use Rattle.ir_ast.specs.declared.ops.Op.TheVariants.{Sub, Mul, Xor, Lshr, Icmp, Trunc, Zext, Sext, Select, Phi, Gep, Load, Store, Call, Statepoint, GcResult, GcRelocate, Br, CondBr, Switch, Ret}
use Rattle.ir_ast.specs.Insts.{Instruction}
use Rattle.ir_ast.specs.Blocks.{BasicBlock}
use Rattle.ir_ast.specs.Funcs.{Function}
use Rattle.std.specs.Fmt.{digits}
use Rattle.rewriting_forms.specs.Names.{full_naming}
use Rattle.rewriting_forms.specs.Rewritten.{rewritten, rewritten_with}

abbrev v : ℕ → Operand
v n = Value (record { 0 = n })

abbrev b : ℕ → BlockId
b n = record { 0 = n }

abbrev fn : ℕ → FuncId
fn n = record { 0 = n }

abbrev i : Option (List ℕ) → Op → Ty → List Operand → List BlockId → List (Ty × Operand) → Instruction
i result op ty operands labels bundle = record { result = result; op = op; ty = ty; operands = operands; labels = labels; bundle = bundle }

abbrev block : List ℕ → List Instruction → BasicBlock
block name insts = record { name = name; insts = insts }

abbrev r4_0_before : Function
r4_0_before = record {
  name = codes "f1";
  answer = Void;
  args = (record { name = codes "a0"; ty = Ptr } ∷ record { name = codes "a1"; ty = Ptr } ∷ []);
  blocks =
      block (codes "b0") (
      i None (Call Poll []) Void [] [] []
      ∷ i (Some (codes "v1")) (Call (New 0) ((I 64) ∷ [])) Ptr (Literal 3 ∷ []) [] []
      ∷ i (Some (codes "v2")) (Call (New 0) ((I 64) ∷ [])) Ptr (Literal 3 ∷ []) [] []
      ∷ i (Some (codes "v3")) (Gep (Layout 0) 64 (Some 1)) Ptr (v 2 ∷ Literal 0 ∷ []) [] []
      ∷ i None Switch (I 64) (Literal 255 ∷ Literal 0 ∷ Literal 1 ∷ []) (b 1 ∷ b 1 ∷ b 1 ∷ []) []
      ∷ [])
      ∷ block (codes "b1") (
      i (Some (codes "v4")) Phi Ptr (v 2 ∷ v 2 ∷ v 2 ∷ []) (b 0 ∷ b 0 ∷ b 0 ∷ []) []
      ∷ i (Some (codes "v5")) Phi Ptr (v 3 ∷ v 3 ∷ v 3 ∷ []) (b 0 ∷ b 0 ∷ b 0 ∷ []) []
      ∷ i None (Call Check (Ptr ∷ Ptr ∷ (I 64) ∷ [])) Void (v 2 ∷ v 4 ∷ Literal 1 ∷ []) [] []
      ∷ i None Store Ptr (Null ∷ v 4 ∷ []) [] []
      ∷ i (Some (codes "v6")) (Call Same (Ptr ∷ Ptr ∷ Ptr ∷ Ptr ∷ [])) (I 1) (v 5 ∷ v 5 ∷ v 2 ∷ v 4 ∷ []) [] []
      ∷ i (Some (codes "v7")) (Gep (EInt 32) 64 None) Ptr (v 4 ∷ Literal 18446744073709551615 ∷ []) [] []
      ∷ i None (Call Print ((I 64) ∷ [])) Void (Literal 0 ∷ []) [] []
      ∷ i (Some (codes "v8")) (Trunc 32) (I 64) (Literal 1099511627776 ∷ []) [] []
      ∷ i (Some (codes "sp.s0")) (Call Same (Ptr ∷ Ptr ∷ Ptr ∷ Ptr ∷ [])) (I 1) (v 2 ∷ v 8 ∷ v 2 ∷ v 8 ∷ []) [] []
      ∷ i (Some (codes "v9")) Xor (I 1) (v 10 ∷ Literal 1 ∷ []) [] []
      ∷ i None Br Void [] (b 3 ∷ []) []
      ∷ [])
      ∷ block (codes "b3") (
      i None (Call Check (Ptr ∷ Ptr ∷ (I 64) ∷ [])) Void (v 2 ∷ v 8 ∷ Literal 1 ∷ []) [] []
      ∷ i (Some (codes "v13")) Load Ptr (v 8 ∷ []) [] []
      ∷ i (Some (codes "v14")) (Gep (Layout 0) 64 (Some 0)) Ptr (v 4 ∷ Literal 0 ∷ []) [] []
      ∷ i (Some (codes "v15")) (Icmp Sge) (I 32) (v 16 ∷ v 16 ∷ []) [] []
      ∷ i (Some (codes "v16")) (Icmp Sge) (I 8) (Literal 8 ∷ Literal 255 ∷ []) [] []
      ∷ i None Ret Void [] [] []
      ∷ [])
      ∷ block (codes "b2") (
      i (Some (codes "v10")) Phi (I 32) (v 9 ∷ []) (b 1 ∷ []) []
      ∷ i (Some (codes "v11")) Phi Ptr (v 5 ∷ []) (b 1 ∷ []) []
      ∷ i None (Call Print ((I 64) ∷ [])) Void (Literal 0 ∷ []) [] []
      ∷ i (Some (codes "v12")) (Gep (Layout 1) 64 None) Ptr (v 3 ∷ Literal 0 ∷ []) [] []
      ∷ i None (Call Check (Ptr ∷ Ptr ∷ (I 64) ∷ [])) Void (v 2 ∷ v 2 ∷ Literal 0 ∷ []) [] []
      ∷ i None Store (I 64) (Literal 8 ∷ v 2 ∷ []) [] []
      ∷ i None (Call Poll []) Void [] [] []
      ∷ i None Br Void [] (b 2 ∷ []) []
      ∷ [])
      ∷ [];
}

abbrev r4_0_bases : List Operand
r4_0_bases = (v 0 ∷ v 1 ∷ v 2 ∷ v 3 ∷ v 2 ∷ v 5 ∷ v 6 ∷ v 7 ∷ v 2 ∷ v 9 ∷ v 10 ∷ v 11 ∷ v 12 ∷ v 2 ∷ v 14 ∷ v 15 ∷ v 16 ∷ v 17 ∷ v 3 ∷ [])

-- with each phi that was inserted
abbrev r4_0_full : Function
r4_0_full = record {
  name = codes "f1";
  answer = Void;
  args = (record { name = codes "a0"; ty = Ptr } ∷ record { name = codes "a1"; ty = Ptr } ∷ []);
  blocks =
      block (codes "b0") (
      i (Some (codes "sp.t0")) (Statepoint 2882400000 Poll []) Void [] [] []
      ∷ i (Some (codes "sp.t1")) (Statepoint 2882400000 (New 0) ((I 64) ∷ [])) Ptr (Literal 3 ∷ []) [] []
      ∷ i (Some (codes "v1")) GcResult Ptr (v 3 ∷ []) [] []
      ∷ i (Some (codes "sp.t2")) (Statepoint 2882400000 (New 0) ((I 64) ∷ [])) Ptr (Literal 3 ∷ v 4 ∷ []) [] []
      ∷ i (Some (codes "v2")) GcResult Ptr (v 5 ∷ []) [] []
      ∷ i (Some (codes "sp.r0")) GcRelocate Ptr (v 5 ∷ Literal 0 ∷ Literal 0 ∷ []) [] []
      ∷ i (Some (codes "v3")) (Gep (Layout 0) 64 (Some 1)) Ptr (v 7 ∷ Literal 0 ∷ []) [] []
      ∷ i None Switch (I 64) (Literal 255 ∷ Literal 0 ∷ Literal 1 ∷ []) (b 1 ∷ b 1 ∷ b 1 ∷ []) []
      ∷ [])
      ∷ block (codes "b1") (
      i (Some (codes "sp.m0")) Phi Ptr (v 7 ∷ v 7 ∷ v 7 ∷ []) (b 0 ∷ b 0 ∷ b 0 ∷ []) []
      ∷ i (Some (codes "sp.m1")) Phi Ptr (v 8 ∷ v 8 ∷ v 8 ∷ []) (b 0 ∷ b 0 ∷ b 0 ∷ []) []
      ∷ i (Some (codes "v4")) Phi Ptr (v 7 ∷ v 7 ∷ v 7 ∷ []) (b 0 ∷ b 0 ∷ b 0 ∷ []) []
      ∷ i (Some (codes "v5")) Phi Ptr (v 6 ∷ v 6 ∷ v 6 ∷ []) (b 0 ∷ b 0 ∷ b 0 ∷ []) []
      ∷ i None (Call Check (Ptr ∷ Ptr ∷ (I 64) ∷ [])) Void (v 9 ∷ v 10 ∷ Literal 1 ∷ []) [] []
      ∷ i None Store Ptr (Null ∷ v 10 ∷ []) [] []
      ∷ i (Some (codes "v6")) (Call Same (Ptr ∷ Ptr ∷ Ptr ∷ Ptr ∷ [])) (I 1) (v 11 ∷ v 11 ∷ v 9 ∷ v 10 ∷ []) [] []
      ∷ i (Some (codes "v7")) (Gep (EInt 32) 64 None) Ptr (v 10 ∷ Literal 18446744073709551615 ∷ []) [] []
      ∷ i None (Call Print ((I 64) ∷ [])) Void (Literal 0 ∷ []) [] []
      ∷ i (Some (codes "v8")) (Trunc 32) (I 64) (Literal 1099511627776 ∷ []) [] []
      ∷ i (Some (codes "sp.s0")) (Call Same (Ptr ∷ Ptr ∷ Ptr ∷ Ptr ∷ [])) (I 1) (v 9 ∷ v 14 ∷ v 9 ∷ v 14 ∷ []) [] []
      ∷ i (Some (codes "v9")) Xor (I 1) (v 16 ∷ Literal 1 ∷ []) [] []
      ∷ i None Br Void [] (b 3 ∷ []) []
      ∷ [])
      ∷ block (codes "b3") (
      i None (Call Check (Ptr ∷ Ptr ∷ (I 64) ∷ [])) Void (v 26 ∷ v 28 ∷ Literal 1 ∷ []) [] []
      ∷ i (Some (codes "v13")) Load Ptr (v 28 ∷ []) [] []
      ∷ i (Some (codes "v14")) (Gep (Layout 0) 64 (Some 0)) Ptr (v 27 ∷ Literal 0 ∷ []) [] []
      ∷ i (Some (codes "v15")) (Icmp Sge) (I 32) (v 22 ∷ v 22 ∷ []) [] []
      ∷ i (Some (codes "v16")) (Icmp Sge) (I 8) (Literal 8 ∷ Literal 255 ∷ []) [] []
      ∷ i None Ret Void [] [] []
      ∷ [])
      ∷ block (codes "b2") (
      i (Some (codes "v10")) Phi (I 32) (v 15 ∷ []) (b 1 ∷ []) []
      ∷ i (Some (codes "v11")) Phi Ptr (v 11 ∷ []) (b 1 ∷ []) []
      ∷ i None (Call Print ((I 64) ∷ [])) Void (Literal 0 ∷ []) [] []
      ∷ i (Some (codes "v12")) (Gep (Layout 1) 64 None) Ptr (v 6 ∷ Literal 0 ∷ []) [] []
      ∷ i None (Call Check (Ptr ∷ Ptr ∷ (I 64) ∷ [])) Void (v 9 ∷ v 9 ∷ Literal 0 ∷ []) [] []
      ∷ i None Store (I 64) (Literal 8 ∷ v 9 ∷ []) [] []
      ∷ i (Some (codes "sp.t3")) (Statepoint 2882400000 Poll []) Void (v 9 ∷ v 10 ∷ v 14 ∷ []) [] []
      ∷ i (Some (codes "sp.r1")) GcRelocate Ptr (v 25 ∷ Literal 0 ∷ Literal 0 ∷ []) [] []
      ∷ i (Some (codes "sp.r2")) GcRelocate Ptr (v 25 ∷ Literal 0 ∷ Literal 1 ∷ []) [] []
      ∷ i (Some (codes "sp.r3")) GcRelocate Ptr (v 25 ∷ Literal 0 ∷ Literal 2 ∷ []) [] []
      ∷ i None Br Void [] (b 2 ∷ []) []
      ∷ [])
      ∷ [];
}

-- and what is left of it
abbrev r4_0_after : Function
r4_0_after = record {
  name = codes "f1";
  answer = Void;
  args = (record { name = codes "a0"; ty = Ptr } ∷ record { name = codes "a1"; ty = Ptr } ∷ []);
  blocks =
      block (codes "b0") (
      i (Some (codes "sp.t0")) (Statepoint 2882400000 Poll []) Void [] [] []
      ∷ i (Some (codes "sp.t1")) (Statepoint 2882400000 (New 0) ((I 64) ∷ [])) Ptr (Literal 3 ∷ []) [] []
      ∷ i (Some (codes "v1")) GcResult Ptr (v 3 ∷ []) [] []
      ∷ i (Some (codes "sp.t2")) (Statepoint 2882400000 (New 0) ((I 64) ∷ [])) Ptr (Literal 3 ∷ v 4 ∷ []) [] []
      ∷ i (Some (codes "v2")) GcResult Ptr (v 5 ∷ []) [] []
      ∷ i (Some (codes "sp.r0")) GcRelocate Ptr (v 5 ∷ Literal 0 ∷ Literal 0 ∷ []) [] []
      ∷ i (Some (codes "v3")) (Gep (Layout 0) 64 (Some 1)) Ptr (v 7 ∷ Literal 0 ∷ []) [] []
      ∷ i None Switch (I 64) (Literal 255 ∷ Literal 0 ∷ Literal 1 ∷ []) (b 1 ∷ b 1 ∷ b 1 ∷ []) []
      ∷ [])
      ∷ block (codes "b1") (
      i (Some (codes "v4")) Phi Ptr (v 7 ∷ v 7 ∷ v 7 ∷ []) (b 0 ∷ b 0 ∷ b 0 ∷ []) []
      ∷ i (Some (codes "v5")) Phi Ptr (v 6 ∷ v 6 ∷ v 6 ∷ []) (b 0 ∷ b 0 ∷ b 0 ∷ []) []
      ∷ i None (Call Check (Ptr ∷ Ptr ∷ (I 64) ∷ [])) Void (v 7 ∷ v 8 ∷ Literal 1 ∷ []) [] []
      ∷ i None Store Ptr (Null ∷ v 8 ∷ []) [] []
      ∷ i (Some (codes "v6")) (Call Same (Ptr ∷ Ptr ∷ Ptr ∷ Ptr ∷ [])) (I 1) (v 9 ∷ v 9 ∷ v 7 ∷ v 8 ∷ []) [] []
      ∷ i (Some (codes "v7")) (Gep (EInt 32) 64 None) Ptr (v 8 ∷ Literal 18446744073709551615 ∷ []) [] []
      ∷ i None (Call Print ((I 64) ∷ [])) Void (Literal 0 ∷ []) [] []
      ∷ i (Some (codes "v8")) (Trunc 32) (I 64) (Literal 1099511627776 ∷ []) [] []
      ∷ i (Some (codes "sp.s0")) (Call Same (Ptr ∷ Ptr ∷ Ptr ∷ Ptr ∷ [])) (I 1) (v 7 ∷ v 12 ∷ v 7 ∷ v 12 ∷ []) [] []
      ∷ i (Some (codes "v9")) Xor (I 1) (v 14 ∷ Literal 1 ∷ []) [] []
      ∷ i None Br Void [] (b 3 ∷ []) []
      ∷ [])
      ∷ block (codes "b3") (
      i None (Call Check (Ptr ∷ Ptr ∷ (I 64) ∷ [])) Void (v 24 ∷ v 26 ∷ Literal 1 ∷ []) [] []
      ∷ i (Some (codes "v13")) Load Ptr (v 26 ∷ []) [] []
      ∷ i (Some (codes "v14")) (Gep (Layout 0) 64 (Some 0)) Ptr (v 25 ∷ Literal 0 ∷ []) [] []
      ∷ i (Some (codes "v15")) (Icmp Sge) (I 32) (v 20 ∷ v 20 ∷ []) [] []
      ∷ i (Some (codes "v16")) (Icmp Sge) (I 8) (Literal 8 ∷ Literal 255 ∷ []) [] []
      ∷ i None Ret Void [] [] []
      ∷ [])
      ∷ block (codes "b2") (
      i (Some (codes "v10")) Phi (I 32) (v 13 ∷ []) (b 1 ∷ []) []
      ∷ i (Some (codes "v11")) Phi Ptr (v 9 ∷ []) (b 1 ∷ []) []
      ∷ i None (Call Print ((I 64) ∷ [])) Void (Literal 0 ∷ []) [] []
      ∷ i (Some (codes "v12")) (Gep (Layout 1) 64 None) Ptr (v 6 ∷ Literal 0 ∷ []) [] []
      ∷ i None (Call Check (Ptr ∷ Ptr ∷ (I 64) ∷ [])) Void (v 7 ∷ v 7 ∷ Literal 0 ∷ []) [] []
      ∷ i None Store (I 64) (Literal 8 ∷ v 7 ∷ []) [] []
      ∷ i (Some (codes "sp.t3")) (Statepoint 2882400000 Poll []) Void (v 7 ∷ v 8 ∷ v 12 ∷ []) [] []
      ∷ i (Some (codes "sp.r1")) GcRelocate Ptr (v 23 ∷ Literal 0 ∷ Literal 0 ∷ []) [] []
      ∷ i (Some (codes "sp.r2")) GcRelocate Ptr (v 23 ∷ Literal 0 ∷ Literal 1 ∷ []) [] []
      ∷ i (Some (codes "sp.r3")) GcRelocate Ptr (v 23 ∷ Literal 0 ∷ Literal 2 ∷ []) [] []
      ∷ i None Br Void [] (b 2 ∷ []) []
      ∷ [])
      ∷ [];
}

r4_0_full_is : rewritten_with r4_0_before r4_0_bases (full_naming r4_0_before r4_0_bases) ≡ r4_0_full
unfolding digits
r4_0_full_is = refl

r4_0_is : rewritten r4_0_before r4_0_bases ≡ r4_0_after
unfolding digits
r4_0_is = refl

abbrev r5_1_before : Function
r5_1_before = record {
  name = codes "f0";
  answer = (I 64);
  args = [];
  blocks =
      block (codes "b0") (
      i None (Call Poll []) Void [] [] []
      ∷ i (Some (codes "v1")) (Gep (EInt 8) 64 None) Ptr (Null ∷ Literal 4 ∷ []) [] []
      ∷ i (Some (codes "v2")) (Gep (Layout 1) 64 (Some 1)) Ptr (v 0 ∷ Literal 18446744073709551615 ∷ []) [] []
      ∷ i (Some (codes "v3")) (Gep (Layout 1) 64 (Some 0)) Ptr (v 1 ∷ Literal 0 ∷ []) [] []
      ∷ i None Switch (I 32) (Literal 8 ∷ Literal 0 ∷ Literal 1 ∷ Literal 2 ∷ []) (b 3 ∷ b 2 ∷ b 2 ∷ b 2 ∷ []) []
      ∷ [])
      ∷ block (codes "b3") (
      i (Some (codes "v15")) Phi (I 64) (v 11 ∷ []) (b 2 ∷ []) []
      ∷ i (Some (codes "v16")) (Icmp Sge) (I 32) (Literal 4294967288 ∷ Literal 1 ∷ []) [] []
      ∷ i None Br Void [] (b 4 ∷ []) []
      ∷ [])
      ∷ block (codes "b2") (
      i None (Call Check (Ptr ∷ Ptr ∷ (I 64) ∷ [])) Void (Null ∷ v 2 ∷ Literal 0 ∷ []) [] []
      ∷ i (Some (codes "v7")) Load (I 64) (v 2 ∷ []) [] []
      ∷ i None (Call Print ((I 64) ∷ [])) Void (v 5 ∷ []) [] []
      ∷ i None (Call Check (Ptr ∷ Ptr ∷ (I 64) ∷ [])) Void (Null ∷ v 2 ∷ Literal 1 ∷ []) [] []
      ∷ i (Some (codes "v8")) Load Ptr (v 2 ∷ []) [] []
      ∷ i (Some (codes "sp.b0")) Select Ptr (Literal 1 ∷ Null ∷ Null ∷ []) [] []
      ∷ i (Some (codes "v9")) Select Ptr (Literal 1 ∷ v 1 ∷ Null ∷ []) [] []
      ∷ i (Some (codes "v10")) (Call (New 0) ((I 64) ∷ [])) Ptr (Literal 2 ∷ []) [] ((Ptr, v 6) ∷ [])
      ∷ i (Some (codes "v11")) (Gep (EInt 8) 64 None) Ptr (v 6 ∷ Literal 1 ∷ []) [] []
      ∷ i None (Call Print ((I 64) ∷ [])) Void (v 5 ∷ []) [] []
      ∷ i (Some (codes "v12")) (Zext 64) (I 1) (Literal 0 ∷ []) [] []
      ∷ i None (Call Poll []) Void [] [] []
      ∷ i None Switch (I 32) (Literal 1 ∷ Literal 0 ∷ []) (b 1 ∷ b 2 ∷ []) []
      ∷ [])
      ∷ block (codes "b1") (
      i (Some (codes "v4")) Phi (I 32) (Literal 2147483648 ∷ []) (b 0 ∷ []) []
      ∷ i (Some (codes "v5")) Lshr (I 32) (v 12 ∷ Literal 3 ∷ []) [] []
      ∷ i None (Call Check (Ptr ∷ Ptr ∷ (I 64) ∷ [])) Void (Null ∷ v 2 ∷ Literal 1 ∷ []) [] []
      ∷ i (Some (codes "v6")) Load Ptr (v 2 ∷ []) [] []
      ∷ i None CondBr (I 1) (Literal 1 ∷ []) (b 4 ∷ b 4 ∷ []) []
      ∷ [])
      ∷ block (codes "b4") (
      i (Some (codes "sp.b1")) Select Ptr (Literal 0 ∷ Null ∷ Null ∷ []) [] []
      ∷ i (Some (codes "v13")) Select Ptr (Literal 0 ∷ v 2 ∷ v 2 ∷ []) [] []
      ∷ i (Some (codes "v14")) Select Ptr (Literal 0 ∷ Null ∷ Null ∷ []) [] []
      ∷ i None (Call Poll []) Void [] [] []
      ∷ i None CondBr (I 1) (Literal 0 ∷ []) (b 4 ∷ b 4 ∷ []) []
      ∷ [])
      ∷ [];
}

abbrev r5_1_bases : List Operand
r5_1_bases = (Null ∷ Null ∷ Null ∷ v 3 ∷ v 4 ∷ v 5 ∷ v 6 ∷ v 7 ∷ v 7 ∷ v 9 ∷ v 6 ∷ v 11 ∷ v 12 ∷ v 13 ∷ v 14 ∷ v 15 ∷ v 15 ∷ v 17 ∷ [])

abbrev r5_1_after : Function
r5_1_after = record {
  name = codes "f0";
  answer = (I 64);
  args = [];
  blocks =
      block (codes "b0") (
      i (Some (codes "sp.t0")) (Statepoint 2882400000 Poll []) Void [] [] []
      ∷ i (Some (codes "v1")) (Gep (EInt 8) 64 None) Ptr (Null ∷ Literal 4 ∷ []) [] []
      ∷ i (Some (codes "v2")) (Gep (Layout 1) 64 (Some 1)) Ptr (v 1 ∷ Literal 18446744073709551615 ∷ []) [] []
      ∷ i (Some (codes "v3")) (Gep (Layout 1) 64 (Some 0)) Ptr (v 2 ∷ Literal 0 ∷ []) [] []
      ∷ i None Switch (I 32) (Literal 8 ∷ Literal 0 ∷ Literal 1 ∷ Literal 2 ∷ []) (b 3 ∷ b 2 ∷ b 2 ∷ b 2 ∷ []) []
      ∷ [])
      ∷ block (codes "b3") (
      i (Some (codes "v15")) Phi (I 64) (v 18 ∷ []) (b 2 ∷ []) []
      ∷ i (Some (codes "v16")) (Icmp Sge) (I 32) (Literal 4294967288 ∷ Literal 1 ∷ []) [] []
      ∷ i None Br Void [] (b 4 ∷ []) []
      ∷ [])
      ∷ block (codes "b2") (
      i (Some (codes "sp.m0")) Phi Ptr (v 2 ∷ v 2 ∷ v 2 ∷ v 20 ∷ []) (b 0 ∷ b 0 ∷ b 0 ∷ b 2 ∷ []) []
      ∷ i (Some (codes "sp.m1")) Phi Ptr (v 3 ∷ v 3 ∷ v 3 ∷ v 21 ∷ []) (b 0 ∷ b 0 ∷ b 0 ∷ b 2 ∷ []) []
      ∷ i None (Call Check (Ptr ∷ Ptr ∷ (I 64) ∷ [])) Void (Null ∷ v 7 ∷ Literal 0 ∷ []) [] []
      ∷ i (Some (codes "v7")) Load (I 64) (v 7 ∷ []) [] []
      ∷ i None (Call Print ((I 64) ∷ [])) Void (v 8 ∷ []) [] []
      ∷ i None (Call Check (Ptr ∷ Ptr ∷ (I 64) ∷ [])) Void (Null ∷ v 7 ∷ Literal 1 ∷ []) [] []
      ∷ i (Some (codes "v8")) Load Ptr (v 7 ∷ []) [] []
      ∷ i (Some (codes "sp.b0")) Select Ptr (Literal 1 ∷ Null ∷ Null ∷ []) [] []
      ∷ i (Some (codes "v9")) Select Ptr (Literal 1 ∷ v 6 ∷ Null ∷ []) [] []
      ∷ i (Some (codes "sp.t1")) (Statepoint 2882400000 (New 0) ((I 64) ∷ [])) Ptr (Literal 2 ∷ Null ∷ v 6 ∷ v 7 ∷ v 9 ∷ []) [] ((Ptr, v 9) ∷ [])
      ∷ i (Some (codes "v10")) GcResult Ptr (v 12 ∷ []) [] []
      ∷ i (Some (codes "sp.r0")) GcRelocate Ptr (v 12 ∷ Literal 0 ∷ Literal 1 ∷ []) [] []
      ∷ i (Some (codes "sp.r1")) GcRelocate Ptr (v 12 ∷ Literal 0 ∷ Literal 2 ∷ []) [] []
      ∷ i (Some (codes "sp.r2")) GcRelocate Ptr (v 12 ∷ Literal 3 ∷ Literal 3 ∷ []) [] []
      ∷ i (Some (codes "v11")) (Gep (EInt 8) 64 None) Ptr (v 16 ∷ Literal 1 ∷ []) [] []
      ∷ i None (Call Print ((I 64) ∷ [])) Void (v 8 ∷ []) [] []
      ∷ i (Some (codes "v12")) (Zext 64) (I 1) (Literal 0 ∷ []) [] []
      ∷ i (Some (codes "sp.t2")) (Statepoint 2882400000 Poll []) Void (Null ∷ v 14 ∷ v 15 ∷ []) [] []
      ∷ i (Some (codes "sp.r3")) GcRelocate Ptr (v 19 ∷ Literal 0 ∷ Literal 1 ∷ []) [] []
      ∷ i (Some (codes "sp.r4")) GcRelocate Ptr (v 19 ∷ Literal 0 ∷ Literal 2 ∷ []) [] []
      ∷ i None Switch (I 32) (Literal 1 ∷ Literal 0 ∷ []) (b 1 ∷ b 2 ∷ []) []
      ∷ [])
      ∷ block (codes "b1") (
      i (Some (codes "v4")) Phi (I 32) (Literal 2147483648 ∷ []) (b 0 ∷ []) []
      ∷ i (Some (codes "v5")) Lshr (I 32) (v 22 ∷ Literal 3 ∷ []) [] []
      ∷ i None (Call Check (Ptr ∷ Ptr ∷ (I 64) ∷ [])) Void (Null ∷ v 3 ∷ Literal 1 ∷ []) [] []
      ∷ i (Some (codes "v6")) Load Ptr (v 3 ∷ []) [] []
      ∷ i None CondBr (I 1) (Literal 1 ∷ []) (b 4 ∷ b 4 ∷ []) []
      ∷ [])
      ∷ block (codes "b4") (
      i (Some (codes "sp.m2")) Phi Ptr (v 21 ∷ v 3 ∷ v 3 ∷ v 30 ∷ v 30 ∷ []) (b 1 ∷ b 3 ∷ b 3 ∷ b 4 ∷ b 4 ∷ []) []
      ∷ i (Some (codes "sp.b1")) Select Ptr (Literal 0 ∷ Null ∷ Null ∷ []) [] []
      ∷ i (Some (codes "v13")) Select Ptr (Literal 0 ∷ v 25 ∷ v 25 ∷ []) [] []
      ∷ i (Some (codes "v14")) Select Ptr (Literal 0 ∷ Null ∷ Null ∷ []) [] []
      ∷ i (Some (codes "sp.t3")) (Statepoint 2882400000 Poll []) Void (Null ∷ v 25 ∷ []) [] []
      ∷ i (Some (codes "sp.r5")) GcRelocate Ptr (v 29 ∷ Literal 0 ∷ Literal 1 ∷ []) [] []
      ∷ i None CondBr (I 1) (Literal 0 ∷ []) (b 4 ∷ b 4 ∷ []) []
      ∷ [])
      ∷ [];
}

r5_1_is : rewritten r5_1_before r5_1_bases ≡ r5_1_after
unfolding digits
r5_1_is = refl

abbrev r6_2_before : Function
r6_2_before = record {
  name = codes "f1";
  answer = Ptr;
  args = (record { name = codes "a0"; ty = (I 64) } ∷ record { name = codes "a1"; ty = Ptr } ∷ []);
  blocks =
      block (codes "b0") (
      i None (Call Poll []) Void [] [] []
      ∷ i (Some (codes "v1")) (Call (New 0) ((I 64) ∷ [])) Ptr (Literal 3 ∷ []) [] []
      ∷ i (Some (codes "v2")) (Gep (EInt 8) 64 None) Ptr (v 2 ∷ Literal 8 ∷ []) [] []
      ∷ i (Some (codes "v3")) (Sext 64) (I 32) (Literal 2 ∷ []) [] []
      ∷ i (Some (codes "v4")) (Icmp Eq) Ptr (v 2 ∷ v 2 ∷ []) [] []
      ∷ i None Switch (I 8) (Literal 1 ∷ Literal 0 ∷ Literal 1 ∷ []) (b 3 ∷ b 1 ∷ b 1 ∷ []) []
      ∷ [])
      ∷ block (codes "b4") (
      i (Some (codes "v14")) Phi (I 64) (v 0 ∷ v 0 ∷ []) (b 0 ∷ b 0 ∷ []) []
      ∷ i (Some (codes "v15")) Phi (I 1) (Literal 1 ∷ Literal 1 ∷ []) (b 0 ∷ b 0 ∷ []) []
      ∷ i (Some (codes "v16")) Phi (I 1) (v 5 ∷ v 5 ∷ []) (b 0 ∷ b 0 ∷ []) []
      ∷ i None (Call (Fun (fn 3)) ((I 1) ∷ Ptr ∷ Ptr ∷ [])) Void (v 8 ∷ v 1 ∷ v 2 ∷ []) [] (((I 64), v 0) ∷ ((I 64), v 4) ∷ (Ptr, v 3) ∷ ((I 32), Literal 2147483648) ∷ ((I 32), Literal 2147483648) ∷ ((I 8), Literal 255) ∷ [])
      ∷ i (Some (codes "v17")) Select (I 64) (Literal 1 ∷ v 6 ∷ v 4 ∷ []) [] []
      ∷ i (Some (codes "v18")) (Icmp Ne) (I 8) (Literal 2 ∷ Literal 5 ∷ []) [] []
      ∷ i (Some (codes "v19")) (Call (Fun (fn 2)) ((I 64) ∷ Ptr ∷ [])) Ptr (v 6 ∷ v 2 ∷ []) [] (((I 64), v 0) ∷ ((I 1), v 10) ∷ ((I 64), v 0) ∷ (Ptr, Null) ∷ [])
      ∷ i None Br Void [] (b 2 ∷ []) []
      ∷ [])
      ∷ block (codes "b3") (
      i (Some (codes "sp.b0")) Phi Ptr (v 2 ∷ v 2 ∷ v 2 ∷ []) (b 4 ∷ b 1 ∷ b 4 ∷ []) []
      ∷ i (Some (codes "v9")) Phi Ptr (v 2 ∷ v 3 ∷ v 2 ∷ []) (b 4 ∷ b 1 ∷ b 4 ∷ []) []
      ∷ i (Some (codes "v10")) Phi (I 1) (Literal 0 ∷ Literal 0 ∷ Literal 1 ∷ []) (b 4 ∷ b 4 ∷ b 1 ∷ []) []
      ∷ i (Some (codes "sp.b1")) Phi Ptr (v 2 ∷ v 2 ∷ v 2 ∷ []) (b 4 ∷ b 1 ∷ b 4 ∷ []) []
      ∷ i (Some (codes "v11")) Phi Ptr (v 22 ∷ v 3 ∷ v 22 ∷ []) (b 4 ∷ b 1 ∷ b 4 ∷ []) []
      ∷ i (Some (codes "v12")) (Gep (EInt 8) 64 None) Ptr (v 2 ∷ Literal 8 ∷ []) [] []
      ∷ i (Some (codes "v13")) (Gep (Layout 0) 64 (Some 0)) Ptr (v 3 ∷ Literal 0 ∷ []) [] []
      ∷ i None CondBr (I 1) (v 5 ∷ []) (b 4 ∷ b 4 ∷ []) []
      ∷ [])
      ∷ block (codes "b1") (
      i (Some (codes "v5")) (Gep (EInt 8) 64 None) Ptr (v 1 ∷ Literal 0 ∷ []) [] []
      ∷ i None (Call Check (Ptr ∷ Ptr ∷ (I 64) ∷ [])) Void (v 1 ∷ v 19 ∷ Literal 0 ∷ []) [] []
      ∷ i (Some (codes "v6")) Load (I 64) (v 19 ∷ []) [] []
      ∷ i None (Call Print ((I 64) ∷ [])) Void (v 20 ∷ []) [] []
      ∷ i None (Call Check (Ptr ∷ Ptr ∷ (I 64) ∷ [])) Void (v 1 ∷ v 1 ∷ Literal 0 ∷ []) [] []
      ∷ i None Store (I 64) (v 0 ∷ v 1 ∷ []) [] []
      ∷ i None (Call Check (Ptr ∷ Ptr ∷ (I 64) ∷ [])) Void (v 2 ∷ v 2 ∷ Literal 0 ∷ []) [] []
      ∷ i None Store (I 64) (v 4 ∷ v 2 ∷ []) [] []
      ∷ i (Some (codes "v7")) (Icmp Ne) (I 64) (v 4 ∷ v 4 ∷ []) [] []
      ∷ i None (Call Poll []) Void [] [] []
      ∷ i None Switch (I 64) (v 0 ∷ Literal 0 ∷ []) (b 4 ∷ b 3 ∷ []) []
      ∷ [])
      ∷ block (codes "b2") (
      i None (Call (Fun (fn 3)) ((I 1) ∷ Ptr ∷ Ptr ∷ [])) Void (v 5 ∷ v 2 ∷ v 2 ∷ []) [] ((Ptr, Null) ∷ ((I 64), v 4) ∷ ((I 64), v 4) ∷ [])
      ∷ i None (Call Check (Ptr ∷ Ptr ∷ (I 64) ∷ [])) Void (v 2 ∷ v 3 ∷ Literal 1 ∷ []) [] []
      ∷ i None Store Ptr (Null ∷ v 3 ∷ []) [] []
      ∷ i None (Call (Fun (fn 3)) ((I 1) ∷ Ptr ∷ Ptr ∷ [])) Void (v 5 ∷ v 2 ∷ v 2 ∷ []) [] (((I 8), Literal 255) ∷ ((I 32), Literal 255) ∷ [])
      ∷ i (Some (codes "v8")) (Gep (Layout 0) 64 (Some 0)) Ptr (v 2 ∷ Literal 1 ∷ []) [] []
      ∷ i None (Call Poll []) Void [] [] []
      ∷ i None CondBr (I 1) (Literal 1 ∷ []) (b 2 ∷ b 2 ∷ []) []
      ∷ [])
      ∷ [];
}

abbrev r6_2_bases : List Operand
r6_2_bases = (v 0 ∷ v 1 ∷ v 2 ∷ v 2 ∷ v 4 ∷ v 5 ∷ v 6 ∷ v 7 ∷ v 8 ∷ v 9 ∷ v 10 ∷ v 11 ∷ v 12 ∷ v 12 ∷ v 14 ∷ v 15 ∷ v 15 ∷ v 2 ∷ v 2 ∷ v 1 ∷ v 20 ∷ v 21 ∷ v 2 ∷ [])

abbrev r6_2_after : Function
r6_2_after = record {
  name = codes "f1";
  answer = Ptr;
  args = (record { name = codes "a0"; ty = (I 64) } ∷ record { name = codes "a1"; ty = Ptr } ∷ []);
  blocks =
      block (codes "b0") (
      i (Some (codes "sp.t0")) (Statepoint 2882400000 Poll []) Void (v 1 ∷ []) [] []
      ∷ i (Some (codes "sp.r0")) GcRelocate Ptr (v 2 ∷ Literal 0 ∷ Literal 0 ∷ []) [] []
      ∷ i (Some (codes "sp.t1")) (Statepoint 2882400000 (New 0) ((I 64) ∷ [])) Ptr (Literal 3 ∷ v 3 ∷ []) [] []
      ∷ i (Some (codes "v1")) GcResult Ptr (v 4 ∷ []) [] []
      ∷ i (Some (codes "sp.r1")) GcRelocate Ptr (v 4 ∷ Literal 0 ∷ Literal 0 ∷ []) [] []
      ∷ i (Some (codes "v2")) (Gep (EInt 8) 64 None) Ptr (v 5 ∷ Literal 8 ∷ []) [] []
      ∷ i (Some (codes "v3")) (Sext 64) (I 32) (Literal 2 ∷ []) [] []
      ∷ i (Some (codes "v4")) (Icmp Eq) Ptr (v 5 ∷ v 5 ∷ []) [] []
      ∷ i None Switch (I 8) (Literal 1 ∷ Literal 0 ∷ Literal 1 ∷ []) (b 3 ∷ b 1 ∷ b 1 ∷ []) []
      ∷ [])
      ∷ block (codes "b4") (
      i (Some (codes "v14")) Phi (I 64) (v 0 ∷ v 0 ∷ []) (b 0 ∷ b 0 ∷ []) []
      ∷ i (Some (codes "v15")) Phi (I 1) (Literal 1 ∷ Literal 1 ∷ []) (b 0 ∷ b 0 ∷ []) []
      ∷ i (Some (codes "v16")) Phi (I 1) (v 9 ∷ v 9 ∷ []) (b 0 ∷ b 0 ∷ []) []
      ∷ i (Some (codes "sp.t2")) (Statepoint 2882400000 (Fun (fn 3)) ((I 1) ∷ Ptr ∷ Ptr ∷ [])) Void (v 12 ∷ v 6 ∷ v 5 ∷ v 5 ∷ v 7 ∷ []) [] (((I 64), v 0) ∷ ((I 64), v 8) ∷ (Ptr, v 7) ∷ ((I 32), Literal 2147483648) ∷ ((I 32), Literal 2147483648) ∷ ((I 8), Literal 255) ∷ [])
      ∷ i (Some (codes "sp.r2")) GcRelocate Ptr (v 13 ∷ Literal 0 ∷ Literal 0 ∷ []) [] []
      ∷ i (Some (codes "sp.r3")) GcRelocate Ptr (v 13 ∷ Literal 0 ∷ Literal 1 ∷ []) [] []
      ∷ i (Some (codes "v17")) Select (I 64) (Literal 1 ∷ v 10 ∷ v 8 ∷ []) [] []
      ∷ i (Some (codes "v18")) (Icmp Ne) (I 8) (Literal 2 ∷ Literal 5 ∷ []) [] []
      ∷ i (Some (codes "sp.t3")) (Statepoint 2882400000 (Fun (fn 2)) ((I 64) ∷ Ptr ∷ [])) Ptr (v 10 ∷ v 14 ∷ v 14 ∷ v 15 ∷ []) [] (((I 64), v 0) ∷ ((I 1), v 17) ∷ ((I 64), v 0) ∷ (Ptr, Null) ∷ [])
      ∷ i (Some (codes "v19")) GcResult Ptr (v 18 ∷ []) [] []
      ∷ i (Some (codes "sp.r4")) GcRelocate Ptr (v 18 ∷ Literal 0 ∷ Literal 0 ∷ []) [] []
      ∷ i (Some (codes "sp.r5")) GcRelocate Ptr (v 18 ∷ Literal 0 ∷ Literal 1 ∷ []) [] []
      ∷ i None Br Void [] (b 2 ∷ []) []
      ∷ [])
      ∷ block (codes "b3") (
      i (Some (codes "sp.m0")) Phi Ptr (v 20 ∷ v 51 ∷ v 51 ∷ []) (b 1 ∷ b 4 ∷ b 4 ∷ []) []
      ∷ i (Some (codes "sp.m1")) Phi Ptr (v 21 ∷ v 52 ∷ v 52 ∷ []) (b 1 ∷ b 4 ∷ b 4 ∷ []) []
      ∷ i (Some (codes "sp.b0")) Phi Ptr (v 51 ∷ v 20 ∷ v 51 ∷ []) (b 4 ∷ b 1 ∷ b 4 ∷ []) []
      ∷ i (Some (codes "v9")) Phi Ptr (v 51 ∷ v 21 ∷ v 51 ∷ []) (b 4 ∷ b 1 ∷ b 4 ∷ []) []
      ∷ i (Some (codes "v10")) Phi (I 1) (Literal 0 ∷ Literal 0 ∷ Literal 1 ∷ []) (b 4 ∷ b 4 ∷ b 1 ∷ []) []
      ∷ i (Some (codes "sp.b1")) Phi Ptr (v 51 ∷ v 20 ∷ v 51 ∷ []) (b 4 ∷ b 1 ∷ b 4 ∷ []) []
      ∷ i (Some (codes "v11")) Phi Ptr (v 53 ∷ v 21 ∷ v 53 ∷ []) (b 4 ∷ b 1 ∷ b 4 ∷ []) []
      ∷ i (Some (codes "v12")) (Gep (EInt 8) 64 None) Ptr (v 22 ∷ Literal 8 ∷ []) [] []
      ∷ i (Some (codes "v13")) (Gep (Layout 0) 64 (Some 0)) Ptr (v 23 ∷ Literal 0 ∷ []) [] []
      ∷ i None CondBr (I 1) (v 9 ∷ []) (b 4 ∷ b 4 ∷ []) []
      ∷ [])
      ∷ block (codes "b1") (
      i (Some (codes "sp.m2")) Phi Ptr (v 6 ∷ v 38 ∷ []) (b 0 ∷ b 3 ∷ []) []
      ∷ i (Some (codes "sp.m3")) Phi Ptr (v 5 ∷ v 39 ∷ []) (b 0 ∷ b 3 ∷ []) []
      ∷ i (Some (codes "sp.m4")) Phi Ptr (v 7 ∷ v 40 ∷ []) (b 0 ∷ b 3 ∷ []) []
      ∷ i (Some (codes "v5")) (Gep (EInt 8) 64 None) Ptr (v 31 ∷ Literal 0 ∷ []) [] []
      ∷ i None (Call Check (Ptr ∷ Ptr ∷ (I 64) ∷ [])) Void (v 31 ∷ v 34 ∷ Literal 0 ∷ []) [] []
      ∷ i (Some (codes "v6")) Load (I 64) (v 34 ∷ []) [] []
      ∷ i None (Call Print ((I 64) ∷ [])) Void (v 35 ∷ []) [] []
      ∷ i None (Call Check (Ptr ∷ Ptr ∷ (I 64) ∷ [])) Void (v 31 ∷ v 31 ∷ Literal 0 ∷ []) [] []
      ∷ i None Store (I 64) (v 0 ∷ v 31 ∷ []) [] []
      ∷ i None (Call Check (Ptr ∷ Ptr ∷ (I 64) ∷ [])) Void (v 32 ∷ v 32 ∷ Literal 0 ∷ []) [] []
      ∷ i None Store (I 64) (v 8 ∷ v 32 ∷ []) [] []
      ∷ i (Some (codes "v7")) (Icmp Ne) (I 64) (v 8 ∷ v 8 ∷ []) [] []
      ∷ i (Some (codes "sp.t4")) (Statepoint 2882400000 Poll []) Void (v 31 ∷ v 32 ∷ v 33 ∷ []) [] []
      ∷ i (Some (codes "sp.r6")) GcRelocate Ptr (v 37 ∷ Literal 0 ∷ Literal 0 ∷ []) [] []
      ∷ i (Some (codes "sp.r7")) GcRelocate Ptr (v 37 ∷ Literal 1 ∷ Literal 1 ∷ []) [] []
      ∷ i (Some (codes "sp.r8")) GcRelocate Ptr (v 37 ∷ Literal 1 ∷ Literal 2 ∷ []) [] []
      ∷ i None Switch (I 64) (v 0 ∷ Literal 0 ∷ []) (b 4 ∷ b 3 ∷ []) []
      ∷ [])
      ∷ block (codes "b2") (
      i (Some (codes "sp.m5")) Phi Ptr (v 22 ∷ v 22 ∷ v 39 ∷ []) (b 2 ∷ b 2 ∷ b 3 ∷ []) []
      ∷ i (Some (codes "sp.m6")) Phi Ptr (v 23 ∷ v 23 ∷ v 40 ∷ []) (b 2 ∷ b 2 ∷ b 3 ∷ []) []
      ∷ i (Some (codes "sp.t5")) (Statepoint 2882400000 (Fun (fn 3)) ((I 1) ∷ Ptr ∷ Ptr ∷ [])) Void (v 9 ∷ v 41 ∷ v 41 ∷ v 41 ∷ v 42 ∷ []) [] ((Ptr, Null) ∷ ((I 64), v 8) ∷ ((I 64), v 8) ∷ [])
      ∷ i (Some (codes "sp.r9")) GcRelocate Ptr (v 43 ∷ Literal 0 ∷ Literal 0 ∷ []) [] []
      ∷ i (Some (codes "sp.r10")) GcRelocate Ptr (v 43 ∷ Literal 0 ∷ Literal 1 ∷ []) [] []
      ∷ i None (Call Check (Ptr ∷ Ptr ∷ (I 64) ∷ [])) Void (v 44 ∷ v 45 ∷ Literal 1 ∷ []) [] []
      ∷ i None Store Ptr (Null ∷ v 45 ∷ []) [] []
      ∷ i (Some (codes "sp.t6")) (Statepoint 2882400000 (Fun (fn 3)) ((I 1) ∷ Ptr ∷ Ptr ∷ [])) Void (v 9 ∷ v 44 ∷ v 44 ∷ v 44 ∷ v 45 ∷ []) [] (((I 8), Literal 255) ∷ ((I 32), Literal 255) ∷ [])
      ∷ i (Some (codes "sp.r11")) GcRelocate Ptr (v 46 ∷ Literal 0 ∷ Literal 0 ∷ []) [] []
      ∷ i (Some (codes "sp.r12")) GcRelocate Ptr (v 46 ∷ Literal 0 ∷ Literal 1 ∷ []) [] []
      ∷ i (Some (codes "v8")) (Gep (Layout 0) 64 (Some 0)) Ptr (v 47 ∷ Literal 1 ∷ []) [] []
      ∷ i (Some (codes "sp.t7")) (Statepoint 2882400000 Poll []) Void (v 47 ∷ v 48 ∷ v 49 ∷ []) [] []
      ∷ i (Some (codes "sp.r13")) GcRelocate Ptr (v 50 ∷ Literal 0 ∷ Literal 0 ∷ []) [] []
      ∷ i (Some (codes "sp.r14")) GcRelocate Ptr (v 50 ∷ Literal 0 ∷ Literal 1 ∷ []) [] []
      ∷ i (Some (codes "sp.r15")) GcRelocate Ptr (v 50 ∷ Literal 0 ∷ Literal 2 ∷ []) [] []
      ∷ i None CondBr (I 1) (Literal 1 ∷ []) (b 2 ∷ b 2 ∷ []) []
      ∷ [])
      ∷ [];
}

r6_2_is : rewritten r6_2_before r6_2_bases ≡ r6_2_after
unfolding digits
r6_2_is = refl

abbrev r7_1_before : Function
r7_1_before = record {
  name = codes "w0";
  answer = Void;
  args = (record { name = codes "a0"; ty = Ptr } ∷ []);
  blocks =
      block (codes "b0") (
      i None (Call Poll []) Void [] [] []
      ∷ i (Some (codes "v1")) (Call (New 1) ((I 64) ∷ [])) Ptr (Literal 2 ∷ []) [] []
      ∷ i (Some (codes "v2")) (Call (New 0) ((I 64) ∷ [])) Ptr (Literal 3 ∷ []) [] []
      ∷ i None Switch (I 64) (Literal 2 ∷ Literal 0 ∷ Literal 1 ∷ []) (b 1 ∷ b 3 ∷ b 6 ∷ []) []
      ∷ [])
      ∷ block (codes "b1") (
      i (Some (codes "v3")) Phi Ptr (Null ∷ []) (b 0 ∷ []) []
      ∷ i (Some (codes "v4")) Phi Ptr (v 1 ∷ []) (b 0 ∷ []) []
      ∷ i (Some (codes "v5")) Phi (I 1) (Literal 0 ∷ []) (b 0 ∷ []) []
      ∷ i (Some (codes "v6")) (Gep (Layout 1) 64 (Some 0)) Ptr (v 1 ∷ Literal 0 ∷ []) [] []
      ∷ i None (Call (Fun (fn 0)) (Ptr ∷ [])) Void (v 2 ∷ []) [] []
      ∷ i None Br Void [] (b 5 ∷ []) []
      ∷ [])
      ∷ block (codes "b4") (
      i (Some (codes "v18")) Phi Ptr (v 1 ∷ []) (b 6 ∷ []) []
      ∷ i (Some (codes "v19")) Phi (I 32) (Literal 3 ∷ []) (b 6 ∷ []) []
      ∷ i None Ret Void [] [] []
      ∷ [])
      ∷ block (codes "b5") (
      i None (Call TaskStart (Void ∷ Ptr ∷ [])) Void (Named (fn 0) ∷ v 0 ∷ []) [] []
      ∷ i None (Call Print ((I 64) ∷ [])) Void (Literal 18446744073709551615 ∷ []) [] []
      ∷ i (Some (codes "v13")) (Gep (Layout 1) 64 (Some 0)) Ptr (v 1 ∷ Literal 0 ∷ []) [] []
      ∷ i (Some (codes "sp.b0")) Select Ptr (Literal 0 ∷ v 1 ∷ v 1 ∷ []) [] []
      ∷ i (Some (codes "v14")) Select Ptr (Literal 0 ∷ v 1 ∷ v 9 ∷ []) [] []
      ∷ i None (Call Poll []) Void [] [] []
      ∷ i None Switch (I 8) (Literal 0 ∷ Literal 0 ∷ Literal 1 ∷ []) (b 4 ∷ b 3 ∷ b 4 ∷ []) []
      ∷ [])
      ∷ block (codes "b6") (
      i (Some (codes "v20")) (Call Read []) (I 64) [] [] []
      ∷ i (Some (codes "v21")) (Trunc 1) (I 64) (v 12 ∷ []) [] []
      ∷ i None (Call (Fun (fn 0)) (Ptr ∷ [])) Void (v 2 ∷ []) [] []
      ∷ i None (Call Print ((I 64) ∷ [])) Void (v 12 ∷ []) [] []
      ∷ i None Ret Void [] [] []
      ∷ [])
      ∷ block (codes "b3") (
      i (Some (codes "v15")) Phi (I 64) (Literal 18446744073709551613 ∷ []) (b 1 ∷ []) []
      ∷ i (Some (codes "v16")) (Call (New 1) ((I 64) ∷ [])) Ptr (Literal 3 ∷ []) [] []
      ∷ i (Some (codes "v17")) (Call (New 0) ((I 64) ∷ [])) Ptr (Literal 3 ∷ []) [] []
      ∷ i None (Call Poll []) Void [] [] []
      ∷ i None Br Void [] (b 3 ∷ []) []
      ∷ [])
      ∷ block (codes "b2") (
      i (Some (codes "v7")) Phi Ptr (v 1 ∷ []) (b 0 ∷ []) []
      ∷ i (Some (codes "v8")) Phi Ptr (v 0 ∷ []) (b 0 ∷ []) []
      ∷ i (Some (codes "v9")) (Icmp Ne) Ptr (v 18 ∷ v 17 ∷ []) [] []
      ∷ i (Some (codes "v10")) (Gep (Layout 1) 64 (Some 0)) Ptr (v 1 ∷ Literal 0 ∷ []) [] []
      ∷ i (Some (codes "v11")) (Call (New 0) ((I 64) ∷ [])) Ptr (Literal 0 ∷ []) [] ((Ptr, Null) ∷ (Ptr, v 20) ∷ ((I 64), Literal 8) ∷ ((I 1), v 19) ∷ [])
      ∷ i (Some (codes "v12")) Sub (I 1) (v 19 ∷ v 19 ∷ []) [] []
      ∷ i None (Call Poll []) Void [] [] []
      ∷ i None Br Void [] (b 2 ∷ []) []
      ∷ [])
      ∷ [];
}

abbrev r7_1_bases : List Operand
r7_1_bases = (v 0 ∷ v 1 ∷ v 2 ∷ v 3 ∷ v 4 ∷ v 5 ∷ v 1 ∷ v 7 ∷ v 8 ∷ v 1 ∷ v 10 ∷ v 10 ∷ v 12 ∷ v 13 ∷ v 14 ∷ v 15 ∷ v 16 ∷ v 17 ∷ v 18 ∷ v 19 ∷ v 1 ∷ v 21 ∷ v 22 ∷ [])

abbrev r7_1_after : Function
r7_1_after = record {
  name = codes "w0";
  answer = Void;
  args = (record { name = codes "a0"; ty = Ptr } ∷ []);
  blocks =
      block (codes "b0") (
      i (Some (codes "sp.t0")) (Statepoint 2882400000 Poll []) Void (v 0 ∷ []) [] []
      ∷ i (Some (codes "sp.r0")) GcRelocate Ptr (v 1 ∷ Literal 0 ∷ Literal 0 ∷ []) [] []
      ∷ i (Some (codes "sp.t1")) (Statepoint 2882400000 (New 1) ((I 64) ∷ [])) Ptr (Literal 2 ∷ v 2 ∷ []) [] []
      ∷ i (Some (codes "v1")) GcResult Ptr (v 3 ∷ []) [] []
      ∷ i (Some (codes "sp.r1")) GcRelocate Ptr (v 3 ∷ Literal 0 ∷ Literal 0 ∷ []) [] []
      ∷ i (Some (codes "sp.t2")) (Statepoint 2882400000 (New 0) ((I 64) ∷ [])) Ptr (Literal 3 ∷ v 5 ∷ v 4 ∷ []) [] []
      ∷ i (Some (codes "v2")) GcResult Ptr (v 6 ∷ []) [] []
      ∷ i (Some (codes "sp.r2")) GcRelocate Ptr (v 6 ∷ Literal 0 ∷ Literal 0 ∷ []) [] []
      ∷ i (Some (codes "sp.r3")) GcRelocate Ptr (v 6 ∷ Literal 1 ∷ Literal 1 ∷ []) [] []
      ∷ i None Switch (I 64) (Literal 2 ∷ Literal 0 ∷ Literal 1 ∷ []) (b 1 ∷ b 3 ∷ b 6 ∷ []) []
      ∷ [])
      ∷ block (codes "b1") (
      i (Some (codes "v3")) Phi Ptr (Null ∷ []) (b 0 ∷ []) []
      ∷ i (Some (codes "v4")) Phi Ptr (v 9 ∷ []) (b 0 ∷ []) []
      ∷ i (Some (codes "v5")) Phi (I 1) (Literal 0 ∷ []) (b 0 ∷ []) []
      ∷ i (Some (codes "v6")) (Gep (Layout 1) 64 (Some 0)) Ptr (v 9 ∷ Literal 0 ∷ []) [] []
      ∷ i (Some (codes "sp.t3")) (Statepoint 2882400000 (Fun (fn 0)) (Ptr ∷ [])) Void (v 7 ∷ v 8 ∷ v 9 ∷ v 7 ∷ []) [] []
      ∷ i (Some (codes "sp.r4")) GcRelocate Ptr (v 14 ∷ Literal 0 ∷ Literal 0 ∷ []) [] []
      ∷ i (Some (codes "sp.r5")) GcRelocate Ptr (v 14 ∷ Literal 1 ∷ Literal 1 ∷ []) [] []
      ∷ i (Some (codes "sp.r6")) GcRelocate Ptr (v 14 ∷ Literal 2 ∷ Literal 2 ∷ []) [] []
      ∷ i None Br Void [] (b 5 ∷ []) []
      ∷ [])
      ∷ block (codes "b4") (
      i (Some (codes "v18")) Phi Ptr (v 62 ∷ []) (b 6 ∷ []) []
      ∷ i (Some (codes "v19")) Phi (I 32) (Literal 3 ∷ []) (b 6 ∷ []) []
      ∷ i None Ret Void [] [] []
      ∷ [])
      ∷ block (codes "b5") (
      i (Some (codes "sp.m0")) Phi Ptr (v 8 ∷ v 31 ∷ v 49 ∷ []) (b 0 ∷ b 3 ∷ b 5 ∷ []) []
      ∷ i (Some (codes "sp.m1")) Phi Ptr (v 9 ∷ v 32 ∷ v 50 ∷ []) (b 0 ∷ b 3 ∷ b 5 ∷ []) []
      ∷ i (Some (codes "sp.m2")) Phi Ptr (v 7 ∷ v 33 ∷ v 51 ∷ []) (b 0 ∷ b 3 ∷ b 5 ∷ []) []
      ∷ i (Some (codes "sp.t4")) (Statepoint 2882400000 TaskStart (Void ∷ Ptr ∷ [])) Void (Named (fn 0) ∷ v 20 ∷ v 20 ∷ v 21 ∷ v 22 ∷ []) [] []
      ∷ i (Some (codes "sp.r7")) GcRelocate Ptr (v 23 ∷ Literal 0 ∷ Literal 0 ∷ []) [] []
      ∷ i (Some (codes "sp.r8")) GcRelocate Ptr (v 23 ∷ Literal 1 ∷ Literal 1 ∷ []) [] []
      ∷ i (Some (codes "sp.r9")) GcRelocate Ptr (v 23 ∷ Literal 2 ∷ Literal 2 ∷ []) [] []
      ∷ i None (Call Print ((I 64) ∷ [])) Void (Literal 18446744073709551615 ∷ []) [] []
      ∷ i (Some (codes "v13")) (Gep (Layout 1) 64 (Some 0)) Ptr (v 25 ∷ Literal 0 ∷ []) [] []
      ∷ i (Some (codes "sp.b0")) Select Ptr (Literal 0 ∷ v 25 ∷ v 25 ∷ []) [] []
      ∷ i (Some (codes "v14")) Select Ptr (Literal 0 ∷ v 25 ∷ v 27 ∷ []) [] []
      ∷ i (Some (codes "sp.t5")) (Statepoint 2882400000 Poll []) Void (v 24 ∷ v 25 ∷ v 26 ∷ []) [] []
      ∷ i (Some (codes "sp.r10")) GcRelocate Ptr (v 30 ∷ Literal 0 ∷ Literal 0 ∷ []) [] []
      ∷ i (Some (codes "sp.r11")) GcRelocate Ptr (v 30 ∷ Literal 1 ∷ Literal 1 ∷ []) [] []
      ∷ i (Some (codes "sp.r12")) GcRelocate Ptr (v 30 ∷ Literal 2 ∷ Literal 2 ∷ []) [] []
      ∷ i None Switch (I 8) (Literal 0 ∷ Literal 0 ∷ Literal 1 ∷ []) (b 4 ∷ b 3 ∷ b 4 ∷ []) []
      ∷ [])
      ∷ block (codes "b6") (
      i (Some (codes "v20")) (Call Read []) (I 64) [] [] []
      ∷ i (Some (codes "v21")) (Trunc 1) (I 64) (v 34 ∷ []) [] []
      ∷ i (Some (codes "sp.t6")) (Statepoint 2882400000 (Fun (fn 0)) (Ptr ∷ [])) Void (v 33 ∷ []) [] []
      ∷ i None (Call Print ((I 64) ∷ [])) Void (v 34 ∷ []) [] []
      ∷ i None Ret Void [] [] []
      ∷ [])
      ∷ block (codes "b3") (
      i (Some (codes "v15")) Phi (I 64) (Literal 18446744073709551613 ∷ []) (b 1 ∷ []) []
      ∷ i (Some (codes "sp.t7")) (Statepoint 2882400000 (New 1) ((I 64) ∷ [])) Ptr (Literal 3 ∷ v 15 ∷ v 16 ∷ v 17 ∷ []) [] []
      ∷ i (Some (codes "v16")) GcResult Ptr (v 38 ∷ []) [] []
      ∷ i (Some (codes "sp.r13")) GcRelocate Ptr (v 38 ∷ Literal 0 ∷ Literal 0 ∷ []) [] []
      ∷ i (Some (codes "sp.r14")) GcRelocate Ptr (v 38 ∷ Literal 1 ∷ Literal 1 ∷ []) [] []
      ∷ i (Some (codes "sp.r15")) GcRelocate Ptr (v 38 ∷ Literal 2 ∷ Literal 2 ∷ []) [] []
      ∷ i (Some (codes "sp.t8")) (Statepoint 2882400000 (New 0) ((I 64) ∷ [])) Ptr (Literal 3 ∷ v 40 ∷ v 41 ∷ v 42 ∷ []) [] []
      ∷ i (Some (codes "v17")) GcResult Ptr (v 43 ∷ []) [] []
      ∷ i (Some (codes "sp.r16")) GcRelocate Ptr (v 43 ∷ Literal 0 ∷ Literal 0 ∷ []) [] []
      ∷ i (Some (codes "sp.r17")) GcRelocate Ptr (v 43 ∷ Literal 1 ∷ Literal 1 ∷ []) [] []
      ∷ i (Some (codes "sp.r18")) GcRelocate Ptr (v 43 ∷ Literal 2 ∷ Literal 2 ∷ []) [] []
      ∷ i (Some (codes "sp.t9")) (Statepoint 2882400000 Poll []) Void (v 45 ∷ v 46 ∷ v 47 ∷ []) [] []
      ∷ i (Some (codes "sp.r19")) GcRelocate Ptr (v 48 ∷ Literal 0 ∷ Literal 0 ∷ []) [] []
      ∷ i (Some (codes "sp.r20")) GcRelocate Ptr (v 48 ∷ Literal 1 ∷ Literal 1 ∷ []) [] []
      ∷ i (Some (codes "sp.r21")) GcRelocate Ptr (v 48 ∷ Literal 2 ∷ Literal 2 ∷ []) [] []
      ∷ i None Br Void [] (b 3 ∷ []) []
      ∷ [])
      ∷ block (codes "b2") (
      i (Some (codes "v7")) Phi Ptr (v 9 ∷ []) (b 0 ∷ []) []
      ∷ i (Some (codes "v8")) Phi Ptr (v 8 ∷ []) (b 0 ∷ []) []
      ∷ i (Some (codes "v9")) (Icmp Ne) Ptr (v 53 ∷ v 52 ∷ []) [] []
      ∷ i (Some (codes "v10")) (Gep (Layout 1) 64 (Some 0)) Ptr (v 9 ∷ Literal 0 ∷ []) [] []
      ∷ i (Some (codes "sp.t10")) (Statepoint 2882400000 (New 0) ((I 64) ∷ [])) Ptr (Literal 0 ∷ v 9 ∷ v 55 ∷ []) [] ((Ptr, Null) ∷ (Ptr, v 55) ∷ ((I 64), Literal 8) ∷ ((I 1), v 54) ∷ [])
      ∷ i (Some (codes "v11")) GcResult Ptr (v 56 ∷ []) [] []
      ∷ i (Some (codes "sp.r22")) GcRelocate Ptr (v 56 ∷ Literal 0 ∷ Literal 0 ∷ []) [] []
      ∷ i (Some (codes "sp.r23")) GcRelocate Ptr (v 56 ∷ Literal 0 ∷ Literal 1 ∷ []) [] []
      ∷ i (Some (codes "v12")) Sub (I 1) (v 54 ∷ v 54 ∷ []) [] []
      ∷ i (Some (codes "sp.t11")) (Statepoint 2882400000 Poll []) Void (v 58 ∷ []) [] []
      ∷ i (Some (codes "sp.r24")) GcRelocate Ptr (v 61 ∷ Literal 0 ∷ Literal 0 ∷ []) [] []
      ∷ i None Br Void [] (b 2 ∷ []) []
      ∷ [])
      ∷ [];
}

r7_1_is : rewritten r7_1_before r7_1_bases ≡ r7_1_after
unfolding digits
r7_1_is = refl

abbrev r8_0_before : Function
r8_0_before = record {
  name = codes "main";
  answer = (I 32);
  args = [];
  blocks =
      block (codes "b0") (
      i None (Call Poll []) Void [] [] []
      ∷ i (Some (codes "v1")) (Call (New 0) ((I 64) ∷ [])) Ptr (Literal 3 ∷ []) [] []
      ∷ i (Some (codes "v2")) (Call (New 1) ((I 64) ∷ [])) Ptr (Literal 2 ∷ []) [] []
      ∷ i (Some (codes "v3")) (Call (New 1) ((I 64) ∷ [])) Ptr (Literal 3 ∷ []) [] []
      ∷ i (Some (codes "v4")) Mul (I 1) (Literal 1 ∷ Literal 1 ∷ []) [] []
      ∷ i None (Call Check (Ptr ∷ Ptr ∷ (I 64) ∷ [])) Void (v 0 ∷ v 0 ∷ Literal 0 ∷ []) [] []
      ∷ i (Some (codes "v5")) Load (I 64) (v 0 ∷ []) [] []
      ∷ i None (Call Check (Ptr ∷ Ptr ∷ (I 64) ∷ [])) Void (v 0 ∷ v 0 ∷ Literal 0 ∷ []) [] []
      ∷ i (Some (codes "v6")) Load (I 64) (v 0 ∷ []) [] []
      ∷ i None (Call Print ((I 64) ∷ [])) Void (Literal 255 ∷ []) [] []
      ∷ i (Some (codes "v7")) (Gep (EInt 8) 8 None) Ptr (v 1 ∷ Literal 24 ∷ []) [] []
      ∷ i None (Call Check (Ptr ∷ Ptr ∷ (I 64) ∷ [])) Void (v 1 ∷ v 6 ∷ Literal 0 ∷ []) [] []
      ∷ i (Some (codes "v8")) Load (I 64) (v 6 ∷ []) [] []
      ∷ i None CondBr (I 1) (v 3 ∷ []) (b 6 ∷ b 3 ∷ []) []
      ∷ [])
      ∷ block (codes "b6") (
      i (Some (codes "v25")) Phi (I 1) (v 19 ∷ v 3 ∷ Literal 1 ∷ v 3 ∷ v 3 ∷ []) (b 2 ∷ b 4 ∷ b 1 ∷ b 6 ∷ b 6 ∷ []) []
      ∷ i None (Call Check (Ptr ∷ Ptr ∷ (I 64) ∷ [])) Void (v 1 ∷ v 6 ∷ Literal 0 ∷ []) [] []
      ∷ i None Store (I 64) (v 4 ∷ v 6 ∷ []) [] []
      ∷ i (Some (codes "v26")) (Call Read []) (I 64) [] [] []
      ∷ i (Some (codes "v27")) (Trunc 1) (I 64) (v 9 ∷ []) [] []
      ∷ i None (Call Poll []) Void [] [] []
      ∷ i None Switch (I 8) (Literal 255 ∷ Literal 0 ∷ Literal 1 ∷ []) (b 2 ∷ b 5 ∷ b 1 ∷ []) []
      ∷ [])
      ∷ block (codes "b3") (
      i (Some (codes "v13")) Select Ptr (Literal 1 ∷ v 0 ∷ Null ∷ []) [] []
      ∷ i (Some (codes "v14")) (Gep (Layout 0) 64 (Some 1)) Ptr (v 0 ∷ Literal 0 ∷ []) [] []
      ∷ i (Some (codes "v15")) (Gep (EInt 8) 64 None) Ptr (v 6 ∷ Literal 18446744073709551592 ∷ []) [] []
      ∷ i None (Call Check (Ptr ∷ Ptr ∷ (I 64) ∷ [])) Void (v 1 ∷ v 13 ∷ Literal 0 ∷ []) [] []
      ∷ i (Some (codes "v16")) Load (I 64) (v 13 ∷ []) [] []
      ∷ i None (Call Print ((I 64) ∷ [])) Void (v 14 ∷ []) [] []
      ∷ i (Some (codes "v17")) (Call Same (Ptr ∷ Ptr ∷ Ptr ∷ Ptr ∷ [])) (I 1) (Null ∷ Null ∷ v 0 ∷ v 12 ∷ []) [] []
      ∷ i (Some (codes "v18")) (Zext 64) (I 1) (v 15 ∷ []) [] []
      ∷ i None (Call Print ((I 64) ∷ [])) Void (v 16 ∷ []) [] []
      ∷ i (Some (codes "v19")) Select (I 64) (v 3 ∷ v 4 ∷ v 7 ∷ []) [] []
      ∷ i (Some (codes "sp.s0")) (Call Same (Ptr ∷ Ptr ∷ Ptr ∷ Ptr ∷ [])) (I 1) (v 0 ∷ v 12 ∷ v 2 ∷ v 2 ∷ []) [] []
      ∷ i (Some (codes "v20")) Xor (I 1) (v 18 ∷ Literal 1 ∷ []) [] []
      ∷ i (Some (codes "v21")) (Zext 64) (I 1) (v 19 ∷ []) [] []
      ∷ i None (Call Print ((I 64) ∷ [])) Void (v 20 ∷ []) [] []
      ∷ i None (Call Poll []) Void [] [] []
      ∷ i None Br Void [] (b 1 ∷ []) []
      ∷ [])
      ∷ block (codes "b1") (
      i (Some (codes "v9")) Phi (I 64) (v 5 ∷ v 5 ∷ []) (b 0 ∷ b 6 ∷ []) []
      ∷ i (Some (codes "v10")) Phi Ptr (v 2 ∷ v 2 ∷ []) (b 6 ∷ b 0 ∷ []) []
      ∷ i (Some (codes "v11")) Phi (I 1) (v 3 ∷ v 3 ∷ []) (b 6 ∷ b 0 ∷ []) []
      ∷ i None (Call Check (Ptr ∷ Ptr ∷ (I 64) ∷ [])) Void (v 1 ∷ v 6 ∷ Literal 0 ∷ []) [] []
      ∷ i (Some (codes "v12")) Load (I 64) (v 6 ∷ []) [] []
      ∷ i None (Call Poll []) Void [] [] []
      ∷ i None Switch (I 32) (Literal 4294967288 ∷ Literal 0 ∷ Literal 1 ∷ []) (b 2 ∷ b 2 ∷ b 4 ∷ []) []
      ∷ [])
      ∷ block (codes "b4") (
      i (Some (codes "v28")) Phi Ptr (v 1 ∷ []) (b 3 ∷ []) []
      ∷ i None (Call Poll []) Void [] [] []
      ∷ i None CondBr (I 1) (v 3 ∷ []) (b 1 ∷ b 5 ∷ []) []
      ∷ [])
      ∷ block (codes "b5") (
      i (Some (codes "v22")) Phi (I 1) (Literal 1 ∷ v 8 ∷ v 3 ∷ []) (b 4 ∷ b 1 ∷ b 6 ∷ []) []
      ∷ i (Some (codes "v23")) (Gep (Layout 1) 64 (Some 1)) Ptr (v 1 ∷ Literal 0 ∷ []) [] []
      ∷ i (Some (codes "v24")) (Gep (Layout 0) 64 (Some 1)) Ptr (v 0 ∷ Literal 1 ∷ []) [] []
      ∷ i None (Call Poll []) Void [] [] []
      ∷ i None Br Void [] (b 2 ∷ []) []
      ∷ [])
      ∷ block (codes "b2") (
      i None (Call Poll []) Void [] [] []
      ∷ i None Switch (I 8) (Literal 255 ∷ Literal 0 ∷ Literal 1 ∷ Literal 2 ∷ []) (b 1 ∷ b 5 ∷ b 1 ∷ b 3 ∷ []) []
      ∷ [])
      ∷ [];
}

abbrev r8_0_bases : List Operand
r8_0_bases = (v 0 ∷ v 1 ∷ v 2 ∷ v 3 ∷ v 4 ∷ v 5 ∷ v 1 ∷ v 7 ∷ v 8 ∷ v 9 ∷ v 10 ∷ v 11 ∷ v 0 ∷ v 1 ∷ v 14 ∷ v 15 ∷ v 16 ∷ v 17 ∷ v 18 ∷ v 19 ∷ v 20 ∷ v 21 ∷ v 22 ∷ v 23 ∷ v 24 ∷ v 25 ∷ v 26 ∷ v 1 ∷ v 0 ∷ [])

abbrev r8_0_after : Function
r8_0_after = record {
  name = codes "main";
  answer = (I 32);
  args = [];
  blocks =
      block (codes "b0") (
      i (Some (codes "sp.t0")) (Statepoint 2882400000 Poll []) Void [] [] []
      ∷ i (Some (codes "sp.t1")) (Statepoint 2882400000 (New 0) ((I 64) ∷ [])) Ptr (Literal 3 ∷ []) [] []
      ∷ i (Some (codes "v1")) GcResult Ptr (v 1 ∷ []) [] []
      ∷ i (Some (codes "sp.t2")) (Statepoint 2882400000 (New 1) ((I 64) ∷ [])) Ptr (Literal 2 ∷ v 2 ∷ []) [] []
      ∷ i (Some (codes "v2")) GcResult Ptr (v 3 ∷ []) [] []
      ∷ i (Some (codes "sp.r0")) GcRelocate Ptr (v 3 ∷ Literal 0 ∷ Literal 0 ∷ []) [] []
      ∷ i (Some (codes "sp.t3")) (Statepoint 2882400000 (New 1) ((I 64) ∷ [])) Ptr (Literal 3 ∷ v 5 ∷ v 4 ∷ []) [] []
      ∷ i (Some (codes "v3")) GcResult Ptr (v 6 ∷ []) [] []
      ∷ i (Some (codes "sp.r1")) GcRelocate Ptr (v 6 ∷ Literal 0 ∷ Literal 0 ∷ []) [] []
      ∷ i (Some (codes "sp.r2")) GcRelocate Ptr (v 6 ∷ Literal 1 ∷ Literal 1 ∷ []) [] []
      ∷ i (Some (codes "v4")) Mul (I 1) (Literal 1 ∷ Literal 1 ∷ []) [] []
      ∷ i None (Call Check (Ptr ∷ Ptr ∷ (I 64) ∷ [])) Void (v 8 ∷ v 8 ∷ Literal 0 ∷ []) [] []
      ∷ i (Some (codes "v5")) Load (I 64) (v 8 ∷ []) [] []
      ∷ i None (Call Check (Ptr ∷ Ptr ∷ (I 64) ∷ [])) Void (v 8 ∷ v 8 ∷ Literal 0 ∷ []) [] []
      ∷ i (Some (codes "v6")) Load (I 64) (v 8 ∷ []) [] []
      ∷ i None (Call Print ((I 64) ∷ [])) Void (Literal 255 ∷ []) [] []
      ∷ i (Some (codes "v7")) (Gep (EInt 8) 8 None) Ptr (v 9 ∷ Literal 24 ∷ []) [] []
      ∷ i None (Call Check (Ptr ∷ Ptr ∷ (I 64) ∷ [])) Void (v 9 ∷ v 13 ∷ Literal 0 ∷ []) [] []
      ∷ i (Some (codes "v8")) Load (I 64) (v 13 ∷ []) [] []
      ∷ i None CondBr (I 1) (v 10 ∷ []) (b 6 ∷ b 3 ∷ []) []
      ∷ [])
      ∷ block (codes "b6") (
      i (Some (codes "sp.m0")) Phi Ptr (v 23 ∷ v 42 ∷ v 61 ∷ v 78 ∷ v 78 ∷ []) (b 1 ∷ b 2 ∷ b 4 ∷ b 6 ∷ b 6 ∷ []) []
      ∷ i (Some (codes "sp.m1")) Phi Ptr (v 24 ∷ v 43 ∷ v 62 ∷ v 79 ∷ v 79 ∷ []) (b 1 ∷ b 2 ∷ b 4 ∷ b 6 ∷ b 6 ∷ []) []
      ∷ i (Some (codes "sp.m2")) Phi Ptr (v 25 ∷ v 44 ∷ v 63 ∷ v 80 ∷ v 80 ∷ []) (b 1 ∷ b 2 ∷ b 4 ∷ b 6 ∷ b 6 ∷ []) []
      ∷ i (Some (codes "sp.m3")) Phi Ptr (v 26 ∷ v 45 ∷ v 64 ∷ v 81 ∷ v 81 ∷ []) (b 1 ∷ b 2 ∷ b 4 ∷ b 6 ∷ b 6 ∷ []) []
      ∷ i (Some (codes "v25")) Phi (I 1) (v 39 ∷ v 10 ∷ Literal 1 ∷ v 10 ∷ v 10 ∷ []) (b 2 ∷ b 4 ∷ b 1 ∷ b 6 ∷ b 6 ∷ []) []
      ∷ i None (Call Check (Ptr ∷ Ptr ∷ (I 64) ∷ [])) Void (v 16 ∷ v 18 ∷ Literal 0 ∷ []) [] []
      ∷ i None Store (I 64) (v 11 ∷ v 18 ∷ []) [] []
      ∷ i (Some (codes "v26")) (Call Read []) (I 64) [] [] []
      ∷ i (Some (codes "v27")) (Trunc 1) (I 64) (v 20 ∷ []) [] []
      ∷ i (Some (codes "sp.t4")) (Statepoint 2882400000 Poll []) Void (v 15 ∷ v 16 ∷ v 17 ∷ v 18 ∷ []) [] []
      ∷ i (Some (codes "sp.r3")) GcRelocate Ptr (v 22 ∷ Literal 0 ∷ Literal 0 ∷ []) [] []
      ∷ i (Some (codes "sp.r4")) GcRelocate Ptr (v 22 ∷ Literal 1 ∷ Literal 1 ∷ []) [] []
      ∷ i (Some (codes "sp.r5")) GcRelocate Ptr (v 22 ∷ Literal 2 ∷ Literal 2 ∷ []) [] []
      ∷ i (Some (codes "sp.r6")) GcRelocate Ptr (v 22 ∷ Literal 1 ∷ Literal 3 ∷ []) [] []
      ∷ i None Switch (I 8) (Literal 255 ∷ Literal 0 ∷ Literal 1 ∷ []) (b 2 ∷ b 5 ∷ b 1 ∷ []) []
      ∷ [])
      ∷ block (codes "b3") (
      i (Some (codes "sp.m4")) Phi Ptr (v 23 ∷ v 55 ∷ v 55 ∷ v 73 ∷ []) (b 1 ∷ b 3 ∷ b 3 ∷ b 5 ∷ []) []
      ∷ i (Some (codes "sp.m5")) Phi Ptr (v 24 ∷ v 56 ∷ v 56 ∷ v 74 ∷ []) (b 1 ∷ b 3 ∷ b 3 ∷ b 5 ∷ []) []
      ∷ i (Some (codes "sp.m6")) Phi Ptr (v 25 ∷ v 57 ∷ v 57 ∷ v 75 ∷ []) (b 1 ∷ b 3 ∷ b 3 ∷ b 5 ∷ []) []
      ∷ i (Some (codes "sp.m7")) Phi Ptr (v 26 ∷ v 58 ∷ v 58 ∷ v 76 ∷ []) (b 1 ∷ b 3 ∷ b 3 ∷ b 5 ∷ []) []
      ∷ i (Some (codes "v13")) Select Ptr (Literal 1 ∷ v 27 ∷ Null ∷ []) [] []
      ∷ i (Some (codes "v14")) (Gep (Layout 0) 64 (Some 1)) Ptr (v 27 ∷ Literal 0 ∷ []) [] []
      ∷ i (Some (codes "v15")) (Gep (EInt 8) 64 None) Ptr (v 30 ∷ Literal 18446744073709551592 ∷ []) [] []
      ∷ i None (Call Check (Ptr ∷ Ptr ∷ (I 64) ∷ [])) Void (v 28 ∷ v 33 ∷ Literal 0 ∷ []) [] []
      ∷ i (Some (codes "v16")) Load (I 64) (v 33 ∷ []) [] []
      ∷ i None (Call Print ((I 64) ∷ [])) Void (v 34 ∷ []) [] []
      ∷ i (Some (codes "v17")) (Call Same (Ptr ∷ Ptr ∷ Ptr ∷ Ptr ∷ [])) (I 1) (Null ∷ Null ∷ v 27 ∷ v 32 ∷ []) [] []
      ∷ i (Some (codes "v18")) (Zext 64) (I 1) (v 35 ∷ []) [] []
      ∷ i None (Call Print ((I 64) ∷ [])) Void (v 36 ∷ []) [] []
      ∷ i (Some (codes "v19")) Select (I 64) (v 10 ∷ v 11 ∷ v 14 ∷ []) [] []
      ∷ i (Some (codes "sp.s0")) (Call Same (Ptr ∷ Ptr ∷ Ptr ∷ Ptr ∷ [])) (I 1) (v 27 ∷ v 32 ∷ v 29 ∷ v 29 ∷ []) [] []
      ∷ i (Some (codes "v20")) Xor (I 1) (v 38 ∷ Literal 1 ∷ []) [] []
      ∷ i (Some (codes "v21")) (Zext 64) (I 1) (v 39 ∷ []) [] []
      ∷ i None (Call Print ((I 64) ∷ [])) Void (v 40 ∷ []) [] []
      ∷ i (Some (codes "sp.t5")) (Statepoint 2882400000 Poll []) Void (v 27 ∷ v 28 ∷ v 29 ∷ v 30 ∷ []) [] []
      ∷ i (Some (codes "sp.r7")) GcRelocate Ptr (v 41 ∷ Literal 0 ∷ Literal 0 ∷ []) [] []
      ∷ i (Some (codes "sp.r8")) GcRelocate Ptr (v 41 ∷ Literal 1 ∷ Literal 1 ∷ []) [] []
      ∷ i (Some (codes "sp.r9")) GcRelocate Ptr (v 41 ∷ Literal 2 ∷ Literal 2 ∷ []) [] []
      ∷ i (Some (codes "sp.r10")) GcRelocate Ptr (v 41 ∷ Literal 1 ∷ Literal 3 ∷ []) [] []
      ∷ i None Br Void [] (b 1 ∷ []) []
      ∷ [])
      ∷ block (codes "b1") (
      i (Some (codes "sp.m8")) Phi Ptr (v 8 ∷ v 78 ∷ []) (b 0 ∷ b 6 ∷ []) []
      ∷ i (Some (codes "sp.m9")) Phi Ptr (v 9 ∷ v 79 ∷ []) (b 0 ∷ b 6 ∷ []) []
      ∷ i (Some (codes "sp.m10")) Phi Ptr (v 7 ∷ v 80 ∷ []) (b 0 ∷ b 6 ∷ []) []
      ∷ i (Some (codes "sp.m11")) Phi Ptr (v 13 ∷ v 81 ∷ []) (b 0 ∷ b 6 ∷ []) []
      ∷ i (Some (codes "v9")) Phi (I 64) (v 12 ∷ v 12 ∷ []) (b 0 ∷ b 6 ∷ []) []
      ∷ i (Some (codes "v10")) Phi Ptr (v 80 ∷ v 7 ∷ []) (b 6 ∷ b 0 ∷ []) []
      ∷ i (Some (codes "v11")) Phi (I 1) (v 10 ∷ v 10 ∷ []) (b 6 ∷ b 0 ∷ []) []
      ∷ i None (Call Check (Ptr ∷ Ptr ∷ (I 64) ∷ [])) Void (v 47 ∷ v 49 ∷ Literal 0 ∷ []) [] []
      ∷ i (Some (codes "v12")) Load (I 64) (v 49 ∷ []) [] []
      ∷ i (Some (codes "sp.t6")) (Statepoint 2882400000 Poll []) Void (v 46 ∷ v 47 ∷ v 48 ∷ v 49 ∷ []) [] []
      ∷ i (Some (codes "sp.r11")) GcRelocate Ptr (v 54 ∷ Literal 0 ∷ Literal 0 ∷ []) [] []
      ∷ i (Some (codes "sp.r12")) GcRelocate Ptr (v 54 ∷ Literal 1 ∷ Literal 1 ∷ []) [] []
      ∷ i (Some (codes "sp.r13")) GcRelocate Ptr (v 54 ∷ Literal 2 ∷ Literal 2 ∷ []) [] []
      ∷ i (Some (codes "sp.r14")) GcRelocate Ptr (v 54 ∷ Literal 1 ∷ Literal 3 ∷ []) [] []
      ∷ i None Switch (I 32) (Literal 4294967288 ∷ Literal 0 ∷ Literal 1 ∷ []) (b 2 ∷ b 2 ∷ b 4 ∷ []) []
      ∷ [])
      ∷ block (codes "b4") (
      i (Some (codes "v28")) Phi Ptr (v 56 ∷ []) (b 3 ∷ []) []
      ∷ i (Some (codes "sp.t7")) (Statepoint 2882400000 Poll []) Void (v 55 ∷ v 56 ∷ v 57 ∷ v 58 ∷ []) [] []
      ∷ i (Some (codes "sp.r15")) GcRelocate Ptr (v 60 ∷ Literal 0 ∷ Literal 0 ∷ []) [] []
      ∷ i (Some (codes "sp.r16")) GcRelocate Ptr (v 60 ∷ Literal 1 ∷ Literal 1 ∷ []) [] []
      ∷ i (Some (codes "sp.r17")) GcRelocate Ptr (v 60 ∷ Literal 2 ∷ Literal 2 ∷ []) [] []
      ∷ i (Some (codes "sp.r18")) GcRelocate Ptr (v 60 ∷ Literal 1 ∷ Literal 3 ∷ []) [] []
      ∷ i None CondBr (I 1) (v 10 ∷ []) (b 1 ∷ b 5 ∷ []) []
      ∷ [])
      ∷ block (codes "b5") (
      i (Some (codes "sp.m12")) Phi Ptr (v 23 ∷ v 61 ∷ v 78 ∷ []) (b 1 ∷ b 4 ∷ b 6 ∷ []) []
      ∷ i (Some (codes "sp.m13")) Phi Ptr (v 24 ∷ v 62 ∷ v 79 ∷ []) (b 1 ∷ b 4 ∷ b 6 ∷ []) []
      ∷ i (Some (codes "sp.m14")) Phi Ptr (v 25 ∷ v 63 ∷ v 80 ∷ []) (b 1 ∷ b 4 ∷ b 6 ∷ []) []
      ∷ i (Some (codes "sp.m15")) Phi Ptr (v 26 ∷ v 64 ∷ v 81 ∷ []) (b 1 ∷ b 4 ∷ b 6 ∷ []) []
      ∷ i (Some (codes "v22")) Phi (I 1) (Literal 1 ∷ v 19 ∷ v 10 ∷ []) (b 4 ∷ b 1 ∷ b 6 ∷ []) []
      ∷ i (Some (codes "v23")) (Gep (Layout 1) 64 (Some 1)) Ptr (v 66 ∷ Literal 0 ∷ []) [] []
      ∷ i (Some (codes "v24")) (Gep (Layout 0) 64 (Some 1)) Ptr (v 65 ∷ Literal 1 ∷ []) [] []
      ∷ i (Some (codes "sp.t8")) (Statepoint 2882400000 Poll []) Void (v 65 ∷ v 66 ∷ v 67 ∷ v 68 ∷ []) [] []
      ∷ i (Some (codes "sp.r19")) GcRelocate Ptr (v 72 ∷ Literal 0 ∷ Literal 0 ∷ []) [] []
      ∷ i (Some (codes "sp.r20")) GcRelocate Ptr (v 72 ∷ Literal 1 ∷ Literal 1 ∷ []) [] []
      ∷ i (Some (codes "sp.r21")) GcRelocate Ptr (v 72 ∷ Literal 2 ∷ Literal 2 ∷ []) [] []
      ∷ i (Some (codes "sp.r22")) GcRelocate Ptr (v 72 ∷ Literal 1 ∷ Literal 3 ∷ []) [] []
      ∷ i None Br Void [] (b 2 ∷ []) []
      ∷ [])
      ∷ block (codes "b2") (
      i (Some (codes "sp.t9")) (Statepoint 2882400000 Poll []) Void (v 8 ∷ v 9 ∷ v 7 ∷ v 13 ∷ []) [] []
      ∷ i (Some (codes "sp.r23")) GcRelocate Ptr (v 77 ∷ Literal 0 ∷ Literal 0 ∷ []) [] []
      ∷ i (Some (codes "sp.r24")) GcRelocate Ptr (v 77 ∷ Literal 1 ∷ Literal 1 ∷ []) [] []
      ∷ i (Some (codes "sp.r25")) GcRelocate Ptr (v 77 ∷ Literal 2 ∷ Literal 2 ∷ []) [] []
      ∷ i (Some (codes "sp.r26")) GcRelocate Ptr (v 77 ∷ Literal 1 ∷ Literal 3 ∷ []) [] []
      ∷ i None Switch (I 8) (Literal 255 ∷ Literal 0 ∷ Literal 1 ∷ Literal 2 ∷ []) (b 1 ∷ b 5 ∷ b 1 ∷ b 3 ∷ []) []
      ∷ [])
      ∷ [];
}

r8_0_is : rewritten r8_0_before r8_0_bases ≡ r8_0_after
unfolding digits
r8_0_is = refl

abbrev r10_0_before : Function
r10_0_before = record {
  name = codes "f0";
  answer = Ptr;
  args = (record { name = codes "a0"; ty = Ptr } ∷ record { name = codes "a1"; ty = Ptr } ∷ []);
  blocks =
      block (codes "b0") (
      i None (Call Poll []) Void [] [] []
      ∷ i (Some (codes "v1")) (Call (New 2) ((I 64) ∷ [])) Ptr (Literal 3 ∷ []) [] []
      ∷ i (Some (codes "v2")) (Call (New 2) ((I 64) ∷ [])) Ptr (Literal 2 ∷ []) [] []
      ∷ i (Some (codes "v3")) (Call (New 0) ((I 64) ∷ [])) Ptr (Literal 3 ∷ []) [] []
      ∷ i (Some (codes "v4")) (Call (Fun (fn 0)) (Ptr ∷ Ptr ∷ [])) Ptr (v 2 ∷ v 4 ∷ []) [] []
      ∷ i None Switch (I 32) (Literal 1 ∷ Literal 0 ∷ Literal 1 ∷ []) (b 1 ∷ b 2 ∷ b 3 ∷ []) []
      ∷ [])
      ∷ block (codes "b1") (
      i None (Call Check (Ptr ∷ Ptr ∷ (I 64) ∷ [])) Void (v 4 ∷ v 4 ∷ Literal 0 ∷ []) [] []
      ∷ i None Store (I 64) (Literal 8 ∷ v 4 ∷ []) [] []
      ∷ i (Some (codes "v5")) (Call (New 2) ((I 64) ∷ [])) Ptr (Literal 2 ∷ []) [] (((I 1), Literal 1) ∷ (Ptr, v 3) ∷ [])
      ∷ i None (Call Poll []) Void [] [] []
      ∷ i None Switch (I 32) (Literal 3 ∷ Literal 0 ∷ []) (b 1 ∷ b 1 ∷ []) []
      ∷ [])
      ∷ block (codes "b2") (
      i (Some (codes "v6")) Phi (I 1) (Literal 0 ∷ []) (b 0 ∷ []) []
      ∷ i (Some (codes "v7")) Phi Ptr (v 3 ∷ []) (b 0 ∷ []) []
      ∷ i (Some (codes "v8")) Phi (I 64) (Literal 9223372036854775808 ∷ []) (b 0 ∷ []) []
      ∷ i None Ret Ptr (v 4 ∷ []) [] []
      ∷ [])
      ∷ block (codes "b3") (
      i (Some (codes "v9")) Phi (I 64) (Literal 3 ∷ []) (b 0 ∷ []) []
      ∷ i (Some (codes "v10")) (Call (New 2) ((I 64) ∷ [])) Ptr (Literal 1 ∷ []) [] []
      ∷ i (Some (codes "v11")) Sub (I 8) (Literal 128 ∷ Literal 1 ∷ []) [] []
      ∷ i (Some (codes "v12")) Mul (I 1) (Literal 0 ∷ Literal 0 ∷ []) [] []
      ∷ i None (Call Check (Ptr ∷ Ptr ∷ (I 64) ∷ [])) Void (v 5 ∷ v 5 ∷ Literal 0 ∷ []) [] []
      ∷ i (Some (codes "v13")) Load (I 64) (v 5 ∷ []) [] []
      ∷ i None (Call Check (Ptr ∷ Ptr ∷ (I 64) ∷ [])) Void (v 3 ∷ v 3 ∷ Literal 4 ∷ []) [] []
      ∷ i (Some (codes "v14")) Load (I 32) (v 3 ∷ []) [] []
      ∷ i None Ret Ptr (v 2 ∷ []) [] []
      ∷ [])
      ∷ [];
}

abbrev r10_0_bases : List Operand
r10_0_bases = (v 0 ∷ v 1 ∷ v 2 ∷ v 3 ∷ v 4 ∷ v 5 ∷ v 6 ∷ v 7 ∷ v 8 ∷ v 9 ∷ v 10 ∷ v 11 ∷ v 12 ∷ v 13 ∷ v 14 ∷ v 15 ∷ [])

abbrev r10_0_after : Function
r10_0_after = record {
  name = codes "f0";
  answer = Ptr;
  args = (record { name = codes "a0"; ty = Ptr } ∷ record { name = codes "a1"; ty = Ptr } ∷ []);
  blocks =
      block (codes "b0") (
      i (Some (codes "sp.t0")) (Statepoint 2882400000 Poll []) Void [] [] []
      ∷ i (Some (codes "sp.t1")) (Statepoint 2882400000 (New 2) ((I 64) ∷ [])) Ptr (Literal 3 ∷ []) [] []
      ∷ i (Some (codes "v1")) GcResult Ptr (v 3 ∷ []) [] []
      ∷ i (Some (codes "sp.t2")) (Statepoint 2882400000 (New 2) ((I 64) ∷ [])) Ptr (Literal 2 ∷ v 4 ∷ []) [] []
      ∷ i (Some (codes "v2")) GcResult Ptr (v 5 ∷ []) [] []
      ∷ i (Some (codes "sp.r0")) GcRelocate Ptr (v 5 ∷ Literal 0 ∷ Literal 0 ∷ []) [] []
      ∷ i (Some (codes "sp.t3")) (Statepoint 2882400000 (New 0) ((I 64) ∷ [])) Ptr (Literal 3 ∷ v 7 ∷ v 6 ∷ []) [] []
      ∷ i (Some (codes "v3")) GcResult Ptr (v 8 ∷ []) [] []
      ∷ i (Some (codes "sp.r1")) GcRelocate Ptr (v 8 ∷ Literal 0 ∷ Literal 0 ∷ []) [] []
      ∷ i (Some (codes "sp.r2")) GcRelocate Ptr (v 8 ∷ Literal 1 ∷ Literal 1 ∷ []) [] []
      ∷ i (Some (codes "sp.t4")) (Statepoint 2882400000 (Fun (fn 0)) (Ptr ∷ Ptr ∷ [])) Ptr (v 10 ∷ v 9 ∷ v 10 ∷ v 11 ∷ v 9 ∷ []) [] []
      ∷ i (Some (codes "v4")) GcResult Ptr (v 12 ∷ []) [] []
      ∷ i (Some (codes "sp.r3")) GcRelocate Ptr (v 12 ∷ Literal 0 ∷ Literal 0 ∷ []) [] []
      ∷ i (Some (codes "sp.r4")) GcRelocate Ptr (v 12 ∷ Literal 1 ∷ Literal 1 ∷ []) [] []
      ∷ i (Some (codes "sp.r5")) GcRelocate Ptr (v 12 ∷ Literal 2 ∷ Literal 2 ∷ []) [] []
      ∷ i None Switch (I 32) (Literal 1 ∷ Literal 0 ∷ Literal 1 ∷ []) (b 1 ∷ b 2 ∷ b 3 ∷ []) []
      ∷ [])
      ∷ block (codes "b1") (
      i (Some (codes "sp.m0")) Phi Ptr (v 15 ∷ v 24 ∷ v 24 ∷ []) (b 0 ∷ b 1 ∷ b 1 ∷ []) []
      ∷ i (Some (codes "sp.m1")) Phi Ptr (v 16 ∷ v 25 ∷ v 25 ∷ []) (b 0 ∷ b 1 ∷ b 1 ∷ []) []
      ∷ i None (Call Check (Ptr ∷ Ptr ∷ (I 64) ∷ [])) Void (v 18 ∷ v 18 ∷ Literal 0 ∷ []) [] []
      ∷ i None Store (I 64) (Literal 8 ∷ v 18 ∷ []) [] []
      ∷ i (Some (codes "sp.t5")) (Statepoint 2882400000 (New 2) ((I 64) ∷ [])) Ptr (Literal 2 ∷ v 17 ∷ v 18 ∷ []) [] (((I 1), Literal 1) ∷ (Ptr, v 17) ∷ [])
      ∷ i (Some (codes "v5")) GcResult Ptr (v 19 ∷ []) [] []
      ∷ i (Some (codes "sp.r6")) GcRelocate Ptr (v 19 ∷ Literal 0 ∷ Literal 0 ∷ []) [] []
      ∷ i (Some (codes "sp.r7")) GcRelocate Ptr (v 19 ∷ Literal 1 ∷ Literal 1 ∷ []) [] []
      ∷ i (Some (codes "sp.t6")) (Statepoint 2882400000 Poll []) Void (v 21 ∷ v 22 ∷ []) [] []
      ∷ i (Some (codes "sp.r8")) GcRelocate Ptr (v 23 ∷ Literal 0 ∷ Literal 0 ∷ []) [] []
      ∷ i (Some (codes "sp.r9")) GcRelocate Ptr (v 23 ∷ Literal 1 ∷ Literal 1 ∷ []) [] []
      ∷ i None Switch (I 32) (Literal 3 ∷ Literal 0 ∷ []) (b 1 ∷ b 1 ∷ []) []
      ∷ [])
      ∷ block (codes "b2") (
      i (Some (codes "v6")) Phi (I 1) (Literal 0 ∷ []) (b 0 ∷ []) []
      ∷ i (Some (codes "v7")) Phi Ptr (v 15 ∷ []) (b 0 ∷ []) []
      ∷ i (Some (codes "v8")) Phi (I 64) (Literal 9223372036854775808 ∷ []) (b 0 ∷ []) []
      ∷ i None Ret Ptr (v 16 ∷ []) [] []
      ∷ [])
      ∷ block (codes "b3") (
      i (Some (codes "v9")) Phi (I 64) (Literal 3 ∷ []) (b 0 ∷ []) []
      ∷ i (Some (codes "sp.t7")) (Statepoint 2882400000 (New 2) ((I 64) ∷ [])) Ptr (Literal 1 ∷ v 14 ∷ v 15 ∷ v 13 ∷ []) [] []
      ∷ i (Some (codes "v10")) GcResult Ptr (v 30 ∷ []) [] []
      ∷ i (Some (codes "sp.r10")) GcRelocate Ptr (v 30 ∷ Literal 0 ∷ Literal 0 ∷ []) [] []
      ∷ i (Some (codes "sp.r11")) GcRelocate Ptr (v 30 ∷ Literal 1 ∷ Literal 1 ∷ []) [] []
      ∷ i (Some (codes "sp.r12")) GcRelocate Ptr (v 30 ∷ Literal 2 ∷ Literal 2 ∷ []) [] []
      ∷ i (Some (codes "v11")) Sub (I 8) (Literal 128 ∷ Literal 1 ∷ []) [] []
      ∷ i (Some (codes "v12")) Mul (I 1) (Literal 0 ∷ Literal 0 ∷ []) [] []
      ∷ i None (Call Check (Ptr ∷ Ptr ∷ (I 64) ∷ [])) Void (v 34 ∷ v 34 ∷ Literal 0 ∷ []) [] []
      ∷ i (Some (codes "v13")) Load (I 64) (v 34 ∷ []) [] []
      ∷ i None (Call Check (Ptr ∷ Ptr ∷ (I 64) ∷ [])) Void (v 33 ∷ v 33 ∷ Literal 4 ∷ []) [] []
      ∷ i (Some (codes "v14")) Load (I 32) (v 33 ∷ []) [] []
      ∷ i None Ret Ptr (v 32 ∷ []) [] []
      ∷ [])
      ∷ [];
}

r10_0_is : rewritten r10_0_before r10_0_bases ≡ r10_0_after
unfolding digits
r10_0_is = refl
