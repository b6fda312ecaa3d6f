-- A function of the rewritten form with three statepoints.
use Rattle.std.proofs.Common.{◌≡◌, ℕ, List, [], ◌∷◌, Option, Some, None, refl, codes, arith, rules}
use Rattle.sp_ids.specs.declared.ids.ValueId.{ValueId}
use Rattle.ir_ast.specs.declared.types.Ty.{Ty}
use Rattle.ir_ast.specs.declared.types.Ty.TheVariants.{Void, Int, Ptr}
use Rattle.ir_ast.specs.declared.ops.Operand.{Operand}
use Rattle.ir_ast.specs.declared.ops.Operand.TheVariants.{Value, Int as Literal}
use Rattle.ir_ast.specs.declared.ops.Callee.TheVariants.{Fun, New, Poll}
use Rattle.ir_ast.specs.declared.ops.Op.{Op}
use Rattle.ir_ast.specs.declared.ops.Op.TheVariants.{Statepoint, GcResult, GcRelocate, Load, Store, Ret}
use Rattle.ir_ast.specs.Insts.{Instruction}
use Rattle.ir_ast.specs.Funcs.{Function}
use Rattle.ir_ast.specs.Lines.{IsLine}
use Rattle.ir_ast.specs.Faults.GroupShape.{ResultInShape, RelocateInShape, number_at, entries_of}

abbrev at : ℕ → ValueId
at number = record { 0 = number }

abbrev value : ℕ → Operand
value number = Value (at number)

abbrev line : Option (List ℕ) → Op → Ty → List Operand → Instruction
line result op ty operands =
    record { result = result; op = op; ty = ty; operands = operands; labels = []; bundle = [] }

abbrev poll : Instruction
poll = line (Some (codes "sp.t0")) (Statepoint 2882400000 Poll []) Void []

abbrev make : Instruction
make = line (Some (codes "sp.t1")) (Statepoint 2882400000 (New 0) (Int 64 ∷ [])) Ptr (Literal 1 ∷ [])

abbrev made : Instruction
made = line (Some (codes "o")) GcResult Ptr (value 1 ∷ [])

abbrev fill : Instruction
fill = line None Store (Int 64) (Literal 7 ∷ value 2 ∷ [])

-- a call of the first function with one live entry
abbrev call : Instruction
call = line (Some (codes "sp.t2")) (Statepoint 2882400000 (Fun (record { 0 = 0 })) []) Void (value 2 ∷ [])

abbrev relocate : Instruction
relocate = line (Some (codes "sp.r0")) GcRelocate Ptr (value 3 ∷ Literal 0 ∷ Literal 0 ∷ [])

abbrev load : Instruction
load = line (Some (codes "v")) Load (Int 64) (value 4 ∷ [])

abbrev finish : Instruction
finish = line None Ret (Int 64) (value 5 ∷ [])

abbrev sample : Function
sample = record {
  name = codes "main";
  answer = Int 64;
  args = [];
  blocks = record { name = codes "entry"; insts = poll ∷ make ∷ made ∷ fill ∷ call ∷ relocate ∷ load ∷ finish ∷ [] } ∷ [];
}

line_make : IsLine make
line_make = record { result = refl; type = refl; arguments = (refl, tt); entries = refl; no_labels = refl; bundle = refl }

line_call : IsLine call
line_call = record { result = refl; type = refl; arguments = tt; entries = refl; no_labels = refl; bundle = refl }

result_of_make : ResultInShape sample 2 made
result_of_make = record {
  token = at 1;
  operands = refl;
  group = record { head = 1; statepoint = make; stands = refl; op = refl; gives = refl; before = search rules; between = λ k above below. absurd (omega arith) };
  directly = refl;
  type = refl;
}

relocate_of_call : RelocateInShape sample 5 relocate
relocate_of_call = record {
  token = at 3;
  base = 0;
  derived = 0;
  operands = refl;
  group = record { head = 4; statepoint = call; stands = refl; op = refl; gives = refl; before = search rules; between = λ k above below. absurd (omega arith) };
  base_entry = search rules;
  derived_entry = (at 2, refl);
}

entries_of_call : entries_of call ≡ value 2 ∷ []
entries_of_call = refl

numbers : number_at sample 0 ∷ number_at sample 4 ∷ number_at sample 6 ∷ [] ≡ 0 ∷ 3 ∷ 5 ∷ []
numbers = refl
