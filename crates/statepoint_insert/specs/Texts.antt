-- The lines of a group in the final text.
use Rattle.std.specs.Prelude.{ℕ, suc, Bool, if◌then◌else◌, List, [], ◌∷◌, ◌++◌, map, Option, Some, None, codes, decimal}
use Rattle.ir_ast.specs.declared.types.Ty.{Ty}
use Rattle.ir_ast.specs.declared.types.Ty.TheVariants.{Ptr}
use Rattle.ir_ast.specs.declared.ops.Callee.{Callee}
use Rattle.ir_ast.specs.declared.ops.Operand.{Operand}
use Rattle.ir_ast.specs.declared.ops.Operand.TheVariants.{Int, Null}
use Rattle.ir_ast.specs.declared.ops.Op.TheVariants.{Statepoint, GcResult, GcRelocate}
use Rattle.ir_ast.specs.Insts.{Instruction}
use Rattle.rewriting_forms.specs.Numbered.{named}
use Rattle.statepoint_insert.specs.declared.groups.Relocate.{Relocate}

-- the entries, with the pointers by the numbers that they have there
abbrev pub live_entries : Bool → List ℕ → List Operand
live_entries has_null live = (if has_null then Null ∷ [] else []) ++ map (λ v. named v) live

-- the count is that among all statepoints of the text
abbrev pub statepoint_line : (count : ℕ) → Bool → List ℕ → Callee → List Ty → Ty → List Operand → List (Ty × Operand) → Instruction
statepoint_line count has_null live callee types ty operands bundle = record {
  result = Some (codes "sp.t" ++ decimal count);
  op = Statepoint 2882400000 callee types;
  ty = ty;
  operands = operands ++ live_entries has_null live;
  labels = [];
  bundle = bundle;
}

abbrev pub result_lines : ℕ → Ty → Option (List ℕ) → List Instruction
result_lines token ty None = []
result_lines token ty (Some name) =
    record { result = Some name; op = GcResult; ty = ty; operands = named token ∷ []; labels = []; bundle = [] } ∷ []

-- the rank is that among the entries, the count that among all relocates of the text
abbrev pub relocate_line : (token count rank : ℕ) → Relocate → Instruction
relocate_line token count rank relocate = record {
  result = Some (codes "sp.r" ++ decimal count);
  op = GcRelocate;
  ty = Ptr;
  operands = named token ∷ Int relocate.base ∷ Int rank ∷ [];
  labels = [];
  bundle = [];
}

abbrev pub relocate_lines : (token count rank : ℕ) → List Relocate → List Instruction
relocate_lines token count rank [] = []
relocate_lines token count rank (relocate ∷ relocates) =
    relocate_line token count rank relocate ∷ relocate_lines token (suc count) (suc rank) relocates

abbrev pub first_rank : Bool → ℕ
first_rank has_null = if has_null then 1 else 0
