-- A function of the source form with a derived phi.
use Rattle.std.proofs.Common.{◌≡◌, ℕ, List, [], ◌∷◌, ◌+◌, ◌<◌, sym, ap, ◌∙◌, slice_get, zero, suc, Option, Some, None, refl, codes, arith, rules}
use Rattle.sp_ids.specs.declared.ids.BlockId.{BlockId}
use Rattle.ir_ast.specs.declared.types.Ty.{Ty}
use Rattle.ir_ast.specs.declared.types.Ty.TheVariants.{Void, Int, Ptr}
use Rattle.ir_ast.specs.declared.ops.Operand.{Operand}
use Rattle.ir_ast.specs.declared.ops.Operand.TheVariants.{Value, Int as Literal}
use Rattle.ir_ast.specs.declared.ops.Pred.TheVariants.{Ult}
use Rattle.ir_ast.specs.declared.ops.Elem.TheVariants.{Layout}
use Rattle.ir_ast.specs.declared.ops.Op.{Op}
use Rattle.ir_ast.specs.declared.ops.Op.TheVariants.{Icmp, Phi, Gep, Load, Br, CondBr, Ret, Trunc}
use Rattle.ir_ast.specs.Insts.{Instruction}
use Rattle.ir_ast.specs.Funcs.{Function}
use Rattle.ir_ast.specs.Values.{value_types}
use Rattle.ir_ast.specs.Edges.{edges, count_of}
use Rattle.ir_ast.specs.Widths.{widths_of}
use Rattle.ir_ast.specs.Lines.{IsLine}
use Rattle.ir_ast.specs.Derived.{Derived, by_step, by_merge}
use Rattle.ir_ast.specs.declared.cells.Cell.TheVariants.{I64, Ptr as Pointer}
use Rattle.ir_ast.specs.declared.modules.Form.TheVariants.{Source}
use Rattle.ir_ast.specs.Modules.{ModuleContent}
use Rattle.ir_ast.specs.Cells.{cell_in}
use Rattle.ir_ast.proofs.CellLaws.{type_found}
use Rattle.ir_ast.specs.Scope.{Scope, scope_of}
use Rattle.ir_ast.specs.Faults.TypeClash.{IsTyped}
use Rattle.ir_ast.specs.Faults.PhiEdges.{PhiIsRight}
use Rattle.ir_ast.specs.Bases.{Base, of_itself, of_step}

abbrev block : ℕ → BlockId
block number = record { 0 = number }

abbrev value : ℕ → Operand
value number = Value (record { 0 = number })

abbrev line : Option (List ℕ) → Op → Ty → List Operand → List BlockId → Instruction
line result op ty operands labels =
    record { result = result; op = op; ty = ty; operands = operands; labels = labels; bundle = [] }

-- %c = icmp ult i64 %x, 4
abbrev compare : Instruction
compare = line (Some (codes "c")) (Icmp Ult) (Int 64) (value 1 ∷ Literal 4 ∷ []) []

-- br i1 %c, label %l, label %m
abbrev branch : Instruction
branch = line None CondBr (Int 1) (value 2 ∷ []) (block 1 ∷ block 2 ∷ [])

-- %p = getelementptr %N, ptr addrspace(1) %o, i64 0, i32 1
abbrev step : Instruction
step = line (Some (codes "p")) (Gep (Layout 0) 64 (Some 1)) Ptr (value 0 ∷ Literal 0 ∷ []) []

-- br label %m
abbrev jump : Instruction
jump = line None Br Void [] (block 2 ∷ [])

-- %q = phi ptr addrspace(1) [ %o, %entry ], [ %p, %l ]
abbrev merge : Instruction
merge = line (Some (codes "q")) Phi Ptr (value 0 ∷ value 3 ∷ []) (block 0 ∷ block 1 ∷ [])

-- %v = load i64, ptr addrspace(1) %q
abbrev load : Instruction
load = line (Some (codes "v")) Load (Int 64) (value 4 ∷ []) []

-- ret i64 %v
abbrev finish : Instruction
finish = line None Ret (Int 64) (value 5 ∷ []) []

-- define i64 @f(ptr addrspace(1) %o, i64 %x)
abbrev sample : Function
sample = record {
  name = codes "f";
  answer = Int 64;
  args = record { name = codes "o"; ty = Ptr } ∷ record { name = codes "x"; ty = Int 64 } ∷ [];
  blocks = record { name = codes "entry"; insts = compare ∷ branch ∷ [] }
      ∷ record { name = codes "l"; insts = step ∷ jump ∷ [] }
      ∷ record { name = codes "m"; insts = merge ∷ load ∷ finish ∷ [] } ∷ [];
}

types_of_sample : value_types sample ≡ Ptr ∷ Int 64 ∷ Int 1 ∷ Ptr ∷ Ptr ∷ Int 64 ∷ []
types_of_sample = refl

edges_of_sample : (edges sample 0 1 ∷ edges sample 0 2 ∷ edges sample 1 2 ∷ edges sample 1 1 ∷ edges sample 2 0 ∷ edges sample 7 2 ∷ [])
    ≡ 1 ∷ 1 ∷ 1 ∷ 0 ∷ 0 ∷ 0 ∷ []
edges_of_sample = refl

widths_of_sample : widths_of sample ≡ 64 ∷ 64 ∷ 64 ∷ 1 ∷ 64 ∷ 64 ∷ 64 ∷ []
widths_of_sample = refl

line_compare : IsLine compare
line_compare = record { result = refl; type = refl; operand_count = refl; values = refl; label_count = refl; no_bundle = refl }

line_branch : IsLine branch
line_branch = record { result = refl; type = refl; operand_count = refl; values = refl; label_count = refl; no_bundle = refl }

line_finish : IsLine finish
line_finish = record { result = refl; type = refl; operand_count = refl; values = refl; label_count = refl; no_bundle = refl }

step_is_derived : Derived sample 3
step_is_derived = by_step 3 step refl refl

merge_is_derived : Derived sample 4
merge_is_derived = by_merge 4 3 merge refl refl (1, search rules, refl) step_is_derived

base_of_step : ¬ Derived sample 0 → Base sample (λ number. record { 0 = number + 10 }) (value 3) (value 0)
base_of_step own = of_step _ step (value 0) (value 0) refl refl refl (of_itself _ own)

abbrev content : ModuleContent
content = record {
  layouts = record { name = codes "N"; fields = I64 ∷ Pointer ∷ [] } ∷ [];
  funcs = sample ∷ [];
  form = Source;
}

abbrev scope : Scope
scope = scope_of content sample

typed_compare : IsTyped scope compare
typed_compare = record { operands = (refl, ((64, refl, search rules), tt)); bundle = search rules; rule = search rules }

typed_step : IsTyped scope step
typed_step = record { operands = (refl, ((64, refl, search rules), tt)); bundle = search rules; rule = search rules }

typed_load : IsTyped scope load
typed_load = record { operands = (refl, tt); bundle = search rules; rule = (I64, refl) }

typed_finish : IsTyped scope finish
typed_finish = record { operands = (refl, tt); bundle = search rules; rule = refl }

-- %p = getelementptr %N, ptr addrspace(1) %o, i64 0, i32 2
no_third_field : ¬ IsTyped scope (line (Some (codes "p")) (Gep (Layout 0) 64 (Some 2)) Ptr (value 0 ∷ Literal 0 ∷ []) [])
no_third_field typed = let wrong : 2 < 2 = typed.rule in absurd (omega arith)

-- %v = load i32, ptr addrspace(1) %q
no_narrow_load : ¬ IsTyped scope (line (Some (codes "v")) Load (Int 32) (value 4 ∷ []) [])
no_narrow_load typed = let bad : None ≡ Some typed.rule.0 = ap cell_in (sym typed.rule.1) ∙ type_found typed.rule.0 in cc

-- %v = load i64, ptr addrspace(1) %x
no_load_of_integers : ¬ IsTyped scope (line (Some (codes "v")) Load (Int 64) (value 1 ∷ []) [])
no_load_of_integers typed = let wrong : Some (Int 64) ≡ Some Ptr = typed.operands.0 in cc

-- %t = trunc i64 %x to i64
no_same_width : ¬ IsTyped scope (line (Some (codes "t")) (Trunc 64) (Int 64) (value 1 ∷ []) [])
no_same_width typed = let narrower : 64 < typed.rule.0 = typed.rule.2 in let same : 64 ≡ typed.rule.0 = cc typed.rule.1 in absurd (omega arith)

abbrev number_in : Option BlockId → ℕ
number_in None = 0
number_in (Some label) = label.0

apart : (m n : ℕ) → m < n → Some (block m) ≡ Some (block n) → ⊥
apart m n less e = let same : m ≡ n = ap number_in e in omega (arith, same)

none_some : (label : BlockId) → None ≡ Some label → ⊥
none_some label e = cc

entries_of_merge : PhiIsRight sample 2 [] merge
entries_of_merge = record { first = refl; counted = counts; agree = agrees }
  where
    counts : (from : ℕ) → count_of from merge.labels ≡ edges sample from 2
    counts zero = refl
    counts (suc zero) = refl
    counts (suc (suc zero)) = refl
    counts (suc (suc (suc from))) = search rules

    agrees : (j k : ℕ) → slice_get merge.labels j ≡ slice_get merge.labels k → slice_get merge.operands j ≡ slice_get merge.operands k
    agrees zero zero same = refl
    agrees zero (suc zero) same = absurd (apart 0 1 (search rules) same)
    agrees zero (suc (suc k)) same = absurd (none_some _ (sym same))
    agrees (suc zero) zero same = absurd (apart 0 1 (search rules) (sym same))
    agrees (suc zero) (suc zero) same = refl
    agrees (suc zero) (suc (suc k)) same = absurd (none_some _ (sym same))
    agrees (suc (suc j)) zero same = absurd (none_some _ same)
    agrees (suc (suc j)) (suc zero) same = absurd (none_some _ same)
    agrees (suc (suc j)) (suc (suc k)) same = refl
