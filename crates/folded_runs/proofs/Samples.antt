-- A worked module and its folding, both run: `%a = add i64 2, 3`, `%b = mul i64 %a, 4`, `%d = sdiv i64 %b, 0`,
-- `call void @print_i64(i64 %b)`, `ret i64 0` becomes `%d = sdiv i64 20, 0`, `call void @print_i64(i64 20)`, `ret i64 0`, and either
-- run ends at its division.
use Rattle.std.proofs.Common.{◌≡◌, ℕ, List, [], ◌∷◌, Option, Some, None, codes, refl}
use Rattle.sp_ids.specs.declared.ends.End.TheVariants as ended
use Rattle.sp_ids.specs.declared.ends.Trap.TheVariants as traps
use Rattle.ir_ast.specs.declared.modules.Form.TheVariants.{Source}
use Rattle.ir_ast.specs.declared.ops.Callee.TheVariants as callees
use Rattle.ir_ast.specs.declared.ops.Op.{Op}
use Rattle.ir_ast.specs.declared.ops.Op.TheVariants as ops
use Rattle.ir_ast.specs.declared.ops.Operand.{Operand}
use Rattle.ir_ast.specs.declared.ops.Operand.TheVariants.{Int as Literal}
use Rattle.ir_ast.specs.declared.types.Ty.{Ty}
use Rattle.ir_ast.specs.declared.types.Ty.TheVariants.{Int, Void}
use Rattle.ir_ast.specs.Funcs.{Function}
use Rattle.ir_ast.specs.Insts.{Instruction}
use Rattle.ir_ast.specs.Modules.{ModuleContent}
use Rattle.ir_ast.specs.Operands.{named}
use Rattle.object_meaning.specs.Outcomes.{Outcome, proceeds}
use Rattle.object_meaning.specs.SourceRuns.{SourceGives, no_go, source_setting}
use Rattle.object_meaning.specs.Steps.{step}
use Rattle.object_meaning.specs.Traces.{at_poll}
use Rattle.object_meaning.proofs.OutcomeLaws.{gives_within}
use Rattle.folded_forms.specs.Folded.{Table, folded}

abbrev literal : ℕ → Operand
literal word = Literal word

abbrev line : Option (List ℕ) → Op → Ty → List Operand → Instruction
line result op ty operands = record { result = result; op = op; ty = ty; operands = operands; labels = []; bundle = [] }

abbrev gives : List ℕ → Op → List Operand → Instruction
gives name op operands = line (Some name) op (Int 64) operands

abbrev print : Operand → Instruction
print operand = line None (ops.Call callees.Print (Int 64 ∷ [])) Void (operand ∷ [])

abbrev return : Operand → Instruction
return operand = line None ops.Ret (Int 64) (operand ∷ [])

abbrev main : List Instruction → Function
main insts = record { name = codes "main"; answer = Int 64; args = []; blocks = record { name = codes "0"; insts = insts } ∷ [] }

abbrev module_of : Function → ModuleContent
module_of func = record { layouts = []; funcs = func ∷ []; form = Source }

abbrev before : Function
before =
    main
    (gives (codes "a") ops.Add (literal 2 ∷ literal 3 ∷ []) ∷ gives (codes "b") ops.Mul (named 0 ∷ literal 4 ∷ [])
    ∷ gives (codes "d") ops.Sdiv (named 1 ∷ literal 0 ∷ []) ∷ print (named 1) ∷ return (literal 0) ∷ [])

abbrev table : Table
table = literal 5 ∷ literal 20 ∷ named 2 ∷ []

abbrev after : Function
after = main (gives (codes "d") ops.Sdiv (literal 20 ∷ literal 0 ∷ []) ∷ print (literal 20) ∷ return (literal 0) ∷ [])

folds : folded before table ≡ after
folds = refl

abbrev outcome : Outcome
outcome = record {
  lines = [];
  end = ended.Trap traps.Div;
  func = 0;
  steps = 0;
  events = 1;
  printed = 0;
  happened = at_poll ∷ [];
  accesses = [];
  objects = [];
}

before_gives : SourceGives (module_of before) [] no_go 100 outcome
unfolding proceeds step
before_gives = gives_within (source_setting (module_of before) no_go 100) [] 10 outcome refl

after_gives : SourceGives (module_of after) [] no_go 100 outcome
unfolding proceeds step
after_gives = gives_within (source_setting (module_of after) no_go 100) [] 10 outcome refl
