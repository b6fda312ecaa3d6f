-- Two tasks of a rewritten module: a group takes effect when its frame goes on.
use Rattle.std.proofs.Common.{ℕ, ◌-◌, ◌^◌, List, [], ◌∷◌, Option, Some, None, refl, codes, pos}
use Rattle.std.specs.Prelude.{◌==◌, if◌then◌else◌}
use Rattle.sp_ids.specs.declared.ends.End.TheVariants as ended
use Rattle.ir_ast.specs.declared.modules.Form.TheVariants as form
use Rattle.ir_ast.specs.declared.ops.Callee.{Callee}
use Rattle.ir_ast.specs.declared.ops.Callee.TheVariants as callees
use Rattle.ir_ast.specs.declared.ops.Op.TheVariants as ops
use Rattle.ir_ast.specs.declared.ops.Operand.{Operand}
use Rattle.ir_ast.specs.declared.ops.Operand.TheVariants.{Fun}
use Rattle.ir_ast.specs.declared.types.Ty.{Ty}
use Rattle.ir_ast.specs.declared.types.Ty.TheVariants.{Void, Int, Ptr, Token}
use Rattle.ir_ast.specs.Insts.{Instruction}
use Rattle.ir_ast.specs.Modules.{ModuleContent}
use Rattle.ir_ast.specs.Objects.{number, pointer, null}
use Rattle.ir_ast.specs.Sizes.{laid, size_of}
use Rattle.object_meaning.specs.Accesses.{field_at}
use Rattle.object_meaning.specs.Effects.{printed_line}
use Rattle.object_meaning.specs.Outcomes.{Outcome, proceeds}
use Rattle.object_meaning.specs.TargetRuns.{TargetGives, target_setting}
use Rattle.object_meaning.specs.Steps.{step}
use Rattle.object_meaning.specs.Traces.{at_new, at_poll, reads, writes}
use Rattle.object_meaning.proofs.OutcomeLaws.{gives_within}
use Rattle.object_meaning.proofs.Samples.{module_of, function, value, literal, gives, does, byte, load, store, print, return, return_void}

-- a statepoint with these arguments and live entries
abbrev statepoint : Callee → List Ty → List Operand → Instruction
statepoint callee types operands = gives (ops.Statepoint 2882400000 callee types) Token operands

abbrev relocate : ℕ → ℕ → ℕ → Instruction
relocate token base derived = gives ops.GcRelocate Ptr (value token ∷ literal base ∷ literal derived ∷ [])

abbrev result : ℕ → Instruction
result token = gives ops.GcResult Ptr (value token ∷ [])

abbrev check : Operand → Operand → ℕ → Instruction
check base address kind = does (ops.Call callees.Check (Ptr ∷ Ptr ∷ Int 64 ∷ [])) Void (base ∷ address ∷ literal kind ∷ [])

abbrev poll : List Operand → Instruction
poll live = statepoint callees.Poll [] live

abbrev to_f : List Operand → Instruction
to_f live = statepoint (callees.Fun (record { 0 = 0 })) [] live

-- the worker keeps a pointer before its object over a poll, and over a call
abbrev tasks : ModuleContent
tasks = module_of form.Rewritten
    (function (codes "f") Void [] (poll [] ∷ return_void ∷ [])
    ∷ function (codes "main") (Int 64) []
    (poll [] ∷ statepoint (callees.New 0) (Int 64 ∷ []) (literal 1 ∷ []) ∷ result 1 ∷ check (value 2) (value 2) 0 ∷ store (literal 5) (value 2)
    ∷ statepoint callees.TaskStart (Void ∷ Ptr ∷ []) (Fun (record { 0 = 2 }) ∷ value 2 ∷ []) ∷ to_f [] ∷ print (literal 1) ∷ return (literal 0) ∷ [])
    ∷ function (codes "w") Void (record { name = codes "o"; ty = Ptr } ∷ [])
    (byte (value 0) (2 ^ 64 - 8) ∷ poll (value 0 ∷ value 1 ∷ []) ∷ relocate 2 0 0 ∷ relocate 2 0 1
    ∷ byte (value 4) 8 ∷ check (value 3) (value 5) 0 ∷ load (value 5) ∷ print (value 6)
    ∷ to_f (value 3 ∷ value 4 ∷ []) ∷ relocate 7 0 1 ∷ relocate 7 0 0
    ∷ byte (value 8) 8 ∷ check (value 9) (value 10) 0 ∷ load (value 10) ∷ print (value 11) ∷ return_void ∷ []) ∷ [])

abbrev there_and_back : ℕ → Option ℕ
there_and_back event = if event == 3 then Some 0 else (if event == 4 then Some 1 else None)

abbrev tasks_outcome : Outcome
tasks_outcome = record {
  lines = printed_line 5 ∷ printed_line 5 ∷ printed_line 1 ∷ [];
  end = ended.Return (pos 0);
  func = 1;
  steps = 6;
  events = 5;
  printed = 3;
  happened = at_poll ∷ at_new ∷ at_poll ∷ at_poll ∷ at_poll ∷ [];
  accesses = writes 1 0 ∷ reads 1 0 ∷ reads 1 0 ∷ [];
  objects = record { layout = 0; count = 1; cells = number 5 ∷ pointer null ∷ [] } ∷ [];
}

tasks_give : TargetGives tasks [] there_and_back 1000 tasks_outcome
unfolding proceeds step laid size_of field_at
tasks_give = gives_within (target_setting tasks there_and_back 1000) [] 60 tasks_outcome refl
