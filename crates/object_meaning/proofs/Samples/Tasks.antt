-- Two tasks under a plan.
use Rattle.std.proofs.Common.{ℕ, [], ◌∷◌, Option, Some, None, refl, codes, pos}
use Rattle.std.specs.Prelude.{◌==◌, if◌then◌else◌}
use Rattle.sp_ids.specs.declared.ends.End.TheVariants as ended
use Rattle.ir_ast.specs.declared.modules.Form.TheVariants as form
use Rattle.ir_ast.specs.declared.types.Ty.TheVariants.{Void, Int, Ptr}
use Rattle.ir_ast.specs.Modules.{ModuleContent}
use Rattle.ir_ast.specs.Objects.{number, pointer, null}
use Rattle.ir_ast.specs.Sizes.{laid, size_of}
use Rattle.object_meaning.specs.Accesses.{field_at}
use Rattle.object_meaning.specs.Effects.{printed_line}
use Rattle.object_meaning.specs.Outcomes.{Outcome, proceeds}
use Rattle.object_meaning.specs.SourceRuns.{SourceGives, source_setting}
use Rattle.object_meaning.specs.Steps.{step}
use Rattle.object_meaning.specs.Traces.{at_new, at_poll, reads, writes}
use Rattle.object_meaning.proofs.OutcomeLaws.{gives_within}
use Rattle.object_meaning.proofs.Samples.{node, function, value, literal, new, store, load, print, call, start, return, return_void}

abbrev two_tasks : ModuleContent
two_tasks = record {
  layouts = node ∷ [];
  funcs =
      function (codes "f") Void [] (return_void ∷ [])
      ∷ function (codes "main") (Int 64) []
      (new 1 ∷ store (literal 5) (value 0) ∷ start 2 (value 0) ∷ call 0 ∷ print (literal 1) ∷ return (literal 0) ∷ [])
      ∷ function (codes "w") Void (record { name = codes "o"; ty = Ptr } ∷ [])
      (load (value 0) ∷ print (value 1) ∷ call 0 ∷ load (value 0) ∷ print (value 2) ∷ return_void ∷ [])
      ∷ [];
  form = form.Source;
}

-- at event 4 task 0 goes on, at event 5 task 1
abbrev there_and_back : ℕ → Option ℕ
there_and_back event = if event == 4 then Some 0 else (if event == 5 then Some 1 else None)

abbrev two_tasks_outcome : Outcome
two_tasks_outcome = record {
  lines = printed_line 5 ∷ printed_line 5 ∷ printed_line 1 ∷ [];
  end = ended.Return (pos 0);
  func = 1;
  steps = 6;
  events = 5;
  printed = 3;
  happened = at_poll ∷ at_new ∷ at_poll ∷ at_poll ∷ at_poll ∷ [];
  accesses = writes 1 0 ∷ reads 1 0 ∷ reads 1 0 ∷ [];
  objects = record { layout = 0; count = 1; cells = number 5 ∷ pointer null ∷ [] } ∷ [];
}

two_tasks_give : SourceGives two_tasks [] there_and_back 1000 two_tasks_outcome
unfolding proceeds step laid size_of field_at
two_tasks_give = gives_within (source_setting two_tasks there_and_back 1000) [] 40 two_tasks_outcome refl
