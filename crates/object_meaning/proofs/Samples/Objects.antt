-- Objects, derived pointers and their compares.
use Rattle.std.proofs.Common.{ℕ, [], ◌∷◌, Option, Some, None, refl, codes, pos}
use Rattle.std.specs.Prelude.{◌==◌, if◌then◌else◌}
use Rattle.sp_ids.specs.declared.ends.End.TheVariants as ended
use Rattle.sp_ids.specs.declared.ends.Trap.TheVariants as traps
use Rattle.ir_ast.specs.declared.modules.Form.TheVariants as form
use Rattle.ir_ast.specs.declared.ops.Operand.TheVariants.{Null}
use Rattle.ir_ast.specs.declared.ops.Pred.TheVariants.{Eq, Ne}
use Rattle.ir_ast.specs.declared.types.Ty.TheVariants.{Void, Int, Ptr}
use Rattle.ir_ast.specs.Modules.{ModuleContent}
use Rattle.ir_ast.specs.Objects.{Object, number, pointer, null}
use Rattle.ir_ast.specs.Sizes.{laid, size_of}
use Rattle.object_meaning.specs.Accesses.{field_at}
use Rattle.object_meaning.specs.Effects.{printed_line}
use Rattle.object_meaning.specs.Outcomes.{Outcome, proceeds}
use Rattle.object_meaning.specs.SourceRuns.{SourceGives, no_go, source_setting}
use Rattle.object_meaning.specs.Steps.{step}
use Rattle.object_meaning.specs.Traces.{at_new, at_poll}
use Rattle.object_meaning.proofs.OutcomeLaws.{gives_within}
use Rattle.object_meaning.proofs.Samples.{module_of, function, value, literal, new, load, print, start, element, field, compare, zext, return, return_void}

abbrev empty : Object
empty = record { layout = 0; count = 0; cells = [] }

-- two objects of no elements differ, and have no cell to read
abbrev no_elements : ModuleContent
no_elements = module_of form.Source
    (function (codes "main") (Int 64) []
    (new 0 ∷ new 0 ∷ compare Eq (value 0) (value 1) ∷ zext (value 2) ∷ print (value 3) ∷ load (value 0) ∷ return (literal 0) ∷ []) ∷ [])

abbrev no_elements_outcome : Outcome
no_elements_outcome = record {
  lines = printed_line 0 ∷ [];
  end = ended.Trap traps.Bounds;
  func = 0;
  steps = 0;
  events = 3;
  printed = 1;
  happened = at_poll ∷ at_new ∷ at_new ∷ [];
  accesses = [];
  objects = empty ∷ empty ∷ [];
}

no_elements_give : SourceGives no_elements [] no_go 1000 no_elements_outcome
unfolding proceeds step laid size_of field_at
no_elements_give = gives_within (source_setting no_elements no_go 1000) [] 20 no_elements_outcome refl

-- one past an object isn't the next object, though it may lie there; a pointer field is read back, and is no number
abbrev past : ModuleContent
past = module_of form.Source
    (function (codes "main") (Int 64) []
    (new 1 ∷ new 1 ∷ element (value 0) 1 ∷ compare Ne (value 2) (value 1) ∷ zext (value 3) ∷ print (value 4)
    ∷ field (value 1) 1 ∷ compare Eq (value 5) Null ∷ zext (value 6) ∷ print (value 7) ∷ load (value 5) ∷ return (literal 0) ∷ []) ∷ [])

abbrev blank_node : Object
blank_node = record { layout = 0; count = 1; cells = number 0 ∷ pointer null ∷ [] }

abbrev past_outcome : Outcome
past_outcome = record {
  lines = printed_line 1 ∷ printed_line 0 ∷ [];
  end = ended.Trap traps.Kind;
  func = 0;
  steps = 0;
  events = 3;
  printed = 2;
  happened = at_poll ∷ at_new ∷ at_new ∷ [];
  accesses = [];
  objects = blank_node ∷ blank_node ∷ [];
}

past_give : SourceGives past [] no_go 1000 past_outcome
unfolding proceeds step laid size_of field_at
past_give = gives_within (source_setting past no_go 1000) [] 20 past_outcome refl

-- a `go` line at a new object does nothing, nor does one to the running task or to none
abbrev news : ModuleContent
news = module_of form.Source
    (function (codes "main") (Int 64) [] (start 1 Null ∷ print (literal 3) ∷ return (literal 0) ∷ [])
    ∷ function (codes "w") Void (record { name = codes "o"; ty = Ptr } ∷ [])
    (print (literal 1) ∷ new 1 ∷ print (literal 2) ∷ return_void ∷ []) ∷ [])

abbrev idle : ℕ → Option ℕ
idle event = if event == 1 then Some 7 else (if event == 2 then Some 1 else (if event == 3 then Some 0 else None))

abbrev news_outcome : Outcome
news_outcome = record {
  lines = printed_line 1 ∷ printed_line 2 ∷ printed_line 3 ∷ [];
  end = ended.Return (pos 0);
  func = 0;
  steps = 2;
  events = 3;
  printed = 3;
  happened = at_poll ∷ at_poll ∷ at_new ∷ [];
  accesses = [];
  objects = blank_node ∷ [];
}

news_give : SourceGives news [] idle 1000 news_outcome
unfolding proceeds step laid size_of field_at
news_give = gives_within (source_setting news idle 1000) [] 20 news_outcome refl
