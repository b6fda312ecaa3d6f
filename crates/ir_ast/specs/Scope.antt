-- What the lines of a function can see of the module round them.
use Rattle.std.specs.Prelude.{ℕ, List, [], ◌∷◌, map, length, Option, Some, slice_get}
use Rattle.std.specs.Option.{option_map}
use Rattle.ir_ast.specs.declared.types.Ty.{Ty}
use Rattle.ir_ast.specs.declared.types.Ty.TheVariants.{Void, Int, Ptr}
use Rattle.ir_ast.specs.declared.ops.Callee.{Callee}
use Rattle.ir_ast.specs.declared.ops.Callee.TheVariants.{Fun, New, Print, Read, TaskStart, Poll, Check, Same}
use Rattle.ir_ast.specs.Funcs.{Function}
use Rattle.ir_ast.specs.Modules.{ModuleContent}
use Rattle.ir_ast.specs.Values.{value_types}

-- what a function answers and takes
pub record Signature : Type 0 where
  pub answer : Ty
  pub params : List Ty

pub record Scope : Type 0 where
  -- the types of the function's values, by the value's number
  pub values : List Ty
  -- what the function answers
  pub answer : Ty
  -- what a callee answers and takes, if there is one
  pub called : Callee → Option Signature
  -- how many fields each layout has
  pub fields : List ℕ

abbrev pub signature_of : Function → Signature
signature_of func = record { answer = func.answer; params = map (λ arg. arg.ty) func.args }

-- the table of the externals, and the definitions of the module; `Void` stands for a function's name
abbrev pub called_in : List Function → Callee → Option Signature
called_in funcs (Fun func) = option_map signature_of (slice_get funcs func.0)
called_in funcs (New layout) = Some (record { answer = Ptr; params = Int 64 ∷ [] })
called_in funcs Print = Some (record { answer = Void; params = Int 64 ∷ [] })
called_in funcs Read = Some (record { answer = Int 64; params = [] })
called_in funcs TaskStart = Some (record { answer = Void; params = Void ∷ Ptr ∷ [] })
called_in funcs Poll = Some (record { answer = Void; params = [] })
called_in funcs Check = Some (record { answer = Void; params = Ptr ∷ Ptr ∷ Int 64 ∷ [] })
called_in funcs Same = Some (record { answer = Int 1; params = Ptr ∷ Ptr ∷ Ptr ∷ Ptr ∷ [] })

abbrev pub scope_of : ModuleContent → Function → Scope
scope_of content func = record {
  values = value_types func;
  answer = func.answer;
  called = called_in content.funcs;
  fields = map (λ layout. length layout.fields) content.layouts;
}
