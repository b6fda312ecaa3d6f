-- What a contract sees of `Types`.
use Rattle.std.specs.Prelude.{List, [], ◌∷◌}
use Rattle.ir_ast.specs.declared.types.Ty.{Ty}
use Rattle.ir_ast.specs.declared.types.Ty.TheVariants.{Ptr, Int}
use Rattle.ir_ast.specs.declared.types.Listed.{Listed}
use Rattle.ir_ast.specs.declared.types.Listed.TheVariants.{Nothing, One, Two, Check, More}

abbrev pub types_listed : Listed → List Ty
types_listed Nothing = []
types_listed (One types) = types
types_listed (Two types) = types
types_listed Check = Ptr ∷ Ptr ∷ Int 64 ∷ []
types_listed (More types) = types.value.items
