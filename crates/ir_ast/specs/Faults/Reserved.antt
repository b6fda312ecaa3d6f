-- Reserved names: what has no fault of code 14.
use Rattle.std.specs.Prelude.{◌≡◌, ℕ, false, List, [], ◌∷◌, ◌⊎◌, codes}
use Rattle.std.specs.List.{All, Contains}
use Rattle.ir_ast.specs.Lists.{HasFront}
use Rattle.ir_ast.specs.Funcs.{Function, instructions_of}
use Rattle.ir_ast.specs.Modules.{ModuleContent}
use Rattle.ir_ast.specs.Values.{definitions_of, definition_name}
use Rattle.ir_ast.specs.Lines.{is_rewritten}

-- the externals whose names are whole
abbrev pub externals : List (List ℕ)
externals =
    codes "print_i64" ∷ codes "read_i64" ∷ codes "task_start" ∷ codes "gc.safepoint_poll" ∷ codes "gc_check"
    ∷ codes "gc_same" ∷ []

-- the name of an external, of `gc_new` of a layout, or of LLVM's own
abbrev pub IsExternalName : List ℕ → Type 0
IsExternalName name = Contains externals name ⊎ (HasFront (codes "gc_new.") name ⊎ HasFront (codes "llvm.") name)

-- the fronts of names that the rewriting inserts
abbrev pub IsInsertedName : List ℕ → Type 0
IsInsertedName name = HasFront (codes "sp.") name

abbrev pub FunctionNamesAreFree : ModuleContent → Type 0
FunctionNamesAreFree content = All (λ func. ¬ IsExternalName func.name) content.funcs

-- in the source form no value and no label is named as an inserted one, and no line is one of the
-- rewritten form
pub record IsSource (func : Function) : Type 0 where
  pub values : All (λ given. ¬ IsInsertedName (definition_name given)) (definitions_of func)
  pub labels : All (λ block. ¬ IsInsertedName block.name) func.blocks
  pub lines : All (λ inst. is_rewritten inst.op ≡ false) (instructions_of func.blocks)
