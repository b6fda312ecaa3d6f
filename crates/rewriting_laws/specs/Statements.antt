-- What is proved of the rewritten module.
use Rattle.std.specs.Prelude.{true, ◌≡◌, ℕ, ℤ, ◌<◌, ◌≤◌, List, [], length, Option, Some, slice_get, slice_index_or}
use Rattle.ir_ast.specs.declared.types.Ty.{Ty}
use Rattle.ir_ast.specs.declared.types.Ty.TheVariants.{Void}
use Rattle.ir_ast.specs.declared.ops.Callee.{Callee}
use Rattle.ir_ast.specs.declared.ops.Op.TheVariants.{Call}
use Rattle.ir_ast.specs.declared.ops.Operand.{Operand}
use Rattle.ir_ast.specs.Funcs.{Function}
use Rattle.ir_ast.specs.Modules.{ModuleContent}
use Rattle.object_meaning.specs.Lines.{Line, register_count}
use Rattle.object_meaning.specs.Outcomes.{Outcome}
use Rattle.object_meaning.specs.TargetRuns.{TargetGives}
use Rattle.rewriting_forms.specs.Numbered.{lines_at}
use Rattle.rewriting_forms.specs.Liveness.{PhisAgree, Live, is_live, live_table}
use Rattle.rewriting_forms.specs.Names.{Naming, naming_of}
use Rattle.rewriting_forms.specs.Rewritten.{Choice, names_of, place_in, spelled, rewritten_module, rewritten_module_by}
use Rattle.rewriting_laws.specs.Laws.{Fits, IsPlain, IsReached}
use Rattle.rewriting_laws.specs.Related.{Rewriting, ArgumentsFit}

abbrev pub no_function : Function
no_function = record { name = []; answer = Void; args = []; blocks = [] }

abbrev pub func_of : ModuleContent → ℕ → Function
func_of content g = slice_index_or content.funcs g no_function

abbrev pub rewriting_by : Function → List Operand → Naming → ℕ → Rewriting
rewriting_by func table naming room = record {
  func = func;
  table = table;
  naming = naming;
  live = live_table func table;
  number = place_in (names_of func table naming);
  text = spelled func (names_of func table naming);
  room = room;
  now_room = length (names_of func table naming);
}

-- the functions of a module, each with a naming chosen for it
abbrev pub rewritings_by : ModuleContent → (ℕ → List Operand) → Choice → ℕ → Rewriting
rewritings_by content tables choose g =
    rewriting_by (func_of content g) (tables g) (choose g (func_of content g) (tables g)) (register_count content g)

abbrev pub rewritings : ModuleContent → (ℕ → List Operand) → ℕ → Rewriting
rewritings content tables = rewritings_by content tables (λ g. naming_of)

-- a module before liveness
pub record IsBefore (content : ModuleContent) (tables : ℕ → List Operand) : Type 0 where
  pub plain : (g : ℕ) → IsPlain (func_of content g) (register_count content g)
  pub graph : (g : ℕ) → IsReached (func_of content g)
  pub few_arguments : (g : ℕ) → length (func_of content g).args ≤ register_count content g
  pub arguments : (g b k : ℕ) (line : Line) (callee : Callee) (types : List Ty) → slice_get (lines_at (func_of content g) b) k ≡ Some line
      → line.inst.op ≡ Call callee types → ArgumentsFit (rewritings content tables) callee line.inst.operands

-- the rewritten module gives what the module before liveness gives: lines, end, function, steps, events, accesses and objects
abbrev pub RewritingKeeps : Type 0
RewritingKeeps = (content : ModuleContent) (tables : ℕ → List Operand) → IsBefore content tables
    → (input : List ℤ) (go : ℕ → Option ℕ) (bound : ℕ) (outcome : Outcome)
    → TargetGives content input go bound outcome → TargetGives (rewritten_module content tables) input go bound outcome

-- and the other way round
abbrev pub RewritingAdds : Type 0
RewritingAdds = (content : ModuleContent) (tables : ℕ → List Operand) → IsBefore content tables
    → (input : List ℤ) (go : ℕ → Option ℕ) (bound : ℕ) (outcome : Outcome)
    → TargetGives (rewritten_module content tables) input go bound outcome → TargetGives content input go bound outcome

-- namings of the functions of a module by which names fit at every edge, with inserted phis at blocks of the functions
pub record HaveFittingNames (content : ModuleContent) (tables : ℕ → List Operand) (choose : Choice) : Type 0 where
  pub fits : (g : ℕ) → Fits (func_of content g) (tables g) (choose g (func_of content g) (tables g)) (live_table (func_of content g) (tables g))
  pub inside : (g b v : ℕ) → (choose g (func_of content g) (tables g)).joins b v ≡ true → b < length (func_of content g).blocks

-- whichever of them is chosen, the module under them gives what the module before liveness gives
abbrev pub FittingKeeps : Type 0
FittingKeeps = (content : ModuleContent) (tables : ℕ → List Operand) (choose : Choice) → IsBefore content tables → HaveFittingNames content tables choose
    → (input : List ℤ) (go : ℕ → Option ℕ) (bound : ℕ) (outcome : Outcome)
    → TargetGives content input go bound outcome → TargetGives (rewritten_module_by content tables choose) input go bound outcome

abbrev pub FittingAdds : Type 0
FittingAdds = (content : ModuleContent) (tables : ℕ → List Operand) (choose : Choice) → IsBefore content tables → HaveFittingNames content tables choose
    → (input : List ℤ) (go : ℕ → Option ℕ) (bound : ℕ) (outcome : Outcome)
    → TargetGives (rewritten_module_by content tables choose) input go bound outcome → TargetGives content input go bound outcome

-- the test of liveness is exact
pub record IsExact (func : Function) (table : List Operand) (b k v : ℕ) : Type 0 where
  pub sound : is_live func table b k v ≡ true → Live func table v b k
  pub complete : Live func table v b k → is_live func table b k v ≡ true

abbrev pub LiveIsExact : Type 0
LiveIsExact = (func : Function) (table : List Operand) → PhisAgree func → (b k v : ℕ) → IsExact func table b k v
