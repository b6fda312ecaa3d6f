-- What no source module calls.
use Rattle.std.proofs.Common.{◌≡◌, refl, Bool, true, false, List, [], ◌∷◌}
use Rattle.std.specs.List.{AllByRecursion, Contains, list_any}
use Rattle.std.proofs.lemmas.List.Elements.{recursion_from_All, All-contains_itself}
use Rattle.ir_ast.specs.declared.types.Ty.{Ty}
use Rattle.ir_ast.specs.declared.ops.Callee.{Callee}
use Rattle.ir_ast.specs.declared.ops.Callee.TheVariants as callees
use Rattle.ir_ast.specs.declared.ops.Op.{Op}
use Rattle.ir_ast.specs.declared.ops.Op.TheVariants as ops
use Rattle.ir_ast.specs.Insts.{Instruction}
use Rattle.ir_ast.specs.Blocks.{BasicBlock}
use Rattle.ir_ast.specs.Funcs.{Function}
use Rattle.ir_ast.specs.Modules.{ModuleContent}
use Rattle.ir_cfg.specs.TypedModules.{IsTypedModule}
use Rattle.ir_ast.specs.Lines.{is_rewritten}
use Rattle.ir_ast.specs.Callees.{is_helper}
use Rattle.print_tables.specs.declared.externals.External.TheVariants as externs
use Rattle.print_tables.specs.declared.externals.External.{External}
use Rattle.ir_ast.specs.declared.modules.Form.TheVariants.{Source}
use Rattle.ir_printer.specs.Declarations.{is_callee, is_call_of, calls}
use Rattle.read_back.proofs.BackInsts.{IsPrinted}
use Rattle.read_back.proofs.BackModules.{names_in, printed}

-- the declaration of an external of source modules
abbrev pub is_of_source : External → Bool
is_of_source (externs.New number) = true
is_of_source externs.Print = true
is_of_source externs.Read = true
is_of_source externs.TaskStart = true
is_of_source _ = false

not_helper : (e : External) (callee : Callee) → is_of_source e ≡ false → is_helper callee ≡ false → is_callee e callee ≡ false
not_helper (externs.New number) callee other plain = cc
not_helper externs.Print callee other plain = cc
not_helper externs.Read callee other plain = cc
not_helper externs.TaskStart callee other plain = cc
not_helper externs.Poll callees.Poll other plain = cc
not_helper externs.Poll _ other plain = refl
not_helper externs.Check callees.Check other plain = cc
not_helper externs.Check _ other plain = refl
not_helper externs.Same callees.Same other plain = cc
not_helper externs.Same _ other plain = refl
not_helper externs.StatepointFamily _ other plain = refl
not_helper externs.RelocateFamily _ other plain = refl
not_helper (externs.ResultOf width) _ other plain = refl
not_helper externs.ResultPointer _ other plain = refl

not_called : (e : External) (op : Op) (ty : Ty) → is_of_source e ≡ false → is_rewritten op ≡ false → is_call_of e op ty ≡ false
not_called e (ops.Call callee types) ty other plain = not_helper e callee other plain
not_called e (ops.Statepoint id callee types) ty other plain = cc
not_called e ops.GcResult ty other plain = cc
not_called e ops.GcRelocate ty other plain = cc
not_called e _ ty other plain = refl

none_any : {X : Type 0} (P : X → Type 0) (f : X → Bool) → ((x : X) → P x → f x ≡ false) → (xs : List X) → AllByRecursion P xs → list_any f xs ≡ false
none_any P f each [] all = refl
none_any P f each (x ∷ xs) all = rw (each x all.0) (none_any P f each xs all.1)

abbrev FunctionIsPrinted : ModuleContent → Function → Type 0
FunctionIsPrinted content func = AllByRecursion (λ (block : BasicBlock). AllByRecursion (λ (inst : Instruction). IsPrinted (names_in content func) inst.op inst) block.insts) func.blocks

not_in : (content : ModuleContent) (e : External) → is_of_source e ≡ false → (funcs : List Function) → AllByRecursion (FunctionIsPrinted content) funcs → calls funcs e ≡ false
unfolding calls
not_in content e other funcs all =
    none_any (FunctionIsPrinted content) _ (λ func is.
    none_any (λ (block : BasicBlock). AllByRecursion (λ (inst : Instruction). IsPrinted (names_in content func) inst.op inst) block.insts) _ (λ block is.
    none_any (λ (inst : Instruction). IsPrinted (names_in content func) inst.op inst) (λ inst. is_call_of e inst.op inst.ty) (λ inst is. not_called e inst.op inst.ty other (is.plain refl)) block.insts is) func.blocks is) funcs all

pub each_of : {X : Type 0} (xs : List X) (P : X → Type 0) → ((x : X) → Contains xs x → P x) → AllByRecursion P xs
each_of {X} xs P each = over xs (recursion_from_All (Contains xs) xs (All-contains_itself xs))
  where
    over : (ys : List X) → AllByRecursion (Contains xs) ys → AllByRecursion P ys
    over [] all = tt
    over (y ∷ ys) all = (each y all.0, over ys all.1)

pub not_called_in : (content : ModuleContent) → IsTypedModule Source content → (e : External) → is_of_source e ≡ false → calls content.funcs e ≡ false
not_called_in content source e other =
    not_in content e other content.funcs (each_of content.funcs (FunctionIsPrinted content) (λ func c. printed content source func c))
