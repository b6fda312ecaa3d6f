use Rattle.std.proofs.Common.{◌≡◌, ◌∙◌, [], ◌∷◌, ◌++◌, List, ℕ, ap, sym, subst, append-nil}
use Rattle.std.specs.Prelude.{map, OnOk}
use Rattle.std.specs.List.{All}
use Rattle.std.proofs.lemmas.Result.{on_ok_weaker}
use Rattle.std.proofs.lemmas.List.Elements.{All-head}
use Rattle.ir_ast.specs.Funcs.{LinedFunction}
use Rattle.ir_lines.specs.Notes.{Notes}
use Rattle.ir_lines.specs.Scope.{scope_of}
use Rattle.ir_lines.specs.Sections.{Definition}
use Rattle.ir_lines.specs.Tables.{seen_definition}
use Rattle.ir_lines.specs.Views.{seen_lines}
use Rattle.module_build.specs.Built.{known_with}
use Rattle.module_build.specs.Placed.{IsPlacedFunction}
use Rattle.module_build.proofs.BuiltLemmas.{lined_with}
use Rattle.text_resolve.specs.Built.{FunctionsLost}
use Rattle.text_resolve.specs.Lost.{FunctionLost}
use Rattle.text_resolve.specs.Parts.{headed}
use Rattle.text_resolve.specs.Rows.{rows_of}
use Rattle.text_resolve.proofs.PartedFunctions.{notes-one, notes-none}
use Rattle.text_resolve.proofs.functions.add_line.Goals as goal

pub add_function-requires : goal.add_function-requires
add_function-requires c =
    let P = λ (func : Definition). IsPlacedFunction (known_with c.args.top.now func) func in
    let own = seen_definition c.in-Some.func in
    let is : own ∷ [] ≡ headed c.args.line.now (seen_lines c.args.body.now) = c.in-Some.ensures in
    All-head P own [] (subst (λ (funcs : List Definition). All P funcs) (sym is) c.requires)

pub returns-in-Some-clause-funcs : goal.returns-in-Some-clause-funcs
returns-in-Some-clause-funcs c =
    let is : seen_definition c.in-Some.func ∷ [] ≡ headed c.args.line.now (seen_lines c.args.body.now) = c.in-Some.ensures in
    subst (λ (funcs : List Definition). OnOk c.add_function.result (c.add_function.new.made.items ≡ c.args.made.now.items ++ map (lined_with c.args.top.now) funcs)) is
    c.add_function.ensures.funcs

pub returns-in-Some-clause-cases : goal.returns-in-Some-clause-cases
returns-in-Some-clause-cases c =
    let is : seen_definition c.in-Some.func ∷ [] ≡ headed c.args.line.now (seen_lines c.args.body.now) = c.in-Some.ensures in
    subst (λ (funcs : List Definition). OnOk c.add_function.result (c.add_function.new.cases.items
    ≡ c.args.cases.now.items ++ map (λ (func : Definition). rows_of func.body) funcs)) is c.add_function.ensures.cases

pub returns-in-Some-clause-noted : goal.returns-in-Some-clause-noted
returns-in-Some-clause-noted c = λ lines top.
    let is : seen_definition c.in-Some.func ∷ [] ≡ headed c.args.line.now (seen_lines c.args.body.now) = c.in-Some.ensures in
    on_ok_weaker c.add_function.result
    (λ noted. subst (λ (funcs : List Definition). Notes c.args.first.now.found c.add_function.new.first.found (FunctionsLost c.args.form lines funcs)) is
    (notes-one (λ (func : Definition). FunctionLost c.args.form (scope_of lines func) func) (seen_definition c.in-Some.func) c.args.first.now.found c.add_function.new.first.found noted))
    (c.add_function.ensures.noted lines top)

pub returns-in-None-clause-funcs : goal.returns-in-None-clause-funcs
returns-in-None-clause-funcs c =
    let is : [] ≡ headed c.args.line.now (seen_lines c.args.body.now) = c.in-None.ensures in
    subst (λ (funcs : List Definition). c.args.made.now.items ≡ c.args.made.now.items ++ map (lined_with c.args.top.now) funcs) is
    (sym (append-nil c.args.made.now.items))

pub returns-in-None-clause-cases : goal.returns-in-None-clause-cases
returns-in-None-clause-cases c =
    let is : [] ≡ headed c.args.line.now (seen_lines c.args.body.now) = c.in-None.ensures in
    subst (λ (funcs : List Definition). c.args.cases.now.items ≡ c.args.cases.now.items ++ map (λ (func : Definition). rows_of func.body) funcs) is
    (sym (append-nil c.args.cases.now.items))

pub returns-in-None-clause-noted : goal.returns-in-None-clause-noted
returns-in-None-clause-noted c = λ lines top.
    let is : [] ≡ headed c.args.line.now (seen_lines c.args.body.now) = c.in-None.ensures in
    subst (λ (funcs : List Definition). Notes c.args.first.now.found c.args.first.now.found (FunctionsLost c.args.form lines funcs)) is
    (notes-none (λ (func : Definition). FunctionLost c.args.form (scope_of lines func) func) c.args.first.now.found)
