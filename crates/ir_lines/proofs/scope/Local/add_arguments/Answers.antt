use Rattle.std.proofs.Common.{◌≡◌, ◌∙◌, ◌<◌, ◌≤◌, ◌+◌, ap, sym, subst, [], ◌∷◌, ◌++◌, List, ℕ, length, get_or, take, arith, Vec, Global}
use Rattle.std.specs.Prelude.{map, None}
use Rattle.line_parts.specs.declared.readings.Argument.{Argument}
use Rattle.line_parts.specs.declared.readings.TypeWord.TheVariants as spelled
use Rattle.line_parts.specs.Types as types
use Rattle.line_parts.specs.Lists.{Named}
use Rattle.std.proofs.lemmas.List.{length-map, take_all}
use Rattle.line_parts.specs.Seen.{seen_type, seen_argument}
use Rattle.ir_lines.specs.Sections.{Naming, arguments_named}
use Rattle.ir_lines.specs.Again.{FoundAfter, IsBadName, named_values}
use Rattle.ir_lines.specs.Notes.{Notes}
use Rattle.ir_lines.specs.Tables.{AddsValues}
use Rattle.ir_lines.proofs.TableLemmas.{Values, values-none, values-more, same-length, length-arguments, argument-push}
use Rattle.std.proofs.lemmas.List.{get_or-map}
use Rattle.ir_lines.proofs.scope.Local.add_arguments.Goals as goal

pub loop-i-init : goal.loop-i-init
loop-i-init c =
    let v = values-none c.args.form c.args.self.now c.args.first.now.found in
    record { added = v.added; noted = v.noted }

pub bounds-names-i : goal.bounds-names-i
bounds-names-i c =
    let args = map seen_argument c.args.arguments.now in
    let same : length c.args.names.now ≡ length (arguments_named c.args.line [] args)
    = same-length (λ (v : Vec ℕ Global). v.items) (λ (one : Naming). one.name) c.args.names.now (arguments_named c.args.line [] args) c.requires in
    let as_many : length (arguments_named c.args.line [] args) ≡ length args = length-arguments c.args.line [] args in
    let mapped : length args ≡ length c.args.arguments.now = length-map c.args.arguments.now seen_argument in
    omega arith

pub loop-i-preserved : goal.loop-i-preserved
loop-i-preserved c =
    let i = c.loop-i.i in
    let arguments = c.args.arguments.now in
    let names = c.args.names.now in
    let vec = c.index-names-i.result in
    let args = map seen_argument arguments in
    let all = arguments_named c.args.line [] args in
    let blank : Argument = record { ty = spelled.Void; name = None } in
    let argument = c.index-arguments-i.result in
    let ty = seen_type argument.ty in
    let as_many : length args ≡ length arguments = length-map arguments seen_argument in
    let below : i < length args = omega arith in
    let same : length names ≡ length all = same-length (λ (v : Vec ℕ Global). v.items) (λ (one : Naming). one.name) names all c.requires in
    let inside : i < length names = (let n = length-arguments c.args.line [] args in omega arith) in
    let named : get_or (map (λ (one : Naming). one.name) all) i [] ≡ c.as_slice.result.now
    = ap (λ (xs : List (List ℕ)). get_or xs i []) (sym c.requires) ∙ get_or-map (λ (v : Vec ℕ Global). v.items) names i vec [] inside
    ∙ ap (λ (v : Vec ℕ Global). v.items) (sym c.index-names-i.is) ∙ sym c.as_slice.ensures.value in
    let typed : (get_or args i (seen_argument blank)).ty ≡ ty
    = ap (λ (one : Named). one.ty) (get_or-map seen_argument arguments i argument (seen_argument blank) c.loop-i-test.true)
    ∙ ap (λ (one : Argument). seen_type one.ty) (sym c.index-arguments-i.is) in
    let more : take (i + 1) all ≡ take i all ++ record { line = c.args.line; name = c.as_slice.result.now; ty = ty } ∷ []
    = argument-push c.args.line args i c.as_slice.result.now ty (record { line = 0; name = []; ty = types.Void }) (seen_argument blank) below named typed in
    let before : Values c.args.form c.args.self.now c.loop-i.self c.args.first.now.found c.loop-i.first.found (take i all)
    = record { added = c.loop-i.invariant.added; noted = c.loop-i.invariant.noted } in
    let v = values-more c.args.form c.args.self.now c.loop-i.self c.add_value.new.self c.args.first.now.found c.loop-i.first.found
    c.add_value.new.first.found (take i all) (record { line = c.args.line; name = c.as_slice.result.now; ty = ty } ∷ [])
    (take (i + 1) all) more before c.in_ok-add_value.ensures.added c.in_ok-add_value.ensures.noted in
    record { added = v.added; noted = v.noted }

pub returns-clause-added : goal.returns-clause-added
returns-clause-added c =
    let args = map seen_argument c.args.arguments.now in
    let all : length (arguments_named c.args.line [] args) ≤ c.loop-i.i
    = (let a = length-arguments c.args.line [] args in let b = length-map c.args.arguments.now seen_argument in omega arith) in
    subst (λ (xs : List Naming). AddsValues c.args.self.now c.loop-i.self xs) (take_all c.loop-i.i (arguments_named c.args.line [] args) all)
    c.loop-i.invariant.added

pub returns-clause-noted : goal.returns-clause-noted
returns-clause-noted c =
    let args = map seen_argument c.args.arguments.now in
    let all : length (arguments_named c.args.line [] args) ≤ c.loop-i.i
    = (let a = length-arguments c.args.line [] args in let b = length-map c.args.arguments.now seen_argument in omega arith) in
    subst (λ (xs : List Naming). Notes c.args.first.now.found c.loop-i.first.found (FoundAfter (IsBadName c.args.form) c.args.self.now.values (named_values xs)))
    (take_all c.loop-i.i (arguments_named c.args.line [] args) all) c.loop-i.invariant.noted
