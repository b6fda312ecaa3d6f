use Rattle.std.proofs.Common.{◌≡◌, ◌∙◌, ◌<◌, [], ◌∷◌, ◌++◌, List, ℕ, refl, ap, sym, subst, length, get_or, append_assoc, append-nil, arith}
use Rattle.std.specs.Prelude.{map}
use Rattle.std.specs.List.{All}
use Rattle.std.specs.Global.{Vec}
use Rattle.std.proofs.lemmas.Iterator.Adapters.{YieldsList-from_vec}
use Rattle.std.proofs.lemmas.Iterator.Consumers.{YieldsList-turn, YieldsList-end}
use Rattle.std.proofs.lemmas.List.{length-append, map-append}
use Rattle.ir_ast.specs.Funcs.{LinedFunction}
use Rattle.ir_reader.specs.declared.raw.NumberedReading.{NumberedReading}
use Rattle.ir_lines.specs.Notes.{Notes}
use Rattle.ir_lines.specs.Scope.{scope_of}
use Rattle.ir_lines.specs.Sections.{Definition}
use Rattle.ir_lines.specs.Views.{seen_lines}
use Rattle.module_build.specs.Built.{known_with}
use Rattle.module_build.specs.Placed.{IsPlacedFunction}
use Rattle.module_build.proofs.BuiltLemmas.{lined_with}
use Rattle.text_resolve.specs.Built.{FunctionsLost}
use Rattle.text_resolve.specs.Lost.{FunctionLost}
use Rattle.text_resolve.specs.Parts.{headed, parted}
use Rattle.text_resolve.specs.Rows.{rows_of}
use Rattle.text_resolve.proofs.PartedFunctions.{parted-none, parted-push, parted-at, notes-none, notes-behind, behind-more}
use Rattle.text_resolve.proofs.functions.resolve_functions.Goals as goal

pub loop-body-init : goal.loop-body-init
loop-body-init c = record {
  at = refl;
  made = sym (ap (λ (fs : List Definition). c.args.made.now.items ++ map (lined_with c.args.top.now) fs) (parted-none c.args.outer.now) ∙ append-nil c.args.made.now.items);
  rows = sym (ap (λ (fs : List Definition). c.args.cases.now.items ++ map (λ (func : Definition). rows_of func.body) fs) (parted-none c.args.outer.now) ∙ append-nil c.args.cases.now.items);
  noted = λ lines top.
      subst (λ (fs : List Definition). Notes c.args.first.now.found c.args.first.now.found (FunctionsLost c.args.form lines fs)) (sym (parted-none c.args.outer.now))
      (notes-none (λ (func : Definition). FunctionLost c.args.form (scope_of lines func) func) c.args.first.now.found);
}

pub bounds-outer-place : goal.bounds-outer-place
bounds-outer-place c =
    let turn = YieldsList-turn (YieldsList-from_vec c.args.bodies.items (cc) (cc)) c.loop-body.yielded c.loop-body.body-iterator c.loop-body.yielded_by c.next.result c.next.new.self c.in-Some.body c.in-Some.is c.next.ensures.steps in
    omega (arith, turn.0, c.loop-body.invariant.at, c.requires.bodies)

pub add_line-requires : goal.add_line-requires
add_line-requires c =
    let turn = YieldsList-turn (YieldsList-from_vec c.args.bodies.items (cc) (cc)) c.loop-body.yielded c.loop-body.body-iterator c.loop-body.yielded_by c.next.result c.next.new.self c.in-Some.body c.in-Some.is c.next.ensures.steps in
    subst (λ (body : List NumberedReading). All (λ (func : Definition). IsPlacedFunction (known_with c.args.top.now func) func) (headed c.index-outer-place.result (seen_lines body)))
    (sym c.as_slice.ensures.value)
    (parted-at (λ (func : Definition). IsPlacedFunction (known_with c.args.top.now func) func) c.args.outer.now c.args.bodies.items (length c.loop-body.yielded) c.in-Some.body c.index-outer-place.result
    c.requires.placed (omega (arith, turn.0, c.requires.bodies)) turn.0
    (subst (λ (n : ℕ). c.index-outer-place.result ≡ get_or c.args.outer.now n c.index-outer-place.result) c.loop-body.invariant.at c.index-outer-place.is) turn.1)

pub loop-body-preserved : goal.loop-body-preserved
loop-body-preserved c =
    let turn = YieldsList-turn (YieldsList-from_vec c.args.bodies.items (cc) (cc)) c.loop-body.yielded c.loop-body.body-iterator c.loop-body.yielded_by c.next.result c.next.new.self c.in-Some.body c.in-Some.is c.next.ensures.steps in
    let yielded = c.loop-body.yielded in
    let body = c.in-Some.body in
    let line = c.index-outer-place.result in
    let here = headed line (seen_lines body.items) in
    let slice = ap (λ (ls : List NumberedReading). headed line (seen_lines ls)) c.as_slice.ensures.value in
    let push : parted c.args.outer.now (yielded ++ body ∷ []) ≡ parted c.args.outer.now yielded ++ here
    = parted-push c.args.outer.now yielded body line (omega (arith, turn.0, c.requires.bodies))
    (subst (λ (n : ℕ). line ≡ get_or c.args.outer.now n line) c.loop-body.invariant.at c.index-outer-place.is) in
    record {
      at = omega (arith, c.loop-body.invariant.at, length-append yielded (body ∷ []));
      made = behind-more (lined_with c.args.top.now) c.args.made.now.items c.loop-body.made.items c.add_line.new.made.items (parted c.args.outer.now yielded) here
          (parted c.args.outer.now (yielded ++ body ∷ [])) c.loop-body.invariant.made
          (c.in_ok-add_line.ensures.funcs ∙ ap (λ (fs : List Definition). c.loop-body.made.items ++ map (lined_with c.args.top.now) fs) slice) push;
      rows = behind-more (λ (func : Definition). rows_of func.body) c.args.cases.now.items c.loop-body.cases.items c.add_line.new.cases.items (parted c.args.outer.now yielded) here
          (parted c.args.outer.now (yielded ++ body ∷ [])) c.loop-body.invariant.rows
          (c.in_ok-add_line.ensures.cases ∙ ap (λ (fs : List Definition). c.loop-body.cases.items ++ map (λ (func : Definition). rows_of func.body) fs) slice) push;
      noted = λ lines top.
          subst (λ (fs : List Definition). Notes c.args.first.now.found c.add_line.new.first.found (FunctionsLost c.args.form lines fs)) (sym push)
          (notes-behind (λ (func : Definition). FunctionLost c.args.form (scope_of lines func) func) (parted c.args.outer.now yielded) here
          c.args.first.now.found c.loop-body.first.found c.add_line.new.first.found (c.loop-body.invariant.noted lines top)
          (subst (λ (fs : List Definition). Notes c.loop-body.first.found c.add_line.new.first.found (FunctionsLost c.args.form lines fs)) slice
          (c.in_ok-add_line.ensures.noted lines top)));
    }
