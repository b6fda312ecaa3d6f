use Rattle.std.proofs.Common.{◌≡◌, ◌∙◌, ◌+◌, List, length, arith, sym, ap}
use Rattle.std.specs.Prelude.{slice_get, Some, ◌↔◌, IsTrue}
use Rattle.std.specs.Option.{option_map}
use Rattle.std.specs.Borrow.{Bor}
use Rattle.std.proofs.lemmas.List.{length-map}
use Rattle.ir_ast.specs.Insts.{Instruction}
use Rattle.ir_ast.specs.Faults.GroupShape.{number_at, ShapeOf}
use Rattle.ir_lines.proofs.NoteLemmas.{not-iff}
use Rattle.ir_verify.specs.Bodies.{insts_of, line_in}
use Rattle.body_tables.specs.Bodies.{given_by}
use Rattle.ir_verify.specs.FunctionFaults.{ShapeAt}
use Rattle.ir_verify.specs.Groups.{seen_open}
use Rattle.ir_verify.proofs.Founds.{notes-none, notes-step, notes-all, notes-at_line}
use Rattle.ir_verify.proofs.GroupLemmas.{opened-start, opened-more, number-start, number-more, number-below, shape-iff}
use Rattle.ir_verify.proofs.groups.note_shapes.Goals as goal
use Rattle.list_laws.proofs.Places.{seen_at}

pub loop-place-init : goal.loop-place-init
loop-place-init c = record {
  number = ap length c.args-args.ensures.value ∙ number-start c.args.func.now.content;
  opened = opened-start c.args.func.now.content;
  noted = notes-none (ShapeAt c.args.func.now) (insts_of c.args.func.now) c.args.first.now.found;
}

pub overflow_add-number : goal.overflow_add-number
overflow_add-number c =
    let func = c.args.func.now in
    let place = c.loop-place.place in
    let inst = c.index-insts-place.result.now in
    let at : slice_get (insts_of func) place ≡ Some inst
    = ap (λ (xs : List Instruction). slice_get xs place) (sym c.requires.insts)
    ∙ seen_at (λ (one : Bor Instruction). one.now) c.args.insts.now place c.index-insts-place.result c.loop-place-test.true c.index-insts-place.is in
    let size : length (insts_of func) ≡ length c.args.insts.now = ap length (sym c.requires.insts) ∙ length-map c.args.insts.now (λ (one : Bor Instruction). one.now) in
    let more = number-more func.content place inst at in
    let below = number-below func.content (place + 1) in
    let given : c.count_given-number.result ≡ length (given_by inst) = c.count_given-number.ensures in
    omega (arith, more, below, given, size, c.loop-place.invariant.number, c.requires.few, c.args-args.ensures.small.few_arguments)

pub loop-place-preserved : goal.loop-place-preserved
loop-place-preserved c =
    let func = c.args.func.now in
    let place = c.loop-place.place in
    let inst = c.index-insts-place.result.now in
    let held = option_map seen_open c.loop-place.held in
    let at : slice_get (insts_of func) place ≡ Some inst
    = ap (λ (xs : List Instruction). slice_get xs place) (sym c.requires.insts)
    ∙ seen_at (λ (one : Bor Instruction). one.now) c.args.insts.now place c.index-insts-place.result c.loop-place-test.true c.index-insts-place.is in
    let given : c.count_given-number.result ≡ length (given_by inst) = c.count_given-number.ensures in
    let shape = shape-iff func.content place inst c.args.types.now held c.requires.types c.loop-place.invariant.opened in
    let exact : IsTrue c.in_shape.result ↔ ShapeOf func.content place inst inst.op
    = ((λ t. shape.0 (c.in_shape.ensures.0 t)), (λ s. c.in_shape.ensures.1 (shape.1 s))) in
    let f = c.args.first.now.found in
    let g = c.loop-place.first.found in
    let h = c.note_if.new.self.found in
    record {
      number = ap (λ n. n + c.count_given-number.result) c.loop-place.invariant.number ∙ ap (λ n. number_at func.content place + n) given
          ∙ sym (number-more func.content place inst at);
      opened = opened-more func.content place c.loop-place.number inst held at (sym c.loop-place.invariant.number) c.loop-place.invariant.opened
          (option_map seen_open c.open_behind-held.result) c.open_behind-held.ensures;
      noted = notes-step (ShapeAt func) (insts_of func) place inst f g h at c.loop-place.invariant.noted
          (notes-at_line c.line_of.result (line_in func place) 18 _ _ g h c.line_of.ensures
          (not-iff (ShapeOf func.content place inst inst.op) c.in_shape.result exact) c.note_if.ensures);
    }

pub returns : goal.returns
returns c =
    let func = c.args.func.now in
    let size : length (insts_of func) ≡ length c.args.insts.now = ap length (sym c.requires.insts) ∙ length-map c.args.insts.now (λ (one : Bor Instruction). one.now) in
    notes-all (ShapeAt func) (insts_of func) c.loop-place.place c.args.first.now.found c.loop-place.first.found (omega (arith, size)) c.loop-place.invariant.noted
