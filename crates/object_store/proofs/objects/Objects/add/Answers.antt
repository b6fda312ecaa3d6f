use Rattle.std.proofs.Common.{◌*◌, List, length, refl, ap, ◌∙◌, arith}
use Rattle.std.proofs.lemmas.List.{length_push}
use Rattle.ir_ast.specs.declared.cells.Cell.{Cell}
use Rattle.ir_ast.specs.Objects.{Object}
use Rattle.cell_rows.specs.declared.shapes.Shape.{Shape}
use Rattle.object_store.specs.Stored.{Store, objects_of, HasCells}
use Rattle.object_store.proofs.CellLemmas.{object_added, laid_added, full_is, not_full_is, count_is}
use Rattle.object_store.proofs.objects.Objects.add.Goals as goal

pub returns-in_default-clause-made : goal.returns-in_default-clause-made
returns-in_default-clause-made c =
    let objects : List Object = objects_of c.self.inside.shapes.items c.self.inside.words.items in (
      rw (← c.self.view_is) (full_is c.self.inside.layouts.now objects c.args.layout c.args.count c.self.inside.used c.fields_of-fields.result.now
          c.self.invariant.used_is c.fields_of-fields.ensures c.in_default.ensures.none),
      refl,
    )

pub invariant_of-self-2 : goal.invariant_of-self-2
invariant_of-self-2 c =
    let shape : Shape = record { count = c.args.count; layout = c.args.layout; first = c.len.result; cells = c.in-Some.cells } in
    let some = c.in-Some.ensures.some in
    let has : HasCells c.self.inside.layouts.now shape = record {
      are = some.0 ∙ ap (λ (fs : List Cell). c.args.count * length fs) c.fields_of-fields.ensures;
      few = omega (arith, some.1);
    } in
    rw (c.in_ok-push_object.ensures.shapes, c.in_ok-push_object.ensures.words, c.bytes_of.ensures, c.fields_of-fields.ensures)
    (laid_added c.self.inside.layouts.now c.self.inside.shapes.items c.self.inside.words.items c.self.inside.used shape c.self.invariant has (omega arith) some.1)

pub returns-clause-made : goal.returns-clause-made
returns-clause-made c =
    let objects : List Object = objects_of c.self.inside.shapes.items c.self.inside.words.items in
    let shape : Shape = record { count = c.args.count; layout = c.args.layout; first = c.len.result; cells = c.in-Some.cells } in
    let some = c.in-Some.ensures.some in
    let are = some.0 ∙ ap (λ (fs : List Cell). c.args.count * length fs) c.fields_of-fields.ensures in
    let added = object_added c.self.inside.layouts.now c.self.inside.shapes.items shape c.self.inside.words.items c.self.invariant.laid.whole are in
    let pushed = ap length c.in_ok-push_object.ensures.shapes ∙ length_push c.self.inside.shapes.items shape in
    let counted = count_is c.self.inside.shapes.items c.self.inside.words.items in
    rw (← c.self.view_is) (
      not_full_is c.self.inside.layouts.now objects c.args.layout c.args.count c.self.inside.used c.in-Some.cells c.fields_of-fields.result.now
          c.self.invariant.used_is c.fields_of-fields.ensures some.0 some.1,
      omega arith,
      rw (c.in_ok-push_object.ensures.shapes, c.in_ok-push_object.ensures.words, c.fields_of-fields.ensures) (ap (λ (os : List Object). let s : Store = record { layouts = c.self.inside.layouts.now; objects = os } in s) added),
    )
