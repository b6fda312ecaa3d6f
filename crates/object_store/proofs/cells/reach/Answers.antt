use Rattle.std.proofs.Common.{◌-◌, List, get_or, sym, ap, ◌∙◌, arith}
use Rattle.ir_ast.specs.declared.cells.Cell.{Cell}
use Rattle.ir_ast.specs.Objects.{Pointer}
use Rattle.object_meaning.specs.Accesses.{within}
use Rattle.cell_rows.specs.declared.shapes.Shape.{Shape}
use Rattle.object_store.proofs.CellLemmas.{some_object}
use Rattle.object_store.proofs.cells.reach.Goals as goal

abbrev empty : Shape
empty = record { count = 0; layout = 0; first = 0; cells = 0 }

pub within-requires : goal.within-requires
within-requires c =
    let cells = c.requires (c.args.object - 1) empty (omega arith) in
    rw (c.fields_of-fields.ensures, ← cells.are) cells.few

pub returns : goal.returns
returns c =
    let at : Pointer = record { object = c.args.object; offset = c.args.offset } in
    c.within.ensures
    ∙ ap (λ (fields : List Cell). within at fields c.args.asked (get_or c.args.shapes.now (c.args.object - 1) empty).count) c.fields_of-fields.ensures
    ∙ sym (some_object c.args.layouts.now c.args.shapes.now c.args.asked at empty c.if-object-eq0.false c.if-object-shapes.false)
