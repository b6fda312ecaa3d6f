use Rattle.std.proofs.Common.{◌≡◌, ◌/◌, ◌%◌, inl, inr, length, get_or, sym, refl, ◌∙◌, true, false}
use Rattle.std.specs.Prelude.{◌==◌}
use Rattle.ir_ast.specs.declared.cells.Cell.TheVariants.{I64}
use Rattle.ir_ast.specs.Cells.{kind_of}
use Rattle.ir_ast.specs.Objects.{Pointer}
use Rattle.object_store.proofs.SizeLemmas.{no_cell, some_cell}
use Rattle.object_store.proofs.cells.within.Goals as goal

pub returns-then-offset-ne0 : goal.returns-then-offset-ne0
returns-then-offset-ne0 c =
    sym (no_cell (record { object = c.args.object; offset = c.args.offset }) c.args.fields.now c.args.asked c.args.count (inl c.if-offset-ne0.true))

pub returns-then-cell-cells : goal.returns-then-cell-cells
returns-then-cell-cells c =
    sym (no_cell (record { object = c.args.object; offset = c.args.offset }) c.args.fields.now c.args.asked c.args.count (inr c.if-cell-cells.true))

pub returns-then-is_same : goal.returns-then-is_same
returns-then-is_same c =
    let at : Pointer = record { object = c.args.object; offset = c.args.offset } in
    let same : (kind_of (get_or c.args.fields.now (c.args.offset / 8 % length c.args.fields.now) I64) == kind_of c.args.asked) ≡ true = sym c.is_same.ensures ∙ c.if-is_same.true in
    rw (some_cell at c.args.fields.now c.args.asked c.args.count c.if-offset-ne0.false c.if-cell-cells.false, same) refl

pub returns-else-is_same : goal.returns-else-is_same
returns-else-is_same c =
    let at : Pointer = record { object = c.args.object; offset = c.args.offset } in
    let same : (kind_of (get_or c.args.fields.now (c.args.offset / 8 % length c.args.fields.now) I64) == kind_of c.args.asked) ≡ false = sym c.is_same.ensures ∙ c.if-is_same.false in
    rw (some_cell at c.args.fields.now c.args.asked c.args.count c.if-offset-ne0.false c.if-cell-cells.false, same) refl
