use Rattle.std.proofs.Common.{◌<◌, ◌≤◌, get_or, sym, arith, rules}
use Rattle.std.proofs.lemmas.Bool.{lt-ltb, le-ltb}
use Rattle.cell_rows.specs.declared.shapes.Shape.{Shape}
use Rattle.cell_rows.proofs.RowLemmas.{place_is, place_past}
use Rattle.cell_rows.proofs.shapes.place_of.Goals as goal

abbrev empty : Shape
empty = record { count = 0; layout = 0; first = 0; cells = 0 }

pub returns-then-object-shapes : goal.returns-then-object-shapes
returns-then-object-shapes c = sym (place_past c.args.shapes.now c.args.object c.args.cell (omega arith))

pub returns-then-cell-from : goal.returns-then-cell-from
returns-then-cell-from c =
    let first = c.requires.firsts c.args.object empty (omega arith) in
    rw (place_is c.args.shapes.now c.args.object c.args.cell empty (omega arith), lt-ltb c.args.cell (get_or c.args.shapes.now c.args.object empty).cells (let h : c.args.cell < (get_or c.args.shapes.now c.args.object empty).cells = omega arith in h), first) (search rules)

pub returns-else-cell-from : goal.returns-else-cell-from
returns-else-cell-from c =
    rw (place_is c.args.shapes.now c.args.object c.args.cell empty (omega arith), le-ltb c.args.cell (get_or c.args.shapes.now c.args.object empty).cells (let h : (get_or c.args.shapes.now c.args.object empty).cells ≤ c.args.cell = omega arith in h)) (search rules)
