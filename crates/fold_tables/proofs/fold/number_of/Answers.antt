use Rattle.std.proofs.Common.{◌≡◌, ◌+◌, ◌-◌, length, ap, arith}
use Rattle.std.proofs.lemmas.Option.{get_or_from_slice_get}
use Rattle.fold_tables.specs.Counts.{stay_count}
use Rattle.fold_tables.proofs.CountLaws.{count_few, count_past}
use Rattle.fold_tables.proofs.fold.number_of.Goals as goal

pub returns-then-place-count : goal.returns-then-place-count
returns-then-place-count c =
    get_or_from_slice_get c.args.counts.now c.args.value (stay_count c.args.table.now c.args.value) 0 (c.requires.each c.args.value (omega arith))

pub overflow_add-result : goal.overflow_add-result
overflow_add-result c =
    let table = c.args.table.now in
    let last = get_or_from_slice_get c.args.counts.now (length table) (stay_count table (length table)) 0 (c.requires.each (length table) (omega arith)) in
    omega (arith, last, count_few table (length table))

pub returns-else-place-count : goal.returns-else-place-count
returns-else-place-count c =
    let table = c.args.table.now in
    let last = get_or_from_slice_get c.args.counts.now (length table) (stay_count table (length table)) 0 (c.requires.each (length table) (omega arith)) in
    let e : length table + (c.args.value - length table) ≡ c.args.value = omega arith in
    omega (arith, last, count_past table (c.args.value - length table), ap (stay_count table) e)
