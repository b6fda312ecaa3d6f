use Rattle.std.proofs.Common.{◌∙◌, ap, arith, length, length-append}
use Rattle.list_laws.proofs.Places.{drop_item}
use Rattle.ssa_rebuild.proofs.RowLemmas.{starts_on, owns_on, room_more}
use Rattle.ssa_rebuild.proofs.numbers.Numbers.of.Goals as goal

pub loop-row-preserved : goal.loop-row-preserved
loop-row-preserved c =
    let rows = c.args.rows.now in
    let i = c.loop-row.row-index in
    let row = c.row-item.result in
    let split = drop_item rows i row c.loop-row-test.true c.row-item.is in
    let grown = ap length c.in_ok-next.ensures.starts ∙ length-append c.loop-row.numbers.starts.items _ in
    record {
      starts = starts_on c.loop-row.next c.in_ok-next.next _ _ row c.as_slice.result.now _ c.loop-row.numbers.starts.items c.push_row.new.numbers.starts.items
          split c.as_slice.ensures.value c.in_ok-next.ensures.next c.loop-row.invariant.starts c.in_ok-next.ensures.starts;
      own = owns_on c.loop-row.next c.in_ok-next.next _ _ row c.as_slice.result.now _ c.loop-row.numbers.own.items c.push_row.new.numbers.own.items
          split c.as_slice.ensures.value c.in_ok-next.ensures.next c.loop-row.invariant.own c.in_ok-next.ensures.own;
      whole = omega (arith, grown, c.loop-row.invariant.whole);
      room = room_more rows i c.loop-row.next row c.as_slice.result.now c.loop-row.numbers.starts.items c.push_row.new.numbers.starts.items c.loop-row-test.true c.row-item.is
          c.as_slice.ensures.value c.loop-row.invariant.whole c.in_ok-next.ensures.starts c.in_ok-next.ensures.room c.loop-row.invariant.room;
    }
