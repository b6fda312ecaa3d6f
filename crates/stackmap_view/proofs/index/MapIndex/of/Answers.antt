use Rattle.std.proofs.Common.{refl}
use Rattle.map_bytes.specs.Entries.{entries}
use Rattle.stackmap_view.specs.Maps.{stack_map}
use Rattle.stackmap_view.proofs.IndexLaws.{sorted-index, pairs-permuted, pairs-in-order}
use Rattle.stackmap_view.proofs.index.MapIndex.of.Goals as goal

pub returns : goal.returns
returns c =
    let sorted = c.sort_by_address.new.list.items in
    record {
      whole = refl;
      pairs = pairs-permuted (stack_map c.args.view) c.in_ok-list.list.items sorted c.in_ok-list.ensures c.sort_by_address.ensures.permutation;
      sorted = pairs-in-order (entries (stack_map c.args.view)) c.in_ok-list.list.items sorted c.in_ok-list.ensures c.in_ok-sort_by_address.ensures.sorted c.in_ok-sort_by_address.ensures.stable;
    }

pub invariant_of-result : goal.invariant_of-result
invariant_of-result c =
    sorted-index (stack_map c.args.view) c.in_ok-list.list.items c.sort_by_address.new.list.items c.in_ok-list.ensures c.in_ok-sort_by_address.ensures.sorted c.in_ok-sort_by_address.ensures.stable
