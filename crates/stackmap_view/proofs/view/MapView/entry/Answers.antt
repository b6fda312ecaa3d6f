use Rattle.std.proofs.Common.{ap, ◌∙◌}
use Rattle.std.specs.Prelude.{option_map, slice_get, Some, None}
use Rattle.map_bytes.specs.Entries.{Entry, entries}
use Rattle.stackmap_view.specs.Maps.{stack_map}
use Rattle.stackmap_view.specs.Views.{seen}
use Rattle.stackmap_view.specs.Walks.{records_left}
use Rattle.stackmap_view.proofs.LookLaws.{next-seen, entry-end, entry-more}
use Rattle.stackmap_view.proofs.view.MapView.entry.Goals as goal

pub returns-in-None-clause-found : goal.returns-in-None-clause-found
returns-in-None-clause-found c =
    entry-end (records_left c.skipping.records) c.args.index c.skipping.counter (option_map seen None) (slice_get (entries (stack_map c.args.self.now)) c.args.index) c.skipping-test.false
    (next-seen c.skipping.records c.next-2.new.self None c.in-None.ensures.steps) c.skipping.invariant

pub returns-in-Some-clause-found : goal.returns-in-Some-clause-found
returns-in-Some-clause-found c =
    ap (λ (one : Entry). Some one) c.found_in.ensures.same
    ∙ entry-end (records_left c.skipping.records) c.args.index c.skipping.counter (option_map seen (Some c.in-Some.one)) (slice_get (entries (stack_map c.args.self.now)) c.args.index) c.skipping-test.false
    (next-seen c.skipping.records c.next-2.new.self (Some c.in-Some.one) c.in-Some.ensures.steps) c.skipping.invariant

pub skipping-preserved : goal.skipping-preserved
skipping-preserved c =
    entry-more (records_left c.skipping.records) (records_left c.next.new.self) (seen c.in_ok-next.field-0) c.args.index c.skipping.counter (slice_get (entries (stack_map c.args.self.now)) c.args.index)
    c.skipping-test.true c.in_ok-next.ensures.steps c.skipping.invariant
