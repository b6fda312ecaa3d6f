use Rattle.std.proofs.Common.{◌==◌, ◌∙◌}
use Rattle.std.proofs.lemmas.Bool.{ne_eqb}
use Rattle.map_bytes.specs.Entries.{Entry, entry_at}
use Rattle.stackmap_view.specs.Maps.{stack_map}
use Rattle.stackmap_view.specs.Views.{seen}
use Rattle.stackmap_view.specs.Walks.{records_left}
use Rattle.stackmap_view.proofs.LookLaws.{find-more, find-end}
use Rattle.stackmap_view.proofs.view.MapView.find.Goals as goal

pub returns : goal.returns
returns c =
    let p = λ (entry : Entry). entry.return_address == c.args.return_address in
    record { found = find-end p (records_left c.loop-record.record-iterator) (entry_at (stack_map c.args.self.now) c.args.return_address) c.in-None.ensures.steps.0 c.loop-record.invariant; map = tt }

pub loop-record-preserved : goal.loop-record-preserved
loop-record-preserved c =
    let p = λ (entry : Entry). entry.return_address == c.args.return_address in
    let here = c.in-Some.record in
    find-more p (records_left c.loop-record.record-iterator) (records_left c.next.new.self) (seen here) (entry_at (stack_map c.args.self.now) c.args.return_address) c.in-Some.ensures.steps
    (ne_eqb here.return_address c.args.return_address (λ is. c.if-return_address.false (c.return_address.ensures ∙ is))) c.loop-record.invariant
