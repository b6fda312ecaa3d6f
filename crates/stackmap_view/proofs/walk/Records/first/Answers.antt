use Rattle.std.proofs.Common.{◌-◌, ◌∷◌, sym, ap, ◌∙◌, arith}
use Rattle.map_bytes.specs.Maps.{counted_records}
use Rattle.map_bytes.specs.Reads.{functions_read, record_read, records_read}
use Rattle.map_bytes.specs.Entries.{entries_of}
use Rattle.stackmap_view.specs.Owners.{owned}
use Rattle.stackmap_view.specs.Views.{seen}
use Rattle.stackmap_view.proofs.WalkLaws.{walk-step}
use Rattle.stackmap_view.proofs.walk.Records.first.Goals as goal

pub returns : goal.returns
returns c =
    let walk = c.args.self.now in
    let owner = c.with_record-owner.result in
    let rest = c.split_record.result.1.now in
    let one = seen c.of-record.result in
    walk-step (owned walk.owner) (functions_read owner.functions_left owner.functions.now) owner.address owner.frame_bytes owner.left c.behind_one.result.left walk.count walk.records.now rest one
    (record_read c.split_record.result.0.now) c.with_record-owner.ensures.same c.behind_one.ensures.left c.requires c.split_record.ensures.rest c.of-record.ensures c.split_record.ensures.same
    ∙ ap (λ functions. one ∷ entries_of functions (records_read (walk.count - 1) rest)) (sym c.behind_one.ensures.same)

pub invariant_of-others : goal.invariant_of-others
invariant_of-others c = record {
  counted = omega (arith, ap counted_records c.behind_one.ensures.same, c.with_record-owner.ensures.counted, c.behind_one.ensures.left, c.args.self.now.counted);
  spelled = c.split_record.ensures.others;
}
