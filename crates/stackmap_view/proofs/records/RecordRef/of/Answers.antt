use Rattle.std.proofs.Common.{arith}
use Rattle.stackmap_view.proofs.RecordLaws.{record-room}
use Rattle.stackmap_view.proofs.records.RecordRef.of.Goals as goal

pub split_at-requires : goal.split_at-requires
split_at-requires c = omega (arith, record-room c.args.bytes.now c.requires.spelled)

pub read_u32-offset-requires : goal.read_u32-offset-requires
read_u32-offset-requires c = omega (arith, record-room c.args.bytes.now c.requires.spelled, c.split_at.ensures.back_len)

pub invariant_of-result : goal.invariant_of-result
invariant_of-result c = record { spelled = c.requires.spelled; room = omega (arith, record-room c.args.bytes.now c.requires.spelled) }
