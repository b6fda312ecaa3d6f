use Rattle.std.proofs.Common.{◌≤◌, length, rules}
use Rattle.statepoint_tool.proofs.ReadsLaws.{Reads-bytes, Reads-memory}
use Rattle.statepoint_tool.proofs.phases.take.Goals as goal

pub returns-in-Ok-clause-took : goal.returns-in-Ok-clause-took
returns-in-Ok-clause-took g c =
    let within : length c.in-Ok.bytes.items ≤ 16777216 = search rules in
    Reads-bytes c.in-Ok.bytes within (rw c.as_str.ensures at c.in-Ok.ensures.told)

pub returns-in-Err-Memory-clause-took : goal.returns-in-Err-Memory-clause-took
returns-in-Err-Memory-clause-took g c = Reads-memory
