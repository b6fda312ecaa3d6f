use Rattle.std.proofs.Common.{rules}
use Rattle.tool_io.proofs.AppendLaws.{AppendsFront-take}
use Rattle.tool_io.proofs.mem_sink.MemSinkSink.put.Goals as goal

pub returns-in-Some-clause-err : goal.returns-in-Some-clause-err
returns-in-Some-clause-err c = AppendsFront-take _ _ _ c.min.result (search rules)
