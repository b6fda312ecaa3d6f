use Rattle.std.proofs.Common.{Some, ap}
use Rattle.tool_io.proofs.AppendLaws.{concat-add}
use Rattle.tool_io.proofs.noted_sink.NotedSinkSink.put.Goals as goal

pub returns-in-Ok-clause-ok : goal.returns-in-Ok-clause-ok
returns-in-Ok-clause-ok c = rw c.in-Ok.ensures.ok (ap Some (concat-add c.args.self.now.pieces c.args.bytes.now))
