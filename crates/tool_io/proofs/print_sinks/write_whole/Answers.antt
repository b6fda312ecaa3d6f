use Rattle.tool_io.proofs.KnownLaws.{takes_more}
use Rattle.tool_io.proofs.print_sinks.write_whole.Goals as goal

pub loop-rest-preserved : goal.loop-rest-preserved
loop-rest-preserved g c =
    let so_far = c.loop-rest.invariant in
    takes_more _ so_far.0 _ c.in-Ok.count _ _ _ so_far.1 so_far.2 c.in-Ok.ensures.bytes
