use Rattle.stackmap_write.specs.ModuleMaps.{map_of}
use Rattle.piece_writer.specs.LinePuts.{told_by}
use Rattle.statepoint_tool.specs.Answers.{sink_seen}
use Rattle.statepoint_tool.specs.Steps.{Go, Then, comes_to}
use Rattle.statepoint_tool.specs.Runners.{module_in}
use Rattle.statepoint_tool.specs.Work.{Executing, ReadingMap}
use Rattle.statepoint_tool.proofs.MachineLaws.{own_map}
use Rattle.statepoint_tool.proofs.WorksLaws.{Came-like}
use Rattle.statepoint_tool.proofs.machine.run_over_own.Goals as goal

pub returns-clause-came : goal.returns-clause-came
returns-clause-came g c =
    let content = (module_in c.args.«module».now).content in
    let bytes = c.in_ok-bytes.bytes.items in
    let next = Executing content c.args.job.now.input.now c.args.job.now.plan.now c.args.job.now.steps c.args.job.now.shows in
    Came-like (Then (ReadingMap bytes) next) (Then (comes_to (Go (map_of content))) next) c.run_over_bytes.result
    (sink_seen (told_by g.O.Sink.written g.O.Sink.puts c.args.out.now) (told_by g.O.Sink.written g.O.Sink.puts c.run_over_bytes.new.out) (g.O.Sink.faults c.args.out.now) (g.O.Sink.faults c.run_over_bytes.new.out))
    (own_map bytes (map_of content) next (rw c.«module».ensures at c.in_ok-bytes.ensures.is_map)) (rw c.deref.ensures.value at c.run_over_bytes.ensures.came)
