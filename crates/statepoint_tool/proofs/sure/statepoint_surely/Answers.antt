use Rattle.std.proofs.Common.{None, map, string_bytes}
use Rattle.tool_io.specs.NamedFiles.{sure_contents_of}
use Rattle.piece_writer.specs.LinePuts.{SinkTold}
use Rattle.statepoint_tool.proofs.SureLaws.{complete_or_memory, no_read_fault, no_write_fault}
use Rattle.statepoint_tool.proofs.sure.statepoint_surely.Goals as goal

abbrev untold : SinkTold
untold = record { written = None; puts = None }

pub returns-clause-never_read_fault : goal.returns-clause-never_read_fault
returns-clause-never_read_fault c =
    no_read_fault (map string_bytes c.args.words.now) (sure_contents_of c.args.files.now.files) untold untold untold untold c.statepoint.result c.statepoint.ensures.facts

pub returns-clause-never_write_fault : goal.returns-clause-never_write_fault
returns-clause-never_write_fault c =
    no_write_fault (map string_bytes c.args.words.now) (sure_contents_of c.args.files.now.files) untold untold untold untold c.statepoint.result c.statepoint.ensures.facts

pub returns-clause-complete : goal.returns-clause-complete
returns-clause-complete c =
    complete_or_memory (map string_bytes c.args.words.now) (sure_contents_of c.args.files.now.files) untold untold untold untold c.statepoint.result c.statepoint.ensures.facts
