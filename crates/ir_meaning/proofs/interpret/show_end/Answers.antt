use Rattle.std.proofs.Common.{[]}
use Rattle.object_meaning.specs.Texts.{function_name}
use Rattle.piece_writer.specs.LinePuts.{told_by}
use Rattle.piece_writer.proofs.LineLaws.{puts_none, puts_same}
use Rattle.ir_meaning.specs.Machines.{state_of}
use Rattle.ir_meaning.specs.References.{last_lines}
use Rattle.ir_meaning.proofs.RunLemmas.{untrapped_lines}
use Rattle.ir_meaning.proofs.interpret.show_end.Goals as goal

pub returns-in_default-clause-by_one_put : goal.returns-in_default-clause-by_one_put
returns-in_default-clause-by_one_put g c = λ short.
    let now = told_by g.O.Sink.written g.O.Sink.puts c.args.out.now in
    puts_same now now [] (last_lines c.args.code.now c.args.end c.args.machine.now)
    (untrapped_lines (function_name c.args.code.now.content) c.args.end (state_of c.args.code.now c.args.machine.now) c.in_default.not-Trap) (puts_none now)
