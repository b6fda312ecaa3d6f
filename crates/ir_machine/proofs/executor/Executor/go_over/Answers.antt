use Rattle.machine_lines.proofs.GoingLemmas.{goes_nowhere}
use Rattle.ir_machine.specs.Executors.{machinery, seen}
use Rattle.ir_machine.proofs.executor.Executor.go_over.Goals as goal

pub returns-else-may_stay-clause-over : goal.returns-else-may_stay-clause-over
returns-else-may_stay-clause-over c = goes_nowhere (machinery c.args.program.now) (seen c.args.self.now)
