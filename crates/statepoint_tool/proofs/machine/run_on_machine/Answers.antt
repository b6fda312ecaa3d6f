use Rattle.std.proofs.Common.{[]}
use Rattle.statepoint_tool.specs.Taken.{Bytes}
use Rattle.statepoint_tool.proofs.machine.run_on_machine.Goals as goal

pub returns-in-None-clause-works : goal.returns-in-None-clause-works
returns-in-None-clause-works g c = rw c.in-None.is (record { given = Bytes []; may = tt; came = c.run_over_own.ensures.came })

pub returns-in-Some-clause-works : goal.returns-in-Some-clause-works
returns-in-Some-clause-works g c = rw c.in-Some.is c.run_over_file.ensures.works
