use Rattle.std.proofs.Common.{sym}
use Rattle.ir_machine.proofs.traces.add_task.Goals as goal

pub returns : goal.returns
returns c = rw (sym (c.return_address-address.ensures c.args.program.now.map.whole c.args.program.now.plan.now c.args.program.now.bound)) at c.add_changes.ensures
