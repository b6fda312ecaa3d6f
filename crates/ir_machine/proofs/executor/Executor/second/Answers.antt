use Rattle.ir_machine.proofs.executor.Executor.second.Goals as goal

pub returns : goal.returns
returns c = rw c.as_slice.ensures.value at (c.second_word.ensures c.args.inst.now c.requires)
