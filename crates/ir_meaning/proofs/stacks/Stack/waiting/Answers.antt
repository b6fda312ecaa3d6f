use Rattle.std.proofs.Common.{rules, take}
use Rattle.waiting_frames.proofs.FrameLemmas.{waiting_count}
use Rattle.ir_meaning.proofs.stacks.Stack.waiting.Goals as goal

pub returns : goal.returns
returns c = rw (← c.self.view_is, waiting_count c.self.inside.saved.items (take c.self.inside.base c.self.inside.registers.items)) (search rules)
