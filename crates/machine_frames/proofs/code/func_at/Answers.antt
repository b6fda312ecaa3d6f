use Rattle.std.specs.Prelude.{Some, None}
use Rattle.flat_code.proofs.CodeLemmas.{func_got}
use Rattle.machine_frames.proofs.code.func_at.Goals as goal

pub returns-in-None : goal.returns-in-None
returns-in-None c = func_got c.args.«module».now.content.funcs c.funcs.result.now c.args.place None c.funcs.ensures.content c.in-None.ensures

pub returns-in-Some : goal.returns-in-Some
returns-in-Some c = func_got c.args.«module».now.content.funcs c.funcs.result.now c.args.place (Some c.in-Some.func.now) c.funcs.ensures.content c.in-Some.ensures
