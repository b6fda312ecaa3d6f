use Rattle.ir_lines.proofs.FirstLemmas.{none-first}
use Rattle.ir_lines.proofs.firsts.Firsts.new.Goals as goal

pub returns : goal.returns
returns c = none-first _ c.with_hasher.ensures.empty c.new.ensures.empty
