use Rattle.std.proofs.Common.{arith}
use Rattle.ir_lines.proofs.FirstLemmas.{list-first}
use Rattle.ir_lines.proofs.names.Names.add.Goals as goal

pub invariant_of-self-2 : goal.invariant_of-self-2
invariant_of-self-2 c =
    list-first c.self.inside.list.items c.reserve.new.self.items c.push_reserved.new.self.items c.args.name c.len.result c.self.inside.firsts c.add.new.self
    c.self.invariant c.in_ok-reserve.ensures.items c.push_reserved.ensures.items (omega (arith, c.len.ensures, c.reserve.new.self.ok.0)) c.in_ok-is_new.ensures.added
