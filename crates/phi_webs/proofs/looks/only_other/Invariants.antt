use Rattle.std.proofs.Common.{take}
use Rattle.phi_webs.proofs.LookLemmas.{Looks}
use Rattle.phi_webs.proofs.looks.only_other.Given as goal

abbrev pub invariant-loop-operand : goal.invariant-loop-operand
invariant-loop-operand l =
    Looks l.fn.ups.items l.ups.items (record { name = l.name; operands = l.operands }) (take l.operand-index l.operands) l.found
