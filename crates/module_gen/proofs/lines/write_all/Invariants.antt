use Rattle.std.proofs.Common.{◌≡◌, map, take}
use Rattle.module_gen.specs.Written.{written}
use Rattle.module_gen.proofs.lines.write_all.Given as goal

abbrev pub invariant-loop-line : goal.invariant-loop-line
invariant-loop-line l = l.insts.items ≡ map written (take l.line-index l.lines)
