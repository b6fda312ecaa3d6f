use Rattle.std.proofs.Common.{◌≡◌, map, length}
use Rattle.std.specs.List.{AllZip}
use Rattle.ir_ast.specs.Funcs.{content_of, lines_of}
use Rattle.ir_cfg.specs.Unreached.{DropsUnreached, zeros_of}
use Rattle.ir_cfg.proofs.unreached.all_without.Given as goal

abbrev pub invariant-loop-func : goal.invariant-loop-func
invariant-loop-func l = record {
  functions : AllZip DropsUnreached (map content_of l.yielded) (map content_of l.kept.items);
  lines : map lines_of l.kept.items ≡ map zeros_of (map content_of l.kept.items);
  count : length l.kept.items ≡ length l.yielded;
}
