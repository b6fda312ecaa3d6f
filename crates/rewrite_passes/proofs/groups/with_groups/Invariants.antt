use Rattle.std.proofs.Common.{◌≡◌, map, length}
use Rattle.ir_ast.specs.Funcs.{content_of, lines_of}
use Rattle.ir_cfg.specs.Unreached.{zeros_of}
use Rattle.rewrite_passes.specs.Before.{rewritten_of}
use Rattle.rewrite_passes.proofs.groups.with_groups.Given as goal

abbrev pub invariant-loop-before : goal.invariant-loop-before
invariant-loop-before l = record {
  content : map content_of l.after.items ≡ map rewritten_of l.yielded;
  lines : map lines_of l.after.items ≡ map zeros_of (map content_of l.after.items);
  count : length l.after.items ≡ length l.yielded;
}
