use Rattle.std.proofs.Common.{◌≡◌, map, length}
use Rattle.ir_ast.specs.Funcs.{content_of, lines_of}
use Rattle.ir_cfg.specs.Unreached.{zeros_of}
use Rattle.base_forms.specs.Polls.{placed}
use Rattle.poll_place.proofs.polls.place_all.Given as goal

abbrev pub invariant-loop-func : goal.invariant-loop-func
invariant-loop-func l = record {
  content : map content_of l.after.items ≡ map placed (map content_of l.yielded);
  lines : map lines_of l.after.items ≡ map zeros_of (map content_of l.after.items);
  count : length l.after.items ≡ length l.yielded;
}
