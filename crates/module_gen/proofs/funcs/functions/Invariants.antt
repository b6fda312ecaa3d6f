use Rattle.std.proofs.Common.{◌≡◌, ◌*◌, map}
use Rattle.std.specs.List.{range_with_len}
use Rattle.ir_ast.specs.Funcs.{content_of, lines_of}
use Rattle.ir_cfg.specs.Unreached.{zeros_of}
use Rattle.generated_forms.specs.Draws.{state_after}
use Rattle.generated_forms.specs.Modules.{function_at}
use Rattle.module_gen.proofs.funcs.functions.Given as goal

abbrev pub invariant-loop-place : goal.invariant-loop-place
invariant-loop-place l = record {
  state : l.draws.state ≡ state_after l.seed (2 * l.place);
  content : map content_of l.funcs.items ≡ map (function_at l.seed) (range_with_len 0 l.place);
  lines : map lines_of l.funcs.items ≡ map zeros_of (map content_of l.funcs.items);
}
