use Rattle.std.proofs.Common.{refl, ap, map, ◌∙◌}
use Rattle.ir_ast.specs.Funcs.{content_of}
use Rattle.generated_forms.specs.Draws.{state_after}
use Rattle.module_gen.specs.Written.{meant}
use Rattle.module_gen.proofs.DrawLaws.{state_two}
use Rattle.module_gen.proofs.BodyLaws.{function_drawn, functions_more}
use Rattle.module_gen.proofs.funcs.functions.Goals as goal
use Rattle.ir_ast.proofs.FuncLaws.{lines_push}

pub loop-place-init : goal.loop-place-init
unfolding state_after
loop-place-init c = record {
  state = c.from_seed-draws.ensures;
  content = rw c.in_ok-funcs.ensures.items refl;
  lines = rw c.in_ok-funcs.ensures.items refl;
}

pub loop-place-preserved : goal.loop-place-preserved
loop-place-preserved c =
    let so_far = c.loop-place.invariant in
    let drawn =
    function_drawn c.args.seed c.loop-place.place c.loop-place.draws.state c.draw.new.self.state c.draw-constant.new.self.state c.draw.result c.draw-constant.result c.bound.result
    (meant c.numbered-shape.result) so_far.state c.draw.ensures.state c.draw.ensures.number c.numbered-shape.ensures c.bound.ensures.bound c.draw-constant.ensures.state c.draw-constant.ensures.number in
    record {
      state = state_two c.args.seed c.loop-place.place c.loop-place.draws.state c.draw.new.self.state c.draw-constant.new.self.state so_far.state c.draw.ensures.state c.draw-constant.ensures.state;
      content = ap (map content_of) c.in_ok-push.ensures.items
          ∙ functions_more c.args.seed c.loop-place.place c.loop-place.funcs.items c.in_ok-function.field-0 so_far.content (c.in_ok-function.ensures.content ∙ drawn);
      lines = rw c.in_ok-push.ensures.items (lines_push c.loop-place.funcs.items c.in_ok-function.field-0 so_far.lines c.in_ok-function.ensures.lines);
    }
