use Rattle.std.proofs.Common.{◌||◌, false, get_or, sym, ap, ◌∙◌}
use Rattle.ir_ast.specs.Funcs.{content_of}
use Rattle.print_tables.specs.Externals.{calls}
use Rattle.print_tables.proofs.AnyLemmas.{list_any-map}
use Rattle.print_tables.proofs.called.mark_called.Goals as goal

pub returns : goal.returns
unfolding calls
returns c = (
  c.mark_funcs.ensures.0,
  λ place within.
      c.mark_funcs.ensures.1 place within
      ∙ ap (λ more. get_or c.args.called.now place false || more) (sym (list_any-map _ content_of c.args.funcs.now)),
)
