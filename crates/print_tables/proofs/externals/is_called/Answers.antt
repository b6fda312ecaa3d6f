use Rattle.std.proofs.Common.{◌∙◌, sym}
use Rattle.ir_ast.specs.Funcs.{content_of}
use Rattle.print_tables.specs.Externals.{calls}
use Rattle.print_tables.proofs.AnyLemmas.{list_any-map}
use Rattle.print_tables.proofs.externals.is_called.Goals as goal

pub returns : goal.returns
unfolding calls
returns c = c.any_calls.ensures ∙ sym (list_any-map _ content_of c.args.funcs.now)
