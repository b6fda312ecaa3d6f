use Rattle.std.proofs.Common.{List, [], subst}
use Rattle.std.specs.Prelude.{slice_get}
use Rattle.std.specs.Option.{option_map_or}
use Rattle.ir_ast.specs.Funcs.{Function}
use Rattle.object_meaning.specs.Lines.{insts_in}
use Rattle.flat_code.specs.Spots.{AllReady}
use Rattle.test_traps.proofs.FormLemmas.{func_at}
use Rattle.test_traps.proofs.forms.is_source_form.Goals as goal

pub returns : goal.returns
returns c = λ yes func block.
    subst (λ (funcs : List Function). AllReady (option_map_or (λ defined. insts_in defined block) (slice_get funcs func) [])) c.funcs.ensures.content
    (func_at c.funcs.result.now (c.all_funcs.ensures yes) func block)
