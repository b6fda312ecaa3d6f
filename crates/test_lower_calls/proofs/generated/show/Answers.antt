use Rattle.ir_ast.specs.declared.modules.Form.TheVariants.{Source}
use Rattle.ir_cfg.proofs.TypedLemmas.{formed_module}
use Rattle.generated_forms.specs.Modules.{generated}
use Rattle.generated_source.proofs.Whole.{generated_is_source}
use Rattle.test_lower_calls.proofs.generated.show.Goals as goal

pub print-requires : goal.print-requires
print-requires c =
    rw c.in_ok-module.ensures.content (formed_module Source (generated c.args.seed c.args.size) (generated_is_source c.args.seed c.args.size c.requires.few).typed)
