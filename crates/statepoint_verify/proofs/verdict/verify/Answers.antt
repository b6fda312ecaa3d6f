use Rattle.ir_ast.specs.declared.modules.Form.TheVariants.{Rewritten}
use Rattle.ir_cfg.proofs.TypedLemmas.{formed_module}
use Rattle.statepoint_verify.proofs.verdict.verify.Goals as goal

pub least_of_all-requires : goal.least_of_all-requires
least_of_all-requires c = (formed_module Rewritten c.args.target.content c.requires.typed).formed
