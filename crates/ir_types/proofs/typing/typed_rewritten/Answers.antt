use Rattle.std.proofs.Common.{IfOk, subst}
use Rattle.ir_ast.specs.declared.modules.Form.{Form}
use Rattle.ir_cfg.specs.TypedModules.{IsModuleOf}
use Rattle.ir_lines.specs.Views.{seen_lines}
use Rattle.ir_types.specs.Answers.{Answers}
use Rattle.ir_types.proofs.typing.typed_rewritten.Goals as goal

pub returns-clause-answers : goal.returns-clause-answers
returns-clause-answers c = subst (λ (form : Form). Answers form (seen_lines c.args.raw.lines) c.checked.result) c.requires c.checked.ensures.answers

pub returns-clause-target : goal.returns-clause-target
returns-clause-target c = subst (λ (form : Form). IfOk c.checked.result (λ whole. IsModuleOf form whole.content)) c.requires c.checked.ensures.module
