use Rattle.std.proofs.Common.{◌∙◌, ap, sym}
use Rattle.std.specs.Option.{option_map}
use Rattle.list_laws.proofs.Contents.{all_at}
use Rattle.ir_ast.specs.declared.modules.Form.TheVariants.{Rewritten}
use Rattle.ir_ast.specs.Formed.{IsFormed}
use Rattle.ir_cfg.proofs.TypedLemmas.{formed_module}
use Rattle.test_places.proofs.modules.first_answered.Goals as goal

pub all_answered-requires : goal.all_answered-requires
all_answered-requires c =
    all_at IsFormed c.args.target.now.content.funcs 0 c.in-Some.func.now.content (formed_module Rewritten c.args.target.now.content c.requires.typed).formed
    (sym c.func_at.ensures ∙ ap (option_map (λ func. func.now.content)) c.in-Some.is)
