use Rattle.std.proofs.Common.{refl, ◌∙◌}
use Rattle.module_gen.proofs.BodyLaws.{few_functions, generated_made}
use Rattle.module_gen.proofs.modules.make.Goals as goal

pub of-requires-clause-few_functions : goal.of-requires-clause-few_functions
of-requires-clause-few_functions c =
    rw c.in_ok-push-2.ensures.items
    (few_functions c.args.seed c.args.size c.in_ok-funcs.funcs.items c.in_ok-main_function.field-0 c.in_ok-funcs.ensures.content c.requires.few)

pub returns-clause-content : goal.returns-clause-content
returns-clause-content c =
    c.of.ensures.content
    ∙ rw c.in_ok-push-2.ensures.items
    (generated_made c.args.seed c.args.size _ c.in_ok-funcs.funcs.items c.in_ok-main_function.field-0 (rw (c.in_ok-push.ensures.items, c.in_ok-layouts.ensures.items, c.in_ok-node.ensures) refl)
    c.in_ok-funcs.ensures.content c.in_ok-main_function.ensures.content)
