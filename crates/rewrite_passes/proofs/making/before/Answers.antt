use Rattle.std.proofs.Common.{◌≡◌, ◌+◌, ◌<◌, subst}
use Rattle.std.specs.Prelude.{IfNone, IfOk, IfSome}
use Rattle.ir_ast.specs.Funcs.{Function}
use Rattle.rewrite_passes.specs.Before.{made_of, relocates_of}
use Rattle.rewrite_passes.proofs.making.before.Goals as goal

pub returns-clause-made : goal.returns-clause-made
returns-clause-made c =
    subst (λ (func : Function). IfOk c.with_tables.result (λ made. made.0 ≡ made_of func)) c.in_ok-polled.ensures.content c.with_tables.ensures.made

pub returns-clause-within : goal.returns-clause-within
returns-clause-within c =
    subst (λ (func : Function). IfOk c.with_tables.result (λ made. IfSome made.1 (λ rest. rest + relocates_of func ≡ c.args.left))) c.in_ok-polled.ensures.content
    c.with_tables.ensures.within

pub returns-clause-past : goal.returns-clause-past
returns-clause-past c =
    subst (λ (func : Function). IfOk c.with_tables.result (λ made. IfNone made.1 (c.args.left < relocates_of func))) c.in_ok-polled.ensures.content
    c.with_tables.ensures.past
