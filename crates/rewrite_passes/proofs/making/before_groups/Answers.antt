use Rattle.std.proofs.Common.{◌<◌, subst, arith}
use Rattle.std.specs.Prelude.{IfNone}
use Rattle.std.proofs.lemmas.Iterator.Adapters.{YieldsList-from_vec}
use Rattle.std.proofs.lemmas.Iterator.Consumers.{YieldsList-so_far, YieldsList-turn}
use Rattle.base_forms.specs.Polls.{placed}
use Rattle.rewrite_passes.specs.Before.{relocates_of}
use Rattle.rewrite_passes.proofs.SumLaws.{sum_within}
use Rattle.rewrite_passes.proofs.making.before_groups.Goals as goal

pub returns-in-None-rest-clause-many : goal.returns-in-None-rest-clause-many
returns-in-None-rest-clause-many c =
    let far = YieldsList-so_far (YieldsList-from_vec c.args.funcs.items (cc) (cc)) c.loop-func.yielded c.loop-func.func-iterator c.loop-func.yielded_by in
    let turn = YieldsList-turn (YieldsList-from_vec c.args.funcs.items (cc) (cc)) c.loop-func.yielded c.loop-func.func-iterator c.loop-func.yielded_by c.next.result c.next.new.self c.in-Some.func c.in-Some.is c.next.ensures.steps in
    let within = sum_within (λ func. relocates_of (placed func)) c.args.funcs.items c.loop-func.yielded c.in-Some.func far turn in
    let past : c.loop-func.left < relocates_of (placed c.in-Some.func.content) =
    subst (λ rest. IfNone rest (c.loop-func.left < relocates_of (placed c.in-Some.func.content))) c.in-None-rest.is c.in_ok-made.ensures.past in
    omega (arith, within, past, c.loop-func.invariant.few)
