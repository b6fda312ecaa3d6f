use Rattle.std.proofs.Common.{subst}
use Rattle.ir_ast.specs.Funcs.{Function}
use Rattle.ir_cfg.specs.Graphs.{Graph, graph_of}
use Rattle.phi_webs.specs.Settled.{AnswersBecomes}
use Rattle.thin_phis.specs.Runs.{IsThinned, web_in}
use Rattle.thin_phis.proofs.VersionLaws.{least_versions, same_versions}
use Rattle.thin_phis.proofs.functions.thinned.Goals as goal

pub returns-then-all_stay : goal.returns-then-all_stay
returns-then-all_stay c =
    let func = c.args.marked.now.before in
    let old = c.args.versions in
    let ends = c.in_ok-numbers.numbers in
    let settled : AnswersBecomes (web_in old.joins.items old.rows.items (graph_of func) old.entries.items 0 func.blocks) ends =
    subst (λ (f : Function). AnswersBecomes (web_in old.joins.items old.rows.items (graph_of func) old.entries.items 0 f.blocks) ends) c.func-func.ensures.value
    (subst (λ (g : Graph). AnswersBecomes (web_in old.joins.items old.rows.items g old.entries.items 0 c.func-func.result.now.content.blocks) ends) c.requires.cfg c.in_ok-numbers.ensures) in
    same_versions func c.args.marked.now.table old c.requires.joins c.requires.rows c.requires.entries c.func-func.ensures.ready.reached ends settled (c.all_stay.ensures c.if-all_stay.true)

pub returns : goal.returns
returns c =
    let func = c.args.marked.now.before in
    let old = c.args.versions in
    let ends = c.in_ok-numbers.numbers in
    let settled : AnswersBecomes (web_in old.joins.items old.rows.items (graph_of func) old.entries.items 0 func.blocks) ends =
    subst (λ (f : Function). AnswersBecomes (web_in old.joins.items old.rows.items (graph_of func) old.entries.items 0 f.blocks) ends) c.func-func.ensures.value
    (subst (λ (g : Graph). AnswersBecomes (web_in old.joins.items old.rows.items g old.entries.items 0 c.func-func.result.now.content.blocks) ends) c.requires.cfg c.in_ok-numbers.ensures) in
    let thin : IsThinned func (graph_of func) ends old c.in_ok-after.after =
    subst (λ (f : Function). IsThinned f (graph_of func) ends old c.in_ok-after.after) c.func-func.ensures.value
    (subst (λ (g : Graph). IsThinned c.func-func.result.now.content g ends old c.in_ok-after.after) c.requires.cfg c.in_ok-after.ensures) in
    least_versions func c.args.marked.now.table old c.in_ok-after.after c.requires.joins c.requires.rows c.requires.entries c.func-func.ensures.ready.reached ends settled thin
