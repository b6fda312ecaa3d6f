use Rattle.std.proofs.Common.{◌∙◌, sym, subst}
use Rattle.std.proofs.lemmas.Bool.{false≢true}
use Rattle.ir_cfg.specs.Graphs.{Graph}
use Rattle.ir_cfg.specs.Paths.{Reached}
use Rattle.base_facts.proofs.ClosingLemmas.{reached_arrives, unreached_along}
use Rattle.base_facts.proofs.closing.ask_if_reached.Goals as goal

pub ask_along-requires-clause-reached : goal.ask_along-requires-clause-reached
ask_along-requires-clause-reached c =
    reached_arrives c.args.func.now.content c.args.from.0
    (subst (λ (g : Graph). Reached g c.args.from.0) c.requires.edges (c.reached.ensures.0 c.if-reached.true))

pub returns-else-reached : goal.returns-else-reached
returns-else-reached c =
    unreached_along c.args.func.now.content c.args.number c.args.fact c.args.from.0 c.args.asked.now c.requires.asked
    (λ reached. false≢true (sym c.if-reached.false ∙ c.reached.ensures.1 (subst (λ (g : Graph). Reached g c.args.from.0) (sym c.requires.edges) reached)))
