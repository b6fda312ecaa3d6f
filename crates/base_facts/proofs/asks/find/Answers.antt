use Rattle.std.proofs.Common.{◌≡◌, ◌∙◌, true, false, sym, subst}
use Rattle.std.proofs.lemmas.Bool.{false≢true}
use Rattle.ir_cfg.specs.Graphs.{Graph}
use Rattle.ir_cfg.specs.Paths.{Reached}
use Rattle.base_facts.specs.Asked.{IsReached}
use Rattle.base_facts.proofs.StepLemmas.{fact_stands_at}
use Rattle.base_facts.proofs.ClosingLemmas.{reached_arrives}
use Rattle.base_facts.proofs.FinalLemmas.{found_unreached, found_none, found_fact}
use Rattle.base_facts.proofs.asks.find.Goals as goal
use Rattle.std.proofs.lemmas.Result.{IfOk-weaker}

pub returns-then-not-reached : goal.returns-then-not-reached
returns-then-not-reached c =
    let off : c.reached.result ≡ false = cc (c.if-not-reached.true) in
    found_unreached c.args.func.now.content c.args.ask c.args.asked.now c.requires.asked
    (λ reached. false≢true (sym off ∙ c.reached.ensures.1 (subst (λ (g : Graph). Reached g c.args.ask.block.0) (sym c.requires.edges) reached)))

pub find_fact-requires-clause-reached : goal.find_fact-requires-clause-reached
find_fact-requires-clause-reached c =
    let func = c.args.func.now.content in
    let on : c.reached.result ≡ true = cc (c.if-not-reached.false) in
    let reached = reached_arrives func c.args.ask.block.0 (subst (λ (g : Graph). Reached g c.args.ask.block.0) c.requires.edges (c.reached.ensures.0 on)) in
    let at = fact_stands_at c.args.ask.block.0 c.args.ask.place c.args.ask.pointer c.args.ask.base c.in-Some.fact (sym c.fact_at.ensures ∙ c.in-Some.is) in
    subst (IsReached func) (sym at.block_is) reached

pub returns-in-None : goal.returns-in-None
returns-in-None c =
    let func = c.args.func.now.content in
    let on : c.reached.result ≡ true = cc (c.if-not-reached.false) in
    let reached = reached_arrives func c.args.ask.block.0 (subst (λ (g : Graph). Reached g c.args.ask.block.0) c.requires.edges (c.reached.ensures.0 on)) in
    found_none func c.args.ask c.args.asked.now c.requires.asked reached (sym c.fact_at.ensures ∙ c.in-None.is)

pub returns-in-Some : goal.returns-in-Some
returns-in-Some c =
    let func = c.args.func.now.content in
    let on : c.reached.result ≡ true = cc (c.if-not-reached.false) in
    let reached = reached_arrives func c.args.ask.block.0 (subst (λ (g : Graph). Reached g c.args.ask.block.0) c.requires.edges (c.reached.ensures.0 on)) in
    IfOk-weaker c.find_fact.result _ _
    (λ found has. found_fact func c.args.ask c.in-Some.fact found c.args.asked.now c.find_fact.new.asked reached (sym c.fact_at.ensures ∙ c.in-Some.is) has) c.find_fact.ensures
