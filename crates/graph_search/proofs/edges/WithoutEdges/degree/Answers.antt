use Rattle.std.proofs.Common.{◌∙◌, Bool, cond, length, [], ap, sym, arith}
use Rattle.graph_search.specs.Edges.{targets_of}
use Rattle.graph_search.proofs.WithoutLemmas.{length-without, targets-without}
use Rattle.graph_search.proofs.edges.WithoutEdges.degree.Goals as goal

pub returns-then-is_marked : goal.returns-then-is_marked
returns-then-is_marked g c =
    let rows = g.E.Edges.rows c.args.self.now.edges.now in
    let left = targets-without c.args.self.now.blocked.now rows c.args.node in
    let marked = sym c.is_marked.ensures ∙ c.if-is_marked.true in
    sym (ap length (left ∙ ap (λ (b : Bool). cond b [] (targets_of rows c.args.node)) marked))

pub degree-requires : goal.degree-requires
degree-requires g c =
    let same = length-without c.args.self.now.blocked.now (g.E.Edges.rows c.args.self.now.edges.now) in
    omega (arith, same, c.requires)

pub returns : goal.returns
returns g c =
    let rows = g.E.Edges.rows c.args.self.now.edges.now in
    let left = targets-without c.args.self.now.blocked.now rows c.args.node in
    let marked = sym c.is_marked.ensures ∙ c.if-is_marked.false in
    c.degree.ensures ∙ sym (ap length (left ∙ ap (λ (b : Bool). cond b [] (targets_of rows c.args.node)) marked))
