use Rattle.std.proofs.Common.{◌∙◌, sym, subst}
use Rattle.base_facts.specs.Settled.{Settles}
use Rattle.base_facts.proofs.SettleLemmas.{settles_defined}
use Rattle.base_facts.proofs.settle.settled_given.Goals as goal

pub returns-in-None : goal.returns-in-None
returns-in-None c =
    let func = c.args.func.now.content in
    subst (Settles func c.args.asked) (sym c.settled_defined.ensures)
    (settles_defined func c.args.asked c.args.value c.args.at c.base_within-base_at.result c.requires.place c.requires.pointer c.requires.given (sym c.head_at.ensures ∙ c.in-None.is) c.base_within-base_at.ensures)
