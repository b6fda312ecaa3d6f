use Rattle.base_facts.specs.declared.facts.Wanted.TheVariants as bases
use Rattle.base_facts.proofs.SettleLemmas.{null_decides}
use Rattle.base_facts.proofs.settle.settled_null.Goals as goal

pub returns-in-Any : goal.returns-in-Any
returns-in-Any c = null_decides c.args.func.now.content c.args.asked bases.Any c.requires.pointer c.in-Any.is (λ pairs sound. sound.null_any)

pub returns-in-Null : goal.returns-in-Null
returns-in-Null c = null_decides c.args.func.now.content c.args.asked bases.Null c.requires.pointer c.in-Null.is (λ pairs sound. sound.null_own)
