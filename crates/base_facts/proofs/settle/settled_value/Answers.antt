use Rattle.std.proofs.Common.{◌≡◌, sym, subst, Option, ℕ, false}
use Rattle.pair_facts.specs.Lines.{lines_at, group_in}
use Rattle.pair_facts.specs.Pairs.{after_group}
use Rattle.pair_facts.specs.Uses.{entries_at}
use Rattle.base_facts.specs.declared.facts.Pointer.{Pointer}
use Rattle.base_facts.specs.Facts.{operand_in, base_in}
use Rattle.fact_tables.specs.Tables.{FindsWithin}
use Rattle.base_facts.proofs.SettleLemmas.{value_lost}
use Rattle.base_facts.proofs.settle.settled_value.Goals as goal

pub settled_before-requires-clause-lost : goal.settled_before-requires-clause-lost
settled_before-requires-clause-lost c = λ head is.
    let lines = lines_at c.args.func.now.content c.args.asked.block in
    let none = subst (λ (o : Option ℕ). FindsWithin lines c.args.asked.place c.args.value o) c.in-None.is c.within.ensures in
    subst (λ (p : Pointer). after_group (entries_at lines head) (group_in lines head) (operand_in p) (base_in c.args.asked.base) ≡ false) (sym c.requires.pointer)
    (value_lost lines c.args.asked.place c.args.value head (base_in c.args.asked.base) c.requires.outside is none)
