use Rattle.std.proofs.Common.{◌≡◌, false, subst}
use Rattle.pair_facts.specs.Pairs.{at_entry}
use Rattle.pair_facts.proofs.PathLaws.{arrives_reached}
use Rattle.base_facts.specs.Facts.{operand_in, base_in}
use Rattle.base_facts.specs.Asked.{MissesFact}
use Rattle.base_facts.proofs.ClosingLemmas.{one_fact, misses_entry}
use Rattle.base_facts.proofs.closing.expand_front.Goals as goal
use Rattle.base_facts.proofs.closing.expand_front.Goals.{else-fact-eq0-via-then-fact-eq0+else-not-holds_at_entry, else-fact-eq0-via-else-fact-eq0}

pub fail-requires-clause-misses : goal.fail-requires-clause-misses
fail-requires-clause-misses c = λ own is.
    let func = c.args.func.now.content in
    let none : at_entry func (operand_in c.args.fact.pointer) (base_in c.args.fact.base) ≡ false = cc (c.holds_at_entry.ensures, c.if-not-holds_at_entry.true) in
    subst (MissesFact func) (one_fact c.args.asked.now c.args.number c.args.fact own c.requires.stands is) (misses_entry func c.args.fact c.requires.front c.if-fact-eq0.true none)

pub source_of-requires-clause-reached : goal.source_of-requires-clause-reached
source_of-requires-clause-reached c =
    let reached = c.requires.asked.reached c.args.number c.args.fact c.requires.stands in
    arrives_reached c.args.func.now.content c.args.fact.block reached.0 reached.1

pub ask_edges-requires-clause-entry : goal.ask_edges-requires-clause-entry
ask_edges-requires-clause-entry c = λ entry. elim c.else-fact-eq0.branch [
  | else-fact-eq0-via-then-fact-eq0+else-not-holds_at_entry w ↦ cc (w.holds_at_entry.ensures, w.if-not-holds_at_entry.false)
  | else-fact-eq0-via-else-fact-eq0 w ↦ absurd (w.if-fact-eq0.false entry)
]
