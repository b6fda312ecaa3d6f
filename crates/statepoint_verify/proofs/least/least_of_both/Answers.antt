use Rattle.std.proofs.Common.{Option, sym, subst}
use Rattle.statepoint_verify.specs.declared.faults.Fault.{Fault}
use Rattle.statepoint_verify.specs.Least.{IsLeastOf, IsFaultIn}
use Rattle.statepoint_verify.proofs.MarkLemmas.{text_inside}
use Rattle.statepoint_verify.proofs.JudgeLemmas.{pair_inside}
use Rattle.statepoint_verify.proofs.LeastLemmas.{least_in_function}
use Rattle.statepoint_verify.proofs.least.least_of_both.Goals as goal

pub least_of-first-requires-clause-inside : goal.least_of-first-requires-clause-inside
least_of-first-requires-clause-inside c = pair_inside c.args.func.now.content c.args.by_pairs.now c.requires.pairs

pub least_of-second-requires-clause-inside : goal.least_of-second-requires-clause-inside
least_of-second-requires-clause-inside c = text_inside c.args.func.now.content c.args.by_text.now c.requires.text

pub returns : goal.returns
returns c =
    subst (λ (found : Option Fault). IsLeastOf (IsFaultIn c.args.func.now) found) (sym c.earlier.ensures)
    (least_in_function c.args.func.now c.args.by_pairs.now c.args.by_text.now c.least_of-first.result c.least_of-second.result c.requires.pairs c.requires.text
    c.least_of-first.ensures c.least_of-second.ensures)
