use Rattle.std.proofs.Common.{◌+◌, Option, sym, subst, take}
use Rattle.std.proofs.lemmas.Option.{slice_get-get_or}
use Rattle.list_laws.proofs.Contents.{contains_get}
use Rattle.statepoint_verify.specs.declared.faults.Fault.{Fault}
use Rattle.statepoint_verify.specs.Least.{IsLeastOf, IsMarkedAs}
use Rattle.statepoint_verify.proofs.LeastLemmas.{marked_empty, marked_step, marked_end}
use Rattle.statepoint_verify.proofs.least.least_of.Goals as goal

pub loop-mark-init : goal.loop-mark-init
loop-mark-init c = marked_empty c.args.func.now c.args.marks.now

pub loop-mark-preserved : goal.loop-mark-preserved
loop-mark-preserved c =
    let marks = c.args.marks.now in
    let k = c.loop-mark.mark-index in
    subst (λ (found : Option Fault). IsLeastOf (IsMarkedAs c.args.func.now (take (k + 1) marks)) found) (sym c.earlier-least.ensures)
    (marked_step c.args.func.now marks k _ c.loop-mark.least c.fault_of.result (slice_get-get_or marks k _ c.loop-mark-test.true)
    c.fault_of.ensures.line c.fault_of.ensures.code c.loop-mark.invariant)

pub fault_of-requires-clause-inside : goal.fault_of-requires-clause-inside
fault_of-requires-clause-inside c =
    c.requires.inside _ (contains_get c.args.marks.now c.loop-mark.mark-index _ (slice_get-get_or c.args.marks.now c.loop-mark.mark-index _ c.loop-mark-test.true))

pub returns : goal.returns
returns c = marked_end c.args.func.now c.args.marks.now c.loop-mark.mark-index c.loop-mark.least c.loop-mark-test.false c.loop-mark.invariant
