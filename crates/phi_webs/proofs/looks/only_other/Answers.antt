use Rattle.std.proofs.Common.{ℕ, ◌+◌, ◌<◌, List, length, take, Option, ap, sym, ◌∙◌, subst, arith}
use Rattle.std.proofs.lemmas.List.{take_all, take_more}
use Rattle.phi_webs.specs.Forests.{up_of}
use Rattle.phi_webs.specs.Settled.{phi_of, EndIsNoted}
use Rattle.phi_webs.proofs.LookLemmas.{none_if_gone, looks_none, looks_more, two_noted, look_some, look_none, contains_item, contains_front}
use Rattle.phi_webs.proofs.looks.only_other.Goals as goal

pub returns-then-up-name-clause-none : goal.returns-then-up-name-clause-none
returns-then-up-name-clause-none c =
    none_if_gone c.args.ups.now.items (phi_of c.args.phi)
    (λ h. c.if-up-name.true (c.up.ensures ∙ ap (λ (ups : List ℕ). up_of ups c.args.phi.name) c.deref.ensures.value ∙ h))

pub loop-operand-init : goal.loop-operand-init
loop-operand-init c =
    looks_none c.args.ups.now.items (phi_of c.args.phi)
    (sym (ap (λ (ups : List ℕ). up_of ups c.args.phi.name) c.deref.ensures.value) ∙ sym c.up.ensures ∙ c.if-up-name.false)

pub returns-in-None-clause-none : goal.returns-in-None-clause-none
returns-in-None-clause-none c =
    let below : c.loop-operand.operand-index < length c.args.phi.operands.now = omega arith in
    two_noted c.args.ups.now.items c.loop-operand.ups.items (phi_of c.args.phi)
    (take c.loop-operand.operand-index c.args.phi.operands.now) c.loop-operand.found _ c.end_of-end.result
    c.loop-operand.invariant
    (λ m within. contains_front c.args.phi.operands.now c.loop-operand.operand-index m within)
    (contains_item c.args.phi.operands.now c.loop-operand.operand-index 0 below)
    c.end_of-end.ensures.end
    (subst (λ (r : Option (Option ℕ)). EndIsNoted c.args.phi.name c.loop-operand.found c.end_of-end.result r) c.in-None.is c.with_end.ensures)

pub loop-operand-preserved : goal.loop-operand-preserved
loop-operand-preserved c =
    let below : c.loop-operand.operand-index < length c.args.phi.operands.now = omega arith in
    looks_more c.args.ups.now.items c.loop-operand.ups.items c.end_of-end.new.ups.items (phi_of c.args.phi)
    (take c.loop-operand.operand-index c.args.phi.operands.now)
    (take (c.loop-operand.operand-index + 1) c.args.phi.operands.now)
    _ c.end_of-end.result c.loop-operand.found c.in-Some.next
    c.loop-operand.invariant
    c.end_of-end.ensures.keeps
    c.end_of-end.ensures.end
    (subst (λ (r : Option (Option ℕ)). EndIsNoted c.args.phi.name c.loop-operand.found c.end_of-end.result r) c.in-Some.is c.with_end.ensures)
    (take_more c.args.phi.operands.now c.loop-operand.operand-index 0 below)

pub returns-clause-some : goal.returns-clause-some
returns-clause-some c =
    look_some c.args.ups.now.items c.loop-operand.ups.items (phi_of c.args.phi)
    (take c.loop-operand.operand-index c.args.phi.operands.now) c.loop-operand.found c.loop-operand.invariant
    (take_all c.loop-operand.operand-index c.args.phi.operands.now (omega arith))

pub returns-clause-none : goal.returns-clause-none
returns-clause-none c =
    look_none c.args.ups.now.items c.loop-operand.ups.items (phi_of c.args.phi)
    (take c.loop-operand.operand-index c.args.phi.operands.now) c.loop-operand.found c.loop-operand.invariant
    (take_all c.loop-operand.operand-index c.args.phi.operands.now (omega arith))
