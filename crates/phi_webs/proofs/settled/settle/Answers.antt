use Rattle.std.proofs.Common.{◌≡◌, ℕ, List, arith}
use Rattle.std.proofs.lemmas.Result.{IfOk-weaker}
use Rattle.phi_webs.specs.Forests.{up_of, Leads}
use Rattle.phi_webs.specs.Settled.{web_of, IsSettled, AnswersBecomes, CanGo, NoneCanGo}
use Rattle.phi_webs.proofs.LookLemmas.{at_some, at_none, under_way_none, under_way_more, settled_if_none, settled_becomes}
use Rattle.phi_webs.proofs.settled.settle.Goals as goal

pub loop-step-init : goal.loop-step-init
loop-step-init c = under_way_none (web_of c.args.phis.now) c.in_ok-ups.ups.items c.in_ok-ups.ensures.own c.in_ok-ups.ensures.room

-- where no phi can go, the answer of `all_ends` is settled
answer : (c : goal.After-drop-ups-in-None) (ends : List ℕ)
    → ((now : ℕ → ℕ) (last : ℕ) → Leads c.next_gone.new.ups.items now last → (n : ℕ) → up_of ends n ≡ now n)
    → IsSettled (web_of c.args.phis.now) ends
answer c ends at =
    settled_if_none (web_of c.args.phis.now) c.loop-step.ups.items c.next_gone.new.ups.items ends c.loop-step._step c.loop-step.invariant
    (at_none (NoneCanGo c.loop-step.ups.items (web_of c.args.phis.now)) c.in_ok-gone.field-0 c.in-None.is c.in_ok-gone.ensures.none)
    c.in_ok-gone.ensures.keeps
    at

pub returns-in-None-clause-settled : goal.returns-in-None-clause-settled
returns-in-None-clause-settled c =
    IfOk-weaker c.all_ends.result
    (λ ends. (now : ℕ → ℕ) (last : ℕ) → Leads c.next_gone.new.ups.items now last → (n : ℕ) → up_of ends.items n ≡ now n)
    (λ ends. IsSettled (web_of c.args.phis.now) ends.items)
    (λ ends at. answer c ends.items at)
    c.all_ends.ensures

pub returns-in-None-clause-becomes : goal.returns-in-None-clause-becomes
returns-in-None-clause-becomes c =
    IfOk-weaker c.all_ends.result
    (λ ends. (now : ℕ → ℕ) (last : ℕ) → Leads c.next_gone.new.ups.items now last → (n : ℕ) → up_of ends.items n ≡ now n)
    (λ ends. AnswersBecomes (web_of c.args.phis.now) ends.items)
    (λ ends at. settled_becomes (web_of c.args.phis.now) ends.items (answer c ends.items at))
    c.all_ends.ensures

pub loop-step-preserved : goal.loop-step-preserved
loop-step-preserved c =
    under_way_more (web_of c.args.phis.now) c.loop-step.ups.items c.next_gone.new.ups.items c.put.new.ups.items c.merge.new.ups.items
    c.loop-step._step c.in-Some.gone c.loop-step.invariant
    (at_some (CanGo c.loop-step.ups.items (web_of c.args.phis.now)) c.in_ok-gone.field-0 c.in-Some.gone c.in-Some.is c.in_ok-gone.ensures.some)
    c.in_ok-gone.ensures.keeps
    c.put.ensures
    c.merge.ensures
    (omega arith)
