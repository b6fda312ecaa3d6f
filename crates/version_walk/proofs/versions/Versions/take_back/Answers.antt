use Rattle.std.proofs.Common.{◌∙◌, ◌≤◌, ◌++◌, sym, refl, ap, length, List, arith}
use Rattle.std.proofs.lemmas.List.{drop_all, take_all}
use Rattle.std.specs.Option.{option_to_list}
use Rattle.std.specs.Global.{Vec}
use Rattle.version_walk.specs.declared.versions.Change.{Change}
use Rattle.version_walk.specs.Slots.{taken_back}
use Rattle.version_walk.proofs.SlotLemmas.{takes_on, on_and_on, one_less}
use Rattle.version_walk.proofs.versions.Versions.take_back.Goals as goal

pub loop-self-init : goal.loop-self-init
loop-self-init c = record { kept = refl; back = refl }

pub loop-self-preserved : goal.loop-self-preserved
loop-self-preserved c =
    let log = c.loop-self.self.log.items in
    let popped = ap (λ (log : Vec Change). log.items) c.restore.ensures.log in
    on_and_on c.args.count c.args.self.now.log.items log c.restore.new.self.log.items c.args.self.now.current.items c.loop-self.self.current.items c.restore.new.self.current.items
    c.loop-self.invariant
    (takes_on c.args.count log c.restore.new.self.log.items c.pop-last.result c.loop-self.self.current.items c.restore.new.self.current.items
    (omega (arith, c.loop-self-test.true, c.len.ensures))
    (c.pop-last.ensures.items ∙ ap (λ (xs : List Change). xs ++ option_to_list c.pop-last.result) (sym popped)) c.restore.ensures.current)

pub loop-self-smaller : goal.loop-self-smaller
loop-self-smaller c =
    let popped = ap (λ (log : Vec Change). length log.items) c.restore.ensures.log in
    let less = one_less c.loop-self.self.log.items c.pop-last.new.self.items _ (omega (arith, c.loop-self-test.true, c.len.ensures)) (omega (arith, c.len.ensures)) c.pop-last.ensures.rest in
    omega (arith, popped, less)

pub returns : goal.returns
returns c =
    let log = c.loop-self.self.log.items in
    let past : length log ≤ c.args.count = omega (arith, c.loop-self-test.false, c.len.ensures) in
    record {
      log = sym (take_all c.args.count log past) ∙ c.loop-self.invariant.kept;
      current = sym (ap (λ (cs : List Change). taken_back cs c.loop-self.self.current.items) (drop_all c.args.count log past)) ∙ c.loop-self.invariant.back;
    }
