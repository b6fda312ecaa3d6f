use Rattle.std.proofs.Common.{◌<◌, ◌≢◌, length, arith}
use Rattle.run_tasks.proofs.TableLemmas.{kept_switched, other_waits, stays_so, switched_so}
use Rattle.run_tasks.proofs.tasks.Tasks.switch.Goals as goal

pub invariant_of-self-in-Some : goal.invariant_of-self-in-Some
invariant_of-self-in-Some g c =
    let keys = c.self.inside.keys.items in let old = c.self.inside.entries in
    let within : c.args.to < length keys = omega (arith, c.if-to-len.false, c.len.ensures) in
    kept_switched c.self.inside.running c.args.to keys c.take_entry.new.keys.items c.put_entry.new.keys.items old c.put_entry.new.entries c.self.invariant within
    (other_waits c.self.inside.running keys old c.args.to c.in-Some.next c.self.invariant c.in-Some.ensures.given) c.in-Some.ensures.keys c.put_entry.ensures.others c.put_entry.ensures.count c.put_entry.ensures.keyed

pub returns-in-None : goal.returns-in-None
returns-in-None g c =
    stays_so c.self.inside.running c.self.inside.keys.items c.self.inside.entries c.args.to c.args.self.now _ c.args.running.now c.self.view_is c.in-None.ensures.given c.in-None.ensures.left

pub returns-in-Some : goal.returns-in-Some
returns-in-Some g c =
    let keys = c.self.inside.keys.items in let old = c.self.inside.entries in
    switched_so c.self.inside.running keys old c.args.to c.args.self.now _ _ c.args.running.now c.replace-waits.result c.in-Some.next c.replace-waits.new.dest c.self.view_is c.in-Some.ensures.given
    (other_waits c.self.inside.running keys old c.args.to c.in-Some.next c.self.invariant c.in-Some.ensures.given) c.in-Some.ensures.left c.put_entry.ensures.left c.replace-waits.ensures.value c.replace-waits.ensures.after
