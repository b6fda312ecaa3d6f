use Rattle.base_facts.proofs.ClosingLemmas.{missed_grows, keys_grow, stepped_two}
use Rattle.base_facts.proofs.closing.take_step.Goals as goal
use Rattle.std.proofs.lemmas.Result.{IfOk-weaker}

pub ask-requires : goal.ask-requires
ask-requires c =
    let can = c.requires.step.one c.in-One.first c.in-One.is in
    record { tables = c.requires.tables; place = can.place; outside = can.outside; reached = can.reached; asked = c.requires.asked; inside = c.requires.step.inside; misses = can.misses }

pub ask-requires-in-Two : goal.ask-requires-in-Two
ask-requires-in-Two c =
    let can = c.requires.step.first c.in-Two.first c.in-Two.second c.in-Two.is in
    record { tables = c.requires.tables; place = can.place; outside = can.outside; reached = can.reached; asked = c.requires.asked; inside = c.requires.step.inside; misses = can.misses }

pub ask-requires-in-Two-2 : goal.ask-requires-in-Two-2
ask-requires-in-Two-2 c =
    let func = c.args.func.now.content in
    let can = c.requires.step.second c.in-Two.first c.in-Two.second c.in-Two.is in
    let has = c.in_ok-ask-in-Two.ensures in
    record {
      tables = c.requires.tables;
      place = can.place;
      outside = can.outside;
      reached = can.reached;
      asked = has.asked;
      inside = keys_grow c.args.asked.now c.ask-in-Two.new.asked c.args.number has.grows c.requires.step.inside;
      misses = missed_grows func c.args.asked.now c.ask-in-Two.new.asked c.args.number c.in-Two.second has.grows c.requires.step.inside can.misses;
    }

pub returns-in_ok-ask-in-Two : goal.returns-in_ok-ask-in-Two
returns-in_ok-ask-in-Two c =
    IfOk-weaker c.ask-in-Two-2.result _ _
    (λ x has. stepped_two c.args.func.now.content c.args.number c.args.step c.in-Two.first c.in-Two.second c.args.asked.now c.ask-in-Two.new.asked c.ask-in-Two-2.new.asked
    c.in-Two.is c.in_ok-ask-in-Two.ensures has) c.ask-in-Two-2.ensures
