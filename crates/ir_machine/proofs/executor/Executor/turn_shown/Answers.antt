use Rattle.ir_machine.specs.Executors.{machinery, seen}
use Rattle.ir_machine.proofs.TurnLemmas.{leads_over, leads_same}
use Rattle.ir_machine.proofs.executor.Executor.turn_shown.Goals as goal

pub returns : goal.returns
returns c =
    let program = c.args.program.now in let first = seen c.args.self.now in
    record {
      before = seen c.go_over.new.self;
      later = seen c.foresee.new.self;
      leads = leads_over program.code (machinery program) c.args.trace first first (seen c.go_over.new.self) (leads_same (machinery program) c.args.trace first) c.go_over.ensures.over;
      foreseen = c.in_ok-event.ensures.event;
      same = c.in_ok-event.ensures.step;
      does = c.in_ok-did.ensures;
    }
