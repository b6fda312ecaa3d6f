use Rattle.std.proofs.lemmas.List.Elements.{All-same}
use Rattle.object_meaning.specs.Lines.{insts_in}
use Rattle.flat_code.specs.Spots.{IsReady}
use Rattle.flat_code.proofs.sources.Source.insts.Goals as goal

pub returns-in-Some-clause-ready : goal.returns-in-Some-clause-ready
returns-in-Some-clause-ready c =
    All-same IsReady c.insts_in.result.now (insts_in c.in-Some.func.now.content c.args.block) c.insts_in.ensures
    (rw c.in-Some.is at (c.self.invariant.1 c.args.block))
