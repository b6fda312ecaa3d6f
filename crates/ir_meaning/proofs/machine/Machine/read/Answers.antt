use Rattle.std.proofs.Common.{rules, sym, ap, ◌∙◌}
use mir.Syntax.{w64}
use mir.Val.{SFits}
use mir.ValLaws.{to_z-of_z}
use Rattle.object_store.specs.declared.words.Word.{Word}
use Rattle.ir_meaning.specs.Stacks.{Frames, passed_frame}
use Rattle.ir_meaning.specs.Machines.{rest_of}
use Rattle.ir_meaning.proofs.CallLemmas.{read_none, read_some}
use Rattle.ir_meaning.proofs.machine.Machine.read.Goals as goal

pub returns-in-None-clause-turned : goal.returns-in-None-clause-turned
returns-in-None-clause-turned c =
    read_none c.args.code.now c.args.plan.now c.args.bound c.args.self.now.stack (rest_of c.args.self.now) c.args.segment.now c.requires.stands (sym c.first_of.ensures ∙ c.in-None.is)

pub returns-in_ok-pass-in-Some-clause-turned : goal.returns-in_ok-pass-in-Some-clause-turned
returns-in_ok-pass-in-Some-clause-turned c =
    let frames : Frames = c.args.self.now.stack in
    let fits : SFits w64 c.in-Some.first = search rules in
    let word = rw (to_z-of_z w64 c.in-Some.first fits) at c.cast_unsigned.ensures in
    read_some c.args.code.now c.args.plan.now c.args.bound c.args.self.now.stack c.pass.new.self (rest_of c.args.self.now) c.args.segment.now
    c.in-Some.first c.cast_unsigned.result c.rest_of-self.result.now c.requires.stands (sym c.first_of.ensures ∙ c.in-Some.is) word c.rest_of-self.ensures
    (c.in_ok-pass-in-Some.ensures ∙ ap (λ (w : Word). let f : Frames = record frames { running = passed_frame frames.running c.args.segment.now.to w } in f) c.of.ensures)
