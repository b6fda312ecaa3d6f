use Rattle.std.proofs.Common.{◌≡◌, ap, ◌∙◌}
use Rattle.std.proofs.lemmas.Result.{on_ok_weaker}
use Rattle.ir_meaning.specs.Stacks.{Frames, passed_frame}
use Rattle.ir_meaning.specs.Machines.{rest_of, state_from}
use Rattle.ir_meaning.proofs.SegmentLemmas.{resumed_fits}
use Rattle.ir_meaning.proofs.machine.Machine.answered_at.Goals as goal

pub returns-in-Some-clause-resumes : goal.returns-in-Some-clause-resumes
returns-in-Some-clause-resumes c =
    let frames : Frames = c.args.self.now.stack in
    on_ok_weaker c.pass.result
    (λ (e : c.pass.new.self ≡ record frames { running = passed_frame frames.running c.args.segment.now.to c.args.answer }).
    ap (λ (fs : Frames). state_from c.args.code.now fs (rest_of c.args.self.now)) e
    ∙ resumed_fits c.args.code.now c.args.self.now.stack (rest_of c.args.self.now) c.args.segment.now _ c.args.answer c.requires.fits c.in-Some.is)
    c.pass.ensures
