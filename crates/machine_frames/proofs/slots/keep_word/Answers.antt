use Rattle.std.proofs.Common.{◌≡◌, ◌<◌, length, ◌∙◌, arith}
use Rattle.machine_frames.proofs.SlotLemmas.{over_more}
use Rattle.machine_frames.proofs.slots.keep_word.Goals as goal

pub returns : goal.returns
returns c =
    let within : c.args.place < length c.args.stack.now = omega (arith, c.len.ensures) in
    λ words before count is. c.set_word.ensures ∙ over_more words before c.args.stack.now c.args.place c.args.word count is within
