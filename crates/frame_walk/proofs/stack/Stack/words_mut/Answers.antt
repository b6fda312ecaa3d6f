use Rattle.std.proofs.Common.{◌∙◌, ap, refl}
use Rattle.frame_walk.specs.StackLent.{refilled}
use Rattle.frame_walk.proofs.StackLemmas.{written_over, all_from}
use Rattle.frame_walk.proofs.stack.Stack.words_mut.Goals as goal

pub returns : goal.returns
returns c =
    let vec = c.self.inside.words in
    let top = c.self.inside.top in (
      (refl, λ w. written_over vec.items w top vec.len vec.ok.0 c.self.invariant.1 ∙ ap (λ l. refilled l w) c.self.view_is),
      record { ends = tt; words = c.slice_mut.ensures.value ∙ all_from vec.items top vec.len vec.ok.0 ∙ c.self.view_is },
    )
