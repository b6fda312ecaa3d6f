use Rattle.std.proofs.Common.{ℕ, List, ◌∷◌, [], ap, ◌∙◌, arith, length, length-append}
use Rattle.std.specs.Prelude.{slice_index}
use Rattle.trap_frames.proofs.BaseLemmas.{zero_behind}
use Rattle.trap_frames.proofs.bases.make_room.Goals as goal

pub loop-turn-preserved : goal.loop-turn-preserved
loop-turn-preserved c =
    let items = c.loop-turn.bases.items in
    let more = length-append items (0 ∷ []) in
    record {
      long = ap length c.in_ok-push.ensures.items ∙ omega (arith, more, c.loop-turn.invariant.long);
      same = λ at. ap (λ (xs : List ℕ). slice_index xs at) c.in_ok-push.ensures.items ∙ zero_behind items at ∙ c.loop-turn.invariant.same at;
    }
