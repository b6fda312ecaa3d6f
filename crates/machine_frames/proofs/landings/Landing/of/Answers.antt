use Rattle.std.proofs.Common.{◌≡◌, ℕ, take, ap, ◌∙◌}
use Rattle.object_meaning.specs.Lines.{after_all}
use Rattle.machine_frames.specs.Landings.{phis_of}
use Rattle.machine_frames.proofs.landings.Landing.of.Goals as goal

pub invariant_of-result : goal.invariant_of-result
invariant_of-result c =
    let insts = c.args.insts.now in let first = c.args.first in
    let front : c.split_at.result.0.now ≡ phis_of insts = c.split_at.ensures.front ∙ ap (λ (count : ℕ). take count insts) c.phi_count-phis.ensures.value in
    record {
      decoded_is = c.in_ok-decoded.ensures;
      phis_are = c.phi_count-phis.ensures.value;
      within = c.phi_count-phis.ensures.within;
      next_is = c.in_ok-next.ensures ∙ ap (after_all first) front;
      one_is = rw front at c.in_ok-one.ensures;
      other_is = rw front at c.in_ok-other.ensures;
    }
