use Rattle.std.proofs.Common.{◌≡◌, ℕ, ◌+◌, ◌≤◌, Some, length, sym, ap, subst, ◌∙◌, arith, List, []}
use Rattle.std.specs.Prelude.{slice_get}
use Rattle.std.proofs.lemmas.List.{length_push}
use Rattle.flat_code.specs.Spots.{insts_at, front_spot, entry_spot, behind_phis}
use Rattle.flat_code.specs.Segments.{starts_in, StartsAt}
use Rattle.flat_code.proofs.DecodeLemmas.{front_get, places_more, places_match}
use Rattle.flat_code.proofs.decode.function.Goals as goal

pub loop-block-preserved : goal.loop-block-preserved
loop-block-preserved c =
    let defined = c.args.source.now.defined in
    let before = starts_in c.loop-block.segments.items in
    let after = starts_in c.begin_block.new.segments.items in
    let kept = c.in_ok-start.ensures.kept in
    let block : c.in_ok-block.block ≡ length c.loop-block.starts.items = c.in_ok-block.ensures ∙ sym c.loop-block.invariant.count in
    let here : StartsAt c.begin_block.new.segments.items c.in_ok-start.start (behind_phis defined (length c.loop-block.starts.items)) =
    subst (λ (n : ℕ). StartsAt c.begin_block.new.segments.items c.in_ok-start.start (behind_phis defined n)) block c.in_ok-start.ensures.starts in
    record {
      chained = c.in_ok-start.ensures.chained;
      front = front_get before after 0 (front_spot defined) kept c.loop-block.invariant.front;
      entry = front_get before after 1 (entry_spot defined) kept c.loop-block.invariant.entry;
      count = ap (λ (xs : List ℕ). length xs) c.in_ok-push.ensures.items ∙ length_push c.loop-block.starts.items c.in_ok-start.start ∙ ap (λ (n : ℕ). n + 1) c.loop-block.invariant.count;
      starts = λ k found is.
          places_more c.loop-block.starts.items c.in_ok-start.start (λ (b p : ℕ). StartsAt c.begin_block.new.segments.items p (behind_phis defined b))
          (λ b p e. front_get before after p (behind_phis defined b) kept (c.loop-block.invariant.starts b p e)) here k found
          (subst (λ (xs : List ℕ). slice_get xs k ≡ Some found) c.in_ok-push.ensures.items is);
    }

pub returns : goal.returns
returns c =
    let defined = c.args.source.now.defined in
    record {
      registers = c.registers.ensures;
      chained = c.loop-block.invariant.chained;
      front = c.loop-block.invariant.front;
      starts = λ block. places_match c.loop-block.starts.items block (insts_at defined block ≡ [])
          (λ (p : ℕ). StartsAt c.loop-block.segments.items p (behind_phis defined block))
          (λ h. c.block_count-block-end.ensures block (let le : c.block_count-block-end.result ≤ block = omega (arith, c.loop-block.invariant.count, c.loop-block-test.false) in le))
          (λ p e. c.loop-block.invariant.starts block p e);
    }
