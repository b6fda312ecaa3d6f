use Rattle.std.proofs.Common.{◌≡◌, ℕ, List, sym, ap, ◌∙◌}
use Rattle.std.specs.Prelude.{map, slice_index, slice_set}
use Rattle.frame_walk.specs.Maps.{Pair, pairs_from}
use Rattle.frame_walk.specs.Walks.{write_slots, slot_write, carried_word}
use Rattle.frame_walk.proofs.walks.change_slots.Goals as goal

pub loop-pair-preserved : goal.loop-pair-preserved
loop-pair-preserved g c =
    let moves = c.args.moves.now.moves in
    let old = c.args.old.now in
    let pair = c.in-Some.pair in
    let rest : List Pair = pairs_from c.next.new.self.at (g.R.FrameRecord.entry c.next.new.self.one.now) in
    let words = c.loop-pair.words in
    let word : c.carried_word.result ≡ carried_word c.args.moves.now.moves (slice_index c.args.old.now c.in-Some.pair.base) (slice_index c.args.old.now c.in-Some.pair.derived) =
    c.carried_word.ensures ∙ ap (λ (base : ℕ). carried_word moves base c.word_at-derived.result) c.word_at-base.ensures
    ∙ ap (carried_word moves (slice_index old pair.base)) c.word_at-derived.ensures in
    ap (write_slots (map (slot_write moves old) rest)) (c.put_word.ensures ∙ ap (slice_set words pair.derived) word)
    ∙ sym (ap (λ (pairs : List Pair). write_slots (map (slot_write moves old) pairs) words) c.in-Some.ensures.steps)
    ∙ c.loop-pair.invariant
