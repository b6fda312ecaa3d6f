use Rattle.std.proofs.Common.{ℕ, slice_index, sym, ap, ◌∙◌}
use Rattle.moving_heap.specs.Places.{stands_at}
use Rattle.frame_walk.specs.Maps.{pairs_of}
use Rattle.machine_meaning.specs.TrapLines.{pair_at, shown_over, shown_word}
use Rattle.trap_frames.proofs.ValueLemmas.{based, unbased}
use Rattle.trap_frames.proofs.values.shown_slot.Goals as goal

pub returns-in-None : goal.returns-in-None
returns-in-None g c =
    c.shown_word.ensures ∙ ap shown_word c.word_at-word.ensures
    ∙ sym (unbased (g.H.Objects.stands c.args.objects.now) c.args.words.now (slice_index c.args.words.now c.args.at)
    (pair_at (pairs_of (g.R.FrameRecord.entry c.args.one.now)) c.args.at) (c.in-None.ensures ∙ c.requires c.args.at))

pub returns-in-Some : goal.returns-in-Some
returns-in-Some g c =
    let stands = g.H.Objects.stands c.args.objects.now in
    let words = c.args.words.now in
    c.shown_over.ensures
    ∙ ap (λ (base : ℕ). shown_over base c.word_at-word.result (stands_at stands base)) c.word_behind.ensures
    ∙ ap (λ (word : ℕ). shown_over (slice_index words c.in-Some.base) word (stands_at stands (slice_index words c.in-Some.base))) c.word_at-word.ensures
    ∙ sym (based stands words (slice_index words c.args.at) (pair_at (pairs_of (g.R.FrameRecord.entry c.args.one.now)) c.args.at) c.in-Some.base (c.in-Some.ensures ∙ c.requires c.args.at))
