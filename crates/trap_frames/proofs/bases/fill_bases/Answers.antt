use Rattle.std.proofs.Common.{ℕ, ◌+◌, List, ◌∷◌, set, sym, ap, ◌∙◌}
use Rattle.frame_walk.specs.Maps.{Pair, pairs_from, pairs_of}
use Rattle.frame_walk.specs.Pairs.{pair_of}
use Rattle.trap_frames.specs.Bases.{base_in, base_of}
use Rattle.trap_frames.proofs.BaseLemmas.{base_from, base_is, pair_set}
use Rattle.trap_frames.proofs.bases.fill_bases.Goals as goal

pub loop-pair-preserved : goal.loop-pair-preserved
loop-pair-preserved g c = λ word.
    let pair = pair_of c.in-Some.pair in
    let rest : List Pair = pairs_from c.next.new.self.at (g.R.FrameRecord.entry c.next.new.self.one.now) in
    let made = c.make_room.new.bases.items in
    ap (λ (base : ℕ). base_from (base_in (set made pair.derived (base + 1)) word) rest word) c.from.ensures
    ∙ pair_set made pair rest word c.in_ok-make_room.ensures.room
    ∙ ap (λ found. base_from found (pair ∷ rest) word) (ap base_of (c.make_room.ensures.same word))
    ∙ ap (λ (pairs : List Pair). base_from (base_in c.loop-pair.bases.items word) pairs word) (sym c.in-Some.ensures.steps)
    ∙ c.loop-pair.invariant word

pub returns : goal.returns
returns g c = λ word.
    ap (λ (pairs : List Pair). base_from (base_in c.loop-pair.bases.items word) pairs word) (sym c.in-None.ensures.steps.0)
    ∙ c.loop-pair.invariant word ∙ base_is (pairs_of (g.R.FrameRecord.entry c.args.one.now)) word
