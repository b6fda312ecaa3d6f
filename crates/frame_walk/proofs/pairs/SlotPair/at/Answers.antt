use Rattle.std.proofs.Common.{◌+◌, ℕ, List, ◌∷◌, sym, ap, ◌∙◌, arith}
use Rattle.frame_walk.specs.Maps.{Pair, pairs_from, word_place}
use Rattle.frame_walk.proofs.RecordLemmas.{pair_step, pairs_end}
use Rattle.frame_walk.proofs.pairs.SlotPair.at.Goals as goal

pub returns-then-left-lt2-clause-pairs : goal.returns-then-left-lt2-clause-pairs
returns-then-left-lt2-clause-pairs g c =
    pairs_end (g.R.FrameRecord.entry c.args.one.now).places c.args.at (omega (arith, c.places.ensures, c.from.ensures, c.saturating_sub-left.ensures, c.if-left-lt2.true))

pub returns-clause-pairs : goal.returns-clause-pairs
returns-clause-pairs g c =
    let one = g.R.FrameRecord.entry c.args.one.now in
    let rest : List Pair = pairs_from (c.args.at + 2) one in
    pair_step one.places c.args.at c.place.result c.place-2.result c.place.ensures c.place-2.ensures
    ∙ ap (λ (w : ℕ). record { base = w; derived = word_place c.place-2.result } ∷ rest) (sym c.word_place-base.ensures.word)
    ∙ ap (λ (w : ℕ). record { base = c.word_place-base.result; derived = w } ∷ rest) (sym c.word_place-derived.ensures.word)
