-- Every cycle has an edge to the same or an earlier place.
use Rattle.std.proofs.Common.{ℕ, zero, suc, ◌<◌, ◌≤◌, List, [], ◌∷◌, refl, arith, inl, inr, ◌⊎◌}
use Rattle.std.specs.List.{Contains}
use Rattle.ir_cfg.specs.Graphs.{Graph, Edge}
use Rattle.ir_cfg.specs.Paths.{Reached, Way, one, more}
use Rattle.ir_cfg.specs.PollPoints.{PollsAtEnd, CyclesPoll}
use Rattle.ir_cfg.proofs.PathLemmas.{reached_by}

-- a block on the way polls, or the way goes forward
abbrev PollsOrGoesOn : Graph → List ℕ → ℕ → ℕ → Type 0
PollsOrGoesOn graph blocks from to = ((polling : ℕ) × Contains blocks polling × PollsAtEnd graph polling) ⊎ (from < to)

back_or_on : (from to : ℕ) → (to ≤ from) ⊎ (from < to)
back_or_on zero zero = inl (omega arith)
back_or_on zero (suc to) = inr (omega arith)
back_or_on (suc from) zero = inl (omega arith)
back_or_on (suc from) (suc to) = elim (back_or_on from to) [ inl le ↦ inl (omega arith) | inr lt ↦ inr (omega arith) ]

here : (graph : Graph) (blocks : List ℕ) (from to : ℕ) → Reached graph from → Edge graph from to → to ≤ from
    → (polling : ℕ) × Contains (from ∷ blocks) polling × PollsAtEnd graph polling
here graph blocks from to reached edge back =
    (from, (0, omega arith, refl), record { reached = reached; retreats = record { to = to; edge = edge; back = back } })

further : (graph : Graph) (blocks : List ℕ) (from : ℕ) → ((polling : ℕ) × Contains blocks polling × PollsAtEnd graph polling)
    → (polling : ℕ) × Contains (from ∷ blocks) polling × PollsAtEnd graph polling
further graph blocks from found = (found.0, (suc found.1.0, omega (arith, found.1.1), found.1.2), found.2)

on_way : (graph : Graph) (from : ℕ) (blocks : List ℕ) (to : ℕ) → Way graph from blocks to → Reached graph from → PollsOrGoesOn graph blocks from to
on_way graph _ _ _ (one from to edge) reached =
    elim (back_or_on from to) [ inl back ↦ inl (here graph [] from to reached edge back) | inr on ↦ inr on ]
on_way graph _ _ _ (more from by to blocks edge way) reached =
    elim (back_or_on from by) [
      | inl back ↦ inl (here graph blocks from by reached edge back)
      | inr on ↦ elim (on_way graph by blocks to way (reached_by graph from by reached edge)) [
        | inl found ↦ inl (further graph blocks from found)
        | inr rest ↦ inr (omega arith)
      ]
    ]

pub cycles_poll : (graph : Graph) → CyclesPoll graph
cycles_poll graph block blocks reached cycle =
    elim (on_way graph block blocks block cycle reached) [ inl found ↦ found | inr on ↦ absurd (omega arith) ]
