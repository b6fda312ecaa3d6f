-- What the states of a run do, one by one.
use Rattle.std.proofs.Common.{◌≡◌, ℕ, zero, suc, List, ◌++◌, map, refl, sym, ap, ◌∙◌}
use Rattle.std.proofs.lemmas.List.{map-append}
use Rattle.object_meaning.specs.Runs.{Next, Go, End as Over, advance}
use Rattle.object_meaning.specs.Traces.{done_at, traced}

done_mapped : {E A T U : Type 0} (f : T → U) (did : A → List T) (next : Next E A) → done_at (λ now. map f (did now)) next ≡ map f (done_at did next)
done_mapped f did (Go now) = refl
done_mapped f did (Over end last) = refl

pub traced_mapped : {E A T U : Type 0} (f : T → U) (did : A → List T) (step : A → Next E A) (count : ℕ) (next : Next E A)
    → traced (λ now. map f (did now)) step count next ≡ map f (traced did step count next)
traced_mapped f did step zero next = refl
traced_mapped f did step (suc count) next =
    ap (λ front. front ++ traced (λ now. map f (did now)) step count (advance step next)) (done_mapped f did next)
    ∙ (ap (λ rest. map f (done_at did next) ++ rest) (traced_mapped f did step count (advance step next))
    ∙ sym (map-append f (done_at did next) (traced did step count (advance step next))))
