use Rattle.std.proofs.Common.{ℕ, List, sym, subst}
use Rattle.std.specs.Prelude.{map}
use Rattle.graph_search.specs.Edges.{AreInside}
use Rattle.graph_search.specs.Paths.{MarksReached}
use Rattle.derived_values.proofs.UserLemmas.{sources_inside, marks_of_search}
use Rattle.derived_values.proofs.search.derived_marks.Goals as goal

pub reached_from-requires : goal.reached_from-requires
reached_from-requires g c =
    let steps = c.in_ok-found.found.steps.items in
    let users = map (λ row. row.items) c.in_ok-found.found.users.items in
    record {
      inside = subst (λ (xs : List ℕ). AreInside users xs) (sym c.as_slice.ensures.value)
          (sources_inside (g.G.Givers.givers c.args.givers.now) steps users c.in_ok-found.ensures);
    }

pub returns : goal.returns
returns g c =
    let steps = c.in_ok-found.found.steps.items in
    let users = map (λ row. row.items) c.in_ok-found.found.users.items in
    let marks = c.in_ok-reached_from.field-0.items in
    marks_of_search (g.G.Givers.givers c.args.givers.now) steps users c.in_ok-found.ensures marks
    (subst (λ (starts : List ℕ). MarksReached users starts marks) c.as_slice.ensures.value c.in_ok-reached_from.ensures.marks)
