use Rattle.std.proofs.Common.{◌≡◌, ◌++◌, ◌∷◌, [], ap, length, arith, rules, ◌∙◌}
use Rattle.case_lines.proofs.RowLemmas.{stops_push, rows_push_none}
use Rattle.case_lines.proofs.rows.CaseLines.push_none.Goals as goal

pub invariant_of-self-2 : goal.invariant_of-self-2
invariant_of-self-2 c =
    let whole : c.len.result ≡ length c.self.inside.lines.items = search rules in
    rw (c.in_ok-push.ensures.items, whole)
    (stops_push 0 c.self.inside.stops.items _ (length c.self.inside.lines.items) c.self.invariant (omega arith))

pub returns : goal.returns
returns c =
    let whole : c.len.result ≡ length c.self.inside.lines.items = search rules in
    rw (c.in_ok-push.ensures.items, whole)
    (rows_push_none c.self.inside.stops.items c.self.inside.lines.items c.self.invariant ∙ ap (λ rows. rows ++ [] ∷ []) c.self.view_is)
