use Rattle.std.proofs.Common.{◌≡◌, ◌≤◌, ◌++◌, ◌∷◌, [], ap, length, arith, rules, ◌∙◌}
use Rattle.std.proofs.lemmas.List.{length-append}
use Rattle.case_lines.proofs.RowLemmas.{stops_push, rows_push}
use Rattle.case_lines.proofs.rows.CaseLines.push.Goals as goal

pub invariant_of-self-2 : goal.invariant_of-self-2
invariant_of-self-2 c =
    let items = c.in_ok-extend_from_slice.ensures.items in
    let grown = length-append c.self.inside.lines.items c.args.row.now in
    let whole : c.len.result ≡ length c.extend_from_slice.new.self.items = search rules in
    let pushed : c.push.new.self.items ≡ c.self.inside.stops.items ++ c.len.result ∷ [] = search rules in
    let front : length c.self.inside.lines.items ≤ c.len.result = omega (arith, ap length items, grown, whole) in
    rw (pushed, ← whole) (stops_push 0 _ _ c.len.result c.self.invariant front)

pub returns : goal.returns
returns c =
    let items = c.in_ok-extend_from_slice.ensures.items in
    let whole : c.len.result ≡ length c.extend_from_slice.new.self.items = search rules in
    let pushed : c.push.new.self.items ≡ c.self.inside.stops.items ++ c.len.result ∷ [] = search rules in
    rw (pushed, whole, items)
    (rows_push 0 c.self.inside.stops.items c.self.inside.lines.items c.args.row.now c.self.invariant
    ∙ ap (λ rows. rows ++ c.args.row.now ∷ []) c.self.view_is)
