use Rattle.std.proofs.Common.{◌∙◌, ◌-◌, ◌++◌, ℕ, List, ap, sym, arith, length, map, take, drop}
use Rattle.std.proofs.lemmas.List.{drop-map, drop_min, length-drop, take-map, take_all, take_min}
use Rattle.ssa_rebuild.specs.Answers.{number_of}
use Rattle.ssa_rebuild.proofs.stream.Stream.next_ones.Goals as goal

pub returns-clause-taken : goal.returns-clause-taken
returns-clause-taken c =
    let slots = c.self.inside.slots.now in
    c.in_ok-push_numbers.ensures
    ∙ ap (λ (xs : List ℕ). xs ++ map number_of (take c.min-behind.result slots)) c.clear.ensures.items
    ∙ ap (λ (n : ℕ). map number_of (take n slots)) c.min-behind.ensures
    ∙ ap (map number_of) (take_min c.args.count slots)
    ∙ sym (take-map number_of c.args.count slots)
    ∙ ap (take c.args.count) c.self.view_is

pub returns-clause-rest : goal.returns-clause-rest
returns-clause-rest c =
    let slots = c.self.inside.slots.now in
    let behind = c.min-behind.result in
    let rest = length-drop behind slots in
    ap (map number_of) (take_all (length slots - behind) (drop behind slots) (omega (arith, rest)))
    ∙ ap (λ (n : ℕ). map number_of (drop n slots)) c.min-behind.ensures
    ∙ ap (map number_of) (drop_min c.args.count slots)
    ∙ sym (drop-map number_of c.args.count slots)
    ∙ ap (drop c.args.count) c.self.view_is
