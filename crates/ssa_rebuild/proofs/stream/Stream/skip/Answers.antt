use Rattle.std.proofs.Common.{◌∙◌, ◌-◌, ℕ, ap, sym, arith, length, map, drop}
use Rattle.std.proofs.lemmas.List.{drop-map, drop_min, length-drop, take_all}
use Rattle.ssa_rebuild.specs.Answers.{number_of}
use Rattle.ssa_rebuild.proofs.stream.Stream.skip.Goals as goal

pub returns : goal.returns
returns c =
    let slots = c.self.inside.slots.now in
    let behind = c.min-behind.result in
    let rest = length-drop behind slots in
    ap (map number_of) (take_all (length slots - behind) (drop behind slots) (omega (arith, rest)))
    ∙ ap (λ (n : ℕ). map number_of (drop n slots)) c.min-behind.ensures
    ∙ ap (map number_of) (drop_min c.args.count slots)
    ∙ sym (drop-map number_of c.args.count slots)
    ∙ ap (drop c.args.count) c.self.view_is
