use Rattle.std.proofs.Common.{◌<◌, ◌∙◌, length, Option, Some, ap, sym, arith}
use Rattle.std.specs.Prelude.{map}
use Rattle.std.specs.Option.{option_map}
use Rattle.std.specs.Borrow.{Bor}
use Rattle.std.proofs.lemmas.List.{length-map}
use Rattle.list_laws.proofs.Places.{get_map, seen_at}
use Rattle.ir_ast.specs.Insts.{Instruction}
use Rattle.derived_values.specs.Givens.{Given}
use Rattle.body_tables.specs.Derivations.{giver_of}
use Rattle.body_tables.proofs.derivation.GivenByGivers.giver.Goals as goal

pub returns : goal.returns
returns c =
    let xs = c.args.self.now.0.now in
    let seen = option_map (λ (inst : Bor Instruction). inst.now) in
    let below : c.args.value < length c.args.self.now.0.now = omega (arith, c.requires, length-map (map seen xs) giver_of, length-map xs seen) in
    get_map giver_of (map seen xs) c.args.value (seen c.index-self-value.result) (seen_at seen xs c.args.value c.index-self-value.result below c.index-self-value.is)
    ∙ ap (λ (x : Option (Bor Instruction)). Some (giver_of (seen x))) c.index-self-value.is ∙ ap (λ (given : Given). Some given) (sym c.giver_of.ensures)
