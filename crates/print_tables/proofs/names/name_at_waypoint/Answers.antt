use Rattle.std.proofs.Common.{◌≡◌, ◌+◌, ◌∙◌, List, ap, sym, refl, arith}
use Rattle.ir_ast.specs.Insts.{Instruction}
use Rattle.ir_ast.specs.Funcs.{instructions_of}
use Rattle.print_tables.specs.Names.{result_name}
use Rattle.print_tables.proofs.NameLemmas.{result_name-at_first}
use Rattle.print_tables.proofs.WaypointLemmas.{instructions_from-drop}
use Rattle.print_tables.proofs.names.name_at_waypoint.Goals as goal

pub returns-in-Some : goal.returns-in-Some
returns-in-Some c =
    let waypoint = c.in_ok-waypoint.waypoint.now in
    let at = c.in_ok-waypoint.ensures.at in
    let there : waypoint.results + 0 ≡ c.args.number = omega (arith, at) in
    let found = c.in_ok-block.ensures.lookup in
    let one = c.in_ok-inst.ensures.lookup in
    c.bytes.ensures ∙ sym (
    ap (result_name (instructions_of c.args.blocks.now)) (sym there)
    ∙ c.in_ok-waypoint.ensures.right c.args.blocks.now c.requires 0
    ∙ ap (λ (insts : List Instruction). result_name insts 0)
    (instructions_from-drop c.args.blocks.now waypoint.block waypoint.inst c.in_ok-block.block.now found.3.0 found.1)
    ∙ result_name-at_first c.in_ok-block.block.now.insts waypoint.inst c.in_ok-inst.inst.now
    _ 0 c.in-Some.name (rw c.insts.ensures.value at one.3.0) (rw c.insts.ensures.value at one.1) (sym c.result.ensures ∙ c.in-Some.is) refl
    )
