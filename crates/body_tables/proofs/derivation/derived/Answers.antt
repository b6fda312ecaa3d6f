use Rattle.std.proofs.Common.{◌≡◌, ◌∙◌, List, Option, ap, subst}
use Rattle.std.specs.Prelude.{map}
use Rattle.std.specs.Option.{option_map}
use Rattle.std.specs.Borrow.{Bor}
use Rattle.ir_ast.specs.Insts.{Instruction}
use Rattle.ir_ast.specs.Values.{definitions_of}
use Rattle.derived_values.specs.Deriveds.{AreMarks}
use Rattle.body_tables.specs.Bodies.{inst_of}
use Rattle.body_tables.specs.Derivations.{giver_of}
use Rattle.body_tables.proofs.UserLemmas.{marks_derived}
use Rattle.body_tables.proofs.derivation.derived.Goals as goal

pub returns : goal.returns
returns c =
    let func = c.args.func.now.content in
    let marks = c.in_ok-marks.marks.items in
    let givers : map (option_map (λ (one : Bor Instruction). one.now)) c.as_slice.result.now ≡ map inst_of (definitions_of func)
    = ap (map (option_map (λ (one : Bor Instruction). one.now))) c.as_slice.ensures.value ∙ c.in_ok-givers.ensures in
    marks_derived func marks (subst (λ (gs : List (Option Instruction)). AreMarks (map giver_of gs) marks) givers c.in_ok-marks.ensures)
