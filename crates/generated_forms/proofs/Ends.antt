-- A test for a terminator at the end of a block, and nowhere else.
use Rattle.std.proofs.Common.{◌≡◌, Bool, true, false, not, ◌&&◌, List, [], ◌∷◌, ◌++◌, refl, ap}
use Rattle.std.specs.List.{list_all}
use Rattle.std.proofs.lemmas.Bool.{false≢true, and_parts, and_from}
use Rattle.ir_ast.specs.Insts.{Instruction}
use Rattle.ir_ast.specs.Blocks.{EndsAtTerminator}
use Rattle.ir_ast.specs.Ops.{is_terminator}

abbrev pub ends_well : List Instruction → Bool
ends_well [] = false
ends_well (inst ∷ []) = is_terminator inst.op
ends_well (inst ∷ next ∷ insts) = not (is_terminator inst.op) && ends_well (next ∷ insts)

pub ends_from : (insts : List Instruction) → ends_well insts ≡ true → EndsAtTerminator insts
ends_from [] is = absurd (false≢true is)
ends_from (inst ∷ []) is = record { before = []; last = inst; whole = refl; ends = is; inside = refl }
ends_from (inst ∷ next ∷ insts) is =
    let parts = and_parts (not (is_terminator inst.op)) (ends_well (next ∷ insts)) is in
    let rest = ends_from (next ∷ insts) parts.1 in
    record {
      before = inst ∷ rest.before;
      last = rest.last;
      whole = ap (λ (xs : List Instruction). inst ∷ xs) rest.whole;
      ends = rest.ends;
      inside = and_from (not (is_terminator inst.op)) (list_all (λ (inside : Instruction). not (is_terminator inside.op)) rest.before) parts.0 rest.inside;
    }
