use Rattle.std.proofs.Common.{◌≡◌, ◌∙◌, ℕ, ◌-◌, List, [], ◌∷◌, ◌++◌, length, slice_index_or, slice_set, ap, arith}
use Rattle.std.specs.Prelude.{vec_len}
use Rattle.std.proofs.Math.Seq.{get_or-append_seam, set-append_seam}
use Rattle.std.proofs.lemmas.List.{length-append}
use Rattle.std.proofs.lemmas.Result.{on_ok_weaker}
use Rattle.ir_ast.specs.Insts.{Instruction}
use Rattle.folded_forms.specs.Folded.{folded_line}
use Rattle.fold_tables.proofs.fold.fold_last.Goals as goal

pub returns-in-Some : goal.returns-in-Some
returns-in-Some c = λ front inst are.
    let last : vec_len c.args.lines.now - 1 ≡ length front = omega (arith, c.args.lines.now.ok.0, ap length are, length-append front (inst ∷ [])) in
    let looked : c.in-Some.inst.now ≡ inst =
    c.in-Some.ensures.value
    ∙ ap (λ (n : ℕ). slice_index_or c.args.lines.now.items n c.in-Some.inst.now) last
    ∙ ap (λ (xs : List Instruction). slice_index_or xs (length front) c.in-Some.inst.now) are
    ∙ get_or-append_seam front inst [] c.in-Some.inst.now in
    on_ok_weaker c.fold_line.result
    (λ kept. ap (λ (n : ℕ). slice_set c.args.lines.now.items n c.fold_line.new.inst) last
    ∙ ap (λ (xs : List Instruction). slice_set xs (length front) c.fold_line.new.inst) are
    ∙ set-append_seam front inst [] c.fold_line.new.inst
    ∙ ap (λ (line : Instruction). front ++ line ∷ []) (kept ∙ ap (folded_line c.args.table.now) looked))
    c.fold_line.ensures
