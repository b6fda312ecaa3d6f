-- The functions of the tests are formed.
use Rattle.std.proofs.Common.{◌≡◌, ◌≢◌, ℕ, zero, suc, ◌<◌, true, not, List, [], ◌∷◌, ◌++◌, length, refl, ap, sym, arith, Some, None, slice_get, ◌∙◌}
use Rattle.std.proofs.lemmas.List.{length-append}
use Rattle.std.specs.List.{list_all}
use Rattle.std.proofs.lemmas.List.Elements.{All-nil, All-cons}
use Rattle.sp_ids.specs.declared.ids.BlockId.{BlockId}
use Rattle.ir_ast.specs.Insts.{Instruction}
use Rattle.ir_ast.specs.Blocks.{BasicBlock, EndsAtTerminator}
use Rattle.ir_ast.specs.Ops.{is_terminator}
use Rattle.ir_ast.specs.Widths.{IsWidth}
use Rattle.ir_ast.specs.Lines.{IsLine}
use Rattle.ir_ast.specs.Formed.{IsFormed}
use Rattle.ir_ast.specs.Faults.PhiEdges.{is_phi, PhiIsRight}
use Rattle.ir_ast.specs.Faults.EntryHasPred.{LeavesEntry}
use Rattle.ir_ast.specs.Faults.UnknownName.{NamesOfFunction}
use Rattle.definite_assign.specs.Tiny.{sum_line, return_line, tiny}

none : (value : ℕ) (before after : List Instruction) (phi : Instruction) → sum_line value ∷ return_line ∷ [] ≡ before ++ phi ∷ after → is_phi phi.op ≡ true → ⊥
none value [] after phi split is = let same : sum_line value ≡ phi = cc in let kind : is_phi (sum_line value).op ≡ true = ap (λ (i : Instruction). is_phi i.op) same ∙ is in absurd (cc)
none value (one ∷ []) after phi split is = let same : return_line ≡ phi = cc in let kind : is_phi return_line.op ≡ true = ap (λ (i : Instruction). is_phi i.op) same ∙ is in absurd (cc)
none value (one ∷ two ∷ before) after phi split is =
    let never : [] ≡ before ++ phi ∷ after = cc in
    absurd (omega (arith, ap length never, length-append before (phi ∷ after)))

no_phi : (value number : ℕ) (block : BasicBlock) (before after : List Instruction) (phi : Instruction) → slice_get (tiny value).blocks number ≡ Some block
    → block.insts ≡ before ++ phi ∷ after → is_phi phi.op ≡ true → PhiIsRight (tiny value) number before phi
no_phi value zero block before after phi stands split is =
    let insts : block.insts ≡ sum_line value ∷ return_line ∷ [] = ap (λ (b : BasicBlock). b.insts) (let same : block ≡ record { name = []; insts = sum_line value ∷ return_line ∷ [] } = cc in same) in
    absurd (none value before after phi (sym insts ∙ split) is)
no_phi value (suc number) block before after phi stands split is = absurd (let never : None ≡ Some block = stands in cc)
