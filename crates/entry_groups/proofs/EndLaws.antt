-- A block with other numbers, or with the group in place of its first line, ends as before.
use Rattle.std.proofs.Common.{◌≡◌, ◌∙◌, ℕ, suc, Bool, true, false, not, List, [], ◌∷◌, ◌++◌, map, Option, Some, None, refl, ap, sym, arith, append_assoc}
use Rattle.std.specs.List.{list_all}
use Rattle.std.proofs.lemmas.Bool.{false≢true, true≢false, not-true}
use Rattle.std.proofs.lemmas.List.{map-append}
use Rattle.std.proofs.lemmas.List.Folds.{list_all-append}
use Rattle.ir_ast.specs.declared.types.Ty.{Ty}
use Rattle.ir_ast.specs.declared.ops.Op.{Op}
use Rattle.ir_ast.specs.declared.ops.Op.TheVariants.{Call}
use Rattle.ir_ast.specs.Ops.{is_terminator}
use Rattle.ir_ast.specs.Insts.{Instruction}
use Rattle.ir_ast.specs.Blocks.{BasicBlock, EndsAtTerminator}
use Rattle.statepoint_insert.specs.declared.groups.Relocate.{Relocate}
use Rattle.statepoint_insert.specs.Groups.{GroupContent}
use Rattle.statepoint_insert.specs.Texts.{result_lines, relocate_lines}
use Rattle.entry_groups.specs.Entry.{put_line, put_block, first_lines, entry_lines, goes_on, entry_block, blocks_behind}
use Rattle.ssa_rebuild.proofs.EndLemmas.{results_pass, relocates_pass}

abbrev passes_by : Instruction → Bool
passes_by inst = not (is_terminator inst.op)

lines_pass : (row : List ℕ) (insts : List Instruction) → list_all passes_by insts ≡ true → list_all passes_by (map (put_line row) insts) ≡ true
lines_pass row [] all = refl
lines_pass row (inst ∷ insts) all =
    let own : passes_by inst ≡ true = grind arith in
    let rest : list_all passes_by insts ≡ true = grind arith in
    rw own (lines_pass row insts rest)

pub ends_put : (row : List ℕ) (insts : List Instruction) → EndsAtTerminator insts → EndsAtTerminator (map (put_line row) insts)
ends_put row insts ends = record {
  before = map (put_line row) ends.before;
  last = put_line row ends.last;
  whole = ap (map (put_line row)) ends.whole ∙ map-append (put_line row) ends.before (ends.last ∷ []);
  ends = ends.ends;
  inside = lines_pass row ends.before ends.inside;
}

first_passes : (token : ℕ) (group : GroupContent) (inst : Instruction) (op : Op) → list_all passes_by (first_lines token group inst op) ≡ true
first_passes token group inst (Call callee types) = results_pass token inst.ty inst.result _ (relocates_pass token 0 _ group.relocates)
first_passes token group inst _ = refl

-- what is left behind the first line, where the entry begins with a line that ends nothing
ends_rest : (inst : Instruction) (insts before : List Instruction) (last : Instruction) → inst ∷ insts ≡ before ++ last ∷ [] → is_terminator last.op ≡ true
    → list_all passes_by before ≡ true → is_terminator inst.op ≡ false → EndsAtTerminator insts
ends_rest inst insts [] last whole ends inside own =
    let same : inst ≡ last = cc in
    absurd (true≢false (sym ends ∙ ap (λ (i : Instruction). is_terminator i.op) (sym same) ∙ own))
ends_rest inst insts (x ∷ before) last whole ends inside own =
    let rest : insts ≡ before ++ last ∷ [] = cc in
    let all : list_all passes_by before ≡ true = grind arith in
    record { before = before; last = last; whole = rest; ends = ends; inside = all }

ends_behind : (front insts : List Instruction) → list_all passes_by front ≡ true → EndsAtTerminator insts → EndsAtTerminator (front ++ insts)
ends_behind front insts all ends = record {
  before = front ++ ends.before;
  last = ends.last;
  whole = ap (λ (is : List Instruction). front ++ is) ends.whole ∙ sym (append_assoc front ends.before (ends.last ∷ []));
  ends = ends.ends;
  inside = rw (list_all-append passes_by front ends.before, all) ends.inside;
}

ends_entry : (token : ℕ) (group : GroupContent) (row : List ℕ) (inst : Instruction) (insts : List Instruction) → EndsAtTerminator (inst ∷ insts)
    → is_terminator inst.op ≡ false → EndsAtTerminator (entry_lines token group row (inst ∷ insts))
ends_entry token group row inst insts ends own =
    ends_behind (first_lines token group inst inst.op) (map (put_line row) insts) (first_passes token group inst inst.op)
    (ends_put row insts (ends_rest inst insts ends.before ends.last ends.whole ends.ends ends.inside own))

pub ends_lines : (token : ℕ) (group : GroupContent) (row : List ℕ) (insts : List Instruction) → EndsAtTerminator insts → goes_on insts ≡ true
    → EndsAtTerminator (entry_lines token group row insts)
ends_lines token group row [] ends is = absurd (false≢true is)
ends_lines token group row (inst ∷ insts) ends is = ends_entry token group row inst insts ends (not-true (is_terminator inst.op) is)

-- ---- blocks one after another

pub blocks_push : (token : ℕ) (group : GroupContent) (row : List ℕ) (first : BasicBlock) (blocks : List BasicBlock) (block : BasicBlock)
    → blocks_behind token group row ((first ∷ blocks) ++ block ∷ []) ≡ blocks_behind token group row (first ∷ blocks) ++ put_block row block ∷ []
blocks_push token group row first blocks block =
    ap (λ (bs : List BasicBlock). entry_block token group row first ∷ bs) (map-append (put_block row) blocks (block ∷ []))
