-- Phis of a folded function stand in front with an entry for each edge, and blocks end at their terminators.
use Rattle.std.proofs.Common.{◌≡◌, ℕ, ◌+◌, Bool, true, not, ◌&&◌, if◌then◌else◌, List, [], ◌∷◌, ◌++◌, length, map, take, drop, refl, sym, ap, subst, ◌∙◌}
use Rattle.std.specs.Prelude.{Option, Some, None, slice_get}
use Rattle.std.specs.List.{All, list_all}
use Rattle.std.specs.Option.{option_map, option_map_or}
use Rattle.std.proofs.lemmas.Option.{none-some, same_Some, slice_get-map}
use Rattle.list_laws.proofs.Contents.{all_at, all_from_at}
use Rattle.list_laws.proofs.Places.{get_middle, split_at, take_front_of}
use Rattle.sp_ids.specs.declared.ids.BlockId.{BlockId}
use Rattle.ir_ast.specs.declared.ops.Operand.{Operand}
use Rattle.ir_ast.specs.Blocks.{BasicBlock, EndsAtTerminator}
use Rattle.ir_ast.specs.Edges.{count_of, edges, targets}
use Rattle.ir_ast.specs.Faults.PhiEdges.{PhiIsRight, PhisAreRight}
use Rattle.ir_ast.specs.Funcs.{Function, instructions_of}
use Rattle.ir_ast.specs.Insts.{Instruction}
use Rattle.ir_ast.specs.Lines.{IsLine}
use Rattle.ir_ast.specs.Ops.{is_phi, is_terminator}
use Rattle.ir_cfg.proofs.KeepsLines.{inst_at}
use Rattle.ir_cfg.proofs.KeepsPlaces.{marks_before}
use Rattle.object_meaning.specs.Lines.{after_all}
use Rattle.folded_forms.specs.Folded.{Table, folded, folded_insts, folded_line, folded_operand, stays}
use Rattle.folded_source.proofs.LineLaws.{folded_append, folded_front, folded_test, line_marks}
use Rattle.folded_source.proofs.PlaceLaws.{block_back, block_forth, first, folded_block, line_back, offset, targets_same, terminator_plain}

block_lines : (P : Instruction → Type 0) (blocks : List BasicBlock) (number : ℕ) (block : BasicBlock) → slice_get blocks number ≡ Some block → All P (instructions_of blocks) → All P block.insts
block_lines P blocks number block at all = all_from_at P block.insts (λ place inst there. inst_at P blocks number place block inst at there all)

edges_are : (func : Function) (from to : ℕ) (found : Option BasicBlock) → slice_get func.blocks from ≡ found → edges func from to ≡ option_map_or (λ (b : BasicBlock). count_of to (targets b)) found 0
edges_are func from to found at = ap (λ (b : Option BasicBlock). option_map_or (λ (block : BasicBlock). count_of to (targets block)) b 0) at

module _ (func : Function) (table : Table) (lines : All IsLine (instructions_of func.blocks)) where
  pub edges_same : (from to : ℕ) → edges (folded func table) from to ≡ edges func from to
  edges_same from to = by (slice_get (folded func table).blocks from) refl
    where
      by : (found : Option BasicBlock) → slice_get (folded func table).blocks from ≡ found → edges (folded func table) from to ≡ edges func from to
      by (Some new) at =
          let old = block_back func table from new at in
          let own = block_lines IsLine func.blocks from old.block old.at lines in
          edges_are (folded func table) from to (Some new) at
          ∙ (ap (λ (b : BasicBlock). count_of to (targets b)) old.is
          ∙ (ap (count_of to) (targets_same table (first func table from) old.block own)
          ∙ sym (edges_are func from to (Some old.block) old.at)))
      by None at = edges_are (folded func table) from to None at ∙ sym (edges_are func from to None (none_here (slice_get func.blocks from) refl))
        where
          none_here : (old : Option BasicBlock) → slice_get func.blocks from ≡ old → slice_get func.blocks from ≡ None
          none_here None is = is
          none_here (Some block) is = absurd (none-some (folded_block table (first func table from) block) (sym at ∙ block_forth func table from block is))

  -- the lines before one are those before the line that it was
  lines_before : (number : ℕ) (new : BasicBlock) (before after : List Instruction) (line : Instruction) → slice_get (folded func table).blocks number ≡ Some new → new.insts ≡ before ++ line ∷ after
      → (own : ℕ) (block : BasicBlock) → slice_get func.blocks number ≡ Some block → offset func table number own ≡ length before
      → before ≡ folded_insts table (first func table number) (take own block.insts)
  lines_before number new before after line found whole own block at here =
      let old = block_back func table number new found in
      let same : old.block ≡ block = same_Some old.block block (sym old.at ∙ at) in
      let insts : new.insts ≡ folded_insts table (first func table number) block.insts =
      ap (λ (b : BasicBlock). b.insts) old.is ∙ ap (λ (b : BasicBlock). folded_insts table (first func table number) b.insts) same in
      let place = ap (λ (b : Option BasicBlock). (let ms = line_marks table (first func table number) (option_map_or (λ (each : BasicBlock). each.insts) b []) in ms)) at in
      sym (take_front_of before (line ∷ after))
      ∙ (ap (take (length before)) (sym whole ∙ insts)
      ∙ (ap (λ (n : ℕ). take n (folded_insts table (first func table number) block.insts)) (sym here ∙ ap (λ (ms : List Bool). marks_before ms own) place)
      ∙ folded_front table (first func table number) block.insts own))

  agree_still : (labels : List BlockId) (operands : List Operand) → ((j k : ℕ) → slice_get labels j ≡ slice_get labels k → slice_get operands j ≡ slice_get operands k)
      → (j k : ℕ) → slice_get labels j ≡ slice_get labels k → slice_get (map (folded_operand table) operands) j ≡ slice_get (map (folded_operand table) operands) k
  agree_still labels operands agree j k same =
      slice_get-map (folded_operand table) operands j ∙ (ap (option_map (folded_operand table)) (agree j k same) ∙ sym (slice_get-map (folded_operand table) operands k))

  pub phis_folded : PhisAreRight func → PhisAreRight (folded func table)
  phis_folded right = λ number new before after phi found whole is_one.
      let at : slice_get new.insts (length before) ≡ Some phi = ap (λ (insts : List Instruction). slice_get insts (length before)) whole ∙ get_middle before phi after in
      let from = line_back func table number (length before) phi (record { block = new; in_function = found; in_block = at }) in
      let block = (from.stands).block in
      let was : is_phi (from.inst).op ≡ true = sym (ap (λ (i : Instruction). is_phi i.op) from.is) ∙ is_one in
      let old = right number block (take from.own block.insts) (drop (from.own + 1) block.insts) from.inst (from.stands).in_function (split_at block.insts from.own from.inst (from.stands).in_block) was in
      subst (λ (i : Instruction). PhiIsRight (folded func table) number before i) (sym from.is) (record {
        first =
            ap (list_all (λ inst. is_phi inst.op)) (lines_before number new before after phi found whole from.own block (from.stands).in_function from.here)
            ∙ folded_test (λ inst. is_phi inst.op) table (λ inst. refl) (first func table number) (take from.own block.insts) old.first;
        counted = λ one. old.counted one ∙ sym (edges_same one number);
        agree = agree_still (from.inst).labels (from.inst).operands old.agree;
      })

  -- a block ends at its terminator, which stays
  end_stays : (next : ℕ) (inst : Instruction) → IsLine inst → is_terminator inst.op ≡ true → folded_insts table next (inst ∷ []) ≡ folded_line table inst ∷ []
  end_stays next inst line ends = ap (λ (b : Bool). (if b && not (stays table next) then [] else folded_line table inst ∷ []) ++ []) (terminator_plain inst line ends)

  ends_folded : (next : ℕ) (insts : List Instruction) → All IsLine insts → EndsAtTerminator insts → EndsAtTerminator (folded_insts table next insts)
  ends_folded next insts own ends =
      let at : slice_get insts (length ends.before) ≡ Some ends.last = ap (λ (all : List Instruction). slice_get all (length ends.before)) ends.whole ∙ get_middle ends.before ends.last [] in
      let line = all_at IsLine insts (length ends.before) ends.last own at in
      record {
        before = folded_insts table next ends.before;
        last = folded_line table ends.last;
        whole =
            ap (folded_insts table next) ends.whole
            ∙ (folded_append table next ends.before (ends.last ∷ [])
            ∙ ap (λ (rest : List Instruction). folded_insts table next ends.before ++ rest) (end_stays (after_all next ends.before) ends.last line ends.ends));
        ends = ends.ends;
        inside = folded_test (λ inst. not (is_terminator inst.op)) table (λ inst. refl) next ends.before ends.inside;
      }

  pub blocks_end : All (λ (block : BasicBlock). EndsAtTerminator block.insts) func.blocks → All (λ (block : BasicBlock). EndsAtTerminator block.insts) (folded func table).blocks
  blocks_end ends = all_from_at (λ (block : BasicBlock). EndsAtTerminator block.insts) (folded func table).blocks (λ number new found.
      let old = block_back func table number new found in
      subst (λ (b : BasicBlock). EndsAtTerminator b.insts) (sym old.is)
      (ends_folded (first func table number) (old.block).insts (block_lines IsLine func.blocks number old.block old.at lines)
      (all_at (λ (block : BasicBlock). EndsAtTerminator block.insts) func.blocks number old.block ends old.at)))
