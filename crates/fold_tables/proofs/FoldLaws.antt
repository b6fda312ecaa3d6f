-- The lines of a function under a table.
use Rattle.std.proofs.Common.{◌≡◌, ◌∙◌, ℕ, suc, ◌+◌, ◌-◌, ◌≤◌, Bool, true, false, not, ◌&&◌, if◌then◌else◌, List, [], ◌∷◌, ◌++◌, length, is_some, refl, ap, sym, arith, append-nil, append_assoc, ◌⊎◌, inl, inr}
use Rattle.std.specs.Prelude.{Option, slice_get}
use Rattle.std.specs.List.{list_all}
use Rattle.std.specs.Option.{option_map_or}
use Rattle.std.proofs.lemmas.List.{length-append}
use Rattle.std.proofs.lemmas.List.Folds.{list_all-append}
use Rattle.std.proofs.lemmas.Bool.{false≢true}
use Rattle.list_laws.proofs.Places.{get_last, split_last}
use Rattle.ir_ast.specs.declared.funcs.Arg.{Arg}
use Rattle.ir_ast.specs.Insts.{Instruction}
use Rattle.ir_ast.specs.Blocks.{BasicBlock, EndsAtTerminator}
use Rattle.ir_ast.specs.Funcs.{IsSmall, instructions_of}
use Rattle.ir_ast.specs.Ops.{is_terminator}
use Rattle.object_meaning.specs.Lines.{following, after_all}
use Rattle.object_meaning.proofs.LineLaws.{after_append}
use Rattle.folded_forms.specs.Folded.{Table, folded_blocks, folded_insts, folded_line, folded_lines, stays}
use Rattle.fold_tables.specs.Ends.{ends_at}

-- ---- lines

abbrev passes_by : Instruction → Bool
passes_by inst = not (is_terminator inst.op)

pub ends_last : (front : List Instruction) (last : Instruction) → ends_at (front ++ last ∷ []) ≡ is_terminator last.op
ends_last front last =
    let count : length (front ++ last ∷ []) - 1 ≡ length front = omega (arith, length-append front (last ∷ [])) in
    ap (λ (found : Option Instruction). option_map_or (λ inst. is_terminator inst.op) found false)
    (ap (slice_get (front ++ last ∷ [])) count ∙ get_last front last)

module _ (table : Table) where
  pub insts-push : (start : ℕ) (insts : List Instruction) (inst : Instruction)
      → folded_insts table start (insts ++ inst ∷ []) ≡ folded_insts table start insts ++ folded_lines table (after_all start insts) inst
  insts-push start [] inst = append-nil (folded_lines table start inst)
  insts-push start (first ∷ insts) inst =
      ap (λ zs. folded_lines table start first ++ zs) (insts-push (following start first) insts inst)
      ∙ sym (append_assoc (folded_lines table start first) (folded_insts table (following start first) insts) (folded_lines table (after_all (following start first) insts) inst))

  abbrev pub folded_block : ℕ → BasicBlock → BasicBlock
  folded_block next block = record block { insts = folded_insts table next block.insts }

  pub blocks-push : (start : ℕ) (blocks : List BasicBlock) (block : BasicBlock)
      → folded_blocks table start (blocks ++ block ∷ []) ≡ folded_blocks table start blocks ++ folded_block (after_all start (instructions_of blocks)) block ∷ []
  blocks-push start [] block = refl
  blocks-push start (first ∷ blocks) block =
      ap (λ zs. folded_block start first ∷ zs) (blocks-push (after_all start first.insts) blocks block
      ∙ ap (λ n. folded_blocks table (after_all start first.insts) blocks ++ folded_block n block ∷ []) (sym (after_append start first.insts (instructions_of blocks))))

  -- ---- the terminator

  abbrev goes : ℕ → Instruction → Bool
  goes next inst = is_some inst.result && not (stays table next)

  all_pass : (next : ℕ) (insts : List Instruction) → list_all passes_by insts ≡ true → list_all passes_by (folded_insts table next insts) ≡ true
  all_pass next [] all = refl
  all_pass next (inst ∷ insts) all =
      let own : passes_by inst ≡ true = grind arith in
      let rest : list_all passes_by insts ≡ true = grind arith in
      list_all-append passes_by (folded_lines table next inst) (folded_insts table (following next inst) insts)
      ∙ (ap (λ (b : Bool). b && list_all passes_by (folded_insts table (following next inst) insts)) (by (goes next inst) own)
      ∙ all_pass (following next inst) insts rest)
    where
      by : (b : Bool) → passes_by inst ≡ true → list_all passes_by (if b then [] else folded_line table inst ∷ []) ≡ true
      by true own = refl
      by false own = ap (λ (b : Bool). b && true) own

  last_passes : (insts : List Instruction) → list_all passes_by insts ≡ true → ends_at insts ≡ false
  last_passes insts all = by (split_last insts)
    where
      by : (insts ≡ []) ⊎ ((front : List Instruction) × (last : Instruction) × (insts ≡ front ++ last ∷ [])) → ends_at insts ≡ false
      by (inl none) = ap ends_at none
      by (inr split) =
          let front = split.0 in
          let last = split.1 in
          let whole : list_all passes_by (front ++ last ∷ []) ≡ true = ap (list_all passes_by) (sym split.2) ∙ all in
          let parts : list_all passes_by front && (passes_by last && true) ≡ true = sym (list_all-append passes_by front (last ∷ [])) ∙ whole in
          let own : is_terminator last.op ≡ false = grind arith in
          ap ends_at split.2 ∙ (ends_last front last ∙ own)

  -- where the last line that is left is a terminator, the block ends as before
  pub ends_folded : (next : ℕ) (insts : List Instruction) → EndsAtTerminator insts → ends_at (folded_insts table next insts) ≡ true → EndsAtTerminator (folded_insts table next insts)
  ends_folded next insts ends at_end = by (goes (after_all next ends.before) ends.last) refl
    where
      whole : folded_insts table next insts ≡ folded_insts table next ends.before ++ folded_lines table (after_all next ends.before) ends.last
      whole = ap (folded_insts table next) ends.whole ∙ insts-push next ends.before ends.last

      by : (b : Bool) → goes (after_all next ends.before) ends.last ≡ b → EndsAtTerminator (folded_insts table next insts)
      by true gone =
          let left : folded_insts table next insts ≡ folded_insts table next ends.before =
          whole ∙ (ap (λ (b : Bool). folded_insts table next ends.before ++ (if b then [] else folded_line table ends.last ∷ [])) gone
          ∙ append-nil (folded_insts table next ends.before)) in
          absurd (false≢true (sym (last_passes (folded_insts table next ends.before) (all_pass next ends.before ends.inside)) ∙ (ap ends_at (sym left) ∙ at_end)))
      by false kept = record {
        before = folded_insts table next ends.before;
        last = folded_line table ends.last;
        whole = whole ∙ ap (λ (b : Bool). folded_insts table next ends.before ++ (if b then [] else folded_line table ends.last ∷ [])) kept;
        ends = ends.ends;
        inside = all_pass next ends.before ends.inside;
      }

  -- ---- how many lines there are

  few_lines : (next : ℕ) (inst : Instruction) → length (folded_lines table next inst) ≤ 1
  few_lines next inst = by (goes next inst)
    where
      by : (b : Bool) → length (if b then [] else folded_line table inst ∷ []) ≤ 1
      by true = omega arith
      by false = omega arith

  pub few_insts : (next : ℕ) (insts : List Instruction) → length (folded_insts table next insts) ≤ length insts
  few_insts next [] = omega arith
  few_insts next (inst ∷ insts) =
      omega (
        arith,
        few_lines next inst,
        few_insts (following next inst) insts,
        length-append (folded_lines table next inst) (folded_insts table (following next inst) insts),
      )

  few_blocks : (next : ℕ) (blocks : List BasicBlock) → length (instructions_of (folded_blocks table next blocks)) ≤ length (instructions_of blocks)
  few_blocks next [] = omega arith
  few_blocks next (block ∷ blocks) =
      omega (
        arith,
        few_insts next block.insts,
        few_blocks (after_all next block.insts) blocks,
        length-append (folded_insts table next block.insts) (instructions_of (folded_blocks table (after_all next block.insts) blocks)),
        length-append block.insts (instructions_of blocks),
      )

  length-folded_blocks : (next : ℕ) (blocks : List BasicBlock) → length (folded_blocks table next blocks) ≡ length blocks
  length-folded_blocks next [] = refl
  length-folded_blocks next (block ∷ blocks) = ap suc (length-folded_blocks (after_all next block.insts) blocks)

  pub small_folded : (next : ℕ) (args : List Arg) (blocks : List BasicBlock) → IsSmall args blocks → IsSmall args (folded_blocks table next blocks)
  small_folded next args blocks small = record {
    few_arguments = small.few_arguments;
    few_blocks = omega (arith, small.few_blocks, length-folded_blocks next blocks);
    few_instructions = omega (arith, small.few_instructions, few_blocks next blocks);
  }
