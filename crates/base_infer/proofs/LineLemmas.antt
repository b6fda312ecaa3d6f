-- The lines of functions with bases, over any knowledge of their values.
use Rattle.std.proofs.Common.{◌≡◌, ◌∙◌, ℕ, suc, ◌+◌, ◌*◌, ◌<◌, ◌≤◌, ◌^◌, Bool, true, false, not, ◌&&◌, if◌then◌else◌, List, [], ◌∷◌, ◌++◌, length, get_or, take, refl, ap, sym, arith, append-nil, append_assoc, inl, inr}
use Rattle.std.specs.List.{list_all}
use Rattle.std.proofs.lemmas.Bool.{cases_Bool, false≢true}
use Rattle.std.proofs.lemmas.List.{length-append, take_more}
use Rattle.std.proofs.lemmas.List.Folds.{list_all-append}
use Rattle.ir_ast.specs.declared.funcs.Arg.{Arg}
use Rattle.ir_ast.specs.declared.ops.Pred.{Pred}
use Rattle.ir_ast.specs.declared.ops.Pred.TheVariants.{Eq, Ne}
use Rattle.ir_ast.specs.declared.ops.Op.{Op}
use Rattle.ir_ast.specs.declared.ops.Op.TheVariants.{Icmp, Select, Phi, Load, Store, Br, CondBr, Switch, Ret, Unreachable}
use Rattle.ir_ast.specs.Insts.{Instruction}
use Rattle.ir_ast.specs.Blocks.{BasicBlock, EndsAtTerminator}
use Rattle.ir_ast.specs.Funcs.{IsSmall, instructions_of}
use Rattle.ir_ast.specs.Derived.{is_merge}
use Rattle.ir_ast.specs.Ops.{is_terminator}
use Rattle.object_meaning.specs.Lines.{following, after_all}
use Rattle.base_forms.specs.Lines.{Insertion, kept_line, compared, lines_for, based_insts, based_blocks}
use Rattle.object_meaning.proofs.LineLaws.{after_push, after_append}

-- ---- values after lines

pub after_more : (start : ℕ) (insts : List Instruction) (i : ℕ) (d : Instruction) → i < length insts
    → after_all start (take (i + 1) insts) ≡ following (after_all start (take i insts)) (get_or insts i d)
after_more start insts i d below = ap (after_all start) (take_more insts i d below) ∙ after_push start (take i insts) (get_or insts i d)

-- ---- lines

abbrev passes_by : Instruction → Bool
passes_by inst = not (is_terminator inst.op)

merged_pass : (derived : Bool) (line kept : Instruction) → passes_by line ≡ true → passes_by kept ≡ true
    → list_all passes_by ((if derived then line ∷ [] else []) ++ kept ∷ []) ≡ true
merged_pass true line kept first second = rw (first, second) refl
merged_pass false line kept first second = rw second refl

either_pass : (derived : Bool) (lines others : List Instruction) → list_all passes_by lines ≡ true → list_all passes_by others ≡ true
    → list_all passes_by (if derived then lines else others) ≡ true
either_pass true lines others first second = first
either_pass false lines others first second = second

module _ (given : Insertion) where
  pub insts-push : (start : ℕ) (insts : List Instruction) (inst : Instruction)
      → based_insts given start (insts ++ inst ∷ []) ≡ based_insts given start insts ++ lines_for given (after_all start insts) inst inst.op
  insts-push start [] inst = append-nil (lines_for given start inst inst.op)
  insts-push start (first ∷ insts) inst =
      ap (λ zs. lines_for given start first first.op ++ zs) (insts-push (following start first) insts inst)
      ∙ sym (append_assoc (lines_for given start first first.op) (based_insts given (following start first) insts) (lines_for given (after_all (following start first) insts) inst inst.op))

  abbrev pub based_block : ℕ → BasicBlock → BasicBlock
  based_block next block = record block { insts = based_insts given next block.insts }

  pub blocks-push : (start : ℕ) (blocks : List BasicBlock) (block : BasicBlock)
      → based_blocks given start (blocks ++ block ∷ []) ≡ based_blocks given start blocks ++ based_block (after_all start (instructions_of blocks)) block ∷ []
  blocks-push start [] block = refl
  blocks-push start (first ∷ blocks) block =
      ap (λ zs. based_block start first ∷ zs) (blocks-push (after_all start first.insts) blocks block
      ∙ ap (λ n. based_blocks given (after_all start first.insts) blocks ++ based_block n block ∷ []) (sym (after_append start first.insts (instructions_of blocks))))

  -- ---- the terminator

  last_line : (next : ℕ) (inst : Instruction) (op : Op) → is_terminator op ≡ true → lines_for given next inst op ≡ kept_line given inst ∷ []
  last_line next inst Br is = refl
  last_line next inst CondBr is = refl
  last_line next inst Switch is = refl
  last_line next inst Ret is = refl
  last_line next inst Unreachable is = refl
  last_line next inst op is = absurd (false≢true is)

  compared_by : (next : ℕ) (inst : Instruction) (pred : Pred) → inst.op ≡ Icmp pred → list_all passes_by (compared given next inst pred) ≡ true
  compared_by next inst Eq is = refl
  compared_by next inst Ne is = refl
  compared_by next inst pred is = rw is refl

  kept_passes : (inst : Instruction) (op : Op) → inst.op ≡ op → is_terminator op ≡ false → list_all passes_by (kept_line given inst ∷ []) ≡ true
  kept_passes inst op is none = rw (is, none) refl

  pass_by : (next : ℕ) (inst : Instruction) (op : Op) → inst.op ≡ op → is_terminator op ≡ false → list_all passes_by (lines_for given next inst op) ≡ true
  pass_by next inst Phi is none = merged_pass (is_merge inst.op && given.uses_derived inst) _ _ (rw is refl) (rw is refl)
  pass_by next inst Select is none = merged_pass (is_merge inst.op && given.uses_derived inst) _ _ (rw is refl) (rw is refl)
  pass_by next inst (Icmp pred) is none =
      either_pass (given.uses_derived inst) (compared given next inst pred) (kept_line given inst ∷ []) (compared_by next inst pred is) (rw is refl)
  pass_by next inst Load is none = rw is refl
  pass_by next inst Store is none = rw is refl
  pass_by next inst op is none = kept_passes inst op is none

  all_pass : (next : ℕ) (insts : List Instruction) → list_all passes_by insts ≡ true → list_all passes_by (based_insts given next insts) ≡ true
  all_pass next [] all = refl
  all_pass next (inst ∷ insts) all =
      let own : is_terminator inst.op ≡ false = grind arith in
      let rest : list_all passes_by insts ≡ true = grind arith in
      rw (list_all-append passes_by (lines_for given next inst inst.op) (based_insts given (following next inst) insts), pass_by next inst inst.op refl own)
      (all_pass (following next inst) insts rest)

  -- a block with its bases and checks ends as before
  pub ends_based : (next : ℕ) (insts : List Instruction) → EndsAtTerminator insts → EndsAtTerminator (based_insts given next insts)
  ends_based next insts ends = record {
    before = based_insts given next ends.before;
    last = kept_line given ends.last;
    whole = ap (based_insts given next) ends.whole ∙ insts-push next ends.before ends.last
        ∙ ap (λ zs. based_insts given next ends.before ++ zs) (last_line (after_all next ends.before) ends.last ends.last.op ends.ends);
    ends = ends.ends;
    inside = all_pass next ends.before ends.inside;
  }

  -- ---- how many lines there are

  few_compared : (next : ℕ) (inst : Instruction) (pred : Pred) → length (compared given next inst pred) ≤ 2
  few_compared next inst Eq = omega arith
  few_compared next inst Ne = omega arith
  few_compared next inst pred = omega arith

  few_merged : (next : ℕ) (inst : Instruction) (line : Instruction) (derived : Bool) → length ((if derived then line ∷ [] else []) ++ kept_line given inst ∷ []) ≤ 2
  few_merged next inst line true = omega arith
  few_merged next inst line false = omega arith

  few_lines : (next : ℕ) (inst : Instruction) (op : Op) → length (lines_for given next inst op) ≤ 2
  few_lines next inst Phi = few_merged next inst _ _
  few_lines next inst Select = few_merged next inst _ _
  few_lines next inst (Icmp pred) = elim (cases_Bool (given.uses_derived inst)) [
    | inl derived ↦ rw derived (few_compared next inst pred)
    | inr plain ↦ rw plain (omega arith)
  ]
  few_lines next inst Load = omega arith
  few_lines next inst Store = omega arith
  few_lines next inst op = omega arith

  few_insts : (next : ℕ) (insts : List Instruction) → length (based_insts given next insts) ≤ 2 * length insts
  few_insts next [] = omega arith
  few_insts next (inst ∷ insts) =
      omega (
        arith,
        few_lines next inst inst.op,
        few_insts (following next inst) insts,
        length-append (lines_for given next inst inst.op) (based_insts given (following next inst) insts),
      )

  few_blocks : (next : ℕ) (blocks : List BasicBlock) → length (instructions_of (based_blocks given next blocks)) ≤ 2 * length (instructions_of blocks)
  few_blocks next [] = omega arith
  few_blocks next (block ∷ blocks) =
      omega (
        arith,
        few_insts next block.insts,
        few_blocks (after_all next block.insts) blocks,
        length-append (based_insts given next block.insts) (instructions_of (based_blocks given (after_all next block.insts) blocks)),
        length-append block.insts (instructions_of blocks),
      )

  length-based_blocks : (next : ℕ) (blocks : List BasicBlock) → length (based_blocks given next blocks) ≡ length blocks
  length-based_blocks next [] = refl
  length-based_blocks next (block ∷ blocks) = ap suc (length-based_blocks (after_all next block.insts) blocks)

  pub small_based : (next : ℕ) (args : List Arg) (blocks : List BasicBlock) → IsSmall args blocks → length (instructions_of blocks) < 2 ^ 29
      → IsSmall args (based_blocks given next blocks)
  small_based next args blocks small few = record {
    few_arguments = small.few_arguments;
    few_blocks = omega (arith, small.few_blocks, length-based_blocks next blocks);
    few_instructions = omega (arith, few_blocks next blocks);
  }
