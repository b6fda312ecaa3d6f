-- Lines over a stream of numbers, one at a time.
use Rattle.std.proofs.Common.{◌≡◌, ◌∙◌, ℕ, suc, ◌+◌, Bool, true, false, ◌||◌, List, [], ◌∷◌, ◌++◌, length, take, drop, set, Some, slice_get, refl, ap, sym, arith, append_assoc}
use Rattle.std.specs.List.{list_any}
use Rattle.std.proofs.lemmas.Bool.{true≢false}
use Rattle.std.proofs.lemmas.List.{take_more_set, drop-set-lt}
use Rattle.std.proofs.lemmas.Option.{slice_get_within}
use Rattle.list_laws.proofs.Places.{drop_at}
use Rattle.ir_ast.specs.declared.types.Ty.{Ty}
use Rattle.ir_ast.specs.declared.ops.Operand.{Operand}
use Rattle.ir_ast.specs.Insts.{Instruction}
use Rattle.ir_ast.specs.Blocks.{BasicBlock}
use Rattle.std.specs.Global.{Vec}
use Rattle.version_walk.specs.declared.slots.Slot.{Slot}
use Rattle.sp_ids.specs.declared.ids.BlockId.{BlockId}
use Rattle.sp_ids.specs.declared.ids.ValueId.{ValueId}
use Rattle.rewriting_forms.specs.Numbered.{is_call}
use Rattle.statepoint_insert.specs.Groups.{GroupContent}
use Rattle.ssa_rebuild.specs.declared.writing.Writing.{Writing}
use Rattle.ssa_rebuild.specs.Rows.{held_in}
use Rattle.ssa_rebuild.specs.Written.{put, put_left, filled, filled_bundle, left, plain_written, line_written, after, kept_after, written, behind, phi_line, phi_after, phi_lines, phis_behind, block_lines, block_after, blocks_written}

-- ---- operands

pub filled_on : (numbers next : List ℕ) (operands rest : List Operand) (o one : Operand) (all old new : List Operand) → operands ≡ o ∷ rest
    → one ≡ put numbers o → next ≡ put_left numbers o → all ≡ old ++ filled numbers operands → new ≡ old ++ one ∷ [] → all ≡ new ++ filled next rest
filled_on numbers next operands rest o one all old new split one_is next_is so_far added =
    so_far ∙ ap (λ (os : List Operand). old ++ filled numbers os) split
    ∙ ap (λ (x : Operand). old ++ (x ∷ filled (put_left numbers o) rest)) (sym one_is)
    ∙ ap (λ (ns : List ℕ). old ++ (one ∷ filled ns rest)) (sym next_is)
    ∙ sym (append_assoc old (one ∷ []) (filled next rest)) ∙ ap (λ (os : List Operand). os ++ filled next rest) (sym added)

pub left_on : (numbers next : List ℕ) (operands rest : List Operand) (o : Operand) (all : List ℕ) → operands ≡ o ∷ rest
    → next ≡ put_left numbers o → all ≡ left numbers operands → all ≡ left next rest
left_on numbers next operands rest o all split next_is so_far =
    so_far ∙ ap (left numbers) split ∙ ap (λ (ns : List ℕ). left ns rest) (sym next_is)

pub bundle_on : (numbers next : List ℕ) (bundle rest : List (Ty × Operand)) (entry : Ty × Operand) (one : Ty × Operand) (all old new : List (Ty × Operand))
    → bundle ≡ entry ∷ rest → one ≡ (entry.0, put numbers entry.1) → next ≡ put_left numbers entry.1 → all ≡ old ++ filled_bundle numbers bundle
    → new ≡ old ++ one ∷ [] → all ≡ new ++ filled_bundle next rest
bundle_on numbers next bundle rest entry one all old new split one_is next_is so_far added =
    so_far ∙ ap (λ (es : List (Ty × Operand)). old ++ filled_bundle numbers es) split
    ∙ ap (λ (x : Ty × Operand). old ++ (x ∷ filled_bundle (put_left numbers entry.1) rest)) (sym one_is)
    ∙ ap (λ (ns : List ℕ). old ++ (one ∷ filled_bundle ns rest)) (sym next_is)
    ∙ sym (append_assoc old (one ∷ []) (filled_bundle next rest)) ∙ ap (λ (es : List (Ty × Operand)). es ++ filled_bundle next rest) (sym added)

pub bundle_left_on : (numbers next : List ℕ) (bundle rest : List (Ty × Operand)) (entry : Ty × Operand) (all : List ℕ) → bundle ≡ entry ∷ rest
    → next ≡ put_left numbers entry.1 → all ≡ left numbers (held_in bundle) → all ≡ left next (held_in rest)
bundle_left_on numbers next bundle rest entry all split next_is so_far =
    so_far ∙ ap (λ (es : List (Ty × Operand)). left numbers (held_in es)) split ∙ ap (λ (ns : List ℕ). left ns (held_in rest)) (sym next_is)

-- ---- lines

pub behind_push : (groups : List GroupContent) (writing : Writing) (insts : List Instruction) (inst : Instruction)
    → behind groups writing (insts ++ inst ∷ []) ≡ after groups (behind groups writing insts) inst
behind_push groups writing [] inst = refl
behind_push groups writing (x ∷ insts) inst = behind_push groups (after groups writing x) insts inst

-- one line more is kept
pub kept_more : (groups : List GroupContent) (writing later : Writing) (all insts : List Instruction) (i : ℕ) (inst new : Instruction)
    → slice_get insts i ≡ Some inst → is_call inst.op ≡ false → new ≡ plain_written writing.body writing.entries inst → later ≡ kept_after writing inst
    → all ≡ take i insts ++ written groups writing (drop i insts)
    → all ≡ take (i + 1) (set insts i new) ++ written groups later (drop (i + 1) (set insts i new))
kept_more groups writing later all insts i inst new stands kept new_is later_is is =
    let below = slice_get_within insts i inst stands in
    let here : written groups writing (drop i insts) ≡ new ∷ written groups later (drop (i + 1) insts) =
    ap (written groups writing) (drop_at insts i inst stands) ∙ rw (kept, new_is, later_is) refl in
    let front = take_more_set insts i new below in
    let back = drop-set-lt (i + 1) insts i new (omega arith) in
    is ∙ ap (λ (ls : List Instruction). take i insts ++ ls) here
    ∙ sym (append_assoc (take i insts) (new ∷ []) (written groups later (drop (i + 1) insts)))
    ∙ sym (ap (λ (ls : List Instruction). ls ++ written groups later (drop (i + 1) insts)) front)
    ∙ sym (ap (λ (ls : List Instruction). take (i + 1) (set insts i new) ++ written groups later ls) back)

after_kept : (groups : List GroupContent) (writing : Writing) (inst : Instruction) → is_call inst.op ≡ false → after groups writing inst ≡ kept_after writing inst
after_kept groups writing inst kept = rw kept refl

pub behind_more : (groups : List GroupContent) (writing later all : Writing) (insts : List Instruction) (i : ℕ) (inst new : Instruction)
    → slice_get insts i ≡ Some inst → is_call inst.op ≡ false → later ≡ kept_after writing inst
    → all ≡ behind groups writing (drop i insts)
    → all ≡ behind groups later (drop (i + 1) (set insts i new))
behind_more groups writing later all insts i inst new stands kept later_is is =
    let here : behind groups writing (drop i insts) ≡ behind groups later (drop (i + 1) insts) =
    ap (behind groups writing) (drop_at insts i inst stands)
    ∙ ap (λ (w : Writing). behind groups w (drop (i + 1) insts)) (after_kept groups writing inst kept ∙ sym later_is) in
    is ∙ here ∙ sym (ap (behind groups later) (drop-set-lt (i + 1) insts i new (omega arith)))

-- without calls the next line is no call, and so are those behind it
pub next_kept : (insts : List Instruction) (i : ℕ) (inst : Instruction) → slice_get insts i ≡ Some inst → list_any (λ (inst : Instruction). is_call inst.op) (drop i insts) ≡ false
    → is_call inst.op ≡ false
next_kept insts i inst stands none = first (is_call inst.op) _ (sym (ap (list_any (λ (inst : Instruction). is_call inst.op)) (drop_at insts i inst stands)) ∙ none)
  where
    first : (t u : Bool) → (t || u) ≡ false → t ≡ false
    first true u is = is
    first false u is = refl

pub rest_kept : (insts : List Instruction) (i : ℕ) (inst new : Instruction) → slice_get insts i ≡ Some inst → list_any (λ (inst : Instruction). is_call inst.op) (drop i insts) ≡ false
    → list_any (λ (inst : Instruction). is_call inst.op) (drop (i + 1) (set insts i new)) ≡ false
rest_kept insts i inst new stands none =
    ap (list_any (λ (inst : Instruction). is_call inst.op)) (drop-set-lt (i + 1) insts i new (omega arith))
    ∙ other (is_call inst.op) _ (sym (ap (list_any (λ (inst : Instruction). is_call inst.op)) (drop_at insts i inst stands)) ∙ none)
  where
    other : (t u : Bool) → (t || u) ≡ false → u ≡ false
    other true u is = absurd (true≢false is)
    other false u is = is

pub written_push : (groups : List GroupContent) (writing : Writing) (insts : List Instruction) (inst : Instruction)
    → written groups writing (insts ++ inst ∷ []) ≡ written groups writing insts ++ line_written groups (behind groups writing insts) inst
written_push groups writing [] inst = go (line_written groups writing inst)
  where
    go : (xs : List Instruction) → xs ++ [] ≡ [] ++ xs
    go [] = refl
    go (x ∷ xs) = ap (λ (ys : List Instruction). x ∷ ys) (go xs)
written_push groups writing (x ∷ insts) inst =
    ap (λ (ls : List Instruction). line_written groups writing x ++ ls) (written_push groups (after groups writing x) insts inst)
    ∙ sym (append_assoc (line_written groups writing x) (written groups (after groups writing x) insts) (line_written groups (behind groups (after groups writing x) insts) inst))

-- ---- inserted phis

pub phis_on : (preds : List BlockId) (writing next : Writing) (values rest : List ValueId) (value : ValueId) (all old new : List Instruction) → values ≡ value ∷ rest
    → next ≡ phi_after preds writing → all ≡ old ++ phi_lines preds writing values → new ≡ old ++ phi_line preds writing ∷ [] → all ≡ new ++ phi_lines preds next rest
phis_on preds writing next values rest value all old new split next_is so_far added =
    so_far ∙ ap (λ (vs : List ValueId). old ++ phi_lines preds writing vs) split
    ∙ ap (λ (w : Writing). old ++ (phi_line preds writing ∷ phi_lines preds w rest)) (sym next_is)
    ∙ sym (append_assoc old (phi_line preds writing ∷ []) (phi_lines preds next rest)) ∙ ap (λ (ls : List Instruction). ls ++ phi_lines preds next rest) (sym added)

pub phis_behind_on : (preds : List BlockId) (writing next all : Writing) (values rest : List ValueId) (value : ValueId) → values ≡ value ∷ rest
    → next ≡ phi_after preds writing → all ≡ phis_behind preds writing values → all ≡ phis_behind preds next rest
phis_behind_on preds writing next all values rest value split next_is so_far =
    so_far ∙ ap (phis_behind preds writing) split ∙ ap (λ (w : Writing). phis_behind preds w rest) (sym next_is)

-- ---- blocks

module _ (graph : List (List BlockId)) (groups : List GroupContent) (joins : List (Vec ValueId)) (rows : List (Vec Slot)) where
  abbrev pub blocks_behind : ℕ → Writing → List BasicBlock → Writing
  blocks_behind number writing [] = writing
  blocks_behind number writing (block ∷ blocks) = blocks_behind (suc number) (block_after graph groups joins rows number writing block.insts) blocks

  pub blocks_behind_push : (number : ℕ) (writing : Writing) (blocks : List BasicBlock) (block : BasicBlock)
      → blocks_behind number writing (blocks ++ block ∷ []) ≡ block_after graph groups joins rows (number + length blocks) (blocks_behind number writing blocks) block.insts
  blocks_behind_push number writing [] block =
      let e : number ≡ number + 0 = omega arith in
      ap (λ (n : ℕ). block_after graph groups joins rows n writing block.insts) e
  blocks_behind_push number writing (x ∷ blocks) block =
      let e : suc number + length blocks ≡ number + suc (length blocks) = omega arith in
      blocks_behind_push (suc number) (block_after graph groups joins rows number writing x.insts) blocks block
      ∙ ap (λ (n : ℕ). block_after graph groups joins rows n (blocks_behind (suc number) (block_after graph groups joins rows number writing x.insts) blocks) block.insts) e

  abbrev pub block_written : ℕ → Writing → BasicBlock → BasicBlock
  block_written number writing block = record { name = block.name; insts = block_lines graph groups joins rows number writing block.insts }

  pub blocks_push : (number : ℕ) (writing : Writing) (blocks : List BasicBlock) (block : BasicBlock)
      → blocks_written graph groups joins rows number writing (blocks ++ block ∷ [])
      ≡ blocks_written graph groups joins rows number writing blocks ++ block_written (number + length blocks) (blocks_behind number writing blocks) block ∷ []
  blocks_push number writing [] block =
      let e : number ≡ number + 0 = omega arith in
      ap (λ (n : ℕ). block_written n writing block ∷ []) e
  blocks_push number writing (x ∷ blocks) block =
      let e : suc number + length blocks ≡ number + suc (length blocks) = omega arith in
      let next = block_after graph groups joins rows number writing x.insts in
      ap (λ (bs : List BasicBlock). block_written number writing x ∷ bs) (blocks_push (suc number) next blocks block
      ∙ ap (λ (n : ℕ). blocks_written graph groups joins rows (suc number) next blocks ++ block_written n (blocks_behind (suc number) next blocks) block ∷ []) e)
