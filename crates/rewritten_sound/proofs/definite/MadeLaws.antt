-- What holds of each line of the function with polls and bases, block by block: its phis are right, and its terminators lead out.
use Rattle.std.proofs.Common.{◌≡◌, ℕ, zero, suc, ◌+◌, ◌<◌, ◌≤◌, Bool, true, false, ◌&&◌, if◌then◌else◌, List, [], ◌∷◌, ◌++◌, length, map, refl, sym, ap, subst, ◌∙◌, inl, inr, append-nil, arith}
use Rattle.std.specs.Prelude.{Option, Some, None, slice_get}
use Rattle.std.specs.List.{All, list_all, prefix_len}
use Rattle.std.specs.Option.{option_map}
use Rattle.std.proofs.lemmas.Bool.{cases_lt}
use Rattle.std.proofs.lemmas.List.{get_or_past, length-map}
use Rattle.std.proofs.lemmas.Option.{slice_get-map}
use Rattle.list_laws.proofs.Contents.{all_at, all_from_at, all_front}
use Rattle.list_laws.proofs.Places.{get_middle, get_some}
use Rattle.ir_ast.specs.declared.types.Ty.{Ty}
use Rattle.ir_ast.specs.declared.ops.Op.{Op}
use Rattle.ir_ast.specs.declared.ops.Op.TheVariants as ops
use Rattle.ir_ast.specs.declared.ops.Operand.{Operand}
use Rattle.ir_ast.specs.Derived.{is_merge}
use Rattle.ir_ast.specs.Insts.{Instruction}
use Rattle.ir_ast.specs.Blocks.{BasicBlock}
use Rattle.ir_ast.specs.Edges.{count_of, edges, targets}
use Rattle.ir_ast.specs.Funcs.{Function, instructions_of, phis_of}
use Rattle.ir_ast.specs.Lines.{IsLine, LineOf}
use Rattle.ir_ast.specs.Faults.PhiEdges.{PhisAreRight, is_phi}
use Rattle.ir_cfg.specs.DefiniteUses.{Stands}
use Rattle.ir_cfg.specs.Graphs.{Graph, graph_of, succs_of}
use Rattle.ir_cfg.proofs.KeepsCounts.{edges_at, edges_past}
use Rattle.ir_cfg.proofs.KeepsLines.{line_at}
use Rattle.ir_cfg.proofs.KeepsPaths.{succs_at}
use Rattle.object_meaning.specs.Lines.{after_all}
use Rattle.base_forms.specs.Polls.{placed, placed_block, poll_call}
use Rattle.base_forms.specs.DerivedMarks.{derived_marks}
use Rattle.base_forms.specs.Bases.{base_of}
use Rattle.base_forms.specs.Inserted.{renumbered}
use Rattle.base_forms.specs.Lines.{merged_bases}
use Rattle.base_forms.specs.Based.{base_line, based, based_blocks, based_insts, insertion, kept_line, lines_for}
use Rattle.base_laws.specs.BeforeLiveness.{PhisStandFirst}
use Rattle.base_laws.proofs.FormLaws.{all_based, each_line}
use Rattle.base_forms.proofs.PlacedLaws.{all_placed, block_placed}
use Rattle.rewritten_sound.specs.LeadsOut.{HasLabels, LeadsOut, PhisAreBare}
use Rattle.rewritten_sound.proofs.definite.UsedLaws.{phi_right}

-- ---- where the blocks come from

based_back : (func : Function) (marks : List Bool) (next : ℕ) (blocks : List BasicBlock) (number : ℕ) (block : BasicBlock) → slice_get (based_blocks func marks next blocks) number ≡ Some block
    → (own : BasicBlock) × (from : ℕ) × (slice_get blocks number ≡ Some own) × (block ≡ record own { insts = based_insts func marks from own.insts })
based_back func marks next [] number block at = absurd cc
based_back func marks next (first ∷ blocks) zero block at =
    let same : record first { insts = based_insts func marks next first.insts } ≡ block = cc in
    (first, next, refl, sym same)
based_back func marks next (first ∷ blocks) (suc number) block at = based_back func marks (after_all next first.insts) blocks number block at

placed_back : (func : Function) (number : ℕ) (block : BasicBlock) → slice_get (placed func).blocks number ≡ Some block
    → (own : BasicBlock) × (slice_get func.blocks number ≡ Some own) × (block ≡ placed_block number own)
placed_back func number block at = by (slice_get func.blocks number) refl (sym (block_placed 0 number func.blocks) ∙ at)
  where
    by : (here : Option BasicBlock) → slice_get func.blocks number ≡ here → option_map (placed_block (0 + number)) (slice_get func.blocks number) ≡ Some block
        → (own : BasicBlock) × (slice_get func.blocks number ≡ Some own) × (block ≡ placed_block number own)
    by None none is = absurd (let both : None ≡ Some block = ap (option_map (placed_block (0 + number))) (sym none) ∙ is in cc)
    by (Some own) found is =
        let e : 0 + number ≡ number = omega arith in
        let both : Some (placed_block (0 + number) own) ≡ Some block = ap (option_map (placed_block (0 + number))) (sym found) ∙ is in
        let same : placed_block (0 + number) own ≡ block = cc in
        (own, found, sym same ∙ ap (λ n. placed_block n own) e)

-- a poll and each line of the block have it, so the lines of the block with its polls do
in_placed : (Q : Instruction → Type 0) → Q poll_call → (number : ℕ) (own : BasicBlock) → All Q own.insts → All Q (placed_block number own).insts
in_placed Q poll number own all =
    all_front Q (placed_block number own).insts []
    (all_placed Q poll number (own ∷ []) (subst (All Q) (sym (append-nil own.insts)) all))

module _ (func : Function) where
  abbrev made : Function
  made = based (placed func)

  abbrev marks : List Bool
  marks = derived_marks (placed func)

  pub all_made : (P Q : ℕ → Instruction → Type 0) → ((number : ℕ) → Q number poll_call)
      → ((number next : ℕ) (inst : Instruction) → Q number inst → All (P number) (lines_for (placed func) marks next inst inst.op))
      → ((number place : ℕ) (inst : Instruction) → Stands func number place inst → Q number inst)
      → (number place : ℕ) (inst : Instruction) → Stands made number place inst → P number inst
  all_made P Q poll each own number place inst stands =
      let based_on = based_back (placed func) marks (length func.args) (placed func).blocks number stands.block stands.in_function in
      let from = placed_back func number based_on.0 based_on.2 in
      let before : All (Q number) (from.0).insts = all_from_at (Q number) (from.0).insts (λ k one at. own number k one (record { block = from.0; in_function = from.1; in_block = at })) in
      let polled = in_placed (Q number) (poll number) number from.0 before in
      let here : All (Q number) (based_on.0).insts = subst (λ (b : BasicBlock). All (Q number) b.insts) (sym from.2) polled in
      let now = all_based (placed func) marks (P number) (Q number) (each number) based_on.1 (based_on.0).insts here in
      all_at (P number) (based_insts (placed func) marks based_on.1 (based_on.0).insts) place inst now
      (ap (λ (b : BasicBlock). slice_get b.insts place) (sym based_on.3) ∙ stands.in_block)

  -- ---- phis

  record RightPhi (number : ℕ) (inst : Instruction) : Type 0 where
    counted : (from : ℕ) → count_of from inst.labels ≡ edges func from number
    agree : (j k : ℕ) → slice_get inst.labels j ≡ slice_get inst.labels k → slice_get inst.operands j ≡ slice_get inst.operands k
    bare : inst.bundle ≡ []

  abbrev PhiRight : ℕ → Instruction → Type 0
  PhiRight number inst = is_phi inst.op ≡ true → RightPhi number inst

  mapped_agree : (f : Operand → Operand) (given : List Operand) (j k : ℕ) → slice_get given j ≡ slice_get given k → slice_get (map f given) j ≡ slice_get (map f given) k
  mapped_agree f given j k same = slice_get-map f given j ∙ (ap (option_map f) same ∙ sym (slice_get-map f given k))

  phi_bases : (op : Op) (given : List Operand) → is_phi op ≡ true → merged_bases (insertion (placed func) marks) op given ≡ map (base_of (placed func) marks) given
  phi_bases ops.Phi given one = refl
  phi_bases op given one = absurd cc

  phi_lines : (number next : ℕ) (inst : Instruction) → PhiRight number inst → All (PhiRight number) (lines_for (placed func) marks next inst inst.op)
  phi_lines number next inst right =
      each_line (PhiRight number) (placed func) marks next inst
      (λ one. record {
        counted = (right one).counted;
        agree = λ j k same. mapped_agree (renumbered (placed func) marks) inst.operands j k ((right one).agree j k same);
        bare = ap (map (λ (entry : Ty × Operand). (entry.0, renumbered (placed func) marks entry.1))) (right one).bare;
      })
      (λ kind one. record {
        counted = (right one).counted;
        agree = λ j k same.
            ap (λ (given : List Operand). slice_get given j) (phi_bases inst.op inst.operands one)
            ∙ (mapped_agree (base_of (placed func) marks) inst.operands j k ((right one).agree j k same)
            ∙ sym (ap (λ (given : List Operand). slice_get given k) (phi_bases inst.op inst.operands one)));
        bare = refl;
      })
      (λ address one. absurd cc) (λ result first second one. absurd cc) (λ one. absurd cc)

  phi_bare : (inst : Instruction) → IsLine inst → (op : Op) → inst.op ≡ op → is_phi op ≡ true → inst.bundle ≡ []
  phi_bare inst line ops.Phi is one = ((subst (λ (op : Op). LineOf op inst) is line).0).no_bundle
  phi_bare inst line op is one = absurd cc

  right_phis : PhisAreRight func → All IsLine (instructions_of func.blocks) → (number place : ℕ) (inst : Instruction) → Stands made number place inst → PhiRight number inst
  right_phis phis lines =
      all_made PhiRight PhiRight (λ number one. absurd cc) phi_lines
      (λ number place inst stands one.
      let right = (phi_right func phis number place inst stands one).1 in
      record { counted = right.counted; agree = right.agree; bare = phi_bare inst (line_at IsLine func number place inst stands lines) inst.op refl one })

  pub phis_are_bare : PhisAreRight func → All IsLine (instructions_of func.blocks) → PhisAreBare made
  phis_are_bare phis lines number place inst stands one = (right_phis phis lines number place inst stands one).bare

  -- ---- terminators

  labels_of : (inst : Instruction) → IsLine inst → (op : Op) → inst.op ≡ op → HasLabels op inst
  labels_of inst line ops.Br is = (subst (λ (op : Op). LineOf op inst) is line).label_count
  labels_of inst line ops.CondBr is = (subst (λ (op : Op). LineOf op inst) is line).label_count
  labels_of inst line ops.Switch is = let parts : LineOf ops.Switch inst = subst (λ (op : Op). LineOf op inst) is line in ((parts.0).label_count, parts.1)
  labels_of inst line op is = tt

  kept_labels : (op : Op) (inst : Instruction) → HasLabels op inst → HasLabels op (kept_line (placed func) marks inst)
  kept_labels ops.Br inst has = has
  kept_labels ops.CondBr inst has = has
  kept_labels ops.Switch inst has =
      let long = length-map inst.operands (renumbered (placed func) marks) in
      let same = has.0 in
      let some = has.1 in
      (omega (arith, long, same), omega (arith, long, some))
  kept_labels op inst has = tt

  merge_labels : (op : Op) (inst : Instruction) → is_merge op ≡ true → HasLabels op inst
  merge_labels ops.Phi inst kind = tt
  merge_labels ops.Select inst kind = tt
  merge_labels op inst kind = absurd cc

  pub leads_out : All IsLine (instructions_of func.blocks) → (number place : ℕ) (inst : Instruction) → Stands made number place inst → LeadsOut inst
  leads_out lines =
      all_made (λ number inst. LeadsOut inst) (λ number inst. LeadsOut inst) (λ number. tt)
      (λ number next inst has.
      each_line LeadsOut (placed func) marks next inst (kept_labels inst.op inst has) (λ kind. merge_labels inst.op (base_line (placed func) marks next inst) kind)
      (λ address. tt) (λ result first second. tt) tt)
      (λ number place inst stands. labels_of inst (line_at IsLine func number place inst stands lines) inst.op refl)

-- ---- edges counted

pub edges_counted : (func : Function) (from to : ℕ) → edges func from to ≡ count_of to (succs_of (graph_of func) from)
edges_counted func from to = by (slice_get func.blocks from) refl
  where
    by : (here : Option BasicBlock) → slice_get func.blocks from ≡ here → edges func from to ≡ count_of to (succs_of (graph_of func) from)
    by (Some block) found = edges_at func from to block found ∙ ap (count_of to) (sym (succs_at func from block found))
    by None none = elim (cases_lt from (length func.blocks)) [
      | inl below ↦ absurd (let some = get_some func.blocks from below in let both : None ≡ Some some.0 = sym none ∙ some.1 in cc)
      | inr past ↦ edges_past func from to past ∙ sym (ap (count_of to) (get_or_past (graph_of func) from [] (let long = length-map func.blocks targets in omega arith)))
    ]

pub edges_same : (func other : Function) → graph_of other ≡ graph_of func → (from to : ℕ) → edges other from to ≡ edges func from to
edges_same func other same from to =
    edges_counted other from to ∙ (ap (λ (graph : Graph). count_of to (succs_of graph from)) same ∙ sym (edges_counted func from to))

pub front_passes : {A : Type 0} (test : A → Bool) (before rest : List A) → length before ≤ prefix_len test (before ++ rest) → list_all test before ≡ true
front_passes test [] rest long = refl
front_passes test (x ∷ before) rest long = by (test x) refl long (λ further. front_passes test before rest further)
  where
    by : (t : Bool) → test x ≡ t → suc (length before) ≤ (if t then 1 + prefix_len test (before ++ rest) else 0) → (length before ≤ prefix_len test (before ++ rest) → list_all test before ≡ true)
        → t && list_all test before ≡ true
    by true is long further = further (omega arith)
    by false is long further = absurd (omega arith)

pub phis_are_right : (func : Function) → PhisAreRight func → All IsLine (instructions_of func.blocks) → graph_of (based (placed func)) ≡ graph_of func
    → All (λ block. PhisStandFirst block.insts) (based (placed func)).blocks → PhisAreRight (based (placed func))
phis_are_right func phis lines graph first number block before after phi found whole one =
    let here : slice_get block.insts (length before) ≡ Some phi = ap (λ (insts : List Instruction). slice_get insts (length before)) whole ∙ get_middle before phi after in
    let right = right_phis func phis lines number (length before) phi (record { block = block; in_function = found; in_block = here }) one in
    let stands_first = all_at (λ (each : BasicBlock). PhisStandFirst each.insts) (based (placed func)).blocks number block first found in
    let below : length before < phis_of block.insts = stands_first (length before) phi here one in
    let there : length before < phis_of (before ++ phi ∷ after) = subst (λ (insts : List Instruction). length before < phis_of insts) whole below in
    record {
      first = front_passes (λ (inst : Instruction). is_phi inst.op) before (phi ∷ after) (omega arith);
      counted = λ from. right.counted from ∙ sym (edges_same func (based (placed func)) graph from number);
      agree = right.agree;
    }
