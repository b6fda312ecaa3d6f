-- The rewritten function of one that waits at its first line alone.
use Rattle.std.proofs.Common.{◌≡◌, ◌∙◌, ℕ, zero, suc, ◌<◌, ◌≤◌, ◌+◌, inl, inr, Bool, true, false, not, ◌&&◌, List, [], ◌∷◌, length, map, Option, Some, None, is_some, slice_get, refl, ap, sym, arith, subst}
use Rattle.std.specs.Prelude.{nat_lt, slice_index_or}
use Rattle.std.specs.List.{list_all, range_with_len}
use Rattle.std.proofs.lemmas.Bool.{cases_eq, false≢true, true≢false, and_parts, ltb-true}
use Rattle.std.proofs.lemmas.List.{length-map}
use Rattle.list_laws.proofs.Places.{get_map}
use Rattle.sp_ids.specs.declared.ids.BlockId.{BlockId}
use Rattle.ir_ast.specs.declared.types.Ty.{Ty}
use Rattle.ir_ast.specs.declared.funcs.Arg.{Arg}
use Rattle.ir_ast.specs.declared.ops.Callee.{Callee}
use Rattle.ir_ast.specs.declared.ops.Op.{Op}
use Rattle.ir_ast.specs.declared.ops.Op.TheVariants.{Call}
use Rattle.ir_ast.specs.declared.ops.Operand.{Operand}
use Rattle.ir_ast.specs.Callees.{is_leaf}
use Rattle.ir_ast.specs.Insts.{Instruction}
use Rattle.ir_ast.specs.Blocks.{BasicBlock}
use Rattle.ir_ast.specs.Edges.{targets}
use Rattle.ir_ast.specs.Funcs.{Function, instructions_of}
use Rattle.rewriting_forms.specs.Numbered.{among, is_call}
use Rattle.rewriting_forms.specs.Liveness.{live_list, live_lists}
use Rattle.rewriting_forms.specs.Rewritten.{rewritten}
use Rattle.rewriting_laws.specs.Laws.{Edge}
use Rattle.rewriting_laws.proofs.LiveLaws.{edge_succs}
use Rattle.rewriting_laws.proofs.VersionLaws.{edge_within}
use Rattle.rewriting_laws.proofs.NameLemmas.{among_cons, is_one, is_none, call_or_not}
use Rattle.statepoint_insert.specs.declared.groups.Relocate.{Relocate}
use Rattle.statepoint_insert.specs.Groups.{GroupContent, relocate_in, group_of, groups_of}
use Rattle.statepoint_insert.specs.Marked.{IsReady}
use Rattle.statepoint_insert.proofs.CallLaws.{call_list}
use Rattle.entry_groups.specs.Entry.{is_none_of, has_no_parts, is_bare, enters_bare, is_one_below, leads_forward, leads_on, waits_at_entry, behind_group, numbers_behind, blocks_behind}
use Rattle.entry_groups.proofs.RangeLaws.{all_cons, all_range}
use Rattle.entry_groups.proofs.VersionLaws.{Parts, whole, WaitsFirst}
use Rattle.entry_groups.proofs.TextLaws.{whole_text}

none_of : {A : Type 0} (xs : List A) → is_none_of xs ≡ true → xs ≡ []
none_of [] is = refl
none_of (x ∷ xs) is = absurd (false≢true is)

unnamed : (result : Option (List ℕ)) → not (is_some result) ≡ true → result ≡ None
unnamed None is = refl
unnamed (Some x) is = absurd (false≢true is)

below_all : (table : List Operand) (vs xs : List ℕ) (n : ℕ) → list_all (λ relocate. nat_lt relocate.value.0 n) (map (relocate_in table vs) xs) ≡ true
    → (v : ℕ) → among v xs ≡ true → v < n
below_all table vs [] n all v is = absurd (false≢true is)
below_all table vs (x ∷ xs) n all v is =
    let both = all_cons (λ relocate. nat_lt relocate.value.0 n) (relocate_in table vs x) (map (relocate_in table vs) xs) all in
    elim (cases_eq x v) [
      | inl e ↦ (let below : x < n = ltb-true x n both.0 in omega (arith, below, e))
      | inr ne ↦ below_all table vs xs n both.1 v (among_cons v x xs is ne)
    ]

-- what a test of all labels says of one among them
each_label : (p : BlockId → Bool) (labels : List BlockId) → list_all p labels ≡ true → (to : ℕ) → among to (map (λ (l : BlockId). l.0) labels) ≡ true
    → (label : BlockId) × (label.0 ≡ to) × (p label ≡ true)
each_label p [] all to has = absurd (false≢true has)
each_label p (label ∷ labels) all to has =
    let both = all_cons p label labels all in
    elim (cases_eq label.0 to) [
      | inl is ↦ (label, is, both.0)
      | inr other ↦ each_label p labels both.1 to (among_cons to label.0 (map (λ (l : BlockId). l.0) labels) has other)
    ]

leads : (func : Function) → leads_forward func.blocks ≡ true → (from to : ℕ) → Edge func from to → from < to
leads func forward from to edge =
    let here : leads_on func.blocks from ≡ true = all_range (leads_on func.blocks) 0 (length func.blocks) forward from (omega arith) (let below = edge_within func from to edge in omega (arith, below)) in
    let label = each_label (λ l. nat_lt from l.0) (slice_index_or (map targets func.blocks) from []) here to (edge_succs func from to edge) in
    let past : from < label.0.0 = ltb-true from label.0.0 label.2 in
    let is = label.1 in
    omega (arith, past, is)

-- a function whose parts are known
abbrev IsLaw : Function → List Operand → Type 0
IsLaw func table = (group : GroupContent) → IsReady func table → groups_of func table ≡ group ∷ [] → waits_at_entry func (group ∷ []) ≡ true
    → blocks_behind (length func.args) group (numbers_behind func group.relocates) func.blocks ≡ (rewritten func table).blocks

parts_law : (parts : Parts) (table : List Operand) → is_leaf parts.callee ≡ false → IsLaw (whole parts) table
parts_law parts table other group ready groups waits =
    let func = whole parts in
    let list = live_list func table 0 0 in
    let tested = and_parts (enters_bare func.blocks) (is_one_below (length parts.args) (group ∷ []) && leads_forward func.blocks) waits in
    let both = and_parts (is_one_below (length parts.args) (group ∷ [])) (leads_forward func.blocks) tested.1 in
    let one : length (live_lists func table) ≡ 1 = sym (length-map (live_lists func table) (group_of table)) ∙ ap (λ (gs : List GroupContent). length gs) groups in
    let first : slice_get (live_lists func table) 0 ≡ Some list = call_list func table 0 0 _ (omega arith) refl (ap not other) in
    let same : Some (group_of table list) ≡ Some group =
    sym (get_map (group_of table) (live_lists func table) 0 list first) ∙ ap (λ (gs : List GroupContent). slice_get gs 0) groups in
    let is : group_of table list ≡ group = cc in
    let inside = subst (λ (g : GroupContent). list_all (λ relocate. nat_lt relocate.value.0 (length parts.args)) g.relocates ≡ true) (sym is) both.0 in
    let first_waits : WaitsFirst parts table = record {
      reached = ready.reached;
      phis = (ready.formed).phis;
      other = other;
      one = one;
      arguments = below_all table list list (length parts.args) inside;
      forward = leads func both.1;
    } in
    ap (λ (g : GroupContent). blocks_behind (length parts.args) g (numbers_behind func g.relocates) func.blocks) (sym is)
    ∙ whole_text parts table first_waits ready.formed

-- ---- the parts of a function that the test is true of

abbrev made_of : Function → List BasicBlock → Function
made_of func blocks = record func { blocks = blocks }

abbrev line_of : Op → Ty → List BlockId → Option (List ℕ) → List Operand → List (Ty × Operand) → Instruction
line_of op ty labels result operands bundle = record { result = result; op = op; ty = ty; operands = operands; labels = labels; bundle = bundle }

line_law : (func : Function) (front : List ℕ) (inst : Instruction) (insts : List Instruction) (blocks : List BasicBlock) (table : List Operand)
    → is_bare inst ≡ true → IsLaw (made_of func (record { name = front; insts = inst ∷ insts } ∷ blocks)) table
line_law func front inst insts blocks table bare =
    let both = and_parts (is_call inst.op) (has_no_parts inst) bare in
    let none = and_parts (not (is_some inst.result)) (is_none_of inst.operands && is_none_of inst.bundle) both.1 in
    let empty = and_parts (is_none_of inst.operands) (is_none_of inst.bundle) none.1 in
    elim (call_or_not inst.op) [
      | is_none plain ↦ absurd (true≢false (sym both.0 ∙ plain))
      | is_one callee types op other ↦
          let is : line_of (Call callee types) inst.ty inst.labels None [] [] ≡ inst =
          sym (ap (λ (o : Op). line_of o inst.ty inst.labels inst.result inst.operands inst.bundle) op
          ∙ ap (λ (r : Option (List ℕ)). line_of (Call callee types) inst.ty inst.labels r inst.operands inst.bundle) (unnamed inst.result none.0)
          ∙ ap (λ (os : List Operand). line_of (Call callee types) inst.ty inst.labels None os inst.bundle) (none_of inst.operands empty.0)
          ∙ ap (λ (es : List (Ty × Operand)). line_of (Call callee types) inst.ty inst.labels None [] es) (none_of inst.bundle empty.1)) in
          subst (λ (i : Instruction). IsLaw (made_of func (record { name = front; insts = i ∷ insts } ∷ blocks)) table) is
          (parts_law (record {
            name = func.name;
            answer = func.answer;
            args = func.args;
            front = front;
            callee = callee;
            types = types;
            ty = inst.ty;
            labels = inst.labels;
            insts = insts;
            blocks = blocks;
          }) table other)
    ]

blocks_law : (func : Function) (blocks : List BasicBlock) (table : List Operand) → enters_bare blocks ≡ true → IsLaw (made_of func blocks) table
blocks_law func [] table is = absurd (false≢true is)
blocks_law func (block ∷ blocks) table is = by block.insts refl
  where
    by : (insts : List Instruction) → block.insts ≡ insts → IsLaw (made_of func (block ∷ blocks)) table
    by [] e = absurd (false≢true (ap (λ (is : List Instruction). enters_bare ((let b : BasicBlock = record { name = block.name; insts = is } in b) ∷ blocks)) (sym e) ∙ is))
    by (inst ∷ insts) e =
        let bare : is_bare inst ≡ true = ap (λ (is : List Instruction). enters_bare ((let b : BasicBlock = record { name = block.name; insts = is } in b) ∷ blocks)) (sym e) ∙ is in
        subst (λ (is : List Instruction). IsLaw (made_of func ((let b : BasicBlock = record { name = block.name; insts = is } in b) ∷ blocks)) table) (sym e)
        (line_law func block.name inst insts blocks table bare)

pub entry_law : (func : Function) (table : List Operand) → IsLaw func table
entry_law func table group ready groups waits =
    let tested = and_parts (enters_bare func.blocks) (is_one_below (length func.args) (group ∷ []) && leads_forward func.blocks) waits in
    blocks_law func func.blocks table tested.0 group ready groups waits

-- the same by what the parts of the code give
pub entry_made : (func : Function) (table : List Operand) (group : GroupContent) (given : List GroupContent) (args others token : ℕ) (relocates : List Relocate) (row rows : List ℕ)
    (blocks after : List BasicBlock) → IsReady func table → given ≡ groups_of func table → given ≡ group ∷ [] → waits_at_entry func given ≡ true
    → after ≡ blocks_behind token group rows blocks → token ≡ length func.args → rows ≡ row → row ≡ behind_group args others relocates → args ≡ length func.args
    → others ≡ length (instructions_of func.blocks) → relocates ≡ group.relocates → blocks ≡ func.blocks → after ≡ (rewritten func table).blocks
entry_made func table group given args others token relocates row rows blocks after ready all only waits is token_is rows_are row_is args_are others_are relocates_are blocks_are =
    let numbers : rows ≡ numbers_behind func group.relocates =
    rows_are ∙ row_is ∙ ap (λ (n : ℕ). behind_group n others relocates) args_are ∙ ap (λ (n : ℕ). behind_group (length func.args) n relocates) others_are
    ∙ ap (behind_group (length func.args) (length (instructions_of func.blocks))) relocates_are in
    is ∙ ap (λ (n : ℕ). blocks_behind n group rows blocks) token_is ∙ ap (λ (r : List ℕ). blocks_behind (length func.args) group r blocks) numbers
    ∙ ap (blocks_behind (length func.args) group (numbers_behind func group.relocates)) blocks_are
    ∙ entry_law func table group ready (sym all ∙ only) (subst (λ (gs : List GroupContent). waits_at_entry func gs ≡ true) only waits)
