-- A source module that the laws hold of, and its rewritten text: a pointer is live across the call that makes the next.
use Rattle.std.proofs.Common.{◌≡◌, ℕ, zero, suc, ◌<◌, ◌≤◌, true, false, List, [], ◌∷◌, length, map, refl, sym, ap, subst, ◌∙◌, inl, inr, arith, lit<, codes}
use Rattle.std.specs.Prelude.{Some, None, slice_get}
use Rattle.std.specs.Fmt.{digits}
use Rattle.std.specs.List.{All, Contains}
use Rattle.std.proofs.lemmas.Bool.{false≢true}
use Rattle.std.proofs.lemmas.List.Elements.{All-cons, All-nil}
use Rattle.list_laws.proofs.Contents.{all_at, contains_cons, contains_middle, contains_none, get_contained, all_one}
use Rattle.sp_ids.specs.declared.ids.BlockId.{BlockId}
use Rattle.ir_ast.specs.declared.types.Ty.{Ty}
use Rattle.ir_ast.specs.declared.types.Ty.TheVariants.{Int, Ptr, Void}
use Rattle.ir_ast.specs.declared.cells.Cell.TheVariants as cells
use Rattle.ir_ast.specs.declared.modules.Form.TheVariants.{Source}
use Rattle.ir_ast.specs.declared.ops.Callee.TheVariants as callees
use Rattle.ir_ast.specs.declared.ops.Op.{Op}
use Rattle.ir_ast.specs.declared.ops.Op.TheVariants as ops
use Rattle.ir_ast.specs.declared.ops.Operand.{Operand}
use Rattle.ir_ast.specs.declared.ops.Operand.TheVariants as operands
use Rattle.ir_ast.specs.Derived.{Derived, by_merge, by_step, is_merge, is_step}
use Rattle.ir_ast.specs.Insts.{Instruction}
use Rattle.ir_ast.specs.Blocks.{BasicBlock, EndsAtTerminator}
use Rattle.ir_ast.specs.declared.funcs.Arg.{Arg}
use Rattle.ir_ast.specs.Funcs.{Function, instructions_of}
use Rattle.ir_ast.specs.Layouts.{ObjectLayout}
use Rattle.ir_ast.specs.Lines.{IsLine, is_rewritten}
use Rattle.ir_ast.specs.Lists.{Distinct}
use Rattle.ir_ast.specs.Modules.{ModuleContent}
use Rattle.ir_ast.specs.Operands.{values_used}
use Rattle.ir_ast.specs.Scope.{scope_of}
use Rattle.ir_ast.specs.Types.{is_first_class}
use Rattle.ir_ast.specs.Values.{Definition, definition_name, definitions_of, outcome, value_types}
use Rattle.ir_ast.specs.Widths.{IsWidth}
use Rattle.ir_ast.specs.Faultless.{FunctionHasNoFault}
use Rattle.ir_ast.specs.Faults.DerivedEscapes.{KeepsDerived}
use Rattle.ir_ast.specs.Faults.EntryHasPred.{LeavesEntry}
use Rattle.ir_ast.specs.Faults.PhiEdges.{PhisAreRight, is_phi}
use Rattle.ir_ast.specs.Faults.PointerOrder.{orders_pointers}
use Rattle.ir_ast.specs.Faults.Reserved.{IsExternalName, IsInsertedName}
use Rattle.ir_ast.specs.Faults.TypeClash.{Fits, FunctionIsTyped, IsTyped}
use Rattle.ir_ast.specs.Faults.UnknownName.{NamesOfFunction, NamesOfModule}
use Rattle.ir_cfg.specs.DefiniteUses.{Defines, UsesAreDefinite, by_entry, by_line, in_last}
use Rattle.ir_cfg.specs.Graphs.{graph_of}
use Rattle.ir_cfg.specs.Limits.{IsName}
use Rattle.ir_cfg.specs.Paths.{at_entry, IsReached}
use Rattle.ir_cfg.specs.SourceModules.{IsSourceModule}
use Rattle.ir_cfg.specs.TargetModules.{IsTargetModule}
use Rattle.ir_cfg.specs.TypedModules.{IsTypedFunction}
use Rattle.ir_cfg.proofs.UsedLaws.{values_known}
use Rattle.ir_cfg.proofs.NameLaws.{absent, all_distinct, differ, free_main, names_distinct, not_inserted}
use Rattle.definite_assign.proofs.PathLemmas.{path_ends}
use Rattle.base_forms.specs.DerivedMarks.{derived_marks}
use Rattle.rewritten_sound.specs.Definite.{IsReachedSource, rewritten_source}
use Rattle.rewritten_sound.specs.WellFormed.{IsWellFormed}
use Rattle.rewritten_sound.proofs.shape.TargetLaws.{rewritten_is_target}

abbrev value : ℕ → Operand
value number = operands.Value (record { 0 = number })

abbrev literal : ℕ → Operand
literal number = operands.Int number

abbrev gives : List ℕ → Op → Ty → List Operand → Instruction
gives name op ty operands = record { result = Some name; op = op; ty = ty; operands = operands; labels = []; bundle = [] }

abbrev new : List ℕ → Instruction
new name = gives name (ops.Call (callees.New 0) (Int 64 ∷ [])) Ptr (literal 1 ∷ [])

abbrev store : Ty → Operand → Operand → Instruction
store ty word to = record { result = None; op = ops.Store; ty = ty; operands = word ∷ to ∷ []; labels = []; bundle = [] }

abbrev return : Operand → Instruction
return operand = record { result = None; op = ops.Ret; ty = Int 64; operands = operand ∷ []; labels = []; bundle = [] }

abbrev block : List ℕ → List Instruction → BasicBlock
block name insts = record { name = name; insts = insts }

abbrev main : List BasicBlock → Function
main blocks = record { name = codes "main"; answer = Int 64; args = []; blocks = blocks }

abbrev entry : BasicBlock
entry = block (codes "entry") (new (codes "p") ∷ new (codes "q") ∷ store Ptr (value 0) (value 1) ∷ return (literal 0) ∷ [])

abbrev kept : Function
kept = main (entry ∷ [])

abbrev node : ObjectLayout
node = record { name = codes "N"; fields = cells.Ptr ∷ [] }

abbrev worked : ModuleContent
worked = record { layouts = node ∷ []; funcs = kept ∷ []; form = Source }

abbrev IsWell : Instruction → Type 0
IsWell line = IsWellFormed worked kept line

width_64 : IsWidth 64
width_64 = (omega arith, omega arith)

no_blocks : All (λ (label : BlockId). label.0 < 1) []
no_blocks = All-nil (λ (label : BlockId). label.0 < 1)

no_numbers : All (λ number. number < 1) []
no_numbers = All-nil (λ number. number < 1)

no_bundle : All (λ (entry : Ty × Operand). Fits (value_types kept) entry.1 entry.0) []
no_bundle = All-nil (λ (entry : Ty × Operand). Fits (value_types kept) entry.1 entry.0)

new_well : (name : List ℕ) → IsWell (new name)
new_well name =
    let typed : IsTyped (scope_of worked kept) (new name) = record { operands = ((64, refl, lit< tt), tt); bundle = no_bundle; rule = record { signature = refl; operands = tt } } in
    record {
      line = record { result = refl; type = refl; arguments = (refl, tt); no_labels = refl; bundle = refl; leaf = λ leaf. refl };
      typed = typed;
      local = record { values = values_known worked kept (new name) typed; blocks = no_blocks };
      global = record { layouts = All-cons (λ number. number < 1) 0 [] (omega arith) no_numbers; functions = no_numbers };
      leaves = λ ends. absurd cc;
      unordered = refl;
      widths = All-cons IsWidth 64 [] width_64 (All-nil IsWidth);
      few = omega arith;
    }

store_well : IsWell (store Ptr (value 0) (value 1))
store_well =
    let typed : IsTyped (scope_of worked kept) (store Ptr (value 0) (value 1)) = record { operands = (refl, (refl, tt)); bundle = no_bundle; rule = (cells.Ptr, refl) } in
    record {
      line = record { result = refl; type = refl; operand_count = refl; values = refl; label_count = refl; no_bundle = refl };
      typed = typed;
      local = record { values = values_known worked kept (store Ptr (value 0) (value 1)) typed; blocks = no_blocks };
      global = record { layouts = no_numbers; functions = no_numbers };
      leaves = λ ends. absurd cc;
      unordered = refl;
      widths = All-nil IsWidth;
      few = omega arith;
    }

return_well : IsWell (return (literal 0))
return_well =
    let typed : IsTyped (scope_of worked kept) (return (literal 0)) = record { operands = ((64, refl, lit< tt), tt); bundle = no_bundle; rule = refl } in
    record {
      line = record { result = refl; type = refl; operand_count = refl; values = refl; label_count = refl; no_bundle = refl };
      typed = typed;
      local = record { values = values_known worked kept (return (literal 0)) typed; blocks = no_blocks };
      global = record { layouts = no_numbers; functions = no_numbers };
      leaves = λ ends. All-nil (λ (label : BlockId). label.0 ≡ 0 → ⊥);
      unordered = refl;
      widths = All-cons IsWidth 64 [] width_64 (All-nil IsWidth);
      few = omega arith;
    }

each_of : (P : Instruction → Type 0) → P (new (codes "p")) → P (new (codes "q")) → P (store Ptr (value 0) (value 1)) → P (return (literal 0)) → All P (instructions_of kept.blocks)
each_of P a b c d =
    let last = All-cons P (return (literal 0)) [] d (All-nil P) in
    let later = All-cons P (store Ptr (value 0) (value 1)) (return (literal 0) ∷ []) c last in
    let second = All-cons P (new (codes "q")) (store Ptr (value 0) (value 1) ∷ return (literal 0) ∷ []) b later in
    All-cons P (new (codes "p")) (new (codes "q") ∷ store Ptr (value 0) (value 1) ∷ return (literal 0) ∷ []) a second

each_line : (P : Instruction → Type 0) → ((line : Instruction) → IsWell line → P line) → All P (instructions_of kept.blocks)
each_line P holds = each_of P (holds _ (new_well (codes "p"))) (holds _ (new_well (codes "q"))) (holds _ store_well) (holds _ return_well)

each_definition : (P : Definition → Type 0) → P (outcome (new (codes "p"))) → P (outcome (new (codes "q"))) → All P (definitions_of kept)
each_definition P a b = All-cons P (outcome (new (codes "p"))) (outcome (new (codes "q")) ∷ []) a (All-cons P (outcome (new (codes "q"))) [] b (All-nil P))

-- ---- no phi, no derived pointer

home : (number : ℕ) (found : BasicBlock) → slice_get kept.blocks number ≡ Some found → (number ≡ 0) × (found ≡ entry)
home zero found at = (refl, (let is : Some entry ≡ Some found = at in cc))
home (suc number) found at = absurd (let none : None ≡ Some found = at in cc)

no_phi : All (λ (line : Instruction). is_phi line.op ≡ false) entry.insts
no_phi = each_of (λ (line : Instruction). is_phi line.op ≡ false) refl refl refl refl

never_phi : (place : ℕ) (phi : Instruction) → slice_get entry.insts place ≡ Some phi → is_phi phi.op ≡ true → ⊥
never_phi place phi at is = false≢true (sym (all_at (λ (line : Instruction). is_phi line.op ≡ false) entry.insts place phi no_phi at) ∙ is)

phis : PhisAreRight kept
phis number found before after phi at whole is =
    let here = home number found at in
    let inside = subst (λ (lines : List Instruction). Contains lines phi) (sym whole ∙ ap (λ (b : BasicBlock). b.insts) here.1) (contains_middle before phi after) in
    let stands = get_contained entry.insts phi inside in
    absurd (never_phi stands.0 phi stands.1 is)

no_step : All (λ (given : Definition). (inst : Instruction) → given ≡ outcome inst → (is_step inst.op ≡ false) × (is_merge inst.op ≡ false)) (definitions_of kept)
no_step =
    let P : Definition → Type 0 = λ given. (inst : Instruction) → given ≡ outcome inst → (is_step inst.op ≡ false) × (is_merge inst.op ≡ false) in
    let each : (name : List ℕ) → P (outcome (new name)) = λ name inst is. (let same : new name ≡ inst = cc in subst (λ (i : Instruction). (is_step i.op ≡ false) × (is_merge i.op ≡ false)) same (refl, refl)) in
    each_definition P (each (codes "p")) (each (codes "q"))

never_step : (v : ℕ) (inst : Instruction) → slice_get (definitions_of kept) v ≡ Some (outcome inst) → (is_step inst.op ≡ false) × (is_merge inst.op ≡ false)
never_step v inst at = all_at (λ (given : Definition). (inst : Instruction) → given ≡ outcome inst → (is_step inst.op ≡ false) × (is_merge inst.op ≡ false)) (definitions_of kept) v (outcome inst) no_step at inst refl

not_derived : (v : ℕ) → Derived kept v → ⊥
not_derived _ (by_step v inst given step) = false≢true (sym (never_step v inst given).0 ∙ step)
not_derived _ (by_merge v operand inst given merge used of) = false≢true (sym (never_step v inst given).1 ∙ merge)

-- ---- definite uses

late : (place v : ℕ) (inst : Instruction) → slice_get entry.insts place ≡ Some inst → Contains (values_used inst) v → (v < 2) × (v < place)
late zero v inst at used = let same : new (codes "p") ≡ inst = cc in absurd (contains_none v (subst (λ (i : Instruction). Contains (values_used i) v) (sym same) used))
late (suc zero) v inst at used = let same : new (codes "q") ≡ inst = cc in absurd (contains_none v (subst (λ (i : Instruction). Contains (values_used i) v) (sym same) used))
late (suc (suc zero)) v inst at used =
    let same : store Ptr (value 0) (value 1) ≡ inst = cc in
    let among : Contains (0 ∷ 1 ∷ []) v = subst (λ (i : Instruction). Contains (values_used i) v) (sym same) used in
    elim (contains_cons 0 v (1 ∷ []) among) [
      | inl is ↦ (omega (arith, is), omega (arith, is))
      | inr among ↦ elim (contains_cons 1 v [] among) [
        | inl is ↦ (omega (arith, is), omega (arith, is))
        | inr none ↦ absurd (contains_none v none)
      ]
    ]
late (suc (suc (suc zero))) v inst at used = let same : return (literal 0) ≡ inst = cc in absurd (contains_none v (subst (λ (i : Instruction). Contains (values_used i) v) (sym same) used))
late (suc (suc (suc (suc place)))) v inst at used = absurd (let none : None ≡ Some inst = at in cc)

defined : (v : ℕ) → v < 2 → Defines kept v 0 v
defined zero few = record { inst = new (codes "p"); stands = record { block = entry; in_function = refl; in_block = refl }; named = refl; numbered = refl }
defined (suc zero) few = record { inst = new (codes "q"); stands = record { block = entry; in_function = refl; in_block = refl }; named = refl; numbered = refl }
defined (suc (suc v)) few = absurd (omega (arith, few))

definite : UsesAreDefinite kept
definite _ _ _ _ (by_line number place v inst stands plain used) = λ path leads.
    let here = home number stands.block stands.in_function in
    let at = subst (λ (b : BasicBlock). slice_get b.insts place ≡ Some inst) here.1 stands.in_block in
    let before = late place v inst at used in
    let ends = path_ends (graph_of kept) path number leads in
    in_last ends.front number v ends.whole (subst (λ (n : ℕ). Defines kept v n v) (sym here.0) (defined v before.0)) before.1
definite _ _ _ _ (by_entry number place k v phi operand label from stands is labelled found of left) =
    let here = home number stands.block stands.in_function in
    let at = subst (λ (b : BasicBlock). slice_get b.insts place ≡ Some phi) here.1 stands.in_block in
    absurd (never_phi place phi at is)

-- ---- the module

no_fault : FunctionHasNoFault worked kept
no_fault = record {
  local = each_line (NamesOfFunction kept) (λ line is. is.local);
  global = each_line (NamesOfModule worked) (λ line is. is.global);
  entry = each_line LeavesEntry (λ line is. is.leaves);
  phis = phis;
  pointers = each_line (λ line. orders_pointers line.op line.ty ≡ false) (λ line is. is.unordered);
  form = (
    record {
      values = each_definition (λ given. IsInsertedName (definition_name given) → ⊥) (not_inserted 112 [] (differ 112 115 refl)) (not_inserted 113 [] (differ 113 115 refl));
      labels = all_one (λ (b : BasicBlock). IsInsertedName b.name → ⊥) entry (not_inserted 101 (codes "ntry") (differ 101 115 refl));
      lines = each_of (λ line. is_rewritten line.op ≡ false) refl refl refl refl;
    },
    each_of (KeepsDerived kept) (All-nil (λ v. Derived kept v → ⊥)) (All-nil (λ v. Derived kept v → ⊥)) (all_one (λ v. Derived kept v → ⊥) 0 (not_derived 0)) (All-nil (λ v. Derived kept v → ⊥)),
  );
}

typed_function : IsTypedFunction Source kept
typed_function = record {
  has_block = omega arith;
  ends = all_one (λ (b : BasicBlock). EndsAtTerminator b.insts) entry (record {
    before = new (codes "p") ∷ new (codes "q") ∷ store Ptr (value 0) (value 1) ∷ [];
    last = return (literal 0);
    whole = refl;
    ends = refl;
    inside = refl;
  });
  lines = each_line IsLine (λ line is. is.line);
  names = record {
    own = refl;
    values = each_definition (λ given. IsName (definition_name given)) refl refl;
    labels = all_one (λ (b : BasicBlock). IsName b.name) entry refl;
  };
  widths = All-cons IsWidth 64 (64 ∷ 64 ∷ 64 ∷ []) width_64 (All-cons IsWidth 64 (64 ∷ 64 ∷ []) width_64 (All-cons IsWidth 64 (64 ∷ []) width_64 (All-cons IsWidth 64 [] width_64 (All-nil IsWidth))));
  bundles = each_line (λ line. length line.bundle ≤ 64) (λ line is. is.few);
  small = omega arith;
}

worked_source : IsSourceModule worked
unfolding all_distinct absent
worked_source = record {
  typed = record {
    of_form = refl;
    no_fault = record {
      names = record {
        layouts = names_distinct (codes "N" ∷ []) refl;
        functions = names_distinct (codes "main" ∷ []) refl;
        labels = all_one (λ (func : Function). Distinct (map (λ (b : BasicBlock). b.name) func.blocks)) kept (names_distinct (codes "entry" ∷ []) refl);
        values = all_one (λ (func : Function). Distinct (map definition_name (definitions_of func))) kept (names_distinct (codes "p" ∷ codes "q" ∷ []) refl);
      };
      typed = all_one (λ (func : Function). FunctionIsTyped (scope_of worked func) func) kept (record {
        answer = refl;
        args = All-nil (λ (arg : Arg). is_first_class arg.ty ≡ true);
        lines = each_line (IsTyped (scope_of worked kept)) (λ line is. is.typed);
      });
      functions = all_one (FunctionHasNoFault worked) kept no_fault;
      main = record { earlier = []; main = kept; later = []; whole = refl; first = All-nil (λ (func : Function). func.name ≡ codes "main" → ⊥); name = refl; args = refl; answer = inr refl };
      fields = all_one (λ (layout : ObjectLayout). 0 < length layout.fields) node (omega arith);
      free = all_one (λ (func : Function). IsExternalName func.name → ⊥) kept free_main;
    };
    functions = all_one (IsTypedFunction Source) kept typed_function;
    layout_names = all_one (λ (layout : ObjectLayout). IsName layout.name) node refl;
    limits = record {
      layouts = omega arith;
      functions = omega arith;
      layout_names = all_one (λ (layout : ObjectLayout). length layout.name ≤ 4096) node (omega arith);
      function_names = all_one (λ (func : Function). length func.name ≤ 4096) kept (omega arith);
      fields = all_one (λ (layout : ObjectLayout). length layout.fields ≤ 64) node (omega arith);
      arguments = all_one (λ (func : Function). length func.args ≤ 64) kept (omega arith);
    };
    small = omega arith;
  };
  definite = all_one UsesAreDefinite kept definite;
}

all_reached : IsReached kept
all_reached zero below = (0 ∷ [], at_entry)
all_reached (suc number) below = absurd (let fact : suc number < 1 = below in omega (arith, fact))

worked_reached : IsReachedSource worked
worked_reached = record { source = worked_source; reached = all_one IsReached kept all_reached }

worked_target : IsTargetModule (rewritten_source worked)
worked_target = rewritten_is_target worked worked_reached

abbrev statepoint : List ℕ → List Operand → Instruction
statepoint name live = gives name (ops.Statepoint 2882400000 (callees.New 0) (Int 64 ∷ [])) Ptr (literal 1 ∷ live)

abbrev check : Instruction
check = record { result = None; op = ops.Call callees.Check (Ptr ∷ Ptr ∷ Int 64 ∷ []); ty = Void; operands = value 4 ∷ value 4 ∷ literal 1 ∷ []; labels = []; bundle = [] }

worked_text : (rewritten_source worked).funcs
    ≡ main
    (block (codes "entry")
    (gives (codes "sp.t0") (ops.Statepoint 2882400000 callees.Poll []) Void [] ∷ statepoint (codes "sp.t1") [] ∷ gives (codes "p") ops.GcResult Ptr (value 1 ∷ [])
    ∷ statepoint (codes "sp.t2") (value 2 ∷ []) ∷ gives (codes "q") ops.GcResult Ptr (value 3 ∷ [])
    ∷ gives (codes "sp.r0") ops.GcRelocate Ptr (value 3 ∷ literal 0 ∷ literal 0 ∷ []) ∷ check ∷ store Ptr (value 5) (value 4) ∷ return (literal 0) ∷ []) ∷ [])
    ∷ []
unfolding digits derived_marks
worked_text = refl
