-- The bases of the function with bases, by the manual's relation.
use Rattle.std.proofs.Common.{◌≡◌, ℕ, zero, suc, ◌+◌, ◌-◌, ◌≤◌, Bool, true, false, ◌&&◌, ◌||◌, if◌then◌else◌, List, [], ◌∷◌, ◌++◌, length, map, replicate, take, refl, sym, ap, subst, ◌∙◌, arith}
use Rattle.std.specs.Prelude.{Option, Some, None, is_some, slice_get, filter}
use Rattle.std.specs.List.{All, AllZip, Contains}
use Rattle.std.specs.Option.{option_and_then}
use Rattle.list_laws.proofs.Contents.{all_at, all_from_at, contains_image, contains_map}
use Rattle.list_laws.proofs.Places.{get_map}
use Rattle.sp_ids.specs.declared.ids.ValueId.{ValueId}
use Rattle.ir_ast.specs.declared.types.Ty.{Ty}
use Rattle.ir_ast.specs.declared.types.Ty.TheVariants as types
use Rattle.ir_ast.specs.declared.ops.Op.{Op}
use Rattle.ir_ast.specs.declared.ops.Op.TheVariants as ops
use Rattle.ir_ast.specs.declared.ops.Operand.{Operand}
use Rattle.ir_ast.specs.declared.ops.Operand.TheVariants as operands
use Rattle.ir_ast.specs.Insts.{Instruction}
use Rattle.ir_ast.specs.Bases.{Base, HasBases, MergesAsIn, MergesBases, of_itself, of_merge, of_null, of_step}
use Rattle.ir_ast.specs.Funcs.{Function, instructions_of}
use Rattle.ir_ast.specs.Lines.{IsLine, LineOf}
use Rattle.ir_ast.specs.Operands.{values_used}
use Rattle.ir_ast.specs.Values.{Definition, Gives, argument, definitions_of, outcome, value_types}
use Rattle.ir_ast.specs.Derived.{Derived, by_merge, by_step, is_merge, is_step}
use Rattle.ir_ast.specs.Faults.GroupShape.{number_at}
use Rattle.ir_ast.specs.Faults.TypeClash.{Fits, asked}
use Rattle.base_forms.specs.DerivedMarks.{derived_marks, derives, has_mark, uses_marked}
use Rattle.base_forms.specs.Inserted.{by_line, has_inserted, inserted_number, is_merged, is_negated, is_unequal, new_number, renumbered}
use Rattle.base_forms.specs.Bases.{base_of, gives_by, own_base, source_of, stepped_from}
use Rattle.base_forms.specs.Polls.{poll_call}
use Rattle.base_forms.specs.Lines.{merged_bases}
use Rattle.base_forms.specs.Based.{base_line, based, insertion, kept_line}
use Rattle.base_forms.proofs.DerivedLaws.{any_found, derived_marked, found_any, marked_derived}
use Rattle.base_forms.proofs.OriginLaws.{origin-own, origin-step}
use Rattle.base_definite.proofs.base_paths.GivesLaws.{gives_at}
use Rattle.renaming_laws.specs.Renamed.{Renaming}
use Rattle.base_laws.proofs.TypeLaws.{IsTypedLine, MarksPointers, all_given, phi_of_pointers, select_of_pointers}
use Rattle.base_laws.proofs.NumberLaws.{number_alone, number_behind, renaming_of}
use Rattle.base_laws.proofs.LineLaws.{IsReady}
use Rattle.base_definite.specs.Relations.{before}
use Rattle.base_definite.proofs.base_relations.EndLaws.{Ends, no_step, one_step}
use Rattle.base_definite.proofs.base_relations.GroupLaws.{after_group, before_group, given_at, group_of, line_number, line_stands, located, start_at, text_split, value_at, value_is}
use Rattle.base_definite.proofs.base_relations.ValueLaws.{MergeLine, alone_one, base_line_unmarked, behind_inserted, given_there, gives_as, inserted_apart, inserted_one, mark_gives, merge_of_line, merged_false, merged_true, no_mark_own, one_number, step_alone, step_before, step_of_line, used_now}

module _ (functions : ℕ → Renaming) (number : ℕ) (func : Function) (called : Bool) (is : functions number ≡ renaming_of called func) (pointers : MarksPointers func (derived_marks func))
    (ready : All (IsReady functions func) (instructions_of func.blocks)) where
  abbrev now : ℕ → ℕ
  now = new_number func (derived_marks func)

  abbrev inserted : ℕ → ℕ
  inserted = inserted_number func (derived_marks func)

  abbrev marks : List Bool
  marks = derived_marks func

  typed : All (IsTypedLine func) (instructions_of func.blocks)
  typed = all_from_at (IsTypedLine func) (instructions_of func.blocks) (λ place inst at. (all_at (IsReady functions func) (instructions_of func.blocks) place inst ready at).typed)

  gives_here : (place : ℕ) (inst : Instruction) → slice_get (instructions_of func.blocks) place ≡ Some inst → is_some inst.result ≡ true → Gives func (value_at func place) inst
  gives_here place inst at named = subst (λ (v : ℕ). Gives func v inst) (value_is func place) (gives_at func place inst at named)

  -- ---- what the lines give

  first_gives : (place : ℕ) (inst line : Instruction) (rest : List Instruction) → slice_get (instructions_of func.blocks) place ≡ Some inst
      → group_of func (value_at func place) inst ≡ line ∷ rest → is_some line.result ≡ true → Gives (based func) (inserted (value_at func place)) line
  first_gives place inst line rest at group named =
      let stands = line_stands func place inst at 0 line (ap (λ lines. slice_get lines 0) group) in
      let count = line_number func functions number called is pointers ready place inst at 0 (omega arith) in
      let zero_is : inserted (value_at func place) + 0 ≡ inserted (value_at func place) = omega arith in
      subst (λ (v : ℕ). Gives (based func) v line) (count ∙ zero_is) (gives_at (based func) (start_at func place + 0) line stands named)

  second_gives : (place : ℕ) (inst first line : Instruction) (rest : List Instruction) → slice_get (instructions_of func.blocks) place ≡ Some inst
      → group_of func (value_at func place) inst ≡ first ∷ line ∷ rest → is_some first.result ≡ true → is_some line.result ≡ true → Gives (based func) (inserted (value_at func place) + 1) line
  second_gives place inst first line rest at group first_named named =
      let stands = line_stands func place inst at 1 line (ap (λ lines. slice_get lines 1) group) in
      let long : 1 ≤ length (group_of func (value_at func place) inst) = (let same = ap length group in omega arith) in
      let count = line_number func functions number called is pointers ready place inst at 1 long in
      let one : length (filter (λ i. is_some i.result) (take 1 (group_of func (value_at func place) inst))) ≡ 1 =
      ap (λ lines. length (filter (λ i. is_some i.result) (take 1 lines))) group ∙ ap (λ (b : Bool). length (if b then first ∷ [] else [])) first_named in
      subst (λ (v : ℕ). Gives (based func) v line) (count ∙ ap (λ n. inserted (value_at func place) + n) one) (gives_at (based func) (start_at func place + 1) line stands named)

  test_of_merge : (inst : Instruction) → is_merged marks inst ≡ true → has_inserted marks (outcome inst) ≡ true
  test_of_merge inst merges = ap (λ b. b || is_negated marks inst) merges

  test_of_plain : (inst : Instruction) (op : Op) → inst.op ≡ op → is_unequal op ≡ false → is_merged marks inst ≡ false → has_inserted marks (outcome inst) ≡ false
  test_of_plain inst op same unequal merges =
      ap (λ b. b || is_negated marks inst) merges ∙ ap (λ b. b && uses_marked marks inst) (ap is_unequal same ∙ unequal)

  step_plain : (inst : Instruction) → is_step inst.op ≡ true → has_inserted marks (outcome inst) ≡ false
  step_plain inst step = by inst.op refl step
    where
      by : (op : Op) → inst.op ≡ op → is_step op ≡ true → has_inserted marks (outcome inst) ≡ false
      by (ops.Gep elem width place) same step = test_of_plain inst (ops.Gep elem width place) same refl (ap (λ op. is_merge op && uses_marked marks inst) same)
      by op same step = absurd cc

  merge_unequal : (op : Op) → is_merge op ≡ true → is_unequal op ≡ false
  merge_unequal ops.Phi kind = refl
  merge_unequal ops.Select kind = refl
  merge_unequal op kind = absurd cc

  -- a step, and a phi or select without a base, give their values by their new numbers
  step_gives : (place : ℕ) (inst : Instruction) → slice_get (instructions_of func.blocks) place ≡ Some inst → is_some inst.result ≡ true → is_step inst.op ≡ true
      → Gives (based func) (now (value_at func place)) (kept_line func marks inst)
  step_gives place inst at named step =
      subst (λ (v : ℕ). Gives (based func) v (kept_line func marks inst)) (sym (number_alone func (value_at func place) (outcome inst) (gives_here place inst at named) (step_plain inst step)))
      (first_gives place inst (kept_line func marks inst) [] at (step_alone func marks (value_at func place) inst inst.op step) named)

  alone_gives : (place : ℕ) (inst : Instruction) → slice_get (instructions_of func.blocks) place ≡ Some inst → is_some inst.result ≡ true → is_merge inst.op ≡ true → is_merged marks inst ≡ false
      → Gives (based func) (now (value_at func place)) (kept_line func marks inst)
  alone_gives place inst at named kind unmerged =
      subst (λ (v : ℕ). Gives (based func) v (kept_line func marks inst))
      (sym (number_alone func (value_at func place) (outcome inst) (gives_here place inst at named) (test_of_plain inst inst.op refl (merge_unequal inst.op kind) unmerged)))
      (first_gives place inst (kept_line func marks inst) [] at (merged_false func marks (value_at func place) inst inst.op refl kind unmerged) named)

  -- so does one with a base, directly behind it
  merged_gives : (place : ℕ) (inst : Instruction) → slice_get (instructions_of func.blocks) place ≡ Some inst → is_some inst.result ≡ true → is_merge inst.op ≡ true → is_merged marks inst ≡ true
      → Gives (based func) (now (value_at func place)) (kept_line func marks inst)
  merged_gives place inst at named kind merges =
      subst (λ (v : ℕ). Gives (based func) v (kept_line func marks inst)) (sym (number_behind func (value_at func place) (outcome inst) (gives_here place inst at named) (test_of_merge inst merges)))
      (second_gives place inst (base_line func marks (value_at func place) inst) (kept_line func marks inst) [] at (merged_true func marks (value_at func place) inst inst.op refl kind merges) refl named)

  base_gives : (place : ℕ) (inst : Instruction) → slice_get (instructions_of func.blocks) place ≡ Some inst → is_merge inst.op ≡ true → is_merged marks inst ≡ true
      → Gives (based func) (inserted (value_at func place)) (base_line func marks (value_at func place) inst)
  base_gives place inst at kind merges =
      first_gives place inst (base_line func marks (value_at func place) inst) (kept_line func marks inst ∷ []) at (merged_true func marks (value_at func place) inst inst.op refl kind merges) refl

  -- ---- derived values

  merged_by : (inst : Instruction) (operand : ℕ) → is_merge inst.op ≡ true → Contains (values_used inst) operand → has_mark marks operand ≡ true → is_merged marks inst ≡ true
  merged_by inst operand kind used marked = ap (λ b. b && uses_marked marks inst) kind ∙ found_any marks (values_used inst) operand used marked

  pub derived_now : (value : ℕ) → Derived func value → Derived (based func) (now value)
  derived_now _ (by_step value inst given step) =
      let at = given_at func value inst given in
      let v = sym (value_is func at.place) ∙ at.number in
      subst (λ (n : ℕ). Derived (based func) (now n)) v
      (by_step (now (value_at func at.place)) (kept_line func marks inst) (step_gives at.place inst at.stands at.named step) step)
  derived_now _ (by_merge value operand inst given kind used derived) =
      let at = given_at func value inst given in
      let v = sym (value_is func at.place) ∙ at.number in
      let marked = derived_marked func operand derived in
      let there = contains_map now (values_used inst) operand used in
      subst (λ (n : ℕ). Derived (based func) (now n)) v
      (by_merge (now (value_at func at.place)) (now operand) (kept_line func marks inst) (merged_gives at.place inst at.stands at.named kind (merged_by inst operand kind used marked)) kind
      (subst (λ (list : List ℕ). Contains list (now operand)) (sym (used_now func marks inst)) there) (derived_now operand derived))

  -- the number of a value with a mark
  pub record NumberOfMarked (value : ℕ) : Type 0 where
    pub from : ℕ
    pub is_now : value ≡ now from
    pub marked : has_mark marks from ≡ true

  used_before : (inst : Instruction) (operand : ℕ) → Contains (values_used (kept_line func marks inst)) operand → (marked : NumberOfMarked operand) → Contains (values_used inst) marked.from
  used_before inst operand used marked =
      let image = contains_image now (values_used inst) operand (subst (λ (list : List ℕ). Contains list operand) (used_now func marks inst) used) in
      let same = one_number func image.of marked.from (image.is ∙ marked.is_now) in
      subst (λ (v : ℕ). Contains (values_used inst) v) same image.inside

  pub derived_back : (value : ℕ) → Derived (based func) value → NumberOfMarked value
  derived_back _ (by_step value line given step) =
      let at = given_at (based func) value line given in
      let there = located func at.place line at.stands in
      let kind = step_of_line func marks (value_at func there.from) there.inst there.index line there.in_group step in
      let named : is_some there.inst.result ≡ true = sym (ap (λ l. is_some l.result) (kind.1).is) ∙ at.named in
      let given_here = gives_here there.from there.inst there.stands named in
      let place_is : at.place ≡ start_at func there.from + 0 = there.is ∙ ap (λ n. start_at func there.from + n) (kind.1).first in
      let count = line_number func functions number called is pointers ready there.from there.inst there.stands 0 (omega arith) in
      let zero_is : inserted (value_at func there.from) + 0 ≡ inserted (value_at func there.from) = omega arith in
      record {
        from = value_at func there.from;
        is_now = sym at.number ∙ (ap (number_at (based func)) place_is
            ∙ (count ∙ (zero_is ∙ sym (number_alone func (value_at func there.from) (outcome there.inst) given_here (step_plain there.inst kind.0)))));
        marked = derived_marked func (value_at func there.from) (by_step (value_at func there.from) there.inst given_here kind.0);
      }
  derived_back _ (by_merge value operand line given kind used derived) =
      let before_it = derived_back operand derived in
      let at = given_at (based func) value line given in
      let there = located func at.place line at.stands in
      by at.place there.from there.inst there.stands there.index there.is before_it (merge_of_line func marks (value_at func there.from) there.inst there.index line there.in_group kind) at.number at.named
    where
      by : (place from : ℕ) (inst : Instruction) → slice_get (instructions_of func.blocks) from ≡ Some inst → (index : ℕ) → place ≡ start_at func from + index → NumberOfMarked operand
          → MergeLine func marks (value_at func from) inst index line → number_at (based func) place ≡ value → is_some line.result ≡ true → NumberOfMarked value
      by place from inst stands index place_is marked (inserted_one merge merges is_line first) number_is named =
          absurd
          (base_line_unmarked func pointers typed inst (all_at (IsTypedLine func) (instructions_of func.blocks) from inst typed stands) (value_at func from) inst.op refl merge marked.from marked.marked
          (subst (λ (v : ℕ). Contains (values_used (base_line func marks (value_at func from) inst)) v) marked.is_now (subst (λ (l : Instruction). Contains (values_used l) operand) is_line used)))
      by place from inst stands index place_is marked (behind_inserted merge merges is_line first) number_is named =
          let inst_named : is_some inst.result ≡ true = sym (ap (λ l. is_some l.result) is_line) ∙ named in
          let given_here = gives_here from inst stands inst_named in
          let used_here = used_before inst operand (subst (λ (l : Instruction). Contains (values_used l) operand) is_line used) marked in
          let group = merged_true func marks (value_at func from) inst inst.op refl merge merges in
          let long : 1 ≤ length (group_of func (value_at func from) inst) = (let same = ap length group in omega arith) in
          let count = line_number func functions number called is pointers ready from inst stands 1 long in
          let one : length (filter (λ i. is_some i.result) (take 1 (group_of func (value_at func from) inst))) ≡ 1 = ap (λ lines. length (filter (λ i. is_some i.result) (take 1 lines))) group in
          let second : place ≡ start_at func from + 1 = place_is ∙ ap (λ n. start_at func from + n) first in
          record {
            from = value_at func from;
            is_now = sym number_is ∙ (ap (number_at (based func)) second
                ∙ (count ∙ (ap (λ n. inserted (value_at func from) + n) one ∙ sym (number_behind func (value_at func from) (outcome inst) given_here (test_of_merge inst merges)))));
            marked = derived_marked func (value_at func from) (by_merge (value_at func from) marked.from inst given_here merge used_here (marked_derived func marked.from marked.marked));
          }
      by place from inst stands index place_is marked (alone_one merge unmerged is_line first) number_is named =
          let used_here = used_before inst operand (subst (λ (l : Instruction). Contains (values_used l) operand) is_line used) marked in
          let merges = merged_by inst marked.from merge used_here marked.marked in
          let both : true ≡ false = sym merges ∙ unmerged in
          absurd cc

  -- ---- the relation

  abbrev IsPointerOperand : Operand → Type 0
  IsPointerOperand (operands.Value value) = Unit {0}
  IsPointerOperand operands.Null = Unit {0}
  IsPointerOperand operand = ⊥

  fits_pointer : (operand : Operand) → Fits (value_types func) operand types.Ptr → IsPointerOperand operand
  fits_pointer (operands.Value value) fits = tt
  fits_pointer (operands.Int literal) fits = let none = fits.1 in cc
  fits_pointer operands.Null fits = tt
  fits_pointer (operands.Fun named) fits = cc

  true_left : (a b : Bool) → a && b ≡ true → a ≡ true
  true_left true b both = refl
  true_left false b both = absurd cc

  true_right : (a b : Bool) → a && b ≡ true → b ≡ true
  true_right true b both = both
  true_right false b both = absurd cc

  -- a value is derived where its phi or select is merged
  merged_derived : (value : ℕ) (inst : Instruction) → Gives func value inst → is_merged marks inst ≡ true → Derived func value
  merged_derived value inst given merges =
      let found = any_found marks (values_used inst) (true_right (is_merge inst.op) (uses_marked marks inst) merges) in
      by_merge value found.value inst given (true_left (is_merge inst.op) (uses_marked marks inst) merges) found.inside (marked_derived func found.value found.marked)

  merged_relation : (value : ℕ) (inst : Instruction) → Gives func value inst → is_merged marks inst ≡ true
      → Base (based func) before (operands.Value (record { 0 = now value })) (operands.Value (record { 0 = inserted value }))
  merged_relation value inst given merges =
      let at = given_at func value inst given in
      let v = sym (value_is func at.place) ∙ at.number in
      let kind = true_left (is_merge inst.op) (uses_marked marks inst) merges in
      let gives = subst (λ (n : ℕ). Gives (based func) (now n) (kept_line func marks inst)) v (merged_gives at.place inst at.stands at.named kind merges) in
      let behind = number_behind func value (outcome inst) given (test_of_merge inst merges) in
      let less : now value - 1 ≡ inserted value = omega arith in
      subst (λ (n : ℕ). Base (based func) before (operands.Value (record { 0 = now value })) (operands.Value (record { 0 = n }))) less
      (of_merge (record { 0 = now value }) (kept_line func marks inst) gives kind (derived_now value (merged_derived value inst given merges)))

  -- a value that neither steps nor merges isn't derived
  own_underived : (value : ValueId) → stepped_from func (operands.Value value) ≡ None → gives_by func marks (is_merged marks) value.0 ≡ false → Derived (based func) (now value.0) → ⊥
  own_underived value ends unmerged derived =
      let back = derived_back (now value.0) derived in
      let one = one_number func value.0 back.from back.is_now in
      let given = mark_gives func value.0 (subst (λ (v : ℕ). has_mark marks v ≡ true) (sym one) back.marked) in
      let step = no_mark_own func value.0 given.0 given.1 given.2 (sym (gives_as func marks (is_merged marks) value.0 given.0 given.1) ∙ unmerged) in
      let found = step_before func pointers typed value.0 step.0 step.1 step.2 in
      let both : None ≡ Some found.0 = sym ends ∙ found.2 in
      cc

  own_relation : (value : ValueId) → stepped_from func (operands.Value value) ≡ None
      → Base (based func) before (operands.Value (record { 0 = now value.0 })) (base_of func marks (operands.Value value))
  own_relation value ends =
      subst (λ (from : Operand). Base (based func) before (operands.Value (record { 0 = now value.0 })) (own_base func marks from)) (sym (origin-own func (operands.Value value) ends))
      (by (gives_by func marks (is_merged marks) value.0) refl)
    where
      merged_given : (given : Definition) → slice_get (definitions_of func) value.0 ≡ Some given → by_line (is_merged marks) given ≡ true
          → Base (based func) before (operands.Value (record { 0 = now value.0 })) (operands.Value (record { 0 = inserted value.0 }))
      merged_given (argument arg) at merges = absurd cc
      merged_given (outcome inst) at merges = merged_relation value.0 inst at merges

      by : (b : Bool) → gives_by func marks (is_merged marks) value.0 ≡ b
          → Base (based func) before (operands.Value (record { 0 = now value.0 })) (operands.Value (record { 0 = if b then inserted value.0 else now value.0 }))
      by true merges = let found = given_there func marks (is_merged marks) value.0 merges in merged_given found.0 found.1 found.2
      by false unmerged = of_itself (record { 0 = now value.0 }) (own_underived value ends unmerged)

  -- what a step is of
  step_parts : (value before_it : Operand) → stepped_from func value ≡ Some before_it
      → (id : ValueId) × (value ≡ operands.Value id) × (inst : Instruction) × Gives func id.0 inst × (is_step inst.op ≡ true) × (slice_get inst.operands 0 ≡ Some before_it)
  step_parts (operands.Value id) before_it steps = by (slice_get (definitions_of func) id.0) refl steps
    where
      by : (given : Option Definition) → slice_get (definitions_of func) id.0 ≡ given → option_and_then source_of given ≡ Some before_it
          → (own : ValueId) × (operands.Value id ≡ operands.Value own) × (inst : Instruction) × Gives func own.0 inst × (is_step inst.op ≡ true) × (slice_get inst.operands 0 ≡ Some before_it)
      by None none steps = absurd cc
      by (Some (argument arg)) given steps = absurd cc
      by (Some (outcome inst)) given steps = step (is_step inst.op) refl steps
        where
          step : (b : Bool) → is_step inst.op ≡ b → (if b then slice_get inst.operands 0 else None) ≡ Some before_it
              → (own : ValueId) × (operands.Value id ≡ operands.Value own) × (inst : Instruction) × Gives func own.0 inst × (is_step inst.op ≡ true) × (slice_get inst.operands 0 ≡ Some before_it)
          step true is_one first = (id, refl, inst, given, is_one, first)
          step false is_none first = absurd cc
  step_parts (operands.Int literal) before_it steps = absurd cc
  step_parts operands.Null before_it steps = absurd cc
  step_parts (operands.Fun named) before_it steps = absurd cc

  step_first : (inst : Instruction) → IsTypedLine func inst → (op : Op) → inst.op ≡ op → is_step op ≡ true → (first : Operand) → slice_get inst.operands 0 ≡ Some first → IsPointerOperand first
  step_first inst line (ops.Gep elem width place) same step first at =
      by inst.operands (subst (λ (op : Op). AllZip (Fits (value_types func)) inst.operands (asked op inst.ty (length inst.operands))) same line.fits) at
    where
      by : (all : List Operand) → AllZip (Fits (value_types func)) all (types.Ptr ∷ types.Int width ∷ []) → slice_get all 0 ≡ Some first → IsPointerOperand first
      by [] fits at = absurd fits
      by (x ∷ all) fits at = let same_one : x ≡ first = cc in subst IsPointerOperand same_one (fits_pointer x fits.0)
  step_first inst line op same step first at = absurd cc

  -- each pointer has its base
  pub relation : (operand : Operand) → Ends func operand → IsPointerOperand operand → Base (based func) before (renumbered func marks operand) (base_of func marks operand)
  relation _ (no_step (operands.Value value) none) pointer = own_relation value none
  relation _ (no_step operands.Null none) pointer =
      subst (λ (from : Operand). Base (based func) before operands.Null (own_base func marks from)) (sym (origin-own func operands.Null none)) of_null
  relation _ (no_step (operands.Int literal) none) pointer = absurd pointer
  relation _ (no_step (operands.Fun named) none) pointer = absurd pointer
  relation _ (one_step operand before_it steps rest) pointer =
      let parts = step_parts operand before_it steps in
      let at = given_at func parts.0.0 parts.2 parts.3 in
      let v = sym (value_is func at.place) ∙ at.number in
      let gives = subst (λ (n : ℕ). Gives (based func) (now n) (kept_line func marks parts.2)) v (step_gives at.place parts.2 at.stands at.named parts.4) in
      let first = get_map (renumbered func marks) (parts.2).operands 0 before_it parts.5 in
      let before_pointer = step_first parts.2 (all_given (IsTypedLine func) func typed parts.0.0 parts.2 parts.3) (parts.2).op refl parts.4 before_it parts.5 in
      let further = of_step (record { 0 = now parts.0.0 }) (kept_line func marks parts.2) (renumbered func marks before_it) (base_of func marks before_it) gives parts.4 first
      (relation before_it rest before_pointer) in
      subst (λ (o : Operand). Base (based func) before (renumbered func marks o) (base_of func marks operand)) (sym parts.1)
      (subst (λ (from : Operand). Base (based func) before (operands.Value (record { 0 = now parts.0.0 })) (own_base func marks from)) (sym (origin-step func operand before_it steps)) further)

  -- ---- each derived phi and select

  module _ (ends : (value : ValueId) → Ends func (operands.Value value)) where
    operand_ends : (operand : Operand) → IsPointerOperand operand → Ends func operand
    operand_ends (operands.Value value) pointer = ends value
    operand_ends (operands.Int literal) pointer = absurd pointer
    operand_ends operands.Null pointer = no_step operands.Null refl
    operand_ends (operands.Fun named) pointer = absurd pointer

    all_relations : (all : List Operand) (count : ℕ) → AllZip (Fits (value_types func)) all (replicate count types.Ptr)
        → AllZip (Base (based func) before) (map (renumbered func marks) all) (map (base_of func marks) all)
    all_relations [] count fits = tt
    all_relations (operand ∷ all) zero fits = absurd fits
    all_relations (operand ∷ all) (suc count) fits =
        let pointer = fits_pointer operand fits.0 in
        (relation operand (operand_ends operand pointer) pointer, all_relations all count fits.1)

    merges_bases : (inst : Instruction) → IsTypedLine func inst → uses_marked marks inst ≡ true → (op : Op) → inst.op ≡ op → is_merge op ≡ true
        → MergesBases (based func) before op (map (renumbered func marks) inst.operands) (merged_bases (insertion func marks) op inst.operands)
    merges_bases inst line marked ops.Phi same kind =
        let fits = subst (λ (op : Op). AllZip (Fits (value_types func)) inst.operands (asked op inst.ty (length inst.operands))) same line.fits in
        let ty = phi_of_pointers func marks pointers inst line marked same in
        all_relations inst.operands (length inst.operands)
        (subst (λ (t : Ty). AllZip (Fits (value_types func)) inst.operands (replicate (length inst.operands) t)) ty fits)
    merges_bases inst line marked ops.Select same kind =
        let fits = subst (λ (op : Op). AllZip (Fits (value_types func)) inst.operands (asked op inst.ty (length inst.operands))) same line.fits in
        let ty = select_of_pointers func marks pointers inst line marked same in
        by inst.operands (subst (λ (t : Ty). AllZip (Fits (value_types func)) inst.operands (types.Int 1 ∷ t ∷ t ∷ [])) ty fits)
      where
        by : (all : List Operand) → AllZip (Fits (value_types func)) all (types.Int 1 ∷ types.Ptr ∷ types.Ptr ∷ [])
            → MergesBases (based func) before ops.Select (map (renumbered func marks) all) (merged_bases (insertion func marks) ops.Select all)
        by [] fits = absurd fits
        by (condition ∷ rest) fits = (refl, all_relations rest 2 fits.1)
    merges_bases inst line marked op same kind = absurd cc

    merge_named : (inst : Instruction) → IsLine inst → (op : Op) → inst.op ≡ op → is_merge op ≡ true → is_some inst.result ≡ true
    merge_named inst line ops.Phi same kind = ((subst (λ (op : Op). LineOf op inst) same line).0).result
    merge_named inst line ops.Select same kind = (subst (λ (op : Op). LineOf op inst) same line).result
    merge_named inst line op same kind = absurd cc

    line_given : Option Definition → Instruction
    line_given (Some (outcome inst)) = inst
    line_given found = poll_call

    -- what stands before a derived phi or select
    inserted_line : ℕ → Instruction
    inserted_line value = line_given (slice_get (definitions_of (based func)) (value - 1))

    inserted_is : (value : ℕ) (line : Instruction) → Gives (based func) (value - 1) line → inserted_line value ≡ line
    unfolding inserted_line line_given
    inserted_is value line given = ap line_given given

    module _ (from : ℕ) (inst : Instruction) (stands : slice_get (instructions_of func.blocks) from ≡ Some inst) (kind : is_merge inst.op ≡ true) where
      line_typed : IsTypedLine func inst
      line_typed = all_at (IsTypedLine func) (instructions_of func.blocks) from inst typed stands

      named : is_some inst.result ≡ true
      named = merge_named inst line_typed.line inst.op refl kind

      given_here : Gives func (value_at func from) inst
      given_here = gives_here from inst stands named

      merges_as_in : is_merged marks inst ≡ true → MergesAsIn (based func) before (now (value_at func from)) (kept_line func marks inst) (inserted_line (now (value_at func from)))
      merges_as_in merges =
          let behind = number_behind func (value_at func from) (outcome inst) given_here (test_of_merge inst merges) in
          let less : inserted (value_at func from) ≡ now (value_at func from) - 1 = omega arith in
          let base = subst (λ (v : ℕ). Gives (based func) v (base_line func marks (value_at func from) inst)) less (base_gives from inst stands kind merges) in
          let group = merged_true func marks (value_at func from) inst inst.op refl kind merges in
          subst (λ (line : Instruction). MergesAsIn (based func) before (now (value_at func from)) (kept_line func marks inst) line)
          (sym (inserted_is (now (value_at func from)) (base_line func marks (value_at func from) inst) base))
          (record {
            given = base;
            beside = (
              before_group func from,
              after_group func from inst,
              text_split func from inst stands ∙ ap (λ lines. before_group func from ++ (lines ++ after_group func from inst)) group,
            );
            op = refl;
            ty = refl;
            labels = refl;
            operands = merges_bases inst line_typed (true_right (is_merge inst.op) (uses_marked marks inst) merges) inst.op refl kind;
          })

      -- the line for the bases isn't derived
      base_underived : is_merged marks inst ≡ true → Derived (based func) (inserted (value_at func from)) → ⊥
      base_underived merges derived =
          let back = derived_back (inserted (value_at func from)) derived in
          inserted_apart func (value_at func from) (outcome inst) given_here (test_of_merge inst merges) back.from (sym back.is_now)

      -- nor is one without a base
      plain_underived : is_merged marks inst ≡ false → Derived (based func) (now (value_at func from)) → ⊥
      plain_underived unmerged derived =
          let back = derived_back (now (value_at func from)) derived in
          let one = one_number func (value_at func from) back.from back.is_now in
          let given = mark_gives func (value_at func from) (subst (λ (v : ℕ). has_mark marks v ≡ true) (sym one) back.marked) in
          let both : Some given.0 ≡ Some (outcome inst) = sym given.1 ∙ given_here in
          let same : given.0 ≡ outcome inst = cc in
          let derives_it : derives marks (outcome inst) ≡ true = ap (derives marks) (sym same) ∙ given.2 in
          by (is_step inst.op) refl derives_it
        where
          no_step_merges : (op : Op) → is_merge op ≡ true → is_step op ≡ true → ⊥
          no_step_merges ops.Phi kind step = cc
          no_step_merges ops.Select kind step = cc
          no_step_merges op kind step = cc

          by : (b : Bool) → is_step inst.op ≡ b → b || is_merged marks inst ≡ true → ⊥
          by true step either = no_step_merges inst.op kind step
          by false step either = cc

    has_each : (value : ℕ) (line : Instruction) → Gives (based func) value line → is_merge line.op ≡ true → Derived (based func) value → MergesAsIn (based func) before value line (inserted_line value)
    has_each value line given kind derived =
        let at = given_at (based func) value line given in
        let there = located func at.place line at.stands in
        by there.from there.inst there.stands there.index there.is (merge_of_line func marks (value_at func there.from) there.inst there.index line there.in_group kind) at.place at.number
        there.is
      where
        by : (from : ℕ) (inst : Instruction) (stands : slice_get (instructions_of func.blocks) from ≡ Some inst) (index : ℕ) {place : ℕ} → place ≡ start_at func from + index
            → MergeLine func marks (value_at func from) inst index line → (at : ℕ) → number_at (based func) at ≡ value → at ≡ start_at func from + index
            → MergesAsIn (based func) before value line (inserted_line value)
        by from inst stands index place_is (inserted_one merge merges is_line first) at number_is at_is =
            let count = line_number func functions number called is pointers ready from inst stands 0 (omega arith) in
            let zero_is : inserted (value_at func from) + 0 ≡ inserted (value_at func from) = omega arith in
            let value_is_here : value ≡ inserted (value_at func from) =
            sym number_is ∙ (ap (number_at (based func)) (at_is ∙ ap (λ n. start_at func from + n) first) ∙ (count ∙ zero_is)) in
            absurd (base_underived from inst stands merge merges (subst (λ (v : ℕ). Derived (based func) v) value_is_here derived))
        by from inst stands index place_is (behind_inserted merge merges is_line first) at number_is at_is =
            let group = merged_true func marks (value_at func from) inst inst.op refl merge merges in
            let long : 1 ≤ length (group_of func (value_at func from) inst) = (let same = ap length group in omega arith) in
            let count = line_number func functions number called is pointers ready from inst stands 1 long in
            let one : length (filter (λ i. is_some i.result) (take 1 (group_of func (value_at func from) inst))) ≡ 1 = ap (λ lines. length (filter (λ i. is_some i.result) (take 1 lines))) group in
            let value_is_here : value ≡ now (value_at func from) =
            sym number_is
            ∙ (ap (number_at (based func)) (at_is ∙ ap (λ n. start_at func from + n) first)
            ∙ (count
            ∙ (ap (λ n. inserted (value_at func from) + n) one
            ∙ sym (number_behind func (value_at func from) (outcome inst) (given_here from inst stands merge) (test_of_merge inst merges))))) in
            subst (λ (v : ℕ). MergesAsIn (based func) before v line (inserted_line v)) (sym value_is_here)
            (subst (λ (l : Instruction). MergesAsIn (based func) before (now (value_at func from)) l (inserted_line (now (value_at func from)))) (sym is_line) (merges_as_in from inst stands merge merges))
        by from inst stands index place_is (alone_one merge unmerged is_line first) at number_is at_is =
            let count = line_number func functions number called is pointers ready from inst stands 0 (omega arith) in
            let zero_is : inserted (value_at func from) + 0 ≡ inserted (value_at func from) = omega arith in
            let value_is_here : value ≡ now (value_at func from) =
            sym number_is
            ∙ (ap (number_at (based func)) (at_is ∙ ap (λ n. start_at func from + n) first)
            ∙ (count
            ∙ (zero_is
            ∙ sym
            (number_alone func (value_at func from) (outcome inst) (given_here from inst stands merge) (test_of_plain inst inst.op refl (merge_unequal inst.op merge) unmerged))))) in
            absurd (plain_underived from inst stands merge unmerged (subst (λ (v : ℕ). Derived (based func) v) value_is_here derived))

    pub has_bases : HasBases (based func) before
    has_bases = record { inserted = inserted_line; each = has_each }
