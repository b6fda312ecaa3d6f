-- Which values of the function with bases are derived: those whose numbers before were derived, and no inserted one.
use Rattle.std.proofs.Common.{◌≡◌, ℕ, zero, suc, Bool, true, false, ◌||◌, if◌then◌else◌, List, [], ◌∷◌, ◌++◌, length, map, refl, sym, ap, subst, ◌∙◌, append-nil, inl, inr, arith}
use Rattle.std.specs.Prelude.{Option, Some, None, slice_get}
use Rattle.std.specs.List.{All, AllZip, Contains, filter_map}
use Rattle.std.specs.Option.{option_and_then, option_map_or}
use Rattle.std.proofs.lemmas.List.{map-append}
use Rattle.list_laws.proofs.Contents.{all_at, contains_cons, contains_none}
use Rattle.sp_ids.specs.declared.ids.ValueId.{ValueId}
use Rattle.ir_ast.specs.declared.types.Ty.{Ty}
use Rattle.ir_ast.specs.declared.types.Ty.TheVariants as types
use Rattle.ir_ast.specs.declared.ops.Callee.{Callee}
use Rattle.ir_ast.specs.declared.ops.Callee.TheVariants as callees
use Rattle.ir_ast.specs.declared.ops.Op.{Op}
use Rattle.ir_ast.specs.declared.ops.Op.TheVariants as ops
use Rattle.ir_ast.specs.declared.ops.Operand.{Operand}
use Rattle.ir_ast.specs.declared.ops.Operand.TheVariants as operands
use Rattle.ir_ast.specs.Insts.{Instruction}
use Rattle.ir_ast.specs.Funcs.{Function, instructions_of}
use Rattle.ir_ast.specs.Lines.{IsLine, LineOf}
use Rattle.ir_ast.specs.Operands.{operands_of, value_in, values_used}
use Rattle.ir_ast.specs.Values.{Definition, Gives, argument, definitions_of, outcome, value_types}
use Rattle.ir_ast.specs.Derived.{is_merge, is_step}
use Rattle.ir_ast.specs.Faults.TypeClash.{Fits, asked}
use Rattle.base_forms.specs.DerivedMarks.{derived_marks, derives, has_mark}
use Rattle.base_forms.specs.Inserted.{by_line, has_inserted, inserted_number, is_merged, is_negated, new_number, renumbered}
use Rattle.base_forms.specs.Bases.{base_of, gives_by, origin, origin_by, own_base, source_of, stepped_from}
use Rattle.base_forms.specs.Lines.{merged_bases}
use Rattle.base_forms.specs.Based.{base_line, insertion, kept_line, lines_for}
use Rattle.base_forms.proofs.MarkLaws.{derived_again}
use Rattle.base_laws.proofs.CountLaws.{before_is_fresh, numbers_apart}
use Rattle.base_laws.proofs.TypeLaws.{IsTypedLine, MarksPointers, all_given, mapped_mark}
use Rattle.base_laws.proofs.NumberLaws.{number_as, shift_as}
use Rattle.base_laws.proofs.FormLaws.{each_line}

-- ---- the lines for steps and merges

module _ (func : Function) (marks : List Bool) (value : ℕ) (inst : Instruction) where
  pub merged_true : (op : Op) → inst.op ≡ op → is_merge op ≡ true → is_merged marks inst ≡ true → lines_for func marks value inst op ≡ base_line func marks value inst ∷ kept_line func marks inst ∷ []
  merged_true ops.Phi is kind merges = ap (λ (b : Bool). (if b then base_line func marks value inst ∷ [] else []) ++ kept_line func marks inst ∷ []) merges
  merged_true ops.Select is kind merges = ap (λ (b : Bool). (if b then base_line func marks value inst ∷ [] else []) ++ kept_line func marks inst ∷ []) merges
  merged_true op is kind merges = absurd cc

  pub merged_false : (op : Op) → inst.op ≡ op → is_merge op ≡ true → is_merged marks inst ≡ false → lines_for func marks value inst op ≡ kept_line func marks inst ∷ []
  merged_false ops.Phi is kind merges = ap (λ (b : Bool). (if b then base_line func marks value inst ∷ [] else []) ++ kept_line func marks inst ∷ []) merges
  merged_false ops.Select is kind merges = ap (λ (b : Bool). (if b then base_line func marks value inst ∷ [] else []) ++ kept_line func marks inst ∷ []) merges
  merged_false op is kind merges = absurd cc

  pub step_alone : (op : Op) → is_step op ≡ true → lines_for func marks value inst op ≡ kept_line func marks inst ∷ []
  step_alone (ops.Gep elem width place) step = refl
  step_alone op step = absurd cc

  -- a step among the lines is the instruction itself
  pub record IsItself (index : ℕ) (line : Instruction) : Type 0 where
    pub is : line ≡ kept_line func marks inst
    pub first : index ≡ 0

  one_itself : (index : ℕ) (line : Instruction) → slice_get (kept_line func marks inst ∷ []) index ≡ Some line → IsItself index line
  one_itself zero line at = record { is = cc; first = refl }
  one_itself (suc index) line at = absurd cc

  -- a step or a merge among the lines is one of the instruction's kind
  kind_of_line : (test : Op → Bool) → ((callee : Callee) (passed : List Ty) → test (ops.Call callee passed) ≡ false) → test ops.Xor ≡ false
      → All (λ line. test line.op ≡ true → test inst.op ≡ true) (lines_for func marks value inst inst.op)
  kind_of_line test no_call no_xor =
      each_line (λ line. test line.op ≡ true → test inst.op ≡ true) func marks value inst (λ is. is) (λ kind is. is)
      (λ address is. absurd (let none = no_call callees.Check (types.Ptr ∷ types.Ptr ∷ types.Int 64 ∷ []) in cc))
      (λ result first second is. absurd (let none = no_call callees.Same (types.Ptr ∷ types.Ptr ∷ types.Ptr ∷ types.Ptr ∷ []) in cc))
      (λ is. absurd cc)

  pub step_of_line : (index : ℕ) (line : Instruction) → slice_get (lines_for func marks value inst inst.op) index ≡ Some line → is_step line.op ≡ true → (is_step inst.op ≡ true) × IsItself index line
  step_of_line index line at step =
      let kind = all_at (λ each. is_step each.op ≡ true → is_step inst.op ≡ true) (lines_for func marks value inst inst.op) index line (kind_of_line is_step (λ callee passed. refl) refl) at step in
      (kind, one_itself index line (ap (λ lines. slice_get lines index) (sym (step_alone inst.op kind)) ∙ at))

  -- a merge among the lines: the inserted one, the instruction behind it, or the instruction alone
  pub data MergeLine (index : ℕ) (line : Instruction) : Type 0 where
    inserted_one : is_merge inst.op ≡ true → is_merged marks inst ≡ true → line ≡ base_line func marks value inst → index ≡ 0 → MergeLine index line
    behind_inserted : is_merge inst.op ≡ true → is_merged marks inst ≡ true → line ≡ kept_line func marks inst → index ≡ 1 → MergeLine index line
    alone_one : is_merge inst.op ≡ true → is_merged marks inst ≡ false → line ≡ kept_line func marks inst → index ≡ 0 → MergeLine index line

  pub merge_of_line : (index : ℕ) (line : Instruction) → slice_get (lines_for func marks value inst inst.op) index ≡ Some line → is_merge line.op ≡ true → MergeLine index line
  merge_of_line index line at merge =
      let kind = all_at (λ each. is_merge each.op ≡ true → is_merge inst.op ≡ true) (lines_for func marks value inst inst.op) index line (kind_of_line is_merge (λ callee passed. refl) refl) at merge in
      by kind (is_merged marks inst) refl
    where
      two : is_merge inst.op ≡ true → is_merged marks inst ≡ true → (index : ℕ) → slice_get (base_line func marks value inst ∷ kept_line func marks inst ∷ []) index ≡ Some line → MergeLine index line
      two kind merges zero at = inserted_one kind merges (cc) refl
      two kind merges (suc zero) at = behind_inserted kind merges (cc) refl
      two kind merges (suc (suc index)) at = absurd cc

      by : is_merge inst.op ≡ true → (b : Bool) → is_merged marks inst ≡ b → MergeLine index line
      by kind true merges = two kind merges index (ap (λ lines. slice_get lines index) (sym (merged_true inst.op refl kind merges)) ∙ at)
      by kind false merges =
          let itself = one_itself index line (ap (λ lines. slice_get lines index) (sym (merged_false inst.op refl kind merges)) ∙ at) in
          alone_one kind merges itself.is itself.first

-- ---- what the kept line uses

values_now : (func : Function) (marks : List Bool) (all : List Operand) → filter_map value_in (map (renumbered func marks) all) ≡ map (new_number func marks) (filter_map value_in all)
values_now func marks [] = refl
values_now func marks (operands.Value value ∷ all) = ap (λ rest. new_number func marks value.0 ∷ rest) (values_now func marks all)
values_now func marks (operands.Int literal ∷ all) = values_now func marks all
values_now func marks (operands.Null ∷ all) = values_now func marks all
values_now func marks (operands.Fun named ∷ all) = values_now func marks all

bundle_now : (func : Function) (marks : List Bool) (bundle : List (Ty × Operand))
    → map (λ (entry : Ty × Operand). entry.1) (map (λ (entry : Ty × Operand). (entry.0, renumbered func marks entry.1)) bundle)
    ≡ map (renumbered func marks) (map (λ (entry : Ty × Operand). entry.1) bundle)
bundle_now func marks [] = refl
bundle_now func marks (entry ∷ bundle) = ap (λ rest. renumbered func marks entry.1 ∷ rest) (bundle_now func marks bundle)

pub used_now : (func : Function) (marks : List Bool) (inst : Instruction) → values_used (kept_line func marks inst) ≡ map (new_number func marks) (values_used inst)
used_now func marks inst =
    ap (λ more. filter_map value_in (map (renumbered func marks) inst.operands ++ more)) (bundle_now func marks inst.bundle)
    ∙ (ap (filter_map value_in) (sym (map-append (renumbered func marks) inst.operands (map (λ (entry : Ty × Operand). entry.1) inst.bundle)))
    ∙ values_now func marks (operands_of inst))

-- ---- origins

-- an origin is no step
pub origin_ends : (func : Function) (bound : ℕ) (operand : Operand) (value : ValueId) → origin_by (stepped_from func) bound operand ≡ operands.Value value → stepped_from func (operands.Value value) ≡ None
origin_ends func zero operand value is = absurd cc
origin_ends func (suc bound) operand value is = by (stepped_from func operand) refl is (λ before at. origin_ends func bound before value at)
  where
    by : (before : Option Operand) → stepped_from func operand ≡ before → option_map_or (origin_by (stepped_from func) bound) before operand ≡ operands.Value value
        → ((before : Operand) → origin_by (stepped_from func) bound before ≡ operands.Value value → stepped_from func (operands.Value value) ≡ None)
        → stepped_from func (operands.Value value) ≡ None
    by None none is further = subst (λ (o : Operand). stepped_from func o ≡ None) is none
    by (Some before) some is further = further before is

module _ (func : Function) where
  abbrev number : ℕ → ℕ
  number = new_number func (derived_marks func)

  abbrev test : Definition → Bool
  test = has_inserted (derived_marks func)

  pub one_number : (value other : ℕ) → number value ≡ number other → value ≡ other
  one_number value other same = numbers_apart test (definitions_of func) value other (sym (number_as func value) ∙ (same ∙ number_as func other))

  pub inserted_apart : (value : ℕ) (given : Definition) → slice_get (definitions_of func) value ≡ Some given → test given ≡ true → (other : ℕ)
      → number other ≡ inserted_number func (derived_marks func) value → ⊥
  inserted_apart value given at passes other same =
      before_is_fresh test (definitions_of func) value given at passes other (sym (number_as func other) ∙ (same ∙ shift_as func value))

  -- what gives a value with a mark steps or merges
  pub mark_gives : (value : ℕ) → has_mark (derived_marks func) value ≡ true
      → (given : Definition) × (slice_get (definitions_of func) value ≡ Some given) × (derives (derived_marks func) given ≡ true)
  mark_gives value marked =
      mapped_mark (derives (derived_marks func)) (definitions_of func) value (subst (λ (marks : List Bool). has_mark marks value ≡ true) (sym (derived_again func)) marked)

  -- a value with a mark, that isn't merged, has a step
  pub no_mark_own : (value : ℕ) (given : Definition) → slice_get (definitions_of func) value ≡ Some given → derives (derived_marks func) given ≡ true
      → by_line (is_merged (derived_marks func)) given ≡ false → (inst : Instruction) × (slice_get (definitions_of func) value ≡ Some (outcome inst)) × (is_step inst.op ≡ true)
  no_mark_own value (argument arg) at derived unmerged = absurd cc
  no_mark_own value (outcome inst) at derived unmerged = by (is_step inst.op) refl derived
    where
      by : (b : Bool) → is_step inst.op ≡ b → b || is_merged (derived_marks func) inst ≡ true
          → (inst : Instruction) × (slice_get (definitions_of func) value ≡ Some (outcome inst)) × (is_step inst.op ≡ true)
      by true step either = (inst, at, step)
      by false step either = absurd cc

-- ---- bases are no values with a mark

pub given_there : (func : Function) (marks : List Bool) (kind : Instruction → Bool) (value : ℕ) → gives_by func marks kind value ≡ true
    → (given : Definition) × (slice_get (definitions_of func) value ≡ Some given) × (by_line kind given ≡ true)
given_there func marks kind value is = by (slice_get (definitions_of func) value) refl is
  where
    by : (found : Option Definition) → slice_get (definitions_of func) value ≡ found → option_map_or (by_line kind) found false ≡ true
        → (given : Definition) × (slice_get (definitions_of func) value ≡ Some given) × (by_line kind given ≡ true)
    by None none is = absurd cc
    by (Some given) found is = (given, found, is)

pub gives_as : (func : Function) (marks : List Bool) (kind : Instruction → Bool) (value : ℕ) (given : Definition) → slice_get (definitions_of func) value ≡ Some given → gives_by func marks kind value ≡ by_line kind given
gives_as func marks kind value given at = ap (λ (found : Option Definition). option_map_or (by_line kind) found false) at

pub inserts : (marks : List Bool) (given : Definition) → by_line (is_merged marks) given ≡ true → has_inserted marks given ≡ true
inserts marks (argument arg) is = absurd cc
inserts marks (outcome inst) is = ap (λ b. b || is_negated marks inst) is

module _ (func : Function) (pointers : MarksPointers func (derived_marks func)) (typed : All (IsTypedLine func) (instructions_of func.blocks)) where
  step_has : (inst : Instruction) → IsLine inst → (op : Op) → inst.op ≡ op → is_step op ≡ true → (before : Operand) × (slice_get inst.operands 0 ≡ Some before)
  step_has inst line (ops.Gep elem width place) is step = by inst.operands ((subst (λ (op : Op). LineOf op inst) is line).0).operand_count
    where
      by : (all : List Operand) → length all ≡ 2 → (before : Operand) × (slice_get all 0 ≡ Some before)
      by [] two = absurd (omega arith)
      by (x ∷ all) two = (x, refl)
  step_has inst line op is step = absurd cc

  -- a step has one before it
  pub step_before : (value : ℕ) (inst : Instruction) → Gives func value inst → is_step inst.op ≡ true
      → (before : Operand) × (slice_get inst.operands 0 ≡ Some before) × (stepped_from func (operands.Value (record { 0 = value })) ≡ Some before)
  step_before value inst given step =
      let line = (all_given (IsTypedLine func) func typed value inst given).line in
      let has = step_has inst line inst.op refl step in (
        has.0,
        has.1,
        ap (λ (found : Option Definition). option_and_then source_of found) given ∙ (ap (λ (b : Bool). if b then slice_get inst.operands 0 else None) step ∙ has.1),
      )

  base_unmarked : (operand : Operand) (base : ValueId) → base_of func (derived_marks func) operand ≡ operands.Value base → (value : ℕ) → base.0 ≡ new_number func (derived_marks func) value
      → has_mark (derived_marks func) value ≡ true → ⊥
  base_unmarked operand base is value same marked = by (origin func operand) refl is
    where
      own : (from : ValueId) → stepped_from func (operands.Value from) ≡ None → (b : Bool) → gives_by func (derived_marks func) (is_merged (derived_marks func)) from.0 ≡ b
          → operands.Value (record { 0 = if b then inserted_number func (derived_marks func) from.0 else new_number func (derived_marks func) from.0 }) ≡ operands.Value base → ⊥
      own from ends true merged at =
          let found = given_there func (derived_marks func) (is_merged (derived_marks func)) from.0 merged in
          let id : record { 0 = inserted_number func (derived_marks func) from.0 } ≡ base = cc in
          inserted_apart func from.0 found.0 found.1 (inserts (derived_marks func) found.0 found.2) value (sym same ∙ sym (ap (λ (v : ValueId). v.0) id))
      own from ends false unmerged at =
          let id : record { 0 = new_number func (derived_marks func) from.0 } ≡ base = cc in
          let one = one_number func from.0 value (ap (λ (v : ValueId). v.0) id ∙ same) in
          let given = mark_gives func from.0 (subst (λ (v : ℕ). has_mark (derived_marks func) v ≡ true) (sym one) marked) in
          let step = no_mark_own func from.0 given.0 given.1 given.2 (sym (gives_as func (derived_marks func) (is_merged (derived_marks func)) from.0 given.0 given.1) ∙ unmerged) in
          let before = step_before from.0 step.0 step.1 step.2 in
          let both : None ≡ Some before.0 = sym ends ∙ before.2 in
          cc

      by : (from : Operand) → origin func operand ≡ from → own_base func (derived_marks func) from ≡ operands.Value base → ⊥
      by (operands.Value from) at its_base = own from (origin_ends func (suc (length (definitions_of func))) operand from at) (gives_by func (derived_marks func) (is_merged (derived_marks func)) from.0) refl its_base
      by (operands.Int literal) at its_base = cc
      by operands.Null at its_base = cc
      by (operands.Fun named) at its_base = cc

  pub some_base : (all : List Operand) (value : ℕ) → Contains (filter_map value_in (map (base_of func (derived_marks func)) all)) value
      → (operand : Operand) × (base_of func (derived_marks func) operand ≡ operands.Value (record { 0 = value }))
  some_base [] value inside = absurd (contains_none value inside)
  some_base (operand ∷ all) value inside = by (base_of func (derived_marks func) operand) refl inside (λ more. some_base all value more)
    where
      by : (base : Operand) → base_of func (derived_marks func) operand ≡ base → Contains (filter_map value_in (base ∷ map (base_of func (derived_marks func)) all)) value
          → (Contains (filter_map value_in (map (base_of func (derived_marks func)) all)) value → (operand : Operand) × (base_of func (derived_marks func) operand ≡ operands.Value (record { 0 = value })))
          → (operand : Operand) × (base_of func (derived_marks func) operand ≡ operands.Value (record { 0 = value }))
      by (operands.Value id) is inside further = elim (contains_cons id.0 value (filter_map value_in (map (base_of func (derived_marks func)) all)) inside) [
        | inl here ↦ (operand, is ∙ ap (λ (v : ℕ). operands.Value (record { 0 = v })) here)
        | inr later ↦ further later
      ]
      by (operands.Int literal) is inside further = further inside
      by operands.Null is inside further = further inside
      by (operands.Fun named) is inside further = further inside

  no_base_has : (all : List Operand) (value : ℕ) → has_mark (derived_marks func) value ≡ true
      → Contains (filter_map value_in (map (base_of func (derived_marks func)) all ++ [])) (new_number func (derived_marks func) value) → ⊥
  no_base_has all value marked inside =
      let found = some_base all (new_number func (derived_marks func) value)
      (subst (λ (list : List Operand). Contains (filter_map value_in list) (new_number func (derived_marks func) value)) (append-nil (map (base_of func (derived_marks func)) all)) inside) in
      base_unmarked found.0 (record { 0 = new_number func (derived_marks func) value }) found.1 value refl marked

  -- the line for the bases uses no value with a mark
  pub base_line_unmarked : (inst : Instruction) → IsTypedLine func inst → (next : ℕ) → (op : Op) → inst.op ≡ op → is_merge op ≡ true → (value : ℕ) → has_mark (derived_marks func) value ≡ true
      → Contains (values_used (base_line func (derived_marks func) next inst)) (new_number func (derived_marks func) value) → ⊥
  base_line_unmarked inst line next ops.Phi is kind value marked inside =
      no_base_has inst.operands value marked
      (subst (λ (op : Op). Contains (filter_map value_in (merged_bases (insertion func (derived_marks func)) op inst.operands ++ [])) (new_number func (derived_marks func) value)) is inside)
  base_line_unmarked inst line next ops.Select is kind value marked inside =
      by inst.operands (subst (λ (op : Op). AllZip (Fits (value_types func)) inst.operands (asked op inst.ty (length inst.operands))) is line.fits)
      (subst (λ (op : Op). Contains (filter_map value_in (merged_bases (insertion func (derived_marks func)) op inst.operands ++ [])) (new_number func (derived_marks func) value)) is inside)
    where
      condition : (first : Operand) (rest : List Operand) → Fits (value_types func) first (types.Int 1)
          → Contains (filter_map value_in (renumbered func (derived_marks func) first ∷ (map (base_of func (derived_marks func)) rest ++ []))) (new_number func (derived_marks func) value) → ⊥
      condition (operands.Value id) rest fits inside =
          elim (contains_cons (new_number func (derived_marks func) id.0) (new_number func (derived_marks func) value) (filter_map value_in (map (base_of func (derived_marks func)) rest ++ [])) inside) [
            | inl here ↦
                let one = one_number func id.0 value here in
                let is_pointer = pointers id.0 (subst (λ (v : ℕ). has_mark (derived_marks func) v ≡ true) (sym one) marked) in
                let both : Some (types.Int 1) ≡ Some types.Ptr = sym fits ∙ is_pointer in
                cc
            | inr later ↦ no_base_has rest value marked later
          ]
      condition (operands.Int literal) rest fits inside = no_base_has rest value marked inside
      condition operands.Null rest fits inside = no_base_has rest value marked inside
      condition (operands.Fun named) rest fits inside = no_base_has rest value marked inside

      by : (all : List Operand) → AllZip (Fits (value_types func)) all (types.Int 1 ∷ inst.ty ∷ inst.ty ∷ [])
          → Contains (filter_map value_in (merged_bases (insertion func (derived_marks func)) ops.Select all ++ [])) (new_number func (derived_marks func) value) → ⊥
      by [] fits inside = absurd fits
      by (first ∷ rest) fits inside = condition first rest fits.0 inside
  base_line_unmarked inst line next op is kind value marked inside = absurd cc
