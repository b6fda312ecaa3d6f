-- The lines for an instruction are its image: its base, check or compare does what it does, and it has its new number.
use Rattle.std.proofs.Common.{◌≡◌, ◌≢◌, ◌==◌, ℕ, zero, suc, ◌+◌, ◌<◌, Bool, true, false, not, ◌&&◌, ◌||◌, if◌then◌else◌, List, [], ◌∷◌, ◌++◌, length, map, refl, sym, ap, subst, ◌∙◌, arith}
use Rattle.std.specs.Prelude.{Option, Some, None, is_some, slice_get, slice_index_or}
use Rattle.std.specs.List.{All, filter_map}
use Rattle.std.specs.Option.{option_map, IfSome}
use Rattle.std.proofs.lemmas.Bool.Decides.{nat_tests}
use Rattle.std.proofs.lemmas.List.{length-drop}
use Rattle.std.proofs.lemmas.List.Elements.{All-cons, All-nil, All-head, All-tail}
use Rattle.std.proofs.lemmas.Option.{slice_get_within}
use Rattle.list_laws.proofs.Contents.{all_back, all_front}
use Rattle.sp_ids.specs.declared.ids.BlockId.{BlockId}
use Rattle.ir_ast.specs.declared.types.Ty.{Ty}
use Rattle.ir_ast.specs.declared.types.Ty.TheVariants as types
use Rattle.ir_ast.specs.declared.ops.Pred.{Pred}
use Rattle.ir_ast.specs.declared.ops.Pred.TheVariants as preds
use Rattle.ir_ast.specs.declared.ops.Op.{Op}
use Rattle.ir_ast.specs.declared.ops.Op.TheVariants as ops
use Rattle.ir_ast.specs.declared.ops.Operand.{Operand}
use Rattle.ir_ast.specs.declared.ops.Operand.TheVariants as operands
use Rattle.ir_ast.specs.Cells.{kind_of}
use Rattle.ir_ast.specs.Insts.{Instruction}
use Rattle.ir_ast.specs.Funcs.{Function}
use Rattle.ir_ast.specs.Lines.{IsLine, LineOf}
use Rattle.ir_ast.specs.Operands.{operands_of, value_in, values_used}
use Rattle.ir_ast.specs.Values.{definitions_of, outcome}
use Rattle.ir_ast.specs.Derived.{is_merge}
use Rattle.ir_ast.specs.Ops.{is_terminator}
use Rattle.ir_ast.specs.Faults.EntryHasPred.{LeavesEntry}
use Rattle.object_meaning.specs.Accesses.{cell_of}
use Rattle.object_meaning.specs.Jumps.{label_at}
use Rattle.object_meaning.specs.Lines.{Line, after_all, following, numbered}
use Rattle.object_meaning.specs.TargetRuns.{plain_lines}
use Rattle.base_forms.specs.DerivedMarks.{derived_marks, uses_marked}
use Rattle.base_forms.specs.Inserted.{has_inserted, inserted_number, is_merged, is_unequal, new_number, renumbered}
use Rattle.base_forms.specs.Bases.{base_of}
use Rattle.base_forms.specs.Lines.{operand_at}
use Rattle.base_forms.specs.Based.{base_line, check, compared, kept_line, lines_for, negation, same_call}
use Rattle.renaming_laws.specs.Renamed.{ArgumentsFit, InRoom, IsLineOf, Leads, Renaming, renamed, renamed_line}
use Rattle.renaming_laws.specs.Inserted.{Image, alone, as_negated, as_same, behind_check, behind_merge, check_line, negated_line, pointer_place, same_line}
use Rattle.base_laws.proofs.TypeLaws.{IsTypedLine, MarksPointers, compares_pointers}
use Rattle.base_laws.proofs.NumberLaws.{number_alone, number_behind, renaming_of, shift_is_fresh, shift_next, shift_within}

-- ---- operands by place

first_of : (all : List Operand) → 0 < length all → slice_get all 0 ≡ Some (slice_index_or all 0 operands.Null)
first_of [] some = absurd (omega arith)
first_of (x ∷ all) some = refl

second_of : (all : List Operand) → 1 < length all → slice_get all 1 ≡ Some (slice_index_or all 1 operands.Null)
second_of [] some = absurd (omega arith)
second_of (x ∷ []) some = absurd (omega arith)
second_of (x ∷ y ∷ all) some = refl

two_of : (all : List Operand) → length all ≡ 2 → all ≡ slice_index_or all 0 operands.Null ∷ slice_index_or all 1 operands.Null ∷ []
two_of [] two = absurd (omega arith)
two_of (x ∷ []) two = absurd (omega arith)
two_of (x ∷ y ∷ []) two = refl
two_of (x ∷ y ∷ z ∷ all) two = absurd (omega arith)

-- ---- the lines

-- the image, and the register of the next result behind it
pub record LineMade (func : Function) (called : Bool) (next : ℕ) (inst : Instruction) (group : List Instruction) : Type 0 where
  pub image : Image (renaming_of called func) (numbered next inst) (plain_lines (inserted_number func (derived_marks func) next) group)
  pub after : after_all (inserted_number func (derived_marks func) next) group ≡ inserted_number func (derived_marks func) (following next inst)

module _ (func : Function) (called : Bool) (next : ℕ) (inst : Instruction)
    (stands : is_some inst.result ≡ true → slice_get (definitions_of func) next ≡ Some (outcome inst)) where
  abbrev marks : List Bool
  marks = derived_marks func

  abbrev number : ℕ → ℕ
  number = new_number func (derived_marks func)

  abbrev test : Bool
  test = has_inserted (derived_marks func) (outcome inst)

  abbrev shift : ℕ
  shift = inserted_number func (derived_marks func) next

  abbrev used : Bool
  used = uses_marked (derived_marks func) inst

  abbrev one : Line
  one = numbered next inst

  abbrev image_of : List Line → Type 0
  image_of group = Image (renaming_of called func) (numbered next inst) group

  now_is : renumbered func (derived_marks func) ≡ renamed (new_number func (derived_marks func))
  now_is = λ i operand. same operand i
    where
      same : (operand : Operand) → renumbered func (derived_marks func) operand ≡ renamed (new_number func (derived_marks func)) operand
      same (operands.Value value) = refl
      same (operands.Int literal) = refl
      same operands.Null = refl
      same (operands.Fun named) = refl

  to_is : (start : ℕ) → (is_some inst.result ≡ true → start ≡ number next)
      → (if is_some inst.result then Some start else None) ≡ option_map number (if is_some inst.result then Some next else None)
  to_is start same = by (is_some inst.result) refl
    where
      by : (b : Bool) → is_some inst.result ≡ b → (if b then Some start else None) ≡ option_map number (if b then Some next else None)
      by true is = ap (λ (n : ℕ). Some n) (same is)
      by false is = refl

  kept_is : (start : ℕ) → (is_some inst.result ≡ true → start ≡ number next) → numbered start (kept_line func marks inst) ≡ renamed_line number inst.result one
  kept_is start same =
      ap (λ (now : Operand → Operand). let line : Line = record {
        to = if is_some inst.result then Some start else None;
        inst = record inst { operands = map now inst.operands; bundle = map (λ (entry : Ty × Operand). (entry.0, now entry.1)) inst.bundle };
      } in line) now_is
      ∙ ap (λ (to : Option ℕ). let line : Line = record {
        to = to;
        inst = record inst { operands = map (renamed number) inst.operands; bundle = map (λ (entry : Ty × Operand). (entry.0, renamed number entry.1)) inst.bundle };
      } in line) (to_is start same)

  -- ---- the register behind the lines

  behind_result : is_some inst.result ≡ true → inserted_number func (derived_marks func) (following next inst) ≡ number next + 1
  behind_result named = ap (λ (b : Bool). inserted_number func (derived_marks func) (if b then next + 1 else next)) named ∙ shift_next func next

  after_kept : (start : ℕ) → (is_some inst.result ≡ true → start ≡ number next) → (is_some inst.result ≡ false → start ≡ shift)
      → following start (kept_line func marks inst) ≡ inserted_number func (derived_marks func) (following next inst)
  after_kept start same unnamed = by (is_some inst.result) refl
    where
      by : (b : Bool) → is_some inst.result ≡ b → following start (kept_line func marks inst) ≡ inserted_number func (derived_marks func) (following next inst)
      by true is =
          ap (λ (b : Bool). if b then start + 1 else start) is
          ∙ (ap (λ (n : ℕ). n + 1) (same is) ∙ sym (behind_result is))
      by false is =
          ap (λ (b : Bool). if b then start + 1 else start) is
          ∙ (unnamed is ∙ sym (ap (λ (b : Bool). inserted_number func (derived_marks func) (if b then next + 1 else next)) is))

  alone_at : test ≡ false → is_some inst.result ≡ true → shift ≡ number next
  alone_at fails named = sym (number_alone func next (outcome inst) (stands named) fails)

  behind_at : test ≡ true → is_some inst.result ≡ true → shift + 1 ≡ number next
  behind_at passes named = sym (number_behind func next (outcome inst) (stands named) passes)

  -- ---- a line of its own

  alone_made : (is_some inst.result ≡ true → test ≡ false) → LineMade func called next inst (kept_line func marks inst ∷ [])
  alone_made fails = record {
    image = subst (λ (line : Line). image_of (line ∷ [])) (sym (kept_is shift (λ named. alone_at (fails named) named))) (alone inst.result);
    after = after_kept shift (λ named. alone_at (fails named) named) (λ unnamed. refl);
  }

  -- ---- phis and selects

  merged_made : is_merge inst.op ≡ true → is_unequal inst.op ≡ false → is_some inst.result ≡ true → inst.bundle ≡ []
      → LineMade func called next inst ((if is_merged marks inst then base_line func marks next inst ∷ [] else []) ++ kept_line func marks inst ∷ [])
  merged_made kind not_compare named bare =
      subst (λ (b : Bool). LineMade func called next inst ((if b then base_line func marks next inst ∷ [] else []) ++ kept_line func marks inst ∷ []))
      (sym (ap (λ (b : Bool). b && used) kind)) (by used refl)
    where
      test_is : (b : Bool) → used ≡ b → test ≡ b || false
      test_is b is =
          ap (λ (merge : Bool). (merge && used) || (is_unequal inst.op && used)) kind
          ∙ (ap (λ (compare : Bool). used || (compare && used)) not_compare ∙ ap (λ (marked : Bool). marked || false) is)

      by : (b : Bool) → used ≡ b → LineMade func called next inst ((if b then base_line func marks next inst ∷ [] else []) ++ kept_line func marks inst ∷ [])
      by false is = alone_made (λ named_too. test_is false is)
      by true is = record {
        image = subst (λ (line : Line). image_of (numbered shift (base_line func marks next inst) ∷ line ∷ [])) (sym (kept_is (shift + 1) (λ named_too. behind_at (test_is true is) named)))
            (behind_merge (numbered shift (base_line func marks next inst)) inst.result kind refl bare refl (shift_is_fresh func next (outcome inst) (stands named) called (test_is true is)));
        after = after_kept (shift + 1) (λ named_too. behind_at (test_is true is) named) (λ unnamed. absurd cc);
      }

  -- ---- loads and stores

  abbrev check_with : Operand → (Operand → Operand) → Line
  check_with address now = check_line (types.Ptr ∷ types.Ptr ∷ types.Int 64 ∷ []) (base_of func marks address) (now address) (kind_of (cell_of inst.ty))

  checked_made : (address : Operand) (place : ℕ) → pointer_place inst.op ≡ Some place → slice_get inst.operands place ≡ Some address → inst.bundle ≡ []
      → (is_some inst.result ≡ true → test ≡ false) → LineMade func called next inst (check func marks inst address ∷ kept_line func marks inst ∷ [])
  checked_made address place access at bare fails = record {
    image = subst image_of (sym lines_are)
        (behind_check (types.Ptr ∷ types.Ptr ∷ types.Int 64 ∷ []) (base_of func marks address) address place inst.result access at bare);
    after = after_kept shift (λ named. alone_at (fails named) named) (λ unnamed. refl);
  }
    where
      lines_are : numbered shift (check func marks inst address) ∷ numbered shift (kept_line func marks inst) ∷ []
          ≡ check_with address (renamed number) ∷ renamed_line number inst.result one ∷ []
      lines_are =
          ap (λ (now : Operand → Operand). check_with address now ∷ numbered shift (kept_line func marks inst) ∷ []) now_is
          ∙ ap (λ (line : Line). check_with address (renamed number) ∷ line ∷ []) (kept_is shift (λ named. alone_at (fails named) named))

  -- ---- compares

  module _ (is_pointers : inst.ty ≡ types.Ptr) (two : length inst.operands ≡ 2) (bare : inst.bundle ≡ []) (named : is_some inst.result ≡ true) where
    abbrev first : Operand
    first = operand_at inst 0

    abbrev second : Operand
    second = operand_at inst 1

    abbrev passed : List Ty
    passed = types.Ptr ∷ types.Ptr ∷ types.Ptr ∷ types.Ptr ∷ []

    abbrev same_with : Option ℕ → Option (List ℕ) → (Operand → Operand) → Line
    same_with to name now = same_line to name passed (base_of func marks first) (now first) (base_of func marks second) (now second)

    equal_made : inst.op ≡ ops.Icmp preds.Eq → test ≡ false → LineMade func called next inst (same_call func marks inst.result first second ∷ [])
    equal_made is fails = record {
      image = subst (λ (line : Line). image_of (line ∷ [])) (sym line_is)
          (as_same passed (base_of func marks first) (base_of func marks second) first second inst.result is is_pointers (two_of inst.operands two) bare);
      after =
          ap (λ (b : Bool). if b then shift + 1 else shift) named
          ∙ (ap (λ (n : ℕ). n + 1) (alone_at fails named) ∙ sym (behind_result named));
    }
      where
        line_is : numbered shift (same_call func marks inst.result first second) ≡ same_with (option_map number one.to) inst.result (renamed number)
        line_is =
            ap (same_with (if is_some inst.result then Some shift else None) inst.result) now_is
            ∙ ap (λ (to : Option ℕ). same_with to inst.result (renamed number)) (to_is shift (λ named_too. alone_at fails named))

    unequal_made : inst.op ≡ ops.Icmp preds.Ne → test ≡ true → (name : List ℕ)
        → LineMade func called next inst (same_call func marks (Some name) first second ∷ negation func marks next inst ∷ [])
    unequal_made is passes name = record {
      image = subst image_of (sym lines_are)
          (as_negated passed (base_of func marks first) (base_of func marks second) first second shift (Some name) inst.result is is_pointers (two_of inst.operands two) bare
          (shift_is_fresh func next (outcome inst) (stands named) called passes) (shift_within func next (outcome inst) (stands named)));
      after =
          ap (λ (b : Bool). if b then shift + 1 + 1 else shift + 1) named
          ∙ (ap (λ (n : ℕ). n + 1) (behind_at passes named) ∙ sym (behind_result named));
    }
      where
        lines_are : numbered shift (same_call func marks (Some name) first second) ∷ numbered (shift + 1) (negation func marks next inst) ∷ []
            ≡ same_with (Some shift) (Some name) (renamed number) ∷ negated_line (option_map number one.to) inst.result shift ∷ []
        lines_are =
            ap (λ (now : Operand → Operand). same_with (Some shift) (Some name) now ∷ numbered (shift + 1) (negation func marks next inst) ∷ []) now_is
            ∙ ap (λ (to : Option ℕ). same_with (Some shift) (Some name) (renamed number) ∷ negated_line to inst.result shift ∷ [])
            (to_is (shift + 1) (λ named_too. behind_at passes named))

  -- ---- by operator

  module _ (typed : IsTypedLine func inst) (pointers : MarksPointers func (derived_marks func)) where
    line_as : (op : Op) → inst.op ≡ op → LineOf op inst
    line_as op is = subst (λ (each : Op). LineOf each inst) is typed.line

    test_as : (op : Op) → inst.op ≡ op → test ≡ (is_merge op && used) || (is_unequal op && used)
    test_as op is = ap (λ (each : Op). (is_merge each && used) || (is_unequal each && used)) is

    compared_made : (pred : Pred) → inst.op ≡ ops.Icmp pred → used ≡ true → LineMade func called next inst (compared func marks next inst pred)
    compared_made preds.Eq is marked =
        let line = line_as (ops.Icmp preds.Eq) is in
        equal_made (compares_pointers func (derived_marks func) pointers inst typed marked preds.Eq is) line.operand_count line.no_bundle line.result is (test_as (ops.Icmp preds.Eq) is)
    compared_made preds.Ne is marked =
        let line = line_as (ops.Icmp preds.Ne) is in
        unequal_made (compares_pointers func (derived_marks func) pointers inst typed marked preds.Ne is) line.operand_count line.no_bundle line.result is (test_as (ops.Icmp preds.Ne) is ∙ marked) _
    compared_made pred is marked = alone_made (λ named. test_as (ops.Icmp pred) is)

    unused : (op : Op) → inst.op ≡ op → used ≡ false → test ≡ false
    unused op is none = test_as op is ∙ (ap (λ (marked : Bool). (is_merge op && marked) || (is_unequal op && marked)) none ∙ both (is_merge op) (is_unequal op))
      where
        both : (a b : Bool) → (a && false) || (b && false) ≡ false
        both true true = refl
        both true false = refl
        both false true = refl
        both false false = refl

    made_as : (op : Op) → inst.op ≡ op → LineMade func called next inst (lines_for func marks next inst op)
    made_as ops.Phi is = merged_made (ap is_merge is) (ap is_unequal is) ((line_as ops.Phi is).0).result ((line_as ops.Phi is).0).no_bundle
    made_as ops.Select is = merged_made (ap is_merge is) (ap is_unequal is) (line_as ops.Select is).result (line_as ops.Select is).no_bundle
    made_as (ops.Icmp pred) is = by used refl
      where
        by : (b : Bool) → used ≡ b → LineMade func called next inst (if b then compared func marks next inst pred else kept_line func marks inst ∷ [])
        by true marked = compared_made pred is marked
        by false none = alone_made (λ named. unused (ops.Icmp pred) is none)
    made_as ops.Load is =
        checked_made (operand_at inst 0) 0 (ap pointer_place is) (first_of inst.operands (let count = (line_as ops.Load is).operand_count in omega arith)) (line_as ops.Load is).no_bundle
        (λ named. test_as ops.Load is)
    made_as ops.Store is =
        checked_made (operand_at inst 1) 1 (ap pointer_place is) (second_of inst.operands (let count = (line_as ops.Store is).operand_count in omega arith)) (line_as ops.Store is).no_bundle
        (λ named. test_as ops.Store is)
    made_as op is = alone_made (λ named. test_as op is)

    pub line_made : LineMade func called next inst (lines_for func marks next inst inst.op)
    line_made = made_as inst.op refl

-- ---- what the line asks of its function

known_operands : (room : ℕ) (all : List Operand) → All (λ value. value < room) (filter_map value_in all) → All (InRoom room) all
known_operands room [] known = All-nil (InRoom room)
known_operands room (operands.Value id ∷ all) known =
    All-cons (InRoom room) (operands.Value id) all (All-head (λ value. value < room) id.0 (filter_map value_in all) known)
    (known_operands room all (All-tail (λ value. value < room) id.0 (filter_map value_in all) known))
known_operands room (operands.Int literal ∷ all) known = All-cons (InRoom room) (operands.Int literal) all tt (known_operands room all known)
known_operands room (operands.Null ∷ all) known = All-cons (InRoom room) operands.Null all tt (known_operands room all known)
known_operands room (operands.Fun named ∷ all) known = All-cons (InRoom room) (operands.Fun named) all tt (known_operands room all known)

known_bundle : (room : ℕ) (bundle : List (Ty × Operand)) → All (InRoom room) (map (λ (entry : Ty × Operand). entry.1) bundle) → All (λ (entry : Ty × Operand). InRoom room entry.1) bundle
known_bundle room [] known = All-nil (λ (entry : Ty × Operand). InRoom room entry.1)
known_bundle room (entry ∷ bundle) known =
    All-cons (λ (each : Ty × Operand). InRoom room each.1) entry bundle (All-head (InRoom room) entry.1 (map (λ (each : Ty × Operand). each.1) bundle) known)
    (known_bundle room bundle (All-tail (InRoom room) entry.1 (map (λ (each : Ty × Operand). each.1) bundle) known))

-- a label of a line that leaves the entry leads elsewhere
label_leads : (labels : List BlockId) (place : ℕ) → All (λ label. label.0 ≢ 0) labels → place < length labels → not (label_at labels place == 0) ≡ true
label_leads [] place elsewhere below = absurd (omega arith)
label_leads (label ∷ labels) zero elsewhere below = let differs = All-head (λ (each : BlockId). each.0 ≢ 0) label labels elsewhere in grind (arith, nat_tests)
label_leads (label ∷ labels) (suc place) elsewhere below = label_leads labels place (All-tail (λ (each : BlockId). each.0 ≢ 0) label labels elsewhere) (omega arith)

leads_of : (inst : Instruction) → IsLine inst → LeavesEntry inst → (op : Op) → inst.op ≡ op → Leads (λ block. not (block == 0)) op inst.operands inst.labels
leads_of inst line leaves ops.Br is =
    label_leads inst.labels 0 (leaves (ap is_terminator is)) (let count = (subst (λ (op : Op). LineOf op inst) is line).label_count in omega arith)
leads_of inst line leaves ops.CondBr is =
    let count = (subst (λ (op : Op). LineOf op inst) is line).label_count in (
      label_leads inst.labels 0 (leaves (ap is_terminator is)) (omega arith),
      label_leads inst.labels 1 (leaves (ap is_terminator is)) (omega arith),
    )
leads_of inst line leaves ops.Switch is = λ place within.
    let count = ((subst (λ (op : Op). LineOf op inst) is line).0).label_count in
    let some = (subst (λ (op : Op). LineOf op inst) is line).1 in
    let behind = length-drop 1 inst.operands in
    label_leads inst.labels place (leaves (ap is_terminator is)) (omega arith)
leads_of inst line leaves op is = tt

-- what is asked of each instruction
pub record IsReady (functions : ℕ → Renaming) (func : Function) (inst : Instruction) : Type 0 where
  pub typed : IsTypedLine func inst
  pub known : All (λ value. value < length (definitions_of func)) (values_used inst)
  pub arguments : ArgumentsFit functions inst.op inst.operands
  pub leaves : LeavesEntry inst

pub line_of : (functions : ℕ → Renaming) (number : ℕ) (func : Function) (called : Bool) → functions number ≡ renaming_of called func
    → (next : ℕ) (inst : Instruction) → IsReady functions func inst
    → (is_some inst.result ≡ true → slice_get (definitions_of func) next ≡ Some (outcome inst)) → IsLineOf functions number (numbered next inst)
line_of functions number func called is next inst ready stands = record {
  result = subst (λ (r : Renaming). IfSome (numbered next inst).to (λ register. register < r.room)) (sym is) (within (is_some inst.result) refl);
  operands = subst (λ (r : Renaming). All (InRoom r.room) inst.operands) (sym is)
      (all_front (InRoom (length (definitions_of func))) inst.operands (map (λ (entry : Ty × Operand). entry.1) inst.bundle) all);
  bundle = subst (λ (r : Renaming). All (λ (entry : Ty × Operand). InRoom r.room entry.1) inst.bundle) (sym is)
      (known_bundle (length (definitions_of func)) inst.bundle
      (all_back (InRoom (length (definitions_of func))) inst.operands (map (λ (entry : Ty × Operand). entry.1) inst.bundle) all));
  arguments = ready.arguments;
  leads = subst (λ (r : Renaming). Leads r.entered inst.op inst.operands inst.labels) (sym is) (leads_of inst (ready.typed).line ready.leaves inst.op refl);
}
  where
    all : All (InRoom (length (definitions_of func))) (operands_of inst)
    all = known_operands (length (definitions_of func)) (operands_of inst) ready.known

    within : (b : Bool) → is_some inst.result ≡ b → IfSome (if b then Some next else None) (λ register. register < length (definitions_of func))
    within true named = slice_get_within (definitions_of func) next (outcome inst) (stands named)
    within false unnamed = tt
