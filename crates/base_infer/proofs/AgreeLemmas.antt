-- The lines by the tables are those by the function, as far as its lines name values that it has.
use Rattle.std.proofs.Common.{◌≡◌, ◌∙◌, ℕ, zero, suc, ◌+◌, ◌<◌, ◌≤◌, Bool, true, false, ◌&&◌, if◌then◌else◌, List, [], ◌∷◌, ◌++◌, length, Option, Some, None, is_some, codes, refl, ap, sym, arith, inl, inr}
use Rattle.std.specs.Prelude.{map, slice_index_or}
use Rattle.std.specs.List.{filter, filter_map, All}
use Rattle.std.proofs.lemmas.Bool.{cases_Bool, false≢true}
use Rattle.std.proofs.lemmas.List.{length-map, length-append}
use Rattle.std.proofs.lemmas.List.Elements.{All-nil, All-cons, All-head, All-tail, filter_map-append}
use Rattle.list_laws.proofs.Contents.{all_front, all_back}
use Rattle.ir_ast.specs.declared.funcs.Arg.{Arg}
use Rattle.ir_ast.specs.declared.types.Ty.{Ty}
use Rattle.ir_ast.specs.declared.types.Ty.TheVariants.{Void, Int as Integer, Ptr}
use Rattle.ir_ast.specs.declared.ops.Callee.TheVariants.{Check, Same}
use Rattle.ir_ast.specs.declared.ops.Pred.{Pred}
use Rattle.ir_ast.specs.declared.ops.Pred.TheVariants.{Eq, Ne}
use Rattle.ir_ast.specs.declared.ops.Operand.{Operand}
use Rattle.ir_ast.specs.declared.ops.Operand.TheVariants.{Value, Int, Null, Fun}
use Rattle.ir_ast.specs.declared.ops.Op.{Op}
use Rattle.ir_ast.specs.declared.ops.Op.TheVariants.{Xor, Icmp, Select, Phi, Load, Store, Call}
use Rattle.ir_ast.specs.Cells.{kind_of}
use Rattle.ir_ast.specs.Insts.{Instruction}
use Rattle.ir_ast.specs.Blocks.{BasicBlock}
use Rattle.ir_ast.specs.Funcs.{Function, instructions_of}
use Rattle.ir_ast.specs.Values.{argument, outcome, definitions_of}
use Rattle.ir_ast.specs.Operands.{value_in, named}
use Rattle.ir_ast.specs.Lines.{IsLine, LineOf}
use Rattle.ir_ast.specs.Derived.{is_merge}
use Rattle.ir_ast.specs.Faults.UnknownName.{NamesOfFunction, LocalNamesAreKnown}
use Rattle.object_meaning.specs.Lines.{following, after_all}
use Rattle.object_meaning.specs.Accesses.{cell_of}
use Rattle.base_forms.specs.DerivedMarks.{derived_marks, uses_marked}
use Rattle.base_forms.specs.Inserted.{is_merged, is_negated, inserted_number, new_number, renumbered}
use Rattle.base_forms.specs.Bases.{base_of}
use Rattle.base_forms.specs.Lines.{Insertion, operand_at, numbered_name, kept_line, merged_bases, base_line, check, same_call, compared, merged, lines_for, based_insts, based_blocks}
use Rattle.base_forms.specs.Based.{rank_of, insertion, based}
use Rattle.base_tables.specs.Tables.{tables_of, now_by, base_by, tabled}
use Rattle.base_tables.proofs.DefinitionLemmas.{marked_by}
use Rattle.base_tables.proofs.TableLemmas.{IsKnown, at_value}
use Rattle.object_meaning.proofs.LineLaws.{after_up, after_append}

ap2 : {A B C : Type 0} (f : A → B → C) {a b : A} {x y : B} → a ≡ b → x ≡ y → f a x ≡ f b y
ap2 f {a} {b} {x} {y} p q = ap (λ z. f z x) p ∙ ap (λ z. f b z) q

-- ---- lists of known operands

known_all : (count : ℕ) (operands : List Operand) → All (λ v. v < count) (filter_map value_in operands) → All (IsKnown count) operands
known_all count [] all = All-nil (IsKnown count)
known_all count (Value v ∷ operands) all =
    All-cons (IsKnown count) (Value v) operands (All-head (λ (n : ℕ). n < count) v.0 (filter_map value_in operands) all)
    (known_all count operands (All-tail (λ (n : ℕ). n < count) v.0 (filter_map value_in operands) all))
known_all count (Int word ∷ operands) all = All-cons (IsKnown count) (Int word) operands tt (known_all count operands all)
known_all count (Null ∷ operands) all = All-cons (IsKnown count) Null operands tt (known_all count operands all)
known_all count (Fun func ∷ operands) all = All-cons (IsKnown count) (Fun func) operands tt (known_all count operands all)

known_at : (count : ℕ) (operands : List Operand) (place : ℕ) → All (IsKnown count) operands → IsKnown count (slice_index_or operands place Null)
known_at count [] place all = tt
known_at count (o ∷ operands) zero all = All-head (IsKnown count) o operands all
known_at count (o ∷ operands) (suc place) all = known_at count operands place (All-tail (IsKnown count) o operands all)

map_same : (count : ℕ) (f g : Operand → Operand) → ((o : Operand) → IsKnown count o → f o ≡ g o) → (operands : List Operand) → All (IsKnown count) operands
    → map f operands ≡ map g operands
map_same count f g same [] all = refl
map_same count f g same (o ∷ operands) all =
    ap2 (λ x xs. x ∷ xs) (same o (All-head (IsKnown count) o operands all)) (map_same count f g same operands (All-tail (IsKnown count) o operands all))

abbrev over : (Operand → Operand) → Ty × Operand → Ty × Operand
over f entry = (entry.0, f entry.1)

bundle_same : (count : ℕ) (f g : Operand → Operand) → ((o : Operand) → IsKnown count o → f o ≡ g o) → (entries : List (Ty × Operand))
    → All (IsKnown count) (map (λ (entry : Ty × Operand). entry.1) entries) → map (over f) entries ≡ map (over g) entries
bundle_same count f g same [] all = refl
bundle_same count f g same (entry ∷ entries) all =
    let rest = map (λ (e : Ty × Operand). e.1) entries in
    ap2 (λ (x : Operand) (xs : List (Ty × Operand)). (let first : Ty × Operand = (entry.0, x) in first) ∷ xs) (same entry.1 (All-head (IsKnown count) entry.1 rest all))
    (bundle_same count f g same entries (All-tail (IsKnown count) entry.1 rest all))

-- ---- the numbers of results

after_results : (start : ℕ) (insts : List Instruction) → after_all start insts ≡ start + length (filter (λ inst. is_some inst.result) insts)
after_results start [] = omega arith
after_results start (inst ∷ insts) = elim (cases_Bool (is_some inst.result)) [
  | inl gives ↦ rw gives (let e = after_results (start + 1) insts in omega (arith, e))
  | inr none ↦ rw none (after_results start insts)
]

module _ (func : Function) where
  now_same : (o : Operand) → IsKnown (length (definitions_of func)) o → now_by (tables_of func) o ≡ renumbered func (derived_marks func) o
  now_same (Value v) below =
      ap (λ n. Value (record { 0 = n })) (at_value (new_number func (derived_marks func)) (length (definitions_of func)) v.0 0 below)
  now_same (Int word) below = refl
  now_same Null below = refl
  now_same (Fun other) below = refl

  base_same : (o : Operand) → IsKnown (length (definitions_of func)) o → base_by (tables_of func) o ≡ base_of func (derived_marks func) o
  base_same (Value v) below = at_value (λ value. base_of func (derived_marks func) (named value)) (length (definitions_of func)) v.0 Null below
  base_same (Int word) below = refl
  base_same Null below = refl
  base_same (Fun other) below = refl

  abbrev mine : Insertion
  mine = tabled (tables_of func)

  abbrev own : Insertion
  own = insertion func (derived_marks func)

  module _ (inst : Instruction) (names : NamesOfFunction func inst) where
    operands_known : All (IsKnown (length (definitions_of func))) inst.operands
    operands_known =
        known_all (length (definitions_of func)) inst.operands
        (all_front (λ (v : ℕ). v < length (definitions_of func)) (filter_map value_in inst.operands) (filter_map value_in (map (λ (e : Ty × Operand). e.1) inst.bundle))
        (rw (filter_map-append value_in inst.operands (map (λ (e : Ty × Operand). e.1) inst.bundle)) at names.values))

    bundle_known : All (IsKnown (length (definitions_of func))) (map (λ (e : Ty × Operand). e.1) inst.bundle)
    bundle_known =
        known_all (length (definitions_of func)) (map (λ (e : Ty × Operand). e.1) inst.bundle)
        (all_back (λ (v : ℕ). v < length (definitions_of func)) (filter_map value_in inst.operands) (filter_map value_in (map (λ (e : Ty × Operand). e.1) inst.bundle))
        (rw (filter_map-append value_in inst.operands (map (λ (e : Ty × Operand). e.1) inst.bundle)) at names.values))

    at_known : (place : ℕ) → IsKnown (length (definitions_of func)) (operand_at inst place)
    at_known place = known_at (length (definitions_of func)) inst.operands place operands_known

    kept_same : kept_line mine inst ≡ kept_line own inst
    kept_same =
        ap2 (λ (os : List Operand) (es : List (Ty × Operand)). (let made : Instruction = record inst { operands = os; bundle = es } in made))
        (map_same (length (definitions_of func)) (now_by (tables_of func)) (renumbered func (derived_marks func)) now_same inst.operands operands_known)
        (bundle_same (length (definitions_of func)) (now_by (tables_of func)) (renumbered func (derived_marks func)) now_same inst.bundle bundle_known)

    check_same : (place : ℕ) → check mine inst (operand_at inst place) ≡ check own inst (operand_at inst place)
    check_same place =
        ap2 (λ (b a : Operand). (let made : Instruction = record {
          result = None;
          op = Call Check (Ptr ∷ Ptr ∷ Integer 64 ∷ []);
          ty = Void;
          operands = b ∷ a ∷ Int (kind_of (cell_of inst.ty)) ∷ [];
          labels = [];
          bundle = [];
        } in made)) (base_same (operand_at inst place) (at_known place)) (now_same (operand_at inst place) (at_known place))

    same_same : (result : Option (List ℕ)) → same_call mine result (operand_at inst 0) (operand_at inst 1) ≡ same_call own result (operand_at inst 0) (operand_at inst 1)
    same_same result =
        ap2 (λ (front back : List Operand). (let made : Instruction = record {
          result = result;
          op = Call Same (Ptr ∷ Ptr ∷ Ptr ∷ Ptr ∷ []);
          ty = Integer 1;
          operands = front ++ back;
          labels = [];
          bundle = [];
        } in made))
        (ap2 (λ (b a : Operand). b ∷ a ∷ []) (base_same (operand_at inst 0) (at_known 0)) (now_same (operand_at inst 0) (at_known 0)))
        (ap2 (λ (b a : Operand). b ∷ a ∷ []) (base_same (operand_at inst 1) (at_known 1)) (now_same (operand_at inst 1) (at_known 1)))

    merged_same : (op : Op) (operands : List Operand) → All (IsKnown (length (definitions_of func))) operands → merged_bases mine op operands ≡ merged_bases own op operands
    merged_same Select [] all = refl
    merged_same Select (o ∷ operands) all =
        ap2 (λ (x : Operand) (xs : List Operand). x ∷ xs) (now_same o (All-head (IsKnown (length (definitions_of func))) o operands all))
        (map_same (length (definitions_of func)) (base_by (tables_of func)) (base_of func (derived_marks func)) base_same operands (All-tail (IsKnown (length (definitions_of func))) o operands all))
    merged_same op operands all = map_same (length (definitions_of func)) (base_by (tables_of func)) (base_of func (derived_marks func)) base_same operands all

    module _ (next : ℕ) (inside : is_some inst.result ≡ true → next < length (definitions_of func)) where
      base_line_same : is_some inst.result ≡ true → base_line mine next inst ≡ base_line own next inst
      base_line_same gives =
          ap2 (λ (rank : ℕ) (os : List Operand). (let made : Instruction = record {
            result = Some (numbered_name (codes "sp.b") rank);
            op = inst.op;
            ty = inst.ty;
            operands = os;
            labels = inst.labels;
            bundle = [];
          } in made))
          (at_value (rank_of func (is_merged (derived_marks func))) (length (definitions_of func)) next 0 (inside gives))
          (merged_same inst.op inst.operands operands_known)

      compared_same : (pred : Pred) → is_some inst.result ≡ true → compared mine next inst pred ≡ compared own next inst pred
      compared_same Eq gives = ap (λ (line : Instruction). line ∷ []) (same_same inst.result)
      compared_same Ne gives =
          ap2 (λ (line negated : Instruction). line ∷ negated ∷ [])
          (ap (λ (rank : ℕ). same_call mine (Some (numbered_name (codes "sp.s") rank)) (operand_at inst 0) (operand_at inst 1))
          (at_value (rank_of func (is_negated (derived_marks func))) (length (definitions_of func)) next 0 (inside gives))
          ∙ same_same (Some (numbered_name (codes "sp.s") (rank_of func (is_negated (derived_marks func)) next))))
          (ap (λ (n : ℕ). (let made : Instruction = record {
            result = inst.result;
            op = Xor;
            ty = Integer 1;
            operands = Value (record { 0 = n }) ∷ Int 1 ∷ [];
            labels = [];
            bundle = [];
          } in made)) (at_value (inserted_number func (derived_marks func)) (length (definitions_of func)) next 0 (inside gives)))
      compared_same pred gives = ap (λ (line : Instruction). line ∷ []) kept_same

      merge_same : inst.bundle ≡ [] → is_some inst.result ≡ true → merged mine next inst ≡ merged own next inst
      merge_same none gives =
          ap2 (λ (front back : List Instruction). front ++ back)
          (ap2 (λ (uses : Bool) (line : Instruction). if is_merge inst.op && uses then line ∷ [] else []) (sym (marked_by (derived_marks func) inst none)) (base_line_same gives))
          (ap (λ (line : Instruction). line ∷ []) kept_same)

      lines_same : (op : Op) → LineOf op inst → lines_for mine next inst op ≡ lines_for own next inst op
      lines_same Phi line = merge_same line.0.no_bundle line.0.result
      lines_same Select line = merge_same line.no_bundle line.result
      lines_same (Icmp pred) line =
          ap2 (λ (uses : Bool) (ls : List Instruction). if uses then ls else kept_line mine inst ∷ []) (sym (marked_by (derived_marks func) inst line.no_bundle)) (compared_same pred line.result)
          ∙ ap (λ (kept : Instruction). if uses_marked (derived_marks func) inst then compared own next inst pred else kept ∷ []) kept_same
      lines_same Load line = ap2 (λ (first second : Instruction). first ∷ second ∷ []) (check_same 0) kept_same
      lines_same Store line = ap2 (λ (first second : Instruction). first ∷ second ∷ []) (check_same 1) kept_same
      lines_same op line = ap (λ (kept : Instruction). kept ∷ []) kept_same

  inside_by : (gives : Bool) (next limit : ℕ) → (if gives then next + 1 else next) ≤ limit → gives ≡ true → next < limit
  inside_by true next limit up is = omega (arith, up)
  inside_by false next limit up is = absurd (false≢true is)

  insts_same : (next : ℕ) (insts : List Instruction) → All IsLine insts → All (NamesOfFunction func) insts → after_all next insts ≤ length (definitions_of func)
      → based_insts mine next insts ≡ based_insts own next insts
  insts_same next [] lines names few = refl
  insts_same next (inst ∷ insts) lines names few =
      let up = after_up (following next inst) insts in
      let here : following next inst ≤ length (definitions_of func) = omega (arith, up, few) in
      ap2 (λ (front back : List Instruction). front ++ back)
      (lines_same inst (All-head (NamesOfFunction func) inst insts names) next (inside_by (is_some inst.result) next (length (definitions_of func)) here) inst.op (All-head IsLine inst insts lines))
      (insts_same (following next inst) insts (All-tail IsLine inst insts lines) (All-tail (NamesOfFunction func) inst insts names) few)

  blocks_same : (next : ℕ) (blocks : List BasicBlock) → All IsLine (instructions_of blocks) → All (NamesOfFunction func) (instructions_of blocks)
      → after_all next (instructions_of blocks) ≤ length (definitions_of func) → based_blocks mine next blocks ≡ based_blocks own next blocks
  blocks_same next [] lines names few = refl
  blocks_same next (block ∷ blocks) lines names few =
      let whole = after_append next block.insts (instructions_of blocks) in
      let up = after_up (after_all next block.insts) (instructions_of blocks) in
      ap2 (λ (is : List Instruction) (bs : List BasicBlock). (let made : BasicBlock = record block { insts = is } in made) ∷ bs)
      (insts_same next block.insts (all_front IsLine block.insts (instructions_of blocks) lines) (all_front (NamesOfFunction func) block.insts (instructions_of blocks) names) (omega (arith, whole, up, few)))
      (blocks_same (after_all next block.insts) blocks (all_back IsLine block.insts (instructions_of blocks) lines)
      (all_back (NamesOfFunction func) block.insts (instructions_of blocks) names) (omega (arith, whole, few)))

  -- the blocks by the tables are those by the function
  pub agree : All IsLine (instructions_of func.blocks) → LocalNamesAreKnown func
      → based_blocks (tabled (tables_of func)) (length func.args) func.blocks ≡ based_blocks (insertion func (derived_marks func)) (length func.args) func.blocks
  agree lines names =
      blocks_same (length func.args) func.blocks lines names
      (omega (
        arith,
        after_results (length func.args) (instructions_of func.blocks),
        length-append (map argument func.args) (map outcome (filter (λ (inst : Instruction). is_some inst.result) (instructions_of func.blocks))),
        length-map func.args argument,
        length-map (filter (λ (inst : Instruction). is_some inst.result) (instructions_of func.blocks)) outcome,
      ))

-- the function that is made of these parts
pub based_left : (func : Function) (name : List ℕ) (answer : Ty) (args : List Arg) (blocks : List BasicBlock) → name ≡ func.name → answer ≡ func.answer
    → args ≡ func.args → blocks ≡ based_blocks (insertion func (derived_marks func)) (length func.args) func.blocks
    → (let made : Function = record { name = name; answer = answer; args = args; blocks = blocks } in made) ≡ based func
based_left func name answer args blocks same_name same_answer same_args same_blocks = rw (same_name, same_answer, same_args, same_blocks) refl
