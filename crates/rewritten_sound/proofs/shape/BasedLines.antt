-- Each line of the module with polls and bases is well formed.
use Rattle.std.proofs.Common.{◌≡◌, ℕ, zero, suc, ◌+◌, ◌^◌, ◌<◌, Bool, true, false, ◌&&◌, if◌then◌else◌, List, [], ◌∷◌, ◌++◌, length, map, replicate, refl, sym, ap, subst, ◌∙◌, inl, inr, arith, lit<}
use Rattle.std.specs.Prelude.{Option, Some, None, is_some, slice_get, slice_index_or}
use Rattle.std.specs.List.{All, AllZip, filter_map, list_all}
use Rattle.std.specs.Option.{option_map}
use Rattle.std.proofs.lemmas.Bool.{and_parts, false≢true}
use Rattle.std.proofs.lemmas.List.{length-map}
use Rattle.std.proofs.lemmas.List.Elements.{All-append, All-cons, All-nil}
use Rattle.std.proofs.lemmas.Option.{none-some}
use Rattle.list_laws.proofs.Contents.{all_at, all_from_at, all_front}
use Rattle.sp_ids.specs.declared.ids.BlockId.{BlockId}
use Rattle.sp_ids.specs.declared.ids.ValueId.{ValueId}
use Rattle.ir_ast.specs.declared.types.Ty.{Ty}
use Rattle.ir_ast.specs.declared.types.Ty.TheVariants as types
use Rattle.ir_ast.specs.declared.types.Ty.TheVariants.{Ptr}
use Rattle.ir_ast.specs.declared.cells.Cell.{Cell}
use Rattle.ir_ast.specs.declared.cells.Cell.TheVariants as cells
use Rattle.ir_ast.specs.declared.ops.Callee.{Callee}
use Rattle.ir_ast.specs.declared.ops.Callee.TheVariants as callees
use Rattle.ir_ast.specs.declared.ops.Pred.{Pred}
use Rattle.ir_ast.specs.declared.ops.Pred.TheVariants as preds
use Rattle.ir_ast.specs.declared.ops.Op.{Op}
use Rattle.ir_ast.specs.declared.ops.Op.TheVariants as ops
use Rattle.ir_ast.specs.declared.ops.Operand.{Operand}
use Rattle.ir_ast.specs.declared.ops.Operand.TheVariants as operands
use Rattle.ir_ast.specs.Cells.{kind_of}
use Rattle.ir_ast.specs.Derived.{is_merge}
use Rattle.ir_ast.specs.Insts.{Instruction}
use Rattle.ir_ast.specs.Blocks.{BasicBlock}
use Rattle.ir_ast.specs.Funcs.{Function, instructions_of}
use Rattle.ir_ast.specs.Modules.{ModuleContent}
use Rattle.ir_ast.specs.Lines.{LineOf}
use Rattle.ir_ast.specs.Operands.{functions_named, is_value, operands_of}
use Rattle.ir_ast.specs.Scope.{scope_of, signature_of}
use Rattle.ir_ast.specs.Types.{is_first_class}
use Rattle.ir_ast.specs.Values.{Definition, definition_type, definitions_of, value_types}
use Rattle.ir_ast.specs.Widths.{IsWidth}
use Rattle.ir_ast.specs.Faults.TypeClash.{Fits, IsTyped, asked}
use Rattle.ir_cfg.specs.SourceModules.{IsSourceModule}
use Rattle.ir_cfg.proofs.UsedLaws.{values_known}
use Rattle.object_meaning.specs.Accesses.{cell_of}
use Rattle.object_meaning.specs.Lines.{after_all}
use Rattle.base_forms.specs.Polls.{placed, placed_from, poll_call}
use Rattle.base_forms.specs.DerivedMarks.{derived_marks, uses_marked}
use Rattle.base_forms.specs.Bases.{base_of}
use Rattle.base_forms.specs.Inserted.{inserted_number, is_merged, new_number, renumbered}
use Rattle.base_forms.specs.Lines.{merged_bases, operand_at}
use Rattle.base_forms.specs.Based.{base_line, based, based_blocks, based_module, check, compared, insertion, kept_line, lines_for, merged, negation, same_call}
use Rattle.base_laws.proofs.LineLaws.{IsReady}
use Rattle.base_laws.proofs.MeaningLaws.{found_now}
use Rattle.base_forms.proofs.PlacedLaws.{all_placed, definitions_placed}
use Rattle.base_laws.proofs.ReadyLaws.{renamings}
use Rattle.base_laws.proofs.TypeLaws.{IsTypedLine, compares_pointers, phi_of_pointers, select_of_pointers}
use Rattle.base_definite.proofs.base_relations.GroupLaws.{group_of, located, value_at}
use Rattle.base_definite.proofs.base_relations.TableInstance.{all_ready, is_here, pointers}
use Rattle.rewritten_sound.specs.WellFormed.{Carries, CarriesEntry, IsWellFormed}
use Rattle.rewritten_sound.proofs.shape.BasedTypes.{base_fits, line_type, now_fits, type_kept}
use Rattle.rewritten_sound.proofs.shape.KeptLaws.{AreAlike, well_carried}
use Rattle.rewritten_sound.proofs.shape.PassLaws.{no_items}
use Rattle.list_laws.proofs.Places.{get_joined}

-- ---- operands of lines that are put in

fits_value : (values : List Ty) (o : Operand) → Fits values o Ptr → is_value o ≡ true
fits_value values (operands.Value value) fits = refl
fits_value values (operands.Int word) fits = refl
fits_value values operands.Null fits = refl
fits_value values (operands.Fun called) fits = absurd cc

-- what is read of a function's name alone isn't read of an operand of a first class type
no_item : (h : Operand → Option ℕ) → ((v : ValueId) → h (operands.Value v) ≡ None) → ((n : ℕ) → h (operands.Int n) ≡ None) → h operands.Null ≡ None
    → (values : List Ty) (o : Operand) (ty : Ty) → Fits values o ty → is_first_class ty ≡ true → h o ≡ None
no_item h value word null values (operands.Value v) ty fits class = value v
no_item h value word null values (operands.Int n) ty fits class = word n
no_item h value word null values operands.Null ty fits class = null
no_item h value word null values (operands.Fun called) ty fits class = absurd (false≢true (ap is_first_class (sym fits) ∙ class))

no_typed_item : (h : Operand → Option ℕ) → ((v : ValueId) → h (operands.Value v) ≡ None) → ((n : ℕ) → h (operands.Int n) ≡ None) → h operands.Null ≡ None
    → (values : List Ty) (given : List Operand) (wanted : List Ty) → AllZip (Fits values) given wanted → list_all is_first_class wanted ≡ true
    → (k : ℕ) (o : Operand) → slice_get given k ≡ Some o → h o ≡ None
no_typed_item h value word null values [] wanted fits class k o at = absurd cc
no_typed_item h value word null values (first ∷ given) [] fits class k o at = absurd fits
no_typed_item h value word null values (first ∷ given) (ty ∷ wanted) fits class zero o at =
    let same : first ≡ o = cc in
    let parts = and_parts (is_first_class ty) (list_all is_first_class wanted) class in
    ap h (sym same) ∙ no_item h value word null values first ty fits.0 parts.0
no_typed_item h value word null values (first ∷ given) (ty ∷ wanted) fits class (suc k) o at =
    no_typed_item h value word null values given wanted fits.1 (and_parts (is_first_class ty) (list_all is_first_class wanted) class).1 k o at

-- the operands of a line without a bundle
line_items : (P : ℕ → Type 0) (h : Operand → Option ℕ) → ((v : ValueId) → h (operands.Value v) ≡ None) → ((n : ℕ) → h (operands.Int n) ≡ None) → h operands.Null ≡ None
    → (line : Instruction) (values : List Ty) (wanted : List Ty) → AllZip (Fits values) line.operands wanted → list_all is_first_class wanted ≡ true → line.bundle ≡ [] → All P (filter_map h (operands_of line))
line_items P h value word null line values wanted fits class bare = no_items P h (operands_of line) (λ k o at. elim (get_joined line.operands (map (λ (entry : Ty × Operand). entry.1) line.bundle) k o at) [
  | inl own ↦ no_typed_item h value word null values line.operands wanted fits class k o own
  | inr there ↦ absurd (let none : slice_get [] there.0 ≡ Some o = ap (λ (bundle : List (Ty × Operand)). slice_get (map (λ (entry : Ty × Operand). entry.1) bundle) there.0) (sym bare) ∙ there.2 in none-some o none)
])

functions_of : (P : ℕ → Type 0) (line : Instruction) (values : List Ty) (wanted : List Ty) → AllZip (Fits values) line.operands wanted → list_all is_first_class wanted ≡ true → line.bundle ≡ []
    → All P (functions_named (record line { operands = []; bundle = [] })) → All P (functions_named line)
functions_of P line values wanted fits class bare called =
    All-append P _ _ (all_front P _ _ called) (line_items P _ (λ v. refl) (λ n. refl) refl line values wanted fits class bare)

operand_fits : (values : List Ty) (given : List Operand) (wanted : List Ty) (k : ℕ) (ty : Ty) → AllZip (Fits values) given wanted → slice_get wanted k ≡ Some ty → Fits values (slice_index_or given k operands.Null) ty
operand_fits values [] [] k ty fits at = absurd cc
operand_fits values [] (t ∷ wanted) k ty fits at = absurd fits
operand_fits values (o ∷ given) [] k ty fits at = absurd fits
operand_fits values (o ∷ given) (t ∷ wanted) zero ty fits at = let same : t ≡ ty = cc in subst (Fits values o) same fits.0
operand_fits values (o ∷ given) (t ∷ wanted) (suc k) ty fits at = operand_fits values given wanted k ty fits.1 at

kind_small : (cell : Cell) → kind_of cell < 2 ^ 64
kind_small cells.I64 = lit< tt
kind_small cells.Ptr = lit< tt

width_64 : IsWidth 64
width_64 = (omega arith, omega arith)

width_1 : IsWidth 1
width_1 = (omega arith, omega arith)

-- ---- with polls

module _ (content : ModuleContent) (func : Function) where
  same_operand : (o : Operand) → Carries (value_types func) (value_types (placed func)) o o
  same_operand (operands.Value value) =
      (value, refl, λ ty at. ap (λ (all : List Definition). slice_get (map definition_type all) value.0) (definitions_placed func) ∙ at)
  same_operand (operands.Int word) = refl
  same_operand operands.Null = refl
  same_operand (operands.Fun called) = refl

  same_operands : (given : List Operand) → AllZip (Carries (value_types func) (value_types (placed func))) given given
  same_operands [] = tt
  same_operands (o ∷ given) = (same_operand o, same_operands given)

  same_bundle : (given : List (Ty × Operand)) → AllZip (CarriesEntry (value_types func) (value_types (placed func))) given given
  same_bundle [] = tt
  same_bundle (entry ∷ given) = ((refl, same_operand entry.1), same_bundle given)

  placed_long : (from : ℕ) (blocks : List BasicBlock) → length (placed_from from blocks) ≡ length blocks
  placed_long from [] = refl
  placed_long from (block ∷ blocks) = ap suc (placed_long (suc from) blocks)

  poll_well : IsWellFormed content (placed func) poll_call
  poll_well = record {
    line = record { result = refl; type = refl; arguments = tt; no_labels = refl; bundle = refl; leaf = λ leaf. refl };
    typed = record { operands = tt; bundle = All-nil (λ (entry : Ty × Operand). Fits (value_types (placed func)) entry.1 entry.0); rule = record { signature = refl; operands = tt } };
    local = record { values = All-nil (λ value. value < length (definitions_of (placed func))); blocks = All-nil (λ (label : BlockId). label.0 < length (placed func).blocks) };
    global = record { layouts = All-nil (λ layout. layout < length content.layouts); functions = All-nil (λ named. named < length content.funcs) };
    leaves = λ ends. absurd cc;
    unordered = refl;
    widths = All-nil IsWidth;
    few = omega arith;
  }

  placed_well : (inst : Instruction) → IsWellFormed content func inst → IsWellFormed content (placed func) inst
  placed_well inst well =
      well_carried content content func (placed func)
      (record { sees = record { answer = refl; called = λ callee. refl; fields = refl }; blocks = placed_long 0 func.blocks; layouts = refl; functions = refl }) inst inst
      (record { op = refl; ty = refl; labels = refl; named = refl; operands = same_operands inst.operands; bundle = same_bundle inst.bundle }) well

  pub all_placed_well : All (IsWellFormed content func) (instructions_of func.blocks) → All (IsWellFormed content (placed func)) (instructions_of (placed func).blocks)
  all_placed_well all =
      all_placed (IsWellFormed content (placed func)) poll_well 0 func.blocks
      (all_from_at (IsWellFormed content (placed func)) (instructions_of func.blocks) (λ place inst at.
      placed_well inst (all_at (IsWellFormed content func) (instructions_of func.blocks) place inst all at)))

-- ---- with bases

module _ (content : ModuleContent) (source : IsSourceModule content) (number : ℕ) (func : Function) (found : slice_get content.funcs number ≡ Some func) where
  abbrev before_func : Function
  before_func = placed func

  abbrev made : Function
  made = based (placed func)

  abbrev marks : List Bool
  marks = derived_marks (placed func)

  abbrev after : ModuleContent
  after = based_module content

  abbrev IsWellNow : Instruction → Type 0
  IsWellNow = IsWellFormed after made

  value_kept : (value : ℕ) (ty : Ty) → slice_get (value_types before_func) value ≡ Some ty → slice_get (value_types made) (new_number before_func marks value) ≡ Some ty
  value_kept = type_kept (renamings content) number before_func true (is_here content source number func found) (pointers content source number func found) (all_ready content source number func found)

  base_pointer : (o : Operand) → Fits (value_types before_func) o Ptr → Fits (value_types made) (base_of before_func marks o) Ptr
  base_pointer = base_fits (renamings content) number before_func true (is_here content source number func found) (pointers content source number func found) (all_ready content source number func found)

  operand_now : (o : Operand) (ty : Ty) → Fits (value_types before_func) o ty → Fits (value_types made) (renumbered before_func marks o) ty
  operand_now = now_fits (renamings content) number before_func true (is_here content source number func found) (pointers content source number func found) (all_ready content source number func found)

  called_same : (callee : Callee) → (scope_of after made).called callee ≡ (scope_of content before_func).called callee
  called_same (callees.Fun called) = ap (option_map signature_of) (found_now content called.0 (slice_get content.funcs called.0) refl) ∙ by (slice_get content.funcs called.0)
    where
      by : (here : Option Function) → option_map signature_of (option_map (λ (f : Function). based (placed f)) here) ≡ option_map signature_of here
      by None = refl
      by (Some here) = refl
  called_same callee = refl

  based_long : (next : ℕ) (blocks : List BasicBlock) → length (based_blocks before_func marks next blocks) ≡ length blocks
  based_long next [] = refl
  based_long next (block ∷ blocks) = ap suc (based_long (after_all next block.insts) blocks)

  alike : AreAlike content after before_func made
  alike = record {
    sees = record { answer = refl; called = called_same; fields = refl };
    blocks = based_long (length func.args) before_func.blocks;
    layouts = refl;
    functions = length-map content.funcs (λ f. based (placed f));
  }

  -- ---- the instruction itself

  now_carries : (o : Operand) → Carries (value_types before_func) (value_types made) o (renumbered before_func marks o)
  now_carries (operands.Value value) = (record { 0 = new_number before_func marks value.0 }, refl, λ ty at. value_kept value.0 ty at)
  now_carries (operands.Int word) = refl
  now_carries operands.Null = refl
  now_carries (operands.Fun called) = refl

  all_now : (given : List Operand) → AllZip (Carries (value_types before_func) (value_types made)) given (map (renumbered before_func marks) given)
  all_now [] = tt
  all_now (o ∷ given) = (now_carries o, all_now given)

  bundle_now : (given : List (Ty × Operand))
      → AllZip (CarriesEntry (value_types before_func) (value_types made)) given (map (λ (entry : Ty × Operand). (entry.0, renumbered before_func marks entry.1)) given)
  bundle_now [] = tt
  bundle_now (entry ∷ given) = ((refl, now_carries entry.1), bundle_now given)

  kept_well : (inst : Instruction) → IsWellFormed content before_func inst → IsWellNow (kept_line before_func marks inst)
  kept_well inst well =
      well_carried content after before_func made alike inst (kept_line before_func marks inst)
      (record { op = refl; ty = refl; labels = refl; named = refl; operands = all_now inst.operands; bundle = bundle_now inst.bundle }) well

  -- ---- a check

  check_well : (inst : Instruction) (address : Operand) → Fits (value_types before_func) address Ptr → IsWellNow (check before_func marks inst address)
  check_well inst address fits =
      let base = base_pointer address fits in
      let now = operand_now address Ptr fits in
      let zip : AllZip (Fits (value_types made)) (check before_func marks inst address).operands (Ptr ∷ Ptr ∷ types.Int 64 ∷ []) =
      (base, (now, ((64, refl, kind_small (cell_of inst.ty)), tt))) in
      let typed : IsTyped (scope_of after made) (check before_func marks inst address) = record {
        operands = zip;
        bundle = All-nil (λ (entry : Ty × Operand). Fits (value_types made) entry.1 entry.0);
        rule = record { signature = refl; operands = (cell_of inst.ty, refl) };
      } in
      record {
        line = record {
          result = refl;
          type = refl;
          arguments = (ap (λ t. t && true) (fits_value (value_types made) _ base), (ap (λ t. t && true) (fits_value (value_types made) _ now), (refl, tt)));
          no_labels = refl;
          bundle = refl;
          leaf = λ leaf. refl;
        };
        typed = typed;
        local = record { values = values_known after made (check before_func marks inst address) typed; blocks = All-nil (λ (label : BlockId). label.0 < length made.blocks) };
        global = record {
          layouts = All-nil (λ layout. layout < length after.layouts);
          functions = functions_of (λ named. named < length after.funcs) (check before_func marks inst address) (value_types made) (Ptr ∷ Ptr ∷ types.Int 64 ∷ []) zip refl refl (All-nil (λ named. named < length after.funcs));
        };
        leaves = λ ends. absurd cc;
        unordered = refl;
        widths = All-cons IsWidth 64 [] width_64 (All-nil IsWidth);
        few = omega arith;
      }

  -- ---- a compare of objects and offsets

  same_well : (name : List ℕ) (first second : Operand) → Fits (value_types before_func) first Ptr → Fits (value_types before_func) second Ptr
      → IsWellNow (same_call before_func marks (Some name) first second)
  same_well name first second first_fits second_fits =
      let one_base = base_pointer first first_fits in
      let one_now = operand_now first Ptr first_fits in
      let two_base = base_pointer second second_fits in
      let two_now = operand_now second Ptr second_fits in
      let zip : AllZip (Fits (value_types made)) (same_call before_func marks (Some name) first second).operands (Ptr ∷ Ptr ∷ Ptr ∷ Ptr ∷ []) = (one_base, (one_now, (two_base, (two_now, tt)))) in
      let typed : IsTyped (scope_of after made) (same_call before_func marks (Some name) first second) = record {
        operands = zip;
        bundle = All-nil (λ (entry : Ty × Operand). Fits (value_types made) entry.1 entry.0);
        rule = record { signature = refl; operands = tt };
      } in
      record {
        line = record {
          result = refl;
          type = refl;
          arguments = (
            ap (λ t. t && true) (fits_value (value_types made) _ one_base),
            (
              ap (λ t. t && true) (fits_value (value_types made) _ one_now),
              (ap (λ t. t && true) (fits_value (value_types made) _ two_base), (ap (λ t. t && true) (fits_value (value_types made) _ two_now), tt)),
            ),
          );
          no_labels = refl;
          bundle = refl;
          leaf = λ leaf. refl;
        };
        typed = typed;
        local = record { values = values_known after made (same_call before_func marks (Some name) first second) typed; blocks = All-nil (λ (label : BlockId). label.0 < length made.blocks) };
        global = record {
          layouts = All-nil (λ layout. layout < length after.layouts);
          functions = functions_of (λ named. named < length after.funcs) (same_call before_func marks (Some name) first second) (value_types made) (Ptr ∷ Ptr ∷ Ptr ∷ Ptr ∷ []) zip refl refl (All-nil (λ named. named < length after.funcs));
        };
        leaves = λ ends. absurd cc;
        unordered = refl;
        widths = All-cons IsWidth 1 [] width_1 (All-nil IsWidth);
        few = omega arith;
      }

  -- ---- a negation

  negation_well : (next : ℕ) (inst : Instruction) → is_some inst.result ≡ true → slice_get (value_types made) (inserted_number before_func marks next) ≡ Some (types.Int 1)
      → IsWellNow (negation before_func marks next inst)
  negation_well next inst named type =
      let one : Fits (value_types made) (operands.Int 1) (types.Int 1) = (1, refl, lit< tt) in
      let zip : AllZip (Fits (value_types made)) (negation before_func marks next inst).operands (types.Int 1 ∷ types.Int 1 ∷ []) = (type, (one, tt)) in
      let typed : IsTyped (scope_of after made) (negation before_func marks next inst) = record {
        operands = zip;
        bundle = All-nil (λ (entry : Ty × Operand). Fits (value_types made) entry.1 entry.0);
        rule = tt;
      } in
      record {
        line = record { result = named; type = refl; operand_count = refl; values = refl; label_count = refl; no_bundle = refl };
        typed = typed;
        local = record { values = values_known after made (negation before_func marks next inst) typed; blocks = All-nil (λ (label : BlockId). label.0 < length made.blocks) };
        global = record {
          layouts = All-nil (λ layout. layout < length after.layouts);
          functions = functions_of (λ named. named < length after.funcs) (negation before_func marks next inst) (value_types made) (types.Int 1 ∷ types.Int 1 ∷ []) zip refl refl (All-nil (λ named. named < length after.funcs));
        };
        leaves = λ ends. absurd cc;
        unordered = refl;
        widths = All-cons IsWidth 1 [] width_1 (All-nil IsWidth);
        few = omega arith;
      }

  -- ---- a base

  all_bases : (given : List Operand) (count : ℕ) → AllZip (Fits (value_types before_func)) given (replicate count Ptr) → AllZip (Fits (value_types made)) (map (base_of before_func marks) given) (replicate count Ptr)
  all_bases [] zero fits = tt
  all_bases [] (suc count) fits = absurd fits
  all_bases (o ∷ given) zero fits = absurd fits
  all_bases (o ∷ given) (suc count) fits = (base_pointer o fits.0, all_bases given count fits.1)

  all_pointer_values : (given : List Operand) (count : ℕ) → AllZip (Fits (value_types made)) given (replicate count Ptr) → list_all is_value given ≡ true
  all_pointer_values [] count fits = refl
  all_pointer_values (o ∷ given) zero fits = absurd fits
  all_pointer_values (o ∷ given) (suc count) fits = ap (λ t. t && list_all is_value given) (fits_value (value_types made) o fits.0) ∙ all_pointer_values given count fits.1

  pointers_class : (count : ℕ) → list_all is_first_class (replicate count Ptr) ≡ true
  pointers_class zero = refl
  pointers_class (suc count) = pointers_class count

  -- the line for a phi or select over bases, by its operator
  abbrev base_as : Instruction → List ℕ → Op → Instruction
  base_as inst name op = record { result = Some name; op = op; ty = Ptr; operands = merged_bases (insertion before_func marks) op inst.operands; labels = inst.labels; bundle = [] }

  phi_base_well : (inst : Instruction) (name : List ℕ) → LineOf ops.Phi inst → AllZip (Fits (value_types before_func)) inst.operands (replicate (length inst.operands) Ptr)
      → All (λ (label : BlockId). label.0 < length before_func.blocks) inst.labels → IsWellNow (base_as inst name ops.Phi)
  phi_base_well inst name line fits labels =
      let count = length-map inst.operands (base_of before_func marks) in
      let zip : AllZip (Fits (value_types made)) (map (base_of before_func marks) inst.operands) (replicate (length inst.operands) Ptr) = all_bases inst.operands (length inst.operands) fits in
      let long = (line.0).label_count in
      let some = line.1 in
      let zip_now = subst (λ n. AllZip (Fits (value_types made)) (map (base_of before_func marks) inst.operands) (replicate n Ptr)) (sym count) zip in
      let typed : IsTyped (scope_of after made) (base_as inst name ops.Phi) = record {
        operands = zip_now;
        bundle = All-nil (λ (entry : Ty × Operand). Fits (value_types made) entry.1 entry.0);
        rule = tt;
      } in
      record {
        line = (record { result = refl; type = refl; operand_count = refl; values = all_pointer_values (map (base_of before_func marks) inst.operands) (length inst.operands) zip; label_count = long ∙ sym count; no_bundle = refl }, omega (arith, count, some));
        typed = typed;
        local = record {
          values = values_known after made (base_as inst name ops.Phi) typed;
          blocks = subst (λ n. All (λ (label : BlockId). label.0 < n) inst.labels) (sym (based_long (length func.args) before_func.blocks)) labels;
        };
        global = record {
          layouts = All-nil (λ layout. layout < length after.layouts);
          functions = functions_of (λ named. named < length after.funcs) (base_as inst name ops.Phi) (value_types made) (replicate (length (map (base_of before_func marks) inst.operands)) Ptr) zip_now
              (pointers_class (length (map (base_of before_func marks) inst.operands))) refl (All-nil (λ named. named < length after.funcs));
        };
        leaves = λ ends. absurd cc;
        unordered = refl;
        widths = All-nil IsWidth;
        few = omega arith;
      }

  select_base_well : (inst : Instruction) (name : List ℕ) → LineOf ops.Select inst → AllZip (Fits (value_types before_func)) inst.operands (types.Int 1 ∷ Ptr ∷ Ptr ∷ [])
      → IsWellNow (base_as inst name ops.Select)
  select_base_well inst name line fits =
      let zip = select_fits inst.operands fits in
      let typed : IsTyped (scope_of after made) (base_as inst name ops.Select) = record {
        operands = zip;
        bundle = All-nil (λ (entry : Ty × Operand). Fits (value_types made) entry.1 entry.0);
        rule = tt;
      } in
      let no_labels = no_label inst.labels line.label_count in
      record {
        line = record { result = refl; type = refl; operand_count = select_count inst.operands fits; values = select_values inst.operands fits; label_count = line.label_count; no_bundle = refl };
        typed = typed;
        local = record {
          values = values_known after made (base_as inst name ops.Select) typed;
          blocks = subst (All (λ (label : BlockId). label.0 < length made.blocks)) (sym no_labels) (All-nil (λ (label : BlockId). label.0 < length made.blocks));
        };
        global = record {
          layouts = All-nil (λ layout. layout < length after.layouts);
          functions = functions_of (λ named. named < length after.funcs) (base_as inst name ops.Select) (value_types made) (types.Int 1 ∷ Ptr ∷ Ptr ∷ []) zip refl refl (All-nil (λ named. named < length after.funcs));
        };
        leaves = λ ends. absurd cc;
        unordered = refl;
        widths = All-nil IsWidth;
        few = omega arith;
      }
    where
      no_label : (labels : List BlockId) → length labels ≡ 0 → labels ≡ []
      no_label [] none = refl
      no_label (l ∷ labels) none = absurd (omega arith)

      select_fits : (given : List Operand) → AllZip (Fits (value_types before_func)) given (types.Int 1 ∷ Ptr ∷ Ptr ∷ [])
          → AllZip (Fits (value_types made)) (merged_bases (insertion before_func marks) ops.Select given) (types.Int 1 ∷ Ptr ∷ Ptr ∷ [])
      select_fits [] fits = absurd fits
      select_fits (condition ∷ given) fits = (operand_now condition (types.Int 1) fits.0, all_bases given 2 fits.1)

      select_count : (given : List Operand) → AllZip (Fits (value_types before_func)) given (types.Int 1 ∷ Ptr ∷ Ptr ∷ []) → length (merged_bases (insertion before_func marks) ops.Select given) ≡ 3
      select_count [] fits = absurd fits
      select_count (condition ∷ one ∷ two ∷ []) fits = refl
      select_count (condition ∷ []) fits = absurd fits.1
      select_count (condition ∷ one ∷ []) fits = absurd (fits.1).1
      select_count (condition ∷ one ∷ two ∷ three ∷ given) fits = absurd ((fits.1).1).1

      integer_value : (o : Operand) → Fits (value_types made) o (types.Int 1) → is_value o ≡ true
      integer_value (operands.Value value) fits = refl
      integer_value (operands.Int word) fits = refl
      integer_value operands.Null fits = refl
      integer_value (operands.Fun called) fits = absurd cc

      select_values : (given : List Operand) → AllZip (Fits (value_types before_func)) given (types.Int 1 ∷ Ptr ∷ Ptr ∷ []) → list_all is_value (merged_bases (insertion before_func marks) ops.Select given) ≡ true
      select_values [] fits = absurd fits
      select_values (condition ∷ given) fits =
          ap (λ t. t && list_all is_value (map (base_of before_func marks) given)) (integer_value (renumbered before_func marks condition) (operand_now condition (types.Int 1) fits.0))
          ∙ all_pointer_values (map (base_of before_func marks) given) 2 (all_bases given 2 fits.1)

  -- ---- the lines for an instruction

  abbrev base_full : ℕ → Instruction → Op → Ty → Instruction
  base_full next inst op ty = record { result = (base_line before_func marks next inst).result; op = op; ty = ty; operands = merged_bases (insertion before_func marks) op inst.operands; labels = inst.labels; bundle = [] }

  module _ (place : ℕ) (inst : Instruction) (at : slice_get (instructions_of before_func.blocks) place ≡ Some inst) (well : IsWellFormed content before_func inst) where
    abbrev next : ℕ
    next = value_at before_func place

    typed_line : IsTypedLine before_func inst
    typed_line = (all_at (IsReady (renamings content) before_func) (instructions_of before_func.blocks) place inst (all_ready content source number func found) at).typed

    kept : IsWellNow (kept_line before_func marks inst)
    kept = kept_well inst well

    one_line : (line : Instruction) → IsWellNow line → All IsWellNow (line ∷ [])
    one_line line holds = All-cons IsWellNow line [] holds (All-nil IsWellNow)

    line_as : (op : Op) → inst.op ≡ op → LineOf op inst
    line_as op is = subst (λ (o : Op). LineOf o inst) is well.line

    asked_as : (op : Op) → inst.op ≡ op → AllZip (Fits (value_types before_func)) inst.operands (asked op inst.ty (length inst.operands))
    asked_as op is = subst (λ (o : Op). AllZip (Fits (value_types before_func)) inst.operands (asked o inst.ty (length inst.operands))) is typed_line.fits

    is_used : is_merged marks inst ≡ true → uses_marked marks inst ≡ true
    is_used merges = (and_parts (is_merge inst.op) (uses_marked marks inst) merges).1

    phi_base : inst.op ≡ ops.Phi → is_merged marks inst ≡ true → IsWellNow (base_line before_func marks next inst)
    phi_base is merges =
        let ty = phi_of_pointers before_func marks (pointers content source number func found) inst typed_line (is_used merges) is in
        subst (λ (op : Op). IsWellNow (base_full next inst op inst.ty)) (sym is)
        (subst (λ (t : Ty). IsWellNow (base_full next inst ops.Phi t)) (sym ty)
        (phi_base_well inst _ (line_as ops.Phi is) (subst (λ (t : Ty). AllZip (Fits (value_types before_func)) inst.operands (replicate (length inst.operands) t)) ty (asked_as ops.Phi is))
        (well.local).blocks))

    select_base : inst.op ≡ ops.Select → is_merged marks inst ≡ true → IsWellNow (base_line before_func marks next inst)
    select_base is merges =
        let ty = select_of_pointers before_func marks (pointers content source number func found) inst typed_line (is_used merges) is in
        subst (λ (op : Op). IsWellNow (base_full next inst op inst.ty)) (sym is)
        (subst (λ (t : Ty). IsWellNow (base_full next inst ops.Select t)) (sym ty)
        (select_base_well inst _ (line_as ops.Select is) (subst (λ (t : Ty). AllZip (Fits (value_types before_func)) inst.operands (types.Int 1 ∷ t ∷ t ∷ [])) ty (asked_as ops.Select is))))

    merged_well : (is_merged marks inst ≡ true → IsWellNow (base_line before_func marks next inst)) → All IsWellNow (merged before_func marks next inst)
    merged_well base = by (is_merged marks inst) refl
      where
        by : (b : Bool) → is_merged marks inst ≡ b → All IsWellNow ((if b then base_line before_func marks next inst ∷ [] else []) ++ kept_line before_func marks inst ∷ [])
        by true merges = All-cons IsWellNow (base_line before_func marks next inst) (kept_line before_func marks inst ∷ []) (base merges) (one_line (kept_line before_func marks inst) kept)
        by false other = one_line (kept_line before_func marks inst) kept

    -- the operands of a compare with a derived one are two pointers
    compared_fits : (pred : Pred) → inst.op ≡ ops.Icmp pred → uses_marked marks inst ≡ true → (k : ℕ) → slice_get (Ptr ∷ Ptr ∷ []) k ≡ Some Ptr → Fits (value_types before_func) (operand_at inst k) Ptr
    compared_fits pred is marked k asked_at =
        let ty = compares_pointers before_func marks (pointers content source number func found) inst typed_line marked pred is in
        let two = (line_as (ops.Icmp pred) is).operand_count in
        operand_fits (value_types before_func) inst.operands (Ptr ∷ Ptr ∷ []) k Ptr
        (subst (λ n. AllZip (Fits (value_types before_func)) inst.operands (replicate n Ptr)) two
        (subst (λ (t : Ty). AllZip (Fits (value_types before_func)) inst.operands (replicate (length inst.operands) t)) ty (asked_as (ops.Icmp pred) is))) asked_at

    same_result : (result : Option (List ℕ)) → is_some result ≡ true → Fits (value_types before_func) (operand_at inst 0) Ptr → Fits (value_types before_func) (operand_at inst 1) Ptr
        → IsWellNow (same_call before_func marks result (operand_at inst 0) (operand_at inst 1))
    same_result None named first second = absurd cc
    same_result (Some name) named first second = same_well name (operand_at inst 0) (operand_at inst 1) first second

    compared_well : (pred : Pred) → inst.op ≡ ops.Icmp pred → uses_marked marks inst ≡ true → All IsWellNow (compared before_func marks next inst pred)
    compared_well preds.Eq is marked =
        one_line (same_call before_func marks inst.result (operand_at inst 0) (operand_at inst 1))
        (same_result inst.result (line_as (ops.Icmp preds.Eq) is).result (compared_fits preds.Eq is marked 0 refl) (compared_fits preds.Eq is marked 1 refl))
    compared_well preds.Ne is marked =
        All-cons IsWellNow (same_call before_func marks _ (operand_at inst 0) (operand_at inst 1)) (negation before_func marks next inst ∷ [])
        (same_result _ refl (compared_fits preds.Ne is marked 0 refl) (compared_fits preds.Ne is marked 1 refl))
        (one_line (negation before_func marks next inst) (negation_well next inst (line_as (ops.Icmp preds.Ne) is).result inserted_type))
      where
        whole : group_of before_func next inst ≡ compared before_func marks next inst preds.Ne
        whole = ap (lines_for before_func marks next inst) is ∙ ap (λ (b : Bool). if b then compared before_func marks next inst preds.Ne else kept_line before_func marks inst ∷ []) marked

        inserted_type : slice_get (value_types made) (inserted_number before_func marks next) ≡ Some (types.Int 1)
        inserted_type =
            let zero_is : inserted_number before_func marks next + 0 ≡ inserted_number before_func marks next = omega arith in
            ap (slice_get (value_types made)) (sym zero_is)
            ∙ line_type (renamings content) number before_func true (is_here content source number func found) (pointers content source number func found) (all_ready content source number func found)
            place inst at [] (negation before_func marks next inst ∷ []) (same_call before_func marks _ (operand_at inst 0) (operand_at inst 1)) whole refl
    compared_well pred is marked = one_line (kept_line before_func marks inst) kept

    lines_as : (op : Op) → inst.op ≡ op → All IsWellNow (lines_for before_func marks next inst op)
    lines_as ops.Phi is = merged_well (phi_base is)
    lines_as ops.Select is = merged_well (select_base is)
    lines_as (ops.Icmp pred) is = by (uses_marked marks inst) refl
      where
        by : (b : Bool) → uses_marked marks inst ≡ b → All IsWellNow (if b then compared before_func marks next inst pred else kept_line before_func marks inst ∷ [])
        by true marked = compared_well pred is marked
        by false unmarked = one_line (kept_line before_func marks inst) kept
    lines_as ops.Load is =
        All-cons IsWellNow (check before_func marks inst (operand_at inst 0)) (kept_line before_func marks inst ∷ [])
        (check_well inst (operand_at inst 0) (operand_fits (value_types before_func) inst.operands (Ptr ∷ []) 0 Ptr (asked_as ops.Load is) refl)) (one_line (kept_line before_func marks inst) kept)
    lines_as ops.Store is =
        All-cons IsWellNow (check before_func marks inst (operand_at inst 1)) (kept_line before_func marks inst ∷ [])
        (check_well inst (operand_at inst 1) (operand_fits (value_types before_func) inst.operands (inst.ty ∷ Ptr ∷ []) 1 Ptr (asked_as ops.Store is) refl)) (one_line (kept_line before_func marks inst) kept)
    lines_as op is = one_line (kept_line before_func marks inst) kept

  pub all_based_well : All (IsWellFormed content func) (instructions_of func.blocks) → All IsWellNow (instructions_of made.blocks)
  all_based_well all =
      let here = all_placed_well content func all in
      all_from_at IsWellNow (instructions_of made.blocks) (λ place line at.
      let from = located before_func place line at in
      all_at IsWellNow (group_of before_func (value_at before_func from.from) from.inst) from.index line
      (lines_as from.from from.inst from.stands (all_at (IsWellFormed content before_func) (instructions_of before_func.blocks) from.from from.inst here from.stands) from.inst.op refl) from.in_group)
