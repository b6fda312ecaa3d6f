-- A line over carried operands is well formed in the other function.
use Rattle.std.proofs.Common.{◌≡◌, ℕ, ◌<◌, List, [], ◌∷◌, ◌++◌, length, map, refl, sym, ap, subst, ◌∙◌, arith}
use Rattle.std.specs.Prelude.{Option}
use Rattle.std.specs.List.{All, AllZip, cons_option, filter_map, flat_map}
use Rattle.std.proofs.lemmas.List.Elements.{All-append}
use Rattle.std.proofs.lemmas.Slice.Zip.{AllZip-long}
use Rattle.list_laws.proofs.Contents.{all_back, all_front}
use Rattle.sp_ids.specs.declared.ids.BlockId.{BlockId}
use Rattle.ir_ast.specs.declared.types.Ty.{Ty}
use Rattle.ir_ast.specs.declared.ops.Op.{Op}
use Rattle.ir_ast.specs.declared.ops.Operand.{Operand}
use Rattle.ir_ast.specs.declared.ops.Operand.TheVariants as operands
use Rattle.ir_ast.specs.Insts.{Instruction}
use Rattle.ir_ast.specs.Funcs.{Function}
use Rattle.ir_ast.specs.Modules.{ModuleContent}
use Rattle.ir_ast.specs.Ops.{is_terminator}
use Rattle.ir_ast.specs.Operands.{functions_named, layouts_named, operands_of}
use Rattle.ir_ast.specs.Scope.{scope_of}
use Rattle.ir_ast.specs.Widths.{IsWidth, line_widths, operator_widths, type_widths}
use Rattle.ir_ast.specs.Faults.PointerOrder.{orders_pointers}
use Rattle.ir_ast.specs.Faults.UnknownName.{NamesOfModule}
use Rattle.rewritten_sound.specs.WellFormed.{Carries, CarriesEntry, IsWellFormed, LineCarries, SeesAlike}
use Rattle.rewritten_sound.proofs.shape.CarryLaws.{line_carried, typed_carried}
use Rattle.ir_cfg.proofs.UsedLaws.{values_known}

-- ---- what a carried line names

module _ (before now : List Ty) where
  carried_append : (xs ys zs ws : List Operand) → AllZip (Carries before now) xs ys → AllZip (Carries before now) zs ws → AllZip (Carries before now) (xs ++ zs) (ys ++ ws)
  carried_append [] [] zs ws first second = second
  carried_append [] (y ∷ ys) zs ws first second = absurd first
  carried_append (x ∷ xs) [] zs ws first second = absurd first
  carried_append (x ∷ xs) (y ∷ ys) zs ws first second = (first.0, carried_append xs ys zs ws first.1 second)

  carried_entries : (xs ys : List (Ty × Operand)) → AllZip (CarriesEntry before now) xs ys
      → AllZip (Carries before now) (map (λ (entry : Ty × Operand). entry.1) xs) (map (λ (entry : Ty × Operand). entry.1) ys)
  carried_entries [] [] carries = tt
  carried_entries [] (y ∷ ys) carries = absurd carries
  carried_entries (x ∷ xs) [] carries = absurd carries
  carried_entries (x ∷ xs) (y ∷ ys) carries = ((carries.0).1, carried_entries xs ys carries.1)

  pub carried_all : (inst other : Instruction) → LineCarries before now inst other → AllZip (Carries before now) (operands_of inst) (operands_of other)
  carried_all inst other carries =
      carried_append inst.operands other.operands (map (λ (entry : Ty × Operand). entry.1) inst.bundle) (map (λ (entry : Ty × Operand). entry.1) other.bundle) carries.operands
      (carried_entries inst.bundle other.bundle carries.bundle)

  -- what is read of an operand but its value
  same_item : (h : Operand → Option ℕ) → ((one two : ℕ) → h (operands.Value (record { 0 = one })) ≡ h (operands.Value (record { 0 = two }))) → (o other : Operand) → Carries before now o other → h other ≡ h o
  same_item h same (operands.Value value) other carries = ap h carries.1 ∙ same (carries.0).0 value.0
  same_item h same (operands.Int word) other carries = ap h carries
  same_item h same operands.Null other carries = ap h carries
  same_item h same (operands.Fun called) other carries = ap h carries

  same_items : (h : Operand → Option ℕ) → ((one two : ℕ) → h (operands.Value (record { 0 = one })) ≡ h (operands.Value (record { 0 = two }))) → (xs ys : List Operand)
      → AllZip (Carries before now) xs ys → filter_map h ys ≡ filter_map h xs
  same_items h same [] [] carries = refl
  same_items h same [] (y ∷ ys) carries = absurd carries
  same_items h same (x ∷ xs) [] carries = absurd carries
  same_items h same (x ∷ xs) (y ∷ ys) carries =
      ap (λ (item : Option ℕ). cons_option item (filter_map h ys)) (same_item h same x y carries.0) ∙ ap (cons_option (h x)) (same_items h same xs ys carries.1)

  items_hold : (P : ℕ → Type 0) (h : Operand → Option ℕ) → ((one two : ℕ) → h (operands.Value (record { 0 = one })) ≡ h (operands.Value (record { 0 = two }))) → (xs ys : List Operand)
      → AllZip (Carries before now) xs ys → All P (filter_map h xs) → All P (filter_map h ys)
  items_hold P h same xs ys carries all = subst (All P) (sym (same_items h same xs ys carries)) all

  types_same : (xs ys : List (Ty × Operand)) → AllZip (CarriesEntry before now) xs ys
      → flat_map (λ (entry : Ty × Operand). type_widths entry.0) ys ≡ flat_map (λ (entry : Ty × Operand). type_widths entry.0) xs
  types_same [] [] carries = refl
  types_same [] (y ∷ ys) carries = absurd carries
  types_same (x ∷ xs) [] carries = absurd carries
  types_same (x ∷ xs) (y ∷ ys) carries =
      ap (λ (ty : Ty). type_widths ty ++ flat_map (λ (entry : Ty × Operand). type_widths entry.0) ys) (carries.0).0 ∙ ap (λ ws. type_widths x.0 ++ ws) (types_same xs ys carries.1)

-- two functions of modules whose lines see the same but for the values
pub record AreAlike (content other : ModuleContent) (func now : Function) : Type 0 where
  pub sees : SeesAlike (scope_of content func) (scope_of other now)
  pub blocks : length now.blocks ≡ length func.blocks
  pub layouts : length other.layouts ≡ length content.layouts
  pub functions : length other.funcs ≡ length content.funcs

module _ (content other : ModuleContent) (func now : Function) (alike : AreAlike content other func now) (inst after : Instruction)
    (carries : LineCarries (scope_of content func).values (scope_of other now).values inst after) where
  abbrev with_op : Op → Instruction
  with_op op = record inst { op = op }

  global_carried : NamesOfModule content inst → NamesOfModule other after
  global_carried known =
      let P : ℕ → Type 0 = λ named. named < length content.funcs in
      let called = all_front P _ _ known.functions in
      let operand = all_back P _ _ known.functions in
      let all : All P (functions_named (record after { op = inst.op })) =
      All-append P _ _ called (items_hold (scope_of content func).values (scope_of other now).values P _ (λ one two. refl) (operands_of inst) (operands_of after)
      (carried_all (scope_of content func).values (scope_of other now).values inst after carries) operand) in
      let here : All P (functions_named after) = subst (λ (op : Op). All P (functions_named (record after { op = op }))) (sym carries.op) all in
      record {
        layouts = subst (λ n. All (λ layout. layout < n) (layouts_named after)) (sym alike.layouts)
            (subst (λ (op : Op). All (λ layout. layout < length content.layouts) (layouts_named (with_op op))) (sym carries.op) known.layouts);
        functions = subst (λ n. All (λ named. named < n) (functions_named after)) (sym alike.functions) here;
      }

  pub well_carried : IsWellFormed content func inst → IsWellFormed other now after
  well_carried well =
      let typed = typed_carried (scope_of content func) (scope_of other now) alike.sees inst after carries well.line well.typed in
      record {
        line = line_carried (scope_of content func).values (scope_of other now).values inst after carries well.line;
        typed = typed;
        local = record {
          values = values_known other now after typed;
          blocks = subst (λ n. All (λ (label : BlockId). label.0 < n) after.labels) (sym alike.blocks)
              (subst (λ (labels : List BlockId). All (λ (label : BlockId). label.0 < length func.blocks) labels) (sym carries.labels) (well.local).blocks);
        };
        global = global_carried well.global;
        leaves = λ ends.
            subst (λ (labels : List BlockId). All (λ (label : BlockId). label.0 ≡ 0 → ⊥) labels) (sym carries.labels) (well.leaves (ap is_terminator (sym carries.op) ∙ ends));
        unordered = ap (λ (op : Op). orders_pointers op after.ty) carries.op ∙ (ap (orders_pointers inst.op) carries.ty ∙ well.unordered);
        widths = subst (All IsWidth) (sym (widths_same)) well.widths;
        few = let same = AllZip-long (CarriesEntry (scope_of content func).values (scope_of other now).values) inst.bundle after.bundle carries.bundle in let few = well.few in omega (arith, same, few);
      }
    where
      widths_same : line_widths after ≡ line_widths inst
      widths_same =
          ap (λ (op : Op). line_widths (record after { op = op })) carries.op
          ∙ (ap (λ (ty : Ty). line_widths (record after { op = inst.op; ty = ty })) carries.ty
          ∙ ap (λ ws. operator_widths inst.op ++ type_widths inst.ty ++ ws) (types_same (scope_of content func).values (scope_of other now).values inst.bundle after.bundle carries.bundle))
