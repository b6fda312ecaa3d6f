-- Tables in which only what reads the same stands for a value, and tables of values that nothing needs, are as is asked.
use Rattle.std.proofs.Common.{◌≡◌, ℕ, zero, suc, ◌+◌, ◌<◌, ◌||◌, if◌then◌else◌, List, [], ◌∷◌, ◌++◌, length, replicate, refl, sym, ap, subst, ◌∙◌, inl, inr, arith}
use Rattle.std.specs.Prelude.{Option, Some, None, slice_get}
use Rattle.std.specs.List.{AllZip, Contains, flat_map}
use Rattle.std.proofs.Math.Nat.{mod-eq_of_lt}
use Rattle.std.proofs.lemmas.Bool.{cases_Bool, eq-eqb, false≢true}
use Rattle.std.proofs.lemmas.List.{length-map}
use Rattle.std.proofs.lemmas.List.Elements.{All-contains}
use Rattle.std.proofs.lemmas.Option.{slice_get_within}
use Rattle.list_laws.proofs.Contents.{all_at, all_back, contains_get, joined_contains}
use Rattle.list_laws.proofs.Places.{get_front, get_past, get_some}
use Rattle.sp_ids.specs.Numbers.{wrapped}
use Rattle.ir_ast.specs.declared.types.Ty.{Ty}
use Rattle.ir_ast.specs.declared.types.Ty.TheVariants as types
use Rattle.ir_ast.specs.declared.ops.Op.{Op}
use Rattle.ir_ast.specs.declared.ops.Op.TheVariants as ops
use Rattle.ir_ast.specs.declared.ops.Operand.{Operand}
use Rattle.ir_ast.specs.declared.ops.Operand.TheVariants.{Fun, Int, Null, Value}
use Rattle.ir_ast.specs.Insts.{Instruction}
use Rattle.ir_ast.specs.Funcs.{Function, instructions_of}
use Rattle.ir_ast.specs.Layouts.{ObjectLayout}
use Rattle.ir_ast.specs.Modules.{ModuleContent}
use Rattle.ir_ast.specs.Objects.{number}
use Rattle.ir_ast.specs.Operands.{named, same_operand, value_in}
use Rattle.ir_ast.specs.Ops.{is_member, is_phi}
use Rattle.ir_ast.specs.Scope.{scope_of}
use Rattle.ir_ast.specs.Values.{definition_type, definitions_of, value_types}
use Rattle.ir_ast.specs.Widths.{IsWidth, line_widths, operator_widths, type_widths}
use Rattle.ir_ast.specs.Faults.GroupShape.{number_at}
use Rattle.ir_ast.specs.Faults.TypeClash.{Fits, IsTyped, asked}
use Rattle.object_meaning.specs.Computing.{value_of_line}
use Rattle.object_meaning.specs.Numbers.{width_of}
use Rattle.object_meaning.specs.Registers.{is_set, operand, value}
use Rattle.known_values.specs.Onward.{computes}
use Rattle.base_definite.proofs.base_paths.GivesLaws.{gives_at}
use Rattle.folded_forms.specs.Folded.{Table, stands_for, stays}
use Rattle.folded_forms.specs.Foldings.{Folds, IsFolding, IsThinning, by_choice, by_entries, by_operator}
use Rattle.folded_forms.proofs.FoldingLaws.{literal_given}
use Rattle.folded_forms.proofs.TableLaws.{stays_is}
use Rattle.trimmed_laws.specs.Trims.{IsNumbered, MayGo, computing, taken_before}
use Rattle.folded_source.proofs.LiteralLaws.{width_same}
use Rattle.folded_runs.proofs.CutLaws.{trim_found}
use Rattle.folded_runs.proofs.FoldCuts.{IsCutBy, SourceFunction}
use Rattle.folded_runs.proofs.PureLaws.{DivisorFits, FitsWidth, pure_goes}

-- ---- foldings

module _ (layouts : List ObjectLayout) (func : Function) (table : Table) (folding : IsFolding func table) where
  abbrev standing : Operand → Operand
  standing each = stands_for table each

  settled : (own : ℕ) → own < length (definitions_of func) → (to : Operand) → standing (named own) ≡ to → IsNumbered (trim_found (Some func) table standing) to
  settled own known (Int literal) is = tt
  settled own known Null is = tt
  settled own known (Fun called) is = tt
  settled own known (Value id) is =
      let long = length-map (definitions_of func) definition_type in
      let ty = get_some (value_types func) own (omega arith) in
      let at : slice_get (value_types func) id.0 ≡ Some ty.0 = subst (λ (to : Operand). Fits (value_types func) to ty.0) is (folding.typed own ty.0 ty.1) in
      let within = slice_get_within (value_types func) id.0 ty.0 at in
      let closed : standing (Value id) ≡ Value id = ap standing (sym is) ∙ (folding.closed own ∙ is) in
      (omega arith, ap (same_operand (Value id)) closed ∙ eq-eqb id.0 id.0 refl)

  folds_go : (own : ℕ) (inst : Instruction) (to : Operand) → Folds table own inst to → MayGo layouts standing inst
  folds_go own inst _ (by_operator literal kind literals is) =
      computing kind (λ registers same. (
        number literal,
        literal_given layouts table inst literal registers
            (λ index each at. sym (all_at (λ (o : Operand). value registers (standing o) ≡ value registers o) inst.operands index each same at)) literals is,
      ))
  folds_go own inst _ (by_choice asked first second condition op operands is) =
      computing (ap computes op) (λ registers same. (
        (if is_set (operand registers inst.operands 0) then operand registers inst.operands 1 else operand registers inst.operands 2),
        ap (λ (o : Op). value_of_line layouts registers o inst.ty inst.operands) op,
      ))
  folds_go own inst to (by_entries _ op entries) = taken_before (ap (λ (o : Op). is_phi o || is_member o) op)

  plainly : (each : Operand) → value_in each ≡ None → standing each ≡ each
  plainly (Value id) plain = absurd cc
  plainly (Int literal) plain = refl
  plainly Null plain = refl
  plainly (Fun called) plain = refl

  pub folding_cut : IsCutBy layouts func table standing
  folding_cut = record {
    arguments = folding.arguments;
    plain = plainly;
    staying = λ place inst at stays_here own used known. (settled own known (standing (named own)) refl, refl);
    going = λ place inst at named_here gone.
        folds_go (number_at func place) inst (standing (named (number_at func place))) (folding.each (number_at func place) inst (gives_at func place inst at named_here) gone);
  }

-- ---- thinnings

zip_replicated : {A B : Type 0} (P : A → B → Type 0) (xs : List A) (y : B) (place : ℕ) (x : A) → AllZip P xs (replicate (length xs) y) → slice_get xs place ≡ Some x → P x y
zip_replicated P [] y place x all at = absurd cc
zip_replicated P (first ∷ xs) y zero x all at = let same : first ≡ x = cc in subst (λ z. P z y) same all.0
zip_replicated P (first ∷ xs) y (suc place) x all at = zip_replicated P xs y place x all.1 at

module _ (content : ModuleContent) (func : Function) (is : SourceFunction content func) where
  widths_at : (place : ℕ) (inst : Instruction) → slice_get (instructions_of func.blocks) place ≡ Some inst → (width : ℕ) → inst.ty ≡ types.Int width → IsWidth width
  widths_at place inst at width ty =
      let lines = all_back IsWidth (type_widths func.answer ++ flat_map (λ arg. type_widths arg.ty) func.args) (flat_map line_widths (instructions_of func.blocks)) (is.typed).widths in
      All-contains IsWidth (flat_map line_widths (instructions_of func.blocks)) width lines
      (joined_contains line_widths (instructions_of func.blocks) inst width (contains_get (instructions_of func.blocks) place inst at) inside)
    where
      inside : Contains (line_widths inst) width
      inside =
          contains_get (line_widths inst) (length (operator_widths inst.op) + 0) width
          (get_front (operator_widths inst.op ++ type_widths inst.ty) (flat_map (λ entry. type_widths entry.0) inst.bundle) (length (operator_widths inst.op) + 0) width
          (get_past (operator_widths inst.op) (type_widths inst.ty) 0 ∙ ap (λ (t : Ty). slice_get (type_widths t) 0) ty))

  literal_fits : (place : ℕ) (inst : Instruction) → slice_get (instructions_of func.blocks) place ≡ Some inst → (second : Option Operand) → slice_get inst.operands 1 ≡ second
      → AllZip (Fits (value_types func)) inst.operands (replicate (length inst.operands) inst.ty) → FitsWidth (width_of inst.ty) second
  literal_fits place inst at (Some (Int literal)) there fits =
      let one = zip_replicated (Fits (value_types func)) inst.operands inst.ty 1 (Int literal) fits there in
      let width = width_same one.0 (widths_at place inst at one.0 one.1) in
      ap (λ (w : ℕ). wrapped w literal) (ap width_of one.1 ∙ width) ∙ mod-eq_of_lt one.2
  literal_fits place inst at (Some (Value id)) there fits = tt
  literal_fits place inst at (Some Null) there fits = tt
  literal_fits place inst at (Some (Fun called)) there fits = tt
  literal_fits place inst at None there fits = tt

  divisor_fits : (place : ℕ) (inst : Instruction) → slice_get (instructions_of func.blocks) place ≡ Some inst → (op : Op) → inst.op ≡ op
      → AllZip (Fits (value_types func)) inst.operands (asked op inst.ty (length inst.operands)) → DivisorFits (width_of inst.ty) (slice_get inst.operands 1) op
  divisor_fits place inst at ops.Sdiv op fits = literal_fits place inst at (slice_get inst.operands 1) refl fits
  divisor_fits place inst at ops.Srem op fits = literal_fits place inst at (slice_get inst.operands 1) refl fits
  divisor_fits place inst at op is_op fits = tt

  pub thinning_cut : (table : Table) → IsThinning func table → IsCutBy content.layouts func table (λ operand. operand)
  thinning_cut table thinning = record {
    arguments = thinning.arguments;
    plain = λ each plain. refl;
    staying = λ place inst at stays_here own used known. elim (cases_Bool (stays table own)) [
      | inl stays_own ↦ ((known, stays_own), stays_is table own stays_own)
      | inr gone ↦
          let user = thinning.unused own gone place inst at used in
          absurd (false≢true (sym user.1 ∙ stays_here user.0))
    ];
    going = λ place inst at named_here gone.
        pure_goes content.layouts (λ operand. operand) inst
        (divisor_fits place inst at inst.op refl (all_at (IsTyped (scope_of content func)) (instructions_of func.blocks) place inst (is.lines).lines at).operands)
        (thinning.pure (number_at func place) inst (gives_at func place inst at named_here) gone);
  }
