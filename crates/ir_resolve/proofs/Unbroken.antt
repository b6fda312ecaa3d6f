-- A resolved text whose module breaks no rule: each instruction keeps those that don't ask of calls and names.
use Rattle.std.proofs.Common.{◌≡◌, ◌∙◌, ℕ, suc, true, false, List, [], ◌∷◌, drop, refl, ap, sym, subst, arith}
use Rattle.std.specs.Prelude.{Some, find, codes, slice_get}
use Rattle.std.specs.List.{All}
use Rattle.std.specs.Str.{bytes_eq}
use Rattle.list_laws.proofs.Contents.{all_from_at}
use Rattle.list_laws.proofs.Places.{get_some}
use Rattle.sp_ids.specs.declared.ids.BlockId.{BlockId}
use Rattle.ir_ast.specs.declared.modules.Form.{Form}
use Rattle.ir_ast.specs.declared.modules.Form.TheVariants.{Source, Rewritten}
use Rattle.ir_ast.specs.declared.ops.Op.TheVariants.{Switch}
use Rattle.ir_ast.specs.declared.ops.Operand.{Operand}
use Rattle.ir_ast.specs.Insts.{Instruction}
use Rattle.ir_ast.specs.Funcs.{Function, instructions_of}
use Rattle.ir_ast.specs.Lists.{Distinct}
use Rattle.ir_ast.specs.Scope.{scope_of}
use Rattle.ir_ast.specs.Faults.EntryHasPred.{LeavesEntry, EntryHasNoPred}
use Rattle.ir_ast.specs.Faults.PhiEdges.{PhisAreRight}
use Rattle.ir_ast.specs.Faults.DerivedEscapes.{KeepsDerived, DerivedStay}
use Rattle.ir_ast.specs.Faults.PointerOrder.{orders_pointers, PointersAreUnordered}
use Rattle.ir_ast.specs.Faults.GroupShape.{GroupsInShape}
use Rattle.ir_ast.specs.Faults.NoMain.{HasMain}
use Rattle.ir_lines.specs.Statements.{Line}
use Rattle.ir_lines.specs.Sections.{definitions_of}
use Rattle.ir_lines.specs.Modules.{module_of}
use Rattle.ir_lines.specs.Faults.NoMain.{is_main}
use Rattle.ir_resolve.specs.Resolved.{Resolved, resolved}
use Rattle.ir_resolve.specs.ModuleFaults.{Stands, its_line, its_part, IsTypedBesidesCalls, HasModuleFault, type_clash, case_again, entry_has_pred, phi_edges, derived_escapes, no_main, pointer_order, group_shape}
use Rattle.ir_resolve.specs.FaultSet.{HasNoResolvedFault, of_module}
use Rattle.ir_resolve.proofs.Booleans.{not-true, not-false}
use Rattle.ir_resolve.proofs.Decided.{typed_holds, phi_holds, shape_holds}
use Rattle.ir_resolve.proofs.Mains.{has_main, main_resolved}

abbrev pub IsUnbroken : Resolved → Type 0
IsUnbroken text = (line code : ℕ) → ¬ HasModuleFault text line code

module _ (text : Resolved) (none : IsUnbroken text) (number : ℕ) (func : Function) (is_function : slice_get text.whole.content.funcs number ≡ Some func) where
  abbrev at : (place : ℕ) (inst : Instruction) → slice_get (instructions_of func.blocks) place ≡ Some inst → Stands text
  at place inst is = record { number = number; func = func; is_function = is_function; place = place; inst = inst; is_instruction = is }

  pub unbroken_typed : All (IsTypedBesidesCalls (scope_of text.whole.content func)) (instructions_of func.blocks)
  unbroken_typed = all_from_at (IsTypedBesidesCalls (scope_of text.whole.content func)) (instructions_of func.blocks) (λ place inst is.
      typed_holds (scope_of text.whole.content func) inst (λ lacks.
      none (its_line text (at place inst is)) 5 (type_clash (record { at = at place inst is; its = refl; breaks = lacks }))))

  again : (place : ℕ) (inst : Instruction) (is : slice_get (instructions_of func.blocks) place ≡ Some inst) → inst.op ≡ Switch
      → (os : List Operand) → inst.operands ≡ os → Distinct (drop 1 os)
  again place inst is switch [] e j k order low same = omega (arith, low)
  again place inst is switch (x ∷ xs) e j k order low same =
      let there = get_some xs k low in
      none (its_part text (at place inst is) (suc k)) 5 (case_again (record {
        at = at place inst is;
        switch = switch;
        earlier = suc j;
        later = suc k;
        behind_tested = omega arith;
        in_order = omega (arith, order);
        value = there.0;
        is_earlier = ap (λ (os : List Operand). slice_get os (suc j)) e ∙ same ∙ there.1;
        is_later = ap (λ (os : List Operand). slice_get os (suc k)) e ∙ there.1;
        its = refl;
      }))

  pub unbroken_cases : All (λ inst. inst.op ≡ Switch → Distinct (drop 1 inst.operands)) (instructions_of func.blocks)
  unbroken_cases = all_from_at (λ (inst : Instruction). inst.op ≡ Switch → Distinct (drop 1 inst.operands)) (instructions_of func.blocks) (λ place inst is switch.
      again place inst is switch inst.operands refl)

  pub unbroken_entry : EntryHasNoPred func
  unbroken_entry = all_from_at LeavesEntry (instructions_of func.blocks) (λ place inst is ends.
      all_from_at (λ (label : BlockId). label.0 ≡ 0 → ⊥) inst.labels (λ part label named first.
      none (its_part text (at place inst is) part) 6 (entry_has_pred (record {
        at = at place inst is;
        ends = ends;
        part = part;
        label = label;
        is_label = named;
        first = first;
        its = refl;
      }))))

  pub unbroken_phis : PhisAreRight func
  unbroken_phis block_number block before after phi is_block whole merges =
      phi_holds func block_number before phi (λ lacks. none _ 7 (phi_edges (record {
        number = number;
        func = func;
        is_function = is_function;
        at = block_number;
        block = block;
        is_block = is_block;
        before = before;
        phi = phi;
        after = after;
        whole = whole;
        merges = merges;
        its = refl;
        wrong = lacks;
      })))

  pub unbroken_derived : text.whole.content.form ≡ Source → DerivedStay func
  unbroken_derived source = all_from_at (KeepsDerived func) (instructions_of func.blocks) (λ place inst is k d low derived.
      none (its_line text (at place inst is)) 9 (derived_escapes source (record { at = at place inst is; its = refl; breaks = λ keeps. keeps k d low derived })))

  pub unbroken_pointers : PointersAreUnordered func
  unbroken_pointers = all_from_at (λ (inst : Instruction). orders_pointers inst.op inst.ty ≡ false) (instructions_of func.blocks) (λ place inst is.
      not-true (orders_pointers inst.op inst.ty) (λ orders.
      none (its_line text (at place inst is)) 15 (pointer_order (record {
        at = at place inst is;
        its = refl;
        breaks = λ keeps. let bad : true ≡ false = sym orders ∙ keeps in cc;
      }))))

  pub unbroken_shapes : text.whole.content.form ≡ Rewritten → GroupsInShape func
  unbroken_shapes rewritten place inst is =
      shape_holds func place inst inst.op (λ lacks.
      none (its_line text (at place inst is)) 18 (group_shape rewritten (record { at = at place inst is; its = refl; breaks = lacks })))

pub unbroken_main : (form : Form) (lines : List Line) → IsUnbroken (resolved form lines) → HasMain (module_of form lines).content
unbroken_main form lines none =
    has_main form lines (not-false (is_main (find (λ func. bytes_eq func.name (codes "main")) (definitions_of lines))) (λ lacks.
    none 0 11 (no_main refl (main_resolved form lines 0 (record { at_no_line = refl; lacks = lacks })))))

-- a text without a fault has none of its module
pub unbroken_of : (form : Form) (lines : List Line) → HasNoResolvedFault form lines → IsUnbroken (resolved form lines)
unbroken_of form lines none line code f = none line code (of_module f)
