-- A plain line of a verified module: what its law asks for is there, so it is one step of both.
use Rattle.std.proofs.Common.{◌≡◌, ℕ, zero, suc, true, false, not, List, [], ◌∷◌, length, map, replicate, refl, sym, ap, ◌∙◌, subst, arith, Option, Some}
use Rattle.std.specs.Prelude.{slice_get, is_some}
use Rattle.std.specs.List.{AllZip, Contains}
use Rattle.std.proofs.lemmas.Bool.{true≢false}
use Rattle.std.proofs.lemmas.Option.{none-some, same_Some}
use Rattle.ir_ast.specs.declared.cells.Cell.{Cell}
use Rattle.ir_ast.specs.declared.cells.Cell.TheVariants as cells
use Rattle.ir_ast.specs.declared.ops.Callee.{Callee}
use Rattle.ir_ast.specs.declared.ops.Callee.TheVariants.{Check, Print, Read, Same}
use Rattle.ir_ast.specs.declared.ops.Elem.{Elem}
use Rattle.ir_ast.specs.declared.ops.Op.{Op}
use Rattle.ir_ast.specs.declared.ops.Op.TheVariants as ops
use Rattle.ir_ast.specs.declared.ops.Operand.{Operand}
use Rattle.ir_ast.specs.declared.ops.Pred.{Pred}
use Rattle.ir_ast.specs.declared.ops.Pred.TheVariants as preds
use Rattle.ir_ast.specs.declared.types.Ty.{Ty}
use Rattle.ir_ast.specs.declared.types.Ty.TheVariants.{Void, Int, Ptr, Token}
use Rattle.ir_ast.specs.Cells.{type_of}
use Rattle.ir_ast.specs.Faults.PointerOrder.{is_order, orders_pointers}
use Rattle.ir_ast.specs.Faults.TypeClash.{Fits, RuleOf, asked}
use Rattle.ir_ast.specs.Funcs.{Function}
use Rattle.ir_ast.specs.Insts.{Instruction}
use Rattle.ir_ast.specs.Lines.{LineOf}
use Rattle.ir_ast.specs.Modules.{ModuleContent}
use Rattle.ir_ast.specs.Scope.{Signature, scope_of}
use Rattle.ir_ast.specs.Types.{is_first_class, is_integer, is_pointer, is_void}
use Rattle.ir_ast.specs.Values.{outcome_type, value_types}
use Rattle.ir_cfg.specs.TargetModules.{IsTargetModule}
use Rattle.object_meaning.specs.Accesses.{cell_of}
use Rattle.object_meaning.specs.Lines.{Line}
use Rattle.object_meaning.specs.States.{State, Setting}
use Rattle.object_meaning.specs.Steps.{step}
use Rattle.object_meaning.specs.Traces.{access_of, accesses_at}
use Rattle.object_meaning.proofs.AccessLaws.{cell_back}
use Rattle.pair_facts.specs.declared.bases.Base.TheVariants.{Named}
use Rattle.pair_facts.specs.Faults.{FaultAt, IsVerified}
use Rattle.pair_facts.specs.Lines.{lines_at, operand_at}
use Rattle.pair_facts.specs.Uses.{Use, Uses, accessed_at, checked, checks as uses_check, compared, compares as uses_same, escapes, escaping, own_use, pointers_of, use_at}
use Rattle.machine_meaning.specs.Happenings.{access_by, accesses_by}
use Rattle.machine_meaning.specs.Machines.{Machine, Machinery}
use Rattle.machine_meaning.specs.MachineSteps.{machine_step}
use Rattle.machine_meaning.specs.Words.{worded}
use Rattle.moves_unseen.specs.States.{Extra, IsRelated, machine_of}
use Rattle.moves_unseen.specs.Steps.{IsArithmetic, IsCheckedBefore, IsCompared, IsNumber, IsStored, StepFollows, integers, equal, differing, add, sub, mul, udiv, sdiv, urem, srem, conjunction, disjunction, difference, shl, lshr, ashr, trunc, zext, sext}
use Rattle.moves_unseen.specs.Types.{IsLineOf, IsPlain, advances, checks, chooses, compares, computes, loads, orders, prints, reads, stores}
use Rattle.moves_unseen.proofs.AccessSteps.{load_follows, load_seen}
use Rattle.moves_unseen.proofs.ArithmeticLaws.{arithmetic_follows}
use Rattle.moves_unseen.proofs.CheckSteps.{check_follows}
use Rattle.moves_unseen.proofs.IcmpSteps.{icmp_follows}
use Rattle.moves_unseen.proofs.LineTypes.{lines_are_typed}
use Rattle.moves_unseen.proofs.PlainCallSteps.{print_follows, read_follows}
use Rattle.moves_unseen.proofs.PointerLaws.{gep_follows}
use Rattle.moves_unseen.proofs.SameSteps.{same_follows}
use Rattle.moves_unseen.proofs.SelectSteps.{select_follows}
use Rattle.moves_unseen.proofs.StandLaws.{line_here}
use Rattle.moves_unseen.proofs.StoreSteps.{store_follows, store_seen}
use Rattle.moves_unseen.proofs.VerifiedLaws.{check_before, pair_stands}
use Rattle.moving_heap.proofs.VerdictLemmas.{event_none}
use Rattle.moving_heap.proofs.StepLemmas.{some_of}
use Rattle.list_laws.proofs.Contents.{contains_first}

-- ---- operands and results of a type

pub integer_plain : (ty : Ty) → is_integer ty ≡ true → is_pointer ty ≡ false
integer_plain Void is = cc
integer_plain (Int width) is = refl
integer_plain Ptr is = cc
integer_plain Token is = cc

pub pointer_type : (ty : Ty) → is_pointer ty ≡ true → ty ≡ Ptr
pointer_type Void is = cc
pointer_type (Int width) is = cc
pointer_type Ptr is = refl
pointer_type Token is = cc

-- an operand of which a type is asked that isn't a pointer's
pub number_at : (types : List Ty) (given : List Operand) (wanted : List Ty) (place : ℕ) (ty : Ty) → AllZip (Fits types) given wanted → slice_get wanted place ≡ Some ty
    → is_pointer ty ≡ false → IsNumber types (operand_at given place)
number_at types given [] place ty fits at plain = absurd (none-some ty at)
number_at types [] (want ∷ wanted) place ty fits at plain = absurd fits
number_at types (first ∷ given) (want ∷ wanted) zero ty fits at plain =
    record { ty = ty; fits = subst (Fits types first) (same_Some want ty at) fits.0; plain = plain }
number_at types (first ∷ given) (want ∷ wanted) (suc place) ty fits at plain = number_at types given wanted place ty fits.1 at plain

pub fits_at : (types : List Ty) (given : List Operand) (wanted : List Ty) (place : ℕ) (ty : Ty) → AllZip (Fits types) given wanted → slice_get wanted place ≡ Some ty
    → Fits types (operand_at given place) ty
fits_at types given [] place ty fits at = absurd (none-some ty at)
fits_at types [] (want ∷ wanted) place ty fits at = absurd fits
fits_at types (first ∷ given) (want ∷ wanted) zero ty fits at = subst (Fits types first) (same_Some want ty at) fits.0
fits_at types (first ∷ given) (want ∷ wanted) (suc place) ty fits at = fits_at types given wanted place ty fits.1 at

-- so is each operand where one type is asked of all; past them stands the number 0
pub number_repeated : (types : List Ty) (given : List Operand) (count : ℕ) (ty : Ty) → AllZip (Fits types) given (replicate count ty) → is_pointer ty ≡ false
    → (place : ℕ) → IsNumber types (operand_at given place)
number_repeated types [] count ty fits plain place = record { ty = Int 1; fits = (1, refl, (omega arith)); plain = refl }
number_repeated types (first ∷ given) zero ty fits plain place = absurd fits
number_repeated types (first ∷ given) (suc count) ty fits plain zero = record { ty = ty; fits = fits.0; plain = plain }
number_repeated types (first ∷ given) (suc count) ty fits plain (suc place) = number_repeated types given count ty fits.1 plain place

-- ---- operators on integers

arithmetic_form : (op : Op) (inst : Instruction) → IsArithmetic op → LineOf op inst → (is_some inst.result ≡ true) × (is_integer inst.ty ≡ true)
arithmetic_form _ inst add form = (form.result, form.type)
arithmetic_form _ inst sub form = (form.result, form.type)
arithmetic_form _ inst mul form = (form.result, form.type)
arithmetic_form _ inst udiv form = (form.result, form.type)
arithmetic_form _ inst sdiv form = (form.result, form.type)
arithmetic_form _ inst urem form = (form.result, form.type)
arithmetic_form _ inst srem form = (form.result, form.type)
arithmetic_form _ inst conjunction form = (form.result, form.type)
arithmetic_form _ inst disjunction form = (form.result, form.type)
arithmetic_form _ inst difference form = (form.result, form.type)
arithmetic_form _ inst shl form = (form.result, form.type)
arithmetic_form _ inst lshr form = (form.result, form.type)
arithmetic_form _ inst ashr form = (form.result, form.type)
arithmetic_form _ inst (trunc width) form = (form.result, form.type)
arithmetic_form _ inst (zext width) form = (form.result, form.type)
arithmetic_form _ inst (sext width) form = (form.result, form.type)

arithmetic_asked : (op : Op) (ty : Ty) (count : ℕ) → IsArithmetic op → asked op ty count ≡ replicate count ty
arithmetic_asked _ ty count add = refl
arithmetic_asked _ ty count sub = refl
arithmetic_asked _ ty count mul = refl
arithmetic_asked _ ty count udiv = refl
arithmetic_asked _ ty count sdiv = refl
arithmetic_asked _ ty count urem = refl
arithmetic_asked _ ty count srem = refl
arithmetic_asked _ ty count conjunction = refl
arithmetic_asked _ ty count disjunction = refl
arithmetic_asked _ ty count difference = refl
arithmetic_asked _ ty count shl = refl
arithmetic_asked _ ty count lshr = refl
arithmetic_asked _ ty count ashr = refl
arithmetic_asked _ ty count (trunc width) = refl
arithmetic_asked _ ty count (zext width) = refl
arithmetic_asked _ ty count (sext width) = refl

arithmetic_type : (op : Op) (ty : Ty) → IsArithmetic op → is_integer ty ≡ true → is_pointer (outcome_type op ty) ≡ false
arithmetic_type _ ty add integer = integer_plain ty integer
arithmetic_type _ ty sub integer = integer_plain ty integer
arithmetic_type _ ty mul integer = integer_plain ty integer
arithmetic_type _ ty udiv integer = integer_plain ty integer
arithmetic_type _ ty sdiv integer = integer_plain ty integer
arithmetic_type _ ty urem integer = integer_plain ty integer
arithmetic_type _ ty srem integer = integer_plain ty integer
arithmetic_type _ ty conjunction integer = integer_plain ty integer
arithmetic_type _ ty disjunction integer = integer_plain ty integer
arithmetic_type _ ty difference integer = integer_plain ty integer
arithmetic_type _ ty shl integer = integer_plain ty integer
arithmetic_type _ ty lshr integer = integer_plain ty integer
arithmetic_type _ ty ashr integer = integer_plain ty integer
arithmetic_type _ ty (trunc width) integer = refl
arithmetic_type _ ty (zext width) integer = refl
arithmetic_type _ ty (sext width) integer = refl

no_access : (setting : Setting) (state : State) (line : Line) (op : Op) → IsArithmetic op → access_of setting state line op ≡ []
no_access setting state line _ add = refl
no_access setting state line _ sub = refl
no_access setting state line _ mul = refl
no_access setting state line _ udiv = refl
no_access setting state line _ sdiv = refl
no_access setting state line _ urem = refl
no_access setting state line _ srem = refl
no_access setting state line _ conjunction = refl
no_access setting state line _ disjunction = refl
no_access setting state line _ difference = refl
no_access setting state line _ shl = refl
no_access setting state line _ lshr = refl
no_access setting state line _ ashr = refl
no_access setting state line _ (trunc width) = refl
no_access setting state line _ (zext width) = refl
no_access setting state line _ (sext width) = refl

no_machine_access : (machine : Machine) (line : Line) (op : Op) → IsArithmetic op → access_by machine line op ≡ []
no_machine_access machine line _ add = refl
no_machine_access machine line _ sub = refl
no_machine_access machine line _ mul = refl
no_machine_access machine line _ udiv = refl
no_machine_access machine line _ sdiv = refl
no_machine_access machine line _ urem = refl
no_machine_access machine line _ srem = refl
no_machine_access machine line _ conjunction = refl
no_machine_access machine line _ disjunction = refl
no_machine_access machine line _ difference = refl
no_machine_access machine line _ shl = refl
no_machine_access machine line _ lshr = refl
no_machine_access machine line _ ashr = refl
no_machine_access machine line _ (trunc width) = refl
no_machine_access machine line _ (zext width) = refl
no_machine_access machine line _ (sext width) = refl

second_contained : {A : Type 0} (x y : A) (xs : List A) → Contains (x ∷ y ∷ xs) y
second_contained x y xs = (1, (omega arith), refl)

module _ (content : ModuleContent) (target : IsTargetModule content) (verified : IsVerified content) (machinery : Machinery) (setting : Setting)
    (layouts_are : setting.layouts ≡ content.layouts) (same_layouts : machinery.setting.layouts ≡ setting.layouts) (state : State) (extra : Extra) (related : IsRelated content state extra)
    (line : Line) (rest : List Line) (is : state.running.rest ≡ line ∷ rest) where
  abbrev func : Function
  func = related.running.func

  abbrev block : ℕ
  block = state.running.block

  abbrev place : ℕ
  place = related.running.place

  abbrev types : List Ty
  types = value_types func

  abbrev machine : Machine
  machine = machine_of machinery state extra

  abbrev Both : Type 0
  Both = StepFollows content machinery (step setting state) (machine_step machinery machine) × (accesses_by machine machine.state.running.rest ≡ accesses_at setting state state.running.rest)

  here : slice_get (lines_at func block) place ≡ Some line
  here = line_here content state.running func place related.running.pairs related.running.at line rest is

  of_line : IsLineOf content func line
  of_line = lines_are_typed content target state.running.func func related.running.at.defined block place line here

  no_fault : (code : ℕ) → ¬ FaultAt func block place code
  no_fault code = verified state.running.func block place code func related.running.at.defined

  form : (op : Op) → line.inst.op ≡ op → LineOf op line.inst
  form op op_is = subst (λ (each : Op). LineOf each line.inst) op_is of_line.form

  fits : (op : Op) → line.inst.op ≡ op → AllZip (Fits types) line.inst.operands (asked op line.inst.ty (length line.inst.operands))
  fits op op_is = subst (λ (each : Op). AllZip (Fits types) line.inst.operands (asked each line.inst.ty (length line.inst.operands))) op_is of_line.typed.operands

  rule : (op : Op) → line.inst.op ≡ op → RuleOf (scope_of content func) op line.inst
  rule op op_is = subst (λ (each : Op). RuleOf (scope_of content func) each line.inst) op_is of_line.typed.rule

  result_type : (op : Op) → line.inst.op ≡ op → (to : ℕ) → line.to ≡ Some to → slice_get types to ≡ Some (outcome_type op line.inst.ty)
  result_type op op_is to gives = of_line.type to gives ∙ ap (λ (each : Op). Some (outcome_type each line.inst.ty)) op_is

  -- a pair that the line uses
  used : (code : ℕ) (pair : Use) → Uses (lines_at func block) place code place pair → related.running.pairs pair.address (Named pair.base) ≡ true
  used code pair uses = pair_stands func block place no_fault code place pair uses related.running.pairs related.running.at.arrived

  own : (op : Op) → line.inst.op ≡ op → (operand : Operand) → Contains (escaping op line.inst) operand → related.running.pairs operand (Named operand) ≡ true
  own op op_is operand contained =
      used 5 (own_use operand) (escapes line operand here (subst (λ (each : Op). Contains (escaping each line.inst) operand) (sym op_is) contained))

  -- neither loads nor stores
  unseen : (op : Op) → line.inst.op ≡ op → access_of setting state line op ≡ [] → access_by machine (worded line) op ≡ [] → accesses_by machine machine.state.running.rest ≡ accesses_at setting state state.running.rest
  unseen op op_is none there_none =
      ap (accesses_by machine) (ap (map worded) is)
      ∙ (ap (access_by machine (worded line)) op_is
      ∙ (there_none ∙ (sym none ∙ (sym (ap (access_of setting state line) op_is) ∙ sym (ap (accesses_at setting state) is)))))

  -- ---- lines that compute

  arithmetic_both : IsArithmetic line.inst.op → Both
  arithmetic_both arithmetical =
      let has = arithmetic_form line.inst.op line.inst arithmetical of_line.form in
      let register = some_of line.to (of_line.gives ∙ has.0) in
      let plain = integer_plain line.inst.ty has.1 in
      let all = subst (λ (wanted : List Ty). AllZip (Fits types) line.inst.operands wanted) (arithmetic_asked line.inst.op line.inst.ty (length line.inst.operands) arithmetical) of_line.typed.operands in (
        arithmetic_follows content machinery setting state extra related line rest is arithmetical (record {
          first = number_repeated types line.inst.operands (length line.inst.operands) line.inst.ty all plain 0;
          second = number_repeated types line.inst.operands (length line.inst.operands) line.inst.ty all plain 1;
          given = register.0;
          to = register.1;
          ty = outcome_type line.inst.op line.inst.ty;
          typed = of_line.type register.0 register.1;
          plain = arithmetic_type line.inst.op line.inst.ty arithmetical has.1;
        }),
        unseen line.inst.op refl (no_access setting state line line.inst.op arithmetical) (no_machine_access machine (worded line) line.inst.op arithmetical),
      )

  gep_both : (elem : Elem) (index_width : ℕ) (field : Option ℕ) → line.inst.op ≡ ops.Gep elem index_width field → Both
  gep_both elem index_width field op_is =
      let has = (form (ops.Gep elem index_width field) op_is).0 in
      let register = some_of line.to (of_line.gives ∙ has.result) in (
        gep_follows content machinery setting same_layouts state extra related line rest is elem index_width field op_is
            (number_at types line.inst.operands (Ptr ∷ Int index_width ∷ []) 1 (Int index_width) (fits (ops.Gep elem index_width field) op_is) refl refl)
            (record { given = register.0; to = register.1; ty = line.inst.ty; typed = result_type (ops.Gep elem index_width field) op_is register.0 register.1; managed = has.type }),
        unseen (ops.Gep elem index_width field) op_is refl refl,
      )

  compared_as : (pred : Pred) → line.inst.op ≡ ops.Icmp pred → (ty : Ty) → line.inst.ty ≡ ty → IsCompared types related.running.pairs line pred
  compared_as pred op_is Void ty_is = absurd (true≢false (sym ((form (ops.Icmp pred) op_is).type) ∙ ap is_first_class ty_is))
  compared_as pred op_is Token ty_is = absurd (true≢false (sym ((form (ops.Icmp pred) op_is).type) ∙ ap is_first_class ty_is))
  compared_as pred op_is (Int width) ty_is =
      let plain = ap is_pointer ty_is in
      integers pred width ty_is (number_repeated types line.inst.operands (length line.inst.operands) line.inst.ty (fits (ops.Icmp pred) op_is) plain 0)
      (number_repeated types line.inst.operands (length line.inst.operands) line.inst.ty (fits (ops.Icmp pred) op_is) plain 1)
  compared_as pred op_is Ptr ty_is = by pred op_is unordered
    where
      unordered : is_order pred ≡ false
      unordered =
          sym (ap (λ (op : Op). orders_pointers op line.inst.ty) op_is ∙ ap (orders_pointers (ops.Icmp pred)) ty_is) ∙ of_line.unordered

      two : (ty : Ty) → ty ≡ Ptr → pointers_of (ty ∷ ty ∷ []) (operand_at line.inst.operands 0 ∷ operand_at line.inst.operands 1 ∷ []) ≡ operand_at line.inst.operands 0 ∷ operand_at line.inst.operands 1 ∷ []
      two ty same = ap (λ (t : Ty). pointers_of (t ∷ t ∷ []) (operand_at line.inst.operands 0 ∷ operand_at line.inst.operands 1 ∷ [])) same

      own_at : (pred : Pred) → line.inst.op ≡ ops.Icmp pred → (operand : Operand) → Contains (operand_at line.inst.operands 0 ∷ operand_at line.inst.operands 1 ∷ []) operand
          → related.running.pairs operand (Named operand) ≡ true
      own_at pred op_is operand contained =
          own (ops.Icmp pred) op_is operand (subst (λ (all : List Operand). Contains all operand) (sym (two line.inst.ty ty_is)) contained)

      by : (pred : Pred) → line.inst.op ≡ ops.Icmp pred → is_order pred ≡ false → IsCompared types related.running.pairs line pred
      by preds.Eq op_is none =
          equal ty_is (own_at preds.Eq op_is (operand_at line.inst.operands 0) (contains_first (operand_at line.inst.operands 0) (operand_at line.inst.operands 1 ∷ [])))
          (own_at preds.Eq op_is (operand_at line.inst.operands 1) (second_contained (operand_at line.inst.operands 0) (operand_at line.inst.operands 1) []))
      by preds.Ne op_is none =
          differing ty_is (own_at preds.Ne op_is (operand_at line.inst.operands 0) (contains_first (operand_at line.inst.operands 0) (operand_at line.inst.operands 1 ∷ [])))
          (own_at preds.Ne op_is (operand_at line.inst.operands 1) (second_contained (operand_at line.inst.operands 0) (operand_at line.inst.operands 1) []))
      by other op_is none = absurd cc

  icmp_both : (pred : Pred) → line.inst.op ≡ ops.Icmp pred → Both
  icmp_both pred op_is =
      let register = some_of line.to (of_line.gives ∙ (form (ops.Icmp pred) op_is).result) in (
        icmp_follows content machinery setting state extra related line rest is pred op_is (compared_as pred op_is line.inst.ty refl) register.0 register.1 (Int 1)
            (result_type (ops.Icmp pred) op_is register.0 register.1),
        unseen (ops.Icmp pred) op_is refl refl,
      )

  select_both : line.inst.op ≡ ops.Select → Both
  select_both op_is =
      let register = some_of line.to (of_line.gives ∙ (form ops.Select op_is).result) in
      let wanted = fits ops.Select op_is in (
        select_follows content machinery setting state extra related line rest is op_is
            (number_at types line.inst.operands (Int 1 ∷ line.inst.ty ∷ line.inst.ty ∷ []) 0 (Int 1) wanted refl refl)
            (fits_at types line.inst.operands (Int 1 ∷ line.inst.ty ∷ line.inst.ty ∷ []) 1 line.inst.ty wanted refl)
            (fits_at types line.inst.operands (Int 1 ∷ line.inst.ty ∷ line.inst.ty ∷ []) 2 line.inst.ty wanted refl)
            register.0 register.1 (result_type ops.Select op_is register.0 register.1),
        unseen ops.Select op_is refl refl,
      )

  -- ---- accesses

  checked_before : (op : Op) → line.inst.op ≡ op → (address : Operand) → accessed_at op line.inst ≡ Some address → (cell : Cell) → type_of cell ≡ line.inst.ty
      → IsCheckedBefore (lines_at func block) place state.running.registers address cell
  checked_before op op_is address accesses cell type_is =
      subst (IsCheckedBefore (lines_at func block) place state.running.registers address) (ap cell_of (sym type_is) ∙ cell_back cell)
      (check_before func block place no_fault related.running.pairs related.running.at.arrived line here address (ap (λ (each : Op). accessed_at each line.inst) op_is ∙ accesses) state.running.registers)

  load_both : line.inst.op ≡ ops.Load → Both
  load_both op_is =
      let register = some_of line.to (of_line.gives ∙ (form ops.Load op_is).result) in
      let cell = rule ops.Load op_is in
      let before = checked_before ops.Load op_is (operand_at line.inst.operands 0) refl cell.0 cell.1 in
      let typed = result_type ops.Load op_is register.0 register.1 in (
        load_follows content machinery setting layouts_are state extra related line rest is op_is cell.0 cell.1 before register.0 register.1 typed,
        load_seen content machinery setting layouts_are state extra related line rest is op_is cell.0 cell.1 before register.0 register.1 typed,
      )

  stored_as : line.inst.op ≡ ops.Store → (cell : Cell) → type_of cell ≡ line.inst.ty → IsStored types related.running.pairs (operand_at line.inst.operands 0) cell
  stored_as op_is cells.I64 type_is = number_at types line.inst.operands (line.inst.ty ∷ Ptr ∷ []) 0 line.inst.ty (fits ops.Store op_is) refl (ap is_pointer (sym type_is))
  stored_as op_is cells.Ptr type_is =
      own ops.Store op_is (operand_at line.inst.operands 0)
      (subst (λ (ty : Ty). Contains (escaping ops.Store (record line.inst { ty = ty })) (operand_at line.inst.operands 0)) type_is (contains_first (operand_at line.inst.operands 0) []))

  store_both : line.inst.op ≡ ops.Store → Both
  store_both op_is =
      let none = event_none line.to (of_line.gives ∙ (form ops.Store op_is).result) in
      let cell = rule ops.Store op_is in
      let before = checked_before ops.Store op_is (operand_at line.inst.operands 1) refl cell.0 cell.1 in
      let held = stored_as op_is cell.0 cell.1 in (
        store_follows content machinery setting layouts_are state extra related line rest is op_is cell.0 cell.1 before none held,
        store_seen content machinery setting layouts_are state extra related line rest is op_is cell.0 cell.1 before none held,
      )

  -- ---- calls of leaves

  signature_is : (callee : Callee) (passed : List Ty) → line.inst.op ≡ ops.Call callee passed → (signature : Signature) → (scope_of content func).called callee ≡ Some signature
      → signature ≡ record { answer = line.inst.ty; params = passed }
  signature_is callee passed op_is signature found =
      same_Some signature (record { answer = line.inst.ty; params = passed }) (sym found ∙ (rule (ops.Call callee passed) op_is).signature)

  -- what a call gives
  gives_as : (callee : Callee) (passed : List Ty) → line.inst.op ≡ ops.Call callee passed → (signature : Signature) → (scope_of content func).called callee ≡ Some signature
      → is_some line.to ≡ not (is_void signature.answer)
  gives_as callee passed op_is signature found =
      of_line.gives ∙ ((form (ops.Call callee passed) op_is).result ∙ ap (λ (each : Signature). not (is_void each.answer)) (sym (signature_is callee passed op_is signature found)))

  passes_number : (callee : Callee) (passed : List Ty) → line.inst.op ≡ ops.Call callee passed → (signature : Signature) → (scope_of content func).called callee ≡ Some signature
      → (at : ℕ) (ty : Ty) → slice_get signature.params at ≡ Some ty → is_pointer ty ≡ false → IsNumber types (operand_at line.inst.operands at)
  passes_number callee passed op_is signature found at ty param plain =
      number_at types line.inst.operands passed at ty (fits (ops.Call callee passed) op_is)
      (ap (λ (each : Signature). slice_get each.params at) (sym (signature_is callee passed op_is signature found)) ∙ param) plain

  check_both : (passed : List Ty) → line.inst.op ≡ ops.Call Check passed → Both
  check_both passed op_is = (
    check_follows content machinery setting layouts_are state extra related line rest is passed op_is
        (event_none line.to (gives_as Check passed op_is (record { answer = Void; params = Ptr ∷ Ptr ∷ Int 64 ∷ [] }) refl))
        (passes_number Check passed op_is (record { answer = Void; params = Ptr ∷ Ptr ∷ Int 64 ∷ [] }) refl 2 (Int 64) refl refl)
        (used 3 (use_at line.inst.operands 0) (uses_check line (use_at line.inst.operands 0) here
        (subst (λ (each : Op). Contains (checked each line.inst) (use_at line.inst.operands 0)) (sym op_is) (contains_first (use_at line.inst.operands 0) [])))),
    unseen (ops.Call Check passed) op_is refl refl,
  )

  same_both : (passed : List Ty) → line.inst.op ≡ ops.Call Same passed → Both
  same_both passed op_is =
      let register = some_of line.to (gives_as Same passed op_is (record { answer = Int 1; params = Ptr ∷ Ptr ∷ Ptr ∷ Ptr ∷ [] }) refl) in (
        same_follows content machinery setting state extra related line rest is passed op_is register.0 register.1 line.inst.ty (result_type (ops.Call Same passed) op_is register.0 register.1)
            (used 4 (use_at line.inst.operands 0) (uses_same line (use_at line.inst.operands 0) here
            (subst (λ (each : Op). Contains (compared each line.inst) (use_at line.inst.operands 0)) (sym op_is) (contains_first (use_at line.inst.operands 0) (use_at line.inst.operands 2 ∷ [])))))
            (used 4 (use_at line.inst.operands 2) (uses_same line (use_at line.inst.operands 2) here
            (subst (λ (each : Op). Contains (compared each line.inst) (use_at line.inst.operands 2)) (sym op_is) (second_contained (use_at line.inst.operands 0) (use_at line.inst.operands 2) [])))),
        unseen (ops.Call Same passed) op_is refl refl,
      )

  print_both : (passed : List Ty) → line.inst.op ≡ ops.Call Print passed → Both
  print_both passed op_is = (
    print_follows content machinery setting state extra related line rest is passed op_is
        (event_none line.to (gives_as Print passed op_is (record { answer = Void; params = Int 64 ∷ [] }) refl))
        (passes_number Print passed op_is (record { answer = Void; params = Int 64 ∷ [] }) refl 0 (Int 64) refl refl),
    unseen (ops.Call Print passed) op_is refl refl,
  )

  read_both : (passed : List Ty) → line.inst.op ≡ ops.Call Read passed → Both
  read_both passed op_is =
      let register = some_of line.to (gives_as Read passed op_is (record { answer = Int 64; params = [] }) refl) in (
        read_follows content machinery setting state extra related line rest is passed op_is register.0 register.1 line.inst.ty (result_type (ops.Call Read passed) op_is register.0 register.1),
        unseen (ops.Call Read passed) op_is refl refl,
      )

  by_operator : (op : Op) → IsPlain op → line.inst.op ≡ op → Both
  by_operator op (computes each arithmetical) op_is = arithmetic_both (subst IsArithmetic (sym op_is) arithmetical)
  by_operator _ (advances elem index_width field) op_is = gep_both elem index_width field op_is
  by_operator _ (orders pred) op_is = icmp_both pred op_is
  by_operator _ chooses op_is = select_both op_is
  by_operator _ loads op_is = load_both op_is
  by_operator _ stores op_is = store_both op_is
  by_operator _ (checks passed) op_is = check_both passed op_is
  by_operator _ (compares passed) op_is = same_both passed op_is
  by_operator _ (prints passed) op_is = print_both passed op_is
  by_operator _ (reads passed) op_is = read_both passed op_is

  -- related before, the machine steps as the target meaning, with the same accesses, and related after
  pub plain_follows : IsPlain line.inst.op → Both
  plain_follows plain = by_operator line.inst.op plain refl
