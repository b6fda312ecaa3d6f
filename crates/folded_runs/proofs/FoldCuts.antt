-- What the lines of a source module's functions have that is needed where some go, by the table of each function.
use Rattle.std.proofs.Common.{◌≡◌, ℕ, ◌+◌, ◌<◌, Bool, true, false, if◌then◌else◌, List, [], ◌∷◌, ◌++◌, length, map, take, drop, refl, sym, ap, subst, ◌∙◌, append_assoc, arith}
use Rattle.std.specs.Prelude.{Option, Some, None, is_some, slice_get, filter}
use Rattle.std.specs.List.{Contains, list_all}
use Rattle.std.specs.Option.{option_map}
use Rattle.std.proofs.lemmas.List.{length-map, length-append}
use Rattle.std.proofs.lemmas.List.Elements.{filter-append}
use Rattle.std.proofs.lemmas.Option.{slice_get_within}
use Rattle.list_laws.proofs.Contents.{all_at, all_contained, contains_get, get_contained}
use Rattle.list_laws.proofs.Places.{filter_map_forth, get_map, get_middle, take_front_of}
use Rattle.list_laws.proofs.Zips.{zip_lengths}
use Rattle.ir_ast.specs.declared.modules.Form.TheVariants.{Source}
use Rattle.ir_ast.specs.declared.types.Ty.{Ty}
use Rattle.ir_ast.specs.declared.types.Ty.TheVariants as types
use Rattle.ir_ast.specs.declared.ops.Callee.{Callee}
use Rattle.ir_ast.specs.declared.ops.Callee.TheVariants as callees
use Rattle.ir_ast.specs.declared.ops.Op.{Op}
use Rattle.ir_ast.specs.declared.ops.Op.TheVariants as ops
use Rattle.ir_ast.specs.declared.ops.Operand.{Operand}
use Rattle.ir_ast.specs.declared.ops.Operand.TheVariants.{Fun, Int, Null, Value}
use Rattle.ir_ast.specs.Insts.{Instruction}
use Rattle.ir_ast.specs.Funcs.{Function, instructions_of}
use Rattle.ir_ast.specs.Layouts.{ObjectLayout}
use Rattle.ir_ast.specs.Modules.{ModuleContent}
use Rattle.ir_ast.specs.Lines.{IsCall, IsLine, LineOf, is_argument, is_rewritten}
use Rattle.ir_ast.specs.Operands.{is_literal, named, operands_of, value_in, values_used}
use Rattle.ir_ast.specs.Scope.{Signature, scope_of, signature_of}
use Rattle.ir_ast.specs.Values.{definitions_of, outcome}
use Rattle.ir_ast.specs.Faultless.{FunctionHasNoFault, OfForm}
use Rattle.ir_ast.specs.Faults.GroupShape.{number_at}
use Rattle.ir_ast.specs.Faults.Reserved.{IsSource}
use Rattle.ir_ast.specs.Faults.TypeClash.{FunctionIsTyped, IsCallOf, IsTyped, RuleOf}
use Rattle.ir_ast.specs.Faults.UnknownName.{NamesOfFunction}
use Rattle.ir_cfg.specs.SourceModules.{IsSourceModule}
use Rattle.ir_cfg.specs.TypedModules.{IsTypedFunction}
use Rattle.object_meaning.specs.Calls.{function_in}
use Rattle.object_meaning.specs.Lines.{following}
use Rattle.object_meaning.proofs.GivenLaws.{has_result}
use Rattle.base_definite.proofs.base_paths.GivesLaws.{gives_at}
use Rattle.renaming_laws.specs.Renamed.{ArgumentsFit, CalleeTakes, Renaming, Takes, renamed}
use Rattle.folded_forms.specs.Folded.{Table, folded_operand, numbered, stands_for, stays}
use Rattle.trimmed_laws.specs.Trims.{FunctionStays, IsNumbered, LiteralsStay, MayGo, Trim, calls_of, now_operand}
use Rattle.folded_source.proofs.ValueLaws.{counted}
use Rattle.folded_runs.proofs.CutLaws.{AllCut, LineCut, OperandCut, trim_found}

-- ---- operands

-- an operand that names no value stands for itself
abbrev pub IsPlain : (Operand → Operand) → Type 0
IsPlain stands = (each : Operand) → value_in each ≡ None → stands each ≡ each

numbered_is : (table : Table) (each : Operand) → numbered table each ≡ renamed (counted table) each
numbered_is table (Value id) = refl
numbered_is table (Int literal) = refl
numbered_is table Null = refl
numbered_is table (Fun func) = refl

folded_is : (func : Function) (table : Table) (stands : Operand → Operand) (each : Operand) → stands_for table each ≡ stands each
    → folded_operand table each ≡ now_operand (trim_found (Some func) table stands) each
folded_is func table stands each same = numbered_is table (stands_for table each) ∙ ap (renamed (counted table)) same

plain_now : (trim : Trim) (each : Operand) → value_in each ≡ None → trim.stands each ≡ each → now_operand trim each ≡ each
plain_now trim each plain is = ap (renamed trim.renaming.number) is ∙ by each plain
  where
    by : (each : Operand) → value_in each ≡ None → renamed trim.renaming.number each ≡ each
    by (Value id) plain = absurd cc
    by (Int literal) plain = refl
    by Null plain = refl
    by (Fun func) plain = refl

literals_now : (trim : Trim) → IsPlain trim.stands → (all : List Operand) → list_all is_literal all ≡ true → map (now_operand trim) all ≡ all
literals_now trim plain [] literals = refl
literals_now trim plain (Int literal ∷ all) literals =
    ap (λ (first : Operand). first ∷ map (now_operand trim) all) (plain_now trim (Int literal) refl (plain (Int literal) refl)) ∙ ap (λ (rest : List Operand). Int literal ∷ rest) (literals_now trim plain all literals)
literals_now trim plain (Value id ∷ all) literals = absurd cc
literals_now trim plain (Null ∷ all) literals = absurd cc
literals_now trim plain (Fun func ∷ all) literals = absurd cc

-- ---- what is asked of a function's table

-- what goes may go; and what stands for the operands of a line that stays is what the table says, and has a number
pub record IsCutBy (layouts : List ObjectLayout) (func : Function) (table : Table) (stands : Operand → Operand) : Type 0 where
  pub arguments : (value : ℕ) → value < length func.args → stays table value ≡ true
  pub plain : IsPlain stands
  pub staying : (place : ℕ) (inst : Instruction) → slice_get (instructions_of func.blocks) place ≡ Some inst
      → (is_some inst.result ≡ true → stays table (number_at func place) ≡ true) → (own : ℕ) → Contains (values_used inst) own → own < length (definitions_of func)
      → IsNumbered (trim_found (Some func) table stands) (stands (named own)) × (stands_for table (named own) ≡ stands (named own))
  pub going : (place : ℕ) (inst : Instruction) → slice_get (instructions_of func.blocks) place ≡ Some inst → is_some inst.result ≡ true
      → stays table (number_at func place) ≡ false → MayGo layouts stands inst

-- ---- calls

takes_found : (found : Option Function) (table : Table) (stands : Operand → Operand) (answer : Ty) (params : List Ty) (count : ℕ)
    → option_map signature_of found ≡ Some (record { answer = answer; params = params }) → count ≡ length params → Takes (trim_found found table stands).renaming count
takes_found None table stands answer params count is same = absurd cc
takes_found (Some func) table stands answer params count is same =
    let params_are : map (λ arg. arg.ty) func.args ≡ params = same_params (signature_of func) (record { answer = answer; params = params }) is in
    let many = length-map func.args (λ arg. arg.ty) in
    record { called = refl; few = let long = ap length params_are in omega arith }
  where
    same_params : (one other : Signature) → Some one ≡ Some other → one.params ≡ other.params
    same_params one other both = let same_one : one ≡ other = cc in ap (λ s. s.params) same_one

module _ (content : ModuleContent) (tables : ℕ → Table) (stands : ℕ → Operand → Operand) where
  abbrev pub trims : ℕ → Trim
  trims number = trim_found (slice_get content.funcs number) (tables number) (stands number)

  abbrev pub calls : ℕ → Renaming
  calls = calls_of trims

  callee_takes : (func : Function) (inst : Instruction) (callee : Callee) (types : List Ty) → IsCall callee types inst → IsCallOf (scope_of content func) callee types inst
      → CalleeTakes calls callee inst.operands
  callee_takes func inst (callees.Fun named_one) types line call =
      takes_found (slice_get content.funcs named_one.0) (tables named_one.0) (stands named_one.0) inst.ty types (length inst.operands) call.signature
      (zip_lengths (λ operand ty. is_argument (callees.Fun named_one) operand ty ≡ true) inst.operands types line.arguments)
  callee_takes func inst callees.TaskStart passed line call =
      let starts = call.operands in
      subst (λ (number : ℕ). Takes (calls number) 1) (sym (ap function_in starts.1))
      (takes_found (slice_get content.funcs starts.0.0) (tables starts.0.0) (stands starts.0.0) types.Void (types.Ptr ∷ []) 1 starts.2 refl)
  callee_takes func inst callee types line call = tt

  arguments_fit : (func : Function) (inst : Instruction) → IsLine inst → IsTyped (scope_of content func) inst → is_rewritten inst.op ≡ false → (op : Op) → inst.op ≡ op → ArgumentsFit calls op inst.operands
  arguments_fit func inst line typed plain (ops.Call callee types) is =
      callee_takes func inst callee types (subst (λ (op : Op). LineOf op inst) is line) (subst (λ (op : Op). RuleOf (scope_of content func) op inst) is typed.rule)
  arguments_fit func inst line typed plain (ops.Statepoint id callee types) is = absurd (let rewritten = ap is_rewritten is in cc)
  arguments_fit func inst line typed plain op is = tt

  function_stays : (trim : Trim) → IsPlain trim.stands → (func : Function) (inst : Instruction) (callee : Callee) (types : List Ty) → IsCallOf (scope_of content func) callee types inst
      → FunctionStays trim callee inst.operands
  function_stays trim plain func inst callees.TaskStart types call =
      let starts = call.operands in
      let there = get_map (now_operand trim) inst.operands 0 (Fun starts.0) starts.1 in
      ap function_in (there ∙ (ap (λ (each : Operand). Some each) (plain_now trim (Fun starts.0) refl (plain (Fun starts.0) refl)) ∙ sym starts.1))
  function_stays trim plain func inst callee types call = tt

  literals_stay : (trim : Trim) → IsPlain trim.stands → (func : Function) (inst : Instruction) → IsLine inst → IsTyped (scope_of content func) inst → is_rewritten inst.op ≡ false
      → (op : Op) → inst.op ≡ op → LiteralsStay trim op inst.operands
  literals_stay trim plain func inst line typed source (ops.Call callee types) is =
      function_stays trim plain func inst callee types (subst (λ (op : Op). RuleOf (scope_of content func) op inst) is typed.rule)
  literals_stay trim plain func inst line typed source ops.Switch is =
      literals_now trim plain (drop 1 inst.operands) (subst (λ (op : Op). LineOf op inst) is line).2
  literals_stay trim plain func inst line typed source (ops.Statepoint id callee types) is = absurd (let rewritten = ap is_rewritten is in cc)
  literals_stay trim plain func inst line typed source ops.GcRelocate is = absurd (let rewritten = ap is_rewritten is in cc)
  literals_stay trim plain func inst line typed source op is = tt

-- ---- the lines of a function

-- what a source module's function has
pub record SourceFunction (content : ModuleContent) (func : Function) : Type 0 where
  pub typed : IsTypedFunction Source func
  pub lines : FunctionIsTyped (scope_of content func) func
  pub faultless : FunctionHasNoFault content func
  pub source : IsSource func

pub source_function : (content : ModuleContent) → IsSourceModule content → (number : ℕ) (func : Function) → slice_get content.funcs number ≡ Some func → SourceFunction content func
source_function content source number func found =
    let no_fault = all_at (FunctionHasNoFault content) content.funcs number func ((source.typed).no_fault).functions found in
    record {
      typed = all_at (IsTypedFunction Source) content.funcs number func (source.typed).functions found;
      lines = all_at (λ each. FunctionIsTyped (scope_of content each) each) content.funcs number func ((source.typed).no_fault).typed found;
      faultless = no_fault;
      source = (subst (λ form. OfForm form func) (source.typed).of_form no_fault.form).0;
    }

module _ (content : ModuleContent) (tables : ℕ → Table) (stands : ℕ → Operand → Operand) (func : Function) (is : SourceFunction content func) (table : Table) (standing : Operand → Operand)
    (cut : IsCutBy content.layouts func table standing) where
  abbrev trim : Trim
  trim = trim_found (Some func) table standing

  abbrev Cut : ℕ → Instruction → Type 0
  Cut = LineCut content.layouts (calls content tables stands) func table standing

  operand_cut : (place : ℕ) (inst : Instruction) → slice_get (instructions_of func.blocks) place ≡ Some inst → (is_some inst.result ≡ true → stays table (number_at func place) ≡ true)
      → (each : Operand) → Contains (operands_of inst) each → OperandCut content.layouts (calls content tables stands) func table standing each
  operand_cut place inst at stays_here (Value id) inside =
      let here = get_contained (operands_of inst) (Value id) inside in
      let there = filter_map_forth value_in (operands_of inst) here.0 (Value id) id.0 here.1 refl in
      let used = contains_get (values_used inst) there.0 id.0 there.1 in
      let known = all_at (λ (value : ℕ). value < length (definitions_of func)) (values_used inst) there.0 id.0
      (all_at (NamesOfFunction func) (instructions_of func.blocks) place inst (is.faultless).local at).values there.1 in
      let both = cut.staying place inst at stays_here id.0 used known in
      record { has = both.0; same = folded_is func table standing (Value id) both.1 }
  operand_cut place inst at stays_here (Int literal) inside =
      let same = cut.plain (Int literal) refl in
      record { has = subst (IsNumbered trim) (sym same) tt; same = folded_is func table standing (Int literal) (sym same) }
  operand_cut place inst at stays_here Null inside =
      let same = cut.plain Null refl in
      record { has = subst (IsNumbered trim) (sym same) tt; same = folded_is func table standing Null (sym same) }
  operand_cut place inst at stays_here (Fun called) inside =
      let same = cut.plain (Fun called) refl in
      record { has = subst (IsNumbered trim) (sym same) tt; same = folded_is func table standing (Fun called) (sym same) }

  line_cut : (place : ℕ) (inst : Instruction) → slice_get (instructions_of func.blocks) place ≡ Some inst → Cut (number_at func place) inst
  line_cut place inst at =
      let line = all_at IsLine (instructions_of func.blocks) place inst (is.typed).lines at in
      let typed = all_at (IsTyped (scope_of content func)) (instructions_of func.blocks) place inst (is.lines).lines at in
      let plain = all_at (λ each. is_rewritten each.op ≡ false) (instructions_of func.blocks) place inst (is.source).lines at in
      record {
        within = λ named_here. slice_get_within (definitions_of func) (number_at func place) (outcome inst) (gives_at func place inst at named_here);
        operands = λ stays_here. all_contained (OperandCut content.layouts (calls content tables stands) func table standing) (operands_of inst) (λ each inside. operand_cut place inst at stays_here each inside);
        arguments = arguments_fit content tables stands func inst line typed plain inst.op refl;
        literals = literals_stay content tables stands trim cut.plain func inst line typed plain inst.op refl;
        going = λ named_here gone. cut.going place inst at named_here gone;
        plain = plain;
      }

  following_is : (next : ℕ) (done : List Instruction) (inst : Instruction) → next ≡ length func.args + length (filter has_result done)
      → length func.args + length (filter has_result (done ++ inst ∷ [])) ≡ following next inst
  following_is next done inst same =
      let parts = ap length (filter-append has_result done (inst ∷ [])) ∙ length-append (filter has_result done) (filter has_result (inst ∷ [])) in
      by (is_some inst.result) refl parts
    where
      by : (b : Bool) → is_some inst.result ≡ b
          → length (filter has_result (done ++ inst ∷ [])) ≡ length (filter has_result done) + length (filter has_result (inst ∷ []))
          → length func.args + length (filter has_result (done ++ inst ∷ [])) ≡ following next inst
      by true named_here parts =
          let one : length (filter has_result (inst ∷ [])) ≡ 1 = ap (λ (b : Bool). length (if b then inst ∷ [] else [])) named_here in
          let all : length func.args + length (filter has_result (done ++ inst ∷ [])) ≡ next + 1 = omega (arith, parts, one, same) in
          all ∙ sym (ap (λ (b : Bool). if b then next + 1 else next) named_here)
      by false named_here parts =
          let none : length (filter has_result (inst ∷ [])) ≡ 0 = ap (λ (b : Bool). length (if b then inst ∷ [] else [])) named_here in
          let all : length func.args + length (filter has_result (done ++ inst ∷ [])) ≡ next = omega (arith, parts, none, same) in
          all ∙ sym (ap (λ (b : Bool). if b then next + 1 else next) named_here)

  cut_from : (done insts : List Instruction) → instructions_of func.blocks ≡ done ++ insts
      → AllCut content.layouts (calls content tables stands) func table standing (length func.args + length (filter has_result done)) insts
  cut_from done [] whole = tt
  cut_from done (inst ∷ insts) whole =
      let at = ap (λ (all : List Instruction). slice_get all (length done)) whole ∙ get_middle done inst insts in
      let front : take (length done) (instructions_of func.blocks) ≡ done = ap (take (length done)) whole ∙ take_front_of done (inst ∷ insts) in
      let number : number_at func (length done) ≡ length func.args + length (filter has_result done) = ap (λ (all : List Instruction). length func.args + length (filter has_result all)) front in (
        subst (λ (n : ℕ). Cut n inst) number (line_cut (length done) inst at),
        subst (λ (n : ℕ). AllCut content.layouts (calls content tables stands) func table standing n insts)
            (following_is (length func.args + length (filter has_result done)) done inst refl)
            (cut_from (done ++ inst ∷ []) insts (whole ∙ sym (append_assoc done (inst ∷ []) insts))),
      )

  -- each line of the text
  pub all_cut : AllCut content.layouts (calls content tables stands) func table standing (length func.args) (instructions_of func.blocks)
  all_cut =
      let same : length func.args + 0 ≡ length func.args = omega arith in
      subst (λ (n : ℕ). AllCut content.layouts (calls content tables stands) func table standing n (instructions_of func.blocks)) same (cut_from [] (instructions_of func.blocks) refl)
