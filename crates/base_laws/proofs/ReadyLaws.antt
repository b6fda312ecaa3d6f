-- A source module without faults has all that the images of its lines ask for.
use Rattle.std.proofs.Common.{◌≡◌, ℕ, ◌<◌, true, false, List, [], ◌∷◌, length, map, refl, sym, ap, subst, arith}
use Rattle.std.specs.Prelude.{Option, Some, None, is_some, slice_get}
use Rattle.std.specs.List.{All, AllZip}
use Rattle.std.specs.Option.{option_map, option_map_or}
use Rattle.std.proofs.lemmas.List.{length-map}
use Rattle.std.proofs.lemmas.List.Elements.{All-nil}
use Rattle.list_laws.proofs.Contents.{all_at, all_from_at}
use Rattle.ir_ast.specs.declared.modules.Form.TheVariants.{Source}
use Rattle.ir_ast.specs.declared.types.Ty.{Ty}
use Rattle.ir_ast.specs.declared.types.Ty.TheVariants.{Void, Ptr}
use Rattle.ir_ast.specs.declared.ops.Callee.{Callee}
use Rattle.ir_ast.specs.declared.ops.Callee.TheVariants as callees
use Rattle.ir_ast.specs.declared.ops.Op.{Op}
use Rattle.ir_ast.specs.declared.ops.Op.TheVariants as ops
use Rattle.ir_ast.specs.Insts.{Instruction}
use Rattle.ir_ast.specs.Funcs.{Function, instructions_of}
use Rattle.ir_ast.specs.Modules.{ModuleContent}
use Rattle.ir_ast.specs.Lines.{IsCall, IsLine, LineOf, is_argument, is_rewritten}
use Rattle.ir_ast.specs.Operands.{values_used}
use Rattle.ir_ast.specs.Scope.{Signature, scope_of, signature_of}
use Rattle.ir_ast.specs.Values.{Definition, definition_type, definitions_of}
use Rattle.ir_ast.specs.Faultless.{FunctionHasNoFault, OfForm}
use Rattle.ir_ast.specs.Faults.EntryHasPred.{LeavesEntry}
use Rattle.ir_ast.specs.Faults.TypeClash.{Fits, FunctionIsTyped, IsCallOf, IsTyped, RuleOf, asked}
use Rattle.ir_ast.specs.Faults.UnknownName.{NamesOfFunction}
use Rattle.ir_ast.specs.Faults.Reserved.{IsSource}
use Rattle.ir_cfg.specs.SourceModules.{IsSourceModule}
use Rattle.ir_cfg.specs.TypedModules.{IsTypedFunction}
use Rattle.object_meaning.specs.Calls.{function_in}
use Rattle.base_forms.specs.Polls.{placed, poll_call}
use Rattle.renaming_laws.specs.Renamed.{ArgumentsFit, CalleeTakes, Renaming, Takes}
use Rattle.base_forms.proofs.PlacedLaws.{all_placed, definitions_placed}
use Rattle.base_laws.proofs.NumberLaws.{renaming_of}
use Rattle.base_laws.proofs.LineLaws.{IsReady}
use Rattle.list_laws.proofs.Zips.{zip_lengths}

abbrev no_function : Function
no_function = record { name = []; answer = Void; args = []; blocks = [] }

abbrev pub renaming_found : Option Function → Renaming
renaming_found found = renaming_of (is_some found) (placed (option_map_or (λ func. func) found no_function))

-- each function of the module, with its new numbers
abbrev pub renamings : ModuleContent → ℕ → Renaming
renamings content number = renaming_found (slice_get content.funcs number)

-- ---- calls

takes_found : (found : Option Function) (answer : Ty) (params : List Ty) (count : ℕ) → option_map signature_of found ≡ Some (record { answer = answer; params = params })
    → count ≡ length params → Takes (renaming_found found) count
takes_found None answer params count is same = absurd cc
takes_found (Some func) answer params count is same =
    let params_are : map (λ arg. arg.ty) func.args ≡ params = same_params (signature_of func) (record { answer = answer; params = params }) is in
    let many = length-map func.args (λ arg. arg.ty) in
    record { called = refl; few = let long = ap length params_are in omega arith }
  where
    same_params : (one other : Signature) → Some one ≡ Some other → one.params ≡ other.params
    same_params one other both = let same_one : one ≡ other = cc in ap (λ s. s.params) same_one

callee_takes : (content : ModuleContent) (func : Function) (inst : Instruction) (callee : Callee) (types : List Ty) → IsCall callee types inst → IsCallOf (scope_of content func) callee types inst
    → CalleeTakes (renamings content) callee inst.operands
callee_takes content func inst (callees.Fun named) types line call =
    takes_found (slice_get content.funcs named.0) inst.ty types (length inst.operands) call.signature
    (zip_lengths (λ operand ty. is_argument (callees.Fun named) operand ty ≡ true) inst.operands types line.arguments)
callee_takes content func inst callees.TaskStart types line call =
    let starts = call.operands in
    subst (λ (number : ℕ). Takes (renamings content number) 1) (sym (ap function_in starts.1))
    (takes_found (slice_get content.funcs starts.0.0) Void (Ptr ∷ []) 1 starts.2 refl)
callee_takes content func inst callee types line call = tt

-- ---- each line

module _ (content : ModuleContent) (source : IsSourceModule content) (number : ℕ) (func : Function) (found : slice_get content.funcs number ≡ Some func) where
  typed_function : IsTypedFunction Source func
  typed_function = all_at (IsTypedFunction Source) content.funcs number func (source.typed).functions found

  typed_lines : FunctionIsTyped (scope_of content func) func
  typed_lines = all_at (λ each. FunctionIsTyped (scope_of content each) each) content.funcs number func ((source.typed).no_fault).typed found

  no_fault : FunctionHasNoFault content func
  no_fault = all_at (FunctionHasNoFault content) content.funcs number func ((source.typed).no_fault).functions found

  is_source : IsSource func
  is_source = (subst (λ form. OfForm form func) (source.typed).of_form no_fault.form).0

  arguments_fit : (inst : Instruction) → IsLine inst → IsTyped (scope_of content func) inst → is_rewritten inst.op ≡ false → (op : Op) → inst.op ≡ op → ArgumentsFit (renamings content) op inst.operands
  arguments_fit inst line typed plain (ops.Call callee types) is =
      callee_takes content func inst callee types (subst (λ (op : Op). LineOf op inst) is line) (subst (λ (op : Op). RuleOf (scope_of content func) op inst) is typed.rule)
  arguments_fit inst line typed plain (ops.Statepoint id callee types) is = absurd (let rewritten = ap is_rewritten is in cc)
  arguments_fit inst line typed plain op is = tt

  ready_line : (place : ℕ) (inst : Instruction) → slice_get (instructions_of func.blocks) place ≡ Some inst → IsReady (renamings content) (placed func) inst
  ready_line place inst at =
      let line = all_at IsLine (instructions_of func.blocks) place inst typed_function.lines at in
      let typed = all_at (IsTyped (scope_of content func)) (instructions_of func.blocks) place inst typed_lines.lines at in
      let names = all_at (NamesOfFunction func) (instructions_of func.blocks) place inst no_fault.local at in
      let plain = all_at (λ each. is_rewritten each.op ≡ false) (instructions_of func.blocks) place inst is_source.lines at in
      record {
        typed = record {
          line = line;
          fits = subst (λ (all : List Definition). AllZip (Fits (map definition_type all)) inst.operands (asked inst.op inst.ty (length inst.operands))) (sym (definitions_placed func)) typed.operands;
        };
        known = subst (λ (all : List Definition). All (λ value. value < length all) (values_used inst)) (sym (definitions_placed func)) names.values;
        arguments = arguments_fit inst line typed plain inst.op refl;
        leaves = all_at LeavesEntry (instructions_of func.blocks) place inst no_fault.entry at;
      }

  ready_poll : IsReady (renamings content) (placed func) poll_call
  ready_poll = record {
    typed = record {
      line = record { result = refl; type = refl; arguments = tt; no_labels = refl; bundle = refl; leaf = λ leaf. refl };
      fits = tt;
    };
    known = All-nil (λ value. value < length (definitions_of (placed func)));
    arguments = tt;
    leaves = λ ends. absurd cc;
  }

  pub ready : All (IsReady (renamings content) (placed func)) (instructions_of (placed func).blocks)
  ready =
      all_placed (IsReady (renamings content) (placed func)) ready_poll 0 func.blocks
      (all_from_at (IsReady (renamings content) (placed func)) (instructions_of func.blocks) ready_line)

  pub has_block : 0 < length func.blocks
  has_block = typed_function.has_block
