-- A kept line is a line.
use Rattle.std.proofs.Common.{◌≡◌, ℕ, suc, ◌<◌, Bool, true, false, ◌&&◌, List, [], ◌∷◌, ◌++◌, length, get_or, take, drop, map, refl, ap, sym, arith, inl, inr, ◌∙◌, subst}
use Rattle.std.specs.List.{All, list_all, flat_map}
use Rattle.std.proofs.lemmas.List.{length-map, take-map, drop-map}
use Rattle.std.proofs.lemmas.List.Elements.{All-nil, All-cons, All-head, All-tail, All-append}
use Rattle.std.proofs.lemmas.Bool.{and_parts, and_from, cases_Bool, false≢true}
use Rattle.list_laws.proofs.Contents.{all_back, all_front}
use Rattle.ir_ast.specs.declared.types.Ty.{Ty}
use Rattle.ir_ast.specs.declared.ops.Callee.{Callee}
use Rattle.ir_ast.specs.declared.ops.Callee.TheVariants.{TaskStart}
use Rattle.ir_ast.specs.declared.ops.Op.{Op}
use Rattle.ir_ast.specs.declared.ops.Op.TheVariants.{Add, Sub, Mul, Udiv, Sdiv, Urem, Srem, And, Or, Xor, Shl, Lshr, Ashr, Icmp, Trunc, Zext, Sext, Select, Phi, Gep, Load, Store, Call, Statepoint, GcResult, GcRelocate, Br, CondBr, Switch, Ret, Unreachable}
use Rattle.ir_ast.specs.declared.ops.Operand.{Operand}
use Rattle.ir_ast.specs.declared.ops.Operand.TheVariants.{Value, Int, Null, Fun}
use Rattle.ir_ast.specs.declared.funcs.Arg.{Arg}
use Rattle.ir_ast.specs.Insts.{Instruction}
use Rattle.ir_ast.specs.Funcs.{Function, instructions_of}
use Rattle.ir_ast.specs.Widths.{IsWidth, type_widths, operator_widths, line_widths, widths_of}
use Rattle.ir_ast.specs.Faults.PhiEdges.{is_phi}
use Rattle.ir_ast.specs.Types.{is_first_class}
use Rattle.ir_ast.specs.Lines.{Has, is_argument, Arguments, is_bundle, IsCall, IsStatepoint, StartsWithToken, IsRelocated, LineOf, IsLine}
use Rattle.ir_ast.specs.Operands.{is_value, is_literal}
use Rattle.ir_cfg.specs.Unreached.{Kept, kept_of, kept_by, operand_kept, label_kept, has_mark, inst_kept, function_kept}
use Rattle.ir_cfg.proofs.KeepsLines.{all_lines, inst_left, inst_new, line_at}
use Rattle.ir_cfg.proofs.KeepsUses.{phi_labels, phi_operands, plain_labels, plain_operands}

same_value : (kept : Kept) (operand : Operand) → is_value (operand_kept kept operand) ≡ is_value operand
same_value kept (Value value) = refl
same_value kept (Int number) = refl
same_value kept Null = refl
same_value kept (Fun func) = refl

same_literal : (kept : Kept) (operand : Operand) → is_literal (operand_kept kept operand) ≡ is_literal operand
same_literal kept (Value value) = refl
same_literal kept (Int number) = refl
same_literal kept Null = refl
same_literal kept (Fun func) = refl

-- a test that new numbers don't change
all_same : {A : Type 0} (test : A → Bool) (f : A → A) → ((x : A) → test (f x) ≡ test x) → (xs : List A)
    → list_all test (map f xs) ≡ list_all test xs
all_same test f same [] = refl
all_same test f same (x ∷ xs) = rw (same x, all_same test f same xs) refl

-- a test of all holds of those that are kept
all_left : {A : Type 0} (test : A → Bool) (marks : List Bool) (xs : List A) → list_all test xs ≡ true → list_all test (kept_of marks xs) ≡ true
all_left test marks [] all = refl
all_left test [] (x ∷ xs) all = refl
all_left test (true ∷ marks) (x ∷ xs) all =
    let parts = and_parts (test x) (list_all test xs) all in
    and_from (test x) (list_all test (kept_of marks xs)) parts.0 (all_left test marks xs parts.1)
all_left test (false ∷ marks) (x ∷ xs) all =
    let parts = and_parts (test x) (list_all test xs) all in
    all_left test marks xs parts.1

has_new : (kept : Kept) (named : Bool) (class : Ty → Bool) (operands labels : ℕ) (inst : Instruction)
    → Has named class operands labels inst → Has named class operands labels (inst_new kept inst)
has_new kept named class operands labels inst has = record {
  result = has.result;
  type = has.type;
  operand_count = length-map inst.operands (operand_kept kept) ∙ has.operand_count;
  values = all_same is_value (operand_kept kept) (same_value kept) inst.operands ∙ has.values;
  label_count = length-map inst.labels (label_kept kept) ∙ has.label_count;
  no_bundle = ap (map (λ entry. (entry.0, operand_kept kept entry.1))) has.no_bundle;
}

-- the same where the line says itself how many operands it has
has_as_many : (kept : Kept) (named : Bool) (class : Ty → Bool) (inst : Instruction)
    → Has named class (length inst.operands) (length inst.operands) inst
    → Has named class (length (inst_new kept inst).operands) (length (inst_new kept inst).operands) (inst_new kept inst)
has_as_many kept named class inst has = rw (length-map inst.operands (operand_kept kept)) (has_new kept named class (length inst.operands) (length inst.operands) inst has)

same_argument : (kept : Kept) (callee : Callee) (operand : Operand) (ty : Ty) → is_argument callee (operand_kept kept operand) ty ≡ is_argument callee operand ty
same_argument kept TaskStart (Value value) ty = refl
same_argument kept TaskStart (Int number) ty = refl
same_argument kept TaskStart Null ty = refl
same_argument kept TaskStart (Fun func) ty = refl
same_argument kept callee (Value value) ty = refl
same_argument kept callee (Int number) ty = refl
same_argument kept callee Null ty = refl
same_argument kept callee (Fun func) ty = refl

arguments_new : (kept : Kept) (callee : Callee) (operands : List Operand) (types : List Ty) → Arguments callee operands types
    → Arguments callee (map (operand_kept kept) operands) types
arguments_new kept callee [] [] are = are
arguments_new kept callee [] (ty ∷ types) are = absurd are
arguments_new kept callee (operand ∷ operands) [] are = absurd are
arguments_new kept callee (operand ∷ operands) (ty ∷ types) are =
    (same_argument kept callee operand ty ∙ are.0, arguments_new kept callee operands types are.1)

same_entry : (kept : Kept) (entry : Ty × Operand)
    → (is_first_class entry.0 && is_value (operand_kept kept entry.1)) ≡ (is_first_class entry.0 && is_value entry.1)
same_entry kept entry = rw (same_value kept entry.1) refl

bundle_new : (kept : Kept) (bundle : List (Ty × Operand)) → is_bundle (map (λ entry. (entry.0, operand_kept kept entry.1)) bundle) ≡ is_bundle bundle
bundle_new kept bundle = all_same (λ (entry : Ty × Operand). is_first_class entry.0 && is_value entry.1) (λ entry. (entry.0, operand_kept kept entry.1)) (same_entry kept) bundle

call_new : (kept : Kept) (callee : Callee) (types : List Ty) (inst : Instruction) → IsCall callee types inst
    → IsCall callee types (inst_new kept inst)
call_new kept callee types inst call = record {
  result = call.result;
  type = call.type;
  arguments = arguments_new kept callee inst.operands types call.arguments;
  no_labels = ap (map (label_kept kept)) call.no_labels;
  bundle = bundle_new kept inst.bundle ∙ call.bundle;
  leaf = λ is. ap (map (λ entry. (entry.0, operand_kept kept entry.1))) (call.leaf is);
}

statepoint_new : (kept : Kept) (callee : Callee) (types : List Ty) (inst : Instruction) → IsStatepoint callee types inst
    → IsStatepoint callee types (inst_new kept inst)
statepoint_new kept callee types inst point = record {
  result = point.result;
  type = point.type;
  arguments = rw (take-map (operand_kept kept) (length types) inst.operands) (arguments_new kept callee (take (length types) inst.operands) types point.arguments);
  entries = ap (list_all is_value) (drop-map (operand_kept kept) (length types) inst.operands)
      ∙ all_same is_value (operand_kept kept) (same_value kept) (drop (length types) inst.operands) ∙ point.entries;
  no_labels = ap (map (label_kept kept)) point.no_labels;
  bundle = bundle_new kept inst.bundle ∙ point.bundle;
}

literals_new : (kept : Kept) (operands : List Operand) → list_all is_literal (drop 1 operands) ≡ true
    → list_all is_literal (drop 1 (map (operand_kept kept) operands)) ≡ true
literals_new kept operands all =
    ap (list_all is_literal) (drop-map (operand_kept kept) 1 operands)
    ∙ all_same is_literal (operand_kept kept) (same_literal kept) (drop 1 operands) ∙ all

token_new : (kept : Kept) (operands : List Operand) (rest : List Operand) → map (operand_kept kept) rest ≡ rest
    → StartsWithToken operands rest → StartsWithToken (map (operand_kept kept) operands) rest
token_new kept operands rest same starts = (
  record { 0 = get_or kept.values starts.0.0 0 },
  ap (map (operand_kept kept)) starts.1
      ∙ ap (λ (os : List Operand). Value (record { 0 = get_or kept.values starts.0.0 0 }) ∷ os) same,
)

relocated_new : (kept : Kept) (operands : List Operand) → IsRelocated operands → IsRelocated (map (operand_kept kept) operands)
relocated_new kept operands is = (is.0, is.1, token_new kept operands (Int is.0 ∷ Int is.1 ∷ []) refl is.2)

some_new : (kept : Kept) (operands : List Operand) → 0 < length operands → 0 < length (map (operand_kept kept) operands)
some_new kept operands some = rw (length-map operands (operand_kept kept)) some

-- a line with new numbers is a line
pub line_new : (kept : Kept) (op : Op) (inst : Instruction) → LineOf op inst → LineOf op (inst_new kept inst)
line_new kept Add inst line = has_new kept _ _ _ _ inst line
line_new kept Sub inst line = has_new kept _ _ _ _ inst line
line_new kept Mul inst line = has_new kept _ _ _ _ inst line
line_new kept Udiv inst line = has_new kept _ _ _ _ inst line
line_new kept Sdiv inst line = has_new kept _ _ _ _ inst line
line_new kept Urem inst line = has_new kept _ _ _ _ inst line
line_new kept Srem inst line = has_new kept _ _ _ _ inst line
line_new kept And inst line = has_new kept _ _ _ _ inst line
line_new kept Or inst line = has_new kept _ _ _ _ inst line
line_new kept Xor inst line = has_new kept _ _ _ _ inst line
line_new kept Shl inst line = has_new kept _ _ _ _ inst line
line_new kept Lshr inst line = has_new kept _ _ _ _ inst line
line_new kept Ashr inst line = has_new kept _ _ _ _ inst line
line_new kept (Icmp pred) inst line = has_new kept _ _ _ _ inst line
line_new kept (Trunc width) inst line = has_new kept _ _ _ _ inst line
line_new kept (Zext width) inst line = has_new kept _ _ _ _ inst line
line_new kept (Sext width) inst line = has_new kept _ _ _ _ inst line
line_new kept Select inst line = has_new kept _ _ _ _ inst line
line_new kept Phi inst line = (has_as_many kept _ _ inst line.0, some_new kept inst.operands line.1)
line_new kept (Gep elem index_width place) inst line = (has_new kept _ _ _ _ inst line.0, line.1)
line_new kept Load inst line = has_new kept _ _ _ _ inst line
line_new kept Store inst line = has_new kept _ _ _ _ inst line
line_new kept (Call callee types) inst line = call_new kept callee types inst line
line_new kept (Statepoint id callee types) inst line = statepoint_new kept callee types inst line
line_new kept GcResult inst line = (has_new kept _ _ _ _ inst line.0, token_new kept inst.operands [] refl line.1)
line_new kept GcRelocate inst line = (has_new kept _ _ _ _ inst line.0, relocated_new kept inst.operands line.1)
line_new kept Br inst line = has_new kept _ _ _ _ inst line
line_new kept CondBr inst line = has_new kept _ _ _ _ inst line
line_new kept Switch inst line =
    (has_as_many kept _ _ inst line.0, some_new kept inst.operands line.1, literals_new kept inst.operands line.2)
line_new kept Ret inst line = has_new kept _ _ _ _ inst line
line_new kept Unreachable inst line = has_new kept _ _ _ _ inst line

pub same_count : {A B : Type 0} (marks : List Bool) (xs : List A) (ys : List B) → length xs ≡ length ys
    → length (kept_of marks xs) ≡ length (kept_of marks ys)
same_count marks [] [] same = refl
same_count marks [] (y ∷ ys) same = absurd (omega arith)
same_count marks (x ∷ xs) [] same = absurd (omega arith)
same_count [] (x ∷ xs) (y ∷ ys) same = refl
same_count (true ∷ marks) (x ∷ xs) (y ∷ ys) same = ap suc (same_count marks xs ys (omega arith))
same_count (false ∷ marks) (x ∷ xs) (y ∷ ys) same = same_count marks xs ys (omega arith)

pub left_plain : (kept : Kept) (inst : Instruction) → is_phi inst.op ≡ false → inst_left kept inst ≡ inst
left_plain kept inst plain = rw (plain_operands kept inst.op inst.labels inst.operands plain, plain_labels kept inst.op inst.labels plain) refl

pub phi_line : (op : Op) (inst : Instruction) → is_phi op ≡ true → LineOf op inst → LineOf Phi inst
phi_line Phi inst phi line = line
phi_line op inst phi line = absurd (false≢true phi)

line_phi : (op : Op) (inst : Instruction) → is_phi op ≡ true → LineOf Phi inst → LineOf op inst
line_phi Phi inst phi line = line
line_phi op inst phi line = absurd (false≢true phi)

phi_left : (kept : Kept) (inst : Instruction) → is_phi inst.op ≡ true → 0 < length (inst_left kept inst).operands
    → LineOf Phi inst → LineOf Phi (inst_left kept inst)
phi_left kept inst phi some line =
    let has = line.0 in
    let own = map (has_mark kept) inst.labels in
    let operands = phi_operands kept inst.op inst.labels inst.operands phi in
    let labels = phi_labels kept inst.op inst.labels phi in (
      record {
        result = has.result;
        type = has.type;
        operand_count = refl;
        values = ap (list_all is_value) operands ∙ all_left is_value own inst.operands has.values;
        label_count = ap length labels ∙ same_count own inst.labels inst.operands has.label_count ∙ sym (ap length operands);
        no_bundle = has.no_bundle;
      },
      some,
    )

-- a line that loses entries is a line, where a phi has some left
pub line_left : (kept : Kept) (inst : Instruction) → (is_phi inst.op ≡ true → 0 < length (inst_left kept inst).operands)
    → IsLine inst → IsLine (inst_left kept inst)
line_left kept inst some line =
    elim (cases_Bool (is_phi inst.op)) [
      | inl phi ↦ line_phi inst.op (inst_left kept inst) phi (phi_left kept inst phi (some phi) (phi_line inst.op inst phi line))
      | inr plain ↦ subst IsLine (sym (left_plain kept inst plain)) line
    ]

flat_mapped : {A B C : Type 0} (f : B → List C) (g : A → B) (h : A → List C) → ((x : A) → f (g x) ≡ h x) → (xs : List A)
    → flat_map f (map g xs) ≡ flat_map h xs
flat_mapped f g h same [] = refl
flat_mapped f g h same (x ∷ xs) = rw (same x) (ap (λ zs. h x ++ zs) (flat_mapped f g h same xs))

-- a kept line names the same widths
pub same_widths : (kept : Kept) (inst : Instruction) → line_widths (inst_kept kept inst) ≡ line_widths inst
same_widths kept inst =
    ap (λ (ws : List ℕ). operator_widths inst.op ++ type_widths inst.ty ++ ws)
    (flat_mapped (λ (entry : Ty × Operand). type_widths entry.0) (λ (entry : Ty × Operand). (entry.0, operand_kept kept entry.1))
    (λ (entry : Ty × Operand). type_widths entry.0) (λ entry. refl) inst.bundle)

pub all_flat : {A B : Type 0} (P : B → Type 0) (f : A → List B) (xs : List A) → All P (flat_map f xs) → All (λ x. All P (f x)) xs
all_flat P f [] all = All-nil (λ x. All P (f x))
all_flat P f (x ∷ xs) all =
    All-cons (λ x. All P (f x)) x xs (all_front P (f x) (flat_map f xs) all) (all_flat P f xs (all_back P (f x) (flat_map f xs) all))

pub flat_all : {A B : Type 0} (P : B → Type 0) (f : A → List B) (xs : List A) → All (λ x. All P (f x)) xs → All P (flat_map f xs)
flat_all P f [] all = All-nil P
flat_all P f (x ∷ xs) all =
    All-append P (f x) (flat_map f xs) (All-head (λ x. All P (f x)) x xs all) (flat_all P f xs (All-tail (λ x. All P (f x)) x xs all))

pub widths_kept : (marks : List Bool) (func : Function) → All IsWidth (widths_of func) → All IsWidth (widths_of (function_kept marks func))
widths_kept marks func all =
    let front = type_widths func.answer ++ flat_map (λ (arg : Arg). type_widths arg.ty) func.args in
    let old = all_flat IsWidth line_widths (instructions_of func.blocks) (all_back IsWidth front (flat_map line_widths (instructions_of func.blocks)) all) in
    All-append IsWidth front (flat_map line_widths (instructions_of (function_kept marks func).blocks))
    (all_front IsWidth front (flat_map line_widths (instructions_of func.blocks)) all)
    (flat_all IsWidth line_widths (instructions_of (function_kept marks func).blocks)
    (all_lines (λ inst. All IsWidth (line_widths inst)) marks func (λ inst kept.
    subst (All IsWidth) (sym (same_widths (kept_by marks func) inst))
    (line_at (λ (i : Instruction). All IsWidth (line_widths i)) func kept.number kept.place inst kept.stands old))))
