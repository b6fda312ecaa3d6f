-- Each line of a generated function has its form, names what there is, and fits the types of what it names.
use Rattle.std.proofs.Common.{◌≡◌, ◌≢◌, ℕ, ◌<◌, ◌^◌, false, List, [], ◌∷◌, length, Some, refl, sym, subst, arith}
use Rattle.std.specs.Prelude.{slice_get}
use Rattle.std.specs.List.{All}
use Rattle.std.proofs.lemmas.Bool.{false≢true}
use Rattle.std.proofs.lemmas.List.{length-map}
use Rattle.std.proofs.lemmas.List.Elements.{All-nil, All-from_recursion}
use Rattle.std.proofs.lemmas.Option.{slice_get_within}
use Rattle.sp_ids.specs.declared.ids.BlockId.{BlockId}
use Rattle.ir_ast.specs.declared.types.Ty.{Ty}
use Rattle.ir_ast.specs.declared.types.Ty.TheVariants.{Int as Integer, Ptr}
use Rattle.ir_ast.specs.declared.cells.Cell.TheVariants.{I64}
use Rattle.ir_ast.specs.declared.modules.Form.TheVariants.{Source}
use Rattle.ir_ast.specs.declared.ops.Operand.TheVariants.{Int}
use Rattle.ir_ast.specs.Insts.{Instruction}
use Rattle.ir_ast.specs.Funcs.{Function}
use Rattle.ir_ast.specs.Modules.{ModuleContent}
use Rattle.ir_ast.specs.Values.{definitions_of, definition_type, value_types}
use Rattle.ir_ast.specs.Derived.{Derived}
use Rattle.ir_ast.specs.Lines.{IsLine, is_rewritten}
use Rattle.ir_ast.specs.Widths.{IsWidth, line_widths}
use Rattle.ir_ast.specs.Scope.{scope_of, called_in}
use Rattle.ir_ast.specs.declared.ops.Operand.{Operand}
use Rattle.ir_ast.specs.Faults.TypeClash.{IsTyped, Fits}
use Rattle.ir_ast.specs.Faults.UnknownName.{NamesOfFunction, NamesOfModule}
use Rattle.ir_ast.specs.Faults.EntryHasPred.{LeavesEntry}
use Rattle.ir_ast.specs.Faults.PointerOrder.{orders_pointers}
use Rattle.ir_ast.specs.Faults.DerivedEscapes.{KeepsDerived}
use Rattle.ir_ast.specs.declared.ops.Callee.TheVariants.{Fun}
use Rattle.generated_forms.specs.Lines.{value, block, new_line, field_line, load_line, store_line, add_line, below_line, phi_line, call_line, print_line, jump_line, branch_line, return_line}
use Rattle.generated_forms.specs.Modules.{node}
use Rattle.list_laws.proofs.Contents.{all_one}

-- the module of these functions
abbrev pub module_of : List Function → ModuleContent
module_of funcs = record { layouts = node ∷ []; funcs = funcs; form = Source }

-- all that a source module asks of a line by itself
pub record IsFine (funcs : List Function) (func : Function) (inst : Instruction) : Type 0 where
  pub line : IsLine inst
  pub typed : IsTyped (scope_of (module_of funcs) func) inst
  pub local : NamesOfFunction func inst
  pub global : NamesOfModule (module_of funcs) inst
  pub entry : LeavesEntry inst
  pub pointers : orders_pointers inst.op inst.ty ≡ false
  pub plain : is_rewritten inst.op ≡ false
  pub bundle : inst.bundle ≡ []
  pub widths : All IsWidth (line_widths inst)
  pub stays : KeepsDerived func inst

-- the value with this number has the type
abbrev pub Has : Function → ℕ → Ty → Type 0
Has func number ty = slice_get (value_types func) number ≡ Some ty

known : (func : Function) (number : ℕ) (ty : Ty) → Has func number ty → number < length (definitions_of func)
known func number ty has =
    subst (λ n. number < n) (length-map (definitions_of func) definition_type) (slice_get_within (value_types func) number ty has)

two : {A : Type 0} (P : A → Type 0) (x y : A) → P x → P y → All P (x ∷ y ∷ [])
two P x y first second = All-from_recursion P (x ∷ y ∷ []) (first, (second, tt))

wide : IsWidth 64
wide = (omega arith, omega arith)

bit_wide : IsWidth 1
bit_wide = (omega arith, omega arith)

-- a value that isn't derived may be stored, passed and returned
abbrev pub Stays : Function → ℕ → Type 0
Stays func number = ¬ Derived func number

-- the module has a function `i64 (P, i64)` at this place
pub record Calls (funcs : List Function) (place : ℕ) : Type 0 where
  pub inside : place < length funcs
  pub taken : called_in funcs (Fun (record { 0 = place })) ≡ Some (record { answer = Integer 64; params = Ptr ∷ Integer 64 ∷ [] })

-- what holds of the parts of a line
abbrev Value : Function → ℕ → Type 0
Value func number = number < length (definitions_of func)

abbrev Inside : Function → BlockId → Type 0
Inside func label = label.0 < length func.blocks

abbrev Laid : List Function → ℕ → Type 0
Laid funcs layout = layout < length (module_of funcs).layouts

abbrev Named : List Function → ℕ → Type 0
Named funcs place = place < length funcs

abbrev Later : BlockId → Type 0
Later label = label.0 ≢ 0

abbrev Stay : Function → ℕ → Type 0
Stay func number = ¬ Derived func number

abbrev Passed : Function → Ty × Operand → Type 0
Passed func entry = Fits (value_types func) entry.1 entry.0

module _ (funcs : List Function) (func : Function) where
  pub fine_new : (name : List ℕ) (count : ℕ) → count < 2 ^ 64 → IsFine funcs func (new_line name count)
  fine_new name count small = record {
    line = record { result = refl; type = refl; arguments = (refl, tt); no_labels = refl; bundle = refl; leaf = λ _. refl };
    typed = record { operands = ((64, refl, small), tt); bundle = All-nil (Passed func); rule = record { signature = refl; operands = tt } };
    local = record { values = All-nil (Value func); blocks = All-nil (Inside func) };
    global = record { layouts = all_one (Laid funcs) 0 (omega arith); functions = All-nil (Named funcs) };
    entry = λ e. absurd (false≢true e);
    pointers = refl;
    plain = refl;
    bundle = refl;
    widths = all_one (IsWidth) 64 wide;
    stays = All-nil (Stay func);
  }

  pub fine_field : (name : List ℕ) (base element : ℕ) → Has func base Ptr → element < 2 ^ 64 → IsFine funcs func (field_line name base element)
  fine_field name base element from small = record {
    line = (record { result = refl; type = refl; operand_count = refl; values = refl; label_count = refl; no_bundle = refl }, refl);
    typed = record { operands = (from, ((64, refl, small), tt)); bundle = All-nil (Passed func); rule = omega arith };
    local = record { values = all_one (Value func) base (known func base Ptr from); blocks = All-nil (Inside func) };
    global = record { layouts = all_one (Laid funcs) 0 (omega arith); functions = All-nil (Named funcs) };
    entry = λ e. absurd (false≢true e);
    pointers = refl;
    plain = refl;
    bundle = refl;
    widths = all_one (IsWidth) 64 wide;
    stays = All-nil (Stay func);
  }

  pub fine_load : (name : List ℕ) (from : ℕ) → Has func from Ptr → IsFine funcs func (load_line name from)
  fine_load name from is = record {
    line = record { result = refl; type = refl; operand_count = refl; values = refl; label_count = refl; no_bundle = refl };
    typed = record { operands = (is, tt); bundle = All-nil (Passed func); rule = (I64, refl) };
    local = record { values = all_one (Value func) from (known func from Ptr is); blocks = All-nil (Inside func) };
    global = record { layouts = All-nil (Laid funcs); functions = All-nil (Named funcs) };
    entry = λ e. absurd (false≢true e);
    pointers = refl;
    plain = refl;
    bundle = refl;
    widths = all_one (IsWidth) 64 wide;
    stays = All-nil (Stay func);
  }

  pub fine_store : (what to : ℕ) → Has func what (Integer 64) → Stays func what → Has func to Ptr → IsFine funcs func (store_line (value what) to)
  fine_store what to is stays at = record {
    line = record { result = refl; type = refl; operand_count = refl; values = refl; label_count = refl; no_bundle = refl };
    typed = record { operands = (is, (at, tt)); bundle = All-nil (Passed func); rule = (I64, refl) };
    local = record { values = two (Value func) what to (known func what (Integer 64) is) (known func to Ptr at); blocks = All-nil (Inside func) };
    global = record { layouts = All-nil (Laid funcs); functions = All-nil (Named funcs) };
    entry = λ e. absurd (false≢true e);
    pointers = refl;
    plain = refl;
    bundle = refl;
    widths = all_one (IsWidth) 64 wide;
    stays = all_one (Stay func) what stays;
  }

  pub fine_store_literal : (what to : ℕ) → what < 2 ^ 64 → Has func to Ptr → IsFine funcs func (store_line (Int what) to)
  fine_store_literal what to small at = record {
    line = record { result = refl; type = refl; operand_count = refl; values = refl; label_count = refl; no_bundle = refl };
    typed = record { operands = ((64, refl, small), (at, tt)); bundle = All-nil (Passed func); rule = (I64, refl) };
    local = record { values = all_one (Value func) to (known func to Ptr at); blocks = All-nil (Inside func) };
    global = record { layouts = All-nil (Laid funcs); functions = All-nil (Named funcs) };
    entry = λ e. absurd (false≢true e);
    pointers = refl;
    plain = refl;
    bundle = refl;
    widths = all_one (IsWidth) 64 wide;
    stays = All-nil (Stay func);
  }

  pub fine_add : (name : List ℕ) (left right : ℕ) → Has func left (Integer 64) → Has func right (Integer 64) → IsFine funcs func (add_line name left (value right))
  fine_add name left right first second = record {
    line = record { result = refl; type = refl; operand_count = refl; values = refl; label_count = refl; no_bundle = refl };
    typed = record { operands = (first, (second, tt)); bundle = All-nil (Passed func); rule = tt };
    local = record { values = two (Value func) left right (known func left (Integer 64) first) (known func right (Integer 64) second); blocks = All-nil (Inside func) };
    global = record { layouts = All-nil (Laid funcs); functions = All-nil (Named funcs) };
    entry = λ e. absurd (false≢true e);
    pointers = refl;
    plain = refl;
    bundle = refl;
    widths = all_one (IsWidth) 64 wide;
    stays = All-nil (Stay func);
  }

  pub fine_add_literal : (name : List ℕ) (left right : ℕ) → Has func left (Integer 64) → right < 2 ^ 64 → IsFine funcs func (add_line name left (Int right))
  fine_add_literal name left right first small = record {
    line = record { result = refl; type = refl; operand_count = refl; values = refl; label_count = refl; no_bundle = refl };
    typed = record { operands = (first, ((64, refl, small), tt)); bundle = All-nil (Passed func); rule = tt };
    local = record { values = all_one (Value func) left (known func left (Integer 64) first); blocks = All-nil (Inside func) };
    global = record { layouts = All-nil (Laid funcs); functions = All-nil (Named funcs) };
    entry = λ e. absurd (false≢true e);
    pointers = refl;
    plain = refl;
    bundle = refl;
    widths = all_one (IsWidth) 64 wide;
    stays = All-nil (Stay func);
  }

  pub fine_below : (name : List ℕ) (left right : ℕ) → Has func left (Integer 64) → right < 2 ^ 64 → IsFine funcs func (below_line name left right)
  fine_below name left right first small = record {
    line = record { result = refl; type = refl; operand_count = refl; values = refl; label_count = refl; no_bundle = refl };
    typed = record { operands = (first, ((64, refl, small), tt)); bundle = All-nil (Passed func); rule = tt };
    local = record { values = all_one (Value func) left (known func left (Integer 64) first); blocks = All-nil (Inside func) };
    global = record { layouts = All-nil (Laid funcs); functions = All-nil (Named funcs) };
    entry = λ e. absurd (false≢true e);
    pointers = refl;
    plain = refl;
    bundle = refl;
    widths = all_one (IsWidth) 64 wide;
    stays = All-nil (Stay func);
  }

  -- a phi of two pointers
  pub fine_choice : (name : List ℕ) (first from second other : ℕ) → Has func first Ptr → Has func second Ptr → from < length func.blocks → other < length func.blocks
      → IsFine funcs func (phi_line name Ptr (value first) from second other)
  fine_choice name first from second other one_is two_is one_from two_from = record {
    line = (record { result = refl; type = refl; operand_count = refl; values = refl; label_count = refl; no_bundle = refl }, omega arith);
    typed = record { operands = (one_is, (two_is, tt)); bundle = All-nil (Passed func); rule = tt };
    local = record { values = two (Value func) first second (known func first Ptr one_is) (known func second Ptr two_is); blocks = two (Inside func) (block from) (block other) one_from two_from };
    global = record { layouts = All-nil (Laid funcs); functions = All-nil (Named funcs) };
    entry = λ e. absurd (false≢true e);
    pointers = refl;
    plain = refl;
    bundle = refl;
    widths = All-nil (IsWidth);
    stays = All-nil (Stay func);
  }

  -- a phi of a literal and a number
  pub fine_count : (name : List ℕ) (first from second other : ℕ) → first < 2 ^ 64 → Has func second (Integer 64) → from < length func.blocks → other < length func.blocks
      → IsFine funcs func (phi_line name (Integer 64) (Int first) from second other)
  fine_count name first from second other small is one_from two_from = record {
    line = (record { result = refl; type = refl; operand_count = refl; values = refl; label_count = refl; no_bundle = refl }, omega arith);
    typed = record { operands = ((64, refl, small), (is, tt)); bundle = All-nil (Passed func); rule = tt };
    local = record { values = all_one (Value func) second (known func second (Integer 64) is); blocks = two (Inside func) (block from) (block other) one_from two_from };
    global = record { layouts = All-nil (Laid funcs); functions = All-nil (Named funcs) };
    entry = λ e. absurd (false≢true e);
    pointers = refl;
    plain = refl;
    bundle = refl;
    widths = all_one (IsWidth) 64 wide;
    stays = All-nil (Stay func);
  }

  pub fine_call : (name : List ℕ) (place object number : ℕ) → Calls funcs place → Has func object Ptr → Stays func object → Has func number (Integer 64) → Stays func number
      → IsFine funcs func (call_line name place object (value number))
  fine_call name place object number calls is stays number_is number_stays = record {
    line = record { result = refl; type = refl; arguments = (refl, (refl, tt)); no_labels = refl; bundle = refl; leaf = λ _. refl };
    typed = record { operands = (is, (number_is, tt)); bundle = All-nil (Passed func); rule = record { signature = calls.taken; operands = tt } };
    local = record { values = two (Value func) object number (known func object Ptr is) (known func number (Integer 64) number_is); blocks = All-nil (Inside func) };
    global = record { layouts = All-nil (Laid funcs); functions = all_one (Named funcs) place calls.inside };
    entry = λ e. absurd (false≢true e);
    pointers = refl;
    plain = refl;
    bundle = refl;
    widths = two (IsWidth) 64 64 wide wide;
    stays = two (Stay func) object number stays number_stays;
  }

  pub fine_call_literal : (name : List ℕ) (place object number : ℕ) → Calls funcs place → Has func object Ptr → Stays func object → number < 2 ^ 64
      → IsFine funcs func (call_line name place object (Int number))
  fine_call_literal name place object number calls is stays small = record {
    line = record { result = refl; type = refl; arguments = (refl, (refl, tt)); no_labels = refl; bundle = refl; leaf = λ _. refl };
    typed = record { operands = (is, ((64, refl, small), tt)); bundle = All-nil (Passed func); rule = record { signature = calls.taken; operands = tt } };
    local = record { values = all_one (Value func) object (known func object Ptr is); blocks = All-nil (Inside func) };
    global = record { layouts = All-nil (Laid funcs); functions = all_one (Named funcs) place calls.inside };
    entry = λ e. absurd (false≢true e);
    pointers = refl;
    plain = refl;
    bundle = refl;
    widths = two (IsWidth) 64 64 wide wide;
    stays = all_one (Stay func) object stays;
  }

  pub fine_print : (number : ℕ) → Has func number (Integer 64) → Stays func number → IsFine funcs func (print_line number)
  fine_print number is stays = record {
    line = record { result = refl; type = refl; arguments = (refl, tt); no_labels = refl; bundle = refl; leaf = λ _. refl };
    typed = record { operands = (is, tt); bundle = All-nil (Passed func); rule = record { signature = refl; operands = tt } };
    local = record { values = all_one (Value func) number (known func number (Integer 64) is); blocks = All-nil (Inside func) };
    global = record { layouts = All-nil (Laid funcs); functions = All-nil (Named funcs) };
    entry = λ e. absurd (false≢true e);
    pointers = refl;
    plain = refl;
    bundle = refl;
    widths = all_one (IsWidth) 64 wide;
    stays = all_one (Stay func) number stays;
  }

  pub fine_jump : (to : ℕ) → to < length func.blocks → to ≢ 0 → IsFine funcs func (jump_line to)
  fine_jump to inside later = record {
    line = record { result = refl; type = refl; operand_count = refl; values = refl; label_count = refl; no_bundle = refl };
    typed = record { operands = tt; bundle = All-nil (Passed func); rule = tt };
    local = record { values = All-nil (Value func); blocks = all_one (Inside func) (block to) inside };
    global = record { layouts = All-nil (Laid funcs); functions = All-nil (Named funcs) };
    entry = λ _. all_one (Later) (block to) later;
    pointers = refl;
    plain = refl;
    bundle = refl;
    widths = All-nil (IsWidth);
    stays = All-nil (Stay func);
  }

  pub fine_branch : (test taken other : ℕ) → Has func test (Integer 1) → taken < length func.blocks → other < length func.blocks → taken ≢ 0 → other ≢ 0
      → IsFine funcs func (branch_line test taken other)
  fine_branch test taken other is taken_inside other_inside taken_later other_later = record {
    line = record { result = refl; type = refl; operand_count = refl; values = refl; label_count = refl; no_bundle = refl };
    typed = record { operands = (is, tt); bundle = All-nil (Passed func); rule = tt };
    local = record { values = all_one (Value func) test (known func test (Integer 1) is); blocks = two (Inside func) (block taken) (block other) taken_inside other_inside };
    global = record { layouts = All-nil (Laid funcs); functions = All-nil (Named funcs) };
    entry = λ _. two (Later) (block taken) (block other) taken_later other_later;
    pointers = refl;
    plain = refl;
    bundle = refl;
    widths = all_one (IsWidth) 1 bit_wide;
    stays = All-nil (Stay func);
  }

  pub fine_return : (answer : ℕ) → func.answer ≡ Integer 64 → Has func answer (Integer 64) → Stays func answer → IsFine funcs func (return_line (value answer))
  fine_return answer answers is stays = record {
    line = record { result = refl; type = refl; operand_count = refl; values = refl; label_count = refl; no_bundle = refl };
    typed = record { operands = (is, tt); bundle = All-nil (Passed func); rule = sym answers };
    local = record { values = all_one (Value func) answer (known func answer (Integer 64) is); blocks = All-nil (Inside func) };
    global = record { layouts = All-nil (Laid funcs); functions = All-nil (Named funcs) };
    entry = λ _. All-nil (Later);
    pointers = refl;
    plain = refl;
    bundle = refl;
    widths = all_one (IsWidth) 64 wide;
    stays = all_one (Stay func) answer stays;
  }

  pub fine_return_literal : (answer : ℕ) → func.answer ≡ Integer 64 → answer < 2 ^ 64 → IsFine funcs func (return_line (Int answer))
  fine_return_literal answer answers small = record {
    line = record { result = refl; type = refl; operand_count = refl; values = refl; label_count = refl; no_bundle = refl };
    typed = record { operands = ((64, refl, small), tt); bundle = All-nil (Passed func); rule = sym answers };
    local = record { values = All-nil (Value func); blocks = All-nil (Inside func) };
    global = record { layouts = All-nil (Laid funcs); functions = All-nil (Named funcs) };
    entry = λ _. All-nil (Later);
    pointers = refl;
    plain = refl;
    bundle = refl;
    widths = all_one (IsWidth) 64 wide;
    stays = All-nil (Stay func);
  }
