-- Instructions that are printed on one line: the line's form, and what it says.
use Rattle.std.proofs.Common.{◌≡◌, refl, ap, sym, ◌∙◌, ℕ, ◌<◌, ◌≤◌, true, false, cond, List, [], ◌∷◌, ◌++◌, length, Option, Some, None, codes, decimal, append_assoc, inl, inr}
use Rattle.std.specs.Prelude.{◌⊎◌}
use Rattle.std.specs.List.{list_all}
use Rattle.sp_ids.specs.declared.ids.BlockId.{BlockId}
use Rattle.sp_text.specs.Tokens.{tokens, is_name}
use Rattle.ir_ast.specs.declared.types.Ty.{Ty}
use Rattle.ir_ast.specs.declared.types.Ty.TheVariants as tys
use Rattle.ir_ast.specs.declared.ops.Pred.{Pred}
use Rattle.ir_ast.specs.declared.ops.Pred.TheVariants as preds
use Rattle.line_tokens.specs.Words.{pred_word, binary_word}
use Rattle.ir_ast.specs.declared.ops.Operand.{Operand}
use Rattle.ir_ast.specs.declared.ops.Op.{Op}
use Rattle.ir_ast.specs.declared.ops.Op.TheVariants as ast
use Rattle.ir_ast.specs.Insts.{Instruction}
use Rattle.ir_ast.specs.Operands.{is_value}
use Rattle.ir_ast.specs.Types.{is_first_class}
use Rattle.ir_ast.specs.Values.{value_types}
use Rattle.ir_ast.specs.Faults.TypeClash.{Fits}
use Rattle.ir_ast.specs.Ops.{is_terminator}
use Rattle.ir_printer.specs.Names.{Names, block_name}
use Rattle.ir_printer.specs.Words.{type_text, predicate_word}
use Rattle.ir_printer.specs.Operands.{value_text}
use Rattle.ir_printer.specs.Lines.{result_front, operator_text, arithmetic_text}
use Rattle.ir_ast.specs.declared.modules.Form.{Form as TextForm}
use Rattle.ir_ast.specs.declared.modules.Form.TheVariants as text_forms
use Rattle.line_forms.specs.Forms.{form_in, is_dropped_form}
use Rattle.line_forms.specs.declared.forms.Form.{Form}
use Rattle.line_forms.specs.declared.forms.Form.TheVariants as forms
use Rattle.ir_reader.specs.declared.states.Counted.{Counted}
use Rattle.ir_reader.specs.declared.states.Counted.TheVariants as kinds
use Rattle.ir_reader.specs.declared.states.Place.{Place}
use Rattle.ir_reader.specs.declared.states.Place.TheVariants as places
use Rattle.line_tokens.specs.declared.words.Binary.{Binary}
use Rattle.ir_reader.specs.Limits.{item_fits, counts_as}
use Rattle.ir_reader.specs.Places.{behind_instruction}
use Rattle.line_forms.specs.Seen.{of_form}
use Rattle.line_forms.specs.Slots.{Item, name, width, ty, value, pred}
use Rattle.ir_lines.specs.Statements.{stated}
use Rattle.read_back.specs.Said.{word_of, value_says, instruction_says, operator_says, binary_says}
use Rattle.read_back.proofs.Forms.{ReadsAs, binary_line, compare_line, load_line, store_line, jump_line, unreachable_line, return_void_line}
use Rattle.read_back.proofs.FormsIn.{as_fit, ReadsIn, names_function, in_both, in_source}
use Rattle.read_back.proofs.Operands.{HaveNames, block-named, IsNarrow, type_spelled, type_allowed, value_spelled}

-- where a block stands behind an instruction
abbrev pub place_after : Op → Place
place_after op = cond (is_terminator op) places.Closed places.Block

-- The instruction is printed as a line of a form, which says what the instruction says and passes no limit of a line.
pub record OneLine (names : Names) (inst : Instruction) : Type 0 where
  pub form : Form
  pub items : List Item
  pub reads : ReadsAs (result_front inst.result ++ operator_text names inst.op inst) form items
  pub says : instruction_says names inst ≡ stated (of_form form items) ∷ []
  pub fits : list_all item_fits items ≡ true
  pub stands : behind_instruction form ≡ Some (place_after inst.op)
  pub counts : counts_as form items ≡ kinds.Instruction
  pub kept : is_dropped_form form ≡ false
  -- and it is the same line in the rewritten form
  pub both : (names_function form ≡ false) ⊎ (form_in text_forms.Rewritten (tokens (result_front inst.result ++ operator_text names inst.op inst)) ≡ Some form)

-- the line, in a text of either form
pub reads_in : (of : TextForm) (names : Names) (inst : Instruction) (one : OneLine names inst) → ReadsIn of (result_front inst.result ++ operator_text names inst.op inst) one.form one.items
reads_in text_forms.Source names inst one = in_source one.reads
reads_in text_forms.Rewritten names inst one = elim one.both [
  | inl plain ↦ in_both text_forms.Rewritten plain one.reads
  | inr is ↦ record { form_is = is; whole = as_fit one.reads; clean = one.reads.clean }
]

-- what an instruction counts as
abbrev pub counted_as : Op → Counted
counted_as ast.GcRelocate = kinds.Relocate
counted_as _ = kinds.Instruction

-- The instruction is printed as a line of a form in a text of this form, which says what the instruction says and passes no limit of a line.
pub record LineIn (of : TextForm) (names : Names) (inst : Instruction) : Type 0 where
  pub form : Form
  pub items : List Item
  pub reads : ReadsIn of (result_front inst.result ++ operator_text names inst.op inst) form items
  pub says : instruction_says names inst ≡ stated (of_form form items) ∷ []
  pub fits : list_all item_fits items ≡ true
  pub stands : behind_instruction form ≡ Some (place_after inst.op)
  pub counts : counts_as form items ≡ counted_as inst.op
  pub kept : is_dropped_form form ≡ false

pub one_in : (of : TextForm) (names : Names) (inst : Instruction) → counted_as inst.op ≡ kinds.Instruction → OneLine names inst → LineIn of names inst
one_in of names inst alone one = record {
  form = one.form;
  items = one.items;
  reads = reads_in of names inst one;
  says = one.says;
  fits = one.fits;
  stands = one.stands;
  counts = one.counts ∙ sym alone;
  kept = one.kept;
}

-- an instruction without a bundle
abbrev pub made : Option (List ℕ) → Op → Ty → List Operand → List BlockId → Instruction
made result op of_type operands labels = record { result = result; op = op; ty = of_type; operands = operands; labels = labels; bundle = [] }

-- a call or a statepoint
abbrev pub calling : Option (List ℕ) → Op → Ty → List Operand → List (Ty × Operand) → Instruction
calling result op of_type operands bundle = record { result = result; op = op; ty = of_type; operands = operands; labels = []; bundle = bundle }

binary_shape : (names : Names) (op : Binary) (o : Op) (n : List ℕ) (bits : ℕ) (a b : Operand)
    → result_front (Some n) ++ arithmetic_text names (binary_word op) (made (Some n) o (tys.Int bits) (a ∷ b ∷ []) [])
    ≡ 37 ∷ (n ++ (32 ∷ 61 ∷ 32 ∷ (binary_word op ++ (32 ∷ 105 ∷ (decimal bits ++ (32 ∷ (value_text names (tys.Int bits) a ++ (44 ∷ 32 ∷ value_text names (tys.Int bits) b))))))))
binary_shape names op o n bits a b = simp append_assoc

-- `%x = OP iN V, V`
pub binary_reads : (names : Names) → HaveNames names → (op : Binary) (o : Op) (n : List ℕ) (bits : ℕ) (a b : Operand) → is_name n ≡ true → (1 ≤ bits) × (bits ≤ 64)
    → is_value a ≡ true → is_value b ≡ true → Fits (value_types names.func) a (tys.Int bits) → Fits (value_types names.func) b (tys.Int bits)
    → operator_text names o (made (Some n) o (tys.Int bits) (a ∷ b ∷ []) []) ≡ arithmetic_text names (binary_word op) (made (Some n) o (tys.Int bits) (a ∷ b ∷ []) [])
    → operator_says names o (made (Some n) o (tys.Int bits) (a ∷ b ∷ []) []) ≡ binary_says names op (made (Some n) o (tys.Int bits) (a ∷ b ∷ []) []) ∷ []
    → is_terminator o ≡ false
    → OneLine names (made (Some n) o (tys.Int bits) (a ∷ b ∷ []) [])
binary_reads names have op o n bits a b is narrow a_is b_is a_fits b_fits text say inside = record {
  form = forms.Binary op;
  items = name n ∷ width bits ∷ value (value_says names (tys.Int bits) a) ∷ value (value_says names (tys.Int bits) b) ∷ [];
  reads = rw text (rw (binary_shape names op o n bits a b)
      (binary_line op n is bits narrow (value_spelled names have (tys.Int bits) narrow a a_is a_fits) (value_spelled names have (tys.Int bits) narrow b b_is b_fits)));
  says = say;
  fits = refl;
  stands = rw inside refl;
  counts = refl;
  kept = refl;
  both = inl refl;
}

-- ---- comparisons and conversions

pred_same : (p : Pred) → predicate_word p ≡ pred_word p
pred_same preds.Eq = refl
pred_same preds.Ne = refl
pred_same preds.Ugt = refl
pred_same preds.Uge = refl
pred_same preds.Ult = refl
pred_same preds.Ule = refl
pred_same preds.Sgt = refl
pred_same preds.Sge = refl
pred_same preds.Slt = refl
pred_same preds.Sle = refl

compare_printed : (names : Names) (p : Pred) (n : List ℕ) (ty : Ty) (a b : Operand)
    → result_front (Some n) ++ operator_text names (ast.Icmp p) (made (Some n) (ast.Icmp p) ty (a ∷ b ∷ []) [])
    ≡ 37 ∷ (n ++ (32 ∷ 61 ∷ 32 ∷ (codes "icmp " ++ (predicate_word p ++ (32 ∷ (type_text ty ++ (32 ∷ (value_text names ty a ++ (44 ∷ 32 ∷ value_text names ty b)))))))))
compare_printed names p n of_type a b = simp append_assoc

compare_shape : (names : Names) (p : Pred) (n : List ℕ) (ty : Ty) (a b : Operand)
    → result_front (Some n) ++ operator_text names (ast.Icmp p) (made (Some n) (ast.Icmp p) ty (a ∷ b ∷ []) [])
    ≡ 37 ∷ (n ++ (32 ∷ 61 ∷ 32 ∷ (codes "icmp " ++ (pred_word p ++ (32 ∷ (type_text ty ++ (32 ∷ (value_text names ty a ++ (44 ∷ 32 ∷ value_text names ty b)))))))))
compare_shape names p n of_type a b =
    compare_printed names p n of_type a b
    ∙ ap (λ spelled. 37 ∷ (n ++ (32 ∷ 61 ∷ 32 ∷ (codes "icmp " ++ (spelled ++ (32 ∷ (type_text of_type ++ (32 ∷ (value_text names of_type a ++ (44 ∷ 32 ∷ value_text names of_type b)))))))))) (pred_same p)

-- `%x = icmp PRED T V, V`
pub compare_reads : (names : Names) → HaveNames names → (p : Pred) (n : List ℕ) (ty : Ty) (a b : Operand) → is_name n ≡ true → is_first_class ty ≡ true → IsNarrow ty
    → is_value a ≡ true → is_value b ≡ true → Fits (value_types names.func) a ty → Fits (value_types names.func) b ty
    → OneLine names (made (Some n) (ast.Icmp p) ty (a ∷ b ∷ []) [])
compare_reads names have p n of_type a b is first narrow a_is b_is a_fits b_fits = record {
  form = forms.Compare;
  items = name n ∷ pred p ∷ ty (word_of of_type) ∷ value (value_says names of_type a) ∷ value (value_says names of_type b) ∷ [];
  reads = rw (compare_shape names p n of_type a b) (compare_line p n is (type_spelled of_type first narrow) (type_allowed of_type first)
      (value_spelled names have of_type narrow a a_is a_fits) (value_spelled names have of_type narrow b b_is b_fits));
  says = refl;
  fits = refl;
  stands = refl;
  counts = refl;
  kept = refl;
  both = inl refl;
}

-- ---- memory

load_shape : (names : Names) (n : List ℕ) (ty : Ty) (a : Operand)
    → result_front (Some n) ++ operator_text names ast.Load (made (Some n) ast.Load ty (a ∷ []) [])
    ≡ 37 ∷ (n ++ (32 ∷ 61 ∷ 32 ∷ (codes "load " ++ (type_text ty ++ (codes ", ptr addrspace(1) " ++ value_text names tys.Ptr a)))))
load_shape names n of_type a = simp append_assoc

-- `%x = load T, P V`
pub load_reads : (names : Names) → HaveNames names → (n : List ℕ) (ty : Ty) (a : Operand) → is_name n ≡ true → is_first_class ty ≡ true → IsNarrow ty
    → is_value a ≡ true → Fits (value_types names.func) a tys.Ptr → OneLine names (made (Some n) ast.Load ty (a ∷ []) [])
load_reads names have n of_type a is first narrow a_is a_fits = record {
  form = forms.Load;
  items = name n ∷ ty (word_of of_type) ∷ value (value_says names tys.Ptr a) ∷ [];
  reads = rw (load_shape names n of_type a) (load_line n is (type_spelled of_type first narrow) (type_allowed of_type first) (value_spelled names have tys.Ptr tt a a_is a_fits));
  says = refl;
  fits = refl;
  stands = refl;
  counts = refl;
  kept = refl;
  both = inl refl;
}

store_shape : (names : Names) (ty : Ty) (a b : Operand)
    → result_front None ++ operator_text names ast.Store (made None ast.Store ty (a ∷ b ∷ []) [])
    ≡ codes "store " ++ (type_text ty ++ (32 ∷ (value_text names ty a ++ (codes ", ptr addrspace(1) " ++ value_text names tys.Ptr b))))
store_shape names of_type a b = simp append_assoc

-- `store T V, P V`
pub store_reads : (names : Names) → HaveNames names → (ty : Ty) (a b : Operand) → is_first_class ty ≡ true → IsNarrow ty
    → is_value a ≡ true → is_value b ≡ true → Fits (value_types names.func) a ty → Fits (value_types names.func) b tys.Ptr → OneLine names (made None ast.Store ty (a ∷ b ∷ []) [])
store_reads names have of_type a b first narrow a_is b_is a_fits b_fits = record {
  form = forms.Store;
  items = ty (word_of of_type) ∷ value (value_says names of_type a) ∷ value (value_says names tys.Ptr b) ∷ [];
  reads = rw (store_shape names of_type a b) (store_line (type_spelled of_type first narrow) (type_allowed of_type first)
      (value_spelled names have of_type narrow a a_is a_fits) (value_spelled names have tys.Ptr tt b b_is b_fits));
  says = refl;
  fits = refl;
  stands = refl;
  counts = refl;
  kept = refl;
  both = inl refl;
}

-- ---- terminators

-- `br label %l`
pub jump_reads : (names : Names) → HaveNames names → (l : BlockId) → l.0 < length names.func.blocks → OneLine names (made None ast.Br tys.Void [] (l ∷ []))
jump_reads names have l low = record {
  form = forms.Jump;
  items = name (block_name names.func l.0) ∷ [];
  reads = jump_line (block_name names.func l.0) (block-named names have l.0 low);
  says = refl;
  fits = refl;
  stands = refl;
  counts = refl;
  kept = refl;
  both = inl refl;
}

-- `ret void`
pub return_void_reads : (names : Names) → OneLine names (made None ast.Ret tys.Void [] [])
return_void_reads names = record { form = forms.ReturnVoid; items = []; reads = return_void_line; says = refl; fits = refl; stands = refl; counts = refl; kept = refl; both = inl refl }

-- `unreachable`
pub unreachable_reads : (names : Names) → OneLine names (made None ast.Unreachable tys.Void [] [])
unreachable_reads names = record { form = forms.Unreachable; items = []; reads = unreachable_line; says = refl; fits = refl; stands = refl; counts = refl; kept = refl; both = inl refl }
