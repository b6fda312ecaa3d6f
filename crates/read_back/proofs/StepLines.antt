-- Steps of addresses on their lines.
use Rattle.std.proofs.Common.{◌≡◌, refl, ℕ, ◌<◌, ◌≤◌, ◌^◌, true, false, List, [], ◌∷◌, ◌++◌, length, Some, None, codes, decimal, append_assoc, append-nil, inl}
use Rattle.sp_text.specs.Tokens.{is_name}
use Rattle.ir_ast.specs.declared.types.Ty.TheVariants as tys
use Rattle.ir_ast.specs.declared.ops.Operand.{Operand}
use Rattle.ir_ast.specs.declared.ops.Elem.{Elem}
use Rattle.ir_ast.specs.declared.ops.Elem.TheVariants as elements
use Rattle.ir_ast.specs.declared.ops.Op.TheVariants as ast
use Rattle.ir_ast.specs.Operands.{is_value}
use Rattle.ir_ast.specs.Values.{value_types}
use Rattle.ir_ast.specs.Faults.TypeClash.{Fits}
use Rattle.ir_printer.specs.Names.{Names, layout_name}
use Rattle.ir_printer.specs.Operands.{value_text}
use Rattle.ir_printer.specs.Lines.{result_front, operator_text, element_text}
use Rattle.line_forms.specs.declared.forms.Form.TheVariants as forms
use Rattle.line_parts.specs.Types as types
use Rattle.line_parts.specs.Parts.{is_scalar_type}
use Rattle.line_forms.specs.Slots as parts
use Rattle.read_back.specs.Said.{value_says}
use Rattle.read_back.proofs.Spellings.{integer_type, pointer_type}
use Rattle.read_back.proofs.Forms.{scalar_line, layout_line, field_line}
use Rattle.read_back.proofs.Operands.{HaveNames, layout-named, value_spelled}
use Rattle.read_back.proofs.OneLine.{OneLine, made}

step_shape : (names : Names) (elem : Elem) (n : List ℕ) (bits : ℕ) (a b : Operand)
    → result_front (Some n) ++ operator_text names (ast.Gep elem bits None) (made (Some n) (ast.Gep elem bits None) tys.Ptr (a ∷ b ∷ []) [])
    ≡ 37 ∷ (n ++ (32 ∷ 61 ∷ 32 ∷ (codes "getelementptr " ++ (element_text names elem ++ (codes ", ptr addrspace(1) " ++ (value_text names tys.Ptr a ++ (codes ", i" ++ (decimal bits ++ (32 ∷ value_text names (tys.Int bits) b)))))))))
step_shape names elem n bits a b = simp (append_assoc, append-nil)

-- `%x = getelementptr iM, P V, iN V`
pub integer_step_reads : (names : Names) → HaveNames names → (n : List ℕ) (of_width bits : ℕ) (a b : Operand) → is_name n ≡ true → (1 ≤ of_width) × (of_width ≤ 64) → is_scalar_type (types.Int of_width) ≡ true → (1 ≤ bits) × (bits ≤ 64)
    → is_value a ≡ true → is_value b ≡ true → Fits (value_types names.func) a tys.Ptr → Fits (value_types names.func) b (tys.Int bits)
    → OneLine names (made (Some n) (ast.Gep (elements.Int of_width) bits None) tys.Ptr (a ∷ b ∷ []) [])
integer_step_reads names have n of_width bits a b is most scalar narrow a_is b_is a_fits b_fits = record {
  form = forms.ScalarElement;
  items = parts.name n ∷ parts.scalar (types.Int of_width) ∷ parts.value (value_says names tys.Ptr a) ∷ parts.width bits ∷ parts.value (value_says names (tys.Int bits) b) ∷ [];
  reads = rw (step_shape names (elements.Int of_width) n bits a b) (scalar_line n is (integer_type of_width most) scalar bits narrow
      (value_spelled names have tys.Ptr tt a a_is a_fits) (value_spelled names have (tys.Int bits) narrow b b_is b_fits));
  says = refl;
  fits = refl;
  stands = refl;
  counts = refl;
  kept = refl;
  both = inl refl;
}

-- `%x = getelementptr P, P V, iN V`
pub pointer_step_reads : (names : Names) → HaveNames names → (n : List ℕ) (bits : ℕ) (a b : Operand) → is_name n ≡ true → (1 ≤ bits) × (bits ≤ 64)
    → is_value a ≡ true → is_value b ≡ true → Fits (value_types names.func) a tys.Ptr → Fits (value_types names.func) b (tys.Int bits)
    → OneLine names (made (Some n) (ast.Gep elements.Ptr bits None) tys.Ptr (a ∷ b ∷ []) [])
pointer_step_reads names have n bits a b is narrow a_is b_is a_fits b_fits = record {
  form = forms.ScalarElement;
  items = parts.name n ∷ parts.scalar types.Managed ∷ parts.value (value_says names tys.Ptr a) ∷ parts.width bits ∷ parts.value (value_says names (tys.Int bits) b) ∷ [];
  reads = rw (step_shape names elements.Ptr n bits a b) (scalar_line n is pointer_type refl bits narrow
      (value_spelled names have tys.Ptr tt a a_is a_fits) (value_spelled names have (tys.Int bits) narrow b b_is b_fits));
  says = refl;
  fits = refl;
  stands = refl;
  counts = refl;
  kept = refl;
  both = inl refl;
}

-- `%x = getelementptr %T, P V, iN V`
pub layout_step_reads : (names : Names) → HaveNames names → (n : List ℕ) (layout bits : ℕ) (a b : Operand) → is_name n ≡ true → layout < length names.layouts → (1 ≤ bits) × (bits ≤ 64)
    → is_value a ≡ true → is_value b ≡ true → Fits (value_types names.func) a tys.Ptr → Fits (value_types names.func) b (tys.Int bits)
    → OneLine names (made (Some n) (ast.Gep (elements.Layout layout) bits None) tys.Ptr (a ∷ b ∷ []) [])
layout_step_reads names have n layout bits a b is low narrow a_is b_is a_fits b_fits = record {
  form = forms.LayoutElement;
  items = parts.name n ∷ parts.layout (layout_name names.layouts layout) ∷ parts.value (value_says names tys.Ptr a) ∷ parts.width bits ∷ parts.value (value_says names (tys.Int bits) b) ∷ parts.place None ∷ [];
  reads = rw (step_shape names (elements.Layout layout) n bits a b) (layout_line n is (layout_name names.layouts layout) (layout-named names have layout low) bits narrow
      (value_spelled names have tys.Ptr tt a a_is a_fits) (value_spelled names have (tys.Int bits) narrow b b_is b_fits));
  says = refl;
  fits = refl;
  stands = refl;
  counts = refl;
  kept = refl;
  both = inl refl;
}

field_shape : (names : Names) (layout : ℕ) (n : List ℕ) (bits field : ℕ) (a b : Operand)
    → result_front (Some n) ++ operator_text names (ast.Gep (elements.Layout layout) bits (Some field)) (made (Some n) (ast.Gep (elements.Layout layout) bits (Some field)) tys.Ptr (a ∷ b ∷ []) [])
    ≡ 37 ∷ (n ++ (32 ∷ 61 ∷ 32 ∷ (codes "getelementptr %" ++ (layout_name names.layouts layout ++ (codes ", ptr addrspace(1) " ++ (value_text names tys.Ptr a ++ (codes ", i" ++ (decimal bits ++ (32 ∷ (value_text names (tys.Int bits) b ++ (codes ", i32 " ++ decimal field)))))))))))
field_shape names layout n bits field a b = simp append_assoc

-- `%x = getelementptr %T, P V, iN V, i32 C`
pub field_step_reads : (names : Names) → HaveNames names → (n : List ℕ) (layout bits field : ℕ) (a b : Operand) → is_name n ≡ true → layout < length names.layouts → (1 ≤ bits) × (bits ≤ 64) → field < 2 ^ 64
    → is_value a ≡ true → is_value b ≡ true → Fits (value_types names.func) a tys.Ptr → Fits (value_types names.func) b (tys.Int bits)
    → OneLine names (made (Some n) (ast.Gep (elements.Layout layout) bits (Some field)) tys.Ptr (a ∷ b ∷ []) [])
field_step_reads names have n layout bits field a b is low narrow small a_is b_is a_fits b_fits = record {
  form = forms.LayoutElement;
  items = parts.name n ∷ parts.layout (layout_name names.layouts layout) ∷ parts.value (value_says names tys.Ptr a) ∷ parts.width bits ∷ parts.value (value_says names (tys.Int bits) b) ∷ parts.place (Some (record { negative = false; magnitude = field })) ∷ [];
  reads = rw (field_shape names layout n bits field a b) (field_line n is (layout_name names.layouts layout) (layout-named names have layout low) bits narrow
      (value_spelled names have tys.Ptr tt a a_is a_fits) (value_spelled names have (tys.Int bits) narrow b b_is b_fits) field small);
  says = refl;
  fits = refl;
  stands = refl;
  counts = refl;
  kept = refl;
  both = inl refl;
}
