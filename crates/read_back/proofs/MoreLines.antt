-- Conversions, selections, branches, returns and steps of addresses on their lines.
use Rattle.std.proofs.Common.{◌≡◌, refl, ℕ, ◌<◌, ◌≤◌, true, false, List, [], ◌∷◌, ◌++◌, length, Some, None, arith, codes, decimal, append_assoc, inl}
use Rattle.std.proofs.lemmas.Fmt.{decimal_digit}
use Rattle.sp_ids.specs.declared.ids.BlockId.{BlockId}
use Rattle.sp_text.specs.Tokens.{is_name}
use Rattle.ir_ast.specs.declared.types.Ty.{Ty}
use Rattle.ir_ast.specs.declared.types.Ty.TheVariants as tys
use Rattle.ir_ast.specs.declared.ops.Operand.{Operand}
use Rattle.ir_ast.specs.declared.ops.Op.{Op}
use Rattle.ir_ast.specs.declared.ops.Op.TheVariants as ast
use Rattle.ir_ast.specs.Operands.{is_value}
use Rattle.ir_ast.specs.Ops.{is_terminator}
use Rattle.ir_ast.specs.Types.{is_first_class}
use Rattle.ir_ast.specs.Values.{value_types}
use Rattle.ir_ast.specs.Faults.TypeClash.{Fits}
use Rattle.ir_printer.specs.Names.{Names, block_name}
use Rattle.ir_printer.specs.Words.{type_text}
use Rattle.ir_printer.specs.Operands.{value_text}
use Rattle.ir_printer.specs.Lines.{result_front, operator_text, conversion_text, return_text}
use Rattle.line_forms.specs.declared.forms.Form.TheVariants as forms
use Rattle.line_tokens.specs.declared.words.Conversion.{Conversion}
use Rattle.line_tokens.specs.Words.{conversion_word}
use Rattle.line_forms.specs.Slots as parts
use Rattle.ir_lines.specs.Statements as statements
use Rattle.read_back.specs.Said.{word_of, value_says, operator_says, convert_says}
use Rattle.read_back.proofs.Forms.{convert_line, select_line, branch_line, return_line}
use Rattle.read_back.proofs.Operands.{HaveNames, IsNarrow, block-named, type_spelled, type_allowed, value_spelled}
use Rattle.read_back.proofs.OneLine.{OneLine, made}

convert_shape : (names : Names) (op : Conversion) (o : Op) (n : List ℕ) (bits to : ℕ) (a : Operand)
    → result_front (Some n) ++ conversion_text names (conversion_word op) to (made (Some n) o (tys.Int bits) (a ∷ []) [])
    ≡ 37 ∷ (n ++ (32 ∷ 61 ∷ 32 ∷ (conversion_word op ++ (32 ∷ 105 ∷ (decimal bits ++ (32 ∷ (value_text names (tys.Int bits) a ++ (codes " to i" ++ decimal to))))))))
convert_shape names op o n bits to a = simp append_assoc

-- `%x = trunc iN V to iM`, and likewise `zext` and `sext`
pub convert_reads : (names : Names) → HaveNames names → (op : Conversion) (o : Op) (n : List ℕ) (bits to : ℕ) (a : Operand) → is_name n ≡ true → (1 ≤ bits) × (bits ≤ 64) → (1 ≤ to) × (to ≤ 64)
    → is_value a ≡ true → Fits (value_types names.func) a (tys.Int bits)
    → operator_text names o (made (Some n) o (tys.Int bits) (a ∷ []) []) ≡ conversion_text names (conversion_word op) to (made (Some n) o (tys.Int bits) (a ∷ []) [])
    → operator_says names o (made (Some n) o (tys.Int bits) (a ∷ []) []) ≡ convert_says names op to (made (Some n) o (tys.Int bits) (a ∷ []) []) ∷ []
    → is_terminator o ≡ false
    → OneLine names (made (Some n) o (tys.Int bits) (a ∷ []) [])
convert_reads names have op o n bits to a is narrow high a_is a_fits text say inside = record {
  form = forms.Convert op;
  items = parts.name n ∷ parts.width bits ∷ parts.value (value_says names (tys.Int bits) a) ∷ parts.width to ∷ [];
  reads = rw text (rw (convert_shape names op o n bits to a) (convert_line op n is bits narrow to high (value_spelled names have (tys.Int bits) narrow a a_is a_fits)));
  says = say;
  fits = refl;
  stands = rw inside refl;
  counts = refl;
  kept = refl;
  both = inl refl;
}

one_digit : decimal 1 ≡ 49 ∷ []
one_digit = decimal_digit 1 (omega arith)

condition_narrow : (1 ≤ 1) × (1 ≤ 64)
condition_narrow = (omega arith, omega arith)

select_shape : (names : Names) (n : List ℕ) (ty : Ty) (c a b : Operand)
    → result_front (Some n) ++ operator_text names ast.Select (made (Some n) ast.Select ty (c ∷ a ∷ b ∷ []) [])
    ≡ 37 ∷ (n ++ (32 ∷ 61 ∷ 32 ∷ (codes "select i1 " ++ (value_text names (tys.Int 1) c ++ (44 ∷ 32 ∷ (type_text ty ++ (32 ∷ (value_text names ty a ++ (44 ∷ 32 ∷ (type_text ty ++ (32 ∷ value_text names ty b)))))))))))
select_shape names n ty c a b = simp (one_digit, append_assoc)

-- `%x = select i1 V, T V, T V`
pub select_reads : (names : Names) → HaveNames names → (n : List ℕ) (ty : Ty) (c a b : Operand) → is_name n ≡ true → is_first_class ty ≡ true → IsNarrow ty
    → is_value c ≡ true → is_value a ≡ true → is_value b ≡ true
    → Fits (value_types names.func) c (tys.Int 1) → Fits (value_types names.func) a ty → Fits (value_types names.func) b ty
    → OneLine names (made (Some n) ast.Select ty (c ∷ a ∷ b ∷ []) [])
select_reads names have n ty c a b is first narrow c_is a_is b_is c_fits a_fits b_fits = record {
  form = forms.Select;
  items = parts.name n ∷ parts.value (value_says names (tys.Int 1) c) ∷ parts.ty (word_of ty) ∷ parts.value (value_says names ty a) ∷ parts.ty (word_of ty) ∷ parts.value (value_says names ty b) ∷ [];
  reads = rw (select_shape names n ty c a b) (select_line n is (type_spelled ty first narrow) (type_allowed ty first)
      (value_spelled names have (tys.Int 1) condition_narrow c c_is c_fits) (value_spelled names have ty narrow a a_is a_fits) (value_spelled names have ty narrow b b_is b_fits));
  says = refl;
  fits = refl;
  stands = refl;
  counts = refl;
  kept = refl;
  both = inl refl;
}

branch_shape : (names : Names) (ty : Ty) (c : Operand) (l m : BlockId)
    → operator_text names ast.CondBr (made None ast.CondBr ty (c ∷ []) (l ∷ m ∷ []))
    ≡ codes "br i1 " ++ (value_text names (tys.Int 1) c ++ (codes ", label %" ++ (block_name names.func l.0 ++ (codes ", label %" ++ block_name names.func m.0))))
branch_shape names ty c l m = simp (one_digit, append_assoc)

-- `br i1 V, label %l, label %m`
pub branch_reads : (names : Names) → HaveNames names → (ty : Ty) (c : Operand) (l m : BlockId) → is_value c ≡ true → Fits (value_types names.func) c (tys.Int 1)
    → l.0 < length names.func.blocks → m.0 < length names.func.blocks → OneLine names (made None ast.CondBr ty (c ∷ []) (l ∷ m ∷ []))
branch_reads names have ty c l m c_is c_fits l_low m_low = record {
  form = forms.Branch;
  items = parts.value (value_says names (tys.Int 1) c) ∷ parts.name (block_name names.func l.0) ∷ parts.name (block_name names.func m.0) ∷ [];
  reads = rw (branch_shape names ty c l m) (branch_line (value_spelled names have (tys.Int 1) condition_narrow c c_is c_fits)
      (block_name names.func l.0) (block_name names.func m.0) (block-named names have l.0 l_low) (block-named names have m.0 m_low));
  says = refl;
  fits = refl;
  stands = refl;
  counts = refl;
  kept = refl;
  both = inl refl;
}

return_shape : (names : Names) (ty : Ty) (a : Operand) → is_first_class ty ≡ true
    → return_text names ty (made None ast.Ret ty (a ∷ []) []) ≡ codes "ret " ++ (type_text ty ++ (32 ∷ value_text names ty a))
return_shape names tys.Void a first = cc
return_shape names (tys.Int width) a first = refl
return_shape names tys.Ptr a first = refl
return_shape names tys.Token a first = cc

return_said : (names : Names) (ty : Ty) (a : Operand) → is_first_class ty ≡ true
    → operator_says names ast.Ret (made None ast.Ret ty (a ∷ []) []) ≡ statements.ret (word_of ty) (value_says names ty a) ∷ []
return_said names tys.Void a first = cc
return_said names (tys.Int width) a first = refl
return_said names tys.Ptr a first = refl
return_said names tys.Token a first = cc

-- `ret T V`
pub return_reads : (names : Names) → HaveNames names → (ty : Ty) (a : Operand) → is_first_class ty ≡ true → IsNarrow ty → is_value a ≡ true → Fits (value_types names.func) a ty
    → OneLine names (made None ast.Ret ty (a ∷ []) [])
return_reads names have ty a first narrow a_is a_fits = record {
  form = forms.Return;
  items = parts.ty (word_of ty) ∷ parts.value (value_says names ty a) ∷ [];
  reads = rw (return_shape names ty a first) (return_line (type_spelled ty first narrow) (type_allowed ty first) ((type_spelled ty first narrow).other (type_allowed ty first)) (value_spelled names have ty narrow a a_is a_fits));
  says = return_said names ty a first;
  fits = refl;
  stands = refl;
  counts = refl;
  kept = refl;
  both = inl refl;
}
