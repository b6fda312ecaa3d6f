-- The instructions of statepoint groups: their lines, and what they say.
use Rattle.std.proofs.Common.{◌≡◌, refl, ap, ◌∙◌, ℕ, ◌<◌, ◌≤◌, ◌^◌, true, false, List, [], ◌∷◌, ◌++◌, length, map, Some, arith, codes, decimal, append_assoc}
use Rattle.std.specs.Prelude.{drop, pos, ◌==◌, if◌then◌else◌}
use Rattle.std.specs.Fmt.{signed_decimal}
use Rattle.std.specs.List.{AllByRecursion, list_all, zip}
use Rattle.std.proofs.lemmas.Bool.{ne_eqb, or_right}
use Rattle.std.proofs.lemmas.List.Elements.{All-from_recursion}
use Rattle.sp_ids.specs.Numbers.{wrapped, signed}
use Rattle.sp_text.specs.Tokens.{Tok, tok, tokens, is_name, are_digits}
use Rattle.sp_text.specs.declared.tokens.Kind.TheVariants as kinds
use Rattle.ir_ast.specs.Widths.{IsWidth}
use Rattle.ir_ast.specs.declared.modules.Form.TheVariants as text_forms
use Rattle.ir_ast.specs.declared.types.Ty.{Ty}
use Rattle.ir_ast.specs.declared.types.Ty.TheVariants as tys
use Rattle.ir_ast.specs.declared.ops.Callee.{Callee}
use Rattle.ir_ast.specs.declared.ops.Operand.{Operand}
use Rattle.ir_ast.specs.declared.ops.Operand.TheVariants as operands
use Rattle.ir_ast.specs.declared.ops.Op.TheVariants as ast
use Rattle.ir_ast.specs.Types.{is_answer, is_first_class}
use Rattle.ir_ast.specs.Values.{definitions_of}
use Rattle.sp_ids.specs.declared.ids.ValueId.{ValueId}
use Rattle.std.specs.Char.{is_ascii_digit}
use Rattle.std.specs.Str.{bytes_eq}
use Rattle.ir_printer.specs.Names.{Names, value_name}
use Rattle.ir_printer.specs.Words.{type_text, integer_text}
use Rattle.ir_printer.specs.Operands.{parameter_text}
use Rattle.ir_printer.specs.Calls.{callee_name, statepoint_words, elementtype_words, end_words, result_words, relocate_words, bundles_text, result_suffix}
use Rattle.ir_printer.specs.Lines.{result_front, operator_text}
use Rattle.line_parts.specs.Types as types
use Rattle.line_forms.specs.declared.forms.Form.TheVariants as forms
use Rattle.line_tokens.specs.Families.{is_suffix}
use Rattle.line_parts.specs.Gives.{after}
use Rattle.line_parts.specs.Lists.{comma, is_argument_type, is_task_start}
use Rattle.line_tokens.specs.Marks.{is_mark, begins}
use Rattle.line_parts.specs.Parts.{allowed_type_at, spelled_type_at, pointer_at}
use Rattle.line_forms.specs.Slots as parts
use Rattle.line_parts.specs.Groups.{takes_own}
use Rattle.read_back.specs.Said.{word_of, value_says, kept_says, literal_of, parameter_says}
use Rattle.read_back.proofs.Steps.{first_of}
use Rattle.read_back.proofs.Spellings.{SpellsLiteral, literal_token, signed-spellable, integer_suffix, integer_type, pointer_type, decimal-is, decimal-digits}
use Rattle.read_back.proofs.Listed.{SpellsElement, others}
use Rattle.read_back.proofs.ListForms.{EndsAtMark, type_element, type_opens, plain_opens, plain_spelled, goes_by_comma}
use Rattle.read_back.proofs.Operands.{HaveNames, IsNarrow, value-named}
use Rattle.read_back.proofs.Functions.{answer_spelled, answer_allowed}
use Rattle.read_back.proofs.BackLists.{CalleeBelow}
use Rattle.read_back.proofs.BackNames.{IsKept}
use Rattle.read_back.proofs.CallLines.{PassedReads, passed_text, passed_given, callee-named, digits_named, each_element}
use Rattle.read_back.proofs.OneLine.{LineIn, made, calling}
use Rattle.read_back.proofs.GroupSteps.{call_spelled, SpellsCall}
use Rattle.read_back.proofs.BundleLines.{IsLive, statepoint_kept, bundles_in_limit}
use Rattle.read_back.proofs.FormsIn.{ReadsIn}
use Rattle.read_back.proofs.GroupForms.{ResultNamed, statepoint_front, statepoint_line, result_line, relocate_line}
use Rattle.ir_printer.proofs.IntegerLemmas.{decimal-32}

-- ---- numbers

integer_literal : (width number : ℕ) → width ≤ 64 → (1 < width) → SpellsLiteral (integer_text width number) (literal_of (signed width number))
unfolding integer_text
integer_literal width number most more = by (ne_eqb width 1 (λ e. omega arith))
  where
    by : (width == 1) ≡ false → SpellsLiteral (if width == 1 then (if wrapped 1 number == 0 then codes "false" else codes "true") else signed_decimal (signed width number)) (literal_of (signed width number))
    by other = rw other (literal_token (signed width number) (signed-spellable width number most))

-- ---- parameters

-- a type that a callee takes; a function's name goes to `task_start` alone
abbrev pub IsTaken : Ty → Type 0
IsTaken tys.Void = Unit {0}
IsTaken ty = (is_first_class ty ≡ true) × IsNarrow ty

plain_read : (ts : List Tok) (spelled : List ℕ) → first_of ts ≡ Some (tok kinds.Punct spelled) → allowed_type_at (is_argument_type true) (tok kinds.Word (codes "ptr") ∷ ts) ≡ Some (types.Plain, ts)
unfolding allowed_type_at spelled_type_at pointer_at after
plain_read [] spelled first = cc
plain_read (u ∷ us) spelled first = let same : u ≡ tok kinds.Punct spelled = cc in rw same refl

plain_taken : SpellsElement (allowed_type_at (is_argument_type true)) comma EndsAtMark (codes "ptr") types.Plain
plain_taken = record {
  clean = refl;
  says = λ rest ends. rw (plain_spelled rest ends.stop) (plain_read (tokens rest) ends.spelled ends.begins_so);
  shorter = λ rest ends. rw (plain_spelled rest ends.stop) (omega arith);
  goes = λ rest ends. goes_by_comma (codes "ptr" ++ rest);
}

taken_read : (ty : Ty) → IsTaken ty → SpellsElement (allowed_type_at (is_argument_type true)) comma EndsAtMark (parameter_text ty) (parameter_says ty)
taken_read tys.Void taken = plain_taken
taken_read (tys.Int width) taken = type_element (is_argument_type true) (integer_type width taken.1) refl
taken_read tys.Ptr taken = type_element (is_argument_type true) pointer_type refl
taken_read tys.Token taken = absurd (let bad : false ≡ true = taken.0 in cc)

taken_opens : (ty : Ty) → IsTaken ty → (rest : List ℕ) → EndsAtMark rest → begins (is_mark (codes ")")) (tokens (parameter_text ty ++ rest)) ≡ false
taken_opens tys.Void taken rest ends = plain_opens rest ends
taken_opens (tys.Int width) taken rest ends = type_opens (integer_type width taken.1) (codes ")") rest ends
taken_opens tys.Ptr taken rest ends = type_opens pointer_type (codes ")") rest ends
taken_opens tys.Token taken rest ends = absurd (let bad : false ≡ true = taken.0 in cc)

each_taken : (takes : List Ty) → AllByRecursion IsTaken takes → AllByRecursion (λ ty. SpellsElement (allowed_type_at (is_argument_type true)) comma EndsAtMark (parameter_text ty) (parameter_says ty)) takes
each_taken [] all = tt
each_taken (ty ∷ takes) all = (taken_read ty all.0, each_taken takes all.1)

each_taken_opens : (takes : List Ty) → AllByRecursion IsTaken takes → AllByRecursion (λ ty. (rest : List ℕ) → EndsAtMark rest → begins (is_mark (codes ")")) (tokens (parameter_text ty ++ rest)) ≡ false) takes
each_taken_opens [] all = tt
each_taken_opens (ty ∷ takes) all = (taken_opens ty all.0, each_taken_opens takes all.1)

-- ---- statepoints

-- what is known of a statepoint
pub record IsGuarded (names : Names) (callee : Callee) (takes : List Ty) (n : List ℕ) (ty : Ty) (os : List Operand) : Type 0 where
  pub named : is_name n ≡ true
  pub answers : is_answer ty ≡ true
  pub narrow : IsNarrow ty
  pub there : CalleeBelow names callee
  pub taken : AllByRecursion IsTaken takes
  pub own : takes_own (callee_name names callee) (map parameter_says takes) (map (passed_given names) (zip takes os)) ≡ true
  pub passed : AllByRecursion (PassedReads (is_task_start (callee_name names callee)) names) (zip takes os)
  pub live : AllByRecursion (IsLive names) (drop (length takes) os)
  pub few : length (drop (length takes) os) ≤ 16384
  pub counted : length takes < 2 ^ 64

spells_call : (names : Names) → HaveNames names → (id : ℕ) (callee : Callee) (takes : List Ty) (n : List ℕ) (ty : Ty) (os : List Operand) → IsGuarded names callee takes n ty os
    → SpellsCall (integer_text 64 id) (type_text ty) (callee_name names callee) (decimal (length takes)) (literal_of (signed 64 id)) (literal_of (pos (length takes))) (word_of ty)
    parameter_text parameter_says takes (passed_text names) (passed_given names) (zip takes os)
spells_call names have id callee takes n ty os is = record {
  numbered = integer_literal 64 id (omega arith) (omega arith);
  answers = answer_spelled ty is.answers is.narrow;
  allowed_answer = answer_allowed ty is.answers;
  parameters = All-from_recursion _ takes (each_taken takes is.taken);
  parameters_open = All-from_recursion _ takes (each_taken_opens takes is.taken);
  named = callee-named names have callee is.there;
  counted = literal_token (pos (length takes)) is.counted;
  arguments = All-from_recursion _ (zip takes os) (each_element (is_task_start (callee_name names callee)) names (zip takes os) is.passed);
  own = is.own;
}

statepoint_shape : (names : Names) (id : ℕ) (callee : Callee) (takes : List Ty) (n : List ℕ) (ty : Ty) (os : List Operand) (bundle : List (Ty × Operand))
    → result_front (Some n) ++ operator_text names (ast.Statepoint id callee takes) (calling (Some n) (ast.Statepoint id callee takes) ty os bundle)
    ≡ 37 ∷ (n ++ (32 ∷ 61 ∷ 32 ∷ statepoint_front (call_spelled (integer_text 64 id) (type_text ty) (map parameter_text takes) (callee_name names callee) (decimal (length takes))
    (others (passed_text names) (zip takes os)) (bundles_text names bundle (drop (length takes) os)))))
unfolding statepoint_words elementtype_words end_words
statepoint_shape names id callee takes n ty os bundle = simp append_assoc

-- `%t = call token (..) @llvm.experimental.gc.statepoint.p0(.. @f, .. T V, ..) [ "deopt"(T V, ..), "gc-live"(P V, ..) ]`
pub statepoint_reads : (names : Names) → HaveNames names → (id : ℕ) (callee : Callee) (takes : List Ty) (n : List ℕ) (ty : Ty) (os : List Operand) (bundle : List (Ty × Operand)) → IsGuarded names callee takes n ty os
    → AllByRecursion (IsKept names) bundle → length bundle ≤ 64 → LineIn text_forms.Rewritten names (calling (Some n) (ast.Statepoint id callee takes) ty os bundle)
statepoint_reads names have id callee takes n ty os bundle is kept few = record {
  form = forms.Statepoint;
  items = parts.name n ∷ parts.literal (literal_of (signed 64 id)) ∷ parts.ty (word_of ty) ∷ parts.types (map parameter_says takes) ∷ parts.name (callee_name names callee)
      ∷ parts.literal (literal_of (pos (length takes))) ∷ parts.handed (map (passed_given names) (zip takes os))
      ∷ parts.bundles (map (kept_says names) bundle) (map (value_says names tys.Ptr) (drop (length takes) os)) ∷ [];
  reads = rw (statepoint_shape names id callee takes n ty os bundle)
      (statepoint_line n is.named (spells_call names have id callee takes n ty os is) (statepoint_kept names have bundle (drop (length takes) os) kept is.live));
  says = refl;
  fits = rw (bundles_in_limit names bundle (drop (length takes) os) few is.few) refl;
  stands = refl;
  counts = refl;
  kept = refl;
}

-- ---- results and relocates

digits_word : (ds : List ℕ) → are_digits ds ≡ true → is_suffix (Some (105 ∷ ds)) ≡ true
digits_word ds digits = or_right (bytes_eq (105 ∷ ds) (codes "p1")) (are_digits ds) digits

integer_named : (ds : List ℕ) → list_all is_ascii_digit ds ≡ true → is_name (codes "llvm.experimental.gc.result." ++ (105 ∷ ds)) ≡ true
integer_named ds digits = rw (digits_named ds digits) refl

integer_result : (width : ℕ) (narrow : IsWidth width) → ResultNamed (integer_type width narrow) (105 ∷ decimal width)
integer_result width narrow = record {
  allowed = refl;
  same = integer_suffix width narrow;
  ends = digits_word (decimal width) (decimal-digits width (omega (arith, narrow.1)));
  named = integer_named (decimal width) (decimal-is width (omega (arith, narrow.1))).digits;
}

pointer_result : ResultNamed pointer_type (codes "p1")
pointer_result = record { allowed = refl; same = λ ts. refl; ends = refl; named = refl }

result_shape : (names : Names) (n : List ℕ) (ty : Ty) (token : ValueId)
    → result_front (Some n) ++ operator_text names ast.GcResult (made (Some n) ast.GcResult ty (operands.Value token ∷ []) [])
    ≡ 37 ∷ (n ++ (32 ∷ 61 ∷ 32 ∷ (codes "call " ++ (type_text ty ++ (32 ∷ 64 ∷ ((codes "llvm.experimental.gc.result." ++ result_suffix ty) ++ (40 ∷ (codes "token %" ++ (value_name names.func token.0 ++ codes ")")))))))))
unfolding result_words
result_shape names n ty token = simp append_assoc

-- `%x = call T @llvm.experimental.gc.result.S(token %t)`
pub result_reads : (names : Names) → HaveNames names → (n : List ℕ) (ty : Ty) (token : ValueId) → is_name n ≡ true → is_first_class ty ≡ true → IsNarrow ty → token.0 < length (definitions_of names.func)
    → LineIn text_forms.Rewritten names (made (Some n) ast.GcResult ty (operands.Value token ∷ []) [])
result_reads names have n ty token is first narrow low = record {
  form = forms.GcResult;
  items = parts.name n ∷ parts.ty (word_of ty) ∷ parts.name (value_name names.func token.0) ∷ [];
  reads = rw (result_shape names n ty token) (by ty first narrow);
  says = refl;
  fits = refl;
  stands = refl;
  counts = refl;
  kept = refl;
}
  where
    t_is : is_name (value_name names.func token.0) ≡ true
    t_is = value-named names have token.0 low

    by : (ty : Ty) → is_first_class ty ≡ true → IsNarrow ty
        → ReadsIn text_forms.Rewritten (37 ∷ (n ++ (32 ∷ 61 ∷ 32 ∷ (codes "call " ++ (type_text ty ++ (32 ∷ 64 ∷ ((codes "llvm.experimental.gc.result." ++ result_suffix ty) ++ (40 ∷ (codes "token %" ++ (value_name names.func token.0 ++ codes ")"))))))))))
        forms.GcResult (parts.name n ∷ parts.ty (word_of ty) ∷ parts.name (value_name names.func token.0) ∷ [])
    by tys.Void first narrow = absurd (let bad : false ≡ true = first in cc)
    by (tys.Int width) first narrow = result_line n is (integer_type width narrow) (105 ∷ decimal width) (integer_result width narrow) (value_name names.func token.0) t_is
    by tys.Ptr first narrow = result_line n is pointer_type (codes "p1") pointer_result (value_name names.func token.0) t_is
    by tys.Token first narrow = absurd (let bad : false ≡ true = first in cc)

relocate_parts : (n t w b d : List ℕ)
    → (codes "%" ++ (n ++ codes " = ")) ++ (codes "call ptr addrspace(1) @llvm.experimental.gc.relocate.p1(token " ++ ((codes "%" ++ t) ++ (codes ", "
    ++ (((codes "i" ++ w) ++ (codes " " ++ b)) ++ (codes ", " ++ (((codes "i" ++ w) ++ (codes " " ++ d)) ++ codes ")"))))))
    ≡ 37 ∷ (n ++ (32 ∷ 61 ∷ 32 ∷ (codes "call ptr addrspace(1) @llvm.experimental.gc.relocate.p1(token %" ++ (t ++ (codes ", i" ++ (w ++ (32 ∷ (b ++ (codes ", i" ++ (w ++ (32 ∷ (d ++ codes ")"))))))))))))
relocate_parts n t w b d =
    ap (λ y. 37 ∷ ((n ++ codes " = ") ++ (codes "call ptr addrspace(1) @llvm.experimental.gc.relocate.p1(token %" ++ (t ++ (codes ", i" ++ ((w ++ (32 ∷ b)) ++ (codes ", i" ++ y))))))) (append_assoc w (32 ∷ d) (codes ")"))
    ∙ ap (λ y. 37 ∷ ((n ++ codes " = ") ++ (codes "call ptr addrspace(1) @llvm.experimental.gc.relocate.p1(token %" ++ (t ++ (codes ", i" ++ y))))) (append_assoc w (32 ∷ b) (codes ", i" ++ (w ++ (32 ∷ (d ++ codes ")")))))
    ∙ ap (λ y. 37 ∷ y) (append_assoc n (codes " = ") (codes "call ptr addrspace(1) @llvm.experimental.gc.relocate.p1(token %" ++ (t ++ (codes ", i" ++ (w ++ (32 ∷ (b ++ (codes ", i" ++ (w ++ (32 ∷ (d ++ codes ")")))))))))))

relocate_shape : (names : Names) (n : List ℕ) (token : ValueId) (base derived : ℕ)
    → result_front (Some n) ++ operator_text names ast.GcRelocate (made (Some n) ast.GcRelocate tys.Ptr (operands.Value token ∷ operands.Int base ∷ operands.Int derived ∷ []) [])
    ≡ 37 ∷ (n ++ (32 ∷ 61 ∷ 32 ∷ (codes "call ptr addrspace(1) @llvm.experimental.gc.relocate.p1(token %" ++ (value_name names.func token.0 ++ (codes ", i32 " ++ (integer_text 32 base ++ (codes ", i32 " ++ (integer_text 32 derived ++ codes ")"))))))))
unfolding relocate_words
relocate_shape names n token base derived =
    relocate_parts n (value_name names.func token.0) (decimal 32) (integer_text 32 base) (integer_text 32 derived)
    ∙ ap (λ ds. 37 ∷ (n ++ (32 ∷ 61 ∷ 32 ∷ (codes "call ptr addrspace(1) @llvm.experimental.gc.relocate.p1(token %" ++ (value_name names.func token.0
    ++ (codes ", i" ++ (ds ++ (32 ∷ (integer_text 32 base ++ (codes ", i" ++ (ds ++ (32 ∷ (integer_text 32 derived ++ codes ")"))))))))))))) decimal-32

-- `%x = call P @llvm.experimental.gc.relocate.p1(token %t, i32 B, i32 D)`
pub relocate_reads : (names : Names) → HaveNames names → (n : List ℕ) (token : ValueId) (base derived : ℕ) → is_name n ≡ true → token.0 < length (definitions_of names.func)
    → LineIn text_forms.Rewritten names (made (Some n) ast.GcRelocate tys.Ptr (operands.Value token ∷ operands.Int base ∷ operands.Int derived ∷ []) [])
relocate_reads names have n token base derived is low = record {
  form = forms.GcRelocate;
  items = parts.name n ∷ parts.name (value_name names.func token.0) ∷ parts.literal (literal_of (signed 32 base)) ∷ parts.literal (literal_of (signed 32 derived)) ∷ [];
  reads = rw (relocate_shape names n token base derived) (relocate_line n is (value_name names.func token.0) (value-named names have token.0 low) (integer_literal 32 base (omega arith) (omega arith)) (integer_literal 32 derived (omega arith) (omega arith)));
  says = refl;
  fits = refl;
  stands = refl;
  counts = refl;
  kept = refl;
}
