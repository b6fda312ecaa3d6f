-- What an operator gives of literals that fit, fits the type of its result.
use Rattle.std.proofs.Common.{◌≡◌, ℕ, zero, suc, ◌+◌, ◌-◌, ◌*◌, ◌^◌, ◌<◌, Bool, true, false, ◌==◌, if◌then◌else◌, List, [], ◌∷◌, ◌++◌, length, replicate, refl, sym, ap, subst, ◌∙◌, arith, lit<}
use Rattle.std.specs.Prelude.{Ok, Err, Result, ◌/◌, ◌%◌, nat_lt, bit_and, bit_or, bit_xor, int_div, int_rem}
use Rattle.std.specs.Int.{w64, cast_unsigned, int_shr}
use Rattle.std.specs.List.{All, AllZip, list_all}
use Rattle.std.proofs.Math.Nat.{div-le_self, mod-le, one-le-pow}
use Rattle.std.proofs.Math.Pow.{pow_mono}
use Rattle.std.proofs.lemmas.Bool.{and_parts, false≢true}
use Rattle.std.proofs.lemmas.List.Elements.{All-head}
use Rattle.std.proofs.lemmas.Nat.{and_le_l, mod_below, or_lt, xor_lt}
use Rattle.list_laws.proofs.Contents.{all_front, all_back}
use Rattle.sp_ids.specs.Numbers.{signed, wrapped}
use Rattle.sp_ids.specs.declared.ends.Trap.{Trap}
use Rattle.sp_ids.specs.declared.ends.Trap.TheVariants.{Div, Overflow, Shift}
use Rattle.ir_ast.specs.declared.types.Ty.{Ty}
use Rattle.ir_ast.specs.declared.types.Ty.TheVariants as types
use Rattle.ir_ast.specs.declared.ops.Op.{Op}
use Rattle.ir_ast.specs.declared.ops.Op.TheVariants as ops
use Rattle.ir_ast.specs.declared.ops.Operand.{Operand}
use Rattle.ir_ast.specs.declared.ops.Operand.TheVariants.{Fun, Int, Null, Value}
use Rattle.ir_ast.specs.Insts.{Instruction}
use Rattle.ir_ast.specs.Lines.{IsLine, LineOf}
use Rattle.ir_ast.specs.Objects.{Datum, number}
use Rattle.ir_ast.specs.Operands.{is_literal}
use Rattle.ir_ast.specs.Scope.{Scope}
use Rattle.ir_ast.specs.Types.{is_integer}
use Rattle.ir_ast.specs.Values.{outcome_type}
use Rattle.ir_ast.specs.Widths.{IsWidth, line_widths, operator_widths, type_widths}
use Rattle.ir_ast.specs.Faults.TypeClash.{Fits, RuleOf, asked}
use Rattle.object_meaning.specs.Comparisons.{bit, compares}
use Rattle.object_meaning.specs.Computing.{computed, value_of_line, with_number}
use Rattle.object_meaning.specs.Numbers.{arithmetic, overflows, spelled, width_of}
use Rattle.object_meaning.specs.Registers.{is_set, number_in, operand}
use Rattle.known_values.specs.Onward.{computes}

-- ---- numbers

some_power : (width : ℕ) → 0 < 2 ^ width
some_power width = let one = one-le-pow width 2 (omega arith) in omega (arith, one)

wrapped_below : (width n : ℕ) → wrapped width n < 2 ^ width
wrapped_below width n = mod_below n (2 ^ width) (some_power width)

quotient_below : (bound left right : ℕ) → left < bound → left / right < bound
quotient_below bound left right below = let few = div-le_self left right in omega (arith, few, below)

same_number : (one other : ℕ) → ◌≡◌ {A = Result ℕ Trap} (Ok one) (Ok other) → one ≡ other
same_number one other is = cc

-- a result of a test
tested : (test : Bool) (trap : Trap) (value n bound : ℕ) → value < bound → ◌≡◌ {A = Result ℕ Trap} (if test then Err trap else Ok value) (Ok n) → n < bound
tested true trap value n bound below is = absurd cc
tested false trap value n bound below is = subst (λ (m : ℕ). m < bound) (same_number value n is) below

tested_other : (test : Bool) (trap : Trap) (value n bound : ℕ) → value < bound → ◌≡◌ {A = Result ℕ Trap} (if test then Ok value else Err trap) (Ok n) → n < bound
tested_other true trap value n bound below is = subst (λ (m : ℕ). m < bound) (same_number value n is) below
tested_other false trap value n bound below is = absurd cc

twice_tested : (test again : Bool) (trap other : Trap) (value n bound : ℕ) → value < bound
    → ◌≡◌ {A = Result ℕ Trap} (if test then Err trap else (if again then Err other else Ok value)) (Ok n) → n < bound
twice_tested true again trap other value n bound below is = absurd cc
twice_tested false again trap other value n bound below is = tested again other value n bound below is

remainder_below : (bound left right : ℕ) → left < bound → left % right < bound
remainder_below bound left right below = let few = mod-le left right in omega (arith, few, below)

arithmetic_fits : (op : Op) (width left right n : ℕ) → left < 2 ^ width → right < 2 ^ width → arithmetic op width left right ≡ Ok n → n < 2 ^ width
arithmetic_fits ops.Add width left right n one other is = subst (λ (m : ℕ). m < 2 ^ width) (same_number (wrapped width (left + right)) n is) (wrapped_below width (left + right))
arithmetic_fits ops.Sub width left right n one other is = subst (λ (m : ℕ). m < 2 ^ width) (same_number (wrapped width (left + (2 ^ 64 - right))) n is) (wrapped_below width (left + (2 ^ 64 - right)))
arithmetic_fits ops.Mul width left right n one other is = subst (λ (m : ℕ). m < 2 ^ width) (same_number (wrapped width (left * right)) n is) (wrapped_below width (left * right))
arithmetic_fits ops.Udiv width left right n one other is = tested (right == 0) Div (left / right) n (2 ^ width) (quotient_below (2 ^ width) left right one) is
arithmetic_fits ops.Urem width left right n one other is = tested (right == 0) Div (left % right) n (2 ^ width) (remainder_below (2 ^ width) left right one) is
arithmetic_fits ops.Sdiv width left right n one other is =
    twice_tested (wrapped width right == 0) (overflows width left right) Div Overflow (spelled width (int_div (signed width left) (signed width right))) n (2 ^ width)
    (wrapped_below width (cast_unsigned w64 (int_div (signed width left) (signed width right)))) is
arithmetic_fits ops.Srem width left right n one other is =
    twice_tested (wrapped width right == 0) (overflows width left right) Div Overflow (spelled width (int_rem (signed width left) (signed width right))) n (2 ^ width)
    (wrapped_below width (cast_unsigned w64 (int_rem (signed width left) (signed width right)))) is
arithmetic_fits ops.And width left right n one other is =
    subst (λ (m : ℕ). m < 2 ^ width) (same_number (bit_and left right) n is) (let few = and_le_l left right in omega (arith, few, one))
arithmetic_fits ops.Or width left right n one other is = subst (λ (m : ℕ). m < 2 ^ width) (same_number (bit_or left right) n is) (or_lt width left right one other)
arithmetic_fits ops.Xor width left right n one other is = subst (λ (m : ℕ). m < 2 ^ width) (same_number (bit_xor left right) n is) (xor_lt width left right one other)
arithmetic_fits ops.Shl width left right n one other is = tested_other (nat_lt right width) Shift (wrapped width (left * 2 ^ right)) n (2 ^ width) (wrapped_below width (left * 2 ^ right)) is
arithmetic_fits ops.Lshr width left right n one other is = tested_other (nat_lt right width) Shift (left / 2 ^ right) n (2 ^ width) (quotient_below (2 ^ width) left (2 ^ right) one) is
arithmetic_fits ops.Ashr width left right n one other is =
    tested_other (nat_lt right width) Shift (spelled width (int_shr (signed width left) right)) n (2 ^ width) (wrapped_below width (cast_unsigned w64 (int_shr (signed width left) right))) is
arithmetic_fits op width left right n one other is = subst (λ (m : ℕ). m < 2 ^ width) (same_number 0 n is) (some_power width)

-- ---- operands

pub width_same : (width : ℕ) → IsWidth width → width_of (types.Int width) ≡ width
width_same width is = let low = is.0 in let high = is.1 in omega (arith, low, high)

literal_below : (values : List Ty) (one : Operand) (width : ℕ) → is_literal one ≡ true → Fits values one (types.Int width) → number_in (operand [] (one ∷ []) 0) < 2 ^ width
literal_below values (Int word) width is fits =
    let same : width ≡ fits.0 = same_width width fits.0 fits.1 in
    subst (λ (w : ℕ). word < 2 ^ w) (sym same) fits.2
  where
    same_width : (w other : ℕ) → types.Int w ≡ types.Int other → w ≡ other
    same_width w other is = cc
literal_below values (Value id) width is fits = absurd (false≢true is)
literal_below values Null width is fits = absurd (false≢true is)
literal_below values (Fun called) width is fits = absurd (false≢true is)

-- each operand of such a type, or what stands where there is none
operand_below : (values : List Ty) (width : ℕ) (all : List Operand) (place : ℕ) → list_all is_literal all ≡ true → AllZip (Fits values) all (replicate (length all) (types.Int width))
    → number_in (operand [] all place) < 2 ^ width
operand_below values width [] place are fits = some_power width
operand_below values width (one ∷ all) zero are fits =
    let parts = and_parts (is_literal one) (list_all is_literal all) are in literal_below values one width parts.0 fits.0
operand_below values width (one ∷ all) (suc place) are fits =
    let parts = and_parts (is_literal one) (list_all is_literal all) are in operand_below values width all place parts.1 fits.1

chosen_fits : (values : List Ty) (ty : Ty) (all : List Operand) (literal : ℕ) → list_all is_literal all ≡ true → AllZip (Fits values) all (types.Int 1 ∷ ty ∷ ty ∷ [])
    → computed [] ops.Select ty (operand [] all 0) (operand [] all 1) (operand [] all 2) ≡ Ok (number literal) → Fits values (Int literal) ty
chosen_fits values ty [] literal are fits is = absurd fits
chosen_fits values ty (asks ∷ []) literal are fits is = absurd fits.1
chosen_fits values ty (asks ∷ first ∷ []) literal are fits is = absurd (fits.1).1
chosen_fits values ty (asks ∷ first ∷ second ∷ more ∷ all) literal are fits is = absurd ((fits.1).1).1
chosen_fits values ty (asks ∷ first ∷ second ∷ []) literal are fits is =
    let parts = and_parts (is_literal asks) (list_all is_literal (first ∷ second ∷ [])) are in
    let more = and_parts (is_literal first) (list_all is_literal (second ∷ [])) parts.1 in
    let last = and_parts (is_literal second) true more.1 in
    by (is_set (operand [] (asks ∷ []) 0)) first second more.0 last.0 (fits.1).0 ((fits.1).1).0 is
  where
    same_datum : (one other : ℕ) → ◌≡◌ {A = Result Datum Trap} (Ok (number one)) (Ok (number other)) → one ≡ other
    same_datum one other same = cc

    by : (test : Bool) (first second : Operand) → is_literal first ≡ true → is_literal second ≡ true → Fits values first ty → Fits values second ty
        → ◌≡◌ {A = Result Datum Trap} (Ok (if test then operand [] (first ∷ []) 0 else operand [] (second ∷ []) 0)) (Ok (number literal)) → Fits values (Int literal) ty
    by true (Int word) second one other fit fit_other is = subst (λ (n : ℕ). Fits values (Int n) ty) (same_datum word literal is) fit
    by true (Value id) second one other fit fit_other is = absurd (false≢true one)
    by true Null second one other fit fit_other is = absurd (false≢true one)
    by true (Fun called) second one other fit fit_other is = absurd (false≢true one)
    by false first (Int word) one other fit fit_other is = subst (λ (n : ℕ). Fits values (Int n) ty) (same_datum word literal is) fit_other
    by false first (Value id) one other fit fit_other is = absurd (false≢true other)
    by false first Null one other fit fit_other is = absurd (false≢true other)
    by false first (Fun called) one other fit fit_other is = absurd (false≢true other)

-- ---- a line

integer_there : (ty : Ty) → is_integer ty ≡ true → (width : ℕ) × (ty ≡ types.Int width)
integer_there (types.Int width) is = (width, refl)
integer_there types.Void is = absurd (false≢true is)
integer_there types.Ptr is = absurd (false≢true is)
integer_there types.Token is = absurd (false≢true is)

bit_below : (test : Bool) → bit test < 2 ^ 1
bit_below true = lit< tt
bit_below false = lit< tt

same_width : (width other : ℕ) → types.Int width ≡ types.Int other → width ≡ other
same_width width other is = cc

same_literal : (one other : ℕ) → ◌≡◌ {A = Result Datum Trap} (Ok (number one)) (Ok (number other)) → one ≡ other
same_literal one other is = cc

with_same : (result : Result ℕ Trap) (literal : ℕ) → with_number result ≡ Ok (number literal) → result ≡ Ok literal
with_same (Ok word) literal is = ap (λ (n : ℕ). (let r : Result ℕ Trap = Ok n in r)) (same_literal word literal is)
with_same (Err trap) literal is = absurd cc

module _ (values : List Ty) (all : List Operand) (are : list_all is_literal all ≡ true) (literal : ℕ) where
  abbrev at : ℕ → Datum
  at place = operand [] all place

  -- an operator on integers of one width
  by_arithmetic : (op : Op) (ty : Ty) → is_integer ty ≡ true → All IsWidth (type_widths ty) → AllZip (Fits values) all (replicate (length all) ty)
      → with_number (arithmetic op (width_of ty) (number_in (at 0)) (number_in (at 1))) ≡ Ok (number literal) → Fits values (Int literal) ty
  by_arithmetic op ty integer widths fits is =
      let width = integer_there ty integer in
      let its : All IsWidth (width.0 ∷ []) = subst (λ (t : Ty). All IsWidth (type_widths t)) width.1 widths in
      let bits = width_same width.0 (All-head IsWidth width.0 [] its) in
      let zip : AllZip (Fits values) all (replicate (length all) (types.Int width.0)) = subst (λ (t : Ty). AllZip (Fits values) all (replicate (length all) t)) width.1 fits in
      let result : arithmetic op width.0 (number_in (at 0)) (number_in (at 1)) ≡ Ok literal =
      ap (λ (w : ℕ). arithmetic op w (number_in (at 0)) (number_in (at 1))) (sym (ap width_of width.1 ∙ bits))
      ∙ with_same (arithmetic op (width_of ty) (number_in (at 0)) (number_in (at 1))) literal is in
      (width.0, width.1, arithmetic_fits op width.0 (number_in (at 0)) (number_in (at 1)) literal (operand_below values width.0 all 0 are zip) (operand_below values width.0 all 1 are zip) result)

  -- a conversion to a width
  by_bits : (width n : ℕ) → n < 2 ^ width → ◌≡◌ {A = Result Datum Trap} (Ok (number n)) (Ok (number literal)) → Fits values (Int literal) (types.Int width)
  by_bits width n below is = (width, refl, subst (λ (m : ℕ). m < 2 ^ width) (same_literal n literal is) below)

  wrapped_bits : (width n : ℕ) → IsWidth width → wrapped (width_of (types.Int width)) n < 2 ^ width
  wrapped_bits width n is = subst (λ (w : ℕ). wrapped (width_of (types.Int width)) n < 2 ^ w) (width_same width is) (wrapped_below (width_of (types.Int width)) n)

  widened : (width : ℕ) (ty : Ty) → (than : ℕ) × (ty ≡ types.Int than) × (than < width) → AllZip (Fits values) all (replicate (length all) ty) → number_in (at 0) < 2 ^ width
  widened width ty wider fits =
      let zip : AllZip (Fits values) all (replicate (length all) (types.Int wider.0)) = subst (λ (t : Ty). AllZip (Fits values) all (replicate (length all) t)) wider.1 fits in
      let below = operand_below values wider.0 all 0 are zip in
      let less = wider.2 in
      let more = pow_mono {i = wider.0} {j = width} (omega (arith, less)) in
      omega (arith, below, more)

  computed_fits : (scope : Scope) (inst : Instruction) (op : Op) → computes op ≡ true → LineOf op inst → RuleOf scope op inst → All IsWidth (operator_widths op) → All IsWidth (type_widths inst.ty)
      → AllZip (Fits values) all (asked op inst.ty (length all)) → computed [] op inst.ty (at 0) (at 1) (at 2) ≡ Ok (number literal) → Fits values (Int literal) (outcome_type op inst.ty)
  computed_fits scope inst ops.Add kind line rule own widths fits is = by_arithmetic ops.Add inst.ty line.type widths fits is
  computed_fits scope inst ops.Sub kind line rule own widths fits is = by_arithmetic ops.Sub inst.ty line.type widths fits is
  computed_fits scope inst ops.Mul kind line rule own widths fits is = by_arithmetic ops.Mul inst.ty line.type widths fits is
  computed_fits scope inst ops.Udiv kind line rule own widths fits is = by_arithmetic ops.Udiv inst.ty line.type widths fits is
  computed_fits scope inst ops.Sdiv kind line rule own widths fits is = by_arithmetic ops.Sdiv inst.ty line.type widths fits is
  computed_fits scope inst ops.Urem kind line rule own widths fits is = by_arithmetic ops.Urem inst.ty line.type widths fits is
  computed_fits scope inst ops.Srem kind line rule own widths fits is = by_arithmetic ops.Srem inst.ty line.type widths fits is
  computed_fits scope inst ops.And kind line rule own widths fits is = by_arithmetic ops.And inst.ty line.type widths fits is
  computed_fits scope inst ops.Or kind line rule own widths fits is = by_arithmetic ops.Or inst.ty line.type widths fits is
  computed_fits scope inst ops.Xor kind line rule own widths fits is = by_arithmetic ops.Xor inst.ty line.type widths fits is
  computed_fits scope inst ops.Shl kind line rule own widths fits is = by_arithmetic ops.Shl inst.ty line.type widths fits is
  computed_fits scope inst ops.Lshr kind line rule own widths fits is = by_arithmetic ops.Lshr inst.ty line.type widths fits is
  computed_fits scope inst ops.Ashr kind line rule own widths fits is = by_arithmetic ops.Ashr inst.ty line.type widths fits is
  computed_fits scope inst (ops.Icmp pred) kind line rule own widths fits is = by_bits 1 (bit (compares pred inst.ty (at 0) (at 1))) (bit_below (compares pred inst.ty (at 0) (at 1))) is
  computed_fits scope inst (ops.Trunc width) kind line rule own widths fits is =
      by_bits width (wrapped (width_of (types.Int width)) (number_in (at 0))) (wrapped_bits width (number_in (at 0)) (All-head IsWidth width [] own)) is
  computed_fits scope inst (ops.Zext width) kind line rule own widths fits is = by_bits width (number_in (at 0)) (widened width inst.ty rule fits) is
  computed_fits scope inst (ops.Sext width) kind line rule own widths fits is =
      by_bits width (wrapped (width_of (types.Int width)) (cast_unsigned w64 (signed (width_of inst.ty) (number_in (at 0)))))
      (wrapped_bits width (cast_unsigned w64 (signed (width_of inst.ty) (number_in (at 0)))) (All-head IsWidth width [] own)) is
  computed_fits scope inst ops.Select kind line rule own widths fits is = chosen_fits values inst.ty all literal are fits is
  computed_fits scope inst (ops.Gep elem index_width place) kind line rule own widths fits is = absurd cc
  computed_fits scope inst ops.Phi kind line rule own widths fits is = absurd (false≢true kind)
  computed_fits scope inst ops.Load kind line rule own widths fits is = absurd (false≢true kind)
  computed_fits scope inst ops.Store kind line rule own widths fits is = absurd (false≢true kind)
  computed_fits scope inst ops.GcResult kind line rule own widths fits is = absurd (false≢true kind)
  computed_fits scope inst ops.GcRelocate kind line rule own widths fits is = absurd (false≢true kind)
  computed_fits scope inst ops.Br kind line rule own widths fits is = absurd (false≢true kind)
  computed_fits scope inst ops.CondBr kind line rule own widths fits is = absurd (false≢true kind)
  computed_fits scope inst ops.Switch kind line rule own widths fits is = absurd (false≢true kind)
  computed_fits scope inst ops.Ret kind line rule own widths fits is = absurd (false≢true kind)
  computed_fits scope inst ops.Unreachable kind line rule own widths fits is = absurd (false≢true kind)
  computed_fits scope inst (ops.Call callee asks) kind line rule own widths fits is = absurd (false≢true kind)
  computed_fits scope inst (ops.Statepoint id callee asks) kind line rule own widths fits is = absurd (false≢true kind)

-- the literal that an operator gives of literals that fit, fits
pub literal_fits : (scope : Scope) (inst : Instruction) (all : List Operand) → computes inst.op ≡ true → IsLine inst → RuleOf scope inst.op inst → All IsWidth (line_widths inst)
    → list_all is_literal all ≡ true → AllZip (Fits scope.values) all (asked inst.op inst.ty (length all)) → (literal : ℕ) → value_of_line [] [] inst.op inst.ty all ≡ Ok (number literal)
    → Fits scope.values (Int literal) (outcome_type inst.op inst.ty)
literal_fits scope inst all kind line rule widths are fits literal is =
    let own = all_front IsWidth (operator_widths inst.op) (type_widths inst.ty) (all_front IsWidth (operator_widths inst.op ++ type_widths inst.ty) _ widths) in
    let its = all_back IsWidth (operator_widths inst.op) (type_widths inst.ty) (all_front IsWidth (operator_widths inst.op ++ type_widths inst.ty) _ widths) in
    computed_fits scope.values all are literal scope inst inst.op kind line rule own its fits is
