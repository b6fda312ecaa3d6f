-- What the tests of operators, operands, types and marks say.
use Rattle.std.proofs.Common.{◌≡◌, ◌∙◌, ℕ, zero, suc, Bool, true, false, List, [], ◌∷◌, map, refl, sym, ap, slice_get}
use Rattle.std.specs.Prelude.{Option, Some, None, option_to_list}
use Rattle.std.specs.List.{filter_map}
use Rattle.std.proofs.lemmas.Bool.{false≢true, eqb-true}
use Rattle.std.proofs.lemmas.List.{take-map}
use Rattle.std.proofs.lemmas.Option.{get_or_from_slice_get, none-some, same_Some}
use Rattle.sp_ids.specs.declared.ids.BlockId.{BlockId}
use Rattle.ir_ast.specs.declared.types.Ty.{Ty}
use Rattle.ir_ast.specs.declared.types.Ty.TheVariants as types
use Rattle.ir_ast.specs.declared.ops.Operand.{Operand}
use Rattle.ir_ast.specs.declared.ops.Operand.TheVariants.{Value, Int, Null, Fun}
use Rattle.ir_ast.specs.declared.ops.Op.{Op}
use Rattle.ir_ast.specs.declared.ops.Op.TheVariants as ops
use Rattle.ir_ast.specs.Ops.{is_phi, is_member, is_statepoint, is_terminator}
use Rattle.ir_ast.specs.Types.{is_pointer}
use Rattle.ir_ast.specs.Operands.{named, same_operand, value_in}
use Rattle.ir_ast.specs.Derived.{is_merge}
use Rattle.ir_ast.specs.Lines.{is_rewritten}
use Rattle.ir_ast.specs.Lists.{has_mark}
use Rattle.ir_ast.specs.Faults.DerivedEscapes.{leaving}
use Rattle.ir_ast.specs.Faults.TypeClash.{Fits}

pub phi_is : (op : Op) → is_phi op ≡ true → op ≡ ops.Phi
phi_is ops.Phi is = refl
phi_is op is = absurd cc

pub phi_goes_on : (op : Op) → is_phi op ≡ true → is_terminator op ≡ false
phi_goes_on ops.Phi is = refl
phi_goes_on op is = absurd cc

pub merge_goes_on : (op : Op) → is_merge op ≡ true → is_terminator op ≡ false
merge_goes_on ops.Phi is = refl
merge_goes_on ops.Select is = refl
merge_goes_on op is = absurd cc

-- a phi belongs to no statepoint group
pub phi_outside : (op : Op) → is_phi op ≡ true → (is_statepoint op ≡ false) × (is_member op ≡ false)
phi_outside ops.Phi is = (refl, refl)
phi_outside op is = absurd cc

-- an operator of the source form belongs to no statepoint group
pub plain_member : (op : Op) → is_rewritten op ≡ false → is_member op ≡ false
plain_member ops.GcResult plain = absurd cc
plain_member ops.GcRelocate plain = absurd cc
plain_member op plain = refl

-- neither does a terminator
pub end_member : (op : Op) → is_terminator op ≡ true → is_member op ≡ false
end_member ops.GcResult ends = cc
end_member ops.GcRelocate ends = cc
end_member op ends = refl

-- operands that are others leave as what they are others of
pub leaving_map : (f : Operand → Operand) (op : Op) (all : List Operand) → leaving op (map f all) ≡ map f (leaving op all)
leaving_map f ops.Store all = take-map f 1 all
leaving_map f (ops.Call callee types) all = refl
leaving_map f ops.Ret all = refl
leaving_map f op all = refl

-- a value that fits has the type
pub value_typed : (values : List Ty) (one : Operand) (value : ℕ) (ty : Ty) → value_in one ≡ Some value → Fits values one ty → slice_get values value ≡ Some ty
value_typed values (Value id) value ty is fits = ap (slice_get values) (sym (same_Some id.0 value is)) ∙ fits
value_typed values (Int number) value ty is fits = absurd (none-some value is)
value_typed values Null value ty is fits = absurd (none-some value is)
value_typed values (Fun called) value ty is fits = absurd (none-some value is)

pub pointer_is : (ty : Ty) → is_pointer ty ≡ true → ty ≡ types.Ptr
pointer_is types.Ptr is = refl
pointer_is ty is = absurd cc

pub same_block : (one other : BlockId) → one.0 ≡ other.0 → one ≡ other
same_block one other e = ap (λ (n : ℕ). let b : BlockId = record { 0 = n } in b) e

pub same_is : (one other : Operand) → same_operand one other ≡ true → one ≡ other
same_is (Value value) (Value other) is = ap named (eqb-true value.0 other.0 is)
same_is (Int word) (Int other) is = ap (λ w. Int w) (eqb-true word other is)
same_is Null Null is = refl
same_is (Value value) (Int other) is = absurd cc
same_is (Value value) Null is = absurd cc
same_is (Value value) (Fun other) is = absurd cc
same_is (Int word) (Value other) is = absurd cc
same_is (Int word) Null is = absurd cc
same_is (Int word) (Fun other) is = absurd cc
same_is Null (Value other) is = absurd cc
same_is Null (Int other) is = absurd cc
same_is Null (Fun other) is = absurd cc
same_is (Fun called) other is = absurd cc

-- the values that a list of one operand names
pub one_operand : (operand : Operand) → option_to_list (value_in operand) ≡ filter_map value_in (operand ∷ [])
one_operand operand = by (value_in operand) refl
  where
    by : (o : Option ℕ) → value_in operand ≡ o → option_to_list (value_in operand) ≡ filter_map value_in (operand ∷ [])
    by None is = rw is refl
    by (Some value) is = rw is refl

pub mark_got : (marks : List Bool) (value : ℕ) → has_mark marks value ≡ true → slice_get marks value ≡ Some true
mark_got [] value is = absurd (false≢true is)
mark_got (mark ∷ marks) zero is = ap (λ (m : Bool). Some m) is
mark_got (mark ∷ marks) (suc value) is = mark_got marks value is

pub got_mark : (marks : List Bool) (value : ℕ) → slice_get marks value ≡ Some true → has_mark marks value ≡ true
got_mark marks value is = get_or_from_slice_get marks value true false is
