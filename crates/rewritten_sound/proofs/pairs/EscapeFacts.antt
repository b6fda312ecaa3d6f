-- What escapes by a line, by its operator: a pointer among its operands.
use Rattle.std.proofs.Common.{◌≡◌, ℕ, suc, Bool, true, false, List, [], ◌∷◌, length, replicate, take, refl, ap, subst, ◌∙◌, inl, inr}
use Rattle.std.specs.Prelude.{Some, slice_get, if◌then◌else◌}
use Rattle.std.specs.List.{AllZip, Contains}
use Rattle.std.proofs.lemmas.Bool.{true≢false}
use Rattle.list_laws.proofs.Contents.{contains_cons, contains_none, contains_one}
use Rattle.ir_ast.specs.declared.types.Ty.{Ty}
use Rattle.ir_ast.specs.declared.types.Ty.TheVariants as types
use Rattle.ir_ast.specs.declared.ops.Callee.TheVariants as callees
use Rattle.ir_ast.specs.declared.ops.Op.{Op}
use Rattle.ir_ast.specs.declared.ops.Op.TheVariants as ops
use Rattle.ir_ast.specs.declared.ops.Operand.{Operand}
use Rattle.ir_ast.specs.Insts.{Instruction}
use Rattle.ir_ast.specs.Lines.{LineOf, is_rewritten}
use Rattle.ir_ast.specs.Types.{is_void}
use Rattle.ir_ast.specs.Faults.DerivedEscapes.{leaving}
use Rattle.ir_ast.specs.Faults.TypeClash.{Fits, asked}
use Rattle.pair_facts.specs.Lines.{operand_at}
use Rattle.pair_facts.specs.Uses.{Use, checked, compared, escaping, pointers_of}

-- a statepoint, or a call of a helper that takes pairs
abbrev pub takes_pairs : Op → Bool
takes_pairs (ops.Call callees.Check types) = true
takes_pairs (ops.Call callees.Same types) = true
takes_pairs (ops.Statepoint id callee types) = true
takes_pairs op = false

pub no_source_takes : (op : Op) → is_rewritten op ≡ false → takes_pairs op ≡ false
no_source_takes (ops.Call callees.Check types) plain = absurd (true≢false plain)
no_source_takes (ops.Call callees.Same types) plain = absurd (true≢false plain)
no_source_takes (ops.Statepoint id callee types) plain = absurd (true≢false plain)
no_source_takes op plain = refl

pub no_checked : (op : Op) (line : Instruction) (pair : Use) → takes_pairs op ≡ false → Contains (checked op line) pair → ⊥
no_checked (ops.Call callees.Check types) line pair none within = true≢false none
no_checked (ops.Call callees.Same types) line pair none within = true≢false none
no_checked (ops.Statepoint id callee types) line pair none within = true≢false none
no_checked op line pair none within = contains_none pair within

pub no_compared : (op : Op) (line : Instruction) (pair : Use) → takes_pairs op ≡ false → Contains (compared op line) pair → ⊥
no_compared (ops.Call callees.Check types) line pair none within = true≢false none
no_compared (ops.Call callees.Same types) line pair none within = true≢false none
no_compared (ops.Statepoint id callee types) line pair none within = true≢false none
no_compared op line pair none within = contains_none pair within

-- ---- a pointer among operands

module _ (values : List Ty) where
  -- among so many operands, one at a place that is a pointer
  pub record PointerIn (given : List Operand) (operand : Operand) : Type 0 where
    pub place : ℕ
    pub stands : slice_get given place ≡ Some operand
    pub fits : Fits values operand types.Ptr

  passed_pointer : (kinds : List Ty) (given : List Operand) (operand : Operand) → AllZip (Fits values) given kinds → Contains (pointers_of kinds given) operand → PointerIn given operand
  passed_pointer [] given operand fits within = absurd (contains_none operand within)
  passed_pointer (kind ∷ kinds) [] operand fits within = absurd fits
  passed_pointer (types.Ptr ∷ kinds) (x ∷ given) operand fits within = elim (contains_cons x operand (pointers_of kinds given) within) [
    | inl same ↦ record { place = 0; stands = ap (λ o. Some o) same; fits = subst (λ (o : Operand). Fits values o types.Ptr) same fits.0 }
    | inr later ↦
        let rest = passed_pointer kinds given operand fits.1 later in
        record { place = suc rest.place; stands = rest.stands; fits = rest.fits }
  ]
  passed_pointer (kind ∷ kinds) (x ∷ given) operand fits within =
      let rest = passed_pointer kinds given operand fits.1 within in
      record { place = suc rest.place; stands = rest.stands; fits = rest.fits }

  first_pointer : (given : List Operand) (operand : Operand) (rest : List Ty) → AllZip (Fits values) given (types.Ptr ∷ rest) → operand_at given 0 ≡ operand → PointerIn (take 1 given) operand
  first_pointer [] operand rest fits is = absurd fits
  first_pointer (x ∷ given) operand rest fits is = record { place = 0; stands = ap (λ o. Some o) is; fits = subst (λ (o : Operand). Fits values o types.Ptr) is fits.0 }

  only_pointer : (given : List Operand) (operand : Operand) → AllZip (Fits values) given (types.Ptr ∷ []) → operand_at given 0 ≡ operand → PointerIn given operand
  only_pointer [] operand fits is = absurd fits
  only_pointer (x ∷ given) operand fits is = record { place = 0; stands = ap (λ o. Some o) is; fits = subst (λ (o : Operand). Fits values o types.Ptr) is fits.0 }

  two_pointers : (ty : Ty) (given : List Operand) (operand : Operand) → AllZip (Fits values) given (ty ∷ ty ∷ []) → Contains (pointers_of (ty ∷ ty ∷ []) (operand_at given 0 ∷ operand_at given 1 ∷ [])) operand
      → PointerIn given operand
  two_pointers ty [] operand fits within = absurd fits
  two_pointers ty (x ∷ []) operand fits within = absurd fits.1
  two_pointers ty (x ∷ y ∷ []) operand fits within = passed_pointer (ty ∷ ty ∷ []) (x ∷ y ∷ []) operand fits within
  two_pointers ty (x ∷ y ∷ z ∷ more) operand fits within = absurd fits.1.1

  -- ---- by operator

  pub compared_type : (ty : Ty) (x y operand : Operand) → Contains (pointers_of (ty ∷ ty ∷ []) (x ∷ y ∷ [])) operand → ty ≡ types.Ptr
  compared_type types.Ptr x y operand within = refl
  compared_type ty x y operand within = absurd (contains_none operand within)

  stored_type : (ty : Ty) (line : Instruction) (operand : Operand) → Contains (escaping ops.Store (record line { ty = ty })) operand → (ty ≡ types.Ptr) × (operand_at line.operands 0 ≡ operand)
  stored_type types.Ptr line operand within = (refl, contains_one (operand_at line.operands 0) operand within)
  stored_type ty line operand within = absurd (contains_none operand within)

  returned_type : (ty : Ty) (line : Instruction) (operand : Operand) → Contains (escaping ops.Ret (record line { ty = ty })) operand → (ty ≡ types.Ptr) × (operand_at line.operands 0 ≡ operand)
  returned_type types.Ptr line operand within = (refl, contains_one (operand_at line.operands 0) operand within)
  returned_type ty line operand within = absurd (contains_none operand within)

  -- a pointer that is stored, passed or returned
  pub left_pointer : (line : Instruction) (op : Op) (operand : Operand) → takes_pairs op ≡ false → LineOf op line → AllZip (Fits values) line.operands (asked op line.ty (length line.operands))
      → Contains (escaping op line) operand → ((pred : _) → op ≡ ops.Icmp pred → ⊥) → PointerIn (leaving op line.operands) operand
  left_pointer line ops.Store operand none form fits within no_compare =
      let is = stored_type line.ty line operand within in
      first_pointer line.operands operand (types.Ptr ∷ []) (subst (λ (t : Ty). AllZip (Fits values) line.operands (t ∷ types.Ptr ∷ [])) is.0 fits) is.1
  left_pointer line ops.Ret operand none form fits within no_compare =
      let is = returned_type line.ty line operand within in
      let count : length line.operands ≡ 1 = form.operand_count ∙ ap (λ (t : Ty). if is_void t then 0 else 1) is.0 in
      only_pointer line.operands operand
      (subst (λ (n : ℕ). AllZip (Fits values) line.operands (replicate n types.Ptr)) count (subst (λ (t : Ty). AllZip (Fits values) line.operands (replicate (length line.operands) t)) is.0 fits)) is.1
  left_pointer line (ops.Icmp pred) operand none form fits within no_compare = absurd (no_compare pred refl)
  left_pointer line (ops.Call callees.Check kinds) operand none form fits within no_compare = absurd (true≢false none)
  left_pointer line (ops.Call callees.Same kinds) operand none form fits within no_compare = absurd (true≢false none)
  left_pointer line (ops.Call callee kinds) operand none form fits within no_compare = passed_pointer kinds line.operands operand fits within
  left_pointer line (ops.Statepoint id callee kinds) operand none form fits within no_compare = absurd (true≢false none)
  left_pointer line op operand none form fits within no_compare = absurd (contains_none operand within)

  -- a pointer that is compared
  pub compared_pointer : (line : Instruction) (pred : _) (operand : Operand) → LineOf (ops.Icmp pred) line → AllZip (Fits values) line.operands (asked (ops.Icmp pred) line.ty (length line.operands))
      → Contains (escaping (ops.Icmp pred) line) operand → PointerIn line.operands operand
  compared_pointer line pred operand form fits within =
      two_pointers line.ty line.operands operand (subst (λ (n : ℕ). AllZip (Fits values) line.operands (replicate n line.ty)) form.operand_count fits) within
