-- What is pure, foldable and dead, and what is left of functions, by computation.
use Rattle.std.proofs.Common.{◌≡◌, ℕ, true, false, List, [], ◌∷◌, Option, Some, None, codes, refl, ◌⊎◌, inl}
use Rattle.std.specs.Prelude.{◌^◌, ◌-◌}
use Rattle.list_laws.proofs.Contents.{all_one}
use Rattle.ir_ast.specs.declared.ops.Callee.TheVariants as callees
use Rattle.ir_ast.specs.declared.ops.Op.{Op}
use Rattle.ir_ast.specs.declared.ops.Op.TheVariants as ops
use Rattle.ir_ast.specs.declared.ops.Operand.{Operand}
use Rattle.ir_ast.specs.declared.ops.Operand.TheVariants.{Int as Literal, Null, Value}
use Rattle.ir_ast.specs.declared.types.Ty.{Ty}
use Rattle.ir_ast.specs.declared.types.Ty.TheVariants.{Void, Int, Ptr}
use Rattle.ir_ast.specs.Funcs.{Function}
use Rattle.ir_ast.specs.Insts.{Instruction}
use Rattle.folded_forms.specs.Pure.{is_pure}
use Rattle.folded_forms.specs.Foldable.{is_dead, is_foldable}
use Rattle.folded_forms.specs.Folded.{Table, folded, stands_for}
use Rattle.folded_forms.specs.Foldings.{Folds, by_entries}

abbrev value : ℕ → Operand
value place = Value (record { 0 = place })

abbrev literal : ℕ → Operand
literal of = Literal of

abbrev line : Option (List ℕ) → Op → Ty → List Operand → Instruction
line result op ty operands = record { result = result; op = op; ty = ty; operands = operands; labels = []; bundle = [] }

abbrev gives : Op → Ty → List Operand → Instruction
gives op ty operands = line (Some []) op ty operands

abbrev print : Operand → Instruction
print operand = line None (ops.Call callees.Print (Int 64 ∷ [])) Void (operand ∷ [])

abbrev return : Operand → Instruction
return operand = line None ops.Ret (Int 64) (operand ∷ [])

abbrev function : List Instruction → Function
function insts = record { name = codes "f"; answer = Int 64; args = []; blocks = record { name = codes "0"; insts = insts } ∷ [] }

abbrev divide : ℕ → Instruction
divide divisor = gives ops.Sdiv (Int 64) (value 1 ∷ literal divisor ∷ [])

-- a division may trap by 0, a signed one by -1, and a shift past the width
divisions : (is_pure (divide 0) ≡ false) × (is_pure (divide (2 ^ 64 - 1)) ≡ false) × (is_pure (divide 2) ≡ true)
divisions = (refl, refl, refl)

unsigned : is_pure (gives ops.Udiv (Int 7) (value 0 ∷ literal 127 ∷ [])) ≡ true
unsigned = refl

one_bit : is_pure (gives ops.Sdiv (Int 1) (value 0 ∷ literal 1 ∷ [])) ≡ false
one_bit = refl

shifts_by : (is_pure (gives ops.Shl (Int 32) (value 0 ∷ literal 32 ∷ [])) ≡ false) × (is_pure (gives ops.Shl (Int 32) (value 0 ∷ literal 31 ∷ [])) ≡ true)
shifts_by = (refl, refl)

-- a select of itself stays, and another goes
selects : (is_foldable 4 (gives ops.Select (Int 64) (literal 1 ∷ value 4 ∷ value 0 ∷ [])) ≡ false) × (is_foldable 4 (gives ops.Select (Int 64) (literal 0 ∷ value 4 ∷ value 0 ∷ [])) ≡ true)
selects = (refl, refl)

-- a phi over itself and `null` goes, one over itself alone or two others stays
phis : (is_foldable 4 (gives ops.Phi Ptr (Null ∷ value 4 ∷ Null ∷ [])) ≡ true)
    × (is_foldable 4 (gives ops.Phi Ptr (value 4 ∷ value 4 ∷ [])) ≡ false)
    × (is_foldable 4 (gives ops.Phi Ptr (value 4 ∷ Null ∷ value 0 ∷ [])) ≡ false)
phis = (refl, refl, refl)

-- literals of an operator: the quotient, the division that traps
operators : (is_foldable 0 (gives ops.Sdiv (Int 64) (literal 7 ∷ literal 2 ∷ [])) ≡ true) × (is_foldable 0 (gives ops.Sdiv (Int 64) (literal 7 ∷ literal 0 ∷ [])) ≡ false)
operators = (refl, refl)

-- %a = add i64 2, 3 / %b = mul i64 %a, 4 / %d = sdiv i64 %b, 0 / call void @print_i64(i64 %b) / ret i64 0
abbrev before : Function
before = function (gives ops.Add (Int 64) (literal 2 ∷ literal 3 ∷ []) ∷ gives ops.Mul (Int 64) (value 0 ∷ literal 4 ∷ []) ∷ divide 0 ∷ print (value 1) ∷ return (literal 0) ∷ [])

abbrev after : Function
after = function (gives ops.Sdiv (Int 64) (literal 20 ∷ literal 0 ∷ []) ∷ print (literal 20) ∷ return (literal 0) ∷ [])

abbrev table : Table
table = literal 5 ∷ literal 20 ∷ value 2 ∷ []

folds : folded before table ≡ after
folds = refl

-- a phi over itself alone, as in a loop that isn't reached, gives the same as any operand: so a folding speaks of types
unrooted : (to : Operand) → Folds (to ∷ []) 0 (gives ops.Phi (Int 64) (value 0 ∷ [])) to
unrooted to = by_entries to refl (all_one (λ entry. (entry ≡ value 0) ⊎ (stands_for (to ∷ []) entry ≡ to)) (value 0) (inl refl))

-- what is used is not dead, what may trap is not, and what nothing uses is
dead : (is_dead before 0 (gives ops.Add (Int 64) (literal 2 ∷ literal 3 ∷ [])) ≡ false)
    × (is_dead before 2 (divide 0) ≡ false)
    × (is_dead (function (gives ops.Add (Int 64) (literal 2 ∷ literal 3 ∷ []) ∷ [])) 0 (gives ops.Add (Int 64) (literal 2 ∷ literal 3 ∷ [])) ≡ true)
dead = (refl, refl, refl)
