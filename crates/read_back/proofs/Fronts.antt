-- The arguments of a statepoint stand in front of its live entries.
use Rattle.std.proofs.Common.{◌≡◌, ℕ, zero, suc, List, [], ◌∷◌, ◌++◌, length, refl, ap}
use Rattle.std.specs.Prelude.{None, take, drop}
use Rattle.std.specs.List.{AllByRecursion, AllZip, zip}
use Rattle.ir_ast.specs.declared.types.Ty.{Ty}
use Rattle.ir_ast.specs.declared.types.Ty.TheVariants as tys
use Rattle.ir_ast.specs.declared.ops.Op.TheVariants as ops
use Rattle.ir_ast.specs.declared.ops.Operand.{Operand}
use Rattle.ir_ast.specs.declared.ops.Operand.TheVariants as operands
use Rattle.ir_ast.specs.Operands.{functions_named}

pub front_fit : (F : Operand → Ty → Type 0) (os : List Operand) (ts us : List Ty) → AllZip F os (ts ++ us) → AllZip F (take (length ts) os) ts × AllZip F (drop (length ts) os) us
front_fit F os [] us fit = (tt, fit)
front_fit F [] (t ∷ ts) us fit = absurd fit
front_fit F (o ∷ os) (t ∷ ts) us fit = let more = front_fit F os ts us fit.1 in ((fit.0, more.0), more.1)

pub zip_take : (ts : List Ty) (os : List Operand) → zip ts (take (length ts) os) ≡ zip ts os
zip_take [] os = refl
zip_take (t ∷ ts) [] = refl
zip_take (t ∷ ts) (o ∷ os) = ap (λ (more : List (Ty × Operand)). (t, o) ∷ more) (zip_take ts os)

-- the functions that are named by operands
abbrev pub FunctionsOf : (ℕ → Type 0) → List Operand → Type 0
FunctionsOf P os = AllByRecursion P (functions_named (record { result = None; op = ops.Load; ty = tys.Void; operands = os; labels = []; bundle = [] }))

pub later_functions : (P : ℕ → Type 0) (o : Operand) (os : List Operand) → FunctionsOf P (o ∷ os) → FunctionsOf P os
later_functions P (operands.Fun f) os all = all.1
later_functions P (operands.Value v) os all = all
later_functions P (operands.Int n) os all = all
later_functions P operands.Null os all = all

join_functions : (P : ℕ → Type 0) (o : Operand) (os rest : List Operand) → FunctionsOf P (o ∷ os) → FunctionsOf P rest → FunctionsOf P (o ∷ rest)
join_functions P (operands.Fun f) os rest all more = (all.0, more)
join_functions P (operands.Value v) os rest all more = more
join_functions P (operands.Int n) os rest all more = more
join_functions P operands.Null os rest all more = more

pub front_functions : (P : ℕ → Type 0) (n : ℕ) (os : List Operand) → FunctionsOf P os → FunctionsOf P (take n os)
front_functions P zero os all = tt
front_functions P (suc n) [] all = tt
front_functions P (suc n) (o ∷ os) all = join_functions P o os (take n os) all (front_functions P n os (later_functions P o os all))

-- those that stand in front of a bundle
pub before_bundle : (P : ℕ → Type 0) (os : List Operand) (bundle : List (Ty × Operand))
    → AllByRecursion P (functions_named (record { result = None; op = ops.Load; ty = tys.Void; operands = os; labels = []; bundle = bundle })) → FunctionsOf P os
before_bundle P [] bundle all = tt
before_bundle P (operands.Fun f ∷ os) bundle all = (all.0, before_bundle P os bundle all.1)
before_bundle P (operands.Value v ∷ os) bundle all = before_bundle P os bundle all
before_bundle P (operands.Int n ∷ os) bundle all = before_bundle P os bundle all
before_bundle P (operands.Null ∷ os) bundle all = before_bundle P os bundle all
