-- Bundles by which of them have operands.
use Rattle.std.proofs.Common.{◌≡◌, true, false, ◌==◌, List, [], ◌∷◌, ◌++◌, length, codes, refl, sym, append_assoc, ◌∙◌, ℕ}
use Rattle.std.proofs.Math.Dec.{eqb-suc-zero}
use Rattle.std.proofs.lemmas.Bool.{true≢false}
use Rattle.ir_ast.specs.declared.types.Ty.{Ty}
use Rattle.ir_ast.specs.declared.ops.Operand.{Operand}
use Rattle.ir_printer.specs.Names.{Names}
use Rattle.ir_printer.specs.Calls.{deopt_text, live_text, bundles_text, callee_name, arguments_of, call_start_text, call_text}
use Rattle.ir_printer.specs.Lists.{joined}
use Rattle.ir_printer.specs.Words.{type_text}
use Rattle.ir_ast.specs.declared.ops.Callee.{Callee}
use Rattle.ir_ast.specs.Insts.{Instruction}

cons-not_empty : {T : Type 0} (x : T) (xs : List T) → true ≡ (length (x ∷ xs) == 0) → ⊥
cons-not_empty x xs empty = true≢false (empty ∙ eqb-suc-zero (length xs))

pub bundles-none : (names : Names) (bundle : List (Ty × Operand)) → true ≡ (length bundle == 0) → bundles_text names bundle [] ≡ []
bundles-none names [] none = refl
bundles-none names (value ∷ bundle) none = absurd (cons-not_empty value bundle none)

pub bundles-live : (names : Names) (bundle : List (Ty × Operand)) (entries : List Operand) → true ≡ (length bundle == 0) → false ≡ (length entries == 0) → bundles_text names bundle entries ≡ codes " [ " ++ (live_text names entries ++ codes " ]")
bundles-live names [] [] none some = absurd (cc)
bundles-live names [] (entry ∷ entries) none some = refl
bundles-live names (value ∷ bundle) entries none some = absurd (cons-not_empty value bundle none)

pub bundles-deopt : (names : Names) (bundle : List (Ty × Operand)) (entries : List Operand) → false ≡ (length bundle == 0) → true ≡ (length entries == 0) → bundles_text names bundle entries ≡ codes " [ " ++ (deopt_text names bundle ++ codes " ]")
bundles-deopt names [] entries some none = absurd (cc)
bundles-deopt names (value ∷ bundle) [] some none = refl
bundles-deopt names (value ∷ bundle) (entry ∷ entries) some none = absurd (cons-not_empty entry entries none)

pub bundles-both : (names : Names) (bundle : List (Ty × Operand)) (entries : List Operand) → false ≡ (length bundle == 0) → false ≡ (length entries == 0) → bundles_text names bundle entries ≡ codes " [ " ++ (deopt_text names bundle ++ (codes ", " ++ (live_text names entries ++ codes " ]")))
bundles-both names [] entries some more = absurd (cc)
bundles-both names (value ∷ bundle) [] some more = absurd (cc)
bundles-both names (value ∷ bundle) (entry ∷ entries) some more = refl

start_then : (a b c d e rest : List ℕ) → (a ++ (b ++ (c ++ (d ++ e)))) ++ rest ≡ a ++ (b ++ (c ++ (d ++ (e ++ rest))))
start_then a b c d e rest = simp append_assoc

-- a call's line is its start and the rest
pub call_text-start : (names : Names) (callee : Callee) (types : List Ty) (inst : Instruction) → call_text names callee types inst ≡ call_start_text names inst.ty callee ++ (joined (codes ", ") (arguments_of names types inst.operands) ++ (codes ")" ++ bundles_text names inst.bundle []))
call_text-start names callee types inst =
    sym (start_then (codes "call ") (type_text inst.ty) (codes " @") (callee_name names callee) (codes "(")
    (joined (codes ", ") (arguments_of names types inst.operands) ++ (codes ")" ++ bundles_text names inst.bundle [])))
