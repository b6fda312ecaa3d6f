-- The cases of a `switch`: each is a number of its width and has a label.
use Rattle.std.proofs.Common.{◌≡◌, ℕ, suc, true, List, [], ◌∷◌, length, refl, ap}
use Rattle.std.specs.List.{AllByRecursion}
use Rattle.ir_ast.specs.declared.ops.Operand.{Operand}
use Rattle.line_parts.specs.Types.{Int}
use Rattle.line_parts.specs.Parts.{Val, is_case_value}
use Rattle.ir_lines.specs.Statements.{Line, Statement, switch_case}
use Rattle.ir_lines.specs.Modules.{operand_in, case_values, case_labels}
use Rattle.ir_lines.specs.ReadLines.{SaysRead}

-- what holds of the operand of each value that a case may name holds of all cases
one_case : (P : Operand → Type 0) (names : List (List ℕ)) (width : ℕ) → ((v : Val) → is_case_value v ≡ true → P (operand_in names (Int width) v))
    → (n : ℕ) (s : Statement) (ls : List Line) → SaysRead s → AllByRecursion P (case_values names width ls)
    → AllByRecursion P (case_values names width (record { number = n; says = s } ∷ ls))
one_case P names width f n (switch_case other v to) ls read ih = (f v read, ih)
one_case P names width f n _ ls read ih = tt

pub each_case : (P : Operand → Type 0) (names : List (List ℕ)) (width : ℕ) → ((v : Val) → is_case_value v ≡ true → P (operand_in names (Int width) v))
    → (ls : List Line) → AllByRecursion (λ l. SaysRead l.says) ls → AllByRecursion P (case_values names width ls)
each_case P names width f [] all = tt
each_case P names width f (l ∷ ls) all = one_case P names width f l.number l.says ls all.0 (each_case P names width f ls all.1)

one_label : (names blocks : List (List ℕ)) (width n : ℕ) (s : Statement) (ls : List Line) → length (case_labels blocks ls) ≡ length (case_values names width ls)
    → length (case_labels blocks (record { number = n; says = s } ∷ ls)) ≡ length (case_values names width (record { number = n; says = s } ∷ ls))
one_label names blocks width n (switch_case other v to) ls ih = ap suc ih
one_label names blocks width n _ ls ih = refl

pub labels-cases : (names blocks : List (List ℕ)) (width : ℕ) (ls : List Line) → length (case_labels blocks ls) ≡ length (case_values names width ls)
labels-cases names blocks width [] = refl
labels-cases names blocks width (l ∷ ls) = one_label names blocks width l.number l.says ls (labels-cases names blocks width ls)
