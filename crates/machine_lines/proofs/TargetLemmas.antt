-- The cases of a `switch`.
use Rattle.std.proofs.Common.{◌≡◌, ℕ, List, map, drop, ap, ◌∙◌}
use Rattle.std.specs.List.{position}
use Rattle.std.proofs.lemmas.List.{drop-map}
use Rattle.ir_ast.specs.declared.ops.Operand.{Operand}
use Rattle.object_meaning.specs.Jumps.{is_case}
use Rattle.machine_meaning.specs.Words.{worded_operand}
use Rattle.list_laws.proofs.Tests.{position_map}

-- the cases of a `switch`, on words
pub cases_are : (number : ℕ) (operands : List Operand)
    → position (is_case number) (drop 1 (map worded_operand operands)) ≡ position (λ one. is_case number (worded_operand one)) (drop 1 operands)
cases_are number operands = ap (position (is_case number)) (drop-map worded_operand 1 operands) ∙ position_map (is_case number) worded_operand (drop 1 operands)
