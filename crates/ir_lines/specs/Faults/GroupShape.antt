-- Code 18, of the rewritten form alone: the number of arguments that a statepoint spells, and the group of a token
-- (Garbage Collection Safepoints in LLVM, "Intrinsics").
use Rattle.std.specs.Prelude.{◌≡◌, ℕ, ◌==◌, Bool, true, false, not, ◌&&◌, ◌||◌, nat_lt, List, ◌∷◌, ◌++◌, map}
use Rattle.std.specs.List.{list_all, Contains}
use Rattle.std.specs.Str.{bytes_eq}
use Rattle.line_tokens.specs.declared.literals.Literal.{Literal}
use Rattle.line_parts.specs.Parts.{Val}
use Rattle.ir_lines.specs.Statements.{Guarded, Line, Statement, statepoint, gc_result, gc_relocate}
use Rattle.ir_lines.specs.Sections.{Definition, values_before}

-- ---- a line by itself

abbrev pub is_count : Literal → ℕ → Bool
is_count literal count = (not literal.negative || not (nat_lt 0 literal.magnitude)) && literal.magnitude == count

-- ---- a result or a relocate in its group

-- a result or a relocate of this token
abbrev pub is_part : List ℕ → Statement → Bool
is_part token (gc_result result ty other) = bytes_eq token other
is_part token (gc_relocate result other base derived) = bytes_eq token other
is_part token _ = false

-- these lines of a function end with the statepoint that the token stands for and with parts of its group alone
pub record Group (func : Definition) (before : List Line) (token : List ℕ) : Type 0 where
  pub earlier : List Line
  pub number : ℕ
  pub made : Guarded
  pub live : List Val
  pub parts : List Line
  pub whole : before ≡ earlier ++ (record { number = number; says = statepoint token made live }) ∷ parts
  -- a name that is given twice stands for what its first line gives
  pub first : ¬ Contains (map (λ one. one.name) (values_before func earlier)) token
  pub own : list_all (λ l. is_part token l.says) parts ≡ true
