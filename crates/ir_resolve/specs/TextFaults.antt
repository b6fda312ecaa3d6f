-- The faults that resolving a text loses: names and heads, what a line spells and its instruction doesn't keep, and
-- calls, which are judged by the first head of their name, a declaration too.
use Rattle.std.specs.Prelude.{◌≡◌, ◌≢◌, ℕ, Bool, false, not, ◌&&◌, ◌||◌, nat_lt, List, ◌∷◌, ◌++◌, length, Option, Some, None}
use Rattle.std.specs.List.{list_any, Contains}
use Rattle.ir_ast.specs.declared.modules.Form.{Form}
use Rattle.ir_ast.specs.declared.modules.Form.TheVariants.{Rewritten}
use Rattle.line_tokens.specs.declared.literals.Literal.{Literal}
use Rattle.line_parts.specs.Types.{TypeWord}
use Rattle.line_parts.specs.Types.{Int}
use Rattle.line_parts.specs.Parts.{Val}
use Rattle.line_parts.specs.Parts as values
use Rattle.ir_lines.specs.Statements.{Line, Statement, select, layout_step, call, switch, switch_case, cast, statepoint}
use Rattle.ir_lines.specs.Parts.{uses}
use Rattle.ir_lines.specs.Sections.{Definition, definitions_of, cases_of}
use Rattle.ir_lines.specs.Scope.{Scope}
use Rattle.ir_lines.specs.Types.{same_type, literal_fits, fits}
use Rattle.ir_lines.specs.InBody.{InBody}
use Rattle.ir_lines.specs.Faults.NameTwice.{NameTwice}
use Rattle.ir_lines.specs.Faults.UnknownName.{UnknownName}
use Rattle.ir_lines.specs.Faults.TypeClash.{call_agrees, statepoint_agrees}
use Rattle.ir_lines.specs.Faults.NoStrategy.{NoStrategy}
use Rattle.ir_lines.specs.Faults.UnknownExtern.{UnknownExtern}
use Rattle.ir_lines.specs.Faults.BadLayout.{BadLayout}
use Rattle.ir_lines.specs.Faults.Reserved.{Reserved}
use Rattle.ir_lines.specs.Faults.PointerCast.{PointerCast}
use Rattle.ir_lines.specs.Faults.GroupShape.{is_count}

-- ---- code 5

-- a number outside its type, or a truth that isn't an `i1`: an operand has its value modulo 2^N alone
abbrev pub is_outside : TypeWord → Val → Bool
is_outside ty (values.number literal) = not (literal_fits ty literal)
is_outside ty (values.truth said) = not (same_type ty (Int 1))
is_outside ty _ = false

abbrev pub is_below_zero : Option Literal → Bool
is_below_zero None = false
is_below_zero (Some place) = place.negative && nat_lt 0 place.magnitude

-- the second type of a `select`, the sign of a field's place, a call and what a cast takes
abbrev pub says_wrong : Form → Scope → Statement → Bool
says_wrong form scope (select result condition left_ty left right_ty right) = not (same_type left_ty right_ty)
says_wrong form scope (layout_step result named address width index place) = is_below_zero place
says_wrong form scope (call result made) = not (call_agrees form scope made.answer made.callee made.passed)
says_wrong form scope (statepoint result made live) = not (statepoint_agrees form scope made)
says_wrong form scope (cast result op from value to) = not (fits scope from value)
says_wrong form scope _ = false

abbrev pub misspells : Form → Scope → Statement → Bool
misspells form scope what = list_any (λ used. is_outside used.1 used.0) (uses what) || says_wrong form scope what

-- a case of another width than its `switch`
pub record CaseOfOtherWidth (lines : List Line) (line : ℕ) : Type 0 where
  pub func : Definition
  pub defined : Contains (definitions_of lines) func
  pub before : List Line
  pub number : ℕ
  pub width : ℕ
  pub value : Val
  pub default : List ℕ
  pub behind : List Line
  pub whole : func.body ≡ before ++ (record { number = number; says = switch width value default }) ∷ behind
  pub other : ℕ
  pub case : Val
  pub to : List ℕ
  pub is_case : Contains (cases_of behind) (record { number = line; says = switch_case other case to })
  pub differs : other ≢ width

-- ---- code 18

-- the number of arguments that a statepoint spells isn't theirs
abbrev pub miscounts : Scope → Statement → Bool
miscounts scope (statepoint result made live) = not (is_count made.count (length made.passed))
miscounts scope _ = false

-- ---- the set

pub data HasTextFault (form : Form) (lines : List Line) (line : ℕ) : ℕ → Type 0 where
  name_twice : NameTwice lines line → HasTextFault form lines line 3
  unknown_name : UnknownName lines line → HasTextFault form lines line 4
  misspelled : InBody lines line (misspells form) → HasTextFault form lines line 5
  case_width : CaseOfOtherWidth lines line → HasTextFault form lines line 5
  no_strategy : NoStrategy lines line → HasTextFault form lines line 10
  unknown_extern : UnknownExtern lines line → HasTextFault form lines line 12
  bad_layout : BadLayout lines line → HasTextFault form lines line 13
  reserved : Reserved form lines line → HasTextFault form lines line 14
  pointer_cast : PointerCast lines line → HasTextFault form lines line 16
  miscounted : form ≡ Rewritten → InBody lines line miscounts → HasTextFault form lines line 18
