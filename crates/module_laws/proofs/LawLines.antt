-- What is known of each line of a function of a text without a fault of its own.
use Rattle.std.proofs.Common.{◌≡◌, ℕ, ◌<◌, ◌^◌, ◌%◌, ◌-◌, true, false, ◌||◌, List, ◌++◌, map, length, get_or, refl, arith}
use Rattle.std.specs.Prelude.{is_none, if◌then◌else◌}
use Rattle.std.specs.List.{All, Contains, list_any}
use Rattle.std.proofs.lemmas.List.Elements.{All-contains, Contains-get_or}
use Rattle.std.proofs.Common.{mod-lt}
use Rattle.std.proofs.lemmas.Nat.{pow_pos}
use Rattle.ir_ast.specs.Funcs.{Function}
use Rattle.ir_ast.specs.Values as defs
use Rattle.ir_ast.specs.Operands.{is_value}
use Rattle.ir_ast.specs.declared.modules.Form.{Form}
use Rattle.ir_ast.specs.declared.modules.Form.TheVariants.{Source}
use Rattle.line_parts.specs.Types.{TypeWord}
use Rattle.line_tokens.specs.declared.literals.Literal.{Literal}
use Rattle.line_parts.specs.Parts.{Val}
use Rattle.line_parts.specs.Parts as values
use Rattle.ir_lines.specs.Statements.{Line, Statement}
use Rattle.ir_lines.specs.Parts.{uses, is_of_group, values_named, targets, entry_labels, functions_named, layouts_named}
use Rattle.ir_lines.specs.Sections.{Definition, definitions_of, values_of}
use Rattle.ir_lines.specs.Scope.{Scope, scope_of, value_named, block_named, head_named, layout_named}
use Rattle.ir_lines.specs.Modules.{known_of, operand_in, wrapped, function_of}
use Rattle.ir_lines.specs.ReadLines.{IsReadLines, IsReadFunction, SaysRead}
use Rattle.ir_resolve.specs.TextFaults.{is_outside, says_wrong, misspells, unknown_name, misspelled, pointer_cast}
use Rattle.ir_resolve.specs.FaultSet.{HasNoResolvedFault, of_text}
use Rattle.ir_lines.specs.Faults.UnknownName.{names_unknown}
use Rattle.ir_lines.specs.Faults.PointerCast.{is_cast}
use Rattle.module_laws.proofs.LawFacts.{or-left, or-right, body_clear}
use Rattle.module_laws.proofs.LawValues.{names_given, few_values}
use Rattle.module_laws.proofs.LawHeads.{SaysOf, says-defined}

-- a function of faultless lines that were read
pub record InLaw (form : Form) (lines : List Line) (func : Definition) : Type 0 where
  pub read : IsReadLines form lines
  pub none : HasNoResolvedFault form lines
  pub defined : Contains (definitions_of lines) func

pub read_function : (form : Form) (lines : List Line) (func : Definition) → InLaw form lines func → IsReadFunction form func
read_function form lines func law = All-contains (IsReadFunction form) (definitions_of lines) func law.read.functions law.defined

pub said_function : (form : Form) (lines : List Line) (func : Definition) → InLaw form lines func → SaysOf SaysRead func
said_function form lines func law =
    All-contains (SaysOf SaysRead) (definitions_of lines) func (says-defined SaysRead lines law.read.says) law.defined

-- a function of the source form has no statepoint groups
pub own_lines : (form : Form) (lines : List Line) (func : Definition) → InLaw form lines func → form ≡ Source → SaysOf (λ s. is_of_group s ≡ false) func
own_lines form lines func law is =
    All-contains (SaysOf (λ s. is_of_group s ≡ false)) (definitions_of lines) func (says-defined (λ s. is_of_group s ≡ false) lines (law.read.own is)) law.defined

-- what is known of a line
pub record LineFacts (form : Form) (scope : Scope) (s : Statement) : Type 0 where
  pub read : SaysRead s
  pub values : list_any (λ name. is_none (value_named scope name)) (values_named s) ≡ false
  pub labels : list_any (λ name. is_none (block_named scope name)) (targets s ++ entry_labels s) ≡ false
  pub functions : list_any (λ name. is_none (head_named scope name)) (functions_named s) ≡ false
  pub layouts : list_any (λ name. is_none (layout_named scope name)) (layouts_named s) ≡ false
  pub spelled : says_wrong form scope s ≡ false
  pub no_cast : is_cast s ≡ false
  pub own : form ≡ Source → is_of_group s ≡ false

pub line_facts : (form : Form) (lines : List Line) (func : Definition) → InLaw form lines func → (l : Line) → Contains func.body l
    → LineFacts form (scope_of lines func) l.says
line_facts form lines func law l inside =
    let scope = scope_of lines func in
    let s = l.says in
    let unknown : names_unknown scope s ≡ false = body_clear lines names_unknown (λ line f. law.none line 4 (of_text (unknown_name f))) func law.defined l inside in
    let wrong : misspells form scope s ≡ false = body_clear lines (misspells form) (λ line f. law.none line 5 (of_text (misspelled f))) func law.defined l inside in
    let vs = list_any (λ name. is_none (value_named scope name)) (values_named s) in
    let bs = list_any (λ name. is_none (block_named scope name)) (targets s ++ entry_labels s) in
    let fs = list_any (λ name. is_none (head_named scope name)) (functions_named s) in
    let ls = list_any (λ name. is_none (layout_named scope name)) (layouts_named s) in
    let u3 : (vs || bs || fs) ≡ false = or-left (vs || bs || fs) ls unknown in
    let u2 : (vs || bs) ≡ false = or-left (vs || bs) fs u3 in
    record {
      read = All-contains (λ (one : Line). SaysRead one.says) func.body l (said_function form lines func law).body inside;
      values = or-left vs bs u2;
      labels = or-right vs bs u2;
      functions = or-right (vs || bs) fs u3;
      layouts = or-right (vs || bs || fs) ls unknown;
      spelled = or-right (list_any (λ used. is_outside used.1 used.0) (uses s)) (says_wrong form scope s) wrong;
      no_cast = body_clear lines (λ scope. is_cast) (λ line f. law.none line 16 (of_text (pointer_cast f))) func law.defined l inside;
      own = λ is. All-contains (λ (one : Line). is_of_group one.says ≡ false) func.body l (own_lines form lines func law is).body inside;
    }

pub all_lines : (P : Line → Type 0) (ls : List Line) → ((l : Line) → Contains ls l → P l) → All P ls
all_lines P ls h = λ k d within. h (get_or ls k d) (Contains-get_or ls k d within)

abbrev pub made : List Line → Definition → Function
made lines func = function_of (known_of lines func) func

pub names-are : (lines : List Line) (func : Definition)
    → map defs.definition_name (defs.definitions_of (made lines func)) ≡ map (λ one. one.name) (values_of func)
names-are lines func = names_given (known_of lines func) func

pub few_numbers : (form : Form) (lines : List Line) (func : Definition) → InLaw form lines func → length (values_of func) < 2 ^ 25
few_numbers form lines func law =
    let r = (read_function form lines func law).few_instructions in
    let few = (said_function form lines func law).head.few in
    omega (arith, few_values func)

-- ---- operands

pub is_value_in : (names : List (List ℕ)) (ty : TypeWord) (v : Val) → is_value (operand_in names ty v) ≡ true
is_value_in names ty (values.local name) = refl
is_value_in names ty (values.number literal) = refl
is_value_in names ty (values.truth said) = refl
is_value_in names ty values.null = refl

pub wrapped_below : (width : ℕ) (literal : Literal) → wrapped width literal < 2 ^ width
wrapped_below width literal =
    mod-lt (if literal.negative then (2 ^ 64 - literal.magnitude) % 2 ^ 64 else literal.magnitude) (pow_pos width)
