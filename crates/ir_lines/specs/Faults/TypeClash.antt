-- Code 5 of a call: it hasn't the types of the first head of its name, or an external asks for other operands.
use Rattle.std.specs.Prelude.{ℕ, Bool, true, false, not, ◌&&◌, ◌||◌, List, [], ◌∷◌, map, codes, Option, Some, None}
use Rattle.std.specs.Str.{bytes_eq}
use Rattle.line_parts.specs.Types.{TypeWord}
use Rattle.line_parts.specs.Types.{Void, Int, Managed}
use Rattle.line_parts.specs.Parts.{Val}
use Rattle.line_parts.specs.Parts as values
use Rattle.line_parts.specs.Lists.{Given, given, function}
use Rattle.ir_ast.specs.Cells as cells
use Rattle.ir_ast.specs.declared.modules.Form.{Form}
use Rattle.ir_lines.specs.Statements.{Guarded}
use Rattle.ir_lines.specs.Sections.{Head}
use Rattle.ir_lines.specs.Scope.{Scope, head_named}
use Rattle.ir_lines.specs.TextForms.{is_source}
use Rattle.ir_lines.specs.Types.{same_type, same_types, literal_fits}
use Rattle.ir_lines.specs.Modules.{passed_type, wrapped}

-- a definition that answers nothing and takes a pointer, at which a task can start
abbrev pub is_task : Option Head → Bool
is_task None = false
is_task (Some head) = head.defined && same_type head.answer Void && same_types head.parameters (Managed ∷ [])

-- what isn't passed isn't judged: an external that is declared wrongly may ask for fewer operands
abbrev pub starts_task : Scope → List Given → Bool
starts_task scope [] = true
starts_task scope (function name ∷ passed) = is_task (head_named scope name)
starts_task scope (given ty value ∷ passed) = false

-- a literal that is the kind of a cell
abbrev pub is_kind : Val → Bool
is_kind (values.number literal) = cells.is_kind (wrapped 64 literal)
is_kind _ = false

abbrev pub gives_kind : Given → Bool
gives_kind (given ty value) = is_kind value
gives_kind (function name) = false

-- the third operand of a check is its kind
abbrev pub checks_kind : List Given → Bool
checks_kind [] = true
checks_kind (base ∷ []) = true
checks_kind (base ∷ address ∷ []) = true
checks_kind (base ∷ address ∷ kind ∷ passed) = gives_kind kind

-- what two of the externals ask of their operands; only the rewritten form has checks
abbrev pub takes_operands : Form → Scope → List ℕ → List Given → Bool
takes_operands form scope callee passed =
    (not (bytes_eq callee (codes "task_start")) || starts_task scope passed)
    && (is_source form || not (bytes_eq callee (codes "gc_check")) || checks_kind passed)

abbrev pub agrees : TypeWord → List Given → Option Head → Bool
agrees answer passed None = true
agrees answer passed (Some head) =
    same_type answer head.answer && same_types (map passed_type passed) head.parameters

-- a call has the types of what the first head of the name says
abbrev pub call_agrees : Form → Scope → TypeWord → List ℕ → List Given → Bool
call_agrees form scope answer callee passed =
    agrees answer passed (head_named scope callee) && takes_operands form scope callee passed

-- the parameters of a head have these types
abbrev pub takes_types : List TypeWord → Option Head → Bool
takes_types types None = true
takes_types types (Some head) = same_types types head.parameters

-- a statepoint calls by the type of its callee, and its number of arguments is one of `i32`
abbrev pub statepoint_agrees : Form → Scope → Guarded → Bool
statepoint_agrees form scope made =
    call_agrees form scope made.signature.answer made.callee made.passed
    && (takes_types made.signature.parameters (head_named scope made.callee) && literal_fits (Int 32) made.count)
