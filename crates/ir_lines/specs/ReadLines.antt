-- Lines as a reader gives them: with names that are names, widths from 1 to 64, the types that each form may have,
-- in their places and within the limits.
use Rattle.std.specs.Prelude.{◌≡◌, ℕ, ◌+◌, ◌≤◌, ◌<◌, ◌^◌, ⊤, Bool, true, false, List, [], ◌∷◌, ◌++◌, length, take_while, count_by, Option, Some, None}
use Rattle.std.specs.List.{All, sum_by}
use Rattle.ir_ast.specs.declared.modules.Form.{Form}
use Rattle.ir_ast.specs.declared.modules.Form.TheVariants.{Source}
use Rattle.ir_ast.specs.Widths.{IsWidth}
use Rattle.ir_cfg.specs.Limits.{IsName}
use Rattle.line_parts.specs.Types.{TypeWord}
use Rattle.line_parts.specs.Types.{Void, Int, Managed}
use Rattle.line_parts.specs.Parts.{Val, is_case_value, is_scalar_type}
use Rattle.line_parts.specs.Lists.{Named, Given, given, function}
use Rattle.ir_lines.specs.Statements.{Guarded, Statement, Line, layout, define, label, binary, compare, convert, select, phi, scalar_step, layout_step, load, call, switch, switch_case, ret, cast, jump, branch, store, ret_void, unreachable, statepoint, gc_result, gc_relocate}
use Rattle.ir_lines.specs.Parts.{is_of_group}
use Rattle.ir_lines.specs.Sections.{Definition, layouts_of, definitions_of, blocks_of, is_case}

-- `iN` of a width, or `ptr addrspace(1)`
abbrev pub IsValueType : TypeWord → Type 0
IsValueType (Int width) = IsWidth width
IsValueType Managed = ⊤
IsValueType _ = ⊥

abbrev pub IsAnswerType : TypeWord → Type 0
IsAnswerType Void = ⊤
IsAnswerType ty = IsValueType ty

abbrev pub IsNameIfAny : Option (List ℕ) → Type 0
IsNameIfAny None = ⊤
IsNameIfAny (Some name) = IsName name

abbrev pub IsReadArgument : Named → Type 0
IsReadArgument one = IsValueType one.ty × IsNameIfAny one.name

abbrev pub IsReadPassed : Given → Type 0
IsReadPassed (given ty value) = IsValueType ty
IsReadPassed (function name) = ⊤

-- what a bundle spells, that of a leaf too
pub record IsReadBundle (kept : List (Val × TypeWord)) : Type 0 where
  pub typed : All (λ used. IsValueType used.1) kept
  pub few : length kept ≤ 64

-- a call with a result answers a value, and one without answers nothing
abbrev pub IsReadCall : Option (List ℕ) → TypeWord → Type 0
IsReadCall None answer = answer ≡ Void
IsReadCall (Some result) answer = IsName result × IsValueType answer

pub record IsReadHead (answer : TypeWord) (name : List ℕ) (arguments : List Named) : Type 0 where
  pub answered : IsAnswerType answer
  pub named : IsName name
  pub short : length name ≤ 4096
  pub few : length arguments ≤ 64
  pub each : All IsReadArgument arguments

pub record IsReadStatepoint (result : List ℕ) (made : Guarded) (live : List Val) : Type 0 where
  pub named : IsName result
  pub answered : IsAnswerType made.signature.answer
  pub passed : All IsReadPassed made.passed
  pub few : length live ≤ 16384
  pub kept : IsReadBundle made.kept

abbrev pub SaysRead : Statement → Type 0
SaysRead (layout name fields) = IsName name × (length name ≤ 4096) × (length fields ≤ 64)
SaysRead (define answer name arguments strategy) = IsReadHead answer name arguments
SaysRead (label name) = IsName name
SaysRead (binary result op width left right) = IsName result × IsWidth width
SaysRead (compare result predicate ty left right) = IsName result × IsValueType ty
SaysRead (convert result op width value to) = IsName result × IsWidth width × IsWidth to
SaysRead (select result condition left_ty left right_ty right) = IsName result × IsValueType left_ty
SaysRead (phi result ty entries) = IsName result × IsValueType ty × (0 < length entries)
SaysRead (scalar_step result element address width index) = IsName result × IsWidth width × (is_scalar_type element ≡ true)
SaysRead (layout_step result named address width index place) = IsName result × IsWidth width
SaysRead (load result ty address) = IsName result × IsValueType ty
SaysRead (store ty value address) = IsValueType ty
SaysRead (call result made) = IsReadCall result made.answer × All IsReadPassed made.passed × IsReadBundle made.kept
SaysRead (switch width value default) = IsWidth width
SaysRead (switch_case width value to) = is_case_value value ≡ true
SaysRead (ret ty value) = IsValueType ty
SaysRead (statepoint result made live) = IsReadStatepoint result made live
SaysRead (gc_result result ty token) = IsName result × IsValueType ty
SaysRead (gc_relocate result token base derived) = IsName result
SaysRead _ = ⊤

-- the head of a `switch`, or one of its cases
abbrev pub opens_case : Statement → Bool
opens_case (switch width value default) = true
opens_case (switch_case width value to) = true
opens_case _ = false

-- a case stands directly behind its `switch` or another case; whether one may stand first is given
abbrev pub CasesStand : Bool → List Line → Type 0
CasesStand may [] = ⊤
CasesStand may (l ∷ ls) = (is_case l.says ≡ true → may ≡ true) × CasesStand (opens_case l.says) ls

-- what counts as an instruction; the cases and the end of a `switch` belong to it
abbrev pub is_instruction : Statement → Bool
is_instruction (binary result op width left right) = true
is_instruction (compare result predicate ty left right) = true
is_instruction (convert result op width value to) = true
is_instruction (select result condition left_ty left right_ty right) = true
is_instruction (phi result ty entries) = true
is_instruction (scalar_step result element address width index) = true
is_instruction (layout_step result named address width index place) = true
is_instruction (load result ty address) = true
is_instruction (store ty value address) = true
is_instruction (call result made) = true
is_instruction (jump to) = true
is_instruction (branch condition on_true on_false) = true
is_instruction (switch width value default) = true
is_instruction ret_void = true
is_instruction (ret ty value) = true
is_instruction unreachable = true
is_instruction (cast result op from value to) = true
is_instruction (statepoint result made live) = true
is_instruction (gc_result result ty token) = true
is_instruction (gc_relocate result token base derived) = true
is_instruction _ = false

abbrev pub instruction_count : List Line → ℕ
instruction_count lines = count_by (λ l. is_instruction l.says) lines

abbrev pub is_relocate : Statement → Bool
is_relocate (gc_relocate result token base derived) = true
is_relocate _ = false

-- how many relocates stand first among these lines
abbrev pub relocates_first : List Line → ℕ
relocates_first lines = length (take_while (λ l. is_relocate l.says) lines)

-- at most 16,384 relocates stand in a row
abbrev pub RelocatesAreFew : List Line → Type 0
RelocatesAreFew lines = (before after : List Line) → lines ≡ before ++ after → relocates_first after ≤ 16384

pub record IsReadFunction (form : Form) (func : Definition) : Type 0 where
  pub has_line : 0 < length func.body
  pub cases : CasesStand false func.body
  -- the rewritten form has no limit on instructions but that of the file
  pub values : form ≡ Source → length func.arguments + instruction_count func.body ≤ 4096
  pub few_instructions : instruction_count func.body < 2 ^ 24
  pub few_relocates : RelocatesAreFew func.body
  pub few_blocks : length (blocks_of func) < 2 ^ 30

pub record IsReadLines (form : Form) (lines : List Line) : Type 0 where
  pub says : All (λ l. SaysRead l.says) lines
  -- only the rewritten form has statepoint groups
  pub own : form ≡ Source → All (λ l. is_of_group l.says ≡ false) lines
  pub functions : All (IsReadFunction form) (definitions_of lines)
  pub few_layouts : length (layouts_of lines) ≤ 4096
  pub few_functions : length (definitions_of lines) ≤ 4096
  pub few_instructions : form ≡ Source → sum_by (λ func. instruction_count func.body) (definitions_of lines) ≤ 65536
  -- a text within the file limit has no more lines than bytes and one
  pub few_lines : length lines ≤ 16777217
