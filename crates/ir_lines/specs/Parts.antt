-- What a line of a function gives, uses and names.
use Rattle.std.specs.Prelude.{ℕ, Bool, true, false, List, [], ◌∷◌, ◌++◌, map, Option, Some, None, filter_map}
use Rattle.line_parts.specs.Parts as values
use Rattle.line_parts.specs.Types.{TypeWord}
use Rattle.line_parts.specs.Types.{Void, Int, Managed}
use Rattle.line_tokens.specs.declared.literals.Literal.{Literal}
use Rattle.line_parts.specs.Parts.{Val}
use Rattle.line_parts.specs.Lists.{Given, given, function}
use Rattle.ir_lines.specs.Statements.{Statement, binary, compare, convert, select, phi, scalar_step, layout_step, load, store, call, jump, branch, switch, switch_case, ret, cast, statepoint, gc_result, gc_relocate, kept_by}

-- the type of a statepoint's result, a token; no other value has the type word `void`
abbrev pub token_type : TypeWord
token_type = Void

abbrev pub given_by_call : Option (List ℕ) → TypeWord → Option (List ℕ × TypeWord)
given_by_call None answer = None
given_by_call (Some result) answer = Some (result, answer)

-- the name and the type of its result
abbrev pub gives : Statement → Option (List ℕ × TypeWord)
gives (binary result op width left right) = Some (result, Int width)
gives (compare result predicate ty left right) = Some (result, Int 1)
gives (convert result op width value to) = Some (result, Int to)
gives (select result condition left_ty left right_ty right) = Some (result, left_ty)
gives (phi result ty entries) = Some (result, ty)
gives (scalar_step result element address width index) = Some (result, Managed)
gives (layout_step result named address width index place) = Some (result, Managed)
gives (load result ty address) = Some (result, ty)
gives (call result made) = given_by_call result made.answer
gives (cast result op from value to) = Some (result, to)
gives (statepoint result made live) = Some (result, token_type)
gives (gc_result result ty token) = Some (result, ty)
gives (gc_relocate result token base derived) = Some (result, Managed)
gives _ = None

abbrev pub passed_value : Given → Option (Val × TypeWord)
passed_value (given ty value) = Some (value, ty)
passed_value (function name) = None

abbrev pub entry_use : TypeWord → Val × List ℕ → Val × TypeWord
entry_use ty entry = (entry.0, ty)

abbrev pub live_use : Val → Val × TypeWord
live_use entry = (entry, Managed)

abbrev pub token_use : List ℕ → Val × TypeWord
token_use token = (values.local token, token_type)

-- the place of a live entry, a number of `i32`
abbrev pub index_use : Literal → Val × TypeWord
index_use place = (values.number place, Int 32)

-- the values that it uses, each with the type that the line asks of it
abbrev pub uses : Statement → List (Val × TypeWord)
uses (binary result op width left right) = (left, Int width) ∷ (right, Int width) ∷ []
uses (compare result predicate ty left right) = (left, ty) ∷ (right, ty) ∷ []
uses (convert result op width value to) = (value, Int width) ∷ []
uses (select result condition left_ty left right_ty right) = (condition, Int 1) ∷ (left, left_ty) ∷ (right, right_ty) ∷ []
uses (phi result ty entries) = map (entry_use ty) entries
uses (scalar_step result element address width index) = (address, Managed) ∷ (index, Int width) ∷ []
uses (layout_step result named address width index place) = (address, Managed) ∷ (index, Int width) ∷ []
uses (load result ty address) = (address, Managed) ∷ []
uses (store ty value address) = (value, ty) ∷ (address, Managed) ∷ []
uses (call result made) = filter_map passed_value made.passed ++ kept_by made
uses (branch condition on_true on_false) = (condition, Int 1) ∷ []
uses (switch width value default) = (value, Int width) ∷ []
uses (switch_case width value to) = (value, Int width) ∷ []
uses (ret ty value) = (value, ty) ∷ []
uses (cast result op from value to) = (value, from) ∷ []
uses (statepoint result made live) = filter_map passed_value made.passed ++ map live_use live ++ made.kept
uses (gc_result result ty token) = token_use token ∷ []
uses (gc_relocate result token base derived) = token_use token ∷ index_use base ∷ index_use derived ∷ []
uses _ = []

-- the labels that a terminator or a case names: an edge each
abbrev pub targets : Statement → List (List ℕ)
targets (jump to) = to ∷ []
targets (branch condition on_true on_false) = on_true ∷ on_false ∷ []
targets (switch width value default) = default ∷ []
targets (switch_case width value to) = to ∷ []
targets _ = []

abbrev pub entry_labels : Statement → List (List ℕ)
entry_labels (phi result ty entries) = map (λ entry. entry.1) entries
entry_labels _ = []

abbrev pub passed_function : Given → Option (List ℕ)
passed_function (given ty value) = None
passed_function (function name) = Some name

-- the functions that it names: what it calls, and what it passes
abbrev pub functions_named : Statement → List (List ℕ)
functions_named (call result made) = made.callee ∷ filter_map passed_function made.passed
functions_named (statepoint result made live) = made.callee ∷ filter_map passed_function made.passed
functions_named _ = []

abbrev pub layouts_named : Statement → List (List ℕ)
layouts_named (layout_step result named address width index place) = named ∷ []
layouts_named _ = []

abbrev pub local_name : Val → Option (List ℕ)
local_name (values.local name) = Some name
local_name _ = None

-- the names of the values that it uses
abbrev pub values_named : Statement → List (List ℕ)
values_named what = filter_map (λ used. local_name used.0) (uses what)

-- a line that gives a pointer some bytes further
abbrev pub is_step : Statement → Bool
is_step (scalar_step result element address width index) = true
is_step (layout_step result named address width index place) = true
is_step _ = false

-- a line where several values meet
abbrev pub is_merge : Statement → Bool
is_merge (phi result ty entries) = true
is_merge (select result condition left_ty left right_ty right) = true
is_merge _ = false

-- a line of a statepoint group
abbrev pub is_of_group : Statement → Bool
is_of_group (statepoint result made live) = true
is_of_group (gc_result result ty token) = true
is_of_group (gc_relocate result token base derived) = true
is_of_group _ = false
