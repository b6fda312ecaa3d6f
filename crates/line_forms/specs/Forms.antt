-- The table of forms.
use Rattle.std.specs.Prelude.{ℕ, Bool, true, false, ◌||◌, List, [], ◌∷◌, ◌++◌, not, Option, Some, None, is_some, codes, option_map, if◌then◌else◌}
use Rattle.std.specs.List.{list_any}
use Rattle.std.specs.Str.{bytes_eq}
use Rattle.sp_text.specs.Tokens.{Tok, tok}
use Rattle.sp_text.specs.declared.tokens.Kind.TheVariants as kinds
use Rattle.line_tokens.specs.declared.words.Dropped.TheVariants as drops
use Rattle.line_tokens.specs.declared.words.Flags.{Flags}
use Rattle.line_tokens.specs.declared.words.Flags.TheVariants as flags
use Rattle.ir_ast.specs.declared.modules.Form.{Form as TextForm}
use Rattle.ir_ast.specs.declared.modules.Form.TheVariants as text_forms
use Rattle.line_forms.specs.declared.forms.Form.{Form}
use Rattle.line_forms.specs.declared.forms.Form.TheVariants as forms
use Rattle.line_forms.specs.declared.forms.DroppedLine.TheVariants as drop_lines
use Rattle.line_tokens.specs.Marks.{is_word, is_mark, is_local, global_of, begins}
use Rattle.line_tokens.specs.Numbers.{width_of}
use Rattle.line_parts.specs.Drops.{past, past_all}
use Rattle.line_parts.specs.Gives.{Found, after}
use Rattle.line_parts.specs.Groups.{takes_own}
use Rattle.line_tokens.specs.Families.{statepoint_name, relocate_name, is_result_name, is_family_name}
use Rattle.line_tokens.specs.Words.{spelled_by, binary_word, binary_flags, conversion_word, conversion_flags, cast_word, all_binaries, all_conversions, all_casts}
use Rattle.line_forms.specs.Slots as items
use Rattle.line_forms.specs.Slots.{Slot, Item, parse, called, declared, blank, m, w, g, dropped, a_managed, a_quoted, a_hash, to_brace, a_local, a_layout_name, a_width, a_type, an_answer, a_cast_type, a_value, a_case, a_pred, a_scalar, a_layout, a_place, some_fields, some_entries, a_declared, a_defined, a_called, a_strategy, a_zero, a_closing, a_family_answer, a_family, a_bracketing, a_token, a_global, some_types, some_handed, some_deopt, some_bundles, a_result, a_number}

-- ---- the slots of each form

-- `%x = ..`
abbrev pub result_is : List Slot → List Slot
result_is f = a_local ∷ blank ∷ m (codes "=") ∷ blank ∷ f

-- `label %l`
abbrev label_then : List Slot → List Slot
label_then f = w (codes "label") ∷ blank ∷ a_local ∷ f

-- flags, which are dropped
abbrev flagged : Flags → Slot
flagged which = dropped (drops.Words which)

-- the end of an instruction
abbrev pub ended : List Slot
ended = dropped drops.Attachments ∷ []

-- `call`, behind words and before groups that are dropped
abbrev pub calling : List Slot → List Slot
calling f = flagged flags.Calling ∷ w (codes "call") ∷ dropped drops.Groups ∷ blank ∷ f

-- the type of a statepoint: `token (i64, i32, ptr`, and `, i32, i32, ...)`
abbrev pub first_types : List Slot
first_types = w (codes "token") ∷ blank ∷ m (codes "(") ∷ w (codes "i64") ∷ m (codes ",") ∷ blank ∷ w (codes "i32") ∷ m (codes ",") ∷ blank ∷ w (codes "ptr") ∷ []

abbrev pub last_types : List Slot
last_types = m (codes ",") ∷ blank ∷ w (codes "i32") ∷ m (codes ",") ∷ blank ∷ w (codes "i32") ∷ m (codes ",") ∷ blank ∷ w (codes "...") ∷ m (codes ")") ∷ []

-- its name and its id: ` @llvm.experimental.gc.statepoint.p0(i64 ID, i32 0, `
abbrev pub point_id : List Slot
point_id = blank ∷ g statepoint_name ∷ m (codes "(") ∷ a_number (codes "i64") ∷ m (codes ",") ∷ blank ∷ a_zero ∷ m (codes ",") ∷ blank ∷ []

-- the type of what it calls: `ptr elementtype(R (A, ..))`
abbrev pub callee_type : List Slot
callee_type = w (codes "ptr") ∷ dropped drops.BesideElementType ∷ blank ∷ w (codes "elementtype") ∷ m (codes "(") ∷ an_answer ∷ blank ∷ m (codes "(") ∷ some_types ∷ m (codes ")") ∷ m (codes ")") ∷ []

-- its name, and the number of arguments: ` @f, i32 C, i32 0`
abbrev pub callee_count : List Slot
callee_count = dropped drops.BesideElementType ∷ blank ∷ a_global ∷ m (codes ",") ∷ blank ∷ a_number (codes "i32") ∷ m (codes ",") ∷ blank ∷ a_zero ∷ []

-- the arguments and the bundles: `, T V, .., i32 0, i32 0) [ "deopt"(T V, ..), "gc-live"(P V, ..) ]`
abbrev pub point_end : List Slot
point_end = some_handed ∷ a_closing ∷ dropped drops.Groups ∷ some_bundles ∷ ended

abbrev pub slots : Form → List Slot
slots (forms.Dropped drop_lines.SourceFilename) = w (codes "source_filename") ∷ blank ∷ m (codes "=") ∷ blank ∷ a_quoted ∷ []
slots (forms.Dropped drop_lines.DataLayout) = w (codes "target") ∷ blank ∷ w (codes "datalayout") ∷ blank ∷ m (codes "=") ∷ blank ∷ a_quoted ∷ []
slots (forms.Dropped drop_lines.Triple) = w (codes "target") ∷ blank ∷ w (codes "triple") ∷ blank ∷ m (codes "=") ∷ blank ∷ a_quoted ∷ []
slots (forms.Dropped drop_lines.Attributes) = w (codes "attributes") ∷ blank ∷ a_hash ∷ blank ∷ m (codes "=") ∷ blank ∷ m (codes "{") ∷ to_brace ∷ []
slots (forms.Dropped drop_lines.Family) = w (codes "declare") ∷ dropped drops.HeadAttachments ∷ dropped drops.Groups ∷ blank ∷ a_family_answer ∷ blank ∷ a_family ∷ a_bracketing ∷ dropped drops.Groups ∷ []
slots forms.Layout = a_layout_name ∷ blank ∷ m (codes "=") ∷ blank ∷ w (codes "type") ∷ blank ∷ m (codes "{") ∷ blank ∷ some_fields ∷ blank ∷ m (codes "}") ∷ []
slots forms.Declare = w (codes "declare") ∷ dropped drops.HeadAttachments ∷ dropped drops.Groups ∷ blank ∷ an_answer ∷ blank ∷ a_declared ∷ dropped drops.Groups ∷ []
slots forms.Define = w (codes "define") ∷ dropped drops.Groups ∷ blank ∷ an_answer ∷ blank ∷ a_defined ∷ dropped drops.Groups ∷ a_strategy ∷ dropped drops.HeadAttachments ∷ blank ∷ m (codes "{") ∷ []
slots forms.Close = m (codes "}") ∷ []
slots (forms.Binary op) = result_is (w (binary_word op) ∷ flagged (binary_flags op) ∷ blank ∷ a_width ∷ blank ∷ a_value ∷ m (codes ",") ∷ blank ∷ a_value ∷ ended)
slots forms.Compare = result_is (w (codes "icmp") ∷ flagged flags.SameSign ∷ blank ∷ a_pred ∷ blank ∷ a_type ∷ blank ∷ a_value ∷ m (codes ",") ∷ blank ∷ a_value ∷ ended)
slots (forms.Convert op) = result_is (w (conversion_word op) ∷ flagged (conversion_flags op) ∷ blank ∷ a_width ∷ blank ∷ a_value ∷ blank ∷ w (codes "to") ∷ blank ∷ a_width ∷ ended)
slots forms.Select = result_is (w (codes "select") ∷ blank ∷ w (codes "i1") ∷ blank ∷ a_value ∷ m (codes ",") ∷ blank ∷ a_type ∷ blank ∷ a_value ∷ m (codes ",") ∷ blank ∷ a_type ∷ blank ∷ a_value ∷ ended)
slots forms.Phi = result_is (w (codes "phi") ∷ blank ∷ a_type ∷ blank ∷ some_entries ∷ ended)
slots forms.ScalarElement = result_is (w (codes "getelementptr") ∷ flagged flags.Bounds ∷ blank ∷ a_scalar ∷ m (codes ",") ∷ blank ∷ a_managed ∷ blank ∷ a_value ∷ m (codes ",") ∷ blank ∷ a_width ∷ blank ∷ a_value ∷ ended)
slots forms.LayoutElement = result_is (w (codes "getelementptr") ∷ flagged flags.Bounds ∷ blank ∷ a_layout ∷ m (codes ",") ∷ blank ∷ a_managed ∷ blank ∷ a_value ∷ m (codes ",") ∷ blank ∷ a_width ∷ blank ∷ a_value ∷ a_place ∷ ended)
slots forms.Load = result_is (w (codes "load") ∷ blank ∷ a_type ∷ m (codes ",") ∷ blank ∷ a_managed ∷ blank ∷ a_value ∷ dropped drops.Alignments ∷ ended)
slots forms.Store = w (codes "store") ∷ blank ∷ a_type ∷ blank ∷ a_value ∷ m (codes ",") ∷ blank ∷ a_managed ∷ blank ∷ a_value ∷ dropped drops.Alignments ∷ ended
slots forms.ValueCall = result_is (flagged flags.Calling ∷ w (codes "call") ∷ dropped drops.Groups ∷ blank ∷ a_type ∷ blank ∷ a_called ∷ dropped drops.Groups ∷ some_deopt ∷ ended)
slots forms.VoidCall = flagged flags.Calling ∷ w (codes "call") ∷ dropped drops.Groups ∷ blank ∷ w (codes "void") ∷ blank ∷ a_called ∷ dropped drops.Groups ∷ some_deopt ∷ ended
slots forms.Jump = w (codes "br") ∷ blank ∷ label_then ended
slots forms.Branch = w (codes "br") ∷ blank ∷ w (codes "i1") ∷ blank ∷ a_value ∷ m (codes ",") ∷ blank ∷ label_then (m (codes ",") ∷ blank ∷ label_then ended)
slots forms.Switch = w (codes "switch") ∷ blank ∷ a_width ∷ blank ∷ a_value ∷ m (codes ",") ∷ blank ∷ label_then (blank ∷ m (codes "[") ∷ [])
slots forms.Case = a_width ∷ blank ∷ a_case ∷ m (codes ",") ∷ blank ∷ label_then []
slots forms.SwitchEnd = m (codes "]") ∷ ended
slots forms.ReturnVoid = w (codes "ret") ∷ blank ∷ w (codes "void") ∷ ended
slots forms.Return = w (codes "ret") ∷ blank ∷ a_type ∷ blank ∷ a_value ∷ ended
slots forms.Unreachable = w (codes "unreachable") ∷ ended
slots forms.Statepoint = result_is (calling (first_types ++ (last_types ++ (point_id ++ (callee_type ++ (callee_count ++ point_end))))))
slots forms.GcResult = result_is (calling (a_result ∷ m (codes "(") ∷ a_token ∷ m (codes ")") ∷ dropped drops.Groups ∷ ended))
slots forms.GcRelocate = result_is (calling (a_managed ∷ blank ∷ g relocate_name ∷ m (codes "(") ∷ a_token ∷ m (codes ",") ∷ blank ∷ a_number (codes "i32") ∷ m (codes ",") ∷ blank ∷ a_number (codes "i32") ∷ m (codes ")") ∷ dropped drops.Groups ∷ ended))
slots (forms.Cast op) = result_is (w (cast_word op) ∷ blank ∷ a_cast_type ∷ blank ∷ a_value ∷ blank ∷ w (codes "to") ∷ blank ∷ a_cast_type ∷ ended)

-- what stands at the slots belongs together: `ptr` stands in what `task_start` takes alone
abbrev pub agree : Form → List Item → Bool
agree forms.Statepoint (token ∷ id ∷ answer ∷ items.types parameters ∷ items.name callee ∷ count ∷ items.handed passed ∷ more) = takes_own callee parameters passed
agree _ _ = true

-- what a front of this form says
unfoldable pub fit : Form → List Tok → Found (List Item)
fit form ts = after (parse (slots form) ts) (λ said rest. if agree form said then Some (said, rest) else None)

-- ---- which form a line can have, by the tokens that it begins with

abbrev pub is_calling_word : List ℕ → Bool
is_calling_word bytes = bytes_eq bytes (codes "call") || bytes_eq bytes (codes "tail") || bytes_eq bytes (codes "notail")

abbrev pub element_form : List Tok → Form
element_form ts = if begins is_local (past_all (drops.Words flags.Bounds) ts) then forms.LayoutElement else forms.ScalarElement

abbrev pub single_result_form : List ℕ → List Tok → Option Form
single_result_form bytes ts =
    if bytes_eq bytes (codes "getelementptr") then Some (element_form ts) else
    if bytes_eq bytes (codes "load") then Some forms.Load else
    if is_calling_word bytes then Some forms.ValueCall else
    if bytes_eq bytes (codes "phi") then Some forms.Phi else
    if bytes_eq bytes (codes "icmp") then Some forms.Compare else
    if bytes_eq bytes (codes "select") then Some forms.Select else
    if bytes_eq bytes (codes "type") then Some forms.Layout else None

abbrev pub or_else : {A : Type 0} → Option A → Option A → Option A
or_else (Some x) other = Some x
or_else None other = other

-- behind `%x =`
unfoldable pub named_form : List ℕ → List Tok → Option Form
named_form bytes ts =
    or_else (option_map (λ op. forms.Binary op) (spelled_by binary_word all_binaries bytes)) (
    or_else (option_map (λ op. forms.Convert op) (spelled_by conversion_word all_conversions bytes)) (
    or_else (option_map (λ op. forms.Cast op) (spelled_by cast_word all_casts bytes))
    (single_result_form bytes ts)))

abbrev pub result_form : List Tok → Option Form
result_form (tok kinds.Word bytes ∷ ts) = named_form bytes ts
result_form _ = None

abbrev pub target_form : List Tok → Form
target_form ts = if begins (is_word (codes "datalayout")) ts then forms.Dropped drop_lines.DataLayout else forms.Dropped drop_lines.Triple

abbrev pub top_form : List ℕ → List Tok → Option Form
top_form bytes ts =
    if bytes_eq bytes (codes "declare") then Some forms.Declare else
    if bytes_eq bytes (codes "define") then Some forms.Define else
    if bytes_eq bytes (codes "attributes") then Some (forms.Dropped drop_lines.Attributes) else
    if bytes_eq bytes (codes "source_filename") then Some (forms.Dropped drop_lines.SourceFilename) else
    if bytes_eq bytes (codes "target") then Some (target_form ts) else None

abbrev pub case_form : Tok → Option Form
case_form t = if is_some (width_of t) then Some forms.Case else None

abbrev pub branch_form : List Tok → Form
branch_form ts = if begins (is_word (codes "label")) ts then forms.Jump else forms.Branch

abbrev pub return_form : List Tok → Form
return_form ts = if begins (is_word (codes "void")) ts then forms.ReturnVoid else forms.Return

abbrev pub instruction_form : List ℕ → List Tok → Option Form
instruction_form bytes ts =
    if bytes_eq bytes (codes "store") then Some forms.Store else
    if is_calling_word bytes then Some forms.VoidCall else
    if bytes_eq bytes (codes "br") then Some (branch_form ts) else
    if bytes_eq bytes (codes "switch") then Some forms.Switch else
    if bytes_eq bytes (codes "ret") then Some (return_form ts) else
    if bytes_eq bytes (codes "unreachable") then Some forms.Unreachable else None

unfoldable pub word_form : List ℕ → List Tok → Option Form
word_form bytes ts = or_else (instruction_form bytes ts) (or_else (top_form bytes ts) (case_form (tok kinds.Word bytes)))

abbrev pub mark_form : List ℕ → Option Form
mark_form bytes = if bytes_eq bytes (codes "}") then Some forms.Close else if bytes_eq bytes (codes "]") then Some forms.SwitchEnd else None

abbrev pub local_form : List Tok → Option Form
local_form [] = None
local_form (t ∷ ts) = if is_mark (codes "=") t then result_form ts else None

-- the form of a line of the source form
unfoldable pub form_of : List Tok → Option Form
form_of (tok kinds.Local bytes ∷ ts) = local_form ts
form_of (tok kinds.Word bytes ∷ ts) = word_form bytes ts
form_of (tok kinds.Punct bytes ∷ ts) = mark_form bytes
form_of _ = None

-- ---- the rewritten form: the function that a line calls or declares tells whether it is one of a statepoint group

-- the first function that is named there
unfoldable pub first_global : List Tok → Option (List ℕ)
first_global [] = None
first_global (t ∷ ts) = or_else (global_of t) (first_global ts)

-- the function that a call names
unfoldable pub callee_of : List Tok → Option (List ℕ)
callee_of ts = first_global (past_all drops.Groups (past (is_word (codes "call")) (past_all (drops.Words flags.Calling) ts)))

-- the function that a declaration names
unfoldable pub declared_of : List Tok → Option (List ℕ)
declared_of ts = first_global (past_all drops.Groups (past_all drops.HeadAttachments (past (is_word (codes "declare")) ts)))

-- behind `%x =`
abbrev pub behind_result : List Tok → List Tok
behind_result (t ∷ u ∷ ts) = ts
behind_result ts = ts

-- a call with a result
abbrev pub called_form : Option (List ℕ) → Form
called_form None = forms.ValueCall
called_form (Some name) = if is_result_name name then forms.GcResult else
    if bytes_eq name statepoint_name then forms.Statepoint else
    if bytes_eq name relocate_name then forms.GcRelocate else forms.ValueCall

-- a call without one: of none of the three families
abbrev pub plain_form : Option (List ℕ) → Option Form
plain_form None = Some forms.VoidCall
plain_form (Some name) = if is_family_name name then None else Some forms.VoidCall

abbrev pub declared_form : Option (List ℕ) → Form
declared_form None = forms.Declare
declared_form (Some name) = if is_family_name name then forms.Dropped drop_lines.Family else forms.Declare

-- what a line of the source form is in the rewritten form
unfoldable pub group_form : List Tok → Form → Option Form
group_form ts forms.ValueCall = Some (called_form (callee_of (behind_result ts)))
group_form ts forms.VoidCall = plain_form (callee_of ts)
group_form ts forms.Declare = Some (declared_form (declared_of ts))
group_form ts form = Some form

abbrev pub grouped_form : List Tok → Option Form → Option Form
grouped_form ts None = None
grouped_form ts (Some form) = group_form ts form

-- the form of a line of a text in this form
unfoldable pub form_in : TextForm → List Tok → Option Form
form_in text_forms.Source ts = form_of ts
form_in text_forms.Rewritten ts = grouped_form ts (form_of ts)

-- lines of an operator: `%x =`, its word, and what it works on
abbrev pub is_operator_form : Form → Bool
is_operator_form (forms.Binary op) = true
is_operator_form (forms.Convert op) = true
is_operator_form (forms.Cast op) = true
is_operator_form forms.Compare = true
is_operator_form forms.Select = true
is_operator_form forms.Phi = true
is_operator_form forms.ScalarElement = true
is_operator_form forms.LayoutElement = true
is_operator_form forms.Load = true
is_operator_form _ = false

-- the word is the operator of the form
abbrev pub is_operator : Form → List ℕ → Bool
is_operator (forms.Binary op) word = bytes_eq word (binary_word op)
is_operator (forms.Convert op) word = bytes_eq word (conversion_word op)
is_operator (forms.Cast op) word = bytes_eq word (cast_word op)
is_operator forms.Compare word = bytes_eq word (codes "icmp")
is_operator forms.Select word = bytes_eq word (codes "select")
is_operator forms.Phi word = bytes_eq word (codes "phi")
is_operator forms.ScalarElement word = bytes_eq word (codes "getelementptr")
is_operator forms.LayoutElement word = bytes_eq word (codes "getelementptr")
is_operator forms.Load word = bytes_eq word (codes "load")
is_operator _ word = false

-- lines that are read and say nothing
abbrev pub is_dropped_form : Form → Bool
is_dropped_form (forms.Dropped which) = true
is_dropped_form _ = false

-- ---- which lines of the table are lines of a text in a form

-- forms of the rewritten form alone
abbrev pub is_group_form : Form → Bool
is_group_form forms.Statepoint = true
is_group_form forms.GcResult = true
is_group_form forms.GcRelocate = true
is_group_form (forms.Dropped drop_lines.Family) = true
is_group_form _ = false

-- an ordinary call or declaration of one of the three families
abbrev pub names_family : Item → Bool
names_family (called name passed) = is_family_name name
names_family (declared name parameters) = is_family_name name
names_family _ = false

-- The source form has no line of a group. In the rewritten form the three families are called and declared by those lines alone.
abbrev pub stands_in : TextForm → Form → List Item → Bool
stands_in text_forms.Source form says = not (is_group_form form)
stands_in text_forms.Rewritten form says = not (list_any names_family says)
