-- The limits of the profile, as quantities of all that a text says up to a line.
use Rattle.std.specs.Prelude.{ℕ, ◌+◌, Bool, true, false, ◌&&◌, not, List, [], ◌∷◌, length, reverse, sum_by, count_by, is_some, nat_le, if◌then◌else◌}
use Rattle.std.specs.List.{list_all, list_any, take_while}
use Rattle.ir_ast.specs.declared.modules.Form.{Form as TextForm}
use Rattle.ir_ast.specs.declared.modules.Form.TheVariants as text_forms
use Rattle.line_forms.specs.declared.forms.Form.{Form}
use Rattle.line_forms.specs.declared.forms.Form.TheVariants as forms
use Rattle.line_forms.specs.Seen.{Said, label, line}
use Rattle.ir_reader.specs.Places.{behind_instruction}
use Rattle.ir_reader.specs.Limits.{arguments_of, said_fits}

-- ---- what a line is

abbrev pub is_layout : Form → Bool
is_layout forms.Layout = true
is_layout _ = false

abbrev pub is_definition : Form → Bool
is_definition forms.Define = true
is_definition _ = false

abbrev pub is_relocate : Form → Bool
is_relocate forms.GcRelocate = true
is_relocate _ = false

-- A line of a block; the cases and the end of a `switch` belong to their instruction. Relocates, which the rewritten form
-- alone has, are counted by themselves.
abbrev pub is_instruction : Form → Bool
is_instruction form = is_some (behind_instruction form) && not (is_relocate form)

-- a line of a form that meets the test
abbrev pub has_form : (Form → Bool) → Said → Bool
has_form test (label name) = false
has_form test (line l) = test l.form

-- the number of arguments of a definition
abbrev pub arguments_in : Said → ℕ
arguments_in (label name) = 0
arguments_in (line l) = if is_definition l.form then arguments_of l.items else 0

-- ---- quantities of what the lines say up to one

abbrev pub layouts_in : List Said → ℕ
layouts_in says = count_by (has_form is_layout) says

abbrev pub functions_in : List Said → ℕ
functions_in says = count_by (has_form is_definition) says

-- instructions count in the source form alone
abbrev pub instructions_in : TextForm → List Said → ℕ
instructions_in text_forms.Source says = count_by (has_form is_instruction) says
instructions_in text_forms.Rewritten says = 0

-- the last definition and what stands behind it; all lines, where there is none
unfoldable pub last_function : List Said → List Said
last_function [] = []
last_function (what ∷ says) = if list_any (has_form is_definition) says then last_function says else what ∷ says

-- the arguments and the instructions of the last function
abbrev pub function_values_in : TextForm → List Said → ℕ
function_values_in form says = sum_by arguments_in (last_function says) + instructions_in form (last_function says)

-- the relocates that stand in a row at the end
abbrev pub last_relocates_in : List Said → ℕ
last_relocates_in says = length (take_while (has_form is_relocate) (reverse says))

-- ---- whether all is within its limit

abbrev pub quantities_fit : TextForm → List Said → Bool
quantities_fit form says = nat_le (layouts_in says) 4096 && nat_le (functions_in says) 4096 && nat_le (function_values_in form says) 4096
    && nat_le (instructions_in form says) 65536 && nat_le (last_relocates_in says) 16384

-- what each line says by itself, and the quantities of all
abbrev pub within_limits : TextForm → List Said → Bool
within_limits form says = list_all said_fits says && quantities_fit form says
