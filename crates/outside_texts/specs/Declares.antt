-- A declaration by which a text stands for no module in either form: no such external is there.
use Rattle.std.specs.Prelude.{◌≡◌, ℕ, Bool, true, false, List, [], ◌∷◌, ◌++◌, nat_eq, codes, Option, Some, None, Ok}
use Rattle.std.specs.List.{All, starts_with}
use Rattle.sp_text.specs.Tokens.{Tok, tokens}
use Rattle.sp_text.specs.Labels.{label_of, is_metadata}
use Rattle.sp_text.specs.Lines.{NumberedLine, lines_of}
use Rattle.ir_ast.specs.declared.modules.Form.{Form as TextForm}
use Rattle.ir_ast.specs.declared.modules.Form.TheVariants.{Source, Rewritten}
use Rattle.line_tokens.specs.Marks.{local_of, is_this}
use Rattle.line_parts.specs.Types.{TypeWord}
use Rattle.line_parts.specs.Lists.{Named}
use Rattle.line_forms.specs.declared.forms.Form.TheVariants as forms
use Rattle.line_forms.specs.Forms.{form_in}
use Rattle.line_forms.specs.Slots.{Item, ty, declared}
use Rattle.line_forms.specs.Seen.{of_form, line_at, ended}
use Rattle.ir_reader.specs.Text.{Numbered, readings_in}
use Rattle.ir_lines.specs.Statements.{lines_of as lines_said}
use Rattle.ir_lines.specs.Externals.{gc_new}
use Rattle.ir_resolve.specs.FaultSet.{HasResolvedFault}

-- what a declaration says
abbrev pub declaration : TypeWord → List ℕ → List Named → List Item
declaration answer name parameters = ty answer ∷ declared name parameters ∷ []

-- the tokens are a declaration of this name
pub record Says (ts : List Tok) (name : List ℕ) : Type 0 where
  pub answer : TypeWord
  pub parameters : List Named
  pub passed : Bool
  pub is : ended (line_at forms.Declare ts) ≡ Some (of_form forms.Declare (declaration answer name parameters), passed)

-- the line declares this name, in texts of either form
pub record Declares (bytes name : List ℕ) : Type 0 where
  pub no_label : label_of bytes ≡ None
  pub no_metadata : is_metadata bytes ≡ false
  pub source : form_in Source (tokens bytes) ≡ Some forms.Declare
  pub rewritten : form_in Rewritten (tokens bytes) ≡ Some forms.Declare
  pub says : Says (tokens bytes) name

-- the line begins with `%` and this name
abbrev pub begins_named : List ℕ → List Tok → Bool
begins_named name [] = false
begins_named name (t ∷ ts) = is_this name (local_of t)

-- no line begins so, thus none is a layout of this name
abbrev pub LacksLayout : List NumberedLine → List ℕ → Type 0
LacksLayout lines layout = All (λ line. begins_named layout (tokens line.bytes) ≡ false) lines

-- an intrinsic, or what makes objects of a layout that there isn't
pub data IsUnknown (lines : List NumberedLine) : List ℕ → Type 0 where
  intrinsic : (name : List ℕ) → starts_with nat_eq name (codes "llvm.") ≡ true → IsUnknown lines name
  maker : (layout : List ℕ) → LacksLayout lines layout → IsUnknown lines (gc_new layout)

-- the line declares what is unknown in the text
pub record Tells (text bytes : List ℕ) : Type 0 where
  pub name : List ℕ
  pub declares : Declares bytes name
  pub unknown : IsUnknown (lines_of text) name

-- if the text is read in the form, it has the fault of an unknown external
abbrev pub IsRefused : TextForm → List ℕ → Type 0
IsRefused form text = (readings : List Numbered) → readings_in form text ≡ Ok readings
    → (line : ℕ) × HasResolvedFault form (lines_said readings) line 12

abbrev pub StandsForNone : List ℕ → Type 0
StandsForNone text = (form : TextForm) → IsRefused form text
