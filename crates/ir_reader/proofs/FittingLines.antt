-- A line that fits a form of its text and place is read by that form.
use Rattle.std.proofs.Common.{◌≡◌, Bool, true, List, [], ◌∷◌, Some, refl}
use Rattle.sp_text.specs.Tokens.{Tok}
use Rattle.ir_ast.specs.declared.modules.Form.{Form as TextForm}
use Rattle.ir_ast.specs.declared.modules.Form.TheVariants as text_forms
use Rattle.line_forms.specs.declared.forms.Form.{Form}
use Rattle.ir_reader.specs.declared.states.Place.{Place}
use Rattle.ir_reader.specs.declared.states.State.{State}
use Rattle.line_parts.specs.Gives.{after, end_of}
use Rattle.line_forms.specs.Slots.{Item}
use Rattle.line_forms.specs.Forms.{fit, form_of, form_in, stands_in}
use Rattle.ir_reader.specs.Places.{behind}
use Rattle.line_forms.specs.Seen.{of_form, line_at}
use Rattle.ir_reader.specs.Text.{said_by, tokens_outcome}
use Rattle.line_forms.proofs.FamilyLines.{fit_parts, form_is}

no_form : (text : TextForm) (form : Form) → form_in text [] ≡ Some form → ⊥
unfolding form_in form_of
no_form text_forms.Source form e = cc
no_form text_forms.Rewritten form e = cc

pub fitting : (state : State) (form : Form) (place : Place) (says : List Item) (line rest : List Tok) (passed : Bool) → fit form line ≡ Some (says, rest) → end_of rest ≡ Some passed → stands_in state.form form says ≡ true → behind state.place form ≡ Some place
    → tokens_outcome state line ≡ said_by state form place (Some (of_form form says, passed))
unfolding tokens_outcome line_at after
fitting state form place says [] rest passed e ends stands b = absurd (no_form state.form form (form_is state.form form says [] rest (fit_parts form [] says rest e).0 stands))
fitting state form place says (t ∷ ts) rest passed e ends stands b = rw (form_is state.form form says (t ∷ ts) rest (fit_parts form (t ∷ ts) says rest e).0 stands, b, e, ends) refl
