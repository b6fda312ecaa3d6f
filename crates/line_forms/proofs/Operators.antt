-- Lines of an operator, read from behind it.
use Rattle.std.proofs.Common.{◌≡◌, refl, ℕ, Bool, true, false, List, [], ◌∷◌, drop}
use Rattle.std.specs.Prelude.{codes, Option, Some, None}
use Rattle.std.specs.Str.{bytes_eq}
use Rattle.sp_text.specs.Tokens.{Tok, tok, bad, over}
use Rattle.sp_text.specs.declared.tokens.Kind.TheVariants as kinds
use Rattle.line_forms.specs.declared.forms.Form.{Form}
use Rattle.line_forms.specs.declared.forms.Form.TheVariants as forms
use Rattle.line_tokens.specs.Marks.{is_mark, local_of}
use Rattle.line_tokens.specs.Words.{binary_word, conversion_word, cast_word}
use Rattle.line_parts.specs.Gives.{Found, after, one_at}
use Rattle.line_forms.specs.Slots.{Slot, Item, blank, m, w, a_local, name, part, parse}
use Rattle.ir_ast.specs.declared.modules.Form.{Form as TextForm}
use Rattle.ir_ast.specs.declared.modules.Form.TheVariants as text_forms
use Rattle.line_forms.specs.Forms.{slots, agree, fit, is_operator, is_operator_form, form_of, group_form, form_in}
use Rattle.line_forms.specs.Seen.{of_form, line_at, behind_operator}

-- `%x =` and a word, and then these slots
abbrev operator_slots : List ℕ → List Slot → List Slot
operator_slots word f = a_local ∷ blank ∷ m (codes "=") ∷ blank ∷ w word ∷ f

abbrev operator_tokens : List ℕ → Tok → List ℕ → List Tok → List Tok
operator_tokens x equals word ts = tok kinds.Local x ∷ equals ∷ tok kinds.Word word ∷ ts

-- where the slots of a form are these, and the word is its own
behind_slots : (form : Form) (also : List ℕ) (f : List Slot) (word x n : List ℕ) (equals : Tok) (ts : List Tok) (found : Found (List Item))
    → Some n ≡ local_of (tok kinds.Local x) → parse f ts ≡ found → ((said : List Item) → agree form said ≡ true) → slots form ≡ operator_slots also f → is_mark (codes "=") equals ≡ true → bytes_eq word also ≡ true
    → line_at form (operator_tokens x equals word ts) ≡ behind_operator form n ts
unfolding line_at fit parse part after one_at
behind_slots form also f word x n over ts found named e alike is mark same = absurd (let wrong : false ≡ true = mark in cc)
behind_slots form also f word x n bad ts found named e alike is mark same = absurd (let wrong : false ≡ true = mark in cc)
behind_slots form also f word x n (tok kind bytes) ts None named e alike is mark same = rw (is, ← named, mark, same, e) refl
behind_slots form also f word x n (tok kind bytes) ts (Some (items, end)) named e alike is mark same = rw (is, ← named, mark, same, e, alike (name n ∷ items)) refl

abbrev operands : Form → List Slot
operands form = drop 5 (slots form)

pub line_behind : (form : Form) (word x n : List ℕ) (equals : Tok) (ts : List Tok) → Some n ≡ local_of (tok kinds.Local x) → is_mark (codes "=") equals ≡ true → is_operator form word ≡ true
    → line_at form (operator_tokens x equals word ts) ≡ behind_operator form n ts
line_behind (forms.Binary op) word x n equals ts named mark is = behind_slots (forms.Binary op) (binary_word op) (operands (forms.Binary op)) word x n equals ts _ named refl (λ said. refl) refl mark is
line_behind (forms.Convert op) word x n equals ts named mark is = behind_slots (forms.Convert op) (conversion_word op) (operands (forms.Convert op)) word x n equals ts _ named refl (λ said. refl) refl mark is
line_behind (forms.Cast op) word x n equals ts named mark is = behind_slots (forms.Cast op) (cast_word op) (operands (forms.Cast op)) word x n equals ts _ named refl (λ said. refl) refl mark is
line_behind forms.Compare word x n equals ts named mark is = behind_slots forms.Compare (codes "icmp") (operands forms.Compare) word x n equals ts _ named refl (λ said. refl) refl mark is
line_behind forms.Select word x n equals ts named mark is = behind_slots forms.Select (codes "select") (operands forms.Select) word x n equals ts _ named refl (λ said. refl) refl mark is
line_behind forms.Phi word x n equals ts named mark is = behind_slots forms.Phi (codes "phi") (operands forms.Phi) word x n equals ts _ named refl (λ said. refl) refl mark is
line_behind forms.ScalarElement word x n equals ts named mark is = behind_slots forms.ScalarElement (codes "getelementptr") (operands forms.ScalarElement) word x n equals ts _ named refl (λ said. refl) refl mark is
line_behind forms.LayoutElement word x n equals ts named mark is = behind_slots forms.LayoutElement (codes "getelementptr") (operands forms.LayoutElement) word x n equals ts _ named refl (λ said. refl) refl mark is
line_behind forms.Load word x n equals ts named mark is = behind_slots forms.Load (codes "load") (operands forms.Load) word x n equals ts _ named refl (λ said. refl) refl mark is
line_behind form word x n equals ts named mark is = cc

-- an operator's line is the same in the rewritten form
group_same : (form : Form) (ts : List Tok) → is_operator_form form ≡ true → group_form ts form ≡ Some form
unfolding group_form
group_same forms.ValueCall ts is = cc
group_same forms.VoidCall ts is = cc
group_same forms.Declare ts is = cc
group_same form ts is = refl

pub operator_in : (text : TextForm) (form : Form) (ts : List Tok) → form_of ts ≡ Some form → is_operator_form form ≡ true → form_in text ts ≡ Some form
unfolding form_in
operator_in text_forms.Source form ts e is = e
operator_in text_forms.Rewritten form ts e is = rw e (group_same form ts is)
