-- One more case of a `switch`.
use Rattle.std.proofs.Common.{◌≡◌, ◌∙◌, ℕ, List, [], ◌∷◌, ◌++◌, ap, sym, append_assoc}
use Rattle.sp_text.specs.declared.names.Name.{Name}
use Rattle.line_tokens.specs.declared.widths.Width.{Width}
use Rattle.line_forms.specs.declared.readings.Reading.{Reading}
use Rattle.line_forms.specs.declared.readings.Reading.TheVariants.{Case}
use Rattle.line_parts.specs.declared.readings.Value.{Value}
use Rattle.line_parts.specs.Types.{Int}
use Rattle.ir_reader.specs.declared.raw.NumberedReading.{NumberedReading}
use Rattle.line_parts.specs.Seen.{seen_value}
use Rattle.ir_lines.specs.Statements.{Line}
use Rattle.ir_lines.specs.Views.{said, seen_line}
use Rattle.ir_lines.specs.Modules.{operand_in, label_in, case_values, case_labels}

pub case_values-more : (names : List (List ℕ)) (width : ℕ) (line : NumberedReading) (rest : List Line) (own : Width) (value : Value) (label : Name)
    → line.reading ≡ Case own value label
    → case_values names width (seen_line line ∷ rest) ≡ operand_in names (Int width) (seen_value value) ∷ case_values names width rest
case_values-more names width line rest own value label e =
    ap (λ (r : Reading). case_values names width (record { number = line.line; says = said r } ∷ rest)) e

pub case_labels-more : (names : List (List ℕ)) (line : NumberedReading) (rest : List Line) (own : Width) (value : Value) (label : Name)
    → line.reading ≡ Case own value label
    → case_labels names (seen_line line ∷ rest) ≡ label_in names label.bytes.now ∷ case_labels names rest
case_labels-more names line rest own value label e =
    ap (λ (r : Reading). case_labels names (record { number = line.line; says = said r } ∷ rest)) e

pub moved : {B : Type 0} (items more : List B) (one : B) (left rest whole : List B)
    → more ≡ items ++ one ∷ [] → left ≡ one ∷ rest → items ++ left ≡ whole → more ++ rest ≡ whole
moved items more one left rest whole is next e =
    ap (λ xs. xs ++ rest) is ∙ append_assoc items (one ∷ []) rest ∙ ap (λ xs. items ++ xs) (sym next) ∙ e
