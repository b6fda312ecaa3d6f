use Rattle.std.proofs.Common.{◌≡◌, ◌∙◌, sym, rules, ◌∷◌, Some, true}
use Rattle.std.specs.Prelude.{codes}
use Rattle.sp_text.specs.Names.{seen_name}
use Rattle.sp_text.specs.Tokens.{tok}
use Rattle.sp_text.specs.declared.tokens.Kind.TheVariants as kinds
use Rattle.line_tokens.specs.Marks.{is_mark, local_of}
use Rattle.line_forms.specs.Forms.{is_operator}
use Rattle.line_forms.proofs.Operators.{line_behind}
use Rattle.line_forms.proofs.opening.source_form.Goals as goal

pub returns-then-is_operator_form-clause-opened : goal.returns-then-is_operator_form-clause-opened
returns-then-is_operator_form-clause-opened c =
    let form = c.in_ok-form-in-Word-kind.form in
    let x = c.in_ok-first.first.bytes.now in
    let word = c.in_ok-third-in-Local.third.bytes.now in
    let equals = tok c.in_ok-second-in-Local.second.kind c.in_ok-second-in-Local.second.bytes.now in
    let ts = c.token-in-Local-2.new.self in
    let n = seen_name c.in_ok-name-in-Local.name in
    let named : Some n ≡ local_of (tok kinds.Local x) = rw c.in-Local.is at c.in_ok-name-in-Local.ensures in
    let mark : is_mark (codes "=") equals ≡ true = search (rules) in
    let is : is_operator form word ≡ true = c.in_ok-form-in-Word-kind.ensures.word ∙ sym c.if-is_operator_form.ensures in
    let all : c.args.cursor.now ≡ tok kinds.Local x ∷ equals ∷ tok kinds.Word word ∷ ts = search (rules) in
    rw all (line_behind form word x n equals ts named mark is)
