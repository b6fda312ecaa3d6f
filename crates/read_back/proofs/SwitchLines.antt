-- A `switch` on its lines: the first line, a line for each case, and the last line.
use Rattle.std.proofs.Common.{◌≡◌, refl, ap, subst, ◌∙◌, ℕ, ◌≤◌, Bool, true, false, cond, List, [], ◌∷◌, ◌++◌, map, Some, None, codes, decimal, append_assoc}
use Rattle.std.specs.Prelude.{◌==◌, not}
use Rattle.std.specs.List.{AllByRecursion, list_all, zip}
use Rattle.sp_ids.specs.declared.ids.BlockId.{BlockId}
use Rattle.sp_ids.specs.Numbers.{wrapped, signed}
use Rattle.sp_text.specs.Tokens.{tokens}
use Rattle.ir_ast.specs.declared.types.Ty.{Ty}
use Rattle.ir_ast.specs.declared.types.Ty.TheVariants as tys
use Rattle.ir_ast.specs.declared.ops.Operand.{Operand}
use Rattle.ir_ast.specs.declared.ops.Operand.TheVariants as operands
use Rattle.ir_ast.specs.declared.ops.Op.TheVariants as ast
use Rattle.ir_ast.specs.Operands.{is_literal}
use Rattle.ir_printer.specs.Lists.{joined}
use Rattle.ir_printer.specs.Names.{Names, block_name}
use Rattle.ir_printer.specs.Operands.{value_text}
use Rattle.ir_printer.specs.Lines.{line_text, case_text}
use Rattle.line_forms.specs.declared.forms.Form.{Form}
use Rattle.line_forms.specs.declared.forms.Form.TheVariants as forms
use Rattle.ir_reader.specs.declared.states.Counted.TheVariants as kinds
use Rattle.ir_reader.specs.declared.states.Place.{Place}
use Rattle.ir_reader.specs.declared.states.Place.TheVariants as places
use Rattle.ir_ast.specs.declared.modules.Form.{Form as TextForm}
use Rattle.ir_ast.specs.declared.modules.Form.TheVariants as text_forms
use Rattle.ir_reader.specs.declared.states.Counts.{Counts}
use Rattle.ir_reader.specs.declared.states.State.{State}
use Rattle.ir_reader.specs.Limits.{item_fits, counted, counted_in, counts_fit}
use Rattle.line_parts.specs.Parts.{is_case_value}
use Rattle.line_parts.specs.Parts as values
use Rattle.ir_reader.specs.Places.{behind}
use Rattle.line_forms.specs.Forms.{is_dropped_form}
use Rattle.line_forms.specs.Seen.{of_form}
use Rattle.line_forms.specs.Slots as parts
use Rattle.ir_reader.specs.Text.{is_top, next_state}
use Rattle.ir_lines.specs.Statements.{stated, switch_end}
use Rattle.read_back.specs.Said.{value_says, case_says, literal_of}
use Rattle.read_back.proofs.Steps.{IsClean}
use Rattle.read_back.proofs.Forms.{ReadsAs, switch_line, case_line, switch_end_line}
use Rattle.read_back.proofs.FormsIn.{ReadsIn, names_function, in_both}
use Rattle.read_back.proofs.LinesRead.{Says, says-nil, says-both, says-line, formed_in, ends_none-clean}
use Rattle.read_back.proofs.Operands.{HaveNames, block-named, value_spelled}
use Rattle.read_back.proofs.OneLine.{made}
use Rattle.read_back.proofs.CallLines.{EntryFits}
use Rattle.read_back.proofs.Chains.{joined-cons, indented, InstSays}

-- a line behind blanks, inside a function
pub inner_line : (s : State) (line text : List ℕ) (form : Form) (place : Place) (items : List parts.Item) → ReadsAs text form items → names_function form ≡ false → tokens line ≡ tokens text → IsClean line
    → is_top s.place ≡ false → behind s.place form ≡ Some place → is_dropped_form form ≡ false → list_all item_fits items ≡ true → counts_fit (next_state s place (of_form form items)).counts ≡ true
    → Says s (line ++ (10 ∷ [])) (next_state s place (of_form form items)) (stated (of_form form items) ∷ [])
inner_line s line text form place items reads plain same clean inside stands kept fits counts =
    let both : ReadsIn s.form text form items = in_both s.form plain reads in
    says-line s (next_state s place (of_form form items)) line (of_form form items) (ends_none-clean line clean)
    (formed_in s line form place items clean (rw inside refl) (rw same both.form_is) (rw same both.whole) stands kept fits counts)

-- among the cases
abbrev at_cases : TextForm → Counts → State
at_cases of c = record { form = of; place = places.Cases; counts = c }

-- a line that counts as nothing changes nothing behind one that is no relocate
abbrev IsStill : TextForm → Counts → Type 0
IsStill of c = counted (counted_in of kinds.Nothing) c ≡ c

still : (of : TextForm) (c : Counts) → IsStill of (counted (counted_in of kinds.Instruction) c)
still text_forms.Source c = refl
still text_forms.Rewritten c = refl

case_value : (names : Names) (bits : ℕ) (o : Operand) → is_literal o ≡ true → is_case_value (value_says names (tys.Int bits) o) ≡ true
case_value names bits (operands.Int number) is = by (bits == 1)
  where
    by : (bit : Bool) → is_case_value (cond bit (values.truth (not (wrapped 1 number == 0))) (values.number (literal_of (signed bits number)))) ≡ true
    by true = refl
    by false = refl
case_value names bits (operands.Value v) is = cc
case_value names bits operands.Null is = cc
case_value names bits (operands.Fun f) is = cc

-- a case of a `switch`
pub record CaseFits (names : Names) (ty : Ty) (entry : Operand × BlockId) : Type 0 where
  pub literal : is_literal entry.0 ≡ true
  pub fit : EntryFits names ty entry

abbrev case_line_text : Names → Ty → Operand × BlockId → List ℕ
case_line_text names ty entry = case_text names ty entry.0 entry.1

case_bytes : (ds v l : List ℕ) → (ds ++ (32 ∷ v)) ++ (codes ", label " ++ ((37 ∷ l) ++ (10 ∷ []))) ≡ (ds ++ (32 ∷ (v ++ (codes ", label %" ++ l)))) ++ (10 ∷ [])
case_bytes ds v l = simp append_assoc

case_shape : (names : Names) (bits : ℕ) (o : Operand) (l : BlockId)
    → case_text names (tys.Int bits) o l
    ≡ (32 ∷ 32 ∷ 32 ∷ 32 ∷ 105 ∷ (decimal bits ++ (32 ∷ (value_text names (tys.Int bits) o ++ (codes ", label %" ++ block_name names.func l.0))))) ++ (10 ∷ [])
case_shape names bits o l = ap (λ t. 32 ∷ 32 ∷ 32 ∷ 32 ∷ 105 ∷ t) (case_bytes (decimal bits) (value_text names (tys.Int bits) o) (block_name names.func l.0))

case_read : (of : TextForm) (names : Names) → HaveNames names → (bits : ℕ) → (1 ≤ bits) × (bits ≤ 64) → (c : Counts) → IsStill of c → counts_fit c ≡ true → (e : Operand × BlockId) → CaseFits names (tys.Int bits) e
    → Says (at_cases of c) (case_line_text names (tys.Int bits) e) (at_cases of c) (case_says names (tys.Int bits) e ∷ [])
case_read of names have bits narrow c same room e fits =
    let fit : EntryFits names (tys.Int bits) e = fits.fit in
    let value = value_spelled names have (tys.Int bits) narrow e.0 fit.value fit.fits in
    let l : List ℕ = block_name names.func e.1.0 in
    let text : List ℕ = 105 ∷ (decimal bits ++ (32 ∷ (value_text names (tys.Int bits) e.0 ++ (codes ", label %" ++ l)))) in
    let items : List parts.Item = parts.width bits ∷ parts.value (value_says names (tys.Int bits) e.0) ∷ parts.name l ∷ [] in
    let reads : ReadsAs text forms.Case items = case_line bits narrow value (case_value names bits e.0 fits.literal) l (block-named names have e.1.0 fit.low) in
    let next : next_state (at_cases of c) places.Cases (of_form forms.Case items) ≡ at_cases of c = ap (at_cases of) same in
    let line : Says (at_cases of c) ((32 ∷ 32 ∷ 32 ∷ 32 ∷ text) ++ (10 ∷ [])) (next_state (at_cases of c) places.Cases (of_form forms.Case items)) (case_says names (tys.Int bits) e ∷ []) =
    inner_line (at_cases of c) (32 ∷ 32 ∷ 32 ∷ 32 ∷ text) text forms.Case places.Cases items reads refl
    (indented (32 ∷ 32 ∷ text) ∙ indented text) reads.clean refl refl refl
    refl (ap counts_fit same ∙ room) in
    rw (case_shape names bits e.0 e.1) (subst (λ (s : State). Says (at_cases of c) ((32 ∷ 32 ∷ 32 ∷ 32 ∷ text) ++ (10 ∷ [])) s (case_says names (tys.Int bits) e ∷ [])) next line)

cases_read : (of : TextForm) (names : Names) → HaveNames names → (bits : ℕ) → (1 ≤ bits) × (bits ≤ 64) → (c : Counts) → IsStill of c → counts_fit c ≡ true → (es : List (Operand × BlockId)) → AllByRecursion (CaseFits names (tys.Int bits)) es
    → Says (at_cases of c) (joined [] (map (case_line_text names (tys.Int bits)) es)) (at_cases of c) (map (case_says names (tys.Int bits)) es)
cases_read of names have bits narrow c same room [] all = says-nil (at_cases of c)
cases_read of names have bits narrow c same room (e ∷ es) all =
    rw (joined-cons (case_line_text names (tys.Int bits) e) (map (case_line_text names (tys.Int bits)) es))
    (says-both (case_read of names have bits narrow c same room e all.0) (cases_read of names have bits narrow c same room es all.1))

switch_bytes : (ds v l cases : List ℕ)
    → ((ds ++ (32 ∷ v)) ++ (codes ", label " ++ ((37 ∷ l) ++ (codes " [\n" ++ (cases ++ codes "  ]"))))) ++ codes "\n"
    ≡ ((ds ++ (32 ∷ (v ++ (codes ", label %" ++ (l ++ codes " ["))))) ++ (10 ∷ [])) ++ (cases ++ (32 ∷ 32 ∷ 93 ∷ 10 ∷ []))
switch_bytes ds v l cases = simp append_assoc

switch_shape : (names : Names) (bits : ℕ) (o : Operand) (os : List Operand) (l : BlockId) (ls : List BlockId)
    → line_text names (made None ast.Switch (tys.Int bits) (o ∷ os) (l ∷ ls))
    ≡ ((32 ∷ 32 ∷ (codes "switch i" ++ (decimal bits ++ (32 ∷ (value_text names (tys.Int bits) o ++ (codes ", label %" ++ (block_name names.func l.0 ++ codes " ["))))))) ++ (10 ∷ []))
    ++ (joined [] (map (case_line_text names (tys.Int bits)) (zip os ls)) ++ ((32 ∷ 32 ∷ 93 ∷ []) ++ (10 ∷ [])))
switch_shape names bits o os l ls =
    ap (λ t. codes "  switch i" ++ t) (switch_bytes (decimal bits) (value_text names (tys.Int bits) o) (block_name names.func l.0) (joined [] (map (case_line_text names (tys.Int bits)) (zip os ls))))

-- `switch iN V, label %l [`, `iN C, label %m` .. and `]`
pub switch_says_so : (of : TextForm) (names : Names) → HaveNames names → (bits : ℕ) (o : Operand) (os : List Operand) (l : BlockId) (ls : List BlockId) → (1 ≤ bits) × (bits ≤ 64)
    → EntryFits names (tys.Int bits) (o, l) → AllByRecursion (CaseFits names (tys.Int bits)) (zip os ls)
    → InstSays of names (made None ast.Switch (tys.Int bits) (o ∷ os) (l ∷ ls))
switch_says_so of names have bits o os l ls narrow first all s formed inside room =
    let value = value_spelled names have (tys.Int bits) narrow o first.value first.fits in
    let target : List ℕ = block_name names.func l.0 in
    let text : List ℕ = codes "switch i" ++ (decimal bits ++ (32 ∷ (value_text names (tys.Int bits) o ++ (codes ", label %" ++ (target ++ codes " ["))))) in
    let items : List parts.Item = parts.width bits ∷ parts.value (value_says names (tys.Int bits) o) ∷ parts.name target ∷ [] in
    let reads : ReadsAs text forms.Switch items = switch_line bits narrow value target (block-named names have l.0 first.low) in
    let c : Counts = counted (counted_in s.form kinds.Instruction) s.counts in
    let same : IsStill s.form c = still s.form s.counts in
    let ends : State = record { form = s.form; place = places.Closed; counts = c } in
    let next : next_state (at_cases s.form c) places.Closed (of_form forms.SwitchEnd []) ≡ ends = ap (λ (d : Counts). record { form = s.form; place = places.Closed; counts = d }) same in
    let last : Says (at_cases s.form c) ((32 ∷ 32 ∷ 93 ∷ []) ++ (10 ∷ [])) ends (switch_end ∷ []) =
    subst (λ (t : State). Says (at_cases s.form c) ((32 ∷ 32 ∷ 93 ∷ []) ++ (10 ∷ [])) t (switch_end ∷ [])) next
    (inner_line (at_cases s.form c) (32 ∷ 32 ∷ 93 ∷ []) (codes "]") forms.SwitchEnd places.Closed [] switch_end_line refl (indented (93 ∷ [])) refl refl refl refl refl (ap counts_fit same ∙ room)) in
    rw (switch_shape names bits o os l ls)
    (says-both {t = at_cases s.form c} (inner_line s (32 ∷ 32 ∷ text) text forms.Switch places.Cases items reads refl (indented text) reads.clean (rw inside refl) (rw inside refl) refl
    refl room)
    (says-both (cases_read s.form names have bits narrow c same room (zip os ls) all) last))
