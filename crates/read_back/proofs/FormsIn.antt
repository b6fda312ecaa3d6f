-- A line of the source form in a text of the rewritten form: the same line, since no call of it names a function of the three families.
use Rattle.std.proofs.Common.{◌≡◌, refl, ap, ◌∙◌, ℕ, Bool, true, false, cond, ◌||◌, inl, inr, List, [], ◌∷◌, ◌++◌, length, Some, None, codes}
use Rattle.std.specs.Prelude.{drop, nat_eq, not}
use Rattle.std.specs.List.{starts_with}
use Rattle.std.specs.Str.{bytes_eq}
use Rattle.std.proofs.lemmas.Bool.{or_parts, or_cases}
use Rattle.std.proofs.lemmas.Bool.Decides.{Decides-eqb}
use Rattle.std.proofs.lemmas.Slice.Eq.{bytes_eq-Decides, starts_is}
use Rattle.sp_text.specs.Tokens.{Tok, tok, tokens, is_token, is_name}
use Rattle.sp_text.specs.declared.tokens.Kind.TheVariants as kinds
use Rattle.ir_ast.specs.declared.modules.Form.{Form as TextForm}
use Rattle.ir_ast.specs.declared.modules.Form.TheVariants as text_forms
use Rattle.ir_ast.specs.Lists.{HasFront}
use Rattle.ir_ast.specs.Faults.Reserved.{IsExternalName}
use Rattle.line_parts.specs.Types.{TypeWord}
use Rattle.line_forms.specs.declared.forms.Form.{Form}
use Rattle.line_forms.specs.declared.forms.Form.TheVariants as forms
use Rattle.line_tokens.specs.declared.words.Dropped.TheVariants as drops
use Rattle.line_tokens.specs.declared.words.Flags.TheVariants as flags
use Rattle.line_tokens.specs.Families.{statepoint_name, relocate_name, result_front, result_suffix, is_suffix, is_result_name, is_family_name}
use Rattle.line_forms.specs.Forms.{fit, is_group_form, form_of, form_in, named_form, group_form, word_form, called_form, declared_form, callee_of, declared_of, first_global}
use Rattle.line_forms.specs.Slots.{Item}
use Rattle.line_forms.proofs.FamilyLines.{agree_own, fit_is, stands_where_read}
use Rattle.read_back.proofs.Steps.{IsClean}
use Rattle.read_back.proofs.Spellings.{SpellsType, void_type}
use Rattle.read_back.proofs.Forms.{ReadsAs, result_tokens}
use Rattle.read_back.proofs.ListForms.{word_none}
use Rattle.read_back.proofs.GroupSteps.{as_is, token_then, blank_then}
use Rattle.line_parts.proofs.Dropping.{past_all-none}

-- in a text of this form the text is a line of this form, and says this at the form's slots
pub record ReadsIn (of : TextForm) (text : List ℕ) (form : Form) (items : List Item) : Type 0 where
  pub form_is : form_in of (tokens text) ≡ Some form
  pub whole : fit form (tokens text) ≡ Some (items, [])
  pub clean : IsClean text

-- only a statepoint's parts have to agree
pub as_fit : {text : List ℕ} {form : Form} {items : List Item} → ReadsAs text form items → fit form (tokens text) ≡ Some (items, [])
unfolding form_in
as_fit {text} {form} {items} reads =
    fit_is form (tokens text) items [] reads.whole
    (agree_own form items (not_true (is_group_form form) (stands_where_read text_forms.Source form items (tokens text) [] reads.form_is reads.whole)))
  where
    not_true : (b : Bool) → not b ≡ true → b ≡ false
    not_true true is = absurd (let bad : false ≡ true = is in cc)
    not_true false is = refl

-- a call or a declaration, of which the function that it names tells what it is
abbrev pub names_function : Form → Bool
names_function forms.ValueCall = true
names_function forms.VoidCall = true
names_function forms.Declare = true
names_function _ = false

group_plain : (ts : List Tok) (form : Form) → names_function form ≡ false → group_form ts form ≡ Some form
unfolding group_form
group_plain ts forms.ValueCall plain = cc
group_plain ts forms.VoidCall plain = cc
group_plain ts forms.Declare plain = cc
group_plain ts _ plain = refl

plain_in : (of : TextForm) (ts : List Tok) (form : Form) → names_function form ≡ false → form_of ts ≡ Some form → form_in of ts ≡ Some form
unfolding form_in
plain_in text_forms.Source ts form plain is = is
plain_in text_forms.Rewritten ts form plain is = rw is (group_plain ts form plain)

-- a line that is no call and no declaration
pub in_both : (of : TextForm) {text : List ℕ} {form : Form} {items : List Item} → names_function form ≡ false → ReadsAs text form items → ReadsIn of text form items
in_both of {text} {form} plain reads = record { form_is = plain_in of (tokens text) form plain reads.form_is; whole = as_fit reads; clean = reads.clean }

pub in_source : {text : List ℕ} {form : Form} {items : List Item} → ReadsAs text form items → ReadsIn text_forms.Source text form items
unfolding form_in
in_source reads = record { form_is = reads.form_is; whole = as_fit reads; clean = reads.clean }

-- ---- the function that a call names

first_here : (o : List ℕ) → is_name o ≡ true → (ts : List Tok) → first_global (tok kinds.Global (64 ∷ o) ∷ ts) ≡ Some o
unfolding first_global
first_here o is ts = rw is refl

pub call_callee : {spelled : List ℕ} {of_type : TypeWord} (t : SpellsType spelled of_type) (o : List ℕ) → is_name o ≡ true → (ts : List Tok)
    → callee_of (tok kinds.Word (codes "call") ∷ tok kinds.Word t.first ∷ (t.more ++ (tok kinds.Global (64 ∷ o) ∷ ts))) ≡ Some o
unfolding callee_of
call_callee t o is ts =
    let rest : List Tok = t.more ++ (tok kinds.Global (64 ∷ o) ∷ ts) in
    rw (past_all-none (drops.Words flags.Calling) (tok kinds.Word (codes "call") ∷ tok kinds.Word t.first ∷ rest) refl)
    (rw (past_all-none drops.Groups (tok kinds.Word t.first ∷ rest) (t.group rest)) (t.global (tok kinds.Global (64 ∷ o) ∷ ts) ∙ first_here o is ts))

called_plain : (o : List ℕ) → is_family_name o ≡ false → called_form (Some o) ≡ forms.ValueCall
called_plain o other =
    let parts = or_parts (is_result_name o) (bytes_eq o statepoint_name || bytes_eq o relocate_name) other in
    let names = or_parts (bytes_eq o statepoint_name) (bytes_eq o relocate_name) parts.1 in
    rw (parts.0, names.0, names.1) refl

named_call : (n : List ℕ) (ts : List Tok) → form_of (tok kinds.Local n ∷ tok kinds.Punct (codes "=") ∷ tok kinds.Word (codes "call") ∷ ts) ≡ Some forms.ValueCall
unfolding form_of named_form
named_call n ts = refl

-- a call with a result is by its callee's name one of a group or a plain one
pub value_in : (n o : List ℕ) (ts : List Tok) → callee_of (tok kinds.Word (codes "call") ∷ ts) ≡ Some o
    → form_in text_forms.Rewritten (tok kinds.Local n ∷ tok kinds.Punct (codes "=") ∷ tok kinds.Word (codes "call") ∷ ts) ≡ Some (called_form (Some o))
unfolding form_in group_form
value_in n o ts is = rw (named_call n ts) (rw is refl)

void_in : (o : List ℕ) (ts : List Tok) → form_of ts ≡ Some forms.VoidCall → callee_of ts ≡ Some o → is_family_name o ≡ false → form_in text_forms.Rewritten ts ≡ Some forms.VoidCall
unfolding form_in group_form
void_in o ts form is other = rw form (rw is (rw other refl))

-- a word, a type and a name
named_tokens : (word : List ℕ) → is_token kinds.Word word ≡ true → {spelled : List ℕ} {of_type : TypeWord} (t : SpellsType spelled of_type) (o : List ℕ) → is_name o ≡ true → (rest : List ℕ)
    → tokens (word ++ (32 ∷ (spelled ++ (32 ∷ 64 ∷ (o ++ (40 ∷ rest)))))) ≡ tok kinds.Word word ∷ tok kinds.Word t.first ∷ (t.more ++ (tok kinds.Global (64 ∷ o) ∷ tokens (40 ∷ rest)))
named_tokens word word_is {spelled} t o is rest =
    let behind : tokens (spelled ++ (32 ∷ 64 ∷ (o ++ (40 ∷ rest)))) ≡ tok kinds.Word t.first ∷ (t.more ++ (tok kinds.Global (64 ∷ o) ∷ tokens (40 ∷ rest))) =
    t.spelled (32 ∷ 64 ∷ (o ++ (40 ∷ rest))) refl ∙ ap (λ ts. tok kinds.Word t.first ∷ (t.more ++ ts)) (blank_then (token_then kinds.Global (64 ∷ o) is refl (as_is (40 ∷ rest)))).is in
    (token_then kinds.Word word word_is refl (blank_then (as_is (spelled ++ (32 ∷ 64 ∷ (o ++ (40 ∷ rest))))))).is ∙ ap (λ ts. tok kinds.Word word ∷ ts) behind

pub call_tokens : {spelled : List ℕ} {of_type : TypeWord} (t : SpellsType spelled of_type) (o : List ℕ) → is_name o ≡ true → (rest : List ℕ)
    → tokens (codes "call " ++ (spelled ++ (32 ∷ 64 ∷ (o ++ (40 ∷ rest))))) ≡ tok kinds.Word (codes "call") ∷ tok kinds.Word t.first ∷ (t.more ++ (tok kinds.Global (64 ∷ o) ∷ tokens (40 ∷ rest)))
call_tokens t o is rest = named_tokens (codes "call") refl t o is rest

-- `%x = call T @f(..)` of another function
pub value_call_form : (n : List ℕ) → is_name n ≡ true → {spelled : List ℕ} {answer : TypeWord} (t : SpellsType spelled answer) (o : List ℕ) → is_name o ≡ true → is_family_name o ≡ false → (rest : List ℕ)
    → form_in text_forms.Rewritten (tokens (37 ∷ (n ++ (32 ∷ 61 ∷ 32 ∷ (codes "call " ++ (spelled ++ (32 ∷ 64 ∷ (o ++ (40 ∷ rest))))))))) ≡ Some forms.ValueCall
value_call_form n is {spelled} t o o_is other rest =
    rw (result_tokens n (codes "call " ++ (spelled ++ (32 ∷ 64 ∷ (o ++ (40 ∷ rest))))) is) (rw (call_tokens t o o_is rest)
    (value_in (37 ∷ n) o (tok kinds.Word t.first ∷ (t.more ++ (tok kinds.Global (64 ∷ o) ∷ tokens (40 ∷ rest)))) (call_callee t o o_is (tokens (40 ∷ rest))) ∙ ap Some (called_plain o other)))

-- `call void @f(..)` of another function
pub void_call_form : (o : List ℕ) → is_name o ≡ true → is_family_name o ≡ false → (rest : List ℕ) → form_of (tokens (codes "call void @" ++ (o ++ (40 ∷ rest)))) ≡ Some forms.VoidCall
    → form_in text_forms.Rewritten (tokens (codes "call void @" ++ (o ++ (40 ∷ rest)))) ≡ Some forms.VoidCall
void_call_form o is other rest form =
    void_in o (tokens (codes "call void @" ++ (o ++ (40 ∷ rest)))) form (ap callee_of (call_tokens void_type o is rest) ∙ call_callee void_type o is (tokens (40 ∷ rest))) other

-- ---- the function that a declaration names

pub declare_tokens : {spelled : List ℕ} {of_type : TypeWord} (t : SpellsType spelled of_type) (o : List ℕ) → is_name o ≡ true → (rest : List ℕ)
    → tokens (codes "declare " ++ (spelled ++ (32 ∷ 64 ∷ (o ++ (40 ∷ rest))))) ≡ tok kinds.Word (codes "declare") ∷ tok kinds.Word t.first ∷ (t.more ++ (tok kinds.Global (64 ∷ o) ∷ tokens (40 ∷ rest)))
declare_tokens t o is rest = named_tokens (codes "declare") refl t o is rest

pub declared_name : {spelled : List ℕ} {of_type : TypeWord} (t : SpellsType spelled of_type) (o : List ℕ) → is_name o ≡ true → (ts : List Tok)
    → declared_of (tok kinds.Word (codes "declare") ∷ tok kinds.Word t.first ∷ (t.more ++ (tok kinds.Global (64 ∷ o) ∷ ts))) ≡ Some o
unfolding declared_of
declared_name t o is ts =
    let rest : List Tok = t.more ++ (tok kinds.Global (64 ∷ o) ∷ ts) in
    rw (past_all-none drops.HeadAttachments (tok kinds.Word t.first ∷ rest) (word_none t.first rest))
    (rw (past_all-none drops.Groups (tok kinds.Word t.first ∷ rest) (t.group rest)) (t.global (tok kinds.Global (64 ∷ o) ∷ ts) ∙ first_here o is ts))

pub declared_by : (o : List ℕ) (ts : List Tok) → declared_of (tok kinds.Word (codes "declare") ∷ ts) ≡ Some o
    → form_in text_forms.Rewritten (tok kinds.Word (codes "declare") ∷ ts) ≡ Some (declared_form (Some o))
unfolding form_in group_form form_of word_form
declared_by o ts is = rw is refl

-- `declare T @f(..)` of another function
pub declare_in : (of : TextForm) {spelled : List ℕ} {answer : TypeWord} (t : SpellsType spelled answer) (o : List ℕ) → is_name o ≡ true → is_family_name o ≡ false → (rest : List ℕ) {items : List Item}
    → ReadsAs (codes "declare " ++ (spelled ++ (32 ∷ 64 ∷ (o ++ (40 ∷ rest))))) forms.Declare items → ReadsIn of (codes "declare " ++ (spelled ++ (32 ∷ 64 ∷ (o ++ (40 ∷ rest))))) forms.Declare items
declare_in text_forms.Source t o is other rest reads = in_source reads
declare_in text_forms.Rewritten {spelled} t o is other rest reads = record { form_is = form_is; whole = as_fit reads; clean = reads.clean }
  where
    plain : declared_form (Some o) ≡ forms.Declare
    plain = rw other refl

    form_is : form_in text_forms.Rewritten (tokens (codes "declare " ++ (spelled ++ (32 ∷ 64 ∷ (o ++ (40 ∷ rest)))))) ≡ Some forms.Declare
    form_is = rw (declare_tokens t o is rest) (declared_by o (tok kinds.Word t.first ∷ (t.more ++ (tok kinds.Global (64 ∷ o) ∷ tokens (40 ∷ rest)))) (declared_name t o is (tokens (40 ∷ rest))) ∙ ap Some plain)

-- ---- names of the families

-- each begins with `llvm.`
result_begins : (name : List ℕ) → is_result_name name ≡ true → HasFront (codes "llvm.") name
unfolding result_suffix result_front
result_begins name is = by (starts_with nat_eq name (codes "llvm.experimental.gc.result.")) refl is
  where
    by : (begins : Bool) → starts_with nat_eq name (codes "llvm.experimental.gc.result.") ≡ begins
        → is_suffix (cond begins (Some (drop (length (codes "llvm.experimental.gc.result.")) name)) None) ≡ true → HasFront (codes "llvm.") name
    by true begins is =
        let whole : name ≡ codes "llvm.experimental.gc.result." ++ drop (length (codes "llvm.experimental.gc.result.")) name =
        (starts_is Decides-eqb name (codes "llvm.experimental.gc.result.") (starts_with nat_eq name (codes "llvm.experimental.gc.result.")) refl).0 begins in
        (codes "experimental.gc.result." ++ drop (length (codes "llvm.experimental.gc.result.")) name, whole)
    by false begins is = absurd (let bad : false ≡ true = is in cc)

family_front : (name : List ℕ) → is_family_name name ≡ true → HasFront (codes "llvm.") name
unfolding statepoint_name relocate_name
family_front name is = elim (or_cases (is_result_name name) (bytes_eq name statepoint_name || bytes_eq name relocate_name) is) [
  | inl result ↦ result_begins name result
  | inr other ↦ elim (or_cases (bytes_eq name statepoint_name) (bytes_eq name relocate_name) other) [
    | inl same ↦ (codes "experimental.gc.statepoint.p0", (bytes_eq-Decides name statepoint_name).0 same)
    | inr same ↦ (codes "experimental.gc.relocate.p1", (bytes_eq-Decides name relocate_name).0 same)
  ]
]

pub gc_new_own : (n : List ℕ) → is_family_name (codes "gc_new." ++ n) ≡ false
unfolding statepoint_name relocate_name result_suffix result_front
gc_new_own n = refl

-- a name that is no external's is no family's
pub own_name : (name : List ℕ) → ¬ IsExternalName name → is_family_name name ≡ false
own_name name free = by (is_family_name name) refl
  where
    by : (family : Bool) → is_family_name name ≡ family → is_family_name name ≡ false
    by true is = absurd (free (inr (inr (family_front name is))))
    by false is = is
