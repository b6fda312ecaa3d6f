-- A line that fits a form begins as that form does: so no other form fits it.
use Rattle.std.proofs.Common.{◌≡◌, ℕ, Bool, true, false, cond, ◌&&◌, ◌||◌, eqb, List, [], ◌∷◌, ◌++◌, Option, Some, None, refl, sym, ap, subst, ◌∙◌}
use Rattle.std.specs.Prelude.{codes, drop, is_some}
use Rattle.std.specs.Str.{bytes_eq}
use Rattle.std.proofs.lemmas.Slice.Eq.{bytes_eq-Decides}
use Rattle.std.proofs.lemmas.Bool.{eqb-true, and_parts}
use Rattle.sp_text.specs.Tokens.{Tok, tok, is_name, is_numeral}
use Rattle.sp_text.specs.declared.tokens.Kind.TheVariants as kinds
use Rattle.line_tokens.specs.declared.words.Binary.{Binary}
use Rattle.line_tokens.specs.declared.words.Binary.TheVariants as ops
use Rattle.line_tokens.specs.declared.words.Conversion.{Conversion}
use Rattle.line_tokens.specs.declared.words.Conversion.TheVariants as convs
use Rattle.line_tokens.specs.declared.words.Cast.{Cast}
use Rattle.line_tokens.specs.declared.words.Cast.TheVariants as casts
use Rattle.line_tokens.specs.declared.words.Dropped.{Dropped}
use Rattle.line_tokens.specs.declared.words.Dropped.TheVariants as drops
use Rattle.line_tokens.specs.declared.words.Flags.TheVariants as flags
use Rattle.line_forms.specs.declared.forms.DroppedLine.TheVariants as drop_lines
use Rattle.line_forms.specs.declared.forms.Form.{Form}
use Rattle.line_forms.specs.declared.forms.Form.TheVariants as forms
use Rattle.line_parts.specs.Gives.{Found, after, one_at, with_rest, noted, one_noted_at}
use Rattle.line_tokens.specs.Marks.{is_word, is_local, begins}
use Rattle.line_tokens.specs.Numbers.{width_of, width_passes}
use Rattle.line_parts.specs.Drops.{past_all, past_dropped, is_one_of, flag_words}
use Rattle.line_parts.specs.Parts.{spelled_type_at, allowed_type_at}
use Rattle.line_forms.specs.Slots.{Slot, Item, name, layout_name, blank, m, w, dropped, a_local, a_layout_name, a_layout, a_width, a_scalar, a_type, part, parse}
use Rattle.line_forms.specs.Forms.{slots, named_form, result_form, word_form, form_of}
use Rattle.line_tokens.specs.Words.{binary_word, conversion_word, cast_word}
use Rattle.line_parts.proofs.Dropping.{past_all-none}

-- something is said
abbrev pub IsFound : {A : Type 0} → Found A → Type 0
IsFound found = is_some found ≡ true

-- the first of two parts says something
first_found : {A B : Type 0} (found : Found A) (next : A → List Tok → Found B) → IsFound (after found next) → (x : A) × (rest : List Tok) × (found ≡ Some (x, rest)) × IsFound (next x rest)
unfolding after
first_found None next e = absurd cc
first_found (Some x) next e = (x.0, x.1, refl, e)

pub found_is : {A : Type 0} (found : Found A) (x : A × List Tok) → found ≡ Some x → IsFound found
found_is found x e = rw e refl

-- the first slot of a form that fits, and the others
first_slot : (s : Slot) (f : List Slot) (ts : List Tok) → IsFound (parse (s ∷ f) ts) → (here : List Item) × (rest : List Tok) × (part s ts ≡ Some (here, rest)) × IsFound (parse f rest)
unfolding parse
first_slot s f ts e =
    let a = first_found (part s ts) (λ here rest. after (parse f rest) (λ items end. Some (here ++ items, end))) e in
    let b = first_found (parse f a.1) (λ items end. Some (a.0 ++ items, end)) a.3 in
    (a.0, a.1, a.2, found_is (parse f a.1) (b.0, b.1) b.2)

abbrev pub told : {A : Type 0} → A × List Tok → Found A
told x = Some x

pair_is : {A : Type 0} (x y : A × List Tok) → told x ≡ told y → x ≡ y
pair_is x y e = cc

pub rest_is : {A : Type 0} (x y : A × List Tok) → told x ≡ told y → x.1 ≡ y.1
rest_is {A = A} x y e = ap (λ (p : A × List Tok). p.1) (pair_is x y e)

pub said_is : {A : Type 0} (x y : A × List Tok) → told x ≡ told y → x.0 ≡ y.0
said_is {A = A} x y e = ap (λ (p : A × List Tok). p.0) (pair_is x y e)

-- ---- words, marks, names

word_is : (text bytes : List ℕ) (ts : List Tok) (here : List Item) (rest : List Tok) (b : Bool) → bytes_eq bytes text ≡ b
    → after (with_rest ts (cond b (Some tt) None)) (λ (_ : Unit {0}) (r : List Tok). Some ([], r)) ≡ Some (here, rest) → tok kinds.Word bytes ∷ ts ≡ tok kinds.Word text ∷ rest
unfolding after
word_is text bytes ts here rest true same e =
    let text_is : bytes ≡ text = (bytes_eq-Decides bytes text).0 same in
    let same_rest : ts ≡ rest = rest_is ([], ts) (here, rest) e in
    rw (text_is, same_rest) refl
word_is text bytes ts here rest false same e = absurd cc

pub word_found : (text : List ℕ) (ts : List Tok) (here : List Item) (rest : List Tok) → part (w text) ts ≡ Some (here, rest) → ts ≡ tok kinds.Word text ∷ rest
unfolding part after one_at
word_found text [] here rest e = absurd cc
word_found text (tok kinds.Word bytes ∷ ts) here rest e = word_is text bytes ts here rest (bytes_eq bytes text) refl e
word_found text (t ∷ ts) here rest e = absurd cc

mark_is : (text bytes : List ℕ) (ts : List Tok) (here : List Item) (rest : List Tok) (b : Bool) → bytes_eq bytes text ≡ b
    → after (with_rest ts (cond b (Some tt) None)) (λ (_ : Unit {0}) (r : List Tok). Some ([], r)) ≡ Some (here, rest) → tok kinds.Punct bytes ∷ ts ≡ tok kinds.Punct text ∷ rest
unfolding after
mark_is text bytes ts here rest true same e =
    let text_is : bytes ≡ text = (bytes_eq-Decides bytes text).0 same in
    let same_rest : ts ≡ rest = rest_is ([], ts) (here, rest) e in
    rw (text_is, same_rest) refl
mark_is text bytes ts here rest false same e = absurd cc

pub mark_found : (text : List ℕ) (ts : List Tok) (here : List Item) (rest : List Tok) → part (m text) ts ≡ Some (here, rest) → ts ≡ tok kinds.Punct text ∷ rest
unfolding part after one_at
mark_found text [] here rest e = absurd cc
mark_found text (tok kinds.Punct bytes ∷ ts) here rest e = mark_is text bytes ts here rest (bytes_eq bytes text) refl e
mark_found text (t ∷ ts) here rest e = absurd cc

-- a name begins with a local
named_rest : (item : List ℕ → Item) (n : List ℕ) (ts : List Tok) (here : List Item) (rest : List Tok) (b : Bool)
    → after (with_rest ts (cond b (Some n) None)) (λ (x : List ℕ) (r : List Tok). Some (item x ∷ [], r)) ≡ Some (here, rest) → ts ≡ rest
unfolding after
named_rest item n ts here rest true e = rest_is (item n ∷ [], ts) (here, rest) e
named_rest item n ts here rest false e = absurd cc

pub local_found : (ts : List Tok) (here : List Item) (rest : List Tok) → part a_local ts ≡ Some (here, rest) → (bytes : List ℕ) × (ts ≡ tok kinds.Local bytes ∷ rest)
unfolding part after one_at
local_found [] here rest e = absurd cc
local_found (tok kinds.Local bytes ∷ ts) here rest e =
    let same_rest : ts ≡ rest = named_rest name (drop 1 bytes) ts here rest (is_name (drop 1 bytes)) e in (bytes, rw same_rest refl)
local_found (t ∷ ts) here rest e = absurd cc

layout_name_found : (ts : List Tok) (here : List Item) (rest : List Tok) → part a_layout_name ts ≡ Some (here, rest) → (bytes : List ℕ) × (ts ≡ tok kinds.Local bytes ∷ rest)
unfolding part after one_at
layout_name_found [] here rest e = absurd cc
layout_name_found (tok kinds.Local bytes ∷ ts) here rest e =
    let same_rest : ts ≡ rest = named_rest layout_name (drop 1 bytes) ts here rest (is_name (drop 1 bytes)) e in (bytes, rw same_rest refl)
layout_name_found (t ∷ ts) here rest e = absurd cc

layout_found : (ts : List Tok) (here : List Item) (rest : List Tok) → part a_layout ts ≡ Some (here, rest) → begins is_local ts ≡ true
unfolding part after one_at
layout_found [] here rest e = absurd cc
layout_found (tok kinds.Local bytes ∷ ts) here rest e = refl
layout_found (t ∷ ts) here rest e = absurd cc

-- behind a first word
behind_word : (text : List ℕ) (f : List Slot) (ts : List Tok) → IsFound (parse (w text ∷ f) ts) → (rest : List Tok) × (ts ≡ tok kinds.Word text ∷ rest) × IsFound (parse f rest)
behind_word text f ts e =
    let a = first_slot (w text) f ts e in
    (a.1, word_found text ts a.0 a.1 a.2, a.3)

-- behind a blank, and behind what is dropped
behind_blank : (f : List Slot) (ts : List Tok) → IsFound (parse (blank ∷ f) ts) → IsFound (parse f ts)
unfolding part
behind_blank f ts e =
    let a = first_slot blank f ts e in
    rw (rest_is ([], ts) (a.0, a.1) a.2) a.3

behind_dropped : (what : Dropped) (f : List Slot) (ts : List Tok) → IsFound (parse (dropped what ∷ f) ts) → IsFound (parse f (past_all what ts))
unfolding part
behind_dropped what f ts e =
    let a = first_slot (dropped what) f ts e in
    rw (rest_is ([], past_all what ts) (a.0, a.1) a.2) a.3

-- ---- forms that begin with a word

abbrev Opens : Form → List Slot → Type 0
Opens form f = (ts : List Tok) → IsFound (parse f ts) → form_of ts ≡ Some form

by_word : (text : List ℕ) (f : List Slot) (form : Form) → ((rest : List Tok) → IsFound (parse f rest) → word_form text rest ≡ Some form) → Opens form (w text ∷ f)
unfolding form_of
by_word text f form known ts e = let a = behind_word text f ts e in rw a.1 (known a.0 a.2)

by_words : (text second : List ℕ) (f : List Slot) (form : Form) → ((rest : List Tok) → word_form text (tok kinds.Word second ∷ rest) ≡ Some form) → Opens form (w text ∷ blank ∷ w second ∷ f)
by_words text second f form known = by_word text (blank ∷ w second ∷ f) form (λ rest e. let a = behind_word second f rest (behind_blank (w second ∷ f) rest e) in rw a.1 (known a.0))

-- ---- forms that begin with a result

by_equals : (g : List Slot) (form : Form) → ((rest : List Tok) → IsFound (parse g rest) → result_form rest ≡ Some form) → Opens form (a_local ∷ blank ∷ m (codes "=") ∷ blank ∷ g)
unfolding form_of
by_equals g form known ts e =
    let a = first_slot a_local (blank ∷ m (codes "=") ∷ blank ∷ g) ts e in
    let l = local_found ts a.0 a.1 a.2 in
    let b = first_slot (m (codes "=")) (blank ∷ g) a.1 (behind_blank (m (codes "=") ∷ blank ∷ g) a.1 a.3) in
    rw (l.1, mark_found (codes "=") a.1 b.0 b.1 b.2) (known b.1 (behind_blank g b.1 b.3))

by_result : (text : List ℕ) (f : List Slot) (form : Form) → ((rest : List Tok) → IsFound (parse f rest) → named_form text rest ≡ Some form) → Opens form (a_local ∷ blank ∷ m (codes "=") ∷ blank ∷ w text ∷ f)
by_result text f form known = by_equals (w text ∷ f) form (λ rest e. let a = behind_word text f rest e in rw a.1 (known a.0 a.2))

pub binary_named : (op : Binary) (ts : List Tok) → named_form (binary_word op) ts ≡ Some (forms.Binary op)
unfolding named_form
binary_named ops.Add ts = refl
binary_named ops.Sub ts = refl
binary_named ops.Mul ts = refl
binary_named ops.Udiv ts = refl
binary_named ops.Sdiv ts = refl
binary_named ops.Urem ts = refl
binary_named ops.Srem ts = refl
binary_named ops.And ts = refl
binary_named ops.Or ts = refl
binary_named ops.Xor ts = refl
binary_named ops.Shl ts = refl
binary_named ops.Lshr ts = refl
binary_named ops.Ashr ts = refl

pub conversion_named : (op : Conversion) (ts : List Tok) → named_form (conversion_word op) ts ≡ Some (forms.Convert op)
unfolding named_form
conversion_named convs.Trunc ts = refl
conversion_named convs.Zext ts = refl
conversion_named convs.Sext ts = refl

cast_named : (op : Cast) (ts : List Tok) → named_form (cast_word op) ts ≡ Some (forms.Cast op)
unfolding named_form
cast_named casts.PtrToInt ts = refl
cast_named casts.IntToPtr ts = refl
cast_named casts.AddrSpaceCast ts = refl
cast_named casts.BitCast ts = refl

-- ---- forms that what follows decides

not_none : {A : Type 0} (x : A × List Tok) → told x ≡ None → ⊥
not_none x e = cc

-- a type that isn't `void`
no_void_word : (bytes : List ℕ) (ts : List Tok) (here : List Item) (rest : List Tok) (b : Bool) → bytes_eq bytes (codes "void") ≡ b → part a_type (tok kinds.Word bytes ∷ ts) ≡ Some (here, rest) → b ≡ false
unfolding part after allowed_type_at spelled_type_at
no_void_word bytes ts here rest false same e = refl
no_void_word bytes ts here rest true same e =
    let text_is : bytes ≡ codes "void" = (bytes_eq-Decides bytes (codes "void")).0 same in
    let none : part a_type (tok kinds.Word (codes "void") ∷ ts) ≡ None = refl in
    let some : part a_type (tok kinds.Word (codes "void") ∷ ts) ≡ Some (here, rest) = subst (λ (t : List ℕ). part a_type (tok kinds.Word t ∷ ts) ≡ Some (here, rest)) text_is e in
    absurd (not_none (here, rest) (sym some ∙ none))

no_void : (ts : List Tok) (here : List Item) (rest : List Tok) → part a_type ts ≡ Some (here, rest) → begins (is_word (codes "void")) ts ≡ false
no_void [] here rest e = refl
no_void (tok kinds.Word bytes ∷ ts) here rest e = no_void_word bytes ts here rest (bytes_eq bytes (codes "void")) refl e
no_void (t ∷ ts) here rest e = refl

-- a type begins with no local
no_local : (ts : List Tok) (here : List Item) (rest : List Tok) → part a_scalar ts ≡ Some (here, rest) → begins is_local ts ≡ false
unfolding part after allowed_type_at spelled_type_at
no_local [] here rest e = refl
no_local (tok kinds.Local bytes ∷ ts) here rest e = absurd cc
no_local (t ∷ ts) here rest e = refl

returned : (f : List Slot) (rest : List Tok) → IsFound (parse (blank ∷ a_type ∷ f) rest) → word_form (codes "ret") rest ≡ Some forms.Return
unfolding word_form
returned f rest e = let a = first_slot a_type f rest (behind_blank (a_type ∷ f) rest e) in rw (no_void rest a.0 a.1 a.2) refl

scalar : (f : List Slot) (rest : List Tok) → IsFound (parse (dropped (drops.Words flags.Bounds) ∷ blank ∷ a_scalar ∷ f) rest) → named_form (codes "getelementptr") rest ≡ Some forms.ScalarElement
unfolding named_form
scalar f rest e =
    let after_flags = past_all (drops.Words flags.Bounds) rest in
    let a = first_slot a_scalar f after_flags (behind_blank (a_scalar ∷ f) after_flags (behind_dropped (drops.Words flags.Bounds) (blank ∷ a_scalar ∷ f) rest e)) in
    rw (no_local after_flags a.0 a.1 a.2) refl

layout : (f : List Slot) (rest : List Tok) → IsFound (parse (dropped (drops.Words flags.Bounds) ∷ blank ∷ a_layout ∷ f) rest) → named_form (codes "getelementptr") rest ≡ Some forms.LayoutElement
unfolding named_form
layout f rest e =
    let after_flags = past_all (drops.Words flags.Bounds) rest in
    let a = first_slot a_layout f after_flags (behind_blank (a_layout ∷ f) after_flags (behind_dropped (drops.Words flags.Bounds) (blank ∷ a_layout ∷ f) rest e)) in
    rw (layout_found after_flags a.0 a.1 a.2) refl

-- ---- calls, which may begin with words that are dropped

-- a first word of a call
data Calling : List ℕ → Type 0 where
  call : Calling (codes "call")
  tail : Calling (codes "tail")
  notail : Calling (codes "notail")

calling_by : (bytes : List ℕ) (t n : Bool) → bytes_eq bytes (codes "tail") ≡ t → bytes_eq bytes (codes "notail") ≡ n → (t || (n || false)) ≡ true → Calling bytes
calling_by bytes true n is-t is-n e = let text_is : bytes ≡ codes "tail" = (bytes_eq-Decides bytes (codes "tail")).0 is-t in rw text_is tail
calling_by bytes false true is-t is-n e = let text_is : bytes ≡ codes "notail" = (bytes_eq-Decides bytes (codes "notail")).0 is-n in rw text_is notail
calling_by bytes false false is-t is-n e = absurd cc

guarded : (b : Bool) (x y : List Tok) → cond b (Some x) None ≡ Some y → b ≡ true
guarded true x y e = refl
guarded false x y e = absurd cc

calling_word : (ts rest : List Tok) → past_dropped (drops.Words flags.Calling) ts ≡ Some rest → (bytes : List ℕ) × (more : List Tok) × (ts ≡ tok kinds.Word bytes ∷ more) × Calling bytes
calling_word [] rest e = absurd cc
calling_word (tok kinds.Word bytes ∷ ts) rest e =
    (bytes, ts, refl, calling_by bytes (bytes_eq bytes (codes "tail")) (bytes_eq bytes (codes "notail")) refl refl (guarded (is_one_of (flag_words flags.Calling) bytes) ts rest e))
calling_word (t ∷ ts) rest e = absurd cc

calling_from : (f : List Slot) (ts : List Tok) (found : Option (List Tok)) → past_dropped (drops.Words flags.Calling) ts ≡ found → IsFound (parse (w (codes "call") ∷ f) (past_all (drops.Words flags.Calling) ts))
    → (bytes : List ℕ) × (more : List Tok) × (ts ≡ tok kinds.Word bytes ∷ more) × Calling bytes
calling_from f ts None e found =
    let a = behind_word (codes "call") f ts (rw (← past_all-none (drops.Words flags.Calling) ts e) found) in
    (codes "call", a.0, a.1, call)
calling_from f ts (Some rest) e found = calling_word ts rest e

calling : (f : List Slot) (ts : List Tok) → IsFound (parse (dropped (drops.Words flags.Calling) ∷ w (codes "call") ∷ f) ts) → (bytes : List ℕ) × (more : List Tok) × (ts ≡ tok kinds.Word bytes ∷ more) × Calling bytes
calling f ts e = calling_from f ts (past_dropped (drops.Words flags.Calling) ts) refl (behind_dropped (drops.Words flags.Calling) (w (codes "call") ∷ f) ts e)

named_call : (bytes : List ℕ) (more : List Tok) → Calling bytes → named_form bytes more ≡ Some forms.ValueCall
unfolding named_form
named_call _ more call = refl
named_call _ more tail = refl
named_call _ more notail = refl

plain_call : (bytes : List ℕ) (more : List Tok) → Calling bytes → word_form bytes more ≡ Some forms.VoidCall
unfolding word_form
plain_call _ more call = refl
plain_call _ more tail = refl
plain_call _ more notail = refl

value_call : (f : List Slot) (rest : List Tok) → IsFound (parse (dropped (drops.Words flags.Calling) ∷ w (codes "call") ∷ f) rest) → result_form rest ≡ Some forms.ValueCall
value_call f rest e = let a = calling f rest e in rw a.2 (named_call a.0 a.1 a.3)

void_call : (f : List Slot) (ts : List Tok) → IsFound (parse (dropped (drops.Words flags.Calling) ∷ w (codes "call") ∷ f) ts) → form_of ts ≡ Some forms.VoidCall
unfolding form_of
void_call f ts e = let a = calling f ts e in rw a.2 (plain_call a.0 a.1 a.3)

-- ---- cases

chosen : {A : Type 0} (b : Bool) (x : A) → is_some (cond b (Some x) None) ≡ true → b ≡ true
chosen true x e = refl
chosen false x e = absurd cc

case_word : (i : ℕ) (digits : List ℕ) (ts : List Tok) → i ≡ 105 → is_numeral digits ≡ true → form_of (tok kinds.Word (i ∷ digits) ∷ ts) ≡ Some forms.Case
unfolding form_of word_form
case_word i digits ts i-is numeral = rw (i-is, numeral) refl

width_said : (rest : List Tok) (found : Option ℕ) → IsFound (after (with_rest rest found) (λ (n : ℕ) (r : List Tok). told (Rattle.line_forms.specs.Slots.width n ∷ [], r))) → is_some found ≡ true
unfolding after
width_said rest None e = absurd cc
width_said rest (Some n) e = refl

width_found : (ts : List Tok) → IsFound (part a_width ts) → form_of ts ≡ Some forms.Case
unfolding part one_noted_at after
width_found [] e = absurd cc
width_found (tok kinds.Word (i ∷ digits) ∷ ts) e =
    let p = and_parts (eqb i 105) (is_numeral digits) (chosen (eqb i 105 && is_numeral digits) _ (width_said (noted (width_passes (tok kinds.Word (i ∷ digits))) ts) (width_of (tok kinds.Word (i ∷ digits))) e)) in
    case_word i digits ts (eqb-true i 105 p.0) p.1
width_found (t ∷ ts) e = absurd cc

case_opens : (f : List Slot) (ts : List Tok) → IsFound (parse (a_width ∷ f) ts) → form_of ts ≡ Some forms.Case
case_opens f ts e = let a = first_slot a_width f ts e in width_found ts (found_is (part a_width ts) (a.0, a.1) a.2)

-- ---- marks and layouts

close_opens : (f : List Slot) (ts : List Tok) → IsFound (parse (m (codes "}") ∷ f) ts) → form_of ts ≡ Some forms.Close
unfolding form_of
close_opens f ts e = let a = first_slot (m (codes "}")) f ts e in rw (mark_found (codes "}") ts a.0 a.1 a.2) refl

end_opens : (f : List Slot) (ts : List Tok) → IsFound (parse (m (codes "]") ∷ f) ts) → form_of ts ≡ Some forms.SwitchEnd
unfolding form_of
end_opens f ts e = let a = first_slot (m (codes "]")) f ts e in rw (mark_found (codes "]") ts a.0 a.1 a.2) refl

layout_opens : (f : List Slot) (ts : List Tok) → IsFound (parse (a_layout_name ∷ blank ∷ m (codes "=") ∷ blank ∷ w (codes "type") ∷ f) ts) → form_of ts ≡ Some forms.Layout
unfolding form_of named_form
layout_opens f ts e =
    let a = first_slot a_layout_name (blank ∷ m (codes "=") ∷ blank ∷ w (codes "type") ∷ f) ts e in
    let l = layout_name_found ts a.0 a.1 a.2 in
    let b = first_slot (m (codes "=")) (blank ∷ w (codes "type") ∷ f) a.1 (behind_blank (m (codes "=") ∷ blank ∷ w (codes "type") ∷ f) a.1 a.3) in
    let c = behind_word (codes "type") f b.1 (behind_blank (w (codes "type") ∷ f) b.1 b.3) in
    rw (l.1, mark_found (codes "=") a.1 b.0 b.1 b.2, c.1) refl

-- ---- each form

-- the form of the source that a form begins like
abbrev pub like : Form → Form
like forms.Statepoint = forms.ValueCall
like forms.GcResult = forms.ValueCall
like forms.GcRelocate = forms.ValueCall
like (forms.Dropped drop_lines.Family) = forms.Declare
like form = form

pub opens : (form : Form) (ts : List Tok) → IsFound (parse (slots form) ts) → form_of ts ≡ Some (like form)
unfolding word_form named_form
opens (forms.Dropped drop_lines.SourceFilename) = by_word (codes "source_filename") _ _ (λ rest e. refl)
opens (forms.Dropped drop_lines.DataLayout) = by_words (codes "target") (codes "datalayout") _ _ (λ rest. refl)
opens (forms.Dropped drop_lines.Triple) = by_words (codes "target") (codes "triple") _ _ (λ rest. refl)
opens (forms.Dropped drop_lines.Attributes) = by_word (codes "attributes") _ _ (λ rest e. refl)
opens (forms.Dropped drop_lines.Family) = by_word (codes "declare") _ forms.Declare (λ rest e. refl)
opens forms.Statepoint = by_equals _ forms.ValueCall (value_call _)
opens forms.GcResult = by_equals _ forms.ValueCall (value_call _)
opens forms.GcRelocate = by_equals _ forms.ValueCall (value_call _)
opens forms.Layout = layout_opens _
opens forms.Declare = by_word (codes "declare") _ _ (λ rest e. refl)
opens forms.Define = by_word (codes "define") _ _ (λ rest e. refl)
opens forms.Close = close_opens _
opens (forms.Binary op) = by_result (binary_word op) _ _ (λ rest e. binary_named op rest)
opens forms.Compare = by_result (codes "icmp") _ _ (λ rest e. refl)
opens (forms.Convert op) = by_result (conversion_word op) _ _ (λ rest e. conversion_named op rest)
opens forms.Select = by_result (codes "select") _ _ (λ rest e. refl)
opens forms.Phi = by_result (codes "phi") _ _ (λ rest e. refl)
opens forms.ScalarElement = by_result (codes "getelementptr") _ _ (scalar _)
opens forms.LayoutElement = by_result (codes "getelementptr") _ _ (layout _)
opens forms.Load = by_result (codes "load") _ _ (λ rest e. refl)
opens forms.Store = by_word (codes "store") _ _ (λ rest e. refl)
opens forms.ValueCall = by_equals _ _ (value_call _)
opens forms.VoidCall = void_call _
opens forms.Jump = by_words (codes "br") (codes "label") _ _ (λ rest. refl)
opens forms.Branch = by_words (codes "br") (codes "i1") _ _ (λ rest. refl)
opens forms.Switch = by_word (codes "switch") _ _ (λ rest e. refl)
opens forms.Case = case_opens _
opens forms.SwitchEnd = end_opens _
opens forms.ReturnVoid = by_words (codes "ret") (codes "void") _ _ (λ rest. refl)
opens forms.Return = by_word (codes "ret") _ _ (returned _)
opens forms.Unreachable = by_word (codes "unreachable") _ _ (λ rest e. refl)
opens (forms.Cast op) = by_result (cast_word op) _ _ (λ rest e. cast_named op rest)
