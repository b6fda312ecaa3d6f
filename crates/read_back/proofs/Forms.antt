-- The line of each form but those with lists: its form, and what it says at the form's slots.
use Rattle.std.proofs.Common.{◌≡◌, refl, ap, ◌∙◌, ℕ, ◌<◌, ◌≤◌, ◌^◌, true, false, List, [], ◌∷◌, ◌++◌, Some, None, arith, codes, decimal, append-nil}
use Rattle.sp_text.specs.Tokens.{Tok, tok, tokens, is_token, is_name}
use Rattle.sp_text.specs.declared.tokens.Kind.TheVariants as kinds
use Rattle.sp_text.proofs.TokenLemmas.{tokens-nil}
use Rattle.sp_text.proofs.Spelled.{tokens-spelled, tokens-blank}
use Rattle.ir_ast.specs.declared.ops.Pred.{Pred}
use Rattle.ir_ast.specs.declared.ops.Pred.TheVariants as preds
use Rattle.line_parts.specs.Types.{TypeWord}
use Rattle.line_forms.specs.declared.forms.Form.{Form}
use Rattle.line_forms.specs.declared.forms.Form.TheVariants as forms
use Rattle.line_tokens.specs.declared.words.Binary.{Binary}
use Rattle.line_tokens.specs.declared.words.Binary.TheVariants as ops
use Rattle.line_tokens.specs.declared.words.Conversion.{Conversion}
use Rattle.line_tokens.specs.declared.words.Conversion.TheVariants as convs
use Rattle.line_tokens.specs.declared.words.Dropped.TheVariants as drops
use Rattle.line_tokens.specs.declared.words.Flags.{Flags}
use Rattle.line_tokens.specs.declared.words.Flags.TheVariants as flags
use Rattle.line_tokens.specs.Marks.{is_word}
use Rattle.ir_ast.specs.Widths.{IsWidth}
use Rattle.line_parts.specs.Drops.{past_dropped}
use Rattle.line_parts.specs.Parts.{Val, is_value_type, is_scalar_type, is_case_value}
use Rattle.line_tokens.specs.Words.{pred_word, binary_word, binary_flags, conversion_word, conversion_flags}
use Rattle.line_forms.specs.Forms.{slots, form_of, named_form, word_form}
use Rattle.line_forms.specs.Slots.{Item, name, width, ty, value, pred, scalar, layout, place, Slot, blank, m, w, dropped, a_local, parse}
use Rattle.read_back.proofs.Steps.{Reads, IsClean, end, mark, word, local, layout_step, spaced, space, over_blank, drop_at, drop_end, first_of}
use Rattle.read_back.proofs.Spellings.{SpellsType, SpellsValue, integer_says, pointer_type, integer_flag, decimal-digits}
use Rattle.read_back.proofs.PartSteps.{type_step, managed_step, scalar_step, width_step, value_step, case_step, pred_step, no_place, place_step}
use Rattle.line_forms.proofs.Openings.{binary_named, conversion_named}
use Rattle.line_parts.proofs.Dropping.{past_all-none}

-- the text is a line of this form, and says this at the form's slots
pub record ReadsAs (text : List ℕ) (form : Form) (items : List Item) : Type 0 where
  pub form_is : form_of (tokens text) ≡ Some form
  pub whole : parse (slots form) (tokens text) ≡ Some (items, [])
  pub clean : IsClean text

-- ---- which form

by_word : (spelled : List ℕ) (ts : List Tok) (form : Form) → first_of ts ≡ Some (tok kinds.Word spelled) → ((more : List Tok) → word_form spelled more ≡ Some form) → form_of ts ≡ Some form
unfolding form_of
by_word spelled [] form e says = cc
by_word spelled (t ∷ ts) form e says = let same : t ≡ tok kinds.Word spelled = cc in rw same (says ts)

-- a line that begins with a word
pub word_line : {text : List ℕ} {items : List Item} (spelled : List ℕ) (form : Form) → ((more : List Tok) → word_form spelled more ≡ Some form)
    → Reads (slots form) text (Some (tok kinds.Word spelled)) items → ReadsAs text form items
word_line {text} spelled form says r = record { form_is = by_word spelled (tokens text) form r.begins says; whole = r.whole; clean = r.clean }

-- a line that begins with a word and a token
pub second_line : {items : List Item} (rest spelled : List ℕ) (t : Tok) (form : Form) → is_token kinds.Word spelled ≡ true → first_of (tokens rest) ≡ Some t
    → ((more : List Tok) → word_form spelled (t ∷ more) ≡ Some form)
    → Reads (slots form) (spelled ++ (32 ∷ rest)) (Some (tok kinds.Word spelled)) items → ReadsAs (spelled ++ (32 ∷ rest)) form items
unfolding form_of
second_line rest spelled t form is second says r = record { form_is = rw e (by (tokens rest) second); whole = r.whole; clean = r.clean }
  where
    e : tokens (spelled ++ (32 ∷ rest)) ≡ tok kinds.Word spelled ∷ tokens rest
    e = tokens-spelled kinds.Word spelled (32 ∷ rest) is refl ∙ ap (λ ts. tok kinds.Word spelled ∷ ts) (tokens-blank 32 rest refl)

    by : (ts : List Tok) → first_of ts ≡ Some t → form_of (tok kinds.Word spelled ∷ ts) ≡ Some form
    by [] first = cc
    by (u ∷ us) first = let same : u ≡ t = cc in rw same (says us)

pub result_tokens : (n text : List ℕ) → is_name n ≡ true → tokens (37 ∷ (n ++ (32 ∷ 61 ∷ 32 ∷ text))) ≡ tok kinds.Local (37 ∷ n) ∷ tok kinds.Punct (codes "=") ∷ tokens text
result_tokens n text is =
    tokens-spelled kinds.Local (37 ∷ n) (32 ∷ 61 ∷ 32 ∷ text) is refl
    ∙ ap (λ ts. tok kinds.Local (37 ∷ n) ∷ ts) (tokens-blank 32 (61 ∷ 32 ∷ text) refl
    ∙ (tokens-spelled kinds.Punct (codes "=") (32 ∷ text) refl refl
    ∙ ap (λ ts. tok kinds.Punct (codes "=") ∷ ts) (tokens-blank 32 text refl)))

pub named_by : (n spelled : List ℕ) (ts : List Tok) (form : Form) → first_of ts ≡ Some (tok kinds.Word spelled) → ((more : List Tok) → named_form spelled more ≡ Some form)
    → form_of (tok kinds.Local (37 ∷ n) ∷ tok kinds.Punct (codes "=") ∷ ts) ≡ Some form
unfolding form_of
named_by n spelled [] form e says = cc
named_by n spelled (t ∷ ts) form e says = let same : t ≡ tok kinds.Word spelled = cc in rw same (says ts)

-- `%x = ` and a line that begins with a word
pub named_line : {text : List ℕ} {items : List Item} {f : List Slot} (n spelled : List ℕ) (form : Form) → is_name n ≡ true → ((more : List Tok) → named_form spelled more ≡ Some form)
    → slots form ≡ a_local ∷ blank ∷ m (codes "=") ∷ blank ∷ f
    → Reads f text (Some (tok kinds.Word spelled)) items → ReadsAs (37 ∷ (n ++ (32 ∷ 61 ∷ 32 ∷ text))) form (name n ∷ items)
named_line {text} {items} {f} n spelled form is says shape r = record {
  form_is = rw (result_tokens n text is) (named_by n spelled (tokens text) form r.begins says);
  whole = rw shape (local n is refl (space (mark 61 refl refl refl (space r)))).whole;
  clean = (local n is refl (space (mark 61 refl refl refl (space r)))).clean;
}

-- the same, where the form depends on the token behind the word
pub named_second : {items : List Item} {f : List Slot} (rest n spelled : List ℕ) (t : Tok) (form : Form) → is_name n ≡ true → is_token kinds.Word spelled ≡ true
    → first_of (tokens rest) ≡ Some t → ((more : List Tok) → named_form spelled (t ∷ more) ≡ Some form)
    → slots form ≡ a_local ∷ blank ∷ m (codes "=") ∷ blank ∷ f
    → Reads f (spelled ++ (32 ∷ rest)) (Some (tok kinds.Word spelled)) items → ReadsAs (37 ∷ (n ++ (32 ∷ 61 ∷ 32 ∷ (spelled ++ (32 ∷ rest))))) form (name n ∷ items)
unfolding form_of
named_second rest n spelled t form is token second says shape r = record {
  form_is = rw (result_tokens n (spelled ++ (32 ∷ rest)) is) (rw e (by (tokens rest) second));
  whole = rw shape (local n is refl (space (mark 61 refl refl refl (space r)))).whole;
  clean = (local n is refl (space (mark 61 refl refl refl (space r)))).clean;
}
  where
    e : tokens (spelled ++ (32 ∷ rest)) ≡ tok kinds.Word spelled ∷ tokens rest
    e = tokens-spelled kinds.Word spelled (32 ∷ rest) token refl ∙ ap (λ ts. tok kinds.Word spelled ∷ ts) (tokens-blank 32 rest refl)

    by : (ts : List Tok) → first_of ts ≡ Some t → form_of (tok kinds.Local (37 ∷ n) ∷ tok kinds.Punct (codes "=") ∷ tok kinds.Word spelled ∷ ts) ≡ Some form
    by [] first = cc
    by (u ∷ us) first = let same : u ≡ t = cc in rw same (says us)

-- ---- arithmetic

binary_is : (op : Binary) → is_token kinds.Word (binary_word op) ≡ true
binary_is ops.Add = refl
binary_is ops.Sub = refl
binary_is ops.Mul = refl
binary_is ops.Udiv = refl
binary_is ops.Sdiv = refl
binary_is ops.Urem = refl
binary_is ops.Srem = refl
binary_is ops.And = refl
binary_is ops.Or = refl
binary_is ops.Xor = refl
binary_is ops.Shl = refl
binary_is ops.Lshr = refl
binary_is ops.Ashr = refl

binary_same : (op : Binary) → is_word (binary_word op) (tok kinds.Word (binary_word op)) ≡ true
binary_same ops.Add = refl
binary_same ops.Sub = refl
binary_same ops.Mul = refl
binary_same ops.Udiv = refl
binary_same ops.Sdiv = refl
binary_same ops.Urem = refl
binary_same ops.Srem = refl
binary_same ops.And = refl
binary_same ops.Or = refl
binary_same ops.Xor = refl
binary_same ops.Shl = refl
binary_same ops.Lshr = refl
binary_same ops.Ashr = refl

binary_clean : (op : Binary) → IsClean (binary_word op)
binary_clean ops.Add = refl
binary_clean ops.Sub = refl
binary_clean ops.Mul = refl
binary_clean ops.Udiv = refl
binary_clean ops.Sdiv = refl
binary_clean ops.Urem = refl
binary_clean ops.Srem = refl
binary_clean ops.And = refl
binary_clean ops.Or = refl
binary_clean ops.Xor = refl
binary_clean ops.Shl = refl
binary_clean ops.Lshr = refl
binary_clean ops.Ashr = refl

integer_drop : (n : ℕ) → n ≤ 64 → (which : Flags) (more : List Tok) → past_dropped (drops.Words which) (tok kinds.Word (105 ∷ decimal n) ∷ more) ≡ None
integer_drop n most which more = integer_flag (decimal n) (decimal-digits n (omega arith)) which more

pub binary_line : (op : Binary) (n : List ℕ) → is_name n ≡ true → (bits : ℕ) → IsWidth bits → {left right : List ℕ} {l r : Val} → SpellsValue left l → SpellsValue right r
    → ReadsAs (37 ∷ (n ++ (32 ∷ 61 ∷ 32 ∷ (binary_word op ++ (32 ∷ 105 ∷ (decimal bits ++ (32 ∷ (left ++ (44 ∷ 32 ∷ right)))))))))
    (forms.Binary op) (name n ∷ width bits ∷ value l ∷ value r ∷ [])
binary_line op n is bits narrow {left} {right} {l} {r} s t =
    rw (← append-nil right) (named_line n (binary_word op) (forms.Binary op) is (binary_named op) refl
    (word (binary_word op) (binary_is op) (binary_same op) (binary_clean op) refl
    (spaced (drop_at (drops.Words (binary_flags op)) (integer_drop bits narrow.1 (binary_flags op)) (over_blank (width_step bits narrow refl
    (space (value_step s refl (mark 44 refl refl refl (space (value_step t refl (drop_end drops.Attachments end))))))))))))

-- ---- comparisons

pred_flag : (p : Pred) (more : List Tok) → past_dropped (drops.Words flags.SameSign) (tok kinds.Word (pred_word p) ∷ more) ≡ None
pred_flag preds.Eq more = refl
pred_flag preds.Ne more = refl
pred_flag preds.Ugt more = refl
pred_flag preds.Uge more = refl
pred_flag preds.Ult more = refl
pred_flag preds.Ule more = refl
pred_flag preds.Sgt more = refl
pred_flag preds.Sge more = refl
pred_flag preds.Slt more = refl
pred_flag preds.Sle more = refl

compare_form : (more : List Tok) → named_form (codes "icmp") more ≡ Some forms.Compare
unfolding named_form
compare_form more = refl

pub compare_line : (p : Pred) (n : List ℕ) → is_name n ≡ true → {spelled : List ℕ} {of_type : TypeWord} → SpellsType spelled of_type → is_value_type of_type ≡ true
    → {left right : List ℕ} {l r : Val} → SpellsValue left l → SpellsValue right r
    → ReadsAs (37 ∷ (n ++ (32 ∷ 61 ∷ 32 ∷ (codes "icmp " ++ (pred_word p ++ (32 ∷ (spelled ++ (32 ∷ (left ++ (44 ∷ 32 ∷ right))))))))))
    forms.Compare (name n ∷ pred p ∷ ty of_type ∷ value l ∷ value r ∷ [])
compare_line p n is of_type allow {right = right} s t =
    rw (← append-nil right) (named_line n (codes "icmp") forms.Compare is compare_form refl
    (word (codes "icmp") refl refl refl refl
    (spaced (drop_at (drops.Words flags.SameSign) (pred_flag p) (over_blank (pred_step p refl
    (space (type_step of_type allow refl (space (value_step s refl (mark 44 refl refl refl (space (value_step t refl (drop_end drops.Attachments end))))))))))))))

-- ---- conversions

conversion_is : (op : Conversion) → is_token kinds.Word (conversion_word op) ≡ true
conversion_is convs.Trunc = refl
conversion_is convs.Zext = refl
conversion_is convs.Sext = refl

conversion_same : (op : Conversion) → is_word (conversion_word op) (tok kinds.Word (conversion_word op)) ≡ true
conversion_same convs.Trunc = refl
conversion_same convs.Zext = refl
conversion_same convs.Sext = refl

conversion_clean : (op : Conversion) → IsClean (conversion_word op)
conversion_clean convs.Trunc = refl
conversion_clean convs.Zext = refl
conversion_clean convs.Sext = refl

pub convert_line : (op : Conversion) (n : List ℕ) → is_name n ≡ true → (bits : ℕ) → IsWidth bits → (to : ℕ) → IsWidth to → {left : List ℕ} {l : Val} → SpellsValue left l
    → ReadsAs (37 ∷ (n ++ (32 ∷ 61 ∷ 32 ∷ (conversion_word op ++ (32 ∷ 105 ∷ (decimal bits ++ (32 ∷ (left ++ (codes " to i" ++ decimal to)))))))))
    (forms.Convert op) (name n ∷ width bits ∷ value l ∷ width to ∷ [])
convert_line op n is bits narrow to high {left} {l} s =
    rw (← append-nil (decimal to)) (named_line n (conversion_word op) (forms.Convert op) is (conversion_named op) refl
    (word (conversion_word op) (conversion_is op) (conversion_same op) (conversion_clean op) refl
    (spaced (drop_at (drops.Words (conversion_flags op)) (integer_drop bits narrow.1 (conversion_flags op)) (over_blank (width_step bits narrow refl
    (space (value_step s refl (space (word (codes "to") refl refl refl refl (space (width_step to high refl (drop_end drops.Attachments end)))))))))))))

-- ---- select

select_form : (more : List Tok) → named_form (codes "select") more ≡ Some forms.Select
unfolding named_form
select_form more = refl

pub select_line : (n : List ℕ) → is_name n ≡ true → {spelled : List ℕ} {of_type : TypeWord} → SpellsType spelled of_type → is_value_type of_type ≡ true
    → {condition left right : List ℕ} {c l r : Val} → SpellsValue condition c → SpellsValue left l → SpellsValue right r
    → ReadsAs (37 ∷ (n ++ (32 ∷ 61 ∷ 32 ∷ (codes "select i1 " ++ (condition ++ (44 ∷ 32 ∷ (spelled ++ (32 ∷ (left ++ (44 ∷ 32 ∷ (spelled ++ (32 ∷ right))))))))))))
    forms.Select (name n ∷ value c ∷ ty of_type ∷ value l ∷ ty of_type ∷ value r ∷ [])
select_line n is of_type allow {right = right} c s t =
    rw (← append-nil right) (named_line n (codes "select") forms.Select is select_form refl
    (word (codes "select") refl refl refl refl (space (word (codes "i1") refl refl refl refl (space (value_step c refl (mark 44 refl refl refl
    (space (type_step of_type allow refl (space (value_step s refl (mark 44 refl refl refl
    (space (type_step of_type allow refl (space (value_step t refl (drop_end drops.Attachments end)))))))))))))))))

-- ---- memory

load_form : (more : List Tok) → named_form (codes "load") more ≡ Some forms.Load
unfolding named_form
load_form more = refl

pub load_line : (n : List ℕ) → is_name n ≡ true → {spelled : List ℕ} {of_type : TypeWord} → SpellsType spelled of_type → is_value_type of_type ≡ true
    → {left : List ℕ} {l : Val} → SpellsValue left l
    → ReadsAs (37 ∷ (n ++ (32 ∷ 61 ∷ 32 ∷ (codes "load " ++ (spelled ++ (codes ", ptr addrspace(1) " ++ left))))))
    forms.Load (name n ∷ ty of_type ∷ value l ∷ [])
load_line n is of_type allow {left = left} s =
    rw (← append-nil left) (named_line n (codes "load") forms.Load is load_form refl
    (word (codes "load") refl refl refl refl (space (type_step of_type allow refl (mark 44 refl refl refl
    (space (managed_step pointer_type refl (space (value_step s refl (drop_end drops.Alignments (drop_end drops.Attachments end)))))))))))

store_form : (more : List Tok) → word_form (codes "store") more ≡ Some forms.Store
unfolding word_form
store_form more = refl

pub store_line : {spelled : List ℕ} {of_type : TypeWord} → SpellsType spelled of_type → is_value_type of_type ≡ true
    → {left right : List ℕ} {l r : Val} → SpellsValue left l → SpellsValue right r
    → ReadsAs (codes "store " ++ (spelled ++ (32 ∷ (left ++ (codes ", ptr addrspace(1) " ++ right))))) forms.Store (ty of_type ∷ value l ∷ value r ∷ [])
store_line of_type allow {right = right} s t =
    rw (← append-nil right) (word_line (codes "store") forms.Store store_form
    (word (codes "store") refl refl refl refl (space (type_step of_type allow refl (space (value_step s refl (mark 44 refl refl refl
    (space (managed_step pointer_type refl (space (value_step t refl (drop_end drops.Alignments (drop_end drops.Attachments end)))))))))))))

-- ---- terminators

close_form : form_of (tok kinds.Punct (codes "}") ∷ []) ≡ Some forms.Close
unfolding form_of
close_form = refl

switch_end_form : form_of (tok kinds.Punct (codes "]") ∷ []) ≡ Some forms.SwitchEnd
unfolding form_of
switch_end_form = refl

pub close_line : ReadsAs (codes "}") forms.Close []
close_line = record { form_is = rw (tokens-spelled kinds.Punct (codes "}") [] refl refl, tokens-nil) close_form; whole = (mark 125 refl refl refl end).whole; clean = refl }

pub switch_end_line : ReadsAs (codes "]") forms.SwitchEnd []
switch_end_line = record { form_is = rw (tokens-spelled kinds.Punct (codes "]") [] refl refl, tokens-nil) switch_end_form; whole = (mark 93 refl refl refl (drop_end drops.Attachments end)).whole; clean = refl }

unreachable_form : (more : List Tok) → word_form (codes "unreachable") more ≡ Some forms.Unreachable
unfolding word_form
unreachable_form more = refl

pub unreachable_line : ReadsAs (codes "unreachable") forms.Unreachable []
unreachable_line = word_line (codes "unreachable") forms.Unreachable unreachable_form (word (codes "unreachable") refl refl refl refl (drop_end drops.Attachments end))

-- a word, a space, and what begins with another token
pub second_word : {f : List Slot} {rest : List ℕ} {items : List Item} (spelled : List ℕ) (t : Tok) (form : Form) → is_token kinds.Word spelled ≡ true → is_word spelled (tok kinds.Word spelled) ≡ true → IsClean spelled
    → ((more : List Tok) → word_form spelled (t ∷ more) ≡ Some form) → slots form ≡ w spelled ∷ blank ∷ f
    → Reads f rest (Some t) items → ReadsAs (spelled ++ (32 ∷ rest)) form items
second_word {f} {rest} {items} spelled t form is same clean says shape r =
    second_line rest spelled t form is r.begins says (rw shape (word spelled is same clean refl (space r)))

jump_form : (more : List Tok) → word_form (codes "br") (tok kinds.Word (codes "label") ∷ more) ≡ Some forms.Jump
unfolding word_form
jump_form more = refl

pub jump_line : (n : List ℕ) → is_name n ≡ true → ReadsAs (codes "br label %" ++ n) forms.Jump (name n ∷ [])
jump_line n is =
    rw (append-nil n) at (second_word (codes "br") (tok kinds.Word (codes "label")) forms.Jump refl refl refl jump_form refl
    (word (codes "label") refl refl refl refl (space (local n is refl (drop_end drops.Attachments end)))))

branch_form : (more : List Tok) → word_form (codes "br") (tok kinds.Word (codes "i1") ∷ more) ≡ Some forms.Branch
unfolding word_form
branch_form more = refl

pub branch_line : {condition : List ℕ} {c : Val} → SpellsValue condition c → (n o : List ℕ) → is_name n ≡ true → is_name o ≡ true
    → ReadsAs (codes "br i1 " ++ (condition ++ (codes ", label %" ++ (n ++ (codes ", label %" ++ o))))) forms.Branch (value c ∷ name n ∷ name o ∷ [])
branch_line s n o n_is o_is =
    rw (append-nil o) at (second_word (codes "br") (tok kinds.Word (codes "i1")) forms.Branch refl refl refl branch_form refl
    (word (codes "i1") refl refl refl refl (space (value_step s refl (mark 44 refl refl refl (space (word (codes "label") refl refl refl refl (space (local n n_is refl
    (mark 44 refl refl refl (space (word (codes "label") refl refl refl refl (space (local o o_is refl (drop_end drops.Attachments end)))))))))))))))

return_void_form : (more : List Tok) → word_form (codes "ret") (tok kinds.Word (codes "void") ∷ more) ≡ Some forms.ReturnVoid
unfolding word_form
return_void_form more = refl

pub return_void_line : ReadsAs (codes "ret void") forms.ReturnVoid []
return_void_line = second_word {rest = codes "void"} (codes "ret") (tok kinds.Word (codes "void")) forms.ReturnVoid refl refl refl return_void_form refl
    (word (codes "void") refl refl refl refl (drop_end drops.Attachments end))

return_form : (spelled : List ℕ) → is_word (codes "void") (tok kinds.Word spelled) ≡ false → (more : List Tok) → word_form (codes "ret") (tok kinds.Word spelled ∷ more) ≡ Some forms.Return
unfolding word_form
return_form spelled other more = rw other refl

pub return_line : {spelled : List ℕ} {of_type : TypeWord} (t : SpellsType spelled of_type) → is_value_type of_type ≡ true → is_word (codes "void") (tok kinds.Word t.first) ≡ false
    → {left : List ℕ} {l : Val} → SpellsValue left l
    → ReadsAs (codes "ret " ++ (spelled ++ (32 ∷ left))) forms.Return (ty of_type ∷ value l ∷ [])
return_line of_type allow other {left} s =
    rw (← append-nil left) (second_word (codes "ret") (tok kinds.Word of_type.first) forms.Return refl refl refl (return_form of_type.first other) refl
    (type_step of_type allow refl (space (value_step s refl (drop_end drops.Attachments end)))))

switch_form : (more : List Tok) → word_form (codes "switch") more ≡ Some forms.Switch
unfolding word_form
switch_form more = refl

pub switch_line : (bits : ℕ) → IsWidth bits → {left : List ℕ} {l : Val} → SpellsValue left l → (n : List ℕ) → is_name n ≡ true
    → ReadsAs (codes "switch i" ++ (decimal bits ++ (32 ∷ (left ++ (codes ", label %" ++ (n ++ codes " [")))))) forms.Switch (width bits ∷ value l ∷ name n ∷ [])
switch_line bits narrow s n is =
    word_line (codes "switch") forms.Switch switch_form
    (word (codes "switch") refl refl refl refl (space (width_step bits narrow refl (space (value_step s refl (mark 44 refl refl refl
    (space (word (codes "label") refl refl refl refl (space (local n is refl (space (mark 91 refl refl refl end))))))))))))

case_form_is : (bits : ℕ) → IsWidth bits → (more : List Tok) → word_form (105 ∷ decimal bits) more ≡ Some forms.Case
unfolding word_form
case_form_is bits narrow more = rw (integer_says bits narrow) refl

pub case_line : (bits : ℕ) → IsWidth bits → {left : List ℕ} {l : Val} → SpellsValue left l → is_case_value l ≡ true → (n : List ℕ) → is_name n ≡ true
    → ReadsAs (105 ∷ (decimal bits ++ (32 ∷ (left ++ (codes ", label %" ++ n))))) forms.Case (width bits ∷ value l ∷ name n ∷ [])
case_line bits narrow s allow n is =
    rw (append-nil n) at (word_line (105 ∷ decimal bits) forms.Case (case_form_is bits narrow)
    (width_step bits narrow refl (space (case_step s allow refl (mark 44 refl refl refl (space (word (codes "label") refl refl refl refl (space (local n is refl end)))))))))

-- ---- steps of addresses

scalar_form : (spelled : List ℕ) → ((more : List Tok) → past_dropped (drops.Words flags.Bounds) (tok kinds.Word spelled ∷ more) ≡ None)
    → (more : List Tok) → named_form (codes "getelementptr") (tok kinds.Word spelled ∷ more) ≡ Some forms.ScalarElement
unfolding named_form
scalar_form spelled none more = rw (past_all-none (drops.Words flags.Bounds) (tok kinds.Word spelled ∷ more) (none more)) refl

element_line : {f : List Slot} {rest : List ℕ} {t : Tok} {items : List Item} (n : List ℕ) (form : Form) → is_name n ≡ true
    → ((more : List Tok) → named_form (codes "getelementptr") (t ∷ more) ≡ Some form) → ((more : List Tok) → past_dropped (drops.Words flags.Bounds) (t ∷ more) ≡ None)
    → slots form ≡ a_local ∷ blank ∷ m (codes "=") ∷ blank ∷ w (codes "getelementptr") ∷ dropped (drops.Words flags.Bounds) ∷ blank ∷ f
    → Reads f rest (Some t) items → ReadsAs (37 ∷ (n ++ (32 ∷ 61 ∷ 32 ∷ (codes "getelementptr " ++ rest)))) form (name n ∷ items)
element_line {f} {rest} {t} n form is says none shape r =
    named_second rest n (codes "getelementptr") t form is refl r.begins says shape
    (word (codes "getelementptr") refl refl refl refl (spaced (drop_at (drops.Words flags.Bounds) none (over_blank r))))

pub scalar_line : (n : List ℕ) → is_name n ≡ true → {spelled : List ℕ} {element : TypeWord} → SpellsType spelled element → is_scalar_type element ≡ true
    → (bits : ℕ) → IsWidth bits → {left right : List ℕ} {l r : Val} → SpellsValue left l → SpellsValue right r
    → ReadsAs (37 ∷ (n ++ (32 ∷ 61 ∷ 32 ∷ (codes "getelementptr " ++ (spelled ++ (codes ", ptr addrspace(1) " ++ (left ++ (codes ", i" ++ (decimal bits ++ (32 ∷ right))))))))))
    forms.ScalarElement (name n ∷ scalar element ∷ value l ∷ width bits ∷ value r ∷ [])
scalar_line n is element allow bits narrow {right = right} s t =
    rw (← append-nil right) (element_line n forms.ScalarElement is (scalar_form element.first (element.flag flags.Bounds)) (element.flag flags.Bounds) refl
    (scalar_step element allow refl (mark 44 refl refl refl (space (managed_step pointer_type refl (space (value_step s refl (mark 44 refl refl refl
    (space (width_step bits narrow refl (space (value_step t refl (drop_end drops.Attachments end)))))))))))))

layout_form : (t : List ℕ) (more : List Tok) → named_form (codes "getelementptr") (tok kinds.Local t ∷ more) ≡ Some forms.LayoutElement
unfolding named_form
layout_form t more = rw (past_all-none (drops.Words flags.Bounds) (tok kinds.Local t ∷ more) refl) refl

pub layout_line : (n : List ℕ) → is_name n ≡ true → (o : List ℕ) → is_name o ≡ true
    → (bits : ℕ) → IsWidth bits → {left right : List ℕ} {l r : Val} → SpellsValue left l → SpellsValue right r
    → ReadsAs (37 ∷ (n ++ (32 ∷ 61 ∷ 32 ∷ (codes "getelementptr %" ++ (o ++ (codes ", ptr addrspace(1) " ++ (left ++ (codes ", i" ++ (decimal bits ++ (32 ∷ right))))))))))
    forms.LayoutElement (name n ∷ layout o ∷ value l ∷ width bits ∷ value r ∷ place None ∷ [])
layout_line n is o o_is bits narrow {right = right} s t =
    rw (← append-nil right) (element_line n forms.LayoutElement is (layout_form (37 ∷ o)) (λ more. refl) refl
    (layout_step o o_is refl (mark 44 refl refl refl (space (managed_step pointer_type refl (space (value_step s refl (mark 44 refl refl refl
    (space (width_step bits narrow refl (space (value_step t refl (no_place (drop_end drops.Attachments end))))))))))))))

pub field_line : (n : List ℕ) → is_name n ≡ true → (o : List ℕ) → is_name o ≡ true
    → (bits : ℕ) → IsWidth bits → {left right : List ℕ} {l r : Val} → SpellsValue left l → SpellsValue right r → (field : ℕ) → field < 2 ^ 64
    → ReadsAs (37 ∷ (n ++ (32 ∷ 61 ∷ 32 ∷ (codes "getelementptr %" ++ (o ++ (codes ", ptr addrspace(1) " ++ (left ++ (codes ", i" ++ (decimal bits ++ (32 ∷ (right ++ (codes ", i32 " ++ decimal field))))))))))))
    forms.LayoutElement (name n ∷ layout o ∷ value l ∷ width bits ∷ value r ∷ place (Some (record { negative = false; magnitude = field })) ∷ [])
field_line n is o o_is bits narrow s t field small =
    rw (← append-nil (decimal field)) (element_line n forms.LayoutElement is (layout_form (37 ∷ o)) (λ more. refl) refl
    (layout_step o o_is refl (mark 44 refl refl refl (space (managed_step pointer_type refl (space (value_step s refl (mark 44 refl refl refl
    (space (width_step bits narrow refl (space (value_step t refl (place_step field small refl (drop_end drops.Attachments end))))))))))))))
