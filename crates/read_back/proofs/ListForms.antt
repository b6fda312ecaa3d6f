-- The lines with lists: layouts, heads, calls and phis.
use Rattle.std.specs.Prelude.{if◌then◌else◌}
use Rattle.std.proofs.Common.{◌≡◌, refl, ap, ◌∙◌, ℕ, Bool, true, false, List, [], ◌∷◌, ◌++◌, map, Option, Some, None, arith, codes, append_assoc, append-nil, length-append}
use Rattle.std.specs.List.{All}
use Rattle.sp_text.specs.Tokens.{Tok, tok, tokens, is_name}
use Rattle.sp_text.specs.declared.tokens.Kind.TheVariants as kinds
use Rattle.sp_text.proofs.TokenLemmas.{tokens-nil}
use Rattle.sp_text.proofs.Spelled.{stops, continues, tokens-spelled, tokens-blank}
use Rattle.line_parts.specs.Types.{TypeWord}
use Rattle.line_parts.specs.Types as types
use Rattle.line_forms.specs.declared.forms.Form.TheVariants as forms
use Rattle.line_tokens.specs.declared.words.Dropped.TheVariants as drops
use Rattle.line_tokens.specs.declared.words.Flags.TheVariants as flags
use Rattle.line_parts.specs.Gives.{Found, after, one_at, one_noted_at}
use Rattle.line_tokens.specs.Marks.{is_mark, begins}
use Rattle.line_parts.specs.Drops.{past_dropped}
use Rattle.line_parts.specs.Parts.{Val, is_value_type, is_answer_type, allowed_type_at, spelled_type_at, pointer_at, value_at}
use Rattle.line_parts.specs.Lists.{Named, Given, given, function, listed_at, list_to, comma, argument_at, is_argument_type, is_task_start, head_at, given_behind, passed_at, called_at, entry_at, begins_entry}
use Rattle.line_forms.specs.Forms.{slots, form_of, named_form, word_form}
use Rattle.line_forms.specs.Slots.{Item, name, layout_name, ty, fields, entries, declared, defined, called, strategy, Slot, blank, m, w, some_fields, some_entries, a_declared, a_defined, a_called, some_deopt, dropped, part, parse}
use Rattle.ir_printer.specs.Lists.{joined}
use Rattle.read_back.proofs.Steps.{Reads, Stops, IsClean, clean-both, name-clean, stops-kind, end, step_to, mark, word, layout_head, spaced, space, over_blank, drop_at, drop_end, first_of}
use Rattle.read_back.proofs.Spellings.{SpellsType, SpellsValue, allowed}
use Rattle.read_back.proofs.PartSteps.{type_step, answer_step, strategy_step, strategy_word}
use Rattle.read_back.proofs.Forms.{ReadsAs, word_line, named_line, named_by, result_tokens}
use Rattle.read_back.proofs.Listed.{SpellsElement, others, comma_spelled, listed, list_read, list_clean}
use Rattle.line_parts.proofs.Dropping.{past_all-none}

-- what follows begins with a mark
pub record EndsAtMark (rest : List ℕ) : Type 0 where
  pub stop : Stops rest
  pub spelled : List ℕ
  pub begins_so : first_of (tokens rest) ≡ Some (tok kinds.Punct spelled)

pub at_comma : (rest : List ℕ) → EndsAtMark (44 ∷ 32 ∷ rest)
at_comma rest = record { stop = refl; spelled = codes ","; begins_so = rw (comma_spelled rest) refl }

pub anywhere : (text : List ℕ) → stops (continues kinds.Punct) text ≡ true
anywhere [] = refl
anywhere (c ∷ cs) = refl

pub closing_tokens : (rest : List ℕ) → tokens (41 ∷ rest) ≡ tok kinds.Punct (codes ")") ∷ tokens rest
closing_tokens rest = tokens-spelled kinds.Punct (codes ")") rest refl (anywhere rest)

pub at_closing : (rest : List ℕ) → EndsAtMark (41 ∷ rest)
at_closing rest = record { stop = refl; spelled = codes ")"; begins_so = rw (closing_tokens rest) refl }

brace_tokens : (rest : List ℕ) → tokens (32 ∷ 125 ∷ rest) ≡ tok kinds.Punct (codes "}") ∷ tokens rest
brace_tokens rest = tokens-blank 32 (125 ∷ rest) refl ∙ tokens-spelled kinds.Punct (codes "}") rest refl (anywhere rest)

at_brace : (rest : List ℕ) → EndsAtMark (32 ∷ 125 ∷ rest)
at_brace rest = record { stop = refl; spelled = codes "}"; begins_so = rw (brace_tokens rest) refl }

pub goes_by_comma : (text : List ℕ) → comma (tokens (44 ∷ 32 ∷ text)) ≡ true
goes_by_comma text = rw (comma_spelled text) refl

-- elements in parentheses, with commas between them
module _ {A Y : Type 0} (element : List Tok → Found A) (text : Y → List ℕ) (said : Y → A) (ys : List Y) (each : All (λ y. SpellsElement element comma EndsAtMark (text y) (said y)) ys) where
  pub elements_clean : IsClean (joined (codes ", ") (map text ys))
  elements_clean = list_clean element comma EndsAtMark text said (λ y rest e ends. at_comma (text y ++ rest)) ys each

  pub to_closing : All (λ y. (rest : List ℕ) → EndsAtMark rest → begins (is_mark (codes ")")) (tokens (text y ++ rest)) ≡ false) ys → (rest : List ℕ)
      → list_to element (codes ")") (tokens (joined (codes ", ") (map text ys) ++ (41 ∷ rest))) ≡ Some (map said ys, tok kinds.Punct (codes ")") ∷ tokens rest)
  to_closing opens rest =
      list_read element (codes ")") EndsAtMark text said (λ y rest e ends. at_comma (text y ++ rest)) ys (41 ∷ rest) each opens (at_closing rest) (rw (closing_tokens rest) refl) (rw (closing_tokens rest) refl)
      ∙ ap (λ ts. Some (map said ys, ts)) (closing_tokens rest)

-- ---- fields

pub type_element : {text : List ℕ} {of_type : TypeWord} (allows : TypeWord → Bool) → SpellsType text of_type → allows of_type ≡ true → SpellsElement (allowed_type_at allows) comma EndsAtMark text of_type
type_element {text} {of_type} allows t allow = record {
  clean = t.clean;
  says = λ rest ends. rw (t.spelled rest ends.stop) (allowed text of_type t allows allow (tokens rest));
  shorter = λ rest ends. rw (t.spelled rest ends.stop) (omega (arith, length-append t.more (tokens rest)));
  goes = λ rest ends. goes_by_comma (text ++ rest);
}

pub field_element : {text : List ℕ} {of_type : TypeWord} → SpellsType text of_type → is_value_type of_type ≡ true → SpellsElement (allowed_type_at is_value_type) comma EndsAtMark text of_type
field_element t allow = type_element is_value_type t allow

fields_part : (fs : List TypeWord) (ts us : List Tok) → list_to (allowed_type_at is_value_type) (codes "}") ts ≡ Some (fs, us) → part some_fields ts ≡ Some (fields fs ∷ [], us)
unfolding part after
fields_part fs ts us e = rw e refl

type_form : (more : List Tok) → named_form (codes "type") more ≡ Some forms.Layout
unfolding named_form
type_form more = refl

-- ---- arguments

abbrev named_as : TypeWord → Option (List ℕ) × List Tok → Found Named
named_as of_type named = Some (record { ty = of_type; name = named.0 }, named.1)

named_here : (n : List ℕ) (ts : List Tok) (b : Bool) → b ≡ true
    → (let p : Option (List ℕ) × List Tok = elim (if b then Some n else None) [ None ↦ (None, tok kinds.Local (37 ∷ n) ∷ ts) | Some first ↦ (Some first, ts) ] in p) ≡ (Some n, ts)
named_here n ts true e = refl
named_here n ts false e = absurd cc

argument_says : {text : List ℕ} {of_type : TypeWord} (plain : Bool) (t : SpellsType text of_type) → is_argument_type plain of_type ≡ true → (n : List ℕ) → is_name n ≡ true → (ts : List Tok)
    → argument_at plain (tok kinds.Word t.first ∷ (t.more ++ (tok kinds.Local (37 ∷ n) ∷ ts))) ≡ Some (record { ty = of_type; name = Some n }, ts)
unfolding argument_at after
argument_says {text} {of_type} plain t allow n is ts =
    rw (allowed text of_type t (is_argument_type plain) allow (tok kinds.Local (37 ∷ n) ∷ ts)) (rw (past_all-none drops.Groups (tok kinds.Local (37 ∷ n) ∷ ts) refl) (ap (named_as of_type) (named_here n ts (is_name n) is)))

argument_spelled : {text : List ℕ} {of_type : TypeWord} (t : SpellsType text of_type) (n : List ℕ) → is_name n ≡ true → (rest : List ℕ) → Stops rest
    → tokens ((text ++ (32 ∷ 37 ∷ n)) ++ rest) ≡ tok kinds.Word t.first ∷ (t.more ++ (tok kinds.Local (37 ∷ n) ∷ tokens rest))
argument_spelled {text} t n is rest stop =
    rw (append_assoc text (32 ∷ 37 ∷ n) rest) (t.spelled (32 ∷ 37 ∷ (n ++ rest)) refl
    ∙ ap (λ ts. tok kinds.Word t.first ∷ (t.more ++ ts)) (tokens-blank 32 (37 ∷ (n ++ rest)) refl ∙ tokens-spelled kinds.Local (37 ∷ n) rest is stop))

pub argument_element : {text : List ℕ} {of_type : TypeWord} (plain : Bool) → SpellsType text of_type → is_argument_type plain of_type ≡ true → (n : List ℕ) → is_name n ≡ true
    → SpellsElement (argument_at plain) comma EndsAtMark (text ++ (32 ∷ 37 ∷ n)) (record { ty = of_type; name = Some n })
argument_element {text} {of_type} plain t allow n is = record {
  clean = clean-both text (32 ∷ 37 ∷ n) t.clean (name-clean n is);
  says = λ rest ends. rw (argument_spelled t n is rest ends.stop) (argument_says plain t allow n is (tokens rest));
  shorter = λ rest ends. rw (argument_spelled t n is rest ends.stop) (omega (arith, length-append t.more (tok kinds.Local (37 ∷ n) ∷ tokens rest)));
  goes = λ rest ends. goes_by_comma ((text ++ (32 ∷ 37 ∷ n)) ++ rest);
}

pub argument_opens : {text : List ℕ} {of_type : TypeWord} (t : SpellsType text of_type) (n : List ℕ) → is_name n ≡ true → (rest : List ℕ) → EndsAtMark rest
    → begins (is_mark (codes ")")) (tokens ((text ++ (32 ∷ 37 ∷ n)) ++ rest)) ≡ false
argument_opens t n is rest ends = rw (argument_spelled t n is rest ends.stop) refl

defined_part : (n : List ℕ) → is_name n ≡ true → (named : List Named) (ts us : List Tok) → list_to (argument_at false) (codes ")") ts ≡ Some (named, tok kinds.Punct (codes ")") ∷ us)
    → part a_defined (tok kinds.Global (64 ∷ n) ∷ tok kinds.Punct (codes "(") ∷ ts) ≡ Some (defined n named ∷ [], us)
unfolding part after head_at one_at
defined_part n is named ts us e = rw (is, e) refl

head_clean : (n body rest : List ℕ) → is_name n ≡ true → IsClean body → IsClean rest → IsClean (64 ∷ (n ++ (40 ∷ (body ++ (41 ∷ rest)))))
head_clean n body rest is inside behind = clean-both n (40 ∷ (body ++ (41 ∷ rest))) (name-clean n is) (clean-both body (41 ∷ rest) inside behind)

head_tokens : (n : List ℕ) → is_name n ≡ true → (rest : List ℕ) → tokens (64 ∷ (n ++ (40 ∷ rest))) ≡ tok kinds.Global (64 ∷ n) ∷ tok kinds.Punct (codes "(") ∷ tokens rest
head_tokens n is rest =
    tokens-spelled kinds.Global (64 ∷ n) (40 ∷ rest) is refl ∙ ap (λ ts. tok kinds.Global (64 ∷ n) ∷ ts) (tokens-spelled kinds.Punct (codes "(") rest refl (anywhere rest))

pub defined_step : {f : List Slot} {rest : List ℕ} {first : Option Tok} {items : List Item} {Y : Type 0} (n : List ℕ) → is_name n ≡ true → (text : Y → List ℕ) (said : Y → Named) (ys : List Y)
    → All (λ y. SpellsElement (argument_at false) comma EndsAtMark (text y) (said y)) ys
    → All (λ y. (rest : List ℕ) → EndsAtMark rest → begins (is_mark (codes ")")) (tokens (text y ++ rest)) ≡ false) ys
    → Reads f rest first items → Reads (a_defined ∷ f) (64 ∷ (n ++ (40 ∷ (joined (codes ", ") (map text ys) ++ (41 ∷ rest))))) (Some (tok kinds.Global (64 ∷ n))) (defined n (map said ys) ∷ items)
defined_step {rest = rest} n is text said ys each opens r =
    step_to a_defined _ (tok kinds.Global (64 ∷ n)) _ (defined n (map said ys) ∷ [])
    (head_clean n (joined (codes ", ") (map text ys)) rest is (elements_clean (argument_at false) text said ys each) r.clean) (head_tokens n is (joined (codes ", ") (map text ys) ++ (41 ∷ rest)))
    (defined_part n is (map said ys) _ (tokens rest) (to_closing (argument_at false) text said ys each opens rest)) r

define_form : (more : List Tok) → word_form (codes "define") more ≡ Some forms.Define
unfolding word_form
define_form more = refl

head_none : (spelled : List ℕ) (more : List Tok) → past_dropped drops.HeadAttachments (tok kinds.Punct spelled ∷ more) ≡ None
head_none spelled [] = refl
head_none spelled (t ∷ ts) = refl

-- `define R @name(T %a, ..) gc "statepoint-example" {`
pub define_line : {spelled : List ℕ} {answer : TypeWord} → SpellsType spelled answer → is_answer_type answer ≡ true → {Y : Type 0} (n : List ℕ) → is_name n ≡ true → (text : Y → List ℕ) (said : Y → Named) (ys : List Y)
    → All (λ y. SpellsElement (argument_at false) comma EndsAtMark (text y) (said y)) ys
    → All (λ y. (rest : List ℕ) → EndsAtMark rest → begins (is_mark (codes ")")) (tokens (text y ++ rest)) ≡ false) ys
    → ReadsAs (codes "define " ++ (spelled ++ (32 ∷ 64 ∷ (n ++ (40 ∷ (joined (codes ", ") (map text ys) ++ (41 ∷ 32 ∷ (codes "gc " ++ (strategy_word ++ codes " {")))))))))
    forms.Define (ty answer ∷ defined n (map said ys) ∷ strategy (Some (codes "statepoint-example")) ∷ [])
define_line t allow n is text said ys each opens =
    word_line (codes "define") forms.Define define_form
    (word (codes "define") refl refl refl refl (spaced (drop_at drops.Groups t.group (over_blank (answer_step t allow refl
    (space (defined_step n is text said ys each opens
    (spaced (drop_at drops.Groups (λ more. refl) (strategy_step
    (spaced (drop_at drops.HeadAttachments (head_none (codes "{")) (over_blank (mark 123 refl refl refl end))))))))))))))

-- ---- calls

value_behind : (of_type : TypeWord) → is_value_type of_type ≡ true → (ts : List Tok) → given_behind of_type ts ≡ after (value_at ts) (λ value ts. Some (given of_type value, ts))
value_behind types.Void allow ts = cc
value_behind (types.Int width) allow ts = refl
value_behind types.Plain allow ts = cc
value_behind types.Managed allow ts = refl

argument_type : (plain : Bool) (of_type : TypeWord) → is_value_type of_type ≡ true → is_argument_type plain of_type ≡ true
argument_type plain types.Void allow = allow
argument_type plain (types.Int width) allow = refl
argument_type plain types.Plain allow = cc
argument_type plain types.Managed allow = refl

passed_says : {text bytes : List ℕ} {of_type : TypeWord} {v : Val} (plain : Bool) (t : SpellsType text of_type) → is_value_type of_type ≡ true → (s : SpellsValue bytes v) (ts : List Tok)
    → passed_at plain (tok kinds.Word t.first ∷ (t.more ++ (tok s.kind bytes ∷ ts))) ≡ Some (given of_type v, ts)
unfolding passed_at after one_noted_at
passed_says {text} {bytes} {of_type} plain t allow s ts =
    rw (allowed text of_type t (is_argument_type plain) (argument_type plain of_type allow) (tok s.kind bytes ∷ ts))
    (rw (past_all-none drops.Groups (tok s.kind bytes ∷ ts) (s.group ts)) (rw (value_behind of_type allow (tok s.kind bytes ∷ ts)) (rw s.says (rw s.within refl))))

pub passed_spelled : {text bytes : List ℕ} {of_type : TypeWord} {v : Val} (t : SpellsType text of_type) (s : SpellsValue bytes v) (rest : List ℕ) → Stops rest
    → tokens ((text ++ (32 ∷ bytes)) ++ rest) ≡ tok kinds.Word t.first ∷ (t.more ++ (tok s.kind bytes ∷ tokens rest))
passed_spelled {text} {bytes} t s rest stop =
    rw (append_assoc text (32 ∷ bytes) rest) (t.spelled (32 ∷ (bytes ++ rest)) refl
    ∙ ap (λ ts. tok kinds.Word t.first ∷ (t.more ++ ts)) (tokens-blank 32 (bytes ++ rest) refl ∙ tokens-spelled s.kind bytes rest s.is (stops-kind s.kind rest stop)))

-- `T V`, of which an element is read
pub typed_element : {A : Type 0} {text bytes : List ℕ} {of_type : TypeWord} {v : Val} (element : List Tok → Found A) (t : SpellsType text of_type) (s : SpellsValue bytes v) (x : A)
    → ((ts : List Tok) → element (tok kinds.Word t.first ∷ (t.more ++ (tok s.kind bytes ∷ ts))) ≡ Some (x, ts)) → SpellsElement element comma EndsAtMark (text ++ (32 ∷ bytes)) x
typed_element {text = text} {bytes = bytes} element t s x says = record {
  clean = clean-both text (32 ∷ bytes) t.clean s.clean;
  says = λ rest ends. rw (passed_spelled t s rest ends.stop) (says (tokens rest));
  shorter = λ rest ends. rw (passed_spelled t s rest ends.stop) (omega (arith, length-append t.more (tok s.kind bytes ∷ tokens rest)));
  goes = λ rest ends. goes_by_comma ((text ++ (32 ∷ bytes)) ++ rest);
}

pub passed_element : {text bytes : List ℕ} {of_type : TypeWord} {v : Val} (plain : Bool) → SpellsType text of_type → is_value_type of_type ≡ true → SpellsValue bytes v
    → SpellsElement (passed_at plain) comma EndsAtMark (text ++ (32 ∷ bytes)) (given of_type v)
passed_element {of_type = of_type} {v = v} plain t allow s = typed_element (passed_at plain) t s (given of_type v) (passed_says plain t allow s)

pub passed_opens : {text bytes : List ℕ} {of_type : TypeWord} {v : Val} (t : SpellsType text of_type) (s : SpellsValue bytes v) (rest : List ℕ) → EndsAtMark rest
    → begins (is_mark (codes ")")) (tokens ((text ++ (32 ∷ bytes)) ++ rest)) ≡ false
passed_opens t s rest ends = rw (passed_spelled t s rest ends.stop) refl

called_part : (n : List ℕ) → is_name n ≡ true → (all : List Given) (ts us : List Tok) → list_to (passed_at (is_task_start n)) (codes ")") ts ≡ Some (all, tok kinds.Punct (codes ")") ∷ us)
    → part a_called (tok kinds.Global (64 ∷ n) ∷ tok kinds.Punct (codes "(") ∷ ts) ≡ Some (called n all ∷ [], us)
unfolding part after called_at one_at
called_part n is all ts us e = rw (is, e) refl

pub called_step : {f : List Slot} {rest : List ℕ} {first : Option Tok} {items : List Item} {Y : Type 0} (n : List ℕ) → is_name n ≡ true → (text : Y → List ℕ) (said : Y → Given) (ys : List Y)
    → All (λ y. SpellsElement (passed_at (is_task_start n)) comma EndsAtMark (text y) (said y)) ys
    → All (λ y. (rest : List ℕ) → EndsAtMark rest → begins (is_mark (codes ")")) (tokens (text y ++ rest)) ≡ false) ys
    → Reads f rest first items → Reads (a_called ∷ f) (64 ∷ (n ++ (40 ∷ (joined (codes ", ") (map text ys) ++ (41 ∷ rest))))) (Some (tok kinds.Global (64 ∷ n))) (called n (map said ys) ∷ items)
called_step {rest = rest} n is text said ys each opens r =
    step_to a_called _ (tok kinds.Global (64 ∷ n)) _ (called n (map said ys) ∷ [])
    (head_clean n (joined (codes ", ") (map text ys)) rest is (elements_clean (passed_at (is_task_start n)) text said ys each) r.clean) (head_tokens n is (joined (codes ", ") (map text ys) ++ (41 ∷ rest)))
    (called_part n is (map said ys) _ (tokens rest) (to_closing (passed_at (is_task_start n)) text said ys each opens rest)) r

value_call_form : (more : List Tok) → named_form (codes "call") more ≡ Some forms.ValueCall
unfolding named_form
value_call_form more = refl

-- behind the arguments of a call: attribute groups, and what it keeps
abbrev pub call_end : List Slot
call_end = dropped drops.Groups ∷ some_deopt ∷ dropped drops.Attachments ∷ []

-- `%x = call T @f(T V, ..)`, and what follows
pub value_call_line : (n : List ℕ) → is_name n ≡ true → {spelled : List ℕ} {answer : TypeWord} → SpellsType spelled answer → is_value_type answer ≡ true
    → {Y : Type 0} (o : List ℕ) → is_name o ≡ true → (text : Y → List ℕ) (said : Y → Given) (ys : List Y)
    → All (λ y. SpellsElement (passed_at (is_task_start o)) comma EndsAtMark (text y) (said y)) ys
    → All (λ y. (rest : List ℕ) → EndsAtMark rest → begins (is_mark (codes ")")) (tokens (text y ++ rest)) ≡ false) ys
    → {rest : List ℕ} {first : Option Tok} {items : List Item} → Reads call_end rest first items
    → ReadsAs (37 ∷ (n ++ (32 ∷ 61 ∷ 32 ∷ (codes "call " ++ (spelled ++ (32 ∷ 64 ∷ (o ++ (40 ∷ (joined (codes ", ") (map text ys) ++ (41 ∷ rest))))))))))
    forms.ValueCall (name n ∷ ty answer ∷ called o (map said ys) ∷ items)
value_call_line n is t allow o o_is text said ys each opens r =
    named_line n (codes "call") forms.ValueCall is value_call_form refl
    (drop_at (drops.Words flags.Calling) (λ more. refl) (word (codes "call") refl refl refl refl (spaced (drop_at drops.Groups t.group (over_blank (type_step t allow refl
    (space (called_step o o_is text said ys each opens r))))))))

void_call_form : (more : List Tok) → word_form (codes "call") more ≡ Some forms.VoidCall
unfolding word_form
void_call_form more = refl

-- `call void @f(T V, ..)`, and what follows
pub void_call_line : {Y : Type 0} (o : List ℕ) → is_name o ≡ true → (text : Y → List ℕ) (said : Y → Given) (ys : List Y)
    → All (λ y. SpellsElement (passed_at (is_task_start o)) comma EndsAtMark (text y) (said y)) ys
    → All (λ y. (rest : List ℕ) → EndsAtMark rest → begins (is_mark (codes ")")) (tokens (text y ++ rest)) ≡ false) ys
    → {rest : List ℕ} {first : Option Tok} {items : List Item} → Reads call_end rest first items
    → ReadsAs (codes "call void @" ++ (o ++ (40 ∷ (joined (codes ", ") (map text ys) ++ (41 ∷ rest))))) forms.VoidCall (called o (map said ys) ∷ items)
void_call_line o o_is text said ys each opens r =
    word_line (codes "call") forms.VoidCall void_call_form
    (drop_at (drops.Words flags.Calling) (λ more. refl) (word (codes "call") refl refl refl refl (spaced (drop_at drops.Groups (λ more. refl) (over_blank (word (codes "void") refl refl refl refl
    (space (called_step o o_is text said ys each opens r))))))))

-- ---- phis

entry_tokens : {bytes : List ℕ} {v : Val} (s : SpellsValue bytes v) (l : List ℕ) → is_name l ≡ true → (rest : List ℕ)
    → tokens (91 ∷ 32 ∷ (bytes ++ (44 ∷ 32 ∷ 37 ∷ (l ++ (32 ∷ 93 ∷ rest))))) ≡ tok kinds.Punct (codes "[") ∷ tok s.kind bytes ∷ tok kinds.Punct (codes ",") ∷ tok kinds.Local (37 ∷ l) ∷ tok kinds.Punct (codes "]") ∷ tokens rest
entry_tokens {bytes} s l is rest =
    tokens-spelled kinds.Punct (codes "[") (32 ∷ (bytes ++ (44 ∷ 32 ∷ 37 ∷ (l ++ (32 ∷ 93 ∷ rest))))) refl refl
    ∙ ap (λ ts. tok kinds.Punct (codes "[") ∷ ts) (tokens-blank 32 (bytes ++ (44 ∷ 32 ∷ 37 ∷ (l ++ (32 ∷ 93 ∷ rest)))) refl
    ∙ (tokens-spelled s.kind bytes (44 ∷ 32 ∷ 37 ∷ (l ++ (32 ∷ 93 ∷ rest))) s.is (stops-kind s.kind (44 ∷ 32 ∷ 37 ∷ (l ++ (32 ∷ 93 ∷ rest))) refl)
    ∙ ap (λ ts. tok s.kind bytes ∷ ts) (comma_spelled (37 ∷ (l ++ (32 ∷ 93 ∷ rest)))
    ∙ ap (λ ts. tok kinds.Punct (codes ",") ∷ ts) (tokens-spelled kinds.Local (37 ∷ l) (32 ∷ 93 ∷ rest) is refl
    ∙ ap (λ ts. tok kinds.Local (37 ∷ l) ∷ ts) (tokens-blank 32 (93 ∷ rest) refl
    ∙ tokens-spelled kinds.Punct (codes "]") rest refl (anywhere rest))))))

entry_says : {bytes : List ℕ} {v : Val} (s : SpellsValue bytes v) (l : List ℕ) → is_name l ≡ true → (ts : List Tok)
    → entry_at (tok kinds.Punct (codes "[") ∷ tok s.kind bytes ∷ tok kinds.Punct (codes ",") ∷ tok kinds.Local (37 ∷ l) ∷ tok kinds.Punct (codes "]") ∷ ts) ≡ Some ((v, l), ts)
unfolding entry_at after one_at one_noted_at
entry_says s l is ts = rw s.says (rw s.within (rw is refl))

entry_shape : (bytes l rest : List ℕ) → (91 ∷ 32 ∷ (bytes ++ (44 ∷ 32 ∷ 37 ∷ (l ++ (32 ∷ 93 ∷ []))))) ++ rest ≡ 91 ∷ 32 ∷ (bytes ++ (44 ∷ 32 ∷ 37 ∷ (l ++ (32 ∷ 93 ∷ rest))))
entry_shape bytes l rest = simp append_assoc

abbrev pub Anything : List ℕ → Type 0
Anything rest = Unit {0}

pub entry_element : {bytes : List ℕ} {v : Val} → SpellsValue bytes v → (l : List ℕ) → is_name l ≡ true
    → SpellsElement entry_at begins_entry Anything (91 ∷ 32 ∷ (bytes ++ (44 ∷ 32 ∷ 37 ∷ (l ++ (32 ∷ 93 ∷ []))))) (v, l)
entry_element {bytes} {v} s l is = record {
  clean = clean-both bytes (44 ∷ 32 ∷ 37 ∷ (l ++ (32 ∷ 93 ∷ []))) s.clean (clean-both l (32 ∷ 93 ∷ []) (name-clean l is) refl);
  says = λ rest ends. rw (entry_shape bytes l rest) (rw (entry_tokens s l is rest) (entry_says s l is (tokens rest)));
  shorter = λ rest ends. rw (entry_shape bytes l rest) (rw (entry_tokens s l is rest) (omega arith));
  goes = λ rest ends. rw (entry_shape bytes l rest) (rw (comma_spelled (91 ∷ 32 ∷ (bytes ++ (44 ∷ 32 ∷ 37 ∷ (l ++ (32 ∷ 93 ∷ rest)))))) (rw (entry_tokens s l is rest) refl));
}

entries_part : (es : List (Val × List ℕ)) (ts us : List Tok) → listed_at entry_at begins_entry ts ≡ Some (es, us) → part some_entries ts ≡ Some (entries es ∷ [], us)
unfolding part after
entries_part es ts us e = rw e refl

phi_form : (more : List Tok) → named_form (codes "phi") more ≡ Some forms.Phi
unfolding named_form
phi_form more = refl

-- a slot whose first token isn't told
pub step_any : {f : List Slot} {text : List ℕ} {first : Option Tok} {items : List Item} (s : Slot) (all : List ℕ) (here : List Item) → IsClean all
    → part s (tokens all) ≡ Some (here, tokens text) → Reads f text first items → Reads (s ∷ f) all (first_of (tokens all)) (here ++ items)
unfolding parse after
step_any {f} {text} {first} {items} s all here clean p r = record { whole = rw p (rw r.whole refl); begins = refl; clean = clean }

phi_lines : {Y : Type 0} (text : Y → List ℕ) (said : Y → Val × List ℕ) (y : Y) (ys : List Y) → All (λ y. SpellsElement entry_at begins_entry Anything (text y) (said y)) (y ∷ ys)
    → listed_at entry_at begins_entry (tokens (text y ++ others text ys)) ≡ Some (map said (y ∷ ys), tokens [])
phi_lines text said y ys each =
    rw (append-nil (text y ++ others text ys)) at (listed entry_at begins_entry Anything text said (λ y rest e ends. tt) y ys [] each tt (rw tokens-nil refl))

-- `%x = phi T [ V, %l ], ..`
pub phi_line : (n : List ℕ) → is_name n ≡ true → {spelled : List ℕ} {of_type : TypeWord} → SpellsType spelled of_type → is_value_type of_type ≡ true
    → {Y : Type 0} (text : Y → List ℕ) (said : Y → Val × List ℕ) (y : Y) (ys : List Y) → All (λ y. SpellsElement entry_at begins_entry Anything (text y) (said y)) (y ∷ ys)
    → ReadsAs (37 ∷ (n ++ (32 ∷ 61 ∷ 32 ∷ (codes "phi " ++ (spelled ++ (32 ∷ joined (codes ", ") (map text (y ∷ ys))))))))
    forms.Phi (name n ∷ ty of_type ∷ entries (map said (y ∷ ys)) ∷ [])
phi_line n is t allow text said y ys each =
    named_line n (codes "phi") forms.Phi is phi_form refl
    (word (codes "phi") refl refl refl refl (space (type_step t allow refl
    (space (step_any some_entries (text y ++ others text ys) (entries (map said (y ∷ ys)) ∷ []) (list_clean entry_at begins_entry Anything text said (λ y rest e ends. tt) (y ∷ ys) each)
    (entries_part (map said (y ∷ ys)) _ _ (phi_lines text said y ys each)) (drop_end drops.Attachments end))))))

-- `%T = type { F, F, .. }`
pub layout_line : {Y : Type 0} (n : List ℕ) → is_name n ≡ true → (text : Y → List ℕ) (said : Y → TypeWord) (ys : List Y)
    → All (λ y. SpellsElement (allowed_type_at is_value_type) comma EndsAtMark (text y) (said y)) ys
    → All (λ y. (rest : List ℕ) → EndsAtMark rest → begins (is_mark (codes "}")) (tokens (text y ++ rest)) ≡ false) ys
    → ReadsAs (37 ∷ (n ++ (codes " = type { " ++ (joined (codes ", ") (map text ys) ++ codes " }")))) forms.Layout (layout_name n ∷ fields (map said ys) ∷ [])
layout_line {Y} n is text said ys each opens = record { form_is = form_is; whole = all.whole; clean = all.clean }
  where
    body : List ℕ
    body = joined (codes ", ") (map text ys) ++ codes " }"

    found : list_to (allowed_type_at is_value_type) (codes "}") (tokens body) ≡ Some (map said ys, tokens (codes " }"))
    found = list_read (allowed_type_at is_value_type) (codes "}") EndsAtMark text said (λ y rest e ends. at_comma (text y ++ rest)) ys (codes " }") each opens (at_brace []) (rw (brace_tokens []) refl) (rw (brace_tokens []) refl)

    inner : Reads (w (codes "type") ∷ blank ∷ m (codes "{") ∷ blank ∷ some_fields ∷ blank ∷ m (codes "}") ∷ []) (codes "type { " ++ body) (Some (tok kinds.Word (codes "type"))) (fields (map said ys) ∷ [])
    inner = word (codes "type") refl refl refl refl (space (mark 123 refl refl refl (space (step_any some_fields body (fields (map said ys) ∷ [])
        (clean-both (joined (codes ", ") (map text ys)) (codes " }") (list_clean (allowed_type_at is_value_type) comma EndsAtMark text said (λ y rest e ends. at_comma (text y ++ rest)) ys each) refl)
        (fields_part (map said ys) (tokens body) (tokens (codes " }")) found) (space (mark 125 refl refl refl end))))))

    all : Reads (slots forms.Layout) (37 ∷ (n ++ (32 ∷ 61 ∷ 32 ∷ (codes "type { " ++ body)))) (Some (tok kinds.Local (37 ∷ n))) (layout_name n ∷ fields (map said ys) ∷ [])
    all = layout_head n is refl (space (mark 61 refl refl refl (space inner)))

    form_is : form_of (tokens (37 ∷ (n ++ (32 ∷ 61 ∷ 32 ∷ (codes "type { " ++ body))))) ≡ Some forms.Layout
    form_is = rw (result_tokens n (codes "type { " ++ body) is) (named_by n (codes "type") (tokens (codes "type { " ++ body)) forms.Layout inner.begins type_form)

-- ---- declarations, whose parameters have no names

parameter_says : {text : List ℕ} {of_type : TypeWord} (plain : Bool) (t : SpellsType text of_type) → is_argument_type plain of_type ≡ true → (ts : List Tok) (spelled : List ℕ) → first_of ts ≡ Some (tok kinds.Punct spelled)
    → argument_at plain (tok kinds.Word t.first ∷ (t.more ++ ts)) ≡ Some (record { ty = of_type; name = None }, ts)
unfolding argument_at after
parameter_says plain t allow [] spelled first = cc
parameter_says {text} {of_type} plain t allow (u ∷ us) spelled first =
    let same : u ≡ tok kinds.Punct spelled = cc in
    rw same (rw (allowed text of_type t (is_argument_type plain) allow (tok kinds.Punct spelled ∷ us)) (rw (past_all-none drops.Groups (tok kinds.Punct spelled ∷ us) refl) refl))

pub parameter_element : {text : List ℕ} {of_type : TypeWord} (plain : Bool) → SpellsType text of_type → is_argument_type plain of_type ≡ true
    → SpellsElement (argument_at plain) comma EndsAtMark text (record { ty = of_type; name = None })
parameter_element {text} plain t allow = record {
  clean = t.clean;
  says = λ rest ends. rw (t.spelled rest ends.stop) (parameter_says plain t allow (tokens rest) ends.spelled ends.begins_so);
  shorter = λ rest ends. rw (t.spelled rest ends.stop) (omega (arith, length-append t.more (tokens rest)));
  goes = λ rest ends. goes_by_comma (text ++ rest);
}

pub type_opens : {text : List ℕ} {of_type : TypeWord} (t : SpellsType text of_type) (closing : List ℕ) (rest : List ℕ) → EndsAtMark rest → begins (is_mark closing) (tokens (text ++ rest)) ≡ false
type_opens t closing rest ends = rw (t.spelled rest ends.stop) refl

pub plain_spelled : (rest : List ℕ) → Stops rest → tokens (codes "ptr" ++ rest) ≡ tok kinds.Word (codes "ptr") ∷ tokens rest
plain_spelled rest stop = tokens-spelled kinds.Word (codes "ptr") rest refl (stops-kind kinds.Word rest stop)

plain_says : (ts : List Tok) (spelled : List ℕ) → first_of ts ≡ Some (tok kinds.Punct spelled)
    → argument_at true (tok kinds.Word (codes "ptr") ∷ ts) ≡ Some (record { ty = types.Plain; name = None }, ts)
unfolding argument_at after allowed_type_at spelled_type_at pointer_at
plain_says [] spelled first = cc
plain_says (u ∷ us) spelled first =
    let same : u ≡ tok kinds.Punct spelled = cc in
    rw same (rw (past_all-none drops.Groups (tok kinds.Punct spelled ∷ us) refl) refl)

pub plain_element : SpellsElement (argument_at true) comma EndsAtMark (codes "ptr") (record { ty = types.Plain; name = None })
plain_element = record {
  clean = refl;
  says = λ rest ends. rw (plain_spelled rest ends.stop) (plain_says (tokens rest) ends.spelled ends.begins_so);
  shorter = λ rest ends. rw (plain_spelled rest ends.stop) (omega arith);
  goes = λ rest ends. goes_by_comma (codes "ptr" ++ rest);
}

pub plain_opens : (rest : List ℕ) → EndsAtMark rest → begins (is_mark (codes ")")) (tokens (codes "ptr" ++ rest)) ≡ false
plain_opens rest ends = rw (plain_spelled rest ends.stop) refl

declared_part : (n : List ℕ) → is_name n ≡ true → (named : List Named) (ts us : List Tok) → list_to (argument_at (is_task_start n)) (codes ")") ts ≡ Some (named, tok kinds.Punct (codes ")") ∷ us)
    → part a_declared (tok kinds.Global (64 ∷ n) ∷ tok kinds.Punct (codes "(") ∷ ts) ≡ Some (declared n named ∷ [], us)
unfolding part after head_at one_at
declared_part n is named ts us e = rw (is, e) refl

pub declared_step : {f : List Slot} {rest : List ℕ} {first : Option Tok} {items : List Item} {Y : Type 0} (n : List ℕ) → is_name n ≡ true → (text : Y → List ℕ) (said : Y → Named) (ys : List Y)
    → All (λ y. SpellsElement (argument_at (is_task_start n)) comma EndsAtMark (text y) (said y)) ys
    → All (λ y. (rest : List ℕ) → EndsAtMark rest → begins (is_mark (codes ")")) (tokens (text y ++ rest)) ≡ false) ys
    → Reads f rest first items → Reads (a_declared ∷ f) (64 ∷ (n ++ (40 ∷ (joined (codes ", ") (map text ys) ++ (41 ∷ rest))))) (Some (tok kinds.Global (64 ∷ n))) (declared n (map said ys) ∷ items)
declared_step {rest = rest} n is text said ys each opens r =
    step_to a_declared _ (tok kinds.Global (64 ∷ n)) _ (declared n (map said ys) ∷ [])
    (head_clean n (joined (codes ", ") (map text ys)) rest is (elements_clean (argument_at (is_task_start n)) text said ys each) r.clean) (head_tokens n is (joined (codes ", ") (map text ys) ++ (41 ∷ rest)))
    (declared_part n is (map said ys) _ (tokens rest) (to_closing (argument_at (is_task_start n)) text said ys each opens rest)) r

declare_form : (more : List Tok) → word_form (codes "declare") more ≡ Some forms.Declare
unfolding word_form
declare_form more = refl

pub word_none : (spelled : List ℕ) (more : List Tok) → past_dropped drops.HeadAttachments (tok kinds.Word spelled ∷ more) ≡ None
word_none spelled [] = refl
word_none spelled (t ∷ ts) = refl

-- `declare R @name(T, ..)`
pub declare_line : {spelled : List ℕ} {answer : TypeWord} → SpellsType spelled answer → is_answer_type answer ≡ true → {Y : Type 0} (n : List ℕ) → is_name n ≡ true → (text : Y → List ℕ) (said : Y → Named) (ys : List Y)
    → All (λ y. SpellsElement (argument_at (is_task_start n)) comma EndsAtMark (text y) (said y)) ys
    → All (λ y. (rest : List ℕ) → EndsAtMark rest → begins (is_mark (codes ")")) (tokens (text y ++ rest)) ≡ false) ys
    → ReadsAs (codes "declare " ++ (spelled ++ (32 ∷ 64 ∷ (n ++ (40 ∷ (joined (codes ", ") (map text ys) ++ codes ")")))))) forms.Declare (ty answer ∷ declared n (map said ys) ∷ [])
declare_line t allow n is text said ys each opens =
    word_line (codes "declare") forms.Declare declare_form
    (word (codes "declare") refl refl refl refl (spaced (drop_at drops.HeadAttachments (word_none t.first) (drop_at drops.Groups t.group (over_blank (answer_step t allow refl
    (space (declared_step n is text said ys each opens (drop_end drops.Groups end)))))))))

-- ---- the function that `task_start` takes

function_spelled : (f : List ℕ) → is_name f ≡ true → (rest : List ℕ) → Stops rest → tokens ((codes "ptr @" ++ f) ++ rest) ≡ tok kinds.Word (codes "ptr") ∷ tok kinds.Global (64 ∷ f) ∷ tokens rest
function_spelled f is rest stop =
    tokens-spelled kinds.Word (codes "ptr") (32 ∷ 64 ∷ (f ++ rest)) refl refl
    ∙ ap (λ ts. tok kinds.Word (codes "ptr") ∷ ts) (tokens-blank 32 (64 ∷ (f ++ rest)) refl ∙ tokens-spelled kinds.Global (64 ∷ f) rest is stop)

function_says : (f : List ℕ) → is_name f ≡ true → (ts : List Tok) → passed_at true (tok kinds.Word (codes "ptr") ∷ tok kinds.Global (64 ∷ f) ∷ ts) ≡ Some (function f, ts)
unfolding passed_at after allowed_type_at spelled_type_at pointer_at one_at
function_says f is ts = rw (past_all-none drops.Groups (tok kinds.Global (64 ∷ f) ∷ ts) refl, is) refl

pub function_element : (f : List ℕ) → is_name f ≡ true → SpellsElement (passed_at true) comma EndsAtMark (codes "ptr @" ++ f) (function f)
function_element f is = record {
  clean = clean-both (codes "ptr @") f refl (name-clean f is);
  says = λ rest ends. rw (function_spelled f is rest ends.stop) (function_says f is (tokens rest));
  shorter = λ rest ends. rw (function_spelled f is rest ends.stop) (omega arith);
  goes = λ rest ends. goes_by_comma ((codes "ptr @" ++ f) ++ rest);
}

pub function_opens : (f : List ℕ) → is_name f ≡ true → (rest : List ℕ) → EndsAtMark rest → begins (is_mark (codes ")")) (tokens ((codes "ptr @" ++ f) ++ rest)) ≡ false
function_opens f is rest ends = rw (function_spelled f is rest ends.stop) refl
