-- Which lines of the table are lines of a text in a form: in the rewritten form the function that a line calls or
-- declares tells whether it is a line of a statepoint group.
use Rattle.std.proofs.Common.{◌≡◌, ℕ, Bool, true, false, cond, ◌&&◌, ◌||◌, eqb, List, [], ◌∷◌, ◌++◌, Option, Some, None, refl, sym, ap, ◌∙◌}
use Rattle.std.specs.Prelude.{codes, not, drop}
use Rattle.std.specs.List.{list_all, list_any}
use Rattle.std.specs.Str.{bytes_eq}
use Rattle.std.proofs.lemmas.Bool.{true≢false, eqb-true, not-true, and_parts, or_parts, or_right}
use Rattle.std.proofs.lemmas.List.Folds.{list_any-append}
use Rattle.std.proofs.lemmas.Slice.Eq.{bytes_eq-Decides}
use Rattle.sp_text.specs.Tokens.{Tok, tok, bad, over, note, is_numeral, are_digits, is_nothing}
use Rattle.sp_text.specs.declared.tokens.Kind.TheVariants as kinds
use Rattle.ir_ast.specs.declared.modules.Form.{Form as TextForm}
use Rattle.ir_ast.specs.declared.modules.Form.TheVariants as text_forms
use Rattle.line_tokens.specs.declared.words.Dropped.{Dropped}
use Rattle.line_tokens.specs.declared.words.Dropped.TheVariants as drops
use Rattle.line_tokens.specs.declared.words.Flags.TheVariants as flags
use Rattle.line_parts.specs.Types.{TypeWord}
use Rattle.line_parts.specs.Types as types
use Rattle.line_forms.specs.declared.forms.DroppedLine.TheVariants as drop_lines
use Rattle.line_forms.specs.declared.forms.Form.{Form}
use Rattle.line_forms.specs.declared.forms.Form.TheVariants as forms
use Rattle.line_parts.specs.Gives.{Found, after, one_at, with_rest, noted}
use Rattle.line_tokens.specs.Marks.{is_word, is_quoted, is_hash, global_of, is_this, is_global, stands, begins}
use Rattle.line_tokens.specs.Numbers.{width_of, width_passes, width_within, decimal}
use Rattle.line_parts.specs.Drops.{past, past_all}
use Rattle.line_tokens.specs.Families.{statepoint_name, relocate_name, result_front, result_suffix, is_suffix, is_result_name, is_family_name, is_result_of, ends_in}
use Rattle.line_parts.specs.Parts.{word_at, mark_at, local_at, global_at, width_at, value_at, case_value_at, addrspace_at, pointer_at, spelled_type_at, type_behind, allowed_type_at, is_value_type, is_answer_type, is_cast_type, is_scalar_type, is_managed, place_at, strategy_at, to_brace_at}
use Rattle.line_tokens.specs.Words.{pred_of}
use Rattle.line_parts.specs.Lists.{Named, Given, fields_at, entries_at, head_at, called_at, arguments_at, all_passed_at, is_task_start}
use Rattle.line_parts.specs.Bundles.{deopt_at, bundles_at}
use Rattle.line_parts.specs.Groups.{number_at, zero_at, token_at, types_at, handed_at, closing_at, result_at, named_result, suffix_of, is_family, declares_family, family_answer_at, bracketing_at}
use Rattle.line_forms.specs.Slots.{Slot, Item, says, says_nothing, part, parse, blank, m, w, g, dropped, a_managed, a_quoted, a_hash, to_brace, a_local, a_layout_name, a_width, a_type, an_answer, a_cast_type, a_value, a_case, a_pred, a_scalar, a_layout, a_place, some_fields, some_entries, a_declared, a_defined, a_called, a_strategy, a_zero, a_closing, a_family_answer, a_family, a_bracketing, a_token, a_global, some_types, some_handed, some_deopt, some_bundles, a_result, a_number, name, layout_name, width, ty, value, pred, scalar, layout, place, fields, entries, declared, defined, called, strategy, types as types_said, handed, deopt, bundles, literal, family_answer}
use Rattle.line_forms.specs.Forms.{slots, agree, fit, or_else, first_types, last_types, form_of, first_global, callee_of, declared_of, behind_result, called_form, declared_form, group_form, form_in, is_group_form, names_family, stands_in}
use Rattle.line_forms.proofs.Openings.{told, rest_is, said_is, word_found, mark_found, local_found, like, opens, found_is}
use Rattle.sp_text.proofs.Spelled.{numeral_digits}

-- ---- a part, and what follows it

after_some : {A B : Type 0} (found : Found A) (next : A → List Tok → Found B) (y : B × List Tok) → after found next ≡ Some y → (x : A × List Tok) × (found ≡ Some x) × (next x.0 x.1 ≡ Some y)
unfolding after
after_some None next y e = absurd cc
after_some (Some x) next y e = (x, refl, e)

-- the first slot of a form that fits, and the others
record Split (s : Slot) (f : List Slot) (ts : List Tok) (said : List Item) (end : List Tok) : Type 0 where
  here : List Item
  rest : List Tok
  more : List Item
  part_is : part s ts ≡ Some (here, rest)
  parse_is : parse f rest ≡ Some (more, end)
  said_all : said ≡ here ++ more

split : (s : Slot) (f : List Slot) (ts : List Tok) (said : List Item) (end : List Tok) → parse (s ∷ f) ts ≡ Some (said, end) → Split s f ts said end
unfolding parse
split s f ts said end e =
    let a = after_some (part s ts) (λ here rest. after (parse f rest) (λ items end. Some (here ++ items, end))) (said, end) e in
    let b = after_some (parse f a.0.1) (λ items end. Some (a.0.0 ++ items, end)) (said, end) a.2 in
    let same_end : b.0.1 ≡ end = rest_is (a.0.0 ++ b.0.0, b.0.1) (said, end) b.2 in
    record {
      here = a.0.0;
      rest = a.0.1;
      more = b.0.0;
      part_is = a.1;
      parse_is = b.1 ∙ ap (λ (t : List Tok). told (b.0.0, t)) same_end;
      said_all = sym (said_is (a.0.0 ++ b.0.0, b.0.1) (said, end) b.2);
    }

-- ---- what is said names no family, but by a call or a declaration

abbrev Names : List Item → Bool
Names said = list_any names_family said

split_names : (s : Slot) (f : List Slot) (ts : List Tok) (said : List Item) (end : List Tok) (p : Split s f ts said end) → Names said ≡ (Names p.here || Names p.more)
split_names s f ts said end p = ap (λ (is : List Item). Names is) p.said_all ∙ list_any-append names_family p.here p.more

none_unnamed : (x : List Item × List Tok) (here : List Item) (rest : List Tok) → Names x.0 ≡ false → told x ≡ Some (here, rest) → Names here ≡ false
none_unnamed x here rest none e = rw (← said_is x (here, rest) e) none

nothing_unnamed : {A : Type 0} (found : Found A) (here : List Item) (rest : List Tok) → says_nothing found ≡ Some (here, rest) → Names here ≡ false
unfolding after
nothing_unnamed None here rest e = absurd cc
nothing_unnamed (Some x) here rest e = none_unnamed ([], x.1) here rest refl e

or_false : (b : Bool) → b ≡ false → (b || false) ≡ false
or_false b e = rw e refl

says_unnamed : {A : Type 0} (item : A → Item) (found : Found A) → ((x : A) → names_family (item x) ≡ false) → (here : List Item) (rest : List Tok) → says item found ≡ Some (here, rest) → Names here ≡ false
unfolding after
says_unnamed item None none here rest e = absurd cc
says_unnamed item (Some x) none here rest e = none_unnamed (item x.0 ∷ [], x.1) here rest (or_false (names_family (item x.0)) (none x.0)) e

abbrev names_slot : Slot → Bool
names_slot a_declared = true
names_slot a_called = true
names_slot _ = false

unnamed_part : (s : Slot) (ts : List Tok) (here : List Item) (rest : List Tok) → names_slot s ≡ false → part s ts ≡ Some (here, rest) → Names here ≡ false
unfolding part
unnamed_part blank ts here rest names e = none_unnamed ([], ts) here rest refl e
unnamed_part (m text) ts here rest names e = nothing_unnamed (mark_at text ts) here rest e
unnamed_part (w text) ts here rest names e = nothing_unnamed (word_at text ts) here rest e
unnamed_part (dropped what) ts here rest names e = none_unnamed ([], past_all what ts) here rest refl e
unnamed_part a_managed ts here rest names e = nothing_unnamed (allowed_type_at is_managed ts) here rest e
unnamed_part a_quoted ts here rest names e = nothing_unnamed (one_at (stands is_quoted) ts) here rest e
unnamed_part a_hash ts here rest names e = nothing_unnamed (one_at (stands is_hash) ts) here rest e
unnamed_part to_brace ts here rest names e = nothing_unnamed (to_brace_at ts) here rest e
unnamed_part (g text) ts here rest names e = nothing_unnamed (one_at (stands (is_global text)) ts) here rest e
unnamed_part a_zero ts here rest names e = nothing_unnamed (zero_at ts) here rest e
unnamed_part a_closing ts here rest names e = nothing_unnamed (closing_at ts) here rest e
unnamed_part a_family_answer ts here rest names e = says_unnamed family_answer (family_answer_at ts) (λ x. refl) here rest e
unnamed_part a_family ts here rest names e = nothing_unnamed (one_at (stands declares_family) ts) here rest e
unnamed_part a_bracketing ts here rest names e = nothing_unnamed (bracketing_at ts) here rest e
unnamed_part a_local ts here rest names e = says_unnamed name (local_at ts) (λ x. refl) here rest e
unnamed_part a_layout_name ts here rest names e = says_unnamed layout_name (local_at ts) (λ x. refl) here rest e
unnamed_part a_width ts here rest names e = says_unnamed width (width_at ts) (λ x. refl) here rest e
unnamed_part a_type ts here rest names e = says_unnamed ty (allowed_type_at is_value_type ts) (λ x. refl) here rest e
unnamed_part an_answer ts here rest names e = says_unnamed ty (allowed_type_at is_answer_type ts) (λ x. refl) here rest e
unnamed_part a_cast_type ts here rest names e = says_unnamed ty (allowed_type_at is_cast_type ts) (λ x. refl) here rest e
unnamed_part a_value ts here rest names e = says_unnamed value (value_at ts) (λ x. refl) here rest e
unnamed_part a_case ts here rest names e = says_unnamed value (case_value_at ts) (λ x. refl) here rest e
unnamed_part a_pred ts here rest names e = says_unnamed pred (one_at pred_of ts) (λ x. refl) here rest e
unnamed_part a_scalar ts here rest names e = says_unnamed scalar (allowed_type_at is_scalar_type ts) (λ x. refl) here rest e
unnamed_part a_layout ts here rest names e = says_unnamed layout (local_at ts) (λ x. refl) here rest e
unnamed_part a_place ts here rest names e = says_unnamed place (place_at ts) (λ x. refl) here rest e
unnamed_part some_fields ts here rest names e = says_unnamed fields (fields_at ts) (λ x. refl) here rest e
unnamed_part some_entries ts here rest names e = says_unnamed entries (entries_at ts) (λ x. refl) here rest e
unnamed_part a_declared ts here rest names e = absurd (true≢false names)
unnamed_part a_defined ts here rest names e = says_unnamed (λ head. defined head.0 head.1) (head_at false ts) (λ x. refl) here rest e
unnamed_part a_called ts here rest names e = absurd (true≢false names)
unnamed_part a_strategy ts here rest names e = says_unnamed strategy (strategy_at ts) (λ x. refl) here rest e
unnamed_part a_token ts here rest names e = says_unnamed name (token_at ts) (λ x. refl) here rest e
unnamed_part a_global ts here rest names e = says_unnamed name (global_at ts) (λ x. refl) here rest e
unnamed_part some_types ts here rest names e = says_unnamed types_said (types_at ts) (λ x. refl) here rest e
unnamed_part some_handed ts here rest names e = says_unnamed handed (handed_at ts) (λ x. refl) here rest e
unnamed_part some_deopt ts here rest names e = says_unnamed deopt (deopt_at ts) (λ x. refl) here rest e
unnamed_part some_bundles ts here rest names e = says_unnamed (λ both. bundles both.0 both.1) (bundles_at ts) (λ x. refl) here rest e
unnamed_part a_result ts here rest names e = says_unnamed ty (result_at ts) (λ x. refl) here rest e
unnamed_part (a_number of_type) ts here rest names e = says_unnamed literal (number_at of_type ts) (λ x. refl) here rest e

unnamed : (f : List Slot) (ts : List Tok) (said : List Item) (end : List Tok) → list_any names_slot f ≡ false → parse f ts ≡ Some (said, end) → Names said ≡ false
unfolding parse
unnamed [] ts said end names e = none_unnamed ([], ts) said end refl e
unnamed (s ∷ f) ts said end names e =
    let p = split s f ts said end e in
    let n = or_parts (names_slot s) (list_any names_slot f) names in
    rw (split_names s f ts said end p, unnamed_part s ts p.here p.rest n.0 p.part_is, unnamed f p.rest p.more end n.1 p.parse_is) refl

-- what a slot that names no family leaves
past_slot : (s : Slot) (f : List Slot) (ts : List Tok) (said : List Item) (end : List Tok) (p : Split s f ts said end) → names_slot s ≡ false → Names said ≡ Names p.more
past_slot s f ts said end p names = rw (split_names s f ts said end p, unnamed_part s ts p.here p.rest names p.part_is) refl

-- ---- the first function that is named

-- what was passed names none
abbrev Keeps : {A : Type 0} → List Tok → Found A → Type 0
Keeps ts None = Unit {0}
Keeps ts (Some x) = first_global ts ≡ first_global x.1

keeps_is : {A : Type 0} (ts : List Tok) (found : Found A) (x : A) (rest : List Tok) → Keeps ts found → found ≡ Some (x, rest) → first_global ts ≡ first_global rest
keeps_is ts None x rest k e = absurd cc
keeps_is ts (Some y) x rest k e = let same : y.1 ≡ rest = cc in rw (← same) k

after-keeps : {A B : Type 0} (ts : List Tok) (found : Found A) (next : A → List Tok → Found B) → Keeps ts found → ((x : A) (rest : List Tok) → first_global ts ≡ first_global rest → Keeps ts (next x rest)) → Keeps ts (after found next)
unfolding after
after-keeps ts None next k more = tt
after-keeps ts (Some x) next k more = more x.0 x.1 k

choose-keeps : {A : Type 0} (ts : List Tok) (b : Bool) (x y : Found A) → Keeps ts x → Keeps ts y → Keeps ts (cond b x y)
choose-keeps ts true x y p q = p
choose-keeps ts false x y p q = q

with_rest-keeps : {A : Type 0} (ts rest : List Tok) (said : Option A) → first_global ts ≡ first_global rest → Keeps ts (with_rest rest said)
with_rest-keeps ts rest None e = tt
with_rest-keeps ts rest (Some x) e = e

-- one token that is none of a function
one-keeps : {A : Type 0} (ts : List Tok) (says : Tok → Option A) (rest : List Tok) → ((bytes : List ℕ) → says (tok kinds.Global bytes) ≡ None) → first_global ts ≡ first_global rest → Keeps ts (one_at says rest)
unfolding one_at first_global
one-keeps ts says [] none e = tt
one-keeps ts says (over ∷ rest) none e = tt
one-keeps ts says (tok kinds.Global bytes ∷ rest) none e = rw none tt
one-keeps ts says (t ∷ rest) none e = with_rest-keeps ts rest (says t) e

addrspace-keeps : (ts rest : List Tok) → first_global ts ≡ first_global rest → Keeps ts (addrspace_at rest)
unfolding addrspace_at
addrspace-keeps ts rest e =
    after-keeps ts _ _ (one-keeps ts _ rest (λ bytes. refl) e) (λ _ r1 e1. after-keeps ts _ _ (one-keeps ts _ r1 (λ bytes. refl) e1) (λ _ r2 e2.
    after-keeps ts _ _ (one-keeps ts _ r2 (λ bytes. refl) e2) (λ _ r3 e3. one-keeps ts _ r3 (λ bytes. refl) e3)))

pointer-keeps : (ts rest : List Tok) → first_global ts ≡ first_global rest → Keeps ts (pointer_at rest)
unfolding pointer_at
pointer-keeps ts rest e = choose-keeps ts (begins (is_word (codes "addrspace")) rest) _ _ (after-keeps ts _ _ (addrspace-keeps ts rest e) (λ _ r k. k)) e

-- a note names none
note-first : (ts : List Tok) → first_global (note ts) ≡ first_global ts
unfolding note first_global
note-first [] = refl
note-first (over ∷ ts) = refl
note-first (bad ∷ ts) = refl
note-first (tok kind bytes ∷ ts) = ap (or_else (global_of (tok kind bytes))) (note-first ts)

noted-first : (passes : Bool) (ts : List Tok) → first_global (noted passes ts) ≡ first_global ts
noted-first true ts = note-first ts
noted-first false ts = refl

word_type-keeps : (ts rest : List Tok) (bytes : List ℕ) (bits : Option ℕ) → first_global ts ≡ first_global rest → Keeps ts (type_behind (tok kinds.Word bytes) rest bits)
word_type-keeps ts rest bytes (Some bits) e = e ∙ sym (noted-first (width_passes (tok kinds.Word bytes)) rest)
word_type-keeps ts rest bytes None e = choose-keeps ts (bytes_eq bytes (codes "void")) _ _ e (choose-keeps ts (bytes_eq bytes (codes "ptr")) _ _ (pointer-keeps ts rest e) tt)

spelled-keeps : (ts : List Tok) → Keeps ts (spelled_type_at ts)
unfolding spelled_type_at first_global
spelled-keeps [] = tt
spelled-keeps (tok kinds.Word bytes ∷ rest) = word_type-keeps (tok kinds.Word bytes ∷ rest) rest bytes (width_of (tok kinds.Word bytes)) refl
spelled-keeps (t ∷ rest) = tt

allowed-keeps : (allows : TypeWord → Bool) (ts : List Tok) → Keeps ts (allowed_type_at allows ts)
unfolding allowed_type_at
allowed-keeps allows ts = after-keeps ts _ _ (spelled-keeps ts) (λ ty rest e. choose-keeps ts (allows ty) _ _ e tt)

word-keeps : (ts rest : List Tok) (text : List ℕ) → first_global ts ≡ first_global rest → Keeps ts (word_at text rest)
word-keeps ts rest text e = one-keeps ts _ rest (λ bytes. refl) e

mark-keeps : (ts rest : List Tok) (text : List ℕ) → first_global ts ≡ first_global rest → Keeps ts (mark_at text rest)
mark-keeps ts rest text e = one-keeps ts _ rest (λ bytes. refl) e

family_answer-keeps : (ts : List Tok) → Keeps ts (family_answer_at ts)
unfolding family_answer_at
family_answer-keeps ts = choose-keeps ts (begins (is_word (codes "token")) ts) _ _ (after-keeps ts _ _ (word-keeps ts ts (codes "token") refl) (λ _ r k. k)) (after-keeps ts _ _ (allowed-keeps is_answer_type ts) (λ _ r k. k))

-- ---- parts that say nothing or one thing

nothing_is : {A : Type 0} (found : Found A) (here : List Item) (rest : List Tok) → says_nothing found ≡ Some (here, rest) → (x : A) × (found ≡ Some (x, rest))
nothing_is {A = A} found here rest e =
    let a = after_some found (λ (x : A) rest. Some ([], rest)) (here, rest) e in
    (a.0.0, a.1 ∙ ap (λ (r : List Tok). told (a.0.0, r)) (rest_is ([], a.0.1) (here, rest) a.2))

-- what is said, and the tokens behind
record Says {A : Type 0} (item : A → Item) (found : Found A) (here : List Item) (rest : List Tok) : Type 0 where
  thing : A
  found_is : found ≡ Some (thing, rest)
  here_is : here ≡ item thing ∷ []

says_is : {A : Type 0} (item : A → Item) (found : Found A) (here : List Item) (rest : List Tok) → says item found ≡ Some (here, rest) → Says item found here rest
says_is {A = A} item found here rest e =
    let a = after_some found (λ (x : A) rest. Some (item x ∷ [], rest)) (here, rest) e in
    record {
      thing = a.0.0;
      found_is = a.1 ∙ ap (λ (r : List Tok). told (a.0.0, r)) (rest_is (item a.0.0 ∷ [], a.0.1) (here, rest) a.2);
      here_is = sym (said_is (item a.0.0 ∷ [], a.0.1) (here, rest) a.2);
    }

-- a function's token
first_named : (o more : Option (List ℕ)) (ts : List Tok) (found : List ℕ) (rest : List Tok) → with_rest ts o ≡ Some (found, rest) → or_else o more ≡ Some found
first_named None more ts found rest e = absurd cc
first_named (Some n) more ts found rest e = ap (λ (n : List ℕ). Some n) (said_is (n, ts) (found, rest) e)

global_first : (ts : List Tok) (found : List ℕ) (rest : List Tok) → global_at ts ≡ Some (found, rest) → first_global ts ≡ Some found
unfolding one_at first_global
global_first [] found rest e = absurd cc
global_first (over ∷ ts) found rest e = absurd cc
global_first (bad ∷ ts) found rest e = absurd cc
global_first (tok kind bytes ∷ ts) found rest e = first_named (global_of (tok kind bytes)) (first_global ts) ts found rest e

chosen_is : (b : Bool) (ts rest : List Tok) (x : Unit {0}) → with_rest ts (cond b (Some tt) None) ≡ Some (x, rest) → b ≡ true
chosen_is true ts rest x e = refl
chosen_is false ts rest x e = absurd cc

this_named : (o more : Option (List ℕ)) (text : List ℕ) → is_this text o ≡ true → or_else o more ≡ Some text
this_named None more text e = absurd cc
this_named (Some n) more text e = ap (λ (n : List ℕ). Some n) ((bytes_eq-Decides n text).0 e)

function_first : (text : List ℕ) (ts : List Tok) (x : Unit {0}) (rest : List Tok) → one_at (stands (is_global text)) ts ≡ Some (x, rest) → first_global ts ≡ Some text
unfolding one_at first_global
function_first text [] x rest e = absurd cc
function_first text (over ∷ ts) x rest e = absurd cc
function_first text (bad ∷ ts) x rest e = absurd cc
function_first text (tok kind bytes ∷ ts) x rest e =
    this_named (global_of (tok kind bytes)) (first_global ts) text (chosen_is (is_global text (tok kind bytes)) ts rest x e)

told_family : (o more : Option (List ℕ)) → is_family o ≡ true → (n : List ℕ) × (or_else o more ≡ Some n) × (is_family_name n ≡ true)
told_family None more e = absurd cc
told_family (Some n) more e = (n, refl, e)

family_first : (ts : List Tok) (x : Unit {0}) (rest : List Tok) → one_at (stands declares_family) ts ≡ Some (x, rest) → (n : List ℕ) × (first_global ts ≡ Some n) × (is_family_name n ≡ true)
unfolding one_at first_global
family_first [] x rest e = absurd cc
family_first (over ∷ ts) x rest e = absurd cc
family_first (bad ∷ ts) x rest e = absurd cc
family_first (tok kind bytes ∷ ts) x rest e =
    told_family (global_of (tok kind bytes)) (first_global ts) (chosen_is (declares_family (tok kind bytes)) ts rest x e)

called_first : (ts : List Tok) (call : List ℕ × List Given) (rest : List Tok) → called_at ts ≡ Some (call, rest) → first_global ts ≡ Some call.0
unfolding called_at
called_first ts call rest e =
    let a = after_some (global_at ts) _ (call, rest) e in
    let b = after_some (mark_at (codes "(") a.0.1) _ (call, rest) a.2 in
    let c = after_some (all_passed_at (is_task_start a.0.0) b.0.1) _ (call, rest) b.2 in
    let d = after_some (mark_at (codes ")") c.0.1) _ (call, rest) c.2 in
    let same : (a.0.0, c.0.0) ≡ call = said_is ((a.0.0, c.0.0), d.0.1) (call, rest) d.2 in
    global_first ts a.0.0 a.0.1 a.1 ∙ ap (λ (p : List ℕ × List Given). Some p.0) same

head_first : (declares : Bool) (ts : List Tok) (head : List ℕ × List Named) (rest : List Tok) → head_at declares ts ≡ Some (head, rest) → first_global ts ≡ Some head.0
unfolding head_at
head_first declares ts head rest e =
    let a = after_some (global_at ts) _ (head, rest) e in
    let b = after_some (mark_at (codes "(") a.0.1) _ (head, rest) a.2 in
    let c = after_some (arguments_at (declares && is_task_start a.0.0) b.0.1) _ (head, rest) b.2 in
    let d = after_some (mark_at (codes ")") c.0.1) _ (head, rest) c.2 in
    let same : (a.0.0, c.0.0) ≡ head = said_is ((a.0.0, c.0.0), d.0.1) (head, rest) d.2 in
    global_first ts a.0.0 a.0.1 a.1 ∙ ap (λ (p : List ℕ × List Named). Some p.0) same

-- ---- the name of a result

void_no_integer : (ts : List Tok) (n : ℕ) (rest : List Tok) → told (types.Void, ts) ≡ Some (types.Int n, rest) → ⊥
void_no_integer ts n rest e = let same : types.Void ≡ types.Int n = said_is (types.Void, ts) (types.Int n, rest) e in cc

managed_no_integer : (ts : List Tok) (n : ℕ) (rest : List Tok) → told (types.Managed, ts) ≡ Some (types.Int n, rest) → ⊥
managed_no_integer ts n rest e = let same : types.Managed ≡ types.Int n = said_is (types.Managed, ts) (types.Int n, rest) e in cc

plain_no_integer : (ts : List Tok) (n : ℕ) (rest : List Tok) → told (types.Plain, ts) ≡ Some (types.Int n, rest) → ⊥
plain_no_integer ts n rest e = let same : types.Plain ≡ types.Int n = said_is (types.Plain, ts) (types.Int n, rest) e in cc

pointer_by : (b : Bool) (ts : List Tok) (n : ℕ) (rest : List Tok) → cond b (after (addrspace_at ts) (λ (_ : Unit {0}) (r : List Tok). told (types.Managed, r))) (told (types.Plain, ts)) ≡ Some (types.Int n, rest) → ⊥
pointer_by true ts n rest e =
    let a = after_some (addrspace_at ts) (λ (_ : Unit {0}) (r : List Tok). told (types.Managed, r)) (types.Int n, rest) e in
    managed_no_integer a.0.1 n rest a.2
pointer_by false ts n rest e = plain_no_integer ts n rest e

pointer_no_integer : (ts : List Tok) (n : ℕ) (rest : List Tok) → pointer_at ts ≡ Some (types.Int n, rest) → ⊥
unfolding pointer_at
pointer_no_integer ts n rest e = pointer_by (begins (is_word (codes "addrspace")) ts) ts n rest e

word_by : (v p : Bool) (ts : List Tok) (n : ℕ) (rest : List Tok) → cond v (told (types.Void, ts)) (cond p (pointer_at ts) None) ≡ Some (types.Int n, rest) → ⊥
word_by true p ts n rest e = void_no_integer ts n rest e
word_by false true ts n rest e = pointer_no_integer ts n rest e
word_by false false ts n rest e = cc

word_suffix : (i : ℕ) (digits : List ℕ) (ts : List Tok) (n : ℕ) (rest : List Tok) (bits : ℕ) (b : Bool) → (eqb i 105 && is_numeral digits) ≡ b
    → type_behind (tok kinds.Word (i ∷ digits)) ts (cond b (Some bits) None) ≡ Some (types.Int n, rest) → is_suffix (Some (i ∷ digits)) ≡ true
word_suffix i digits ts n rest bits true is e =
    let p = and_parts (eqb i 105) (is_numeral digits) is in
    or_right (bytes_eq (i ∷ digits) (codes "p1")) (eqb i 105 && are_digits digits) (rw (p.0, numeral_digits digits p.1) refl)
word_suffix i digits ts n rest bits false is e =
    absurd (word_by (bytes_eq (i ∷ digits) (codes "void")) (bytes_eq (i ∷ digits) (codes "ptr")) ts n rest e)

-- how a type is spelled is the end of a result's name
suffix_is : (t : TypeWord) (ts rest : List Tok) → spelled_type_at ts ≡ Some (t, rest) → is_value_type t ≡ true → is_suffix (Some (suffix_of t ts)) ≡ true
unfolding spelled_type_at
suffix_is types.Void ts rest e v = absurd cc
suffix_is types.Plain ts rest e v = absurd cc
suffix_is types.Managed ts rest e v = refl
suffix_is (types.Int n) [] rest e v = absurd cc
suffix_is (types.Int n) (tok kinds.Word [] ∷ ts) rest e v = absurd (word_by false false ts n rest e)
suffix_is (types.Int n) (tok kinds.Word (i ∷ digits) ∷ ts) rest e v = word_suffix i digits ts n rest (width_within (decimal digits)) (eqb i 105 && is_numeral digits) refl e
suffix_is (types.Int n) (t ∷ ts) rest e v = absurd (word_by false false ts n rest e)

if_some : {A : Type 0} (b : Bool) (x y : A × List Tok) → cond b (told x) None ≡ Some y → (b ≡ true) × (x ≡ y)
if_some {A = A} true x y e = (refl, cc)
if_some false x y e = absurd cc

allowed_is : (allows : TypeWord → Bool) (ts : List Tok) (t : TypeWord) (rest : List Tok) → allowed_type_at allows ts ≡ Some (t, rest) → (spelled_type_at ts ≡ Some (t, rest)) × (allows t ≡ true)
unfolding allowed_type_at
allowed_is allows ts t rest e =
    let a = after_some (spelled_type_at ts) (λ t rest. cond (allows t) (told (t, rest)) None) (t, rest) e in
    let p = if_some (allows a.0.0) (a.0.0, a.0.1) (t, rest) a.2 in
    let same_type : a.0.0 ≡ t = ap (λ (x : TypeWord × List Tok). x.0) p.1 in
    (a.1 ∙ ap (λ (x : TypeWord × List Tok). told x) p.1, rw (← same_type) p.0)

ends_in_is : (suffix : List ℕ) (found : Option (List ℕ)) → ends_in suffix found ≡ true → found ≡ Some suffix
ends_in_is suffix None e = absurd cc
ends_in_is suffix (Some f) e = ap (λ (n : List ℕ). Some n) ((bytes_eq-Decides f suffix).0 e)

result_first : (ts : List Tok) (t : TypeWord) (rest : List Tok) → result_at ts ≡ Some (t, rest) → (n : List ℕ) × (first_global ts ≡ Some n) × (is_result_name n ≡ true)
unfolding result_at
result_first ts t rest e =
    let a = after_some (allowed_type_at is_value_type ts) (λ t rest. after (global_at rest) (λ name end. named_result t (suffix_of t ts) name end)) (t, rest) e in
    let b = after_some (global_at a.0.1) (λ name end. named_result a.0.0 (suffix_of a.0.0 ts) name end) (t, rest) a.2 in
    let v = allowed_is is_value_type ts a.0.0 a.0.1 a.1 in
    let p = if_some (is_result_of (suffix_of a.0.0 ts) b.0.0) (a.0.0, b.0.1) (t, rest) b.2 in
    let first : first_global ts ≡ first_global a.0.1 = keeps_is ts (allowed_type_at is_value_type ts) a.0.0 a.0.1 (allowed-keeps is_value_type ts) a.1 in
    let suffix : result_suffix b.0.0 ≡ Some (suffix_of a.0.0 ts) = ends_in_is (suffix_of a.0.0 ts) (result_suffix b.0.0) p.0 in
    (b.0.0, first ∙ global_first a.0.1 b.0.0 b.0.1 b.1, ap (λ (o : Option (List ℕ)). is_suffix o) suffix ∙ suffix_is a.0.0 ts a.0.1 v.0 v.1)

-- ---- behind what calls and declarations begin with

dropped_is : (what : Dropped) (ts : List Tok) (here : List Item) (rest : List Tok) → part (dropped what) ts ≡ Some (here, rest) → past_all what ts ≡ rest
unfolding part
dropped_is what ts here rest e = rest_is ([], past_all what ts) (here, rest) e

blank_is : (ts : List Tok) (here : List Item) (rest : List Tok) → part blank ts ≡ Some (here, rest) → ts ≡ rest
unfolding part
blank_is ts here rest e = rest_is ([], ts) (here, rest) e

-- what is behind a front that names no family
record Behind (f : List Slot) (said : List Item) (end : List Tok) : Type 0 where
  at : List Tok
  more : List Item
  parse_is : parse f at ≡ Some (more, end)
  names : Names said ≡ Names more

record BehindCall (f : List Slot) (ts : List Tok) (said : List Item) (end : List Tok) : Type 0 where
  behind : Behind f said end
  at_is : past_all drops.Groups (past (is_word (codes "call")) (past_all (drops.Words flags.Calling) ts)) ≡ behind.at

call_split : (f : List Slot) (ts : List Tok) (said : List Item) (end : List Tok) → parse (dropped (drops.Words flags.Calling) ∷ w (codes "call") ∷ dropped drops.Groups ∷ blank ∷ f) ts ≡ Some (said, end) → BehindCall f ts said end
call_split f ts said end e =
    let a = split (dropped (drops.Words flags.Calling)) (w (codes "call") ∷ dropped drops.Groups ∷ blank ∷ f) ts said end e in
    let b = split (w (codes "call")) (dropped drops.Groups ∷ blank ∷ f) a.rest a.more end a.parse_is in
    let c = split (dropped drops.Groups) (blank ∷ f) b.rest b.more end b.parse_is in
    let d = split blank f c.rest c.more end c.parse_is in
    let word : past_all (drops.Words flags.Calling) ts ≡ tok kinds.Word (codes "call") ∷ b.rest = dropped_is (drops.Words flags.Calling) ts a.here a.rest a.part_is ∙ word_found (codes "call") a.rest b.here b.rest b.part_is in
    record {
      behind = record {
        at = d.rest;
        more = d.more;
        parse_is = d.parse_is;
        names = past_slot (dropped (drops.Words flags.Calling)) _ ts said end a refl ∙ past_slot (w (codes "call")) _ a.rest a.more end b refl
            ∙ past_slot (dropped drops.Groups) _ b.rest b.more end c refl ∙ past_slot blank _ c.rest c.more end d refl;
      };
      at_is = ap (λ (t : List Tok). past_all drops.Groups (past (is_word (codes "call")) t)) word
          ∙ dropped_is drops.Groups b.rest c.here c.rest c.part_is ∙ blank_is c.rest d.here d.rest d.part_is;
    }

record BehindResult (f : List Slot) (ts : List Tok) (said : List Item) (end : List Tok) : Type 0 where
  behind : Behind f said end
  at_is : behind_result ts ≡ behind.at

result_split : (f : List Slot) (ts : List Tok) (said : List Item) (end : List Tok) → parse (a_local ∷ blank ∷ m (codes "=") ∷ blank ∷ f) ts ≡ Some (said, end) → BehindResult f ts said end
result_split f ts said end e =
    let a = split a_local (blank ∷ m (codes "=") ∷ blank ∷ f) ts said end e in
    let b = split blank (m (codes "=") ∷ blank ∷ f) a.rest a.more end a.parse_is in
    let c = split (m (codes "=")) (blank ∷ f) b.rest b.more end b.parse_is in
    let d = split blank f c.rest c.more end c.parse_is in
    let l = local_found ts a.here a.rest a.part_is in
    let equals : a.rest ≡ tok kinds.Punct (codes "=") ∷ c.rest = blank_is a.rest b.here b.rest b.part_is ∙ mark_found (codes "=") b.rest c.here c.rest c.part_is in
    let front : ts ≡ tok kinds.Local l.0 ∷ tok kinds.Punct (codes "=") ∷ c.rest = l.1 ∙ ap (λ (t : List Tok). tok kinds.Local l.0 ∷ t) equals in
    record {
      behind = record {
        at = d.rest;
        more = d.more;
        parse_is = d.parse_is;
        names = past_slot a_local _ ts said end a refl ∙ past_slot blank _ a.rest a.more end b refl
            ∙ past_slot (m (codes "=")) _ b.rest b.more end c refl ∙ past_slot blank _ c.rest c.more end d refl;
      };
      at_is = ap (λ (t : List Tok). behind_result t) front ∙ blank_is c.rest d.here d.rest d.part_is;
    }

record BehindDeclare (f : List Slot) (ts : List Tok) (said : List Item) (end : List Tok) : Type 0 where
  behind : Behind f said end
  at_is : past_all drops.Groups (past_all drops.HeadAttachments (past (is_word (codes "declare")) ts)) ≡ behind.at

declare_split : (f : List Slot) (ts : List Tok) (said : List Item) (end : List Tok) → parse (w (codes "declare") ∷ dropped drops.HeadAttachments ∷ dropped drops.Groups ∷ blank ∷ f) ts ≡ Some (said, end) → BehindDeclare f ts said end
declare_split f ts said end e =
    let a = split (w (codes "declare")) (dropped drops.HeadAttachments ∷ dropped drops.Groups ∷ blank ∷ f) ts said end e in
    let b = split (dropped drops.HeadAttachments) (dropped drops.Groups ∷ blank ∷ f) a.rest a.more end a.parse_is in
    let c = split (dropped drops.Groups) (blank ∷ f) b.rest b.more end b.parse_is in
    let d = split blank f c.rest c.more end c.parse_is in
    record {
      behind = record {
        at = d.rest;
        more = d.more;
        parse_is = d.parse_is;
        names = past_slot (w (codes "declare")) _ ts said end a refl ∙ past_slot (dropped drops.HeadAttachments) _ a.rest a.more end b refl
            ∙ past_slot (dropped drops.Groups) _ b.rest b.more end c refl ∙ past_slot blank _ c.rest c.more end d refl;
      };
      at_is = ap (λ (t : List Tok). past_all drops.Groups (past_all drops.HeadAttachments (past (is_word (codes "declare")) t))) (word_found (codes "declare") ts a.here a.rest a.part_is)
          ∙ ap (λ (t : List Tok). past_all drops.Groups t) (dropped_is drops.HeadAttachments a.rest b.here b.rest b.part_is)
          ∙ dropped_is drops.Groups b.rest c.here c.rest c.part_is ∙ blank_is c.rest d.here d.rest d.part_is;
    }

-- ---- the function that a line names

one_name : (a b : Bool) → b ≡ false → ((a || false) || b) ≡ a
one_name true b e = refl
one_name false b e = e

-- the slot of a call's function, with nothing named behind it
call_names : (f : List Slot) (ts : List Tok) (said : List Item) (end : List Tok) → list_any names_slot f ≡ false → parse (a_called ∷ f) ts ≡ Some (said, end)
    → (n : List ℕ) × (first_global ts ≡ Some n) × (Names said ≡ is_family_name n)
unfolding part
call_names f ts said end none e =
    let k = split a_called f ts said end e in
    let s = says_is (λ (call : List ℕ × List Given). called call.0 call.1) (called_at ts) k.here k.rest k.part_is in (
      s.thing.0,
      called_first ts s.thing k.rest s.found_is,
      split_names a_called f ts said end k ∙ ap (λ (is : List Item). Names is || Names k.more) s.here_is ∙ one_name (is_family_name s.thing.0) (Names k.more) (unnamed f k.rest k.more end none k.parse_is),
    )

declared_names : (f : List Slot) (ts : List Tok) (said : List Item) (end : List Tok) → list_any names_slot f ≡ false → parse (a_declared ∷ f) ts ≡ Some (said, end)
    → (n : List ℕ) × (first_global ts ≡ Some n) × (Names said ≡ is_family_name n)
unfolding part
declared_names f ts said end none e =
    let k = split a_declared f ts said end e in
    let s = says_is (λ (head : List ℕ × List Named). declared head.0 head.1) (head_at true ts) k.here k.rest k.part_is in (
      s.thing.0,
      head_first true ts s.thing k.rest s.found_is,
      split_names a_declared f ts said end k ∙ ap (λ (is : List Item). Names is || Names k.more) s.here_is ∙ one_name (is_family_name s.thing.0) (Names k.more) (unnamed f k.rest k.more end none k.parse_is),
    )

-- behind a part that names no function, and a blank
record BehindPart (f : List Slot) (ts : List Tok) (said : List Item) (end : List Tok) : Type 0 where
  behind : Behind f said end
  first : first_global ts ≡ first_global behind.at

type_split : (f : List Slot) (ts : List Tok) (said : List Item) (end : List Tok) → parse (a_type ∷ blank ∷ f) ts ≡ Some (said, end) → BehindPart f ts said end
unfolding part
type_split f ts said end e =
    let a = split a_type (blank ∷ f) ts said end e in
    let b = split blank f a.rest a.more end a.parse_is in
    let t = says_is ty (allowed_type_at is_value_type ts) a.here a.rest a.part_is in
    record {
      behind = record { at = b.rest; more = b.more; parse_is = b.parse_is; names = past_slot a_type _ ts said end a refl ∙ past_slot blank _ a.rest a.more end b refl };
      first = keeps_is ts (allowed_type_at is_value_type ts) t.thing a.rest (allowed-keeps is_value_type ts) t.found_is ∙ ap (λ (r : List Tok). first_global r) (blank_is a.rest b.here b.rest b.part_is);
    }

answer_split : (f : List Slot) (ts : List Tok) (said : List Item) (end : List Tok) → parse (an_answer ∷ blank ∷ f) ts ≡ Some (said, end) → BehindPart f ts said end
unfolding part
answer_split f ts said end e =
    let a = split an_answer (blank ∷ f) ts said end e in
    let b = split blank f a.rest a.more end a.parse_is in
    let t = says_is ty (allowed_type_at is_answer_type ts) a.here a.rest a.part_is in
    record {
      behind = record { at = b.rest; more = b.more; parse_is = b.parse_is; names = past_slot an_answer _ ts said end a refl ∙ past_slot blank _ a.rest a.more end b refl };
      first = keeps_is ts (allowed_type_at is_answer_type ts) t.thing a.rest (allowed-keeps is_answer_type ts) t.found_is ∙ ap (λ (r : List Tok). first_global r) (blank_is a.rest b.here b.rest b.part_is);
    }

-- a part that says nothing
quiet_split : {A : Type 0} (s : Slot) (found : List Tok → Found A) → ((ts : List Tok) → part s ts ≡ says_nothing (found ts)) → ((ts : List Tok) → Keeps ts (found ts)) → names_slot s ≡ false
    → (f : List Slot) (ts : List Tok) (said : List Item) (end : List Tok) → parse (s ∷ blank ∷ f) ts ≡ Some (said, end) → BehindPart f ts said end
quiet_split {A = A} s found is keeps none f ts said end e =
    let a = split s (blank ∷ f) ts said end e in
    let b = split blank f a.rest a.more end a.parse_is in
    let x = nothing_is (found ts) a.here a.rest (sym (is ts) ∙ a.part_is) in
    record {
      behind = record { at = b.rest; more = b.more; parse_is = b.parse_is; names = past_slot s _ ts said end a none ∙ past_slot blank _ a.rest a.more end b refl };
      first = keeps_is ts (found ts) x.0 a.rest (keeps ts) x.1 ∙ ap (λ (r : List Tok). first_global r) (blank_is a.rest b.here b.rest b.part_is);
    }

void_split : (f : List Slot) (ts : List Tok) (said : List Item) (end : List Tok) → parse (w (codes "void") ∷ blank ∷ f) ts ≡ Some (said, end) → BehindPart f ts said end
unfolding part
void_split = quiet_split (w (codes "void")) (word_at (codes "void")) (λ ts. refl) (λ ts. word-keeps ts ts (codes "void") refl) refl

managed_split : (f : List Slot) (ts : List Tok) (said : List Item) (end : List Tok) → parse (a_managed ∷ blank ∷ f) ts ≡ Some (said, end) → BehindPart f ts said end
unfolding part
managed_split = quiet_split a_managed (allowed_type_at is_managed) (λ ts. refl) (allowed-keeps is_managed) refl

family_answer_split : (f : List Slot) (ts : List Tok) (said : List Item) (end : List Tok) → parse (a_family_answer ∷ blank ∷ f) ts ≡ Some (said, end) → BehindPart f ts said end
unfolding part
family_answer_split f ts said end e =
    let a = split a_family_answer (blank ∷ f) ts said end e in
    let b = split blank f a.rest a.more end a.parse_is in
    let t = says_is family_answer (family_answer_at ts) a.here a.rest a.part_is in
    record {
      behind = record { at = b.rest; more = b.more; parse_is = b.parse_is; names = past_slot a_family_answer _ ts said end a refl ∙ past_slot blank _ a.rest a.more end b refl };
      first = keeps_is ts (family_answer_at ts) t.thing a.rest (family_answer-keeps ts) t.found_is ∙ ap (λ (r : List Tok). first_global r) (blank_is a.rest b.here b.rest b.part_is);
    }

-- marks and words name no function
abbrev is_quiet : Slot → Bool
is_quiet blank = true
is_quiet (m text) = true
is_quiet (w text) = true
is_quiet _ = false

quiet_first : (s : Slot) (ts : List Tok) (here : List Item) (rest : List Tok) → is_quiet s ≡ true → part s ts ≡ Some (here, rest) → first_global ts ≡ first_global rest
unfolding part
quiet_first blank ts here rest quiet e = ap (λ (r : List Tok). first_global r) (rest_is ([], ts) (here, rest) e)
quiet_first (m text) ts here rest quiet e =
    let x = nothing_is (mark_at text ts) here rest e in keeps_is ts (mark_at text ts) x.0 rest (mark-keeps ts ts text refl) x.1
quiet_first (w text) ts here rest quiet e =
    let x = nothing_is (word_at text ts) here rest e in keeps_is ts (word_at text ts) x.0 rest (word-keeps ts ts text refl) x.1
quiet_first s ts here rest quiet e = absurd (true≢false (sym quiet))

-- behind slots that name no function
record BehindQuiet (f : List Slot) (ts end : List Tok) : Type 0 where
  at : List Tok
  more : List Item
  parse_is : parse f at ≡ Some (more, end)
  first : first_global ts ≡ first_global at

quiet_behind : (f behind : List Slot) (ts : List Tok) (said : List Item) (end : List Tok) → list_all is_quiet f ≡ true → parse (f ++ behind) ts ≡ Some (said, end) → BehindQuiet behind ts end
quiet_behind [] behind ts said end quiet e = record { at = ts; more = said; parse_is = e; first = refl }
quiet_behind (s ∷ f) behind ts said end quiet e =
    let p = split s (f ++ behind) ts said end e in
    let b = and_parts (is_quiet s) (list_all is_quiet f) quiet in
    let r = quiet_behind f behind p.rest p.more end b.1 p.parse_is in
    record { at = r.at; more = r.more; parse_is = r.parse_is; first = quiet_first s ts p.here p.rest b.0 p.part_is ∙ r.first }

function_named : (text : List ℕ) (f : List Slot) (ts : List Tok) (said : List Item) (end : List Tok) → parse (g text ∷ f) ts ≡ Some (said, end) → first_global ts ≡ Some text
unfolding part
function_named text f ts said end e =
    let a = split (g text) f ts said end e in
    let x = nothing_is (one_at (stands (is_global text)) ts) a.here a.rest a.part_is in
    function_first text ts x.0 a.rest x.1

family_named : (f : List Slot) (ts : List Tok) (said : List Item) (end : List Tok) → parse (a_family ∷ f) ts ≡ Some (said, end) → (n : List ℕ) × (first_global ts ≡ Some n) × (is_family_name n ≡ true)
unfolding part
family_named f ts said end e =
    let a = split a_family f ts said end e in
    let x = nothing_is (one_at (stands declares_family) ts) a.here a.rest a.part_is in
    family_first ts x.0 a.rest x.1

result_named : (f : List Slot) (ts : List Tok) (said : List Item) (end : List Tok) → parse (a_result ∷ f) ts ≡ Some (said, end) → (n : List ℕ) × (first_global ts ≡ Some n) × (is_result_name n ≡ true)
unfolding part
result_named f ts said end e =
    let a = split a_result f ts said end e in
    let t = says_is ty (result_at ts) a.here a.rest a.part_is in
    result_first ts t.thing a.rest t.found_is

-- ---- what each line names

callee_first : (f : List Slot) (ts : List Tok) (said : List Item) (end : List Tok) (c : BehindCall f ts said end) → callee_of ts ≡ first_global c.behind.at
unfolding callee_of
callee_first f ts said end c = ap (λ (t : List Tok). first_global t) c.at_is

declared_first : (f : List Slot) (ts : List Tok) (said : List Item) (end : List Tok) (c : BehindDeclare f ts said end) → declared_of ts ≡ first_global c.behind.at
unfolding declared_of
declared_first f ts said end c = ap (λ (t : List Tok). first_global t) c.at_is

value_call : (ts : List Tok) (said : List Item) (end : List Tok) → parse (slots forms.ValueCall) ts ≡ Some (said, end) → (n : List ℕ) × (callee_of (behind_result ts) ≡ Some n) × (Names said ≡ is_family_name n)
value_call ts said end e =
    let r = result_split _ ts said end e in
    let c = call_split _ r.behind.at r.behind.more end r.behind.parse_is in
    let t = type_split _ c.behind.at c.behind.more end c.behind.parse_is in
    let k = call_names _ t.behind.at t.behind.more end refl t.behind.parse_is in
    (k.0, ap (λ (x : List Tok). callee_of x) r.at_is ∙ callee_first _ r.behind.at r.behind.more end c ∙ t.first ∙ k.1, r.behind.names ∙ c.behind.names ∙ t.behind.names ∙ k.2)

plain_call : (ts : List Tok) (said : List Item) (end : List Tok) → parse (slots forms.VoidCall) ts ≡ Some (said, end) → (n : List ℕ) × (callee_of ts ≡ Some n) × (Names said ≡ is_family_name n)
plain_call ts said end e =
    let c = call_split _ ts said end e in
    let t = void_split _ c.behind.at c.behind.more end c.behind.parse_is in
    let k = call_names _ t.behind.at t.behind.more end refl t.behind.parse_is in
    (k.0, callee_first _ ts said end c ∙ t.first ∙ k.1, c.behind.names ∙ t.behind.names ∙ k.2)

declaration : (ts : List Tok) (said : List Item) (end : List Tok) → parse (slots forms.Declare) ts ≡ Some (said, end) → (n : List ℕ) × (declared_of ts ≡ Some n) × (Names said ≡ is_family_name n)
declaration ts said end e =
    let c = declare_split _ ts said end e in
    let t = answer_split _ c.behind.at c.behind.more end c.behind.parse_is in
    let k = declared_names _ t.behind.at t.behind.more end refl t.behind.parse_is in
    (k.0, declared_first _ ts said end c ∙ t.first ∙ k.1, c.behind.names ∙ t.behind.names ∙ k.2)

statepoint : (ts : List Tok) (said : List Item) (end : List Tok) → parse (slots forms.Statepoint) ts ≡ Some (said, end) → callee_of (behind_result ts) ≡ Some statepoint_name
statepoint ts said end e =
    let r = result_split _ ts said end e in
    let c = call_split _ r.behind.at r.behind.more end r.behind.parse_is in
    let t = quiet_behind (first_types ++ (last_types ++ (blank ∷ []))) _ c.behind.at c.behind.more end refl c.behind.parse_is in
    ap (λ (x : List Tok). callee_of x) r.at_is ∙ callee_first _ r.behind.at r.behind.more end c ∙ t.first ∙ function_named statepoint_name _ t.at t.more end t.parse_is

relocate : (ts : List Tok) (said : List Item) (end : List Tok) → parse (slots forms.GcRelocate) ts ≡ Some (said, end) → callee_of (behind_result ts) ≡ Some relocate_name
relocate ts said end e =
    let r = result_split _ ts said end e in
    let c = call_split _ r.behind.at r.behind.more end r.behind.parse_is in
    let t = managed_split _ c.behind.at c.behind.more end c.behind.parse_is in
    ap (λ (x : List Tok). callee_of x) r.at_is ∙ callee_first _ r.behind.at r.behind.more end c ∙ t.first ∙ function_named relocate_name _ t.behind.at t.behind.more end t.behind.parse_is

gc_result : (ts : List Tok) (said : List Item) (end : List Tok) → parse (slots forms.GcResult) ts ≡ Some (said, end) → (n : List ℕ) × (callee_of (behind_result ts) ≡ Some n) × (is_result_name n ≡ true)
gc_result ts said end e =
    let r = result_split _ ts said end e in
    let c = call_split _ r.behind.at r.behind.more end r.behind.parse_is in
    let k = result_named _ c.behind.at c.behind.more end c.behind.parse_is in
    (k.0, ap (λ (x : List Tok). callee_of x) r.at_is ∙ callee_first _ r.behind.at r.behind.more end c ∙ k.1, k.2)

family : (ts : List Tok) (said : List Item) (end : List Tok) → parse (slots (forms.Dropped drop_lines.Family)) ts ≡ Some (said, end) → (n : List ℕ) × (declared_of ts ≡ Some n) × (is_family_name n ≡ true)
family ts said end e =
    let c = declare_split _ ts said end e in
    let t = family_answer_split _ c.behind.at c.behind.more end c.behind.parse_is in
    let k = family_named _ t.behind.at t.behind.more end t.behind.parse_is in
    (k.0, declared_first _ ts said end c ∙ t.first ∙ k.1, k.2)

-- ---- names and forms

called_by : (r s l : Bool) → (r || (s || l)) ≡ false → cond r forms.GcResult (cond s forms.Statepoint (cond l forms.GcRelocate forms.ValueCall)) ≡ forms.ValueCall
called_by true s l e = absurd cc
called_by false true l e = absurd cc
called_by false false true e = absurd cc
called_by false false false e = refl

called_back : (r s l : Bool) → cond r forms.GcResult (cond s forms.Statepoint (cond l forms.GcRelocate forms.ValueCall)) ≡ forms.ValueCall → (r || (s || l)) ≡ false
called_back true s l e = absurd cc
called_back false true l e = absurd cc
called_back false false true e = absurd cc
called_back false false false e = refl

plain_back : (b : Bool) → cond b None (Some forms.VoidCall) ≡ Some forms.VoidCall → b ≡ false
plain_back true e = absurd cc
plain_back false e = refl

declared_back : (b : Bool) → cond b (forms.Dropped drop_lines.Family) forms.Declare ≡ forms.Declare → b ≡ false
declared_back true e = absurd cc
declared_back false e = refl

pub a_statepoint : called_form (Some statepoint_name) ≡ forms.Statepoint
unfolding statepoint_name relocate_name result_front result_suffix
a_statepoint = refl

a_relocate : called_form (Some relocate_name) ≡ forms.GcRelocate
unfolding statepoint_name relocate_name result_front result_suffix
a_relocate = refl

-- ---- each form

grouped : (form : Form) (said : List Item) (ts end : List Tok) → parse (slots form) ts ≡ Some (said, end) → Names said ≡ false → group_form ts (like form) ≡ Some form
unfolding group_form
grouped forms.ValueCall said ts end e none =
    let c = value_call ts said end e in
    let unknown : is_family_name c.0 ≡ false = sym c.2 ∙ none in
    rw c.1 (ap (λ (f : Form). Some f) (called_by (is_result_name c.0) (bytes_eq c.0 statepoint_name) (bytes_eq c.0 relocate_name) unknown))
grouped forms.VoidCall said ts end e none =
    let c = plain_call ts said end e in
    let unknown : is_family_name c.0 ≡ false = sym c.2 ∙ none in
    rw (c.1, unknown) refl
grouped forms.Declare said ts end e none =
    let c = declaration ts said end e in
    let unknown : is_family_name c.0 ≡ false = sym c.2 ∙ none in
    rw (c.1, unknown) refl
grouped forms.Statepoint said ts end e none = rw (statepoint ts said end e) (ap (λ (f : Form). Some f) a_statepoint)
grouped forms.GcRelocate said ts end e none = rw (relocate ts said end e) (ap (λ (f : Form). Some f) a_relocate)
grouped forms.GcResult said ts end e none = let c = gc_result ts said end e in rw (c.1, c.2) refl
grouped (forms.Dropped drop_lines.Family) said ts end e none = let c = family ts said end e in rw (c.1, c.2) refl
grouped form said ts end e none = refl

ungrouped : (form : Form) → is_group_form form ≡ false → like form ≡ form
ungrouped forms.Statepoint e = absurd cc
ungrouped forms.GcResult e = absurd cc
ungrouped forms.GcRelocate e = absurd cc
ungrouped (forms.Dropped drop_lines.Family) e = absurd cc
ungrouped form e = refl

like_back : (form : Form) → like form ≡ form → is_group_form form ≡ false
like_back forms.Statepoint e = absurd cc
like_back forms.GcResult e = absurd cc
like_back forms.GcRelocate e = absurd cc
like_back (forms.Dropped drop_lines.Family) e = absurd cc
like_back form e = refl

opened : (form : Form) (said : List Item) (ts end : List Tok) → parse (slots form) ts ≡ Some (said, end) → form_of ts ≡ Some (like form)
opened form said ts end e = opens form ts (found_is (parse (slots form) ts) (said, end) e)

pub form_is : (text : TextForm) (form : Form) (said : List Item) (ts end : List Tok) → parse (slots form) ts ≡ Some (said, end) → stands_in text form said ≡ true → form_in text ts ≡ Some form
unfolding form_in
form_is text_forms.Source form said ts end e stands = opened form said ts end e ∙ ap (λ (f : Form). Some f) (ungrouped form (not-true (is_group_form form) stands))
form_is text_forms.Rewritten form said ts end e stands = rw (opened form said ts end e) (grouped form said ts end e (not-true (Names said) stands))

-- ---- what is read may stand there

abbrev some_of : Form → Option Form
some_of f = Some f

some_form : (a b : Form) → some_of a ≡ Some b → a ≡ b
some_form a b e = cc

named_back : (form : Form) (said : List Item) (ts end : List Tok) → parse (slots form) ts ≡ Some (said, end) → group_form ts (like form) ≡ Some form → Names said ≡ false
unfolding group_form
named_back forms.ValueCall said ts end e is =
    let c = value_call ts said end e in
    let formed : called_form (Some c.0) ≡ forms.ValueCall = some_form (called_form (Some c.0)) forms.ValueCall (rw c.1 at is) in
    c.2 ∙ called_back (is_result_name c.0) (bytes_eq c.0 statepoint_name) (bytes_eq c.0 relocate_name) formed
named_back forms.VoidCall said ts end e is =
    let c = plain_call ts said end e in
    c.2 ∙ plain_back (is_family_name c.0) (rw c.1 at is)
named_back forms.Declare said ts end e is =
    let c = declaration ts said end e in
    let formed : declared_form (Some c.0) ≡ forms.Declare = some_form (declared_form (Some c.0)) forms.Declare (rw c.1 at is) in
    c.2 ∙ declared_back (is_family_name c.0) formed
named_back (forms.Dropped drop_lines.SourceFilename) said ts end e is = unnamed (slots (forms.Dropped drop_lines.SourceFilename)) ts said end refl e
named_back (forms.Dropped drop_lines.DataLayout) said ts end e is = unnamed (slots (forms.Dropped drop_lines.DataLayout)) ts said end refl e
named_back (forms.Dropped drop_lines.Triple) said ts end e is = unnamed (slots (forms.Dropped drop_lines.Triple)) ts said end refl e
named_back (forms.Dropped drop_lines.Attributes) said ts end e is = unnamed (slots (forms.Dropped drop_lines.Attributes)) ts said end refl e
named_back (forms.Dropped drop_lines.Family) said ts end e is = unnamed (slots (forms.Dropped drop_lines.Family)) ts said end refl e
named_back form said ts end e is = unnamed (slots form) ts said end refl e

pub stands_where_read : (text : TextForm) (form : Form) (said : List Item) (ts end : List Tok) → form_in text ts ≡ Some form → parse (slots form) ts ≡ Some (said, end) → stands_in text form said ≡ true
unfolding form_in
stands_where_read text_forms.Source form said ts end is e =
    let same : like form ≡ form = some_form (like form) form (sym (opened form said ts end e) ∙ is) in
    rw (like_back form same) refl
stands_where_read text_forms.Rewritten form said ts end is e =
    rw (named_back form said ts end e (rw (opened form said ts end e) at is)) refl

-- ---- one reading

one_said : (says also : List Item) (found : Found (List Item)) → found ≡ Some (says, []) → found ≡ Some (also, []) → says ≡ also
one_said says also found e d = said_is (says, []) (also, []) (sym e ∙ d)

same_form : (form other : Form) (found : Option Form) → found ≡ Some form → found ≡ Some other → form ≡ other
same_form form other found e d = cc

pub same_reading : (text : TextForm) (form other : Form) (says also : List Item) (line : List Tok) → parse (slots form) line ≡ Some (says, []) → stands_in text form says ≡ true
    → parse (slots other) line ≡ Some (also, []) → stands_in text other also ≡ true → (form ≡ other) × (says ≡ also)
same_reading text form other says also line e stands d stands_too =
    let same : form ≡ other = same_form form other (form_in text line) (form_is text form says line [] e stands) (form_is text other also line [] d stands_too) in
    let d-form : parse (slots form) line ≡ Some (also, []) = rw same d in
    (same, one_said says also (parse (slots form) line) e d-form)

-- ---- what fits

-- what stands at the slots of a line that fits, and belongs together
pub fit_parts : (form : Form) (ts : List Tok) (said : List Item) (rest : List Tok) → fit form ts ≡ Some (said, rest) → (parse (slots form) ts ≡ Some (said, rest)) × (agree form said ≡ true)
unfolding fit
fit_parts form ts said rest e =
    let a = after_some (parse (slots form) ts) (λ said rest. cond (agree form said) (told (said, rest)) None) (said, rest) e in
    let p = if_some (agree form a.0.0) (a.0.0, a.0.1) (said, rest) a.2 in
    let same : a.0.0 ≡ said = ap (λ (x : List Item × List Tok). x.0) p.1 in
    (a.1 ∙ ap (λ (x : List Item × List Tok). told x) p.1, rw (← same) p.0)

pub fit_is : (form : Form) (ts : List Tok) (said : List Item) (rest : List Tok) → parse (slots form) ts ≡ Some (said, rest) → agree form said ≡ true → fit form ts ≡ Some (said, rest)
unfolding fit after
fit_is form ts said rest e agrees = rw (e, agrees) refl

-- only a statepoint's parts have to
pub agree_own : (form : Form) (said : List Item) → is_group_form form ≡ false → agree form said ≡ true
agree_own forms.Statepoint said own = absurd (true≢false own)
agree_own form said own = refl
