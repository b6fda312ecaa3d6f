-- The parts of the lines of statepoint groups, where a line prints them.
use Rattle.std.proofs.Common.{◌≡◌, refl, ap, sym, ◌∙◌, ℕ, suc, Bool, true, false, cond, List, [], ◌∷◌, ◌++◌, map, Option, Some, None, arith, codes, append_assoc}
use Rattle.std.specs.List.{All}
use Rattle.std.specs.Str.{bytes_eq}
use Rattle.std.proofs.lemmas.List.Elements.{All-head}
use Rattle.sp_text.specs.Tokens.{Tok, tok, tokens, is_token, is_name}
use Rattle.sp_text.specs.declared.tokens.Kind.{Kind}
use Rattle.sp_text.specs.declared.tokens.Kind.TheVariants as kinds
use Rattle.sp_text.proofs.Spelled.{stops, continues, tokens-spelled, tokens-blank}
use Rattle.line_parts.specs.Types.{TypeWord}
use Rattle.line_parts.specs.Types as types
use Rattle.line_tokens.specs.declared.literals.Literal.{Literal}
use Rattle.line_tokens.specs.declared.words.Dropped.TheVariants as drops
use Rattle.line_parts.specs.Drops.{past_all, after_bracket}
use Rattle.line_tokens.specs.Families.{is_result_of, is_family_name}
use Rattle.ir_printer.specs.Lists.{joined}
use Rattle.line_parts.specs.Gives.{Found, after, one_at, with_rest, one_noted_at}
use Rattle.line_parts.specs.Lists.{Given, given, comma, is_argument_type, is_task_start, passed_at, given_behind}
use Rattle.line_tokens.specs.Marks.{is_mark, is_word, begins, stands}
use Rattle.line_tokens.specs.Numbers.{decimal_from}
use Rattle.line_parts.specs.Parts.{mark_at, is_value_type, is_answer_type, allowed_type_at, spelled_type_at}
use Rattle.line_parts.specs.Parts as values
use Rattle.line_forms.specs.Forms.{callee_type, callee_count}
use Rattle.line_forms.specs.Slots.{Item, name, ty, types as types_said, handed, literal, family_answer, Slot, blank, m, g, a_zero, a_closing, a_family_answer, a_family, a_bracketing, a_token, a_global, some_types, some_handed, a_result, a_number, part}
use Rattle.line_parts.specs.Groups.{number_at, is_zero, zero_at, token_at, types_at, takes_own, closing_at, begins_argument, handed_at, suffix_of, result_at, family_answer_at, bracketing_at}
use Rattle.read_back.proofs.Steps.{Reads, Stops, IsClean, clean-both, name-clean, one, step, step_to, first_of, stops-kind, mark, word, spaced, space, over_blank, drop_at}
use Rattle.read_back.proofs.PartSteps.{answer_step}
use Rattle.read_back.proofs.Spellings.{SpellsType, SpellsLiteral, allowed}
use Rattle.read_back.proofs.Listed.{SpellsElement, others, comma_spelled, clean_others, ends_others, listed, list_read, list_clean}
use Rattle.read_back.proofs.ListForms.{EndsAtMark, at_comma, at_closing, closing_tokens, anywhere, step_any}
use Rattle.line_parts.proofs.Dropping.{past_all-none}
use Rattle.list_laws.proofs.Contents.{same_bytes}

-- ---- tokens, one after another

pub record Spelled (text : List ℕ) (ts : List Tok) : Type 0 where
  pub is : tokens text ≡ ts

pub as_is : (text : List ℕ) → Spelled text (tokens text)
as_is text = record { is = refl }

pub token_then : {rest : List ℕ} {ts : List Tok} (kind : Kind) (word : List ℕ) → is_token kind word ≡ true → stops (continues kind) rest ≡ true → Spelled rest ts → Spelled (word ++ rest) (tok kind word ∷ ts)
token_then {rest} kind word is stop e = record { is = tokens-spelled kind word rest is stop ∙ ap (λ more. tok kind word ∷ more) e.is }

pub mark_then : {rest : List ℕ} {ts : List Tok} (b : ℕ) → is_token kinds.Punct (b ∷ []) ≡ true → Spelled rest ts → Spelled (b ∷ rest) (tok kinds.Punct (b ∷ []) ∷ ts)
mark_then {rest} b is e = record { is = tokens-spelled kinds.Punct (b ∷ []) rest is (anywhere rest) ∙ ap (λ more. tok kinds.Punct (b ∷ []) ∷ more) e.is }

pub blank_then : {rest : List ℕ} {ts : List Tok} → Spelled rest ts → Spelled (32 ∷ rest) ts
blank_then {rest} e = record { is = tokens-blank 32 rest refl ∙ e.is }

-- ---- names of functions

global_part : (n : List ℕ) → is_name n ≡ true → bytes_eq n n ≡ true → (ts : List Tok) → part (g n) (tok kinds.Global (64 ∷ n) ∷ ts) ≡ Some ([], ts)
unfolding part after one_at
global_part n is same ts = rw (is, same) refl

-- the function of this name
pub global_step : {f : List Slot} {rest : List ℕ} {first : Option Tok} {items : List Item} (n : List ℕ) → is_name n ≡ true → bytes_eq n n ≡ true → Stops rest
    → Reads f rest first items → Reads (g n ∷ f) (64 ∷ (n ++ rest)) (Some (tok kinds.Global (64 ∷ n))) items
global_step n is same stop r = one (g n) kinds.Global (64 ∷ n) [] is (name-clean n is) stop (global_part n is same) r

callee_part : (n : List ℕ) → is_name n ≡ true → (ts : List Tok) → part a_global (tok kinds.Global (64 ∷ n) ∷ ts) ≡ Some (name n ∷ [], ts)
unfolding part after one_at
callee_part n is ts = rw is refl

-- a function
pub callee_step : {f : List Slot} {rest : List ℕ} {first : Option Tok} {items : List Item} (n : List ℕ) → is_name n ≡ true → Stops rest
    → Reads f rest first items → Reads (a_global ∷ f) (64 ∷ (n ++ rest)) (Some (tok kinds.Global (64 ∷ n))) (name n ∷ items)
callee_step n is stop r = one a_global kinds.Global (64 ∷ n) (name n ∷ []) is (name-clean n is) stop (callee_part n is) r

-- ---- tokens and numbers

token_part : (n : List ℕ) → is_name n ≡ true → (ts : List Tok) → part a_token (tok kinds.Word (codes "token") ∷ tok kinds.Local (37 ∷ n) ∷ ts) ≡ Some (name n ∷ [], ts)
unfolding part after token_at one_at
token_part n is ts = rw (past_all-none drops.Groups (tok kinds.Local (37 ∷ n) ∷ ts) refl, is) refl

-- `token %t`
pub token_step : {f : List Slot} {rest : List ℕ} {first : Option Tok} {items : List Item} (n : List ℕ) → is_name n ≡ true → Stops rest
    → Reads f rest first items → Reads (a_token ∷ f) (codes "token %" ++ (n ++ rest)) (Some (tok kinds.Word (codes "token"))) (name n ∷ items)
token_step {rest = rest} n is stop r =
    step_to a_token (codes "token %" ++ (n ++ rest)) (tok kinds.Word (codes "token")) (tok kinds.Local (37 ∷ n) ∷ tokens rest) (name n ∷ []) (clean-both n rest (name-clean n is) r.clean)
    (token_then kinds.Word (codes "token") refl refl (blank_then (token_then kinds.Local (37 ∷ n) is stop (as_is rest)))).is (token_part n is (tokens rest)) r

number_part : (of_type : List ℕ) → bytes_eq of_type of_type ≡ true → {text : List ℕ} {l : Literal} → SpellsLiteral text l → (ts : List Tok) → part (a_number of_type) (tok kinds.Word of_type ∷ tok kinds.Number text ∷ ts) ≡ Some (literal l ∷ [], ts)
unfolding part after number_at one_at one_noted_at
number_part of_type same {text} s ts = rw same (rw (past_all-none drops.Groups (tok kinds.Number text ∷ ts) refl) (rw s.spelling.says (rw s.spelling.within refl)))

number_stops : (rest : List ℕ) → Stops rest → stops (continues kinds.Number) rest ≡ true
number_stops rest stop = stops-kind kinds.Number rest stop

-- `T N`
pub number_step : {f : List Slot} {rest text : List ℕ} {l : Literal} {first : Option Tok} {items : List Item} (of_type : List ℕ) → is_token kinds.Word of_type ≡ true → bytes_eq of_type of_type ≡ true → IsClean of_type
    → SpellsLiteral text l → Stops rest → Reads f rest first items → Reads (a_number of_type ∷ f) (of_type ++ (32 ∷ (text ++ rest))) (Some (tok kinds.Word of_type)) (literal l ∷ items)
number_step {rest = rest} {text = text} {l = l} of_type is same clean s stop r =
    step_to (a_number of_type) (of_type ++ (32 ∷ (text ++ rest))) (tok kinds.Word of_type) (tok kinds.Number text ∷ tokens rest) (literal l ∷ [])
    (clean-both of_type (32 ∷ (text ++ rest)) clean (clean-both text rest s.clean r.clean))
    (token_then kinds.Word of_type is refl (blank_then (token_then kinds.Number text s.is (number_stops rest stop) (as_is rest)))).is (number_part of_type same s (tokens rest)) r

-- ---- what a statepoint calls

abbrev zero_tokens : List Tok → List Tok
zero_tokens ts = tok kinds.Word (codes "i32") ∷ tok kinds.Number (codes "0") ∷ ts

zero_says : (ts : List Tok) → zero_at (zero_tokens ts) ≡ Some (tt, ts)
unfolding zero_at after one_at
zero_says ts = rw (past_all-none drops.Groups (tok kinds.Number (codes "0") ∷ ts) refl) refl

abbrev comma_tok : Tok
comma_tok = tok kinds.Punct (codes ",")

zero_part : (ts : List Tok) → part a_zero (zero_tokens ts) ≡ Some ([], ts)
unfolding part after
zero_part ts = rw (zero_says ts) refl

-- `i32 0`
pub zero_step : {f : List Slot} {rest : List ℕ} {first : Option Tok} {items : List Item} → Stops rest → Reads f rest first items → Reads (a_zero ∷ f) (codes "i32 0" ++ rest) (Some (tok kinds.Word (codes "i32"))) items
zero_step {rest = rest} stop r =
    step_to a_zero (codes "i32 0" ++ rest) (tok kinds.Word (codes "i32")) (tok kinds.Number (codes "0") ∷ tokens rest) [] r.clean
    (token_then kinds.Word (codes "i32") refl refl (blank_then (token_then kinds.Number (codes "0") refl (number_stops rest stop) (as_is rest)))).is (zero_part (tokens rest)) r

abbrev pub ParametersRead : {P : Type 0} → (P → List ℕ) → (P → TypeWord) → List P → Type 0
ParametersRead text said ps = All (λ p. SpellsElement (allowed_type_at (is_argument_type true)) comma EndsAtMark (text p) (said p)) ps

abbrev pub Opens : {P : Type 0} → (P → List ℕ) → List P → Type 0
Opens text ps = All (λ p. (rest : List ℕ) → EndsAtMark rest → begins (is_mark (codes ")")) (tokens (text p ++ rest)) ≡ false) ps

types_part : (all : List TypeWord) (ts us : List Tok) → types_at ts ≡ Some (all, us) → part some_types ts ≡ Some (types_said all ∷ [], us)
unfolding part after
types_part all ts us e = rw e refl

-- the parameters of a function type
types_step : {f : List Slot} {rest : List ℕ} {first : Option Tok} {items : List Item} {P : Type 0} (text : P → List ℕ) (said : P → TypeWord) (ps : List P) → ParametersRead text said ps → Opens text ps
    → Reads f (41 ∷ rest) first items
    → Reads (some_types ∷ f) (joined (codes ", ") (map text ps) ++ (41 ∷ rest)) (first_of (tokens (joined (codes ", ") (map text ps) ++ (41 ∷ rest)))) (types_said (map said ps) ∷ items)
types_step {rest = rest} text said ps each opens r =
    step_any some_types _ (types_said (map said ps) ∷ [])
    (clean-both (joined (codes ", ") (map text ps)) (41 ∷ rest) (list_clean (allowed_type_at (is_argument_type true)) comma EndsAtMark text said (λ y rest e ends. at_comma (text y ++ rest)) ps each) r.clean)
    (types_part (map said ps) _ _ (list_read (allowed_type_at (is_argument_type true)) (codes ")") EndsAtMark text said (λ y rest e ends. at_comma (text y ++ rest)) ps (41 ∷ rest) each opens (at_closing rest)
    (rw (closing_tokens rest) refl) (rw (closing_tokens rest) refl))) r

-- ---- what a statepoint passes

closing_spelled : (rest : List ℕ) → tokens (codes ", i32 0, i32 0)" ++ rest) ≡ comma_tok ∷ zero_tokens (comma_tok ∷ zero_tokens (tok kinds.Punct (codes ")") ∷ tokens rest))
closing_spelled rest =
    (mark_then 44 refl (blank_then (token_then kinds.Word (codes "i32") refl refl (blank_then (token_then kinds.Number (codes "0") refl refl (mark_then 44 refl (blank_then
    (token_then kinds.Word (codes "i32") refl refl (blank_then (token_then kinds.Number (codes "0") refl refl (mark_then 41 refl (as_is rest)))))))))))).is

closing_says : (ts : List Tok) → closing_at (comma_tok ∷ zero_tokens (comma_tok ∷ zero_tokens (tok kinds.Punct (codes ")") ∷ ts))) ≡ Some (tt, ts)
unfolding closing_at after one_at
closing_says ts = rw (zero_says (comma_tok ∷ zero_tokens (tok kinds.Punct (codes ")") ∷ ts))) (rw (zero_says (tok kinds.Punct (codes ")") ∷ ts)) refl)

closing_part : (ts : List Tok) → part a_closing (comma_tok ∷ zero_tokens (comma_tok ∷ zero_tokens (tok kinds.Punct (codes ")") ∷ ts))) ≡ Some ([], ts)
unfolding part after
closing_part ts = rw (closing_says ts) refl

closing_step : {f : List Slot} {rest : List ℕ} {first : Option Tok} {items : List Item} → Reads f rest first items → Reads (a_closing ∷ f) (codes ", i32 0, i32 0)" ++ rest) (Some comma_tok) items
closing_step {rest = rest} r = step_to a_closing (codes ", i32 0, i32 0)" ++ rest) comma_tok _ [] r.clean (closing_spelled rest) (closing_part (tokens rest)) r

-- `, i32 0)`, the second half of the end
abbrev second_half : List Tok → Found (Unit {0})
second_half ts = after (mark_at (codes ",") ts) (λ _ ts. after (zero_at ts) (λ _ ts. mark_at (codes ")") ts))

-- what follows an argument is not the second half of the end
pub record EndsHanded (rest : List ℕ) : Type 0 where
  pub ends : EndsAtMark rest
  pub opens : mark_at (codes ")") (tokens rest) ≡ None
  pub whole : second_half (tokens rest) ≡ None

abbrev left : {A : Type 0} → Found A → List Tok
left None = []
left (Some y) = y.1

abbrev found_if : Bool → Option (Unit {0})
found_if is = cond is (Some tt) None

-- `i32 0` is an argument too
zero_passed : (plain : Bool) (ts us : List Tok) → zero_at ts ≡ Some (tt, us) → passed_at plain ts ≡ Some (given (types.Int 32) (values.number (record { negative = false; magnitude = 0 })), us)
unfolding zero_at passed_at after one_at one_noted_at allowed_type_at spelled_type_at decimal_from
zero_passed plain (tok kinds.Word bytes ∷ ts) us e = by (bytes_eq bytes (codes "i32")) refl e
  where
    digits : (q : List Tok) → one_at (stands is_zero) q ≡ Some (tt, us) → given_behind (types.Int 32) q ≡ Some (given (types.Int 32) (values.number (record { negative = false; magnitude = 0 })), us)
    digits (tok kinds.Number bs ∷ vs) e = zero (bytes_eq bs (codes "0")) refl e
      where
        zero : (is : Bool) → bytes_eq bs (codes "0") ≡ is → with_rest vs (found_if is) ≡ Some (tt, us)
            → given_behind (types.Int 32) (tok kinds.Number bs ∷ vs) ≡ Some (given (types.Int 32) (values.number (record { negative = false; magnitude = 0 })), us)
        zero false same e = cc
        zero true same e = let is : bs ≡ codes "0" = same_bytes bs (codes "0") same in rw is (let behind : vs ≡ us = ap left e in rw behind refl)
    digits _ e = cc

    by : (is : Bool) → bytes_eq bytes (codes "i32") ≡ is → after (with_rest ts (found_if is)) (λ _ ts. one_at (stands is_zero) (past_all drops.Groups ts)) ≡ Some (tt, us)
        → passed_at plain (tok kinds.Word bytes ∷ ts) ≡ Some (given (types.Int 32) (values.number (record { negative = false; magnitude = 0 })), us)
    by false same e = cc
    by true same e = let is : bytes ≡ codes "i32" = same_bytes bytes (codes "i32") same in rw is (digits (past_all drops.Groups ts) e)
zero_passed plain _ us e = cc

behind_same : (plain : Bool) (x : Given) (ts us vs : List Tok) → passed_at plain ts ≡ Some (x, us) → zero_at ts ≡ Some (tt, vs) → vs ≡ us
behind_same plain x ts us vs passed zero =
    let other = sym (zero_passed plain ts vs zero) ∙ passed in
    ap left other

not_closing : (plain : Bool) (x : Given) (ts us : List Tok) → passed_at plain ts ≡ Some (x, us) → second_half us ≡ None → closing_at (comma_tok ∷ ts) ≡ None
unfolding closing_at after one_at
not_closing plain x ts us passed none = by (zero_at ts) refl
  where
    by : (r : Found (Unit {0})) → zero_at ts ≡ r → after r (λ _ ts. second_half ts) ≡ None
    by None is = refl
    by (Some y) is = let same : y.1 ≡ us = behind_same plain x ts us y.1 passed is in rw same none

not_half : (plain : Bool) (x : Given) (ts us : List Tok) → passed_at plain ts ≡ Some (x, us) → mark_at (codes ")") us ≡ None → second_half (comma_tok ∷ ts) ≡ None
unfolding after one_at
not_half plain x ts us passed none = by (zero_at ts) refl
  where
    by : (r : Found (Unit {0})) → zero_at ts ≡ r → after r (λ _ ts. mark_at (codes ")") ts) ≡ None
    by None is = refl
    by (Some y) is = let same : y.1 ≡ us = behind_same plain x ts us y.1 passed is in rw same none

open_comma : (text : List ℕ) → mark_at (codes ")") (tokens (44 ∷ 32 ∷ text)) ≡ None
unfolding one_at
open_comma text = rw (comma_spelled text) refl

abbrev given_of : Bool → Found TypeWord → Found Given
given_of plain found = after (after found (λ ty rest. cond (is_argument_type plain ty) (Some (ty, rest)) None)) (λ ty rest. given_behind ty (past_all drops.Groups rest))

-- what is read where no function may stand is read where one may
passed_more : (plain : Bool) (x : Given) (ts us : List Tok) → passed_at plain ts ≡ Some (x, us) → passed_at true ts ≡ Some (x, us)
unfolding passed_at allowed_type_at after
passed_more true x ts us e = e
passed_more false x ts us e = by (spelled_type_at ts) e
  where
    by : (found : Found TypeWord) → given_of false found ≡ Some (x, us) → given_of true found ≡ Some (x, us)
    by None e = e
    by (Some (types.Void, rest)) e = e
    by (Some (types.Int width, rest)) e = e
    by (Some (types.Managed, rest)) e = e
    by (Some (types.Plain, rest)) e = cc

handed_element : {text : List ℕ} {x : Given} (plain : Bool) → SpellsElement (passed_at plain) comma EndsAtMark text x → SpellsElement (passed_at true) begins_argument EndsHanded text x
handed_element {text} {x} plain e = record {
  clean = e.clean;
  says = λ rest ends. passed_more plain x (tokens (text ++ rest)) (tokens rest) (e.says rest ends.ends);
  shorter = λ rest ends. e.shorter rest ends.ends;
  goes = λ rest ends. rw (comma_spelled (text ++ rest)) (rw (not_closing plain x (tokens (text ++ rest)) (tokens rest) (e.says rest ends.ends) ends.whole) refl);
}

handed_comma : {text : List ℕ} {x : Given} (rest : List ℕ) → SpellsElement (passed_at true) begins_argument EndsHanded text x → EndsHanded rest → EndsHanded (44 ∷ 32 ∷ (text ++ rest))
handed_comma {text} {x} rest e ends = record {
  ends = at_comma (text ++ rest);
  opens = open_comma (text ++ rest);
  whole = rw (comma_spelled (text ++ rest)) (not_half true x (tokens (text ++ rest)) (tokens rest) (e.says rest ends) ends.opens);
}

at_end : (rest : List ℕ) → EndsHanded (codes ", i32 0, i32 0)" ++ rest)
unfolding after one_at
at_end rest = record {
  ends = at_comma (codes "i32 0, i32 0)" ++ rest);
  opens = open_comma (codes "i32 0, i32 0)" ++ rest);
  whole = rw (closing_spelled rest) (rw (zero_says (comma_tok ∷ zero_tokens (tok kinds.Punct (codes ")") ∷ tokens rest))) refl);
}

no_argument : (rest : List ℕ) → begins_argument (tokens (codes ", i32 0, i32 0)" ++ rest)) ≡ false
no_argument rest = rw (closing_spelled rest) (rw (closing_says (tokens rest)) refl)

handed_shape : (first more end : List ℕ) → ((codes ", " ++ first) ++ more) ++ end ≡ 44 ∷ 32 ∷ (first ++ (more ++ end))
handed_shape first more end = simp append_assoc

-- the arguments, a comma before each
handed_reads : {Y : Type 0} (plain : Bool) (text : Y → List ℕ) (said : Y → Given) (ys : List Y) → All (λ y. SpellsElement (passed_at plain) comma EndsAtMark (text y) (said y)) ys → (rest : List ℕ)
    → handed_at (tokens (others text ys ++ (codes ", i32 0, i32 0)" ++ rest))) ≡ Some (map said ys, tokens (codes ", i32 0, i32 0)" ++ rest))
unfolding handed_at
handed_reads plain text said [] each rest = rw (no_argument rest) refl
handed_reads {Y} plain text said (y ∷ ys) each rest =
    let end : List ℕ = codes ", i32 0, i32 0)" ++ rest in
    let all : All (λ y. SpellsElement (passed_at true) begins_argument EndsHanded (text y) (said y)) (y ∷ ys) = λ k d low. handed_element plain (each k d low) in
    let found = listed (passed_at true) begins_argument EndsHanded text said (λ y rest e ends. handed_comma rest e ends) y ys end all (at_end rest) (no_argument rest) in
    let behind : EndsHanded (others text ys ++ end) = ends_others (passed_at true) begins_argument EndsHanded text said (λ y rest e ends. handed_comma rest e ends) ys end (λ k d low. all (suc k) d (omega (arith, low))) (at_end rest) in
    let more : begins_argument (tokens (44 ∷ 32 ∷ (text y ++ (others text ys ++ end)))) ≡ true = (All-head (λ one. SpellsElement (passed_at true) begins_argument EndsHanded (text one) (said one)) y ys all).goes (others text ys ++ end) behind in
    rw (handed_shape (text y) (others text ys) end) (rw more (rw (comma_spelled (text y ++ (others text ys ++ end))) (rw (append_assoc (text y) (others text ys) end) at found)))

handed_part : (all : List Given) (ts us : List Tok) → handed_at ts ≡ Some (all, us) → part some_handed ts ≡ Some (handed all ∷ [], us)
unfolding part after
handed_part all ts us e = rw e refl

handed_step : {f : List Slot} {rest : List ℕ} {first : Option Tok} {items : List Item} {Y : Type 0} (plain : Bool) (text : Y → List ℕ) (said : Y → Given) (ys : List Y)
    → All (λ y. SpellsElement (passed_at plain) comma EndsAtMark (text y) (said y)) ys → Reads f (codes ", i32 0, i32 0)" ++ rest) first items
    → Reads (some_handed ∷ f) (others text ys ++ (codes ", i32 0, i32 0)" ++ rest)) (first_of (tokens (others text ys ++ (codes ", i32 0, i32 0)" ++ rest)))) (handed (map said ys) ∷ items)
handed_step {rest = rest} plain text said ys each r =
    step_any some_handed _ (handed (map said ys) ∷ [])
    (clean-both (others text ys) (codes ", i32 0, i32 0)" ++ rest) (clean_others (passed_at plain) comma EndsAtMark text said (λ y rest e ends. at_comma (text y ++ rest)) ys each) r.clean)
    (handed_part (map said ys) _ _ (handed_reads plain text said ys each rest)) r

-- ---- a statepoint's call

others_stop : {Y : Type 0} (text : Y → List ℕ) (ys : List Y) (rest : List ℕ) → Stops (others text ys ++ (codes ", i32 0, i32 0)" ++ rest))
others_stop text [] rest = refl
others_stop text (y ∷ ys) rest = refl

-- the text of a statepoint's call, of which the arguments are this and the rest that
abbrev pub call_spelled : (id answer : List ℕ) → (parameters : List (List ℕ)) → (callee count arguments rest : List ℕ) → List ℕ
call_spelled id answer parameters callee count arguments rest =
    codes "i64 " ++ (id ++ (codes ", i32 0, ptr elementtype(" ++ (answer ++ (codes " (" ++ (joined (codes ", ") parameters ++ (codes ")) @" ++ (callee
    ++ (codes ", i32 " ++ (count ++ (codes ", i32 0" ++ (arguments ++ (codes ", i32 0, i32 0)" ++ rest))))))))))))

-- what is known of a statepoint's call
pub record SpellsCall {P Y : Type 0} (id answer callee count : List ℕ) (a b : Literal) (word : TypeWord) (ptext : P → List ℕ) (psaid : P → TypeWord) (ps : List P) (text : Y → List ℕ) (said : Y → Given) (ys : List Y) : Type 0 where
  pub numbered : SpellsLiteral id a
  pub answers : SpellsType answer word
  pub allowed_answer : is_answer_type word ≡ true
  pub parameters : ParametersRead ptext psaid ps
  pub parameters_open : Opens ptext ps
  pub named : is_name callee ≡ true
  pub counted : SpellsLiteral count b
  pub arguments : All (λ y. SpellsElement (passed_at (is_task_start callee)) comma EndsAtMark (text y) (said y)) ys
  pub own : takes_own callee (map psaid ps) (map said ys) ≡ true

-- behind the id of a statepoint, up to its live entries
pub call_step : {P Y : Type 0} {id answer callee count : List ℕ} {a b : Literal} {word : TypeWord} {ptext : P → List ℕ} {psaid : P → TypeWord} {ps : List P} {text : Y → List ℕ} {said : Y → Given} {ys : List Y}
    → SpellsCall id answer callee count a b word ptext psaid ps text said ys → {f : List Slot} {rest : List ℕ} {first : Option Tok} {items : List Item} → Reads f rest first items
    → Reads (a_number (codes "i64") ∷ m (codes ",") ∷ blank ∷ a_zero ∷ m (codes ",") ∷ blank ∷ (callee_type ++ (callee_count ++ (some_handed ∷ a_closing ∷ f))))
    (call_spelled id answer (map ptext ps) callee count (others text ys) rest) (Some (tok kinds.Word (codes "i64")))
    (literal a ∷ ty word ∷ types_said (map psaid ps) ∷ name callee ∷ literal b ∷ handed (map said ys) ∷ items)
call_step {callee = callee} {ptext = ptext} {psaid = psaid} {ps = ps} {text = text} {said = said} {ys = ys} c {rest = rest} r =
    number_step (codes "i64") refl refl refl c.numbered refl (mark 44 refl refl refl (space (zero_step refl (mark 44 refl refl refl (space
    (word (codes "ptr") refl refl refl refl (spaced (drop_at drops.BesideElementType (λ more. refl) (over_blank (word (codes "elementtype") refl refl refl refl (mark 40 refl refl refl
    (answer_step c.answers c.allowed_answer refl (space (mark 40 refl refl refl (types_step ptext psaid ps c.parameters c.parameters_open (mark 41 refl refl refl (mark 41 refl refl refl
    (spaced (drop_at drops.BesideElementType (λ more. refl) (over_blank (callee_step callee c.named refl
    (mark 44 refl refl refl (space (number_step (codes "i32") refl refl refl c.counted refl (mark 44 refl refl refl (space (zero_step (others_stop text ys rest)
    (handed_step (is_task_start callee) text said ys c.arguments (closing_step r)))))))))))))))))))))))))))))

-- ---- results

result_part : {text : List ℕ} {word : TypeWord} (t : SpellsType text word) → is_value_type word ≡ true → (suffix n : List ℕ) → ((ts : List Tok) → suffix_of word (tok kinds.Word t.first ∷ ts) ≡ suffix) → is_result_of suffix n ≡ true
    → is_name n ≡ true → (ts : List Tok) → part a_result (tok kinds.Word t.first ∷ (t.more ++ (tok kinds.Global (64 ∷ n) ∷ ts))) ≡ Some (ty word ∷ [], ts)
unfolding part after result_at one_at
result_part {text} {word} t allow suffix n same of_type is ts =
    rw (allowed text word t is_value_type allow (tok kinds.Global (64 ∷ n) ∷ ts)) (rw is (rw (same (t.more ++ (tok kinds.Global (64 ∷ n) ∷ ts))) (rw of_type refl)))

-- `T @llvm.experimental.gc.result.S`
pub result_step : {f : List Slot} {text rest : List ℕ} {word : TypeWord} {first : Option Tok} {items : List Item} (t : SpellsType text word) → is_value_type word ≡ true
    → (suffix n : List ℕ) → ((ts : List Tok) → suffix_of word (tok kinds.Word t.first ∷ ts) ≡ suffix) → is_result_of suffix n ≡ true → is_name n ≡ true → Stops rest
    → Reads f rest first items → Reads (a_result ∷ f) (text ++ (32 ∷ 64 ∷ (n ++ rest))) (Some (tok kinds.Word t.first)) (ty word ∷ items)
result_step {text = text} {rest = rest} {word = word} t allow suffix n same of_type is stop r =
    step_to a_result (text ++ (32 ∷ 64 ∷ (n ++ rest))) (tok kinds.Word t.first) (t.more ++ (tok kinds.Global (64 ∷ n) ∷ tokens rest)) (ty word ∷ [])
    (clean-both text (32 ∷ 64 ∷ (n ++ rest)) t.clean (clean-both n rest (name-clean n is) r.clean))
    (t.spelled (32 ∷ 64 ∷ (n ++ rest)) refl ∙ ap (λ ts. tok kinds.Word t.first ∷ (t.more ++ ts)) (blank_then (token_then kinds.Global (64 ∷ n) is stop (as_is rest))).is)
    (result_part t allow suffix n same of_type is (tokens rest)) r

-- ---- declarations of the three families

family_answer_part : {text : List ℕ} {word : TypeWord} (t : SpellsType text word) → is_answer_type word ≡ true → is_word (codes "token") (tok kinds.Word t.first) ≡ false
    → (ts : List Tok) → part a_family_answer (tok kinds.Word t.first ∷ (t.more ++ ts)) ≡ Some (family_answer (Some word) ∷ [], ts)
unfolding part after family_answer_at
family_answer_part {text} {word} t allow other ts = rw other (rw (allowed text word t is_answer_type allow ts) refl)

pub family_answer_step : {f : List Slot} {text rest : List ℕ} {word : TypeWord} {first : Option Tok} {items : List Item} (t : SpellsType text word) → is_answer_type word ≡ true → is_word (codes "token") (tok kinds.Word t.first) ≡ false
    → Stops rest → Reads f rest first items → Reads (a_family_answer ∷ f) (text ++ rest) (Some (tok kinds.Word t.first)) (family_answer (Some word) ∷ items)
family_answer_step {text = text} {rest = rest} {word = word} t allow other stop r =
    step a_family_answer text (tok kinds.Word t.first) (t.more ++ tokens rest) (family_answer (Some word) ∷ []) t.clean (t.spelled rest stop) (family_answer_part t allow other (tokens rest)) r

token_answer_part : (ts : List Tok) → part a_family_answer (tok kinds.Word (codes "token") ∷ ts) ≡ Some (family_answer None ∷ [], ts)
unfolding part after family_answer_at one_at
token_answer_part ts = refl

pub token_answer_step : {f : List Slot} {rest : List ℕ} {first : Option Tok} {items : List Item} → Stops rest → Reads f rest first items → Reads (a_family_answer ∷ f) (codes "token" ++ rest) (Some (tok kinds.Word (codes "token"))) (family_answer None ∷ items)
token_answer_step stop r = one a_family_answer kinds.Word (codes "token") (family_answer None ∷ []) refl refl stop token_answer_part r

family_part : (o : List ℕ) → is_name o ≡ true → is_family_name o ≡ true → (ts : List Tok) → part a_family (tok kinds.Global (64 ∷ o) ∷ ts) ≡ Some ([], ts)
unfolding part after one_at
family_part o named is ts = rw (named, is) refl

pub family_step : {f : List Slot} {rest : List ℕ} {first : Option Tok} {items : List Item} (o : List ℕ) → is_name o ≡ true → is_family_name o ≡ true → Stops rest
    → Reads f rest first items → Reads (a_family ∷ f) (64 ∷ (o ++ rest)) (Some (tok kinds.Global (64 ∷ o))) items
family_step o named is stop r = one a_family kinds.Global (64 ∷ o) [] named (name-clean o named) stop (family_part o named is) r

bracketing_part : (ts us : List Tok) → after_bracket 0 ts ≡ Some us → part a_bracketing (tok kinds.Punct (codes "(") ∷ ts) ≡ Some ([], us)
unfolding part after bracketing_at one_at
bracketing_part ts us e = rw e refl

-- any tokens in parentheses
pub bracketing_step : {f : List Slot} {rest : List ℕ} {first : Option Tok} {items : List Item} (text : List ℕ) → IsClean text → after_bracket 0 (tokens (text ++ rest)) ≡ Some (tokens rest)
    → Reads f rest first items → Reads (a_bracketing ∷ f) (40 ∷ (text ++ rest)) (Some (tok kinds.Punct (codes "("))) items
bracketing_step {rest = rest} text clean e r =
    step_to a_bracketing (40 ∷ (text ++ rest)) (tok kinds.Punct (codes "(")) (tokens (text ++ rest)) [] (clean-both text rest clean r.clean) (mark_then 40 refl (as_is (text ++ rest))).is
    (bracketing_part (tokens (text ++ rest)) (tokens rest) e) r

-- `i64, i32, ptr, i32, i32, ...)`
pub statepoint_bracket : (rest : List ℕ) → after_bracket 0 (tokens (codes "i64, i32, ptr, i32, i32, ...)" ++ rest)) ≡ Some (tokens rest)
unfolding after_bracket
statepoint_bracket rest =
    rw (token_then kinds.Word (codes "i64") refl refl (mark_then 44 refl (blank_then (token_then kinds.Word (codes "i32") refl refl (mark_then 44 refl (blank_then (token_then kinds.Word (codes "ptr") refl refl (mark_then 44 refl (blank_then
    (token_then kinds.Word (codes "i32") refl refl (mark_then 44 refl (blank_then (token_then kinds.Word (codes "i32") refl refl (mark_then 44 refl (blank_then (token_then kinds.Word (codes "...") refl refl (mark_then 41 refl (as_is rest)))))))))))))))))).is refl

-- `token, i32, i32)`
pub relocate_bracket : (rest : List ℕ) → after_bracket 0 (tokens (codes "token, i32, i32)" ++ rest)) ≡ Some (tokens rest)
unfolding after_bracket
relocate_bracket rest =
    rw (token_then kinds.Word (codes "token") refl refl (mark_then 44 refl (blank_then (token_then kinds.Word (codes "i32") refl refl (mark_then 44 refl (blank_then (token_then kinds.Word (codes "i32") refl refl (mark_then 41 refl (as_is rest))))))))).is refl

-- `token)`
pub result_bracket : (rest : List ℕ) → after_bracket 0 (tokens (codes "token)" ++ rest)) ≡ Some (tokens rest)
unfolding after_bracket
result_bracket rest = rw (token_then kinds.Word (codes "token") refl refl (mark_then 41 refl (as_is rest))).is refl
