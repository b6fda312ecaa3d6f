-- What stands at the slots of a form, as parts that pass what each slot asks.
use Rattle.std.proofs.Common.{◌≡◌, ◌∙◌, ℕ, zero, suc, refl, sym, ap, subst, Bool, true, false, ◌&&◌, List, [], ◌∷◌, ◌++◌, length, arith}
use Rattle.std.specs.Prelude.{nat_le, codes, drop, ◌==◌, if◌then◌else◌, ⊤, Option, Some, None}
use Rattle.std.specs.List.{list_all}
use Rattle.std.proofs.lemmas.Bool.{and_from, le-leb}
use Rattle.sp_text.specs.Tokens.{Tok, tok, bad, over, is_name, is_numeral}
use Rattle.sp_text.specs.declared.tokens.Kind.TheVariants as kinds
use Rattle.ir_ast.specs.declared.ops.Pred.{Pred}
use Rattle.line_parts.specs.Types.{TypeWord}
use Rattle.line_parts.specs.Types as types
use Rattle.line_parts.specs.Gives.{Found, after, one_at, with_rest, noted, one_noted_at}
use Rattle.line_tokens.specs.declared.words.Dropped.TheVariants as drops
use Rattle.line_tokens.specs.declared.literals.Literal.{Literal}
use Rattle.line_tokens.specs.Families.{is_result_of}
use Rattle.line_parts.specs.Bundles.{is_deopt_tag, kept_entry_at, bundle_at, deopt_bundle_at, live_bundle_at, bracketed_at, deopt_at, live_behind_at, some_bundles_at, bundles_at}
use Rattle.line_parts.specs.Groups.{begins_argument, handed_at, suffix_of, named_result, result_at}
use Rattle.line_tokens.specs.Marks.{is_mark, is_word, local_of, global_of, begins, stands}
use Rattle.line_tokens.specs.Numbers.{decimal, is_width, width_within, width_of, width_passes}
use Rattle.line_parts.specs.Drops.{past, past_all}
use Rattle.line_parts.specs.Parts.{Val, mark_at, name_if_any, global_at, width_at, value_at, addrspace_at, pointer_at, type_behind, spelled_type_at, allowed_type_at, case_value_at, is_value_type, is_answer_type, is_scalar_type, is_case_value}
use Rattle.line_parts.specs.Lists.{Named, Given, given, function, at_most_at, listed_at, list_to, comma, is_argument_type, argument_at, arguments_at, is_task_start, head_at, given_behind, passed_at, all_passed_at, called_at, entry_at, begins_entry}
use Rattle.line_forms.specs.Slots.{Item, Slot, part, parse, says, says_nothing, blank, m, w, g, dropped, a_managed, a_quoted, a_hash, to_brace, a_local, a_layout_name, a_width, a_type, an_answer, a_cast_type, a_value, a_case, a_pred, a_scalar, a_layout, a_place, some_fields, some_entries, a_declared, a_defined, a_called, a_strategy, a_zero, a_closing, a_family_answer, a_family, a_bracketing, a_token, a_global, some_types, some_handed, some_deopt, some_bundles, a_result, a_number}
use Rattle.line_forms.specs.Slots as items
use Rattle.std.proofs.lemmas.Option.{same_Some}

-- ---- one part after another

pub record Went {A B : Type 0} (found : Found A) (next : A → List Tok → Found B) (whole : B × List Tok) : Type 0 where
  pub x : A
  pub rest : List Tok
  pub is : found ≡ Some (x, rest)
  pub more : next x rest ≡ Some whole

pub went : {A B : Type 0} (found : Found A) (next : A → List Tok → Found B) (whole : B × List Tok) → after found next ≡ Some whole → Went found next whole
unfolding after
went None next whole e = absurd (let bad : None ≡ Some whole = e in cc)
went (Some p) next whole e = record { x = p.0; rest = p.1; is = refl; more = e }

abbrev found : {A : Type 0} → A → List Tok → Found A
found x rest = Some (x, rest)

first-of : {A : Type 0} (p q : A × List Tok) → Some p ≡ Some q → p.0 ≡ q.0
first-of {A} p q e = ap (λ (one : A × List Tok). one.0) (same_Some p q e)

first-is : {A : Type 0} (x y : A) (r s : List Tok) → found x r ≡ found y s → x ≡ y
first-is x y r s e = first-of (x, r) (y, s) e

-- what was found is what was asked for, so it passes the test
tells : {A : Type 0} (test : A → Bool) (x y : A) (r s : List Tok) → found x r ≡ found y s → test x ≡ true → test y ≡ true
tells test x y r s e h = sym (ap test (first-is x y r s e)) ∙ h

-- ---- what a test allows

chosen-by : {A : Type 0} (allows : A → Bool) (b : Bool) (x y : A) (r s : List Tok) → allows x ≡ b
    → (if b then found x r else None) ≡ found y s → allows y ≡ true
chosen-by allows true x y r s c e = tells allows x y r s e c
chosen-by {A} allows false x y r s c e = absurd (let bad : None ≡ found y s = e in cc)

chosen : {A : Type 0} (allows : A → Bool) (what : Found A) (y : A) (s : List Tok)
    → after what (λ x rest. if allows x then found x rest else None) ≡ found y s → allows y ≡ true
chosen allows what y s e =
    let h = went what (λ x rest. if allows x then found x rest else None) (y, s) e in
    chosen-by allows (allows h.x) h.x y h.rest s refl h.more

allowed-type : (allows : TypeWord → Bool) (ts : List Tok) (ty : TypeWord) (rest : List Tok) → allowed_type_at allows ts ≡ Some (ty, rest) → allows ty ≡ true
unfolding allowed_type_at
allowed-type allows ts ty rest e = chosen allows (spelled_type_at ts) ty rest e

-- ---- widths of types

-- what is found passes a test
abbrev Tells : {A : Type 0} → (A → Bool) → Found A → Type 0
Tells test None = ⊤
Tells test (Some (x, rest)) = test x ≡ true

if-tells : {A : Type 0} (test : A → Bool) (b : Bool) (x y : Found A) → Tells test x → Tells test y → Tells test (if b then x else y)
if-tells test true x y h k = h
if-tells test false x y h k = k

after-tells : {A B : Type 0} (test : B → Bool) (what : Found A) (next : A → List Tok → Found B) → ((x : A) (rest : List Tok) → Tells test (next x rest)) → Tells test (after what next)
unfolding after
after-tells test None next each = tt
after-tells test (Some (x, rest)) next each = each x rest

within-width : (bits : ℕ) (b : Bool) → is_width bits ≡ b → is_width (if b then bits else 1) ≡ true
within-width bits true is = is
within-width bits false is = refl

chosen-width : (b : Bool) (bits width : ℕ) → (if b then Some (width_within bits) else None) ≡ Some width → is_width width ≡ true
chosen-width true bits width e = ap is_width (sym (same_Some (width_within bits) width e)) ∙ within-width bits (is_width bits) refl
chosen-width false bits width e = absurd (let bad : None ≡ Some width = e in cc)

width-is : (t : Tok) (width : ℕ) → width_of t ≡ Some width → is_width width ≡ true
width-is (tok kinds.Word (i ∷ digits)) width e = chosen-width ((i == 105) && is_numeral digits) (decimal digits) width e
width-is t width e = absurd (let bad : None ≡ Some width = e in cc)

abbrev has_width : TypeWord → Bool
has_width (types.Int width) = is_width width
has_width _ = true

pointer-tells : (ts : List Tok) → Tells has_width (pointer_at ts)
unfolding pointer_at
pointer-tells ts = if-tells has_width (begins (is_word (codes "addrspace")) ts) _ _ (after-tells has_width (addrspace_at ts) _ (λ _ rest. refl)) refl

behind-tells : (t : Tok) (ts : List Tok) (width : Option ℕ) → width_of t ≡ width → Tells has_width (type_behind t ts width)
behind-tells t ts (Some width) is = width-is t width is
behind-tells t ts None is = if-tells has_width (is_word (codes "void") t) _ _ refl (if-tells has_width (is_word (codes "ptr") t) _ _ (pointer-tells ts) tt)

spelled-tells : (ts : List Tok) → Tells has_width (spelled_type_at ts)
unfolding spelled_type_at
spelled-tells [] = tt
spelled-tells (t ∷ ts) = behind-tells t ts (width_of t) refl

-- what a test allows, with a width if it is an integer's
abbrev pub read_as : (TypeWord → Bool) → TypeWord → Bool
read_as allows ty = allows ty && has_width ty

type-read : (allows : TypeWord → Bool) (ts : List Tok) (ty : TypeWord) (rest : List Tok) → allowed_type_at allows ts ≡ Some (ty, rest) → read_as allows ty ≡ true
unfolding allowed_type_at
type-read allows ts ty rest e =
    let h = went (spelled_type_at ts) (λ x rest. if allows x then found x rest else None) (ty, rest) e in
    let wide : has_width h.x ≡ true = subst (λ (one : Found TypeWord). Tells has_width one) h.is (spelled-tells ts) in
    chosen-by (read_as allows) (allows h.x) h.x ty h.rest rest (rw wide (and-true (allows h.x))) h.more
  where
    and-true : (b : Bool) → (b && true) ≡ b
    and-true true = refl
    and-true false = refl

width-read : (ts : List Tok) (width : ℕ) (rest : List Tok) → width_at ts ≡ Some (width, rest) → is_width width ≡ true
unfolding one_noted_at
width-read [] width rest e = absurd (let bad : None ≡ found width rest = e in cc)
width-read (over ∷ ts) width rest e = absurd (let bad : None ≡ found width rest = e in cc)
width-read (bad ∷ ts) width rest e = absurd (let none : None ≡ found width rest = e in cc)
width-read (tok kind bytes ∷ ts) width rest e = by (width_of (tok kind bytes)) refl e
  where
    by : (said : Option ℕ) → width_of (tok kind bytes) ≡ said → with_rest (noted (width_passes (tok kind bytes)) ts) said ≡ Some (width, rest) → is_width width ≡ true
    by None is e = absurd (let bad : None ≡ found width rest = e in cc)
    by (Some one) is e = tells is_width one width _ rest e (width-is (tok kind bytes) one is)

case-value : (ts : List Tok) (value : Val) (rest : List Tok) → case_value_at ts ≡ Some (value, rest) → is_case_value value ≡ true
unfolding case_value_at
case-value ts value rest e = chosen is_case_value (value_at ts) value rest e

-- ---- names

abbrev pub is_named : Option (List ℕ) → Bool
is_named None = true
is_named (Some name) = is_name name

named-is : (bytes : List ℕ) (b : Bool) → is_name bytes ≡ b → is_named (if b then Some bytes else None) ≡ true
named-is bytes true e = e
named-is bytes false e = refl

local-named : (t : Tok) → is_named (local_of t) ≡ true
local-named (tok kinds.Local bytes) = named-is (drop 1 bytes) (is_name (drop 1 bytes)) refl
local-named t = refl

global-named : (t : Tok) → is_named (global_of t) ≡ true
global-named (tok kinds.Global bytes) = named-is (drop 1 bytes) (is_name (drop 1 bytes)) refl
global-named t = refl

name-by : (ts : List Tok) (o : Option (List ℕ)) (name : List ℕ) (rest : List Tok) → is_named o ≡ true → with_rest ts o ≡ Some (name, rest) → is_name name ≡ true
name-by ts None name rest h e = absurd (let none : None ≡ found name rest = e in cc)
name-by ts (Some bytes) name rest h e = tells is_name bytes name ts rest e h

one-name : (says : Tok → Option (List ℕ)) → ((t : Tok) → is_named (says t) ≡ true)
    → (ts : List Tok) (name : List ℕ) (rest : List Tok) → one_at says ts ≡ Some (name, rest) → is_name name ≡ true
unfolding one_at
one-name says all [] name rest e = absurd (let none : None ≡ found name rest = e in cc)
one-name says all (over ∷ ts) name rest e = absurd (let none : None ≡ found name rest = e in cc)
one-name says all (bad ∷ ts) name rest e = name-by ts (says bad) name rest (all bad) e
one-name says all (tok kind bytes ∷ ts) name rest e = name-by ts (says (tok kind bytes)) name rest (all (tok kind bytes)) e

if_any-named : (ts : List Tok) → is_named (name_if_any ts).0 ≡ true
if_any-named [] = refl
if_any-named (t ∷ ts) = by (local_of t) (local-named t)
  where
    by : (o : Option (List ℕ)) → is_named o ≡ true → is_named (let p : Option (List ℕ) × List Tok = elim o [ None ↦ (None, t ∷ ts) | Some name ↦ (Some name, ts) ] in p).0 ≡ true
    by None h = refl
    by (Some name) h = h

-- ---- lists

pub record Listed {A : Type 0} (test : A → Bool) (xs : List A) : Type 0 where
  pub all : list_all test xs ≡ true
  pub some : nat_le 1 (length xs) ≡ true

listed-is : {A : Type 0} (test : A → Bool) (xs ys : List A) → xs ≡ ys → Listed test xs → Listed test ys
listed-is test xs ys e h = rw (← e) h

some-more : {A : Type 0} (x : A) (xs : List A) → nat_le 1 (length (x ∷ xs)) ≡ true
some-more x xs = le-leb 1 (length (x ∷ xs)) (omega arith)

listed-by : {A : Type 0} (test : A → Bool) (element : List Tok → Found A) (goes_on : List Tok → Bool) (b : Bool) (n : ℕ) (x : A) (mid : List Tok) (xs : List A) (rest : List Tok)
    → test x ≡ true
    → ((ys : List A) (end : List Tok) → at_most_at element goes_on n (past (is_mark (codes ",")) mid) ≡ Some (ys, end) → Listed test ys)
    → (if b then after (at_most_at element goes_on n (past (is_mark (codes ",")) mid)) (λ xs end. Some (x ∷ xs, end)) else Some (x ∷ [], mid)) ≡ Some (xs, rest)
    → Listed test xs
listed-by test element goes_on false n x mid xs rest t more e =
    listed-is test (x ∷ []) xs (first-is (x ∷ []) xs mid rest e)
    (record { all = and_from (test x) true t refl; some = some-more x [] })
listed-by test element goes_on true n x mid xs rest t more e =
    let h = went (at_most_at element goes_on n (past (is_mark (codes ",")) mid)) (λ ys end. Some (x ∷ ys, end)) (xs, rest) e in
    let l = more h.x h.rest h.is in
    listed-is test (x ∷ h.x) xs (first-is (x ∷ h.x) xs h.rest rest h.more)
    (record { all = and_from (test x) (list_all test h.x) t l.all; some = some-more x h.x })

at_most-listed : {A : Type 0} (test : A → Bool) (element : List Tok → Found A) (goes_on : List Tok → Bool)
    → ((ts : List Tok) (x : A) (rest : List Tok) → element ts ≡ Some (x, rest) → test x ≡ true)
    → (n : ℕ) (ts : List Tok) (xs : List A) (rest : List Tok) → at_most_at element goes_on n ts ≡ Some (xs, rest) → Listed test xs
unfolding at_most_at
at_most-listed test element goes_on one zero ts xs rest e = absurd (let bad : None ≡ found xs rest = e in cc)
at_most-listed test element goes_on one (suc n) ts xs rest e =
    let h = went (element ts) (λ x mid.
    if goes_on mid then after (at_most_at element goes_on n (past (is_mark (codes ",")) mid)) (λ xs end. Some (x ∷ xs, end))
    else Some (x ∷ [], mid)) (xs, rest) e in
    listed-by test element goes_on (goes_on h.rest) n h.x h.rest xs rest (one ts h.x h.rest h.is)
    (λ ys end f. at_most-listed test element goes_on one n (past (is_mark (codes ",")) h.rest) ys end f) h.more

listed : {A : Type 0} (test : A → Bool) (element : List Tok → Found A) (goes_on : List Tok → Bool)
    → ((ts : List Tok) (x : A) (rest : List Tok) → element ts ≡ Some (x, rest) → test x ≡ true)
    → (ts : List Tok) (xs : List A) (rest : List Tok) → listed_at element goes_on ts ≡ Some (xs, rest) → Listed test xs
unfolding listed_at
listed test element goes_on one ts xs rest e = at_most-listed test element goes_on one (length ts) ts xs rest e

list-by : {A : Type 0} (test : A → Bool) (element : List Tok → Found A)
    → ((ts : List Tok) (x : A) (rest : List Tok) → element ts ≡ Some (x, rest) → test x ≡ true)
    → (b : Bool) (ts : List Tok) (xs : List A) (rest : List Tok)
    → (if b then Some ([], ts) else listed_at element comma ts) ≡ Some (xs, rest) → list_all test xs ≡ true
list-by {A} test element one true ts xs rest e =
    let none : [] ≡ xs = first-is [] xs ts rest e in ap (λ (ys : List A). list_all test ys) (sym none)
list-by test element one false ts xs rest e = (listed test element comma one ts xs rest e).all

list-all : {A : Type 0} (test : A → Bool) (element : List Tok → Found A) (closing : List ℕ)
    → ((ts : List Tok) (x : A) (rest : List Tok) → element ts ≡ Some (x, rest) → test x ≡ true)
    → (ts : List Tok) (xs : List A) (rest : List Tok) → list_to element closing ts ≡ Some (xs, rest) → list_all test xs ≡ true
unfolding list_to
list-all test element closing one ts xs rest e = list-by test element one (begins (is_mark closing) ts) ts xs rest e

-- ---- heads and calls

abbrev pub is_argument : Bool → Named → Bool
is_argument plain one = read_as (is_argument_type plain) one.ty && is_named one.name

argument-is : (plain : Bool) (ts : List Tok) (one : Named) (rest : List Tok) → argument_at plain ts ≡ Some (one, rest) → is_argument plain one ≡ true
unfolding argument_at
argument-is plain ts one rest e =
    let h = went (allowed_type_at (is_argument_type plain) ts) (λ ty ts.
    let named = name_if_any (past_all drops.Groups ts) in Some (record { ty = ty; name = named.0 }, named.1)) (one, rest) e in
    let named = name_if_any (past_all drops.Groups h.rest) in
    tells (is_argument plain) (record { ty = h.x; name = named.0 }) one named.1 rest h.more
    (and_from (read_as (is_argument_type plain) h.x) (is_named named.0) (type-read (is_argument_type plain) ts h.x h.rest h.is) (if_any-named (past_all drops.Groups h.rest)))

abbrev takes : List ℕ × List Named → Bool
takes head = is_name head.0 && list_all (is_argument false) head.1

head-is : (ts : List Tok) (head : List ℕ × List Named) (rest : List Tok) → head_at false ts ≡ Some (head, rest) → takes head ≡ true
unfolding head_at
head-is ts head rest e =
    let a = went (global_at ts) (λ name ts. after (mark_at (codes "(") ts) (λ _ ts.
    after (arguments_at false ts) (λ arguments ts. after (mark_at (codes ")") ts) (λ _ ts.
    Some ((name, arguments), ts))))) (head, rest) e in
    let b = went (mark_at (codes "(") a.rest) (λ _ ts.
    after (arguments_at false ts) (λ arguments ts. after (mark_at (codes ")") ts) (λ _ ts.
    Some ((a.x, arguments), ts)))) (head, rest) a.more in
    let c = went (arguments_at false b.rest) (λ arguments ts. after (mark_at (codes ")") ts) (λ _ ts.
    Some ((a.x, arguments), ts))) (head, rest) b.more in
    let d = went (mark_at (codes ")") c.rest) (λ _ ts. Some ((a.x, c.x), ts)) (head, rest) c.more in
    tells takes (a.x, c.x) head d.rest rest d.more
    (and_from (is_name a.x) (list_all (is_argument false) c.x) (one-name global_of global-named ts a.x a.rest a.is)
    (list-all (is_argument false) (argument_at false) (codes ")") (argument-is false) b.rest c.x c.rest c.is))

-- what is passed has a type of values
abbrev pub passes : Given → Bool
passes (given ty value) = read_as is_value_type ty
passes (function name) = true

given-by : (plain : Bool) (ty : TypeWord) (ts : List Tok) (one : Given) (rest : List Tok) → read_as (is_argument_type plain) ty ≡ true
    → given_behind ty ts ≡ Some (one, rest) → passes one ≡ true
given-by plain types.Plain ts one rest c e =
    let h = went (global_at ts) (λ name ts. Some (function name, ts)) (one, rest) e in
    tells passes (function h.x) one h.rest rest h.more refl
given-by plain types.Void ts one rest c e =
    let h = went (value_at ts) (λ value ts. Some (given types.Void value, ts)) (one, rest) e in
    tells passes (given types.Void h.x) one h.rest rest h.more c
given-by plain types.Managed ts one rest c e =
    let h = went (value_at ts) (λ value ts. Some (given types.Managed value, ts)) (one, rest) e in
    tells passes (given types.Managed h.x) one h.rest rest h.more c
given-by plain (types.Int width) ts one rest c e =
    let h = went (value_at ts) (λ value ts. Some (given (types.Int width) value, ts)) (one, rest) e in
    tells passes (given (types.Int width) h.x) one h.rest rest h.more c

passed-type : (plain : Bool) (ts : List Tok) (one : Given) (rest : List Tok) → passed_at plain ts ≡ Some (one, rest) → passes one ≡ true
unfolding passed_at
passed-type plain ts one rest e =
    let h = went (allowed_type_at (is_argument_type plain) ts) (λ ty ts. given_behind ty (past_all drops.Groups ts)) (one, rest) e in
    given-by plain h.x (past_all drops.Groups h.rest) one rest (type-read (is_argument_type plain) ts h.x h.rest h.is) h.more

abbrev all_pass : List ℕ × List Given → Bool
all_pass call = list_all passes call.1

called-types : (ts : List Tok) (call : List ℕ × List Given) (rest : List Tok) → called_at ts ≡ Some (call, rest) → all_pass call ≡ true
unfolding called_at
called-types ts call rest e =
    let a = went (global_at ts) (λ name ts. after (mark_at (codes "(") ts) (λ _ ts.
    after (all_passed_at (is_task_start name) ts) (λ passed ts. after (mark_at (codes ")") ts) (λ _ ts.
    Some ((name, passed), ts))))) (call, rest) e in
    let b = went (mark_at (codes "(") a.rest) (λ _ ts.
    after (all_passed_at (is_task_start a.x) ts) (λ passed ts. after (mark_at (codes ")") ts) (λ _ ts.
    Some ((a.x, passed), ts)))) (call, rest) a.more in
    let c = went (all_passed_at (is_task_start a.x) b.rest) (λ passed ts. after (mark_at (codes ")") ts) (λ _ ts.
    Some ((a.x, passed), ts))) (call, rest) b.more in
    let d = went (mark_at (codes ")") c.rest) (λ _ ts. Some ((a.x, c.x), ts)) (call, rest) c.more in
    tells all_pass (a.x, c.x) call d.rest rest d.more
    (list-all passes (passed_at (is_task_start a.x)) (codes ")") (passed-type (is_task_start a.x)) b.rest c.x c.rest c.is)

-- ---- statepoints

tells-if : {A : Type 0} (test : A → Bool) (b : Bool) (x y : A) (r s : List Tok) → (if b then found x r else None) ≡ found y s → test x ≡ true → test y ≡ true
tells-if test true x y r s e h = tells test x y r s e h
tells-if {A} test false x y r s e h = absurd (let bad : None ≡ found y s = e in cc)

handed-by : (b : Bool) (ts : List Tok) (xs : List Given) (rest : List Tok)
    → (if b then listed_at (passed_at true) begins_argument (past (is_mark (codes ",")) ts) else Some ([], ts)) ≡ Some (xs, rest) → list_all passes xs ≡ true
handed-by true ts xs rest e = (listed passes (passed_at true) begins_argument (passed-type true) (past (is_mark (codes ",")) ts) xs rest e).all
handed-by false ts xs rest e = let none : [] ≡ xs = first-is [] xs ts rest e in ap (λ (ys : List Given). list_all passes ys) (sym none)

handed-types : (ts : List Tok) (xs : List Given) (rest : List Tok) → handed_at ts ≡ Some (xs, rest) → list_all passes xs ≡ true
unfolding handed_at
handed-types ts xs rest e = handed-by (begins_argument ts) ts xs rest e

result-type : (ts : List Tok) (ty : TypeWord) (rest : List Tok) → result_at ts ≡ Some (ty, rest) → read_as is_value_type ty ≡ true
unfolding result_at
result-type ts ty rest e =
    let a = went (allowed_type_at is_value_type ts) (λ ty rest. after (global_at rest) (λ name end. named_result ty (suffix_of ty ts) name end)) (ty, rest) e in
    let b = went (global_at a.rest) (λ name end. named_result a.x (suffix_of a.x ts) name end) (ty, rest) a.more in
    tells-if (read_as is_value_type) (is_result_of (suffix_of a.x ts) b.x) a.x ty b.rest rest b.more (type-read is_value_type ts a.x a.rest a.is)

-- ---- bundles

-- the type of a value that a bundle spells
abbrev pub is_kept : Val × TypeWord → Bool
is_kept used = read_as is_value_type used.1

entry-kept : (ts : List Tok) (one : Val × TypeWord) (rest : List Tok) → kept_entry_at ts ≡ Some (one, rest) → is_kept one ≡ true
unfolding kept_entry_at
entry-kept ts one rest e =
    let a = went (allowed_type_at is_value_type ts) (λ ty ts. after (value_at ts) (λ value ts. Some ((value, ty), ts))) (one, rest) e in
    let b = went (value_at a.rest) (λ value ts. Some ((value, a.x), ts)) (one, rest) a.more in
    tells is_kept (b.x, a.x) one b.rest rest b.more (type-read is_value_type ts a.x a.rest a.is)

bundle-kept : (ts : List Tok) (kept : List (Val × TypeWord)) (rest : List Tok) → deopt_bundle_at ts ≡ Some (kept, rest) → list_all is_kept kept ≡ true
unfolding bundle_at
bundle-kept ts kept rest e =
    let a = went (one_at (stands is_deopt_tag) ts) (λ _ ts. after (mark_at (codes "(") ts) (λ _ ts.
    after (list_to kept_entry_at (codes ")") ts) (λ entries ts. after (mark_at (codes ")") ts) (λ _ ts. Some (entries, ts))))) (kept, rest) e in
    let b = went (mark_at (codes "(") a.rest) (λ _ ts.
    after (list_to kept_entry_at (codes ")") ts) (λ entries ts. after (mark_at (codes ")") ts) (λ _ ts. Some (entries, ts)))) (kept, rest) a.more in
    let c = went (list_to kept_entry_at (codes ")") b.rest) (λ entries ts. after (mark_at (codes ")") ts) (λ _ ts. Some (entries, ts))) (kept, rest) b.more in
    let d = went (mark_at (codes ")") c.rest) (λ _ ts. Some (c.x, ts)) (kept, rest) c.more in
    tells (list_all is_kept) c.x kept d.rest rest d.more (list-all is_kept kept_entry_at (codes ")") entry-kept b.rest c.x c.rest c.is)

-- what passes a test inside brackets passes it
in-brackets : {A : Type 0} (test : A → Bool) (inner : List Tok → Found A)
    → ((ts : List Tok) (x : A) (rest : List Tok) → inner ts ≡ Some (x, rest) → test x ≡ true)
    → (ts : List Tok) (x : A) (rest : List Tok) → bracketed_at inner ts ≡ Some (x, rest) → test x ≡ true
unfolding bracketed_at
in-brackets test inner passes ts x rest e =
    let a = went (mark_at (codes "[") ts) (λ _ ts. after (inner ts) (λ said ts. after (mark_at (codes "]") ts) (λ _ ts. Some (said, ts)))) (x, rest) e in
    let b = went (inner a.rest) (λ said ts. after (mark_at (codes "]") ts) (λ _ ts. Some (said, ts))) (x, rest) a.more in
    let c = went (mark_at (codes "]") b.rest) (λ _ ts. Some (b.x, ts)) (x, rest) b.more in
    tells test b.x x c.rest rest c.more (passes a.rest b.x b.rest b.is)

-- brackets, or nothing
maybe-brackets : {A : Type 0} (test : A → Bool) (inner : List Tok → Found A)
    → ((ts : List Tok) (x : A) (rest : List Tok) → inner ts ≡ Some (x, rest) → test x ≡ true)
    → (none : A) → test none ≡ true → (b : Bool) (ts : List Tok) (x : A) (rest : List Tok)
    → (if b then bracketed_at inner ts else found none ts) ≡ Some (x, rest) → test x ≡ true
maybe-brackets test inner passes none empty true ts x rest e = in-brackets test inner passes ts x rest e
maybe-brackets test inner passes none empty false ts x rest e = tells test none x ts rest e empty

deopt-kept : (ts : List Tok) (kept : List (Val × TypeWord)) (rest : List Tok) → deopt_at ts ≡ Some (kept, rest) → list_all is_kept kept ≡ true
unfolding deopt_at
deopt-kept ts kept rest e = maybe-brackets (list_all is_kept) deopt_bundle_at bundle-kept [] refl (begins (is_mark (codes "[")) ts) ts kept rest e

abbrev pub keeps : List (Val × TypeWord) × List Val → Bool
keeps both = list_all is_kept both.0

bundles-by : (b : Bool) (ts : List Tok) (both : List (Val × TypeWord) × List Val) (rest : List Tok)
    → (if b then after (deopt_bundle_at ts) (λ kept ts. after (live_behind_at ts) (λ live ts. Some ((kept, live), ts)))
    else after (live_bundle_at ts) (λ live ts. Some (([], live), ts))) ≡ Some (both, rest) → keeps both ≡ true
bundles-by true ts both rest e =
    let a = went (deopt_bundle_at ts) (λ kept ts. after (live_behind_at ts) (λ live ts. Some ((kept, live), ts))) (both, rest) e in
    let b = went (live_behind_at a.rest) (λ live ts. Some ((a.x, live), ts)) (both, rest) a.more in
    tells keeps (a.x, b.x) both b.rest rest b.more (bundle-kept ts a.x a.rest a.is)
bundles-by false ts both rest e =
    let a = went (live_bundle_at ts) (λ live ts. Some (([], live), ts)) (both, rest) e in
    tells keeps ([], a.x) both a.rest rest a.more refl

inner-keeps : (ts : List Tok) (both : List (Val × TypeWord) × List Val) (rest : List Tok) → some_bundles_at ts ≡ Some (both, rest) → keeps both ≡ true
unfolding some_bundles_at
inner-keeps ts both rest e = bundles-by (begins is_deopt_tag ts) ts both rest e

bundles-keep : (ts : List Tok) (both : List (Val × TypeWord) × List Val) (rest : List Tok) → bundles_at ts ≡ Some (both, rest) → keeps both ≡ true
unfolding bundles_at
bundles-keep ts both rest e = maybe-brackets keeps some_bundles_at inner-keeps ([], []) refl (begins (is_mark (codes "[")) ts) ts both rest e

-- ---- what stands at slots

-- what passes a test
pub record Passing {A : Type 0} (test : A → Bool) : Type 0 where
  pub x : A
  pub is : test x ≡ true

abbrev pub has_entry : List (Val × List ℕ) → Bool
has_entry entries = nat_le 1 (length entries)

abbrev At : Slot → Type 0 → Type 0
At a_family_answer rest = Option TypeWord × rest
At a_local rest = Passing is_name × rest
At a_layout_name rest = Passing is_name × rest
At a_width rest = Passing is_width × rest
At a_type rest = Passing (read_as is_value_type) × rest
At an_answer rest = Passing (read_as is_answer_type) × rest
At a_cast_type rest = TypeWord × rest
At a_value rest = Val × rest
At a_case rest = Passing is_case_value × rest
At a_pred rest = Pred × rest
At a_scalar rest = Passing is_scalar_type × rest
At a_layout rest = List ℕ × rest
At a_place rest = Option Literal × rest
At some_fields rest = List TypeWord × rest
At some_entries rest = Passing has_entry × rest
At a_declared rest = (List ℕ × List Named) × rest
At a_defined rest = Passing takes × rest
At a_called rest = Passing all_pass × rest
At a_strategy rest = Option (List ℕ) × rest
At a_token rest = List ℕ × rest
At a_global rest = List ℕ × rest
At some_types rest = List TypeWord × rest
At some_handed rest = Passing (list_all passes) × rest
At some_deopt rest = Passing (list_all is_kept) × rest
At some_bundles rest = Passing keeps × rest
At a_result rest = Passing (read_as is_value_type) × rest
At (a_number of_type) rest = Literal × rest
At _ rest = rest

-- what stands at the slots of a form
abbrev pub Parts : List Slot → Type 0
Parts [] = Unit {0}
Parts (s ∷ f) = At s (Parts f)

abbrev saying : (s : Slot) (f : Type 0) → (f → List Item) → At s f → List Item
saying a_family_answer f rest a = items.family_answer a.0 ∷ rest a.1
saying a_local f rest a = items.name a.0.x ∷ rest a.1
saying a_layout_name f rest a = items.layout_name a.0.x ∷ rest a.1
saying a_width f rest a = items.width a.0.x ∷ rest a.1
saying a_type f rest a = items.ty a.0.x ∷ rest a.1
saying an_answer f rest a = items.ty a.0.x ∷ rest a.1
saying a_cast_type f rest a = items.ty a.0 ∷ rest a.1
saying a_value f rest a = items.value a.0 ∷ rest a.1
saying a_case f rest a = items.value a.0.x ∷ rest a.1
saying a_pred f rest a = items.pred a.0 ∷ rest a.1
saying a_scalar f rest a = items.scalar a.0.x ∷ rest a.1
saying a_layout f rest a = items.layout a.0 ∷ rest a.1
saying a_place f rest a = items.place a.0 ∷ rest a.1
saying some_fields f rest a = items.fields a.0 ∷ rest a.1
saying some_entries f rest a = items.entries a.0.x ∷ rest a.1
saying a_declared f rest a = items.declared a.0.0 a.0.1 ∷ rest a.1
saying a_defined f rest a = items.defined a.0.x.0 a.0.x.1 ∷ rest a.1
saying a_called f rest a = items.called a.0.x.0 a.0.x.1 ∷ rest a.1
saying a_strategy f rest a = items.strategy a.0 ∷ rest a.1
saying a_token f rest a = items.name a.0 ∷ rest a.1
saying a_global f rest a = items.name a.0 ∷ rest a.1
saying some_types f rest a = items.types a.0 ∷ rest a.1
saying some_handed f rest a = items.handed a.0.x ∷ rest a.1
saying some_deopt f rest a = items.deopt a.0.x ∷ rest a.1
saying some_bundles f rest a = items.bundles a.0.x.0 a.0.x.1 ∷ rest a.1
saying a_result f rest a = items.ty a.0.x ∷ rest a.1
saying (a_number of_type) f rest a = items.literal a.0 ∷ rest a.1
saying blank f rest a = rest a
saying (m text) f rest a = rest a
saying (w text) f rest a = rest a
saying (g text) f rest a = rest a
saying (dropped what) f rest a = rest a
saying a_managed f rest a = rest a
saying a_quoted f rest a = rest a
saying a_hash f rest a = rest a
saying to_brace f rest a = rest a
saying a_zero f rest a = rest a
saying a_closing f rest a = rest a
saying a_family f rest a = rest a
saying a_bracketing f rest a = rest a

abbrev pub items_of : (f : List Slot) → Parts f → List Item
items_of [] a = []
items_of (s ∷ f) a = saying s (Parts f) (items_of f) a

-- parts that say this
abbrev pub Told : (R : Type 0) → (R → List Item) → List Item → Type 0
Told R of_parts says = (a : R) × (of_parts a ≡ says)

module _ {R : Type 0} (rest : R → List Item) (a : R) (here more : List Item) (behind : List Tok) (is : rest a ≡ more) where
  quiet : here ≡ [] → Told R rest (here ++ more)
  quiet none = (a, is ∙ sym (ap (λ (front : List Item). front ++ more) none))

  passed_over : {A : Type 0} (what : Found A) → says_nothing what ≡ Some (here, behind) → Told R rest (here ++ more)
  unfolding after
  passed_over None e = absurd (let bad : None ≡ Some (here, behind) = e in cc)
  passed_over (Some (x, left)) e = quiet (sym (first-is [] here left behind e))

  -- a part that says this
  one_told : {A B : Type 0} (item : A → Item) (view : B → A) (b : B) → here ≡ item (view b) ∷ [] → Told (B × R) (λ both. item (view both.0) ∷ rest both.1) (here ++ more)
  one_told item view b one = ((b, a), ap (λ (items : List Item). item (view b) ∷ items) is ∙ sym (ap (λ (front : List Item). front ++ more) one))

  told : {A : Type 0} (item : A → Item) (what : Found A) → says item what ≡ Some (here, behind) → Told (A × R) (λ both. item both.0 ∷ rest both.1) (here ++ more)
  unfolding after
  told item None e = absurd (let bad : None ≡ Some (here, behind) = e in cc)
  told item (Some (x, left)) e = one_told item (λ x. x) x (sym (first-is (item x ∷ []) here left behind e))

  tested : {A : Type 0} (test : A → Bool) (item : A → Item) (what : Found A) → ((x : A) (left : List Tok) → what ≡ Some (x, left) → test x ≡ true)
      → says item what ≡ Some (here, behind) → Told (Passing test × R) (λ both. item both.0.x ∷ rest both.1) (here ++ more)
  unfolding after
  tested test item None passes e = absurd (let bad : None ≡ Some (here, behind) = e in cc)
  tested {A} test item (Some (x, left)) passes e =
      let one : Passing test = record { x = x; is = passes x left refl } in
      one_told item (λ (p : Passing test). p.x) one (sym (first-is (item x ∷ []) here left behind e))

part_told : (s : Slot) (f : List Slot) (ts : List Tok) (here more : List Item) (behind : List Tok) → part s ts ≡ Some (here, behind)
    → (a : Parts f) → items_of f a ≡ more → Told (Parts (s ∷ f)) (items_of (s ∷ f)) (here ++ more)
unfolding part
part_told a_family_answer f ts here more behind e a is = told (items_of f) a here more behind is items.family_answer _ e
part_told a_local f ts here more behind e a is = tested (items_of f) a here more behind is is_name items.name _ (one-name local_of local-named ts) e
part_told a_layout_name f ts here more behind e a is = tested (items_of f) a here more behind is is_name items.layout_name _ (one-name local_of local-named ts) e
part_told a_width f ts here more behind e a is = tested (items_of f) a here more behind is is_width items.width _ (width-read ts) e
part_told a_type f ts here more behind e a is = tested (items_of f) a here more behind is (read_as is_value_type) items.ty _ (type-read is_value_type ts) e
part_told an_answer f ts here more behind e a is = tested (items_of f) a here more behind is (read_as is_answer_type) items.ty _ (type-read is_answer_type ts) e
part_told a_cast_type f ts here more behind e a is = told (items_of f) a here more behind is items.ty _ e
part_told a_value f ts here more behind e a is = told (items_of f) a here more behind is items.value _ e
part_told a_case f ts here more behind e a is = tested (items_of f) a here more behind is is_case_value items.value _ (case-value ts) e
part_told a_pred f ts here more behind e a is = told (items_of f) a here more behind is items.pred _ e
part_told a_scalar f ts here more behind e a is = tested (items_of f) a here more behind is is_scalar_type items.scalar _ (allowed-type is_scalar_type ts) e
part_told a_layout f ts here more behind e a is = told (items_of f) a here more behind is items.layout _ e
part_told a_place f ts here more behind e a is = told (items_of f) a here more behind is items.place _ e
part_told some_fields f ts here more behind e a is = told (items_of f) a here more behind is items.fields _ e
part_told some_entries f ts here more behind e a is =
    tested (items_of f) a here more behind is has_entry items.entries _ (λ xs left h. (listed (λ (one : Val × List ℕ). true) entry_at begins_entry (λ ts one rest k. refl) ts xs left h).some) e
part_told a_declared f ts here more behind e a is = told (items_of f) a here more behind is (λ (head : List ℕ × List Named). items.declared head.0 head.1) _ e
part_told a_defined f ts here more behind e a is =
    tested (items_of f) a here more behind is takes (λ (head : List ℕ × List Named). items.defined head.0 head.1) _ (head-is ts) e
part_told a_called f ts here more behind e a is =
    tested (items_of f) a here more behind is all_pass (λ (call : List ℕ × List Given). items.called call.0 call.1) _ (called-types ts) e
part_told a_strategy f ts here more behind e a is = told (items_of f) a here more behind is items.strategy _ e
part_told a_token f ts here more behind e a is = told (items_of f) a here more behind is items.name _ e
part_told a_global f ts here more behind e a is = told (items_of f) a here more behind is items.name _ e
part_told some_types f ts here more behind e a is = told (items_of f) a here more behind is items.types _ e
part_told some_handed f ts here more behind e a is = tested (items_of f) a here more behind is (list_all passes) items.handed _ (handed-types ts) e
part_told some_deopt f ts here more behind e a is = tested (items_of f) a here more behind is (list_all is_kept) items.deopt _ (deopt-kept ts) e
part_told some_bundles f ts here more behind e a is =
    tested (items_of f) a here more behind is keeps (λ (both : List (Val × TypeWord) × List Val). items.bundles both.0 both.1) _ (bundles-keep ts) e
part_told a_result f ts here more behind e a is = tested (items_of f) a here more behind is (read_as is_value_type) items.ty _ (result-type ts) e
part_told (a_number of_type) f ts here more behind e a is = told (items_of f) a here more behind is items.literal _ e
part_told blank f ts here more behind e a is = quiet (items_of f) a here more behind is (sym (first-is [] here ts behind e))
part_told (m text) f ts here more behind e a is = passed_over (items_of f) a here more behind is _ e
part_told (w text) f ts here more behind e a is = passed_over (items_of f) a here more behind is _ e
part_told (g text) f ts here more behind e a is = passed_over (items_of f) a here more behind is _ e
part_told (dropped what) f ts here more behind e a is = quiet (items_of f) a here more behind is (sym (first-is [] here _ behind e))
part_told a_managed f ts here more behind e a is = passed_over (items_of f) a here more behind is _ e
part_told a_quoted f ts here more behind e a is = passed_over (items_of f) a here more behind is _ e
part_told a_hash f ts here more behind e a is = passed_over (items_of f) a here more behind is _ e
part_told to_brace f ts here more behind e a is = passed_over (items_of f) a here more behind is _ e
part_told a_zero f ts here more behind e a is = passed_over (items_of f) a here more behind is _ e
part_told a_closing f ts here more behind e a is = passed_over (items_of f) a here more behind is _ e
part_told a_family f ts here more behind e a is = passed_over (items_of f) a here more behind is _ e
part_told a_bracketing f ts here more behind e a is = passed_over (items_of f) a here more behind is _ e

pub parse_told : (f : List Slot) (ts : List Tok) (whole : List Item) (behind : List Tok) → parse f ts ≡ Some (whole, behind) → Told (Parts f) (items_of f) whole
unfolding parse
parse_told [] ts whole behind e = (tt, first-is [] whole ts behind e)
parse_told (s ∷ f) ts whole behind e =
    let first = went (part s ts) (λ here left. after (parse f left) (λ more end. Some (here ++ more, end))) (whole, behind) e in
    let rest = went (parse f first.rest) (λ more end. Some (first.x ++ more, end)) (whole, behind) first.more in
    let more = parse_told f first.rest rest.x rest.rest rest.is in
    let same : first.x ++ rest.x ≡ whole = first-is (first.x ++ rest.x) whole rest.rest behind rest.more in
    subst (Told (Parts (s ∷ f)) (items_of (s ∷ f))) same (part_told s f ts first.x rest.x first.rest first.is more.0 more.1)
