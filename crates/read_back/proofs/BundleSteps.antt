-- The bundles of a call and of a statepoint, where a line prints them.
use Rattle.std.proofs.Common.{◌≡◌, refl, ap, ◌∙◌, ℕ, true, List, [], ◌∷◌, ◌++◌, map, Option, Some, None, codes}
use Rattle.std.specs.List.{All}
use Rattle.sp_text.specs.Tokens.{Tok, tok, tokens}
use Rattle.sp_text.specs.declared.tokens.Kind.TheVariants as kinds
use Rattle.line_parts.specs.Types.{TypeWord}
use Rattle.line_parts.specs.Types as types
use Rattle.ir_printer.specs.Lists.{joined}
use Rattle.line_parts.specs.Gives.{Found, after, one_at, one_noted_at}
use Rattle.line_parts.specs.Lists.{comma, list_to}
use Rattle.line_parts.specs.Parts.{Val, is_value_type, is_managed}
use Rattle.line_parts.specs.Bundles.{kept_entry_at, live_entry_at, bundle_at, bracketed_at, deopt_at, live_behind_at, some_bundles_at, bundles_at}
use Rattle.line_forms.specs.Slots.{Item, deopt, bundles, Slot, some_deopt, some_bundles, part, parse}
use Rattle.read_back.proofs.Steps.{Reads, clean-both, first_of, step_to}
use Rattle.read_back.proofs.Spellings.{SpellsType, SpellsValue, allowed, pointer_type}
use Rattle.read_back.proofs.Listed.{SpellsElement}
use Rattle.read_back.proofs.ListForms.{EndsAtMark, typed_element, elements_clean, to_closing}
use Rattle.read_back.proofs.GroupSteps.{Opens, as_is, token_then, mark_then, blank_then}

-- ---- entries

kept_says : {text bytes : List ℕ} {of_type : TypeWord} {v : Val} (t : SpellsType text of_type) → is_value_type of_type ≡ true → (s : SpellsValue bytes v) (ts : List Tok)
    → kept_entry_at (tok kinds.Word t.first ∷ (t.more ++ (tok s.kind bytes ∷ ts))) ≡ Some ((v, of_type), ts)
unfolding kept_entry_at after one_noted_at
kept_says {text} {bytes} {of_type} t allow s ts = rw (allowed text of_type t is_value_type allow (tok s.kind bytes ∷ ts)) (rw s.says (rw s.within refl))

-- `T V`, which is kept
pub kept_element : {text bytes : List ℕ} {of_type : TypeWord} {v : Val} → SpellsType text of_type → is_value_type of_type ≡ true → SpellsValue bytes v
    → SpellsElement kept_entry_at comma EndsAtMark (text ++ (32 ∷ bytes)) (v, of_type)
kept_element {of_type = of_type} {v = v} t allow s = typed_element kept_entry_at t s (v, of_type) (kept_says t allow s)

live_says : {bytes : List ℕ} {v : Val} (s : SpellsValue bytes v) (ts : List Tok) → live_entry_at (tok kinds.Word pointer_type.first ∷ (pointer_type.more ++ (tok s.kind bytes ∷ ts))) ≡ Some (v, ts)
unfolding live_entry_at after one_noted_at
live_says {bytes} s ts = rw (allowed (codes "ptr addrspace(1)") types.Managed pointer_type is_managed refl (tok s.kind bytes ∷ ts)) (rw s.says (rw s.within refl))

-- `P V`, which is live
pub live_element : {bytes : List ℕ} {v : Val} → SpellsValue bytes v → SpellsElement live_entry_at comma EndsAtMark (codes "ptr addrspace(1)" ++ (32 ∷ bytes)) v
live_element {v = v} s = typed_element live_entry_at pointer_type s v (live_says s)

-- ---- marks and tags

unfoldable kept_word : List ℕ
kept_word = codes "\"deopt\""

unfoldable live_word : List ℕ
live_word = codes "\"gc-live\""

abbrev kept_tokens : List Tok → List Tok
kept_tokens ts = tok kinds.Quoted kept_word ∷ tok kinds.Punct (codes "(") ∷ ts

abbrev live_tokens : List Tok → List Tok
live_tokens ts = tok kinds.Quoted live_word ∷ tok kinds.Punct (codes "(") ∷ ts

abbrev opening : List Tok → List Tok
opening ts = tok kinds.Punct (codes "[") ∷ ts

-- the end of a list and of the brackets
abbrev closing : List Tok → List Tok
closing ts = tok kinds.Punct (codes ")") ∷ tok kinds.Punct (codes "]") ∷ ts

kept_spelled : (rest : List ℕ) → tokens (codes "[ \"deopt\"(" ++ rest) ≡ opening (kept_tokens (tokens rest))
unfolding kept_word
kept_spelled rest = (mark_then 91 refl (blank_then (token_then kinds.Quoted (codes "\"deopt\"") refl refl (mark_then 40 refl (as_is rest))))).is

live_spelled : (rest : List ℕ) → tokens (codes "[ \"gc-live\"(" ++ rest) ≡ opening (live_tokens (tokens rest))
unfolding live_word
live_spelled rest = (mark_then 91 refl (blank_then (token_then kinds.Quoted (codes "\"gc-live\"") refl refl (mark_then 40 refl (as_is rest))))).is

end_spelled : (rest : List ℕ) → tokens (codes " ]" ++ rest) ≡ tok kinds.Punct (codes "]") ∷ tokens rest
end_spelled rest = (blank_then (mark_then 93 refl (as_is rest))).is

then_live_spelled : (rest : List ℕ) → tokens (codes ", \"gc-live\"(" ++ rest) ≡ tok kinds.Punct (codes ",") ∷ live_tokens (tokens rest)
unfolding live_word
then_live_spelled rest = (mark_then 44 refl (blank_then (token_then kinds.Quoted (codes "\"gc-live\"") refl refl (mark_then 40 refl (as_is rest))))).is

-- ---- what stands at the slots

deopt_part : (us : List (Val × TypeWord)) (ts more : List Tok) → list_to kept_entry_at (codes ")") ts ≡ Some (us, closing more)
    → part some_deopt (opening (kept_tokens ts)) ≡ Some (deopt us ∷ [], more)
unfolding part after deopt_at bracketed_at bundle_at one_at kept_word
deopt_part us ts more e = rw e refl

kept_part : (us : List (Val × TypeWord)) (ts more : List Tok) → list_to kept_entry_at (codes ")") ts ≡ Some (us, closing more)
    → part some_bundles (opening (kept_tokens ts)) ≡ Some (bundles us [] ∷ [], more)
unfolding part after bundles_at bracketed_at some_bundles_at live_behind_at bundle_at one_at kept_word
kept_part us ts more e = rw e refl

live_part : (vs : List Val) (ts more : List Tok) → list_to live_entry_at (codes ")") ts ≡ Some (vs, closing more)
    → part some_bundles (opening (live_tokens ts)) ≡ Some (bundles [] vs ∷ [], more)
unfolding part after bundles_at bracketed_at some_bundles_at bundle_at one_at live_word
live_part vs ts more e = rw e refl

both_part : (us : List (Val × TypeWord)) (vs : List Val) (ts behind more : List Tok)
    → list_to kept_entry_at (codes ")") ts ≡ Some (us, tok kinds.Punct (codes ")") ∷ tok kinds.Punct (codes ",") ∷ live_tokens behind) → list_to live_entry_at (codes ")") behind ≡ Some (vs, closing more)
    → part some_bundles (opening (kept_tokens ts)) ≡ Some (bundles us vs ∷ [], more)
unfolding part after bundles_at bracketed_at some_bundles_at live_behind_at bundle_at one_at kept_word live_word
both_part us vs ts behind more e f = rw e (rw f refl)

no_deopt_part : part some_deopt [] ≡ Some (deopt [] ∷ [], [])
unfolding part after deopt_at
no_deopt_part = refl

no_bundles_part : part some_bundles [] ≡ Some (bundles [] [] ∷ [], [])
unfolding part after bundles_at
no_bundles_part = refl

-- ---- no bundle

nothing_left : (ts : List Tok) → first_of ts ≡ None → ts ≡ []
nothing_left [] e = refl
nothing_left (t ∷ ts) e = cc

-- a slot at the end of a line that says something of nothing
at_end : {f : List Slot} {items : List Item} (s : Slot) (item : Item) → part s [] ≡ Some (item ∷ [], []) → Reads f [] None items → Reads (s ∷ f) [] None (item ∷ items)
unfolding parse after
at_end {f} {items} s item p r = record { whole = rw e (rw p (rw (rw e at r.whole) refl)); begins = r.begins; clean = refl }
  where
    e : tokens [] ≡ []
    e = nothing_left (tokens []) r.begins

pub no_deopt : {f : List Slot} {items : List Item} → Reads f [] None items → Reads (some_deopt ∷ f) [] None (deopt [] ∷ items)
no_deopt r = at_end some_deopt (deopt []) no_deopt_part r

pub no_bundles : {f : List Slot} {items : List Item} → Reads f [] None items → Reads (some_bundles ∷ f) [] None (bundles [] [] ∷ items)
no_bundles r = at_end some_bundles (bundles [] []) no_bundles_part r

-- ---- lists of entries

-- the entries to the end of the brackets
to_end : {A Y : Type 0} (element : List Tok → Found A) (text : Y → List ℕ) (said : Y → A) (ys : List Y) → All (λ y. SpellsElement element comma EndsAtMark (text y) (said y)) ys → Opens text ys → (rest : List ℕ)
    → list_to element (codes ")") (tokens (joined (codes ", ") (map text ys) ++ (codes ") ]" ++ rest))) ≡ Some (map said ys, closing (tokens rest))
to_end element text said ys each opens rest =
    to_closing element text said ys each opens (codes " ]" ++ rest) ∙ ap (λ ts. Some (map said ys, tok kinds.Punct (codes ")") ∷ ts)) (end_spelled rest)

-- `[ "deopt"(T V, ..) ]` of a call
pub deopt_step : {f : List Slot} {rest : List ℕ} {first : Option Tok} {items : List Item} {Y : Type 0} (text : Y → List ℕ) (said : Y → Val × TypeWord) (ys : List Y)
    → All (λ y. SpellsElement kept_entry_at comma EndsAtMark (text y) (said y)) ys → Opens text ys
    → Reads f rest first items → Reads (some_deopt ∷ f) (codes "[ \"deopt\"(" ++ (joined (codes ", ") (map text ys) ++ (codes ") ]" ++ rest))) (Some (tok kinds.Punct (codes "["))) (deopt (map said ys) ∷ items)
deopt_step {rest = rest} text said ys each opens r =
    let body : List ℕ = joined (codes ", ") (map text ys) ++ (codes ") ]" ++ rest) in
    step_to some_deopt (codes "[ \"deopt\"(" ++ body) (tok kinds.Punct (codes "[")) _ (deopt (map said ys) ∷ [])
    (clean-both (joined (codes ", ") (map text ys)) (codes ") ]" ++ rest) (elements_clean kept_entry_at text said ys each) r.clean)
    (kept_spelled body) (deopt_part (map said ys) (tokens body) (tokens rest) (to_end kept_entry_at text said ys each opens rest)) r

-- `[ "deopt"(T V, ..) ]` of a statepoint
pub kept_step : {f : List Slot} {rest : List ℕ} {first : Option Tok} {items : List Item} {Y : Type 0} (text : Y → List ℕ) (said : Y → Val × TypeWord) (ys : List Y)
    → All (λ y. SpellsElement kept_entry_at comma EndsAtMark (text y) (said y)) ys → Opens text ys
    → Reads f rest first items → Reads (some_bundles ∷ f) (codes "[ \"deopt\"(" ++ (joined (codes ", ") (map text ys) ++ (codes ") ]" ++ rest))) (Some (tok kinds.Punct (codes "["))) (bundles (map said ys) [] ∷ items)
kept_step {rest = rest} text said ys each opens r =
    let body : List ℕ = joined (codes ", ") (map text ys) ++ (codes ") ]" ++ rest) in
    step_to some_bundles (codes "[ \"deopt\"(" ++ body) (tok kinds.Punct (codes "[")) _ (bundles (map said ys) [] ∷ [])
    (clean-both (joined (codes ", ") (map text ys)) (codes ") ]" ++ rest) (elements_clean kept_entry_at text said ys each) r.clean)
    (kept_spelled body) (kept_part (map said ys) (tokens body) (tokens rest) (to_end kept_entry_at text said ys each opens rest)) r

-- `[ "gc-live"(P V, ..) ]`
pub live_step : {f : List Slot} {rest : List ℕ} {first : Option Tok} {items : List Item} {Y : Type 0} (text : Y → List ℕ) (said : Y → Val) (ys : List Y)
    → All (λ y. SpellsElement live_entry_at comma EndsAtMark (text y) (said y)) ys → Opens text ys
    → Reads f rest first items → Reads (some_bundles ∷ f) (codes "[ \"gc-live\"(" ++ (joined (codes ", ") (map text ys) ++ (codes ") ]" ++ rest))) (Some (tok kinds.Punct (codes "["))) (bundles [] (map said ys) ∷ items)
live_step {rest = rest} text said ys each opens r =
    let body : List ℕ = joined (codes ", ") (map text ys) ++ (codes ") ]" ++ rest) in
    step_to some_bundles (codes "[ \"gc-live\"(" ++ body) (tok kinds.Punct (codes "[")) _ (bundles [] (map said ys) ∷ [])
    (clean-both (joined (codes ", ") (map text ys)) (codes ") ]" ++ rest) (elements_clean live_entry_at text said ys each) r.clean)
    (live_spelled body) (live_part (map said ys) (tokens body) (tokens rest) (to_end live_entry_at text said ys each opens rest)) r

-- `[ "deopt"(T V, ..), "gc-live"(P V, ..) ]`
pub both_step : {f : List Slot} {rest : List ℕ} {first : Option Tok} {items : List Item} {X Y : Type 0} (ktext : X → List ℕ) (ksaid : X → Val × TypeWord) (xs : List X) (ltext : Y → List ℕ) (lsaid : Y → Val) (ys : List Y)
    → All (λ x. SpellsElement kept_entry_at comma EndsAtMark (ktext x) (ksaid x)) xs → Opens ktext xs
    → All (λ y. SpellsElement live_entry_at comma EndsAtMark (ltext y) (lsaid y)) ys → Opens ltext ys
    → Reads f rest first items
    → Reads (some_bundles ∷ f) (codes "[ \"deopt\"(" ++ (joined (codes ", ") (map ktext xs) ++ (codes "), \"gc-live\"(" ++ (joined (codes ", ") (map ltext ys) ++ (codes ") ]" ++ rest)))))
    (Some (tok kinds.Punct (codes "["))) (bundles (map ksaid xs) (map lsaid ys) ∷ items)
both_step {rest = rest} ktext ksaid xs ltext lsaid ys keeps kopens lives lopens r =
    let behind : List ℕ = joined (codes ", ") (map ltext ys) ++ (codes ") ]" ++ rest) in
    let body : List ℕ = joined (codes ", ") (map ktext xs) ++ (codes "), \"gc-live\"(" ++ behind) in
    let kept : list_to kept_entry_at (codes ")") (tokens body) ≡ Some (map ksaid xs, tok kinds.Punct (codes ")") ∷ tok kinds.Punct (codes ",") ∷ live_tokens (tokens behind)) =
    to_closing kept_entry_at ktext ksaid xs keeps kopens (codes ", \"gc-live\"(" ++ behind) ∙ ap (λ ts. Some (map ksaid xs, tok kinds.Punct (codes ")") ∷ ts)) (then_live_spelled behind) in
    step_to some_bundles (codes "[ \"deopt\"(" ++ body) (tok kinds.Punct (codes "[")) _ (bundles (map ksaid xs) (map lsaid ys) ∷ [])
    (clean-both (joined (codes ", ") (map ktext xs)) (codes "), \"gc-live\"(" ++ behind) (elements_clean kept_entry_at ktext ksaid xs keeps)
    (clean-both (joined (codes ", ") (map ltext ys)) (codes ") ]" ++ rest) (elements_clean live_entry_at ltext lsaid ys lives) r.clean))
    (kept_spelled body) (both_part (map ksaid xs) (map lsaid ys) (tokens body) (tokens behind) (tokens rest) kept (to_end live_entry_at ltext lsaid ys lives lopens rest)) r
