-- The slots of types, values, widths, predicates, places and strategies, where a line prints them.
use Rattle.std.proofs.Common.{◌≡◌, refl, ap, ◌∙◌, ℕ, ◌<◌, ◌≤◌, ◌^◌, true, false, List, [], ◌∷◌, ◌++◌, Option, Some, None, arith, codes, decimal}
use Rattle.sp_text.specs.Tokens.{Tok, tok, tokens, is_token}
use Rattle.sp_text.specs.declared.tokens.Kind.TheVariants as kinds
use Rattle.sp_text.proofs.Spelled.{stops, continues, tokens-spelled, tokens-blank}
use Rattle.ir_ast.specs.declared.ops.Pred.{Pred}
use Rattle.ir_ast.specs.declared.ops.Pred.TheVariants as preds
use Rattle.line_parts.specs.Types.{TypeWord}
use Rattle.line_parts.specs.Types as types
use Rattle.ir_ast.specs.Widths.{IsWidth}
use Rattle.line_parts.specs.Gives.{after, one_at, one_noted_at}
use Rattle.line_parts.specs.Parts.{Val, is_value_type, is_answer_type, is_managed, is_scalar_type, is_case_value, case_value_at, place_at, strategy_at}
use Rattle.line_tokens.specs.Words.{pred_of, pred_word}
use Rattle.line_forms.specs.Slots.{Item, width, ty, value, pred, scalar, place, strategy, Slot, a_managed, a_width, a_type, an_answer, a_value, a_case, a_pred, a_scalar, a_place, a_strategy, part, parse}
use Rattle.read_back.proofs.Steps.{Reads, Stops, step, one, first_of, stops-kind, IsClean, digits-clean}
use Rattle.read_back.proofs.Spellings.{SpellsType, SpellsValue, allowed, integer_says, integer_within, width_spelled, decimal_token, decimal-is, positive}

-- ---- types

type_part : {text : List ℕ} {word : TypeWord} (t : SpellsType text word) → is_value_type word ≡ true → (ts : List Tok) → part a_type (tok kinds.Word t.first ∷ (t.more ++ ts)) ≡ Some (ty word ∷ [], ts)
unfolding part after
type_part {text} {word} t allow ts = rw (allowed text word t is_value_type allow ts) refl

pub type_step : {f : List Slot} {text rest : List ℕ} {word : TypeWord} {first : Option Tok} {items : List Item} (t : SpellsType text word) → is_value_type word ≡ true → Stops rest
    → Reads f rest first items → Reads (a_type ∷ f) (text ++ rest) (Some (tok kinds.Word t.first)) (ty word ∷ items)
type_step {text = text} {rest = rest} {word = word} t allow stop r =
    step a_type text (tok kinds.Word t.first) (t.more ++ tokens rest) (ty word ∷ []) t.clean (t.spelled rest stop) (type_part t allow (tokens rest)) r

answer_part : {text : List ℕ} {word : TypeWord} (t : SpellsType text word) → is_answer_type word ≡ true → (ts : List Tok) → part an_answer (tok kinds.Word t.first ∷ (t.more ++ ts)) ≡ Some (ty word ∷ [], ts)
unfolding part after
answer_part {text} {word} t allow ts = rw (allowed text word t is_answer_type allow ts) refl

pub answer_step : {f : List Slot} {text rest : List ℕ} {word : TypeWord} {first : Option Tok} {items : List Item} (t : SpellsType text word) → is_answer_type word ≡ true → Stops rest
    → Reads f rest first items → Reads (an_answer ∷ f) (text ++ rest) (Some (tok kinds.Word t.first)) (ty word ∷ items)
answer_step {text = text} {rest = rest} {word = word} t allow stop r =
    step an_answer text (tok kinds.Word t.first) (t.more ++ tokens rest) (ty word ∷ []) t.clean (t.spelled rest stop) (answer_part t allow (tokens rest)) r

managed_part : {text : List ℕ} (t : SpellsType text types.Managed) → (ts : List Tok) → part a_managed (tok kinds.Word t.first ∷ (t.more ++ ts)) ≡ Some ([], ts)
unfolding part after
managed_part {text} t ts = rw (allowed text types.Managed t is_managed refl ts) refl

pub managed_step : {f : List Slot} {text rest : List ℕ} {first : Option Tok} {items : List Item} (t : SpellsType text types.Managed) → Stops rest
    → Reads f rest first items → Reads (a_managed ∷ f) (text ++ rest) (Some (tok kinds.Word t.first)) items
managed_step {text = text} {rest = rest} t stop r =
    step a_managed text (tok kinds.Word t.first) (t.more ++ tokens rest) [] t.clean (t.spelled rest stop) (managed_part t (tokens rest)) r

scalar_part : {text : List ℕ} {word : TypeWord} (t : SpellsType text word) → is_scalar_type word ≡ true → (ts : List Tok) → part a_scalar (tok kinds.Word t.first ∷ (t.more ++ ts)) ≡ Some (scalar word ∷ [], ts)
unfolding part after
scalar_part {text} {word} t allow ts = rw (allowed text word t is_scalar_type allow ts) refl

pub scalar_step : {f : List Slot} {text rest : List ℕ} {word : TypeWord} {first : Option Tok} {items : List Item} (t : SpellsType text word) → is_scalar_type word ≡ true → Stops rest
    → Reads f rest first items → Reads (a_scalar ∷ f) (text ++ rest) (Some (tok kinds.Word t.first)) (scalar word ∷ items)
scalar_step {text = text} {rest = rest} {word = word} t allow stop r =
    step a_scalar text (tok kinds.Word t.first) (t.more ++ tokens rest) (scalar word ∷ []) t.clean (t.spelled rest stop) (scalar_part t allow (tokens rest)) r

width_part : (n : ℕ) → IsWidth n → (ts : List Tok) → part a_width (tok kinds.Word (105 ∷ decimal n) ∷ ts) ≡ Some (width n ∷ [], ts)
unfolding part after one_noted_at
width_part n narrow ts = rw (integer_says n narrow) (rw (integer_within n narrow) refl)

pub width_step : {f : List Slot} {rest : List ℕ} {first : Option Tok} {items : List Item} (n : ℕ) → IsWidth n → Stops rest
    → Reads f rest first items → Reads (a_width ∷ f) (105 ∷ (decimal n ++ rest)) (Some (tok kinds.Word (105 ∷ decimal n))) (width n ∷ items)
width_step {rest = rest} n narrow stop r =
    step a_width (105 ∷ decimal n) (tok kinds.Word (105 ∷ decimal n)) (tokens rest) (width n ∷ []) (digits-clean (decimal n) (decimal-is n (omega (arith, narrow.1))).digits) (width_spelled n narrow.1 rest stop) (width_part n narrow (tokens rest)) r

-- ---- values

value_part : {text : List ℕ} {v : Val} (s : SpellsValue text v) → (ts : List Tok) → part a_value (tok s.kind text ∷ ts) ≡ Some (value v ∷ [], ts)
unfolding part after one_noted_at
value_part s ts = rw s.says (rw s.within refl)

pub value_step : {f : List Slot} {text rest : List ℕ} {v : Val} {first : Option Tok} {items : List Item} (s : SpellsValue text v) → Stops rest
    → Reads f rest first items → Reads (a_value ∷ f) (text ++ rest) (Some (tok s.kind text)) (value v ∷ items)
value_step {text = text} {v = v} s stop r = one a_value s.kind text (value v ∷ []) s.is s.clean stop (value_part s) r

case_part : {text : List ℕ} {v : Val} (s : SpellsValue text v) → is_case_value v ≡ true → (ts : List Tok) → part a_case (tok s.kind text ∷ ts) ≡ Some (value v ∷ [], ts)
unfolding part after one_noted_at case_value_at
case_part s allow ts = rw s.says (rw s.within (rw allow refl))

pub case_step : {f : List Slot} {text rest : List ℕ} {v : Val} {first : Option Tok} {items : List Item} (s : SpellsValue text v) → is_case_value v ≡ true → Stops rest
    → Reads f rest first items → Reads (a_case ∷ f) (text ++ rest) (Some (tok s.kind text)) (value v ∷ items)
case_step {text = text} {v = v} s allow stop r = one a_case s.kind text (value v ∷ []) s.is s.clean stop (case_part s allow) r

-- ---- words of choice

pred_is : (p : Pred) → is_token kinds.Word (pred_word p) ≡ true
pred_is preds.Eq = refl
pred_is preds.Ne = refl
pred_is preds.Ugt = refl
pred_is preds.Uge = refl
pred_is preds.Ult = refl
pred_is preds.Ule = refl
pred_is preds.Sgt = refl
pred_is preds.Sge = refl
pred_is preds.Slt = refl
pred_is preds.Sle = refl

pred_clean : (p : Pred) → IsClean (pred_word p)
pred_clean preds.Eq = refl
pred_clean preds.Ne = refl
pred_clean preds.Ugt = refl
pred_clean preds.Uge = refl
pred_clean preds.Ult = refl
pred_clean preds.Ule = refl
pred_clean preds.Sgt = refl
pred_clean preds.Sge = refl
pred_clean preds.Slt = refl
pred_clean preds.Sle = refl

pred_says : (p : Pred) → pred_of (tok kinds.Word (pred_word p)) ≡ Some p
pred_says preds.Eq = refl
pred_says preds.Ne = refl
pred_says preds.Ugt = refl
pred_says preds.Uge = refl
pred_says preds.Ult = refl
pred_says preds.Ule = refl
pred_says preds.Sgt = refl
pred_says preds.Sge = refl
pred_says preds.Slt = refl
pred_says preds.Sle = refl

pred_part : (p : Pred) (ts : List Tok) → part a_pred (tok kinds.Word (pred_word p) ∷ ts) ≡ Some (pred p ∷ [], ts)
unfolding part after one_at
pred_part p ts = rw (pred_says p) refl

pub pred_step : {f : List Slot} {rest : List ℕ} {first : Option Tok} {items : List Item} (p : Pred) → Stops rest
    → Reads f rest first items → Reads (a_pred ∷ f) (pred_word p ++ rest) (Some (tok kinds.Word (pred_word p))) (pred p ∷ items)
pred_step p stop r = one a_pred kinds.Word (pred_word p) (pred p ∷ []) (pred_is p) (pred_clean p) stop (pred_part p) r

-- ---- places

nothing_left : (ts : List Tok) → first_of ts ≡ None → ts ≡ []
nothing_left [] e = refl
nothing_left (t ∷ ts) e = cc

place_none_part : part a_place [] ≡ Some (place None ∷ [], [])
unfolding part after place_at
place_none_part = refl

pub no_place : {f : List Slot} {items : List Item} → Reads f [] None items → Reads (a_place ∷ f) [] None (place None ∷ items)
unfolding parse after
no_place {f} {items} r = record { whole = rw e (rw place_none_part (rw (rw e at r.whole) refl)); begins = r.begins; clean = refl }
  where
    e : tokens [] ≡ []
    e = nothing_left (tokens []) r.begins

place_part : (n : ℕ) → n < 2 ^ 64 → (ts : List Tok) → part a_place (tok kinds.Punct (codes ",") ∷ tok kinds.Word (codes "i32") ∷ tok kinds.Number (decimal n) ∷ ts) ≡ Some (place (Some (record { negative = false; magnitude = n })) ∷ [], ts)
unfolding part after place_at one_at one_noted_at
place_part n small ts = let e = positive n small in rw e.says (rw e.within refl)

place_spelled : (n : ℕ) → n < 2 ^ 64 → (rest : List ℕ) → Stops rest → tokens (codes ", i32 " ++ (decimal n ++ rest)) ≡ tok kinds.Punct (codes ",") ∷ tok kinds.Word (codes "i32") ∷ tok kinds.Number (decimal n) ∷ tokens rest
place_spelled n small rest stop =
    tokens-spelled kinds.Punct (codes ",") (codes " i32 " ++ (decimal n ++ rest)) refl refl
    ∙ ap (λ ts. tok kinds.Punct (codes ",") ∷ ts) (tokens-blank 32 (codes "i32 " ++ (decimal n ++ rest)) refl
    ∙ (tokens-spelled kinds.Word (codes "i32") (codes " " ++ (decimal n ++ rest)) refl refl
    ∙ ap (λ ts. tok kinds.Word (codes "i32") ∷ ts) (tokens-blank 32 (decimal n ++ rest) refl
    ∙ tokens-spelled kinds.Number (decimal n) rest (decimal_token n small) (stops-kind kinds.Number rest stop))))

pub place_step : {f : List Slot} {rest : List ℕ} {first : Option Tok} {items : List Item} (n : ℕ) → n < 2 ^ 64 → Stops rest
    → Reads f rest first items → Reads (a_place ∷ f) (codes ", i32 " ++ (decimal n ++ rest)) (Some (tok kinds.Punct (codes ","))) (place (Some (record { negative = false; magnitude = n })) ∷ items)
place_step {f} {rest} {first} {items} n small stop r =
    let text : codes ", i32 " ++ (decimal n ++ rest) ≡ (codes ", i32 " ++ decimal n) ++ rest = refl in
    step {text = rest} a_place (codes ", i32 " ++ decimal n) (tok kinds.Punct (codes ",")) (tok kinds.Word (codes "i32") ∷ tok kinds.Number (decimal n) ∷ tokens rest) (place (Some (record { negative = false; magnitude = n })) ∷ []) (digits-clean (decimal n) (decimal-is n small).digits) (place_spelled n small rest stop) (place_part n small (tokens rest)) r

-- ---- strategies

unfoldable pub strategy_word : List ℕ
strategy_word = codes "\"statepoint-example\""

strategy_part : (ts : List Tok) → part a_strategy (tok kinds.Word (codes "gc") ∷ tok kinds.Quoted strategy_word ∷ ts) ≡ Some (strategy (Some (codes "statepoint-example")) ∷ [], ts)
unfolding part after strategy_at one_at strategy_word
strategy_part ts = refl

strategy_spelled : (rest : List ℕ) → tokens (codes "gc " ++ (strategy_word ++ rest)) ≡ tok kinds.Word (codes "gc") ∷ tok kinds.Quoted strategy_word ∷ tokens rest
unfolding strategy_word
strategy_spelled rest =
    tokens-spelled kinds.Word (codes "gc") (codes " \"statepoint-example\"" ++ rest) refl refl
    ∙ ap (λ ts. tok kinds.Word (codes "gc") ∷ ts) (tokens-blank 32 (codes "\"statepoint-example\"" ++ rest) refl
    ∙ tokens-spelled kinds.Quoted (codes "\"statepoint-example\"") rest refl (anywhere rest))
  where
    anywhere : (text : List ℕ) → stops (continues kinds.Quoted) text ≡ true
    anywhere [] = refl
    anywhere (c ∷ cs) = refl

strategy_clean : IsClean (codes "gc " ++ strategy_word)
unfolding strategy_word
strategy_clean = refl

pub strategy_step : {f : List Slot} {rest : List ℕ} {first : Option Tok} {items : List Item} → Reads f rest first items
    → Reads (a_strategy ∷ f) (codes "gc " ++ (strategy_word ++ rest)) (Some (tok kinds.Word (codes "gc"))) (strategy (Some (codes "statepoint-example")) ∷ items)
strategy_step {rest = rest} r =
    step {text = rest} a_strategy (codes "gc " ++ strategy_word) (tok kinds.Word (codes "gc")) (tok kinds.Quoted strategy_word ∷ tokens rest) (strategy (Some (codes "statepoint-example")) ∷ []) strategy_clean (strategy_spelled rest) (strategy_part (tokens rest)) r
