-- A form is a list of slots. The same list serves the reader, the printer and reading back.
use Rattle.std.specs.Prelude.{ℕ, true, false, List, [], ◌∷◌, ◌++◌, Option, Some}
use Rattle.sp_text.specs.Tokens.{Tok}
use Rattle.line_parts.specs.Types.{TypeWord}
use Rattle.line_tokens.specs.declared.literals.Literal.{Literal}
use Rattle.ir_ast.specs.declared.ops.Pred.{Pred}
use Rattle.line_tokens.specs.declared.words.Dropped.{Dropped}
use Rattle.line_parts.specs.Gives.{Found, after, one_at}
use Rattle.line_tokens.specs.Marks.{is_quoted, is_hash, is_global, stands}
use Rattle.line_parts.specs.Drops.{past_all}
use Rattle.line_parts.specs.Parts.{Val, word_at, mark_at, local_at, global_at, width_at, value_at, case_value_at, allowed_type_at, is_value_type, is_answer_type, is_cast_type, is_scalar_type, is_managed, place_at, strategy_at, to_brace_at}
use Rattle.line_tokens.specs.Words.{pred_of}
use Rattle.line_parts.specs.Lists.{Named, Given, fields_at, entries_at, head_at, called_at}
use Rattle.line_parts.specs.Groups.{number_at, zero_at, token_at, types_at, handed_at, closing_at, result_at, declares_family, family_answer_at, bracketing_at}
use Rattle.line_parts.specs.Bundles.{deopt_at, bundles_at}

-- what a form says at a slot
pub data Item : Type 0 where
  name : List ℕ → Item
  layout_name : List ℕ → Item
  width : ℕ → Item
  ty : TypeWord → Item
  value : Val → Item
  pred : Pred → Item
  scalar : TypeWord → Item
  layout : List ℕ → Item
  place : Option Literal → Item
  fields : List TypeWord → Item
  entries : List (Val × List ℕ) → Item
  declared : List ℕ → List Named → Item
  defined : List ℕ → List Named → Item
  called : List ℕ → List Given → Item
  strategy : Option (List ℕ) → Item
  types : List TypeWord → Item
  handed : List Given → Item
  -- what a call keeps
  deopt : List (Val × TypeWord) → Item
  -- what a statepoint keeps, and its live entries
  bundles : List (Val × TypeWord) → List Val → Item
  literal : Literal → Item
  -- none where it is `token`
  family_answer : Option TypeWord → Item

pub data Slot : Type 0 where
  -- nothing to the reader, a space to the printer
  blank : Slot
  -- this mark, this word
  m : List ℕ → Slot
  w : List ℕ → Slot
  -- the function of this name
  g : List ℕ → Slot
  -- read as often as one stands there, and not printed
  dropped : Dropped → Slot
  -- parts that say nothing
  a_managed : Slot
  a_quoted : Slot
  a_hash : Slot
  to_brace : Slot
  a_zero : Slot
  a_closing : Slot
  a_family : Slot
  a_bracketing : Slot
  -- parts that say something
  a_family_answer : Slot
  a_local : Slot
  a_layout_name : Slot
  a_width : Slot
  a_type : Slot
  an_answer : Slot
  a_cast_type : Slot
  a_value : Slot
  a_case : Slot
  a_pred : Slot
  a_scalar : Slot
  a_layout : Slot
  a_place : Slot
  some_fields : Slot
  some_entries : Slot
  a_declared : Slot
  a_defined : Slot
  a_called : Slot
  a_strategy : Slot
  a_token : Slot
  a_global : Slot
  some_types : Slot
  some_handed : Slot
  some_deopt : Slot
  some_bundles : Slot
  a_result : Slot
  -- a number of this type
  a_number : List ℕ → Slot

abbrev pub says_nothing : {A : Type 0} → Found A → Found (List Item)
says_nothing found = after found (λ _ rest. Some ([], rest))

abbrev pub says : {A : Type 0} → (A → Item) → Found A → Found (List Item)
says item found = after found (λ x rest. Some (item x ∷ [], rest))

-- what stands at a slot
unfoldable pub part : Slot → List Tok → Found (List Item)
part blank ts = Some ([], ts)
part (m text) ts = says_nothing (mark_at text ts)
part (w text) ts = says_nothing (word_at text ts)
part (dropped what) ts = Some ([], past_all what ts)
part a_managed ts = says_nothing (allowed_type_at is_managed ts)
part a_quoted ts = says_nothing (one_at (stands is_quoted) ts)
part a_hash ts = says_nothing (one_at (stands is_hash) ts)
part to_brace ts = says_nothing (to_brace_at ts)
part (g text) ts = says_nothing (one_at (stands (is_global text)) ts)
part a_zero ts = says_nothing (zero_at ts)
part a_closing ts = says_nothing (closing_at ts)
part a_family_answer ts = says family_answer (family_answer_at ts)
part a_family ts = says_nothing (one_at (stands declares_family) ts)
part a_bracketing ts = says_nothing (bracketing_at ts)
part a_local ts = says name (local_at ts)
part a_layout_name ts = says layout_name (local_at ts)
part a_width ts = says width (width_at ts)
part a_type ts = says ty (allowed_type_at is_value_type ts)
part an_answer ts = says ty (allowed_type_at is_answer_type ts)
part a_cast_type ts = says ty (allowed_type_at is_cast_type ts)
part a_value ts = says value (value_at ts)
part a_case ts = says value (case_value_at ts)
part a_pred ts = says pred (one_at pred_of ts)
part a_scalar ts = says scalar (allowed_type_at is_scalar_type ts)
part a_layout ts = says layout (local_at ts)
part a_place ts = says place (place_at ts)
part some_fields ts = says fields (fields_at ts)
part some_entries ts = says entries (entries_at ts)
part a_declared ts = says (λ head. declared head.0 head.1) (head_at true ts)
part a_defined ts = says (λ head. defined head.0 head.1) (head_at false ts)
part a_called ts = says (λ call. called call.0 call.1) (called_at ts)
part a_strategy ts = says strategy (strategy_at ts)
part a_token ts = says name (token_at ts)
part a_global ts = says name (global_at ts)
part some_types ts = says types (types_at ts)
part some_handed ts = says handed (handed_at ts)
part some_deopt ts = says deopt (deopt_at ts)
part some_bundles ts = says (λ both. bundles both.0 both.1) (bundles_at ts)
part a_result ts = says ty (result_at ts)
part (a_number of_type) ts = says literal (number_at of_type ts)

-- what stands at the slots of a form, one after the other
unfoldable pub parse : List Slot → List Tok → Found (List Item)
parse [] ts = Some ([], ts)
parse (s ∷ f) ts = after (part s ts) (λ here rest. after (parse f rest) (λ items end. Some (here ++ items, end)))
