-- The lines of a function.
use Rattle.std.proofs.Common.{◌≡◌, refl, ℕ, true, false, List, [], ◌∷◌, ◌++◌, map, Some, codes, append_assoc}
use Rattle.std.specs.List.{All, list_all}
use Rattle.std.proofs.lemmas.List.Elements.{All-head, All-tail}
use Rattle.sp_text.specs.Tokens.{tokens, is_name}
use Rattle.ir_ast.specs.declared.types.Ty.{Ty}
use Rattle.ir_ast.specs.declared.types.Ty.TheVariants as tys
use Rattle.ir_ast.specs.declared.funcs.Arg.{Arg}
use Rattle.ir_ast.specs.Layouts.{ObjectLayout}
use Rattle.ir_ast.specs.Funcs.{Function}
use Rattle.ir_ast.specs.Types.{is_answer, is_first_class}
use Rattle.ir_printer.specs.Lists.{joined}
use Rattle.ir_printer.specs.Words.{type_text, strategy_text}
use Rattle.ir_printer.specs.Texts.{argument_of, block_text, function_text}
use Rattle.line_parts.specs.Parts.{is_answer_type}
use Rattle.line_parts.specs.Lists.{argument_at, comma}
use Rattle.line_tokens.specs.Marks.{is_mark, begins}
use Rattle.read_back.specs.Said.{word_of, argument_says}
use Rattle.read_back.proofs.Spellings.{SpellsType, integer_type, pointer_type, void_type}
use Rattle.read_back.proofs.PartSteps.{strategy_word}
use Rattle.read_back.proofs.Listed.{SpellsElement}
use Rattle.read_back.proofs.ListForms.{EndsAtMark, argument_element, argument_opens}
use Rattle.read_back.proofs.Operands.{IsNarrow, type_spelled}

pub answer_spelled : (ty : Ty) → is_answer ty ≡ true → IsNarrow ty → SpellsType (type_text ty) (word_of ty)
answer_spelled tys.Void answers narrow = void_type
answer_spelled (tys.Int width) answers narrow = integer_type width narrow
answer_spelled tys.Ptr answers narrow = pointer_type
answer_spelled tys.Token answers narrow = absurd cc

pub answer_allowed : (ty : Ty) → is_answer ty ≡ true → is_answer_type (word_of ty) ≡ true
answer_allowed tys.Void answers = refl
answer_allowed (tys.Int width) answers = refl
answer_allowed tys.Ptr answers = refl
answer_allowed tys.Token answers = cc

-- an argument of a type that it may have, with a name
pub record ArgumentSays (arg : Arg) : Type 0 where
  pub first_class : is_first_class arg.ty ≡ true
  pub narrow : IsNarrow arg.ty
  pub named : is_name arg.name ≡ true

argument_allowed : (arg : Arg) → ArgumentSays arg → SpellsElement (argument_at false) comma EndsAtMark (argument_of arg) (argument_says arg)
argument_allowed arg is = by arg.ty is.first_class is.narrow
  where
    by : (ty : Ty) → is_first_class ty ≡ true → IsNarrow ty → SpellsElement (argument_at false) comma EndsAtMark (type_text ty ++ (32 ∷ 37 ∷ arg.name)) (record { ty = word_of ty; name = Some arg.name })
    by tys.Void first narrow = absurd cc
    by (tys.Int width) first narrow = argument_element false (integer_type width narrow) refl arg.name is.named
    by tys.Ptr first narrow = argument_element false pointer_type refl arg.name is.named
    by tys.Token first narrow = absurd cc

pub arguments_each : (args : List Arg) → All ArgumentSays args → All (λ arg. SpellsElement (argument_at false) comma EndsAtMark (argument_of arg) (argument_says arg)) args
arguments_each args all = λ k d low. argument_allowed _ (all k d low)

pub arguments_open : (args : List Arg) → All ArgumentSays args → All (λ arg. (rest : List ℕ) → EndsAtMark rest → begins (is_mark (codes ")")) (tokens (argument_of arg ++ rest)) ≡ false) args
arguments_open args all = λ k d low rest ends. argument_opens (type_spelled _ (all k d low).first_class (all k d low).narrow) _ (all k d low).named rest ends

strategy_shape : strategy_text ≡ (41 ∷ 32 ∷ (codes "gc " ++ (strategy_word ++ codes " {"))) ++ (10 ∷ [])
unfolding strategy_text strategy_word
strategy_shape = refl

-- a function's text: the line of its head, its blocks and the closing line
pub function_shape : (layouts : List ObjectLayout) (funcs : List Function) (func : Function)
    → function_text layouts funcs func
    ≡ ((codes "define " ++ (type_text func.answer ++ (32 ∷ 64 ∷ (func.name ++ (40 ∷ (joined (codes ", ") (map argument_of func.args) ++ (41 ∷ 32 ∷ (codes "gc " ++ (strategy_word ++ codes " {"))))))))) ++ (10 ∷ []))
    ++ (joined [] (map (block_text (record { layouts = layouts; funcs = funcs; func = func })) func.blocks) ++ (codes "}" ++ (10 ∷ [])))
function_shape layouts funcs func = rw strategy_shape (simp append_assoc)
