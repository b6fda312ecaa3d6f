-- The arguments of a call: the same numbers, and pointers that are their own bases.
use Rattle.std.proofs.Common.{◌≡◌, ℕ, suc, true, List, [], ◌∷◌, ◌++◌, length, map, take, refl, sym, ap, ◌∙◌, arith, Option, Some, None}
use Rattle.std.specs.Prelude.{slice_get}
use Rattle.std.specs.List.{AllZip, Contains}
use Rattle.std.proofs.Math.ListN.{get_or-map}
use Rattle.std.proofs.lemmas.Bool.{true≢false}
use Rattle.std.proofs.lemmas.List.{take-map}
use Rattle.ir_ast.specs.declared.ops.Operand.{Operand}
use Rattle.ir_ast.specs.declared.ops.Operand.TheVariants as operands
use Rattle.ir_ast.specs.declared.types.Ty.{Ty}
use Rattle.ir_ast.specs.declared.types.Ty.TheVariants.{Void, Int, Ptr, Token}
use Rattle.ir_ast.specs.Faults.TypeClash.{Fits}
use Rattle.ir_ast.specs.Objects.{Datum, number}
use Rattle.moving_heap.specs.declared.stands.Stand.{Stand}
use Rattle.object_meaning.specs.Registers.{operand, value, number_in, pointer_in}
use Rattle.pair_facts.specs.declared.bases.Base.TheVariants.{Named}
use Rattle.pair_facts.specs.Lines.{operand_at}
use Rattle.pair_facts.specs.Pairs.{Pairs}
use Rattle.pair_facts.specs.Uses.{pointers_of}
use Rattle.machine_meaning.specs.Relations.{word_in}
use Rattle.machine_meaning.specs.Words.{worded_operand}
use Rattle.moves_unseen.specs.Entries.{AreArguments}
use Rattle.moves_unseen.specs.Frames.{AreWords}
use Rattle.moves_unseen.proofs.ValueLaws.{base_of_pair, same_number}
use Rattle.moves_unseen.proofs.SelectSteps.{worded_value}

-- ---- words

words_of_operands : (words : List ℕ) (from : List Operand) → map (value (map number words)) (map worded_operand from) ≡ map number (map (word_in words) from)
words_of_operands words [] = refl
words_of_operands words (first ∷ from) =
    ap (λ (d : Datum). d ∷ map (value (map number words)) (map worded_operand from)) (worded_value words first)
    ∙ ap (λ (more : List Datum). number (word_in words first) ∷ more) (words_of_operands words from)

pub words_of_arguments : (words : List ℕ) (count : ℕ) (from : List Operand)
    → map (value (map number words)) (take count (map worded_operand from)) ≡ map number (map (word_in words) (take count from))
words_of_arguments words count from =
    ap (map (value (map number words))) (take-map worded_operand count from) ∙ words_of_operands words (take count from)

-- ---- arguments

module _ (stands : List Stand) (types : List Ty) (pairs : Pairs) (registers : List Datum) (words : List ℕ) (are : AreWords stands types pairs registers words) where
  pub arguments_are : (wanted more : List Ty) (given : List Operand) → AllZip (Fits types) given (wanted ++ more)
      → ((from : Operand) → Contains (pointers_of wanted given) from → pairs from (Named from) ≡ true)
      → AreArguments stands wanted (map (value registers) (take (length wanted) given)) (map (word_in words) (take (length wanted) given))
  arguments_are [] more given fits own = tt
  arguments_are (ty ∷ wanted) more [] fits own = absurd fits
  arguments_are (Void ∷ wanted) more (first ∷ given) fits own = (
    record {
      number = λ plain. same_number types registers words are.numbers first Void fits.0 plain;
      base = λ managed. absurd (true≢false (sym managed));
    },
    arguments_are wanted more given fits.1 own,
  )
  arguments_are (Int width ∷ wanted) more (first ∷ given) fits own = (
    record {
      number = λ plain. same_number types registers words are.numbers first (Int width) fits.0 plain;
      base = λ managed. absurd (true≢false (sym managed));
    },
    arguments_are wanted more given fits.1 own,
  )
  arguments_are (Token ∷ wanted) more (first ∷ given) fits own = (
    record {
      number = λ plain. same_number types registers words are.numbers first Token fits.0 plain;
      base = λ managed. absurd (true≢false (sym managed));
    },
    arguments_are wanted more given fits.1 own,
  )
  arguments_are (Ptr ∷ wanted) more (first ∷ given) fits own = (
    record {
      number = λ plain. absurd (true≢false plain);
      base = λ managed.
          base_of_pair stands (pointer_in (value registers first)) (word_in words first) (are.pointers first first (own first (0, (omega arith), refl)));
    },
    arguments_are wanted more given fits.1 (λ from contained. own from (suc contained.0, (let within = contained.1 in omega arith), contained.2)),
  )

-- ---- the two operands of a `task_start`

pub first_taken : (given : List Operand) → slice_get (take 2 given) 0 ≡ slice_get given 0
first_taken [] = refl
first_taken (first ∷ given) = refl

pub second_taken : (given : List Operand) → operand_at (take 2 given) 1 ≡ operand_at given 1
second_taken [] = refl
second_taken (first ∷ []) = refl
second_taken (first ∷ second ∷ given) = refl

pub second_word : (words : List ℕ) (given : List Operand) → operand (map number words) (take 2 (map worded_operand given)) 1 ≡ number (word_in words (operand_at given 1))
second_word words [] = refl
second_word words (first ∷ []) = refl
second_word words (first ∷ second ∷ given) = worded_value words second

pub first_worded : (given : List Operand) (called : Operand) → slice_get given 0 ≡ Some called → slice_get (take 2 (map worded_operand given)) 0 ≡ Some (worded_operand called)
first_worded [] called is = cc
first_worded (first ∷ given) called is = ap (λ (one : Option Operand). by one) is
  where
    by : Option Operand → Option Operand
    by None = None
    by (Some one) = Some (worded_operand one)
