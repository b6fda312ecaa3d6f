-- What the interpreter's registers stand for, read and written.
use Rattle.std.proofs.Common.{◌≡◌, ℕ, List, [], ◌∷◌, map, refl, sym, ap, ◌∙◌}
use Rattle.std.specs.Prelude.{Option, Some, None, slice_get}
use Rattle.std.specs.Option.{option_map_or}
use Rattle.std.proofs.lemmas.List.{map-set}
use lib.ListN.{get_or-map}
use Rattle.ir_ast.specs.declared.ops.Operand.{Operand}
use Rattle.ir_ast.specs.declared.ops.Operand.TheVariants.{Value, Int, Null, Fun}
use Rattle.object_store.specs.declared.words.Word.{Word}
use Rattle.object_store.specs.Words.{number_word}
use Rattle.ir_meaning.specs.declared.stacks.Move.{Move}
use Rattle.object_meaning.specs.Registers.{nothing, value, operand, Write, put, put_all}
use Rattle.object_store.specs.Words.{datum}
use Rattle.ir_meaning.specs.Stacks.{word, word_at, moved}

pub word_is : (registers : List Word) (one : Operand) → datum (word registers one) ≡ value (map datum registers) one
word_is registers (Value id) = sym (get_or-map datum registers id.0 (number_word 0))
word_is registers (Int literal) = refl
word_is registers Null = refl
word_is registers (Fun func) = refl

pub operand_is : (registers : List Word) (operands : List Operand) (place : ℕ)
    → datum (word_at registers operands place) ≡ operand (map datum registers) operands place
operand_is registers operands place =
    elim (slice_get operands place) as (λ found. datum (option_map_or (word registers) found (number_word 0)) ≡ option_map_or (value (map datum registers)) found nothing) [
      | None ↦ refl
      | Some one ↦ word_is registers one
    ]

pub words_are : (registers : List Word) (operands : List Operand)
    → map datum (map (word registers) operands) ≡ map (value (map datum registers)) operands
words_are registers [] = refl
words_are registers (one ∷ operands) = cc (word_is registers one, words_are registers operands)

pub put_is : (to : Option ℕ) (one : Word) (registers : List Word)
    → map datum (put to one registers) ≡ put to (datum one) (map datum registers)
put_is None one registers = refl
put_is (Some to) one registers = map-set datum registers to one

-- what a move writes
abbrev pub write_of : Move → Write
write_of move = record { to = move.to; value = datum move.word }

pub moves_are : (moves : List Move) (registers : List Word)
    → map datum (moved moves registers) ≡ put_all (map write_of moves) (map datum registers)
moves_are [] registers = refl
moves_are (move ∷ moves) registers =
    moves_are moves (put move.to move.word registers)
    ∙ ap (put_all (map write_of moves)) (put_is move.to move.word registers)
