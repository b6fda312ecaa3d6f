-- Where every cell has 8 bytes, the fields of an element lie one behind the other.
use Rattle.std.proofs.Common.{◌≡◌, ℕ, zero, suc, ◌+◌, ◌*◌, max, List, [], ◌∷◌, length, map, fold, refl, ap, ◌∙◌, arith}
use Rattle.std.specs.Prelude.{Some, slice_get}
use Rattle.std.specs.Option.{option_map_or}
use Rattle.ir_ast.specs.declared.cells.Cell.{Cell}
use Rattle.ir_ast.specs.declared.cells.Cell.TheVariants.{I64, Ptr}
use Rattle.ir_ast.specs.Layouts.{ObjectLayout}
use Rattle.ir_ast.specs.Objects.{Object, byte_count, footprint}
use Rattle.ir_ast.specs.Sizes.{Field, aligned, begins_at, bytes, end_from, fields_in, laid, laid_from, size_of}
use Rattle.std.proofs.Math.Nat.{mul_left_comm}

pub bytes_are : (cell : Cell) → bytes cell ≡ 8
bytes_are I64 = refl
bytes_are Ptr = refl

-- a multiple of 8 is aligned
pub aligned_at : (size number words : ℕ) → size ≡ 8 → number ≡ 8 * words → aligned size number ≡ 8 * words
aligned_at size number words eight is = rw (eight, is) (omega arith)

-- fields one behind the other, from this word on
abbrev pub words_from : ℕ → List Cell → List Field
words_from word [] = []
words_from word (cell ∷ cells) = record { cell = cell; begins = 8 * word } ∷ words_from (word + 1) cells

next_end : (cell : Cell) (end word : ℕ) → end ≡ 8 * word → aligned (bytes cell) end + bytes cell ≡ 8 * (word + 1)
next_end cell end word is =
    let eight = bytes_are cell in let begins = aligned_at (bytes cell) end word eight is in omega arith

laid_words : (word end : ℕ) (cells : List Cell) → end ≡ 8 * word → laid_from end cells ≡ words_from word cells
laid_words word end [] is = refl
laid_words word end (cell ∷ cells) is =
    ap (λ (begins : ℕ). record { cell = cell; begins = begins } ∷ laid_from (aligned (bytes cell) end + bytes cell) cells)
    (aligned_at (bytes cell) end word (bytes_are cell) is)
    ∙ ap (λ (rest : List Field). record { cell = cell; begins = 8 * word } ∷ rest)
    (laid_words (word + 1) (aligned (bytes cell) end + bytes cell) cells (next_end cell end word is))

pub laid_is : (cells : List Cell) → laid cells ≡ words_from 0 cells
unfolding laid
laid_is cells = laid_words 0 0 cells refl

end_words : (word end : ℕ) (cells : List Cell) → end ≡ 8 * word → end_from end cells ≡ 8 * (word + length cells)
end_words word end [] is = omega arith
end_words word end (cell ∷ cells) is =
    let rest = end_words (word + 1) (aligned (bytes cell) end + bytes cell) cells (next_end cell end word is) in omega arith

greatest : (cells : List Cell) (most : ℕ) → most ≡ 8 → fold max most (map bytes cells) ≡ 8
greatest [] most is = is
greatest (cell ∷ cells) most is = let eight = bytes_are cell in greatest cells (max most (bytes cell)) (omega arith)

pub size_is : (cells : List Cell) → size_of cells ≡ 8 * length cells
unfolding size_of
size_is [] = refl
size_is (cell ∷ cells) =
    let eight = bytes_are cell in
    aligned_at (fold max (max 1 (bytes cell)) (map bytes cells)) (end_from 0 (cell ∷ cells)) (length (cell ∷ cells))
    (greatest cells (max 1 (bytes cell)) (omega arith)) (end_words 0 0 (cell ∷ cells) refl ∙ omega arith)

begins_words : (word place : ℕ) (cells : List Cell) (cell : Cell) → slice_get cells place ≡ Some cell
    → option_map_or (λ (field : Field). field.begins) (slice_get (words_from word cells) place) 0 ≡ 8 * (word + place)
begins_words word place [] cell is = cc
begins_words word zero (first ∷ cells) cell is = omega arith
begins_words word (suc place) (first ∷ cells) cell is = begins_words (word + 1) place cells cell is ∙ omega arith

-- a field begins at its place among the words
pub begins_is : (cells : List Cell) (place : ℕ) (cell : Cell) → slice_get cells place ≡ Some cell → begins_at cells place ≡ 8 * place
begins_is cells place cell is =
    ap (λ (fields : List Field). option_map_or (λ (field : Field). field.begins) (slice_get fields place) 0) (laid_is cells)
    ∙ (begins_words 0 place cells cell is ∙ omega arith)

pub bytes_of_object : (layouts : List ObjectLayout) (object : Object)
    → byte_count layouts object ≡ 8 * (object.count * length (fields_in layouts object.layout))
bytes_of_object layouts object =
    let fields = length (fields_in layouts object.layout) in
    ap (λ (size : ℕ). object.count * size) (size_is (fields_in layouts object.layout)) ∙ mul_left_comm object.count 8 fields

pub footprint_is : (layouts : List ObjectLayout) (object : Object)
    → footprint layouts object ≡ max 8 (8 * (object.count * length (fields_in layouts object.layout)))
footprint_is layouts object =
    ap (λ (size : ℕ). max 8 size)
    (aligned_at 8 (byte_count layouts object) (object.count * length (fields_in layouts object.layout)) refl (bytes_of_object layouts object))
