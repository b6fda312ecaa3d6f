-- Registers of words, read and written as those of the meaning.
use Rattle.std.proofs.Common.{◌≡◌, ℕ, List, ◌∷◌, map, replicate, zero, suc, refl, ap}
use Rattle.std.specs.Prelude.{Option, Some, None, slice_index, slice_index_or}
use Rattle.std.proofs.lemmas.List.{map-set}
use lib.ListN.{get_or-map}
use Rattle.ir_ast.specs.Objects.{number}
use Rattle.object_meaning.specs.Registers.{nothing, put}

pub register_is : (registers : List ℕ) (place : ℕ) → slice_index_or (map number registers) place nothing ≡ number (slice_index registers place)
register_is registers place = get_or-map number registers place 0

pub put_is : (to : Option ℕ) (word : ℕ) (registers : List ℕ) → map number (put to word registers) ≡ put to (number word) (map number registers)
put_is None word registers = refl
put_is (Some to) word registers = map-set number registers to word

pub zeros_are : (count : ℕ) → map number (replicate count 0) ≡ replicate count nothing
zeros_are zero = refl
zeros_are (suc count) = ap (λ rest. nothing ∷ rest) (zeros_are count)
