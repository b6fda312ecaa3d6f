-- What registers stand for.
use Rattle.std.proofs.Common.{◌≡◌, List, map, sym}
use lib.ListN.{get_or-map}
use Rattle.std.specs.Prelude.{slice_index_or}
use Rattle.object_meaning.specs.Registers.{nothing}
use Rattle.std.proofs.Common.{ℕ}
use Rattle.object_store.specs.declared.words.Word.{Word}
use Rattle.object_store.specs.Words.{datum, number_word}

pub register_is : (registers : List Word) (register : ℕ)
    → datum (slice_index_or registers register (number_word 0)) ≡ slice_index_or (map datum registers) register nothing
register_is registers register = sym (get_or-map datum registers register (number_word 0))
