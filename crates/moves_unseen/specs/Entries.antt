-- The frame of a function that is called, in both meanings.
use Rattle.std.specs.Prelude.{◌≡◌, ⊤, ℕ, ◌-◌, true, false, List, [], ◌∷◌, ◌++◌, length, replicate}
use Rattle.ir_ast.specs.declared.types.Ty.{Ty}
use Rattle.ir_ast.specs.Modules.{ModuleContent}
use Rattle.ir_ast.specs.Objects.{Datum}
use Rattle.ir_ast.specs.Types.{is_pointer}
use Rattle.moving_heap.specs.declared.stands.Stand.{Stand}
use Rattle.object_meaning.specs.Lines.{register_count}
use Rattle.object_meaning.specs.Registers.{number_in, pointer_in}
use Rattle.machine_meaning.specs.Code.{words_in}
use Rattle.moves_unseen.specs.Frames.{FrameWords}
use Rattle.moves_unseen.specs.Objects.{IsBase}

-- an argument: the same number, or a pointer without an offset
pub record IsArgument (stands : List Stand) (ty : Ty) (datum : Datum) (word : ℕ) : Type 0 where
  pub number : is_pointer ty ≡ false → word ≡ number_in datum
  pub base : is_pointer ty ≡ true → IsBase stands (pointer_in datum) word

abbrev pub AreArguments : List Stand → List Ty → List Datum → List ℕ → Type 0
AreArguments stands [] [] [] = ⊤
AreArguments stands (ty ∷ types) (datum ∷ given) (word ∷ words) = IsArgument stands ty datum word × AreArguments stands types given words
AreArguments stands types given words = ⊥

-- the words of the frame of a function that is called with these words
abbrev pub entered_words : ModuleContent → ℕ → List ℕ → FrameWords
entered_words content func words = record {
  words = words ++ replicate (register_count content func - length words) 0;
  slots = replicate (words_in content func) 0;
}
