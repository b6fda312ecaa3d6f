-- A write keeps how many registers there are.
use Rattle.std.proofs.Common.{◌≡◌, ℕ, List, [], ◌∷◌, length, Option, Some, None, refl, ◌∙◌}
use Rattle.std.proofs.lemmas.List.{length-set}
use Rattle.ir_ast.specs.Objects.{Datum}
use Rattle.object_meaning.specs.Registers.{Write, put, put_all}

pub put_length : {A : Type 0} (to : Option ℕ) (word : A) (registers : List A) → length (put to word registers) ≡ length registers
put_length None word registers = refl
put_length (Some own) word registers = length-set registers own word

pub puts_length : (writes : List Write) (registers : List Datum) → length (put_all writes registers) ≡ length registers
puts_length [] registers = refl
puts_length (write ∷ writes) registers = puts_length writes (put write.to write.value registers) ∙ put_length write.to write.value registers
