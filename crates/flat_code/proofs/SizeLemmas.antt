-- Where fields begin, all cells of which have 8 bytes.
use Rattle.std.proofs.Common.{◌≡◌, ℕ, zero, suc, ◌+◌, ◌*◌, ◌<◌, ◌≤◌, ◌%◌, List, [], ◌∷◌, length, get_or, refl, ap, ◌∙◌, arith}
use Rattle.std.specs.Prelude.{Option, None, slice_get}
use Rattle.std.specs.Option.{option_map_or}
use Rattle.std.proofs.Math.Nat.{add-mod-mod, mod-add-mod}
use Rattle.std.proofs.lemmas.Nat.{mul-mod_second}
use Rattle.std.proofs.lemmas.Option.{slice_get-get_or}
use Rattle.ir_ast.specs.declared.cells.Cell.{Cell}
use Rattle.ir_ast.specs.declared.cells.Cell.TheVariants.{I64}
use Rattle.ir_ast.specs.Sizes.{Field, begins_at}
use Rattle.ir_ast.proofs.SizeLaws.{words_from, laid_is, begins_is}

none_there : (word k : ℕ) (cells : List Cell) → length cells ≤ k → slice_get (words_from word cells) k ≡ None
none_there word k [] l = refl
none_there word zero (cell ∷ cells) l = absurd (omega arith)
none_there word (suc k) (cell ∷ cells) l = none_there (word + 1) k cells (let h : length cells ≤ k = omega arith in h)

pub field_begins : (cells : List Cell) (place : ℕ) → place < length cells → begins_at cells place ≡ 8 * place
field_begins cells place l = begins_is cells place (get_or cells place I64) (slice_get-get_or cells place I64 l)

pub no_field : (cells : List Cell) (place : ℕ) → length cells ≤ place → begins_at cells place ≡ 0
no_field cells place l =
    ap (λ (fields : List Field). option_map_or (λ (field : Field). field.begins) (slice_get fields place) 0) (laid_is cells)
    ∙ ap (λ (found : Option Field). option_map_or (λ (field : Field). field.begins) found 0) (none_there 0 place cells l)

-- what is reduced at each step is what is reduced at the end
pub scaled : (from times bytes rest m : ℕ) → (from + ((times * (bytes % m)) % m + rest) % m) % m ≡ (from + (times * bytes + rest)) % m
scaled from times bytes rest m =
    ap (λ (n : ℕ). (from + (n + rest) % m) % m) (mul-mod_second times bytes m)
    ∙ (ap (λ (n : ℕ). (from + n) % m) (mod-add-mod (times * bytes) m rest)
    ∙ add-mod-mod from (times * bytes + rest) m)
