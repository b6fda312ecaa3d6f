-- Externals that a module calls, and the list of their declarations.
use Rattle.std.proofs.Common.{◌≡◌, ℕ, Bool, true, false, ◌||◌, ◌==◌, List, [], ◌∷◌, ◌++◌, length, map, unwrap_or, slice_get, refl, ap, ◌∙◌, append-nil, ◌+◌, ◌<◌, suc, nat_lt, arith}
use Rattle.std.specs.List.{list_any, flat_map, range_with_len}
use Rattle.std.proofs.lemmas.Grind.{flat_map-append}
use Rattle.std.proofs.lemmas.List.Folds.{flat_map-map}
use Rattle.std.proofs.lemmas.List.FromFn.{get_or-map-range_with_len}
use Rattle.std.proofs.lemmas.Option.{unwrap_or-slice_get}
use Rattle.std.proofs.Math.Dec.{eqb-suc-zero}
use Rattle.std.proofs.lemmas.Bool.{true≢false, lt-ltb}
use Rattle.ir_ast.specs.Layouts.{ObjectLayout}
use Rattle.ir_ast.specs.Funcs.{Function}
use Rattle.print_tables.specs.declared.externals.External.{External}
use Rattle.print_tables.specs.declared.externals.External.TheVariants.{New, ResultOf, ResultPointer}
use Rattle.piece_writer.specs.Lists.{led, joined}
use Rattle.print_tables.proofs.AnyLemmas.{list_any-map}
use Rattle.print_tables.specs.Externals.{calls}
use Rattle.ir_printer.specs.Declarations.{declaration_if_called, fixed_externals, integer_widths, declarations_text, has_top}
use Rattle.list_laws.proofs.Booleans.{or_false}
use Rattle.list_laws.proofs.Tests.{any_append}

led-map : {A : Type 0} (text : A → List ℕ) (xs : List A) → led [] (map text xs) ≡ flat_map text xs
led-map text [] = refl
led-map text (x ∷ xs) = ap (λ rest. text x ++ rest) (led-map text xs)

-- with nothing between them, texts follow one another
pub joined-map : {A : Type 0} (text : A → List ℕ) (xs : List A) → joined [] (map text xs) ≡ flat_map text xs
joined-map text [] = refl
joined-map text (x ∷ xs) = ap (λ rest. text x ++ rest) (led-map text xs)

-- a text of a row of numbers
pub number-text : (text : ℕ → List ℕ) (from count place number : ℕ) → place < count → from + place ≡ number → unwrap_or (slice_get (map text (range_with_len from count)) place) [] ≡ text number
number-text text from count place number within is =
    unwrap_or-slice_get (map text (range_with_len from count)) place [] ∙ get_or-map-range_with_len text from count place number [] within is

flat_map-parts : (text : External → List ℕ) (places widths : List ℕ) (fixed : List External) → flat_map text (map New places ++ (fixed ++ (map ResultOf widths ++ ResultPointer ∷ []))) ≡
    joined [] (map (λ place. text (New place)) places) ++ (joined [] (map text fixed) ++ (joined [] (map (λ width. text (ResultOf width)) widths) ++ text ResultPointer))
flat_map-parts text places widths fixed = simp (flat_map-append, flat_map-map, joined-map, append-nil)

pub declarations_text-parts : (layouts : List ObjectLayout) (funcs : List Function) → declarations_text layouts funcs ≡
    joined [] (map (λ layout. declaration_if_called layouts funcs (New layout)) (range_with_len 0 (length layouts)))
    ++ (joined [] (map (declaration_if_called layouts funcs) fixed_externals)
    ++ (joined [] (map (λ width. declaration_if_called layouts funcs (ResultOf width)) integer_widths)
    ++ declaration_if_called layouts funcs ResultPointer))
unfolding declarations_text
declarations_text-parts layouts funcs =
    flat_map-parts (declaration_if_called layouts funcs) (range_with_len 0 (length layouts)) integer_widths fixed_externals

list_any-parts : (test : External → Bool) (widths : List ℕ) (fixed : List External) → list_any test (fixed ++ (map ResultOf widths ++ ResultPointer ∷ [])) ≡ (list_any test fixed || (list_any (λ width. test (ResultOf width)) widths || test ResultPointer))
list_any-parts test widths fixed = simp (any_append, list_any-map, or_false)

pub has_top-empty : (layouts : List ObjectLayout) (funcs : List Function) → true ≡ (length layouts == 0) → has_top layouts funcs ≡
    (list_any (calls funcs) fixed_externals || (list_any (λ width. calls funcs (ResultOf width)) integer_widths || calls funcs ResultPointer))
unfolding has_top
has_top-empty [] funcs empty = list_any-parts (calls funcs) integer_widths fixed_externals
has_top-empty (layout ∷ layouts) funcs empty = absurd (true≢false (empty ∙ eqb-suc-zero (length layouts)))

pub has_top-some : (layouts : List ObjectLayout) (funcs : List Function) → false ≡ (length layouts == 0) → has_top layouts funcs ≡ true
unfolding has_top
has_top-some [] funcs some = absurd (cc)
has_top-some (layout ∷ layouts) funcs some =
    let test : nat_lt 0 (suc (length layouts)) ≡ true = lt-ltb 0 (suc (length layouts)) (omega arith) in rw test
