-- The way back among kinds.
use Rattle.std.proofs.Common.{◌≡◌, ◌≢◌, ◌∙◌, ℕ, suc, ◌<◌, ◌≤◌, ◌+◌, ◌-◌, List, length, set, replicate, Option, Some, None, slice_get, refl, ap, sym, arith, inl, inr, ◌⊎◌}
use Rattle.std.specs.Prelude.{map, IfSome}
use Rattle.std.specs.List.{range_with_len}
use Rattle.std.specs.Option.{option_and_then}
use Rattle.std.proofs.lemmas.List.FromFn.{get_or-map-range_with_len, length-map-range_with_len}
use Rattle.std.proofs.lemmas.Option.{none-some, same_Some, slice_get_within, get_or_from_slice_get}
use Rattle.list_laws.proofs.Places.{get_set, get_filled}
use Rattle.ir_ast.specs.declared.ops.Operand.{Operand}
use Rattle.ir_ast.specs.declared.ops.Operand.TheVariants.{Value, Int, Null, Fun}
use Rattle.base_forms.specs.Bases.{origin_by}
use Rattle.base_forms.proofs.OriginLaws.{AreSteps, origin_by-step}
use Rattle.base_tables.specs.Kinds.{Kind, kind_source, stepped_in, origin_in}
use Rattle.base_tables.specs.Origins.{found_at, AreFound}
use Rattle.ir_ast.specs.Operands.{named}

kind_stands : (o : Option Kind) (before : Operand) → option_and_then kind_source o ≡ Some before → (kind : Kind) × (o ≡ Some kind)
kind_stands None before is = absurd (none-some before is)
kind_stands (Some kind) before is = (kind, refl)

are_steps : (kinds : List Kind) → AreSteps (stepped_in kinds) (length kinds)
are_steps kinds (Value value) before is =
    let found = kind_stands (slice_get kinds value.0) before is in
    record { is = refl; within = slice_get_within kinds value.0 found.0 found.1 }
are_steps kinds (Int word) before is = absurd (none-some before is)
are_steps kinds Null before is = absurd (none-some before is)
are_steps kinds (Fun other) before is = absurd (none-some before is)

pub origin_in-step : (kinds : List Kind) (operand before : Operand) → stepped_in kinds operand ≡ Some before → origin_in kinds operand ≡ origin_in kinds before
origin_in-step kinds operand before is = origin_by-step (stepped_in kinds) (length kinds) (are_steps kinds) operand before is

-- one step less is left
pub one_less : (step : Operand → Option Operand) (size counter : ℕ) (operand before : Operand) → counter < size → step operand ≡ Some before
    → origin_by step (size - counter) operand ≡ origin_by step (size - (counter + 1)) before
one_less step size counter operand before below is =
    ap (λ n. origin_by step n operand) (let e : size - counter ≡ suc (size - (counter + 1)) = omega arith in e) ∙ rw is refl

pub none_left : (step : Operand → Option Operand) (size counter : ℕ) (operand : Operand) → size ≤ counter → origin_by step (size - counter) operand ≡ Null
none_left step size counter operand past = ap (λ n. origin_by step n operand) (let e : size - counter ≡ 0 = omega arith in e)

pub none_found : (kinds : List Kind) (count : ℕ) → AreFound kinds (replicate count None)
none_found kinds count = record {
  each = λ value origin at. let bad : Some origin ≡ None = get_filled count None value (Some origin) at in absurd (none-some origin (sym bad));
}

pub found_kept : (kinds : List Kind) (found : List (Option Operand)) (value : ℕ) (origin : Operand) → AreFound kinds found → origin ≡ origin_in kinds (named value)
    → AreFound kinds (set found value (Some origin))
found_kept kinds found value origin before is = record { each = λ v o at. by v o (get_set found value v (Some origin) (Some o) at) }
  where
    by : (v : ℕ) (o : Operand) → ((v ≢ value) × (slice_get found v ≡ Some (Some o))) ⊎ ((v ≡ value) × (Some o ≡ Some origin)) → o ≡ origin_in kinds (named v)
    by v o (inl other) = before.each v o other.1
    by v o (inr same) = same_Some o origin same.1 ∙ is ∙ ap (λ n. origin_in kinds (named n)) (sym same.0)

found_stands : (o : Option (Option Operand)) (origin : Operand) → option_and_then (λ (x : Option Operand). x) o ≡ Some origin → o ≡ Some (Some origin)
found_stands None origin is = absurd (none-some origin is)
found_stands (Some x) origin is = ap (λ (y : Option Operand). Some y) is

-- what was found of an operand is its origin
pub found_is : (kinds : List Kind) (found : List (Option Operand)) (operand origin : Operand) → AreFound kinds found → found_at found operand ≡ Some origin
    → origin_in kinds operand ≡ origin
found_is kinds found (Value value) origin are is = sym (are.each value.0 origin (found_stands (slice_get found value.0) origin is))
found_is kinds found (Int word) origin are is = absurd (none-some origin is)
found_is kinds found Null origin are is = absurd (none-some origin is)
found_is kinds found (Fun other) origin are is = absurd (none-some origin is)

-- ---- in order

origins_at : (kinds : List Kind) (before : List Operand) (value v : ℕ) (origin : Operand)
    → before ≡ map (λ value. origin_in kinds (named value)) (range_with_len 0 value) → slice_get before v ≡ Some origin
    → origin ≡ origin_in kinds (named v)
origins_at kinds before value v origin are is =
    let f : ℕ → Operand = λ value. origin_in kinds (named value) in
    let there : slice_get (map f (range_with_len 0 value)) v ≡ Some origin = rw are at is in
    let within = slice_get_within (map f (range_with_len 0 value)) v origin there in
    sym (get_or_from_slice_get (map f (range_with_len 0 value)) v origin origin there)
    ∙ get_or-map-range_with_len f 0 value v v origin (omega (arith, within, length-map-range_with_len f 0 value)) (omega arith)

pub origins_if : (kinds : List Kind) (before : List Operand) (value v : ℕ) (found : Option Operand)
    → before ≡ map (λ value. origin_in kinds (named value)) (range_with_len 0 value) → found ≡ slice_get before v
    → IfSome found (λ origin. origin ≡ origin_in kinds (named v))
origins_if kinds before value v None are is = tt
origins_if kinds before value v (Some origin) are is = origins_at kinds before value v origin are (sym is)
