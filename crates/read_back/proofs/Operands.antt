-- The names, types and operands of a module's lines are printed as the reader reads them.
use Rattle.std.proofs.Common.{◌≡◌, refl, ℕ, ℤ, pos, negsuc, zero, suc, ◌<◌, ◌≤◌, ◌^◌, Bool, true, false, cond, not, List, [], ◌∷◌, length, Some, arith}
use Rattle.std.proofs.lemmas.List.{length-map}
use Rattle.std.specs.Prelude.{slice_get, ◌==◌}
use Rattle.std.specs.Option.{option_map_or}
use Rattle.std.specs.List.{All}
use Rattle.std.proofs.lemmas.List.Elements.{All-head, All-tail}
use Rattle.std.proofs.lemmas.Option.{slice_get_within}
use Rattle.sp_ids.specs.Numbers.{wrapped, signed}
use Rattle.sp_text.specs.Tokens.{is_name}
use Rattle.ir_ast.specs.declared.types.Ty.{Ty}
use Rattle.ir_ast.specs.declared.types.Ty.TheVariants as tys
use Rattle.ir_ast.specs.declared.ops.Operand.{Operand}
use Rattle.ir_ast.specs.declared.ops.Operand.TheVariants as operands
use Rattle.ir_ast.specs.Operands.{is_value}
use Rattle.ir_ast.specs.Types.{is_first_class}
use Rattle.ir_ast.specs.Widths.{IsWidth, type_widths}
use Rattle.ir_ast.specs.Values.{definitions_of, definition_name, definition_type, value_types}
use Rattle.ir_ast.specs.Faults.TypeClash.{Fits}
use Rattle.ir_printer.specs.Names.{Names, layout_name, function_name, block_name, value_name}
use Rattle.ir_printer.specs.Words.{type_text}
use Rattle.ir_printer.specs.Operands.{value_text}
use Rattle.line_tokens.specs.Families.{is_family_name}
use Rattle.line_parts.specs.Parts.{is_value_type}
use Rattle.line_parts.specs.Parts as values
use Rattle.read_back.specs.Said.{word_of, value_says}
use Rattle.read_back.proofs.Spellings.{SpellsType, SpellsValue, integer_type, pointer_type, integer_spelled, local_value, null_value}

tested_at : {X : Type 0} (P : List ℕ → Bool) (result : Bool) (g : X → List ℕ) (xs : List X) → All (λ x. P (g x) ≡ result) xs → (k : ℕ) → k < length xs → P (option_map_or g (slice_get xs k) []) ≡ result
tested_at P result g [] all k low = absurd (omega arith)
tested_at P result g (x ∷ xs) all zero low = All-head (λ x. P (g x) ≡ result) x xs all
tested_at P result g (x ∷ xs) all (suc k) low = tested_at P result g xs (All-tail (λ x. P (g x) ≡ result) x xs all) k (omega arith)

pub named_at : {X : Type 0} (g : X → List ℕ) (xs : List X) → All (λ x. is_name (g x) ≡ true) xs → (k : ℕ) → k < length xs → is_name (option_map_or g (slice_get xs k) []) ≡ true
named_at g xs all k low = tested_at is_name true g xs all k low

-- what a function's lines name has names of texts
pub record HaveNames (names : Names) : Type 0 where
  pub values : All (λ given. is_name (definition_name given) ≡ true) (definitions_of names.func)
  pub blocks : All (λ block. is_name block.name ≡ true) names.func.blocks
  pub layouts : All (λ layout. is_name layout.name ≡ true) names.layouts
  pub functions : All (λ func. is_name func.name ≡ true) names.funcs
  -- no function has the name of one of the three families
  pub own : All (λ func. is_family_name func.name ≡ false) names.funcs

pub value-named : (names : Names) → HaveNames names → (v : ℕ) → v < length (definitions_of names.func) → is_name (value_name names.func v) ≡ true
unfolding value_name
value-named names have v low = named_at definition_name (definitions_of names.func) have.values v low

pub block-named : (names : Names) → HaveNames names → (b : ℕ) → b < length names.func.blocks → is_name (block_name names.func b) ≡ true
block-named names have b low = named_at (λ block. block.name) names.func.blocks have.blocks b low

pub layout-named : (names : Names) → HaveNames names → (l : ℕ) → l < length names.layouts → is_name (layout_name names.layouts l) ≡ true
layout-named names have l low = named_at (λ layout. layout.name) names.layouts have.layouts l low

pub function-named : (names : Names) → HaveNames names → (f : ℕ) → f < length names.funcs → is_name (function_name names.funcs f) ≡ true
function-named names have f low = named_at (λ func. func.name) names.funcs have.functions f low

pub function-own : (names : Names) → HaveNames names → (f : ℕ) → f < length names.funcs → is_family_name (function_name names.funcs f) ≡ false
function-own names have f low = tested_at is_family_name false (λ func. func.name) names.funcs have.own f low

-- ---- types

-- from 1 to 64 bits
abbrev pub IsNarrow : Ty → Type 0
IsNarrow (tys.Int width) = (1 ≤ width) × (width ≤ 64)
IsNarrow _ = Unit {0}

pub narrow_of : (ty : Ty) → All IsWidth (type_widths ty) → IsNarrow ty
narrow_of tys.Void widths = tt
narrow_of (tys.Int width) widths = All-head IsWidth width [] widths
narrow_of tys.Ptr widths = tt
narrow_of tys.Token widths = tt

pub type_spelled : (ty : Ty) → is_first_class ty ≡ true → IsNarrow ty → SpellsType (type_text ty) (word_of ty)
type_spelled tys.Void first narrow = absurd cc
type_spelled (tys.Int width) first narrow = integer_type width narrow
type_spelled tys.Ptr first narrow = pointer_type
type_spelled tys.Token first narrow = absurd cc

pub type_allowed : (ty : Ty) → is_first_class ty ≡ true → is_value_type (word_of ty) ≡ true
type_allowed tys.Void first = cc
type_allowed (tys.Int width) first = refl
type_allowed tys.Ptr first = refl
type_allowed tys.Token first = cc

-- ---- values

pub in_types : (names : Names) (v : ℕ) (ty : Ty) → slice_get (value_types names.func) v ≡ Some ty → v < length (definitions_of names.func)
in_types names v ty is = rw (length-map (definitions_of names.func) definition_type) at (slice_get_within (value_types names.func) v ty is)

pub value_spelled : (names : Names) → HaveNames names → (ty : Ty) → IsNarrow ty → (operand : Operand) → is_value operand ≡ true → Fits (value_types names.func) operand ty
    → SpellsValue (value_text names ty operand) (value_says names ty operand)
value_spelled names have ty narrow (operands.Value v) is fits = local_value (value_name names.func v.0) (value-named names have v.0 (in_types names v.0 ty fits))
value_spelled names have ty narrow (operands.Int number) is fits = by ty fits.1 narrow
  where
    by : (ty : Ty) → ty ≡ tys.Int fits.0 → IsNarrow ty → SpellsValue (value_text names ty (operands.Int number)) (value_says names ty (operands.Int number))
    by (tys.Int width) same narrow = integer_spelled width number narrow.1
    by tys.Void same narrow = absurd cc
    by tys.Ptr same narrow = absurd cc
    by tys.Token same narrow = absurd cc
value_spelled names have ty narrow operands.Null is fits = null_value
value_spelled names have ty narrow (operands.Fun f) is fits = absurd cc
