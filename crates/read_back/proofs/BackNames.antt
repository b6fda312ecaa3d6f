-- Names: each stands for the number that it was printed for.
use Rattle.std.proofs.Common.{◌≡◌, ◌∙◌, ℕ, suc, ◌-◌, ◌^◌, ◌<◌, Bool, true, false, cond, List, [], ◌∷◌, map, length, min, refl, ap, sym, subst, arith}
use Rattle.std.specs.Prelude.{Option, Some, None, slice_get, option_map}
use Rattle.std.specs.Option.{option_map_or}
use Rattle.std.specs.List.{All, AllByRecursion}
use Rattle.std.specs.Str.{bytes_eq}
use Rattle.std.proofs.lemmas.Option.{slice_get-map, slice_get_within}
use Rattle.std.proofs.lemmas.List.{length-map}
use Rattle.std.proofs.lemmas.List.Elements.{All-head}
use Rattle.std.proofs.lemmas.Slice.Eq.{bytes_eq-Decides}
use Rattle.sp_ids.specs.declared.ids.BlockId.{BlockId}
use Rattle.ir_ast.specs.declared.types.Ty.{Ty}
use Rattle.ir_ast.specs.declared.types.Ty.TheVariants as tys
use Rattle.ir_ast.specs.declared.ops.Operand.{Operand}
use Rattle.ir_ast.specs.declared.ops.Operand.TheVariants as operands
use Rattle.ir_ast.specs.Lists.{Distinct}
use Rattle.ir_ast.specs.Values.{definitions_of, definition_name, definition_type, value_types}
use Rattle.ir_ast.specs.Operands.{is_value}
use Rattle.ir_ast.specs.Types.{is_first_class}
use Rattle.ir_ast.specs.Widths.{IsWidth, type_widths}
use Rattle.ir_ast.specs.Faults.TypeClash.{Fits}
use Rattle.ir_printer.specs.Names.{Names, value_name, block_name, function_name, layout_name}
use Rattle.ir_lines.specs.Places.{place_in, number_of, number_in}
use Rattle.ir_lines.specs.Modules.{Known, operand_in, label_in}
use Rattle.ir_lines.proofs.LawNames.{stands, same_place, contains_get, get_some, position-cons}
use Rattle.module_laws.proofs.LawCalls.{found_by_name}
use Rattle.read_back.specs.Said.{word_of, value_says, label_says}
use Rattle.read_back.proofs.BackLiterals.{integer-back}

pub placed-back : {X : Type 0} (f : X → List ℕ) (xs : List X) (k : ℕ) → Distinct (map f xs) → k < length xs
    → place_in (map f xs) (option_map_or f (slice_get xs k) []) ≡ Some k
placed-back {X} f xs k once below =
    let g = get_some xs k below in
    let s = stands f xs (f g.0) (found_by_name f xs g.0 (f g.0) (contains_get xs k g.0 g.1) refl) in
    let at_k : slice_get (map f xs) k ≡ Some (f g.0) = slice_get-map f xs k ∙ ap (option_map f) g.1 in
    let at_s : slice_get (map f xs) s.place ≡ Some (f g.0) = slice_get-map f xs s.place ∙ ap (option_map f) s.there ∙ ap Some s.same in
    let one : s.place ≡ k = same_place (map f xs) s.place k once (slice_get_within (map f xs) s.place (f g.0) at_s)
    (slice_get_within (map f xs) k (f g.0) at_k) (at_s ∙ sym at_k) in
    ap (λ (o : Option X). place_in (map f xs) (option_map_or f o [])) g.1 ∙ s.placed ∙ ap Some one

pub numbered-back : {X : Type 0} (f : X → List ℕ) (xs : List X) (k : ℕ) → Distinct (map f xs) → length xs < 2 ^ 32 → k < length xs
    → number_in (map f xs) (option_map_or f (slice_get xs k) []) ≡ k
numbered-back f xs k once few below =
    ap number_of (placed-back f xs k once below) ∙ (let e : min k (2 ^ 32 - 1) ≡ k = omega arith in e)

pub unplaced-by : (names : List (List ℕ)) (name : List ℕ) → AllByRecursion (λ one. ¬ (one ≡ name)) names → place_in names name ≡ None
unplaced-by [] name none = refl
unplaced-by (one ∷ names) name none =
    position-cons (bytes_eq name) one names ∙ by (bytes_eq name one) refl ∙ ap (option_map suc) (unplaced-by names name none.1)
  where
    by : (b : Bool) → bytes_eq name one ≡ b
        → cond (bytes_eq name one) (Some 0) (option_map suc (place_in names name)) ≡ option_map suc (place_in names name)
    by true e = absurd (none.0 (sym ((bytes_eq-Decides name one).0 e)))
    by false e = ap (λ (b : Bool). cond b (Some 0) (option_map suc (place_in names name))) e

-- what the typer knows is what the printer names, and each name is once
pub record Setting (names : Names) (known : Known) : Type 0 where
  pub values : known.values ≡ map definition_name (definitions_of names.func)
  pub blocks : known.blocks ≡ map (λ block. block.name) names.func.blocks
  pub functions : known.functions ≡ map (λ func. func.name) names.funcs
  pub layouts : known.layouts ≡ map (λ layout. layout.name) names.layouts
  pub values_once : Distinct (map definition_name (definitions_of names.func))
  pub blocks_once : Distinct (map (λ block. block.name) names.func.blocks)
  pub functions_once : Distinct (map (λ func. func.name) names.funcs)
  pub layouts_once : Distinct (map (λ layout. layout.name) names.layouts)
  pub few_values : length (definitions_of names.func) < 2 ^ 32
  pub few_blocks : length names.func.blocks < 2 ^ 32
  pub few_functions : length names.funcs < 2 ^ 32
  pub few_layouts : length names.layouts < 2 ^ 32

pub value_number : (names : Names) (known : Known) → Setting names known → (k : ℕ) → k < length (definitions_of names.func)
    → number_in known.values (value_name names.func k) ≡ k
unfolding value_name
value_number names known s k below =
    ap (λ (ns : List (List ℕ)). number_in ns (value_name names.func k)) s.values
    ∙ numbered-back definition_name (definitions_of names.func) k s.values_once s.few_values below

pub label-back : (names : Names) (known : Known) → Setting names known → (label : BlockId) → label.0 < length names.func.blocks
    → label_in known.blocks (label_says names label) ≡ label
label-back names known s label below =
    ap (λ (n : ℕ). record { 0 = n })
    (ap (λ (ns : List (List ℕ)). number_in ns (block_name names.func label.0)) s.blocks
    ∙ numbered-back (λ block. block.name) names.func.blocks label.0 s.blocks_once s.few_blocks below)

pub layout-number : (names : Names) (known : Known) → Setting names known → (k : ℕ) → k < length names.layouts
    → number_in known.layouts (layout_name names.layouts k) ≡ k
layout-number names known s k below =
    ap (λ (ns : List (List ℕ)). number_in ns (layout_name names.layouts k)) s.layouts
    ∙ numbered-back (λ layout. layout.name) names.layouts k s.layouts_once s.few_layouts below

pub function-placed : (names : Names) (known : Known) → Setting names known → (k : ℕ) → k < length names.funcs
    → place_in known.functions (function_name names.funcs k) ≡ Some k
function-placed names known s k below =
    ap (λ (ns : List (List ℕ)). place_in ns (function_name names.funcs k)) s.functions
    ∙ placed-back (λ func. func.name) names.funcs k s.functions_once below

pub function-number : (names : Names) (known : Known) → Setting names known → (k : ℕ) → k < length names.funcs
    → number_in known.functions (function_name names.funcs k) ≡ k
function-number names known s k below =
    let few = s.few_functions in
    ap number_of (function-placed names known s k below) ∙ (let e : min k (2 ^ 32 - 1) ≡ k = omega arith in e)

-- an operand that fits a type of a width that there is
pub record Good (names : Names) (operand : Operand) (ty : Ty) : Type 0 where
  pub fits : Fits (value_types names.func) operand ty
  pub value : is_value operand ≡ true
  pub widths : All IsWidth (type_widths ty)

pub operand-back : (names : Names) (known : Known) → Setting names known → (ty : Ty) (operand : Operand) → Good names operand ty
    → operand_in known.values (word_of ty) (value_says names ty operand) ≡ operand
operand-back names known s ty (operands.Value value) g =
    let below : value.0 < length (definitions_of names.func) =
    (let w = slice_get_within (value_types names.func) value.0 ty g.fits in omega (arith, length-map (definitions_of names.func) definition_type)) in
    ap (λ (n : ℕ). operands.Value (record { 0 = n })) (value_number names known s value.0 below)
operand-back names known s (tys.Int w) (operands.Int n) g = by g.fits
  where
    inner : (width : ℕ) → tys.Int w ≡ tys.Int width → w ≡ width
    inner width e = grind (arith, e)

    by : (width : ℕ) × (tys.Int w ≡ tys.Int width) × (n < 2 ^ width) → operand_in known.values (word_of (tys.Int w)) (value_says names (tys.Int w) (operands.Int n)) ≡ operands.Int n
    by f =
        let wide = All-head IsWidth w [] g.widths in
        integer-back known.values w n wide.0 wide.1 (subst (λ (k : ℕ). n < 2 ^ k) (sym (inner f.0 f.1)) f.2)
operand-back names known s tys.Void (operands.Int n) g = absurd (let e : tys.Void ≡ tys.Int g.fits.0 = g.fits.1 in cc)
operand-back names known s tys.Ptr (operands.Int n) g = absurd (let e : tys.Ptr ≡ tys.Int g.fits.0 = g.fits.1 in cc)
operand-back names known s tys.Token (operands.Int n) g = absurd (let e : tys.Token ≡ tys.Int g.fits.0 = g.fits.1 in cc)
operand-back names known s ty operands.Null g = refl
operand-back names known s ty (operands.Fun func) g = absurd (let bad : false ≡ true = g.value in cc)

-- an entry of a "deopt" bundle
pub record IsKept (names : Names) (entry : Ty × Operand) : Type 0 where
  pub good : Good names entry.1 entry.0
  pub first_class : is_first_class entry.0 ≡ true
