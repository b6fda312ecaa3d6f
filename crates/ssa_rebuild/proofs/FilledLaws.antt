-- Operands over the numbers that their uses ask for are the renamed ones.
use Rattle.std.proofs.Common.{◌≡◌, ℕ, List, [], ◌∷◌, ◌++◌, length, map, take, refl, ap}
use Rattle.sp_ids.specs.declared.ids.BlockId.{BlockId}
use Rattle.ir_ast.specs.declared.types.Ty.{Ty}
use Rattle.ir_ast.specs.declared.ops.Operand.{Operand}
use Rattle.ir_ast.specs.declared.ops.Operand.TheVariants.{Value, Int, Null, Fun}
use Rattle.ir_ast.specs.Funcs.{Function}
use Rattle.rewriting_forms.specs.Names.{Name, Names, Naming, names_at_end}
use Rattle.rewriting_forms.specs.Rewritten.{renamed, phi_operands}
use Rattle.ssa_rebuild.specs.Rows.{held_in, use_numbers, number_behind}
use Rattle.ssa_rebuild.specs.Written.{filled, filled_bundle, left}
use Rattle.ssa_rebuild.specs.Arrivals.{labeled_numbers}

module _ (number : Name → ℕ) (names : Names) where
  abbrev here : ℕ → ℕ
  here v = number (names v)

  pub filled_is : (operands : List Operand) (rest : List ℕ) → filled (use_numbers here operands ++ rest) operands ≡ map (renamed number names) operands
  filled_is [] rest = refl
  filled_is (Value value ∷ operands) rest = ap (λ (os : List Operand). renamed number names (Value value) ∷ os) (filled_is operands rest)
  filled_is (Int word ∷ operands) rest = ap (λ (os : List Operand). Int word ∷ os) (filled_is operands rest)
  filled_is (Null ∷ operands) rest = ap (λ (os : List Operand). Null ∷ os) (filled_is operands rest)
  filled_is (Fun func ∷ operands) rest = ap (λ (os : List Operand). Fun func ∷ os) (filled_is operands rest)

  abbrev renamed_entry : Ty × Operand → Ty × Operand
  renamed_entry entry = (entry.0, renamed number names entry.1)

  pub bundle_is : (bundle : List (Ty × Operand)) (rest : List ℕ)
      → filled_bundle (use_numbers here (held_in bundle) ++ rest) bundle ≡ map (λ entry. (entry.0, renamed number names entry.1)) bundle
  bundle_is [] rest = refl
  bundle_is ((ty, Value value) ∷ bundle) rest = ap (λ (es : List (Ty × Operand)). renamed_entry (ty, Value value) ∷ es) (bundle_is bundle rest)
  bundle_is ((ty, Int word) ∷ bundle) rest = ap (λ (es : List (Ty × Operand)). renamed_entry (ty, Int word) ∷ es) (bundle_is bundle rest)
  bundle_is ((ty, Null) ∷ bundle) rest = ap (λ (es : List (Ty × Operand)). renamed_entry (ty, Null) ∷ es) (bundle_is bundle rest)
  bundle_is ((ty, Fun func) ∷ bundle) rest = ap (λ (es : List (Ty × Operand)). renamed_entry (ty, Fun func) ∷ es) (bundle_is bundle rest)

pub left_is : (here : ℕ → ℕ) (operands : List Operand) (rest : List ℕ) → left (use_numbers here operands ++ rest) operands ≡ rest
left_is here [] rest = refl
left_is here (Value value ∷ operands) rest = left_is here operands rest
left_is here (Int word ∷ operands) rest = left_is here operands rest
left_is here (Null ∷ operands) rest = left_is here operands rest
left_is here (Fun func ∷ operands) rest = left_is here operands rest

module _ (func : Function) (table : List Operand) (naming : Naming) (number : Name → ℕ) where
  abbrev at_end : ℕ → ℕ → ℕ
  at_end p = number_behind func table naming number p

  pub phi_filled : (labels : List BlockId) (operands : List Operand) (rest : List ℕ)
      → filled (labeled_numbers at_end labels operands ++ rest) (take (length labels) operands) ≡ phi_operands func table naming number labels operands
  phi_filled [] [] rest = refl
  phi_filled [] (o ∷ operands) rest = refl
  phi_filled (label ∷ labels) [] rest = refl
  phi_filled (label ∷ labels) (Value value ∷ operands) rest =
      ap (λ (os : List Operand). renamed number (names_at_end func table naming label.0) (Value value) ∷ os) (phi_filled labels operands rest)
  phi_filled (label ∷ labels) (Int word ∷ operands) rest = ap (λ (os : List Operand). Int word ∷ os) (phi_filled labels operands rest)
  phi_filled (label ∷ labels) (Null ∷ operands) rest = ap (λ (os : List Operand). Null ∷ os) (phi_filled labels operands rest)
  phi_filled (label ∷ labels) (Fun other ∷ operands) rest = ap (λ (os : List Operand). Fun other ∷ os) (phi_filled labels operands rest)

  pub phi_left : (labels : List BlockId) (operands : List Operand) (rest : List ℕ)
      → left (labeled_numbers at_end labels operands ++ rest) (take (length labels) operands) ≡ rest
  phi_left [] [] rest = refl
  phi_left [] (o ∷ operands) rest = refl
  phi_left (label ∷ labels) [] rest = refl
  phi_left (label ∷ labels) (Value value ∷ operands) rest = phi_left labels operands rest
  phi_left (label ∷ labels) (Int word ∷ operands) rest = phi_left labels operands rest
  phi_left (label ∷ labels) (Null ∷ operands) rest = phi_left labels operands rest
  phi_left (label ∷ labels) (Fun other ∷ operands) rest = phi_left labels operands rest
