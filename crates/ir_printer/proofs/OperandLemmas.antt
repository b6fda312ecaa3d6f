-- Operands whose type is spelled at once.
use Rattle.std.proofs.Common.{◌≡◌, ◌++◌, ℕ, List, codes, ap, sym, ◌∙◌}
use Rattle.sp_ids.specs.declared.ids.ValueId.{ValueId}
use Rattle.ir_ast.specs.declared.types.Ty.{Ty}
use Rattle.ir_ast.specs.declared.types.Ty.TheVariants.{Int as Integer}
use Rattle.ir_ast.specs.declared.ops.Operand.{Operand}
use Rattle.ir_ast.specs.declared.ops.Operand.TheVariants.{Value, Int}
use Rattle.ir_printer.specs.Names.{Names, value_name}
use Rattle.ir_printer.specs.Words.{type_text, integer_text}
use Rattle.ir_printer.specs.Operands.{literal_text, value_text, typed_text}
use Rattle.ir_printer.proofs.IntegerLemmas.{decimal-64, decimal-32}

pub type_text-i64 : (ty : Ty) (width : ℕ) → ty ≡ Integer width → width ≡ 64 → type_text ty ≡ codes "i64"
type_text-i64 ty width is same = ap type_text (is ∙ ap Integer same) ∙ ap (λ (digits : List ℕ). codes "i" ++ digits) decimal-64

pub type_text-i32 : (ty : Ty) (width : ℕ) → ty ≡ Integer width → width ≡ 32 → type_text ty ≡ codes "i32"
type_text-i32 ty width is same = ap type_text (is ∙ ap Integer same) ∙ ap (λ (digits : List ℕ). codes "i" ++ digits) decimal-32

-- a value
pub typed_text-named : (names : Names) (ty : Ty) (operand : Operand) (value : ValueId) (word name : List ℕ) → type_text ty ≡ word → operand ≡ Value value → name ≡ value_name names.func value.0 → typed_text names ty operand ≡ word ++ (codes " " ++ (codes "%" ++ name))
typed_text-named names ty operand value word name is named spelled =
    ap (λ (text : List ℕ). text ++ (codes " " ++ value_text names ty operand)) is
    ∙ ap (λ (text : List ℕ). word ++ (codes " " ++ text)) (ap (value_text names ty) named ∙ ap (λ (bytes : List ℕ). codes "%" ++ bytes) (sym spelled))

-- an integer
pub typed_text-number : (names : Names) (ty : Ty) (operand : Operand) (width number : ℕ) (word : List ℕ) → type_text ty ≡ word → ty ≡ Integer width → operand ≡ Int number → typed_text names ty operand ≡ word ++ (codes " " ++ integer_text width number)
typed_text-number names ty operand width number word is typed named =
    ap (λ (text : List ℕ). text ++ (codes " " ++ value_text names ty operand)) is
    ∙ ap (λ (text : List ℕ). word ++ (codes " " ++ text)) (ap (value_text names ty) named ∙ ap (λ (t : Ty). literal_text t number) typed)
