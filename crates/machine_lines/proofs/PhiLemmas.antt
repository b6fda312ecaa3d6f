-- Phis and relocates by what is decoded of them.
use Rattle.std.proofs.Common.{◌≡◌, ℕ, suc, ◌==◌, Bool, true, false, List, [], ◌∷◌, length, map, refl, ap, ◌∙◌, arith}
use Rattle.std.proofs.lemmas.Bool.{lt-ltb}
use Rattle.std.specs.Prelude.{Option, Some, None, slice_get}
use Rattle.std.specs.List.{position}
use Rattle.std.specs.Option.{option_map, option_map_or}
use Rattle.std.proofs.lemmas.Option.{slice_get-map}
use Rattle.sp_ids.specs.declared.ids.BlockId.{BlockId}
use Rattle.ir_ast.specs.declared.ops.Operand.{Operand}
use Rattle.ir_ast.specs.declared.ops.Operand.TheVariants.{Value, Int, Null, Fun}
use Rattle.ir_ast.specs.Insts.{Instruction}
use Rattle.ir_ast.specs.Objects.{number}
use Rattle.object_meaning.specs.Frames.{index_in}
use Rattle.object_meaning.specs.Jumps.{incoming}
use Rattle.object_meaning.specs.Registers.{nothing, operand}
use Rattle.machine_meaning.specs.Words.{worded_operand}
use Rattle.machine_lines.specs.declared.decoded.Source.{Source}
use Rattle.machine_lines.specs.declared.decoded.Source.TheVariants.{Register, Literal}
use Rattle.machine_lines.specs.Decoding.{found_word, source_at, source_of}
use Rattle.machine_lines.specs.Lines.{line_of}
use Rattle.machine_lines.proofs.DecodeLemmas.{source_at_is}

-- whether a label, if it is there, is this block
abbrev pub is_from : Option BlockId → ℕ → Bool
is_from label from = option_map_or (λ label. label.0 == from) label false

first_place : (labels : List BlockId) (from : ℕ) → is_from (slice_get labels 0) from ≡ true → position (λ label. label.0 == from) labels ≡ Some 0
first_place [] from is = cc
first_place (label ∷ labels) from is =
    let within = lt-ltb 0 (suc (length labels)) (omega arith) in rw (is, within) refl

second_place : (labels : List BlockId) (from : ℕ) → is_from (slice_get labels 0) from ≡ false → is_from (slice_get labels 1) from ≡ true
    → position (λ label. label.0 == from) labels ≡ Some 1
second_place [] from other is = cc
second_place (label ∷ []) from other is = cc
second_place (label ∷ next ∷ labels) from other is =
    let within = lt-ltb 1 (suc (suc (length labels))) (omega arith) in rw (other, is, within) refl

module _ (registers : List ℕ) (phi : Instruction) (from : ℕ) where
  pub incoming_first : is_from (slice_get phi.labels 0) from ≡ true
      → incoming from (map number registers) (line_of 0 phi).inst ≡ number (found_word registers (source_at phi.operands 0))
  incoming_first is =
      ap (λ (found : Option ℕ). option_map_or (operand (map number registers) (map worded_operand phi.operands)) found nothing) (first_place phi.labels from is)
      ∙ source_at_is registers phi.operands 0

  pub incoming_second : is_from (slice_get phi.labels 0) from ≡ false → is_from (slice_get phi.labels 1) from ≡ true
      → incoming from (map number registers) (line_of 0 phi).inst ≡ number (found_word registers (source_at phi.operands 1))
  incoming_second other is =
      ap (λ (found : Option ℕ). option_map_or (operand (map number registers) (map worded_operand phi.operands)) found nothing) (second_place phi.labels from other is)
      ∙ source_at_is registers phi.operands 1

-- the index that a source is; a register is none
abbrev pub index_at : Source → ℕ
index_at (Register place) = 0
index_at (Literal word) = word

pub index_is : (operands : List Operand) (place : ℕ) → index_in (slice_get (map worded_operand operands) place) ≡ index_at (source_at operands place)
index_is operands place = ap index_in (slice_get-map worded_operand operands place) ∙ by (slice_get operands place)
  where
    by : (found : Option Operand) → index_in (option_map worded_operand found) ≡ index_at (option_map_or source_of found (source_of Null))
    by None = refl
    by (Some (Value id)) = refl
    by (Some (Int literal)) = refl
    by (Some Null) = refl
    by (Some (Fun func)) = refl
