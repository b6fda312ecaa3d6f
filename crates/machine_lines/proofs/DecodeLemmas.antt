-- Decoded operands are those of the lines.
use Rattle.std.proofs.Common.{◌≡◌, ℕ, List, map, length, refl, sym, ap, ◌∙◌, arith, ◌<◌, get_or}
use Rattle.std.specs.Prelude.{Option, Some, None, slice_get}
use Rattle.std.specs.Option.{option_map, option_map_or}
use Rattle.std.proofs.lemmas.List.{get_or_default, length-map}
use lib.ListN.{get_or-map}
use Rattle.std.proofs.lemmas.Option.{slice_get-map}
use Rattle.ir_ast.specs.declared.ops.Operand.{Operand}
use Rattle.ir_ast.specs.declared.ops.Operand.TheVariants.{Value, Int, Null, Fun}
use Rattle.ir_ast.specs.Insts.{Instruction}
use Rattle.ir_ast.specs.Objects.{number}
use Rattle.object_meaning.specs.Registers.{nothing, value, operand}
use Rattle.machine_meaning.specs.Words.{worded_operand}
use Rattle.machine_lines.specs.declared.decoded.Decoded.{Decoded}
use Rattle.machine_lines.specs.Decoding.{source_of, source_at, decoded_of, found_word}
use Rattle.machine_lines.proofs.WordLemmas.{register_is}

source_is : (registers : List ℕ) (operand : Operand) → value (map number registers) (worded_operand operand) ≡ number (found_word registers (source_of operand))
source_is registers (Value id) = register_is registers id.0
source_is registers (Int literal) = refl
source_is registers Null = refl
source_is registers (Fun func) = refl

pub source_at_is : (registers : List ℕ) (operands : List Operand) (place : ℕ)
    → operand (map number registers) (map worded_operand operands) place ≡ number (found_word registers (source_at operands place))
source_at_is registers operands place =
    ap (λ (found : Option Operand). option_map_or (value (map number registers)) found nothing) (slice_get-map worded_operand operands place)
    ∙ by (slice_get operands place)
  where
    by : (found : Option Operand) → option_map_or (value (map number registers)) (option_map worded_operand found) nothing
        ≡ number (found_word registers (option_map_or source_of found (source_of Null)))
    by None = refl
    by (Some one) = source_is registers one

-- the decoded line beside an instruction
pub decoded_at : (insts : List Instruction) (decoded : List Decoded) (i : ℕ) (inst : Instruction) (d : Decoded) → decoded ≡ map decoded_of insts → i < length insts → inst ≡ get_or insts i inst
    → get_or decoded i d ≡ decoded_of inst
decoded_at insts decoded i inst d tied below read =
    let same : i < length (map decoded_of insts) = omega (arith, length-map insts decoded_of) in
    ap (λ (all : List Decoded). get_or all i d) tied ∙ get_or_default (map decoded_of insts) i d (decoded_of inst) same
    ∙ get_or-map decoded_of insts i inst ∙ ap decoded_of (sym read)
