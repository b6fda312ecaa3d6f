-- A pure instruction may go: it is a phi, or gives a value whatever its operands read.
use Rattle.std.proofs.Common.{◌≡◌, ◌==◌, ℕ, ◌-◌, ◌^◌, Bool, true, false, not, ◌&&◌, ◌||◌, if◌then◌else◌, List, refl, ap, ◌∙◌}
use Rattle.std.specs.Prelude.{Option, Some, None, nat_lt, slice_get, Result, Ok, Err, int_div, int_rem, ℤ}
use Rattle.std.specs.Option.{option_map_or}
use Rattle.sp_ids.specs.Numbers.{signed, wrapped}
use Rattle.sp_ids.specs.declared.ends.Trap.{Trap}
use Rattle.sp_ids.specs.declared.ends.Trap.TheVariants as traps
use Rattle.ir_ast.specs.declared.types.Ty.{Ty}
use Rattle.ir_ast.specs.declared.ops.Op.{Op}
use Rattle.ir_ast.specs.declared.ops.Op.TheVariants as ops
use Rattle.ir_ast.specs.declared.ops.Operand.{Operand}
use Rattle.ir_ast.specs.declared.ops.Operand.TheVariants.{Fun, Int, Null, Value}
use Rattle.ir_ast.specs.Insts.{Instruction}
use Rattle.ir_ast.specs.Layouts.{ObjectLayout}
use Rattle.ir_ast.specs.Objects.{Datum}
use Rattle.ir_ast.specs.Ops.{is_member, is_phi}
use Rattle.object_meaning.specs.Computing.{value_of_line, with_number}
use Rattle.object_meaning.specs.Numbers.{divided, shifted, signed_divided, spelled, width_of}
use Rattle.object_meaning.specs.Registers.{nothing, number_in, operand, value}
use Rattle.list_laws.proofs.Booleans.{and_false}
use Rattle.known_values.specs.Onward.{computes}
use Rattle.folded_forms.specs.Pure.{divides, divides_signed, is_pure, is_pure_at, shifts}
use Rattle.trimmed_laws.specs.Trims.{MayGo, computing, taken_before}

-- the number that the second operand reads, where it is a literal
reads_literal : (registers : List Datum) (operands : List Operand) (literal : ℕ) → slice_get operands 1 ≡ Some (Int literal) → number_in (operand registers operands 1) ≡ literal
reads_literal registers operands literal at = ap (λ (each : Option Operand). number_in (option_map_or (value registers) each nothing)) at

-- a literal that is one of its width
abbrev pub FitsWidth : ℕ → Option Operand → Type 0
FitsWidth width (Some (Int literal)) = wrapped width literal ≡ literal
FitsWidth width _ = Unit {0}

-- which a signed division asks of its divisor
abbrev pub DivisorFits : ℕ → Option Operand → Op → Type 0
DivisorFits width second ops.Sdiv = FitsWidth width second
DivisorFits width second ops.Srem = FitsWidth width second
DivisorFits width second op = Unit {0}

abbrev gives_value : {A : Type 0} → Result A Trap → Bool
gives_value (Ok value) = true
gives_value (Err trap) = false

value_given : {A : Type 0} (result : Result A Trap) → gives_value result ≡ true → (value : A) × (result ≡ Ok value)
value_given (Ok value) is = (value, refl)
value_given (Err trap) is = absurd cc

module _ (registers : List Datum) (operands : List Operand) (width : ℕ) where
  abbrev divisor : ℕ
  divisor = number_in (operand registers operands 1)

  divided_gives : (at : Option Operand) → slice_get operands 1 ≡ at → divides at ≡ true → (word : ℕ) → gives_value (with_number (divided divisor word)) ≡ true
  divided_gives (Some (Int literal)) at some word =
      ap (λ (n : ℕ). gives_value (with_number (if n == 0 then Err traps.Div else Ok word))) (reads_literal registers operands literal at) ∙ by (literal == 0) some
    where
      by : (b : Bool) → not b ≡ true → gives_value (with_number (if b then Err traps.Div else Ok word)) ≡ true
      by true some = absurd cc
      by false some = refl
  divided_gives (Some (Value id)) at some word = absurd cc
  divided_gives (Some Null) at some word = absurd cc
  divided_gives (Some (Fun func)) at some word = absurd cc
  divided_gives None at some word = absurd cc

  shifted_gives : (at : Option Operand) → slice_get operands 1 ≡ at → shifts width at ≡ true → (word : ℕ) → gives_value (with_number (shifted width divisor word)) ≡ true
  shifted_gives (Some (Int literal)) at some word =
      ap (λ (n : ℕ). gives_value (with_number (if nat_lt n width then Ok word else Err traps.Shift))) (reads_literal registers operands literal at) ∙ by (nat_lt literal width) some
    where
      by : (b : Bool) → b ≡ true → gives_value (with_number (if b then Ok word else Err traps.Shift)) ≡ true
      by true some = refl
      by false some = absurd cc
  shifted_gives (Some (Value id)) at some word = absurd cc
  shifted_gives (Some Null) at some word = absurd cc
  shifted_gives (Some (Fun func)) at some word = absurd cc
  shifted_gives None at some word = absurd cc

  signed_gives : (at : Option Operand) → slice_get operands 1 ≡ at → FitsWidth width at → divides_signed width at ≡ true → (left : ℕ) (word : ℤ)
      → gives_value (with_number (signed_divided width left divisor word)) ≡ true
  signed_gives (Some (Int literal)) at fits some left word =
      ap (λ (n : ℕ). gives_value (with_number (if n == 0 then Err traps.Div
      else (if least && (n == 2 ^ width - 1) then Err traps.Overflow else Ok (spelled width word)))))
      (ap (wrapped width) (reads_literal registers operands literal at) ∙ fits)
      ∙ by (literal == 0) (literal == 2 ^ width - 1) some
    where
      least : Bool
      least = wrapped width left == 2 ^ (width - 1)

      by : (zero last : Bool) → not zero && not last ≡ true
          → gives_value (with_number (if zero then Err traps.Div else (if least && last then Err traps.Overflow else Ok (spelled width word)))) ≡ true
      by true last some = absurd cc
      by false true some = absurd cc
      by false false some = ap (λ (b : Bool). gives_value (with_number (if b then Err traps.Overflow else Ok (spelled width word)))) (and_false least)
  signed_gives (Some (Value id)) at fits some left word = absurd cc
  signed_gives (Some Null) at fits some left word = absurd cc
  signed_gives (Some (Fun func)) at fits some left word = absurd cc
  signed_gives None at fits some left word = absurd cc

pure_gives : (layouts : List ObjectLayout) (registers : List Datum) (ty : Ty) (operands : List Operand) (op : Op) → DivisorFits (width_of ty) (slice_get operands 1) op
    → is_pure_at (width_of ty) (slice_get operands 1) op ≡ true → is_phi op ≡ false → gives_value (value_of_line layouts registers op ty operands) ≡ true
pure_gives layouts registers ty operands ops.Udiv fits pure other = divided_gives registers operands (width_of ty) (slice_get operands 1) refl pure _
pure_gives layouts registers ty operands ops.Urem fits pure other = divided_gives registers operands (width_of ty) (slice_get operands 1) refl pure _
pure_gives layouts registers ty operands ops.Sdiv fits pure other =
    signed_gives registers operands (width_of ty) (slice_get operands 1) refl fits pure (number_in (operand registers operands 0))
    (int_div (signed (width_of ty) (number_in (operand registers operands 0))) (signed (width_of ty) (number_in (operand registers operands 1))))
pure_gives layouts registers ty operands ops.Srem fits pure other =
    signed_gives registers operands (width_of ty) (slice_get operands 1) refl fits pure (number_in (operand registers operands 0))
    (int_rem (signed (width_of ty) (number_in (operand registers operands 0))) (signed (width_of ty) (number_in (operand registers operands 1))))
pure_gives layouts registers ty operands ops.Shl fits pure other = shifted_gives registers operands (width_of ty) (slice_get operands 1) refl pure _
pure_gives layouts registers ty operands ops.Lshr fits pure other = shifted_gives registers operands (width_of ty) (slice_get operands 1) refl pure _
pure_gives layouts registers ty operands ops.Ashr fits pure other = shifted_gives registers operands (width_of ty) (slice_get operands 1) refl pure _
pure_gives layouts registers ty operands ops.Phi fits pure other = absurd cc
pure_gives layouts registers ty operands ops.Load fits pure other = absurd cc
pure_gives layouts registers ty operands ops.Store fits pure other = absurd cc
pure_gives layouts registers ty operands (ops.Call callee types) fits pure other = absurd cc
pure_gives layouts registers ty operands (ops.Statepoint id callee types) fits pure other = absurd cc
pure_gives layouts registers ty operands ops.GcResult fits pure other = absurd cc
pure_gives layouts registers ty operands ops.GcRelocate fits pure other = absurd cc
pure_gives layouts registers ty operands ops.Br fits pure other = absurd cc
pure_gives layouts registers ty operands ops.CondBr fits pure other = absurd cc
pure_gives layouts registers ty operands ops.Switch fits pure other = absurd cc
pure_gives layouts registers ty operands ops.Ret fits pure other = absurd cc
pure_gives layouts registers ty operands ops.Unreachable fits pure other = absurd cc
pure_gives layouts registers ty operands op fits pure other = refl

pure_computes : (width : ℕ) (second : Option Operand) (op : Op) → is_pure_at width second op ≡ true → is_phi op ≡ false → computes op ≡ true
pure_computes width second ops.Phi pure other = absurd cc
pure_computes width second ops.Load pure other = absurd cc
pure_computes width second ops.Store pure other = absurd cc
pure_computes width second (ops.Call callee types) pure other = absurd cc
pure_computes width second (ops.Statepoint id callee types) pure other = absurd cc
pure_computes width second ops.GcResult pure other = absurd cc
pure_computes width second ops.GcRelocate pure other = absurd cc
pure_computes width second ops.Br pure other = absurd cc
pure_computes width second ops.CondBr pure other = absurd cc
pure_computes width second ops.Switch pure other = absurd cc
pure_computes width second ops.Ret pure other = absurd cc
pure_computes width second ops.Unreachable pure other = absurd cc
pure_computes width second op pure other = refl

-- so it may go
pub pure_goes : (layouts : List ObjectLayout) (stands : Operand → Operand) (inst : Instruction) → DivisorFits (width_of inst.ty) (slice_get inst.operands 1) inst.op → is_pure inst ≡ true
    → MayGo layouts stands inst
pure_goes layouts stands inst fits pure = by (is_phi inst.op) refl
  where
    by : (b : Bool) → is_phi inst.op ≡ b → MayGo layouts stands inst
    by true is = taken_before (ap (λ (b : Bool). b || is_member inst.op) is)
    by false is =
        computing (pure_computes (width_of inst.ty) (slice_get inst.operands 1) inst.op pure is)
        (λ registers same. value_given (value_of_line layouts registers inst.op inst.ty inst.operands) (pure_gives layouts registers inst.ty inst.operands inst.op fits pure is))
