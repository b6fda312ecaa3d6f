-- Registers that are kept, under their numbers, and what operands read of them.
use Rattle.std.proofs.Common.{◌≡◌, ℕ, zero, suc, ◌-◌, ◌<◌, ◌≤◌, false, List, [], ◌∷◌, ◌++◌, length, map, replicate, refl, sym, ap, inl, inr, ◌∙◌, arith}
use Rattle.std.specs.Prelude.{Option, Some, None}
use Rattle.std.specs.List.{All}
use Rattle.std.specs.Option.{option_map, IfSome}
use Rattle.std.proofs.lemmas.List.{get_or-set_same, get_or-set_other, length-set, get_or_append_left}
use Rattle.std.proofs.lemmas.Bool.{cases_eq, cases_lt, false≢true}
use Rattle.std.proofs.lemmas.List.Elements.{All-head, All-tail}
use Rattle.ir_ast.specs.declared.ops.Operand.{Operand}
use Rattle.ir_ast.specs.declared.ops.Operand.TheVariants.{Value, Int, Null, Fun}
use Rattle.ir_ast.specs.Insts.{Instruction}
use Rattle.ir_ast.specs.Objects.{Datum}
use Rattle.ir_ast.specs.Operands.{operands_of}
use Rattle.object_meaning.specs.Registers.{nothing, operand, put, value}
use Rattle.list_laws.proofs.Contents.{all_back, all_front, all_under}
use Rattle.renaming_laws.specs.Renamed.{renamed}
use Rattle.renaming_laws.proofs.RegisterLaws.{behind_read, filled_length}
use Rattle.known_values.specs.Meanings.{register as read}
use Rattle.trimmed_laws.specs.Trims.{Agree, HasNumber, IsNumbered, IsTrim, ReadSame, Trim, now_operand}

-- ---- writes

pub put_kept : {trim : Trim} {registers now : List Datum} (to : Option ℕ) (word : Datum) → IsTrim trim → IfSome to (HasNumber trim) → Agree trim registers now
    → Agree trim (put to word registers) (put (option_map trim.renaming.number to) word now)
put_kept None word law has kept = kept
put_kept {trim} {registers} {now} (Some to) word law has kept = record {
  each = λ register its. elim (cases_eq register to) [
    | inl same ↦ same_register register same
    | inr other ↦
        get_or-set_other now (trim.renaming.number to) (trim.renaming.number register) word nothing (λ same. other (law.apart register to its has same))
        ∙ (kept.each register its ∙ sym (get_or-set_other registers to register word nothing other))
  ];
  room = length-set registers to word ∙ kept.room;
  now_room = length-set now (trim.renaming.number to) word ∙ kept.now_room;
}
  where
    there : trim.renaming.number to < length now
    there = let within = law.within to has in let room = kept.now_room in omega arith

    here : to < length registers
    here = let below = has.0 in let room = kept.room in omega arith

    same_register : (register : ℕ) → register ≡ to
        → read (put (Some (trim.renaming.number to)) word now) (trim.renaming.number register) ≡ read (put (Some to) word registers) register
    same_register register same =
        ap (λ n. read (put (Some (trim.renaming.number to)) word now) (trim.renaming.number n)) same
        ∙ (get_or-set_same now (trim.renaming.number to) word nothing there
        ∙ (sym (get_or-set_same registers to word nothing here) ∙ sym (ap (λ n. read (put (Some to) word registers) n) same)))

pub put_unkept : {trim : Trim} {registers now : List Datum} (to : Option ℕ) (word : Datum) → IfSome to (λ register. trim.kept register ≡ false) → Agree trim registers now
    → Agree trim (put to word registers) now
put_unkept None word unkept kept = kept
put_unkept {trim} {registers} {now} (Some to) word unkept kept = record {
  each = λ register its. kept.each register its ∙ sym (get_or-set_other registers to register word nothing (λ same. false≢true (sym unkept ∙ (ap trim.kept (sym same) ∙ its.1))));
  room = length-set registers to word ∙ kept.room;
  now_room = kept.now_room;
}

-- ---- what operands read

pub value_kept : {trim : Trim} {registers now : List Datum} (each : Operand) → IsNumbered trim each → Agree trim registers now
    → value now (renamed trim.renaming.number each) ≡ value registers each
value_kept (Value id) has kept = kept.each id.0 has
value_kept (Int literal) has kept = refl
value_kept Null has kept = refl
value_kept (Fun func) has kept = refl

-- what stands for it has a number
abbrev pub Numbered : Trim → Operand → Type 0
Numbered trim each = IsNumbered trim (trim.stands each)

module _ {trim : Trim} {registers now : List Datum} (kept : Agree trim registers now) where
  pub standing_kept : (operands : List Operand) (place : ℕ) → All (Numbered trim) operands
      → operand now (map (now_operand trim) operands) place ≡ operand registers (map trim.stands operands) place
  standing_kept [] place inside = refl
  standing_kept (each ∷ operands) zero inside = value_kept (trim.stands each) (All-head (Numbered trim) each operands inside) kept
  standing_kept (each ∷ operands) (suc place) inside = standing_kept operands place (All-tail (Numbered trim) each operands inside)

  pub value_now : (each : Operand) → Numbered trim each → value registers (trim.stands each) ≡ value registers each → value now (now_operand trim each) ≡ value registers each
  value_now each has same = value_kept (trim.stands each) has kept ∙ same

  -- and reads the same
  pub operand_kept : (operands : List Operand) (place : ℕ) → All (Numbered trim) operands → ReadSame trim.stands registers operands
      → operand now (map (now_operand trim) operands) place ≡ operand registers operands place
  operand_kept [] place inside same = refl
  operand_kept (each ∷ operands) zero inside same = value_now each (All-head (Numbered trim) each operands inside) (All-head (λ (o : Operand). value registers (trim.stands o) ≡ value registers o) each operands same)
  operand_kept (each ∷ operands) (suc place) inside same =
      operand_kept operands place (All-tail (Numbered trim) each operands inside) (All-tail (λ (o : Operand). value registers (trim.stands o) ≡ value registers o) each operands same)

  pub values_kept : (operands : List Operand) → All (Numbered trim) operands → ReadSame trim.stands registers operands
      → map (value now) (map (now_operand trim) operands) ≡ map (value registers) operands
  values_kept [] inside same = refl
  values_kept (each ∷ operands) inside same =
      ap (λ first. first ∷ map (value now) (map (now_operand trim) operands))
      (value_now each (All-head (Numbered trim) each operands inside) (All-head (λ (o : Operand). value registers (trim.stands o) ≡ value registers o) each operands same))
      ∙ ap (λ rest. value registers each ∷ rest)
      (values_kept operands (All-tail (Numbered trim) each operands inside) (All-tail (λ (o : Operand). value registers (trim.stands o) ≡ value registers o) each operands same))

-- ---- operands of a line and of its bundle

module _ (P : Operand → Type 0) (inst : Instruction) (all : All P (operands_of inst)) where
  pub of_line : All P inst.operands
  of_line = all_front P inst.operands (map (λ entry. entry.1) inst.bundle) all

  pub of_bundle : All (λ entry. P entry.1) inst.bundle
  of_bundle = all_under (λ entry. entry.1) P inst.bundle (all_back P inst.operands (map (λ entry. entry.1) inst.bundle) all)

-- ---- a new frame

-- an argument is kept under its number
argument_has : {trim : Trim} → IsTrim trim → (register : ℕ) → register < trim.renaming.arguments → HasNumber trim register
argument_has law register below = let all = law.few_arguments in (omega arith, (law.arguments register below).0)

arguments_within : {trim : Trim} (count : ℕ) → IsTrim trim → count ≤ trim.renaming.arguments → count ≤ trim.renaming.now_room
arguments_within zero law few = omega arith
arguments_within (suc count) law few =
    let same = (law.arguments count (omega arith)).1 in
    let within = law.within count (argument_has law count (omega arith)) in
    omega arith

-- arguments come first in both, and every other register starts as 0
pub entered_kept : {trim : Trim} (arguments : List Datum) → IsTrim trim → length arguments ≤ trim.renaming.arguments
    → Agree trim (arguments ++ replicate (trim.renaming.room - length arguments) nothing) (arguments ++ replicate (trim.renaming.now_room - length arguments) nothing)
entered_kept {trim} arguments law few = record {
  each = λ register has. elim (cases_lt register (length arguments)) [
    | inl first ↦ as_argument register first
    | inr past ↦
        behind_read arguments (trim.renaming.now_room - length arguments) (trim.renaming.number register) (number_past register has past)
        ∙ sym (behind_read arguments (trim.renaming.room - length arguments) register past)
  ];
  room = filled_length arguments trim.renaming.room (let all = law.few_arguments in omega arith);
  now_room = filled_length arguments trim.renaming.now_room (arguments_within (length arguments) law few);
}
  where
    as_argument : (register : ℕ) → register < length arguments
        → read (arguments ++ replicate (trim.renaming.now_room - length arguments) nothing) (trim.renaming.number register)
        ≡ read (arguments ++ replicate (trim.renaming.room - length arguments) nothing) register
    as_argument register first =
        ap (λ n. read (arguments ++ replicate (trim.renaming.now_room - length arguments) nothing) n) (law.arguments register (omega arith)).1
        ∙ (get_or_append_left arguments (replicate (trim.renaming.now_room - length arguments) nothing) nothing register first
        ∙ sym (get_or_append_left arguments (replicate (trim.renaming.room - length arguments) nothing) nothing register first))

    number_past : (register : ℕ) → HasNumber trim register → length arguments ≤ register → length arguments ≤ trim.renaming.number register
    number_past register has past = elim (cases_lt (trim.renaming.number register) (length arguments)) [
      | inr past ↦ past
      | inl first ↦
          let twice = (law.arguments (trim.renaming.number register) (omega arith)).1 in
          let same = law.apart (trim.renaming.number register) register (argument_has law (trim.renaming.number register) (omega arith)) has twice in
          absurd (omega arith)
    ]
