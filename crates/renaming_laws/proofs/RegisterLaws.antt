-- Registers under other numbers, and what operands read.
use Rattle.std.proofs.Common.{◌≡◌, ℕ, zero, suc, ◌-◌, ◌<◌, ◌≤◌, List, [], ◌∷◌, ◌++◌, length, map, replicate, refl, sym, ap, inl, inr, ◌∙◌, arith}
use Rattle.std.specs.Prelude.{Option, Some, None, slice_get, slice_index_or}
use Rattle.std.specs.List.{All}
use Rattle.std.specs.Option.{option_map, IfSome}
use Rattle.std.proofs.lemmas.List.{get_or-set_same, get_or-set_other, length-set, get_or_append_left, length-append, length-replicate}
use Rattle.std.proofs.lemmas.Bool.{cases_eq, cases_lt}
use Rattle.std.proofs.Math.Seq.{get_or-append_right}
use Rattle.std.proofs.lemmas.List.Elements.{All-head, All-tail}
use Rattle.ir_ast.specs.declared.ops.Operand.{Operand}
use Rattle.ir_ast.specs.declared.ops.Operand.TheVariants.{Value, Int, Null, Fun}
use Rattle.ir_ast.specs.Objects.{Datum}
use Rattle.object_meaning.specs.Frames.{index_in}
use Rattle.object_meaning.specs.Calls.{function_in}
use Rattle.object_meaning.specs.Registers.{nothing, operand, put, value}
use Rattle.renaming_laws.specs.Renamed.{InRoom, IsRenaming, Renaming, renamed}
use Rattle.renaming_laws.specs.Inserted.{IsFresh}

abbrev pub read : List Datum → ℕ → Datum
read registers register = slice_index_or registers register nothing

-- each register has the same datum under its other number
pub record Kept (function : Renaming) (registers now : List Datum) : Type 0 where
  pub each : (register : ℕ) → register < function.room → read now (function.number register) ≡ read registers register
  pub room : length registers ≡ function.room
  pub now_room : length now ≡ function.now_room

-- ---- writes

pub put_kept : {function : Renaming} {registers now : List Datum} (to : Option ℕ) (word : Datum) → IsRenaming function
    → IfSome to (λ register. register < function.room) → Kept function registers now
    → Kept function (put to word registers) (put (option_map function.number to) word now)
put_kept None word law inside kept = kept
put_kept {function} {registers} {now} (Some to) word law inside kept = record {
  each = λ register below. elim (cases_eq register to) [
    | inl same ↦ same_register register same
    | inr other ↦
        get_or-set_other now (function.number to) (function.number register) word nothing (λ same. other (law.apart register to below inside same))
        ∙ (kept.each register below ∙ sym (get_or-set_other registers to register word nothing other))
  ];
  room = length-set registers to word ∙ kept.room;
  now_room = length-set now (function.number to) word ∙ kept.now_room;
}
  where
    there : function.number to < length now
    there = let within = law.within to inside in let room = kept.now_room in omega arith

    here : to < length registers
    here = let room = kept.room in omega arith

    same_register : (register : ℕ) → register ≡ to
        → read (put (Some (function.number to)) word now) (function.number register) ≡ read (put (Some to) word registers) register
    same_register register same =
        ap (λ n. read (put (Some (function.number to)) word now) (function.number n)) same
        ∙ (get_or-set_same now (function.number to) word nothing there
        ∙ (sym (get_or-set_same registers to word nothing here) ∙ sym (ap (λ n. read (put (Some to) word registers) n) same)))

pub put_fresh : {function : Renaming} {registers now : List Datum} (to : Option ℕ) (word : Datum) → IsFresh function to
    → Kept function registers now → Kept function registers (put to word now)
put_fresh None word fresh kept = kept
put_fresh {function} {registers} {now} (Some to) word fresh kept = record {
  each = λ register below. get_or-set_other now to (function.number register) word nothing (fresh register below) ∙ kept.each register below;
  room = kept.room;
  now_room = length-set now to word ∙ kept.now_room;
}

-- ---- what operands read

pub value_kept : {function : Renaming} {registers now : List Datum} (each : Operand) → InRoom function.room each → Kept function registers now
    → value now (renamed function.number each) ≡ value registers each
value_kept (Value id) inside kept = kept.each id.0 inside
value_kept (Int literal) inside kept = refl
value_kept Null inside kept = refl
value_kept (Fun func) inside kept = refl

pub operand_kept : {function : Renaming} {registers now : List Datum} (operands : List Operand) (place : ℕ) → All (InRoom function.room) operands
    → Kept function registers now → operand now (map (renamed function.number) operands) place ≡ operand registers operands place
operand_kept [] place inside kept = refl
operand_kept {function} (each ∷ operands) zero inside kept = value_kept each (All-head (InRoom function.room) each operands inside) kept
operand_kept {function} (each ∷ operands) (suc place) inside kept = operand_kept operands place (All-tail (InRoom function.room) each operands inside) kept

pub values_kept : {function : Renaming} {registers now : List Datum} (operands : List Operand) → All (InRoom function.room) operands
    → Kept function registers now → map (value now) (map (renamed function.number) operands) ≡ map (value registers) operands
values_kept [] inside kept = refl
values_kept {function} {registers} {now} (each ∷ operands) inside kept =
    ap (λ first. first ∷ map (value now) (map (renamed function.number) operands)) (value_kept each (All-head (InRoom function.room) each operands inside) kept)
    ∙ ap (λ rest. value registers each ∷ rest) (values_kept operands (All-tail (InRoom function.room) each operands inside) kept)

-- ---- what has no register stays

pub function_same : (number : ℕ → ℕ) (operands : List Operand) → function_in (slice_get (map (renamed number) operands) 0) ≡ function_in (slice_get operands 0)
function_same number [] = refl
function_same number (Value id ∷ operands) = refl
function_same number (Int literal ∷ operands) = refl
function_same number (Null ∷ operands) = refl
function_same number (Fun func ∷ operands) = refl

pub index_same : (number : ℕ → ℕ) (operands : List Operand) (place : ℕ) → index_in (slice_get (map (renamed number) operands) place) ≡ index_in (slice_get operands place)
index_same number [] place = refl
index_same number (Value id ∷ operands) zero = refl
index_same number (Int literal ∷ operands) zero = refl
index_same number (Null ∷ operands) zero = refl
index_same number (Fun func ∷ operands) zero = refl
index_same number (each ∷ operands) (suc place) = index_same number operands place

-- ---- a new frame

pub blank_read : (count register : ℕ) → read (replicate count nothing) register ≡ nothing
blank_read zero register = refl
blank_read (suc count) zero = refl
blank_read (suc count) (suc register) = blank_read count register

pub behind_read : (arguments : List Datum) (count register : ℕ) → length arguments ≤ register → read (arguments ++ replicate count nothing) register ≡ nothing
behind_read arguments count register past =
    get_or-append_right arguments (replicate count nothing) register nothing past ∙ blank_read count (register - length arguments)

pub filled_length : (arguments : List Datum) (count : ℕ) → length arguments ≤ count → length (arguments ++ replicate (count - length arguments) nothing) ≡ count
filled_length arguments count few =
    let whole = length-append arguments (replicate (count - length arguments) nothing) in
    let back = length-replicate (count - length arguments) nothing in
    omega arith

arguments_within : {function : Renaming} (count : ℕ) → IsRenaming function → count ≤ function.arguments → count ≤ function.now_room
arguments_within zero law few = omega arith
arguments_within (suc count) law few =
    let same = law.arguments count (omega arith) in
    let all = law.few_arguments in
    let within = law.within count (omega arith) in
    omega arith

-- arguments come first in both, and every other register starts as 0
pub entered_kept : {function : Renaming} (arguments : List Datum) → IsRenaming function → length arguments ≤ function.arguments
    → Kept function (arguments ++ replicate (function.room - length arguments) nothing) (arguments ++ replicate (function.now_room - length arguments) nothing)
entered_kept {function} arguments law few = record {
  each = λ register below. elim (cases_lt register (length arguments)) [
    | inl first ↦ as_argument register first
    | inr past ↦
        behind_read arguments (function.now_room - length arguments) (function.number register) (number_past register below past)
        ∙ sym (behind_read arguments (function.room - length arguments) register past)
  ];
  room = filled_length arguments function.room (let all = law.few_arguments in omega arith);
  now_room = filled_length arguments function.now_room (arguments_within (length arguments) law few);
}
  where
    as_argument : (register : ℕ) → register < length arguments
        → read (arguments ++ replicate (function.now_room - length arguments) nothing) (function.number register)
        ≡ read (arguments ++ replicate (function.room - length arguments) nothing) register
    as_argument register first =
        ap (λ n. read (arguments ++ replicate (function.now_room - length arguments) nothing) n) (law.arguments register (omega arith))
        ∙ (get_or_append_left arguments (replicate (function.now_room - length arguments) nothing) nothing register first
        ∙ sym (get_or_append_left arguments (replicate (function.room - length arguments) nothing) nothing register first))

    number_past : (register : ℕ) → register < function.room → length arguments ≤ register → length arguments ≤ function.number register
    number_past register below past = elim (cases_lt (function.number register) (length arguments)) [
      | inr past ↦ past
      | inl first ↦
          let twice = law.arguments (function.number register) (omega arith) in
          let all = law.few_arguments in
          let same = law.apart (function.number register) register (omega arith) below twice in
          absurd (omega arith)
    ]
