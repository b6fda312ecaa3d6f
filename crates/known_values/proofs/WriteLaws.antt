-- One line further in a function's text: what the line writes keeps the equations, or some path comes behind it without a
-- definition of the value.
use Rattle.std.proofs.Common.{◌≡◌, ℕ, suc, ◌+◌, ◌<◌, List, [], ◌∷◌, length, map, take, refl, sym, ap, subst, ◌∙◌, inl, inr, ◌⊎◌, arith}
use Rattle.std.specs.Prelude.{Option, Some, None, slice_get}
use Rattle.std.specs.List.{Contains}
use Rattle.std.proofs.lemmas.List.{get_or-set_other}
use Rattle.ir_ast.specs.Funcs.{Function}
use Rattle.ir_ast.specs.Layouts.{ObjectLayout}
use Rattle.ir_ast.specs.Objects.{Datum}
use Rattle.ir_cfg.specs.DefiniteUses.{Defines}
use Rattle.object_meaning.specs.BlockLines.{lines_at}
use Rattle.object_meaning.specs.Lines.{Line}
use Rattle.object_meaning.specs.Registers.{Write, nothing, put, put_all}
use Rattle.base_definite.specs.Comings.{Comes, past_line}
use Rattle.base_definite.proofs.base_paths.GivesLaws.{defines_or_not}
use Rattle.base_definite.proofs.base_paths.UndefinedLaws.{Undefined, behind_line, first_time}
use Rattle.base_definite.proofs.LinePlaces.{LineFrom, line_from, writes_own}
use Rattle.known_values.specs.Meanings.{AllHold, AreKnown, Holds, Meaning, Meanings, register}
use Rattle.known_values.proofs.PlaceLaws.{any_defined, defined_high}

-- ---- registers

pub put_other : (to : Option ℕ) (datum : Datum) (registers : List Datum) (value : ℕ) → (to ≡ Some value → ⊥) → register (put to datum registers) value ≡ register registers value
put_other None datum registers value apart = refl
put_other (Some own) datum registers value apart = get_or-set_other registers own value datum nothing (λ same. apart (ap (λ n. Some n) (sym same)))

-- the write of each line, of a value that is computed before
abbrev pub write_of : (Line → Datum) → Line → Write
write_of value_of line = record { to = line.to; value = value_of line }

module _ (layouts : List ObjectLayout) (func : Function) (meanings : Meanings) (known : AreKnown layouts func meanings) where
  -- ---- one line

  -- registers behind a line: what it doesn't define is as before
  pub record Behind (block place : ℕ) (before now : List Datum) : Type 0 where
    pub others : (value : ℕ) → (Defines func value block place → ⊥) → register now value ≡ register before value
    pub own : (value : ℕ) (meaning : Meaning) → meanings value ≡ Some meaning → Defines func value block place → Holds value meaning now

  module _ (block place : ℕ) (line : Line) (from : LineFrom func block place line) (comes : Comes func block place) (before now : List Datum) (behind : Behind block place before now) where
    undefined_on : (value : ℕ) → (Defines func value block place → ⊥) → Undefined func value block place → Undefined func value block (suc place)
    undefined_on value none undefined = behind_line block place line.inst undefined from.stands none

    still_holds : (value : ℕ) (meaning : Meaning) → meanings value ≡ Some meaning → (Defines func value block place → ⊥) → Holds value meaning before
        → ((read : ℕ) → Contains meaning.support read → Defines func read block place → ⊥) → Holds value meaning now
    still_holds value meaning is none holds apart =
        behind.others value none
        ∙ (holds ∙ sym (known.reads value meaning is now before (λ read there. behind.others read (unread read there))))
      where
        unread : (read : ℕ) → (read < length func.args) ⊎ Contains meaning.support read → Defines func read block place → ⊥
        unread read (inl argument) defines = let high = defined_high func read block place defines in omega arith
        unread read (inr inside) defines = apart read inside defines

    kept : (value : ℕ) (meaning : Meaning) → meanings value ≡ Some meaning → (Defines func value block place → ⊥) → Holds value meaning before
        → Undefined func value block (suc place) ⊎ Holds value meaning now
    kept value meaning is none holds = elim (any_defined func block place line.inst from.stands meaning.support) [
      | inr apart ↦ inr (still_holds value meaning is none holds apart)
      | inl found ↦
          let first = first_time func found.0 block place found.2 comes in
          let high = defined_high func found.0 block place found.2 in
          inl (undefined_on value none (known.support value meaning is found.0 found.1 high block place first))
    ]

    pub one_further : AllHold func meanings block place before → AllHold func meanings block (suc place) now
    one_further all value meaning is = elim (defines_or_not func value block place line.inst from.stands) [
      | inl defines ↦ inr (behind.own value meaning is defines)
      | inr none ↦ elim (all value meaning is) [
        | inl undefined ↦ inl (undefined_on value none undefined)
        | inr holds ↦ kept value meaning is none holds
      ]
    ]

  -- what writes its own register alone
  pub put_behind : (block place : ℕ) (line : Line) → LineFrom func block place line → (before : List Datum) (datum : Datum)
      → ((value : ℕ) (meaning : Meaning) → meanings value ≡ Some meaning → Defines func value block place → Holds value meaning (put line.to datum before))
      → Behind block place before (put line.to datum before)
  put_behind block place line from before datum own = record {
    others = λ value none. put_other line.to datum before value (λ is. none (writes_own func block place line from value is));
    own = own;
  }

  -- ---- lines that are written together

  -- a path comes behind so many lines, and there the equations hold
  pub record Further (block place : ℕ) (registers : List Datum) : Type 0 where
    pub comes : Comes func block place
    pub holds : AllHold func meanings block place registers

  pub further : (value_of : Line → Datum) (block place : ℕ) (lines : List Line) (registers : List Datum)
      → ((number : ℕ) (line : Line) → slice_get lines number ≡ Some line → slice_get (lines_at func block) (place + number) ≡ Some line)
      → ((number : ℕ) (line : Line) → slice_get lines number ≡ Some line → (value : ℕ) (meaning : Meaning) → meanings value ≡ Some meaning
      → Defines func value block (place + number) → Holds value meaning (put_all (map (write_of value_of) (take (suc number) lines)) registers))
      → Further block place registers → Further block (place + length lines) (put_all (map (write_of value_of) lines) registers)
  further value_of block place [] registers there own start =
      let same : place ≡ place + 0 = omega arith in subst (λ (n : ℕ). Further block n registers) same start
  further value_of block place (line ∷ lines) registers there own start =
      let here : place + 0 ≡ place = omega arith in
      let from = line_from func block place line (subst (λ (n : ℕ). slice_get (lines_at func block) n ≡ Some line) here (there 0 line refl)) in
      let now = put line.to (value_of line) registers in
      let behind = put_behind block place line from registers (value_of line)
      (λ value meaning is defines. own 0 line refl value meaning is (subst (λ (n : ℕ). Defines func value block n) (sym here) defines)) in
      let next : Further block (suc place) now = record {
        comes = past_line block place line.inst start.comes from.stands;
        holds = one_further block place line from start.comes registers now behind start.holds;
      } in
      let rest = further value_of block (suc place) lines now
      (λ number each at.
      let sum : place + suc number ≡ suc place + number = omega arith in
      subst (λ (n : ℕ). slice_get (lines_at func block) n ≡ Some each) sum (there (suc number) each at))
      (λ number each at value meaning is defines.
      let sum : suc place + number ≡ place + suc number = omega arith in
      own (suc number) each at value meaning is (subst (λ (n : ℕ). Defines func value block n) sum defines))
      next in
      let long : suc place + length lines ≡ place + suc (length lines) = omega arith in
      subst (λ (n : ℕ). Further block n (put_all (map (write_of value_of) lines) now)) long rest
