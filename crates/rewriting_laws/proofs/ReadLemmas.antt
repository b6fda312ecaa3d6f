-- What registers hold after writes that take effect together.
use Rattle.std.proofs.Common.{◌≡◌, ℕ, ◌<◌, true, false, if◌then◌else◌, List, [], ◌∷◌, ◌++◌, length, refl, ap, sym, arith, inl, inr, ◌∙◌}
use Rattle.std.specs.Prelude.{Option, Some, None, slice_index_or}
use Rattle.std.proofs.lemmas.List.{get_or-set_same, get_or-set_other, get_or_past}
use Rattle.std.proofs.lemmas.Bool.{cases_Bool, cases_eq, cases_lt, eqb-true, eq-eqb, true≢false, false≢true}
use Rattle.ir_ast.specs.Objects.{Datum}
use Rattle.object_meaning.specs.Registers.{nothing, Write, put, put_all}
use Rattle.object_meaning.proofs.RegisterLaws.{put_length, puts_length}
use Rattle.rewriting_forms.specs.Numbered.{is_given}

abbrev pub read : List Datum → ℕ → Datum
read registers v = slice_index_or registers v nothing

pub read_put_same : (v : ℕ) (word : Datum) (registers : List Datum) → v < length registers → read (put (Some v) word registers) v ≡ word
read_put_same v word registers within = get_or-set_same registers v word nothing within

pub read_put_other : (to : Option ℕ) (word : Datum) (registers : List Datum) (v : ℕ) → is_given to v ≡ false → read (put to word registers) v ≡ read registers v
read_put_other None word registers v other = refl
read_put_other (Some x) word registers v other = elim (cases_eq x v) [
  | inl e ↦ absurd (true≢false (sym (eq-eqb x v e) ∙ other))
  | inr ne ↦ get_or-set_other registers x v word nothing (λ same. ne (sym same))
]

-- the last of these writes to a register, or else what stands there
abbrev pub written : List Write → ℕ → Datum → Datum
written [] v word = word
written (write ∷ writes) v word = written writes v (if is_given write.to v then write.value else word)

read_put_at : (to : Option ℕ) (word : Datum) (registers : List Datum) (v : ℕ) → v < length registers
    → read (put to word registers) v ≡ (if is_given to v then word else read registers v)
read_put_at to word registers v within = elim (cases_Bool (is_given to v)) [
  | inr other ↦ rw other (read_put_other to word registers v other)
  | inl is ↦ rw is (same to is)
]
  where
    same : (to : Option ℕ) → is_given to v ≡ true → read (put to word registers) v ≡ word
    same None is = absurd (false≢true is)
    same (Some x) is =
        let e : x ≡ v = eqb-true x v is in
        rw e (read_put_same v word registers within)

pub read_put_all : (writes : List Write) (registers : List Datum) (v : ℕ) → v < length registers
    → read (put_all writes registers) v ≡ written writes v (read registers v)
read_put_all [] registers v within = refl
read_put_all (write ∷ writes) registers v within =
    let longer = put_length write.to write.value registers in
    read_put_all writes (put write.to write.value registers) v (omega (arith, longer))
    ∙ ap (written writes v) (read_put_at write.to write.value registers v within)

-- a register that no write changes
pub read_put_all_kept : (writes : List Write) (registers : List Datum) (v : ℕ) → written writes v (read registers v) ≡ read registers v
    → read (put_all writes registers) v ≡ read registers v
read_put_all_kept writes registers v kept = elim (cases_lt v (length registers)) [
  | inl within ↦ read_put_all writes registers v within ∙ kept
  | inr past ↦
      let same = puts_length writes registers in
      get_or_past (put_all writes registers) v nothing (omega (arith, same)) ∙ sym (get_or_past registers v nothing past)
]

pub written_append : (one other : List Write) (v : ℕ) (word : Datum) → written (one ++ other) v word ≡ written other v (written one v word)
written_append [] other v word = refl
written_append (write ∷ one) other v word = written_append one other v (if is_given write.to v then write.value else word)
