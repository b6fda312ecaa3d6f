-- Cases that an earlier case has.
use Rattle.std.proofs.Common.{◌≡◌, ◌∙◌, ℕ, ◌+◌, ◌<◌, ◌⊎◌, inl, inr, Bool, true, false, cond, ◌&&◌, List, refl, ap, sym, subst, arith}
use Rattle.std.specs.Prelude.{Some, slice_get, nat_eq, nat_lt, ◌↔◌, if◌then◌else◌, Option}
use Rattle.std.proofs.lemmas.Bool.{lt-ltb, cases_Bool}
use Rattle.std.proofs.lemmas.Bool.Decides.{eqb_tells, nat_tests}
use Rattle.list_laws.proofs.Places.{cases_below}
use Rattle.ir_ast.specs.declared.ops.Operand.{Operand}
use Rattle.ir_ast.specs.declared.ops.Operand.TheVariants.{Value, Int, Null, Fun}
use Rattle.ir_lines.specs.declared.faults.Fault.{Fault}
use Rattle.ir_verify.specs.Cases.{same}
use Rattle.ir_lines.specs.Notes.{Notes}
use Rattle.ir_verify.specs.FunctionFaults.{At, Repeats}
use Rattle.ir_lines.proofs.NoteLemmas.{notes-same}
use Rattle.list_laws.proofs.Booleans.{first_true, second_true}

eq-same : (x y : ℕ) → nat_eq x y ≡ true → x ≡ y
eq-same x y e = elim (eqb_tells x y) [ inl t ↦ t.1 | inr t ↦ absurd (let bad : true ≡ false = sym e ∙ t.0 in cc) ]

eq-itself : (x : ℕ) → nat_eq x x ≡ true
eq-itself x = elim (eqb_tells x x) [ inl t ↦ t.0 | inr t ↦ absurd (t.1 refl) ]

pub same-to : (one other : Operand) → same one other ≡ true → one ≡ other
same-to (Int m) (Int n) e = ap Int (eq-same m n e)
same-to (Value v) (Value w) e = ap (λ (n : ℕ). Value (record { 0 = n })) (eq-same v.0 w.0 e)
same-to (Fun f) (Fun g) e = ap (λ (n : ℕ). Fun (record { 0 = n })) (eq-same f.0 g.0 e)
same-to Null Null e = refl
same-to one other e = absurd (let bad : false ≡ true = e in cc)

same-itself : (one : Operand) → same one one ≡ true
same-itself (Int n) = eq-itself n
same-itself (Value v) = eq-itself v.0
same-itself (Fun f) = eq-itself f.0
same-itself Null = refl

pub same-by : (one other : Operand) → one ≡ other → same one other ≡ true
same-by one other e = subst (λ (o : Operand). same one o ≡ true) e (same-itself one)

cond-true : (b old : Bool) → old ≡ true → cond b true old ≡ true
cond-true true old e = refl
cond-true false old e = e

positive : (n : ℕ) → nat_lt 0 n ≡ true → 0 < n
positive n e = grind (arith, nat_tests)

-- ---- the operands before a place

repeats-later : (operands : List Operand) (later : ℕ) (value : Operand) → Repeats operands later value → Repeats operands (later + 1) value
repeats-later operands later value r = record {
  earlier = r.earlier;
  behind_tested = r.behind_tested;
  in_order = (let b : r.earlier < later = r.in_order in omega arith);
  same = r.same;
}

-- one operand more
pub seen-more : (operands : List Operand) (later : ℕ) (here : Operand) (old new : Bool) (one : Operand) → slice_get operands later ≡ Some here
    → ((old ≡ true) ↔ Repeats operands later one) → new ≡ (if nat_lt 0 later && same here one then true else old)
    → ((new ≡ true) ↔ Repeats operands (later + 1) one)
seen-more operands later here old new one at so is = (
  (λ t. to (cases_Bool (nat_lt 0 later && same here one)) t),
  (λ r. by r (cases_below r.earlier later r.in_order)),
)
  where
    to : (nat_lt 0 later && same here one ≡ true) ⊎ (nat_lt 0 later && same here one ≡ false) → new ≡ true → Repeats operands (later + 1) one
    to (inl adds) t = record {
      earlier = later;
      behind_tested = positive later (first_true (nat_lt 0 later) (same here one) adds);
      in_order = omega arith;
      same = at ∙ ap Some (same-to here one (second_true (nat_lt 0 later) (same here one) adds));
    }
    to (inr none) t = repeats-later operands later one (so.0 (sym (is ∙ ap (λ (b : Bool). cond b true old) none) ∙ t))

    by : (r : Repeats operands (later + 1) one) → (r.earlier < later) ⊎ (r.earlier ≡ later) → new ≡ true
    by r (inl before) =
        is ∙ cond-true (nat_lt 0 later && same here one) old
        (so.1 (record { earlier = r.earlier; behind_tested = r.behind_tested; in_order = before; same = r.same }))
    by r (inr here_) =
        let also : slice_get operands later ≡ Some one = subst (λ (n : ℕ). slice_get operands n ≡ Some one) here_ r.same in
        let e : here ≡ one = (let f : Some here ≡ Some one = sym at ∙ also in cc) in
        let behind = r.behind_tested in
        let low : 0 < later = omega (arith, here_, behind) in
        is ∙ ap (λ (b : Bool). cond (b && same here one) true old) (lt-ltb 0 later low)
        ∙ ap (λ (b : Bool). cond b true old) (same-by here one e)

pub note-case : (operands : List Operand) (later line : ℕ) (here : Operand) (old : Bool) (f g : Option Fault)
    → ((old ≡ true) ↔ Repeats operands later here) → Notes f g (At 5 line ((0 < later) × (old ≡ true))) → Notes f g (At 5 line (Repeats operands later here))
note-case operands later line here old f g so n =
    notes-same f g (At 5 line ((0 < later) × (old ≡ true))) (At 5 line (Repeats operands later here))
    (λ l c t. (t.0, t.1, so.0 t.2.1))
    (λ l c t. let r = t.2 in let a = r.behind_tested in let b = r.in_order in (t.0, t.1, (omega arith, so.1 r))) n
