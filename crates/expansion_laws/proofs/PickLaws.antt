-- What the rows of steps of `smax` and its kin, and of sums and differences that are checked, give.
use Rattle.std.proofs.Common.{◌≡◌, refl, ap, sym, ◌∙◌, ℕ, ◌+◌, ◌-◌, ◌^◌, ◌<◌, ◌≤◌, ◌%◌, Bool, true, false, [], ◌∷◌, Ok, inl, inr, arith}
use Rattle.std.proofs.lemmas.Bool.{cases_lt, lt-ltb, le-ltb, lt-leb, le-leb, ltb-true}
use Rattle.std.proofs.Math.Nat.{mod-eq_of_lt, mod-eq-sub-mod}
use Rattle.std.specs.Prelude.{◌==◌, nat_lt, nat_le, int_lt, ℤ, pos, negsuc, ◌⊎◌, if◌then◌else◌}
use Rattle.sp_ids.specs.Numbers.{wrapped, signed}
use Rattle.ir_ast.specs.declared.ops.Pred.{Pred}
use Rattle.ir_ast.specs.declared.ops.Pred.TheVariants.{Eq, Ne, Ugt, Uge, Ult, Ule, Sgt, Sge, Slt, Sle}
use Rattle.object_meaning.specs.Comparisons.{numbers_compare, bit}
use Rattle.expansion_laws.specs.ExpansionLaws.{PicksOne, PicksExtreme, IsExtreme, is_strict, AddsWithCarry, SubtractsWithBorrow}

pub by_bit : (test : Bool) (a b : ℕ) → (if bit test == 1 then a else b) ≡ (if test then a else b)
by_bit true a b = refl
by_bit false a b = refl

pub picks_one : PicksOne
picks_one pred width a b = ap (λ it. Ok (bit (numbers_compare pred width a b) ∷ it ∷ [])) (by_bit (numbers_compare pred width a b) a b)

-- ---- strict orders

nat_self : (n : ℕ) → nat_lt n n ≡ false
nat_self n = le-ltb n n (omega arith)

nat_back : (m n : ℕ) → nat_lt m n ≡ true → nat_lt n m ≡ false
nat_back m n less = let below = ltb-true m n less in le-ltb n m (omega (arith, below))

int_self : (x : ℤ) → int_lt x x ≡ false
int_self (pos n) = nat_self n
int_self (negsuc n) = nat_self n

int_back : (x y : ℤ) → int_lt x y ≡ true → int_lt y x ≡ false
int_back (pos m) (pos n) less = nat_back m n less
int_back (pos m) (negsuc n) less = absurd cc
int_back (negsuc m) (pos n) less = refl
int_back (negsuc m) (negsuc n) less = nat_back n m less

self : (pred : Pred) (width a : ℕ) → is_strict pred ≡ true → numbers_compare pred width a a ≡ false
self Sgt width a strict = int_self (signed width a)
self Slt width a strict = int_self (signed width a)
self Ugt width a strict = nat_self a
self Ult width a strict = nat_self a
self Eq width a strict = absurd cc
self Ne width a strict = absurd cc
self Uge width a strict = absurd cc
self Ule width a strict = absurd cc
self Sge width a strict = absurd cc
self Sle width a strict = absurd cc

back : (pred : Pred) (width a b : ℕ) → is_strict pred ≡ true → numbers_compare pred width a b ≡ true → numbers_compare pred width b a ≡ false
back Sgt width a b strict so = int_back (signed width b) (signed width a) so
back Slt width a b strict so = int_back (signed width a) (signed width b) so
back Ugt width a b strict so = nat_back b a so
back Ult width a b strict so = nat_back a b so
back Eq width a b strict so = absurd cc
back Ne width a b strict so = absurd cc
back Uge width a b strict so = absurd cc
back Ule width a b strict so = absurd cc
back Sge width a b strict so = absurd cc
back Sle width a b strict so = absurd cc

extreme_by : (pred : Pred) (width a b : ℕ) → is_strict pred ≡ true → (test : Bool) → numbers_compare pred width a b ≡ test
    → IsExtreme pred width a b (if test then a else b)
extreme_by pred width a b strict true so = record { first = self pred width a strict; second = back pred width a b strict so }
extreme_by pred width a b strict false so = record { first = so; second = self pred width b strict }

pub picks_extreme : PicksExtreme
picks_extreme pred width a b strict = extreme_by pred width a b strict (numbers_compare pred width a b) refl

-- ---- sums and differences

-- a sum of two numbers below the modulus is cut off exactly where it comes out below either of them
pub carry : (limit a b : ℕ) → a < limit → b < limit → ((a + b) < limit) ⊎ (limit ≤ (a + b)) → nat_lt ((a + b) % limit) a ≡ nat_le limit (a + b)
carry limit a b first second (inl fits) = rw (mod-eq_of_lt fits) (le-ltb (a + b) a (omega arith) ∙ sym (lt-leb limit (a + b) fits))
carry limit a b first second (inr over) =
    let cut : (a + b) % limit ≡ a + b - limit = mod-eq-sub-mod over ∙ mod-eq_of_lt (omega (arith, first, second, over)) in
    rw cut (lt-ltb (a + b - limit) a (omega (arith, first, second, over)) ∙ sym (le-leb limit (a + b) over))

pub adds_with_carry_law : AddsWithCarry
adds_with_carry_law width a b first second =
    ap (λ it. Ok (wrapped width (a + b) ∷ bit it ∷ [])) (carry (2 ^ width) a b first second (cases_lt (a + b) (2 ^ width)))

pub subtracts_with_borrow_law : SubtractsWithBorrow
subtracts_with_borrow_law width a b = refl
