-- The table of base slots, pair by pair.
use Rattle.std.proofs.Common.{◌≡◌, ℕ, zero, suc, ◌+◌, ◌<◌, Bool, true, false, eqb, ◌==◌, if◌then◌else◌, List, [], ◌∷◌, ◌++◌, length, fold, set, get_or, refl, sym, ap, ◌∙◌, arith, Option, Some, None}
use Rattle.std.specs.Prelude.{option_map}
use Rattle.std.proofs.lemmas.Bool.{eqb-false, eqb-true}
use Rattle.std.proofs.lemmas.List.{get_or-set_other, get_or-set_same}
use Rattle.frame_walk.specs.Maps.{Pair}
use Rattle.machine_meaning.specs.TrapLines.{pair_at}
use Rattle.trap_frames.specs.Bases.{base_in, base_of}

-- a further 0 changes nothing
pub zero_behind : (xs : List ℕ) (at : ℕ) → get_or (xs ++ 0 ∷ []) at 0 ≡ get_or xs at 0
zero_behind [] zero = refl
zero_behind [] (suc at) = refl
zero_behind (x ∷ xs) zero = refl
zero_behind (x ∷ xs) (suc at) = zero_behind xs at

-- the base of the last of these pairs with a derived slot, or else the one found before
abbrev pub base_from : Option ℕ → List Pair → ℕ → Option ℕ
base_from found pairs word = fold (λ before pair. if pair.derived == word then Some pair.base else before) found pairs

abbrev pair_from : Option Pair → List Pair → ℕ → Option Pair
pair_from found pairs word = fold (λ before pair. if pair.derived == word then Some pair else before) found pairs

base_of_either : (b : Bool) (pair : Pair) (found : Option Pair) → option_map (λ (one : Pair). one.base) (if b then Some pair else found) ≡ (if b then Some pair.base else option_map (λ (one : Pair). one.base) found)
base_of_either true pair found = refl
base_of_either false pair found = refl

pairs_base : (found : Option Pair) (pairs : List Pair) (word : ℕ) → option_map (λ (one : Pair). one.base) (pair_from found pairs word) ≡ base_from (option_map (λ (one : Pair). one.base) found) pairs word
pairs_base found [] word = refl
pairs_base found (pair ∷ pairs) word =
    pairs_base (if pair.derived == word then Some pair else found) pairs word ∙ ap (λ (before : Option ℕ). base_from before pairs word) (base_of_either (pair.derived == word) pair found)

pub base_is : (pairs : List Pair) (word : ℕ) → base_from None pairs word ≡ option_map (λ pair. pair.base) (pair_at pairs word)
base_is pairs word = sym (pairs_base None pairs word)

set_by : (bases : List ℕ) (derived base word : ℕ) (b : Bool) → eqb derived word ≡ b → derived < length bases → base_in (set bases derived (base + 1)) word ≡ (if b then Some base else base_in bases word)
set_by bases derived base word true is within =
    let same : word ≡ derived = sym (eqb-true derived word is) in
    let more : base + 1 ≡ suc base = omega arith in
    ap (λ (at : ℕ). base_in (set bases derived (base + 1)) at) same ∙ ap base_of (get_or-set_same bases derived (base + 1) 0 within) ∙ ap base_of more
set_by bases derived base word false is within = ap base_of (get_or-set_other bases derived word (base + 1) 0 (λ e. eqb-false derived word is (sym e)))

-- one pair more
pub pair_set : (bases : List ℕ) (pair : Pair) (rest : List Pair) (word : ℕ) → pair.derived < length bases
    → base_from (base_in (set bases pair.derived (pair.base + 1)) word) rest word ≡ base_from (base_in bases word) (pair ∷ rest) word
pair_set bases pair rest word within =
    ap (λ (before : Option ℕ). base_from before rest word) (set_by bases pair.derived pair.base word (eqb pair.derived word) refl within)
