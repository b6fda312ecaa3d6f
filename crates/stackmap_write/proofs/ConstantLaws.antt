-- The constants of a module's map: each number that needs one is among them, each is a word, and there are at most as many as
-- operands of bundles.
use Rattle.std.proofs.Common.{◌≡◌, ◌∙◌, ℕ, suc, ◌+◌, ◌*◌, ◌^◌, ◌<◌, ◌≤◌, Bool, true, false, cond, not, ◌||◌, ℤ, pos, negsuc, List, [], ◌∷◌, ◌++◌, length, get_or, drop, filter, fold, Some, None, nat_lt, Fits, refl, ap, sym, arith, length-append, lit<, eq-eqb}
use Rattle.std.specs.Prelude.{◌-◌, ◌==◌, ◌-ℤ◌, ◌<ℤ◌, int_le, int_lt, FitsSigned}
use Rattle.std.specs.List.{flat_map, list_any, position_or_len, AllByRecursion}
use Rattle.std.specs.Option.{unwrap_or}
use Rattle.std.specs.Int.{w32, cast_signed, cast_unsigned}
use Rattle.std.proofs.lemmas.Bool.{lt-ltb}
use Rattle.std.proofs.lemmas.Int.{ints, of_z-to_z}
use Rattle.std.proofs.lemmas.Nat.{mod_below}
use Rattle.std.proofs.Math.Facts.{sfits_to_z}
use Rattle.std.proofs.Math.Pow.{pow_mono}
use Rattle.list_laws.proofs.Booleans.{first_true, second_true}
use Rattle.list_laws.proofs.Places.{drop_item}
use Rattle.list_laws.proofs.Tests.{any_append}
use Rattle.list_laws.proofs.Contents.{each_append}
use Rattle.sp_ids.specs.Numbers.{signed, wrapped}
use Rattle.ir_ast.specs.declared.types.Ty.{Ty}
use Rattle.ir_ast.specs.declared.types.Ty.TheVariants.{Int as Bits, Void, Ptr, Token}
use Rattle.ir_ast.specs.declared.ops.Operand.{Operand}
use Rattle.ir_ast.specs.declared.ops.Operand.TheVariants.{Int}
use Rattle.ir_ast.specs.declared.ops.Op.{Op}
use Rattle.ir_ast.specs.declared.ops.Op.TheVariants.{Statepoint}
use Rattle.ir_ast.specs.Insts.{Instruction}
use Rattle.ir_ast.specs.Funcs.{Function, instructions_of}
use Rattle.ir_ast.specs.Faults.GroupShape.{is_statepoint}
use Rattle.object_meaning.specs.Numbers.{width_of}
use Rattle.map_bytes.specs.Fits.{PlaceFits}
use Rattle.stackmap_write.specs.Constants.{constant_of, entry_number, is_small, large_by, large_in, large_number, large_of, with_constant}
use Rattle.stackmap_write.specs.ModuleMaps.{constant_at, constant_place, listed_place, number_place}

-- ---- one after the other

pub fold_joined : (start front back : List ℕ) → fold with_constant start (front ++ back) ≡ fold with_constant (fold with_constant start front) back
fold_joined start [] back = refl
fold_joined start (n ∷ front) back = fold_joined (with_constant start n) front back

-- what there is, when the numbers of the next of some items are put too
pub numbers_put : {A : Type 0} (g : A → List ℕ) (keys new all : List ℕ) (items : List A) (k : ℕ) (item : A) → k < length items → item ≡ get_or items k item
    → new ≡ fold with_constant keys (g item) → fold with_constant keys (flat_map g (drop k items)) ≡ all
    → fold with_constant new (flat_map g (drop (k + 1) items)) ≡ all
numbers_put g keys new all items k item below is put known =
    let later = flat_map g (drop (k + 1) items) in
    ap (λ start. fold with_constant start later) put ∙ sym (fold_joined keys (g item) later)
    ∙ ap (λ rest. fold with_constant keys (flat_map g rest)) (sym (drop_item items k item below is)) ∙ known

-- ---- a number among constants

abbrev pub Listed : List ℕ → ℕ → Type 0
Listed constants number = list_any (λ one. number == one) constants ≡ true

any_or : (a b : Bool) → a ≡ true → (a || b) ≡ true
any_or true b is = refl
any_or false b is = cc

listed_kept : (constants : List ℕ) (number other : ℕ) → Listed constants number → Listed (with_constant constants other) number
listed_kept constants number other listed = by (list_any (λ one. other == one) constants)
  where
    by : (there : Bool) → Listed (cond there constants (constants ++ other ∷ [])) number
    by true = listed
    by false = any_append (λ one. number == one) constants (other ∷ []) ∙ any_or (list_any (λ one. number == one) constants) (list_any (λ one. number == one) (other ∷ [])) listed

or_last : (a b : Bool) → b ≡ true → (a || (b || false)) ≡ true
or_last true b is = refl
or_last false true is = refl
or_last false false is = cc

listed_added : (constants : List ℕ) (number : ℕ) → Listed (with_constant constants number) number
listed_added constants number = by (list_any (λ one. number == one) constants) refl
  where
    by : (there : Bool) → list_any (λ one. number == one) constants ≡ there → Listed (cond there constants (constants ++ number ∷ [])) number
    by true is = is
    by false is = any_append (λ one. number == one) constants (number ∷ []) ∙ or_last (list_any (λ one. number == one) constants) (number == number) (eq-eqb number number refl)

all_kept : (start numbers : List ℕ) (number : ℕ) → Listed start number → Listed (fold with_constant start numbers) number
all_kept start [] number listed = listed
all_kept start (n ∷ numbers) number listed = all_kept (with_constant start n) numbers number (listed_kept start number n listed)

-- each of them is there
pub all_listed : (start numbers : List ℕ) → AllByRecursion (Listed (fold with_constant start numbers)) numbers
all_listed start [] = tt
all_listed start (n ∷ numbers) = (all_kept (with_constant start n) numbers n (listed_added start n), all_listed (with_constant start n) numbers)

-- ---- how many and how large

with_length : (constants : List ℕ) (number : ℕ) → length (with_constant constants number) ≤ suc (length constants)
with_length constants number = by (list_any (λ one. number == one) constants)
  where
    by : (there : Bool) → length (cond there constants (constants ++ number ∷ [])) ≤ suc (length constants)
    by true = omega arith
    by false = omega (arith, length-append constants (number ∷ []))

pub fold_length : (start numbers : List ℕ) → length (fold with_constant start numbers) ≤ length start + length numbers
fold_length start [] = omega arith
fold_length start (n ∷ numbers) =
    let one = with_length start n in
    let more = fold_length (with_constant start n) numbers in
    omega (arith, one, more)

abbrev IsWord : ℕ → Type 0
IsWord number = number < 2 ^ 64

with_words : (constants : List ℕ) (number : ℕ) → AllByRecursion IsWord constants → number < 2 ^ 64 → AllByRecursion IsWord (with_constant constants number)
with_words constants number all word = by (list_any (λ one. number == one) constants)
  where
    by : (there : Bool) → AllByRecursion IsWord (cond there constants (constants ++ number ∷ []))
    by true = all
    by false = each_append IsWord constants (number ∷ []) all (word, tt)

pub fold_words : (start numbers : List ℕ) → AllByRecursion IsWord start → AllByRecursion IsWord numbers → AllByRecursion IsWord (fold with_constant start numbers)
fold_words start [] all words = all
fold_words start (n ∷ numbers) all words = fold_words (with_constant start n) numbers (with_words start n all words.0) words.1

-- ---- numbers of operands

negative_word : (number : ℤ) → number <ℤ pos 0 → constant_of number < 2 ^ 64
negative_word (pos n) below = absurd (omega (arith, ints))
negative_word (negsuc n) below = omega arith

signed_word : (below : Bool) (low whole : ℕ) → low < whole → whole ≤ 2 ^ 64 → constant_of (cond below (pos low) (pos low -ℤ pos whole)) < 2 ^ 64
signed_word true low whole small top = omega arith
signed_word false low whole small top = negative_word (pos low -ℤ pos whole) (omega (arith, ints))

signed_is_word : (width number : ℕ) → width ≤ 64 → constant_of (signed width number) < 2 ^ 64
signed_is_word width number few =
    let some : 1 ≤ 2 ^ width = pow_mono {i = 0} {j = width} (omega arith) in
    let top : 2 ^ width ≤ 2 ^ 64 = pow_mono few in
    signed_word (nat_lt (2 * wrapped width number) (2 ^ width)) (wrapped width number) (2 ^ width) (mod_below number (2 ^ width) (omega arith)) top

few_bits : (ty : Ty) → width_of ty ≤ 64
few_bits (Bits width) = omega arith
few_bits Void = omega arith
few_bits Ptr = omega arith
few_bits Token = omega arith

number_word : (ty : Ty) (operand : Operand) → constant_of (entry_number ty operand) < 2 ^ 64
number_word ty (Int number) = signed_is_word (width_of ty) number (few_bits ty)
number_word ty _ = lit< tt

abbrev numbers_of : List (Ty × Operand) → List ℕ
numbers_of bundle = flat_map (λ entry. large_number (entry_number entry.0 entry.1)) bundle

bundle_words : (bundle : List (Ty × Operand)) → AllByRecursion IsWord (numbers_of bundle)
bundle_words [] = tt
bundle_words (entry ∷ bundle) =
    each_append IsWord (large_number (entry_number entry.0 entry.1)) (numbers_of bundle) (by (is_small (entry_number entry.0 entry.1))) (bundle_words bundle)
  where
    by : (small : Bool) → AllByRecursion IsWord (cond small [] (constant_of (entry_number entry.0 entry.1) ∷ []))
    by true = tt
    by false = (number_word entry.0 entry.1, tt)

words_by : (op : Op) (bundle : List (Ty × Operand)) → AllByRecursion IsWord (large_by op bundle)
words_by (Statepoint id callee types) bundle = bundle_words bundle
words_by _ bundle = tt

words_in : (insts : List Instruction) → AllByRecursion IsWord (flat_map large_in insts)
words_in [] = tt
words_in (inst ∷ insts) = each_append IsWord (large_in inst) (flat_map large_in insts) (words_by inst.op inst.bundle) (words_in insts)

pub words_of : (funcs : List Function) → AllByRecursion IsWord (flat_map large_of funcs)
words_of [] = tt
words_of (func ∷ funcs) = each_append IsWord (large_of func) (flat_map large_of funcs) (words_in (instructions_of func.blocks)) (words_of funcs)

bundle_count : (bundle : List (Ty × Operand)) → length (numbers_of bundle) ≤ length bundle
bundle_count [] = omega arith
bundle_count (entry ∷ bundle) =
    let split = length-append (large_number (entry_number entry.0 entry.1)) (numbers_of bundle) in
    let one = by (is_small (entry_number entry.0 entry.1)) in
    omega (arith, split, one, bundle_count bundle)
  where
    by : (small : Bool) → length (cond small [] (constant_of (entry_number entry.0 entry.1) ∷ [])) ≤ 1
    by true = omega arith
    by false = omega arith

count_by_op : (op : Op) (bundle : List (Ty × Operand)) → length bundle ≤ 64 → length (large_by op bundle) ≤ 64 * cond (is_statepoint op) 1 0
count_by_op (Statepoint id callee types) bundle few = omega (arith, bundle_count bundle)
count_by_op _ bundle few = omega arith

filtered_more : (b : Bool) (inst : Instruction) (insts : List Instruction) → length (cond b (inst ∷ insts) insts) ≡ cond b 1 0 + length insts
filtered_more true inst insts = omega arith
filtered_more false inst insts = omega arith

-- a statepoint has at most 64 operands in its bundle
pub count_in : (insts : List Instruction) → AllByRecursion (λ inst. length inst.bundle ≤ 64) insts
    → length (flat_map large_in insts) ≤ 64 * length (filter (λ inst. is_statepoint inst.op) insts)
count_in [] few = omega arith
count_in (inst ∷ insts) few =
    let split = length-append (large_in inst) (flat_map large_in insts) in
    let one = count_by_op inst.op inst.bundle few.0 in
    let more = count_in insts few.1 in
    let sum = filtered_more (is_statepoint inst.op) inst (filter (λ inst. is_statepoint inst.op) insts) in
    omega (arith, split, one, more, sum)

-- ---- locations

small_fits : (number : ℤ) → is_small number ≡ true → FitsSigned w32 number
small_fits number small =
    let low = first_true (int_le (negsuc (2 ^ 31 - 1)) number) (int_lt number (pos (2 ^ 31))) small in
    let high = second_true (int_le (negsuc (2 ^ 31 - 1)) number) (int_lt number (pos (2 ^ 31))) small in
    omega (arith, ints)

pub constant_fits : (constants : ℕ) (number : ℤ) → FitsSigned w32 number → PlaceFits constants (constant_place number)
constant_fits constants number fits = record {
  kind_low = omega arith;
  kind_high = omega arith;
  size = lit< tt;
  register = lit< tt;
  offset = fits;
  index = λ e. cc;
}

listed_fits : (constants place : ℕ) → constants < 2 ^ 32 → place < constants → PlaceFits constants (listed_place place)
listed_fits constants place few below =
    let back : cast_unsigned w32 (cast_signed w32 place) ≡ place = of_z-to_z w32 place (omega arith) in
    let fits : Fits w32 place = omega arith in
    record {
      kind_low = omega arith;
      kind_high = omega arith;
      size = lit< tt;
      register = lit< tt;
      offset = sfits_to_z fits;
      index = λ e. omega (arith, back, below);
    }

found_by : (here : Bool) (rest len : ℕ) (more : Bool) → (here || more) ≡ true → (more ≡ true → rest < len) → cond (not here) (1 + rest) 0 < suc len
found_by true rest len more any shorter = omega arith
found_by false rest len more any shorter = let known : rest < len = shorter any in omega arith

first_below : (p : ℕ → Bool) (xs : List ℕ) → list_any p xs ≡ true → position_or_len p xs < length xs
first_below p [] any = cc
first_below p (x ∷ xs) any = found_by (p x) (position_or_len p xs) (length xs) (list_any p xs) any (first_below p xs)

place_below : (constants : List ℕ) (number : ℕ) → Listed constants number → constant_at constants number < length constants
place_below constants number listed =
    let first = position_or_len (λ one. number == one) constants in
    let below : first < length constants = first_below (λ one. number == one) constants listed in
    let place : constant_at constants number ≡ first = ap (λ b. unwrap_or (cond b (Some first) None) 0) (lt-ltb first (length constants) below) in
    omega (arith, place, below)

-- a number whose constant, if it needs one, is there
pub number_fits : (constants : List ℕ) → length constants < 2 ^ 32 → (number : ℤ) → AllByRecursion (Listed constants) (large_number number)
    → PlaceFits (length constants) (number_place constants number)
number_fits constants few number listed = by (is_small number) refl listed
  where
    by : (small : Bool) → is_small number ≡ small → AllByRecursion (Listed constants) (cond small [] (constant_of number ∷ []))
        → PlaceFits (length constants) (cond small (constant_place number) (listed_place (constant_at constants (constant_of number))))
    by true is there = constant_fits (length constants) number (small_fits number is)
    by false is there = listed_fits (length constants) (constant_at constants (constant_of number)) few (place_below constants (constant_of number) there.0)
