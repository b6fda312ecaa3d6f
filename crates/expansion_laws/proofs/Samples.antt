-- What rows give of worked numbers of 8 bits.
use Rattle.std.proofs.Common.{◌≡◌, refl, [], ◌∷◌, Ok}
use Rattle.ir_ast.specs.declared.ops.Pred.TheVariants.{Sgt}
use Rattle.llvm_steps.specs.Rows.{picks, magnitudes, subtracts_down_to_zero, adds_up_to_ones, multiplies, adds_signed, subtracts_signed, multiplies_signed, bits_summed, bytes_summed, shifts_left, shifts_right}
use Rattle.expansion_laws.specs.Results.{row_gives, row_checks}

-- -56 and 100, the greater one
pub ex1 : row_gives 8 (200 ∷ 100 ∷ []) (picks Sgt) ≡ Ok 100
ex1 = refl

pub ex2 : row_gives 8 (200 ∷ []) magnitudes ≡ Ok 56
ex2 = refl

pub ex3 : row_gives 8 (100 ∷ 200 ∷ []) subtracts_down_to_zero ≡ Ok 0
ex3 = refl

pub ex4 : row_gives 8 (100 ∷ 200 ∷ []) (adds_up_to_ones 8) ≡ Ok 255
ex4 = refl

pub ex5 : row_checks 8 (16 ∷ 17 ∷ []) multiplies ≡ Ok (16, 1)
ex5 = refl

-- 100 + 100 and -56 + -56, -56 + 100
pub ex6 : row_checks 8 (100 ∷ 100 ∷ []) adds_signed ≡ Ok (200, 1)
ex6 = refl

pub ex7 : row_checks 8 (200 ∷ 100 ∷ []) adds_signed ≡ Ok (44, 0)
ex7 = refl

-- -56 - 100, 100 - -56 and -128 - -128
pub ex8 : row_checks 8 (200 ∷ 100 ∷ []) subtracts_signed ≡ Ok (100, 1)
ex8 = refl

pub ex9 : row_checks 8 (100 ∷ 200 ∷ []) subtracts_signed ≡ Ok (156, 1)
ex9 = refl

pub ex10 : row_checks 8 (128 ∷ 128 ∷ []) subtracts_signed ≡ Ok (0, 0)
ex10 = refl

-- -1 * -128, and -56 * -2
pub ex11 : row_checks 8 (255 ∷ 128 ∷ []) (multiplies_signed 8) ≡ Ok (128, 1)
ex11 = refl

pub ex12 : row_checks 8 (200 ∷ 254 ∷ []) (multiplies_signed 8) ≡ Ok (112, 0)
ex12 = refl

pub ex13 : row_gives 8 (181 ∷ []) (bits_summed 7) ≡ Ok 5
ex13 = refl

pub ex14 : row_gives 16 (258 ∷ []) (bytes_summed 2 2) ≡ Ok 513
ex14 = refl

pub ex15 : row_gives 8 (129 ∷ 192 ∷ 10 ∷ []) (shifts_left 8) ≡ Ok 7
ex15 = refl

pub ex16 : row_gives 8 (129 ∷ 192 ∷ 10 ∷ []) (shifts_right 8) ≡ Ok 112
ex16 = refl
