-- Functions laid one behind another.
use Rattle.std.proofs.Common.{◌≡◌, ℕ, suc, List, [], ◌∷◌, length, refl, ap}
use Rattle.ir_ast.specs.Funcs.{Function}
use Rattle.frame_forms.specs.CodeAddresses.{next_start}
use Rattle.frame_forms.specs.ModuleLayouts.{laid_from}

pub length-laid_from : (start : ℕ) (funcs : List Function) → length (laid_from start funcs) ≡ length funcs
length-laid_from start [] = refl
length-laid_from start (func ∷ funcs) = ap suc (length-laid_from (next_start start func) funcs)
