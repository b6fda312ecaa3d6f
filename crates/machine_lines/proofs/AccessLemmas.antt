-- Words of accesses, and their answers.
use Rattle.std.proofs.Common.{◌≡◌, ℕ, refl, sym, ap}
use Rattle.std.specs.Prelude.{Result, Ok, Err}
use Rattle.moving_heap.specs.declared.heap.Deny.{Deny}
use Rattle.moving_heap.specs.Heaps.{done}

pub record IsOkay (found : Result ℕ Deny) : Type 0 where
  pub word : ℕ
  pub is : found ≡ Ok word

pub done_ok : (found : Result ℕ Deny) → Ok tt ≡ done found → IsOkay found
done_ok (Ok word) e = record { word = word; is = refl }
done_ok (Err deny) e = cc

pub done_err : (found : Result ℕ Deny) (deny : Deny) → Err deny ≡ done found → found ≡ Err deny
done_err (Ok word) deny e = cc
done_err (Err other) deny e = let same : deny ≡ other = cc in ap Err (sym same)
