-- What options and results hold.
use Rattle.std.proofs.Common.{◌≡◌, true, false, refl, ap}
use Rattle.std.specs.Prelude.{Option, Some, None, Result, Ok, Err, IfOk, OnOk, is_some, unwrap_or}
use Rattle.std.proofs.lemmas.Bool.{false≢true, true≢false}
use Rattle.std.proofs.lemmas.Option.{none-some}

pub is_none : {A : Type 0} (o : Option A) → is_some o ≡ false → o ≡ None
is_none None is = refl
is_none (Some x) is = absurd (true≢false is)

pub has_some : {A : Type 0} (o : Option A) → is_some o ≡ true → (x : A) × (o ≡ Some x)
has_some None is = absurd (false≢true is)
has_some (Some x) is = (x, refl)

-- what stands inside an option that stands
pub inner_some : {A : Type 0} (x : A) (o : Option (Option A)) → unwrap_or o None ≡ Some x → o ≡ Some (Some x)
inner_some x None is = absurd (none-some x is)
inner_some x (Some o) is = ap (λ p. Some p) is

pub on_ok : {A E : Type 0} (r : Result A E) (P Q : Type 0) → (P → Q) → OnOk r P → OnOk r Q
on_ok (Ok x) P Q to holds = to holds
on_ok (Err e) P Q to holds = tt

pub always_ok : {A E : Type 0} (r : Result A E) (P : Type 0) → P → OnOk r P
always_ok (Ok x) P holds = holds
always_ok (Err e) P holds = tt
