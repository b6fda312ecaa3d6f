-- Which files are taken, over several calls.
use Rattle.std.proofs.Common.{◌≡◌, ℕ, List, [], ◌∷◌, ◌++◌, Option, Some, None, Result, Ok, Err, OnOk, refl, sym, ◌∙◌, ap, append-nil, append_assoc}
use Rattle.tool_io.specs.Takes.{after_taking, TakesFirst}
use Rattle.tool_io.specs.Told.{append_told, add_told}
use Rattle.tool_io.specs.declared.files.TakeFault.{TakeFault}
use Rattle.tool_io.specs.declared.files.TakeFault.TheVariants.{Failed, TooLong, Memory}

-- nothing added
pub append_told-nil : {A : Type 0} (told : Option (List A)) → append_told told [] ≡ told
append_told-nil None = refl
append_told-nil (Some held) = ap Some (append-nil held)

-- some entries, and then others
pub append_told-append_told : {A : Type 0} (told : Option (List A)) (first second : List A) → append_told (append_told told first) second ≡ append_told told (first ++ second)
append_told-append_told None first second = refl
append_told-append_told (Some held) first second = ap Some (append_assoc held first second)

pub append_told-then : {A : Type 0} (told mid new : Option (List A)) (first second : List A) → mid ≡ append_told told first → new ≡ append_told mid second → new ≡ append_told told (first ++ second)
append_told-then {A = A} told mid new first second one two =
    two ∙ ap (λ (known : Option (List A)). append_told known second) one ∙ append_told-append_told told first second

-- those first ones of some files are first ones of these and more
pub TakesFirst-more : {before now : Option (List (List ℕ))} {names : List (List ℕ)} → TakesFirst names before now → (more : List (List ℕ)) → TakesFirst (names ++ more) before now
TakesFirst-more {before} {now} {names} takes more =
    record {
      first = takes.first;
      rest = takes.rest ++ more;
      whole = ap (λ all. all ++ more) takes.whole ∙ append_assoc takes.first takes.rest more;
      taken = takes.taken;
    }

-- all of some files, and then the first ones of others
pub TakesFirst-then : {mid now : Option (List (List ℕ))} {more : List (List ℕ)} → (before : Option (List (List ℕ))) (names : List (List ℕ)) → mid ≡ append_told before names → TakesFirst more mid now → TakesFirst (names ++ more) before now
TakesFirst-then {mid} {now} {more} before names all takes =
    record {
      first = names ++ takes.first;
      rest = takes.rest;
      whole = ap (λ (others : List (List ℕ)). names ++ others) takes.whole ∙ sym (append_assoc names takes.first takes.rest);
      taken = append_told-then before mid now names takes.first all takes.taken;
    }

-- where a call comes to its end that follows one which took all of its files, all of both were taken
pub OnOk-takes : {T E : Type 0} (result : Result T E) (before mid now : Option (List (List ℕ))) (names more : List (List ℕ)) → mid ≡ append_told before names → OnOk result (now ≡ append_told mid more) → OnOk result (now ≡ append_told before (names ++ more))
OnOk-takes (Ok _) before mid now names more all takes = append_told-then before mid now names more all takes
OnOk-takes (Err _) before mid now names more all takes = tt
