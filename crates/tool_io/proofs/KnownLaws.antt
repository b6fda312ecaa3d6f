-- What several writes add together to the bytes that a writer is known to hold.
use Rattle.std.proofs.Common.{◌≡◌, ℕ, ◌-◌, List, ◌++◌, Option, Some, None, length, take, drop, sym, ◌∙◌, ap, append_assoc, take-append-drop, take_all, length-drop, arith}
use Rattle.std.specs.Io.KnownBytes.{Appends}

-- two pieces, one after the other
pub Appends-append : (old mid new : Option (List ℕ)) (first second : List ℕ) → Appends old mid first → Appends mid new second → Appends old new (first ++ second)
Appends-append None mid new first second one two = tt
Appends-append (Some held) None new first second one two = absurd one
Appends-append (Some held) (Some more) None first second one two = absurd two
Appends-append (Some held) (Some more) (Some most) first second one two =
    two ∙ ap (λ bytes. bytes ++ second) one ∙ append_assoc held first second

-- One write more: it took the first bytes of the rest.
pub takes_more : (whole done rest : List ℕ) (count : ℕ) (old mid new : Option (List ℕ)) → whole ≡ done ++ rest → Appends old mid done → Appends mid new (take count rest) → (more : List ℕ) × (whole ≡ more ++ take (length rest - count) (drop count rest)) × Appends old new more
takes_more whole done rest count old mid new split one two =
    let left : take (length rest - count) (drop count rest) ≡ drop count rest = take_all (length rest - count) (drop count rest) (omega (arith, length-drop count rest)) in (
      done ++ take count rest,
      rw left (split ∙ ap (λ bytes. done ++ bytes) (sym (take-append-drop count rest)) ∙ sym (append_assoc done (take count rest) (drop count rest))),
      Appends-append old mid new done (take count rest) one two,
    )
