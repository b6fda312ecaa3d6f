-- What stands behind the mark of a token.
use Rattle.std.proofs.Common.{◌≡◌, ℕ, Bool, true, false, ◌==◌, List, [], ◌∷◌, drop}
use Rattle.std.specs.Prelude.{IsTrue}
use Rattle.std.proofs.lemmas.Bool.{and_parts}
use Rattle.sp_text.specs.Tokens.{first_then}

pub behind_mark : (mark : ℕ) (rest : List ℕ → Bool) (bs : List ℕ) → IsTrue (first_then mark rest bs) → IsTrue (rest (drop 1 bs))
behind_mark mark rest [] h = absurd (let bad : false ≡ true = h in cc)
behind_mark mark rest (b ∷ bs) h = (and_parts (b == mark) (rest bs) h).1
