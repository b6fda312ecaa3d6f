-- A line has no more tokens than bytes.
use Rattle.std.proofs.Common.{◌≡◌, refl, ℕ, suc, ◌≤◌, Bool, true, false, cond, List, [], ◌∷◌, length, Option, Some, None, arith}
use Rattle.sp_text.specs.declared.tokens.Kind.{Kind}
use Rattle.sp_text.specs.Tokens.{Tok, front_and_more, tokens_after, tokens}

fronts : (found : Option (Kind × ℕ)) (bs : List ℕ) (more : ℕ → List Tok) (n : ℕ) → ((len : ℕ) → length (more len) ≤ n) → length (front_and_more found bs more) ≤ suc n
fronts None bs more n le = omega arith
fronts (Some (kind, len)) bs more n le = omega (arith, le len)

choose_le : (n : ℕ) (b : Bool) (x y : List Tok) → length x ≤ n → length y ≤ n → length (cond b x y) ≤ n
choose_le n true x y p q = p
choose_le n false x y p q = q

pub no_bytes : (bs : List ℕ) → length bs ≡ 0 → tokens bs ≡ []
unfolding tokens tokens_after
no_bytes [] e = refl
no_bytes (b ∷ bs) e = absurd (omega (arith, e))
