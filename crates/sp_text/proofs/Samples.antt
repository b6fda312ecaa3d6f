use Rattle.std.proofs.Common.{◌≡◌, refl, [], ◌∷◌}
use Rattle.std.specs.Prelude.{codes, Some, None}
use Rattle.sp_text.specs.Tokens.{tokens, tokens_after, front_of, longest_front, kind_of, tok, bad}
use Rattle.sp_text.specs.Labels.{label_of}
use Rattle.sp_text.specs.declared.tokens.Kind.TheVariants.{Word, Local, Number, Quoted, Hash, Bang, Punct}

pub ex1 : tokens (codes "%a = add i64 -5, %01 ; c") ≡ tok Local (codes "%a") ∷ tok Punct (codes "=") ∷ tok Word (codes "add") ∷ tok Word (codes "i64") ∷ tok Number (codes "-5") ∷ tok Punct (codes ",") ∷ tok Local (codes "%0") ∷ tok Number (codes "1") ∷ []
unfolding tokens tokens_after front_of longest_front kind_of
ex1 = refl

pub ex2 : tokens (codes "\"a;b\"5x....") ≡ tok Quoted (codes "\"a;b\"") ∷ tok Number (codes "5") ∷ tok Word (codes "x....") ∷ []
unfolding tokens tokens_after front_of longest_front kind_of
ex2 = refl

pub ex3 : tokens (codes "!01!-5#0....") ≡ tok Bang (codes "!01") ∷ tok Bang (codes "!-5") ∷ tok Hash (codes "#0") ∷ tok Word (codes "...") ∷ bad ∷ []
unfolding tokens tokens_after front_of longest_front kind_of
ex3 = refl

pub ex4 : label_of (codes " -5: ; a:") ≡ Some (codes "-5")
ex4 = refl

pub ex5 : label_of (codes "05:") ≡ None
ex5 = refl
