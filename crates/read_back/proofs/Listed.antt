-- Lists in a line, with commas between the elements: they are read as they are printed.
use Rattle.std.proofs.Common.{◌≡◌, refl, ap, ◌∙◌, ℕ, zero, suc, ◌+◌, ◌<◌, ◌≤◌, Bool, true, false, List, [], ◌∷◌, ◌++◌, length, map, Some, arith, codes, append_assoc, append-nil}
use Rattle.std.specs.List.{All}
use Rattle.std.proofs.lemmas.List.Elements.{All-head, All-tail}
use Rattle.sp_text.specs.Tokens.{Tok, tok, tokens}
use Rattle.sp_text.specs.declared.tokens.Kind.TheVariants as kinds
use Rattle.sp_text.proofs.Spelled.{tokens-spelled, tokens-blank}
use Rattle.line_parts.specs.Gives.{Found, after}
use Rattle.line_tokens.specs.Marks.{is_mark, begins}
use Rattle.line_parts.specs.Lists.{at_most_at, listed_at, list_to, comma}
use Rattle.ir_printer.specs.Lists.{led, joined}
use Rattle.read_back.proofs.Steps.{IsClean, clean-both}

-- an element's text is read as the element, where what follows is as `Ends` says
pub record SpellsElement {A : Type 0} (element : List Tok → Found A) (goes_on : List Tok → Bool) (Ends : List ℕ → Type 0) (text : List ℕ) (x : A) : Type 0 where
  pub clean : IsClean text
  pub says : (rest : List ℕ) → Ends rest → element (tokens (text ++ rest)) ≡ Some (x, tokens rest)
  pub shorter : (rest : List ℕ) → Ends rest → length (tokens rest) < length (tokens (text ++ rest))
  pub goes : (rest : List ℕ) → Ends rest → goes_on (tokens (44 ∷ 32 ∷ (text ++ rest))) ≡ true

-- the elements behind the first one
abbrev pub others : {Y : Type 0} → (Y → List ℕ) → List Y → List ℕ
others text ys = led (codes ", ") (map text ys)

pub comma_spelled : (text : List ℕ) → tokens (44 ∷ 32 ∷ text) ≡ tok kinds.Punct (codes ",") ∷ tokens text
comma_spelled text = tokens-spelled kinds.Punct (codes ",") (32 ∷ text) refl refl ∙ ap (λ ts. tok kinds.Punct (codes ",") ∷ ts) (tokens-blank 32 text refl)

module _ {A Y : Type 0} (element : List Tok → Found A) (goes_on : List Tok → Bool) (Ends : List ℕ → Type 0) (text : Y → List ℕ) (said : Y → A) (commas : (y : Y) (rest : List ℕ) → SpellsElement element goes_on Ends (text y) (said y) → Ends rest → Ends (44 ∷ 32 ∷ (text y ++ rest))) where
  abbrev Each : List Y → Type 0
  Each ys = All (λ y. SpellsElement element goes_on Ends (text y) (said y)) ys

  head : (y : Y) (ys : List Y) → Each (y ∷ ys) → SpellsElement element goes_on Ends (text y) (said y)
  head y ys each = All-head (λ one. SpellsElement element goes_on Ends (text one) (said one)) y ys each

  tail : (y : Y) (ys : List Y) → Each (y ∷ ys) → Each ys
  tail y ys each = All-tail (λ one. SpellsElement element goes_on Ends (text one) (said one)) y ys each

  pub clean_others : (ys : List Y) → Each ys → IsClean (others text ys)
  clean_others [] each = refl
  clean_others (y ∷ ys) each = clean-both (codes ", " ++ text y) (others text ys) (clean-both (codes ", ") (text y) refl (head y ys each).clean) (clean_others ys (tail y ys each))

  pub list_clean : (ys : List Y) → Each ys → IsClean (joined (codes ", ") (map text ys))
  list_clean [] each = refl
  list_clean (y ∷ ys) each = clean-both (text y) (others text ys) (head y ys each).clean (clean_others ys (tail y ys each))

  pub ends_others : (ys : List Y) (rest : List ℕ) → Each ys → Ends rest → Ends (others text ys ++ rest)
  ends_others [] rest each ends = ends
  ends_others (y ∷ ys) rest each ends =
      rw (append_assoc (text y) (others text ys) rest) (commas y (others text ys ++ rest) (head y ys each) (ends_others ys rest (tail y ys each) ends))

  shape : (y z : Y) (zs : List Y) (rest : List ℕ) → (text y ++ others text (z ∷ zs)) ++ rest ≡ text y ++ (44 ∷ 32 ∷ (text z ++ (others text zs ++ rest)))
  shape y z zs rest = simp append_assoc

  at_most : (y : Y) (ys : List Y) (rest : List ℕ) (count : ℕ) → Each (y ∷ ys) → Ends rest → goes_on (tokens rest) ≡ false → length ys ≤ count
      → at_most_at element goes_on (suc count) (tokens ((text y ++ others text ys) ++ rest)) ≡ Some (map said (y ∷ ys), tokens rest)
  unfolding at_most_at after
  at_most y [] rest count each ends last most = rw (append-nil (text y)) (rw ((head y [] each).says rest ends) (rw last refl))
  at_most y (z ∷ zs) rest zero each ends last most = absurd (omega arith)
  at_most y (z ∷ zs) rest (suc count) each ends last most =
      let behind : List ℕ = text z ++ (others text zs ++ rest) in
      let commaed : Ends (44 ∷ 32 ∷ behind) = commas z (others text zs ++ rest) (head z zs (tail y (z ∷ zs) each)) (ends_others zs rest (tail z zs (tail y (z ∷ zs) each)) ends) in
      let later : at_most_at element goes_on (suc count) (tokens behind) ≡ Some (map said (z ∷ zs), tokens rest) =
      rw append_assoc at (at_most z zs rest count (tail y (z ∷ zs) each) ends last (omega arith)) in
      rw (shape y z zs rest) (rw ((head y (z ∷ zs) each).says (44 ∷ 32 ∷ behind) commaed) (rw ((head z zs (tail y (z ∷ zs) each)).goes (others text zs ++ rest) (ends_others zs rest (tail z zs (tail y (z ∷ zs) each)) ends))
      (rw (comma_spelled behind) (rw later refl))))

  enough : (y : Y) (ys : List Y) (rest : List ℕ) → Each (y ∷ ys) → Ends rest → length ys + length (tokens rest) < length (tokens ((text y ++ others text ys) ++ rest))
  enough y [] rest each ends = rw (append-nil (text y)) (omega (arith, (head y [] each).shorter rest ends))
  enough y (z ∷ zs) rest each ends =
      let behind : List ℕ = text z ++ (others text zs ++ rest) in
      let commaed : Ends (44 ∷ 32 ∷ behind) = commas z (others text zs ++ rest) (head z zs (tail y (z ∷ zs) each)) (ends_others zs rest (tail z zs (tail y (z ∷ zs) each)) ends) in
      let later : length zs + length (tokens rest) < length (tokens behind) = rw append_assoc at (enough z zs rest (tail y (z ∷ zs) each) ends) in
      let first : length (tokens (44 ∷ 32 ∷ behind)) < length (tokens (text y ++ (44 ∷ 32 ∷ behind))) = (head y (z ∷ zs) each).shorter (44 ∷ 32 ∷ behind) commaed in
      let mark : length (tokens (44 ∷ 32 ∷ behind)) ≡ suc (length (tokens behind)) = ap length (comma_spelled behind) in
      rw (shape y z zs rest) (omega arith)

  pub listed : (y : Y) (ys : List Y) (rest : List ℕ) → Each (y ∷ ys) → Ends rest → goes_on (tokens rest) ≡ false
      → listed_at element goes_on (tokens ((text y ++ others text ys) ++ rest)) ≡ Some (map said (y ∷ ys), tokens rest)
  unfolding listed_at
  listed y ys rest each ends last = by (length (tokens ((text y ++ others text ys) ++ rest))) (enough y ys rest each ends)
    where
      by : (n : ℕ) → length ys + length (tokens rest) < n → at_most_at element goes_on n (tokens ((text y ++ others text ys) ++ rest)) ≡ Some (map said (y ∷ ys), tokens rest)
      by zero more = absurd (omega arith)
      by (suc count) more = at_most y ys rest count each ends last (omega arith)

-- a list to a closing mark
pub list_read : {A Y : Type 0} (element : List Tok → Found A) (closing : List ℕ) (Ends : List ℕ → Type 0) (text : Y → List ℕ) (said : Y → A)
    (commas : (y : Y) (rest : List ℕ) → SpellsElement element comma Ends (text y) (said y) → Ends rest → Ends (44 ∷ 32 ∷ (text y ++ rest)))
    (ys : List Y) (rest : List ℕ) → All (λ y. SpellsElement element comma Ends (text y) (said y)) ys
    → All (λ y. (rest : List ℕ) → Ends rest → begins (is_mark closing) (tokens (text y ++ rest)) ≡ false) ys
    → Ends rest → begins (is_mark closing) (tokens rest) ≡ true → comma (tokens rest) ≡ false
    → list_to element closing (tokens (joined (codes ", ") (map text ys) ++ rest)) ≡ Some (map said ys, tokens rest)
unfolding list_to
list_read element closing Ends text said commas [] rest each opens ends closed last = rw closed refl
list_read element closing Ends text said commas (y ∷ ys) rest each opens ends closed last =
    let first : begins (is_mark closing) (tokens ((text y ++ others text ys) ++ rest)) ≡ false =
    rw append_assoc (All-head (λ y. (rest : List ℕ) → Ends rest → begins (is_mark closing) (tokens (text y ++ rest)) ≡ false) y ys opens (others text ys ++ rest) (ends_others element comma Ends text said commas ys rest (λ k d low. each (suc k) d (omega (arith, low))) ends)) in
    rw first (listed element comma Ends text said commas y ys rest each ends last)
