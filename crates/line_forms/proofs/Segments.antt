-- A row of slots is read piece by piece.
use Rattle.std.proofs.Common.{◌≡◌, refl, ap, ◌∙◌, true, List, [], ◌∷◌, ◌++◌, Some, None, append_assoc}
use Rattle.sp_text.specs.Tokens.{Tok}
use Rattle.line_parts.specs.Gives.{Found, after}
use Rattle.line_forms.specs.Slots.{Slot, Item, part, parse}

-- with this said before
abbrev pub led : List Item → Found (List Item) → Found (List Item)
led here found = after found (λ more end. Some (here ++ more, end))

led-nothing : (found : Found (List Item)) → found ≡ led [] found
unfolding after
led-nothing None = refl
led-nothing (Some said) = refl

led-both : (here more : List Item) (found : Found (List Item)) → led here (led more found) ≡ led (here ++ more) found
unfolding after
led-both here more None = refl
led-both here more (Some said) = ap (λ (all : List Item). Some (all, said.1)) (append_assoc_back here more said.0)
  where
    append_assoc_back : (a b c : List Item) → a ++ (b ++ c) ≡ (a ++ b) ++ c
    append_assoc_back a b c = rw (append_assoc a b c) refl

led-pieces : (here : List Item) (first : Found (List Item)) (next : List Tok → Found (List Item))
    → led here (after first (λ said mid. led said (next mid))) ≡ after (led here first) (λ said mid. led said (next mid))
unfolding after
led-pieces here None next = refl
led-pieces here (Some said) next = led-both here said.0 (next said.1)

pieces-behind : (f g : List Slot) (found : Found (List Item)) → ((mid : List Tok) → parse (f ++ g) mid ≡ after (parse f mid) (λ here end. led here (parse g end)))
    → after found (λ here mid. led here (parse (f ++ g) mid)) ≡ after (after found (λ here mid. led here (parse f mid))) (λ here mid. led here (parse g mid))
unfolding after
pieces-behind f g None each = refl
pieces-behind f g (Some said) each = rw (each said.1) (led-pieces said.0 (parse f said.1) (parse g))

pub pieces : (f g : List Slot) (ts : List Tok) → parse (f ++ g) ts ≡ after (parse f ts) (λ here mid. led here (parse g mid))
unfolding parse after
pieces [] g ts = led-nothing (parse g ts)
pieces (s ∷ f) g ts = pieces-behind f g (part s ts) (λ mid. pieces f g mid)
