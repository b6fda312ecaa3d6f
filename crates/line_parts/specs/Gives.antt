-- Reading a front of a list of tokens: what it says and the tokens after it, or nothing.
use Rattle.std.specs.Prelude.{◌≡◌, ℕ, Bool, true, false, List, [], ◌∷◌, Option, Some, None, Result, Ok, Err, if◌then◌else◌}
use Rattle.sp_text.specs.Tokens.{Tok, tok, over, note}
use Rattle.sp_text.specs.declared.tokens.Kind.{Kind}
use Rattle.line_parts.specs.declared.faults.Stop.{Stop}
use Rattle.line_parts.specs.declared.faults.Stop.TheVariants as stops

-- what a front says, with the tokens after it
abbrev pub Found : Type 0 → Type 0
Found A = Option (A × List Tok)

-- one part after another
unfoldable pub after : {A B : Type 0} → Found A → (A → List Tok → Found B) → Found B
after None next = None
after (Some x) next = next x.0 x.1

-- a token that says something, and what follows it
abbrev pub with_rest : {A : Type 0} → List Tok → Option A → Found A
with_rest rest None = None
with_rest rest (Some x) = Some (x, rest)

-- one token
unfoldable pub one_at : {A : Type 0} → (Tok → Option A) → List Tok → Found A
one_at says [] = None
one_at says (over ∷ ts) = None
one_at says (t ∷ ts) = with_rest ts (says t)

-- what is left, with the note if a limit was passed
abbrev pub noted : Bool → List Tok → List Tok
noted passes ts = if passes then note ts else ts

-- one token that says a width or a number, and whether that passes its limit
unfoldable pub one_noted_at : {A : Type 0} → (Tok → Option A) → (Tok → Bool) → List Tok → Found A
one_noted_at says passes [] = None
one_noted_at says passes (over ∷ ts) = None
one_noted_at says passes (t ∷ ts) = with_rest (noted (passes t) ts) (says t)

-- Why nothing was returned: the tokens say nothing, or memory ran out.
abbrev pub Stops : {Y : Type 0} → Stop → Found Y → Type 0
Stops stops.NoReading found = found ≡ None
Stops stops.Memory found = Unit {0}

-- What a function returned, seen by view, with the tokens that it left, is what the tokens say, unless memory ran out.
abbrev pub Gives : {X Y : Type 0} → (X → Y) → Result X Stop → List Tok → Found Y → Type 0
Gives view (Ok x) rest found = found ≡ Some (view x, rest)
Gives view (Err stop) rest found = Stops stop found

-- The test whether something stands there was true, and these tokens are left; or it was false.
abbrev pub Takes : Bool → List Tok → Found (Unit {0}) → Type 0
Takes true rest found = found ≡ Some (tt, rest)
Takes false rest found = found ≡ None

abbrev pub is_nil : List Tok → Bool
is_nil [] = true
is_nil (t ∷ ts) = false

-- whether a limit was passed on the way, where nothing else is left
abbrev pub end_of : List Tok → Option Bool
end_of [] = Some false
end_of (over ∷ []) = Some true
end_of _ = None

-- the list begins with this token
abbrev pub BeginsWith : Kind → List ℕ → List Tok → Type 0
BeginsWith kind bytes ts = (rest : List Tok) × (ts ≡ tok kind bytes ∷ rest)
