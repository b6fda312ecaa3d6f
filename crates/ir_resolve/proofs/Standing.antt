-- Each line of a body stands where it may: an instruction goes on with its block, or ends it.
use Rattle.std.proofs.Common.{◌≡◌, ℕ, Bool, true, false, not, cond, List, [], ◌∷◌, ◌++◌, refl, sym, subst}
use Rattle.std.specs.Prelude.{Option, Some, take_while, ⊤}
use Rattle.std.specs.List.{All}
use Rattle.std.proofs.lemmas.List.Elements.{All-nil, All-cons}
use Rattle.std.proofs.lemmas.List.Sums.{take_while-cons}
use Rattle.std.proofs.lemmas.Option.{same_Some}
use Rattle.ir_reader.specs.declared.states.Place.{Place}
use Rattle.ir_reader.specs.declared.states.Place.TheVariants as places
use Rattle.line_parts.specs.Types.{TypeWord}
use Rattle.ir_lines.specs.Statements.{Line, Statement, layout, declare, define, close, label, jump, branch, switch, switch_case, switch_end, ret_void, ret, unreachable}
use Rattle.ir_lines.specs.Sections.{Definition, definition_said, definitions_of, is_close}
use Rattle.ir_lines.specs.ReadLines.{is_instruction}
use Rattle.ir_lines.specs.TextLines.{Stand, Goes, place_behind, behind_instruction}

-- ---- the lines of a body, and those of a block

-- each line stands where it may, and none is a closing brace
abbrev pub StandsIn : Place → List Line → Type 0
StandsIn place [] = ⊤
StandsIn place (l ∷ ls) = (is_close l.says ≡ false) × Goes (place_behind place l.says) (λ next. StandsIn next ls)

in_body : (place : Place) (ls : List Line) → Stand place ls → StandsIn place (take_while (λ l. not (is_close l.says)) ls)
in_body place [] stand = tt
in_body place (l ∷ ls) stand =
    subst (StandsIn place) (sym (take_while-cons (λ (one : Line). not (is_close one.says)) l ls)) (by (is_close l.says) refl (in_body stand.next ls stand.more))
  where
    by : (b : Bool) → is_close l.says ≡ b → StandsIn stand.next (take_while (λ k. not (is_close k.says)) ls)
        → StandsIn place (cond (not b) (l ∷ take_while (λ k. not (is_close k.says)) ls) [])
    by true e ih = tt
    by false e ih = (e, record { next = stand.next; is = stand.is; more = ih })

entry-is : (place next : Place) (answer : TypeWord) (name : List ℕ) (arguments : List Rattle.line_parts.specs.Lists.Named) (strategy : Option (List ℕ))
    → place_behind place (define answer name arguments strategy) ≡ Some next → places.Entry ≡ next
entry-is places.Top next answer name arguments strategy e = same_Some places.Entry next e
entry-is places.Entry next answer name arguments strategy e = absurd (cc)
entry-is places.Block next answer name arguments strategy e = absurd (cc)
entry-is places.Closed next answer name arguments strategy e = absurd (cc)
entry-is places.Cases next answer name arguments strategy e = absurd (cc)

abbrev pub BodyStands : Definition → Type 0
BodyStands func = StandsIn places.Entry func.body

one_body : (place next : Place) (n : ℕ) (s : Statement) (ls : List Line) → place_behind place s ≡ Some next → Stand next ls → All BodyStands (definitions_of ls)
    → All BodyStands (definition_said n s ls ++ definitions_of ls)
one_body place next n (define answer name arguments strategy) ls e stand ih =
    All-cons BodyStands (record {
      line = n;
      answer = answer;
      name = name;
      arguments = arguments;
      strategy = strategy;
      body = take_while (λ l. not (is_close l.says)) ls;
    }) (definitions_of ls) (in_body places.Entry ls (subst (λ (p : Place). Stand p ls) (sym (entry-is place next answer name arguments strategy e)) stand)) ih
one_body place next n _ ls e stand ih = ih

pub bodies : (place : Place) (lines : List Line) → Stand place lines → All BodyStands (definitions_of lines)
bodies place [] stand = All-nil BodyStands
bodies place (l ∷ ls) stand = one_body place stand.next l.number l.says ls stand.is stand.more (bodies stand.next ls stand.more)

-- ---- behind an instruction

pub data After (next : Place) : Type 0 where
  goes_on : places.Block ≡ next → After next
  ends : places.Closed ≡ next → After next
  opens : places.Cases ≡ next → After next

pub after : (s : Statement) (next : Place) → behind_instruction s ≡ Some next → After next × (is_instruction s ≡ true)
after (layout name fields) next e = absurd (cc)
after (declare answer name parameters) next e = absurd (cc)
after (define answer name arguments strategy) next e = absurd (cc)
after close next e = absurd (cc)
after (label name) next e = absurd (cc)
after (switch_case width value to) next e = absurd (cc)
after switch_end next e = absurd (cc)
after (jump to) next e = (ends (same_Some places.Closed next e), refl)
after (branch condition on_true on_false) next e = (ends (same_Some places.Closed next e), refl)
after ret_void next e = (ends (same_Some places.Closed next e), refl)
after (ret ty value) next e = (ends (same_Some places.Closed next e), refl)
after unreachable next e = (ends (same_Some places.Closed next e), refl)
after (switch width value default) next e = (opens (same_Some places.Cases next e), refl)
after _ next e = (goes_on (same_Some places.Block next e), refl)
