-- Heads and definitions, and the lines that they stand on.
use Rattle.std.proofs.Common.{◌≡◌, ℕ, inl, inr, true, false, List, [], ◌∷◌, refl, ap, sym, subst}
use Rattle.std.specs.Prelude.{Option, take_while, not}
use Rattle.std.specs.List.{Contains}
use Rattle.std.proofs.lemmas.List.Elements.{Contains-append_left, Contains-append_right, Contains-append_cases}
use Rattle.line_parts.specs.Types.{TypeWord}
use Rattle.line_parts.specs.Lists.{Named}
use Rattle.ir_lines.specs.Statements.{Statement, Line, declare, define}
use Rattle.ir_lines.specs.Sections.{Head, Definition, head_said, heads_of, definition_said, definitions_of, types_of, is_close}
use Rattle.list_laws.proofs.Contents.{IsJoined, contains_cons, contains_first, contains_joined, contains_later, contains_none, contains_one}

-- ---- definitions

-- the line of a definition
pub record IsDefined (lines : List Line) (func : Definition) : Type 0 where
  pub head : Line
  pub within : Contains lines head
  pub line : head.number ≡ func.line
  pub says : head.says ≡ define func.answer func.name func.arguments func.strategy

defined-here : (l : Line) (what : Statement) (after : List Line) (func : Definition) → l.says ≡ what
    → Contains (definition_said l.number what after) func → (l.number ≡ func.line) × (what ≡ define func.answer func.name func.arguments func.strategy)
defined-here l (define answer name arguments strategy) after func e within =
    let same = contains_one (record { line = l.number; answer = answer; name = name; arguments = arguments; strategy = strategy; body = take_while (λ m. not (is_close m.says)) after }) func within in (
      ap (λ (f : Definition). f.line) same,
      ap (λ (f : Definition). define f.answer f.name f.arguments f.strategy) same,
    )
defined-here l _ after func e within = absurd (contains_none func within)

pub line-defined : (lines : List Line) (func : Definition) → Contains (definitions_of lines) func → IsDefined lines func
line-defined [] func within = absurd (contains_none func within)
line-defined (l ∷ ls) func within = elim (Contains-append_cases (definition_said l.number l.says ls) (definitions_of ls) func within) [
  | inl w ↦ (let h = defined-here l l.says ls func refl w in record { head = l; within = contains_first l ls; line = h.0; says = h.1 })
  | inr w ↦ (let d : IsDefined ls func = line-defined ls func w in
      record { head = d.head; within = contains_later l d.head ls d.within; line = d.line; says = d.says })
]

-- the definition of a line
pub record IsDefinition (lines : List Line) (number : ℕ) (name : List ℕ) : Type 0 where
  pub func : Definition
  pub within : Contains (definitions_of lines) func
  pub line : func.line ≡ number
  pub named : func.name ≡ name

pub defined-line : (lines : List Line) (l : Line) (answer : TypeWord) (name : List ℕ) (arguments : List Named) (strategy : Option (List ℕ))
    → Contains lines l → l.says ≡ define answer name arguments strategy → IsDefinition lines l.number name
defined-line [] l answer name arguments strategy within e = absurd (contains_none l within)
defined-line (m ∷ ms) l answer name arguments strategy within e = elim (contains_cons m l ms within) [
  | inl same ↦ (
      let f : Definition = record { line = l.number; answer = answer; name = name; arguments = arguments; strategy = strategy; body = take_while (λ o. not (is_close o.says)) ms } in
      let here : Contains (definition_said l.number l.says ms) f
      = subst (λ (what : Statement). Contains (definition_said l.number what ms) f) (sym e) (contains_first f []) in
      record {
        func = f;
        within = Contains-append_left (definition_said m.number m.says ms) (definitions_of ms) f
            (subst (λ (o : Line). Contains (definition_said o.number o.says ms) f) (sym same) here);
        line = refl;
        named = refl;
      })
  | inr w ↦ (let d : IsDefinition ms l.number name = defined-line ms l answer name arguments strategy w e in
      record { func = d.func; within = Contains-append_right (definition_said m.number m.says ms) (definitions_of ms) d.func d.within; line = d.line; named = d.named })
]

-- ---- heads

-- what a head's line says
abbrev pub SaysHead : Statement → Head → Type 0
SaysHead (declare answer name parameters) head = (head.defined ≡ false) × (head.name ≡ name)
SaysHead (define answer name arguments strategy) head = (head.defined ≡ true) × (head.name ≡ name)
SaysHead _ head = ⊥

said-head : (line : ℕ) (what : Statement) (head : Head) → Contains (head_said line what) head → (head.line ≡ line) × SaysHead what head
said-head line (declare answer name parameters) head within =
    let same = contains_one (record { line = line; defined = false; name = name; answer = answer; parameters = types_of parameters }) head within in
    (sym (ap (λ (h : Head). h.line) same), (sym (ap (λ (h : Head). h.defined) same), sym (ap (λ (h : Head). h.name) same)))
said-head line (define answer name arguments strategy) head within =
    let same = contains_one (record { line = line; defined = true; name = name; answer = answer; parameters = types_of arguments }) head within in
    (sym (ap (λ (h : Head). h.line) same), (sym (ap (λ (h : Head). h.defined) same), sym (ap (λ (h : Head). h.name) same)))
said-head line _ head within = absurd (contains_none head within)

pub record IsHeadLine (lines : List Line) (head : Head) : Type 0 where
  pub on : Line
  pub within : Contains lines on
  pub number : head.line ≡ on.number
  pub says : SaysHead on.says head

pub line-of-head : (lines : List Line) (head : Head) → Contains (heads_of lines) head → IsHeadLine lines head
line-of-head lines head within =
    let j : IsJoined (λ l. head_said l.number l.says) lines head = contains_joined (λ l. head_said l.number l.says) lines head within in
    let h = said-head j.of.number j.of.says head j.given in
    record { on = j.of; within = j.inside; number = h.0; says = h.1 }
