-- A line's words are decoded to just what they spell.
use Rattle.std.proofs.Common.{◌≡◌, refl, ap, sym, subst, ◌∙◌, ℕ, ◌<◌, ◌≤◌, ◌^◌, true, List, [], ◌∷◌, None, Some, Option, inl, inr}
use Rattle.std.specs.Prelude.{codes, option_map}
use Rattle.std.specs.Str.{bytes_eq}
use Rattle.std.specs.Fmt.{decimal}
use Rattle.std.proofs.lemmas.Bool.{cases_Bool}
use Rattle.std.proofs.lemmas.Option.{cond_some, none-some, option_and_then_some, same_Some}
use Rattle.std.proofs.lemmas.Slice.Eq.{bytes_eq-Decides}
use Rattle.move_plan.specs.declared.plan_lines.PlanLine.{PlanLine}
use Rattle.move_plan.specs.declared.plan_lines.PlanLine.TheVariants.{Every, Move, Flip, Go}
use Rattle.move_plan.specs.Words.{words}
use Rattle.move_plan.specs.Texts.{HasNoReading}
use Rattle.move_plan.specs.PlanLines.{spelling, Spells, IsInRange, ReadsAs}
use Rattle.move_plan.specs.Decoded.{decoded, decoded_at, decoded_every, decoded_go, decoded_move, decoded_verb, count_of, number_of, is_last, is_none, last_number, only_if}
use Rattle.move_plan.proofs.NumberLemmas.{count_of-decimal, count_of-sound, number_of-decimal, number_of-sound}
use Rattle.list_laws.proofs.Contents.{same_bytes}

option_map_some : {A B P : Type 0} (f : A → B) (o : Option A) (y : B) → option_map f o ≡ Some y → ((x : A) → o ≡ Some x → f x ≡ y → P) → P
option_map_some f None y e k = absurd (none-some y e)
option_map_some f (Some x) y e k = k x refl (same_Some (f x) y e)

-- ---- what is spelled is decoded

pub decoded-spelling : (what : PlanLine) → IsInRange what → decoded (spelling what) ≡ Some what
decoded-spelling (Every period) h = rw (count_of-decimal period h.0 h.1) refl
decoded-spelling (Move event obj to) h = rw (count_of-decimal event h.0.0 h.0.1, number_of-decimal obj h.1, number_of-decimal to h.2) refl
decoded-spelling (Flip event) h = rw (count_of-decimal event h.0 h.1) refl
decoded-spelling (Go event task) h = rw (count_of-decimal event h.0.0 h.0.1, number_of-decimal task h.1) refl

pub decoded-complete : (ws : List (List ℕ)) (what : PlanLine) → Spells ws what → decoded ws ≡ Some what
decoded-complete ws what says = ap decoded says.spelled ∙ decoded-spelling what says.in_range

-- ---- what is decoded is spelled

is_last-sound : (word : List ℕ) (ws : List (List ℕ)) → is_last word ws ≡ true → ws ≡ word ∷ []
is_last-sound word [] e = cc
is_last-sound word (one ∷ []) e = ap (λ w. w ∷ []) (same_bytes one word e)
is_last-sound word (one ∷ two ∷ more) e = cc

is_none-sound : (ws : List (List ℕ)) → is_none ws ≡ true → ws ≡ []
is_none-sound [] e = refl
is_none-sound (one ∷ more) e = cc

last_number-sound : (ws : List (List ℕ)) (n : ℕ) → last_number ws ≡ Some n → (ws ≡ decimal n ∷ []) × (n < 2 ^ 64)
last_number-sound [] n e = absurd (none-some n e)
last_number-sound (one ∷ []) n e = (let is = number_of-sound one n e in (ap (λ w. w ∷ []) is.0, is.1))
last_number-sound (one ∷ two ∷ more) n e = absurd (none-some n e)

spells_this : (ws : List (List ℕ)) (this what : PlanLine) → ws ≡ spelling this → IsInRange this → this ≡ what → Spells ws what
spells_this ws this what spelled fits same = subst (λ (one : PlanLine). Spells ws one) same (record { spelled = spelled; in_range = fits })

every-sound : (ws : List (List ℕ)) (what : PlanLine) → decoded_every ws ≡ Some what → Spells (codes "every" ∷ ws) what
every-sound [] what e = absurd (none-some what e)
every-sound (period ∷ more) what e = option_and_then_some (λ n. only_if (is_last (codes "flip") more) (Every n)) (count_of period) what e (λ n number last.
    let is = count_of-sound period n number in
    let ends = cond_some (is_last (codes "flip") more) (Every n) what last in
    spells_this (codes "every" ∷ period ∷ more) (Every n) what (rw (is.0, is_last-sound (codes "flip") more ends.0) refl) (is.1, is.2) ends.1)

pub record IsEvent (word : List ℕ) (event : ℕ) : Type 0 where
  pub spelled : word ≡ decimal event
  pub some : 1 ≤ event
  pub small : event < 2 ^ 64

move-sound : (word : List ℕ) (event : ℕ) (ws : List (List ℕ)) (what : PlanLine) → IsEvent word event → decoded_move event ws ≡ Some what
    → Spells (codes "at" ∷ word ∷ codes "move" ∷ ws) what
move-sound word event [] what is e = absurd (none-some what e)
move-sound word event (obj ∷ []) what is e = absurd (none-some what e)
move-sound word event (obj ∷ to ∷ more) what is e = elim (cases_Bool (bytes_eq to (codes "to"))) [
  | inl marked ↦ option_and_then_some (λ o. option_map (λ a. Move event o a) (last_number more)) (number_of obj) what (rw marked at e) (λ o number last.
      option_map_some (λ a. Move event o a) (last_number more) what last (λ a end same.
      let object = number_of-sound obj o number in
      let target = last_number-sound more a end in
      spells_this (codes "at" ∷ word ∷ codes "move" ∷ obj ∷ to ∷ more) (Move event o a) what
      (rw (is.spelled, object.0, same_bytes to (codes "to") marked, target.0) refl) ((is.some, is.small), object.1, target.1) same))
  | inr not ↦ absurd (none-some what (rw not at e))
]

go-sound : (word : List ℕ) (event : ℕ) (ws : List (List ℕ)) (what : PlanLine) → IsEvent word event → decoded_go event ws ≡ Some what
    → Spells (codes "at" ∷ word ∷ codes "go" ∷ ws) what
go-sound word event ws what is e = option_map_some (λ task. Go event task) (last_number ws) what e (λ task end same.
    let number = last_number-sound ws task end in
    spells_this (codes "at" ∷ word ∷ codes "go" ∷ ws) (Go event task) what (rw (is.spelled, number.0) refl) ((is.some, is.small), number.1) same)

flip-sound : (word : List ℕ) (event : ℕ) (ws : List (List ℕ)) (what : PlanLine) → IsEvent word event → only_if (is_none ws) (Flip event) ≡ Some what
    → Spells (codes "at" ∷ word ∷ codes "flip" ∷ ws) what
flip-sound word event ws what is e =
    let ends = cond_some (is_none ws) (Flip event) what e in
    spells_this (codes "at" ∷ word ∷ codes "flip" ∷ ws) (Flip event) what (rw (is.spelled, is_none-sound ws ends.0) refl) (is.some, is.small) ends.1

verb-sound : (word : List ℕ) (event : ℕ) (ws : List (List ℕ)) (what : PlanLine) → IsEvent word event → decoded_verb event ws ≡ Some what
    → Spells (codes "at" ∷ word ∷ ws) what
verb-sound word event [] what is e = absurd (none-some what e)
verb-sound word event (verb ∷ more) what is e = elim (cases_Bool (bytes_eq verb (codes "move"))) [
  | inl move ↦ rw (same_bytes verb (codes "move") move) (move-sound word event more what is (rw move at e))
  | inr no_move ↦ elim (cases_Bool (bytes_eq verb (codes "flip"))) [
    | inl flip ↦ rw (same_bytes verb (codes "flip") flip) (flip-sound word event more what is (rw (no_move, flip) at e))
    | inr no_flip ↦ elim (cases_Bool (bytes_eq verb (codes "go"))) [
      | inl go ↦ rw (same_bytes verb (codes "go") go) (go-sound word event more what is (rw (no_move, no_flip, go) at e))
      | inr no_go ↦ absurd (none-some what (rw (no_move, no_flip, no_go) at e))
    ]
  ]
]

at-sound : (ws : List (List ℕ)) (what : PlanLine) → decoded_at ws ≡ Some what → Spells (codes "at" ∷ ws) what
at-sound [] what e = absurd (none-some what e)
at-sound (event ∷ more) what e = option_and_then_some (λ n. decoded_verb n more) (count_of event) what e (λ n number verb.
    let is = count_of-sound event n number in
    verb-sound event n more what (record { spelled = is.0; some = is.1; small = is.2 }) verb)

pub decoded-sound : (ws : List (List ℕ)) (what : PlanLine) → decoded ws ≡ Some what → Spells ws what
decoded-sound [] what e = absurd (none-some what e)
decoded-sound (first ∷ more) what e = elim (cases_Bool (bytes_eq first (codes "every"))) [
  | inl every ↦ rw (same_bytes first (codes "every") every) (every-sound more what (rw every at e))
  | inr no_every ↦ elim (cases_Bool (bytes_eq first (codes "at"))) [
    | inl at_line ↦ rw (same_bytes first (codes "at") at_line) (at-sound more what (rw (no_every, at_line) at e))
    | inr no_at ↦ absurd (none-some what (rw (no_every, no_at) at e))
  ]
]

-- ---- lines

pub line_says : (line first : List ℕ) (rest : List (List ℕ)) (what : PlanLine) → words line ≡ first ∷ rest → Some what ≡ decoded (first ∷ rest)
    → ReadsAs line (Some what)
line_says line first rest what are is = rw are (decoded-sound (first ∷ rest) what (sym is))

pub no_reading : (line first : List ℕ) (rest : List (List ℕ)) → words line ≡ first ∷ rest → None ≡ decoded (first ∷ rest) → HasNoReading ReadsAs line
no_reading line first rest are is = by
  where
    by : (reading : Option PlanLine) → ¬ ReadsAs line reading
    by None blank = absurd (cc)
    by (Some what) says = none-some what (is ∙ decoded-complete (first ∷ rest) what (rw are at says))
