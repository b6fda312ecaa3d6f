-- Which pairs stand at a place of a block, by the lines that come last before it: lines that give neither the pointer nor the
-- base keep a pair, a line that gives the base takes it, and a group takes all.
use Rattle.std.proofs.Common.{◌≡◌, ◌∙◌, ◌⊎◌, inl, inr, ℕ, zero, suc, ◌<◌, ◌≤◌, cond, Bool, true, false, List, Option, Some, None, refl, ap, sym, subst, nat_lt, arith}
use Rattle.std.specs.Option.{option_map_or}
use Rattle.std.proofs.lemmas.Bool.{false≢true, cases_lt, lt-ltb, le-ltb}
use Rattle.std.proofs.lemmas.Bool.{eq-eqb}
use Rattle.ir_ast.specs.declared.ops.Operand.{Operand}
use Rattle.ir_ast.specs.Faults.GroupShape.{is_statepoint}
use Rattle.object_meaning.specs.Lines.{Line}
use Rattle.object_meaning.specs.Frames.{is_member}
use Rattle.object_meaning.specs.Jumps.{phi_count}
use Rattle.pair_facts.specs.declared.bases.Base.{Base}
use Rattle.pair_facts.specs.Lines.{line_in, line_before, head_at, group_in, named}
use Rattle.pair_facts.specs.Pairs.{Pairs, is_named, is_base_named, without, with_own, with_given, given_pairs, after, after_group}
use Rattle.pair_facts.specs.Paths.{behind, pairs_at}
use Rattle.pair_facts.specs.Segments.{start_at}
use Rattle.pair_facts.specs.Uses.{entries_at}
use Rattle.pair_facts.proofs.FreshLaws.{with_own_none}

-- the line doesn't give this operand, or this base
abbrev pub Leaves : Line → Operand → Type 0
Leaves line operand = (value : ℕ) → line.to ≡ Some value → is_named value operand ≡ false

abbrev pub LeavesBase : Line → Base → Type 0
LeavesBase line base = (value : ℕ) → line.to ≡ Some value → is_base_named value base ≡ false

-- the line is no phi and in no group
abbrev pub IsPlainAt : List Line → ℕ → Type 0
IsPlainAt lines place = (head_at lines place ≡ None) × (phi_count lines ≤ place)

-- ---- a line

with_own_same : (value : ℕ) (own : Base → Bool) (pairs : Pairs) (operand : Operand) (base : Base) → is_named value operand ≡ false → is_base_named value base ≡ false
    → with_own value own pairs operand base ≡ pairs operand base
with_own_same value own pairs operand base = by (is_named value operand) (is_base_named value base)
  where
    by : (b c : Bool) → b ≡ false → c ≡ false → cond b (own base) (cond b false (cond c false (pairs operand base))) ≡ pairs operand base
    by true c e f = absurd (false≢true (sym e))
    by false true e f = absurd (false≢true (sym f))
    by false false e f = refl

with_own_gone : (value : ℕ) (own : Base → Bool) (pairs : Pairs) (operand : Operand) (base : Base) → is_named value operand ≡ false → is_base_named value base ≡ true
    → with_own value own pairs operand base ≡ false
with_own_gone value own pairs operand base = by (is_named value operand) (is_base_named value base)
  where
    by : (b c : Bool) → b ≡ false → c ≡ true → cond b (own base) (cond b false (cond c false (pairs operand base))) ≡ false
    by true c e f = absurd (false≢true (sym e))
    by false false e f = absurd (false≢true f)
    by false true e f = refl

with_own_given : (value : ℕ) (own : Base → Bool) (pairs : Pairs) (base : Base) → with_own value own pairs (named value) base ≡ own base
with_own_given value own pairs base = ap (λ b. cond b (own base) (without value pairs (named value) base)) (eq-eqb value value refl)

pub after_same : (pairs : Pairs) (last : Option Line) (line : Line) (operand : Operand) (base : Base) → Leaves line operand → LeavesBase line base
    → after pairs last line operand base ≡ pairs operand base
after_same pairs last line operand base leaves leaves_base = by line.to refl
  where
    by : (to : Option ℕ) → line.to ≡ to → with_given to (λ value. given_pairs (without value pairs) last line.inst line.inst.op value) pairs operand base ≡ pairs operand base
    by None is = refl
    by (Some value) is = with_own_same value (given_pairs (without value pairs) last line.inst line.inst.op value) pairs operand base (leaves value is) (leaves_base value is)

pub after_falls : (pairs : Pairs) (last : Option Line) (line : Line) (operand : Operand) (base : Base) → Leaves line operand → pairs operand base ≡ false
    → after pairs last line operand base ≡ false
after_falls pairs last line operand base leaves none = by line.to refl
  where
    by : (to : Option ℕ) → line.to ≡ to → with_given to (λ value. given_pairs (without value pairs) last line.inst line.inst.op value) pairs operand base ≡ false
    by None is = none
    by (Some value) is = with_own_none value (given_pairs (without value pairs) last line.inst line.inst.op value) pairs operand base
        (λ here. absurd (false≢true (sym (leaves value is) ∙ here))) none

pub after_gone : (pairs : Pairs) (last : Option Line) (line : Line) (operand : Operand) (base : Base) (value : ℕ) → line.to ≡ Some value
    → is_named value operand ≡ false → is_base_named value base ≡ true → after pairs last line operand base ≡ false
after_gone pairs last line operand base value is other gone =
    ap (λ (to : Option ℕ). with_given to (λ value. given_pairs (without value pairs) last line.inst line.inst.op value) pairs operand base) is
    ∙ with_own_gone value (given_pairs (without value pairs) last line.inst line.inst.op value) pairs operand base other gone

pub after_given : (pairs : Pairs) (last : Option Line) (line : Line) (base : Base) (value : ℕ) → line.to ≡ Some value
    → after pairs last line (named value) base ≡ given_pairs (without value pairs) last line.inst line.inst.op value base
after_given pairs last line base value is =
    ap (λ (to : Option ℕ). with_given to (λ value. given_pairs (without value pairs) last line.inst line.inst.op value) pairs (named value) base) is
    ∙ with_own_given value (given_pairs (without value pairs) last line.inst line.inst.op value) pairs base

-- ---- behind a line

pub behind_group : (lines : List Line) (place head : ℕ) (pairs : Pairs) (operand : Operand) (base : Base) → head_at lines place ≡ Some head
    → behind lines place pairs operand base ≡ after_group (entries_at lines head) (group_in lines head) operand base
behind_group lines place head pairs operand base is =
    ap (λ (found : Option ℕ). option_map_or (λ head. after_group (entries_at lines head) (group_in lines head)) found
    (cond (nat_lt place (phi_count lines)) pairs (after pairs (line_before lines place) (line_in lines place))) operand base) is

pub behind_phi : (lines : List Line) (place : ℕ) (pairs : Pairs) (operand : Operand) (base : Base) → head_at lines place ≡ None → place < phi_count lines
    → behind lines place pairs operand base ≡ pairs operand base
behind_phi lines place pairs operand base is below =
    ap (λ (found : Option ℕ). option_map_or (λ head. after_group (entries_at lines head) (group_in lines head)) found
    (cond (nat_lt place (phi_count lines)) pairs (after pairs (line_before lines place) (line_in lines place))) operand base) is
    ∙ ap (λ b. cond b pairs (after pairs (line_before lines place) (line_in lines place)) operand base) (lt-ltb place (phi_count lines) below)

pub behind_line : (lines : List Line) (place : ℕ) (pairs : Pairs) (operand : Operand) (base : Base) → IsPlainAt lines place
    → behind lines place pairs operand base ≡ after pairs (line_before lines place) (line_in lines place) operand base
behind_line lines place pairs operand base plain =
    ap (λ (found : Option ℕ). option_map_or (λ head. after_group (entries_at lines head) (group_in lines head)) found
    (cond (nat_lt place (phi_count lines)) pairs (after pairs (line_before lines place) (line_in lines place))) operand base) plain.0
    ∙ ap (λ b. cond b pairs (after pairs (line_before lines place) (line_in lines place)) operand base) (le-ltb place (phi_count lines) plain.1)

-- ---- plain lines from one place to another

last_place : (j k : ℕ) → j ≤ suc k → (j ≤ k) ⊎ (j ≡ suc k)
last_place j k up = grind arith

-- lines that leave the pair
pub record ArePassed (lines : List Line) (from to : ℕ) (operand : Operand) (base : Base) : Type 0 where
  pub plain : (place : ℕ) → from ≤ place → place < to → IsPlainAt lines place
  pub leave : (place : ℕ) → from ≤ place → place < to → Leaves (line_in lines place) operand
  pub leave_base : (place : ℕ) → from ≤ place → place < to → LeavesBase (line_in lines place) base

pub pairs_passed : (lines : List Line) (front : Pairs) (from to : ℕ) (operand : Operand) (base : Base) → from ≤ to → ArePassed lines from to operand base
    → pairs_at lines front to operand base ≡ pairs_at lines front from operand base
pairs_passed lines front from zero operand base up passed =
    let none : from ≡ 0 = omega arith in ap (λ (place : ℕ). pairs_at lines front place operand base) (sym none)
pairs_passed lines front from (suc to) operand base up passed = elim (last_place from to up) [
  | inr here ↦ ap (λ (place : ℕ). pairs_at lines front place operand base) (sym here)
  | inl before ↦
      behind_line lines to (pairs_at lines front to) operand base (passed.plain to before (omega arith))
      ∙ after_same (pairs_at lines front to) (line_before lines to) (line_in lines to) operand base (passed.leave to before (omega arith)) (passed.leave_base to before (omega arith))
      ∙ pairs_passed lines front from to operand base before (record {
        plain = λ place low high. passed.plain place low (omega arith);
        leave = λ place low high. passed.leave place low (omega arith);
        leave_base = λ place low high. passed.leave_base place low (omega arith);
      })
]

-- lines that give another pointer don't bring a pair back
pub record ArePassedBy (lines : List Line) (from to : ℕ) (operand : Operand) : Type 0 where
  pub plain : (place : ℕ) → from ≤ place → place < to → IsPlainAt lines place
  pub leave : (place : ℕ) → from ≤ place → place < to → Leaves (line_in lines place) operand

pub pairs_fall : (lines : List Line) (front : Pairs) (from to : ℕ) (operand : Operand) (base : Base) → from ≤ to → ArePassedBy lines from to operand
    → pairs_at lines front from operand base ≡ false → pairs_at lines front to operand base ≡ false
pairs_fall lines front from zero operand base up passed none =
    let start : from ≡ 0 = omega arith in subst (λ (place : ℕ). pairs_at lines front place operand base ≡ false) start none
pairs_fall lines front from (suc to) operand base up passed none = elim (last_place from to up) [
  | inr here ↦ subst (λ (place : ℕ). pairs_at lines front place operand base ≡ false) here none
  | inl before ↦
      behind_line lines to (pairs_at lines front to) operand base (passed.plain to before (omega arith))
      ∙ after_falls (pairs_at lines front to) (line_before lines to) (line_in lines to) operand base (passed.leave to before (omega arith))
      (pairs_fall lines front from to operand base before (record {
        plain = λ place low high. passed.plain place low (omega arith);
        leave = λ place low high. passed.leave place low (omega arith);
      }) none)
]

-- the base is given on the way
pub pairs_gone : (lines : List Line) (front : Pairs) (from to : ℕ) (operand : Operand) (base : Base) (value : ℕ) → from < to → ArePassedBy lines from to operand
    → (line_in lines from).to ≡ Some value → is_base_named value base ≡ true → pairs_at lines front to operand base ≡ false
pairs_gone lines front from to operand base value up passed is gone =
    pairs_fall lines front (suc from) to operand base (omega arith) (record {
      plain = λ place low high. passed.plain place (omega arith) high;
      leave = λ place low high. passed.leave place (omega arith) high;
    })
    (behind_line lines from (pairs_at lines front from) operand base (passed.plain from (omega arith) up)
    ∙ after_gone (pairs_at lines front from) (line_before lines from) (line_in lines from) operand base value is (passed.leave from (omega arith) up value is) gone)

-- ---- statepoints and their groups

pub start_below : (lines : List Line) (place : ℕ) → start_at lines place ≤ place
start_below lines zero = omega arith
start_below lines (suc place) = by (is_statepoint (line_in lines place).inst.op) (start_below lines place)
  where
    by : (b : Bool) → start_at lines place ≤ place → cond b (suc place) (start_at lines place) ≤ suc place
    by true rest = omega arith
    by false rest = omega (arith, rest)

start_cases : (lines : List Line) (place : ℕ) → ((is_statepoint (line_in lines place).inst.op ≡ true) × (start_at lines (suc place) ≡ suc place))
    ⊎ ((is_statepoint (line_in lines place).inst.op ≡ false) × (start_at lines (suc place) ≡ start_at lines place))
start_cases lines place = by (is_statepoint (line_in lines place).inst.op)
  where
    by : (b : Bool) → ((b ≡ true) × (cond b (suc place) (start_at lines place) ≡ suc place)) ⊎ ((b ≡ false) × (cond b (suc place) (start_at lines place) ≡ start_at lines place))
    by true = inl (refl, refl)
    by false = inr (refl, refl)

-- no statepoint stands between the start and the place
pub no_statepoint : (lines : List Line) (to place : ℕ) → start_at lines to ≤ place → place < to → is_statepoint (line_in lines place).inst.op ≡ false
no_statepoint lines zero place low high = absurd (omega arith)
no_statepoint lines (suc to) place low high = elim (start_cases lines to) [
  | inl here ↦ absurd (omega (arith, here.1))
  | inr other ↦ elim (cases_lt place to) [
    | inl below ↦ no_statepoint lines to place (omega (arith, other.1)) below
    | inr last ↦ (let same : place ≡ to = omega arith in subst (λ (k : ℕ). is_statepoint (line_in lines k).inst.op ≡ false) (sym same) other.0)
  ]
]

head_step : (lines : List Line) (place : ℕ) → is_statepoint (line_in lines (suc place)).inst.op ≡ false
    → (head_at lines (suc place) ≡ None) ⊎ ((is_member (line_in lines (suc place)).inst.op ≡ true) × (head_at lines (suc place) ≡ head_at lines place))
head_step lines place = by (is_statepoint (line_in lines (suc place)).inst.op) (is_member (line_in lines (suc place)).inst.op)
  where
    by : (b c : Bool) → b ≡ false → (cond {A = Option ℕ} b (Some (suc place)) (cond c (head_at lines place) None) ≡ None)
        ⊎ ((c ≡ true) × (cond {A = Option ℕ} b (Some (suc place)) (cond c (head_at lines place) None) ≡ head_at lines place))
    by true c e = absurd (false≢true (sym e))
    by false true e = inr (refl, refl)
    by false false e = inl refl

head_zero : (lines : List Line) → is_statepoint (line_in lines 0).inst.op ≡ false → head_at lines 0 ≡ None
head_zero lines = by (is_statepoint (line_in lines 0).inst.op) (is_member (line_in lines 0).inst.op)
  where
    by : (b c : Bool) → b ≡ false → cond {A = Option ℕ} b (Some 0) (cond c None None) ≡ None
    by true c e = absurd (false≢true (sym e))
    by false true e = refl
    by false false e = refl

pub head_here : (lines : List Line) (place : ℕ) → is_statepoint (line_in lines place).inst.op ≡ true → head_at lines place ≡ Some place
head_here lines zero is = ap (λ b. cond {A = Option ℕ} b (Some 0) (cond (is_member (line_in lines 0).inst.op) None None)) is
head_here lines (suc place) is = ap (λ b. cond {A = Option ℕ} b (Some (suc place)) (cond (is_member (line_in lines (suc place)).inst.op) (head_at lines place) None)) is

-- no statepoint, no group
pub no_head : (lines : List Line) (place : ℕ) → ((k : ℕ) → k ≤ place → is_statepoint (line_in lines k).inst.op ≡ false) → head_at lines place ≡ None
no_head lines zero none = head_zero lines (none 0 (omega arith))
no_head lines (suc place) none = elim (head_step lines place (none (suc place) (omega arith))) [
  | inl is ↦ is
  | inr more ↦ more.1 ∙ no_head lines place (λ k low. none k (omega arith))
]

-- a group that has ended doesn't go on
pub head_ended : (lines : List Line) (from place : ℕ) → head_at lines from ≡ None → from ≤ place
    → ((k : ℕ) → from < k → k ≤ place → is_statepoint (line_in lines k).inst.op ≡ false) → head_at lines place ≡ None
head_ended lines from zero ended up none = let same : from ≡ 0 = omega arith in subst (λ (k : ℕ). head_at lines k ≡ None) same ended
head_ended lines from (suc place) ended up none = elim (last_place from place up) [
  | inr here ↦ subst (λ (k : ℕ). head_at lines k ≡ None) here ended
  | inl before ↦ elim (head_step lines place (none (suc place) (omega arith) (omega arith))) [
    | inl is ↦ is
    | inr more ↦ more.1 ∙ head_ended lines from place ended before (λ k low high. none k low (omega arith))
  ]
]

-- behind the last statepoint each line is in its group or in none
pub head_or_none : (lines : List Line) (head place : ℕ) → is_statepoint (line_in lines head).inst.op ≡ true → head ≤ place
    → ((k : ℕ) → head < k → k ≤ place → is_statepoint (line_in lines k).inst.op ≡ false)
    → (head_at lines place ≡ Some head) ⊎ (head_at lines place ≡ None)
head_or_none lines head zero is up none = let same : head ≡ 0 = omega arith in
    inl (subst (λ (k : ℕ). head_at lines k ≡ Some head) (sym same ∙ same ∙ refl) (subst (λ (k : ℕ). head_at lines k ≡ Some head) same (head_here lines head is)))
head_or_none lines head (suc place) is up none = elim (last_place head place up) [
  | inr here ↦ inl (subst (λ (k : ℕ). head_at lines k ≡ Some head) here (head_here lines head is))
  | inl before ↦ elim (head_step lines place (none (suc place) (omega arith) (omega arith))) [
    | inl ended ↦ inr ended
    | inr more ↦ elim (head_or_none lines head place is before (λ k low high. none k low (omega arith))) [
      | inl found ↦ inl (more.1 ∙ found)
      | inr ended ↦ inr (more.1 ∙ ended)
    ]
  ]
]

pub start_is : (lines : List Line) (place head : ℕ) → start_at lines place ≡ suc head → is_statepoint (line_in lines head).inst.op ≡ true
start_is lines zero head is = absurd (omega (arith, is))
start_is lines (suc place) head is = elim (start_cases lines place) [
  | inl here ↦ (let same : place ≡ head = omega (arith, here.1) in subst (λ (k : ℕ). is_statepoint (line_in lines k).inst.op ≡ true) same here.0)
  | inr other ↦ start_is lines place head (sym other.1 ∙ is)
]

-- behind the statepoint at `head`, which is the last before `to`
pub head_within : (lines : List Line) (to head place : ℕ) → start_at lines to ≡ suc head → head ≤ place → place < to
    → (head_at lines place ≡ Some head) ⊎ (head_at lines place ≡ None)
head_within lines to head place is low high =
    head_or_none lines head place (start_is lines to head is) low (λ k above below. no_statepoint lines to k (omega (arith, is)) (omega arith))

-- before the first statepoint
pub no_head_before : (lines : List Line) (to place : ℕ) → start_at lines to ≡ 0 → place < to → head_at lines place ≡ None
no_head_before lines to place is high = no_head lines place (λ k low. no_statepoint lines to k (omega (arith, is)) (omega arith))

-- ---- from the front of the block, and from a group

-- plain lines before the first statepoint leave the pair
pub pairs_from_front : (lines : List Line) (front : Pairs) (to : ℕ) (operand : Operand) (base : Base) → start_at lines to ≡ 0
    → ((place : ℕ) → phi_count lines ≤ place → place < to → Leaves (line_in lines place) operand × LeavesBase (line_in lines place) base)
    → pairs_at lines front to operand base ≡ front operand base
pairs_from_front lines front zero operand base is leave = refl
pairs_from_front lines front (suc to) operand base is leave =
    let none = no_head_before lines (suc to) to is (omega arith) in
    let before : start_at lines to ≡ 0 = start_earlier lines to is in
    let rest = pairs_from_front lines front to operand base before (λ place low high. leave place low (omega arith)) in
    elim (cases_lt to (phi_count lines)) [
      | inl phi ↦ behind_phi lines to (pairs_at lines front to) operand base none phi ∙ rest
      | inr plain ↦ (let l = leave to plain (omega arith) in
          behind_line lines to (pairs_at lines front to) operand base (none, plain)
          ∙ after_same (pairs_at lines front to) (line_before lines to) (line_in lines to) operand base l.0 l.1 ∙ rest)
    ]
  where
    start_earlier : (lines : List Line) (to : ℕ) → start_at lines (suc to) ≡ 0 → start_at lines to ≡ 0
    start_earlier lines to is = elim (start_cases lines to) [
      | inl here ↦ absurd (omega (arith, here.1, is))
      | inr other ↦ sym other.1 ∙ is
    ]

-- plain lines behind the last statepoint leave the pair
pub pairs_from_group : (lines : List Line) (front : Pairs) (to head : ℕ) (operand : Operand) (base : Base) → start_at lines to ≡ suc head → phi_count lines ≤ head
    → ((place : ℕ) → head ≤ place → place < to → head_at lines place ≡ None → Leaves (line_in lines place) operand × LeavesBase (line_in lines place) base)
    → pairs_at lines front to operand base ≡ after_group (entries_at lines head) (group_in lines head) operand base
pairs_from_group lines front zero head operand base is past leave = absurd (omega (arith, is))
pairs_from_group lines front (suc to) head operand base is past leave = elim (start_cases lines to) [
  | inl here ↦ (let same : to ≡ head = omega (arith, here.1, is) in
      behind_group lines to head (pairs_at lines front to) operand base (head_here lines to here.0 ∙ ap Some same))
  | inr other ↦ (let before : start_at lines to ≡ suc head = sym other.1 ∙ is in
      let below : head < to = omega (arith, start_below lines to, before) in
      elim (head_within lines (suc to) head to is (omega arith) (omega arith)) [
        | inl found ↦ behind_group lines to head (pairs_at lines front to) operand base found
        | inr none ↦ (let l = leave to (omega arith) (omega arith) none in
            behind_line lines to (pairs_at lines front to) operand base (none, omega arith)
            ∙ after_same (pairs_at lines front to) (line_before lines to) (line_in lines to) operand base l.0 l.1
            ∙ pairs_from_group lines front to head operand base before past (λ place low high. leave place low (omega arith)))
      ])
]

-- what no line behind the statepoint gives and its group doesn't keep is lost
pub pairs_lost : (lines : List Line) (front : Pairs) (to head : ℕ) (operand : Operand) (base : Base) → start_at lines to ≡ suc head → phi_count lines ≤ head
    → ((place : ℕ) → head ≤ place → place < to → head_at lines place ≡ None → Leaves (line_in lines place) operand)
    → after_group (entries_at lines head) (group_in lines head) operand base ≡ false
    → pairs_at lines front to operand base ≡ false
pairs_lost lines front zero head operand base is past leave lost = absurd (omega (arith, is))
pairs_lost lines front (suc to) head operand base is past leave lost = elim (start_cases lines to) [
  | inl here ↦ (let same : to ≡ head = omega (arith, here.1, is) in
      behind_group lines to head (pairs_at lines front to) operand base (head_here lines to here.0 ∙ ap Some same) ∙ lost)
  | inr other ↦ (let before : start_at lines to ≡ suc head = sym other.1 ∙ is in
      let below : head < to = omega (arith, start_below lines to, before) in
      elim (head_within lines (suc to) head to is (omega arith) (omega arith)) [
        | inl found ↦ behind_group lines to head (pairs_at lines front to) operand base found ∙ lost
        | inr none ↦
            behind_line lines to (pairs_at lines front to) operand base (none, omega arith)
            ∙ after_falls (pairs_at lines front to) (line_before lines to) (line_in lines to) operand base (leave to (omega arith) (omega arith) none)
            (pairs_lost lines front to head operand base before past (λ place low high. leave place low (omega arith)) lost)
      ])
]
