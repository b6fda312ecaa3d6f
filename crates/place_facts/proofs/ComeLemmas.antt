-- What stands before the phis of a block, beside what stands behind them; and that on the path that comes to the block first
-- nothing stands of what they give.
use Rattle.std.proofs.Common.{◌≡◌, ◌∙◌, ◌⊎◌, inl, inr, ℕ, zero, suc, ◌≤◌, cond, Bool, true, false, List, [], ◌∷◌, Option, Some, None, refl, ap, sym, subst, slice_get, length, arith}
use Rattle.std.specs.Prelude.{◌&&◌, slice_index, is_some}
use Rattle.std.specs.Option.{option_map_or}
use Rattle.std.proofs.lemmas.Bool.{false≢true, cases_Bool, cases_eq, cases_lt}
use Rattle.std.proofs.lemmas.List.{get_or_past}
use Rattle.std.proofs.lemmas.Option.{none-some, same_Some, slice_get_past}
use Rattle.ir_ast.specs.declared.ops.Operand.{Operand}
use Rattle.ir_ast.specs.declared.funcs.Arg.{Arg}
use Rattle.ir_ast.specs.Blocks.{BasicBlock}
use Rattle.ir_ast.specs.Insts.{Instruction}
use Rattle.ir_ast.specs.Funcs.{Function}
use Rattle.ir_ast.specs.Types.{is_pointer}
use Rattle.ir_cfg.specs.Graphs.{graph_of, Edge}
use Rattle.object_meaning.specs.Lines.{Line, following, after_all, first_registers}
use Rattle.object_meaning.specs.TargetRuns.{plain_lines}
use Rattle.object_meaning.specs.Frames.{is_member}
use Rattle.object_meaning.proofs.LineLaws.{after_up}
use Rattle.pair_facts.specs.declared.bases.Base.{Base}
use Rattle.pair_facts.specs.declared.bases.Base.TheVariants.{Any, Named}
use Rattle.pair_facts.specs.Lines.{lines_at, line_in, no_line, phis_in, named}
use Rattle.pair_facts.specs.Pairs.{Pairs, at_entry, own_pairs, base_along, on_edge}
use Rattle.pair_facts.specs.Paths.{pairs_at_end, Arrives, start, went}
use Rattle.pair_facts.specs.Segments.{start_at}
use Rattle.pair_facts.proofs.FreshLaws.{IsSound, arrives_sound, pairs_sound}
use Rattle.pair_facts.proofs.OwnLaws.{Own, arrives_own, own_along}
use Rattle.pair_facts.proofs.PlaceLaws.{pairs_from_front}
use Rattle.fact_tables.specs.Homes.{GivesAt}
use Rattle.base_facts.proofs.SettleLemmas.{before_group, value_lost}
use Rattle.base_facts.proofs.EdgeLemmas.{along_other}
use Rattle.base_facts.proofs.SourceLemmas.{value_leaves}
use Rattle.place_facts.specs.Before.{Comes, entry, edge}
use Rattle.place_facts.specs.Phis.{IsOfPhi, IsBaseOfPhi, IsLeft, IsBaseLeft}

-- ---- a pair of which no phi gives a part

edge_same : (lines : List Line) (from : ℕ) (pairs : Pairs) (operand : Operand) (base : Base) → IsLeft lines operand → IsBaseLeft lines base
    → on_edge from (phis_in lines) pairs operand base ≡ pairs operand base
edge_same lines from pairs operand base left base_left =
    ap (λ (o : Operand). pairs o (base_along from (phis_in lines) base)) (left from) ∙ ap (pairs operand) (base_left from)

module _ (func : Function) (operand : Operand) (base : Base) where
  -- what a path has behind the phis of the block, of the pair the same as before them
  pub record IsBehind (block : ℕ) (pairs : Pairs) : Type 0 where
    pub front : Pairs
    pub arrives : Arrives func block front
    pub same : pairs operand base ≡ front operand base

  pub come_behind : (block : ℕ) (pairs : Pairs) → IsLeft (lines_at func block) operand → IsBaseLeft (lines_at func block) base → Comes func block pairs
      → IsBehind block pairs
  come_behind _ _ left base_left entry = record { front = at_entry func; arrives = start; same = refl }
  come_behind _ _ left base_left (edge from to front arrives leads) = record {
    front = on_edge from (phis_in (lines_at func to)) (pairs_at_end (lines_at func from) front);
    arrives = went from to front arrives leads;
    same = sym (edge_same (lines_at func to) from (pairs_at_end (lines_at func from) front) operand base left base_left);
  }

  -- what it has before them, of the pair the same as behind them
  pub record IsAhead (block : ℕ) (front : Pairs) : Type 0 where
    pub pairs : Pairs
    pub comes : Comes func block pairs
    pub same : pairs operand base ≡ front operand base

  pub come_ahead : (block : ℕ) (front : Pairs) → IsLeft (lines_at func block) operand → IsBaseLeft (lines_at func block) base → Arrives func block front
      → IsAhead block front
  come_ahead _ _ left base_left start = record { pairs = at_entry func; comes = entry; same = refl }
  come_ahead _ _ left base_left (went from to front arrives leads) = record {
    pairs = pairs_at_end (lines_at func from) front;
    comes = edge from to front arrives leads;
    same = sym (edge_same (lines_at func to) from (pairs_at_end (lines_at func from) front) operand base left base_left);
  }

pub come_sound : (func : Function) (block : ℕ) (pairs : Pairs) → Comes func block pairs → IsSound pairs
come_sound func _ _ entry = arrives_sound func 0 (at_entry func) start
come_sound func _ _ (edge from to front arrives leads) = pairs_sound (lines_at func from) front (length (lines_at func from)) (arrives_sound func from front arrives)

come_own : (func : Function) (block : ℕ) (pairs : Pairs) → Comes func block pairs → Own pairs
come_own func _ _ entry = arrives_own func 0 (at_entry func) start
come_own func _ _ (edge from to front arrives leads) = own_along func from (length (lines_at func from)) front arrives

-- ---- lines give no argument

to_high : (next : ℕ) (insts : List Instruction) (place value : ℕ) → (line_in (plain_lines next insts) place).to ≡ Some value → next ≤ value
to_high next [] zero value is = absurd (none-some value is)
to_high next [] (suc place) value is = absurd (none-some value is)
to_high next (first ∷ insts) zero value is = by (is_some first.result) is
  where
    by : (b : Bool) → cond b (Some next) None ≡ Some value → next ≤ value
    by true own = omega (arith, same_Some next value own)
    by false none = absurd (none-some value none)
to_high next (first ∷ insts) (suc place) value is = let up : next ≤ following next first = after_up next (first ∷ []) in omega (arith, up, to_high (following next first) insts place value is)

register_high : (next : ℕ) (blocks : List BasicBlock) (block place value : ℕ)
    → (line_in (plain_lines (slice_index (first_registers next blocks) block) (option_map_or (λ (b : BasicBlock). b.insts) (slice_get blocks block) [])) place).to ≡ Some value → next ≤ value
register_high next [] zero zero value is = absurd (none-some value is)
register_high next [] zero (suc place) value is = absurd (none-some value is)
register_high next [] (suc block) zero value is = absurd (none-some value is)
register_high next [] (suc block) (suc place) value is = absurd (none-some value is)
register_high next (first ∷ blocks) zero place value is = to_high next first.insts place value is
register_high next (first ∷ blocks) (suc block) place value is =
    omega (arith, after_up next first.insts, register_high (after_all next first.insts) blocks block place value is)

not_at_entry : (func : Function) (block place value : ℕ) (base : Base) → GivesAt func block place value → at_entry func (named value) base ≡ false
not_at_entry func block place value base gives =
    ap (λ (found : Option Arg). option_map_or (λ (arg : Arg). is_pointer arg.ty) found false && own_pairs value base)
    (slice_get_past func.args value (register_high (length func.args) func.blocks block place value gives))

-- ---- the path that comes to the block first

-- a block that doesn't give a value leaves it missed
end_missed : (func : Function) (block value : ℕ) (front : Pairs) → ((place : ℕ) → GivesAt func block place value → ⊥) → front (named value) Any ≡ false
    → pairs_at_end (lines_at func block) front (named value) Any ≡ false
end_missed func block value front none missed =
    let lines = lines_at func block in
    let outside : is_member (line_in lines (length lines)).inst.op ≡ false = ap (λ (l : Line). is_member l.inst.op) (get_or_past lines (length lines) no_line (omega arith)) in
    elim (cases_lt 0 (start_at lines (length lines))) [
      | inl some ↦ before_group lines front (length lines) (named value) Any some
          (λ at low high. value_leaves (line_in lines at) value (none at))
          (λ head is. value_lost lines (length lines) value head Any outside is (λ at low high given. none at given))
      | inr plain ↦ pairs_from_front lines front (length lines) (named value) Any (omega (arith, plain))
          (λ place past low. (value_leaves (line_in lines place) value (none place), λ given is. refl))
          ∙ missed
    ]

module _ (func : Function) (block value : ℕ) (only : (other place : ℕ) → GivesAt func other place value → other ≡ block)
    (fresh : at_entry func (named value) Any ≡ false) where
  -- a path comes to the block with no pair of the value
  pub record ComesFirst : Type 0 where
    pub pairs : Pairs
    pub comes : Comes func block pairs
    pub missed : pairs (named value) Any ≡ false

  first_to : (from to : ℕ) (front : Pairs) → Arrives func from front → Edge (graph_of func) from to → (from ≡ block → ⊥) → front (named value) Any ≡ false
      → ComesFirst ⊎ ((to ≡ block → ⊥) × (on_edge from (phis_in (lines_at func to)) (pairs_at_end (lines_at func from) front) (named value) Any ≡ false))
  first_to from to front arrives leads apart missed =
      let at_end = end_missed func from value front (λ place gives. apart (only from place gives)) missed in
      elim (cases_eq to block) [
        | inl same ↦ inl (record {
          pairs = pairs_at_end (lines_at func from) front;
          comes = subst (λ (b : ℕ). Comes func b (pairs_at_end (lines_at func from) front)) same (edge from to front arrives leads);
          missed = at_end;
        })
        | inr other ↦ inr (
          other,
          ap (λ (o : Operand). pairs_at_end (lines_at func from) front o Any) (along_other (lines_at func to) from value (λ at below gives. other (only to at gives))) ∙ at_end,
        )
      ]

  first_along : (at : ℕ) (front : Pairs) → Arrives func at front → ComesFirst ⊎ ((at ≡ block → ⊥) × (front (named value) Any ≡ false))
  first_along _ _ start = elim (cases_eq 0 block) [
    | inl same ↦ inl (record { pairs = at_entry func; comes = subst (λ (b : ℕ). Comes func b (at_entry func)) same entry; missed = fresh })
    | inr other ↦ inr (other, fresh)
  ]
  first_along _ _ (went from to front arrives leads) = elim (first_along from front arrives) [
    | inl found ↦ inl found
    | inr before ↦ first_to from to front arrives leads before.0 before.1
  ]

  comes_first : (front : Pairs) → Arrives func block front → ComesFirst
  comes_first front arrives = elim (first_along block front arrives) [
    | inl found ↦ found
    | inr other ↦ absurd (other.0 refl)
  ]

-- the pair is missed before the phis on some path
pub record IsMissed (func : Function) (block : ℕ) (operand : Operand) (base : Base) : Type 0 where
  pub pairs : Pairs
  pub comes : Comes func block pairs
  pub missed : pairs operand base ≡ false

pub phi_missed : (func : Function) (block : ℕ) (operand : Operand) (base : Base) (front : Pairs) → IsOfPhi func block operand → Arrives func block front
    → IsMissed func block operand base
phi_missed func block operand base front own arrives =
    let first = comes_first func block own.value own.only (not_at_entry func block own.at own.value Any own.gives) front arrives in
    record {
      pairs = first.pairs;
      comes = first.comes;
      missed = elim (cases_Bool (first.pairs operand base)) [
        | inl holds ↦ absurd (false≢true (sym first.missed ∙ (come_sound func block first.pairs first.comes).fresh (named own.value) base
            (subst (λ (o : Operand). first.pairs o base ≡ true) own.is holds)))
        | inr none ↦ none
      ];
    }

pub phi_base_missed : (func : Function) (block : ℕ) (operand : Operand) (base : Base) (front : Pairs) → IsBaseOfPhi func block base → Arrives func block front
    → IsMissed func block operand base
phi_base_missed func block operand Any front own arrives = absurd own
phi_base_missed func block operand (Named base) front own arrives =
    let first = comes_first func block own.value own.only (not_at_entry func block own.at own.value Any own.gives) front arrives in
    record {
      pairs = first.pairs;
      comes = first.comes;
      missed = elim (cases_Bool (first.pairs operand (Named base))) [
        | inl holds ↦ absurd (false≢true (sym first.missed ∙ (come_sound func block first.pairs first.comes).fresh (named own.value) (Named (named own.value))
            (come_own func block first.pairs first.comes operand own.value (subst (λ (o : Operand). first.pairs operand (Named o) ≡ true) own.is holds))))
        | inr none ↦ none
      ];
    }
