-- The phi of a block that gives a value, and what the value was along an edge.
use Rattle.std.proofs.Common.{◌≡◌, ◌∙◌, inl, inr, ℕ, zero, suc, ◌<◌, ◌≤◌, cond, Bool, true, List, [], ◌∷◌, Option, Some, None, refl, ap, sym, subst, length, arith, take, nat_lt}
use Rattle.std.specs.Prelude.{◌==◌, ◌&&◌}
use Rattle.std.proofs.lemmas.Bool.{false≢true, cases_Bool, eqb-true, eq-eqb, ltb-true, lt-ltb, and_parts, and_from}
use Rattle.std.proofs.lemmas.List.Sums.{prefix_len-le-length}
use Rattle.std.proofs.lemmas.Option.{none-some, same_Some}
use Rattle.ir_ast.specs.Funcs.{Function}
use Rattle.ir_ast.specs.Faults.PhiEdges.{is_phi}
use Rattle.object_meaning.specs.Lines.{Line}
use Rattle.object_meaning.specs.Jumps.{phi_count}
use Rattle.pair_facts.specs.Lines.{lines_at, line_in, phis_in, named}
use Rattle.pair_facts.specs.Pairs.{incoming, value_along}
use Rattle.pair_facts.proofs.GroupLaws.{gives_is, not_given}
use Rattle.fact_tables.specs.declared.homes.Home.{Home}
use Rattle.fact_tables.specs.Homes.{GivesAt, home_at, home_in, KnowsHomes}
use Rattle.base_facts.specs.Edges.{IsPhiOf, FindsPhi, place_below}
use Rattle.fact_tables.proofs.TableLemmas.{home_found, given_once}

-- the first lines of which only one gives the value
along_only : (lines : List Line) (count from value at : ℕ) → at < count → count ≤ length lines → (line_in lines at).to ≡ Some value
    → ((other : ℕ) → (line_in lines other).to ≡ Some value → other ≡ at) → value_along from (take count lines) value ≡ incoming from (line_in lines at).inst
along_only lines zero from value at below within is only = absurd (omega arith)
along_only [] (suc count) from value at below within is only = absurd (omega arith)
along_only (line ∷ lines) (suc count) from value zero below within is only =
    ap (λ b. cond b (incoming from line.inst) (value_along from (take count lines) value)) (gives_is line value is)
along_only (line ∷ lines) (suc count) from value (suc at) below within is only =
    ap (λ b. cond b (incoming from line.inst) (value_along from (take count lines) value)) (not_given line value (λ own. let same = only 0 own in absurd (omega (arith, same))))
    ∙ along_only lines count from value at (omega arith) (omega arith) is (λ other there. let same = only (suc other) there in omega (arith, same))

along_none : (lines : List Line) (count from value : ℕ) → ((at : ℕ) → at < count → (line_in lines at).to ≡ Some value → ⊥) → value_along from (take count lines) value ≡ named value
along_none lines zero from value none = refl
along_none [] (suc count) from value none = refl
along_none (line ∷ lines) (suc count) from value none =
    ap (λ b. cond b (incoming from line.inst) (value_along from (take count lines) value)) (not_given line value (λ own. none 0 (omega arith) own))
    ∙ along_none lines count from value (λ at below own. none (suc at) (omega arith) own)

pub along_phi : (lines : List Line) (from value at : ℕ) → IsPhiOf lines value at → value_along from (phis_in lines) value ≡ incoming from (line_in lines at).inst
along_phi lines from value at is =
    along_only lines (phi_count lines) from value at is.inside (prefix_len-le-length (λ (l : Line). is_phi l.inst.op) lines) is.gives is.only

pub along_other : (lines : List Line) (from value : ℕ) → FindsPhi lines value None → value_along from (phis_in lines) value ≡ named value
along_other lines from value none = along_none lines (phi_count lines) from value none

pub finds_phi : (func : Function) (homes : List (Option Home)) (block value : ℕ) (home : Home) → KnowsHomes func (length func.blocks) 0 homes
    → home_in homes value ≡ Some home → FindsPhi (lines_at func block) value (place_below home block (phi_count (lines_at func block)))
finds_phi func homes block value home knows found = elim (cases_Bool test) [
  | inl holds ↦
      (let two = and_parts (home.block == block) (nat_lt home.place (phi_count (lines_at func block))) holds in
      let own : GivesAt func block home.place value = subst (λ (b : ℕ). GivesAt func b home.place value) (eqb-true home.block block two.0) (knows.sound value home found) in
      let is : IsPhiOf (lines_at func block) value home.place = record {
        inside = ltb-true home.place (phi_count (lines_at func block)) two.1;
        gives = own;
        only = λ other again. given_once func homes block home.place other value knows own again;
      } in
      subst (λ (b : Bool). FindsPhi (lines_at func block) value (cond b (Some home.place) None)) (sym holds) is)
  | inr fails ↦ subst (λ (b : Bool). FindsPhi (lines_at func block) value (cond b (Some home.place) None)) (sym fails)
      (λ at below given.
      let same = same_Some home (home_at block at) (sym found ∙ home_found func homes block at value knows given) in
      let place_is : home.place ≡ at = ap (λ (h : Home). h.place) same in
      let found_too : test ≡ true = and_from (home.block == block) (nat_lt home.place (phi_count (lines_at func block)))
      (eq-eqb home.block block (ap (λ (h : Home). h.block) same)) (lt-ltb home.place (phi_count (lines_at func block)) (omega (arith, below, place_is))) in
      false≢true (sym fails ∙ found_too))
]
  where
    test : Bool
    test = home.block == block && nat_lt home.place (phi_count (lines_at func block))

pub finds_no_phi : (func : Function) (homes : List (Option Home)) (block value : ℕ) → KnowsHomes func (length func.blocks) 0 homes
    → home_in homes value ≡ None → FindsPhi (lines_at func block) value None
finds_no_phi func homes block value knows none = λ at below given. none-some (home_at block at) (sym none ∙ home_found func homes block at value knows given)
