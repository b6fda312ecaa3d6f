-- Which values the phis of a block give.
use Rattle.std.proofs.Common.{◌≡◌, ◌∙◌, ℕ, cond, Bool, true, false, List, Option, Some, None, refl, ap, sym, length, nat_lt}
use Rattle.std.specs.Prelude.{◌==◌, ◌&&◌, MatchBool}
use Rattle.std.proofs.lemmas.Option.{same_Some}
use Rattle.ir_ast.specs.declared.ops.Operand.{Operand}
use Rattle.ir_ast.specs.Funcs.{Function}
use Rattle.object_meaning.specs.Jumps.{phi_count}
use Rattle.pair_facts.specs.Lines.{lines_at, named}
use Rattle.fact_tables.specs.declared.homes.Home.{Home}
use Rattle.fact_tables.specs.Homes.{home_at, home_in, KnowsHomes}
use Rattle.fact_tables.proofs.TableLemmas.{home_found}
use Rattle.base_facts.specs.Edges.{FindsPhi}
use Rattle.base_facts.proofs.EdgeLemmas.{along_other, finds_phi, finds_no_phi}
use Rattle.place_facts.specs.Phis.{IsOfPhi, IsLeft}

abbrev IsKnown : Function → ℕ → Operand → Bool → Type 0
IsKnown func block operand answer = MatchBool answer (IsOfPhi func block operand) (IsLeft (lines_at func block) operand)

found_phi : (func : Function) (homes : List (Option Home)) (block value : ℕ) (home : Home) (test : Bool) → KnowsHomes func (length func.blocks) 0 homes
    → home_in homes value ≡ Some home → FindsPhi (lines_at func block) value (cond test (Some home.place) None) → IsKnown func block (named value) test
found_phi func homes block value home true knows found is = record {
  value = value;
  at = home.place;
  is = refl;
  inside = is.inside;
  gives = is.gives;
  only = λ other place given.
      let own = same_Some (home_at other place) (home_at block home.place)
      (sym (home_found func homes other place value knows given) ∙ home_found func homes block home.place value knows is.gives) in
      ap (λ (h : Home). h.block) own;
}
found_phi func homes block value home false knows found is = λ from. along_other (lines_at func block) from value is

-- by the home of a value
pub home_phi : (func : Function) (homes : List (Option Home)) (block value : ℕ) (home : Home) → KnowsHomes func (length func.blocks) 0 homes
    → home_in homes value ≡ Some home → IsKnown func block (named value) (home.block == block && nat_lt home.place (phi_count (lines_at func block)))
home_phi func homes block value home knows found =
    found_phi func homes block value home (home.block == block && nat_lt home.place (phi_count (lines_at func block))) knows found
    (finds_phi func homes block value home knows found)

-- of a value without a home
pub no_phi : (func : Function) (homes : List (Option Home)) (block value : ℕ) → KnowsHomes func (length func.blocks) 0 homes → home_in homes value ≡ None
    → IsKnown func block (named value) false
no_phi func homes block value knows none = λ from. along_other (lines_at func block) from value (finds_no_phi func homes block value knows none)
