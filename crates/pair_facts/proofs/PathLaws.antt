-- A path of a front is a path to its block, and how the pairs change behind each line.
use Rattle.std.proofs.Common.{◌≡◌, ◌∙◌, ℕ, zero, suc, ◌+◌, ◌<◌, ◌≤◌, cond, Bool, nat_lt, List, [], ◌∷◌, Option, Some, None, refl, ap, arith}
use Rattle.std.specs.Option.{option_map_or}
use Rattle.std.proofs.lemmas.Bool.{le-ltb, lt-ltb}
use Rattle.std.proofs.lemmas.List.Sums.{prefix_len_passes}
use Rattle.ir_ast.specs.Funcs.{Function}
use Rattle.ir_ast.specs.Faults.GroupShape.{entries_of}
use Rattle.ir_ast.specs.Faults.PhiEdges.{is_phi}
use Rattle.ir_ast.proofs.OpLaws.{phi_outside}
use Rattle.ir_cfg.specs.Graphs.{graph_of}
use Rattle.ir_cfg.specs.Paths.{Reached, at_entry}
use Rattle.ir_cfg.proofs.PathLemmas.{reached_by}
use Rattle.object_meaning.specs.Lines.{Line}
use Rattle.object_meaning.specs.Jumps.{phi_count}
use Rattle.pair_facts.specs.Lines.{group_in, head_at, line_before, line_in, no_line}
use Rattle.pair_facts.specs.Pairs.{Pairs, after, after_group}
use Rattle.pair_facts.specs.Paths.{Arrives, behind, pairs_at, start, went}
use Rattle.pair_facts.proofs.OwnLaws.{head_none}

pub arrives_reached : (func : Function) (block : ℕ) (front : Pairs) → Arrives func block front → Reached (graph_of func) block
arrives_reached func _ _ start = (0 ∷ [], at_entry)
arrives_reached func _ _ (went from to front arrives edge) = reached_by (graph_of func) from to (arrives_reached func from front arrives) edge

-- ---- behind a line

abbrev otherwise : List Line → ℕ → Pairs → Pairs
otherwise lines place pairs = cond (nat_lt place (phi_count lines)) pairs (after pairs (line_before lines place) (line_in lines place))

pub behind_grouped : (lines : List Line) (place head : ℕ) (pairs : Pairs) → head_at lines place ≡ Some head
    → behind lines place pairs ≡ after_group (entries_of (line_in lines head).inst) (group_in lines head)
behind_grouped lines place head pairs is =
    ap (λ (found : Option ℕ). option_map_or (λ (head : ℕ). after_group (entries_of (line_in lines head).inst) (group_in lines head)) found (otherwise lines place pairs)) is

pub behind_phi : (lines : List Line) (place : ℕ) (pairs : Pairs) → head_at lines place ≡ None → place < phi_count lines → behind lines place pairs ≡ pairs
behind_phi lines place pairs is below =
    ap (λ (found : Option ℕ). option_map_or (λ (head : ℕ). after_group (entries_of (line_in lines head).inst) (group_in lines head)) found (otherwise lines place pairs)) is
    ∙ ap (λ (t : Bool). cond t pairs (after pairs (line_before lines place) (line_in lines place))) (lt-ltb place (phi_count lines) below)

pub behind_plain : (lines : List Line) (place : ℕ) (pairs : Pairs) → head_at lines place ≡ None → phi_count lines ≤ place
    → behind lines place pairs ≡ after pairs (line_before lines place) (line_in lines place)
behind_plain lines place pairs is le =
    ap (λ (found : Option ℕ). option_map_or (λ (head : ℕ). after_group (entries_of (line_in lines head).inst) (group_in lines head)) found (otherwise lines place pairs)) is
    ∙ ap (λ (t : Bool). cond t pairs (after pairs (line_before lines place) (line_in lines place))) (le-ltb place (phi_count lines) le)

-- phis have acted on the edge
pub front_stays : (lines : List Line) (front : Pairs) (place : ℕ) → place ≤ phi_count lines → pairs_at lines front place ≡ front
front_stays lines front zero within = refl
front_stays lines front (suc place) within =
    let passes = prefix_len_passes (λ (line : Line). is_phi line.inst.op) lines place no_line (omega (arith, within)) in
    let apart = phi_outside (line_in lines place).inst.op passes in
    behind_phi lines place (pairs_at lines front place) (head_none lines place apart.0 apart.1) (omega (arith, within))
    ∙ front_stays lines front place (omega (arith, within))
