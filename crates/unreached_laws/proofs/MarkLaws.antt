-- Each source module has one without its unreached blocks: marks grow along edges until none leads out of them.
use Rattle.std.proofs.Common.{◌≡◌, ◌<◌, ◌+◌, ◌⊎◌, ℕ, zero, suc, Bool, true, false, not, List, [], ◌∷◌, length, set, replicate, Option, Some, None, slice_get, inl, inr, refl, sym, ◌∙◌, arith}
use Rattle.std.specs.List.{All, AllZip, count_by}
use Rattle.std.proofs.lemmas.Bool.{false≢true, cases_lt}
use Rattle.std.proofs.lemmas.List.{length-map, length-replicate, length-set}
use Rattle.std.proofs.lemmas.List.Elements.{All-head, All-tail}
use Rattle.std.proofs.lemmas.Option.{none-some, slice_get_within}
use Rattle.list_laws.proofs.Tests.{count_marked}
use Rattle.list_laws.proofs.Places.{get_filled, get_kept, get_replicate, get_set, get_some, get_written}
use Rattle.sp_ids.specs.declared.ids.BlockId.{BlockId}
use Rattle.graph_search.specs.Paths.{Marked}
use Rattle.ir_ast.specs.Edges.{targets}
use Rattle.ir_ast.specs.Formed.{IsFormed}
use Rattle.ir_ast.specs.Funcs.{Function}
use Rattle.ir_ast.specs.declared.modules.Form.TheVariants.{Source}
use Rattle.ir_cfg.specs.Graphs.{Graph, block_at, graph_of, succs_of}
use Rattle.ir_cfg.specs.Marks.{MarksReached}
use Rattle.ir_cfg.specs.Paths.{Path, Reached, along, at_entry}
use Rattle.ir_cfg.specs.Turned.{LeadsInside}
use Rattle.ir_cfg.specs.Unreached.{DropsUnreached, function_kept}
use Rattle.ir_cfg.proofs.GraphLemmas.{leads_inside}
use Rattle.ir_cfg.proofs.PathLemmas.{edge_inside, edge_within, reached_by}
use Rattle.ir_cfg.proofs.TypedLemmas.{formed_module}
use Rattle.unreached_laws.specs.Statements.{UnreachedCanBeDropped}

-- a number below a bound that passes a test is found by going through them
search_below : (P : ℕ → Type 0) → ((k : ℕ) → P k ⊎ (P k → ⊥)) → (n : ℕ) → ((k : ℕ) × P k) ⊎ ((k : ℕ) → k < n → P k → ⊥)
search_below P decide zero = inr (λ k below is. absurd (omega arith))
search_below P decide (suc n) = elim (decide n) [
  | inl is ↦ inl (n, is)
  | inr not_n ↦ elim (search_below P decide n) [
    | inl found ↦ inl found
    | inr none ↦ inr (λ k below is. elim (cases_lt k n) [
      | inl lower ↦ none k lower is
      | inr past ↦ (let same : k ≡ n = omega arith in not_n (rw same at is))
    ])
  ]
]

module _ (graph : Graph) where
  -- the edge with this number from a block leads to one without a mark
  record LeadsOut (marks : List Bool) (from number : ℕ) : Type 0 where
    pub to : ℕ
    pub leads : slice_get (succs_of graph from) number ≡ Some (block_at to)
    pub unmarked : slice_get marks to ≡ Some false

  record IsOpen (marks : List Bool) (from : ℕ) : Type 0 where
    pub marked : Marked marks from
    pub number : ℕ
    pub edge : LeadsOut marks from number

  leads_out : (marks : List Bool) (from number : ℕ) → LeadsOut marks from number ⊎ (LeadsOut marks from number → ⊥)
  leads_out marks from number = by (slice_get (succs_of graph from) number) refl
    where
      at : (label : BlockId) → slice_get (succs_of graph from) number ≡ Some label → (mark : Option Bool) → slice_get marks label.0 ≡ mark
          → LeadsOut marks from number ⊎ (LeadsOut marks from number → ⊥)
      at label is None unmarked = inr (λ out. let same : Some label ≡ Some (block_at out.to) = sym is ∙ out.leads in let e : label.0 ≡ out.to = cc in let bad : None ≡ Some false = cc in none-some false bad)
      at label is (Some true) unmarked = inr (λ out. let same : Some label ≡ Some (block_at out.to) = sym is ∙ out.leads in let e : label.0 ≡ out.to = cc in let bad : Some true ≡ Some false = cc in let b : false ≡ true = cc in false≢true b)
      at label is (Some false) unmarked = inl (record { to = label.0; leads = is; unmarked = unmarked })

      by : (label : Option BlockId) → slice_get (succs_of graph from) number ≡ label → LeadsOut marks from number ⊎ (LeadsOut marks from number → ⊥)
      by None is = inr (λ out. none-some (block_at out.to) (sym is ∙ out.leads))
      by (Some label) is = at label is (slice_get marks label.0) refl

  is_open : (marks : List Bool) (from : ℕ) → IsOpen marks from ⊎ (IsOpen marks from → ⊥)
  is_open marks from = by (slice_get marks from) refl
    where
      by : (mark : Option Bool) → slice_get marks from ≡ mark → IsOpen marks from ⊎ (IsOpen marks from → ⊥)
      by None is = inr (λ is_one. none-some true (sym is ∙ is_one.marked))
      by (Some false) is = inr (λ is_one. let bad : Some false ≡ Some true = sym is ∙ is_one.marked in let b : false ≡ true = cc in false≢true b)
      by (Some true) is = elim (search_below (LeadsOut marks from) (leads_out marks from) (length (succs_of graph from))) [
        | inl found ↦ inl (record { marked = is; number = found.0; edge = found.1 })
        | inr none ↦ inr (λ is_one. none is_one.number (slice_get_within (succs_of graph from) is_one.number (block_at is_one.edge.to) is_one.edge.leads) is_one.edge)
      ]

  module _ (inside : LeadsInside graph) where
    -- marks that no edge leads out of are on all that is reached
    closed_all : (marks : List Bool) → length marks ≡ length graph → Marked marks 0 → ((from : ℕ) → from < length graph → IsOpen marks from → ⊥)
        → (blocks : List ℕ) (block : ℕ) → Path graph blocks block → Marked marks block
    closed_all marks whole first closed _ _ at_entry = first
    closed_all marks whole first closed _ _ (along blocks from to path edge) = by (closed_all marks whole first closed blocks from path) found.0 found.1
      where
        within : to < length marks
        within = let below = edge_inside graph from to inside edge in omega arith

        found : (x : Bool) × (slice_get marks to ≡ Some x)
        found = get_some marks to within

        by : Marked marks from → (mark : Bool) → slice_get marks to ≡ Some mark → Marked marks to
        by here true is = is
        by here false is =
            absurd (closed from (edge_within graph from to edge) (record {
              marked = here;
              number = edge.number;
              edge = record { to = to; leads = edge.leads; unmarked = is };
            }))

    grow : (fuel : ℕ) (marks : List Bool) → length marks ≡ length graph → Marked marks 0 → ((block : ℕ) → Marked marks block → Reached graph block)
        → count_by not marks < fuel → (all : List Bool) × MarksReached graph all
    grow zero marks whole first sound few = absurd (omega arith)
    grow (suc fuel) marks whole first sound few = elim (search_below (IsOpen marks) (is_open marks) (length graph)) [
      | inl outward ↦ (let edge = outward.1.edge in
          let count = count_marked marks edge.to edge.unmarked in
          grow fuel (set marks edge.to true) (length-set marks edge.to true ∙ whole) (get_kept marks edge.to 0 true first)
          (λ block is. elim (get_set marks edge.to block true true is) [
            | inl old ↦ sound block old.1
            | inr new ↦ (let there : Reached graph edge.to = reached_by graph outward.0 edge.to (sound outward.0 outward.1.marked) (record { number = outward.1.number; leads = edge.leads }) in
                rw (new.0) there)
          ])
          (omega (arith, count)))
      | inr closed ↦ (
        marks,
        record {
          whole = whole;
          sound = sound;
          complete = λ block reached. closed_all marks whole first closed reached.0 block reached.1;
        },
      )
    ]

    marks_of : 0 < length graph → (all : List Bool) × MarksReached graph all
    marks_of some =
        let none : List Bool = replicate (length graph) false in
        let marks : List Bool = set none 0 true in
        grow (suc (count_by not marks)) marks (length-set none 0 true ∙ length-replicate (length graph) false)
        (get_written none 0 false true (get_replicate (length graph) 0 false some))
        (λ block is. elim (get_set none 0 block true true is) [
          | inl old ↦ absurd (false≢true (sym (get_filled (length graph) false block true old.1)))
          | inr new ↦ (let first : Reached graph 0 = (0 ∷ [], at_entry) in rw (new.0) first)
        ])
        (omega arith)

drops_unreached : (func : Function) → IsFormed func → (after : Function) × DropsUnreached func after
drops_unreached func formed =
    let some : 0 < length (graph_of func) = omega (arith, formed.has_block, length-map func.blocks targets) in
    let found = marks_of (graph_of func) (leads_inside func formed.known) some in
    (function_kept found.0 func, record { marks = found.0; reached = found.1; rest = refl })

all_dropped : (funcs : List Function) → All IsFormed funcs → (after : List Function) × AllZip DropsUnreached funcs after
all_dropped [] formed = ([], tt)
all_dropped (func ∷ funcs) formed =
    let first = drops_unreached func (All-head IsFormed func funcs formed) in
    let rest = all_dropped funcs (All-tail IsFormed func funcs formed) in
    (first.0 ∷ rest.0, (first.1, rest.1))

pub unreached_can_be_dropped : UnreachedCanBeDropped
unreached_can_be_dropped content source =
    let all = all_dropped content.funcs (formed_module Source content source.typed).formed in
    (record content { funcs = all.0 }, record { layouts = refl; form = refl; functions = all.1 })
