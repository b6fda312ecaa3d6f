-- The edges of a function, as predecessors and as labels of terminators.
use Rattle.std.proofs.Common.{◌≡◌, ℕ, zero, suc, ◌+◌, ◌<◌, ◌≤◌, Bool, true, eqb, ◌||◌, if◌then◌else◌, List, [], ◌∷◌, ◌++◌, length, map, replicate, refl, sym, ap, subst, ◌∙◌, inl, inr, arith}
use Rattle.std.specs.Prelude.{Option, Some, None, slice_get}
use Rattle.std.specs.List.{flat_map, range_with_len}
use Rattle.std.specs.Option.{option_map_or}
use Rattle.std.proofs.lemmas.Bool.{cases_eq, eq-eqb, eqb-true, or_left, or_right}
use Rattle.std.proofs.lemmas.List.Folds.{list_any-append}
use Rattle.list_laws.proofs.Contents.{contains_get, get_contained, joined_contains}
use Rattle.list_laws.proofs.Places.{map_back}
use Rattle.sp_ids.specs.declared.ids.BlockId.{BlockId}
use Rattle.ir_ast.specs.Insts.{Instruction}
use Rattle.ir_ast.specs.Blocks.{BasicBlock}
use Rattle.ir_ast.specs.Edges.{count_of, edges, targets}
use Rattle.ir_ast.specs.Funcs.{Function}
use Rattle.ir_ast.specs.Ops.{is_terminator}
use Rattle.ir_cfg.specs.DefiniteUses.{Stands}
use Rattle.ir_cfg.specs.Graphs.{block_at, graph_of, succs_of}
use Rattle.ir_cfg.specs.Graphs as graphs
use Rattle.ir_cfg.proofs.KeepsCounts.{count_found, count_some}
use Rattle.ir_cfg.proofs.KeepsPaths.{succs_at}
use Rattle.ir_cfg.proofs.PathLemmas.{edge_within}
use Rattle.rewriting_forms.specs.Numbered.{among, succs}
use Rattle.rewriting_laws.specs.Laws.{Edge}
use Rattle.rewriting_laws.proofs.LiveExact.{any_found}
use Rattle.rewriting_laws.proofs.LiveLaws.{edge_succs}

abbrev label_number : BlockId → ℕ
label_number label = label.0

map_split : (xs ys : List BlockId) → map label_number (xs ++ ys) ≡ map label_number xs ++ map label_number ys
map_split [] ys = refl
map_split (x ∷ xs) ys = ap (λ (zs : List ℕ). x.0 ∷ zs) (map_split xs ys)

among_repeat : (x n : ℕ) → 0 < n → among x (map label_number (replicate n (block_at x))) ≡ true
among_repeat x zero some = absurd (omega arith)
among_repeat x (suc n) some = or_left (eqb x x) (among x (map label_number (replicate n (block_at x)))) (eq-eqb x x refl)

among_counted : (g : ℕ → ℕ) (from count x : ℕ) → from ≤ x → x < from + count → 0 < g x
    → among x (map label_number (flat_map (λ (p : ℕ). replicate (g p) (block_at p)) (range_with_len from count))) ≡ true
among_counted g from zero x le below some = absurd (omega arith)
among_counted g from (suc count) x le below some =
    ap (among x) (map_split (replicate (g from) (block_at from)) (flat_map (λ (p : ℕ). replicate (g p) (block_at p)) (range_with_len (from + 1) count)))
    ∙ (list_any-append (λ y. eqb y x) (map label_number (replicate (g from) (block_at from))) (map label_number (flat_map (λ (p : ℕ). replicate (g p) (block_at p)) (range_with_len (from + 1) count)))
    ∙ by (λ later. among_counted g (from + 1) count x later (omega arith) some))
  where
    by : (from + 1 ≤ x → among x (map label_number (flat_map (λ (p : ℕ). replicate (g p) (block_at p)) (range_with_len (from + 1) count))) ≡ true)
        → (among x (map label_number (replicate (g from) (block_at from))) || among x (map label_number (flat_map (λ (p : ℕ). replicate (g p) (block_at p)) (range_with_len (from + 1) count)))) ≡ true
    by further = elim (cases_eq from x) [
      | inl e ↦
          or_left (among x (map label_number (replicate (g from) (block_at from)))) (among x (map label_number (flat_map (λ (p : ℕ). replicate (g p) (block_at p)) (range_with_len (from + 1) count))))
          (subst (λ (n : ℕ). among x (map label_number (replicate (g n) (block_at n))) ≡ true) (sym e) (among_repeat x (g x) some))
      | inr ne ↦
          or_right (among x (map label_number (replicate (g from) (block_at from)))) (among x (map label_number (flat_map (λ (p : ℕ). replicate (g p) (block_at p)) (range_with_len (from + 1) count))))
          (further (omega (arith, ne)))
    ]

module _ (func : Function) where
  pub edge_to : (from to : ℕ) → graphs.Edge (graph_of func) from to → Edge func from to
  edge_to from to edge =
      let within = edge_within (graph_of func) from to edge in
      among_counted (λ p. count_of to (succs_of (graph_of func) p)) 0 (length (graph_of func)) from (omega arith) (omega arith)
      (count_some to (succs_of (graph_of func) from) edge.number (block_at to) edge.leads refl)

  pub edge_from : (from to : ℕ) → Edge func from to → graphs.Edge (graph_of func) from to
  edge_from from to edge =
      let at = any_found (λ (x : ℕ). eqb x to) (succs func from) (edge_succs func from to edge) in
      let one = map_back label_number (succs_of (graph_of func) from) at.0 at.1 at.2 in
      let same : (one.before).0 ≡ to = sym one.is ∙ eqb-true at.1 to at.3 in
      record { number = at.0; leads = one.stands ∙ ap (λ (n : ℕ). Some (block_at n)) same }

  -- a label of a terminator
  pub label_edge : (b k place : ℕ) (inst : Instruction) (label : BlockId) → Stands func b k inst → is_terminator inst.op ≡ true → slice_get inst.labels place ≡ Some label
      → graphs.Edge (graph_of func) b label.0
  label_edge b k place inst label stands ends at =
      let own = ap (λ (t : Bool). if t then inst.labels else []) ends in
      let has = joined_contains (λ (i : Instruction). if is_terminator i.op then i.labels else []) stands.block.insts inst label (contains_get stands.block.insts k inst stands.in_block)
      (contains_get (if is_terminator inst.op then inst.labels else []) place label (ap (λ (ls : List BlockId). slice_get ls place) own ∙ at)) in
      let found = get_contained (targets stands.block) label has in
      record { number = found.0; leads = ap (λ (ls : List BlockId). slice_get ls found.0) (succs_at func b stands.block stands.in_function) ∙ found.1 }

  pub counted_edge : (from to : ℕ) → 0 < edges func from to → graphs.Edge (graph_of func) from to
  counted_edge from to some = by (slice_get func.blocks from) refl some
    where
      by : (here : Option BasicBlock) → slice_get func.blocks from ≡ here → 0 < option_map_or (λ block. count_of to (targets block)) here 0 → graphs.Edge (graph_of func) from to
      by None none some = absurd (omega arith)
      by (Some block) found some =
          let one = count_found to (targets block) some in
          record {
            number = one.0;
            leads = ap (λ (ls : List BlockId). slice_get ls one.0) (succs_at func from block found) ∙ (one.2 ∙ ap (λ (n : ℕ). Some (block_at n)) one.3);
          }
