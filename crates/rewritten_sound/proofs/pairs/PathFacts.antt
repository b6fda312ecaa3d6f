-- On every path to a place of the rewritten function each live pointer has its pair there.
use Rattle.std.proofs.Common.{◌≡◌, ℕ, zero, suc, ◌+◌, ◌-◌, ◌≤◌, true, false, ◌&&◌, List, length, refl, sym, ap, subst, ◌∙◌, inl, inr, arith}
use Rattle.std.specs.Prelude.{Some, slice_get}
use Rattle.std.proofs.lemmas.Bool.{and_from, cases_Bool, cases_lt, eq-eqb}
use Rattle.std.proofs.lemmas.List.{length-map}
use Rattle.std.proofs.lemmas.List.Sums.{prefix_len-le-length}
use Rattle.list_laws.proofs.Places.{get_some}
use Rattle.ir_ast.specs.declared.ops.Callee.{Callee}
use Rattle.ir_ast.specs.declared.ops.Op.TheVariants.{Call}
use Rattle.ir_ast.specs.declared.ops.Operand.{Operand}
use Rattle.ir_ast.specs.declared.ops.Operand.TheVariants.{Value, Int, Null, Fun}
use Rattle.ir_ast.specs.declared.types.Ty.{Ty}
use Rattle.ir_ast.specs.Callees.{is_leaf}
use Rattle.ir_ast.specs.Blocks.{BasicBlock}
use Rattle.ir_ast.specs.Funcs.{Function}
use Rattle.ir_ast.specs.Faults.GroupShape.{entries_of}
use Rattle.ir_ast.specs.Faults.PhiEdges.{is_phi}
use Rattle.ir_cfg.specs.Graphs.{Graph}
use Rattle.ir_cfg.specs.Graphs as graphs
use Rattle.object_meaning.specs.Jumps.{phi_count}
use Rattle.object_meaning.specs.Lines.{Line}
use Rattle.rewriting_forms.specs.Numbered.{among, base_at, is_call, lines_at, named, pointers}
use Rattle.rewriting_forms.specs.Liveness.{live_table}
use Rattle.rewriting_forms.specs.Names.{Name, Naming, names_at, names_at_end}
use Rattle.rewriting_forms.specs.Rewritten.{group, plain, renamed, statepoint}
use Rattle.rewriting_laws.specs.Laws.{Edge, Fits, IsNumbering, IsPlain}
use Rattle.rewriting_laws.proofs.NameLemmas.{call_or_not, is_none, is_one}
use Rattle.rewritten_sound.proofs.definite.EdgeLaws.{edge_to}
use Rattle.rewritten_sound.proofs.definite.NowLaws.{graph_now, lines_now_are, now, number, pieces}
use Rattle.rewritten_sound.proofs.definite.PieceLaws.{whole_length}
use Rattle.rewritten_sound.proofs.definite.UsedLaws.{edge_block}
use Rattle.pair_facts.specs.declared.bases.Base.{Base}
use Rattle.pair_facts.specs.declared.bases.Base.TheVariants.{Any, Named}
use Rattle.pair_facts.specs.Lines.{group_in, line_before, phis_in}
use Rattle.pair_facts.specs.Lines as facts
use Rattle.pair_facts.specs.Pairs.{Pairs, after, after_group, along, at_entry, is_pointer_argument, on_edge, own_pairs}
use Rattle.pair_facts.specs.Paths.{Arrives, pairs_at, pairs_at_end, start, went}
use Rattle.rewritten_sound.specs.Takes.{HasPairs, base_of}
use Rattle.rewritten_sound.proofs.pairs.EdgeFacts.{alive_along, edge_law}
use Rattle.rewritten_sound.proofs.pairs.GroupFacts.{group_holds}
use Rattle.rewritten_sound.proofs.pairs.HoldFacts.{Holds, IsAlive, alive_from, base_alive, operand_fresh, operand_pair, pointer_argument}
use Rattle.rewritten_sound.proofs.pairs.LineFacts.{line_holds}
use Rattle.rewritten_sound.proofs.pairs.NowPlaces.{call_next, group_now, head_now, lines, member_head, phis_now, plain_head, plain_next, plain_now, start_of, written}
use Rattle.object_meaning.proofs.LineLaws.{line_is}
use Rattle.pair_facts.proofs.PathLaws.{behind_grouped, behind_plain, front_stays}

module _ (func : Function) (table : List Operand) (naming : Naming) (fits : Fits func table naming (live_table func table)) (now_room room : ℕ)
    (numbers : IsNumbering func table naming.joins (number func table naming) now_room) (plain_form : IsPlain func room) (has : HasPairs func table (live_table func table)) where
  abbrev to : Name → ℕ
  to = number func table naming

  abbrev pub HoldsAt : ℕ → ℕ → Pairs → Type 0
  HoldsAt b k pairs = Holds func table (live_table func table b k) (number func table naming) (names_at func table naming b k) pairs

  -- ---- in a block

  start_up : (b i more : ℕ) → start_of func table naming b i ≤ start_of func table naming b (i + more)
  start_up b i zero = let e : i + 0 ≡ i = omega arith in subst (λ (n : ℕ). start_of func table naming b i ≤ start_of func table naming b n) (sym e) (omega arith)
  start_up b i (suc more) =
      let rest = start_up b i more in
      let e : i + suc more ≡ suc (i + more) = omega arith in
      subst (λ (n : ℕ). start_of func table naming b i ≤ start_of func table naming b n) (sym e) (omega (arith, rest))

  module _ (b : ℕ) (front : Pairs) (holds : HoldsAt b (phi_count (lines_at func b)) front) where
    abbrev pairs_before : ℕ → Pairs
    pairs_before k = pairs_at (lines func table naming b) front (start_of func table naming b k)

    plain_step : (k : ℕ) (line : Line) → slice_get (lines_at func b) k ≡ Some line → is_call line.inst.op ≡ false → phi_count (lines_at func b) ≤ k
        → HoldsAt b k (pairs_before k) → HoldsAt b (suc k) (pairs_before (suc k))
    plain_step k line at other le before =
        let more = k - phi_count (lines_at func b) in
        let e : phi_count (lines_at func b) + (k - phi_count (lines_at func b)) ≡ k = omega arith in
        let up = subst (λ (n : ℕ). start_of func table naming b (phi_count (lines_at func b)) ≤ start_of func table naming b n) e (start_up b (phi_count (lines_at func b)) (k - phi_count (lines_at func b))) in
        let count = phis_now func table naming room plain_form b in
        let there = line_is (lines func table naming b) (start_of func table naming b k) (written func table naming (plain func table naming to b k line)) (plain_now func table naming b k line at other) in
        let step = behind_plain (lines func table naming b) (start_of func table naming b k) (pairs_before k) (plain_head func table naming room plain_form b k line at other) (omega (arith, up, count)) in
        let next = plain_next func table naming b k line at other in
        subst (HoldsAt b (suc k))
        (sym (ap (pairs_at (lines func table naming b) front) next ∙ step
        ∙ ap (after (pairs_before k) (line_before (lines func table naming b) (start_of func table naming b k))) there))
        (line_holds func table naming fits now_room numbers has b k line (pairs_before k) at other (no_phi k line at le) before)
      where
        no_phi : (k : ℕ) (line : Line) → slice_get (lines_at func b) k ≡ Some line → phi_count (lines_at func b) ≤ k → is_phi line.inst.op ≡ false
        no_phi k line at le = elim (cases_Bool (is_phi line.inst.op)) [
          | inr none ↦ none
          | inl phi ↦ absurd (let below = plain_form.phis b k line at phi in omega (arith, below, le))
        ]

    call_step : (k : ℕ) (line : Line) (callee : Callee) (types : List Ty) → slice_get (lines_at func b) k ≡ Some line → line.inst.op ≡ Call callee types → is_leaf callee ≡ false
        → HoldsAt b (suc k) (pairs_before (suc k))
    call_step k line callee types at op no_leaf =
        let long = length (group func table naming to b k line) in
        let next : start_of func table naming b (suc k) ≡ suc (start_of func table naming b k + length (group func table naming to b k line)) =
        (let e = call_next func table naming b k line callee types at op no_leaf in omega (arith, e)) in
        let head = member_head func table naming room plain_form b k line callee types at op no_leaf (length (group func table naming to b k line)) (omega arith) in
        let there = line_is (lines func table naming b) (start_of func table naming b k) (written func table naming (statepoint func table naming to b k callee types line.inst))
        (head_now func table naming b k line callee types at op no_leaf) in
        let members = group_now func table naming room plain_form b k line callee types at op no_leaf in
        let place = start_of func table naming b k + length (group func table naming to b k line) in
        subst (HoldsAt b (suc k))
        (sym (ap (pairs_at (lines func table naming b) front) next
        ∙ behind_grouped (lines func table naming b) (start_of func table naming b k + length (group func table naming to b k line)) (start_of func table naming b k)
        (pairs_at (lines func table naming b) front (start_of func table naming b k + length (group func table naming to b k line))) head
        ∙ ap (λ (l : Line). after_group (entries_of l.inst) (group_in (lines func table naming b) (start_of func table naming b k))) there
        ∙ ap (after_group (entries_of (written func table naming (statepoint func table naming to b k callee types line.inst)).inst)) members))
        (group_holds func table naming fits room plain_form has b k line callee types at op no_leaf)

    -- at each place behind the phis
    pub holds_there : (k : ℕ) → phi_count (lines_at func b) ≤ k → k ≤ length (lines_at func b) → HoldsAt b k (pairs_before k)
    holds_there zero low within =
        let none : phi_count (lines_at func b) ≡ 0 = omega (arith, low) in
        let count = phis_now func table naming room plain_form b in
        let same = ap (start_of func table naming b) none in
        subst (HoldsAt b 0) (sym (front_stays (lines func table naming b) front (start_of func table naming b 0) (omega (arith, count, same))))
        (subst (λ (k : ℕ). HoldsAt b k front) none holds)
    holds_there (suc k) low within = elim (cases_lt k (phi_count (lines_at func b))) [
      | inl below ↦
          let same : phi_count (lines_at func b) ≡ suc k = omega (arith, low, below) in
          let count = phis_now func table naming room plain_form b in
          let start = ap (start_of func table naming b) same in
          subst (HoldsAt b (suc k)) (sym (front_stays (lines func table naming b) front (start_of func table naming b (suc k)) (omega (arith, count, start))))
          (subst (λ (k : ℕ). HoldsAt b k front) same holds)
      | inr le ↦
          let line = get_some (lines_at func b) k (omega (arith, within)) in
          let before = holds_there k le (omega (arith, within)) in
          elim (call_or_not line.0.inst.op) [
            | is_none other ↦ plain_step k line.0 line.1 other le before
            | is_one callee types op no_leaf ↦ call_step k line.0 callee types line.1 op no_leaf
          ]
    ]

    pub holds_at_end : HoldsAt b (length (lines_at func b)) (pairs_at_end (lines func table naming b) front)
    holds_at_end =
        let few = prefix_len-le-length (λ (line : Line). is_phi line.inst.op) (lines_at func b) in
        let all = length-map (pieces func table naming b) (written func table naming) in
        let end = whole_length func table naming to b in
        subst (HoldsAt b (length (lines_at func b))) (ap (pairs_at (lines func table naming b) front) (sym (all ∙ end)))
        (holds_there (length (lines_at func b)) (omega (arith, few)) (omega arith))

  -- ---- over an edge

  module _ (from b : ℕ) (edge : Edge func from b) (block : BasicBlock) (found : slice_get func.blocks b ≡ Some block) (pairs : Pairs)
      (holds : HoldsAt from (length (lines_at func from)) pairs) where
    abbrev behind_phis : ℕ
    behind_phis = phi_count (lines_at func b)

    abbrev phis : List Line
    phis = phis_in (lines_at func b)

    law : (v : ℕ) → live_table func table b (phi_count (lines_at func b)) v ≡ true
        → along from (phis_in (lines func table naming b)) (named (to (names_at func table naming b (phi_count (lines_at func b)) v))) ≡ renamed to (names_at_end func table naming from) (along from phis (named v))
    law v alive = edge_law func table naming fits now_room room numbers plain_form from b edge block found v alive

    operand_law : (o : Operand) → IsAlive (live_table func table b (phi_count (lines_at func b))) o
        → along from (phis_in (lines func table naming b)) (renamed to (names_at func table naming b (phi_count (lines_at func b))) o) ≡ renamed to (names_at_end func table naming from) (along from phis o)
    operand_law (Value value) alive = law value.0 alive
    operand_law (Int word) alive = refl
    operand_law Null alive = refl
    operand_law (Fun called) alive = refl

    alive_there : (v : ℕ) → live_table func table b (phi_count (lines_at func b)) v ≡ true → IsAlive (live_table func table from (length (lines_at func from))) (along from phis (named v))
    alive_there v alive =
        alive_from (live_table func table from (length (lines_at func from))) (along from phis (named v))
        (λ u is. alive_along func table naming fits now_room room numbers plain_form from b edge v u alive is)

    base_law : (v : ℕ) → among v (pointers func) ≡ true → live_table func table b (phi_count (lines_at func b)) v ≡ true
        → along from (phis_in (lines func table naming b)) (renamed to (names_at func table naming b (phi_count (lines_at func b))) (base_at table v))
        ≡ renamed to (names_at_end func table naming from) (base_of func table (along from phis (named v)))
    base_law v pointer alive =
        operand_law (base_at table v) (base_alive func table (live_table func table) has b (phi_count (lines_at func b)) (named v) pointer alive)
        ∙ ap (renamed to (names_at_end func table naming from)) (has.on_edges from b v edge pointer alive).1

    pub holds_over : HoldsAt b (phi_count (lines_at func b)) (on_edge from (phis_in (lines func table naming b)) pairs)
    holds_over = record {
      null_fresh = holds.null_fresh;
      null_pair = holds.null_pair;
      fresh = λ v pointer alive.
          ap (λ (o : Operand). pairs o Any) (law v alive)
          ∙ operand_fresh func table (live_table func table from (length (lines_at func from))) to (names_at_end func table naming from) pairs holds (along from phis (named v))
          (has.on_edges from b v edge pointer alive).0 (alive_there v alive);
      pair = λ v pointer alive.
          ap (λ (o : Operand). pairs o (Named (along from (phis_in (lines func table naming b)) (renamed to (names_at func table naming b (phi_count (lines_at func b))) (base_at table v))))) (law v alive)
          ∙ ap (λ (o : Operand). pairs (renamed to (names_at_end func table naming from) (along from phis (named v))) (Named o)) (base_law v pointer alive)
          ∙ operand_pair func table (live_table func table from (length (lines_at func from))) to (names_at_end func table naming from) pairs holds (along from phis (named v))
          (has.on_edges from b v edge pointer alive).0 (alive_there v alive);
    }

  -- ---- at the entry

  entry_fresh : (v : ℕ) → among v (pointers func) ≡ true → live_table func table 0 0 v ≡ true → (base : Base) → own_pairs v base ≡ true
      → at_entry (now func table naming) (named (to (names_at func table naming 0 0 v))) base ≡ true
  entry_fresh v pointer alive base alone =
      let entry = has.at_entry v pointer alive in
      let name : to (naming.front 0 v) ≡ v = ap to (fits.at_entry v alive) ∙ numbers.arguments v entry.0 in
      ap (λ (n : ℕ). is_pointer_argument func n && own_pairs n base) name
      ∙ and_from (is_pointer_argument func v) (own_pairs v base) (pointer_argument func v pointer entry.0) alone

  holds_at_entry : HoldsAt 0 0 (at_entry (now func table naming))
  holds_at_entry = record {
    null_fresh = refl;
    null_pair = refl;
    fresh = λ v pointer alive. entry_fresh v pointer alive Any refl;
    pair = λ v pointer alive.
        let entry = has.at_entry v pointer alive in
        let name : to (naming.front 0 v) ≡ v = ap to (fits.at_entry v alive) ∙ numbers.arguments v entry.0 in
        ap (λ (o : Operand). at_entry (now func table naming) (named (to (names_at func table naming 0 0 v))) (Named (renamed to (names_at func table naming 0 0) o))) entry.1
        ∙ ap (λ (n : ℕ). at_entry (now func table naming) (named (to (names_at func table naming 0 0 v))) (Named (named n))) name
        ∙ entry_fresh v pointer alive (Named (named v)) (eq-eqb v v refl);
  }

  -- ---- along every path

  pub arrives_holds : (b : ℕ) (front : Pairs) → Arrives (now func table naming) b front → (block : BasicBlock) → slice_get func.blocks b ≡ Some block
      → HoldsAt b (phi_count (lines_at func b)) front
  arrives_holds _ _ start block found = subst (λ (k : ℕ). HoldsAt 0 k (at_entry (now func table naming))) (sym plain_form.entry) holds_at_entry
  arrives_holds _ _ (went from b front path edge) block found =
      let own_edge = subst (λ (g : Graph). graphs.Edge g from b) (graph_now func table naming) edge in
      let left = edge_block func from b own_edge in
      let before = arrives_holds from front path left.0 left.1 in
      let end : HoldsAt from (length (lines_at func from)) (pairs_at_end (facts.lines_at (now func table naming) from) front) =
      subst (λ (ls : List Line). HoldsAt from (length (lines_at func from)) (pairs_at_end ls front)) (sym (lines_now_are func table naming from left.0 left.1)) (holds_at_end from front before) in
      subst (λ (ls : List Line). HoldsAt b (phi_count (lines_at func b)) (on_edge from (phis_in ls) (pairs_at_end (facts.lines_at (now func table naming) from) front))) (sym (lines_now_are func table naming b block found))
      (holds_over from b (edge_to func from b own_edge) block found (pairs_at_end (facts.lines_at (now func table naming) from) front) end)
