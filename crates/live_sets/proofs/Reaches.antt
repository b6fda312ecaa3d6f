-- The marks that a search backwards leaves on the ends of blocks are those of the blocks at whose ends the pointer is live.
use Rattle.std.proofs.Common.{◌≡◌, ℕ, zero, suc, ◌+◌, ◌-◌, ◌<◌, ◌≤◌, Bool, true, false, eqb, leb, nat_lt, nat_le, ◌&&◌, if◌then◌else◌, List, [], ◌∷◌, length, map, take, drop, get_or, refl, ap, sym, arith, inl, inr, ◌⊎◌, Some, None, Option, slice_get, ◌∙◌, subst}
use Rattle.std.specs.Prelude.{slice_index}
use Rattle.std.specs.List.{range_with_len, Contains}
use Rattle.std.specs.Option.{option_map_or}
use Rattle.std.proofs.lemmas.Bool.{cases_Bool, cases_eq, cases_lt, eqb-true, eq-eqb, false≢true, and_from, and_parts}
use Rattle.std.proofs.lemmas.Bool.Decides.{nat_tests}
use Rattle.std.proofs.lemmas.Option.{slice_get_within, get_or_from_slice_get, slice_get-get_or}
use Rattle.std.proofs.lemmas.List.{length-map, get_or_past}
use Rattle.std.proofs.lemmas.List.FromFn.{length-range_with_len}
use Rattle.sp_ids.specs.declared.ids.BlockId.{BlockId}
use Rattle.ir_ast.specs.declared.types.Ty.{Ty}
use Rattle.ir_ast.specs.declared.types.Ty.TheVariants.{Void}
use Rattle.ir_ast.specs.declared.ops.Op.TheVariants.{Br}
use Rattle.ir_ast.specs.declared.ops.Operand.{Operand}
use Rattle.ir_ast.specs.Insts.{Instruction}
use Rattle.ir_ast.specs.Blocks.{BasicBlock}
use Rattle.ir_ast.specs.Funcs.{Function}
use Rattle.ir_ast.specs.Types.{is_pointer}
use Rattle.ir_ast.specs.Values.{value_types}
use Rattle.ir_ast.specs.Faults.PhiEdges.{is_phi, PhisAreRight}
use Rattle.list_laws.proofs.Places.{split_at, get_map, drop_whole, take_whole}
use Rattle.list_laws.proofs.Contents.{contains_get, get_contained, contains_one, contains_map, contains_joined, joined_contains, contains_image}
use Rattle.object_meaning.specs.Lines.{Line, after_all, numbered, first_registers, registers_of, insts_in}
use Rattle.graph_search.specs.Edges.{Edge, targets_of, AreInside}
use Rattle.graph_search.specs.Paths.{ReachedFrom, at_start, along, MarksReached}
use Rattle.rewriting_forms.specs.Numbered.{lines_at, gives, preds}
use Rattle.rewriting_forms.specs.Liveness.{IsUse, PhisAgree, Live, used, held, later, entry, crosses, is_live, live_front, live_lines}
use Rattle.rewriting_laws.proofs.LiveExact.{use_is, use_from, over_sound, front_sound, live_sound, live_complete}
use Rattle.live_sets.specs.Uses.{uses}
use Rattle.live_sets.specs.declared.starts.Spot.{Spot}
use Rattle.live_sets.specs.Starts.{is_given, first_of, starts_in, starts_of}
use Rattle.live_sets.specs.Ends.{gives_in, backward_rows, lives_at_end}
use Rattle.live_sets.proofs.UseLemmas.{uses_same, line_back, given_between, between_given}
use Rattle.live_sets.proofs.EndLemmas.{rows_length, row_of_end, row_of_front, row_behind}
use Rattle.live_sets.proofs.Walks.{UsesAt, by_operand, by_bundle, EntryAt, line_back_adds, line_forth_entry, line_forth_use, block_back, block_forth}
use Rattle.live_sets.proofs.EdgeLemmas.{pred_succ, succ_pred, succ_within, label_edge}
use Rattle.object_meaning.proofs.LineLaws.{plain_at, plain_count}
use Rattle.list_laws.proofs.Booleans.{same_tests}
use Rattle.list_laws.proofs.Ranges.{range_contains}
use Rattle.ir_ast.specs.Lists.{has_mark}

-- the number behind a block is the first of the next
next_first : (next : ℕ) (blocks : List BasicBlock) (b : ℕ) (block : BasicBlock) → slice_get blocks b ≡ Some block
    → get_or (first_registers next blocks) (suc b) 0 ≡ after_all (get_or (first_registers next blocks) b 0) block.insts
next_first next [] b block is = absurd (cc)
next_first next (x ∷ blocks) zero block is = let e : x ≡ block = cc in first_is (after_all next x.insts) blocks ∙ ap (λ (y : BasicBlock). after_all next y.insts) e
  where
    first_is : (n : ℕ) (blocks : List BasicBlock) → get_or (first_registers n blocks) 0 0 ≡ n
    first_is n [] = refl
    first_is n (x ∷ blocks) = refl
next_first next (x ∷ blocks) (suc b) block is = next_first (after_all next x.insts) blocks b block is

abbrev none_inst : Instruction
none_inst = record { result = None; op = Br; ty = Void; operands = []; labels = []; bundle = [] }

abbrev none_block : BasicBlock
none_block = record { name = []; insts = [] }

module _ (func : Function) (table : List Operand) (marks : List Bool) (right : marks ≡ map is_pointer (value_types func)) (phis : PhisAreRight func)
    (v : ℕ) (pointer : has_mark marks v ≡ true) where
  abbrev count : ℕ
  count = length func.blocks

  abbrev fronts : List (List ℕ)
  fronts = map (preds func) (range_with_len 0 count)

  abbrev rows : List (List ℕ)
  rows = backward_rows fronts (registers_of func) v

  abbrev starts : List ℕ
  starts = starts_of func marks table v

  fronts_length : length fronts ≡ count
  fronts_length = length-map (range_with_len 0 count) (preds func) ∙ length-range_with_len 0 count

  range_get : (from n k : ℕ) → k < n → slice_get (range_with_len from n) k ≡ Some (from + k)
  range_get from zero k below = absurd (omega arith)
  range_get from (suc n) zero below = let e : from ≡ from + 0 = omega arith in ap Some e
  range_get from (suc n) (suc k) below = let e : (from + 1) + k ≡ from + suc k = omega arith in range_get (from + 1) n k (omega arith) ∙ ap Some e

  front_row : (b : ℕ) → b < count → get_or fronts b [] ≡ preds func b
  front_row b below =
      let e : 0 + b ≡ b = omega arith in
      get_or_from_slice_get fronts b (preds func b) [] (get_map (preds func) (range_with_len 0 count) b b (range_get 0 count b below ∙ ap Some e))

  -- blocks and their lines
  has_block : (b k : ℕ) (inst : Instruction) → slice_get (insts_in func b) k ≡ Some inst → (block : BasicBlock) × (slice_get func.blocks b ≡ Some block) × (block.insts ≡ insts_in func b)
  has_block b k inst is = go (slice_get func.blocks b) refl
    where
      go : (o : Option BasicBlock) → slice_get func.blocks b ≡ o → (block : BasicBlock) × (slice_get func.blocks b ≡ Some block) × (block.insts ≡ insts_in func b)
      go None none = absurd (let h : slice_get [] k ≡ Some inst = ap (λ (o : Option BasicBlock). slice_get (option_map_or (λ (block : BasicBlock). block.insts) o []) k) (sym none) ∙ is in cc)
      go (Some block) some = (block, some, sym (ap (λ (o : Option BasicBlock). option_map_or (λ (block : BasicBlock). block.insts) o []) some))

  block_within : (b k : ℕ) (inst : Instruction) → slice_get (insts_in func b) k ≡ Some inst → b < count
  block_within b k inst is = let block = has_block b k inst is in slice_get_within func.blocks b block.0 block.1

  -- a value that no line gives up to a place is live at the front where it is at the place
  walk_up : (b k : ℕ) → Live func table v b k → k ≤ length (insts_in func b)
      → ((j : ℕ) (line : Line) → j < k → slice_get (lines_at func b) j ≡ Some line → gives line v ≡ false) → Live func table v b 0
  walk_up b zero walk within free = walk
  walk_up b (suc k) walk within free =
      let inst = slice_get-get_or (insts_in func b) k none_inst (omega arith) in
      let line = plain_at (first_of func b) (insts_in func b) k (get_or (insts_in func b) k none_inst) inst in
      walk_up b k (later b k (numbered (after_all (first_of func b) (take k (insts_in func b))) (get_or (insts_in func b) k none_inst)) line
      (free k (numbered (after_all (first_of func b) (take k (insts_in func b))) (get_or (insts_in func b) k none_inst)) (omega arith) line) walk)
      (omega arith) (λ j other before at. free j other (omega arith) at)

  not_given : (spot : Spot) → is_given spot v ≡ false → spot.first ≤ v → v < spot.next → ⊥
  not_given spot free low high = false≢true (sym free ∙ is_between)
    where
      is_between : is_given spot v ≡ true
      is_between = grind (arith, nat_tests)

  -- no line before a place gives the value, where it isn't given there
  none_before : (b k j : ℕ) (line : Line) → (first_of func b ≤ v → v < after_all (first_of func b) (take k (insts_in func b)) → ⊥) → j < k
      → slice_get (lines_at func b) j ≡ Some line → gives line v ≡ false
  none_before b k j line free before at = elim (cases_Bool (gives line v)) [
    | inr none ↦ none
    | inl given ↦
        let from = line_back (first_of func b) (insts_in func b) j line at in
        let between = given_between (first_of func b) (insts_in func b) j k v from.inst before from.at (ap (λ (l : Line). gives l v) (sym from.is) ∙ given) in
        absurd (free between.0 between.1)
  ]

  -- a block's numbers
  end_number : (b : ℕ) → b < count → slice_index (registers_of func) (b + 1) ≡ after_all (first_of func b) (insts_in func b)
  end_number b below =
      let e : b + 1 ≡ suc b = omega arith in
      let stands = slice_get-get_or func.blocks b none_block below in
      let same : (get_or func.blocks b none_block).insts ≡ insts_in func b = sym (ap (λ (o : Option BasicBlock). option_map_or (λ (block : BasicBlock). block.insts) o []) stands) in
      ap (λ (n : ℕ). get_or (registers_of func) n 0) e ∙ next_first (length func.args) func.blocks b (get_or func.blocks b none_block) stands
      ∙ ap (after_all (first_of func b)) same

  free_block : (b : ℕ) → b < count → gives_in (registers_of func) v b ≡ false → first_of func b ≤ v → v < after_all (first_of func b) (insts_in func b) → ⊥
  free_block b below free low high =
      let number = end_number b below in
      let up : v < slice_index (registers_of func) (b + 1) = omega (arith, number, high) in
      false≢true (sym free ∙ and_from (nat_le (slice_index (registers_of func) b) v) (nat_lt v (slice_index (registers_of func) (b + 1))) (le_is (slice_index (registers_of func) b) v low) (lt_is v (slice_index (registers_of func) (b + 1)) up))
    where
      le_is : (a b : ℕ) → a ≤ b → nat_le a b ≡ true
      le_is a b le = grind (arith, nat_tests)

      lt_is : (a b : ℕ) → a < b → nat_lt a b ≡ true
      lt_is a b lt = grind (arith, nat_tests)

  use_of : (o : Operand) → uses marks table v o ≡ true → IsUse func table v o
  use_of o is = use_is func table v o (uses_same func marks right table v o ∙ is)

  of_use : (o : Operand) → IsUse func table v o → uses marks table v o ≡ true
  of_use o is = sym (uses_same func marks right table v o) ∙ use_from func table v o is

  -- ---- the search finds no more

  record IsSound (node : ℕ) : Type 0 where
    at_end : node < count → Live func table v node (length (lines_at func node))
    at_front : (b : ℕ) → node ≡ count + b → Live func table v b 0

  uses_live : (b k : ℕ) (inst : Instruction) → slice_get (insts_in func b) k ≡ Some inst → UsesAt marks table v inst → Live func table v b k
  uses_live b k inst at (by_operand o other has is) =
      used b k (numbered (after_all (first_of func b) (take k (insts_in func b))) inst) o (plain_at (first_of func b) (insts_in func b) k inst at) other has (use_of o is)
  uses_live b k inst at (by_bundle e has is) =
      held b k (numbered (after_all (first_of func b) (take k (insts_in func b))) inst) e.1 (plain_at (first_of func b) (insts_in func b) k inst at)
      (contains_map (λ (entry : Ty × Operand). entry.1) inst.bundle e has) (use_of e.1 is)

  start_sound : (node : ℕ) → Contains starts node → IsSound node
  start_sound node has =
      let from = contains_joined (starts_in func marks table v) (range_with_len 0 count) node has in
      let b = from.of in
      let line = block_back marks table v pointer (count + b) (first_of func b) (first_of func b) (insts_in func b) node from.given in
      let spot : Spot = record { node = count + b; first = first_of func b; next = after_all (first_of func b) (take line.place (insts_in func b)) } in
      let below = block_within b line.place line.inst line.at in
      elim (line_back_adds marks table v pointer spot line.inst node line.has) [
        | inl one ↦
            let block = has_block b line.place line.inst line.at in
            let edge = label_edge func phis b line.place one.place block.0 line.inst one.label block.1 (ap (λ (is : List Instruction). slice_get is line.place) block.2 ∙ line.at) one.phi one.label_is in
            let label_below = succ_within func one.label.0 b edge in
            let node_is = one.at in
            record {
              at_end = λ inside. subst (λ (n : ℕ). Live func table v n (length (lines_at func n))) (sym node_is)
                  (entry one.label.0 (length (lines_at func one.label.0)) b line.place (numbered (after_all (first_of func b) (take line.place (insts_in func b))) line.inst) one.operand refl edge
                  (plain_at (first_of func b) (insts_in func b) line.place line.inst line.at) one.phi
                  (record { place = one.place; label = ap (λ (l : Option BlockId). option_map_or (λ (l : BlockId). eqb l.0 one.label.0) l false) one.label_is ∙ eq-eqb one.label.0 one.label.0 refl; operand_is = one.operand_is })
                  (use_of one.operand one.uses_it));
              at_front = λ other is. absurd (omega (arith, is, node_is, label_below));
            }
        | inr far ↦
            let live = uses_live b line.place line.inst line.at far.0 in
            let here = walk_up b line.place live (let w = slice_get_within (insts_in func b) line.place line.inst line.at in omega (arith, w))
            (λ j other before at. none_before b line.place j other (not_given spot far.1) before at) in
            let node_is = far.2 in
            record {
              at_end = λ inside. absurd (omega (arith, inside, node_is));
              at_front = λ other is. let same : b ≡ other = omega (arith, is, node_is) in subst (λ (n : ℕ). Live func table v n 0) same here;
            }
      ]

  reached_sound : (node : ℕ) → ReachedFrom rows starts node → IsSound node
  reached_sound _ (at_start node has) = start_sound node has
  reached_sound _ (along from to reached edge) =
      let sound = reached_sound from reached in
      elim (cases_lt from (length fronts)) [
        | inl below ↦ by_end from to sound edge (let l = fronts_length in omega (arith, below, l))
        | inr behind ↦ by_front from to sound edge behind
      ]
    where
      by_end : (from to : ℕ) → IsSound from → Edge rows from to → from < count → IsSound to
      by_end from to sound edge below =
          let l = fronts_length in
          let row = row_of_end fronts (registers_of func) v from (omega (arith, below, l)) in
          go (gives_in (registers_of func) v from) refl (ap (λ (xs : List ℕ). slice_get xs edge.number) (sym row) ∙ edge.leads)
        where
          go : (t : Bool) → gives_in (registers_of func) v from ≡ t → slice_get (if t then [] else (length fronts + from) ∷ []) edge.number ≡ Some to → IsSound to
          go true given at = absurd (cc)
          go false free at =
              let l = fronts_length in
              let to_is : length fronts + from ≡ to = contains_one (length fronts + from) to (contains_get ((length fronts + from) ∷ []) edge.number to at) in
              let lines = plain_count (first_of func from) (insts_in func from) in
              let all : take (length (lines_at func from)) (insts_in func from) ≡ insts_in func from = ap (λ (n : ℕ). take n (insts_in func from)) lines ∙ take_whole (insts_in func from) in
              let here = walk_up from (length (lines_at func from)) (sound.at_end below) (omega (arith, lines))
              (λ j other before at. none_before from (length (lines_at func from)) j other
              (λ low high. free_block from below free low (subst (λ (is : List Instruction). v < after_all (first_of func from) is) all high)) before at) in
              record {
                at_end = λ inside. absurd (omega (arith, inside, to_is, l));
                at_front = λ b is. let same : from ≡ b = omega (arith, is, to_is, l) in subst (λ (n : ℕ). Live func table v n 0) same here;
              }

      by_front : (from to : ℕ) → IsSound from → Edge rows from to → length fronts ≤ from → IsSound to
      by_front from to sound edge behind = elim (cases_lt (from - length fronts) count) [
        | inr past ↦
            let l = fronts_length in
            let row = row_behind fronts (registers_of func) v from behind ∙ get_or_past fronts (from - length fronts) [] (omega (arith, past, l)) in
            absurd (let h : slice_get [] edge.number ≡ Some to = ap (λ (xs : List ℕ). slice_get xs edge.number) (sym row) ∙ edge.leads in cc)
        | inl below ↦
            let l = fronts_length in
            let b = from - length fronts in
            let row = row_behind fronts (registers_of func) v from behind ∙ front_row b below in
            let has = contains_get (preds func b) edge.number to (ap (λ (xs : List ℕ). slice_get xs edge.number) (sym row) ∙ edge.leads) in
            let out = pred_succ func to b has in
            let inside = succ_within func to b out in
            let front = sound.at_front b (omega (arith, behind, l)) in
            record {
              at_end = λ _. crosses to (length (lines_at func to)) b refl out front;
              at_front = λ other is. absurd (omega (arith, is, inside));
            }
      ]

  -- ---- and no less

  -- a line from a place on uses the value, and none between gives it
  record Exposed (b k : ℕ) : Type 0 where
    place : ℕ
    inst : Instruction
    at : slice_get (insts_in func b) place ≡ Some inst
    from : k ≤ place
    uses_it : UsesAt marks table v inst
    free : (j : ℕ) (line : Line) → k ≤ j → j < place → slice_get (lines_at func b) j ≡ Some line → gives line v ≡ false

  abbrev Free : ℕ → ℕ → Type 0
  Free b k = (j : ℕ) (line : Line) → k ≤ j → slice_get (lines_at func b) j ≡ Some line → gives line v ≡ false

  exposed_start : (b : ℕ) → Exposed b 0 → ReachedFrom rows starts (count + b)
  exposed_start b is =
      let below = block_within b is.place is.inst is.at in
      let spot : Spot = record { node = count + b; first = first_of func b; next = after_all (first_of func b) (take is.place (insts_in func b)) } in
      let free : is_given spot v ≡ false = free_spot in
      at_start (count + b) (joined_contains (starts_in func marks table v) (range_with_len 0 count) b (count + b) (range_contains count b below)
      (block_forth marks table v pointer (count + b) (first_of func b) (first_of func b) (insts_in func b) is.place (count + b) is.inst is.at
      (line_forth_use marks table v pointer spot is.inst is.uses_it free)))
    where
      given_lines : first_of func b ≤ v → v < after_all (first_of func b) (take is.place (insts_in func b)) → ⊥
      given_lines low high =
          let g = between_given (first_of func b) (insts_in func b) is.place v low high in
          let none = is.free g.place (numbered (after_all (first_of func b) (take g.place (insts_in func b))) g.inst) (omega arith) g.before (plain_at (first_of func b) (insts_in func b) g.place g.inst g.at) in
          false≢true (sym none ∙ g.is)

      free_spot : (nat_le (first_of func b) v && nat_lt v (after_all (first_of func b) (take is.place (insts_in func b)))) ≡ false
      free_spot = elim (cases_lt v (first_of func b)) [
        | inl low ↦ grind (arith, nat_tests)
        | inr up ↦ elim (cases_lt v (after_all (first_of func b) (take is.place (insts_in func b)))) [
          | inl high ↦ absurd (given_lines up high)
          | inr past ↦ grind (arith, nat_tests)
        ]
      ]

  free_in : (b : ℕ) → b < count → Free b 0 → gives_in (registers_of func) v b ≡ false
  free_in b below free = elim (cases_lt v (slice_index (registers_of func) b)) [
    | inl low ↦ grind (arith, nat_tests)
    | inr up ↦ elim (cases_lt v (slice_index (registers_of func) (b + 1))) [
      | inr past ↦ grind (arith, nat_tests)
      | inl high ↦ absurd (given up high)
    ]
  ]
    where
      given : slice_index (registers_of func) b ≤ v → v < slice_index (registers_of func) (b + 1) → ⊥
      given up high =
          let number = end_number b below in
          let whole : take (length (insts_in func b)) (insts_in func b) ≡ insts_in func b = take_whole (insts_in func b) in
          let low : v < after_all (first_of func b) (take (length (insts_in func b)) (insts_in func b)) =
          subst (λ (is : List Instruction). v < after_all (first_of func b) is) (sym whole) (omega (arith, number, high)) in
          let g = between_given (first_of func b) (insts_in func b) (length (insts_in func b)) v up low in
          let none = free g.place (numbered (after_all (first_of func b) (take g.place (insts_in func b))) g.inst) (omega arith) (plain_at (first_of func b) (insts_in func b) g.place g.inst g.at) in
          false≢true (sym none ∙ g.is)

  -- from a front at which the pointer is live a walk comes to the ends of the blocks before
  front_reached : (b : ℕ) → b < count → Exposed b 0 ⊎ (Free b 0 × ReachedFrom rows starts b) → ReachedFrom rows starts (count + b)
  front_reached b below (inl exposed) = exposed_start b exposed
  front_reached b below (inr both) =
      let l = fronts_length in
      let row = row_of_end fronts (registers_of func) v b (omega (arith, below, l)) in
      let free = free_in b below both.0 in
      let leads : slice_get (targets_of rows b) 0 ≡ Some (count + b) =
      ap (λ (xs : List ℕ). slice_get xs 0) (row ∙ ap (λ (t : Bool). let xs : List ℕ = if t then [] else (length fronts + b) ∷ [] in xs) free) ∙ ap (λ (n : ℕ). Some (n + b)) l in
      along b (count + b) both.1 (record { number = 0; leads = leads })

  before_reached : (b from : ℕ) → b < count → Contains (preds func b) from → ReachedFrom rows starts (count + b) → ReachedFrom rows starts from
  before_reached b from below has reached =
      let l = fronts_length in
      let at = get_contained (preds func b) from has in
      let sum : length fronts + b ≡ count + b = ap (λ (n : ℕ). n + b) l in
      let row = ap (targets_of rows) (sym sum) ∙ row_of_front fronts (registers_of func) v b ∙ front_row b below in
      along (count + b) from reached (record { number = at.0; leads = ap (λ (xs : List ℕ). slice_get xs at.0) row ∙ at.1 })

  line_inst : (b k : ℕ) (line : Line) → slice_get (lines_at func b) k ≡ Some line → (inst : Instruction) × (slice_get (insts_in func b) k ≡ Some inst) × (line.inst ≡ inst)
  line_inst b k line at = let from = line_back (first_of func b) (insts_in func b) k line at in (from.inst, from.at, ap (λ (l : Line). l.inst) from.is)

  exposed_here : (b k : ℕ) (line : Line) → slice_get (lines_at func b) k ≡ Some line → UsesAt marks table v line.inst → Exposed b k
  exposed_here b k line at uses_it =
      let inst = line_inst b k line at in
      record { place = k; inst = inst.0; at = inst.1; from = omega arith; uses_it = subst (UsesAt marks table v) inst.2 uses_it; free = λ j other low high. absurd (omega (arith, low, high)) }

  live_within : (b k : ℕ) → Live func table v b k → b < count
  live_within _ _ (used b k line o at other has used_so) = let inst = line_inst b k line at in block_within b k inst.0 inst.1
  live_within _ _ (held b k line o at has used_so) = let inst = line_inst b k line at in block_within b k inst.0 inst.1
  live_within _ _ (later b k line at none walk) = let inst = line_inst b k line at in block_within b k inst.0 inst.1
  live_within _ _ (entry b k to place phi o last edge at is_one one used_so) = succ_within func b to edge
  live_within _ _ (crosses b k to last edge walk) = succ_within func b to edge

  complete : (b k : ℕ) → Live func table v b k → Exposed b k ⊎ (Free b k × ReachedFrom rows starts b)
  complete _ _ (used b k line o at other has used_so) = inl (exposed_here b k line at (by_operand o other has (of_use o used_so)))
  complete _ _ (held b k line o at has used_so) =
      let from = contains_image (λ (entry : Ty × Operand). entry.1) line.inst.bundle o has in
      inl (exposed_here b k line at (by_bundle from.of from.inside (ap (uses marks table v) from.is ∙ of_use o used_so)))
  complete _ _ (later b k line at none walk) = elim (complete b (suc k) walk) [
    | inl is ↦ inl (record {
      place = is.place;
      inst = is.inst;
      at = is.at;
      from = (let f = is.from in omega (arith, f));
      uses_it = is.uses_it;
      free = λ j other low high stands. elim (cases_eq k j) [
        | inl e ↦ same_line k j line other e at stands none
        | inr ne ↦ is.free j other (omega (arith, ne, low)) high stands
      ];
    })
    | inr both ↦ inr (
      λ j other low stands. elim (cases_eq k j) [
        | inl e ↦ same_line k j line other e at stands none
        | inr ne ↦ both.0 j other (omega (arith, ne, low)) stands
      ],
      both.1,
    )
  ]
    where
      same_line : (k j : ℕ) (line other : Line) → k ≡ j → slice_get (lines_at func b) k ≡ Some line → slice_get (lines_at func b) j ≡ Some other → gives line v ≡ false → gives other v ≡ false
      same_line k j line other e one two none =
          let h : Some line ≡ Some other = sym one ∙ ap (λ (n : ℕ). slice_get (lines_at func b) n) e ∙ two in
          let same : line ≡ other = cc in
          ap (λ (l : Line). gives l v) (sym same) ∙ none
  complete _ _ (entry b k to place phi o last edge at is_one one used_so) =
      let inst = line_inst to place phi at in
      let below = block_within to place inst.0 inst.1 in
      let label = label_of (slice_get phi.inst.labels one.place) b one.label in
      let b_is : label.0.0 ≡ b = eqb-true label.0.0 b label.2 in
      let entry_at : EntryAt marks table v phi.inst b =
      record { phi = is_one; place = one.place; label = label.0; operand = o; label_is = label.1; operand_is = one.operand_is; uses_it = of_use o used_so; at = sym b_is } in
      let spot : Spot = record { node = count + to; first = first_of func to; next = after_all (first_of func to) (take place (insts_in func to)) } in
      inr (
        λ j other low stands. (let w = slice_get_within (lines_at func b) j other stands in absurd (omega (arith, w, low, last))),
        at_start b (joined_contains (starts_in func marks table v) (range_with_len 0 count) to b (range_contains count to below)
            (block_forth marks table v pointer (count + to) (first_of func to) (first_of func to) (insts_in func to) place b inst.0 inst.1
            (line_forth_entry marks table v pointer spot inst.0 b (subst (λ (i : Instruction). EntryAt marks table v i b) inst.2 entry_at)))),
      )
    where
      label_of : (l : Option BlockId) (from : ℕ) → option_map_or (λ (l : BlockId). eqb l.0 from) l false ≡ true → (label : BlockId) × (l ≡ Some label) × (eqb label.0 from ≡ true)
      label_of None from is = absurd (false≢true is)
      label_of (Some label) from is = (label, refl, is)
  complete _ _ (crosses b k to last edge walk) =
      let has = succ_pred func b to edge in
      let below = live_within to 0 walk in
      inr (
        λ j other low stands. (let w = slice_get_within (lines_at func b) j other stands in absurd (omega (arith, w, low, last))),
        before_reached to b below has (front_reached to below (complete to 0 walk)),
      )

  pub ends_reached : (b : ℕ) → Live func table v b (length (lines_at func b)) → ReachedFrom rows starts b
  ends_reached b walk = elim (complete b (length (lines_at func b)) walk) [
    | inl is ↦ (let lines = plain_count (first_of func b) (insts_in func b) in let w = slice_get_within (insts_in func b) is.place is.inst is.at in let f = is.from in absurd (omega (arith, lines, w, f)))
    | inr both ↦ both.1
  ]

  fronts_reached : (b : ℕ) → Live func table v b 0 → ReachedFrom rows starts (count + b)
  fronts_reached b walk = front_reached b (live_within b 0 walk) (complete b 0 walk)

  -- ---- the marks of a search

  agree : PhisAgree func
  agree b place phi at is_one j k same =
      let inst = line_inst b place phi at in
      let block = has_block b place inst.0 inst.1 in
      let in_block : slice_get block.0.insts place ≡ Some inst.0 = ap (λ (is : List Instruction). slice_get is place) block.2 ∙ inst.1 in
      let one = phis b block.0 _ _ inst.0 block.1 (split_at block.0.insts place inst.0 in_block) (ap (λ (i : Instruction). is_phi i.op) (sym inst.2) ∙ is_one) in
      ap (λ (i : Instruction). slice_get i.operands j) inst.2
      ∙ one.agree j k (ap (λ (i : Instruction). slice_get i.labels j) (sym inst.2) ∙ same ∙ ap (λ (i : Instruction). slice_get i.labels k) inst.2)
      ∙ ap (λ (i : Instruction). slice_get i.operands k) (sym inst.2)

  pub marks_are : (found : List Bool) (b : ℕ) → MarksReached rows starts found → b < count → has_mark found b ≡ lives_at_end func table b v
  marks_are found b search below = same_tests (has_mark found b) (lives_at_end func table b v)
      (λ is.
      let walk = (reached_sound b (search.sound b (marked is))).at_end below in
      let parts = and_parts (leb (length (lines_at func b)) (length (lines_at func b))) (live_lines func table v (lives_at_end func table b v) (drop (length (lines_at func b)) (lines_at func b)))
      (live_complete func table v agree b (length (lines_at func b)) walk) in
      sym (ap (live_lines func table v (lives_at_end func table b v)) (drop_whole (lines_at func b))) ∙ parts.1)
      (λ is.
      get_or_from_slice_get found b true false (search.complete b (ends_reached b (over_sound func table v (live_front func table v count) (front_sound func table v count) b is))))
    where
      marked : has_mark found b ≡ true → slice_get found b ≡ Some true
      marked is =
          let l = fronts_length in
          let all = rows_length fronts (registers_of func) v in
          let whole = search.whole in
          slice_get-get_or found b false (omega (arith, l, all, whole, below)) ∙ ap Some is

  -- those of the fronts
  pub front_marks_are : (found : List Bool) (b : ℕ) → MarksReached rows starts found → b < count → has_mark found (count + b) ≡ is_live func table b 0 v
  front_marks_are found b search below = same_tests (has_mark found (count + b)) (is_live func table b 0 v)
      (λ is. live_complete func table v agree b 0 ((reached_sound (count + b) (search.sound (count + b) (marked is))).at_front b refl))
      (λ is. get_or_from_slice_get found (count + b) true false (search.complete (count + b) (fronts_reached b (live_sound func table v b 0 is))))
    where
      marked : has_mark found (count + b) ≡ true → slice_get found (count + b) ≡ Some true
      marked is =
          let l = fronts_length in
          let all = rows_length fronts (registers_of func) v in
          let whole = search.whole in
          slice_get-get_or found (count + b) false (omega (arith, l, all, whole, below)) ∙ ap Some is

  pub all_inside : AreInside rows starts
  all_inside = record {
    starts_inside = start_within;
    edges_inside = edge_within;
  }
    where
      long : length rows ≡ count + count
      long = (let l = fronts_length in let all = rows_length fronts (registers_of func) v in omega (arith, l, all))

      start_within : (node : ℕ) → Contains starts node → node < length rows
      start_within node has =
          let from = contains_joined (starts_in func marks table v) (range_with_len 0 count) node has in
          let b = from.of in
          let line = block_back marks table v pointer (count + b) (first_of func b) (first_of func b) (insts_in func b) node from.given in
          let spot : Spot = record { node = count + b; first = first_of func b; next = after_all (first_of func b) (take line.place (insts_in func b)) } in
          let below = block_within b line.place line.inst line.at in
          elim (line_back_adds marks table v pointer spot line.inst node line.has) [
            | inl one ↦
                let block = has_block b line.place line.inst line.at in
                let edge = label_edge func phis b line.place one.place block.0 line.inst one.label block.1 (ap (λ (is : List Instruction). slice_get is line.place) block.2 ∙ line.at) one.phi one.label_is in
                let label_below = succ_within func one.label.0 b edge in
                let node_is = one.at in
                let l = long in
                omega (arith, node_is, label_below, l)
            | inr far ↦ (let node_is = far.2 in let l = long in omega (arith, node_is, below, l))
          ]

      by_row : (from to number : ℕ) (t : Bool) → slice_get (if t then [] else (length fronts + from) ∷ []) number ≡ Some to → from < length fronts → to < length rows
      by_row from to number true at below = absurd (cc)
      by_row from to number false at below =
          let to_is : length fronts + from ≡ to = contains_one (length fronts + from) to (contains_get ((length fronts + from) ∷ []) number to at) in
          let l = fronts_length in
          let all = long in
          omega (arith, to_is, below, l, all)

      edge_within : (from to : ℕ) → Edge rows from to → to < length rows
      edge_within from to edge = elim (cases_lt from (length fronts)) [
        | inl below ↦
            let l = fronts_length in
            let row = row_of_end fronts (registers_of func) v from below in
            by_row from to edge.number (gives_in (registers_of func) v from) (ap (λ (xs : List ℕ). slice_get xs edge.number) (sym row) ∙ edge.leads) below
        | inr behind ↦ elim (cases_lt (from - length fronts) count) [
          | inr past ↦
              let l = fronts_length in
              let row = row_behind fronts (registers_of func) v from behind ∙ get_or_past fronts (from - length fronts) [] (omega (arith, past, l)) in
              absurd (let h : slice_get [] edge.number ≡ Some to = ap (λ (xs : List ℕ). slice_get xs edge.number) (sym row) ∙ edge.leads in cc)
          | inl below ↦
              let row = row_behind fronts (registers_of func) v from behind ∙ front_row (from - length fronts) below in
              let has = contains_get (preds func (from - length fronts)) edge.number to (ap (λ (xs : List ℕ). slice_get xs edge.number) (sym row) ∙ edge.leads) in
              let inside = succ_within func to (from - length fronts) (pred_succ func to (from - length fronts) has) in
              let l = long in
              omega (arith, inside, l)
        ]
      ]
