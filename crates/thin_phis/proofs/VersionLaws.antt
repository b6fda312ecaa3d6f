-- The web over the numbers of the full naming is that of the names, and what is left of its versions are those of the least naming.
use Rattle.std.proofs.Common.{◌≡◌, ◌∙◌, ℕ, suc, ◌<◌, ◌+◌, ◌&&◌, Bool, true, false, if◌then◌else◌, List, [], ◌∷◌, ◌++◌, length, map, take, drop, refl, ap, sym, subst, arith, append_assoc}
use Rattle.std.specs.List.{Contains, filter, flat_map, range_with_len}
use Rattle.std.specs.Global.{Vec}
use Rattle.std.proofs.lemmas.Bool.{eq-eqb}
use Rattle.std.proofs.lemmas.List.{length-map}
use Rattle.sp_ids.specs.declared.ids.BlockId.{BlockId}
use Rattle.sp_ids.specs.declared.ids.ValueId.{ValueId}
use Rattle.ir_ast.specs.declared.ops.Operand.{Operand}
use Rattle.ir_ast.specs.declared.ops.Operand.TheVariants.{Value, Int, Null, Fun}
use Rattle.ir_ast.specs.Insts.{Instruction}
use Rattle.ir_ast.specs.Blocks.{BasicBlock}
use Rattle.ir_ast.specs.Funcs.{Function}
use Rattle.ir_ast.specs.Faults.PhiEdges.{is_phi}
use Rattle.ir_cfg.specs.Graphs.{graph_of, preds_of}
use Rattle.object_meaning.specs.Lines.{Line}
use Rattle.list_laws.proofs.Contents.{contains_first, contains_later}
use Rattle.live_sets.specs.Joins.{AreJoins}
use Rattle.phi_webs.specs.Webs.{Phi}
use Rattle.phi_webs.specs.Forests.{up_of}
use Rattle.phi_webs.specs.Settled.{AnswersBecomes}
use Rattle.phi_webs.specs.Statements.{renamed_phi, renamed_web}
use Rattle.rewriting_forms.specs.Numbered.{calls, lines_at, preds}
use Rattle.rewriting_forms.specs.Liveness.{live_list}
use Rattle.rewriting_forms.specs.Names.{Name, Naming, joined, names_at_end, phi_at, phis_of}
use Rattle.rewriting_forms.specs.Rewritten.{joined_at, line_names, names_of, place_in}
use Rattle.rewriting_laws.specs.Laws.{IsReached}
use Rattle.rewriting_laws.proofs.NameTests.{tells_names}
use Rattle.version_walk.specs.declared.slots.Slot.{Slot}
use Rattle.version_walk.specs.Forest.{list_at}
use Rattle.ssa_rebuild.specs.declared.versions.Versions.{Versions}
use Rattle.ssa_rebuild.specs.Answers.{number_of}
use Rattle.ssa_rebuild.specs.Rows.{use_numbers, own_uses, held_in, entries_from, number_at, number_behind, line_numbers, lines_numbers, body_numbers, block_numbers}
use Rattle.ssa_rebuild.specs.Arrivals.{Behind, labeled_numbers, phi_numbers, inserted_numbers, arriving_numbers, entry_numbers}
use Rattle.ssa_rebuild.specs.Solved.{AreNumbered}
use Rattle.ssa_rebuild.specs.Versions.{AreVersions}
use Rattle.thin_phis.specs.Thinned.{stays, number_now}
use Rattle.thin_phis.specs.Runs.{IsThinned, phis_over, behind_phis, entries_over, behind_entries, left_at, phi_left, inserted_at, behind_inserted, join_left, row_left, web_in, entries_left}
use Rattle.thin_phis.proofs.RunLemmas.{drop_of_map, lines_left, lines_taken, listed_at, phis_left, phis_taken, take_of_map}
use Rattle.thin_phis.proofs.TextLaws.{fixed_number, full, joined_left, kept, least, line_fixed, name_now, name_stays, now, number, version_number}
use Rattle.ssa_rebuild.proofs.RebuiltLaws.{numbers_back}
use Rattle.ssa_rebuild.proofs.ArrivalLaws.{drop_front}
use Rattle.ssa_rebuild.proofs.WrittenLaws.{take_front}
use Rattle.list_laws.proofs.Places.{map_append}
use Rattle.ir_ast.specs.Operands.{valued}

-- ---- blocks by their numbers

-- the numbers of these blocks, of which the first has this one
abbrev ups : ℕ → List BasicBlock → List ℕ
ups b [] = []
ups b (block ∷ blocks) = b ∷ ups (suc b) blocks

ups_are : (b from : ℕ) → from ≡ b → (blocks : List BasicBlock) → range_with_len from (length blocks) ≡ ups b blocks
ups_are b from same [] = refl
ups_are b from same (block ∷ blocks) =
    ap (λ (n : ℕ). n ∷ range_with_len (from + 1) (length blocks)) same
    ∙ ap (λ (ns : List ℕ). b ∷ ns) (ups_are (suc b) (from + 1) (omega arith) blocks)

-- ---- uses under new numbers

uses_now : (f g : ℕ → ℕ) (r : ℕ → ℕ) → ((v : ℕ) → g v ≡ r (f v)) → (operands : List Operand) → use_numbers g operands ≡ map r (use_numbers f operands)
uses_now f g r each [] = refl
uses_now f g r each (Value value ∷ operands) =
    ap (λ (n : ℕ). n ∷ use_numbers g operands) (each value.0) ∙ ap (λ (ns : List ℕ). r (f value.0) ∷ ns) (uses_now f g r each operands)
uses_now f g r each (Int word ∷ operands) = uses_now f g r each operands
uses_now f g r each (Null ∷ operands) = uses_now f g r each operands
uses_now f g r each (Fun func ∷ operands) = uses_now f g r each operands

maps_now : {A : Type 0} (f g : A → ℕ) (r : ℕ → ℕ) (xs : List A) → ((x : A) → Contains xs x → g x ≡ r (f x)) → map g xs ≡ map r (map f xs)
maps_now f g r [] each = refl
maps_now f g r (x ∷ xs) each =
    ap (λ (n : ℕ). n ∷ map g xs) (each x (contains_first x xs))
    ∙ ap (λ (ns : List ℕ). r (f x) ∷ ns) (maps_now f g r xs (λ y later. each y (contains_later x y xs later)))

two_now : (r : ℕ → ℕ) (xs xs' ys ys' : List ℕ) → xs' ≡ map r xs → ys' ≡ map r ys → xs' ++ ys' ≡ map r (xs ++ ys)
two_now r xs xs' ys ys' one two = ap (λ (ns : List ℕ). ns ++ ys') one ∙ ap (λ (ns : List ℕ). map r xs ++ ns) two ∙ sym (map_append r xs ys)

labeled_now : (here there : Behind) (r : ℕ → ℕ) → ((p v : ℕ) → there p v ≡ r (here p v)) → (labels : List BlockId) (operands : List Operand)
    → labeled_numbers there labels operands ≡ map r (labeled_numbers here labels operands)
labeled_now here there r each [] [] = refl
labeled_now here there r each [] (o ∷ operands) = refl
labeled_now here there r each (label ∷ labels) [] = refl
labeled_now here there r each (label ∷ labels) (o ∷ operands) =
    ap (λ (ns : List ℕ). ns ++ labeled_numbers there labels operands) (uses_now (here label.0) (there label.0) r (each label.0) (o ∷ []))
    ∙ ap (λ (ns : List ℕ). map r (use_numbers (here label.0) (o ∷ [])) ++ ns) (labeled_now here there r each labels operands)
    ∙ sym (map_append r (use_numbers (here label.0) (o ∷ [])) (labeled_numbers here labels operands))

phis_now : (here there : Behind) (r : ℕ → ℕ) → ((p v : ℕ) → there p v ≡ r (here p v)) → (insts : List Instruction)
    → flat_map (phi_numbers there) insts ≡ map r (flat_map (phi_numbers here) insts)
phis_now here there r each [] = refl
phis_now here there r each (inst ∷ insts) =
    ap (λ (ns : List ℕ). ns ++ flat_map (phi_numbers there) insts) (by (is_phi inst.op))
    ∙ ap (λ (ns : List ℕ). map r (phi_numbers here inst) ++ ns) (phis_now here there r each insts)
    ∙ sym (map_append r (phi_numbers here inst) (flat_map (phi_numbers here) insts))
  where
    by : (t : Bool) → (if t then labeled_numbers there inst.labels inst.operands else []) ≡ map r (if t then labeled_numbers here inst.labels inst.operands else [])
    by true = labeled_now here there r each inst.labels inst.operands
    by false = refl

inserted_now : (here there : Behind) (r : ℕ → ℕ) → ((p v : ℕ) → there p v ≡ r (here p v)) → (ps : List ℕ) (v : ℕ) → inserted_numbers there ps v ≡ map r (inserted_numbers here ps v)
inserted_now here there r each [] v = refl
inserted_now here there r each (p ∷ ps) v =
    ap (λ (n : ℕ). n ∷ inserted_numbers there ps v) (each p v) ∙ ap (λ (ns : List ℕ). r (here p v) ∷ ns) (inserted_now here there r each ps v)

inserted_long : (here : Behind) (ps : List ℕ) (v : ℕ) → length ps ≡ length (inserted_numbers here ps v)
inserted_long here [] v = refl
inserted_long here (p ∷ ps) v = ap suc (inserted_long here ps v)

-- ---- versions of the full naming

module _ (func : Function) (table : List Operand) where
  abbrev num : Name → ℕ
  num = number func table

  abbrev joins_here : ℕ → List ℕ
  joins_here b = joined_at func (full func table) b

  abbrev here : Behind
  here p = number_behind func table (full func table) num p

  abbrev fronts : ℕ → List ℕ
  fronts b = map num (map (joined b) (joins_here b))

  abbrev lines_here : ℕ → List ℕ
  lines_here b = lines_numbers func table (full func table) num b 0 (lines_at func b)

  abbrev uses_here : ℕ → List ℕ
  uses_here b = use_numbers (number_behind func table (full func table) num b) (entries_from func (full func table) b)

  module _ (joins : List (Vec ValueId)) (rows : List (Vec Slot)) (joins_are : AreJoins func table joins) (rows_are : AreNumbered func table (full func table) rows) where
    count_is_here : (b : ℕ) → b < length func.blocks → length (list_at joins b) ≡ length (fronts b)
    count_is_here b below =
        ap length (joins_are.each b below) ∙ length-map (joins_here b) valued
        ∙ sym (length-map (map (joined b) (joins_here b)) num ∙ length-map (joins_here b) (joined b))

    row_is : (b : ℕ) → b < length func.blocks → map number_of (list_at rows b) ≡ fronts b ++ (lines_here b ++ uses_here b)
    row_is b below =
        ap (map number_of) (rows_are.each b below) ∙ numbers_back (block_numbers func table (full func table) num b)
        ∙ append_assoc (fronts b) (lines_here b) (uses_here b)

    inserted_is : (b : ℕ) → b < length func.blocks → inserted_at joins rows b ≡ fronts b
    inserted_is b below =
        take_of_map number_of (length (list_at joins b)) (list_at rows b) ∙ ap (take (length (list_at joins b))) (row_is b below)
        ∙ take_front (length (list_at joins b)) (fronts b) (lines_here b ++ uses_here b) (count_is_here b below)

    behind_is : (b : ℕ) → b < length func.blocks → behind_inserted joins rows b ≡ lines_here b ++ uses_here b
    behind_is b below =
        drop_of_map number_of (length (list_at joins b)) (list_at rows b) ∙ ap (drop (length (list_at joins b))) (row_is b below)
        ∙ drop_front (length (list_at joins b)) (fronts b) (lines_here b ++ uses_here b) (count_is_here b below)

    -- ---- the entries of a block

    abbrev width : ℕ → ℕ
    width b = length (preds_of (graph_of func) b)

    abbrev taken : ℕ → ℕ → List ℕ
    taken b v = inserted_numbers here (preds func b) v

    width_is : (b v : ℕ) → width b ≡ length (taken b v)
    width_is b v = sym (length-map (preds_of (graph_of func) b) (λ label. label.0)) ∙ inserted_long here (preds func b) v

    abbrev row_phi : ℕ → ℕ → Phi ℕ
    row_phi b v = record { name = num (joined b v); operands = taken b v }

    fronts_map : (b : ℕ) (vs : List ℕ) → map num (map (joined b) vs) ≡ map (λ v. num (joined b v)) vs
    fronts_map b [] = refl
    fronts_map b (v ∷ vs) = ap (λ (ns : List ℕ). num (joined b v) ∷ ns) (fronts_map b vs)

    abbrev all_here : ℕ → List BasicBlock → List ℕ
    all_here b blocks = arriving_numbers here (preds func) (map joins_here (ups b blocks)) b blocks

    -- the entries of a block stand first, those of its inserted phis before the others
    first_here : (b : ℕ) (block : BasicBlock) (blocks : List BasicBlock)
        → all_here b (block ∷ blocks) ≡ flat_map (taken b) (joins_here b) ++ (flat_map (phi_numbers here) block.insts ++ all_here (suc b) blocks)
    first_here b block blocks = append_assoc (flat_map (taken b) (joins_here b)) (flat_map (phi_numbers here) block.insts) (all_here (suc b) blocks)

    block_phis_are : (b : ℕ) → b < length func.blocks → (block : BasicBlock) (blocks : List BasicBlock)
        → phis_over (width b) (inserted_at joins rows b) (all_here b (block ∷ blocks)) ≡ map (row_phi b) (joins_here b)
    block_phis_are b below block blocks =
        ap (λ (ns : List ℕ). phis_over (width b) ns (all_here b (block ∷ blocks))) (inserted_is b below ∙ fronts_map b (joins_here b))
        ∙ ap (phis_over (width b) (map (λ v. num (joined b v)) (joins_here b))) (first_here b block blocks)
        ∙ phis_taken (width b) (λ v. num (joined b v)) (taken b) (width_is b) (joins_here b) (flat_map (phi_numbers here) block.insts ++ all_here (suc b) blocks)

    behind_phis_are : (b : ℕ) → b < length func.blocks → (block : BasicBlock) (blocks : List BasicBlock)
        → behind_phis (width b) (inserted_at joins rows b) (all_here b (block ∷ blocks)) ≡ flat_map (phi_numbers here) block.insts ++ all_here (suc b) blocks
    behind_phis_are b below block blocks =
        ap (λ (ns : List ℕ). behind_phis (width b) ns (all_here b (block ∷ blocks))) (inserted_is b below ∙ fronts_map b (joins_here b))
        ∙ ap (behind_phis (width b) (map (λ v. num (joined b v)) (joins_here b))) (first_here b block blocks)
        ∙ phis_left (width b) (λ v. num (joined b v)) (taken b) (width_is b) (joins_here b) (flat_map (phi_numbers here) block.insts ++ all_here (suc b) blocks)

    behind_block_is : (b : ℕ) → b < length func.blocks → (block : BasicBlock) (blocks : List BasicBlock)
        → behind_entries block.insts (behind_phis (width b) (inserted_at joins rows b) (all_here b (block ∷ blocks))) ≡ all_here (suc b) blocks
    behind_block_is b below block blocks = ap (behind_entries block.insts) (behind_phis_are b below block blocks) ∙ lines_left here block.insts (all_here (suc b) blocks)

    -- ---- the web

    abbrev made : ℕ → List ℕ → Phi ℕ
    made name operands = record { name = name; operands = operands }

    taken_is : (ps : List ℕ) (v : ℕ) → inserted_numbers here ps v ≡ map num (map (λ p. names_at_end func table (full func table) p v) ps)
    taken_is [] v = refl
    taken_is (p ∷ ps) v = ap (λ (ns : List ℕ). here p v ∷ ns) (taken_is ps v)

    row_phis : (b : ℕ) (vs : List ℕ) → map (row_phi b) vs ≡ renamed_web num (map (phi_at func table (full func table) b) vs)
    row_phis b [] = refl
    row_phis b (v ∷ vs) =
        ap (λ (ns : List ℕ). made (num (joined b v)) ns ∷ map (row_phi b) vs) (taken_is (preds func b) v)
        ∙ ap (λ (ps : List (Phi ℕ)). renamed_phi num (phi_at func table (full func table) b v) ∷ ps) (row_phis b vs)

    web_blocks : (b : ℕ) (blocks : List BasicBlock) → b + length blocks ≡ length func.blocks
        → web_in joins rows (graph_of func) (all_here b blocks) b blocks
        ≡ renamed_web num (flat_map (λ c. map (phi_at func table (full func table) c) (joins_here c)) (ups b blocks))
    web_blocks b [] long = refl
    web_blocks b (block ∷ blocks) long =
        let below : b < length func.blocks = omega (arith, long) in
        let later : suc b + length blocks ≡ length func.blocks = omega (arith, long) in
        let rest = flat_map (λ (c : ℕ). map (phi_at func table (full func table) c) (joins_here c)) (ups (suc b) blocks) in
        ap (λ (ps : List (Phi ℕ)). ps ++ web_in joins rows (graph_of func) (behind_entries block.insts (behind_phis (width b) (inserted_at joins rows b) (all_here b (block ∷ blocks)))) (suc b) blocks)
        (block_phis_are b below block blocks ∙ row_phis b (joins_here b))
        ∙ ap (λ (ns : List ℕ). renamed_web num (map (phi_at func table (full func table) b) (joins_here b)) ++ web_in joins rows (graph_of func) ns (suc b) blocks)
        (behind_block_is b below block blocks)
        ∙ ap (λ (ps : List (Phi ℕ)). renamed_web num (map (phi_at func table (full func table) b) (joins_here b)) ++ ps) (web_blocks (suc b) blocks later)
        ∙ sym (map_append (renamed_phi num) (map (phi_at func table (full func table) b) (joins_here b)) rest)

    all_is : entry_numbers func table (full func table) ≡ all_here 0 func.blocks
    all_is = ap (λ (bs : List ℕ). arriving_numbers here (preds func) (map joins_here bs) 0 func.blocks) (ups_are 0 0 refl func.blocks)

    -- the web over the numbers is that of the names
    pub web_is : (entries : List ℕ) → entries ≡ entry_numbers func table (full func table)
        → web_in joins rows (graph_of func) entries 0 func.blocks ≡ renamed_web num (phis_of func table)
    web_is entries found =
        ap (λ (ns : List ℕ). web_in joins rows (graph_of func) ns 0 func.blocks) (found ∙ all_is)
        ∙ web_blocks 0 func.blocks (omega arith)
        ∙ sym (ap (λ (bs : List ℕ). renamed_web num (flat_map (λ c. map (phi_at func table (full func table) c) (joins_here c)) bs)) (ups_are 0 0 refl func.blocks))

    -- ---- what is left

    module _ (graph : IsReached func) (ends : List ℕ) (ends_are : AnswersBecomes (renamed_web num (phis_of func table)) ends) where
      abbrev new : Name → ℕ
      new = place_in (names_of func table (least func table))

      abbrev there : Behind
      there p = number_behind func table (least func table) new p

      abbrev r : ℕ → ℕ
      r = number_now ends

      end_now : (p v : ℕ) → there p v ≡ r (here p v)
      end_now p v = version_number func table graph ends ends_are p (length (lines_at func p)) v

      abbrev left : ℕ → List ℕ → List ℕ
      left b vs = filter (λ v. kept func table (joined b v)) vs

      kept_number : (b v : ℕ) → kept func table (joined b v) ≡ true → r (num (joined b v)) ≡ new (joined b v)
      kept_number b v is = name_now func table graph ends ends_are (joined b v) ∙ ap new (sym ((tells_names (joined b v) (now func table (joined b v))).0 is))

      joins_left : (b : ℕ) (vs : List ℕ) → left_at (stays ends) (map valued vs) (map num (map (joined b) vs)) ≡ map valued (left b vs)
      joins_left b [] = refl
      joins_left b (v ∷ vs) =
          ap (λ (t : Bool). if t then valued v ∷ left_at (stays ends) (map valued vs) (map num (map (joined b) vs)) else left_at (stays ends) (map valued vs) (map num (map (joined b) vs)))
          (name_stays func table graph ends ends_are (joined b v))
          ∙ by (kept func table (joined b v)) (joins_left b vs)
        where
          by : (t : Bool) → left_at (stays ends) (map valued vs) (map num (map (joined b) vs)) ≡ map valued (left b vs)
              → (if t then valued v ∷ left_at (stays ends) (map valued vs) (map num (map (joined b) vs)) else left_at (stays ends) (map valued vs) (map num (map (joined b) vs)))
              ≡ map valued (if t then v ∷ left b vs else left b vs)
          by true rest = ap (λ (ws : List ValueId). valued v ∷ ws) rest
          by false rest = rest

      fronts_left : (b : ℕ) (vs : List ℕ) → map r (filter (stays ends) (map num (map (joined b) vs))) ≡ map new (map (joined b) (left b vs))
      fronts_left b [] = refl
      fronts_left b (v ∷ vs) =
          ap (λ (t : Bool). map r (if t then num (joined b v) ∷ filter (stays ends) (map num (map (joined b) vs)) else filter (stays ends) (map num (map (joined b) vs))))
          (name_stays func table graph ends ends_are (joined b v))
          ∙ by (kept func table (joined b v)) refl (fronts_left b vs)
        where
          by : (t : Bool) → kept func table (joined b v) ≡ t → map r (filter (stays ends) (map num (map (joined b) vs))) ≡ map new (map (joined b) (left b vs))
              → map r (if t then num (joined b v) ∷ filter (stays ends) (map num (map (joined b) vs)) else filter (stays ends) (map num (map (joined b) vs)))
              ≡ map new (map (joined b) (if t then v ∷ left b vs else left b vs))
          by true is rest = ap (λ (n : ℕ). n ∷ map r (filter (stays ends) (map num (map (joined b) vs)))) (kept_number b v is) ∙ ap (λ (ns : List ℕ). new (joined b v) ∷ ns) rest
          by false is rest = rest

      taken_left : (b : ℕ) (vs : List ℕ) → flat_map (phi_left ends) (map (row_phi b) vs) ≡ flat_map (inserted_numbers there (preds func b)) (left b vs)
      taken_left b [] = refl
      taken_left b (v ∷ vs) =
          ap (λ (t : Bool). (if t then map r (taken b v) else []) ++ flat_map (phi_left ends) (map (row_phi b) vs)) (name_stays func table graph ends ends_are (joined b v))
          ∙ by (kept func table (joined b v)) (taken_left b vs)
        where
          by : (t : Bool) → flat_map (phi_left ends) (map (row_phi b) vs) ≡ flat_map (inserted_numbers there (preds func b)) (left b vs)
              → (if t then map r (taken b v) else []) ++ flat_map (phi_left ends) (map (row_phi b) vs) ≡ flat_map (inserted_numbers there (preds func b)) (if t then v ∷ left b vs else left b vs)
          by true rest =
              ap (λ (ns : List ℕ). ns ++ flat_map (phi_left ends) (map (row_phi b) vs)) (sym (inserted_now here there r end_now (preds func b) v))
              ∙ ap (λ (ns : List ℕ). inserted_numbers there (preds func b) v ++ ns) rest
          by false rest = rest

      -- ---- lines

      names_now : (b k : ℕ) → map new (line_names func table b k) ≡ map r (map num (line_names func table b k))
      names_now b k = maps_now num new r (line_names func table b k) (λ n has. fixed_number func table graph ends ends_are n (line_fixed func table b k n has))

      line_now : (b k : ℕ) (line : Line) → line_numbers func table (least func table) new b k line ≡ map r (line_numbers func table (full func table) num b k line)
      line_now b k line = by (calls line)
        where
          at : (v : ℕ) → number_at func table (least func table) new b k v ≡ r (number_at func table (full func table) num b k v)
          at v = version_number func table graph ends ends_are b k v

          back : (operands : List Operand) → use_numbers (number_at func table (least func table) new b k) operands ≡ map r (use_numbers (number_at func table (full func table) num b k) operands)
          back operands = uses_now (number_at func table (full func table) num b k) (number_at func table (least func table) new b k) r at operands

          by : (t : Bool)
              → (if t then
              use_numbers (number_at func table (least func table) new b k) line.inst.operands ++ (map (number_at func table (least func table) new b k) (live_list func table b k)
              ++ (use_numbers (number_at func table (least func table) new b k) (held_in line.inst.bundle) ++ map new (line_names func table b k)))
              else use_numbers (number_at func table (least func table) new b k) (own_uses line.inst)
              ++ (use_numbers (number_at func table (least func table) new b k) (held_in line.inst.bundle) ++ map new (line_names func table b k)))
              ≡ map r (if t then
              use_numbers (number_at func table (full func table) num b k) line.inst.operands ++ (map (number_at func table (full func table) num b k) (live_list func table b k)
              ++ (use_numbers (number_at func table (full func table) num b k) (held_in line.inst.bundle) ++ map num (line_names func table b k)))
              else use_numbers (number_at func table (full func table) num b k) (own_uses line.inst)
              ++ (use_numbers (number_at func table (full func table) num b k) (held_in line.inst.bundle) ++ map num (line_names func table b k)))
          by true =
              two_now r _ _ _ _ (back line.inst.operands)
              (two_now r _ _ _ _
              (maps_now (number_at func table (full func table) num b k) (number_at func table (least func table) new b k) r (live_list func table b k) (λ v has. at v))
              (two_now r _ _ _ _ (back (held_in line.inst.bundle)) (names_now b k)))
          by false = two_now r _ _ _ _ (back (own_uses line.inst)) (two_now r _ _ _ _ (back (held_in line.inst.bundle)) (names_now b k))

      lines_now : (b k : ℕ) (lines : List Line) → lines_numbers func table (least func table) new b k lines ≡ map r (lines_numbers func table (full func table) num b k lines)
      lines_now b k [] = refl
      lines_now b k (line ∷ lines) = two_now r _ _ _ _ (line_now b k line) (lines_now b (suc k) lines)

      row_left_is : (b : ℕ) → b < length func.blocks → row_left joins rows ends b ≡ body_numbers func table (least func table) new b ++ map r (uses_here b)
      row_left_is b below =
          ap (λ (ns : List ℕ). map r (filter (stays ends) ns) ++ map r (behind_inserted joins rows b)) (inserted_is b below)
          ∙ ap (λ (ns : List ℕ). map r (filter (stays ends) (fronts b)) ++ map r ns) (behind_is b below)
          ∙ ap (λ (ns : List ℕ). ns ++ map r (lines_here b ++ uses_here b)) (fronts_left b (joins_here b))
          ∙ ap (λ (ns : List ℕ). map new (map (joined b) (left b (joins_here b))) ++ ns)
          (map_append r (lines_here b) (uses_here b) ∙ ap (λ (ns : List ℕ). ns ++ map r (uses_here b)) (sym (lines_now b 0 (lines_at func b))))
          ∙ ap (λ (vs : List ℕ). map new (map (joined b) vs) ++ (lines_numbers func table (least func table) new b 0 (lines_at func b) ++ map r (uses_here b))) (sym (joined_left func table b))
          ∙ sym (append_assoc (map new (map (joined b) (joined_at func (least func table) b))) (lines_numbers func table (least func table) new b 0 (lines_at func b)) (map r (uses_here b)))

      join_left_is : (b : ℕ) → b < length func.blocks → join_left joins rows ends b ≡ map valued (joined_at func (least func table) b)
      join_left_is b below =
          ap (λ (vs : List ValueId). left_at (stays ends) vs (inserted_at joins rows b)) (joins_are.each b below)
          ∙ ap (left_at (stays ends) (map valued (joins_here b))) (inserted_is b below)
          ∙ joins_left b (joins_here b) ∙ ap (map valued) (sym (joined_left func table b))

      -- ---- entries

      left_blocks : (b : ℕ) (blocks : List BasicBlock) → b + length blocks ≡ length func.blocks
          → entries_left joins rows (graph_of func) ends (all_here b blocks) b blocks
          ≡ arriving_numbers there (preds func) (map (joined_at func (least func table)) (ups b blocks)) b blocks
      left_blocks b [] long = refl
      left_blocks b (block ∷ blocks) long =
          let below : b < length func.blocks = omega (arith, long) in
          let later : suc b + length blocks ≡ length func.blocks = omega (arith, long) in
          let own = flat_map (phi_numbers here) block.insts in
          ap (λ (ps : List (Phi ℕ)). (flat_map (phi_left ends) ps
          ++ map r (entries_over block.insts (behind_phis (width b) (inserted_at joins rows b) (all_here b (block ∷ blocks)))))
          ++ entries_left joins rows (graph_of func) ends (behind_entries block.insts (behind_phis (width b) (inserted_at joins rows b) (all_here b (block ∷ blocks)))) (suc b) blocks)
          (block_phis_are b below block blocks)
          ∙ ap (λ (ns : List ℕ). (flat_map (phi_left ends) (map (row_phi b) (joins_here b)) ++ map r (entries_over block.insts ns))
          ++ entries_left joins rows (graph_of func) ends (behind_entries block.insts ns) (suc b) blocks)
          (behind_phis_are b below block blocks)
          ∙ ap (λ (ns : List ℕ). (flat_map (phi_left ends) (map (row_phi b) (joins_here b)) ++ map r ns)
          ++ entries_left joins rows (graph_of func) ends (behind_entries block.insts (own ++ all_here (suc b) blocks)) (suc b) blocks)
          (lines_taken here block.insts (all_here (suc b) blocks))
          ∙ ap (λ (ns : List ℕ). (flat_map (phi_left ends) (map (row_phi b) (joins_here b)) ++ map r own) ++ entries_left joins rows (graph_of func) ends ns (suc b) blocks)
          (lines_left here block.insts (all_here (suc b) blocks))
          ∙ ap (λ (ns : List ℕ). (flat_map (phi_left ends) (map (row_phi b) (joins_here b)) ++ map r own) ++ ns) (left_blocks (suc b) blocks later)
          ∙ ap (λ (ns : List ℕ). (flat_map (phi_left ends) (map (row_phi b) (joins_here b)) ++ ns)
          ++ arriving_numbers there (preds func) (map (joined_at func (least func table)) (ups (suc b) blocks)) (suc b) blocks)
          (sym (phis_now here there r end_now block.insts))
          ∙ ap (λ (ns : List ℕ). (ns ++ flat_map (phi_numbers there) block.insts)
          ++ arriving_numbers there (preds func) (map (joined_at func (least func table)) (ups (suc b) blocks)) (suc b) blocks)
          (taken_left b (joins_here b) ∙ ap (flat_map (inserted_numbers there (preds func b))) (sym (joined_left func table b)))

      entries_are : (entries : List ℕ) → entries ≡ entry_numbers func table (full func table)
          → entries_left joins rows (graph_of func) ends entries 0 func.blocks ≡ entry_numbers func table (least func table)
      entries_are entries found =
          ap (λ (ns : List ℕ). entries_left joins rows (graph_of func) ends ns 0 func.blocks) (found ∙ all_is)
          ∙ left_blocks 0 func.blocks (omega arith)
          ∙ sym (ap (λ (bs : List ℕ). arriving_numbers there (preds func) (map (joined_at func (least func table)) bs) 0 func.blocks) (ups_are 0 0 refl func.blocks))

-- what is left of the versions of the full naming are those of the least
pub least_versions : (func : Function) (table : List Operand) (old after : Versions) → AreJoins func table old.joins.items → AreNumbered func table (full func table) old.rows.items
    → old.entries.items ≡ entry_numbers func table (full func table) → IsReached func
    → (ends : List ℕ) → AnswersBecomes (web_in old.joins.items old.rows.items (graph_of func) old.entries.items 0 func.blocks) ends
    → IsThinned func (graph_of func) ends old after → AreVersions func table (least func table) after
least_versions func table old after joins_are rows_are found graph ends settled thin =
    let joins = old.joins.items in
    let rows = old.rows.items in
    let answers : AnswersBecomes (renamed_web (number func table) (phis_of func table)) ends =
    subst (λ (web : List (Phi ℕ)). AnswersBecomes web ends) (web_is func table joins rows joins_are rows_are old.entries.items found) settled in
    record {
      joins = λ b below.
          listed_at (λ vs. vs) after.joins.items (join_left joins rows ends) (length joins) b thin.joins (omega (arith, joins_are.whole))
          ∙ join_left_is func table joins rows joins_are rows_are graph ends answers b below;
      rows = λ b below. (
        map (number_now ends) (use_numbers (number_behind func table (full func table) (number func table) b) (entries_from func (full func table) b)),
        listed_at (map number_of) after.rows.items (row_left joins rows ends) (length rows) b thin.rows (omega (arith, rows_are.whole))
            ∙ row_left_is func table joins rows joins_are rows_are graph ends answers b below,
      );
      entries = thin.entries ∙ entries_are func table joins rows joins_are rows_are graph ends answers old.entries.items found;
    }

-- where all names stay, the least naming is the full one
all_same : (func : Function) (table : List Operand) → ((n : Name) → kept func table n ≡ true) → full func table ≡ least func table
all_same func table each =
    λ i. record {
      joins = λ b v. joins b v i;
      front = λ b v. (tells_names ((full func table).front b v) (now func table ((full func table).front b v))).0 (each ((full func table).front b v)) i;
    }
  where
    both : (x y : Bool) → y ≡ true → x ≡ (x && y)
    both true y is = sym is
    both false y is = refl

    joins : (b v : ℕ) → (full func table).joins b v ≡ (least func table).joins b v
    joins b v = both ((full func table).joins b v) (kept func table (joined b v)) (each (joined b v))

-- the versions of the full naming, where all names stay
pub same_versions : (func : Function) (table : List Operand) (old : Versions) → AreJoins func table old.joins.items → AreNumbered func table (full func table) old.rows.items
    → old.entries.items ≡ entry_numbers func table (full func table) → IsReached func
    → (ends : List ℕ) → AnswersBecomes (web_in old.joins.items old.rows.items (graph_of func) old.entries.items 0 func.blocks) ends
    → ((n : ℕ) → up_of ends n ≡ n) → AreVersions func table (least func table) old
same_versions func table old joins_are rows_are found graph ends settled own =
    let joins = old.joins.items in
    let rows = old.rows.items in
    let answers : AnswersBecomes (renamed_web (number func table) (phis_of func table)) ends =
    subst (λ (web : List (Phi ℕ)). AnswersBecomes web ends) (web_is func table joins rows joins_are rows_are old.entries.items found) settled in
    subst (λ (naming : Naming). AreVersions func table naming old)
    (all_same func table (λ n. sym (name_stays func table graph ends answers n) ∙ eq-eqb (up_of ends (number func table n)) (number func table n) (own (number func table n))))
    (record {
      joins = λ b below. joins_are.each b below;
      rows = λ b below. (
        use_numbers (number_behind func table (full func table) (number func table) b) (entries_from func (full func table) b),
        ap (map number_of) (rows_are.each b below) ∙ numbers_back (block_numbers func table (full func table) (number func table) b),
      );
      entries = found;
    })
