-- All values of a formed function have numbers below its count of values.
use Rattle.std.proofs.Common.{◌≡◌, ◌∙◌, ℕ, zero, suc, ◌<◌, ◌≤◌, ◌+◌, inl, inr, Bool, true, false, eqb, if◌then◌else◌, List, [], ◌∷◌, ◌++◌, length, map, filter, take, Option, Some, None, is_some, slice_get, refl, ap, sym, arith, subst, length-append}
use Rattle.std.specs.Prelude.{slice_index}
use Rattle.std.specs.List.{Contains, filter_map, flat_map, range_with_len}
use Rattle.std.specs.Option.{option_map_or}
use Rattle.std.proofs.lemmas.Bool.{cases_Bool, cases_eq, eq-eqb, false≢true}
use Rattle.std.proofs.lemmas.List.{length-map, take_all}
use Rattle.std.proofs.lemmas.List.Elements.{filter-append}
use Rattle.std.proofs.lemmas.Option.{slice_get_within}
use Rattle.list_laws.proofs.Places.{get_front, get_past}
use Rattle.list_laws.proofs.Contents.{contains_get, get_contained, joined_contains, all_at}
use Rattle.sp_ids.specs.declared.ids.BlockId.{BlockId}
use Rattle.ir_ast.specs.declared.ops.Operand.{Operand}
use Rattle.ir_ast.specs.declared.ops.Operand.TheVariants.{Value, Int, Null, Fun}
use Rattle.ir_ast.specs.Insts.{Instruction}
use Rattle.ir_ast.specs.Blocks.{BasicBlock}
use Rattle.ir_ast.specs.Funcs.{Function, instructions_of}
use Rattle.ir_ast.specs.Types.{is_pointer}
use Rattle.ir_ast.specs.Values.{definitions_of, definition_type, value_types, argument, outcome}
use Rattle.ir_ast.specs.Operands.{value_in, values_used, valued}
use Rattle.ir_ast.specs.Faults.PhiEdges.{is_phi}
use Rattle.ir_ast.specs.Faults.UnknownName.{NamesOfFunction, LocalNamesAreKnown}
use Rattle.object_meaning.specs.Lines.{Line, numbered, after_all, first_registers, registers_of, insts_in}
use Rattle.rewriting_forms.specs.Numbered.{among, lines_at, gives, pointers, preds}
use Rattle.rewriting_forms.specs.Names.{Naming}
use Rattle.rewriting_forms.specs.Rewritten.{joined_at}
use Rattle.rewriting_laws.proofs.NameLemmas.{among_filter, among_cons, among_here, among_there}
use Rattle.live_sets.proofs.UseLemmas.{line_back, given_between}
use Rattle.ssa_rebuild.specs.Rows.{AreKnown, held_in, own_uses, entries_for, phi_entries, inserted_entries, entries_into, entries_from}
use Rattle.ssa_rebuild.proofs.TaskLaws.{results, after_is, first_next}

-- ---- how many values there are

pub results_append : (one other : List Instruction) → results (one ++ other) ≡ results one + results other
results_append one other =
    ap length (filter-append (λ (inst : Instruction). is_some inst.result) one other)
    ∙ length-append (filter (λ (inst : Instruction). is_some inst.result) one) (filter (λ (inst : Instruction). is_some inst.result) other)

last_is : (next : ℕ) (blocks : List BasicBlock) → slice_index (first_registers next blocks) (length blocks) ≡ next + results (instructions_of blocks)
last_is next [] = omega arith
last_is next (block ∷ blocks) =
    let rest = last_is (after_all next block.insts) blocks in
    let here = after_is next block.insts in
    let both = results_append block.insts (instructions_of blocks) in
    omega (arith, rest, here, both)

first_up : (next : ℕ) (blocks : List BasicBlock) (b : ℕ) → b ≤ length blocks
    → slice_index (first_registers next blocks) b ≤ slice_index (first_registers next blocks) (length blocks)
first_up next [] zero within = omega arith
first_up next [] (suc b) within = absurd (omega arith)
first_up next (block ∷ blocks) zero within = let last = last_is next (block ∷ blocks) in omega (arith, last)
first_up next (block ∷ blocks) (suc b) within = first_up (after_all next block.insts) blocks b (omega arith)

module _ (func : Function) where
  abbrev pub count : ℕ
  count = slice_index (registers_of func) (length func.blocks)

  pub count_is : count ≡ length (definitions_of func)
  count_is =
      let last = last_is (length func.args) func.blocks in
      let outcomes = filter (λ (inst : Instruction). is_some inst.result) (instructions_of func.blocks) in
      let split = length-append (map argument func.args) (map outcome outcomes) in
      let one = length-map func.args argument in
      let two = length-map outcomes outcome in
      omega (arith, last, split, one, two)

  in_range : (v from n : ℕ) → among v (range_with_len from n) ≡ true → v < from + n
  in_range v from zero is = absurd (false≢true is)
  in_range v from (suc n) is = elim (cases_eq from v) [
    | inl e ↦ omega (arith, e)
    | inr ne ↦ (let rest = in_range v (from + 1) n (among_cons v from (range_with_len (from + 1) n) is ne) in omega (arith, rest))
  ]

  pub pointers_inside : (v : ℕ) → among v (pointers func) ≡ true → v < count
  pointers_inside v is =
      let parts = among_filter (λ v. option_map_or is_pointer (slice_get (value_types func) v) false) v (range_with_len 0 (length (value_types func))) is in
      let below = in_range v 0 (length (value_types func)) parts.0 in
      let types = length-map (definitions_of func) definition_type in
      let all = count_is in
      omega (arith, below, types, all)

  block_of : (b k : ℕ) (inst : Instruction) → slice_get (insts_in func b) k ≡ Some inst → (block : BasicBlock) × (slice_get func.blocks b ≡ Some block) × (block.insts ≡ insts_in func b)
  block_of b k inst is = go (slice_get func.blocks b) refl
    where
      go : (o : Option BasicBlock) → slice_get func.blocks b ≡ o → (block : BasicBlock) × (slice_get func.blocks b ≡ Some block) × (block.insts ≡ insts_in func b)
      go None none = absurd (let h : slice_get [] k ≡ Some inst = ap (λ (o : Option BasicBlock). slice_get (option_map_or (λ (block : BasicBlock). block.insts) o []) k) (sym none) ∙ is in cc)
      go (Some block) some = (block, some, sym (ap (λ (o : Option BasicBlock). option_map_or (λ (block : BasicBlock). block.insts) o []) some))

  pub results_inside : (b k x : ℕ) (line : Line) → slice_get (lines_at func b) k ≡ Some line → line.to ≡ Some x → x < count
  results_inside b k x line stands to =
      let n = slice_index (registers_of func) b in
      let insts = insts_in func b in
      let from = line_back n insts k line stands in
      let block = block_of b k from.inst from.at in
      let within = slice_get_within insts k from.inst from.at in
      let given : gives (numbered (after_all n (take k insts)) from.inst) x ≡ true =
      ap (λ (l : Line). gives l x) (sym from.is) ∙ ap (λ (o : Option ℕ). option_map_or (λ y. eqb y x) o false) to ∙ same x in
      let between = given_between n insts k (length insts) x from.inst within from.at given in
      let all : after_all n (take (length insts) insts) ≡ after_all n insts = ap (after_all n) (take_all (length insts) insts (omega arith)) in
      let next = first_next (length func.args) func.blocks b block.0 block.1 ∙ ap (after_all n) block.2 in
      let there = slice_get_within func.blocks b block.0 block.1 in
      let up = first_up (length func.args) func.blocks (b + 1) (omega (arith, there)) in
      omega (arith, between.1, all, next, up)
    where
      same : (x : ℕ) → eqb x x ≡ true
      same x = eq-eqb x x refl

  -- ---- what lines use

  known_from : (n : ℕ) (operands : List Operand) → ((k x : ℕ) → slice_get (filter_map value_in operands) k ≡ Some x → x < n) → AreKnown n operands
  known_from n [] each = tt
  known_from n (Value value ∷ operands) each = (each 0 value.0 refl, known_from n operands (λ k x is. each (suc k) x is))
  known_from n (Int word ∷ operands) each = known_from n operands each
  known_from n (Null ∷ operands) each = known_from n operands each
  known_from n (Fun f ∷ operands) each = known_from n operands each

  values_append : (one other : List Operand) → filter_map value_in (one ++ other) ≡ filter_map value_in one ++ filter_map value_in other
  values_append [] other = refl
  values_append (Value value ∷ one) other = ap (λ (vs : List ℕ). value.0 ∷ vs) (values_append one other)
  values_append (Int word ∷ one) other = values_append one other
  values_append (Null ∷ one) other = values_append one other
  values_append (Fun f ∷ one) other = values_append one other

  module _ (known : LocalNamesAreKnown func) where
    inst_known : (b k : ℕ) (line : Line) → slice_get (lines_at func b) k ≡ Some line → (j x : ℕ) → slice_get (values_used line.inst) j ≡ Some x → x < count
    inst_known b k line stands j x is =
        let from = line_back (slice_index (registers_of func) b) (insts_in func b) k line stands in
        let block = block_of b k from.inst from.at in
        let in_block : Contains block.0.insts from.inst = contains_get block.0.insts k from.inst (ap (λ (is : List Instruction). slice_get is k) block.2 ∙ from.at) in
        let has = joined_contains (λ (block : BasicBlock). block.insts) func.blocks block.0 from.inst (contains_get func.blocks b block.0 block.1) in_block in
        let at = get_contained (instructions_of func.blocks) from.inst has in
        let names = all_at (NamesOfFunction func) (instructions_of func.blocks) at.0 from.inst known at.1 in
        let same : line.inst ≡ from.inst = ap (λ (l : Line). l.inst) from.is in
        let below = all_at (λ value. value < length (definitions_of func)) (values_used from.inst) j x names.values (ap (λ (i : Instruction). slice_get (values_used i) j) (sym same) ∙ is) in
        let all = count_is in
        omega (arith, below, all)

    operands_inside : (b k : ℕ) (line : Line) → slice_get (lines_at func b) k ≡ Some line → AreKnown count line.inst.operands × AreKnown count (held_in line.inst.bundle)
    operands_inside b k line stands =
        let split = values_append line.inst.operands (held_in line.inst.bundle) in (
          known_from count line.inst.operands (λ j x is. inst_known b k line stands j x
              (ap (λ (vs : List ℕ). slice_get vs j) split ∙ get_front (filter_map value_in line.inst.operands) (filter_map value_in (held_in line.inst.bundle)) j x is)),
          known_from count (held_in line.inst.bundle) (λ j x is. inst_known b k line stands (length (filter_map value_in line.inst.operands) + j) x
              (ap (λ (vs : List ℕ). slice_get vs (length (filter_map value_in line.inst.operands) + j)) split
              ∙ get_past (filter_map value_in line.inst.operands) (filter_map value_in (held_in line.inst.bundle)) j ∙ is)),
        )

    pub uses_inside : (b k : ℕ) (line : Line) → slice_get (lines_at func b) k ≡ Some line
        → AreKnown count line.inst.operands × AreKnown count (own_uses line.inst) × AreKnown count (held_in line.inst.bundle)
    uses_inside b k line stands =
        let both = operands_inside b k line stands in
        (both.0, elim (cases_Bool (is_phi line.inst.op)) [ inl phi ↦ rw phi tt | inr other ↦ rw other both.0 ], both.1)

    -- ---- what entries use

    known_append : (one other : List Operand) → AreKnown count one → AreKnown count other → AreKnown count (one ++ other)
    known_append [] other first second = second
    known_append (Value value ∷ one) other first second = (first.0, known_append one other first.1 second)
    known_append (Int word ∷ one) other first second = known_append one other first second
    known_append (Null ∷ one) other first second = known_append one other first second
    known_append (Fun f ∷ one) other first second = known_append one other first second

    known_flat : {A : Type 0} (f : A → List Operand) (xs : List A) → ((k : ℕ) (x : A) → slice_get xs k ≡ Some x → AreKnown count (f x)) → AreKnown count (flat_map f xs)
    known_flat f [] each = tt
    known_flat f (x ∷ xs) each = known_append (f x) (flat_map f xs) (each 0 x refl) (known_flat f xs (λ k y is. each (suc k) y is))

    inserted_known : (from v : ℕ) (ps : List ℕ) → v < count → AreKnown count (inserted_entries from ps v)
    inserted_known from v [] below = tt
    inserted_known from v (p ∷ ps) below =
        known_append (if eqb p from then Value (valued v) ∷ [] else []) (inserted_entries from ps v) (one (eqb p from)) (inserted_known from v ps below)
      where
        one : (t : Bool) → AreKnown count (if t then Value (valued v) ∷ [] else [])
        one true = (below, tt)
        one false = tt

    entries_known : (from : ℕ) (labels : List BlockId) (operands : List Operand) → AreKnown count operands → AreKnown count (entries_for from labels operands)
    entries_known from [] operands is = tt
    entries_known from (label ∷ labels) [] is = tt
    entries_known from (label ∷ labels) (Value value ∷ operands) is = known_append (if eqb label.0 from then Value value ∷ [] else []) (entries_for from labels operands) (one (eqb label.0 from)) (entries_known from labels operands is.1)
      where
        one : (t : Bool) → AreKnown count (if t then Value value ∷ [] else [])
        one true = (is.0, tt)
        one false = tt
    entries_known from (label ∷ labels) (Int word ∷ operands) is = known_append (if eqb label.0 from then Int word ∷ [] else []) (entries_for from labels operands) (one (eqb label.0 from)) (entries_known from labels operands is)
      where
        one : (t : Bool) → AreKnown count (if t then Int word ∷ [] else [])
        one true = tt
        one false = tt
    entries_known from (label ∷ labels) (Null ∷ operands) is = known_append (if eqb label.0 from then Null ∷ [] else []) (entries_for from labels operands) (one (eqb label.0 from)) (entries_known from labels operands is)
      where
        one : (t : Bool) → AreKnown count (if t then Null ∷ [] else [])
        one true = tt
        one false = tt
    entries_known from (label ∷ labels) (Fun f ∷ operands) is = known_append (if eqb label.0 from then Fun f ∷ [] else []) (entries_for from labels operands) (one (eqb label.0 from)) (entries_known from labels operands is)
      where
        one : (t : Bool) → AreKnown count (if t then Fun f ∷ [] else [])
        one true = tt
        one false = tt

    pub entries_inside : (naming : Naming) (from : ℕ) → AreKnown count (entries_from func naming from)
    entries_inside naming from = known_flat (entries_into func naming from) (range_with_len 0 (length func.blocks)) (λ k to at. into to)
      where
        phi_known : (to k : ℕ) (line : Line) → slice_get (lines_at func to) k ≡ Some line → AreKnown count (phi_entries from line.inst)
        phi_known to k line at = elim (cases_Bool (is_phi line.inst.op)) [
          | inl phi ↦ rw phi (entries_known from line.inst.labels line.inst.operands (operands_inside to k line at).0)
          | inr other ↦ rw other tt
        ]

        among_at : (xs : List ℕ) (k v : ℕ) → slice_get xs k ≡ Some v → among v xs ≡ true
        among_at [] k v is = absurd (let h : None ≡ Some v = is in cc)
        among_at (x ∷ xs) zero v is = (let e : x ≡ v = cc in subst (λ (y : ℕ). among y (x ∷ xs) ≡ true) e (among_here x xs))
        among_at (x ∷ xs) (suc k) v is = among_there v x xs (among_at xs k v is)

        into : (to : ℕ) → AreKnown count (entries_into func naming from to)
        into to =
            known_append (flat_map (inserted_entries from (preds func to)) (joined_at func naming to)) (flat_map (λ line. phi_entries from line.inst) (lines_at func to))
            (known_flat (inserted_entries from (preds func to)) (joined_at func naming to)
            (λ k v at. inserted_known from v (preds func to) (pointers_inside v (among_filter (naming.joins to) v (pointers func) (among_at (joined_at func naming to) k v at)).0)))
            (known_flat (λ line. phi_entries from line.inst) (lines_at func to) (λ k line at. phi_known to k line at))
