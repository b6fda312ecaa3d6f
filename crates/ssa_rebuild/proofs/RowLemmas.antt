-- The rows of slots, a line and an entry at a time.
use Rattle.std.proofs.Common.{◌≡◌, ◌∙◌, ℕ, zero, suc, ◌<◌, ◌≤◌, ◌+◌, ◌⊎◌, inl, inr, Bool, eqb, if◌then◌else◌, List, [], ◌∷◌, ◌++◌, length, map, take, drop, get_or, Option, Some, None, is_some, slice_get, refl, ap, sym, arith, append_assoc, append-nil}
use Rattle.std.specs.Prelude.{slice_set, slice_index, ◌^◌}
use Rattle.std.specs.List.{flat_map}
use Rattle.std.specs.Global.{Vec}
use Rattle.std.proofs.lemmas.Bool.{cases_Bool, cases_eq, eq-eqb, ne_eqb}
use Rattle.std.proofs.lemmas.Grind.{flat_map-append}
use Rattle.std.proofs.lemmas.List.{length-set, take_more, map-append, get_or_push, get_or_append_left}
use Rattle.std.proofs.lemmas.Option.{slice_get-get_or}
use Rattle.list_laws.proofs.Places.{drop_at, get_map}
use Rattle.sp_ids.specs.declared.ids.BlockId.{BlockId}
use Rattle.sp_ids.specs.declared.ids.ValueId.{ValueId}
use Rattle.ir_ast.specs.declared.types.Ty.{Ty}
use Rattle.ir_ast.specs.declared.ops.Operand.{Operand}
use Rattle.ir_ast.specs.declared.ops.Operand.TheVariants.{Value, Int, Null, Fun}
use Rattle.ir_ast.specs.Insts.{Instruction}
use Rattle.ir_ast.specs.Blocks.{BasicBlock}
use Rattle.object_meaning.specs.Lines.{Line, following, numbered, after_all}
use Rattle.object_meaning.specs.TargetRuns.{plain_lines}
use Rattle.rewriting_forms.specs.Numbered.{calls}
use Rattle.version_walk.specs.declared.slots.Slot.{Slot}
use Rattle.version_walk.specs.declared.slots.Slot.TheVariants.{Use}
use Rattle.version_walk.specs.Slots.{next_behind}
use Rattle.version_walk.specs.Forest.{list_at}
use Rattle.ssa_rebuild.specs.Rows.{held_in, uses_of, one_slots, listed_slots, count_of_call, calls_of, entries_for, inserted_entries, Grows, give_slot, body_rows, owns, starts_of, all_owns, slots_in, entries_all, phi_entries}
use Rattle.version_walk.proofs.ForestLemmas.{at_same, at_other, list_is}
use Rattle.ir_ast.specs.Operands.{valued}
use Rattle.statepoint_insert.specs.Groups.{numbers_in}

-- ---- lists that are joined

pub joined_on : {A : Type 0} (first middle last added rest : List A) → middle ≡ first ++ added → last ≡ middle ++ rest → last ≡ first ++ (added ++ rest)
joined_on first middle last added rest one two = two ∙ ap (λ (t : List _). t ++ rest) one ∙ append_assoc first added rest

pub added_more : {A : Type 0} (f : List A → List Slot) → ((one other : List A) → f (one ++ other) ≡ f one ++ f other)
    → (taken more : List A) (x : A) (old now new : List Slot) → more ≡ taken ++ x ∷ [] → now ≡ old ++ f taken → new ≡ now ++ f (x ∷ []) → new ≡ old ++ f more
added_more f split taken more x old now new is so_far added =
    joined_on old now new (f taken) (f (x ∷ [])) so_far added ∙ sym (ap (λ (xs : List Slot). old ++ xs) (ap f is ∙ split taken (x ∷ [])))

pub flat_more : {A B : Type 0} (f : A → List B) (taken more : List A) (x : A) → more ≡ taken ++ x ∷ [] → flat_map f more ≡ flat_map f taken ++ f x
flat_more f taken more x is = ap (flat_map f) is ∙ flat_map-append f taken (x ∷ []) ∙ ap (λ (ys : List _). flat_map f taken ++ ys) (append-nil (f x))

pub uses_append : (one other : List Operand) → uses_of (one ++ other) ≡ uses_of one ++ uses_of other
uses_append [] other = refl
uses_append (Value value ∷ one) other = ap (λ (ss : List Slot). Use value ∷ ss) (uses_append one other)
uses_append (Int word ∷ one) other = uses_append one other
uses_append (Null ∷ one) other = uses_append one other
uses_append (Fun func ∷ one) other = uses_append one other

-- ---- lines

pub slots_step : (lists : List (List ℕ)) (call next : ℕ) (inst : Instruction) (insts : List Instruction)
    → listed_slots lists call (plain_lines next (inst ∷ insts))
    ≡ one_slots lists call (numbered next inst) ++ listed_slots lists (call + count_of_call (numbered next inst)) (plain_lines (following next inst) insts)
slots_step lists call next inst insts = elim (cases_Bool (calls (numbered next inst))) [
  | inl is ↦ rw is refl
  | inr not ↦ (let e : call + 0 ≡ call = omega arith in rw (not, e) refl)
]

-- ---- rows that grow

pub grows_none : (rows : List (Vec Slot)) (added : ℕ → List Operand) → ((p : ℕ) → p < length rows → added p ≡ []) → Grows rows rows added
grows_none rows added none = record {
  whole = refl;
  each = λ p within. sym (ap (λ (os : List Operand). list_at rows p ++ uses_of os) (none p within) ∙ append-nil (list_at rows p));
}

pub grows_both : (old middle new : List (Vec Slot)) (one two both : ℕ → List Operand) → Grows old middle one → Grows middle new two
    → ((p : ℕ) → both p ≡ one p ++ two p) → Grows old new both
grows_both old middle new one two both first second split = record {
  whole = second.whole ∙ first.whole;
  each = λ p within.
      second.each p (let same = first.whole in omega arith) ∙ ap (λ (xs : List Slot). xs ++ uses_of (two p)) (first.each p within)
      ∙ append_assoc (list_at old p) (uses_of (one p)) (uses_of (two p))
      ∙ sym (ap (λ (xs : List Slot). list_at old p ++ xs) (ap uses_of (split p) ∙ uses_append (one p) (two p)));
}

pub grows_same : (old new : List (Vec Slot)) (one other : ℕ → List Operand) → ((p : ℕ) → one p ≡ other p) → Grows old new one → Grows old new other
grows_same old new one other same grows = record {
  whole = grows.whole;
  each = λ p within. grows.each p within ∙ ap (λ (os : List Operand). list_at old p ++ uses_of os) (same p);
}

pub grows_at : (rows : List (Vec Slot)) (label : ℕ) (row : Vec Slot) (operand : Operand) → label < length rows → row.items ≡ list_at rows label ++ uses_of (operand ∷ [])
    → Grows rows (slice_set rows label row) (λ p. if eqb label p then operand ∷ [] else [])
grows_at rows label row operand within added = record {
  whole = length-set rows label row;
  each = λ p inside. elim (cases_eq label p) [
    | inl e ↦
        ap (λ (n : ℕ). list_at (slice_set rows label row) n) (sym e) ∙ at_same rows label row within ∙ added
        ∙ ap (λ (n : ℕ). list_at rows n ++ uses_of (operand ∷ [])) e ∙ sym (ap (λ (t : Bool). list_at rows p ++ uses_of (if t then operand ∷ [] else [])) (eq-eqb label p e))
    | inr ne ↦
        at_other rows label p row ne ∙ sym (append-nil (list_at rows p)) ∙ sym (ap (λ (t : Bool). list_at rows p ++ uses_of (if t then operand ∷ [] else [])) (ne_eqb label p ne))
  ];
}

pub grows_past : (rows : List (Vec Slot)) (label : ℕ) (operand : Operand) → length rows ≤ label → Grows rows rows (λ p. if eqb label p then operand ∷ [] else [])
grows_past rows label operand past = grows_none rows (λ p. if eqb label p then operand ∷ [] else [])
    (λ p within. ap (λ (t : Bool). let os : List Operand = if t then operand ∷ [] else [] in os) (ne_eqb label p (λ e. omega (arith, e))))

pub entries_more : (from k : ℕ) (labels : List BlockId) (operands : List Operand) (label : BlockId) (operand : Operand)
    → slice_get labels k ≡ Some label → slice_get operands k ≡ Some operand
    → entries_for from (take (k + 1) labels) (take (k + 1) operands) ≡ entries_for from (take k labels) (take k operands) ++ (if eqb label.0 from then operand ∷ [] else [])
entries_more from k [] operands label operand one two = absurd (let h : None ≡ Some label = one in cc)
entries_more from k (l ∷ labels) [] label operand one two = absurd (let h : None ≡ Some operand = two in cc)
entries_more from zero (l ∷ labels) (o ∷ operands) label operand one two =
    let same_label : l ≡ label = cc in
    let same : o ≡ operand = cc in
    rw (same_label, same) (append-nil (if eqb label.0 from then operand ∷ [] else []))
entries_more from (suc k) (l ∷ labels) (o ∷ operands) label operand one two =
    let s : suc k + 1 ≡ suc (k + 1) = omega arith in
    ap (λ (n : ℕ). entries_for from (take n (l ∷ labels)) (take n (o ∷ operands))) s
    ∙ ap (λ (os : List Operand). (if eqb l.0 from then o ∷ [] else []) ++ os) (entries_more from k labels operands label operand one two)
    ∙ sym (append_assoc (if eqb l.0 from then o ∷ [] else []) (entries_for from (take k labels) (take k operands)) (if eqb label.0 from then operand ∷ [] else []))

-- entries past the shorter of two lists don't count
pub entries_short : (from n : ℕ) (labels : List BlockId) (operands : List Operand) → (length labels ≤ n) ⊎ (length operands ≤ n)
    → entries_for from (take n labels) (take n operands) ≡ entries_for from labels operands
entries_short from zero [] operands which = refl
entries_short from (suc n) [] operands which = refl
entries_short from n (l ∷ labels) [] which = none n
  where
    none : (n : ℕ) → entries_for from (take n (l ∷ labels)) (take n []) ≡ []
    none zero = refl
    none (suc n) = refl
entries_short from zero (l ∷ labels) (o ∷ operands) (inl le) = absurd (omega arith)
entries_short from zero (l ∷ labels) (o ∷ operands) (inr le) = absurd (omega arith)
entries_short from (suc n) (l ∷ labels) (o ∷ operands) (inl le) = ap (λ (os : List Operand). (if eqb l.0 from then o ∷ [] else []) ++ os) (entries_short from n labels operands (inl (omega arith)))
entries_short from (suc n) (l ∷ labels) (o ∷ operands) (inr le) = ap (λ (os : List Operand). (if eqb l.0 from then o ∷ [] else []) ++ os) (entries_short from n labels operands (inr (omega arith)))

-- ---- one more

pub inserted_more : (from : ℕ) (preds : List BlockId) (k v : ℕ) (label : BlockId) → take (k + 1) preds ≡ take k preds ++ label ∷ []
    → inserted_entries from (map (λ block. block.0) (take (k + 1) preds)) v
    ≡ inserted_entries from (map (λ block. block.0) (take k preds)) v ++ (if eqb label.0 from then Value (valued v) ∷ [] else [])
inserted_more from preds k v label is =
    let f : BlockId → ℕ = λ block. block.0 in
    flat_more (λ (p : ℕ). let os : List Operand = if eqb p from then Value (valued v) ∷ [] else [] in os) (map f (take k preds)) (map f (take (k + 1) preds)) label.0
    (ap (map f) is ∙ map-append f (take k preds) (label ∷ []))

pub joined_more : (from : ℕ) (preds : List ℕ) (joined : List ValueId) (k : ℕ) (value : ValueId) → take (k + 1) joined ≡ take k joined ++ value ∷ []
    → flat_map (inserted_entries from preds) (numbers_in (take (k + 1) joined))
    ≡ flat_map (inserted_entries from preds) (numbers_in (take k joined)) ++ inserted_entries from preds value.0
joined_more from preds joined k value is =
    let f : ValueId → ℕ = λ value. value.0 in
    flat_more (inserted_entries from preds) (map f (take k joined)) (map f (take (k + 1) joined)) value.0
    (ap (map f) is ∙ map-append f (take k joined) (value ∷ []))

pub held_more : (bundle : List (Ty × Operand)) (k : ℕ) (entry : Ty × Operand) → take (k + 1) bundle ≡ take k bundle ++ entry ∷ []
    → held_in (take (k + 1) bundle) ≡ held_in (take k bundle) ++ entry.1 ∷ []
held_more bundle k entry is = ap held_in is ∙ map-append (λ (entry : Ty × Operand). entry.1) (take k bundle) (entry ∷ [])

-- the rest of the lines of a block, one line on
pub slots_on : (lists : List (List ℕ)) (call next : ℕ) (insts rest : List Instruction) (inst : Instruction) (all old new : List Slot) (to : Option ℕ) (call' next' : ℕ)
    → insts ≡ inst ∷ rest → to ≡ (numbered next inst).to → call' ≡ call + count_of_call (record { to = to; inst = inst }) → next' ≡ following next inst
    → all ≡ old ++ listed_slots lists call (plain_lines next insts) → new ≡ old ++ one_slots lists call (record { to = to; inst = inst })
    → all ≡ new ++ listed_slots lists call' (plain_lines next' rest)
slots_on lists call next insts rest inst all old new to call' next' split to_is call_is next_is so_far added =
    let step = slots_step lists call next inst rest in
    let line : ◌≡◌ {A = Line} (record { to = to; inst = inst }) (numbered next inst) = ap (λ (t : Option ℕ). let l : Line = record { to = t; inst = inst } in l) to_is in
    let one = added ∙ ap (λ (l : Line). old ++ one_slots lists call l) line in
    let calls_are : call' ≡ call + count_of_call (numbered next inst) = call_is ∙ ap (λ (l : Line). call + count_of_call l) line in
    so_far ∙ ap (λ (is : List Instruction). old ++ listed_slots lists call (plain_lines next is)) split
    ∙ ap (λ (ss : List Slot). old ++ ss) step
    ∙ sym (append_assoc old (one_slots lists call (numbered next inst)) (listed_slots lists (call + count_of_call (numbered next inst)) (plain_lines (following next inst) rest)))
    ∙ ap (λ (ss : List Slot). ss ++ listed_slots lists (call + count_of_call (numbered next inst)) (plain_lines (following next inst) rest)) (sym one)
    ∙ ap (λ (n : ℕ). new ++ listed_slots lists n (plain_lines (following next inst) rest)) (sym calls_are)
    ∙ ap (λ (n : ℕ). new ++ listed_slots lists call' (plain_lines n rest)) (sym next_is)

pub calls_on : (call next : ℕ) (insts rest : List Instruction) (inst : Instruction) (all : ℕ) (to : Option ℕ) (call' next' : ℕ)
    → insts ≡ inst ∷ rest → to ≡ (numbered next inst).to → call' ≡ call + count_of_call (record { to = to; inst = inst }) → next' ≡ following next inst
    → all ≡ calls_of call (plain_lines next insts) → all ≡ calls_of call' (plain_lines next' rest)
calls_on call next insts rest inst all to call' next' split to_is call_is next_is so_far =
    let line : ◌≡◌ {A = Line} (record { to = to; inst = inst }) (numbered next inst) = ap (λ (t : Option ℕ). let l : Line = record { to = t; inst = inst } in l) to_is in
    let calls_are : call' ≡ call + count_of_call (numbered next inst) = call_is ∙ ap (λ (l : Line). call + count_of_call l) line in
    so_far ∙ ap (λ (is : List Instruction). calls_of call (plain_lines next is)) split
    ∙ ap (λ (n : ℕ). calls_of n (plain_lines (following next inst) rest)) (sym calls_are)
    ∙ ap (λ (n : ℕ). calls_of call' (plain_lines n rest)) (sym next_is)

pub one_call : (line : Line) → count_of_call line ≤ 1
one_call line = elim (cases_Bool (calls line)) [ inl is ↦ rw is (omega arith) | inr not ↦ rw not (omega arith) ]

-- ---- rows, one on

pub starts_on : (next after : ℕ) (rows rest : List (Vec Slot)) (row : Vec Slot) (read : List Slot) (all old new : List ℕ) → rows ≡ row ∷ rest → read ≡ row.items
    → after ≡ next_behind next read → all ≡ old ++ starts_of next (slots_in rows) → new ≡ old ++ next ∷ [] → all ≡ new ++ starts_of after (slots_in rest)
starts_on next after rows rest row read all old new split read_is after_is so_far added =
    so_far ∙ ap (λ (rs : List (Vec Slot)). old ++ starts_of next (slots_in rs)) split
    ∙ ap (λ (ss : List Slot). old ++ (next ∷ starts_of (next_behind next ss) (slots_in rest))) (sym read_is)
    ∙ ap (λ (n : ℕ). old ++ (next ∷ starts_of n (slots_in rest))) (sym after_is)
    ∙ sym (append_assoc old (next ∷ []) (starts_of after (slots_in rest)))
    ∙ ap (λ (ns : List ℕ). ns ++ starts_of after (slots_in rest)) (sym added)

pub owns_on : (next after : ℕ) (rows rest : List (Vec Slot)) (row : Vec Slot) (read : List Slot) (all old new : List ℕ) → rows ≡ row ∷ rest → read ≡ row.items
    → after ≡ next_behind next read → all ≡ old ++ all_owns next (slots_in rows) → new ≡ old ++ owns next read → all ≡ new ++ all_owns after (slots_in rest)
owns_on next after rows rest row read all old new split read_is after_is so_far added =
    so_far ∙ ap (λ (rs : List (Vec Slot)). old ++ all_owns next (slots_in rs)) split
    ∙ ap (λ (ss : List Slot). old ++ (owns next ss ++ all_owns (next_behind next ss) (slots_in rest))) (sym read_is)
    ∙ ap (λ (n : ℕ). old ++ (owns next read ++ all_owns n (slots_in rest))) (sym after_is)
    ∙ sym (append_assoc old (owns next read) (all_owns after (slots_in rest)))
    ∙ ap (λ (ns : List ℕ). ns ++ all_owns after (slots_in rest)) (sym added)

-- a start more, within room
pub room_more : (rows : List (Vec Slot)) (place next : ℕ) (row : Vec Slot) (read : List Slot) (old new : List ℕ) → place < length rows → row ≡ get_or rows place row → read ≡ row.items
    → length old ≡ place → new ≡ old ++ next ∷ [] → next + length read < 2 ^ 32
    → ((b : ℕ) → b < place → slice_index old b + length (list_at rows b) < 2 ^ 32)
    → (b : ℕ) → b < place + 1 → slice_index new b + length (list_at rows b) < 2 ^ 32
room_more rows place next row read old new within row_is read_is size added room so_far b below = elim (cases_eq b place) [
  | inl e ↦
      let at : slice_index new b ≡ next = ap (λ (ns : List ℕ). slice_index ns b) added ∙ get_or_push old next 0 b (size ∙ sym e) in
      let same : length (list_at rows b) ≡ length read = ap (λ (n : ℕ). length (list_at rows n)) e ∙ ap length (list_is rows place row within row_is ∙ sym read_is) in
      omega (arith, at, same, room)
  | inr ne ↦
      let before : b < place = omega (arith, ne, below) in
      let at : slice_index new b ≡ slice_index old b = ap (λ (ns : List ℕ). slice_index ns b) added ∙ get_or_append_left old (next ∷ []) 0 b (omega (arith, before, size)) in
      let was = so_far b before in
      omega (arith, at, was)
]

pub calls_few : (call next : ℕ) (insts : List Instruction) → calls_of call (plain_lines next insts) ≤ call + length insts
calls_few call next [] = omega arith
calls_few call next (inst ∷ insts) =
    let one = one_call (numbered next inst) in
    let rest = calls_few (call + count_of_call (numbered next inst)) (following next inst) insts in
    omega (arith, one, rest)

-- the rows of the rest of the blocks, one block on
pub bodies_on : (lists : List (List ℕ)) (call after next behind : ℕ) (joins rest : List (List ℕ)) (join : List ℕ) (blocks others : List BasicBlock) (block : BasicBlock)
    (all : List (List Slot)) (old new : List (List Slot)) (first row : List Slot)
    → joins ≡ join ∷ rest → blocks ≡ block ∷ others → all ≡ old ++ body_rows lists joins call next blocks
    → first ≡ map give_slot join → row ≡ first ++ listed_slots lists call (plain_lines next block.insts)
    → after ≡ calls_of call (plain_lines next block.insts) → behind ≡ after_all next block.insts → new ≡ old ++ row ∷ []
    → all ≡ new ++ body_rows lists rest after behind others
bodies_on lists call after next behind joins rest join blocks others block all old new first row joins_are blocks_are so_far first_is row_is after_is behind_is added =
    let whole : row ≡ map give_slot join ++ listed_slots lists call (plain_lines next block.insts) =
    row_is ∙ ap (λ (ss : List Slot). ss ++ listed_slots lists call (plain_lines next block.insts)) first_is in
    so_far ∙ ap (λ (js : List (List ℕ)). old ++ body_rows lists js call next blocks) joins_are
    ∙ ap (λ (bs : List BasicBlock). old ++ body_rows lists (join ∷ rest) call next bs) blocks_are
    ∙ ap (λ (r : List Slot). old ++ (r ∷ body_rows lists rest (calls_of call (plain_lines next block.insts)) (after_all next block.insts) others)) (sym whole)
    ∙ ap (λ (n : ℕ). old ++ (row ∷ body_rows lists rest n (after_all next block.insts) others)) (sym after_is)
    ∙ ap (λ (n : ℕ). old ++ (row ∷ body_rows lists rest after n others)) (sym behind_is)
    ∙ sym (append_assoc old (row ∷ []) (body_rows lists rest after behind others))
    ∙ ap (λ (rs : List (List Slot)). rs ++ body_rows lists rest after behind others) (sym added)

pub bodies_start : (lists joins : List (List ℕ)) (blocks : List BasicBlock) (args count : ℕ) (rows : List (Vec Slot)) → count ≡ args → rows ≡ []
    → body_rows lists joins 0 args blocks ≡ slots_in rows ++ body_rows lists joins 0 count blocks
bodies_start lists joins blocks args count rows count_is none = rw (count_is, none) refl

pub joins_split : (joins : List (Vec ValueId)) (place k : ℕ) (join : Vec ValueId) → place ≡ k → k < length joins → join ≡ get_or joins place join
    → drop k (map (λ join. numbers_in join.items) joins) ≡ numbers_in join.items ∷ drop (k + 1) (map (λ join. numbers_in join.items) joins)
joins_split joins place k join same within is =
    let stands : slice_get joins k ≡ Some join = slice_get-get_or joins k join within ∙ ap Some (sym (is ∙ ap (λ (n : ℕ). get_or joins n join) same)) in
    drop_at (map (λ join. numbers_in join.items) joins) k (numbers_in join.items) (get_map (λ join. numbers_in join.items) joins k join stands)

pub entries_on : (before : ℕ → List ℕ) (joins : List (List ℕ)) (to : ℕ) (blocks : List BasicBlock) (k from : ℕ) (join : List ℕ) (block : BasicBlock)
    → slice_get joins k ≡ Some join → slice_get blocks k ≡ Some block
    → entries_all before (take (k + 1) joins) to (take (k + 1) blocks) from
    ≡ entries_all before (take k joins) to (take k blocks) from ++ (flat_map (inserted_entries from (before (to + k))) join ++ flat_map (phi_entries from) block.insts)
entries_on before [] to blocks k from join block one two = absurd (let h : None ≡ Some join = one in cc)
entries_on before (j ∷ joins) to [] k from join block one two = absurd (let h : None ≡ Some block = two in cc)
entries_on before (j ∷ joins) to (b ∷ blocks) zero from join block one two =
    let same_join : j ≡ join = cc in
    let same : b ≡ block = cc in
    let at : to ≡ to + 0 = omega arith in
    append-nil (flat_map (inserted_entries from (before to)) j ++ flat_map (phi_entries from) b.insts)
    ∙ ap (λ (vs : List ℕ). flat_map (inserted_entries from (before to)) vs ++ flat_map (phi_entries from) b.insts) same_join
    ∙ ap (λ (x : BasicBlock). flat_map (inserted_entries from (before to)) join ++ flat_map (phi_entries from) x.insts) same
    ∙ ap (λ (n : ℕ). flat_map (inserted_entries from (before n)) join ++ flat_map (phi_entries from) block.insts) at
entries_on before (j ∷ joins) to (b ∷ blocks) (suc k) from join block one two =
    let s : suc k + 1 ≡ suc (k + 1) = omega arith in
    let at : suc to + k ≡ to + suc k = omega arith in
    let first = flat_map (inserted_entries from (before to)) j ++ flat_map (phi_entries from) b.insts in
    let last = flat_map (inserted_entries from (before (suc to + k))) join ++ flat_map (phi_entries from) block.insts in
    ap (λ (n : ℕ). entries_all before (take n (j ∷ joins)) to (take n (b ∷ blocks)) from) s
    ∙ ap (λ (os : List Operand). first ++ os) (entries_on before joins (suc to) blocks k from join block one two)
    ∙ sym (append_assoc first (entries_all before (take k joins) (suc to) (take k blocks) from) last)
    ∙ ap (λ (n : ℕ). (first ++ entries_all before (take k joins) (suc to) (take k blocks) from) ++ (flat_map (inserted_entries from (before n)) join ++ flat_map (phi_entries from) block.insts)) at
