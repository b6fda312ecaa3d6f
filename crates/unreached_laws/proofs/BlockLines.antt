-- The lines of a kept block under their new numbers are those of the block of the function without its unreached blocks.
use Rattle.std.proofs.Common.{◌≡◌, ℕ, zero, suc, ◌+◌, ◌<◌, ◌≤◌, Bool, true, false, ◌&&◌, if◌then◌else◌, List, [], ◌∷◌, ◌++◌, length, map, replicate, refl, sym, ap, subst, ◌∙◌, arith}
use Rattle.std.specs.Prelude.{Some, None, is_some, nat_le, slice_get, slice_index, filter}
use Rattle.std.specs.List.{All, list_any}
use Rattle.std.specs.Option.{option_map, IfSome}
use Rattle.std.proofs.lemmas.Bool.{false≢true}
use Rattle.std.proofs.lemmas.Bool.Decides.{nat_tests}
use Rattle.std.proofs.lemmas.List.{length-append, length-map, length-replicate, map-append}
use Rattle.std.proofs.lemmas.List.Elements.{All-append, All-cons, All-nil, All-head, All-tail}
use Rattle.std.proofs.lemmas.Option.{none-some, same_Some}
use Rattle.list_laws.proofs.Places.{get_front, get_past, get_replicate}
use Rattle.sp_ids.specs.declared.ids.BlockId.{BlockId}
use Rattle.graph_search.specs.Paths.{Marked}
use Rattle.ir_ast.specs.declared.ops.Op.{Op}
use Rattle.ir_ast.specs.declared.ops.Op.TheVariants.{Phi}
use Rattle.ir_ast.specs.Insts.{Instruction}
use Rattle.ir_ast.specs.Blocks.{BasicBlock}
use Rattle.ir_ast.specs.Ops.{is_terminator}
use Rattle.ir_cfg.specs.Unreached.{Kept, block_kept, inst_kept, kept_of, label_kept, labels_kept, result_count, result_marks}
use Rattle.ir_cfg.proofs.KeepsPlaces.{before_mono, before_past_falses, before_past_trues, before_same, marks_before, number_of_marked}
use Rattle.ir_cfg.proofs.KeepsLines.{labels_left, operands_left}
use Rattle.ir_cfg.proofs.KeepsValues.{filter_mapped, named}
use Rattle.object_meaning.specs.Lines.{Line, after_all, first_registers, following, lines_from, numbered, poll, polls_before, retreats}
use Rattle.unreached_laws.proofs.RegisterLaws.{OperandStays, before_none}
use Rattle.unreached_laws.proofs.Keepings.{ArgumentsFit, Keeping, LineStays, is_grouped, line_kept, numbers}

-- ---- numbers

pub marked_next : (marks : List Bool) (place : ℕ) → Marked marks place → marks_before marks (place + 1) ≡ marks_before marks place + 1
marked_next marks place marked = ap (marks_before marks) (let more : place + 1 ≡ suc place = omega arith in more) ∙ (by marks place marked ∙ (let more : suc (marks_before marks place) ≡ marks_before marks place + 1 = omega arith in more))
  where
    first_next : (marks : List Bool) → marks_before (true ∷ marks) 1 ≡ 1
    first_next [] = refl
    first_next (mark ∷ marks) = refl

    by : (marks : List Bool) (place : ℕ) → Marked marks place → marks_before marks (suc place) ≡ suc (marks_before marks place)
    by [] place marked = absurd (none-some true marked)
    by (true ∷ marks) zero marked = first_next marks
    by (false ∷ marks) zero marked = absurd (false≢true (same_Some false true marked))
    by (true ∷ marks) (suc place) marked = ap suc (by marks place marked)
    by (false ∷ marks) (suc place) marked = by marks place marked

-- the new numbers of kept blocks are in the old order
pub same_order : (marks : List Bool) (one other : ℕ) → Marked marks one → Marked marks other → nat_le (marks_before marks one) (marks_before marks other) ≡ nat_le one other
same_order marks one other first second = by (nat_le (marks_before marks one) (marks_before marks other)) (nat_le one other) refl refl
  where
    by : (new old : Bool) → nat_le (marks_before marks one) (marks_before marks other) ≡ new → nat_le one other ≡ old → new ≡ old
    by true true is was = refl
    by false false is was = refl
    by false true is was =
        let le : one ≤ other = grind (arith, nat_tests) in
        let rises = before_mono marks one other le in
        absurd (grind (arith, nat_tests))
    by true false is was =
        let less : other < one = grind (arith, nat_tests) in
        let rises = before_mono marks other one (omega arith) in
        let new : marks_before marks one ≤ marks_before marks other = grind (arith, nat_tests) in
        let same = before_same marks one other first second (omega arith) in
        absurd (omega arith)

-- ---- one instruction

-- what its line asks for, but for its result
pub record InstStays (keepings : ℕ → Keeping) (func : ℕ) (inst : Instruction) : Type 0 where
  pub operands : All (OperandStays (keepings func).values) (operands_left (numbers (keepings func)) inst.op inst.labels inst.operands)
  pub bundle : All (λ entry. OperandStays (keepings func).values entry.1) inst.bundle
  pub labels : All (λ label. Marked (keepings func).blocks label.0) (labels_left (numbers (keepings func)) inst.op inst.labels)
  pub ungrouped : is_grouped inst.op ≡ false
  pub arguments : ArgumentsFit keepings inst.op inst.operands

module _ (keeping : Keeping) (block : ℕ) (marked : Marked keeping.blocks block) where
  abbrev K : Kept
  K = numbers keeping

  abbrev new_block : ℕ
  new_block = marks_before keeping.blocks block

  any_same : (labels : List BlockId) → All (λ (label : BlockId). Marked keeping.blocks label.0) labels
      → list_any (λ label. nat_le label.0 new_block) (map (label_kept K) labels) ≡ list_any (λ label. nat_le label.0 block) labels
  any_same [] all = refl
  any_same (label ∷ labels) all =
      let here : Marked keeping.blocks label.0 = All-head (λ (each : BlockId). Marked keeping.blocks each.0) label labels all in
      rw (
        number_of_marked keeping.blocks label.0 here,
        same_order keeping.blocks label.0 block here marked,
        any_same labels (All-tail (λ (each : BlockId). Marked keeping.blocks each.0) label labels all),
      ) refl

  ends_same : (op : Op) (labels : List BlockId) → All (λ (label : BlockId). Marked keeping.blocks label.0) (labels_left K op labels)
      → (is_terminator op && list_any (λ label. nat_le label.0 new_block) (labels_kept K op labels)) ≡ (is_terminator op && list_any (λ label. nat_le label.0 block) labels)
  ends_same Phi labels all = refl
  ends_same op labels all = ap (λ (any : Bool). is_terminator op && any) (any_same labels all)

  retreats_same : (inst : Instruction) → All (λ (label : BlockId). Marked keeping.blocks label.0) (labels_left K inst.op inst.labels)
      → retreats new_block (inst_kept K inst) ≡ retreats block inst
  retreats_same inst all = ends_same inst.op inst.labels all

  polls_same : (inst : Instruction) → All (λ (label : BlockId). Marked keeping.blocks label.0) (labels_left K inst.op inst.labels)
      → polls_before new_block (inst_kept K inst) ≡ map (line_kept keeping) (polls_before block inst)
  polls_same inst all = ap polls_if (retreats_same inst all) ∙ by (retreats block inst)
    where
      polls_if : Bool → List Line
      polls_if b = if b then poll ∷ [] else []

      by : (b : Bool) → polls_if b ≡ map (line_kept keeping) (polls_if b)
      by true = refl
      by false = refl

  numbered_same : (inst : Instruction) (next : ℕ) → numbered (marks_before keeping.values next) (inst_kept K inst) ≡ line_kept keeping (numbered next inst)
  numbered_same inst next = ap (λ to. record { to = to; inst = inst_kept K inst }) (by (is_some inst.result))
    where
      by : (b : Bool) → (if b then Some (marks_before keeping.values next) else None) ≡ option_map (marks_before keeping.values) (if b then Some next else None)
      by true = refl
      by false = refl

  following_same : (inst : Instruction) (next : ℕ) → (is_some inst.result ≡ true → Marked keeping.values next)
      → following (marks_before keeping.values next) (inst_kept K inst) ≡ marks_before keeping.values (following next inst)
  following_same inst next result = by (is_some inst.result) result
    where
      by : (b : Bool) → (b ≡ true → Marked keeping.values next)
          → (if b then marks_before keeping.values next + 1 else marks_before keeping.values next) ≡ marks_before keeping.values (if b then next + 1 else next)
      by true given = sym (marked_next keeping.values next (given refl))
      by false given = refl

-- the registers of these instructions' results, the first of which is `next`
abbrev pub ResultsStay : List Bool → ℕ → List Instruction → Type 0
ResultsStay values next insts = (k : ℕ) → k < length (filter named insts) → Marked values (next + k)

first_result : (values : List Bool) (next : ℕ) (inst : Instruction) (insts : List Instruction) → ResultsStay values next (inst ∷ insts)
    → is_some inst.result ≡ true → Marked values next
first_result values next inst insts results given = by (is_some inst.result) given results
  where
    by : (b : Bool) → b ≡ true → ((k : ℕ) → k < length (if b then inst ∷ filter named insts else filter named insts) → Marked values (next + k)) → Marked values next
    by true is each = let same : next + 0 ≡ next = omega arith in subst (Marked values) same (each 0 (omega arith))
    by false is each = absurd (false≢true is)

later_results : (values : List Bool) (next : ℕ) (inst : Instruction) (insts : List Instruction) → ResultsStay values next (inst ∷ insts)
    → ResultsStay values (following next inst) insts
later_results values next inst insts results = by (is_some inst.result) results
  where
    by : (b : Bool) → ((k : ℕ) → k < length (if b then inst ∷ filter named insts else filter named insts) → Marked values (next + k))
        → ResultsStay values (if b then next + 1 else next) insts
    by true each = λ k below.
        let more : next + suc k ≡ next + 1 + k = omega arith in
        subst (Marked values) more (each (suc k) (omega arith))
    by false each = each

pub poll_stays : (keepings : ℕ → Keeping) (func : ℕ) → LineStays keepings func poll
poll_stays keepings func = record {
  result = tt;
  operands = All-nil (OperandStays (keepings func).values);
  bundle = λ k d below. absurd (omega arith);
  labels = λ k d below. absurd (omega arith);
  ungrouped = refl;
  arguments = tt;
}

-- ---- the instructions of a block

module _ (keepings : ℕ → Keeping) (func block : ℕ) (marked : Marked (keepings func).blocks block) where
  abbrev L : Line → Line
  L line = line_kept (keepings func) line

  pub lines_same : (insts : List Instruction) (next : ℕ) → All (InstStays keepings func) insts → ResultsStay (keepings func).values next insts
      → lines_from (marks_before (keepings func).blocks block) (marks_before (keepings func).values next) (map (inst_kept (numbers (keepings func))) insts)
      ≡ map (line_kept (keepings func)) (lines_from block next insts)
  lines_same [] next all results = refl
  lines_same (inst ∷ insts) next all results =
      let first = All-head (InstStays keepings func) inst insts all in
      let polls = polls_same (keepings func) block marked inst first.labels in
      let line = numbered_same (keepings func) block marked inst next in
      let goes_on = following_same (keepings func) block marked inst next (first_result (keepings func).values next inst insts results) in
      let rest = lines_same insts (following next inst) (All-tail (InstStays keepings func) inst insts all) (later_results (keepings func).values next inst insts results) in
      ap (λ (front : List Line). front ++ numbered (marks_before (keepings func).values next) (inst_kept (numbers (keepings func)) inst)
      ∷ lines_from (marks_before (keepings func).blocks block) (following (marks_before (keepings func).values next) (inst_kept (numbers (keepings func)) inst)) (map (inst_kept (numbers (keepings func))) insts)) polls
      ∙ (ap (λ (one : Line). map L (polls_before block inst) ++ one
      ∷ lines_from (marks_before (keepings func).blocks block) (following (marks_before (keepings func).values next) (inst_kept (numbers (keepings func)) inst)) (map (inst_kept (numbers (keepings func))) insts)) line
      ∙ (ap (λ (register : ℕ). map L (polls_before block inst) ++ L (numbered next inst)
      ∷ lines_from (marks_before (keepings func).blocks block) register (map (inst_kept (numbers (keepings func))) insts)) goes_on
      ∙ (ap (λ (lines : List Line). map L (polls_before block inst) ++ L (numbered next inst) ∷ lines) rest
      ∙ sym (map-append L (polls_before block inst) (numbered next inst ∷ lines_from block (following next inst) insts)))))

  numbered_stays : (inst : Instruction) (next : ℕ) → InstStays keepings func inst → (is_some inst.result ≡ true → Marked (keepings func).values next)
      → LineStays keepings func (numbered next inst)
  numbered_stays inst next stays result = record {
    result = by (is_some inst.result) result;
    operands = stays.operands;
    bundle = stays.bundle;
    labels = stays.labels;
    ungrouped = stays.ungrouped;
    arguments = stays.arguments;
  }
    where
      by : (b : Bool) → (b ≡ true → Marked (keepings func).values next) → IfSome (if b then Some next else None) (Marked (keepings func).values)
      by true given = given refl
      by false given = tt

  polls_stay : (inst : Instruction) → All (LineStays keepings func) (polls_before block inst)
  polls_stay inst = by (retreats block inst)
    where
      by : (b : Bool) → All (LineStays keepings func) (if b then poll ∷ [] else [])
      by true = All-cons (LineStays keepings func) poll [] (poll_stays keepings func) (All-nil (LineStays keepings func))
      by false = All-nil (LineStays keepings func)

  pub lines_stay : (insts : List Instruction) (next : ℕ) → All (InstStays keepings func) insts → ResultsStay (keepings func).values next insts
      → All (LineStays keepings func) (lines_from block next insts)
  lines_stay [] next all results = All-nil (LineStays keepings func)
  lines_stay (inst ∷ insts) next all results =
      let first = numbered_stays inst next (All-head (InstStays keepings func) inst insts all) (first_result (keepings func).values next inst insts results) in
      let rest = lines_stay insts (following next inst) (All-tail (InstStays keepings func) inst insts all) (later_results (keepings func).values next inst insts results) in
      All-append (LineStays keepings func) (polls_before block inst) (numbered next inst ∷ lines_from block (following next inst) insts) (polls_stay inst)
      (All-cons (LineStays keepings func) (numbered next inst) (lines_from block (following next inst) insts) first rest)

-- ---- the results before a block

abbrev pub before_block : List BasicBlock → ℕ → ℕ
before_block [] number = 0
before_block (block ∷ blocks) zero = 0
before_block (block ∷ blocks) (suc number) = result_count block + before_block blocks number

none_before : (blocks : List BasicBlock) → before_block blocks 0 ≡ 0
none_before [] = refl
none_before (block ∷ blocks) = refl

pub before_left : (marks : List Bool) (blocks : List BasicBlock) (number : ℕ) → length marks ≡ length blocks
    → marks_before (result_marks marks blocks) (before_block blocks number) ≡ before_block (kept_of marks blocks) (marks_before marks number)
before_left [] [] number whole = refl
before_left [] (block ∷ blocks) number whole = absurd (omega arith)
before_left (mark ∷ marks) [] number whole = absurd (omega arith)
before_left (mark ∷ marks) (block ∷ blocks) zero whole =
    before_none (result_marks (mark ∷ marks) (block ∷ blocks)) ∙ sym (none_before (kept_of (mark ∷ marks) (block ∷ blocks)))
before_left (true ∷ marks) (block ∷ blocks) (suc number) whole =
    before_past_trues (result_count block) (before_block blocks number) (result_marks marks blocks)
    ∙ ap (λ n. result_count block + n) (before_left marks blocks number (omega arith))
before_left (false ∷ marks) (block ∷ blocks) (suc number) whole =
    before_past_falses (result_count block) (before_block blocks number) (result_marks marks blocks) ∙ before_left marks blocks number (omega arith)

pub before_mapped : (kept : Kept) (blocks : List BasicBlock) (number : ℕ) → before_block (map (block_kept kept) blocks) number ≡ before_block blocks number
before_mapped kept [] number = refl
before_mapped kept (block ∷ blocks) zero = refl
before_mapped kept (block ∷ blocks) (suc number) =
    let one = ap length (filter_mapped kept block.insts) in
    let two = length-map (filter named block.insts) (inst_kept kept) in
    let rest = before_mapped kept blocks number in
    omega (arith, one, two, rest)

-- the results of a kept block are kept
pub results_marked : (marks : List Bool) (blocks : List BasicBlock) (number : ℕ) (block : BasicBlock) → Marked marks number → slice_get blocks number ≡ Some block
    → (k : ℕ) → k < result_count block → Marked (result_marks marks blocks) (before_block blocks number + k)
results_marked [] blocks number block marked is k below = absurd (none-some true marked)
results_marked (mark ∷ marks) [] number block marked is k below = absurd (none-some block is)
results_marked (mark ∷ marks) (first ∷ blocks) zero block marked is k below =
    let same : first ≡ block = same_Some first block is in
    let within : k < result_count first = subst (λ (b : BasicBlock). k < result_count b) (sym same) below in
    let place : 0 + k ≡ k = omega arith in
    subst (Marked (replicate (result_count first) mark ++ result_marks marks blocks)) (sym place)
    (get_front (replicate (result_count first) mark) (result_marks marks blocks) k true (get_replicate (result_count first) k mark within ∙ marked))
results_marked (mark ∷ marks) (first ∷ blocks) (suc number) block marked is k below =
    let long = length-replicate (result_count first) mark in
    let place : length (replicate (result_count first) mark) + (before_block blocks number + k) ≡ result_count first + before_block blocks number + k = omega arith in
    subst (Marked (replicate (result_count first) mark ++ result_marks marks blocks)) place
    (get_past (replicate (result_count first) mark) (result_marks marks blocks) (before_block blocks number + k)
    ∙ results_marked marks blocks number block marked is k below)

-- how many marks there are
pub marks_count : (marks : List Bool) (blocks : List BasicBlock) → length (result_marks marks blocks) ≡ before_block blocks (length blocks)
marks_count marks [] = refl
marks_count [] (block ∷ blocks) =
    let rest = marks_count [] blocks in
    let both = length-append (replicate (result_count block) false) (result_marks [] blocks) in
    let long = length-replicate (result_count block) false in
    omega (arith, rest, both, long)
marks_count (mark ∷ marks) (block ∷ blocks) =
    let rest = marks_count marks blocks in
    let both = length-append (replicate (result_count block) mark) (result_marks marks blocks) in
    let long = length-replicate (result_count block) mark in
    omega (arith, rest, both, long)

pub length_kept : {A : Type 0} (marks : List Bool) (xs : List A) → length (kept_of marks xs) ≡ marks_before marks (length xs)
length_kept [] [] = refl
length_kept (mark ∷ marks) [] = refl
length_kept [] (x ∷ xs) = refl
length_kept (true ∷ marks) (x ∷ xs) = ap suc (length_kept marks xs)
length_kept (false ∷ marks) (x ∷ xs) = length_kept marks xs

-- ---- the first register of a block

after_is : (next : ℕ) (insts : List Instruction) → after_all next insts ≡ next + length (filter named insts)
after_is next [] = omega arith
after_is next (inst ∷ insts) = by (is_some inst.result) (λ n. after_is n insts)
  where
    by : (b : Bool) → ((n : ℕ) → after_all n insts ≡ n + length (filter named insts))
        → after_all (if b then next + 1 else next) insts ≡ next + length (if b then inst ∷ filter named insts else filter named insts)
    by true rest = let is = rest (next + 1) in omega arith
    by false rest = rest next

-- the last one is how many registers there are
pub first_is : (next : ℕ) (blocks : List BasicBlock) (number : ℕ) → number ≤ length blocks → slice_index (first_registers next blocks) number ≡ next + before_block blocks number
first_is next [] zero within = omega arith
first_is next [] (suc number) within = absurd (omega arith)
first_is next (block ∷ blocks) zero within = omega arith
first_is next (block ∷ blocks) (suc number) within =
    let rest = first_is (after_all next block.insts) blocks number (omega arith) in
    let own = after_is next block.insts in
    rest ∙ (let same : after_all next block.insts + before_block blocks number ≡ next + (result_count block + before_block blocks number) = omega (arith, own) in same)
