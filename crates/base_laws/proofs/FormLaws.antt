-- The shape of the function with bases: phis first, terminators last, the edges of its source.
use Rattle.std.proofs.Common.{◌≡◌, ℕ, zero, suc, ◌+◌, ◌<◌, Bool, true, false, not, ◌&&◌, if◌then◌else◌, List, [], ◌∷◌, ◌++◌, map, refl, sym, ap, ◌∙◌, append_assoc, append-nil, arith}
use Rattle.std.specs.Prelude.{Option, Some, slice_get, nat_le}
use Rattle.std.specs.List.{All, flat_map, list_all, list_any}
use Rattle.std.proofs.lemmas.Grind.{flat_map-append}
use Rattle.std.proofs.lemmas.List.Elements.{All-cons, All-nil, All-head, All-tail}
use Rattle.list_laws.proofs.Contents.{all_back, all_front}
use Rattle.sp_ids.specs.declared.ids.BlockId.{BlockId}
use Rattle.ir_ast.specs.declared.ops.Pred.{Pred}
use Rattle.ir_ast.specs.declared.ops.Pred.TheVariants as preds
use Rattle.ir_ast.specs.declared.ops.Op.{Op}
use Rattle.ir_ast.specs.declared.ops.Op.TheVariants as ops
use Rattle.ir_ast.specs.declared.ops.Operand.{Operand}
use Rattle.ir_ast.specs.Insts.{Instruction}
use Rattle.ir_ast.specs.Blocks.{BasicBlock, EndsAtTerminator}
use Rattle.ir_ast.specs.Edges.{targets}
use Rattle.ir_ast.specs.Funcs.{Function, instructions_of, phis_of}
use Rattle.ir_ast.specs.Ops.{is_terminator}
use Rattle.ir_ast.specs.Derived.{is_merge}
use Rattle.ir_ast.specs.Faults.PhiEdges.{is_phi}
use Rattle.object_meaning.specs.Lines.{after_all, following, retreats}
use Rattle.base_forms.specs.Polls.{front_poll, placed_block, poll_call, polled}
use Rattle.base_forms.specs.DerivedMarks.{uses_marked}
use Rattle.base_forms.specs.Inserted.{is_merged}
use Rattle.base_forms.specs.Based.{base_line, based_blocks, based_insts, check, compared, kept_line, lines_for, merged, negation, same_call}
use Rattle.base_laws.specs.BeforeLiveness.{PhisStandFirst}
use Rattle.std.proofs.lemmas.Bool.{not-true, not_from_false}
use Rattle.ir_ast.proofs.OpLaws.{phi_goes_on}

-- ---- each line that stands for an instruction

module _ (P : Instruction → Type 0) (func : Function) (marks : List Bool) (next : ℕ) (inst : Instruction)
    (kept : P (kept_line func marks inst)) (base : is_merge inst.op ≡ true → P (base_line func marks next inst)) (checks : (address : Operand) → P (check func marks inst address))
    (compares : (result : Option (List ℕ)) (first second : Operand) → P (same_call func marks result first second)) (negates : P (negation func marks next inst)) where
  one_line : (line : Instruction) → P line → All P (line ∷ [])
  one_line line holds = All-cons P line [] holds (All-nil P)

  compared_lines : (pred : Pred) → All P (compared func marks next inst pred)
  compared_lines preds.Eq = one_line _ (compares inst.result _ _)
  compared_lines preds.Ne = All-cons P _ (negation func marks next inst ∷ []) (compares _ _ _) (one_line _ negates)
  compared_lines pred = one_line _ kept

  merged_lines : is_merge inst.op ≡ true → All P (merged func marks next inst)
  merged_lines kind = by (is_merged marks inst)
    where
      by : (b : Bool) → All P ((if b then base_line func marks next inst ∷ [] else []) ++ kept_line func marks inst ∷ [])
      by true = All-cons P (base_line func marks next inst) (kept_line func marks inst ∷ []) (base kind) (one_line _ kept)
      by false = one_line _ kept

  lines_as : (op : Op) → inst.op ≡ op → All P (lines_for func marks next inst op)
  lines_as ops.Phi is = merged_lines (ap is_merge is)
  lines_as ops.Select is = merged_lines (ap is_merge is)
  lines_as (ops.Icmp pred) is = by (uses_marked marks inst)
    where
      by : (b : Bool) → All P (if b then compared func marks next inst pred else kept_line func marks inst ∷ [])
      by true = compared_lines pred
      by false = one_line _ kept
  lines_as ops.Load is = All-cons P _ (kept_line func marks inst ∷ []) (checks _) (one_line _ kept)
  lines_as ops.Store is = All-cons P _ (kept_line func marks inst ∷ []) (checks _) (one_line _ kept)
  lines_as op is = one_line _ kept

  pub each_line : All P (lines_for func marks next inst inst.op)
  each_line = lines_as inst.op refl

-- a terminator stays alone
ends_alone : (func : Function) (marks : List Bool) (next : ℕ) (inst : Instruction) (op : Op) → is_terminator op ≡ true → lines_for func marks next inst op ≡ kept_line func marks inst ∷ []
ends_alone func marks next inst ops.Br ends = refl
ends_alone func marks next inst ops.CondBr ends = refl
ends_alone func marks next inst ops.Switch ends = refl
ends_alone func marks next inst ops.Ret ends = refl
ends_alone func marks next inst ops.Unreachable ends = refl
ends_alone func marks next inst op ends = absurd cc

-- ---- the shape of a list of instructions

-- no phi stands behind another line
abbrev pub phis_lead : List Instruction → Bool
phis_lead [] = true
phis_lead (inst ∷ insts) = if is_phi inst.op then phis_lead insts else list_all (λ each. not (is_phi each.op)) insts

all_true_append : {A : Type 0} (test : A → Bool) (xs ys : List A) → list_all test xs ≡ true → list_all test ys ≡ true → list_all test (xs ++ ys) ≡ true
all_true_append test [] ys first second = second
all_true_append test (x ∷ xs) ys first second = by (test x) first (λ rest. all_true_append test xs ys rest second)
  where
    by : (b : Bool) → b && list_all test xs ≡ true → (list_all test xs ≡ true → list_all test (xs ++ ys) ≡ true) → b && list_all test (xs ++ ys) ≡ true
    by true both further = further both
    by false both further = absurd cc

all_true_of : {A : Type 0} (test : A → Bool) (xs : List A) → All (λ x. test x ≡ true) xs → list_all test xs ≡ true
all_true_of test [] all = refl
all_true_of test (x ∷ xs) all = ap (λ b. b && list_all test xs) (All-head (λ y. test y ≡ true) x xs all) ∙ all_true_of test xs (All-tail (λ y. test y ≡ true) x xs all)

true_first : (a b : Bool) → a && b ≡ true → a ≡ true
true_first true b both = refl
true_first false b both = absurd cc

true_second : (a b : Bool) → a && b ≡ true → b ≡ true
true_second true b both = both
true_second false b both = absurd cc

abbrev goes_on : Instruction → Bool
goes_on inst = not (is_terminator inst.op)

abbrev no_phi : Instruction → Bool
no_phi inst = not (is_phi inst.op)

-- ---- with polls

pub quiet_polled : (test : Instruction → Bool) → test poll_call ≡ true → (number : ℕ) (insts : List Instruction) → list_all test insts ≡ true → list_all test (flat_map (polled number) insts) ≡ true
quiet_polled test poll_too number [] all = refl
quiet_polled test poll_too number (inst ∷ insts) all =
    by (retreats number inst) (true_first (test inst) (list_all test insts) all) (quiet_polled test poll_too number insts (true_second (test inst) (list_all test insts) all))
  where
    by : (b : Bool) → test inst ≡ true → list_all test (flat_map (polled number) insts) ≡ true
        → list_all test (((if b then poll_call ∷ [] else []) ++ inst ∷ []) ++ flat_map (polled number) insts) ≡ true
    by true here rest = rw (poll_too, here) rest
    by false here rest = rw here rest

front_quiet : (test : Instruction → Bool) → test poll_call ≡ true → (number : ℕ) → list_all test (front_poll number) ≡ true
front_quiet test poll_too zero = rw poll_too refl
front_quiet test poll_too (suc number) = refl

abbrev polls_of : ℕ → Instruction → List Instruction
polls_of number inst = if retreats number inst then poll_call ∷ [] else []

polls_quiet : (test : Instruction → Bool) → test poll_call ≡ true → (number : ℕ) (inst : Instruction) → list_all test (polls_of number inst) ≡ true
polls_quiet test poll_too number inst = by (retreats number inst)
  where
    by : (b : Bool) → list_all test (if b then poll_call ∷ [] else []) ≡ true
    by true = rw poll_too refl
    by false = refl

pub ends_placed : (number : ℕ) (block : BasicBlock) → EndsAtTerminator block.insts → EndsAtTerminator (placed_block number block).insts
ends_placed number block ended = record {
  before = front_poll number ++ (flat_map (polled number) ended.before ++ polls_of number ended.last);
  last = ended.last;
  whole =
      ap (λ insts. front_poll number ++ flat_map (polled number) insts) ended.whole
      ∙ (ap (λ insts. front_poll number ++ insts)
      (flat_map-append (polled number) ended.before (ended.last ∷ [])
      ∙ (ap (λ insts. flat_map (polled number) ended.before ++ insts) (append-nil (polls_of number ended.last ++ ended.last ∷ []))
      ∙ sym (append_assoc (flat_map (polled number) ended.before) (polls_of number ended.last) (ended.last ∷ []))))
      ∙ sym (append_assoc (front_poll number) (flat_map (polled number) ended.before ++ polls_of number ended.last) (ended.last ∷ [])));
  ends = ended.ends;
  inside =
      all_true_append goes_on (front_poll number) (flat_map (polled number) ended.before ++ polls_of number ended.last) (front_quiet goes_on refl number)
      (all_true_append goes_on (flat_map (polled number) ended.before) (polls_of number ended.last) (quiet_polled goes_on refl number ended.before ended.inside)
      (polls_quiet goes_on refl number ended.last));
}

pub lead_of_none : (insts : List Instruction) → list_all no_phi insts ≡ true → phis_lead insts ≡ true
lead_of_none [] none = refl
lead_of_none (inst ∷ insts) none = rw (not-true (is_phi inst.op) (true_first (no_phi inst) (list_all no_phi insts) none)) (true_second (no_phi inst) (list_all no_phi insts) none)

pub lead_polled : (number : ℕ) (insts : List Instruction) → phis_lead insts ≡ true → phis_lead (flat_map (polled number) insts) ≡ true
lead_polled number [] lead = refl
lead_polled number (inst ∷ insts) lead = by (is_phi inst.op) refl lead (λ rest. lead_polled number insts rest)
  where
    by : (b : Bool) → is_phi inst.op ≡ b → (if b then phis_lead insts else list_all no_phi insts) ≡ true
        → (phis_lead insts ≡ true → phis_lead (flat_map (polled number) insts) ≡ true)
        → phis_lead ((polls_of number inst ++ inst ∷ []) ++ flat_map (polled number) insts) ≡ true
    by true phi rest further =
        let quiet : retreats number inst ≡ false = ap (λ b. b && list_any (λ label. nat_le label.0 number) inst.labels) (phi_goes_on inst.op phi) in
        rw quiet (rw phi (further rest))
    by false other rest further =
        lead_of_none ((polls_of number inst ++ inst ∷ []) ++ flat_map (polled number) insts)
        (all_true_append no_phi (polls_of number inst ++ inst ∷ []) (flat_map (polled number) insts)
        (all_true_append no_phi (polls_of number inst) (inst ∷ []) (polls_quiet no_phi refl number inst) (ap (λ b. b && true) (not_from_false (is_phi inst.op) other)))
        (quiet_polled no_phi refl number insts rest))

-- ---- with bases

module _ (func : Function) (marks : List Bool) where
  abbrev lines_of_all : ℕ → List Instruction → List Instruction
  lines_of_all = based_insts func marks

  pub based_append : (next : ℕ) (xs ys : List Instruction) → based_insts func marks next (xs ++ ys) ≡ based_insts func marks next xs ++ based_insts func marks (after_all next xs) ys
  based_append next [] ys = refl
  based_append next (x ∷ xs) ys =
      ap (λ rest. lines_for func marks next x x.op ++ rest) (based_append (following next x) xs ys)
      ∙ sym (append_assoc (lines_for func marks next x x.op) (based_insts func marks (following next x) xs) (based_insts func marks (after_all (following next x) xs) ys))

  all_append : (P : Instruction → Type 0) (xs ys : List Instruction) → All P xs → All P ys → All P (xs ++ ys)
  all_append P [] ys first second = second
  all_append P (x ∷ xs) ys first second = All-cons P x (xs ++ ys) (All-head P x xs first) (all_append P xs ys (All-tail P x xs first) second)

  -- what holds of each line for each instruction
  pub all_based : (P Q : Instruction → Type 0) → ((next : ℕ) (inst : Instruction) → Q inst → All P (lines_for func marks next inst inst.op))
      → (next : ℕ) (insts : List Instruction) → All Q insts → All P (based_insts func marks next insts)
  all_based P Q each next [] all = All-nil P
  all_based P Q each next (inst ∷ insts) all =
      all_append P (lines_for func marks next inst inst.op) (based_insts func marks (following next inst) insts) (each next inst (All-head Q inst insts all))
      (all_based P Q each (following next inst) insts (All-tail Q inst insts all))

  pub all_based_blocks : (P Q : Instruction → Type 0) → ((next : ℕ) (inst : Instruction) → Q inst → All P (lines_for func marks next inst inst.op))
      → (next : ℕ) (blocks : List BasicBlock) → All Q (instructions_of blocks) → All P (instructions_of (based_blocks func marks next blocks))
  all_based_blocks P Q each next [] all = All-nil P
  all_based_blocks P Q each next (block ∷ blocks) all =
      all_append P (based_insts func marks next block.insts) (instructions_of (based_blocks func marks (after_all next block.insts) blocks))
      (all_based P Q each next block.insts (all_front Q block.insts (instructions_of blocks) all))
      (all_based_blocks P Q each (after_all next block.insts) blocks (all_back Q block.insts (instructions_of blocks) all))

  goes_on_lines : (next : ℕ) (inst : Instruction) → goes_on inst ≡ true → list_all goes_on (lines_for func marks next inst inst.op) ≡ true
  goes_on_lines next inst on =
      all_true_of goes_on (lines_for func marks next inst inst.op)
      (each_line (λ line. goes_on line ≡ true) func marks next inst on (λ kind. on) (λ address. refl) (λ result first second. refl) refl)

  no_phi_lines : (next : ℕ) (inst : Instruction) → no_phi inst ≡ true → list_all no_phi (lines_for func marks next inst inst.op) ≡ true
  no_phi_lines next inst none =
      all_true_of no_phi (lines_for func marks next inst inst.op)
      (each_line (λ line. no_phi line ≡ true) func marks next inst none (λ kind. none) (λ address. refl) (λ result first second. refl) refl)

  quiet_based : (test : Instruction → Bool) → ((next : ℕ) (inst : Instruction) → test inst ≡ true → list_all test (lines_for func marks next inst inst.op) ≡ true)
      → (next : ℕ) (insts : List Instruction) → list_all test insts ≡ true → list_all test (based_insts func marks next insts) ≡ true
  quiet_based test each next [] all = refl
  quiet_based test each next (inst ∷ insts) all =
      all_true_append test (lines_for func marks next inst inst.op) (based_insts func marks (following next inst) insts)
      (each next inst (true_first (test inst) (list_all test insts) all)) (quiet_based test each (following next inst) insts (true_second (test inst) (list_all test insts) all))

  pub ends_based : (next : ℕ) (insts : List Instruction) → EndsAtTerminator insts → EndsAtTerminator (based_insts func marks next insts)
  ends_based next insts ended = record {
    before = based_insts func marks next ended.before;
    last = kept_line func marks ended.last;
    whole =
        ap (based_insts func marks next) ended.whole
        ∙ (based_append next ended.before (ended.last ∷ [])
        ∙ ap (λ lines. based_insts func marks next ended.before ++ (lines ++ [])) (ends_alone func marks (after_all next ended.before) ended.last ended.last.op ended.ends));
    ends = ended.ends;
    inside = quiet_based goes_on goes_on_lines next ended.before ended.inside;
  }

  lead_lines : (next : ℕ) (inst : Instruction) (op : Op) (rest : List Instruction) → inst.op ≡ op → is_phi op ≡ true → phis_lead rest ≡ true → phis_lead (lines_for func marks next inst op ++ rest) ≡ true
  lead_lines next inst ops.Phi rest is phi lead = by (is_merged marks inst)
    where
      by : (b : Bool) → phis_lead (((if b then base_line func marks next inst ∷ [] else []) ++ kept_line func marks inst ∷ []) ++ rest) ≡ true
      by true = rw is lead
      by false = rw is lead
  lead_lines next inst op rest is phi lead = absurd cc

  pub lead_based : (next : ℕ) (insts : List Instruction) → phis_lead insts ≡ true → phis_lead (based_insts func marks next insts) ≡ true
  lead_based next [] lead = refl
  lead_based next (inst ∷ insts) lead = by (is_phi inst.op) refl lead (λ rest. lead_based (following next inst) insts rest)
    where
      by : (b : Bool) → is_phi inst.op ≡ b → (if b then phis_lead insts else list_all no_phi insts) ≡ true
          → (phis_lead insts ≡ true → phis_lead (based_insts func marks (following next inst) insts) ≡ true)
          → phis_lead (lines_for func marks next inst inst.op ++ based_insts func marks (following next inst) insts) ≡ true
      by true phi rest further = lead_lines next inst inst.op (based_insts func marks (following next inst) insts) refl phi (further rest)
      by false other rest further =
          lead_of_none (lines_for func marks next inst inst.op ++ based_insts func marks (following next inst) insts)
          (all_true_append no_phi (lines_for func marks next inst inst.op) (based_insts func marks (following next inst) insts) (no_phi_lines next inst (not_from_false (is_phi inst.op) other))
          (quiet_based no_phi no_phi_lines (following next inst) insts rest))

  -- ---- edges

  abbrev own_targets : Instruction → List BlockId
  own_targets inst = if is_terminator inst.op then inst.labels else []

  merged_targets : (next : ℕ) (inst : Instruction) → is_terminator inst.op ≡ false → flat_map own_targets (merged func marks next inst) ≡ own_targets inst
  merged_targets next inst on = by (is_merged marks inst)
    where
      by : (b : Bool) → flat_map own_targets ((if b then base_line func marks next inst ∷ [] else []) ++ kept_line func marks inst ∷ []) ≡ own_targets inst
      by true = rw on refl
      by false = rw on refl

  lines_targets : (next : ℕ) (inst : Instruction) (op : Op) → inst.op ≡ op → flat_map own_targets (lines_for func marks next inst op) ≡ own_targets inst
  lines_targets next inst ops.Phi is = merged_targets next inst (ap is_terminator is)
  lines_targets next inst ops.Select is = merged_targets next inst (ap is_terminator is)
  lines_targets next inst (ops.Icmp pred) is = by (uses_marked marks inst) pred
    where
      on : is_terminator inst.op ≡ false
      on = ap is_terminator is

      by : (b : Bool) (pred : Pred) → flat_map own_targets (if b then compared func marks next inst pred else kept_line func marks inst ∷ []) ≡ own_targets inst
      by true preds.Eq = rw on refl
      by true preds.Ne = rw on refl
      by true pred = rw on refl
      by false pred = rw on refl
  lines_targets next inst ops.Load is = append-nil (own_targets inst)
  lines_targets next inst ops.Store is = append-nil (own_targets inst)
  lines_targets next inst op is = append-nil (own_targets inst)

  targets_based : (next : ℕ) (insts : List Instruction) → flat_map own_targets (based_insts func marks next insts) ≡ flat_map own_targets insts
  targets_based next [] = refl
  targets_based next (inst ∷ insts) =
      flat_map-append own_targets (lines_for func marks next inst inst.op) (based_insts func marks (following next inst) insts)
      ∙ (ap (λ row. row ++ flat_map own_targets (based_insts func marks (following next inst) insts)) (lines_targets next inst inst.op refl)
      ∙ ap (λ rows. own_targets inst ++ rows) (targets_based (following next inst) insts))

  pub edges_based : (next : ℕ) (blocks : List BasicBlock) → map targets (based_blocks func marks next blocks) ≡ map targets blocks
  edges_based next [] = refl
  edges_based next (block ∷ blocks) =
      ap (λ row. row ∷ map targets (based_blocks func marks (after_all next block.insts) blocks)) (targets_based next block.insts)
      ∙ ap (λ rows. targets block ∷ rows) (edges_based (after_all next block.insts) blocks)

-- ---- phis by place

pub lead_first : (insts : List Instruction) → phis_lead insts ≡ true → PhisStandFirst insts
lead_first [] lead = λ place inst at phi. absurd cc
lead_first (first ∷ insts) lead = by (is_phi first.op) refl lead (λ rest. lead_first insts rest)
  where
    none : (all : List Instruction) → list_all no_phi all ≡ true → (place : ℕ) (inst : Instruction) → slice_get all place ≡ Some inst → is_phi inst.op ≡ true → ⊥
    none [] quiet place inst at phi = cc
    none (x ∷ all) quiet zero inst at phi =
        let same : x ≡ inst = cc in
        let not_one = not-true (is_phi x.op) (true_first (no_phi x) (list_all no_phi all) quiet) in
        let one : is_phi x.op ≡ true = ap (λ i. is_phi i.op) same ∙ phi in
        cc
    none (x ∷ all) quiet (suc place) inst at phi = none all (true_second (no_phi x) (list_all no_phi all) quiet) place inst at phi

    by : (b : Bool) → is_phi first.op ≡ b → (if b then phis_lead insts else list_all no_phi insts) ≡ true → (phis_lead insts ≡ true → PhisStandFirst insts)
        → (place : ℕ) (inst : Instruction) → slice_get (first ∷ insts) place ≡ Some inst → is_phi inst.op ≡ true → place < (if is_phi first.op then 1 + phis_of insts else 0)
    by true is rest further zero inst at phi = rw is (omega arith)
    by true is rest further (suc place) inst at phi = rw is (let below = further rest place inst at phi in omega arith)
    by false is rest further zero inst at phi = absurd (let same : first ≡ inst = cc in let one : is_phi first.op ≡ true = ap (λ i. is_phi i.op) same ∙ phi in cc)
    by false is rest further (suc place) inst at phi = absurd (none insts rest place inst at phi)

-- where only phis stand before each phi
pub phi_splits : (insts : List Instruction)
    → ((before after : List Instruction) (phi : Instruction) → insts ≡ before ++ phi ∷ after → is_phi phi.op ≡ true → list_all (λ inst. is_phi inst.op) before ≡ true)
    → phis_lead insts ≡ true
phi_splits [] first = refl
phi_splits (inst ∷ insts) first =
    by (is_phi inst.op) refl
    (λ is. phi_splits insts (λ before after phi whole one.
    true_second (is_phi inst.op) (list_all (λ each. is_phi each.op) before) (first (inst ∷ before) after phi (ap (λ rest. inst ∷ rest) whole) one)))
  where
    no_more : (all done : List Instruction) → (insts ≡ done ++ all) → is_phi inst.op ≡ false → list_all no_phi all ≡ true
    no_more [] done whole other = refl
    no_more (x ∷ all) done whole other = both (is_phi x.op) refl (no_more all (done ++ x ∷ []) (whole ∙ sym (append_assoc done (x ∷ []) all)) other)
      where
        both : (b : Bool) → is_phi x.op ≡ b → list_all no_phi all ≡ true → not b && list_all no_phi all ≡ true
        both true one rest =
            let all_phis = first (inst ∷ done) all x (ap (λ more. inst ∷ more) whole) one in
            let here = true_first (is_phi inst.op) (list_all (λ each. is_phi each.op) done) all_phis in
            absurd cc
        both false one rest = rest

    by : (b : Bool) → is_phi inst.op ≡ b → (is_phi inst.op ≡ true → phis_lead insts ≡ true) → (if b then phis_lead insts else list_all no_phi insts) ≡ true
    by true is further = further is
    by false is further = no_more insts [] refl is
