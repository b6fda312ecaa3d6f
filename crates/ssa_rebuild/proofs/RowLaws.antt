-- The rows of a function's blocks.
use Rattle.std.proofs.Common.{◌≡◌, ◌∙◌, ℕ, zero, suc, ◌<◌, ◌≤◌, ◌+◌, inl, inr, Bool, cond, if◌then◌else◌, List, [], ◌∷◌, ◌++◌, length, map, take, drop, get_or, Option, Some, slice_get, refl, ap, sym, arith}
use Rattle.std.specs.Prelude.{slice_index, count_by}
use Rattle.std.specs.List.{flat_map, range_with_len, sum_by}
use Rattle.std.specs.Option.{option_map_or}
use Rattle.std.proofs.lemmas.Bool.{cases_Bool}
use Rattle.std.proofs.lemmas.List.Sums.{sum_by-cons}
use Rattle.std.proofs.lemmas.Option.{get_or_from_slice_get, slice_get-get_or}
use Rattle.list_laws.proofs.Places.{drop_at}
use Rattle.ir_ast.specs.declared.ops.Operand.{Operand}
use Rattle.ir_ast.specs.Insts.{Instruction}
use Rattle.ir_ast.specs.Blocks.{BasicBlock}
use Rattle.ir_ast.specs.Funcs.{Function}
use Rattle.object_meaning.specs.Lines.{Line, following, after_all, first_registers, registers_of, insts_in}
use Rattle.object_meaning.specs.TargetRuns.{plain_lines}
use Rattle.rewriting_forms.specs.Numbered.{lines_at, calls, preds}
use Rattle.rewriting_forms.specs.Liveness.{live_list, live_lists}
use Rattle.rewriting_forms.specs.Names.{Naming}
use Rattle.rewriting_forms.specs.Rewritten.{joined_at}
use Rattle.rewriting_laws.proofs.NameLemmas.{at_rest}
use Rattle.statepoint_insert.specs.Calls.{calls_in, calls_before}
use Rattle.statepoint_insert.proofs.CallLaws.{call_list, count_cons}
use Rattle.version_walk.specs.declared.slots.Slot.{Slot}
use Rattle.ssa_rebuild.specs.Rows.{give_slot, plain_slots, call_slots, lines_slots, listed_slots, count_of_call, calls_of, body_rows, phi_entries, inserted_entries, entries_into, entries_all}
use Rattle.list_laws.proofs.Ranges.{range_more}

pub count_more : (lines : List Line) (k : ℕ) (line : Line) → slice_get lines k ≡ Some line → count_by calls (take (suc k) lines) ≡ count_by calls (take k lines) + count_of_call line
count_more [] k line is = absurd (cc)
count_more (x ∷ lines) zero line is =
    let e : x ≡ line = cc in
    let one = count_cons x [] in
    let same : cond (calls x) 1 0 ≡ count_of_call line = ap (λ (l : Line). count_of_call l) e in
    omega (arith, one, same)
count_more (x ∷ lines) (suc k) line is =
    let more = count_cons x (take (suc k) lines) in
    let less = count_cons x (take k lines) in
    let rest = count_more lines k line is in
    omega (arith, more, less, rest)

pub calls_of_is : (call : ℕ) (lines : List Line) → calls_of call lines ≡ call + count_by calls lines
calls_of_is call [] = omega arith
calls_of_is call (line ∷ lines) =
    let rest = calls_of_is (call + count_of_call line) lines in
    let one = count_cons line lines in
    omega (arith, rest, one)

sum_append : (f : ℕ → ℕ) (xs : List ℕ) (x : ℕ) → sum_by f (xs ++ x ∷ []) ≡ sum_by f xs + f x
sum_append f [] x = (let one = sum_by-cons f x [] in omega (arith, one))
sum_append f (y ∷ xs) x =
    let more = sum_by-cons f y (xs ++ x ∷ []) in
    let less = sum_by-cons f y xs in
    let rest = sum_append f xs x in
    omega (arith, more, less, rest)

module _ (func : Function) (table : List Operand) where
  -- the lists of a block's calls are the next ones
  pub listed_is : (b k : ℕ) (lines : List Line) → b < length func.blocks → drop k (lines_at func b) ≡ lines
      → listed_slots (live_lists func table) (calls_before func b k) lines ≡ lines_slots func table b k lines
  listed_is b k [] below place = refl
  listed_is b k (line ∷ lines) below place =
      let here = at_rest (lines_at func b) k line lines place in
      let more = count_more (lines_at func b) k line here.0 in
      elim (cases_Bool (calls line)) [
        | inl call ↦
            let list = get_or_from_slice_get (live_lists func table) (calls_before func b k) (live_list func table b k) [] (call_list func table b k line below here.0 call) in
            let one : count_of_call line ≡ 1 = ap (λ (t : Bool). let n : ℕ = if t then 1 else 0 in n) call in
            let next : calls_before func b k + 1 ≡ calls_before func b (suc k) = omega (arith, more, one) in
            let rest = listed_is b (suc k) lines below here.1 in
            rw call (ap (λ (list : List ℕ). call_slots list line ++ listed_slots (live_lists func table) (calls_before func b k + 1) lines) list
            ∙ ap (λ (n : ℕ). call_slots (live_list func table b k) line ++ listed_slots (live_lists func table) n lines) next
            ∙ ap (λ (ss : List Slot). call_slots (live_list func table b k) line ++ ss) rest)
        | inr plain ↦
            let none : count_of_call line ≡ 0 = ap (λ (t : Bool). let n : ℕ = if t then 1 else 0 in n) plain in
            let next : calls_before func b k ≡ calls_before func b (suc k) = omega (arith, more, none) in
            let rest = listed_is b (suc k) lines below here.1 in
            rw plain (ap (λ (n : ℕ). plain_slots line ++ listed_slots (live_lists func table) n lines) next
            ∙ ap (λ (ss : List Slot). plain_slots line ++ ss) rest)
      ]

  pub calls_next : (b : ℕ) → calls_of (calls_before func b 0) (lines_at func b) ≡ calls_before func (b + 1) 0
  calls_next b =
      let all = calls_of_is (calls_before func b 0) (lines_at func b) in
      let z : 0 + b ≡ b = omega arith in
      let sum : sum_by (calls_in func) (range_with_len 0 (b + 1)) ≡ sum_by (calls_in func) (range_with_len 0 b) + calls_in func b =
      ap (sum_by (calls_in func)) (range_more 0 b ∙ ap (λ (m : ℕ). range_with_len 0 b ++ m ∷ []) z) ∙ sum_append (calls_in func) (range_with_len 0 b) b in
      let none : count_by calls [] ≡ 0 = refl in
      omega (arith, all, sum, none)

  abbrev first_of : ℕ → ℕ
  first_of b = slice_index (registers_of func) b

  first_next : (next : ℕ) (blocks : List BasicBlock) (b : ℕ) (block : BasicBlock) → slice_get blocks b ≡ Some block
      → slice_index (first_registers next blocks) (b + 1) ≡ after_all (slice_index (first_registers next blocks) b) block.insts
  first_next next [] b block is = absurd (cc)
  first_next next (x ∷ blocks) zero block is =
      let e : x ≡ block = cc in
      first_is (after_all next x.insts) blocks ∙ ap (λ (y : BasicBlock). after_all next y.insts) e
    where
      first_is : (n : ℕ) (blocks : List BasicBlock) → slice_index (first_registers n blocks) 0 ≡ n
      first_is n [] = refl
      first_is n (x ∷ blocks) = refl
  first_next next (x ∷ blocks) (suc b) block is =
      let s : suc b + 1 ≡ suc (b + 1) = omega arith in
      rw s (first_next (after_all next x.insts) blocks b block is)

  pub insts_are : (b : ℕ) (block : BasicBlock) → slice_get func.blocks b ≡ Some block → insts_in func b ≡ block.insts
  insts_are b block is = ap (λ (o : Option BasicBlock). option_map_or (λ (block : BasicBlock). block.insts) o []) is

  block_there : (b : ℕ) → b < length func.blocks → (block : BasicBlock) × (slice_get func.blocks b ≡ Some block)
  block_there b below = (get_or func.blocks b (record { name = []; insts = [] }), slice_get-get_or func.blocks b (record { name = []; insts = [] }) below)

  -- the rows of the blocks from one on
  pub rows_from : (joins : List (List ℕ)) (i c : ℕ) (join : List ℕ) → c + i < length func.blocks → slice_get joins i ≡ Some join
      → slice_get (body_rows (live_lists func table) joins (calls_before func c 0) (first_of c) (drop c func.blocks)) i
      ≡ Some (map give_slot join ++ lines_slots func table (c + i) 0 (lines_at func (c + i)))
  rows_from [] i c join below is = absurd (cc)
  rows_from (one ∷ joins) zero c join below is =
      let e : one ≡ join = cc in
      let at : c + 0 ≡ c = omega arith in
      let block = block_there c (omega arith) in
      let split = drop_at func.blocks c block.0 block.1 in
      let lines : plain_lines (first_of c) block.0.insts ≡ lines_at func c = ap (plain_lines (first_of c)) (sym (insts_are c block.0 block.1)) in
      ap (λ (bs : List BasicBlock). slice_get (body_rows (live_lists func table) (one ∷ joins) (calls_before func c 0) (first_of c) bs) 0) split
      ∙ ap (λ (ls : List Line). Some (map give_slot one ++ listed_slots (live_lists func table) (calls_before func c 0) ls)) lines
      ∙ ap (λ (ss : List Slot). Some (map give_slot one ++ ss)) (listed_is c 0 (lines_at func c) (omega arith) refl)
      ∙ ap (λ (vs : List ℕ). Some (map give_slot vs ++ lines_slots func table c 0 (lines_at func c))) e
      ∙ ap (λ (n : ℕ). Some (map give_slot join ++ lines_slots func table n 0 (lines_at func n))) (sym at)
  rows_from (one ∷ joins) (suc i) c join below is =
      let at : (c + 1) + i ≡ c + suc i = omega arith in
      let block = block_there c (omega arith) in
      let split = drop_at func.blocks c block.0 block.1 in
      let lines : plain_lines (first_of c) block.0.insts ≡ lines_at func c = ap (plain_lines (first_of c)) (sym (insts_are c block.0 block.1)) in
      let call : calls_of (calls_before func c 0) (plain_lines (first_of c) block.0.insts) ≡ calls_before func (c + 1) 0 =
      ap (calls_of (calls_before func c 0)) lines ∙ calls_next c in
      let first : after_all (first_of c) block.0.insts ≡ first_of (c + 1) = sym (first_next (length func.args) func.blocks c block.0 block.1) in
      ap (λ (bs : List BasicBlock). slice_get (body_rows (live_lists func table) (one ∷ joins) (calls_before func c 0) (first_of c) bs) (suc i)) split
      ∙ ap (λ (n : ℕ). slice_get (body_rows (live_lists func table) joins n (after_all (first_of c) block.0.insts) (drop (c + 1) func.blocks)) i) call
      ∙ ap (λ (n : ℕ). slice_get (body_rows (live_lists func table) joins (calls_before func (c + 1) 0) n (drop (c + 1) func.blocks)) i) first
      ∙ rows_from joins i (c + 1) join (omega arith) is
      ∙ ap (λ (n : ℕ). Some (map give_slot join ++ lines_slots func table n 0 (lines_at func n))) at

-- the entries of phis, over blocks and over their lines
flat_lines : (f : Instruction → List Operand) (next : ℕ) (insts : List Instruction) → flat_map f insts ≡ flat_map (λ line. f line.inst) (plain_lines next insts)
flat_lines f next [] = refl
flat_lines f next (inst ∷ insts) = ap (λ (os : List Operand). f inst ++ os) (flat_lines f (following next inst) insts)

pub entries_are : (func : Function) (naming : Naming) (from : ℕ) (joins : List (List ℕ)) (count to : ℕ) → to + count ≡ length func.blocks → length joins ≡ count
    → ((i : ℕ) → i < count → get_or joins i [] ≡ joined_at func naming (to + i))
    → entries_all (preds func) joins to (drop to func.blocks) from ≡ flat_map (entries_into func naming from) (range_with_len to count)
entries_are func naming from [] zero to all whole each =
    ap (λ (bs : List BasicBlock). entries_all (preds func) [] to bs from) (drop_past func.blocks to (omega (arith, all)))
  where
    drop_past : (bs : List BasicBlock) (n : ℕ) → length bs ≤ n → drop n bs ≡ []
    drop_past [] zero le = refl
    drop_past [] (suc n) le = refl
    drop_past (b ∷ bs) zero le = absurd (omega arith)
    drop_past (b ∷ bs) (suc n) le = drop_past bs n (omega arith)
entries_are func naming from (join ∷ joins) zero to all whole each = absurd (omega (arith, whole))
entries_are func naming from [] (suc count) to all whole each = absurd (omega (arith, whole))
entries_are func naming from (join ∷ joins) (suc count) to all whole each =
    let block = get_or func.blocks to (record { name = []; insts = [] }) in
    let stands = slice_get-get_or func.blocks to (record { name = []; insts = [] }) (omega (arith, all)) in
    let split = drop_at func.blocks to block stands in
    let at : to + 0 ≡ to = omega arith in
    let s : suc to ≡ to + 1 = omega arith in
    let insts : insts_in func to ≡ block.insts = ap (λ (o : Option BasicBlock). option_map_or (λ (block : BasicBlock). block.insts) o []) stands in
    let here : join ≡ joined_at func naming to = each 0 (omega arith) ∙ ap (joined_at func naming) at in
    let phis : flat_map (phi_entries from) block.insts ≡ flat_map (λ line. phi_entries from line.inst) (lines_at func to) =
    flat_lines (phi_entries from) (slice_index (registers_of func) to) block.insts
    ∙ ap (λ (is : List Instruction). flat_map (λ (line : Line). phi_entries from line.inst) (plain_lines (slice_index (registers_of func) to) is)) (sym insts) in
    let rest = entries_are func naming from joins count (to + 1) (omega (arith, all)) (omega (arith, whole))
    (λ i inside. each (suc i) (omega arith) ∙ (let e : to + suc i ≡ (to + 1) + i = omega arith in ap (joined_at func naming) e)) in
    ap (λ (bs : List BasicBlock). entries_all (preds func) (join ∷ joins) to bs from) split
    ∙ ap (λ (os : List Operand). (flat_map (inserted_entries from (preds func to)) join ++ os) ++ entries_all (preds func) joins (suc to) (drop (to + 1) func.blocks) from) phis
    ∙ ap (λ (vs : List ℕ). (flat_map (inserted_entries from (preds func to)) vs ++ flat_map (λ line. phi_entries from line.inst) (lines_at func to)) ++ entries_all (preds func) joins (suc to) (drop (to + 1) func.blocks) from) here
    ∙ ap (λ (n : ℕ). entries_into func naming from to ++ entries_all (preds func) joins n (drop (to + 1) func.blocks) from) s
    ∙ ap (λ (os : List Operand). entries_into func naming from to ++ os) rest
