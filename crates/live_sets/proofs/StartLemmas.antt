-- Lists by value, a step at a time.
use Rattle.std.proofs.Common.{◌≡◌, ℕ, zero, suc, ◌+◌, ◌<◌, Bool, if◌then◌else◌, List, [], ◌∷◌, ◌++◌, length, take, get_or, refl, ap, sym, arith, Some, None, Option, slice_get, inl, inr, ◌∙◌, append-nil, append_assoc}
use Rattle.std.specs.Prelude.{slice_set}
use Rattle.std.specs.List.{flat_map, range_with_len}
use Rattle.std.specs.Option.{option_map_or}
use Rattle.std.specs.Global.{Vec}
use Rattle.std.proofs.lemmas.Bool.{cases_eq, eq-eqb, ne_eqb}
use Rattle.std.proofs.lemmas.List.{length-set}
use Rattle.std.proofs.lemmas.Grind.{flat_map-append}
use Rattle.std.proofs.lemmas.Option.{slice_get-get_or}
use Rattle.sp_ids.specs.declared.ids.BlockId.{BlockId}
use Rattle.ir_ast.specs.declared.ops.Operand.{Operand}
use Rattle.ir_ast.specs.Insts.{Instruction}
use Rattle.ir_ast.specs.Blocks.{BasicBlock}
use Rattle.ir_ast.specs.Funcs.{Function}
use Rattle.object_meaning.specs.Lines.{following, after_all, insts_in}
use Rattle.live_sets.specs.Starts.{list_at, Grown, GrownAt, entry_adds, entries_add, adds, at_end, line_adds, block_adds, first_of, starts_in}
use Rattle.list_laws.proofs.Ranges.{range_more}
use Rattle.list_laws.proofs.Places.{get_read}

at_same : {A : Type 0} (lists : List (Vec A)) (place : ℕ) (new : Vec A) → place < length lists → list_at (slice_set lists place new) place ≡ new.items
at_same [] place new below = absurd (omega arith)
at_same (x ∷ lists) zero new below = refl
at_same (x ∷ lists) (suc place) new below = at_same lists place new (omega arith)

at_other : {A : Type 0} (lists : List (Vec A)) (place v : ℕ) (new : Vec A) → (place ≡ v → ⊥) → list_at (slice_set lists place new) v ≡ list_at lists v
at_other [] place v new other = refl
at_other (x ∷ lists) zero zero new other = absurd (other refl)
at_other (x ∷ lists) zero (suc v) new other = refl
at_other (x ∷ lists) (suc place) zero new other = refl
at_other (x ∷ lists) (suc place) (suc v) new other = at_other lists place v new (λ e. other (ap suc e))

pub grown_at : {A : Type 0} (lists : List (Vec A)) (place : ℕ) (new : Vec A) (item : A) → place < length lists → new.items ≡ list_at lists place ++ item ∷ []
    → GrownAt lists (slice_set lists place new) place item
grown_at lists place new item below pushed = record {
  whole = length-set lists place new;
  each = λ v within. elim (cases_eq place v) [
    | inl e ↦
        ap (λ (n : ℕ). list_at (slice_set lists place new) n) (sym e) ∙ at_same lists place new below ∙ pushed
        ∙ ap (λ (n : ℕ). list_at lists n ++ item ∷ []) e ∙ sym (ap (λ (t : Bool). list_at lists v ++ (if t then item ∷ [] else [])) (eq-eqb place v e))
    | inr ne ↦
        at_other lists place v new ne ∙ sym (append-nil (list_at lists v)) ∙ sym (ap (λ (t : Bool). list_at lists v ++ (if t then item ∷ [] else [])) (ne_eqb place v ne))
  ];
}

pub grown_none : (wanted : List Bool) (lists : List (Vec ℕ)) (added : ℕ → List ℕ) → ((v : ℕ) → v < length lists → added v ≡ []) → Grown wanted lists lists added
grown_none wanted lists added none = record { whole = refl; each = λ v within is. sym (ap (λ (xs : List ℕ). list_at lists v ++ xs) (none v within) ∙ append-nil (list_at lists v)) }

pub grown_both : (wanted : List Bool) (old mid new : List (Vec ℕ)) (one two both : ℕ → List ℕ) → Grown wanted old mid one → Grown wanted mid new two
    → ((v : ℕ) → both v ≡ one v ++ two v) → Grown wanted old new both
grown_both wanted old mid new one two both first second split = record {
  whole = second.whole ∙ first.whole;
  each = λ v within is.
      second.each v (let same = first.whole in omega arith) is ∙ ap (λ (xs : List ℕ). xs ++ two v) (first.each v within is)
      ∙ append_assoc (list_at old v) (one v) (two v) ∙ sym (ap (λ (xs : List ℕ). list_at old v ++ xs) (split v));
}

pub entries_none : (marks : List Bool) (table : List Operand) (v : ℕ) (labels : List BlockId) → entries_add marks table v labels [] ≡ []
entries_none marks table v [] = refl
entries_none marks table v (label ∷ labels) = refl

-- one entry more
pub entries_more : (marks : List Bool) (table : List Operand) (v place : ℕ) (labels : List BlockId) (operands : List Operand) (label : BlockId) (operand : Operand)
    → slice_get labels place ≡ Some label → slice_get operands place ≡ Some operand
    → entries_add marks table v labels (take (place + 1) operands) ≡ entries_add marks table v labels (take place operands) ++ adds marks table (at_end label) v operand
entries_more marks table v place labels operands label operand at is =
    let e : place + 1 ≡ suc place = omega arith in
    ap (λ (n : ℕ). entries_add marks table v labels (take n operands)) e ∙ go place labels operands at is
  where
    go : (place : ℕ) (labels : List BlockId) (operands : List Operand) → slice_get labels place ≡ Some label → slice_get operands place ≡ Some operand
        → entries_add marks table v labels (take (suc place) operands) ≡ entries_add marks table v labels (take place operands) ++ adds marks table (at_end label) v operand
    go zero [] operands at is = absurd (cc)
    go zero (l ∷ labels) [] at is = absurd (cc)
    go zero (l ∷ labels) (o ∷ operands) at is =
        let one : l ≡ label = cc in
        let two : o ≡ operand = cc in
        ap (λ (xs : List ℕ). adds marks table (at_end l) v o ++ xs) (entries_none marks table v labels) ∙ append-nil (adds marks table (at_end l) v o)
        ∙ ap (λ (x : BlockId). adds marks table (at_end x) v o) one ∙ ap (adds marks table (at_end label) v) two
        ∙ ap (λ (xs : List ℕ). xs ++ adds marks table (at_end label) v operand) (sym (entries_none marks table v (l ∷ labels)))
    go (suc place) [] operands at is = absurd (cc)
    go (suc place) (l ∷ labels) [] at is = absurd (cc)
    go (suc place) (l ∷ labels) (o ∷ operands) at is =
        ap (λ (xs : List ℕ). adds marks table (at_end l) v o ++ xs) (go place labels operands at is)
        ∙ sym (append_assoc (adds marks table (at_end l) v o) (entries_add marks table v labels (take place operands)) (adds marks table (at_end label) v operand))

-- past the labels an operand adds nothing
pub entries_past : (marks : List Bool) (table : List Operand) (v place : ℕ) (labels : List BlockId) (operands : List Operand)
    → slice_get labels place ≡ None
    → entries_add marks table v labels (take (place + 1) operands) ≡ entries_add marks table v labels (take place operands)
entries_past marks table v place labels operands at =
    let e : place + 1 ≡ suc place = omega arith in
    ap (λ (n : ℕ). entries_add marks table v labels (take n operands)) e ∙ go place labels operands at
  where
    go : (place : ℕ) (labels : List BlockId) (operands : List Operand) → slice_get labels place ≡ None
        → entries_add marks table v labels (take (suc place) operands) ≡ entries_add marks table v labels (take place operands)
    go place [] operands at = refl
    go zero (l ∷ labels) operands at = absurd (cc)
    go (suc place) (l ∷ labels) [] at = refl
    go (suc place) (l ∷ labels) (o ∷ operands) at = ap (λ (xs : List ℕ). adds marks table (at_end l) v o ++ xs) (go place labels operands at)

pub list_is : {A : Type 0} (lists : List (Vec A)) (place : ℕ) (list : Vec A) → place < length lists → list ≡ get_or lists place list → list_at lists place ≡ list.items
list_is lists place list below is = ap (λ (l : Option (Vec _)). option_map_or (λ (l : Vec _). l.items) l []) (get_read lists place list below is)

pub entries_step : (marks : List Bool) (table : List Operand) (v place : ℕ) (labels : List BlockId) (operands : List Operand) (d : Operand) (label : Option BlockId)
    → place < length operands → label ≡ slice_get labels place
    → entries_add marks table v labels (take (place + 1) operands) ≡ entries_add marks table v labels (take place operands) ++ entry_adds marks table v label (get_or operands place d)
entries_step marks table v place labels operands d None below at =
    entries_past marks table v place labels operands (sym at) ∙ sym (append-nil (entries_add marks table v labels (take place operands)))
entries_step marks table v place labels operands d (Some label) below at =
    entries_more marks table v place labels operands label (get_or operands place d) (sym at) (slice_get-get_or operands place d below)

pub block_adds_push : (marks : List Bool) (table : List Operand) (node first next v : ℕ) (insts : List Instruction) (inst : Instruction)
    → block_adds marks table node first next v (insts ++ inst ∷ [])
    ≡ block_adds marks table node first next v insts ++ line_adds marks table (record { node = node; first = first; next = after_all next insts }) v inst
block_adds_push marks table node first next v [] inst = append-nil (line_adds marks table (record { node = node; first = first; next = next }) v inst)
block_adds_push marks table node first next v (one ∷ insts) inst =
    ap (λ (xs : List ℕ). line_adds marks table (record { node = node; first = first; next = next }) v one ++ xs)
    (block_adds_push marks table node first (following next one) v insts inst)
    ∙ sym (append_assoc (line_adds marks table (record { node = node; first = first; next = next }) v one) (block_adds marks table node first (following next one) v insts)
    (line_adds marks table (record { node = node; first = first; next = after_all (following next one) insts }) v inst))

pub starts_more : (func : Function) (marks : List Bool) (table : List Operand) (v number : ℕ)
    → flat_map (starts_in func marks table v) (range_with_len 0 (number + 1)) ≡ flat_map (starts_in func marks table v) (range_with_len 0 number) ++ starts_in func marks table v number
starts_more func marks table v number =
    let zero_more : 0 + number ≡ number = omega arith in
    ap (flat_map (starts_in func marks table v)) (range_more 0 number ∙ ap (λ (n : ℕ). range_with_len 0 number ++ n ∷ []) zero_more)
    ∙ flat_map-append (starts_in func marks table v) (range_with_len 0 number) (number ∷ [])
    ∙ ap (λ (xs : List ℕ). flat_map (starts_in func marks table v) (range_with_len 0 number) ++ xs) (append-nil (starts_in func marks table v number))

-- what a block adds, by what was read of the function
pub block_starts : (func : Function) (marks : List Bool) (table : List Operand) (v number count first : ℕ) (block : BasicBlock) (insts : List Instruction)
    → count ≡ length func.blocks → first ≡ first_of func number → slice_get func.blocks number ≡ Some block → insts ≡ block.insts
    → block_adds marks table (count + number) first first v insts ≡ starts_in func marks table v number
block_starts func marks table v number count first block insts one two three four =
    let there : insts_in func number ≡ insts = ap (λ (b : Option BasicBlock). option_map_or (λ (b : BasicBlock). b.insts) b []) three ∙ sym four in
    ap (λ (n : ℕ). block_adds marks table (n + number) first first v insts) one
    ∙ ap (λ (n : ℕ). block_adds marks table (length func.blocks + number) n n v insts) two
    ∙ ap (block_adds marks table (length func.blocks + number) (first_of func number) (first_of func number) v) (sym there)
