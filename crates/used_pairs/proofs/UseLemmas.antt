-- The pairs that lines use, a line at a time.
use Rattle.std.proofs.Common.{◌≡◌, ◌∙◌, ◌⊎◌, inl, inr, ℕ, zero, suc, ◌+◌, ◌<◌, ◌≤◌, cond, Bool, true, false, List, [], ◌∷◌, ◌++◌, map, drop, get_or, append_assoc, Option, Some, None, refl, ap, sym, subst, slice_get, length, arith, add-one}
use Rattle.std.specs.Prelude.{slice_index}
use Rattle.std.specs.List.{Contains}
use Rattle.std.specs.Option.{option_map_or}
use Rattle.std.proofs.lemmas.Bool.{cases_Bool, cases_lt}
use Rattle.std.proofs.lemmas.List.Elements.{Contains-append_left, Contains-append_right, Contains-append_cases}
use Rattle.std.proofs.lemmas.Option.{none-some, same_Some, slice_get_within, slice_get-get_or, slice_get_past}
use Rattle.list_laws.proofs.Contents.{contains_none, contains_first, contains_one, contains_map, contains_image}
use Rattle.ir_ast.specs.declared.types.Ty.{Ty}
use Rattle.ir_ast.specs.declared.types.Ty.TheVariants.{Void, Int, Ptr, Token}
use Rattle.ir_ast.specs.declared.ops.Operand.{Operand}
use Rattle.ir_ast.specs.Insts.{Instruction}
use Rattle.ir_ast.specs.Blocks.{BasicBlock}
use Rattle.ir_ast.specs.Funcs.{Function}
use Rattle.ir_ast.specs.Faults.GroupShape.{entries_of, is_statepoint}
use Rattle.object_meaning.specs.Lines.{Line, registers_of, insts_in}
use Rattle.object_meaning.specs.Frames.{is_member}
use Rattle.pair_facts.specs.Lines.{lines_at, line_in, no_line, head_at, head_here, is_relocate}
use Rattle.pair_facts.specs.Uses.{Use, Uses, relocates, checks, compares, escapes, Relocates, entries_used, entries_at, checked, compared, escaping, pointers_of}
use Rattle.fact_tables.specs.Homes.{IsBefore}
use Rattle.fact_tables.specs.Notes.{head_before}
use Rattle.fact_tables.proofs.LineLemmas.{insts_are}
use Rattle.fact_tables.proofs.NoteLemmas.{inst_at}
use Rattle.used_pairs.specs.declared.uses.UsedPair.{UsedPair}
use Rattle.used_pairs.specs.Places.{is_pointer_at, entries_pair}
use Rattle.used_pairs.specs.Lists.{use_in, use_with, IsUse, AreUsed, own_used, of_head, relocated_used, checked_used, compared_used, listed}
use Rattle.fact_tables.proofs.GroupLemmas.{head_next}
use Rattle.object_meaning.proofs.LineLaws.{plain_at, plain_count}
use Rattle.fact_tables.proofs.HomeLemmas.{before_cases}

-- ---- pointers among operands

first_pointer : (ty : Ty) (types : List Ty) (operand : Operand) (operands : List Operand)
    → pointers_of (ty ∷ types) (operand ∷ operands) ≡ cond (is_pointer_at (ty ∷ types) 0) (operand ∷ pointers_of types operands) (pointers_of types operands)
first_pointer Void types operand operands = refl
first_pointer (Int width) types operand operands = refl
first_pointer Ptr types operand operands = refl
first_pointer Token types operand operands = refl

pub pointers_step : (types : List Ty) (operands : List Operand) (place : ℕ) (operand : Operand) → slice_get operands place ≡ Some operand
    → pointers_of (drop place types) (drop place operands)
    ≡ cond (is_pointer_at types place) (operand ∷ pointers_of (drop (suc place) types) (drop (suc place) operands)) (pointers_of (drop (suc place) types) (drop (suc place) operands))
pointers_step types [] place operand at = absurd (none-some operand at)
pointers_step [] (first ∷ operands) zero operand at = refl
pointers_step [] (first ∷ operands) (suc place) operand at = refl
pointers_step (ty ∷ types) (first ∷ operands) zero operand at =
    first_pointer ty types first operands
    ∙ ap (λ (o : Operand). cond (is_pointer_at (ty ∷ types) 0) (o ∷ pointers_of types operands) (pointers_of types operands)) (same_Some first operand at)
pointers_step (ty ∷ types) (first ∷ operands) (suc place) operand at = pointers_step types operands place operand at

pub pointers_none : (types : List Ty) → pointers_of types [] ≡ []
pointers_none [] = refl
pointers_none (Void ∷ types) = refl
pointers_none (Int width ∷ types) = refl
pointers_none (Ptr ∷ types) = refl
pointers_none (Token ∷ types) = refl

pub pointers_pushed : (types : List Ty) (operands : List Operand) (place : ℕ) (operand : Operand) (old next all : List Operand)
    → slice_get operands place ≡ Some operand → is_pointer_at types place ≡ true → next ≡ old ++ operand ∷ []
    → old ++ pointers_of (drop place types) (drop place operands) ≡ all → next ++ pointers_of (drop (place + 1) types) (drop (place + 1) operands) ≡ all
pointers_pushed types operands place operand old next all at is next_is before =
    let rest = pointers_of (drop (suc place) types) (drop (suc place) operands) in
    subst (λ (n : ℕ). next ++ pointers_of (drop n types) (drop n operands) ≡ all) (sym (add-one place))
    (ap (λ (xs : List Operand). xs ++ rest) next_is ∙ append_assoc old (operand ∷ []) rest
    ∙ ap (λ (xs : List Operand). old ++ xs) (sym (pointers_step types operands place operand at ∙ ap (λ b. cond b (operand ∷ rest) rest) is)) ∙ before)

pub pointers_kept : (types : List Ty) (operands : List Operand) (place : ℕ) (operand : Operand) (old all : List Operand)
    → slice_get operands place ≡ Some operand → is_pointer_at types place ≡ false
    → old ++ pointers_of (drop place types) (drop place operands) ≡ all → old ++ pointers_of (drop (place + 1) types) (drop (place + 1) operands) ≡ all
pointers_kept types operands place operand old all at none before =
    let rest = pointers_of (drop (suc place) types) (drop (suc place) operands) in
    subst (λ (n : ℕ). old ++ pointers_of (drop n types) (drop n operands) ≡ all) (sym (add-one place))
    (ap (λ (xs : List Operand). old ++ xs) (sym (pointers_step types operands place operand at ∙ ap (λ b. cond b (operand ∷ rest) rest) none)) ∙ before)

-- ---- places

pub earlier_too : (block place until_block until : ℕ) → IsBefore block place until_block until → IsBefore block place until_block (until + 1)
earlier_too block place until_block until (inl earlier) = inl earlier
earlier_too block place until_block until (inr (same, below)) = inr (same, omega arith)

pub head_more : (func : Function) (block place : ℕ) (head found : Option ℕ) (inst : Instruction) → slice_get (insts_in func block) place ≡ Some inst
    → found ≡ head_here inst.op place head → head ≡ head_before (lines_at func block) place → found ≡ head_at (lines_at func block) place
head_more func block place head found inst at found_is head_is =
    let lines = lines_at func block in
    found_is ∙ ap (λ (h : Option ℕ). head_here inst.op place h) head_is
    ∙ ap (λ (i : Instruction). head_here i.op place (head_before lines place)) (sym (inst_at func block place inst at)) ∙ head_next lines place

head_cases : (b c : Bool) (place head bound : ℕ) (before : Option ℕ) → place ≤ bound → (before ≡ Some head → head ≤ bound)
    → cond {A = Option ℕ} b (Some place) (cond c before None) ≡ Some head → head ≤ bound
head_cases true c place head bound before low rest is = (let same : place ≡ head = same_Some place head is in omega arith)
head_cases false true place head bound before low rest is = rest is
head_cases false false place head bound before low rest is = absurd (none-some head is)

-- a group's statepoint comes no later than its lines
head_low : (lines : List Line) (place head : ℕ) → head_at lines place ≡ Some head → head ≤ place
head_low lines zero head at =
    head_cases (is_statepoint (line_in lines 0).inst.op) (is_member (line_in lines 0).inst.op) 0 head 0 None (omega arith) (λ none. absurd (none-some head none)) at
head_low lines (suc place) head at =
    head_cases (is_statepoint (line_in lines (suc place)).inst.op) (is_member (line_in lines (suc place)).inst.op) (suc place) head (suc place) (head_at lines place)
    (omega arith) (λ before. let low = head_low lines place head before in omega (arith, low)) at

stands_within : (func : Function) (block place : ℕ) (line : Line) → slice_get (lines_at func block) place ≡ Some line → place < length (insts_in func block)
stands_within func block place line stands =
    let within = slice_get_within (lines_at func block) place line stands in
    let long = plain_count (slice_index (registers_of func) block) (insts_in func block) in
    omega (arith, within, long)

-- ---- what is listed is used

abbrev Here : Function → ℕ → ℕ → UsedPair → Type 0
Here func block place pair = IsUse func pair × ((pair.block ≡ block) × (pair.place ≡ place))

head_used : (func : Function) (block place head : ℕ) (line : Line) (pair : UsedPair) (found : Option Instruction)
    → slice_get (lines_at func block) place ≡ Some line → head_at (lines_at func block) place ≡ Some head → slice_get (insts_in func block) head ≡ found
    → Contains (of_head block place line.inst found head) pair → Here func block place pair
head_used func block place head line pair None stands in_group at within = absurd (contains_none pair within)
head_used func block place head line pair (Some statepoint) stands in_group at within =
    let own = use_with block place head 2 (entries_pair line.inst (entries_of statepoint)) in
    elim (cases_Bool (is_relocate line.inst.op)) [
      | inl is ↦ (let only : own ≡ pair = contains_one own pair (subst (λ b. Contains (cond b (own ∷ []) []) pair) is within) in
          subst (Here func block place) only (
            subst (λ (i : Instruction). Uses (lines_at func block) place 2 head (entries_used line (entries_of i))) (inst_at func block head statepoint at)
                (relocates head line (record { stands = stands; relocate = is; in_group = in_group })),
            (refl, refl),
          ))
      | inr none ↦ absurd (contains_none pair (subst (λ b. Contains (cond b (own ∷ []) []) pair) none within))
    ]

relocated_sound : (func : Function) (block place : ℕ) (line : Line) (head : Option ℕ) (pair : UsedPair)
    → slice_get (lines_at func block) place ≡ Some line → head_at (lines_at func block) place ≡ head
    → Contains (relocated_used block place line.inst (insts_in func block) head) pair → Here func block place pair
relocated_sound func block place line None pair stands in_group within = absurd (contains_none pair within)
relocated_sound func block place line (Some head) pair stands in_group within =
    head_used func block place head line pair (slice_get (insts_in func block) head) stands in_group refl within

checked_sound : (func : Function) (block place : ℕ) (line : Line) (pair : UsedPair) → slice_get (lines_at func block) place ≡ Some line
    → Contains (checked_used block place line.inst) pair → Here func block place pair
checked_sound func block place line pair stands within =
    let image = contains_image (use_with block place place 3) (checked line.inst.op line.inst) pair within in
    subst (Here func block place) image.is (checks line image.of stands image.inside, (refl, refl))

compared_sound : (func : Function) (block place : ℕ) (line : Line) (pair : UsedPair) → slice_get (lines_at func block) place ≡ Some line
    → Contains (compared_used block place line.inst) pair → Here func block place pair
compared_sound func block place line pair stands within =
    let image = contains_image (use_with block place place 4) (compared line.inst.op line.inst) pair within in
    subst (Here func block place) image.is (compares line image.of stands image.inside, (refl, refl))

escaping_sound : (func : Function) (block place : ℕ) (line : Line) (pair : UsedPair) → slice_get (lines_at func block) place ≡ Some line
    → Contains (map (own_used block place) (escaping line.inst.op line.inst)) pair → Here func block place pair
escaping_sound func block place line pair stands within =
    let image = contains_image (own_used block place) (escaping line.inst.op line.inst) pair within in
    subst (Here func block place) image.is (escapes line image.of stands image.inside, (refl, refl))

listed_sound : (func : Function) (block place : ℕ) (line : Line) (used : List UsedPair) (pair : UsedPair) → slice_get (lines_at func block) place ≡ Some line
    → Contains (listed used block place line.inst (insts_in func block) (head_at (lines_at func block) place)) pair → Contains used pair ⊎ Here func block place pair
listed_sound func block place line used pair stands within =
    let relocated = relocated_used block place line.inst (insts_in func block) (head_at (lines_at func block) place) in
    let checks_too = checked_used block place line.inst in
    let compares_too = compared_used block place line.inst in
    elim (Contains-append_cases (((used ++ relocated) ++ checks_too) ++ compares_too) (map (own_used block place) (escaping line.inst.op line.inst)) pair within) [
      | inr there ↦ inr (escaping_sound func block place line pair stands there)
      | inl rest ↦ elim (Contains-append_cases ((used ++ relocated) ++ checks_too) compares_too pair rest) [
        | inr there ↦ inr (compared_sound func block place line pair stands there)
        | inl rest ↦ elim (Contains-append_cases (used ++ relocated) checks_too pair rest) [
          | inr there ↦ inr (checked_sound func block place line pair stands there)
          | inl rest ↦ elim (Contains-append_cases used relocated pair rest) [
            | inr there ↦ inr (relocated_sound func block place line _ pair stands refl there)
            | inl before ↦ inl before
          ]
        ]
      ]
    ]

-- ---- what is used is listed

relocated_complete : (func : Function) (block place head : ℕ) (line : Line) → Relocates (lines_at func block) place head line
    → Contains (relocated_used block place line.inst (insts_in func block) (head_at (lines_at func block) place))
    (use_with block place head 2 (entries_used line (entries_at (lines_at func block) head)))
relocated_complete func block place head line is =
    let insts = insts_in func block in
    let statepoint = get_or insts head no_line.inst in
    let low = head_low (lines_at func block) place head is.in_group in
    let within = stands_within func block place line is.stands in
    let at : slice_get insts head ≡ Some statepoint = slice_get-get_or insts head no_line.inst (omega (arith, low, within)) in
    let own = use_with block place head 2 (entries_pair line.inst (entries_of statepoint)) in
    let first : Contains (of_head block place line.inst (Some statepoint) head) own =
    subst (λ b. Contains (cond b (own ∷ []) []) own) (sym is.relocate) (contains_first own []) in
    subst (λ (i : Instruction). Contains (relocated_used block place line.inst insts (head_at (lines_at func block) place)) (use_with block place head 2 (entries_used line (entries_of i))))
    (sym (inst_at func block head statepoint at))
    (subst (λ (h : Option ℕ). Contains (relocated_used block place line.inst insts h) own) (sym is.in_group)
    (subst (λ (found : Option Instruction). Contains (of_head block place line.inst found head) own) (sym at) first))

-- a use at a place is of the line that stands there
own_line : (lines : List Line) (place code at : ℕ) (one : Use) → Uses lines place code at one → (line : Line) × (slice_get lines place ≡ Some line)
own_line lines place _ _ _ (relocates head line is) = (line, is.stands)
own_line lines place _ _ _ (checks line one stands inside) = (line, stands)
own_line lines place _ _ _ (compares line one stands inside) = (line, stands)
own_line lines place _ _ _ (escapes line operand stands inside) = (line, stands)

abbrev listed_of : (func : Function) (block place : ℕ) (used : List UsedPair) (line : Line) → List UsedPair
listed_of func block place used line = listed used block place line.inst (insts_in func block) (head_at (lines_at func block) place)

use_listed : (func : Function) (block place : ℕ) (used : List UsedPair) (line : Line) (code at : ℕ) (one : Use) → slice_get (lines_at func block) place ≡ Some line
    → Uses (lines_at func block) place code at one → Contains (listed_of func block place used line) (use_with block place at code one)
use_listed func block place used line _ _ _ own (relocates head other is) =
    let same : other ≡ line = same_Some other line (sym is.stands ∙ own) in
    let pair = use_with block place head 2 (entries_used other (entries_at (lines_at func block) head)) in
    let relocated = relocated_used block place other.inst (insts_in func block) (head_at (lines_at func block) place) in
    let there : Contains (listed_of func block place used other) pair =
    Contains-append_left (((used ++ relocated) ++ checked_used block place other.inst) ++ compared_used block place other.inst) _ pair
    (Contains-append_left ((used ++ relocated) ++ checked_used block place other.inst) _ pair
    (Contains-append_left (used ++ relocated) _ pair
    (Contains-append_right used relocated pair (relocated_complete func block place head other is)))) in
    subst (λ (l : Line). Contains (listed_of func block place used l) pair) same there
use_listed func block place used line _ _ _ own (checks other one stands inside) =
    let same : other ≡ line = same_Some other line (sym stands ∙ own) in
    let pair = use_with block place place 3 one in
    let relocated = relocated_used block place other.inst (insts_in func block) (head_at (lines_at func block) place) in
    let there : Contains (listed_of func block place used other) pair =
    Contains-append_left (((used ++ relocated) ++ checked_used block place other.inst) ++ compared_used block place other.inst) _ pair
    (Contains-append_left ((used ++ relocated) ++ checked_used block place other.inst) _ pair
    (Contains-append_right (used ++ relocated) (checked_used block place other.inst) pair
    (contains_map (use_with block place place 3) (checked other.inst.op other.inst) one inside))) in
    subst (λ (l : Line). Contains (listed_of func block place used l) pair) same there
use_listed func block place used line _ _ _ own (compares other one stands inside) =
    let same : other ≡ line = same_Some other line (sym stands ∙ own) in
    let pair = use_with block place place 4 one in
    let relocated = relocated_used block place other.inst (insts_in func block) (head_at (lines_at func block) place) in
    let there : Contains (listed_of func block place used other) pair =
    Contains-append_left (((used ++ relocated) ++ checked_used block place other.inst) ++ compared_used block place other.inst) _ pair
    (Contains-append_right ((used ++ relocated) ++ checked_used block place other.inst) (compared_used block place other.inst) pair
    (contains_map (use_with block place place 4) (compared other.inst.op other.inst) one inside)) in
    subst (λ (l : Line). Contains (listed_of func block place used l) pair) same there
use_listed func block place used line _ _ _ own (escapes other operand stands inside) =
    let same : other ≡ line = same_Some other line (sym stands ∙ own) in
    let pair = own_used block place operand in
    let relocated = relocated_used block place other.inst (insts_in func block) (head_at (lines_at func block) place) in
    let there : Contains (listed_of func block place used other) pair =
    Contains-append_right (((used ++ relocated) ++ checked_used block place other.inst) ++ compared_used block place other.inst)
    (map (own_used block place) (escaping other.inst.op other.inst)) pair
    (contains_map (own_used block place) (escaping other.inst.op other.inst) operand inside) in
    subst (λ (l : Line). Contains (listed_of func block place used l) pair) same there

-- ---- a line more, a block more, all blocks

pub used_more : (func : Function) (block place : ℕ) (head : Option ℕ) (used next : List UsedPair) (inst : Instruction) (insts : List Instruction)
    → insts ≡ insts_in func block → slice_get (insts_in func block) place ≡ Some inst → head ≡ head_at (lines_at func block) place
    → next ≡ listed used block place inst insts head → AreUsed func block place used → AreUsed func block (place + 1) next
used_more func block place head used next inst insts insts_is at head_is next_is are = record {
  sound = λ pair there. elim (listed_sound func block place line used pair stands (subst (λ (xs : List UsedPair). Contains xs pair) now there)) [
    | inl before ↦ (let old = are.sound pair before in (old.0, earlier_too pair.block pair.place block place old.1))
    | inr (one, (same, there_too)) ↦ (one, inr (same, omega arith))
  ];
  complete = λ pair one before. subst (λ (xs : List UsedPair). Contains xs pair) (sym now) (elim (before_cases pair.block pair.place block place before) [
    | inl earlier ↦ kept pair (are.complete pair one earlier)
    | inr here ↦ (let stands_there : slice_get (lines_at func pair.block) pair.place ≡ Some line =
        subst (λ (b : ℕ). slice_get (lines_at func b) pair.place ≡ Some line) (sym here.0) (subst (λ (k : ℕ). slice_get (lines_at func block) k ≡ Some line) (sym here.1) stands) in
        subst (λ (k : ℕ). Contains (listed_of func block k used line) pair) here.1
        (subst (λ (b : ℕ). Contains (listed_of func b pair.place used line) pair) here.0
        (use_listed func pair.block pair.place used line pair.code pair.at (use_in pair) stands_there one)))
  ]);
}
  where
    line : Line
    line = get_or (lines_at func block) place no_line

    stands : slice_get (lines_at func block) place ≡ Some line
    stands = slice_get-get_or (lines_at func block) place no_line
        (slice_get_within (lines_at func block) place _ (plain_at (slice_index (registers_of func) block) (insts_in func block) place inst at))

    own : line.inst ≡ inst
    own = inst_at func block place inst at

    now : next ≡ listed_of func block place used line
    now = next_is ∙ ap (λ (i : Instruction). listed used block place i insts head) (sym own)
        ∙ ap (λ (is : List Instruction). listed used block place line.inst is head) insts_is
        ∙ ap (λ (h : Option ℕ). listed used block place line.inst (insts_in func block) h) head_is

    kept : (pair : UsedPair) → Contains used pair → Contains (listed_of func block place used line) pair
    kept pair there =
        let relocated = relocated_used block place line.inst (insts_in func block) (head_at (lines_at func block) place) in
        Contains-append_left (((used ++ relocated) ++ checked_used block place line.inst) ++ compared_used block place line.inst) _ pair
        (Contains-append_left ((used ++ relocated) ++ checked_used block place line.inst) _ pair
        (Contains-append_left (used ++ relocated) _ pair
        (Contains-append_left used relocated pair there)))

pub used_next : (func : Function) (block : ℕ) (found : BasicBlock) (used : List UsedPair) → slice_get func.blocks block ≡ Some found
    → AreUsed func block (length found.insts) used → AreUsed func (block + 1) 0 used
used_next func block found used at are = record {
  sound = λ pair there. (let old = are.sound pair there in (old.0, later pair.block pair.place old.1));
  complete = λ pair one before. are.complete pair one (earlier pair one before);
}
  where
    later : (b k : ℕ) → IsBefore b k block (length found.insts) → IsBefore b k (block + 1) 0
    later b k (inl less) = inl (omega arith)
    later b k (inr (same, below)) = inl (omega arith)

    inside : (pair : UsedPair) → IsUse func pair → pair.block ≡ block → pair.place < length found.insts
    inside pair one same =
        let own = own_line (lines_at func pair.block) pair.place pair.code pair.at (use_in pair) one in
        let within = stands_within func pair.block pair.place own.0 own.1 in
        let long : length (insts_in func pair.block) ≡ length found.insts =
        ap (λ (b : ℕ). length (insts_in func b)) same ∙ ap length (insts_are func block found at) in
        omega (arith, within, long)

    earlier : (pair : UsedPair) → IsUse func pair → IsBefore pair.block pair.place (block + 1) 0 → IsBefore pair.block pair.place block (length found.insts)
    earlier pair one (inr (same, below)) = absurd (omega arith)
    earlier pair one (inl below) = elim (cases_lt pair.block block) [
      | inl less ↦ inl less
      | inr past ↦ (let same : pair.block ≡ block = omega arith in inr (same, inside pair one same))
    ]

pub used_none : (func : Function) → AreUsed func 0 0 []
used_none func = record {
  sound = λ pair there. absurd (contains_none pair there);
  complete = λ pair one before. absurd (nothing pair.block pair.place before);
}
  where
    nothing : (b k : ℕ) → IsBefore b k 0 0 → ⊥
    nothing b k (inl less) = omega arith
    nothing b k (inr (same, below)) = omega arith

pub used_all : (func : Function) (used : List UsedPair) → AreUsed func (length func.blocks) 0 used → (pair : UsedPair) → (Contains used pair → IsUse func pair) × (IsUse func pair → Contains used pair)
used_all func used are pair = (λ there. (are.sound pair there).0, λ one. are.complete pair one (inl (within one)))
  where
    within : IsUse func pair → pair.block < length func.blocks
    within one = elim (cases_lt pair.block (length func.blocks)) [
      | inl less ↦ less
      | inr past ↦ (let own = own_line (lines_at func pair.block) pair.place pair.code pair.at (use_in pair) one in
          let inside = stands_within func pair.block pair.place own.0 own.1 in
          let none : length (insts_in func pair.block) ≡ 0 =
          ap (λ (found : Option BasicBlock). length (option_map_or (λ (block : BasicBlock). block.insts) found [])) (slice_get_past func.blocks pair.block past) in
          absurd (omega (arith, inside, none)))
    ]
