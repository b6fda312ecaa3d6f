-- The faults that pairs decide, by the answers to four asks for each pair.
use Rattle.std.proofs.Common.{◌≡◌, ◌∙◌, ◌⊎◌, inl, inr, ℕ, zero, suc, ◌+◌, ◌*◌, ◌<◌, Bool, true, false, List, [], ◌∷◌, ◌++◌, Option, Some, None, refl, ap, sym, subst, length, arith, get_or}
use Rattle.std.specs.Prelude.{slice_get}
use Rattle.std.specs.List.{All, AllZip, Contains, flat_map}
use Rattle.std.proofs.lemmas.Bool.{false≢true, cases_lt}
use Rattle.std.proofs.lemmas.List.Elements.{Contains-append_left, Contains-append_right, Contains-append_cases}
use Rattle.std.proofs.lemmas.Option.{none-some, same_Some, slice_get_within}
use Rattle.std.proofs.lemmas.Slice.Zip.{AllZip-long}
use Rattle.list_laws.proofs.Places.{get_some}
use Rattle.list_laws.proofs.Contents.{contains_none, contains_first, contains_one, contains_cons, contains_get, get_contained, all_contained, contains_joined}
use Rattle.ir_ast.specs.declared.ops.Operand.{Operand}
use Rattle.ir_ast.specs.declared.ops.Op.{Op}
use Rattle.ir_ast.specs.declared.ops.Op.TheVariants.{GcResult, GcRelocate}
use Rattle.ir_ast.specs.Insts.{Instruction}
use Rattle.ir_ast.specs.Funcs.{Function, instructions_of}
use Rattle.object_meaning.specs.Lines.{Line}
use Rattle.object_meaning.specs.Frames.{is_member}
use Rattle.pair_facts.specs.declared.bases.Base.{Base}
use Rattle.pair_facts.specs.declared.bases.Base.TheVariants.{Any, Named}
use Rattle.pair_facts.specs.Lines.{lines_at, line_in}
use Rattle.pair_facts.specs.Paths.{Stands, Misses}
use Rattle.pair_facts.specs.Uses.{Use, Uses, relocates, checks, compares, escapes, checked, compared, escaping}
use Rattle.pair_facts.specs.Faults.{IsStale, IsLoose}
use Rattle.base_facts.specs.declared.asks.Ask.{Ask}
use Rattle.base_facts.specs.Answers.{IsAskable, IsAnswered}
use Rattle.fact_tables.proofs.InstLemmas.{insts_within, count_lines}
use Rattle.base_facts.proofs.SettleLemmas.{head_stands, statepoint_apart}
use Rattle.used_pairs.specs.declared.uses.UsedPair.{UsedPair}
use Rattle.used_pairs.specs.Lists.{use_in, IsUse}
use Rattle.statepoint_verify.specs.declared.marks.Mark.{Mark}
use Rattle.statepoint_verify.specs.Marks.{PairFault, mark_of, AreAll, IsInside}
use Rattle.statepoint_verify.specs.Marks as marks
use Rattle.statepoint_verify.specs.Judged.{ask_of, asks_for, code_by, loose_code, marked_by, UseFault, IsJudged, AreJudged, AreUses}
use Rattle.statepoint_verify.specs.Judged as uses
use Rattle.statepoint_verify.proofs.MarkLemmas.{block_within, inside_by}
use Rattle.object_meaning.proofs.LineLaws.{line_is}

-- ---- where used pairs stand and are judged

pub record IsPlaced (func : Function) (block place at : ℕ) : Type 0 where
  pub block_inside : block < length func.blocks
  pub place_inside : place < length (lines_at func block)
  pub at_inside : at < length (lines_at func block)
  pub outside : is_member (line_in (lines_at func block) at).inst.op ≡ false

checked_apart : (op : Op) (inst : Instruction) (pair : Use) → Contains (checked op inst) pair → is_member op ≡ false
checked_apart GcResult inst pair there = absurd (contains_none pair there)
checked_apart GcRelocate inst pair there = absurd (contains_none pair there)
checked_apart op inst pair _ = refl

compared_apart : (op : Op) (inst : Instruction) (pair : Use) → Contains (compared op inst) pair → is_member op ≡ false
compared_apart GcResult inst pair there = absurd (contains_none pair there)
compared_apart GcRelocate inst pair there = absurd (contains_none pair there)
compared_apart op inst pair _ = refl

escaping_apart : (op : Op) (inst : Instruction) (operand : Operand) → Contains (escaping op inst) operand → is_member op ≡ false
escaping_apart GcResult inst operand there = absurd (contains_none operand there)
escaping_apart GcRelocate inst operand there = absurd (contains_none operand there)
escaping_apart op inst operand _ = refl

placed_at : (func : Function) (block place : ℕ) (line : Line) → slice_get (lines_at func block) place ≡ Some line → is_member line.inst.op ≡ false
    → IsPlaced func block place place
placed_at func block place line stands apart =
    let below = slice_get_within (lines_at func block) place line stands in
    record {
      block_inside = block_within func block place below;
      place_inside = below;
      at_inside = below;
      outside = ap (λ (l : Line). is_member l.inst.op) (line_is (lines_at func block) place line stands) ∙ apart;
    }

pub placed : (func : Function) (block place code at : ℕ) (pair : Use) → Uses (lines_at func block) place code at pair → IsPlaced func block place at
placed func block place _ _ _ (relocates head line is) =
    let lines = lines_at func block in
    let below = slice_get_within lines place line is.stands in
    let own = head_stands lines place head is.in_group in
    record {
      block_inside = block_within func block place below;
      place_inside = below;
      at_inside = omega (arith, below, own.1);
      outside = (statepoint_apart (line_in lines head).inst.op own.0).0;
    }
placed func block place _ _ _ (checks line pair stands inside) = placed_at func block place line stands (checked_apart line.inst.op line.inst pair inside)
placed func block place _ _ _ (compares line pair stands inside) = placed_at func block place line stands (compared_apart line.inst.op line.inst pair inside)
placed func block place _ _ _ (escapes line operand stands inside) = placed_at func block place line stands (escaping_apart line.inst.op line.inst operand inside)

pub placed_use : (func : Function) (pair : UsedPair) → IsUse func pair → IsPlaced func pair.block pair.place pair.at
placed_use func pair is = placed func pair.block pair.place pair.code pair.at (use_in pair) is

pub at_low : (func : Function) (pair : UsedPair) → IsUse func pair → pair.at < length (instructions_of func.blocks)
at_low func pair is =
    let at = placed_use func pair is in
    let block = get_some func.blocks pair.block at.block_inside in
    omega (arith, at.at_inside, count_lines func pair.block block.0 block.1, insts_within func.blocks pair.block block.0 block.1)

-- ---- the asks

askable : (func : Function) (pair : UsedPair) (pointer : Operand) (base : Base) → IsUse func pair → IsAskable func (ask_of pair pointer base)
askable func pair pointer base is =
    let at = placed_use func pair is in
    record { block_inside = at.block_inside; place_inside = omega (arith, at.at_inside); outside = at.outside }

each_askable : (func : Function) (pair : UsedPair) (ask : Ask) → IsUse func pair → Contains (asks_for pair) ask → IsAskable func ask
each_askable func pair ask is there =
    let P : Ask → Type 0 = IsAskable func in
    let first = ask_of pair pair.address Any in
    let second = ask_of pair pair.base Any in
    let third = ask_of pair pair.address (Named pair.base) in
    let fourth = ask_of pair pair.base (Named pair.base) in
    elim (contains_cons first ask (second ∷ third ∷ fourth ∷ []) there) [
      | inl same ↦ subst P same (askable func pair pair.address Any is)
      | inr rest ↦ elim (contains_cons second ask (third ∷ fourth ∷ []) rest) [
        | inl same ↦ subst P same (askable func pair pair.base Any is)
        | inr rest ↦ elim (contains_cons third ask (fourth ∷ []) rest) [
          | inl same ↦ subst P same (askable func pair pair.address (Named pair.base) is)
          | inr rest ↦ subst P (contains_one fourth ask rest) (askable func pair pair.base (Named pair.base) is)
        ]
      ]
    ]

pub all_askable : (func : Function) (used : List UsedPair) (asks : List Ask) → asks ≡ flat_map asks_for used → AreUses func used → All (IsAskable func) asks
all_askable func used asks same are =
    all_contained (IsAskable func) asks (λ ask there.
    let from = contains_joined asks_for used ask (subst (λ (xs : List Ask). Contains xs ask) same there) in
    each_askable func from.of ask (are from.of from.inside) from.given)

pub length-asks : (used : List UsedPair) → length (flat_map asks_for used) ≡ 4 * length used
length-asks [] = refl
length-asks (pair ∷ used) = let rest = length-asks used in omega (arith, rest)

front_at : (pair : UsedPair) (rest : List Ask) (j : ℕ) → j < 4 → slice_get (asks_for pair ++ rest) j ≡ slice_get (asks_for pair) j
front_at pair rest zero low = refl
front_at pair rest (suc zero) low = refl
front_at pair rest (suc (suc zero)) low = refl
front_at pair rest (suc (suc (suc zero))) low = refl
front_at pair rest (suc (suc (suc (suc j)))) low = absurd (omega arith)

asks_at : (used : List UsedPair) (k j : ℕ) (pair : UsedPair) → slice_get used k ≡ Some pair → j < 4
    → slice_get (flat_map asks_for used) (4 * k + j) ≡ slice_get (asks_for pair) j
asks_at [] k j pair at low = absurd (none-some pair at)
asks_at (first ∷ used) zero j pair at low =
    let same : 4 * 0 + j ≡ j = omega arith in
    ap (slice_get (asks_for first ++ flat_map asks_for used)) same ∙ front_at first (flat_map asks_for used) j low
    ∙ ap (λ (p : UsedPair). slice_get (asks_for p) j) (same_Some first pair at)
asks_at (first ∷ used) (suc k) j pair at low =
    let same : 4 * suc k + j ≡ suc (suc (suc (suc (4 * k + j)))) = omega arith in
    ap (slice_get (asks_for first ++ flat_map asks_for used)) same ∙ asks_at used k j pair at low

zip_at : {A B : Type 0} (R : A → B → Type 0) (xs : List A) (ys : List B) (k : ℕ) (x : A) (d : B) → AllZip R xs ys → slice_get xs k ≡ Some x → R x (get_or ys k d)
zip_at R [] ys k x d zip at = absurd (none-some x at)
zip_at R (y ∷ xs) [] k x d zip at = absurd zip
zip_at R (y ∷ xs) (z ∷ ys) zero x d zip at = subst (λ w. R w z) (same_Some y x at) zip.0
zip_at R (y ∷ xs) (z ∷ ys) (suc k) x d zip at = zip_at R xs ys k x d zip.1 at

pub answer_at : (func : Function) (used : List UsedPair) (facts : List Bool) (k j : ℕ) (pair : UsedPair) (ask : Ask) → AllZip (IsAnswered func) (flat_map asks_for used) facts
    → slice_get used k ≡ Some pair → j < 4 → slice_get (asks_for pair) j ≡ Some ask → IsAnswered func ask (get_or facts (4 * k + j) false)
answer_at func used facts k j pair ask zip at low is =
    zip_at (IsAnswered func) (flat_map asks_for used) facts (4 * k + j) ask false zip (asks_at used k j pair at low ∙ is)

pub facts_inside : (func : Function) (used : List UsedPair) (facts : List Bool) (k : ℕ) → AllZip (IsAnswered func) (flat_map asks_for used) facts
    → k < length used → 4 * k + 3 < length facts
facts_inside func used facts k zip below =
    let long = AllZip-long (IsAnswered func) (flat_map asks_for used) facts zip in
    omega (arith, long, length-asks used, below)

-- ---- one pair

clash : (func : Function) (block place : ℕ) (operand : Operand) (base : Base) → Stands func block place operand base → Misses func block place operand base → ⊥
clash func block place operand base stands misses = false≢true (sym misses.misses ∙ stands misses.front misses.arrives)

stale_judged : (func : Function) (pair : UsedPair) → IsStale func pair.block pair.at (use_in pair) → IsJudged func pair (Some 1)
stale_judged func pair is = record {
  sound = λ code same. subst (UseFault func pair) (same_Some 1 code same) (uses.stale is);
  complete = only;
}
  where
    fresh : IsLoose func pair.block pair.at (use_in pair) → IsStale func pair.block pair.at (use_in pair) → ⊥
    fresh loose (inl misses) = clash func pair.block pair.at pair.address Any loose.address_fresh misses
    fresh loose (inr misses) = clash func pair.block pair.at pair.base Any loose.base_fresh misses

    only : (code : ℕ) → UseFault func pair code → Some 1 ≡ Some code
    only _ (uses.stale other) = refl
    only _ (uses.loose other) = absurd (fresh other is)

loose_judged : (func : Function) (pair : UsedPair) → IsLoose func pair.block pair.at (use_in pair) → IsJudged func pair (Some pair.code)
loose_judged func pair is = record {
  sound = λ code same. subst (UseFault func pair) (same_Some pair.code code same) (uses.loose is);
  complete = only;
}
  where
    fresh : IsStale func pair.block pair.at (use_in pair) → ⊥
    fresh (inl misses) = clash func pair.block pair.at pair.address Any is.address_fresh misses
    fresh (inr misses) = clash func pair.block pair.at pair.base Any is.base_fresh misses

    only : (code : ℕ) → UseFault func pair code → Some pair.code ≡ Some code
    only _ (uses.stale other) = absurd (fresh other)
    only _ (uses.loose other) = refl

pub judge : (func : Function) (pair : UsedPair) (pointer_fresh base_fresh paired own : Bool) → IsAnswered func (ask_of pair pair.address Any) pointer_fresh
    → IsAnswered func (ask_of pair pair.base Any) base_fresh → IsAnswered func (ask_of pair pair.address (Named pair.base)) paired
    → IsAnswered func (ask_of pair pair.base (Named pair.base)) own → IsJudged func pair (code_by pair.code pointer_fresh base_fresh paired own)
judge func pair true true true true pointer base one other = record {
  sound = λ code same. absurd (none-some code same);
  complete = never;
}
  where
    never : (code : ℕ) → UseFault func pair code → None ≡ Some code
    never _ (uses.stale (inl misses)) = absurd (clash func pair.block pair.at pair.address Any pointer misses)
    never _ (uses.stale (inr misses)) = absurd (clash func pair.block pair.at pair.base Any base misses)
    never _ (uses.loose is) = elim is.misses [
      | inl misses ↦ absurd (clash func pair.block pair.at pair.address (Named pair.base) one misses)
      | inr misses ↦ absurd (clash func pair.block pair.at pair.base (Named pair.base) other misses)
    ]
judge func pair true true true false pointer base one other =
    loose_judged func pair (record { address_fresh = pointer; base_fresh = base; misses = inr other })
judge func pair true true false own pointer base one other =
    loose_judged func pair (record { address_fresh = pointer; base_fresh = base; misses = inl one })
judge func pair true false paired own pointer base one other = stale_judged func pair (inr base)
judge func pair false base_fresh paired own pointer base one other = stale_judged func pair (inl pointer)

-- ---- all pairs

fault_of_use : (func : Function) (pair : UsedPair) (code : ℕ) → IsUse func pair → UseFault func pair code → PairFault func pair.block pair.place code
fault_of_use func pair _ is (uses.stale own) = marks.stale pair.code pair.at (use_in pair) is own
fault_of_use func pair _ is (uses.loose own) = marks.loose pair.code pair.at (use_in pair) is own

by_cases : (pair : UsedPair) (found : Option ℕ) (before : List Mark) (mark : Mark) → Contains (marked_by pair found before) mark
    → Contains before mark ⊎ ((code : ℕ) × (found ≡ Some code) × (mark_of pair.block pair.place code ≡ mark))
by_cases pair None before mark there = inl there
by_cases pair (Some code) before mark there = elim (Contains-append_cases before (mark_of pair.block pair.place code ∷ []) mark there) [
  | inl old ↦ inl old
  | inr last ↦ inr (code, refl, contains_one (mark_of pair.block pair.place code) mark last)
]

by_kept : (pair : UsedPair) (found : Option ℕ) (before : List Mark) (mark : Mark) → Contains before mark → Contains (marked_by pair found before) mark
by_kept pair None before mark there = there
by_kept pair (Some code) before mark there = Contains-append_left before _ mark there

by_new : (pair : UsedPair) (found : Option ℕ) (code : ℕ) (before : List Mark) → found ≡ Some code
    → Contains (marked_by pair found before) (mark_of pair.block pair.place code)
by_new pair found code before is =
    let mark = mark_of pair.block pair.place code in
    subst (λ (o : Option ℕ). Contains (marked_by pair o before) mark) (sym is) (Contains-append_right before (mark ∷ []) mark (contains_first mark []))

pub judged_more : (func : Function) (used : List UsedPair) (count : ℕ) (pair : UsedPair) (found : Option ℕ) (before next : List Mark) → slice_get used count ≡ Some pair
    → IsUse func pair → IsJudged func pair found → next ≡ marked_by pair found before → AreJudged func used count before → AreJudged func used (count + 1) next
judged_more func used count pair found before next at is judged next_is are = record {
  sound = λ mark there. elim (by_cases pair found before mark (subst (λ (xs : List Mark). Contains xs mark) next_is there)) [
    | inl old ↦ are.sound mark old
    | inr new ↦ subst (λ (m : Mark). PairFault func m.block m.place m.code) new.2 (fault_of_use func pair new.0 is (judged.sound new.0 new.1))
  ];
  complete = λ k one code low one_at fault. subst (λ (xs : List Mark). Contains xs (mark_of one.block one.place code)) (sym next_is) (elim (cases_lt k count) [
    | inl less ↦ by_kept pair found before (mark_of one.block one.place code) (are.complete k one code less one_at fault)
    | inr past ↦
        (let last : k ≡ count = omega (arith, low, past) in
        let same : one ≡ pair = same_Some one pair (sym one_at ∙ ap (slice_get used) last ∙ at) in
        subst (λ (p : UsedPair). Contains (marked_by pair found before) (mark_of p.block p.place code)) (sym same)
        (by_new pair found code before (judged.complete code (subst (λ (p : UsedPair). UseFault func p code) same fault))))
  ]);
}

pub judged_all : (func : Function) (used : List UsedPair) (found : List Mark) → ((pair : UsedPair) → (Contains used pair → IsUse func pair) × (IsUse func pair → Contains used pair))
    → AreJudged func used (length used) found → AreAll (PairFault func) found
judged_all func used found each are mark = (are.sound mark, complete mark.block mark.place mark.code)
  where
    listed : (pair : UsedPair) (code : ℕ) → IsUse func pair → UseFault func pair code → Contains found (mark_of pair.block pair.place code)
    listed pair code is fault =
        let at = get_contained used pair ((each pair).1 is) in
        are.complete at.0 pair code (slice_get_within used at.0 pair at.1) at.1 fault

    complete : (block place code : ℕ) → PairFault func block place code → Contains found (mark_of block place code)
    complete block place _ (marks.stale code at pair is own) =
        listed (record { block = block; place = place; at = at; code = code; address = pair.address; base = pair.base }) 1 is (uses.stale own)
    complete block place _ (marks.loose code at pair is own) =
        listed (record { block = block; place = place; at = at; code = code; address = pair.address; base = pair.base }) code is (uses.loose own)

pub pair_inside : (func : Function) (found : List Mark) → AreAll (PairFault func) found → (mark : Mark) → Contains found mark → IsInside func mark
pair_inside func found are mark there = inside_by func mark (within mark.block mark.place mark.code ((are mark).0 there))
  where
    within : (block place code : ℕ) → PairFault func block place code → place < length (lines_at func block)
    within block place _ (marks.stale code at pair is own) = (placed func block place code at pair is).place_inside
    within block place _ (marks.loose code at pair is own) = (placed func block place code at pair is).place_inside

pub judged_step : (func : Function) (used : List UsedPair) (facts : List Bool) (number : ℕ) (pair : UsedPair) (found : Option ℕ) (before next : List Mark)
    → AllZip (IsAnswered func) (flat_map asks_for used) facts → AreUses func used → slice_get used number ≡ Some pair
    → found ≡ code_by pair.code (get_or facts (4 * number) false) (get_or facts (4 * number + 1) false) (get_or facts (4 * number + 2) false) (get_or facts (4 * number + 3) false)
    → next ≡ marked_by pair found before → AreJudged func used number before → AreJudged func used (number + 1) next
judged_step func used facts number pair found before next zip are at found_is next_is judged =
    let zero_is : 4 * number + 0 ≡ 4 * number = omega arith in
    let first = subst (λ (n : ℕ). IsAnswered func (ask_of pair pair.address Any) (get_or facts n false)) zero_is
    (answer_at func used facts number 0 pair (ask_of pair pair.address Any) zip at (omega arith) refl) in
    let own = judge func pair (get_or facts (4 * number) false) (get_or facts (4 * number + 1) false) (get_or facts (4 * number + 2) false) (get_or facts (4 * number + 3) false)
    first
    (answer_at func used facts number 1 pair (ask_of pair pair.base Any) zip at (omega arith) refl)
    (answer_at func used facts number 2 pair (ask_of pair pair.address (Named pair.base)) zip at (omega arith) refl)
    (answer_at func used facts number 3 pair (ask_of pair pair.base (Named pair.base)) zip at (omega arith) refl) in
    judged_more func used number pair found before next at (are pair (contains_get used number pair at)) (subst (IsJudged func pair) (sym found_is) own) next_is judged
