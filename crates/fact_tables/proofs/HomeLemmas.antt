-- The table of homes, an instruction at a time.
use Rattle.std.proofs.Common.{◌≡◌, ◌∙◌, ◌⊎◌, inl, inr, ℕ, zero, suc, ◌+◌, ◌≤◌, cond, true, false, List, [], ◌∷◌, ◌++◌, Option, Some, None, refl, ap, sym, subst, slice_get, length, arith, take, replicate, take_all, add-one}
use Rattle.std.specs.Prelude.{is_some, slice_index}
use Rattle.std.proofs.lemmas.Bool.{cases_lt}
use Rattle.std.proofs.lemmas.List.{length_push, length-replicate}
use Rattle.std.proofs.lemmas.Option.{none-some, same_Some, get_or_from_slice_get}
use Rattle.ir_ast.specs.Insts.{Instruction}
use Rattle.ir_ast.specs.Blocks.{BasicBlock}
use Rattle.ir_ast.specs.Funcs.{Function}
use Rattle.object_meaning.specs.Lines.{Line, after_all, registers_of, insts_in, first_registers}
use Rattle.pair_facts.specs.Lines.{lines_at, line_in, no_line}
use Rattle.fact_tables.specs.declared.homes.Home.{Home}
use Rattle.fact_tables.specs.Homes.{GivesAt, home_at, home_in, register_at, IsBefore, KnowsHomes}
use Rattle.fact_tables.proofs.LineLemmas.{plain_none, after_all_more, registers_next, insts_are}
use Rattle.object_meaning.proofs.LineLaws.{plain_at}

-- ---- what a line gives

-- the line of an instruction gives the next value, where it has a result
pub line_gives : (func : Function) (block place : ℕ) (inst : Instruction) → slice_get (insts_in func block) place ≡ Some inst
    → (line_in (lines_at func block) place).to ≡ (cond (is_some inst.result) (Some (register_at func block place)) None)
line_gives func block place inst at =
    ap (λ (line : Line). line.to)
    (get_or_from_slice_get (lines_at func block) place _ no_line (plain_at (slice_index (registers_of func) block) (insts_in func block) place inst at))

register_same : (func : Function) (block place : ℕ) (inst : Instruction) → slice_get (insts_in func block) place ≡ Some inst → is_some inst.result ≡ false
    → register_at func block (place + 1) ≡ register_at func block place
register_same func block place inst at none =
    ap (λ (n : ℕ). register_at func block n) (add-one place) ∙ after_all_more (slice_index (registers_of func) block) (insts_in func block) place inst at
    ∙ ap (λ b. cond b (register_at func block place + 1) (register_at func block place)) none

register_more : (func : Function) (block place : ℕ) (inst : Instruction) → slice_get (insts_in func block) place ≡ Some inst → is_some inst.result ≡ true
    → register_at func block (place + 1) ≡ register_at func block place + 1
register_more func block place inst at some =
    ap (λ (n : ℕ). register_at func block n) (add-one place) ∙ after_all_more (slice_index (registers_of func) block) (insts_in func block) place inst at
    ∙ ap (λ b. cond b (register_at func block place + 1) (register_at func block place)) some

pub before_cases : (block place until_block until : ℕ) → IsBefore block place until_block (until + 1)
    → IsBefore block place until_block until ⊎ ((block ≡ until_block) × (place ≡ until))
before_cases block place until_block until (inl earlier) = inl (inl earlier)
before_cases block place until_block until (inr (same, below)) = elim (cases_lt place until) [
  | inl less ↦ inl (inr (same, less))
  | inr past ↦ inr (same, omega arith)
]

-- ---- an instruction more

pub homes_kept : (func : Function) (block place : ℕ) (inst : Instruction) (homes : List (Option Home)) → slice_get (insts_in func block) place ≡ Some inst
    → is_some inst.result ≡ false → KnowsHomes func block place homes → KnowsHomes func block (place + 1) homes
homes_kept func block place inst homes at none knows = record {
  count = knows.count ∙ sym (register_same func block place inst at none);
  sound = knows.sound;
  complete = λ b k value before gives. elim (before_cases b k block place before) [
    | inl earlier ↦ knows.complete b k value earlier gives
    | inr here ↦ (let own : GivesAt func block place value = subst (λ (n : ℕ). GivesAt func block n value) here.1 (subst (λ (n : ℕ). GivesAt func n k value) here.0 gives) in
        absurd (none-some value (sym (line_gives func block place inst at ∙ ap (λ t. cond t (Some (register_at func block place)) None) none) ∙ own)))
  ];
}

in_pushed : (homes : List (Option Home)) (home : Home) (value : ℕ) (found : Home) → home_in (homes ++ Some home ∷ []) value ≡ Some found
    → (home_in homes value ≡ Some found) ⊎ ((value ≡ length homes) × (found ≡ home))
in_pushed [] home zero found is = inr (refl, sym (same_Some home found is))
in_pushed [] home (suc value) found is = absurd (none-some found is)
in_pushed (first ∷ homes) home zero found is = inl is
in_pushed (first ∷ homes) home (suc value) found is = elim (in_pushed homes home value found is) [
  | inl earlier ↦ inl earlier
  | inr own ↦ inr (ap suc own.0, own.1)
]

kept_in : (homes : List (Option Home)) (home found : Home) (value : ℕ) → home_in homes value ≡ Some found → home_in (homes ++ Some home ∷ []) value ≡ Some found
kept_in [] home found value is = absurd (none-some found is)
kept_in (first ∷ homes) home found zero is = is
kept_in (first ∷ homes) home found (suc value) is = kept_in homes home found value is

last_in : (homes : List (Option Home)) (home : Home) → home_in (homes ++ Some home ∷ []) (length homes) ≡ Some home
last_in [] home = refl
last_in (first ∷ homes) home = last_in homes home

pub homes_pushed : (func : Function) (block place : ℕ) (inst : Instruction) (homes : List (Option Home)) → slice_get (insts_in func block) place ≡ Some inst
    → is_some inst.result ≡ true → KnowsHomes func block place homes → KnowsHomes func block (place + 1) (homes ++ Some (home_at block place) ∷ [])
homes_pushed func block place inst homes at some knows =
    let gives : GivesAt func block place (length homes)
    = line_gives func block place inst at ∙ ap (λ t. cond t (Some (register_at func block place)) None) some ∙ ap Some (sym knows.count) in
    record {
      count = length_push homes (Some (home_at block place)) ∙ ap (λ (n : ℕ). n + 1) knows.count ∙ sym (register_more func block place inst at some);
      sound = λ value home is. elim (in_pushed homes (home_at block place) value home is) [
        | inl earlier ↦ knows.sound value home earlier
        | inr own ↦ subst (λ (h : Home). GivesAt func h.block h.place value) (sym own.1) (subst (λ (v : ℕ). GivesAt func block place v) (sym own.0) gives)
      ];
      complete = λ b k value before given. elim (before_cases b k block place before) [
        | inl earlier ↦ kept_in homes (home_at block place) (home_at b k) value (knows.complete b k value earlier given)
        | inr here ↦ (let own : GivesAt func block place value = subst (λ (n : ℕ). GivesAt func block n value) here.1 (subst (λ (n : ℕ). GivesAt func n k value) here.0 given) in
            let same : length homes ≡ value = same_Some (length homes) value (sym gives ∙ own) in
            subst (λ (v : ℕ). home_in (homes ++ Some (home_at block place) ∷ []) v ≡ Some (home_at b k)) same
            (last_in homes (home_at block place) ∙ ap Some (ap (λ (n : ℕ). home_at n place) (sym here.0) ∙ ap (λ (n : ℕ). home_at b n) (sym here.1))))
      ];
    }

-- ---- a block more, and the start

in_none : (count value : ℕ) (home : Home) → home_in (replicate count None) value ≡ Some home → ⊥
in_none zero value home is = none-some home is
in_none (suc count) zero home is = none-some home is
in_none (suc count) (suc value) home is = in_none count value home is

pub homes_none : (func : Function) → KnowsHomes func 0 0 (replicate (length func.args) None)
homes_none func = record {
  count = length-replicate (length func.args) None ∙ first_register func.blocks;
  sound = λ value home is. absurd (in_none (length func.args) value home is);
  complete = λ block place value before gives. absurd (never block place before);
}
  where
    never : (block place : ℕ) → IsBefore block place 0 0 → ⊥
    never block place (inl earlier) = omega arith
    never block place (inr (same, below)) = omega arith

    first_register : (blocks : List BasicBlock) → length func.args ≡ slice_index (first_registers (length func.args) blocks) 0
    first_register [] = refl
    first_register (block ∷ blocks) = refl

past_end : (insts : List Instruction) (place : ℕ) → length insts ≤ place → slice_get insts place ≡ None
past_end [] place past = refl
past_end (inst ∷ insts) zero past = absurd (omega arith)
past_end (inst ∷ insts) (suc place) past = past_end insts place (omega arith)

none_past : (func : Function) (block place value : ℕ) (found : BasicBlock) → slice_get func.blocks block ≡ Some found → length found.insts ≤ place → GivesAt func block place value → ⊥
none_past func block place value found at past gives =
    let same : length (insts_in func block) ≡ length found.insts = ap length (insts_are func block found at) in
    let none : slice_get (insts_in func block) place ≡ None = past_end (insts_in func block) place (omega arith) in
    none-some value (sym (ap (λ (line : Line). line.to) (plain_none (slice_index (registers_of func) block) (insts_in func block) place none)) ∙ gives)

pub homes_next : (func : Function) (block : ℕ) (found : BasicBlock) (homes : List (Option Home)) → slice_get func.blocks block ≡ Some found
    → KnowsHomes func block (length found.insts) homes → KnowsHomes func (block + 1) 0 homes
homes_next func block found homes at knows = record {
  count = knows.count ∙ ap (λ (insts : List Instruction). after_all (slice_index (registers_of func) block) insts)
      (ap (take (length found.insts)) (insts_are func block found at) ∙ take_all (length found.insts) found.insts (omega arith))
      ∙ sym (registers_next (length func.args) func.blocks block found at) ∙ ap (λ (n : ℕ). slice_index (registers_of func) n) (sym (add-one block));
  sound = knows.sound;
  complete = λ b k value before gives. knows.complete b k value (earlier b k value before gives) gives;
}
  where
    earlier : (b k value : ℕ) → IsBefore b k (block + 1) 0 → GivesAt func b k value → IsBefore b k block (length found.insts)
    earlier b k value (inr (same, below)) gives = absurd (omega arith)
    earlier b k value (inl below) gives = elim (cases_lt b block) [
      | inl less ↦ inl less
      | inr past ↦ (let same : b ≡ block = omega arith in elim (cases_lt k (length found.insts)) [
        | inl inside ↦ inr (same, inside)
        | inr outside ↦ absurd (none_past func block k value found at outside (subst (λ (n : ℕ). GivesAt func n k value) same gives))
      ])
    ]
