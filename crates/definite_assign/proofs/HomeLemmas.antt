-- The table of the results' homes, an instruction at a time, and the home of a value that exists.
use Rattle.std.proofs.Common.{◌≡◌, ℕ, zero, suc, ◌<◌, ◌≤◌, ◌+◌, ◌-◌, cond, Bool, true, false, List, [], ◌∷◌, ◌++◌, length, get_or, take, refl, ap, sym, subst, arith, Some, None, slice_get, inl, inr, ◌⊎◌, ◌∙◌}
use Rattle.std.specs.List.{filter}
use Rattle.std.specs.Prelude.{is_some, map}
use Rattle.std.proofs.lemmas.List.{length-append, length-map, take_all, length_push}
use Rattle.std.proofs.lemmas.List.Filters.{length-filter_more}
use Rattle.std.proofs.lemmas.Bool.{cases_lt, lt-ltb, le-ltb}
use Rattle.std.proofs.lemmas.Option.{slice_get_within, get_or_from_slice_get, slice_get-get_or}
use Rattle.ir_ast.specs.Insts.{Instruction}
use Rattle.ir_ast.specs.Funcs.{Function, instructions_of}
use Rattle.ir_ast.specs.Values.{definitions_of, argument, outcome}
use Rattle.ir_cfg.specs.Graphs.{block_at}
use Rattle.ir_cfg.specs.DefiniteUses.{Stands, text_place}
use Rattle.definite_assign.specs.declared.homes.Home.{Home}
use Rattle.definite_assign.specs.Homes.{IsHome, AreHomes}
use Rattle.definite_assign.specs.Asked.{home_of}
use Rattle.definite_assign.proofs.TextLemmas.{stands_in_text}

abbrev named : Instruction → Bool
named inst = is_some inst.result

pub homes_none : (func : Function) → AreHomes func 0 []
homes_none func = record {
  count = refl;
  each = λ k home is. absurd (let never : None ≡ Some home = is in cc);
}

pub count_more : (func : Function) (number index : ℕ) (inst : Instruction) (result : Bool) → Stands func number index inst → is_some inst.result ≡ result
    → length (filter named (take (text_place func number index + 1) (instructions_of func.blocks)))
    ≡ length (filter named (take (text_place func number index) (instructions_of func.blocks))) + cond result 1 0
count_more func number index inst result stands is =
    let at = stands_in_text func number index inst stands in
    let insts = instructions_of func.blocks in
    let place = text_place func number index in
    let within = slice_get_within insts place inst at in
    let own : ◌≡◌ {A = ℕ} (cond (named (get_or insts place inst)) 1 0) (cond result 1 0) =
    ap (λ (i : Instruction). cond (named i) 1 0) (get_or_from_slice_get insts place inst inst at) ∙ ap (λ b. cond b 1 0) is in
    let more = length-filter_more named insts place inst within in
    omega (arith, more, own)

-- the instruction has no result
pub homes_same : (func : Function) (number index : ℕ) (inst : Instruction) (homes : List Home) → Stands func number index inst
    → is_some inst.result ≡ false → AreHomes func (text_place func number index) homes → AreHomes func (text_place func number index + 1) homes
homes_same func number index inst homes stands none are = record {
  count = omega (arith, are.count, count_more func number index inst false stands none);
  each = are.each;
}

-- what stands at a place of a list after a push
pub pushed_at : {A : Type 0} (xs : List A) (y : A) (k : ℕ) (x : A) → slice_get (xs ++ y ∷ []) k ≡ Some x
    → (slice_get xs k ≡ Some x) ⊎ ((k ≡ length xs) × (x ≡ y))
pushed_at [] y zero x is = inr (refl, cc)
pushed_at [] y (suc k) x is = absurd (cc)
pushed_at (z ∷ xs) y zero x is = inl is
pushed_at (z ∷ xs) y (suc k) x is =
    elim (pushed_at xs y k x is) [ inl earlier ↦ inl earlier | inr e ↦ inr (ap suc e.0, e.1) ]

abbrev pub home_at : Function → ℕ → ℕ → Home
home_at func number index = record { block = block_at number; place = text_place func number index }

-- the instruction has a result
pub homes_push : (func : Function) (number index : ℕ) (inst : Instruction) (homes : List Home) → Stands func number index inst
    → is_some inst.result ≡ true → AreHomes func (text_place func number index) homes
    → AreHomes func (text_place func number index + 1) (homes ++ home_at func number index ∷ [])
homes_push func number index inst homes stands some are = record {
  count = omega (arith, are.count, count_more func number index inst true stands some, length_push homes (home_at func number index));
  each = λ k one is. elim (pushed_at homes (home_at func number index) k one is) [
    | inl earlier ↦ are.each k one earlier
    | inr e ↦ subst (λ (home : Home). IsHome func (length func.args + k) home) (sym e.1) (record {
      at = index;
      defines = record { inst = inst; stands = stands; named = some; numbered = omega (arith, are.count, e.0) };
      place = refl;
    })
  ];
}

pub homes_pushed : (func : Function) (number index place : ℕ) (inst : Instruction) (homes : List Home) → place ≡ text_place func number index
    → Stands func number index inst → is_some inst.result ≡ true → AreHomes func place homes
    → AreHomes func (place + 1) (homes ++ record { block = block_at number; place = place } ∷ [])
homes_pushed func number index place inst homes is stands some are =
    subst (λ (p : ℕ). AreHomes func (p + 1) (homes ++ record { block = block_at number; place = p } ∷ [])) (sym is)
    (homes_push func number index inst homes stands some (subst (λ (p : ℕ). AreHomes func p homes) is are))

pub homes_kept : (func : Function) (number index place : ℕ) (inst : Instruction) (homes : List Home) → place ≡ text_place func number index
    → Stands func number index inst → is_some inst.result ≡ false → AreHomes func place homes → AreHomes func (place + 1) homes
homes_kept func number index place inst homes is stands none are =
    subst (λ (p : ℕ). AreHomes func (p + 1) homes) (sym is)
    (homes_same func number index inst homes stands none (subst (λ (p : ℕ). AreHomes func p homes) is are))

-- a value that is no argument has a home
pub record HasHome (func : Function) (homes : List Home) (value : ℕ) : Type 0 where
  pub home : Home
  pub is : home_of homes (length func.args) value ≡ Some home
  pub own : IsHome func value home

abbrev AllHomes : Function → List Home → Type 0
AllHomes func homes = AreHomes func (length (instructions_of func.blocks)) homes

count_all : (func : Function) (homes : List Home) → AllHomes func homes → length (definitions_of func) ≡ length func.args + length homes
count_all func homes are =
    let results = filter named (instructions_of func.blocks) in
    let all : length (filter named (take (length (instructions_of func.blocks)) (instructions_of func.blocks))) ≡ length results =
    ap (λ (xs : List Instruction). length (filter named xs)) (take_all (length (instructions_of func.blocks)) (instructions_of func.blocks) (omega arith)) in
    omega (arith, are.count, all, length-append (map argument func.args) (map outcome results), length-map func.args argument, length-map results outcome)

own_home : (func : Function) (homes : List Home) (value : ℕ) (home : Home) → AllHomes func homes → length func.args ≤ value
    → slice_get homes (value - length func.args) ≡ Some home → IsHome func value home
own_home func homes value home are past is =
    let same : length func.args + (value - length func.args) ≡ value = omega arith in
    subst (λ (v : ℕ). IsHome func v home) same (are.each (value - length func.args) home is)

home_is : (homes : List Home) (arguments value : ℕ) → arguments ≤ value → home_of homes arguments value ≡ slice_get homes (value - arguments)
home_is homes arguments value past =
    ap (λ b. cond b None (slice_get homes (value - arguments))) (le-ltb value arguments past)

has_home : (func : Function) (homes : List Home) (value : ℕ) → AllHomes func homes → value < length (definitions_of func)
    → length func.args ≤ value → HasHome func homes value
has_home func homes value are known past =
    let none : Home = record { block = block_at 0; place = 0 } in
    let within : value - length func.args < length homes = omega (arith, known, past, count_all func homes are) in
    let stands = slice_get-get_or homes (value - length func.args) none within in
    record {
      home = get_or homes (value - length func.args) none;
      is = home_is homes (length func.args) value past ∙ stands;
      own = own_home func homes value (get_or homes (value - length func.args) none) are past stands;
    }

pub argument_or_home : (func : Function) (homes : List Home) (value : ℕ) → AllHomes func homes → value < length (definitions_of func)
    → (value < length func.args) ⊎ HasHome func homes value
argument_or_home func homes value are known =
    elim (cases_lt value (length func.args)) [
      | inl below ↦ inl below
      | inr past ↦ inr (has_home func homes value are known past)
    ]

pub home_owns : (func : Function) (homes : List Home) (value : ℕ) (home : Home) → AllHomes func homes
    → home_of homes (length func.args) value ≡ Some home → IsHome func value home
home_owns func homes value home are is =
    elim (cases_lt value (length func.args)) [
      | inl below ↦
          let never : None ≡ Some home = sym (ap (λ b. cond b None (slice_get homes (value - length func.args))) (lt-ltb value (length func.args) below)) ∙ is in
          absurd (cc)
      | inr past ↦ own_home func homes value home are past (sym (home_is homes (length func.args) value past) ∙ is)
    ]

pub home_within : (func : Function) (value : ℕ) (home : Home) → IsHome func value home → home.place < length (instructions_of func.blocks)
home_within func value home own =
    let at = stands_in_text func home.block.0 own.at own.defines.inst own.defines.stands in
    omega (arith, own.place, slice_get_within (instructions_of func.blocks) (text_place func home.block.0 own.at) own.defines.inst at)
