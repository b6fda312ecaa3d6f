-- Whether a path to a place meets a definition is decided.
use Rattle.std.proofs.Common.{◌≡◌, ◌∙◌, ◌⊎◌, ℕ, zero, suc, ◌<◌, ◌≤◌, inl, inr, refl, sym, ap, subst, Bool, true, false, List, [], ◌∷◌, ◌++◌, length, Option, Some, None, arith}
use Rattle.std.specs.Prelude.{slice_get, is_some}
use Rattle.std.proofs.lemmas.Bool.{cases_eq, cases_order, cases_lt}
use Rattle.std.proofs.lemmas.Option.{slice_get_within, same_Some}
use Rattle.ir_ast.specs.Blocks.{BasicBlock}
use Rattle.ir_ast.specs.Faults.GroupShape.{number_at}
use Rattle.ir_ast.specs.Funcs.{Function}
use Rattle.ir_ast.specs.Insts.{Instruction}
use Rattle.ir_cfg.specs.DefiniteUses.{Defines, Meets, in_arguments, in_earlier, in_last, text_place}
use Rattle.ir_cfg.specs.Graphs.{Graph, graph_of}
use Rattle.ir_cfg.specs.Paths.{Path, at_entry, along}

abbrev Decided : Type 0 → Type 0
Decided P = P ⊎ (¬ P)

module _ (func : Function) (value : ℕ) where
  -- ---- one place

  stands_as : (block at : ℕ) (here : BasicBlock) (inst : Instruction) → slice_get func.blocks block ≡ Some here → slice_get here.insts at ≡ Some inst
      → (d : Defines func value block at) → d.inst ≡ inst
  stands_as block at here inst in_function in_block d =
      let same : d.stands.block ≡ here = same_Some d.stands.block here (sym d.stands.in_function ∙ in_function) in
      same_Some d.inst inst (sym (subst (λ (b : BasicBlock). slice_get b.insts at ≡ Some d.inst) same d.stands.in_block) ∙ in_block)

  numbered : (block at : ℕ) (here : BasicBlock) (inst : Instruction) → slice_get func.blocks block ≡ Some here → slice_get here.insts at ≡ Some inst
      → is_some inst.result ≡ true → Decided (Defines func value block at)
  numbered block at here inst in_function in_block named = by (cases_eq (number_at func (text_place func block at)) value)
    where
      by : Decided (number_at func (text_place func block at) ≡ value) → Decided (Defines func value block at)
      by (inl is) = inl (record { inst = inst; stands = record { block = here; in_function = in_function; in_block = in_block }; named = named; numbered = is })
      by (inr not) = inr (λ d. not d.numbered)

  named : (block at : ℕ) (here : BasicBlock) (inst : Instruction) → slice_get func.blocks block ≡ Some here → slice_get here.insts at ≡ Some inst
      → (b : Bool) → is_some inst.result ≡ b → Decided (Defines func value block at)
  named block at here inst in_function in_block true is = numbered block at here inst in_function in_block is
  named block at here inst in_function in_block false is =
      inr (λ d. let same = subst (λ (i : Instruction). is_some i.result ≡ true) (stands_as block at here inst in_function in_block d) d.named in
      let bad : true ≡ false = sym same ∙ is in cc)

  in_block_found : (block at : ℕ) (here : BasicBlock) → slice_get func.blocks block ≡ Some here → (found : Option Instruction)
      → slice_get here.insts at ≡ found → Decided (Defines func value block at)
  in_block_found block at here in_function (Some inst) is = named block at here inst in_function is (is_some inst.result) refl
  in_block_found block at here in_function None is =
      inr (λ d. let same : d.stands.block ≡ here = same_Some d.stands.block here (sym d.stands.in_function ∙ in_function) in
      let bad : Some d.inst ≡ None = sym (subst (λ (b : BasicBlock). slice_get b.insts at ≡ Some d.inst) same d.stands.in_block) ∙ is in cc)

  block_found : (block at : ℕ) (found : Option BasicBlock) → slice_get func.blocks block ≡ found → Decided (Defines func value block at)
  block_found block at (Some here) is = in_block_found block at here is (slice_get here.insts at) refl
  block_found block at None is = inr (λ d. let bad : Some d.stands.block ≡ None = sym d.stands.in_function ∙ is in cc)

  defines : (block at : ℕ) → Decided (Defines func value block at)
  defines block at = block_found block at (slice_get func.blocks block) refl

  -- ---- a front of a block

  record Below (block place : ℕ) : Type 0 where
    at : ℕ
    within : at < place
    is : Defines func value block at

  below : (block place : ℕ) → Decided (Below block place)
  below block zero = inr (λ some. let within = some.within in absurd (omega arith))
  below block (suc place) = by (defines block place) (below block place)
    where
      by : Decided (Defines func value block place) → Decided (Below block place) → Decided (Below block (suc place))
      by (inl is) rest = inl (record { at = place; within = omega arith; is = is })
      by (inr not) (inl some) = inl (record { at = some.at; within = (let within = some.within in omega arith); is = some.is })
      by (inr not) (inr none) = inr (λ some. last some (cases_eq some.at place))
        where
          last : (some : Below block (suc place)) → Decided (some.at ≡ place) → ⊥
          last some (inl same) = not (subst (Defines func value block) same some.is)
          last some (inr other) = none (record { at = some.at; within = (let within = some.within in omega (arith, other)); is = some.is })

  -- ---- a block

  abbrev Somewhere : ℕ → Type 0
  Somewhere block = (at : ℕ) × Defines func value block at

  all_below : (block : ℕ) (here : BasicBlock) → slice_get func.blocks block ≡ Some here → (at : ℕ) → Defines func value block at → at < length here.insts
  all_below block here in_function at d =
      let same : d.stands.block ≡ here = same_Some d.stands.block here (sym d.stands.in_function ∙ in_function) in
      slice_get_within here.insts at d.inst (subst (λ (b : BasicBlock). slice_get b.insts at ≡ Some d.inst) same d.stands.in_block)

  somewhere_in : (block : ℕ) (found : Option BasicBlock) → slice_get func.blocks block ≡ found → Decided (Somewhere block)
  somewhere_in block None is = inr (λ some. let bad : Some some.1.stands.block ≡ None = sym some.1.stands.in_function ∙ is in cc)
  somewhere_in block (Some here) is = by (below block (length here.insts))
    where
      by : Decided (Below block (length here.insts)) → Decided (Somewhere block)
      by (inl some) = inl (some.at, some.is)
      by (inr none) = inr (λ some. none (record { at = some.0; within = all_below block here is some.0 some.1; is = some.1 }))

  somewhere : (block : ℕ) → Decided (Somewhere block)
  somewhere block = somewhere_in block (slice_get func.blocks block) refl

  -- ---- the blocks of a path before its last

  record Earlier (path : List ℕ) : Type 0 where
    front : List ℕ
    back : List ℕ
    block : ℕ
    next : ℕ
    at : ℕ
    is : path ≡ front ++ block ∷ next ∷ back
    defines : Defines func value block at

  tails : (a b : ℕ) (xs ys : List ℕ) → a ∷ xs ≡ b ∷ ys → xs ≡ ys
  tails a b xs ys e = cc

  heads : (a b : ℕ) (xs ys : List ℕ) → a ∷ xs ≡ b ∷ ys → a ≡ b
  heads a b xs ys e = cc

  no_items : (a : ℕ) (front xs : List ℕ) → [] ≡ front ++ a ∷ xs → ⊥
  no_items a [] xs e = (let bad : [] ≡ a ∷ xs = e in cc)
  no_items a (b ∷ front) xs e = (let bad : [] ≡ b ∷ (front ++ a ∷ xs) = e in cc)

  not_single : (one a b : ℕ) (front back : List ℕ) → one ∷ [] ≡ front ++ a ∷ b ∷ back → ⊥
  not_single one a b [] back e = (let bad : [] ≡ b ∷ back = tails one a [] (b ∷ back) e in cc)
  not_single one a b (c ∷ front) back e = no_items a front (b ∷ back) (tails one c [] (front ++ a ∷ b ∷ back) e)

  behind_first : (one two : ℕ) (rest front back : List ℕ) (block next at : ℕ) → one ∷ two ∷ rest ≡ front ++ block ∷ next ∷ back → Defines func value block at
      → (¬ Somewhere one) → Earlier (two ∷ rest)
  behind_first one two rest [] back block next at e d none =
      absurd (none (at, subst (λ (b : ℕ). Defines func value b at) (sym (heads one block (two ∷ rest) (next ∷ back) e)) d))
  behind_first one two rest (c ∷ front) back block next at e d none =
      record { front = front; back = back; block = block; next = next; at = at; is = tails one c (two ∷ rest) (front ++ block ∷ next ∷ back) e; defines = d }

  earlier : (path : List ℕ) → Decided (Earlier path)
  earlier [] = inr (λ some. no_items some.block some.front (some.next ∷ some.back) some.is)
  earlier (one ∷ []) = inr (λ some. not_single one some.block some.next some.front some.back some.is)
  earlier (one ∷ two ∷ rest) = by (somewhere one) (earlier (two ∷ rest))
    where
      by : Decided (Somewhere one) → Decided (Earlier (two ∷ rest)) → Decided (Earlier (one ∷ two ∷ rest))
      by (inl some) more = inl (record { front = []; back = rest; block = one; next = two; at = some.0; is = refl; defines = some.1 })
      by (inr none) (inl some) =
          inl (record {
            front = one ∷ some.front;
            back = some.back;
            block = some.block;
            next = some.next;
            at = some.at;
            is = ap (λ (path : List ℕ). one ∷ path) some.is;
            defines = some.defines;
          })
      by (inr none) (inr not) =
          inr (λ some. not (behind_first one two rest some.front some.back some.block some.next some.at some.is some.defines none))

  -- ---- its last block

  last_is : (xs ys : List ℕ) (a b : ℕ) → xs ++ a ∷ [] ≡ ys ++ b ∷ [] → a ≡ b
  last_is [] [] a b e = heads a b [] [] e
  last_is [] (y ∷ ys) a b e = absurd (no_items b ys [] (tails a y [] (ys ++ b ∷ []) e))
  last_is (x ∷ xs) [] a b e = absurd (no_items a xs [] (sym (tails x b (xs ++ a ∷ []) [] e)))
  last_is (x ∷ xs) (y ∷ ys) a b e = last_is xs ys a b (tails x y (xs ++ a ∷ []) (ys ++ b ∷ []) e)

  record EndsIn (path : List ℕ) (block : ℕ) : Type 0 where
    front : List ℕ
    is : path ≡ front ++ block ∷ []

  ends_in : (graph : Graph) (path : List ℕ) (block : ℕ) → Path graph path block → EndsIn path block
  ends_in graph _ _ at_entry = record { front = []; is = refl }
  ends_in graph _ _ (along blocks from to path edge) = record { front = blocks; is = refl }

  -- ---- the whole

  module _ (path : List ℕ) (block place : ℕ) (ends : EndsIn path block) where
    meets_none : length func.args ≤ value → (¬ Earlier path) → (¬ Below block place) → Meets func value path place → ⊥
    meets_none outside not_earlier not_below (in_arguments inside) = absurd (omega (arith, outside, inside))
    meets_none outside not_earlier not_below (in_earlier front back own next at is d) =
        not_earlier (record { front = front; back = back; block = own; next = next; at = at; is = is; defines = d })
    meets_none outside not_earlier not_below (in_last front last at is d within) =
        not_below (record { at = at; within = within; is = subst (λ (b : ℕ). Defines func value b at) (last_is front ends.front last block (sym is ∙ ends.is)) d })

    by_last : length func.args ≤ value → (¬ Earlier path) → Decided (Below block place) → Decided (Meets func value path place)
    by_last outside not_earlier (inl some) = inl (in_last ends.front block some.at ends.is some.is some.within)
    by_last outside not_earlier (inr not_below) = inr (meets_none outside not_earlier not_below)

    by_earlier : length func.args ≤ value → Decided (Earlier path) → Decided (Meets func value path place)
    by_earlier outside (inl some) = inl (in_earlier some.front some.back some.block some.next some.at some.is some.defines)
    by_earlier outside (inr not_earlier) = by_last outside not_earlier (below block place)

    by_arguments : (value < length func.args) ⊎ (length func.args ≤ value) → Decided (Meets func value path place)
    by_arguments (inl inside) = inl (in_arguments inside)
    by_arguments (inr outside) = by_earlier outside (earlier path)

pub meets_or_not : (func : Function) (value : ℕ) (path : List ℕ) (block place : ℕ) → Path (graph_of func) path block
    → Meets func value path place ⊎ (¬ Meets func value path place)
meets_or_not func value path block place leads =
    by_arguments func value path block place (ends_in func value (graph_of func) path block leads) (cases_lt value (length func.args))
