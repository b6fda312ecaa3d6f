-- The lines that a module is printed as have no fault: each head has a name of its own.
use Rattle.std.proofs.Common.{◌≡◌, ◌∙◌, ◌⊎◌, inl, inr, ℕ, zero, suc, ◌+◌, ◌<◌, ◌≤◌, Bool, true, false, if◌then◌else◌, List, [], ◌∷◌, ◌++◌, map, length, take, drop, refl, ap, sym, subst, arith, codes}
use Rattle.std.specs.Prelude.{⊤, flat_map, Option, unwrap_or}
use Rattle.std.specs.Str.{bytes_eq}
use Rattle.std.specs.List.{AllByRecursion, Contains, range_with_len}
use Rattle.std.proofs.lemmas.List.{map-append}
use Rattle.std.proofs.lemmas.List.Elements.{recursion_from_All, All-from_recursion, All-contains, Contains-append_cases}
use Rattle.ir_ast.specs.Layouts.{ObjectLayout}
use Rattle.ir_ast.specs.Funcs.{Function}
use Rattle.ir_ast.specs.Modules.{ModuleContent}
use Rattle.ir_ast.specs.Lists.{Distinct}
use Rattle.ir_ast.specs.Faults.Reserved.{IsExternalName}
use Rattle.ir_printer.specs.Names.{Names, layout_name}
use Rattle.ir_printer.specs.Declarations.{calls, externals, fixed_externals, integer_widths}
use Rattle.print_tables.specs.declared.externals.External.{External}
use Rattle.print_tables.specs.declared.externals.External.TheVariants as externs
use Rattle.ir_lines.specs.Statements.{Line, Statement, declare, define, close}
use Rattle.ir_lines.specs.Places.{place_in}
use Rattle.ir_lines.specs.Sections.{Head, head_said, heads_of}
use Rattle.ir_lines.specs.InBody.{Repeats}
use Rattle.ir_lines.proofs.LawNames.{Apart, apart-distinct, distinct-apart}
use Rattle.read_back.specs.Said.{function_says, layout_says, block_says, declaration_says, declaration_if_called, said_by}
use Rattle.read_back.proofs.BackModules.{IsShaped}
use Rattle.read_back.proofs.BackLines.{said}
use Rattle.read_back.proofs.BackNames.{placed-back}
use Rattle.read_back.proofs.BackBlocks.{all_append}
use Rattle.read_back.proofs.BackSections.{InBody, blocks_inner}
use Rattle.read_back.proofs.BackTops.{no_repeat}
use Rattle.std.proofs.lemmas.Grind.{flat_map-append}

abbrev pub head_names : Statement → List (List ℕ)
head_names (declare answer name parameters) = name ∷ []
head_names (define answer name arguments strategy) = name ∷ []
head_names _ = []

one_head : (n : ℕ) (s : Statement) → map (λ (h : Head). h.name) (head_said n s) ≡ head_names s
one_head n (declare answer name parameters) = refl
one_head n (define answer name arguments strategy) = refl
one_head n _ = refl

heads_named : (ls : List Line) → map (λ (h : Head). h.name) (heads_of ls) ≡ flat_map head_names (said ls)
heads_named [] = refl
heads_named (l ∷ ls) =
    map-append (λ (h : Head). h.name) (head_said l.number l.says) (heads_of ls)
    ∙ ap (λ (ns : List (List ℕ)). ns ++ map (λ (h : Head). h.name) (heads_of ls)) (one_head l.number l.says)
    ∙ ap (λ (ns : List (List ℕ)). head_names l.says ++ ns) (heads_named ls)

-- ---- functions

body_names : (ss : List Statement) → AllByRecursion InBody ss → flat_map head_names ss ≡ []
body_names [] h = refl
body_names (s ∷ ss) h = ap (λ (ns : List (List ℕ)). ns ++ flat_map head_names ss) (none s h.0) ∙ body_names ss h.1
  where
    none : (s : Statement) → InBody s → head_names s ≡ []
    none (declare answer name parameters) e = absurd (let bad : false ≡ true = e in cc)
    none (define answer name arguments strategy) e = absurd (let bad : false ≡ true = e in cc)
    none _ e = refl

functions_named : (layouts : List ObjectLayout) (funcs fs : List Function) → flat_map head_names (flat_map (function_says layouts funcs) fs) ≡ map (λ f. f.name) fs
functions_named layouts funcs [] = refl
functions_named layouts funcs (f ∷ fs) =
    let names : Names = record { layouts = layouts; funcs = funcs; func = f } in
    let body = flat_map (block_says names) f.blocks in
    flat_map-append head_names (function_says layouts funcs f) (flat_map (function_says layouts funcs) fs)
    ∙ ap (λ (ns : List (List ℕ)). (f.name ∷ ns) ++ flat_map head_names (flat_map (function_says layouts funcs) fs))
    (flat_map-append head_names body (close ∷ []) ∙ ap (λ (ns : List (List ℕ)). ns ++ []) (body_names body (blocks_inner names f.blocks)))
    ∙ ap (λ (ns : List (List ℕ)). f.name ∷ ns) (functions_named layouts funcs fs)

layouts_unnamed : (layouts : List ObjectLayout) → flat_map head_names (map layout_says layouts) ≡ []
layouts_unnamed [] = refl
layouts_unnamed (l ∷ ls) = layouts_unnamed ls

-- ---- declarations

abbrev pub declared_names : List ObjectLayout → External → List (List ℕ)
declared_names layouts external = flat_map head_names (declaration_says layouts external)

abbrev pub names_if : List ObjectLayout → List Function → External → List (List ℕ)
names_if layouts funcs external = flat_map head_names (declaration_if_called layouts funcs external)

abbrev pub all_names : List ObjectLayout → List Function → List External → List (List ℕ)
all_names layouts funcs es = flat_map (names_if layouts funcs) es

if_named : (P : List ℕ → Type 0) (layouts : List ObjectLayout) (funcs : List Function) (external : External)
    → AllByRecursion P (declared_names layouts external) → AllByRecursion P (names_if layouts funcs external)
if_named P layouts funcs external h = by (calls funcs external)
  where
    by : (b : Bool) → AllByRecursion P (flat_map head_names (if b then declaration_says layouts external else []))
    by true = h
    by false = tt

each_named : (P : List ℕ → Type 0) (layouts : List ObjectLayout) (funcs : List Function) (es : List External)
    → AllByRecursion (λ e. AllByRecursion P (declared_names layouts e)) es → AllByRecursion P (all_names layouts funcs es)
each_named P layouts funcs [] h = tt
each_named P layouts funcs (e ∷ es) h =
    all_append P (names_if layouts funcs e) (all_names layouts funcs es) (if_named P layouts funcs e h.0) (each_named P layouts funcs es h.1)

-- ---- the externals have names of their own, in their order

-- the place of the external that a name is of
rank : List ObjectLayout → List ℕ → ℕ
rank layouts name =
    if bytes_eq (take 7 name) (codes "gc_new.") then unwrap_or (place_in (map (λ layout. layout.name) layouts) (drop 7 name)) 0
    else if bytes_eq name (codes "print_i64") then length layouts
    else if bytes_eq name (codes "read_i64") then length layouts + 1
    else if bytes_eq name (codes "task_start") then length layouts + 1 + 1
    else if bytes_eq name (codes "gc.safepoint_poll") then length layouts + 1 + 1 + 1
    else if bytes_eq name (codes "gc_check") then length layouts + 1 + 1 + 1 + 1
    else length layouts + 1 + 1 + 1 + 1 + 1

-- the names stand in the order of their externals, from this place on
abbrev Ordered : List ObjectLayout → ℕ → List (List ℕ) → Type 0
Ordered layouts from [] = ⊤
Ordered layouts from (n ∷ ns) = (from ≤ rank layouts n) × Ordered layouts (rank layouts n + 1) ns

ordered_later : (layouts : List ObjectLayout) (from to : ℕ) → from ≤ to → (ns : List (List ℕ)) → Ordered layouts to ns → Ordered layouts from ns
ordered_later layouts from to less [] h = tt
ordered_later layouts from to less (n ∷ ns) h = ((let first = h.0 in omega arith), h.1)

ordered_above : (layouts : List ObjectLayout) (from : ℕ) (ns : List (List ℕ)) → Ordered layouts from ns → AllByRecursion (λ m. from ≤ rank layouts m) ns
ordered_above layouts from [] h = tt
ordered_above layouts from (n ∷ ns) h =
    (h.0, ordered_above layouts from ns (ordered_later layouts from (rank layouts n + 1) (let first = h.0 in omega arith) ns h.1))

ordered_apart : (layouts : List ObjectLayout) (from : ℕ) (ns : List (List ℕ)) → Ordered layouts from ns → Apart ns
ordered_apart layouts from [] h = tt
ordered_apart layouts from (n ∷ ns) h = (none, ordered_apart layouts (rank layouts n + 1) ns h.1)
  where
    none : ¬ (Contains ns n)
    none c =
        let After : List ℕ → Type 0 = λ m. rank layouts n + 1 ≤ rank layouts m in
        let after = All-contains After ns n (All-from_recursion After ns (ordered_above layouts (rank layouts n + 1) ns h.1)) c in omega (arith, after)

one_ordered : (layouts : List ObjectLayout) (funcs : List Function) (e : External) (n : List ℕ) (place : ℕ) → declared_names layouts e ≡ n ∷ [] → rank layouts n ≡ place
    → (rest : List (List ℕ)) → Ordered layouts (place + 1) rest → Ordered layouts place (names_if layouts funcs e ++ rest)
one_ordered layouts funcs e n place named at rest h = by (calls funcs e)
  where
    by : (b : Bool) → Ordered layouts place (flat_map head_names (if b then declaration_says layouts e else []) ++ rest)
    by true = subst (λ (ns : List (List ℕ)). Ordered layouts place (ns ++ rest)) (sym named)
        ((let same = at in omega arith), subst (λ (k : ℕ). Ordered layouts (k + 1) rest) (sym at) h)
    by false = ordered_later layouts place (place + 1) (omega arith) rest h

made_rank : (layouts : List ObjectLayout) → Distinct (map (λ layout. layout.name) layouts) → (k : ℕ) → k < length layouts
    → rank layouts (codes "gc_new." ++ layout_name layouts k) ≡ k
unfolding rank
made_rank layouts once k below = ap (λ (o : Option ℕ). unwrap_or o 0) (placed-back (λ (layout : ObjectLayout). layout.name) layouts k once below)

made_ordered : (layouts : List ObjectLayout) (funcs : List Function) → Distinct (map (λ layout. layout.name) layouts) → (first more : ℕ) → first + more ≤ length layouts
    → (es : List External) → Ordered layouts (first + more) (all_names layouts funcs es)
    → Ordered layouts first (all_names layouts funcs (map externs.New (range_with_len first more) ++ es))
made_ordered layouts funcs once first zero few es h = subst (λ (k : ℕ). Ordered layouts k (all_names layouts funcs es)) (let e : first + 0 ≡ first = omega arith in e) h
made_ordered layouts funcs once first (suc more) few es h =
    one_ordered layouts funcs (externs.New first) (codes "gc_new." ++ layout_name layouts first) first refl (made_rank layouts once first (omega arith))
    (all_names layouts funcs (map externs.New (range_with_len (first + 1) more) ++ es))
    (made_ordered layouts funcs once (first + 1) more (omega arith) es
    (subst (λ (k : ℕ). Ordered layouts k (all_names layouts funcs es)) (let e : first + suc more ≡ first + 1 + more = omega arith in e) h))

none_named : (layouts : List ObjectLayout) (funcs : List Function) (es : List External) → AllByRecursion (λ e. declared_names layouts e ≡ []) es → all_names layouts funcs es ≡ []
none_named layouts funcs [] h = refl
none_named layouts funcs (e ∷ es) h = ap (λ (ns : List (List ℕ)). ns ++ all_names layouts funcs es) (by (calls funcs e)) ∙ none_named layouts funcs es h.1
  where
    by : (b : Bool) → flat_map head_names (if b then declaration_says layouts e else []) ≡ []
    by true = h.0
    by false = refl

results_unnamed : (layouts : List ObjectLayout) (widths : List ℕ) → AllByRecursion (λ e. declared_names layouts e ≡ []) (map externs.ResultOf widths ++ externs.ResultPointer ∷ [])
results_unnamed layouts [] = (refl, tt)
results_unnamed layouts (w ∷ ws) = (refl, results_unnamed layouts ws)

-- those of the rewritten form have no lines
abbrev families : List External
families = externs.StatepointFamily ∷ externs.RelocateFamily ∷ (map externs.ResultOf integer_widths ++ externs.ResultPointer ∷ [])

fixed_ordered : (layouts : List ObjectLayout) (funcs : List Function)
    → Ordered layouts (length layouts) (all_names layouts funcs (externs.Print ∷ externs.Read ∷ externs.TaskStart ∷ externs.Poll ∷ externs.Check ∷ externs.Same ∷ families))
unfolding rank
fixed_ordered layouts funcs =
    one_ordered layouts funcs externs.Print (codes "print_i64") _ refl refl _
    (one_ordered layouts funcs externs.Read (codes "read_i64") _ refl refl _
    (one_ordered layouts funcs externs.TaskStart (codes "task_start") _ refl refl _
    (one_ordered layouts funcs externs.Poll (codes "gc.safepoint_poll") _ refl refl _
    (one_ordered layouts funcs externs.Check (codes "gc_check") _ refl refl _
    (one_ordered layouts funcs externs.Same (codes "gc_same") _ refl refl _
    (subst (λ (ns : List (List ℕ)). Ordered layouts (length layouts + 1 + 1 + 1 + 1 + 1 + 1) ns) (sym (none_named layouts funcs families (refl, (refl, results_unnamed layouts integer_widths)))) tt))))))

externals_apart : (layouts : List ObjectLayout) (funcs : List Function) → Distinct (map (λ layout. layout.name) layouts) → Apart (all_names layouts funcs (externals layouts))
unfolding fixed_externals
externals_apart layouts funcs once =
    let fixed : List External = externs.Print ∷ externs.Read ∷ externs.TaskStart ∷ externs.Poll ∷ externs.Check ∷ externs.Same ∷ families in
    ordered_apart layouts 0 (all_names layouts funcs (externals layouts))
    (made_ordered layouts funcs once 0 (length layouts) (omega arith) fixed
    (subst (λ (k : ℕ). Ordered layouts k (all_names layouts funcs fixed)) (let e : length layouts ≡ 0 + length layouts = omega arith in e) (fixed_ordered layouts funcs)))

-- ---- all heads

external_names : (layouts : List ObjectLayout) (e : External) → AllByRecursion IsExternalName (declared_names layouts e)
external_names layouts (externs.New k) = (inr (inl (layout_name layouts k, refl)), tt)
external_names layouts externs.Print = (inl (0, omega arith, refl), tt)
external_names layouts externs.Read = (inl (1, omega arith, refl), tt)
external_names layouts externs.TaskStart = (inl (2, omega arith, refl), tt)
external_names layouts externs.Poll = (inl (3, omega arith, refl), tt)
external_names layouts externs.Check = (inl (4, omega arith, refl), tt)
external_names layouts externs.Same = (inl (5, omega arith, refl), tt)
external_names layouts _ = tt

every_external : (layouts : List ObjectLayout) (es : List External) → AllByRecursion (λ e. AllByRecursion IsExternalName (declared_names layouts e)) es
every_external layouts [] = tt
every_external layouts (e ∷ es) = (external_names layouts e, every_external layouts es)

join_apart : (ns fs : List (List ℕ)) → Apart ns → Apart fs → AllByRecursion IsExternalName ns → AllByRecursion (λ f. ¬ (IsExternalName f)) fs → Apart (ns ++ fs)
join_apart [] fs a b external free = b
join_apart (n ∷ ns) fs a b external free = (by, join_apart ns fs a.1 b external.1 free)
  where
    by : ¬ (Contains (ns ++ fs) n)
    by c = split (Contains-append_cases ns fs n c)
      where
        split : Contains ns n ⊎ Contains fs n → ⊥
        split (inl d) = a.0 d
        split (inr d) = All-contains (λ (f : List ℕ). ¬ (IsExternalName f)) fs n (All-from_recursion (λ (f : List ℕ). ¬ (IsExternalName f)) fs free) d external.0

free_names : (fs : List Function) → AllByRecursion (λ f. ¬ (IsExternalName f.name)) fs → AllByRecursion (λ n. ¬ (IsExternalName n)) (map (λ f. f.name) fs)
free_names [] h = tt
free_names (f ∷ fs) h = (h.0, free_names fs h.1)

flat-flat : {X Y Z : Type 0} (g : Y → List Z) (f : X → List Y) (xs : List X) → flat_map g (flat_map f xs) ≡ flat_map (λ x. flat_map g (f x)) xs
flat-flat g f [] = refl
flat-flat g f (x ∷ xs) = flat_map-append g (f x) (flat_map f xs) ∙ ap (λ zs. flat_map g (f x) ++ zs) (flat-flat g f xs)

pub names_are : (content : ModuleContent) (lines : List Line) → said lines ≡ said_by content
    → map (λ (h : Head). h.name) (heads_of lines) ≡ all_names content.layouts content.funcs (externals content.layouts) ++ map (λ f. f.name) content.funcs
unfolding said_by
names_are content lines e =
    let declared = flat_map (declaration_if_called content.layouts content.funcs) (externals content.layouts) in
    let defined = flat_map (function_says content.layouts content.funcs) content.funcs in
    heads_named lines ∙ ap (flat_map head_names) e ∙ flat_map-append head_names (map layout_says content.layouts) (declared ++ defined)
    ∙ ap (λ (ns : List (List ℕ)). ns ++ flat_map head_names (declared ++ defined)) (layouts_unnamed content.layouts)
    ∙ flat_map-append head_names declared defined
    ∙ ap (λ (ns : List (List ℕ)). ns ++ flat_map head_names defined) (flat-flat head_names (declaration_if_called content.layouts content.funcs) (externals content.layouts))
    ∙ ap (λ (ns : List (List ℕ)). all_names content.layouts content.funcs (externals content.layouts) ++ ns) (functions_named content.layouts content.funcs content.funcs)

pub heads_once : (content : ModuleContent) → IsShaped content → (lines : List Line) → said lines ≡ said_by content → (line : ℕ)
    → ¬ (Repeats (map (λ one. (one.line, one.name)) (heads_of lines)) line)
heads_once content shaped lines e line r =
    let declared = all_names content.layouts content.funcs (externals content.layouts) in
    let funcs = map (λ (f : Function). f.name) content.funcs in
    let apart : Apart (declared ++ funcs) =
    join_apart declared funcs (externals_apart content.layouts content.funcs shaped.no_fault.names.layouts)
    (apart-distinct funcs shaped.no_fault.names.functions)
    (each_named IsExternalName content.layouts content.funcs (externals content.layouts) (every_external content.layouts (externals content.layouts)))
    (free_names content.funcs (recursion_from_All (λ (f : Function). ¬ (IsExternalName f.name)) content.funcs shaped.no_fault.free)) in
    no_repeat (λ (one : Head). one.line) (λ (one : Head). one.name) (heads_of lines)
    (subst Distinct (sym (names_are content lines e)) (distinct-apart (declared ++ funcs) apart)) line r
