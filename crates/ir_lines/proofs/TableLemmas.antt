-- One more line, argument or block in a table, and what is noted of its names.
use Rattle.std.proofs.Common.{◌≡◌, ◌∙◌, ℕ, ◌+◌, ◌<◌, zero, suc, ◌⊎◌, inl, inr, List, [], ◌∷◌, ◌++◌, length, get_or, take, refl, ap, sym, subst, arith, append_assoc}
use Rattle.std.specs.Prelude.{map, flat_map, filter, Option}
use Rattle.std.proofs.lemmas.List.{append-nil, map-append, length-map, take_more}
use Rattle.std.proofs.lemmas.List.Elements.{filter-append}
use Rattle.line_parts.specs.Types.{TypeWord}
use Rattle.line_parts.specs.Lists.{Named}
use Rattle.line_parts.specs.Seen.{seen_type}
use Rattle.ir_ast.specs.declared.modules.Form.{Form}
use Rattle.ir_lines.specs.declared.faults.Fault.{Fault}
use Rattle.std.proofs.lemmas.Grind.{flat_map-append}
use Rattle.ir_lines.specs.declared.scope.Top.{Top}
use Rattle.ir_lines.specs.declared.scope.Local.{Local}
use Rattle.ir_lines.specs.Statements.{Line, Statement, define}
use Rattle.ir_lines.specs.Sections.{LayoutLine, Head, Definition, Naming, BlockLines, layouts_of, heads_of, definitions_of, layout_said, head_said, definition_said, arguments_named, values_of, blocks_of}
use Rattle.ir_lines.specs.Notes.{Notes}
use Rattle.ir_lines.specs.Tables.{seen_head, IsTop, AddsLayouts, AddsHeads, AddsValues, AddsBlocks}
use Rattle.ir_lines.specs.Again.{FoundAfter, IsAgain, IsBadName, TopAgain, FoundByNames, named_layouts, named_heads, named_values, named_blocks}
use Rattle.ir_lines.proofs.NoteLemmas.{Either, notes-then, notes-same, notes-nothing}
use Rattle.ir_lines.proofs.AgainLemmas.{names_of, found-none, found-left, found-right, found-either, notes-added, again-repeats, repeats-again, names-found, found-names}

pub flat_map-push : {X Y : Type 0} (f : X → List Y) (xs : List X) (x : X) → flat_map f (xs ++ x ∷ []) ≡ flat_map f xs ++ f x
flat_map-push f xs x = flat_map-append f xs (x ∷ []) ∙ ap (λ zs. flat_map f xs ++ zs) (append-nil (f x))

pub names-named : {X : Type 0} (line : X → ℕ) (name : X → List ℕ) (xs : List X)
    → map (λ (one : ℕ × List ℕ). one.1) (map {B = ℕ × List ℕ} (λ x. (line x, name x)) xs) ≡ map name xs
names-named line name [] = refl
names-named line name (x ∷ xs) = ap (λ ys. name x ∷ ys) (names-named line name xs)

appended : {X Y : Type 0} (f : X → Y) (old between new : List Y) (xs more : List X) → between ≡ old ++ map f xs
    → new ≡ between ++ map f more → new ≡ old ++ map f (xs ++ more)
appended f old between new xs more e n =
    n ∙ ap (λ zs. zs ++ map f more) e ∙ append_assoc old (map f xs) (map f more) ∙ ap (λ zs. old ++ zs) (sym (map-append f xs more))

-- ---- values and blocks of a function

pub adds_values-none : (t : Local) → AddsValues t t []
adds_values-none t =
    record { values = sym (append-nil t.values); types = sym (append-nil (map seen_type t.types.items)); blocks = refl; answer = refl }

pub adds_values-more : (old between new : Local) (xs more : List Naming) → AddsValues old between xs → AddsValues between new more
    → AddsValues old new (xs ++ more)
adds_values-more old between new xs more a b = record {
  values = appended (λ (one : Naming). one.name) old.values between.values new.values xs more a.values b.values;
  types = appended (λ (one : Naming). one.ty) (map seen_type old.types.items) (map seen_type between.types.items) (map seen_type new.types.items) xs more a.types b.types;
  blocks = b.blocks ∙ a.blocks;
  answer = b.answer ∙ a.answer;
}

-- names that are added behind those of a list
pub notes-behind : {X : Type 0} (line : X → ℕ) (name : X → List ℕ) (F : List (List ℕ) → List ℕ → ℕ → Type 0) (old between : List (List ℕ))
    (xs more : List X) (f g h : Option Fault) → between ≡ old ++ map name xs
    → Notes f g (FoundAfter F old (map {B = ℕ × List ℕ} (λ x. (line x, name x)) xs)) → Notes g h (FoundAfter F between (map {B = ℕ × List ℕ} (λ x. (line x, name x)) more))
    → Notes f h (FoundAfter F old (map {B = ℕ × List ℕ} (λ x. (line x, name x)) (xs ++ more)))
notes-behind {X} line name F old between xs more f g h e m n =
    let same : between ≡ old ++ names_of (map {B = ℕ × List ℕ} (λ x. (line x, name x)) xs)
    = e ∙ ap (λ zs. old ++ zs) (sym (names-named line name xs)) in
    subst (λ (all : List (ℕ × List ℕ)). Notes f h (FoundAfter F old all)) (sym (map-append {B = ℕ × List ℕ} (λ x. (line x, name x)) xs more))
    (notes-added F old (map {B = ℕ × List ℕ} (λ x. (line x, name x)) xs) (map {B = ℕ × List ℕ} (λ x. (line x, name x)) more) f g h m
    (subst (λ (names : List (List ℕ)). Notes g h (FoundAfter F names (map {B = ℕ × List ℕ} (λ x. (line x, name x)) more))) same n))

pub record Values (form : Form) (old new : Local) (f g : Option Fault) (xs : List Naming) : Type 0 where
  pub added : AddsValues old new xs
  pub noted : Notes f g (FoundAfter (IsBadName form) old.values (named_values xs))

pub values-none : (form : Form) (t : Local) (f : Option Fault) → Values form t t f f []
values-none form t f = record {
  added = adds_values-none t;
  noted = notes-nothing f (FoundAfter (IsBadName form) t.values []) (found-none (IsBadName form) t.values);
}

pub values-more : (form : Form) (old between new : Local) (f g h : Option Fault) (xs more ys : List Naming) → ys ≡ xs ++ more
    → Values form old between f g xs → AddsValues between new more → Notes g h (FoundAfter (IsBadName form) between.values (named_values more))
    → Values form old new f h ys
values-more form old between new f g h xs more ys e v a n =
    subst (λ (zs : List Naming). Values form old new f h zs) (sym e) (record {
      added = adds_values-more old between new xs more v.added a;
      noted = notes-behind (λ (one : Naming). one.line) (λ (one : Naming). one.name) (IsBadName form) old.values between.values xs more f g h v.added.values v.noted n;
    })

pub record Blocks (form : Form) (old new : Local) (f g : Option Fault) (xs : List BlockLines) : Type 0 where
  pub added : AddsBlocks old new xs
  pub noted : Notes f g (FoundAfter (IsBadName form) old.blocks (named_blocks xs))

pub blocks-none : (form : Form) (t : Local) (f : Option Fault) → Blocks form t t f f []
blocks-none form t f = record {
  added = record { values = refl; types = refl; blocks = sym (append-nil t.blocks); answer = refl };
  noted = notes-nothing f (FoundAfter (IsBadName form) t.blocks []) (found-none (IsBadName form) t.blocks);
}

pub blocks-more : (form : Form) (old between new : Local) (f g h : Option Fault) (xs ys : List BlockLines) (one : BlockLines) → ys ≡ xs ++ one ∷ []
    → Blocks form old between f g xs → new.values ≡ between.values → new.types.items ≡ between.types.items
    → new.blocks ≡ between.blocks ++ one.name ∷ [] → new.answer ≡ between.answer
    → Notes g h (FoundAfter (IsBadName form) between.blocks ((one.line, one.name) ∷ []))
    → Blocks form old new f h ys
blocks-more form old between new f g h xs ys one e b values types blocks answer n =
    subst (λ (zs : List BlockLines). Blocks form old new f h zs) (sym e) (record {
      added = record {
        values = values ∙ b.added.values;
        types = types ∙ b.added.types;
        blocks = appended (λ (one : BlockLines). one.name) old.blocks between.blocks new.blocks xs (one ∷ []) b.added.blocks blocks;
        answer = answer ∙ b.added.answer;
      };
      noted = notes-behind (λ (one : BlockLines). one.line) (λ (one : BlockLines). one.name) (IsBadName form) old.blocks between.blocks xs (one ∷ []) f g h b.added.blocks b.noted n;
    })

-- the arguments of a head by their places
abbrev naming : ℕ → List ℕ → TypeWord → Naming
naming line name ty = record { line = line; name = name; ty = ty }

pub argument-at : (line : ℕ) (before args : List Named) (i : ℕ) (d : Naming) (e : Named) → i < length args
    → get_or (arguments_named line before args) i d
    ≡ record { line = line; name = get_or (map (λ one. one.name) (arguments_named line before args)) i []; ty = (get_or args i e).ty }
argument-at line before [] i d e below = absurd (let b : i < 0 = below in omega arith)
argument-at line before (x ∷ xs) zero d e below = refl
argument-at line before (x ∷ xs) (suc i) d e below =
    argument-at line (before ++ x ∷ []) xs i d e (let b : suc i < length (x ∷ xs) = below in omega arith)

pub length-arguments : (line : ℕ) (before args : List Named) → length (arguments_named line before args) ≡ length args
length-arguments line before [] = refl
length-arguments line before (x ∷ xs) = ap suc (length-arguments line (before ++ x ∷ []) xs)

pub argument-push : (line : ℕ) (args : List Named) (i : ℕ) (name : List ℕ) (ty : TypeWord) (d : Naming) (e : Named) → i < length args
    → get_or (map (λ one. one.name) (arguments_named line [] args)) i [] ≡ name → (get_or args i e).ty ≡ ty
    → take (i + 1) (arguments_named line [] args) ≡ take i (arguments_named line [] args) ++ record { line = line; name = name; ty = ty } ∷ []
argument-push line args i name ty d e below named typed =
    let inside : i < length (arguments_named line [] args) = (let as_many = length-arguments line [] args in omega arith) in
    let here : get_or (arguments_named line [] args) i d ≡ record { line = line; name = name; ty = ty }
    = argument-at line [] args i d e below
    ∙ ap (λ (n : List ℕ). naming line n (get_or args i e).ty) named ∙ ap (λ (t : TypeWord). naming line name t) typed in
    take_more (arguments_named line [] args) i d inside ∙ ap (λ one. take i (arguments_named line [] args) ++ one ∷ []) here

pub same-length : {X Y Z : Type 0} (f : X → Z) (g : Y → Z) (xs : List X) (ys : List Y) → map f xs ≡ map g ys → length xs ≡ length ys
same-length f g xs ys e = sym (length-map xs f) ∙ ap length e ∙ length-map ys g

-- both lists of names of a function
pub names-noted : (form : Form) (func : Definition) (args results : List Naming) (f g h i : Option Fault) (values : List (List ℕ))
    → values_of func ≡ args ++ results → values ≡ map (λ (one : Naming). one.name) args
    → Notes f g (FoundAfter (IsBadName form) [] (named_values args)) → Notes g h (FoundAfter (IsBadName form) values (named_values results))
    → Notes h i (FoundAfter (IsBadName form) [] (named_blocks (blocks_of func)))
    → Notes f i (FoundByNames form func)
names-noted form func args results f g h i values e known m n o =
    notes-same f i (Either (FoundAfter (IsBadName form) [] (named_values (values_of func))) (FoundAfter (IsBadName form) [] (named_blocks (blocks_of func)))) (FoundByNames form func)
    to from
    (notes-then f h i (FoundAfter (IsBadName form) [] (named_values (values_of func))) (FoundAfter (IsBadName form) [] (named_blocks (blocks_of func))) both o)
  where
    both : Notes f h (FoundAfter (IsBadName form) [] (named_values (values_of func)))
    both =
        subst (λ (all : List Naming). Notes f h (FoundAfter (IsBadName form) [] (named_values all))) (sym e)
        (notes-behind (λ (one : Naming). one.line) (λ (one : Naming). one.name) (IsBadName form) [] values args results f g h known m n)

    to : (l c : ℕ) → Either (FoundAfter (IsBadName form) [] (named_values (values_of func))) (FoundAfter (IsBadName form) [] (named_blocks (blocks_of func))) l c → FoundByNames form func l c
    to l c (inl v) = inl (names-found form (named_values (values_of func)) l c v)
    to l c (inr b) = inr (names-found form (named_blocks (blocks_of func)) l c b)

    from : (l c : ℕ) → FoundByNames form func l c → Either (FoundAfter (IsBadName form) [] (named_values (values_of func))) (FoundAfter (IsBadName form) [] (named_blocks (blocks_of func))) l c
    from l c (inl v) = inl (found-names form (named_values (values_of func)) l c v)
    from l c (inr b) = inr (found-names form (named_blocks (blocks_of func)) l c b)

-- ---- layouts and heads

abbrev pub LayoutAgain : List LayoutLine → ℕ → ℕ → Type 0
LayoutAgain layouts = FoundAfter IsAgain [] (named_layouts layouts)

abbrev pub HeadAgain : List Head → ℕ → ℕ → Type 0
HeadAgain heads = FoundAfter IsAgain [] (named_heads heads)

abbrev pub layouts_said : Line → List LayoutLine
layouts_said l = layout_said l.number l.says

abbrev pub heads_said : Line → List Head
heads_said l = head_said l.number l.says

abbrev defined_names : List Head → List (List ℕ)
defined_names heads = map (λ (one : Head). one.name) (filter (λ (one : Head). one.defined) heads)

defined_names-append : (xs ys : List Head) → defined_names (xs ++ ys) ≡ defined_names xs ++ defined_names ys
defined_names-append xs ys =
    ap (λ zs. map (λ (one : Head). one.name) zs) (filter-append (λ (one : Head). one.defined) xs ys)
    ∙ map-append (λ (one : Head). one.name) (filter (λ (one : Head). one.defined) xs) (filter (λ (one : Head). one.defined) ys)

said-names : (number : ℕ) (says : Statement) (ls : List Line)
    → map (λ (one : Definition). one.name) (definition_said number says ls) ≡ defined_names (head_said number says)
said-names number (define answer name arguments strategy) ls = refl
said-names number _ ls = refl

pub definitions-names : (lines : List Line) → map (λ (one : Definition). one.name) (definitions_of lines) ≡ defined_names (heads_of lines)
definitions-names [] = refl
definitions-names (l ∷ ls) =
    map-append (λ (one : Definition). one.name) (definition_said l.number l.says ls) (definitions_of ls)
    ∙ ap (λ zs. zs ++ map (λ (one : Definition). one.name) (definitions_of ls)) (said-names l.number l.says ls)
    ∙ ap (λ zs. defined_names (head_said l.number l.says) ++ zs) (definitions-names ls)
    ∙ sym (defined_names-append (head_said l.number l.says) (heads_of ls))

pub record Tops (lines : List Line) (top : Top) (f g : Option Fault) : Type 0 where
  pub is : IsTop lines top
  pub noted : Notes f g (Either (LayoutAgain (layouts_of lines)) (HeadAgain (heads_of lines)))

pub tops-none : (top : Top) (f : Option Fault) → top.layouts ≡ [] → top.fields.items ≡ [] → top.heads ≡ [] → top.head_list.items ≡ []
    → top.functions ≡ [] → Tops [] top f f
tops-none top f layouts fields heads list functions = record {
  is = record { layouts = layouts; fields = fields; heads = heads; head_list = ap (map seen_head) list; functions = functions };
  noted = notes-nothing f (Either (LayoutAgain []) (HeadAgain [])) absent;
}
  where
    absent : (l c : ℕ) → ¬ Either (LayoutAgain []) (HeadAgain []) l c
    absent l c (inl v) = found-none IsAgain [] l c v
    absent l c (inr v) = found-none IsAgain [] l c v

top-more : (lines : List Line) (line : Line) (a b c : Top) → IsTop lines a → AddsLayouts a b (layouts_said line)
    → AddsHeads b c (heads_said line) → IsTop (lines ++ line ∷ []) c
top-more lines line a b c is layouts heads = record {
  layouts = heads.layouts ∙ layouts.layouts ∙ ap (λ zs. zs ++ map (λ (one : LayoutLine). one.name) (layouts_said line)) is.layouts
      ∙ sym (map-append (λ (one : LayoutLine). one.name) (layouts_of lines) (layouts_said line))
      ∙ ap (map (λ (one : LayoutLine). one.name)) (sym (flat_map-push layouts_said lines line));
  fields = heads.fields ∙ layouts.fields ∙ ap (λ zs. zs ++ map (λ (one : LayoutLine). length one.fields) (layouts_said line)) is.fields
      ∙ sym (map-append (λ (one : LayoutLine). length one.fields) (layouts_of lines) (layouts_said line))
      ∙ ap (map (λ (one : LayoutLine). length one.fields)) (sym (flat_map-push layouts_said lines line));
  heads = heads.heads ∙ ap (λ zs. zs ++ map (λ (one : Head). one.name) (heads_said line)) (layouts.heads ∙ is.heads)
      ∙ sym (map-append (λ (one : Head). one.name) (heads_of lines) (heads_said line))
      ∙ ap (map (λ (one : Head). one.name)) (sym (flat_map-push heads_said lines line));
  head_list = heads.head_list ∙ ap (λ zs. map seen_head zs ++ heads_said line) layouts.head_list ∙ ap (λ zs. zs ++ heads_said line) is.head_list
      ∙ sym (flat_map-push heads_said lines line);
  functions = heads.functions ∙ ap (λ zs. zs ++ defined_names (heads_said line)) (layouts.functions ∙ is.functions ∙ definitions-names lines)
      ∙ sym (defined_names-append (heads_of lines) (heads_said line))
      ∙ ap defined_names (sym (flat_map-push heads_said lines line))
      ∙ sym (definitions-names (lines ++ line ∷ []));
}

two-more : (L l : List LayoutLine) (H h : List Head) (ls hs : List (List ℕ)) (f₀ f₁ f₂ f₃ : Option Fault)
    → ls ≡ map (λ (one : LayoutLine). one.name) L → hs ≡ map (λ (one : Head). one.name) H
    → Notes f₀ f₁ (Either (LayoutAgain L) (HeadAgain H)) → Notes f₁ f₂ (FoundAfter IsAgain ls (named_layouts l))
    → Notes f₂ f₃ (FoundAfter IsAgain hs (named_heads h))
    → Notes f₀ f₃ (Either (LayoutAgain (L ++ l)) (HeadAgain (H ++ h)))
two-more L l H h ls hs f₀ f₁ f₂ f₃ e k m n o =
    notes-same f₀ f₃ (Either (Either (Either (LayoutAgain L) (HeadAgain H)) (FoundAfter IsAgain ls (named_layouts l))) (FoundAfter IsAgain hs (named_heads h)))
    (Either (LayoutAgain (L ++ l)) (HeadAgain (H ++ h))) to from
    (notes-then f₀ f₂ f₃ (Either (Either (LayoutAgain L) (HeadAgain H)) (FoundAfter IsAgain ls (named_layouts l))) (FoundAfter IsAgain hs (named_heads h))
    (notes-then f₀ f₁ f₂ (Either (LayoutAgain L) (HeadAgain H)) (FoundAfter IsAgain ls (named_layouts l)) m n) o)
  where
    layouts-joined : named_layouts (L ++ l) ≡ named_layouts L ++ named_layouts l
    layouts-joined = map-append (λ (one : LayoutLine). (one.line, one.name)) L l

    heads-joined : named_heads (H ++ h) ≡ named_heads H ++ named_heads h
    heads-joined = map-append (λ (one : Head). (one.line, one.name)) H h

    layout-names : ls ≡ names_of (named_layouts L)
    layout-names = e ∙ sym (names-named (λ (one : LayoutLine). one.line) (λ (one : LayoutLine). one.name) L)

    head-names : hs ≡ names_of (named_heads H)
    head-names = k ∙ sym (names-named (λ (one : Head). one.line) (λ (one : Head). one.name) H)

    to-layouts : (i c : ℕ) → FoundAfter IsAgain [] (named_layouts L ++ named_layouts l) i c → LayoutAgain (L ++ l) i c
    to-layouts i c v = subst (λ (all : List (ℕ × List ℕ)). FoundAfter IsAgain [] all i c) (sym layouts-joined) v

    to-heads : (i c : ℕ) → FoundAfter IsAgain [] (named_heads H ++ named_heads h) i c → HeadAgain (H ++ h) i c
    to-heads i c v = subst (λ (all : List (ℕ × List ℕ)). FoundAfter IsAgain [] all i c) (sym heads-joined) v

    to : (i c : ℕ) → Either (Either (Either (LayoutAgain L) (HeadAgain H)) (FoundAfter IsAgain ls (named_layouts l))) (FoundAfter IsAgain hs (named_heads h)) i c
        → Either (LayoutAgain (L ++ l)) (HeadAgain (H ++ h)) i c
    to i c (inl (inl (inl v))) = inl (to-layouts i c (found-left IsAgain [] (named_layouts L) (named_layouts l) i c v))
    to i c (inl (inl (inr v))) = inr (to-heads i c (found-left IsAgain [] (named_heads H) (named_heads h) i c v))
    to i c (inl (inr v)) =
        inl (to-layouts i c (found-right IsAgain [] (named_layouts L) (named_layouts l) i c
        (subst (λ (names : List (List ℕ)). FoundAfter IsAgain names (named_layouts l) i c) layout-names v)))
    to i c (inr v) =
        inr (to-heads i c (found-right IsAgain [] (named_heads H) (named_heads h) i c
        (subst (λ (names : List (List ℕ)). FoundAfter IsAgain names (named_heads h) i c) head-names v)))

    of-layouts : (i c : ℕ) → FoundAfter IsAgain [] (named_layouts L) i c ⊎ FoundAfter IsAgain (names_of (named_layouts L)) (named_layouts l) i c
        → Either (Either (Either (LayoutAgain L) (HeadAgain H)) (FoundAfter IsAgain ls (named_layouts l))) (FoundAfter IsAgain hs (named_heads h)) i c
    of-layouts i c (inl v) = inl (inl (inl v))
    of-layouts i c (inr v) =
        inl (inr (subst (λ (names : List (List ℕ)). FoundAfter IsAgain names (named_layouts l) i c) (sym layout-names) v))

    of-heads : (i c : ℕ) → FoundAfter IsAgain [] (named_heads H) i c ⊎ FoundAfter IsAgain (names_of (named_heads H)) (named_heads h) i c
        → Either (Either (Either (LayoutAgain L) (HeadAgain H)) (FoundAfter IsAgain ls (named_layouts l))) (FoundAfter IsAgain hs (named_heads h)) i c
    of-heads i c (inl v) = inl (inl (inr v))
    of-heads i c (inr v) = inr (subst (λ (names : List (List ℕ)). FoundAfter IsAgain names (named_heads h) i c) (sym head-names) v)

    from : (i c : ℕ) → Either (LayoutAgain (L ++ l)) (HeadAgain (H ++ h)) i c
        → Either (Either (Either (LayoutAgain L) (HeadAgain H)) (FoundAfter IsAgain ls (named_layouts l))) (FoundAfter IsAgain hs (named_heads h)) i c
    from i c (inl v) =
        of-layouts i c (found-either IsAgain [] (named_layouts L) (named_layouts l) i c
        (subst (λ (all : List (ℕ × List ℕ)). FoundAfter IsAgain [] all i c) layouts-joined v))
    from i c (inr v) =
        of-heads i c (found-either IsAgain [] (named_heads H) (named_heads h) i c
        (subst (λ (all : List (ℕ × List ℕ)). FoundAfter IsAgain [] all i c) heads-joined v))

pub tops-more : (lines more : List Line) (line : Line) (a b c : Top) (f₀ f₁ f₂ f₃ : Option Fault) → more ≡ lines ++ line ∷ []
    → Tops lines a f₀ f₁ → AddsLayouts a b (layouts_said line) → Notes f₁ f₂ (FoundAfter IsAgain a.layouts (named_layouts (layouts_said line)))
    → AddsHeads b c (heads_said line) → Notes f₂ f₃ (FoundAfter IsAgain b.heads (named_heads (heads_said line)))
    → Tops more c f₀ f₃
tops-more lines more line a b c f₀ f₁ f₂ f₃ e t layouts n heads o =
    subst (λ (all : List Line). Tops all c f₀ f₃) (sym e) (record {
      is = top-more lines line a b c t.is layouts heads;
      noted = subst (λ (hs : List Head). Notes f₀ f₃ (Either (LayoutAgain (layouts_of (lines ++ line ∷ []))) (HeadAgain hs))) (sym (flat_map-push heads_said lines line))
          (subst (λ (ls : List LayoutLine). Notes f₀ f₃ (Either (LayoutAgain ls) (HeadAgain (heads_of lines ++ heads_said line)))) (sym (flat_map-push layouts_said lines line))
          (two-more (layouts_of lines) (layouts_said line) (heads_of lines) (heads_said line) a.layouts b.heads f₀ f₁ f₂ f₃ t.is.layouts
          (layouts.heads ∙ t.is.heads) t.noted n o));
    })

pub again-noted : (lines : List Line) (f g : Option Fault) → Notes f g (Either (LayoutAgain (layouts_of lines)) (HeadAgain (heads_of lines)))
    → Notes f g (TopAgain lines)
again-noted lines f g n =
    notes-same f g (Either (LayoutAgain (layouts_of lines)) (HeadAgain (heads_of lines))) (TopAgain lines) to from n
  where
    to : (l c : ℕ) → Either (LayoutAgain (layouts_of lines)) (HeadAgain (heads_of lines)) l c → TopAgain lines l c
    to l c (inl v) = let r = again-repeats (named_layouts (layouts_of lines)) l c v in (r.0, inl r.1)
    to l c (inr v) = let r = again-repeats (named_heads (heads_of lines)) l c v in (r.0, inr r.1)

    from : (l c : ℕ) → TopAgain lines l c → Either (LayoutAgain (layouts_of lines)) (HeadAgain (heads_of lines)) l c
    from l c (e, inl r) = inl (repeats-again (named_layouts (layouts_of lines)) l c e r)
    from l c (e, inr r) = inr (repeats-again (named_heads (heads_of lines)) l c e r)
