-- What becomes of names where inserted phis become others: it fits as they do.
use Rattle.std.proofs.Common.{◌≡◌, ◌≢◌, ℕ, zero, suc, ◌<◌, ◌&&◌, Bool, true, false, leb, if◌then◌else◌, List, [], ◌∷◌, length, map, Some, inl, inr, refl, ap, sym, subst, ◌∙◌}
use Rattle.std.specs.List.{Contains, range_with_len}
use Rattle.std.proofs.lemmas.Bool.{and_from, and_parts, cases_eq, false≢true, true≢false}
use Rattle.list_laws.proofs.Ranges.{range_contains}
use Rattle.list_laws.proofs.Contents.{contains_first, contains_image, contains_joined, contains_later, contains_map, joined_contains}
use Rattle.ir_ast.specs.declared.ops.Operand.{Operand}
use Rattle.ir_ast.specs.Funcs.{Function}
use Rattle.phi_webs.specs.Webs.{IsOutside, NamedOnce, Phi, Removal, Rooted, none, one, outside, through}
use Rattle.phi_webs.specs.Becomes.{becomes}
use Rattle.phi_webs.proofs.OnlyLemmas.{contains_kept, kept_contains}
use Rattle.phi_webs.proofs.RemovalLaws.{order_is_free, outside_stays, removed_are_solved, shared_is_kept}
use Rattle.phi_webs.proofs.BecomesLaws.{becomes_is_minimal, becomes_is_removal}
use Rattle.rewriting_forms.specs.Numbered.{among, calls, gives, line_at, lines_at, pointers, preds}
use Rattle.rewriting_forms.specs.Liveness.{is_live, live_front, live_list, live_table}
use Rattle.rewriting_forms.specs.Names.{Name, Names, Naming, arriving, full_naming, is_many, joined, joined_at, joins_of, names_at_end, names_from, naming_after, own, phi_at, phis_of, phis_with, relocated, same_name, stands_in_list}
use Rattle.rewriting_laws.specs.Laws.{Edge, Fits, IsReached, Reached, at_first, over, owner_of}
use Rattle.rewriting_laws.specs.Removals.{LeastIsOne, PhisAreRooted, RemovalFits, SolvedFits, SolvesPhis}
use Rattle.rewriting_laws.proofs.NameLemmas.{among_cons, names_value}
use Rattle.rewriting_laws.proofs.NameTests.{tells_names}
use Rattle.rewriting_laws.proofs.LiveLaws.{front_within}
use Rattle.rewriting_laws.proofs.VersionLaws.{front_is, versions_fit}

-- ---- lists

pub among_contains : (v : ℕ) (xs : List ℕ) → among v xs ≡ true → Contains xs v
among_contains v [] has = absurd (false≢true has)
among_contains v (x ∷ xs) has = elim (cases_eq x v) [
  | inl same ↦ rw same (contains_first v xs)
  | inr other ↦ contains_later x v xs (among_contains v xs (among_cons v x xs has other))
]

-- ---- what is true of all names

-- what is true of each operand of a web is true of what a name becomes, if it is true of the name
pub stays_true : {A : Type 0} (same : A → A → Bool) (web : List (Phi A)) (P : A → Type 0) → ((phi : Phi A) → Contains web phi → (o : A) → Contains phi.operands o → P o)
    → (now : A → A) → Removal same web now → (n : A) → P n → P (now n)
stays_true same web P each _ none n holds = holds
stays_true same web P each _ (one now phi value earlier trivial) n holds =
    by (same (now n) phi.name)
    (subst P (trivial.some).2 (stays_true same web P each now earlier (trivial.some).0 (each phi trivial.stands (trivial.some).0 (trivial.some).1)))
    (stays_true same web P each now earlier n holds)
  where
    by : (taken : Bool) → P value → P (now n) → P (if taken then value else now n)
    by true new old = new
    by false new old = old

-- ---- the web of the inserted phis

module _ (func : Function) (table : List Operand) (naming : Naming) where
  abbrev web : List (Phi Name)
  web = phis_with func table naming

  -- what the web has
  pub record InWeb (phi : Phi Name) : Type 0 where
    pub b : ℕ
    pub v : ℕ
    pub joins : naming.joins b v ≡ true
    pub is : phi ≡ phi_at func table naming b v

  pub in_web : (phi : Phi Name) → Contains web phi → InWeb phi
  in_web phi has =
      let block = contains_joined (λ b. map (phi_at func table naming b) (joined_at func naming b)) (range_with_len 0 (length func.blocks)) phi has in
      let image = contains_image (phi_at func table naming block.of) (joined_at func naming block.of) phi block.given in
      record {
        b = block.of;
        v = image.of;
        joins = (contains_kept (naming.joins block.of) (pointers func) image.of image.inside).passes;
        is = sym image.is;
      }

  pub web_has : (b v : ℕ) → b < length func.blocks → among v (pointers func) ≡ true → naming.joins b v ≡ true → Contains web (phi_at func table naming b v)
  web_has b v below pointer joins =
      joined_contains (λ b. map (phi_at func table naming b) (joined_at func naming b)) (range_with_len 0 (length func.blocks)) b (phi_at func table naming b v) (range_contains (length func.blocks) b below)
      (contains_map (phi_at func table naming b) (joined_at func naming b) v (kept_contains (naming.joins b) (pointers func) v (among_contains v (pointers func) pointer) joins))

  -- a name that isn't that of an inserted phi is outside
  pub apart_outside : (n : Name) → ((b v : ℕ) → n ≢ joined b v) → IsOutside web n
  apart_outside n apart phi has same = let at = in_web phi has in apart at.b at.v (same ∙ ap (λ (p : Phi Name). p.name) at.is)

  pub own_outside : (v : ℕ) → IsOutside web (own v)
  own_outside v = apart_outside (own v) (λ b w same. cc)

  pub relocated_outside : (b k v : ℕ) → IsOutside web (relocated b k v)
  relocated_outside b k v = apart_outside (relocated b k v) (λ c w same. cc)

  pub named_once : NamedOnce web
  named_once p q in_p in_q same =
      let one = in_web p in_p in
      let other = in_web q in_q in
      let names : joined one.b one.v ≡ joined other.b other.v = sym (ap (λ (phi : Phi Name). phi.name) one.is) ∙ same ∙ ap (λ (phi : Phi Name). phi.name) other.is in
      let blocks : one.b ≡ other.b = cc in
      let values : one.v ≡ other.v = cc in
      one.is ∙ (ap (λ n. phi_at func table naming n one.v) blocks ∙ ap (phi_at func table naming other.b) values) ∙ sym other.is

  -- ---- what names become

  module _ (now : Name → Name) (solves : SolvesPhis func table naming now) where
    -- names come to the end of a block as what they become
    pub names_become : (b : ℕ) (names : Names) (v k : ℕ) → names_from func table b (λ w. now (names w)) k v ≡ now (names_from func table b names k v)
    names_become b names v zero = refl
    names_become b names v (suc k) = by (gives (line_at func b k) v) (calls (line_at func b k) && among v (live_list func table b k)) (names_become b names v k)
      where
        by : (given listed : Bool) → names_from func table b (λ w. now (names w)) k v ≡ now (names_from func table b names k v)
            → (if given then own v else (if listed then relocated b k v else names_from func table b (λ w. now (names w)) k v))
            ≡ now (if given then own v else (if listed then relocated b k v else names_from func table b names k v))
        by true listed same = sym (solves.fixes (own v) (own_outside v))
        by false true same = sym (solves.fixes (relocated b k v) (relocated_outside b k v))
        by false false same = same

    module _ (live : ℕ → ℕ → ℕ → Bool) (fits : Fits func table naming live) (inside : (b v : ℕ) → naming.joins b v ≡ true → b < length func.blocks) where
      abbrev after : Naming
      after = naming_after naming now

      joins_before : (b v : ℕ) → after.joins b v ≡ true → (naming.joins b v ≡ true) × (now (joined b v) ≡ joined b v)
      joins_before b v joins =
          let both = and_parts (naming.joins b v) (same_name (joined b v) (now (joined b v))) joins in
          (both.0, sym ((tells_names (joined b v) (now (joined b v))).0 both.1))

      edge_keeps : (from to v : ℕ) → Edge func from to → live to 0 v ≡ true → after.joins to v ≡ false → (joins : Bool) → naming.joins to v ≡ joins
          → after.front to v ≡ names_at_end func table after from v
      edge_keeps from to v edge alive apart false is =
          ap now (fits.at_edge from to v edge alive is) ∙ sym (names_become from (naming.front from) v (length (lines_at func from)))
      edge_keeps from to v edge alive apart true is =
          let here = fits.at_join to v is in
          let changed : now (joined to v) ≢ joined to v =
          λ kept. true≢false (sym (and_from (naming.joins to v) (same_name (joined to v) (now (joined to v))) is ((tells_names (joined to v) (now (joined to v))).1 (sym kept))) ∙ apart) in
          let brought : Contains (phi_at func table naming to v).operands (names_at_end func table naming from v) =
          contains_map (λ p. names_at_end func table naming p v) (preds func to) from (among_contains from (preds func to) edge) in
          ap now here.0
          ∙ sym (solves.solved (phi_at func table naming to v) (web_has to v (inside to v is) here.1 is) changed (names_at_end func table naming from v) brought)
          ∙ sym (names_become from (naming.front from) v (length (lines_at func from)))

      solved_fit : Fits func table after live
      solved_fit = record {
        own_value = λ b v. solves.owner (naming.front b v) ∙ fits.own_value b v;
        at_entry = λ v alive. ap now (fits.at_entry v alive) ∙ solves.fixes (own v) (own_outside v);
        no_join = λ v. ap (λ (t : Bool). t && same_name (joined 0 v) (now (joined 0 v))) (fits.no_join v);
        at_join = λ b v joins.
            let before = joins_before b v joins in
            let here = fits.at_join b v before.0 in
            (ap now here.0 ∙ before.1, here.1, here.2);
        at_edge = λ from to v edge alive apart. edge_keeps from to v edge alive apart (naming.joins to v) refl;
      }

pub solved_fits : SolvedFits
solved_fits func table naming live fits inside now solves = solved_fit func table naming now solves live fits inside

-- ---- removals

-- an inserted phi stands at a block of the function
pub join_inside : (func : Function) (table : List Operand) (b v : ℕ) → joins_of func table b v ≡ true → b < length func.blocks
join_inside func table b v is =
    let one = and_parts (is_many (preds func b)) (among v (pointers func) && (stands_in_list func table v && is_live func table b 0 v)) is in
    let two = and_parts (among v (pointers func)) (stands_in_list func table v && is_live func table b 0 v) one.1 in
    let three = and_parts (stands_in_list func table v) (is_live func table b 0 v) two.1 in
    let four = and_parts (leb 0 (length (lines_at func b))) (live_front func table v (suc (length func.blocks)) b) three.1 in
    front_within func table v (suc (length func.blocks)) b four.1

pub join_pointer : (func : Function) (table : List Operand) (b v : ℕ) → joins_of func table b v ≡ true → among v (pointers func) ≡ true
join_pointer func table b v is =
    let one = and_parts (is_many (preds func b)) (among v (pointers func) && (stands_in_list func table v && is_live func table b 0 v)) is in
    (and_parts (among v (pointers func)) (stands_in_list func table v && is_live func table b 0 v) one.1).0

module _ (func : Function) (table : List Operand) where
  -- an inserted phi and its operands are names of one value
  one_owner : (naming : Naming) → ((b v : ℕ) → owner_of (naming.front b v) ≡ Some v) → (phi : Phi Name) → Contains (phis_with func table naming) phi
      → (o : Name) → Contains phi.operands o → owner_of o ≡ owner_of phi.name
  one_owner naming owned phi has o operand =
      let at = in_web func table naming phi has in
      let there : Contains (phi_at func table naming at.b at.v).operands o = subst (λ (p : Phi Name). Contains p.operands o) at.is operand in
      let image = contains_image (λ p. names_at_end func table naming p at.v) (preds func at.b) o there in
      ap owner_of (sym image.is) ∙ names_value func table naming image.of (naming.front image.of) at.v (length (lines_at func image.of)) (owned image.of at.v)
      ∙ sym (ap (λ (p : Phi Name). owner_of p.name) at.is)

  pub removal_solves : IsReached func → (now : Name → Name) → Removal same_name (phis_of func table) now → SolvesPhis func table (full_naming func table) now
  removal_solves graph now removal = record {
    fixes = λ n out. outside_stays same_name tells_names (phis_of func table) now removal n out;
    owner = λ n. shared_is_kept same_name tells_names (phis_of func table) owner_of
        (λ phi has o operand. one_owner (full_naming func table) (versions_fit func table graph).own_value phi has o operand) now removal n;
    solved = λ phi has changed o operand.
        removed_are_solved same_name tells_names (phis_of func table) (named_once func table (full_naming func table)) now removal phi has changed o operand;
  }

  -- ---- each phi comes from outside

  names_rooted : (b : ℕ) (names : Names) (v k : ℕ) → Rooted (phis_of func table) (names v) → Rooted (phis_of func table) (names_from func table b names k v)
  names_rooted b names v zero is = is
  names_rooted b names v (suc k) is = by (gives (line_at func b k) v) (calls (line_at func b k) && among v (live_list func table b k)) (names_rooted b names v k is)
    where
      by : (given listed : Bool) → Rooted (phis_of func table) (names_from func table b names k v)
          → Rooted (phis_of func table) (if given then own v else (if listed then relocated b k v else names_from func table b names k v))
      by true listed same = outside (own v) (own_outside func table (full_naming func table) v)
      by false true same = outside (relocated b k v) (relocated_outside func table (full_naming func table) b k v)
      by false false same = same

  arriving_rooted : (from v : ℕ) (ps : List ℕ) → among from ps ≡ true → (at_end : ℕ → Names) → Rooted (phis_of func table) (at_end from v)
      → Rooted (phis_of func table) (arriving ps at_end v)
  arriving_rooted from v [] edge at_end is = absurd (false≢true edge)
  arriving_rooted from v (p ∷ []) edge at_end is = elim (cases_eq p from) [
    | inl same ↦ rw same is
    | inr other ↦ absurd (false≢true (among_cons from p [] edge other))
  ]
  arriving_rooted from v (p ∷ q ∷ ps) edge at_end is = outside (own v) (own_outside func table (full_naming func table) v)

  front_rooted : IsReached func → (b : ℕ) → Reached func b → (v : ℕ) → Rooted (phis_of func table) ((full_naming func table).front b v)
  front_rooted graph _ at_first v =
      let fits = versions_fit func table graph in
      subst (Rooted (phis_of func table))
      (sym (front_is func table graph 0 v at_first
      ∙ ap (λ (t : Bool). if t then joined 0 v else arriving (preds func 0) (names_at_end func table (full_naming func table)) v) (fits.no_join v)
      ∙ ap (λ (ps : List ℕ). arriving ps (names_at_end func table (full_naming func table)) v) graph.entry))
      (outside (own v) (own_outside func table (full_naming func table) v))
  front_rooted graph _ (over from to reached edge) v =
      subst (Rooted (phis_of func table)) (sym (front_is func table graph to v (over from to reached edge)))
      (by (joins_of func table to v) refl (names_rooted from ((full_naming func table).front from) v (length (lines_at func from)) (front_rooted graph from reached v)))
    where
      by : (joins : Bool) → joins_of func table to v ≡ joins → Rooted (phis_of func table) (names_at_end func table (full_naming func table) from v)
          → Rooted (phis_of func table) (if joins then joined to v else arriving (preds func to) (names_at_end func table (full_naming func table)) v)
      by false is before = arriving_rooted from v (preds func to) edge (names_at_end func table (full_naming func table)) before
      by true is before =
          let here = (versions_fit func table graph).at_join to v is in
          through (phi_at func table (full_naming func table) to v) (names_at_end func table (full_naming func table) from v)
          (web_has func table (full_naming func table) to v (join_inside func table to v is) here.1 is)
          (contains_map (λ p. names_at_end func table (full_naming func table) p v) (preds func to) from (among_contains from (preds func to) edge)) before

pub phis_are_rooted : PhisAreRooted
phis_are_rooted func table graph phi has =
    let at = in_web func table (full_naming func table) phi has in
    let fits = versions_fit func table graph in
    let front = (fits.at_join at.b at.v at.joins).0 in
    subst (Rooted (phis_of func table)) (front ∙ sym (ap (λ (p : Phi Name). p.name) at.is))
    (front_rooted func table graph at.b (graph.blocks at.b (join_inside func table at.b at.v at.joins)) at.v)

pub removal_fits : RemovalFits
removal_fits func table graph now removal =
    solved_fits func table (full_naming func table) (live_table func table) (versions_fit func table graph) (join_inside func table) now (removal_solves func table graph now removal)

pub least_is_one : LeastIsOne
least_is_one func table graph now removal minimal =
    let same : (n : Name) → now n ≡ becomes same_name (phis_of func table) n =
    order_is_free same_name tells_names (phis_of func table) (named_once func table (full_naming func table)) (phis_are_rooted func table graph) now (becomes same_name (phis_of func table))
    removal minimal (becomes_is_removal same_name tells_names (phis_of func table)) (becomes_is_minimal same_name tells_names (phis_of func table)) in
    λ i. naming_after (full_naming func table) (λ n. same n i)
