-- Move lines, one by one.
use Rattle.std.proofs.Common.{◌≡◌, ℕ, zero, suc, ◌+◌, ◌<◌, ◌≤◌, Bool, true, false, inl, inr, List, [], ◌∷◌, ◌++◌, length, take, drop, get_or, set, refl, sym, ap, ◌∙◌, arith, ◌&&◌, cond, eqb, ltb, leb, Option, Some, None}
use Rattle.std.specs.Option.{option_or, is_some}
use Rattle.std.proofs.lemmas.Bool.{and_parts, and_from, and_cases, and_left, and_right, eqb-true, eqb-false, eq-eqb, ne_eqb, cases_eq, lt-ltb, le-leb}
use Rattle.std.proofs.lemmas.List.{take_more, take-append-drop, drop_more, get_or-set_same, get_or-set_other, get_or-map, length-map, same_lists, get_or_default}
use Rattle.std.proofs.lemmas.List.Folds.{list_all-append, list_all_more}
use Rattle.move_plan.specs.declared.plan_lines.Move.{Move}
use Rattle.moving_heap.specs.declared.stands.Stand.{Stand}
use Rattle.moving_heap.specs.Places.{line_target, line_targets, exist, unnamed, differ}
use Rattle.moving_heap.specs.Settled.{IsNumbered}
use Rattle.list_laws.proofs.Options.{is_none}

line_target-push : (xs : List Move) (x : Move) (n : ℕ) → line_target (xs ++ x ∷ []) n ≡ option_or (line_target xs n) (line_target (x ∷ []) n)
line_target-push [] x n = refl
line_target-push (y ∷ xs) x n =
    elim (eqb y.obj n) as (λ b. cond b (Some y.to) (line_target (xs ++ x ∷ []) n) ≡ option_or (cond b (Some y.to) (line_target xs n)) (line_target (x ∷ []) n))
    [ true ↦ refl | false ↦ line_target-push xs x n ]

unnamed-none : (xs : List Move) (n : ℕ) → line_target xs n ≡ None → unnamed xs n ≡ true
unnamed-none [] n h = refl
unnamed-none (y ∷ xs) n h =
    (elim (eqb y.obj n) as (λ b. cond b (Some y.to) (line_target xs n) ≡ None → (cond b false true && unnamed xs n) ≡ true)
    [ true ↦ λ e. cc | false ↦ λ e. unnamed-none xs n e ]) h

unnamed-some : (xs : List Move) (n t : ℕ) → line_target xs n ≡ Some t → unnamed xs n ≡ false
unnamed-some [] n t h = cc
unnamed-some (y ∷ xs) n t h =
    (elim (eqb y.obj n) as (λ b. cond b (Some y.to) (line_target xs n) ≡ Some t → (cond b false true && unnamed xs n) ≡ false)
    [ true ↦ λ e. refl | false ↦ λ e. unnamed-some xs n t e ]) h

unnamed-hit : (xs : List Move) (x : Move) (ys : List Move) (n : ℕ) → x.obj ≡ n → unnamed (xs ++ x ∷ ys) n ≡ false
unnamed-hit [] x ys n e = rw (eq-eqb x.obj n e) refl
unnamed-hit (y ∷ xs) x ys n e = and_right (cond (eqb y.obj n) false true) (unnamed (xs ++ x ∷ ys) n) (unnamed-hit xs x ys n e)

test_true : (b : Bool) → cond b false true ≡ true → b ≡ false
test_true true h = cc
test_true false h = refl

test_false : (b : Bool) → cond b false true ≡ false → b ≡ true
test_false true h = refl
test_false false h = cc

other_way : (a b : ℕ) → cond (eqb a b) false true ≡ true → cond (eqb b a) false true ≡ true
other_way a b h = let ne = eqb-false a b (test_true (eqb a b) h) in rw (ne_eqb b a (λ e. ne (sym e))) refl

differ-push : (xs : List Move) (x : Move) → differ xs ≡ true → unnamed xs x.obj ≡ true → differ (xs ++ x ∷ []) ≡ true
differ-push [] x h u = refl
differ-push (y ∷ xs) x h u =
    let d = and_parts (unnamed xs y.obj) (differ xs) h in
    let v = and_parts (cond (eqb y.obj x.obj) false true) (unnamed xs x.obj) u in
    and_from (unnamed (xs ++ x ∷ []) y.obj) (differ (xs ++ x ∷ []))
    (list_all-append (λ line. cond (eqb line.obj y.obj) false true) xs (x ∷ []) ∙ and_from (unnamed xs y.obj) (cond (eqb x.obj y.obj) false true && true) d.0 (and_from (cond (eqb x.obj y.obj) false true) true (other_way y.obj x.obj v.0) refl))
    (differ-push xs x d.1 v.1)

differ-twice : (xs : List Move) (x : Move) (ys : List Move) → unnamed xs x.obj ≡ false → differ (xs ++ x ∷ ys) ≡ false
differ-twice [] x ys h = cc
differ-twice (y ∷ xs) x ys h =
    elim (and_cases (cond (eqb y.obj x.obj) false true) (unnamed xs x.obj) h) [
      | inl a ↦ and_left (unnamed (xs ++ x ∷ ys) y.obj) (differ (xs ++ x ∷ ys)) (unnamed-hit xs x ys y.obj (sym (eqb-true y.obj x.obj (test_false (eqb y.obj x.obj) a))))
      | inr b ↦ and_right (unnamed (xs ++ x ∷ ys) y.obj) (differ (xs ++ x ∷ ys)) (differ-twice xs x ys b)
    ]

split_at : {X : Type 0} (xs : List X) (i : ℕ) (d : X) → i < length xs → take i xs ++ (get_or xs i d ∷ drop (i + 1) xs) ≡ xs
split_at xs i d l = ap (λ rest. take i xs ++ rest) (sym (drop_more xs i d l)) ∙ take-append-drop i xs

-- a line that names an object of an earlier line
pub twice : (stands : List Stand) (lines : List Move) (i : ℕ) (d : Move) (o : Option ℕ) → i < length lines
    → line_target (take i lines) (get_or lines i d).obj ≡ o → is_some o ≡ true → false ≡ (exist stands lines && differ lines)
twice stands lines i d (Some t) l e s =
    sym (and_right (exist stands lines) (differ lines)
    (ap differ (sym (split_at lines i d l)) ∙ differ-twice (take i lines) (get_or lines i d) (drop (i + 1) lines) (unnamed-some (take i lines) (get_or lines i d).obj t e)))
twice stands lines i d None l e s = cc

or_none : (o : Option ℕ) → option_or o None ≡ o
or_none None = refl
or_none (Some x) = refl

same_target : (x : Move) (n : ℕ) → x.obj ≡ n → line_target (x ∷ []) n ≡ Some x.to
same_target x n e = rw (eq-eqb x.obj n e) refl

other_target : (x : Move) (n : ℕ) → (x.obj ≡ n → ⊥) → line_target (x ∷ []) n ≡ None
other_target x n e = rw (ne_eqb x.obj n e) refl

-- the targets by one more line
pub named_more : (lines : List Move) (targets : List (Option ℕ)) (count i place : ℕ) (x d : Move) → i < length lines → x ≡ get_or lines i d → length targets ≡ count
    → place + 1 ≡ x.obj → place < count → is_some (get_or targets place None) ≡ false
    → ((k : ℕ) → k < count → get_or targets k None ≡ line_target (take i lines) (k + 1))
    → (k : ℕ) → k < count → get_or (set targets place (Some x.to)) k None ≡ line_target (take (i + 1) lines) (k + 1)
named_more lines targets count i place x d l is size at below free named k h =
    let grown = ap (λ front. line_target front (k + 1)) (take_more lines i d l) ∙ line_target-push (take i lines) (get_or lines i d) (k + 1) in
    let grown' = grown ∙ ap (λ y. option_or (line_target (take i lines) (k + 1)) (line_target (y ∷ []) (k + 1))) (sym is) in
    elim (cases_eq k place) [
      | inl e ↦ (
          let none : line_target (take i lines) (k + 1) ≡ None = sym (named k h) ∙ ap (λ p. get_or targets p None) e ∙ is_none (get_or targets place None) free in
          let here : place < length targets = omega arith in
          let hit : x.obj ≡ k + 1 = omega arith in
          ap (λ p. get_or (set targets place (Some x.to)) p None) e ∙ get_or-set_same targets place (Some x.to) None here
          ∙ sym (grown' ∙ ap (λ o. option_or o (line_target (x ∷ []) (k + 1))) none ∙ same_target x (k + 1) hit))
      | inr ne ↦ (
          let miss : (x.obj ≡ k + 1 → ⊥) = λ q. ne (let same : k ≡ place = omega arith in same) in
          get_or-set_other targets place k (Some x.to) None ne ∙ named k h
          ∙ sym (grown' ∙ ap (option_or (line_target (take i lines) (k + 1))) (other_target x (k + 1) miss) ∙ or_none (line_target (take i lines) (k + 1))))
    ]

pub differ_more : (lines : List Move) (i : ℕ) (x d : Move) → i < length lines → x ≡ get_or lines i d → differ (take i lines) ≡ true
    → line_target (take i lines) x.obj ≡ None → differ (take (i + 1) lines) ≡ true
differ_more lines i x d l is h none =
    ap differ (take_more lines i d l) ∙ ap (λ y. differ (take i lines ++ y ∷ [])) (sym is) ∙ differ-push (take i lines) x h (unnamed-none (take i lines) x.obj none)

pub exist_more : (stands : List Stand) (lines : List Move) (i : ℕ) (x d : Move) → i < length lines → x ≡ get_or lines i d → exist stands (take i lines) ≡ true
    → 0 < x.obj → x.obj ≤ length stands → exist stands (take (i + 1) lines) ≡ true
exist_more stands lines i x d l is h low high =
    list_all_more (λ line. ltb 0 line.obj && leb line.obj (length stands)) lines i d l
    ∙ ap (λ y. exist stands (take i lines) && (ltb 0 y.obj && leb y.obj (length stands))) (sym is)
    ∙ and_from (exist stands (take i lines)) (ltb 0 x.obj && leb x.obj (length stands)) h (and_from (ltb 0 x.obj) (leb x.obj (length stands)) (lt-ltb 0 x.obj low) (le-leb x.obj (length stands) high))

abbrev blank : Stand
blank = record { number = 0; size = 0; address = 0 }

at : (stands : List Stand) (lines : List Move) (targets : List (Option ℕ)) → IsNumbered stands → (k : ℕ) (d : Option ℕ) → k < length stands → k < length targets
    → get_or targets k None ≡ line_target lines (k + 1) → get_or targets k d ≡ get_or (line_targets lines stands) k d
at stands lines targets numbered k d l m e =
    get_or_default targets k d None m ∙ e ∙ ap (line_target lines) (sym (numbered.at k blank l)) ∙ sym (get_or-map (λ stand. line_target lines stand.number) stands k blank d l)

-- after the last line
pub named_all : (stands : List Stand) (lines : List Move) (targets : List (Option ℕ)) → IsNumbered stands → length targets ≡ length stands
    → ((k : ℕ) → k < length stands → get_or targets k None ≡ line_target lines (k + 1)) → targets ≡ line_targets lines stands
named_all stands lines targets numbered size named =
    same_lists targets (line_targets lines stands) (size ∙ sym (length-map stands (λ stand. line_target lines stand.number)))
    (λ k d l. let within : k < length stands = omega arith in at stands lines targets numbered k d within l (named k within))

pub unnamed_here : (lines : List Move) (targets : List (Option ℕ)) (i place : ℕ) (x : Move) → place + 1 ≡ x.obj → is_some (get_or targets place None) ≡ false
    → get_or targets place None ≡ line_target (take i lines) (place + 1) → line_target (take i lines) x.obj ≡ None
unnamed_here lines targets i place x at free named =
    ap (line_target (take i lines)) (sym at) ∙ sym named ∙ is_none (get_or targets place None) free

-- the first line that names an object gives its target
pub first_line : (lines : List Move) (i n : ℕ) (d : Move) → i < length lines → line_target (take i lines) n ≡ None → (get_or lines i d).obj ≡ n → line_target lines n ≡ Some (get_or lines i d).to
first_line [] i n d l none e = absurd (omega arith)
first_line (x ∷ xs) zero n d l none e = rw (eq-eqb x.obj n e) refl
first_line (x ∷ xs) (suc i) n d l none e =
    (elim (eqb x.obj n) as (λ b. cond b (Some x.to) (line_target (take i xs) n) ≡ None → cond b (Some x.to) (line_target xs n) ≡ Some (get_or xs i d).to)
    [ true ↦ λ q. cc | false ↦ λ q. first_line xs i n d (let h : i < length xs = omega arith in h) q e ]) none
