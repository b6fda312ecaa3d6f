-- The test of names tells them apart.
use Rattle.std.proofs.Common.{◌≡◌, ◌&&◌, true, eqb, refl, ap}
use Rattle.std.proofs.lemmas.Bool.{and_from, and_parts, eq-eqb, eqb-true, false≢true}
use Rattle.phi_webs.specs.Webs.{Tells}
use Rattle.rewriting_forms.specs.Names.{Name, joined, own, relocated, same_name, token}

same_true : (x y : Name) → same_name x y ≡ true → x ≡ y
same_true (own v) (own w) is = ap own (eqb-true v w is)
same_true (relocated b k v) (relocated c j w) is =
    let outer = and_parts (eqb b c && eqb k j) (eqb v w) is in
    let inner = and_parts (eqb b c) (eqb k j) outer.0 in
    let first : b ≡ c = eqb-true b c inner.0 in
    let second : k ≡ j = eqb-true k j inner.1 in
    let third : v ≡ w = eqb-true v w outer.1 in
    cc
same_true (joined b v) (joined c w) is =
    let both = and_parts (eqb b c) (eqb v w) is in
    let first : b ≡ c = eqb-true b c both.0 in
    let second : v ≡ w = eqb-true v w both.1 in
    cc
same_true (token b k) (token c j) is =
    let both = and_parts (eqb b c) (eqb k j) is in
    let first : b ≡ c = eqb-true b c both.0 in
    let second : k ≡ j = eqb-true k j both.1 in
    cc
same_true (own v) (relocated c j w) is = absurd (false≢true is)
same_true (own v) (joined c w) is = absurd (false≢true is)
same_true (own v) (token c j) is = absurd (false≢true is)
same_true (relocated b k v) (own w) is = absurd (false≢true is)
same_true (relocated b k v) (joined c w) is = absurd (false≢true is)
same_true (relocated b k v) (token c j) is = absurd (false≢true is)
same_true (joined b v) (own w) is = absurd (false≢true is)
same_true (joined b v) (relocated c j w) is = absurd (false≢true is)
same_true (joined b v) (token c j) is = absurd (false≢true is)
same_true (token b k) (own w) is = absurd (false≢true is)
same_true (token b k) (relocated c j w) is = absurd (false≢true is)
same_true (token b k) (joined c w) is = absurd (false≢true is)

pub same_itself : (x : Name) → same_name x x ≡ true
same_itself (own v) = eq-eqb v v refl
same_itself (relocated b k v) = and_from (eqb b b && eqb k k) (eqb v v) (and_from (eqb b b) (eqb k k) (eq-eqb b b refl) (eq-eqb k k refl)) (eq-eqb v v refl)
same_itself (joined b v) = and_from (eqb b b) (eqb v v) (eq-eqb b b refl) (eq-eqb v v refl)
same_itself (token b k) = and_from (eqb b b) (eqb k k) (eq-eqb b b refl) (eq-eqb k k refl)

pub tells_names : Tells same_name
tells_names x y = (same_true x y, λ same. rw same (same_itself y))
