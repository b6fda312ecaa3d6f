-- One more line behind those outside bodies and those of the bodies.
use Rattle.std.proofs.Common.{◌≡◌, ◌∙◌, ℕ, ◌+◌, ◌<◌, ◌==◌, zero, suc, refl, sym, ap, subst, Bool, true, false, ◌||◌, List, [], ◌∷◌, ◌++◌, length, get_or, set, append_assoc, append-nil, arith}
use Rattle.std.specs.Prelude.{Result, Ok, Err, OnOk, OnErr}
use Rattle.std.proofs.lemmas.Bool.Decides.{nat_tests}
use Rattle.std.proofs.lemmas.List.Elements.{All-nil, All-cons, All-append}
use Rattle.ir_reader.specs.declared.raw.NumberedReading.{NumberedReading}
use Rattle.ir_reader.specs.Woven.{is_outer, IsInner, woven, IsWoven}

-- ---- a line outside

-- a line that may stand outside behind these: any as the first
abbrev pub AddsOuter : List (List NumberedReading) → NumberedReading → Type 0
AddsOuter [] x = Unit {0}
AddsOuter (body ∷ bodies) x = is_outer x.reading ≡ true

some-stand : (body : List NumberedReading) (bodies : List (List NumberedReading)) → (length (body ∷ bodies) == 0) ≡ false
some-stand body bodies = grind (arith, nat_tests)

pub adds-outer : (bodies : List (List NumberedReading)) (x : NumberedReading) → (length bodies == 0 || is_outer x.reading) ≡ true → AddsOuter bodies x
adds-outer [] x h = tt
adds-outer (body ∷ bodies) x h = sym (ap (λ (none : Bool). none || is_outer x.reading) (some-stand body bodies)) ∙ h

pub adds-inner : (bodies : List (List NumberedReading)) (x : NumberedReading) → (length bodies == 0 || is_outer x.reading) ≡ false → (0 < length bodies) × IsInner x
adds-inner [] x h = absurd (let bad : true ≡ false = h in cc)
adds-inner (body ∷ bodies) x h = (omega arith, sym (ap (λ (none : Bool). none || is_outer x.reading) (some-stand body bodies)) ∙ h)

pub outer-pushed : (xs : List NumberedReading) (bodies : List (List NumberedReading)) (x : NumberedReading) → IsWoven xs bodies
    → woven (xs ++ x ∷ []) (bodies ++ [] ∷ []) ≡ woven xs bodies ++ x ∷ []
outer-pushed [] [] x w = refl
outer-pushed [] (body ∷ bodies) x w = absurd w
outer-pushed (y ∷ xs) [] x w = absurd w
outer-pushed (y ∷ xs) (body ∷ bodies) x w =
    ap (λ (zs : List NumberedReading). y ∷ body ++ zs) (outer-pushed xs bodies x w.1.1)
    ∙ ap (λ (zs : List NumberedReading). y ∷ zs) (sym (append_assoc body (woven xs bodies) (x ∷ [])))

pub outer-woven : (xs : List NumberedReading) (bodies : List (List NumberedReading)) (x : NumberedReading) → IsWoven xs bodies → AddsOuter bodies x
    → IsWoven (xs ++ x ∷ []) (bodies ++ [] ∷ [])
outer-woven [] [] x w h = (All-nil IsInner, (tt, tt))
outer-woven [] (body ∷ bodies) x w h = absurd w
outer-woven (y ∷ xs) [] x w h = absurd w
outer-woven (y ∷ []) (body ∷ []) x w h = (w.0, (h, (All-nil IsInner, (tt, tt))))
outer-woven (y ∷ []) (body ∷ next ∷ bodies) x w h = absurd w.1.1
outer-woven (y ∷ z ∷ xs) (body ∷ []) x w h = absurd w.1.1
outer-woven (y ∷ z ∷ xs) (body ∷ next ∷ bodies) x w h = (w.0, (w.1.0, outer-woven (z ∷ xs) (next ∷ bodies) x w.1.1 h))

-- ---- a line of the last body

pub inner-pushed : (xs : List NumberedReading) (bodies : List (List NumberedReading)) (last : ℕ) (x : NumberedReading) → IsWoven xs bodies → last + 1 ≡ length bodies
    → woven xs (set bodies last (get_or bodies last [] ++ x ∷ [])) ≡ woven xs bodies ++ x ∷ []
inner-pushed [] [] last x w e = absurd (let bad : last + 1 ≡ 0 = e in omega arith)
inner-pushed [] (body ∷ bodies) last x w e = absurd w
inner-pushed (y ∷ xs) [] last x w e = absurd w
inner-pushed (y ∷ []) (body ∷ []) zero x w e =
    ap (λ (zs : List NumberedReading). y ∷ zs) (append-nil (body ++ x ∷ []) ∙ ap (λ (zs : List NumberedReading). zs ++ x ∷ []) (sym (append-nil body)))
inner-pushed (y ∷ z ∷ xs) (body ∷ []) zero x w e = absurd w.1.1
inner-pushed (y ∷ xs) (body ∷ next ∷ bodies) zero x w e = absurd (let n : 0 + 1 ≡ suc (suc (length bodies)) = e in omega (arith, n))
inner-pushed (y ∷ xs) (body ∷ bodies) (suc last) x w e =
    ap (λ (zs : List NumberedReading). y ∷ body ++ zs) (inner-pushed xs bodies last x w.1.1 (let n : suc last + 1 ≡ suc (length bodies) = e in omega (arith, n)))
    ∙ ap (λ (zs : List NumberedReading). y ∷ zs) (sym (append_assoc body (woven xs bodies) (x ∷ [])))

pub inner-woven : (xs : List NumberedReading) (bodies : List (List NumberedReading)) (place : ℕ) (x : NumberedReading) → IsWoven xs bodies → IsInner x
    → IsWoven xs (set bodies place (get_or bodies place [] ++ x ∷ []))
inner-woven xs [] place x w h = w
inner-woven [] (body ∷ bodies) place x w h = absurd w
inner-woven (y ∷ xs) (body ∷ bodies) zero x w h = (All-append IsInner body (x ∷ []) w.0 (All-cons IsInner x [] h (All-nil IsInner)), w.1)
inner-woven (y ∷ xs) (body ∷ bodies) (suc place) x w h = (w.0, (w.1.0, inner-woven xs bodies place x w.1.1 h))

-- ---- a call that fails

pub on-err : {T E P : Type 0} (r : Result T E) → P → OnErr r P
on-err (Ok value) p = tt
on-err (Err error) p = p

-- ---- what a call that adds a line leaves, whether it fails or not

pub outer-kept : {T E : Type 0} (r : Result T E) (xs ys : List NumberedReading) (bs cs : List (List NumberedReading)) (x : NumberedReading) → IsWoven xs bs → AddsOuter bs x
    → OnOk r (ys ≡ xs ++ x ∷ []) → OnOk r (cs ≡ bs ++ [] ∷ []) → OnErr r (ys ≡ xs) → OnErr r (cs ≡ bs) → IsWoven ys cs
outer-kept (Ok value) xs ys bs cs x w h a b c d =
    subst (λ (zs : List NumberedReading). IsWoven zs cs) (sym a) (subst (λ (ds : List (List NumberedReading)). IsWoven (xs ++ x ∷ []) ds) (sym b) (outer-woven xs bs x w h))
outer-kept (Err error) xs ys bs cs x w h a b c d =
    subst (λ (zs : List NumberedReading). IsWoven zs cs) (sym c) (subst (λ (ds : List (List NumberedReading)). IsWoven xs ds) (sym d) w)

pub outer-added : {T E : Type 0} (r : Result T E) (whole xs ys : List NumberedReading) (bs cs : List (List NumberedReading)) (x : NumberedReading) → whole ≡ woven xs bs → IsWoven xs bs
    → OnOk r (ys ≡ xs ++ x ∷ []) → OnOk r (cs ≡ bs ++ [] ∷ []) → OnOk r (woven ys cs ≡ whole ++ x ∷ [])
outer-added (Ok value) whole xs ys bs cs x e w a b =
    ap (λ (zs : List NumberedReading). woven zs cs) a ∙ ap (λ (ds : List (List NumberedReading)). woven (xs ++ x ∷ []) ds) b ∙ outer-pushed xs bs x w
    ∙ ap (λ (zs : List NumberedReading). zs ++ x ∷ []) (sym e)
outer-added (Err error) whole xs ys bs cs x e w a b = tt

pub inner-kept : {T E : Type 0} (r : Result T E) (xs : List NumberedReading) (bs cs : List (List NumberedReading)) (place : ℕ) (x : NumberedReading) → IsWoven xs bs → IsInner x
    → OnOk r (cs ≡ set bs place (get_or bs place [] ++ x ∷ [])) → OnErr r (cs ≡ bs) → IsWoven xs cs
inner-kept (Ok value) xs bs cs place x w h a b = subst (λ (ds : List (List NumberedReading)). IsWoven xs ds) (sym a) (inner-woven xs bs place x w h)
inner-kept (Err error) xs bs cs place x w h a b = subst (λ (ds : List (List NumberedReading)). IsWoven xs ds) (sym b) w

pub inner-added : {T E : Type 0} (r : Result T E) (whole xs : List NumberedReading) (bs cs : List (List NumberedReading)) (place : ℕ) (x : NumberedReading) → whole ≡ woven xs bs
    → IsWoven xs bs → place + 1 ≡ length bs → OnOk r (cs ≡ set bs place (get_or bs place [] ++ x ∷ [])) → OnOk r (woven xs cs ≡ whole ++ x ∷ [])
inner-added (Ok value) whole xs bs cs place x e w last a =
    ap (λ (ds : List (List NumberedReading)). woven xs ds) a ∙ inner-pushed xs bs place x w last ∙ ap (λ (zs : List NumberedReading). zs ++ x ∷ []) (sym e)
inner-added (Err error) whole xs bs cs place x e w last a = tt
