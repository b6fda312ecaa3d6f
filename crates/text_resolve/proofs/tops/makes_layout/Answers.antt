use Rattle.std.proofs.Common.{◌≡◌, ◌∙◌, ap, sym, List, ℕ, ◌++◌, take, drop}
use Rattle.std.specs.Prelude.{codes, true, false}
use Rattle.std.proofs.lemmas.List.{take-append-drop}
use Rattle.std.proofs.lemmas.Slice.Eq.{bytes_eq-Decides}
use Rattle.ir_lines.specs.Externals.{gc_new}
use Rattle.text_resolve.proofs.ExternalLemmas.{made-layout, made-nothing}
use Rattle.text_resolve.proofs.tops.makes_layout.Goals as goal

pub returns-in-Some : goal.returns-in-Some
returns-in-Some c =
    let name = c.args.name.now in
    let begins : take 7 name ≡ codes "gc_new." = (bytes_eq-Decides (take 7 name) (codes "gc_new.")).0 c.in-Some.ensures.cases.0 in
    let is : name ≡ gc_new c.in-Some.layout.now
    = sym (take-append-drop 7 name) ∙ ap (λ (xs : List ℕ). xs ++ drop 7 name) begins
    ∙ ap (λ (xs : List ℕ). codes "gc_new." ++ xs) (sym c.in-Some.ensures.cases.1) in
    made-layout c.args.top.now.layouts name c.in-Some.layout.now c.has.result is c.has.ensures

pub returns-in-None : goal.returns-in-None
returns-in-None c =
    let name = c.args.name.now in
    made-nothing c.args.top.now.layouts name (λ rest e.
    let begins : take 7 name ≡ codes "gc_new." = ap (take 7) e in
    let bad : true ≡ false = sym ((bytes_eq-Decides (take 7 name) (codes "gc_new.")).1 begins) ∙ c.in-None.ensures.cases in
    cc)
