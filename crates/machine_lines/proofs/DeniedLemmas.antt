-- A store that is denied changes nothing.
use Rattle.std.proofs.Common.{◌≡◌, ℕ, zero, suc, ◌-◌, ◌/◌, ◌%◌, ◌==◌, ◌≤◌, Bool, true, false, List, [], ◌∷◌, length, refl, ap}
use Rattle.std.specs.Prelude.{if◌then◌else◌, not, Option, Some, None, Err, slice_get}
use Rattle.std.proofs.lemmas.List.{set_past}
use Rattle.std.proofs.lemmas.Option.{slice_get_cases}
use Rattle.std.proofs.Common.{inl, inr}
use Rattle.moving_heap.specs.declared.heap.Deny.{Deny}
use Rattle.moving_heap.specs.declared.heap.Deny.TheVariants.{Poison}
use Rattle.moving_heap.specs.declared.stands.Stand.{Stand}
use Rattle.moving_heap.specs.Contents.{Content, with_word, word_in}
use Rattle.moving_heap.specs.Heaps.{done, load_stand, stored_at, word_found}
use Rattle.machine_lines.proofs.AccessLemmas.{done_err}

past_all : (xs : List ℕ) (i word : ℕ) → slice_get xs i ≡ None → length xs ≤ i
past_all xs i word none = elim (slice_get_cases xs i).1 [ inl found ↦ cc | inr past ↦ past.0 ]

with_nothing : (contents : List Content) (object cell word : ℕ) → word_in contents object cell ≡ None → with_word contents object cell word ≡ contents
with_nothing [] object cell word none = refl
with_nothing (content ∷ contents) zero cell word none =
    ap (λ (words : List ℕ). let c : Content = record content { words = words } in c ∷ contents) (set_past content.words cell word (past_all content.words cell word none))
with_nothing (content ∷ contents) (suc object) cell word none = ap (λ (rest : List Content). content ∷ rest) (with_nothing contents object cell word none)

not_found : (found : Option ℕ) (deny : Deny) → word_found found ≡ Err deny → found ≡ None
not_found None deny e = refl
not_found (Some word) deny e = cc

stored_nothing : (contents : List Content) (p word : ℕ) (deny : Deny) (stand : Option Stand) → load_stand contents p stand ≡ Err deny → stored_at contents p word stand ≡ contents
stored_nothing contents p word deny None e = refl
stored_nothing contents p word deny (Some stand) e = by (not ((p - stand.address) % 8 == 0)) e
  where
    by : (b : Bool) → (if b then Err Poison else word_found (word_in contents (stand.number - 1) ((p - stand.address) / 8))) ≡ Err deny
        → (if b then contents else with_word contents (stand.number - 1) ((p - stand.address) / 8) word) ≡ contents
    by true e = refl
    by false e = with_nothing contents (stand.number - 1) ((p - stand.address) / 8) word (not_found (word_in contents (stand.number - 1) ((p - stand.address) / 8)) deny e)

pub store_denied : (contents : List Content) (p word : ℕ) (deny : Deny) (stand : Option Stand) → Err deny ≡ done (load_stand contents p stand) → stored_at contents p word stand ≡ contents
store_denied contents p word deny stand e = stored_nothing contents p word deny stand (done_err (load_stand contents p stand) deny e)
