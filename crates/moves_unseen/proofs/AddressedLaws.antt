-- A pointer into an object, its word, and the object that the machine finds by it.
use Rattle.std.proofs.Common.{◌≡◌, ℕ, suc, ◌+◌, ◌-◌, ◌<◌, ◌%◌, ◌^◌, List, length, get_or, refl, ap, ◌∙◌, arith, ltb, leb, Some}
use Rattle.std.proofs.lemmas.Bool.{and_from, eq-eqb, lt-ltb, le-leb}
use Rattle.ir_ast.specs.Objects.{Pointer}
use Rattle.moving_heap.specs.declared.stands.Stand.{Stand}
use Rattle.moving_heap.specs.Places.{owner, stands_at}
use Rattle.moving_heap.specs.Settled.{AreSettled}
use Rattle.moving_heap.proofs.PlaceLemmas.{owner_is, stands_at_is, exactly}
use Rattle.machine_meaning.specs.Relations.{addr, IsPair}
use Rattle.machine_meaning.proofs.AddressLaws.{addr_of}

abbrev pub blank : Stand
blank = record { number = 0; size = 0; address = 0 }

module _ (stands : List Stand) (are : AreSettled stands) (place : ℕ) (within : place < length stands) where
  abbrev pub stand : Stand
  stand = get_or stands place blank

  pub numbered : (get_or stands place blank).number ≡ place + 1
  numbered = are.numbered.at place blank within

  -- an address inside the object is its own
  pub owned_by : (offset : ℕ) → offset < (get_or stands place blank).size → owner stands ((get_or stands place blank).address + offset) ≡ Some (get_or stands place blank)
  owned_by offset inside =
      let own = get_or stands place blank in
      owner_is stands ((get_or stands place blank).address + offset) place blank are within
      (and_from (leb own.address (own.address + offset)) (ltb (own.address + offset) (own.address + own.size))
      (le-leb own.address (own.address + offset) (omega arith)) (lt-ltb (own.address + offset) (own.address + own.size) (omega arith)))

  -- at its first byte it stands
  pub stands_here : stands_at stands (get_or stands place blank).address ≡ Some (get_or stands place blank)
  stands_here =
      let own = get_or stands place blank in
      let size = (are.each place blank within).size in
      let first : owner stands own.address ≡ Some own =
      ap (owner stands) (let same : own.address ≡ own.address + 0 = omega arith in same) ∙ owned_by 0 (omega arith) in
      stands_at_is stands own.address are
      ∙ (ap (exactly own.address) first ∙ rw (eq-eqb own.address own.address refl) refl)

  -- an offset inside the object isn't wrapped
  pub word_inside : (to : Pointer) → to.object ≡ suc place → to.offset < (get_or stands place blank).size → addr stands to ≡ (get_or stands place blank).address + to.offset
  word_inside to is inside =
      let top = (are.each place blank within).top in
      addr_of stands to place is within
      ∙ (let fits : ((get_or stands place blank).address + to.offset) % 2 ^ 64 ≡ (get_or stands place blank).address + to.offset = omega arith in fits)

  -- the offset of a pointer is the distance of its word from that of its base
  pub distance : (to base : Pointer) (word base_word : ℕ) → to.object ≡ suc place → IsPair stands to base word base_word
      → (word + 2 ^ 64 - base_word) % 2 ^ 64 ≡ to.offset
  distance to base word base_word is pair =
      let top = (are.each place blank within).top in
      let small = pair.heap.offset in
      let word_is : word ≡ ((get_or stands place blank).address + to.offset) % 2 ^ 64 = pair.derived_is ∙ addr_of stands to place is within in
      let base_is : base_word ≡ ((get_or stands place blank).address + base.offset) % 2 ^ 64 = pair.base_is ∙ addr_of stands base place (pair.same ∙ is) within in
      let first = pair.first in
      omega arith

  pub base_address : (to base : Pointer) (word base_word : ℕ) → to.object ≡ suc place → IsPair stands to base word base_word
      → base_word ≡ (get_or stands place blank).address
  base_address to base word base_word is pair =
      let top = (are.each place blank within).top in
      let base_is : base_word ≡ ((get_or stands place blank).address + base.offset) % 2 ^ 64 = pair.base_is ∙ addr_of stands base place (pair.same ∙ is) within in
      let first = pair.first in
      omega arith
