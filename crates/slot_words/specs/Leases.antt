-- What a lease says.
use Rattle.std.specs.Prelude.{ℕ}
use Rattle.slot_words.specs.declared.leases.Lease.{Lease}

module _ {V : Type 0} where
  -- the slot's number
  abbrev pub lease_number : Lease V → ℕ
  lease_number l = l.number

  -- the word that the claim read
  abbrev pub lease_word : Lease V → ℕ
  lease_word l = l.word
