-- The lines `tenant` and `for`: who wants how much of the slots, and whose calls follow.
use Rattle.std.specs.Prelude.{ℕ, ◌+◌, nat_le, nat_lt, List, [], ◌∷◌, ◌++◌, length, Option, is_none, option_map, Result, Ok, Err}
use Rattle.std.specs.Option.{ok_or}
use Rattle.pool_limits.specs.declared.numbers.Numbers.{Numbers}
use Rattle.pool_limits.specs.declared.wants.Want.{Want}
use Rattle.pool_limits.specs.Plans.{first_over}
use Rattle.request_text.specs.declared.request.Reason.{Reason}
use Rattle.request_text.specs.declared.request.Reason.TheVariants.{BadWords, BadName, BadShare, NameUsedTwice, TooManyTenants, ShareTooLarge, UnknownTenant}
use Rattle.request_text.specs.Ladder.{◌>>=◌, demand}
use Rattle.request_words.specs.Words.{number_up_to, place_of}

-- The names of the tenants so far, in file order, what each wants, and the number of the one whose calls follow. They are
-- numbered from 1; tenant 0 has no name.
pub record Tenants : Type 0 where
  pub names : List (List ℕ)
  pub wants : List Want
  pub current : ℕ

-- before any of these lines calls are tenant 0's
abbrev pub no_tenants : Tenants
no_tenants = record { names = []; wants = []; current = 0 }

-- the number of the tenant of this name
abbrev pub tenant_named : Tenants → List ℕ → Option ℕ
tenant_named tenants name = option_map (λ place. place + 1) (place_of tenants.names name)

-- the number that a word of a share writes, 1,024 at most
abbrev pub share_number : List ℕ → Result ℕ Reason
share_number word = ok_or (number_up_to 1024 word) BadShare

-- of slots of a kind, one at least
unfoldable pub slots_in : List ℕ → Result ℕ Reason
slots_in word = do
  slots ← share_number word
  _ ← demand (nat_le 1 slots) BadShare
  Ok slots

-- what four words want: slots of each kind, and how many of the memories and of the tables may be warm, which may be none
unfoldable pub want_of : (instance_word memory_word table_word warm_word : List ℕ) → Result Want Reason
want_of instance_word memory_word table_word warm_word = do
  instances ← slots_in instance_word
  memories ← slots_in memory_word
  tables ← slots_in table_word
  warm ← share_number warm_word
  Ok (record { instances = instances; memories = memories; tables = tables; warm = warm })

-- one tenant more, where it and those before it don't want more together than there is by these numbers
unfoldable pub tenants_with : Numbers → Tenants → (name : List ℕ) → Want → Result Tenants Reason
tenants_with numbers before name want = do
  _ ← demand (is_none (first_over numbers (before.wants ++ want ∷ []))) ShareTooLarge
  Ok (record before { names = before.names ++ name ∷ []; wants = before.wants ++ want ∷ [] })

-- the tenants once the words after `tenant` have named one
unfoldable pub tenant_after : Numbers → Tenants → List (List ℕ) → Result Tenants Reason
tenant_after numbers before (name ∷ instances ∷ memories ∷ tables ∷ warm ∷ []) = do
  _ ← demand (nat_le (length name) 64) BadName
  want ← want_of instances memories tables warm
  _ ← demand (is_none (tenant_named before name)) NameUsedTwice
  _ ← demand (nat_lt (length before.wants) 15) TooManyTenants
  tenants_with numbers before name want
tenant_after numbers before words = Err BadWords

-- the tenants once the words after `for` have named the one whose calls follow
unfoldable pub for_after : Tenants → List (List ℕ) → Result Tenants Reason
for_after before (name ∷ []) = do
  _ ← demand (nat_le (length name) 64) BadName
  tenant ← ok_or (tenant_named before name) UnknownTenant
  Ok (record before { current = tenant })
for_after before words = Err BadWords
