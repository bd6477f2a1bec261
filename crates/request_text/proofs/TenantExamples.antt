-- The lines `tenant` and `for`: worked by hand.
use Rattle.std.proofs.Common.{◌≡◌, ◌≤◌, ℕ, true, false, arith, List, [], ◌∷◌, refl, codes, Ok, Err, Result}
use Rattle.std.specs.Prelude.{None, replicate}
use Rattle.hex.specs.Hex.{decode_pairs}
use Rattle.wasm_values.specs.declared.profile.Profile.TheVariants.{One, Three}
use Rattle.pool_limits.specs.declared.numbers.Numbers.{Numbers}
use Rattle.pool_limits.specs.declared.wants.Want.{Want}
use Rattle.request_text.specs.declared.request.Directive.{Directive}
use Rattle.request_text.specs.declared.request.Directive.TheVariants.{Module, Call}
use Rattle.request_text.specs.declared.request.Reason.{Reason}
use Rattle.request_text.specs.declared.request.Reason.TheVariants.{BadByte, UnknownDirective, LateProfile, BadWords, BadName, BadShare, NameUsedTwice, TooManyTenants, ShareTooLarge, UnknownModule, UnknownTenant}
use Rattle.request_words.specs.Words.{line_words, number_up_to, place_of}
use Rattle.request_text.specs.Profiles.{profile_of}
use Rattle.request_text.specs.Tenants.{Tenants, for_after, share_number, want_of, slots_in, tenant_after, tenants_with}
use Rattle.request_text.specs.Text.{AreRequests, Asked, BadLine, FileRefusal, call_directive_of, call_of, directive_of, module_directive_of, profile_after, requests_after, requests_of, words_after}

-- ---- the numbers of a share

least_slots : slots_in (codes "1") ≡ Ok 1
unfolding slots_in number_up_to
least_slots = refl

most_slots : slots_in (codes "1024") ≡ Ok 1024
unfolding slots_in number_up_to
most_slots = refl

no_slots : slots_in (codes "0") ≡ Err BadShare
unfolding slots_in number_up_to
no_slots = refl

one_slot_more : slots_in (codes "1025") ≡ Err BadShare
unfolding slots_in number_up_to
one_slot_more = refl

leading_zeros : slots_in (codes "0007") ≡ Ok 7
unfolding slots_in number_up_to
leading_zeros = refl

no_digits : slots_in (codes "+7") ≡ Err BadShare
unfolding slots_in number_up_to
no_digits = refl

no_warm_slots : share_number (codes "0") ≡ Ok 0
unfolding number_up_to
no_warm_slots = refl

most_warm_slots : share_number (codes "1024") ≡ Ok 1024
unfolding number_up_to
most_warm_slots = refl

one_warm_slot_more : share_number (codes "1025") ≡ Err BadShare
unfolding number_up_to
one_warm_slot_more = refl

abbrev want : (instances memories tables warm : ℕ) → Want
want instances memories tables warm = record { instances = instances; memories = memories; tables = tables; warm = warm }

in_their_order : want_of (codes "1") (codes "2") (codes "3") (codes "4") ≡ Ok (want 1 2 3 4)
unfolding want_of slots_in number_up_to
in_their_order = refl

without_warm_slots : want_of (codes "1") (codes "1") (codes "1") (codes "0") ≡ Ok (want 1 1 1 0)
unfolding want_of slots_in number_up_to
without_warm_slots = refl

no_instances : want_of (codes "0") (codes "1") (codes "1") (codes "0") ≡ Err BadShare
unfolding want_of slots_in number_up_to
no_instances = refl

no_memories : want_of (codes "1") (codes "0") (codes "1") (codes "0") ≡ Err BadShare
unfolding want_of slots_in number_up_to
no_memories = refl

no_tables : want_of (codes "1") (codes "1") (codes "0") (codes "0") ≡ Err BadShare
unfolding want_of slots_in number_up_to
no_tables = refl

too_warm : want_of (codes "1") (codes "1") (codes "1") (codes "1025") ≡ Err BadShare
unfolding want_of slots_in number_up_to
too_warm = refl

-- ---- the line `tenant`

-- so much may be wanted together: 4 instances, 5 memories, 6 tables, and 7 warm slots
abbrev pools : Numbers
pools = record { workers = 2; instances = 6; memories = 7; tables = 8; warm = 7; batch = 4; pages = 32; elements = 1024; depth = 128; frame = 1024 }

abbrev greatest : Numbers
greatest = record pools { instances = 1024; memories = 1024; tables = 1024; warm = 1024 }

-- the one tenant `a` wants 2 of each, and the calls that follow are its own
abbrev one_tenant : Tenants
one_tenant = record { names = codes "a" ∷ []; wants = want 2 2 2 2 ∷ []; current = 1 }

-- what the words after `tenant` leave
abbrev named : (name instances memories tables warm : List ℕ) → Result Tenants Reason
named name instances memories tables warm = tenant_after pools one_tenant (name ∷ instances ∷ memories ∷ tables ∷ warm ∷ [])

-- two tenants, of whom the second has this name and wants this
abbrev with_second : List ℕ → Want → Result Tenants Reason
with_second name share = Ok (record { names = codes "a" ∷ name ∷ []; wants = want 2 2 2 2 ∷ share ∷ []; current = 1 })

abbrev long_name : List ℕ
long_name = replicate 65 110

no_words : tenant_after pools one_tenant [] ≡ Err BadWords
unfolding tenant_after
no_words = refl

four_words_and_a_long_name : tenant_after pools one_tenant (long_name ∷ codes "1" ∷ codes "1" ∷ codes "1" ∷ []) ≡ Err BadWords
unfolding tenant_after
four_words_and_a_long_name = refl

six_words_and_a_long_name : tenant_after pools one_tenant (long_name ∷ codes "1" ∷ codes "1" ∷ codes "1" ∷ codes "0" ∷ codes "0" ∷ []) ≡ Err BadWords
unfolding tenant_after
six_words_and_a_long_name = refl

name_before_share : named long_name (codes "0") (codes "1") (codes "1") (codes "0") ≡ Err BadName
unfolding tenant_after
name_before_share = refl

longest_name : named (replicate 64 110) (codes "1") (codes "1") (codes "1") (codes "0") ≡ with_second (replicate 64 110) (want 1 1 1 0)
unfolding tenant_after tenants_with place_of want_of slots_in number_up_to
longest_name = refl

share_before_used_twice : named (codes "a") (codes "1") (codes "1") (codes "1") (codes "x") ≡ Err BadShare
unfolding tenant_after want_of slots_in number_up_to
share_before_used_twice = refl

used_twice_before_too_large : named (codes "a") (codes "9") (codes "1") (codes "1") (codes "0") ≡ Err NameUsedTwice
unfolding tenant_after place_of want_of slots_in number_up_to
used_twice_before_too_large = refl

-- so many tenants, all named `m`
abbrev so_many : ℕ → Tenants
so_many count = record { names = replicate count (codes "m"); wants = replicate count (want 1 1 1 0); current = 0 }

used_twice_before_too_many : tenant_after greatest (so_many 15) (codes "m" ∷ codes "1" ∷ codes "1" ∷ codes "1" ∷ codes "0" ∷ []) ≡ Err NameUsedTwice
unfolding tenant_after place_of want_of slots_in number_up_to
used_twice_before_too_many = refl

too_many_before_too_large : tenant_after greatest (so_many 15) (codes "n" ∷ codes "1024" ∷ codes "1" ∷ codes "1" ∷ codes "0" ∷ []) ≡ Err TooManyTenants
unfolding tenant_after place_of want_of slots_in number_up_to
too_many_before_too_large = refl

fifteenth_too_large : tenant_after greatest (so_many 14) (codes "n" ∷ codes "1024" ∷ codes "1" ∷ codes "1" ∷ codes "0" ∷ []) ≡ Err ShareTooLarge
unfolding tenant_after tenants_with place_of want_of slots_in number_up_to
fifteenth_too_large = refl

-- with all slots of a kind but the lane's and one of tenant 0
all_that_may_be_wanted : named (codes "b") (codes "2") (codes "3") (codes "4") (codes "5") ≡ with_second (codes "b") (want 2 3 4 5)
unfolding tenant_after tenants_with place_of want_of slots_in number_up_to
all_that_may_be_wanted = refl

one_instance_more : named (codes "b") (codes "3") (codes "3") (codes "4") (codes "5") ≡ Err ShareTooLarge
unfolding tenant_after tenants_with place_of want_of slots_in number_up_to
one_instance_more = refl

one_memory_more : named (codes "b") (codes "2") (codes "4") (codes "4") (codes "5") ≡ Err ShareTooLarge
unfolding tenant_after tenants_with place_of want_of slots_in number_up_to
one_memory_more = refl

one_table_more : named (codes "b") (codes "2") (codes "3") (codes "5") (codes "5") ≡ Err ShareTooLarge
unfolding tenant_after tenants_with place_of want_of slots_in number_up_to
one_table_more = refl

one_warm_more : named (codes "b") (codes "2") (codes "3") (codes "4") (codes "6") ≡ Err ShareTooLarge
unfolding tenant_after tenants_with place_of want_of slots_in number_up_to
one_warm_more = refl

-- ---- the line `for`

-- tenants `a` and `b`
abbrev two_tenants : (current : ℕ) → Tenants
two_tenants current = record { names = codes "a" ∷ codes "b" ∷ []; wants = want 1 1 1 0 ∷ want 1 1 1 1 ∷ []; current = current }

no_name : for_after (two_tenants 1) [] ≡ Err BadWords
unfolding for_after
no_name = refl

two_long_names : for_after (two_tenants 1) (long_name ∷ long_name ∷ []) ≡ Err BadWords
unfolding for_after
two_long_names = refl

name_before_unknown : for_after (two_tenants 1) (long_name ∷ []) ≡ Err BadName
unfolding for_after
name_before_unknown = refl

longest_name_is_unknown : for_after (two_tenants 1) (replicate 64 110 ∷ []) ≡ Err UnknownTenant
unfolding for_after place_of
longest_name_is_unknown = refl

tenant_0_has_no_name : for_after (two_tenants 1) (codes "0" ∷ []) ≡ Err UnknownTenant
unfolding for_after place_of
tenant_0_has_no_name = refl

for_the_first : for_after (two_tenants 0) (codes "a" ∷ []) ≡ Ok (two_tenants 1)
unfolding for_after place_of
for_the_first = refl

for_the_second : for_after (two_tenants 1) (codes "b" ∷ []) ≡ Ok (two_tenants 2)
unfolding for_after place_of
for_the_second = refl

-- ---- whole files

abbrev asks : List Want → List Directive → Result Asked FileRefusal
asks wants directives = Ok (record { profile = Three; whole = true; wants = wants; directives = directives })

abbrev refused : ℕ → Reason → Result Asked FileRefusal
refused line reason = Err (BadLine line reason)

-- a call of the function `f` of the first module, on this fuel
abbrev call : (tenant fuel : ℕ) → Directive
call tenant fuel = Call tenant 0 false (record { export = codes "f"; fuel = fuel; request = None; shows = false; args = [] })

abbrev module_m : Directive
module_m = Module (codes "m") (0 ∷ [])

-- neither line is known before profile 4
tenant_without_a_profile : requests_of pools (codes "tenant") ≡ refused 1 UnknownDirective
unfolding requests_of requests_after words_after line_words directive_of
tenant_without_a_profile = refl

tenant_in_profile_3 : requests_of pools (codes "profile 3\ntenant") ≡ refused 2 UnknownDirective
unfolding requests_of requests_after words_after profile_after profile_of line_words directive_of
tenant_in_profile_3 = refl

for_in_profile_3 : requests_of pools (codes "profile 3\nfor") ≡ refused 2 UnknownDirective
unfolding requests_of requests_after words_after profile_after profile_of line_words directive_of
for_in_profile_3 = refl

tenant_in_profile_4 : requests_of pools (codes "profile 4\ntenant") ≡ refused 2 BadWords
unfolding requests_of requests_after words_after profile_after profile_of line_words tenant_after
tenant_in_profile_4 = refl

for_in_profile_4 : requests_of pools (codes "profile 4\nfor") ≡ refused 2 BadWords
unfolding requests_of requests_after words_after profile_after profile_of line_words for_after
for_in_profile_4 = refl

tenant_in_profile_5 : requests_of pools (codes "profile 5\ntenant") ≡ refused 2 BadWords
unfolding requests_of requests_after words_after profile_after profile_of line_words tenant_after
tenant_in_profile_5 = refl

for_in_profile_5 : requests_of pools (codes "profile 5\nfor") ≡ refused 2 BadWords
unfolding requests_of requests_after words_after profile_after profile_of line_words for_after
for_in_profile_5 = refl

byte_before_words_of_tenant : requests_of pools (codes "profile 4\ntenant\t") ≡ refused 2 BadByte
unfolding requests_of requests_after words_after profile_after profile_of line_words
byte_before_words_of_tenant = refl

byte_before_words_of_for : requests_of pools (codes "profile 4\nfor \t") ≡ refused 2 BadByte
unfolding requests_of requests_after words_after profile_after profile_of line_words
byte_before_words_of_for = refl

profile_after_a_tenant : requests_of pools (codes "profile 4\ntenant a 1 1 1 0\nprofile 4") ≡ refused 3 LateProfile
unfolding requests_of requests_after words_after profile_after profile_of line_words tenant_after tenants_with place_of want_of slots_in number_up_to
profile_after_a_tenant = refl

wants_in_the_order_of_lines : requests_of pools (codes "profile 4\ntenant a 1 1 1 0\n#\ntenant b 2 2 2 2") ≡ asks (want 1 1 1 0 ∷ want 2 2 2 2 ∷ []) []
unfolding requests_of requests_after words_after profile_after profile_of line_words tenant_after tenants_with place_of want_of slots_in number_up_to
wants_in_the_order_of_lines = refl

-- with one slot of each kind nothing is left beside the lane's
nothing_to_share : requests_of (record pools { workers = 1; instances = 1; memories = 1; tables = 1 }) (codes "profile 4\ntenant a 1 1 1 0") ≡ refused 2 ShareTooLarge
unfolding requests_of requests_after words_after profile_after profile_of line_words tenant_after tenants_with place_of want_of slots_in number_up_to
nothing_to_share = refl

-- a tenant and a module may have one name, which leads to each by its own lines
one_name_of_two : requests_of pools (codes "profile 4\nmodule m 00\ntenant m 1 1 1 0\nfor m\ncall m f 5") ≡ asks (want 1 1 1 0 ∷ []) (module_m ∷ call 1 5 ∷ [])
unfolding requests_of requests_after words_after profile_after profile_of line_words directive_of module_directive_of call_directive_of call_of decode_pairs tenant_after tenants_with for_after place_of want_of slots_in number_up_to
one_name_of_two = refl

module_is_no_tenant : requests_of pools (codes "profile 4\nmodule m 00\nfor m") ≡ refused 3 UnknownTenant
unfolding requests_of requests_after words_after profile_after profile_of line_words directive_of module_directive_of decode_pairs for_after place_of
module_is_no_tenant = refl

tenant_is_no_module : requests_of pools (codes "profile 4\ntenant m 1 1 1 0\ncall m f 5") ≡ refused 3 UnknownModule
unfolding requests_of requests_after words_after profile_after profile_of line_words directive_of call_directive_of tenant_after tenants_with place_of want_of slots_in number_up_to
tenant_is_no_module = refl

later_tenant_is_unknown : requests_of pools (codes "profile 4\nfor a\ntenant a 1 1 1 0") ≡ refused 2 UnknownTenant
unfolding requests_of requests_after words_after profile_after profile_of line_words for_after place_of
later_tenant_is_unknown = refl

-- a call before any `for` is tenant 0's
calls_of_tenant_0 : requests_of pools (codes "profile 4\nmodule m 00\ncall m f 5\ntenant a 1 1 1 0\ncall m f 6") ≡ asks (want 1 1 1 0 ∷ []) (module_m ∷ call 0 5 ∷ call 0 6 ∷ [])
unfolding requests_of requests_after words_after profile_after profile_of line_words directive_of module_directive_of call_directive_of call_of decode_pairs tenant_after tenants_with place_of want_of slots_in number_up_to
calls_of_tenant_0 = refl

-- those after it are its tenant's until the next, whatever other lines stand between
calls_until_the_next : requests_of pools (codes "profile 4\nmodule m 00\ntenant a 1 1 1 0\ntenant b 1 1 1 0\nfor b\ncall m f 5\n\ntenant c 1 1 1 0\nmodule n 00\ncall m f 6\nfor a\ncall m f 7")
    ≡ asks (want 1 1 1 0 ∷ want 1 1 1 0 ∷ want 1 1 1 0 ∷ []) (module_m ∷ call 2 5 ∷ Module (codes "n") (0 ∷ []) ∷ call 2 6 ∷ call 1 7 ∷ [])
unfolding requests_of requests_after words_after profile_after profile_of line_words directive_of module_directive_of call_directive_of call_of decode_pairs tenant_after tenants_with for_after place_of want_of slots_in number_up_to
calls_until_the_next = refl

-- without these lines too
calls_without_tenants : requests_of pools (codes "module m 00\ncall m f 5") ≡ Ok (record { profile = One; whole = false; wants = []; directives = module_m ∷ call 0 5 ∷ [] })
unfolding requests_of requests_after words_after line_words directive_of module_directive_of call_directive_of call_of decode_pairs place_of number_up_to
calls_without_tenants = refl

-- ---- what holds of each file that is read

second_call_is_of_no_tenant : AreRequests (want 1 1 1 0 ∷ []) (module_m ∷ call 1 5 ∷ call 2 5 ∷ []) → ⊥
second_call_is_of_no_tenant h = let by_one : 2 ≤ 1 = h.by_tenants 2 module_m (omega arith) in omega arith

sixteen_are_too_many : AreRequests (replicate 16 (want 1 1 1 0)) [] → ⊥
sixteen_are_too_many h = let few = h.few_tenants in omega arith
