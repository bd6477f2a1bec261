-- The meaning of words that are written out.
use Rattle.std.proofs.Common.{◌≡◌, true, false, List, [], ◌∷◌, Some, None, refl, codes}
use Rattle.pool_limits.specs.declared.numbers.Numbers.{Numbers}
use Rattle.clap.specs.Words.{Text}
use Rattle.clap.proofs.OnLiterals.{clap_on_literals}
use Rattle.command_line.specs.Words.{command_of, entered_by}
use Rattle.command_line.specs.declared.words.Command.TheVariants.{Make, Run}

abbrev run : List Text → List Text
run words = codes "poolhost" ∷ codes "run" ∷ words

abbrev make : List Text → List Text
make words = codes "poolhost" ∷ codes "make" ∷ words

abbrev defaults : Numbers
defaults = record { workers = 1; instances = 4; memories = 4; tables = 4; warm = 2; batch = 4; pages = 32; elements = 1024; depth = 128; frame = 1024 }

no_option : command_of (run []) ≡ Some (Run defaults false 0)
unfolding clap_on_literals command_of entered_by
no_option = refl

two_by_equals : command_of (run (codes "--elements=0" ∷ codes "--frame=4096" ∷ [])) ≡ Some (Run (record defaults { elements = 0; frame = 4096 }) false 0)
unfolding clap_on_literals command_of entered_by
two_by_equals = refl

too_many_workers : command_of (run (codes "--workers" ∷ codes "17" ∷ [])) ≡ None
unfolding clap_on_literals command_of entered_by
too_many_workers = refl

no_memory_to_share : command_of (run (codes "--workers" ∷ codes "2" ∷ codes "--memories" ∷ codes "1" ∷ [])) ≡ None
unfolding clap_on_literals command_of entered_by
no_memory_to_share = refl

two_memories_to_share : command_of (run (codes "--workers" ∷ codes "2" ∷ codes "--memories" ∷ codes "2" ∷ [])) ≡ Some (Run (record defaults { workers = 2; memories = 2 }) false 0)
unfolding clap_on_literals command_of entered_by
two_memories_to_share = refl

most_memories : command_of (run (codes "--memories" ∷ codes "1024" ∷ codes "--pages" ∷ codes "1" ∷ [])) ≡ Some (Run (record defaults { memories = 1024; pages = 1 }) false 0)
unfolding clap_on_literals command_of entered_by
most_memories = refl

one_memory_more : command_of (run (codes "--memories" ∷ codes "1025" ∷ [])) ≡ None
unfolding clap_on_literals command_of entered_by
one_memory_more = refl

no_subcommand : command_of (codes "poolhost" ∷ []) ≡ None
unfolding clap_on_literals command_of entered_by
no_subcommand = refl

no_word : command_of ([]) ≡ None
unfolding clap_on_literals command_of entered_by
no_word = refl

repeated : command_of (run (codes "--warm" ∷ codes "2" ∷ codes "--warm" ∷ codes "2" ∷ [])) ≡ None
unfolding clap_on_literals command_of entered_by
repeated = refl

help : command_of (run (codes "--help" ∷ [])) ≡ None
unfolding clap_on_literals command_of entered_by
help = refl

version : command_of (codes "poolhost" ∷ codes "--version" ∷ []) ≡ None
unfolding clap_on_literals command_of entered_by
version = refl

summary : command_of (run (codes "--summary" ∷ codes "--depth" ∷ codes "1" ∷ [])) ≡ Some (Run (record defaults { depth = 1 }) true 0)
unfolding clap_on_literals command_of entered_by
summary = refl

longest_slice : command_of (run (codes "--slice" ∷ codes "4294967295" ∷ codes "--workers" ∷ codes "2" ∷ [])) ≡ Some (Run (record defaults { workers = 2 }) false 4294967295)
unfolding clap_on_literals command_of entered_by
longest_slice = refl

too_long_a_slice : command_of (run (codes "--slice" ∷ codes "4294967296" ∷ [])) ≡ None
unfolding clap_on_literals command_of entered_by
too_long_a_slice = refl

summary_with_a_value : command_of (run (codes "--summary=true" ∷ [])) ≡ None
unfolding clap_on_literals command_of entered_by
summary_with_a_value = refl

hyphens_at_the_end : command_of (run (codes "--" ∷ [])) ≡ Some (Run defaults false 0)
unfolding clap_on_literals command_of entered_by
hyphens_at_the_end = refl

-- a sign and leading zeros are taken
signs_and_zeros : command_of (run (codes "--warm" ∷ codes "+3" ∷ codes "--batch" ∷ codes "007" ∷ [])) ≡ Some (Run (record defaults { warm = 3; batch = 7 }) false 0)
unfolding clap_on_literals command_of entered_by
signs_and_zeros = refl

-- a minus sign only before a zero that an equals sign joins to its option
minus : command_of (run (codes "--warm" ∷ codes "-0" ∷ [])) ≡ None
unfolding clap_on_literals command_of entered_by
minus = refl

minus_by_equals : command_of (run (codes "--warm=-0" ∷ [])) ≡ Some (Run (record defaults { warm = 0 }) false 0)
unfolding clap_on_literals command_of entered_by
minus_by_equals = refl

least_load : command_of (make (codes "0" ∷ codes "1" ∷ [])) ≡ Some (Make 0 1)
unfolding clap_on_literals command_of entered_by
least_load = refl

greatest_load : command_of (make (codes "18446744073709551615" ∷ codes "100000" ∷ [])) ≡ Some (Make 18446744073709551615 100000)
unfolding clap_on_literals command_of entered_by
greatest_load = refl

seed_past_64_bits : command_of (make (codes "18446744073709551616" ∷ codes "1" ∷ [])) ≡ None
unfolding clap_on_literals command_of entered_by
seed_past_64_bits = refl

no_call : command_of (make (codes "1" ∷ codes "0" ∷ [])) ≡ None
unfolding clap_on_literals command_of entered_by
no_call = refl

too_many_calls : command_of (make (codes "1" ∷ codes "100001" ∷ [])) ≡ None
unfolding clap_on_literals command_of entered_by
too_many_calls = refl

seed_alone : command_of (make (codes "1" ∷ [])) ≡ None
unfolding clap_on_literals command_of entered_by
seed_alone = refl

seed_below_zero : command_of (make (codes "-1" ∷ codes "1" ∷ [])) ≡ None
unfolding clap_on_literals command_of entered_by
seed_below_zero = refl
