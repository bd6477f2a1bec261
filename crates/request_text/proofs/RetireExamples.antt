-- The line `retire`: worked by hand.
use Rattle.std.proofs.Common.{◌≡◌, ◌<◌, ℕ, Bool, true, false, List, [], ◌∷◌, get_or, ap, refl, codes, Ok, Err, Result, arith}
use Rattle.std.proofs.lemmas.Cmp.{nat_eq_equiv}
use Rattle.std.proofs.lemmas.Map.Views.{list_any-from_Contains}
use Rattle.std.specs.List.{IsDistinct}
use Rattle.std.specs.Prelude.{None, Option, Some, is_some, replicate, unwrap_or}
use Rattle.hex.specs.Hex.{decode_pairs}
use Rattle.wasm_values.specs.declared.profile.Profile.TheVariants.{Three}
use Rattle.pool_limits.specs.declared.numbers.Numbers.{Numbers}
use Rattle.request_text.specs.declared.request.Directive.{Directive}
use Rattle.request_text.specs.declared.request.Directive.TheVariants.{Module, Call, Retire}
use Rattle.request_text.specs.declared.request.Reason.{Reason}
use Rattle.request_text.specs.declared.request.Reason.TheVariants.{BadByte, UnknownDirective, BadWords, NameUsedTwice, UnknownModule, RetiredTwice}
use Rattle.request_words.specs.Words.{line_words, number_up_to, place_of}
use Rattle.request_text.specs.Profiles.{profile_of}
use Rattle.request_text.specs.Tenants.{no_tenants, want_of, slots_in, tenant_after, tenants_with}
use Rattle.request_text.specs.Text.{AreRequests, Asked, BadLine, Declared, FileRefusal, call_count, call_directive_of, call_of, directive_of, module_directive_of, is_retired, modules_of, profile_after, requests_after, requests_of, request_of, retire_directive_of, retired_places, send_directive_of, words_after}

-- ---- the line

-- the modules `a` and `b`, of which `b` is retired
abbrev two_modules : Declared
two_modules = record { names = codes "a" ∷ codes "b" ∷ []; retired = 1 ∷ []; calls = 0; tenants = no_tenants }

no_words : retire_directive_of two_modules [] ≡ Err BadWords
unfolding retire_directive_of
no_words = refl

two_words_before_unknown : retire_directive_of two_modules (codes "c" ∷ codes "c" ∷ []) ≡ Err BadWords
unfolding retire_directive_of
two_words_before_unknown = refl

two_words_before_retired : retire_directive_of two_modules (codes "b" ∷ codes "b" ∷ []) ≡ Err BadWords
unfolding retire_directive_of
two_words_before_retired = refl

unknown_name : retire_directive_of two_modules (codes "c" ∷ []) ≡ Err UnknownModule
unfolding retire_directive_of place_of
unknown_name = refl

-- a name that no module can have is unknown, as in a call
long_name : retire_directive_of two_modules (replicate 65 110 ∷ []) ≡ Err UnknownModule
unfolding retire_directive_of place_of
long_name = refl

first_module : retire_directive_of two_modules (codes "a" ∷ []) ≡ Ok (Retire 0 (codes "a"))
unfolding retire_directive_of place_of
first_module = refl

retired_module : retire_directive_of two_modules (codes "b" ∷ []) ≡ Err RetiredTwice
unfolding retire_directive_of place_of
retired_module = refl

-- ---- the flag of a call

-- a call of the function `f` of the module at this place, on fuel 5, which sends this
abbrev call_with : (place : ℕ) (retired : Bool) (request : Option (List ℕ)) → Directive
call_with place retired request = Call 0 place retired (record { export = codes "f"; fuel = 5; request = request; shows = is_some request; args = [] })

-- the modules at places 2 and 0 are retired, in this order
first_of_two : is_retired (2 ∷ 0 ∷ []) 2 ≡ true
first_of_two = refl

second_of_two : is_retired (2 ∷ 0 ∷ []) 0 ≡ true
second_of_two = refl

neither_of_two : is_retired (2 ∷ 0 ∷ []) 1 ≡ false
neither_of_two = refl

called_before : call_directive_of two_modules (codes "a" ∷ codes "f" ∷ codes "5" ∷ []) ≡ Ok (call_with 0 false None)
unfolding call_directive_of call_of place_of number_up_to
called_before = refl

called_behind : call_directive_of two_modules (codes "b" ∷ codes "f" ∷ codes "5" ∷ []) ≡ Ok (call_with 1 true None)
unfolding call_directive_of call_of place_of number_up_to
called_behind = refl

sent_before : send_directive_of two_modules (codes "a" ∷ codes "f" ∷ codes "5" ∷ codes "-" ∷ []) ≡ Ok (call_with 0 false (Some []))
unfolding send_directive_of request_of call_of place_of number_up_to
sent_before = refl

sent_behind : send_directive_of two_modules (codes "b" ∷ codes "f" ∷ codes "5" ∷ codes "-" ∷ []) ≡ Ok (call_with 1 true (Some []))
unfolding send_directive_of request_of call_of place_of number_up_to
sent_behind = refl

-- ---- whole files

abbrev asks : List Directive → Result Asked FileRefusal
asks directives = Ok (record { profile = Three; whole = true; wants = []; directives = directives })

abbrev refused : ℕ → Reason → Result Asked FileRefusal
refused line reason = Err (BadLine line reason)

-- a module of one byte
abbrev module_of : List ℕ → Directive
module_of name = Module name (0 ∷ [])

-- a call before a retire line of its module, or of a module that has none, and one behind it
abbrev call : (place : ℕ) → Directive
call place = call_with place false None

abbrev retired_call : (place : ℕ) → Directive
retired_call place = call_with place true None

retire_without_a_profile : (n : Numbers) → requests_of n (codes "retire") ≡ refused 1 UnknownDirective
unfolding requests_of requests_after words_after line_words directive_of
retire_without_a_profile n = refl

retire_in_profile_4 : (n : Numbers) → requests_of n (codes "profile 4\nmodule m 00\nretire m") ≡ refused 3 UnknownDirective
unfolding requests_of requests_after words_after profile_after profile_of line_words directive_of module_directive_of place_of decode_pairs
retire_in_profile_4 n = refl

retire_in_profile_5 : (n : Numbers) → requests_of n (codes "profile 5\nretire") ≡ refused 2 BadWords
unfolding requests_of requests_after words_after profile_after profile_of line_words directive_of retire_directive_of
retire_in_profile_5 n = refl

byte_before_words : (n : Numbers) → requests_of n (codes "profile 5\nretire\t") ≡ refused 2 BadByte
unfolding requests_of requests_after words_after profile_after profile_of line_words
byte_before_words n = refl

-- calls may stand before the line and behind it
calls_on_both_sides : (n : Numbers) → requests_of n (codes "profile 5\nmodule m 00\ncall m f 5\nretire m\ncall m f 5") ≡ asks (module_of (codes "m") ∷ call 0 ∷ Retire 0 (codes "m") ∷ retired_call 0 ∷ [])
unfolding requests_of requests_after words_after profile_after profile_of line_words directive_of module_directive_of call_directive_of call_of retire_directive_of place_of number_up_to decode_pairs
calls_on_both_sides n = refl

-- each of two retired modules is called and sent to, before its line, between the lines and behind both; a third one isn't retired
two_retired_modules : (n : Numbers) → requests_of n (codes "profile 5\nmodule a 00\nmodule b 00\nmodule c 00\nretire b\ncall a f 5\ncall b f 5\nretire a\nsend a f 5 -\ncall b f 5\ncall c f 5")
    ≡ asks (module_of (codes "a") ∷ module_of (codes "b") ∷ module_of (codes "c") ∷ Retire 1 (codes "b") ∷ call 0 ∷ retired_call 1 ∷ Retire 0 (codes "a") ∷ call_with 0 true (Some []) ∷ retired_call 1 ∷ call 2 ∷ [])
unfolding requests_of requests_after words_after profile_after profile_of line_words directive_of module_directive_of call_directive_of send_directive_of request_of call_of retire_directive_of place_of number_up_to decode_pairs
two_retired_modules n = refl

in_any_order : (n : Numbers) → requests_of n (codes "profile 5\nmodule a 00\nmodule b 00\nretire b\nretire a") ≡ asks (module_of (codes "a") ∷ module_of (codes "b") ∷ Retire 1 (codes "b") ∷ Retire 0 (codes "a") ∷ [])
unfolding requests_of requests_after words_after profile_after profile_of line_words directive_of module_directive_of retire_directive_of place_of decode_pairs
in_any_order n = refl

later_module_is_unknown : (n : Numbers) → requests_of n (codes "profile 5\nretire m\nmodule m 00") ≡ refused 2 UnknownModule
unfolding requests_of requests_after words_after profile_after profile_of line_words directive_of retire_directive_of place_of
later_module_is_unknown n = refl

retired_again : (n : Numbers) → requests_of n (codes "profile 5\nmodule m 00\nretire m\nmodule n 00\ncall m f 5\nretire m") ≡ refused 6 RetiredTwice
unfolding requests_of requests_after words_after profile_after profile_of line_words directive_of module_directive_of call_directive_of call_of retire_directive_of place_of number_up_to decode_pairs
retired_again n = refl

-- no module takes the name of one that is retired
name_is_kept : (n : Numbers) → requests_of n (codes "profile 5\nmodule m 00\nretire m\nmodule m 00") ≡ refused 4 NameUsedTwice
unfolding requests_of requests_after words_after profile_after profile_of line_words directive_of module_directive_of retire_directive_of place_of decode_pairs
name_is_kept n = refl

-- and modules behind the line have the places that they would have without it
places_behind : (n : Numbers) → requests_of n (codes "profile 5\nmodule a 00\nretire a\nmodule b 00\ncall b f 5\nretire b") ≡ asks (module_of (codes "a") ∷ Retire 0 (codes "a") ∷ module_of (codes "b") ∷ call 1 ∷ Retire 1 (codes "b") ∷ [])
unfolding requests_of requests_after words_after profile_after profile_of line_words directive_of module_directive_of call_directive_of call_of retire_directive_of place_of number_up_to decode_pairs
places_behind n = refl

-- so many may be wanted together: 4 instances, 5 memories, 6 tables, and 7 warm slots
abbrev pools : Numbers
pools = record { workers = 2; instances = 6; memories = 7; tables = 8; warm = 7; batch = 4; pages = 32; elements = 1024; depth = 128; frame = 1024 }

tenant_is_no_module : requests_of pools (codes "profile 5\ntenant t 1 1 1 0\nretire t") ≡ refused 3 UnknownModule
unfolding requests_of requests_after words_after profile_after profile_of line_words directive_of retire_directive_of tenant_after tenants_with place_of want_of slots_in number_up_to
tenant_is_no_module = refl

-- ---- what directives say

-- three modules are registered, of which two are retired, and called before and behind these lines
abbrev some_lines : List Directive
some_lines = module_of (codes "a") ∷ module_of (codes "b") ∷ call 0 ∷ Retire 1 (codes "b") ∷ retired_call 1 ∷ module_of (codes "c") ∷ Retire 0 (codes "a") ∷ call 2 ∷ []

places_are : retired_places some_lines ≡ 1 ∷ 0 ∷ []
places_are = refl

modules_are : modules_of some_lines ≡ (0 ∷ []) ∷ (0 ∷ []) ∷ (0 ∷ []) ∷ []
modules_are = refl

calls_are : call_count some_lines ≡ 3
calls_are = refl

-- ---- what holds of each file that is read

no_module_before : AreRequests [] (Retire 0 (codes "a") ∷ module_of (codes "a") ∷ []) → ⊥
no_module_before h = let earlier : 0 < 0 = h.placed.0 in omega arith

name_of_another : AreRequests [] (module_of (codes "a") ∷ Retire 0 (codes "b") ∷ []) → ⊥
name_of_another h =
    let named : Some (codes "a") ≡ Some (codes "b") = h.named 1 (module_of (codes "a")) (omega arith) in
    let first : 97 ≡ 98 = ap (λ (o : Option (List ℕ)). get_or (unwrap_or o []) 0 0) named in
    omega (arith, first)

twice : AreRequests [] (module_of (codes "a") ∷ module_of (codes "b") ∷ Retire 0 (codes "a") ∷ Retire 1 (codes "b") ∷ Retire 0 (codes "a") ∷ []) → ⊥
unfolding IsDistinct
twice h = let other : true ≡ false = h.retired_once.0.1.0 in absurd (cc)

flagged_before_the_line : AreRequests [] (module_of (codes "a") ∷ retired_call 0 ∷ Retire 0 (codes "a") ∷ []) → ⊥
flagged_before_the_line h = let none : false ≡ true = list_any-from_Contains nat_eq_equiv 0 [] (h.flagged.0.0 refl) in absurd (cc)

flagged_by_another_line : AreRequests [] (module_of (codes "a") ∷ module_of (codes "b") ∷ Retire 0 (codes "a") ∷ retired_call 1 ∷ []) → ⊥
flagged_by_another_line h = let none : false ≡ true = list_any-from_Contains nat_eq_equiv 1 (0 ∷ []) (h.flagged.0.0 refl) in absurd (cc)

-- whatever lines stand between
not_flagged_behind_the_line : AreRequests [] (module_of (codes "a") ∷ Retire 0 (codes "a") ∷ module_of (codes "b") ∷ retired_call 0 ∷ Retire 1 (codes "b") ∷ call 0 ∷ []) → ⊥
not_flagged_behind_the_line h = let flag : false ≡ true = h.flagged.1.0.1 (1, omega arith, refl) in absurd (cc)
