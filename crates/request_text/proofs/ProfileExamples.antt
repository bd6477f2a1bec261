-- Lines that begin with `profile`: worked by hand.
use Rattle.std.proofs.Common.{◌≡◌, ℕ, true, false, List, [], ◌∷◌, refl, codes, Ok, Err, Result}
use Rattle.pool_limits.specs.declared.numbers.Numbers.{Numbers}
use Rattle.wasm_values.specs.declared.profile.Profile.{Profile}
use Rattle.wasm_values.specs.declared.profile.Profile.TheVariants.{One, Two, Three}
use Rattle.request_text.specs.declared.request.Directive.{Directive}
use Rattle.request_text.specs.declared.request.Directive.TheVariants.{Module}
use Rattle.request_text.specs.declared.request.Reason.{Reason}
use Rattle.request_text.specs.declared.request.Reason.TheVariants.{BadByte, BadWords, UnknownDirective, LateProfile, BadProfile}
use Rattle.request_words.specs.Words.{line_words, place_of}
use Rattle.request_text.specs.Profiles.{profile_of}
use Rattle.request_text.specs.Text.{Asked, BadLine, FileRefusal, directive_of, module_directive_of, profile_after, requests_after, requests_of, send_directive_of, words_after}
use Rattle.hex.specs.Hex.{decode_pairs}

-- a file without tenants, of this profile and these directives; its calls need not be made whole
abbrev asks : Profile → List Directive → Result Asked FileRefusal
asks profile directives = Ok (record { profile = profile; whole = false; wants = []; directives = directives })

-- the file is refused at this line, for this reason
abbrev refused : ℕ → Reason → Result Asked FileRefusal
refused line reason = Err (BadLine line reason)

no_line : (n : Numbers) → requests_of n (codes "") ≡ asks One []
unfolding requests_of requests_after words_after line_words
no_line n = refl

no_profile : (n : Numbers) → requests_of n (codes "module a 00") ≡ asks One (Module (codes "a") (0 ∷ []) ∷ [])
unfolding requests_of requests_after words_after line_words directive_of module_directive_of place_of decode_pairs
no_profile n = refl

profile_1 : (n : Numbers) → requests_of n (codes "profile 1") ≡ asks One []
unfolding requests_of requests_after words_after profile_after profile_of line_words
profile_1 n = refl

profile_2 : (n : Numbers) → requests_of n (codes "profile 2") ≡ asks Two []
unfolding requests_of requests_after words_after profile_after profile_of line_words
profile_2 n = refl

profile_3 : (n : Numbers) → requests_of n (codes "profile 3") ≡ asks Three []
unfolding requests_of requests_after words_after profile_after profile_of line_words
profile_3 n = refl

-- the modules of profiles 4 and 5 are read in profile 3
profile_4 : (n : Numbers) → requests_of n (codes "profile 4") ≡ Ok (record { profile = Three; whole = true; wants = []; directives = [] })
unfolding requests_of requests_after words_after profile_after profile_of line_words
profile_4 n = refl

profile_5 : (n : Numbers) → requests_of n (codes "profile 5") ≡ Ok (record { profile = Three; whole = true; wants = []; directives = [] })
unfolding requests_of requests_after words_after profile_after profile_of line_words
profile_5 n = refl

profile_6 : (n : Numbers) → requests_of n (codes "profile 6") ≡ refused 1 BadProfile
unfolding requests_of requests_after words_after profile_after profile_of line_words
profile_6 n = refl

no_number : (n : Numbers) → requests_of n (codes "profile") ≡ refused 1 BadProfile
unfolding requests_of requests_after words_after profile_after profile_of line_words
no_number n = refl

two_numbers : (n : Numbers) → requests_of n (codes "profile 1 2") ≡ refused 1 BadProfile
unfolding requests_of requests_after words_after profile_after profile_of line_words
two_numbers n = refl

leading_zero : (n : Numbers) → requests_of n (codes "profile 01") ≡ refused 1 BadProfile
unfolding requests_of requests_after words_after profile_after profile_of line_words
leading_zero n = refl

after_skipped_lines : (n : Numbers) → requests_of n (codes "# a\n  \n profile  2 \nmodule a 00") ≡ asks Two (Module (codes "a") (0 ∷ []) ∷ [])
unfolding requests_of requests_after words_after profile_after profile_of line_words directive_of module_directive_of place_of decode_pairs
after_skipped_lines n = refl

after_another : (n : Numbers) → requests_of n (codes "profile 1\n\nprofile 1") ≡ refused 3 LateProfile
unfolding requests_of requests_after words_after profile_after profile_of line_words
after_another n = refl

after_a_module : (n : Numbers) → requests_of n (codes "module a 00\nprofile 2") ≡ refused 2 LateProfile
unfolding requests_of requests_after words_after profile_after profile_of line_words directive_of module_directive_of place_of decode_pairs
after_a_module n = refl

late_before_bad : (n : Numbers) → requests_of n (codes "module a 00\nprofile 3 4") ≡ refused 2 LateProfile
unfolding requests_of requests_after words_after profile_after profile_of line_words directive_of module_directive_of place_of decode_pairs
late_before_bad n = refl

byte_before_late : (n : Numbers) → requests_of n (codes "profile 1\nprofile 2\t") ≡ refused 2 BadByte
unfolding requests_of requests_after words_after profile_after profile_of line_words
byte_before_late n = refl

byte_before_bad : (n : Numbers) → requests_of n (codes "profile 2\r\n") ≡ refused 1 BadByte
unfolding requests_of requests_after words_after profile_after profile_of line_words
byte_before_bad n = refl

another_word : (n : Numbers) → requests_of n (codes "profiles 2") ≡ refused 1 UnknownDirective
unfolding requests_of requests_after words_after line_words directive_of
another_word n = refl

another_case : (n : Numbers) → requests_of n (codes "Profile 2") ≡ refused 1 UnknownDirective
unfolding requests_of requests_after words_after line_words directive_of
another_case n = refl

-- lines send from profile 3 on
sends_in_profile_2 : (n : Numbers) → requests_of n (codes "profile 2\nsend") ≡ refused 2 UnknownDirective
unfolding requests_of requests_after words_after profile_after profile_of line_words directive_of
sends_in_profile_2 n = refl

sends_in_profile_3 : (n : Numbers) → requests_of n (codes "profile 3\nsend") ≡ refused 2 BadWords
unfolding requests_of requests_after words_after profile_after profile_of line_words directive_of send_directive_of
sends_in_profile_3 n = refl

sends_in_profile_4 : (n : Numbers) → requests_of n (codes "profile 4\nsend") ≡ refused 2 BadWords
unfolding requests_of requests_after words_after profile_after profile_of line_words directive_of send_directive_of
sends_in_profile_4 n = refl

sends_in_profile_5 : (n : Numbers) → requests_of n (codes "profile 5\nsend") ≡ refused 2 BadWords
unfolding requests_of requests_after words_after profile_after profile_of line_words directive_of send_directive_of
sends_in_profile_5 n = refl

sends_without_a_profile : (n : Numbers) → requests_of n (codes "send") ≡ refused 1 UnknownDirective
unfolding requests_of requests_after words_after line_words directive_of
sends_without_a_profile n = refl
