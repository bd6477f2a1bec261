-- The ladder where two reasons apply: worked by hand.
use Rattle.std.proofs.Common.{◌≡◌, ◌∙◌, ◌+◌, ◌*◌, ◌%◌, ℕ, zero, suc, length, Bool, true, false, if◌then◌else◌, List, [], ◌∷◌, ap, refl, codes, Ok, Err, Result, arith}
use Rattle.std.specs.Prelude.{None, Some, nat_le, nat_lt, replicate}
use Rattle.std.specs.List.{position_or_len}
use Rattle.std.specs.Str.{bytes_eq}
use Rattle.std.proofs.lemmas.Bool.{le-ltb, lt-ltb}
use Rattle.std.proofs.lemmas.List.{length-replicate}
use Rattle.std.proofs.lemmas.Nat.{mod-mul-add}
use Rattle.hex.specs.Hex.{decode_pairs}
use Rattle.wasm_values.specs.declared.outcome.Val.TheVariants.{I32}
use Rattle.request_text.specs.declared.request.Directive.{Directive}
use Rattle.request_text.specs.declared.request.Directive.TheVariants.{Module, Call}
use Rattle.request_text.specs.declared.request.Reason.{Reason}
use Rattle.request_text.specs.declared.request.Reason.TheVariants.{BadHex, BadName, NameUsedTwice, TooManyModules, UnknownModule, BadFuel, BadRequest, RequestTooLong, BadArgument, TooManyCalls}
use Rattle.request_words.specs.Words.{argument_of, integer_of, number_up_to, place_of}
use Rattle.request_text.specs.Text.{Declared, call_directive_of, call_of, module_directive_of, request_of, send_directive_of}

-- so many modules `m`, and so many calls; the calls that follow are tenant 3's
abbrev declared : (modules calls : ℕ) → Declared
declared modules calls = record { names = replicate modules (codes "m"); retired = []; calls = calls; tenants = record { names = []; wants = []; current = 3 } }

abbrev module_after : ℕ → (name digits : List ℕ) → Result Directive Reason
module_after modules name digits = module_directive_of (declared modules 0) (name ∷ digits ∷ [])

-- however many modules stand before
long_name : (n : ℕ) → module_after n (replicate 65 110) (codes "0") ≡ Err BadName
unfolding module_directive_of
long_name n = refl

hex_before_name : (n : ℕ) → module_after n (codes "m") (codes "0") ≡ Err BadHex
unfolding module_directive_of
hex_before_name n = refl

own_name : (n : ℕ) → place_of (replicate (suc n) (codes "m")) (codes "m") ≡ Some 0
unfolding place_of
own_name n = rw (lt-ltb 0 (length (replicate (suc n) (codes "m"))) (omega (arith, length-replicate (suc n) (codes "m")))) refl

name_before_number : (n : ℕ) → module_after (suc n) (codes "m") (codes "00") ≡ Err NameUsedTwice
unfolding module_directive_of decode_pairs
name_before_number n = rw (own_name n) refl

-- no other module has the name
abbrev is_n : List ℕ → Bool
is_n other = bytes_eq other (codes "n")

passes_all : (n : ℕ) → position_or_len is_n (replicate n (codes "m")) ≡ n
passes_all zero = refl
passes_all (suc n) =
    let one_more : position_or_len is_n (replicate (suc n) (codes "m")) ≡ 1 + position_or_len is_n (replicate n (codes "m")) = refl in
    omega (arith, one_more, passes_all n)

another_name : (n : ℕ) → place_of (replicate n (codes "m")) (codes "n") ≡ None
unfolding place_of
another_name n = rw (passes_all n, length-replicate n (codes "m"), le-ltb n n (omega arith)) refl

after_so_many : (n : ℕ) (b : Bool) → nat_lt n 1048576 ≡ b → module_after n (codes "n") (codes "00") ≡ (if b then Ok (Module (codes "n") (0 ∷ [])) else Err TooManyModules)
unfolding module_directive_of decode_pairs
after_so_many n true few = rw (another_name n, length-replicate n (codes "m"), few) refl
after_so_many n false many = rw (another_name n, length-replicate n (codes "m"), many) refl

last_module : module_after 1048575 (codes "n") (codes "00") ≡ Ok (Module (codes "n") (0 ∷ []))
last_module = after_so_many 1048575 true refl

one_module_more : module_after 1048576 (codes "n") (codes "00") ≡ Err TooManyModules
one_module_more = after_so_many 1048576 false refl

abbrev call_after : ℕ → (name fuel arg : List ℕ) → Result Directive Reason
call_after calls name fuel arg = call_directive_of (declared 1 calls) (name ∷ codes "f" ∷ fuel ∷ arg ∷ [])

module_before_fuel : call_after 1000000 (codes "n") (codes "x") (codes "x") ≡ Err UnknownModule
unfolding call_directive_of place_of
module_before_fuel = refl

fuel_before_arguments : call_after 1000000 (codes "m") (codes "4294967296") (codes "x") ≡ Err BadFuel
unfolding call_directive_of place_of number_up_to
fuel_before_arguments = refl

arguments_before_number : call_after 1000000 (codes "m") (codes "1") (codes "x") ≡ Err BadArgument
unfolding call_directive_of call_of place_of number_up_to argument_of
arguments_before_number = refl

number_of_calls : call_after 1000000 (codes "m") (codes "1") (codes "i32:1") ≡ Err TooManyCalls
unfolding call_directive_of call_of place_of number_up_to argument_of integer_of
number_of_calls = refl

-- what a line asks for that sends these digits
abbrev sent : ℕ → (name fuel digits arg : List ℕ) → Result Directive Reason
sent calls name fuel digits arg = send_directive_of (declared 1 calls) (name ∷ codes "f" ∷ fuel ∷ digits ∷ arg ∷ [])

module_before_request : sent 1000000 (codes "n") (codes "x") (codes "0") (codes "x") ≡ Err UnknownModule
unfolding send_directive_of place_of
module_before_request = refl

fuel_before_request : sent 1000000 (codes "m") (codes "x") (codes "0") (codes "x") ≡ Err BadFuel
unfolding send_directive_of place_of number_up_to
fuel_before_request = refl

request_before_arguments : sent 1000000 (codes "m") (codes "1") (codes "0") (codes "x") ≡ Err BadRequest
unfolding send_directive_of request_of place_of number_up_to
request_before_arguments = refl

arguments_behind_a_request : sent 1000000 (codes "m") (codes "1") (codes "00") (codes "x") ≡ Err BadArgument
unfolding send_directive_of request_of call_of place_of number_up_to argument_of decode_pairs
arguments_behind_a_request = refl

number_of_calls_behind_a_request : sent 1000000 (codes "m") (codes "1") (codes "-") (codes "i32:1") ≡ Err TooManyCalls
unfolding send_directive_of request_of call_of place_of number_up_to argument_of integer_of
number_of_calls_behind_a_request = refl

sends_bytes : sent 0 (codes "m") (codes "7") (codes "0fFf") (codes "i32:1") ≡ Ok (Call 3 0 false (record { export = codes "f"; fuel = 7; request = Some (15 ∷ 255 ∷ []); shows = true; args = I32 1 ∷ [] }))
unfolding send_directive_of request_of call_of place_of number_up_to argument_of integer_of decode_pairs
sends_bytes = refl

sends_no_bytes : sent 0 (codes "m") (codes "7") (codes "-") (codes "i32:1") ≡ Ok (Call 3 0 false (record { export = codes "f"; fuel = 7; request = Some []; shows = true; args = I32 1 ∷ [] }))
unfolding send_directive_of request_of call_of place_of number_up_to argument_of integer_of
sends_no_bytes = refl

calls_without_a_request : call_after 0 (codes "m") (codes "7") (codes "i32:1") ≡ Ok (Call 3 0 false (record { export = codes "f"; fuel = 7; request = None; shows = false; args = I32 1 ∷ [] }))
unfolding call_directive_of call_of place_of number_up_to argument_of integer_of
calls_without_a_request = refl

-- ---- the longest request

-- so many bytes of 10, in hex
abbrev tens : ℕ → List ℕ
tens zero = []
tens (suc n) = 48 ∷ 97 ∷ tens n

length_tens : (n : ℕ) → length (tens n) ≡ n * 2 + 0
length_tens zero = refl
length_tens (suc n) = let rest = length_tens n in omega arith

decoded : (n i : ℕ) → decode_pairs i (tens n) ≡ Ok (replicate n 10)
unfolding decode_pairs
decoded zero i = refl
decoded (suc n) i = rw (decoded n (i + 2)) refl

even : (n : ℕ) → length (tens n) % 2 ≡ 0
even n = ap (λ (k : ℕ). k % 2) (length_tens n) ∙ mod-mul-add n 2 0 (omega arith)

so_many_sent : (n : ℕ) (few : Bool) → nat_le (suc n) 65536 ≡ few → request_of (tens (suc n)) ≡ (if few then Ok (replicate (suc n) 10) else Err RequestTooLong)
unfolding request_of
so_many_sent n true is = rw (even (suc n), decoded (suc n) 0, length-replicate {A = ℕ} (suc n) 10, is) refl
so_many_sent n false is = rw (even (suc n), decoded (suc n) 0, length-replicate {A = ℕ} (suc n) 10, is) refl

longest_request : request_of (tens 65536) ≡ Ok (replicate 65536 10)
longest_request = so_many_sent 65535 true refl

one_byte_more : request_of (tens 65537) ≡ Err RequestTooLong
one_byte_more = so_many_sent 65536 false refl
