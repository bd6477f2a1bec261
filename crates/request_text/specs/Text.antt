-- The request text: what each line of a file asks for, and the ladder of reasons for which it is refused.
use Rattle.std.specs.Prelude.{◌≡◌, ◌↔◌, ◌<◌, ◌≤◌, ℕ, ◌+◌, ◌==◌, ◌&&◌, not, nat_lt, nat_le, Bool, true, false, if◌then◌else◌, List, [], ◌∷◌, ◌++◌, length, codes, filter_map, count_by, Option, Some, None, is_none, is_some, unwrap_or, Result, Ok, Err}
use Rattle.std.specs.List.{All, Contains, IsDistinct, list_all, list_any, slice_get}
use Rattle.std.specs.Option.{ok_or}
use Rattle.std.specs.Str.{bytes_eq}
use Rattle.wasm_values.specs.declared.profile.Profile.{Profile}
use Rattle.pool_limits.specs.declared.numbers.Numbers.{Numbers}
use Rattle.pool_limits.specs.declared.wants.Want.{Want}
use Rattle.request_text.specs.declared.file_profile.FileProfile.{FileProfile}
use Rattle.request_text.specs.declared.file_profile.FileProfile.TheVariants.{One}
use Rattle.request_text.specs.declared.request.Directive.{Directive}
use Rattle.request_text.specs.declared.request.Directive.TheVariants.{Module, Call, Retire}
use Rattle.request_text.specs.declared.request.Reason.{Reason}
use Rattle.request_text.specs.declared.request.Reason.TheVariants.{BadByte, UnknownDirective, LateProfile, BadWords, BadName, BadHex, NameUsedTwice, TooManyModules, UnknownModule, RetiredTwice, BadFuel, BadRequest, RequestTooLong, BadArgument, TooManyCalls}
use Rattle.request_text.specs.declared.request.ParseFault.{ParseFault}
use Rattle.request_text.specs.declared.request.ParseFault.TheVariants.{TextFault, TooLong, NoMemory}
use Rattle.request_text.specs.Ladder.{◌>>=◌, demand}
use Rattle.request_words.specs.Words.{arguments_of, fuel_of, hex_bytes, is_comment, is_empty, is_printable, line_words, place_of, text_lines}
use Rattle.request_text.specs.Profiles.{has_tenants, modules_profile, profile_of, retires, sends}
use Rattle.request_text.specs.Tenants.{Tenants, for_after, no_tenants, tenant_after}

-- ---- directives: the lines that are answered by a line of the report

-- what the lines before have declared: the names of their modules, the places of those that are retired, in the order of the retire
-- lines, how many calls, and the tenants
pub record Declared : Type 0 where
  pub names : List (List ℕ)
  pub retired : List ℕ
  pub calls : ℕ
  pub tenants : Tenants

-- the module at this place is among those that are retired
abbrev pub is_retired : (retired : List ℕ) → (place : ℕ) → Bool
is_retired retired place = list_any (λ other. place == other) retired

-- what the words after `module` ask for
unfoldable pub module_directive_of : Declared → List (List ℕ) → Result Directive Reason
module_directive_of before (name ∷ digits ∷ []) = do
  _ ← demand (nat_le (length name) 64) BadName
  bytes ← ok_or (hex_bytes digits) BadHex
  _ ← demand (is_none (place_of before.names name)) NameUsedTwice
  _ ← demand (nat_lt (length before.names) 1048576) TooManyModules
  Ok (Module name bytes)
module_directive_of before words = Err BadWords

-- the bytes of a request: `-` is none of them
unfoldable pub request_of : List ℕ → Result (List ℕ) Reason
request_of word = if bytes_eq word (codes "-") then Ok [] else do
  bytes ← ok_or (hex_bytes word) BadRequest
  _ ← demand (nat_le (length bytes) 65536) RequestTooLong
  Ok bytes

-- a call of the module at this place, which may be retired, with the arguments that the words are, by the tenant whose calls follow
unfoldable pub call_of : Declared → (place : ℕ) (export : List ℕ) (fuel : ℕ) (request : Option (List ℕ)) → List (List ℕ) → Result Directive Reason
call_of before place export fuel request words = do
  args ← ok_or (arguments_of words) BadArgument
  _ ← demand (nat_lt before.calls 1000000) TooManyCalls
  Ok (Call before.tenants.current place (is_retired before.retired place) (record { export = export; fuel = fuel; request = request; shows = is_some request; args = args }))

-- what the words after `call` ask for
unfoldable pub call_directive_of : Declared → List (List ℕ) → Result Directive Reason
call_directive_of before (name ∷ export ∷ fuel_word ∷ words) = do
  place ← ok_or (place_of before.names name) UnknownModule
  fuel ← ok_or (fuel_of fuel_word) BadFuel
  call_of before place export fuel None words
call_directive_of before words = Err BadWords

-- what the words after `send` ask for
unfoldable pub send_directive_of : Declared → List (List ℕ) → Result Directive Reason
send_directive_of before (name ∷ export ∷ fuel_word ∷ digits ∷ words) = do
  place ← ok_or (place_of before.names name) UnknownModule
  fuel ← ok_or (fuel_of fuel_word) BadFuel
  request ← request_of digits
  call_of before place export fuel (Some request) words
send_directive_of before words = Err BadWords

-- what the words after `retire` ask for
unfoldable pub retire_directive_of : Declared → List (List ℕ) → Result Directive Reason
retire_directive_of before (name ∷ []) = do
  place ← ok_or (place_of before.names name) UnknownModule
  _ ← demand (not (is_retired before.retired place)) RetiredTwice
  Ok (Retire place name)
retire_directive_of before words = Err BadWords

-- what a line asks for whose first word is this one, with these behind it
unfoldable pub directive_of : FileProfile → Declared → (word : List ℕ) (words : List (List ℕ)) → Result Directive Reason
directive_of profile before word words =
    if bytes_eq word (codes "module") then module_directive_of before words
    else if bytes_eq word (codes "call") then call_directive_of before words
    else if sends profile && bytes_eq word (codes "send") then send_directive_of before words
    else if retires profile && bytes_eq word (codes "retire") then retire_directive_of before words
    else Err UnknownDirective

-- ---- the directives of a file

-- the name of a module line
abbrev pub module_name : Directive → Option (List ℕ)
module_name (Module name bytes) = Some name
module_name directive = None

abbrev pub module_names : List Directive → List (List ℕ)
module_names directives = filter_map module_name directives

-- the bytes of a module line
abbrev pub module_bytes : Directive → Option (List ℕ)
module_bytes (Module name bytes) = Some bytes
module_bytes directive = None

-- the modules of a request file, in the order of their lines
abbrev pub modules_of : List Directive → List (List ℕ)
modules_of directives = filter_map module_bytes directives

abbrev pub is_call : Directive → Bool
is_call (Call tenant place retired invocation) = true
is_call directive = false

abbrev pub call_count : List Directive → ℕ
call_count directives = count_by is_call directives

-- the place of the module of a retire line
abbrev pub retired_place : Directive → Option ℕ
retired_place (Retire place name) = Some place
retired_place directive = None

-- the places of the modules that are retired, in the order of the retire lines
abbrev pub retired_places : List Directive → List ℕ
retired_places directives = filter_map retired_place directives

-- the module of each call and of each retire line is among the module lines before it, of which so many stand before these directives
abbrev pub IsPlacedFrom : ℕ → List Directive → Type 0
IsPlacedFrom modules [] = Unit {0}
IsPlacedFrom modules (Module name bytes ∷ rest) = IsPlacedFrom (modules + 1) rest
IsPlacedFrom modules (Call tenant place retired invocation ∷ rest) = (place < modules) × IsPlacedFrom modules rest
IsPlacedFrom modules (Retire place name ∷ rest) = (place < modules) × IsPlacedFrom modules rest

-- the name on a retire line is that of the module at its place, among these names of modules
abbrev pub IsNamed : (names : List (List ℕ)) → Directive → Type 0
IsNamed names (Module name bytes) = Unit {0}
IsNamed names (Call tenant place retired invocation) = Unit {0}
IsNamed names (Retire place name) = slice_get names place ≡ Some name

-- each call is flagged exactly where a retire line before it names its module, with the modules at these places retired before
abbrev pub AreFlagged : (retired : List ℕ) → List Directive → Type 0
AreFlagged retired [] = Unit {0}
AreFlagged retired (Module name bytes ∷ rest) = AreFlagged retired rest
AreFlagged retired (Call tenant place flag invocation ∷ rest) = ((flag ≡ true) ↔ Contains retired place) × AreFlagged retired rest
AreFlagged retired (Retire place name ∷ rest) = AreFlagged (place ∷ retired) rest

-- a call is tenant 0's, or that of one of so many others
abbrev pub IsOfTenant : ℕ → Directive → Type 0
IsOfTenant tenants (Module name bytes) = Unit {0}
IsOfTenant tenants (Call tenant place retired invocation) = tenant ≤ tenants
IsOfTenant tenants (Retire place name) = Unit {0}

-- what holds of the wants and the directives of each file that is read
pub record AreRequests (wants : List Want) (directives : List Directive) : Type 0 where
  pub placed : IsPlacedFrom 0 directives
  pub named : All (IsNamed (module_names directives)) directives
  pub retired_once : IsDistinct (λ place other. place == other) (retired_places directives)
  pub flagged : AreFlagged [] directives
  pub by_tenants : All (IsOfTenant (length wants)) directives
  pub few_modules : length (module_names directives) ≤ 1048576
  pub few_calls : call_count directives ≤ 1000000
  pub few_tenants : length wants ≤ 15

-- where the calls of a file may be made in slices no tenant wants a share, and no module is retired
pub record MayRunInSlices (wants : List Want) (directives : List Directive) : Type 0 where
  pub no_tenants : wants ≡ []
  pub none_retired : retired_places directives ≡ []

-- what holds of each file that is read in this profile: its calls are made whole, or they may be made in slices
pub record IsFile (profile : FileProfile) (wants : List Want) (directives : List Directive) : Type 0 where
  pub lawful : AreRequests wants directives
  pub slices : has_tenants profile ≡ false → MayRunInSlices wants directives

-- ---- the lines in turn

-- what the lines so far ask for: the profile, if one of them names it, tenants and directives
pub record ReadLines : Type 0 where
  pub profile : Option FileProfile
  pub tenants : Tenants
  pub directives : List Directive

abbrev pub nothing_read : ReadLines
nothing_read = record { profile = None; tenants = no_tenants; directives = [] }

-- what they declare
abbrev pub declared_by : ReadLines → Declared
declared_by before =
    record { names = module_names before.directives; retired = retired_places before.directives; calls = call_count before.directives; tenants = before.tenants }

-- they declare this, and what holds of each file that is read holds of them
abbrev pub HaveDeclared : ReadLines → Declared → Type 0
HaveDeclared before scope = (scope ≡ declared_by before) × AreRequests before.tenants.wants before.directives

-- what is declared once this directive is read too
abbrev pub declared_after : Declared → Directive → Declared
declared_after before (Module name bytes) = record before { names = before.names ++ name ∷ [] }
declared_after before (Call tenant place retired invocation) = record before { calls = before.calls + 1 }
declared_after before (Retire place name) = record before { retired = before.retired ++ place ∷ [] }

abbrev pub with_directive : ReadLines → Directive → ReadLines
with_directive before directive = record before { directives = before.directives ++ directive ∷ [] }

-- what is asked for with these tenants, or the reason for which there are none
abbrev pub with_tenants : ReadLines → Result Tenants Reason → Result ReadLines Reason
with_tenants before asked = (asked >>= λ tenants. Ok (record before { tenants = tenants }))

-- the profile of the lines that follow: where none names one it is 1
abbrev pub profile_in : ReadLines → FileProfile
profile_in before = unwrap_or before.profile One

-- what is asked for once the words after `profile` are read, which come too late where a line before asks for something
unfoldable pub profile_after : ReadLines → List (List ℕ) → Result ReadLines Reason
profile_after before words = do
  _ ← demand (is_none before.profile && is_empty before.directives) LateProfile
  profile ← profile_of words
  Ok (record before { profile = Some profile })

-- what is asked for once a line of these words is read
unfoldable pub words_after : Numbers → ReadLines → List (List ℕ) → Result ReadLines Reason
words_after numbers before [] = Ok before
words_after numbers before (word ∷ words) =
    if bytes_eq word (codes "profile") then profile_after before words
    else if has_tenants (profile_in before) && bytes_eq word (codes "tenant") then with_tenants before (tenant_after numbers before.tenants words)
    else if has_tenants (profile_in before) && bytes_eq word (codes "for") then with_tenants before (for_after before.tenants words)
    else (directive_of (profile_in before) (declared_by before) word words >>= λ directive. Ok (with_directive before directive))

-- what is asked for once a line is read
unfoldable pub requests_after : Numbers → ReadLines → List ℕ → Result ReadLines Reason
requests_after numbers before line = if is_comment line then Ok before else do
  _ ← demand (list_all is_printable line) BadByte
  words_after numbers before (line_words line)

-- ---- the file

-- Why a file is refused: it is too long, or its first bad line, counted from 1, is refused for this reason.
pub data FileRefusal : Type 0 where
  FileTooLong : FileRefusal
  BadLine : (line : ℕ) (reason : Reason) → FileRefusal

-- the refusal that an answer of the parser reports; want of memory is none
abbrev pub file_refusal_of : ParseFault → Option FileRefusal
file_refusal_of (TextFault line reason) = Some (BadLine line reason)
file_refusal_of TooLong = Some FileTooLong
file_refusal_of NoMemory = None

-- what a line gave, or its refusal by its number
abbrev pub at_line : {A : Type 0} → ℕ → Result A Reason → Result A FileRefusal
at_line line (Ok x) = Ok x
at_line line (Err reason) = Err (BadLine line reason)

-- what was asked for before and by the further lines, the first of which has this number
abbrev pub requests_from : Numbers → (first : ℕ) → ReadLines → List (List ℕ) → Result ReadLines FileRefusal
requests_from numbers first before [] = Ok before
requests_from numbers first before (line ∷ lines) = do
  read ← at_line first (requests_after numbers before line)
  requests_from numbers (first + 1) read lines

-- What a request file asks for: the profile of its modules, whether each call is made whole, what tenants 1, 2, .. want, and its
-- directives in file order.
pub record Asked : Type 0 where
  pub profile : Profile
  pub whole : Bool
  pub wants : List Want
  pub directives : List Directive

-- what lines ask for that are all of a file
abbrev pub asked_by : ReadLines → Asked
asked_by read =
    record { profile = modules_profile (profile_in read); whole = has_tenants (profile_in read); wants = read.tenants.wants; directives = read.directives }

-- what a request file of these bytes asks for where the pools have these numbers, or why it is refused
unfoldable pub requests_of : Numbers → List ℕ → Result Asked FileRefusal
requests_of numbers text =
    if nat_lt 67108864 (length text) then Err FileTooLong
    else (requests_from numbers 1 nothing_read (text_lines text) >>= λ read. Ok (asked_by read))
