-- How the reader's answers agree with the definition of the request text.
use Rattle.std.specs.Global.{Global}
use Rattle.std.specs.Prelude.{None, Some, Vec, ◌≡◌, ◌<◌, ◌≤◌, ℕ, Bool, false, List, length, Result, Ok, Err, IfSome, MatchResult, ⊤}
use Rattle.std.specs.List.{All, slice_get}
use Rattle.request_text.specs.declared.request.Directive.{Directive}
use Rattle.request_text.specs.declared.request.Directive.TheVariants.{Module, Call, Retire}
use Rattle.request_text.specs.declared.request.Reason.{Reason}
use Rattle.request_text.specs.declared.fault.LineFault.{LineFault}
use Rattle.request_text.specs.declared.request.ParseFault.{ParseFault}
use Rattle.request_text.specs.declared.request.ParseFault.TheVariants.{TextFault, TooLong, NoMemory}
use Rattle.request_text.specs.declared.fault.LineFault.TheVariants as judged
use Rattle.pool_limits.specs.Plans.{HasSlots}
use Rattle.request_words.specs.Words.{place_of}
use Rattle.request_text.specs.Tenants.{Tenants}
use Rattle.request_text.specs.Text.{BadLine, Declared, FileRefusal, is_retired}
use Rattle.std.specs.BTreeMap.{BTreeMap, get_by}
use Rattle.std.specs.BTreeSet.{BTreeSet, contains}
use Rattle.std.specs.Cmp.Lexicographic.{slice_cmp}
use Rattle.std.specs.Ordering.{nat_cmp}

-- a refusal is the definition's; want of memory says nothing
abbrev pub Explains : {A : Type 0} → LineFault → Result A Reason → Type 0
Explains (judged.Refused reason) meaning = meaning ≡ Err reason
Explains judged.NoMemory meaning = ⊤

-- an answer is the definition's, but for want of memory
abbrev pub Agrees : {A : Type 0} → Result A LineFault → Result A Reason → Type 0
Agrees result meaning = MatchResult result (λ x. meaning ≡ Ok x) (λ fault. Explains fault meaning)

-- what a line leaves is the definition's, where it is read; a refusal is the definition's too, but for want of memory
abbrev pub Leaves : {T A : Type 0} → Result T LineFault → (left : A) → Result A Reason → Type 0
Leaves result left meaning = MatchResult result (λ _. meaning ≡ Ok left) (λ fault. Explains fault meaning)

-- the parser's fault for that of the line with this number
abbrev pub fault_at : ℕ → LineFault → ParseFault
fault_at line (judged.Refused reason) = TextFault line reason
fault_at line judged.NoMemory = NoMemory

-- the parser's answer for lines is the definition's, but for want of memory
abbrev pub Reports : {A : Type 0} → ParseFault → Result A FileRefusal → Type 0
Reports (TextFault line reason) meaning = meaning ≡ Err (BadLine line reason)
Reports TooLong meaning = ⊥
Reports NoMemory meaning = ⊤

-- the map has the place of each name, and no other name
abbrev pub ArePlaces : BTreeMap (Vec ℕ Global) ℕ → List (List ℕ) → Type 0
ArePlaces places names = (name : List ℕ) → get_by (λ key. slice_cmp nat_cmp name key.items) places ≡ place_of names name

-- the module at this place is found there by its name; behind the last place there is none
abbrev pub IsOwnPlace : (names : List (List ℕ)) → (place : ℕ) → Type 0
IsOwnPlace names place = IfSome (slice_get names place) (λ name. place_of names name ≡ Some place)

-- the map has the places of the names, and the place that was named last is its name's own
pub record AreFound (places : BTreeMap (Vec ℕ Global) ℕ) (recent : ℕ) (names : List (List ℕ)) : Type 0 where
  pub by_name : ArePlaces places names
  pub at_once : IsOwnPlace names recent

-- Each tenant has a name and a share, few share, and the calls that follow are those of tenant 0 or of one of them.
pub record AreTenants (tenants : Tenants) : Type 0 where
  pub named : length tenants.names ≡ length tenants.wants
  pub few : length tenants.wants ≤ 15
  pub each : All HasSlots tenants.wants
  pub current : tenants.current ≤ length tenants.wants

-- the set has the places of the modules that are retired, and no other place
abbrev pub AreRetired : BTreeSet ℕ → (retired : List ℕ) → Type 0
AreRetired places retired = (place : ℕ) → contains nat_cmp places place ≡ is_retired retired place

-- one more call keeps within their number, is of one of the modules, flagged where it is retired, and by one of the tenants
pub record TakesCall (before : Declared) (tenant place : ℕ) (retired : Bool) : Type 0 where
  pub few : before.calls < 1000000
  pub placed : place < length before.names
  pub own : IsOwnPlace before.names place
  pub flagged : retired ≡ is_retired before.retired place
  pub by_tenant : tenant ≤ length before.tenants.wants

-- a retire line is of one of the modules, by its name, which no line before retired
pub record TakesRetirement (before : Declared) (place : ℕ) (name : List ℕ) : Type 0 where
  pub placed : place_of before.names name ≡ Some place
  pub first : is_retired before.retired place ≡ false

-- one more directive keeps within the numbers of modules and calls; a module's name is new, and a module is retired once
abbrev pub HasRoom : Declared → Directive → Type 0
HasRoom before (Module name bytes) = (length before.names < 1048576) × (place_of before.names name ≡ None)
HasRoom before (Call tenant place retired invocation) = TakesCall before tenant place retired
HasRoom before (Retire place name) = TakesRetirement before place name

-- what is declared with these tenants, or the reason for which there are none
abbrev pub declared_with : Declared → Result Tenants Reason → Result Declared Reason
declared_with before (Ok tenants) = Ok (record before { tenants = tenants })
declared_with before (Err reason) = Err reason
